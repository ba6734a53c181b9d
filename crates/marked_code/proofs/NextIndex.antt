-- An operand that is read relative to the next instruction has no index.
use Rattle.std.proofs.Common.{◌≡◌, ℕ, Bool, true, false, List, length, take, Option, Some, None, refl, sym, ap, subst}
use Rattle.std.proofs.Common.{◌∙◌}
use Rattle.std.specs.Prelude.{◌/◌, ◌%◌, ◌==◌, ◌&&◌, if◌then◌else◌}
use Rattle.amd64_words.specs.declared.register.Register.{Register}
use Rattle.amd64_words.specs.declared.size.Size.{Size}
use Rattle.amd64_words.specs.declared.size.Size.TheVariants as size
use Rattle.amd64_subset.specs.declared.instr.Arithmetic.TheVariants.{Add, Or, And, Sub, Xor, Compare}
use Rattle.amd64_subset.specs.declared.instr.Arithmetic.{Arithmetic}
use Rattle.amd64_subset.specs.declared.instr.Decoded.{Decoded}
use Rattle.amd64_subset.specs.declared.instr.Operation.{Operation}
use Rattle.amd64_subset.specs.declared.instr.Operation.TheVariants as operation
use Rattle.amd64_subset.specs.declared.instr.Width.{Width}
use Rattle.amd64_subset.specs.declared.instr.Width.TheVariants.{Long, Quad}
use Rattle.amd64_subset.specs.declared.meaning.Body.{Body}
use Rattle.amd64_subset.specs.declared.operand.Base.TheVariants as base
use Rattle.amd64_subset.specs.declared.operand.Memory.{Memory}
use Rattle.amd64_subset.specs.declared.operand.Operand.{Operand}
use Rattle.amd64_subset.specs.declared.operand.Operand.TheVariants.{InMemory, Register as InRegister}
use Rattle.amd64_subset.specs.declared.operand.Operands.TheVariants.{IntoRegister, Immediate}
use Rattle.amd64_subset.specs.declared.prefix.Prefixes.{Prefixes}
use Rattle.amd64_subset.specs.declared.row.Action.{Action}
use Rattle.amd64_subset.specs.declared.row.Action.TheVariants.{StoreByte, Store, Load, MoveImmediate, ExtendByte}
use Rattle.amd64_subset.specs.declared.row.Action.TheVariants.{ExtendLong, LoadAddress, ComputeInto, ComputeFrom}
use Rattle.amd64_subset.specs.declared.row.Action.TheVariants.{ComputeImmediate, TestWith, MultiplyBy, ShiftBy}
use Rattle.amd64_subset.specs.declared.row.Action.TheVariants.{ShiftOnce, CallTarget, JumpTarget, Padding}
use Rattle.amd64_subset.specs.declared.row.Numbered.{Numbered}
use Rattle.amd64_subset.specs.declared.row.Numbered.TheVariants as numbered
use Rattle.amd64_subset.specs.declared.row.Row.{Row}
use Rattle.amd64_subset.specs.declared.row.Row.TheVariants as row
use Rattle.amd64_subset.specs.Decoding.{before, decoded}
use Rattle.amd64_subset.specs.declared.numbers.Numbers.{Numbers}
use Rattle.amd64_subset.specs.Meaning.{alone_body, does, into_operand, operation_of, operand_body, numbered_body}
use Rattle.amd64_subset.specs.Register.{extended}
use Rattle.amd64_subset.specs.Prefix.{bits_of}
use Rattle.amd64_subset.specs.Selectors.{memory_in, operand_in as selected_operand}
use Rattle.amd64_subset.specs.Spelling.{prefixes_of, IsOperated, HasBody}
use Rattle.amd64_subset.proofs.Whole.{decoded_found}
use Rattle.whole_meaning.specs.Fields.{is_from_next, operand_in, read_in}

-- ** without SIB no index, with SIB not the next instruction

not_next : (b : Bool) (r : Register) → is_from_next (if b then base.Absolute else base.Register r) ≡ true → ⊥
not_next true r e = absurd cc
not_next false r e = absurd cc

no-index : (prefixes : Prefixes) (modrm : ℕ) (sib : Option ℕ)
    → is_from_next (memory_in prefixes (record { modrm = modrm; sib = sib })).base ≡ true
    → (memory_in prefixes (record { modrm = modrm; sib = sib })).index ≡ None
unfolding memory_in
no-index prefixes modrm None e = refl
no-index prefixes modrm (Some sib) e =
    absurd (not_next ((modrm / 64 == 0) && (sib % 8 == 5)) (extended (sib % 8) (bits_of prefixes).base) e)

-- ** what an action reads is its operand

only-read : (action : Action) (width : Width) (r : Register) (rm : Operand) (m memory : Memory) (count : ℕ)
    → ((x : Memory) → operand_in rm ≡ Some x → x ≡ m) → read_in (does action width r rm m count) ≡ Some memory
    → memory ≡ m
unfolding read_in
only-read StoreByte width r rm m memory count h e = absurd cc
only-read Store Long r (InRegister to) m memory count h e = absurd cc
only-read Store Long r (InMemory to) m memory count h e = absurd cc
only-read Store Quad r (InRegister to) m memory count h e = absurd cc
only-read Store Quad r (InMemory to) m memory count h e = absurd cc
only-read Load Long r rm m memory count h e = absurd cc
only-read Load Quad r rm m memory count h e = h memory e
only-read MoveImmediate Long r rm m memory count h e = absurd cc
only-read MoveImmediate Quad r rm m memory count h e = absurd cc
only-read ExtendByte width r rm m memory count h e = absurd cc
only-read ExtendLong width r rm m memory count h e = absurd cc
only-read LoadAddress width r rm m memory count h e = absurd cc
only-read (ComputeInto kind) width r (InRegister to) m memory count h e = into_register kind width e
  where
    into_register : (kind : Arithmetic) (width : Width)
        → read_in (operation.Compute kind width (into_operand (InRegister to) r)) ≡ Some memory → memory ≡ m
    into_register Add Long e = absurd cc
    into_register Add Quad e = absurd cc
    into_register Or Long e = absurd cc
    into_register Or Quad e = absurd cc
    into_register And Long e = absurd cc
    into_register And Quad e = absurd cc
    into_register Sub Long e = absurd cc
    into_register Sub Quad e = absurd cc
    into_register Xor Long e = absurd cc
    into_register Xor Quad e = absurd cc
    into_register Compare Long e = absurd cc
    into_register Compare Quad e = absurd cc
only-read (ComputeInto kind) width r (InMemory to) m memory count h e = into_memory kind width e
  where
    into_memory : (kind : Arithmetic) (width : Width)
        → read_in (operation.Compute kind width (into_operand (InMemory to) r)) ≡ Some memory → memory ≡ m
    into_memory Add Long e = absurd cc
    into_memory Add Quad e = absurd cc
    into_memory Or Long e = absurd cc
    into_memory Or Quad e = absurd cc
    into_memory And Long e = absurd cc
    into_memory And Quad e = absurd cc
    into_memory Sub Long e = absurd cc
    into_memory Sub Quad e = absurd cc
    into_memory Xor Long e = absurd cc
    into_memory Xor Quad e = absurd cc
    into_memory Compare Long e = absurd cc
    into_memory Compare Quad e = h memory e
only-read (ComputeFrom kind) width r rm m memory count h e = from_operand kind width e
  where
    from_operand : (kind : Arithmetic) (width : Width)
        → read_in (operation.Compute kind width (IntoRegister r rm)) ≡ Some memory → memory ≡ m
    from_operand Add Long e = absurd cc
    from_operand Or Long e = absurd cc
    from_operand And Long e = absurd cc
    from_operand Sub Long e = absurd cc
    from_operand Xor Long e = absurd cc
    from_operand Compare Long e = absurd cc
    from_operand kind Quad e = h memory e
only-read (ComputeImmediate kind) width r rm m memory count h e = with_number kind width e
  where
    with_number : (kind : Arithmetic) (width : Width)
        → read_in (operation.Compute kind width (Immediate rm)) ≡ Some memory
        → memory ≡ m
    with_number Add Long e = absurd cc
    with_number Add Quad e = absurd cc
    with_number Or Long e = absurd cc
    with_number Or Quad e = absurd cc
    with_number And Long e = absurd cc
    with_number And Quad e = absurd cc
    with_number Sub Long e = absurd cc
    with_number Sub Quad e = absurd cc
    with_number Xor Long e = absurd cc
    with_number Xor Quad e = absurd cc
    with_number Compare Long e = absurd cc
    with_number Compare Quad e = h memory e
only-read TestWith Long r rm m memory count h e = absurd cc
only-read TestWith Quad r rm m memory count h e = h memory e
only-read MultiplyBy Long r rm m memory count h e = absurd cc
only-read MultiplyBy Quad r rm m memory count h e = h memory e
only-read (ShiftBy kind) width r rm m memory count h e = absurd cc
only-read (ShiftOnce kind) width r rm m memory count h e = absurd cc
only-read CallTarget width r rm m memory count h e = h memory e
only-read JumpTarget width r rm m memory count h e = h memory e
only-read Padding width r rm m memory count h e = absurd cc

either : (b : Bool) (r : Register) (m x : Memory) → operand_in (if b then InRegister r else InMemory m) ≡ Some x → x ≡ m
either true r m x e = absurd cc
either false r m x e = cc

operated-read : (action : Action) (prefixes : Prefixes) (modrm : ℕ) (sib : Option ℕ) (count : ℕ) (memory : Memory)
    → read_in (operation_of action prefixes (record { modrm = modrm; sib = sib }) count) ≡ Some memory
    → memory ≡ memory_in prefixes (record { modrm = modrm; sib = sib })
unfolding operation_of
operated-read action prefixes modrm sib count memory e =
    only-read action _ _ (selected_operand prefixes (record { modrm = modrm; sib = sib }))
    (memory_in prefixes (record { modrm = modrm; sib = sib })) memory count
    (λ x f. either (modrm / 64 == 3) (extended (modrm % 8) (bits_of prefixes).base)
    (memory_in prefixes (record { modrm = modrm; sib = sib })) x f) e

-- ** of a body that has a displacement

abbrev HasNoIndex : Body → Type 0
HasNoIndex body = (back : ℕ) (memory : Memory) → body.disp ≡ Some back → read_in body.instr.operation ≡ Some memory
    → is_from_next memory.base ≡ true → memory.index ≡ None

operated-is : (action : Action) (prefixes : Prefixes) (modrm : ℕ) (sib : Option ℕ) (sz : Size) (numbers : Numbers)
    → HasNoIndex (operand_body action prefixes (record { modrm = modrm; sib = sib }) sz numbers)
unfolding operand_body
operated-is action prefixes modrm sib sz numbers back memory d e f =
    let is : memory ≡ memory_in prefixes (record { modrm = modrm; sib = sib }) =
    operated-read action prefixes modrm sib (numbers.immediate % 256) memory e in
    rw is (no-index prefixes modrm sib (subst (λ (x : Memory). is_from_next x.base ≡ true) is f))

operated-index : (prefixes : Prefixes) (r : Row) (sz : Size) (bytes : List ℕ) (body : Body)
    → IsOperated prefixes r sz bytes body → HasNoIndex body
operated-index prefixes r sz bytes body h =
    subst HasNoIndex (sym h.body-is) (operated-is h.action prefixes h.modrm h.sib sz _)

numbered-is : (action : Numbered) (width : Width) (sz : Size) (number : ℕ)
    → HasNoIndex (numbered_body action width sz number)
unfolding numbered_body
numbered-is numbered.Call width sz number back memory d e f = absurd cc
numbered-is numbered.Jump width sz number back memory d e f = absurd cc
numbered-is (numbered.JumpIf c) width sz number back memory d e f = absurd cc
numbered-is (numbered.Move r) width sz number back memory d e f = absurd cc
numbered-is (numbered.Compute a) width sz number back memory d e f = absurd cc

alone-is : (op : Operation) → HasNoIndex (alone_body op)
alone-is op back memory d e f = absurd cc

body-index : (prefixes : Prefixes) (r : Row) (bytes : List ℕ) (body : Body) → HasBody prefixes r bytes body
    → HasNoIndex body
body-index prefixes (row.Alone op) bytes body h = subst HasNoIndex (sym h.1) (alone-is op)
body-index prefixes row.Nop bytes body h = subst HasNoIndex (sym h.1) (alone-is (operation.Nop None))
body-index prefixes row.EndBranch bytes body h = subst HasNoIndex (sym h.1) (alone-is (operation.Nop None))
body-index prefixes (row.Number action sz) bytes body h = subst HasNoIndex (sym h.1) (numbered-is action _ sz _)
body-index prefixes (row.Register action) bytes body h =
    operated-index prefixes (row.Register action) size.Zero bytes body h
body-index prefixes (row.Group group sz) bytes body h = operated-index prefixes (row.Group group sz) sz bytes body h

had : (len : ℕ) (o : Option ℕ) (k : ℕ) → before len o ≡ Some k → (back : ℕ) × (o ≡ Some back)
had len None k e = absurd cc
had len (Some back) k e = (back, refl)

-- the law: an operand with a displacement of four bytes that is relative to the next instruction has no index
pub next_has_no_index : (bytes : List ℕ) (d : Decoded) (k : ℕ) (memory : Memory) → decoded bytes ≡ Some d
    → d.disp ≡ Some k
    → read_in d.instr.operation ≡ Some memory → is_from_next memory.base ≡ true → memory.index ≡ None
next_has_no_index bytes d k memory e at read from =
    let spells = (decoded_found bytes d e).spells in
    let p = spells.parts in
    let back = had (length (take d.len bytes)) spells.body.disp k
    (ap (λ (x : Decoded). x.disp) (sym spells.decoded-is) ∙ at) in
    body-index (prefixes_of p.marks p.rex) p.row p.rest spells.body p.has_body back.0 memory back.1
    (ap (λ (x : Decoded). read_in x.instr.operation) (sym spells.decoded-is) ∙ read) from
