-- What is spelled by bytes is spellable, row by row.
use Rattle.std.proofs.Common.{◌≡◌, ℕ, zero, suc, ◌+◌, ◌/◌, ◌%◌, ◌^◌, ◌<◌, ◌≤◌, Bool, true, false, cond, eqb, ltb, List}
use Rattle.std.proofs.Common.{[], ◌∷◌, ◌++◌, length, Option, Some, None, refl, sym, ap, subst, ◌∙◌, arith}
use Rattle.std.proofs.Common.{inl, inr}
use Rattle.std.specs.Prelude.{not, ◌&&◌, ◌||◌, slice_index}
use Rattle.std.specs.Option.{option_to_list}
use Rattle.std.proofs.lemmas.Bool.{eqb-true, ltb-true, ltb-false, and_parts}
use Rattle.amd64_words.specs.declared.register.Register.{Register}
use Rattle.amd64_words.specs.declared.register.Register.TheVariants.{Rsp}
use Rattle.amd64_subset.specs.declared.operand.Operand.{Operand}
use Rattle.amd64_subset.specs.declared.operand.Operand.TheVariants as operand
use Rattle.amd64_subset.specs.declared.operand.Operands.TheVariants.{Immediate}
use Rattle.amd64_subset.specs.declared.instr.Width.{Width}
use Rattle.amd64_subset.specs.declared.instr.Width.TheVariants.{Long, Quad}
use Rattle.amd64_subset.specs.declared.instr.Arithmetic.{Arithmetic}
use Rattle.amd64_subset.specs.declared.instr.Operation.{Operation}
use Rattle.amd64_subset.specs.declared.instr.Operation.TheVariants as operation
use Rattle.amd64_subset.specs.declared.instr.Instr.{Instr}
use Rattle.amd64_subset.specs.declared.prefix.Rex.{Rex}
use Rattle.amd64_subset.specs.declared.prefix.Prefixes.{Prefixes}
use Rattle.amd64_words.specs.declared.size.Size.{Size}
use Rattle.amd64_words.specs.declared.size.Size.TheVariants as size
use Rattle.amd64_subset.specs.declared.row.Row.{Row}
use Rattle.amd64_subset.specs.declared.row.Row.TheVariants as row
use Rattle.amd64_subset.specs.declared.row.Numbered.{Numbered}
use Rattle.amd64_subset.specs.declared.row.Numbered.TheVariants as numbered
use Rattle.amd64_subset.specs.declared.row.Group.{Group}
use Rattle.amd64_subset.specs.declared.row.Group.TheVariants as group
use Rattle.amd64_subset.specs.declared.row.Action.{Action}
use Rattle.amd64_subset.specs.declared.row.Action.TheVariants as action
use Rattle.amd64_subset.specs.declared.selectors.Selectors.{Selectors}
use Rattle.amd64_subset.specs.Number.{count_of, signed_of, signed_byte_of, signed_long_of}
use Rattle.amd64_subset.specs.Register.{number_of, extended}
use Rattle.amd64_subset.specs.Prefix.{bits_of}
use Rattle.amd64_subset.specs.Meaning.{width_of, into_operand, operation_of, operand_body, numbered_body}
use Rattle.amd64_subset.specs.declared.meaning.Body.{Body}
use Rattle.std.specs.Int.{w32, w64, from_le_bytes}
use Rattle.amd64_subset.specs.declared.instr.Decoded.{Decoded}
use Rattle.amd64_subset.specs.Row.{takes, group_action}
use Rattle.amd64_subset.specs.Meaning.{takes_immediate}
use Rattle.amd64_subset.specs.Decoding.{decoded}
use Rattle.amd64_subset.specs.Spelling.{prefixes_of, IsOperated, HasBody, Spells}
use Rattle.amd64_subset.proofs.Steps.{chosen}
use Rattle.amd64_encoder.proofs.Listed.{listed, reaches}
use Rattle.std.specs.List.{list_all}
use Rattle.std.specs.Prelude.{IfSome}
use Rattle.std.proofs.Common.{get_or}
use Rattle.amd64_subset.specs.declared.operand.Base.TheVariants as base
use Rattle.amd64_subset.specs.Selectors.{displacement_size, allowed, memory_in, operand_in, register_in, index_of}
use Rattle.amd64_subset.specs.Selectors.{scale_of}
use Rattle.amd64_encoder.specs.Canonical.{IsSignedLong, IsIndex, IsAddress, IsMemory, IsOperand, IsNamed, IsOperation}
use Rattle.amd64_encoder.specs.Canonical.{IsSpellable}
use Rattle.amd64_encoder.proofs.Digits.{extended-number}
use Rattle.amd64_encoder.proofs.Costs.{fs_is}
use Rattle.amd64_encoder.proofs.Operated.{size_few}
use Rattle.amd64_encoder.proofs.Shortest.{no_register, in_memory}
use Rattle.std.proofs.Common.{take, drop}
use Rattle.std.proofs.lemmas.List.{take-append-drop}
use Rattle.amd64_encoder.proofs.Digits.{long-lt}
use Rattle.amd64_subset.proofs.Whole.{decoded_found}
use Rattle.amd64_encoder.proofs.Canon.{Listed, some_is, mapped_is, BodyIs, moved_body}

-- ---- bytes

abbrev pub small : List ℕ → Bool
small bytes = list_all (λ byte. ltb byte 256) bytes

pub small_from : (bytes : List ℕ) → ((i : ℕ) → get_or bytes i 0 < 256) → small bytes ≡ true
small_from [] h = refl
small_from (b ∷ bs) h =
    let first : ltb b 256 ≡ true = let t = h 0 in grind arith in
    rw (first) (small_from bs (λ i. h (suc i)))

small_parts : (a b : List ℕ) → small (a ++ b) ≡ true → (small a ≡ true) × (small b ≡ true)
small_parts [] b h = (refl, h)
small_parts (x ∷ a) b h =
    let p = and_parts (ltb x 256) (small (a ++ b)) h in
    let q = small_parts a b p.1 in
    (rw (p.0) q.0, q.1)

byte_is : (x : ℕ) → x < 256 → IsSignedLong (signed_byte_of x)
byte_is x lt = go (ltb x 0x80) refl
  where
    go : (b : Bool) → ltb x 0x80 ≡ b → IsSignedLong (cond b x (x + 0xffff_ffff_ffff_ff00))
    go true e = inl (let t = ltb-true x 0x80 e in omega arith)
    go false e = inr (let t = ltb-false x 0x80 e in (omega arith, omega arith))

long_is : (x : ℕ) → x < 2 ^ 32 → IsSignedLong (signed_long_of x)
long_is x lt = go (ltb x 0x8000_0000) refl
  where
    go : (b : Bool) → ltb x 0x8000_0000 ≡ b → IsSignedLong (cond b x (x + 0xffff_ffff_0000_0000))
    go true e = inl (let t = ltb-true x 0x8000_0000 e in omega arith)
    go false e = inr (let t = ltb-false x 0x8000_0000 e in (omega arith, omega arith))

one_byte : (bytes : List ℕ) → length bytes ≡ 1 → small bytes ≡ true → slice_index bytes 0 < 256
one_byte [] len h = absurd (omega arith)
one_byte (a ∷ more) len h = ltb-true a 256 (and_parts (ltb a 256) (small more) h).0

four_bytes : (bytes : List ℕ) → length bytes ≡ 4 → small bytes ≡ true → from_le_bytes w32 bytes < 2 ^ 32
four_bytes [] len h = absurd (omega arith)
four_bytes (a ∷ []) len h = absurd (omega arith)
four_bytes (a ∷ b ∷ []) len h = absurd (omega arith)
four_bytes (a ∷ b ∷ c ∷ []) len h = absurd (omega arith)
four_bytes (a ∷ b ∷ c ∷ d ∷ []) len h =
    let p = and_parts (ltb a 256) (small (b ∷ c ∷ d ∷ [])) h in
    let q = and_parts (ltb b 256) (small (c ∷ d ∷ [])) p.1 in
    let r = and_parts (ltb c 256) (small (d ∷ [])) q.1 in
    let s = and_parts (ltb d 256) true r.1 in
    let la = ltb-true a 256 p.0 in let lb = ltb-true b 256 q.0 in let lc = ltb-true c 256 r.0 in
    let ld = ltb-true d 256 s.0 in
    omega arith
four_bytes (a ∷ b ∷ c ∷ d ∷ e ∷ more) len h = absurd (omega arith)

small_bytes : (bytes : List ℕ) (i : ℕ) → small bytes ≡ true → get_or bytes i 0 < 256
small_bytes [] i h = omega arith
small_bytes (b ∷ bs) zero h = ltb-true b 256 (and_parts (ltb b 256) (small bs) h).0
small_bytes (b ∷ bs) (suc i) h = small_bytes bs i (and_parts (ltb b 256) (small bs) h).1

eight_bytes : (bytes : List ℕ) → small bytes ≡ true → from_le_bytes w64 bytes < 2 ^ 64
eight_bytes bytes h =
    let a = small_bytes bytes 0 h in let b = small_bytes bytes 1 h in let c = small_bytes bytes 2 h in
    let d = small_bytes bytes 3 h in
    let e = small_bytes bytes 4 h in let f = small_bytes bytes 5 h in let g = small_bytes bytes 6 h in
    let i = small_bytes bytes 7 h in
    omega arith

pub signed_is : (size : Size) (bytes : List ℕ) → count_of size ≤ 4 → length bytes ≡ count_of size → small bytes ≡ true
    → IsSignedLong (signed_of size bytes)
unfolding signed_of
signed_is size.Zero bytes few len h = inl (omega arith)
signed_is size.One bytes few len h = byte_is (slice_index bytes 0) (one_byte bytes len h)
signed_is size.Four bytes few len h = long_is (from_le_bytes w32 bytes) (four_bytes bytes len h)
signed_is size.Eight bytes few len h = absurd (omega arith)

eight_is : (bytes : List ℕ) → small bytes ≡ true → signed_of size.Eight bytes < 2 ^ 64
unfolding signed_of
eight_is bytes h = eight_bytes bytes h

-- ---- operands

index_is : (sib : ℕ) (high : Bool) → IfSome (index_of sib high) IsIndex
unfolding number_of
index_is sib high = go (eqb ((sib / 8) % 8) 4 && not high) refl
  where
    clash : (h : Bool) → (eqb ((sib / 8) % 8) 4 && not h) ≡ false → extended ((sib / 8) % 8) h ≡ Rsp → ⊥
    clash true e same = let n = extended-number ((sib / 8) % 8) true (omega arith) in
        let m : number_of (extended ((sib / 8) % 8) true) ≡ 4 = ap number_of same in omega arith
    clash false e same =
        let n = extended-number ((sib / 8) % 8) false (omega arith) in
        let m : number_of (extended ((sib / 8) % 8) false) ≡ 4 = ap number_of same in
        let k : (sib / 8) % 8 ≡ 4 = omega arith in
        let t : (eqb ((sib / 8) % 8) 4 && true) ≡ true = rw (k) refl in
        cc

    go : (b : Bool) → (eqb ((sib / 8) % 8) 4 && not high) ≡ b
        → IfSome (cond b None (Some
        (record { register = extended ((sib / 8) % 8) high; scale = scale_of (sib / 64) }))) IsIndex
    go true e = tt
    go false e = clash high e

address_is : (p : Prefixes) (modrm : ℕ) (sib : Option ℕ)
    → IsAddress (memory_in p (record { modrm = modrm; sib = sib })).base
    (memory_in p (record { modrm = modrm; sib = sib })).index
unfolding memory_in
address_is p modrm None = go (eqb (modrm / 64) 0 && eqb (modrm % 8) 5)
  where
    go : (b : Bool) → IsAddress
        (cond b base.NextInstruction (base.Register (extended (modrm % 8) (bits_of p).base))) None
    go true = refl
    go false = tt
address_is p modrm (Some sib) = go (eqb (modrm / 64) 0 && eqb (sib % 8) 5)
  where
    go : (b : Bool) → IsAddress (cond b base.Absolute (base.Register (extended (sib % 8) (bits_of p).base)))
        (index_of sib (bits_of p).index)
    go true = index_is sib (bits_of p).index
    go false = index_is sib (bits_of p).index

zero_there : (s : Selectors) (bytes : List ℕ) → s.modrm / 64 ≡ 3 → signed_of (displacement_size s) bytes ≡ 0
unfolding displacement_size signed_of
zero_there s bytes e = rw (e) refl

pub operand_is : (p : Prefixes) (s : Selectors) (bytes : List ℕ) → length bytes ≡ count_of (displacement_size s)
    → small bytes ≡ true
    → IsOperand (operand_in p s) (signed_of (displacement_size s) bytes)
operand_is p s bytes len h = go (eqb (s.modrm / 64) 3) refl
  where
    go : (b : Bool) → eqb (s.modrm / 64) 3 ≡ b
        → IsOperand (cond b (operand.Register (extended (s.modrm % 8) (bits_of p).base))
        (operand.InMemory (memory_in p s))) (signed_of (displacement_size s) bytes)
    go true e = zero_there s bytes (eqb-true (s.modrm / 64) 3 e)
    go false e = (address_is p s.modrm s.sib, signed_is (displacement_size s) bytes (size_few s) len h)

into_is : (o : Operand) (r : Register) (w : Width) (d : ℕ) → IsOperand o d
    → IsOperation (operation.Move w (into_operand o r)) d 0
into_is (operand.Register q) r w d h = (h, refl)
into_is (operand.InMemory m) r w d h = (h, refl)

compute_is : (o : Operand) (r : Register) (a : Arithmetic) (w : Width) (d : ℕ) → IsOperand o d
    → IsOperation (operation.Compute a w (into_operand o r)) d 0
compute_is (operand.Register q) r a w d h = (h, refl)
compute_is (operand.InMemory m) r a w d h = (h, refl)

moved_is : (o : Operand) (w : Width) (d i : ℕ) → IsOperand o d → IsSignedLong i
    → IsOperation (operation.Move w (Immediate o)) d i
moved_is (operand.Register r) Long d i h k = (h, k)
moved_is (operand.Register r) Quad d i h k = (h, long-lt i k)
moved_is (operand.InMemory m) Long d i h k = (h, k)
moved_is (operand.InMemory m) Quad d i h k = (h, k)

-- ---- rows

unnamed : (t b : Bool) → ((not t || false) && b) ≡ true → t ≡ false
unnamed true b e = absurd cc
unnamed false b e = refl

memory_of : (p : Prefixes) (s : Selectors) (d : ℕ) → eqb (s.modrm / 64) 3 ≡ false → IsOperand (operand_in p s) d
    → IsMemory (memory_in p s) d
memory_of p s d three h = subst (λ (o : Operand). IsOperand o d) (in_memory p s three) h

named_is : (p : Prefixes) (s : Selectors) → p.thread_pointer ≡ false → IsNamed (operand_in p s)
named_is p s h = go (eqb (s.modrm / 64) 3) refl
  where
    go : (b : Bool) → eqb (s.modrm / 64) 3 ≡ b
        → IsNamed (cond b (operand.Register (extended (s.modrm % 8) (bits_of p).base))
        (operand.InMemory (memory_in p s)))
    go true e = tt
    go false e = fs_is p s e ∙ h

register_is : (a : Action) (p : Prefixes) (s : Selectors) (d few : ℕ) → IsOperand (operand_in p s) d
    → allowed a p s.modrm ≡ true
    → takes (row.Register a) p ≡ true → Listed (bits_of p) (row.Register a) few
    → IsOperation (operation_of a p s 0) d (cond (takes_immediate a) 0 0)
unfolding operation_of takes
register_is action.StoreByte p s d few h ok fits way =
    (memory_of p s d (no_register action.StoreByte p s.modrm (λ low. refl) ok) h, refl)
register_is action.Store p s d few h ok fits way = into_is (operand_in p s) (register_in p s) (width_of p) d h
register_is action.Load p s d few h ok fits way = (h, refl)
register_is action.ExtendByte p s d few h ok fits way = (h, refl)
register_is action.ExtendLong p s d few h ok fits way = (h, refl)
register_is action.LoadAddress p s d few h ok fits way =
    let three = no_register action.LoadAddress p s.modrm (λ low. refl) ok in
    (memory_of p s d three h, refl, fs_is p s three ∙ unnamed p.thread_pointer _ fits)
register_is (action.ComputeInto a) p s d few h ok fits way =
    compute_is (operand_in p s) (register_in p s) a (width_of p) d h
register_is (action.ComputeFrom a) p s d few h ok fits way = (h, refl)
register_is action.TestWith p s d few h ok fits way = (h, refl)
register_is action.MultiplyBy p s d few h ok fits way = (h, refl)
register_is action.MoveImmediate p s d few h ok fits (inl e) = absurd (let t = e.0 in cc)
register_is action.MoveImmediate p s d few h ok fits (inr (inl e)) = absurd (let t = e.0 in cc)
register_is action.MoveImmediate p s d few h ok fits (inr (inr e)) = absurd (let t = e.0 in cc)
register_is (action.ComputeImmediate x) p s d few h ok fits (inl e) = absurd (let t = e.0 in cc)
register_is (action.ComputeImmediate x) p s d few h ok fits (inr (inl e)) = absurd (let t = e.0 in cc)
register_is (action.ComputeImmediate x) p s d few h ok fits (inr (inr e)) = absurd (let t = e.0 in cc)
register_is (action.ShiftBy x) p s d few h ok fits (inl e) = absurd (let t = e.0 in cc)
register_is (action.ShiftBy x) p s d few h ok fits (inr (inl e)) = absurd (let t = e.0 in cc)
register_is (action.ShiftBy x) p s d few h ok fits (inr (inr e)) = absurd (let t = e.0 in cc)
register_is (action.ShiftOnce x) p s d few h ok fits (inl e) = absurd (let t = e.0 in cc)
register_is (action.ShiftOnce x) p s d few h ok fits (inr (inl e)) = absurd (let t = e.0 in cc)
register_is (action.ShiftOnce x) p s d few h ok fits (inr (inr e)) = absurd (let t = e.0 in cc)
register_is action.CallTarget p s d few h ok fits (inl e) = absurd (let t = e.0 in cc)
register_is action.CallTarget p s d few h ok fits (inr (inl e)) = absurd (let t = e.0 in cc)
register_is action.CallTarget p s d few h ok fits (inr (inr e)) = absurd (let t = e.0 in cc)
register_is action.JumpTarget p s d few h ok fits (inl e) = absurd (let t = e.0 in cc)
register_is action.JumpTarget p s d few h ok fits (inr (inl e)) = absurd (let t = e.0 in cc)
register_is action.JumpTarget p s d few h ok fits (inr (inr e)) = absurd (let t = e.0 in cc)
register_is action.Padding p s d few h ok fits (inl e) = absurd (let t = e.0 in cc)
register_is action.Padding p s d few h ok fits (inr (inl e)) = absurd (let t = e.0 in cc)
register_is action.Padding p s d few h ok fits (inr (inr e)) = absurd (let t = e.0 in cc)

target_is : {x y : Action} → ◌≡◌ {A = Option Action} (Some x) (Some y) → x ≡ y
target_is e = cc

unnamed_nop : (t b : Bool) → ((not t || false) && b) ≡ true → t ≡ false
unnamed_nop true b e = absurd cc
unnamed_nop false b e = refl

-- ModRM completes the opcode
group_is : (g : Group) (size : Size) (a : Action) (p : Prefixes) (s : Selectors) (digit d few : ℕ) (bytes : List ℕ)
    → IsOperand (operand_in p s) d
    → group_action g digit ≡ Some a → takes (row.Group g size) p ≡ true → Listed (bits_of p) (row.Group g size) few
    → length bytes ≡ count_of size → small bytes ≡ true
    → IsOperation (operation_of a p s (signed_of size bytes % 256)) d
    (cond (takes_immediate a) (signed_of size bytes) 0)
unfolding operation_of takes group_action
group_is group.Move size.Zero a p s digit d few bytes h act fits (inl e) len ok = absurd (let t = e.0 in cc)
group_is group.Move size.Zero a p s digit d few bytes h act fits (inr (inl e)) len ok = absurd (let t = e.0 in cc)
group_is group.Move size.Zero a p s digit d few bytes h act fits (inr (inr e)) len ok = absurd (let t = e.0 in cc)
group_is group.Move size.One a p s digit d few bytes h act fits (inl e) len ok = absurd (let t = e.0 in cc)
group_is group.Move size.One a p s digit d few bytes h act fits (inr (inl e)) len ok = absurd (let t = e.0 in cc)
group_is group.Move size.One a p s digit d few bytes h act fits (inr (inr e)) len ok = absurd (let t = e.0 in cc)
group_is group.Move size.Four a p s digit d few bytes h act fits (inl e) len ok =
    subst (λ (x : Action). IsOperation (operation_of x p s (signed_of size.Four bytes % 256)) d
    (cond (takes_immediate x) (signed_of size.Four bytes) 0))
    (some_is _ _ _ act) (moved_is (operand_in p s) (width_of p) d (signed_of size.Four bytes) h
    (signed_is size.Four bytes (omega arith) len ok))
group_is group.Move size.Four a p s digit d few bytes h act fits (inr (inl e)) len ok = absurd (let t = e.0 in cc)
group_is group.Move size.Four a p s digit d few bytes h act fits (inr (inr e)) len ok = absurd (let t = e.0 in cc)
group_is group.Move size.Eight a p s digit d few bytes h act fits (inl e) len ok = absurd (let t = e.0 in cc)
group_is group.Move size.Eight a p s digit d few bytes h act fits (inr (inl e)) len ok = absurd (let t = e.0 in cc)
group_is group.Move size.Eight a p s digit d few bytes h act fits (inr (inr e)) len ok = absurd (let t = e.0 in cc)
group_is group.Arithmetic size.Zero a p s digit d few bytes h act fits (inl e) len ok = absurd (let t = e.0 in cc)
group_is group.Arithmetic size.Zero a p s digit d few bytes h act fits (inr (inl e)) len ok = absurd (let t = e.0 in cc)
group_is group.Arithmetic size.Zero a p s digit d few bytes h act fits (inr (inr e)) len ok = absurd (let t = e.0 in cc)
group_is group.Arithmetic size.One a p s digit d few bytes h act fits (inl e) len ok = let x =
    mapped_is action.ComputeImmediate _ _ act in
    subst (λ (x : Action). IsOperation (operation_of x p s (signed_of size.One bytes % 256)) d
    (cond (takes_immediate x) (signed_of size.One bytes) 0)) (x.1)
    ((h, signed_is size.One bytes (omega arith) len ok))
group_is group.Arithmetic size.One a p s digit d few bytes h act fits (inr (inl e)) len ok = absurd (let t = e.0 in cc)
group_is group.Arithmetic size.One a p s digit d few bytes h act fits (inr (inr e)) len ok = absurd (let t = e.0 in cc)
group_is group.Arithmetic size.Four a p s digit d few bytes h act fits (inl e) len ok = let x =
    mapped_is action.ComputeImmediate _ _ act in
    subst (λ (x : Action). IsOperation (operation_of x p s (signed_of size.Four bytes % 256)) d
    (cond (takes_immediate x) (signed_of size.Four bytes) 0)) (x.1)
    ((h, signed_is size.Four bytes (omega arith) len ok))
group_is group.Arithmetic size.Four a p s digit d few bytes h act fits (inr (inl e)) len ok = absurd (let t = e.0 in cc)
group_is group.Arithmetic size.Four a p s digit d few bytes h act fits (inr (inr e)) len ok = absurd (let t = e.0 in cc)
group_is group.Arithmetic size.Eight a p s digit d few bytes h act fits (inl e) len ok = absurd (let t = e.0 in cc)
group_is group.Arithmetic size.Eight a p s digit d few bytes h act fits (inr (inl e)) len ok =
    absurd (let t = e.0 in cc)
group_is group.Arithmetic size.Eight a p s digit d few bytes h act fits (inr (inr e)) len ok =
    absurd (let t = e.0 in cc)
group_is group.Shift size.Zero a p s digit d few bytes h act fits (inl e) len ok = absurd (let t = e.0 in cc)
group_is group.Shift size.Zero a p s digit d few bytes h act fits (inr (inl e)) len ok = absurd (let t = e.0 in cc)
group_is group.Shift size.Zero a p s digit d few bytes h act fits (inr (inr e)) len ok = absurd (let t = e.0 in cc)
group_is group.Shift size.One a p s digit d few bytes h act fits (inl e) len ok = let x =
    mapped_is action.ShiftBy _ _ act in
    subst (λ (x : Action). IsOperation (operation_of x p s (signed_of size.One bytes % 256)) d
    (cond (takes_immediate x) (signed_of size.One bytes) 0)) (x.1) ((h, refl, omega arith))
group_is group.Shift size.One a p s digit d few bytes h act fits (inr (inl e)) len ok = absurd (let t = e.0 in cc)
group_is group.Shift size.One a p s digit d few bytes h act fits (inr (inr e)) len ok = absurd (let t = e.0 in cc)
group_is group.Shift size.Four a p s digit d few bytes h act fits (inl e) len ok = absurd (let t = e.0 in cc)
group_is group.Shift size.Four a p s digit d few bytes h act fits (inr (inl e)) len ok = absurd (let t = e.0 in cc)
group_is group.Shift size.Four a p s digit d few bytes h act fits (inr (inr e)) len ok = absurd (let t = e.0 in cc)
group_is group.Shift size.Eight a p s digit d few bytes h act fits (inl e) len ok = absurd (let t = e.0 in cc)
group_is group.Shift size.Eight a p s digit d few bytes h act fits (inr (inl e)) len ok = absurd (let t = e.0 in cc)
group_is group.Shift size.Eight a p s digit d few bytes h act fits (inr (inr e)) len ok = absurd (let t = e.0 in cc)
group_is group.ShiftOnce size.Zero a p s digit d few bytes h act fits (inl e) len ok = let x =
    mapped_is action.ShiftOnce _ _ act in
    subst (λ (x : Action). IsOperation (operation_of x p s (signed_of size.Zero bytes % 256)) d
    (cond (takes_immediate x) (signed_of size.Zero bytes) 0)) (x.1) ((h, refl, omega arith))
group_is group.ShiftOnce size.Zero a p s digit d few bytes h act fits (inr (inl e)) len ok = absurd (let t = e.0 in cc)
group_is group.ShiftOnce size.Zero a p s digit d few bytes h act fits (inr (inr e)) len ok = absurd (let t = e.0 in cc)
group_is group.ShiftOnce size.One a p s digit d few bytes h act fits (inl e) len ok = absurd (let t = e.0 in cc)
group_is group.ShiftOnce size.One a p s digit d few bytes h act fits (inr (inl e)) len ok = absurd (let t = e.0 in cc)
group_is group.ShiftOnce size.One a p s digit d few bytes h act fits (inr (inr e)) len ok = absurd (let t = e.0 in cc)
group_is group.ShiftOnce size.Four a p s digit d few bytes h act fits (inl e) len ok = absurd (let t = e.0 in cc)
group_is group.ShiftOnce size.Four a p s digit d few bytes h act fits (inr (inl e)) len ok = absurd (let t = e.0 in cc)
group_is group.ShiftOnce size.Four a p s digit d few bytes h act fits (inr (inr e)) len ok = absurd (let t = e.0 in cc)
group_is group.ShiftOnce size.Eight a p s digit d few bytes h act fits (inl e) len ok = absurd (let t = e.0 in cc)
group_is group.ShiftOnce size.Eight a p s digit d few bytes h act fits (inr (inl e)) len ok = absurd (let t = e.0 in cc)
group_is group.ShiftOnce size.Eight a p s digit d few bytes h act fits (inr (inr e)) len ok = absurd (let t = e.0 in cc)
group_is group.Target size.Zero a p s digit d few bytes h act fits (inl e) len ok =
    elim (chosen (eqb digit 2) _ _ _ act) [
      | inl t ↦ subst (λ (x : Action). IsOperation (operation_of x p s (signed_of size.Zero bytes % 256)) d
          (cond (takes_immediate x) (signed_of size.Zero bytes) 0)) (target_is t.1) ((h, refl))
      | inr t ↦ subst (λ (x : Action). IsOperation (operation_of x p s (signed_of size.Zero bytes % 256)) d
          (cond (takes_immediate x) (signed_of size.Zero bytes) 0)) (some_is _ _ _ t.1) ((h, refl))
    ]
group_is group.Target size.Zero a p s digit d few bytes h act fits (inr (inl e)) len ok = absurd (let t = e.0 in cc)
group_is group.Target size.Zero a p s digit d few bytes h act fits (inr (inr e)) len ok = absurd (let t = e.0 in cc)
group_is group.Target size.One a p s digit d few bytes h act fits (inl e) len ok = absurd (let t = e.0 in cc)
group_is group.Target size.One a p s digit d few bytes h act fits (inr (inl e)) len ok = absurd (let t = e.0 in cc)
group_is group.Target size.One a p s digit d few bytes h act fits (inr (inr e)) len ok = absurd (let t = e.0 in cc)
group_is group.Target size.Four a p s digit d few bytes h act fits (inl e) len ok = absurd (let t = e.0 in cc)
group_is group.Target size.Four a p s digit d few bytes h act fits (inr (inl e)) len ok = absurd (let t = e.0 in cc)
group_is group.Target size.Four a p s digit d few bytes h act fits (inr (inr e)) len ok = absurd (let t = e.0 in cc)
group_is group.Target size.Eight a p s digit d few bytes h act fits (inl e) len ok = absurd (let t = e.0 in cc)
group_is group.Target size.Eight a p s digit d few bytes h act fits (inr (inl e)) len ok = absurd (let t = e.0 in cc)
group_is group.Target size.Eight a p s digit d few bytes h act fits (inr (inr e)) len ok = absurd (let t = e.0 in cc)
group_is group.Nop size.Zero a p s digit d few bytes h act fits (inl e) len ok = absurd (let t = e.0 in cc)
group_is group.Nop size.Zero a p s digit d few bytes h act fits (inr (inl e)) len ok =
    subst (λ (x : Action). IsOperation (operation_of x p s (signed_of size.Zero bytes % 256)) d
    (cond (takes_immediate x) (signed_of size.Zero bytes) 0))
    (some_is _ _ _ act) ((h, refl, named_is p s (unnamed_nop p.thread_pointer _ fits)))
group_is group.Nop size.Zero a p s digit d few bytes h act fits (inr (inr e)) len ok = absurd (let t = e.0 in cc)
group_is group.Nop size.One a p s digit d few bytes h act fits (inl e) len ok = absurd (let t = e.0 in cc)
group_is group.Nop size.One a p s digit d few bytes h act fits (inr (inl e)) len ok = absurd (let t = e.0 in cc)
group_is group.Nop size.One a p s digit d few bytes h act fits (inr (inr e)) len ok = absurd (let t = e.0 in cc)
group_is group.Nop size.Four a p s digit d few bytes h act fits (inl e) len ok = absurd (let t = e.0 in cc)
group_is group.Nop size.Four a p s digit d few bytes h act fits (inr (inl e)) len ok = absurd (let t = e.0 in cc)
group_is group.Nop size.Four a p s digit d few bytes h act fits (inr (inr e)) len ok = absurd (let t = e.0 in cc)
group_is group.Nop size.Eight a p s digit d few bytes h act fits (inl e) len ok = absurd (let t = e.0 in cc)
group_is group.Nop size.Eight a p s digit d few bytes h act fits (inr (inl e)) len ok = absurd (let t = e.0 in cc)
group_is group.Nop size.Eight a p s digit d few bytes h act fits (inr (inr e)) len ok = absurd (let t = e.0 in cc)

-- a number alone
number_is : (a : Numbered) (size : Size) (p : Prefixes) (bytes : List ℕ) (few : ℕ)
    → Listed (bits_of p) (row.Number a size) few → length bytes ≡ count_of size
    → small bytes ≡ true → IsSpellable (numbered_body a (width_of p) size (signed_of size bytes)).instr
unfolding numbered_body IsSpellable
number_is (numbered.Call) size.Zero p bytes few (inl e) len ok = absurd (let t = e.0 in cc)
number_is (numbered.Call) size.Zero p bytes few (inr (inl e)) len ok = absurd (let t = e.0 in cc)
number_is (numbered.Call) size.Zero p bytes few (inr (inr e)) len ok = absurd (let t = e.0 in cc)
number_is (numbered.Call) size.One p bytes few (inl e) len ok = absurd (let t = e.0 in cc)
number_is (numbered.Call) size.One p bytes few (inr (inl e)) len ok = absurd (let t = e.0 in cc)
number_is (numbered.Call) size.One p bytes few (inr (inr e)) len ok = absurd (let t = e.0 in cc)
number_is (numbered.Call) size.Four p bytes few (inl e) len ok =
    ((refl, refl), signed_is size.Four bytes (omega arith) len ok)
number_is (numbered.Call) size.Four p bytes few (inr (inl e)) len ok = absurd (let t = e.0 in cc)
number_is (numbered.Call) size.Four p bytes few (inr (inr e)) len ok = absurd (let t = e.0 in cc)
number_is (numbered.Call) size.Eight p bytes few (inl e) len ok = absurd (let t = e.0 in cc)
number_is (numbered.Call) size.Eight p bytes few (inr (inl e)) len ok = absurd (let t = e.0 in cc)
number_is (numbered.Call) size.Eight p bytes few (inr (inr e)) len ok = absurd (let t = e.0 in cc)
number_is (numbered.Jump) size.Zero p bytes few (inl e) len ok = absurd (let t = e.0 in cc)
number_is (numbered.Jump) size.Zero p bytes few (inr (inl e)) len ok = absurd (let t = e.0 in cc)
number_is (numbered.Jump) size.Zero p bytes few (inr (inr e)) len ok = absurd (let t = e.0 in cc)
number_is (numbered.Jump) size.One p bytes few (inl e) len ok =
    ((refl, refl), signed_is size.One bytes (omega arith) len ok)
number_is (numbered.Jump) size.One p bytes few (inr (inl e)) len ok = absurd (let t = e.0 in cc)
number_is (numbered.Jump) size.One p bytes few (inr (inr e)) len ok = absurd (let t = e.0 in cc)
number_is (numbered.Jump) size.Four p bytes few (inl e) len ok =
    ((refl, refl), signed_is size.Four bytes (omega arith) len ok)
number_is (numbered.Jump) size.Four p bytes few (inr (inl e)) len ok = absurd (let t = e.0 in cc)
number_is (numbered.Jump) size.Four p bytes few (inr (inr e)) len ok = absurd (let t = e.0 in cc)
number_is (numbered.Jump) size.Eight p bytes few (inl e) len ok = absurd (let t = e.0 in cc)
number_is (numbered.Jump) size.Eight p bytes few (inr (inl e)) len ok = absurd (let t = e.0 in cc)
number_is (numbered.Jump) size.Eight p bytes few (inr (inr e)) len ok = absurd (let t = e.0 in cc)
number_is (numbered.JumpIf c) size.Zero p bytes few (inl e) len ok = absurd (let t = e.0 in cc)
number_is (numbered.JumpIf c) size.Zero p bytes few (inr (inl e)) len ok = absurd (let t = e.0 in cc)
number_is (numbered.JumpIf c) size.Zero p bytes few (inr (inr e)) len ok = absurd (let t = e.0 in cc)
number_is (numbered.JumpIf c) size.One p bytes few (inl e) len ok =
    ((refl, refl), signed_is size.One bytes (omega arith) len ok)
number_is (numbered.JumpIf c) size.One p bytes few (inr (inl e)) len ok = absurd (let t = e.0 in cc)
number_is (numbered.JumpIf c) size.One p bytes few (inr (inr e)) len ok = absurd (let t = e.0 in cc)
number_is (numbered.JumpIf c) size.Four p bytes few (inl e) len ok = absurd (let t = e.0 in cc)
number_is (numbered.JumpIf c) size.Four p bytes few (inr (inl e)) len ok =
    ((refl, refl), signed_is size.Four bytes (omega arith) len ok)
number_is (numbered.JumpIf c) size.Four p bytes few (inr (inr e)) len ok = absurd (let t = e.0 in cc)
number_is (numbered.JumpIf c) size.Eight p bytes few (inl e) len ok = absurd (let t = e.0 in cc)
number_is (numbered.JumpIf c) size.Eight p bytes few (inr (inl e)) len ok = absurd (let t = e.0 in cc)
number_is (numbered.JumpIf c) size.Eight p bytes few (inr (inr e)) len ok = absurd (let t = e.0 in cc)
number_is (numbered.Move r) size.Zero p bytes few (inl e) len ok = absurd (let t = e.0 in cc)
number_is (numbered.Move r) size.Zero p bytes few (inr (inl e)) len ok = absurd (let t = e.0 in cc)
number_is (numbered.Move r) size.Zero p bytes few (inr (inr e)) len ok = absurd (let t = e.0 in cc)
number_is (numbered.Move r) size.One p bytes few (inl e) len ok = absurd (let t = e.0 in cc)
number_is (numbered.Move r) size.One p bytes few (inr (inl e)) len ok = absurd (let t = e.0 in cc)
number_is (numbered.Move r) size.One p bytes few (inr (inr e)) len ok = absurd (let t = e.0 in cc)
number_is (numbered.Move r) size.Four p bytes few (inl e) len ok =
    moved_is (operand.Register r) (width_of p) 0 (signed_of size.Four bytes) refl
    (signed_is size.Four bytes (omega arith) len ok)
number_is (numbered.Move r) size.Four p bytes few (inr (inl e)) len ok = absurd (let t = e.0 in cc)
number_is (numbered.Move r) size.Four p bytes few (inr (inr e)) len ok = absurd (let t = e.0 in cc)
number_is (numbered.Move r) size.Eight p bytes few (inl e) len ok = let t =
    (and_parts (bits_of p).wide (reaches (bits_of p) r) e.0).0 in rw (t) (refl, eight_is bytes ok)
number_is (numbered.Move r) size.Eight p bytes few (inr (inl e)) len ok = absurd (let t = e.0 in cc)
number_is (numbered.Move r) size.Eight p bytes few (inr (inr e)) len ok = absurd (let t = e.0 in cc)
number_is (numbered.Compute x) size.Zero p bytes few (inl e) len ok = absurd (let t = e.0 in cc)
number_is (numbered.Compute x) size.Zero p bytes few (inr (inl e)) len ok = absurd (let t = e.0 in cc)
number_is (numbered.Compute x) size.Zero p bytes few (inr (inr e)) len ok = absurd (let t = e.0 in cc)
number_is (numbered.Compute x) size.One p bytes few (inl e) len ok = absurd (let t = e.0 in cc)
number_is (numbered.Compute x) size.One p bytes few (inr (inl e)) len ok = absurd (let t = e.0 in cc)
number_is (numbered.Compute x) size.One p bytes few (inr (inr e)) len ok = absurd (let t = e.0 in cc)
number_is (numbered.Compute x) size.Four p bytes few (inl e) len ok =
    (refl, signed_is size.Four bytes (omega arith) len ok)
number_is (numbered.Compute x) size.Four p bytes few (inr (inl e)) len ok = absurd (let t = e.0 in cc)
number_is (numbered.Compute x) size.Four p bytes few (inr (inr e)) len ok = absurd (let t = e.0 in cc)
number_is (numbered.Compute x) size.Eight p bytes few (inl e) len ok = absurd (let t = e.0 in cc)
number_is (numbered.Compute x) size.Eight p bytes few (inr (inl e)) len ok = absurd (let t = e.0 in cc)
number_is (numbered.Compute x) size.Eight p bytes few (inr (inr e)) len ok = absurd (let t = e.0 in cc)

abbrev made_alone : Operation → Instr
made_alone op = record { operation = op; displacement = 0; immediate = 0 }

alone_is : (op : Operation) (rex : Rex) (few : ℕ) → Listed rex (row.Alone op) few → IsSpellable (made_alone op)
unfolding IsSpellable
alone_is (operation.Push r) rex few (inl e) = (refl, refl)
alone_is (operation.Push r) rex few (inr (inl e)) = (refl, refl)
alone_is (operation.Push r) rex few (inr (inr e)) = absurd (let t = e.0 in cc)
alone_is (operation.Pop r) rex few (inl e) = (refl, refl)
alone_is (operation.Pop r) rex few (inr (inl e)) = (refl, refl)
alone_is (operation.Pop r) rex few (inr (inr e)) = absurd (let t = e.0 in cc)
alone_is (operation.Leave) rex few (inl e) = (refl, refl)
alone_is (operation.Leave) rex few (inr (inl e)) = (refl, refl)
alone_is (operation.Leave) rex few (inr (inr e)) = absurd (let t = e.0 in cc)
alone_is (operation.Return) rex few (inl e) = (refl, refl)
alone_is (operation.Return) rex few (inr (inl e)) = (refl, refl)
alone_is (operation.Return) rex few (inr (inr e)) = absurd (let t = e.0 in cc)
alone_is (operation.Undefined) rex few (inl e) = (refl, refl)
alone_is (operation.Undefined) rex few (inr (inl e)) = (refl, refl)
alone_is (operation.Undefined) rex few (inr (inr e)) = absurd (let t = e.0 in cc)
alone_is (operation.Move width os) rex few (inl e) = absurd (let u = e.0 in cc)
alone_is (operation.Move width os) rex few (inr (inl e)) = absurd (let u = e.0 in cc)
alone_is (operation.Move width os) rex few (inr (inr e)) = absurd (let u = e.0 in cc)
alone_is (operation.StoreByte to from) rex few (inl e) = absurd (let u = e.0 in cc)
alone_is (operation.StoreByte to from) rex few (inr (inl e)) = absurd (let u = e.0 in cc)
alone_is (operation.StoreByte to from) rex few (inr (inr e)) = absurd (let u = e.0 in cc)
alone_is (operation.ExtendByte width to from) rex few (inl e) = absurd (let u = e.0 in cc)
alone_is (operation.ExtendByte width to from) rex few (inr (inl e)) = absurd (let u = e.0 in cc)
alone_is (operation.ExtendByte width to from) rex few (inr (inr e)) = absurd (let u = e.0 in cc)
alone_is (operation.ExtendLong to from) rex few (inl e) = absurd (let u = e.0 in cc)
alone_is (operation.ExtendLong to from) rex few (inr (inl e)) = absurd (let u = e.0 in cc)
alone_is (operation.ExtendLong to from) rex few (inr (inr e)) = absurd (let u = e.0 in cc)
alone_is (operation.LoadAddress width to from) rex few (inl e) = absurd (let u = e.0 in cc)
alone_is (operation.LoadAddress width to from) rex few (inr (inl e)) = absurd (let u = e.0 in cc)
alone_is (operation.LoadAddress width to from) rex few (inr (inr e)) = absurd (let u = e.0 in cc)
alone_is (operation.Compute a width os) rex few (inl e) = absurd (let u = e.0 in cc)
alone_is (operation.Compute a width os) rex few (inr (inl e)) = absurd (let u = e.0 in cc)
alone_is (operation.Compute a width os) rex few (inr (inr e)) = absurd (let u = e.0 in cc)
alone_is (operation.Test width left right) rex few (inl e) = absurd (let u = e.0 in cc)
alone_is (operation.Test width left right) rex few (inr (inl e)) = absurd (let u = e.0 in cc)
alone_is (operation.Test width left right) rex few (inr (inr e)) = absurd (let u = e.0 in cc)
alone_is (operation.Multiply width to from) rex few (inl e) = absurd (let u = e.0 in cc)
alone_is (operation.Multiply width to from) rex few (inr (inl e)) = absurd (let u = e.0 in cc)
alone_is (operation.Multiply width to from) rex few (inr (inr e)) = absurd (let u = e.0 in cc)
alone_is (operation.Shift sh width to count) rex few (inl e) = absurd (let u = e.0 in cc)
alone_is (operation.Shift sh width to count) rex few (inr (inl e)) = absurd (let u = e.0 in cc)
alone_is (operation.Shift sh width to count) rex few (inr (inr e)) = absurd (let u = e.0 in cc)
alone_is (operation.Call t) rex few (inl e) = absurd (let u = e.0 in cc)
alone_is (operation.Call t) rex few (inr (inl e)) = absurd (let u = e.0 in cc)
alone_is (operation.Call t) rex few (inr (inr e)) = absurd (let u = e.0 in cc)
alone_is (operation.Jump t) rex few (inl e) = absurd (let u = e.0 in cc)
alone_is (operation.Jump t) rex few (inr (inl e)) = absurd (let u = e.0 in cc)
alone_is (operation.Jump t) rex few (inr (inr e)) = absurd (let u = e.0 in cc)
alone_is (operation.JumpIf c x) rex few (inl e) = absurd (let u = e.0 in cc)
alone_is (operation.JumpIf c x) rex few (inr (inl e)) = absurd (let u = e.0 in cc)
alone_is (operation.JumpIf c x) rex few (inr (inr e)) = absurd (let u = e.0 in cc)
alone_is (operation.Nop o) rex few (inl e) = absurd (let u = e.0 in cc)
alone_is (operation.Nop o) rex few (inr (inl e)) = absurd (let u = e.0 in cc)
alone_is (operation.Nop o) rex few (inr (inr e)) = absurd (let u = e.0 in cc)

-- ---- the whole

operated_is : (p : Prefixes) (r : Row) (size : Size) (rest : List ℕ) (body : Body) (q : IsOperated p r size rest body)
    → small rest ≡ true → (small q.displacement ≡ true) × (small q.immediate ≡ true)
operated_is p r size rest body q h =
    let all : small (q.modrm ∷ (option_to_list q.sib ++ (q.displacement ++ q.immediate))) ≡ true =
    subst (λ (t : List ℕ). small t ≡ true) q.whole h in
    let one = and_parts (ltb q.modrm 256) (small (option_to_list q.sib ++ (q.displacement ++ q.immediate))) all in
    let two = small_parts (option_to_list q.sib) (q.displacement ++ q.immediate) one.1 in
    small_parts q.displacement q.immediate two.1

nop_is : IsSpellable (made_alone (operation.Nop None))
unfolding IsSpellable
nop_is = (refl, refl)

register_body : (a : Action) (p : Prefixes) (few : ℕ) (rest : List ℕ) (body : Body)
    → IsOperated p (row.Register a) size.Zero rest body
    → takes (row.Register a) p ≡ true → Listed (bits_of p) (row.Register a) few → small rest ≡ true
    → IsSpellable body.instr
unfolding operand_body IsSpellable signed_of
register_body a p few rest body q fits way ok =
    let s : Selectors = record { modrm = q.modrm; sib = q.sib } in
    let e : a ≡ q.action = let t = q.action-is in cc in
    let both = operated_is p (row.Register a) size.Zero rest body q ok in
    let is : BodyIs a p s size.Zero q.displacement q.immediate body =
    moved_body a q.action p s size.Zero q.displacement q.immediate body e q.body-is in
    let allows : allowed a p q.modrm ≡ true = subst (λ (x : Action). allowed x p q.modrm ≡ true) (sym e) q.allows in
    subst (λ (b : Body). IsSpellable b.instr) (sym is)
    (register_is a p s (signed_of (displacement_size s) q.displacement) few
    (operand_is p s q.displacement q.displacement-length both.0) allows fits way)

group_body : (g : Group) (size : Size) (p : Prefixes) (few : ℕ) (rest : List ℕ) (body : Body)
    → IsOperated p (row.Group g size) size rest body
    → takes (row.Group g size) p ≡ true → Listed (bits_of p) (row.Group g size) few → small rest ≡ true
    → IsSpellable body.instr
unfolding operand_body IsSpellable
group_body g size p few rest body q fits way ok =
    let s : Selectors = record { modrm = q.modrm; sib = q.sib } in
    let both = operated_is p (row.Group g size) size rest body q ok in
    subst (λ (b : Body). IsSpellable b.instr) (sym q.body-is)
    (group_is g size q.action p s ((q.modrm / 8) % 8) (signed_of (displacement_size s) q.displacement) few q.immediate
    (operand_is p s q.displacement q.displacement-length both.0) q.action-is fits way q.immediate-length both.1)

body_is : (r : Row) (p : Prefixes) (few : ℕ) (rest : List ℕ) (body : Body) → HasBody p r rest body → takes r p ≡ true
    → Listed (bits_of p) r few → small rest ≡ true → IsSpellable body.instr
unfolding operand_body
body_is (row.Alone op) p few rest body is fits way ok = rw (is.1) (alone_is op (bits_of p) few way)
body_is row.Nop p few rest body is fits way ok = rw (is.1) nop_is
body_is row.EndBranch p few rest body is fits way ok = rw (is.1) nop_is
body_is (row.Number a size) p few rest body is fits way ok = rw (is.1) (number_is a size p rest few way is.0 ok)
body_is (row.Register a) p few rest body q fits way ok = register_body a p few rest body q fits way ok
body_is (row.Group g size) p few rest body q fits way ok = group_body g size p few rest body q fits way ok

-- the instruction that a list of bytes spells is spellable
pub spells_spellable : (bytes : List ℕ) (d : Decoded) → Spells bytes d → small bytes ≡ true → IsSpellable d.instr
spells_spellable bytes d h ok =
    let q = h.parts in
    let way = listed (bits_of (prefixes_of q.marks q.rex)) q.opcode q.row q.row-is in
    let all : small (q.marks ++ (option_to_list q.rex ++ (q.opcode ++ q.rest))) ≡ true =
    subst (λ (t : List ℕ). small t ≡ true) q.whole ok in
    let one = small_parts q.marks (option_to_list q.rex ++ (q.opcode ++ q.rest)) all in
    let two = small_parts (option_to_list q.rex) (q.opcode ++ q.rest) one.1 in
    let three = small_parts q.opcode q.rest two.1 in
    let same : d.instr ≡ h.body.instr = ap (λ (x : Decoded). x.instr) h.decoded-is in
    subst IsSpellable (sym same)
    (body_is q.row (prefixes_of q.marks q.rex) (length q.opcode) q.rest h.body q.has_body q.takes way three.1)

small_take : (n : ℕ) (bytes : List ℕ) → small bytes ≡ true → small (take n bytes) ≡ true
small_take n bytes h = (small_parts (take n bytes) (drop n bytes)
    (subst (λ (t : List ℕ). small t ≡ true) (sym (take-append-drop n bytes)) h)).0

pub decoded_spellable : (bytes : List ℕ) (d : Decoded) → ((i : ℕ) → get_or bytes i 0 < 256) → decoded bytes ≡ Some d
    → IsSpellable d.instr
decoded_spellable bytes d h e =
    spells_spellable (take d.len bytes) d (decoded_found bytes d e).spells (small_take d.len bytes (small_from bytes h))
