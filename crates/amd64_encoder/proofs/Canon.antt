-- Every spelling against the form of its instruction, and the spelling that is written.
use Rattle.std.proofs.Common.{◌≡◌, ℕ, ◌+◌, ◌/◌, ◌%◌, ◌≤◌, Bool, true, false, cond, eqb, List, [], ◌∷◌, ◌++◌, length}
use Rattle.std.proofs.Common.{Option, Some, None, refl, sym, ap, subst, arith, inl, inr, ◌⊎◌}
use Rattle.std.specs.Prelude.{is_some, slice_index}
use Rattle.std.specs.Option.{option_map, option_to_list}
use Rattle.amd64_subset.specs.declared.instr.Arithmetic.{Arithmetic}
use Rattle.amd64_subset.specs.declared.instr.Shift.{Shift}
use Rattle.amd64_subset.specs.declared.instr.Operation.{Operation}
use Rattle.amd64_subset.specs.declared.instr.Instr.{Instr}
use Rattle.amd64_subset.specs.declared.prefix.Rex.{Rex}
use Rattle.amd64_subset.specs.declared.prefix.Prefixes.{Prefixes}
use Rattle.amd64_words.specs.declared.size.Size.{Size}
use Rattle.amd64_words.specs.declared.size.Size.TheVariants as size
use Rattle.amd64_subset.specs.declared.row.Row.{Row}
use Rattle.amd64_subset.specs.declared.row.Row.TheVariants as row
use Rattle.amd64_subset.specs.declared.row.Numbered.{Numbered}
use Rattle.amd64_subset.specs.declared.row.Numbered.TheVariants as numbered
use Rattle.amd64_subset.specs.declared.row.Group.{Group}
use Rattle.amd64_subset.specs.declared.row.Group.TheVariants as group
use Rattle.amd64_subset.specs.declared.row.Action.{Action}
use Rattle.amd64_subset.specs.declared.row.Action.TheVariants as action
use Rattle.amd64_subset.specs.declared.selectors.Selectors.{Selectors}
use Rattle.amd64_subset.specs.Number.{count_of, signed_of, signed_byte_of, signed_long_of}
use Rattle.amd64_subset.specs.Prefix.{bits_of}
use Rattle.amd64_subset.specs.Selectors.{has_sib, displacement_size, allowed, operand_in}
use Rattle.amd64_subset.specs.Meaning.{width_of, operation_of, operand_body, numbered_body}
use Rattle.amd64_encoder.specs.Form.{form_of}
use Rattle.amd64_encoder.specs.Canonical.{IsOperation}
use Rattle.amd64_subset.specs.declared.meaning.Body.{Body}
use Rattle.std.specs.List.{list_any}
use Rattle.std.specs.Int.{w32, w64, from_le_bytes}
use Rattle.std.proofs.lemmas.List.{length-append}
use Rattle.amd64_subset.specs.declared.instr.Decoded.{Decoded}
use Rattle.amd64_subset.specs.Row.{group_action}
use Rattle.amd64_subset.specs.Meaning.{takes_immediate}
use Rattle.amd64_subset.specs.Spelling.{prefixes_of, IsOperated, HasBody, Spells}
use Rattle.amd64_encoder.specs.Writing.{spelling_of}
use Rattle.amd64_encoder.specs.Canonical.{IsSpellable, IsCanonical}
use Rattle.amd64_subset.proofs.Steps.{chosen}
use Rattle.amd64_encoder.proofs.Digits.{long-lt}
use Rattle.amd64_encoder.proofs.Costs.{signed_byte_fits, signed_long_fits}
use Rattle.amd64_encoder.proofs.Listed.{is_short, is_long, listed}
use Rattle.amd64_encoder.proofs.Shortest.{BeatsIn, Around, Spelt, tail_of, operand-lt, fits_of, wide_of, opcode_size}
use Rattle.amd64_encoder.proofs.Shortest.{register_beats}
use Rattle.amd64_encoder.proofs.Groups.{move_to, compute_short, compute_to, shift_once, shift_to, target_to, padding_to}
use Rattle.amd64_encoder.proofs.Groups.{moved_long, moved_quad, computed_rax, called, jumped_short, jumped_long}
use Rattle.amd64_encoder.proofs.Groups.{jumped_if_short, jumped_if_long, alone_beats, nop_beats, branch_beats}
use Rattle.amd64_encoder.proofs.Built.{spelling_from}
use Rattle.amd64_encoder.proofs.Spelled.{made, built}

-- the form of an instruction beats a spelling in this row and of this size
abbrev pub Beats : Instr → Row → ℕ → Type 0
Beats instr r size = BeatsIn (form_of instr.operation instr.immediate) instr.displacement r size

-- which rows there are
abbrev pub Listed : Rex → Row → ℕ → Type 0
Listed rex r few = ((is_short rex r ≡ true) × (few ≡ 1))
    ⊎ (((is_long r ≡ true) × (few ≡ 2)) ⊎ ((r ≡ row.EndBranch) × (few ≡ 4)))

-- ---- /r

size_most : (a : Action) → opcode_size a ≤ 2
size_most action.ExtendByte = omega arith
size_most action.MultiplyBy = omega arith
size_most a = omega arith

size_short : (rex : Rex) (a : Action) → is_short rex (row.Register a) ≡ true → opcode_size a ≤ 1
size_short rex action.ExtendByte h = absurd cc
size_short rex action.MultiplyBy h = absurd cc
size_short rex a h = omega arith

cond_none : (b : Bool) → ◌≡◌ {A = ℕ} (cond b 0 0) 0
cond_none true = refl
cond_none false = refl

register_case : (a : Action) (p : Prefixes) (s : Selectors) (rex : Option ℕ) (marks few total : ℕ) (bytes : List ℕ)
    (body : Body) → Around p rex marks → is_some s.sib ≡ has_sib s.modrm
    → body ≡ operand_body a p s size.Zero
    (record { displacement = signed_of (displacement_size s) bytes; immediate = 0 })
    → allowed a p s.modrm ≡ true → IsSpellable body.instr → Listed (bits_of p) (row.Register a) few
    → marks + (length (option_to_list rex) + (few + ((1 + tail_of s) + 0))) ≤ total
    → Beats body.instr (row.Register a) total
unfolding operand_body IsSpellable
register_case a p s rex marks few total bytes body h sib is allows ok way room =
    let P : Body → Type 0 = λ b. IsSpellable b.instr → Beats b.instr (row.Register a) total in
    subst P (sym is) (λ ok'. go way ok') ok
  where
    d : ℕ
    d = signed_of (displacement_size s) bytes

    spelt : Spelt p s rex marks bytes (signed_of (displacement_size s) bytes)
    spelt = record { around = h; sib-is = sib; number = refl }

    with_size : opcode_size a ≤ few → (is_short (bits_of p) (row.Register a) ≡ true) ⊎ (is_long (row.Register a) ≡ true)
        → IsOperation (operation_of a p s 0) (signed_of (displacement_size s) bytes) (cond (takes_immediate a) 0 0)
        → BeatsIn (form_of (operation_of a p s 0) (cond (takes_immediate a) 0 0))
        (signed_of (displacement_size s) bytes) (row.Register a) total
    with_size le one ok = let ok' = rw (cond_none (takes_immediate a)) at ok in
        rw (cond_none (takes_immediate a))
        (register_beats a p s rex marks bytes (signed_of (displacement_size s) bytes) total spelt allows ok'
        (omega arith) one)

    go : Listed (bits_of p) (row.Register a) few
        → IsOperation (operation_of a p s 0) (signed_of (displacement_size s) bytes) (cond (takes_immediate a) 0 0)
        → BeatsIn (form_of (operation_of a p s 0) (cond (takes_immediate a) 0 0))
        (signed_of (displacement_size s) bytes) (row.Register a) total
    go (inl e) ok = let n = e.1 in with_size (let t = size_short (bits_of p) a e.0 in omega arith) (inl e.0) ok
    go (inr (inl e)) ok = let n = e.1 in with_size (let t = size_most a in omega arith) (inr e.0) ok
    go (inr (inr e)) ok = absurd (let t = e.0 in cc)

-- ---- /n

pub some_is : {A : Type 0} (b : Bool) (x y : A) → cond b (Some x) None ≡ Some y → x ≡ y
some_is true x y e = cc
some_is false x y e = absurd cc

pub mapped_is : {A : Type 0} (f : A → Action) (o : Option A) (y : Action) → option_map f o ≡ Some y
    → (x : A) × (f x ≡ y)
mapped_is f None y e = absurd cc
mapped_is f (Some x) y e = (x, let t = e in cc)

-- a spelling with ModRM whose action is known
abbrev pub BodyIs : Action → Prefixes → Selectors → Size → List ℕ → List ℕ → Body → Type 0
BodyIs a p s size bytes four body =
    body ≡ operand_body a p s size
    (record { displacement = signed_of (displacement_size s) bytes; immediate = signed_of size four })

move_case : (p : Prefixes) (s : Selectors) (rex : Option ℕ) (marks total : ℕ) (bytes four : List ℕ) (body : Body)
    → Around p rex marks → is_some s.sib ≡ has_sib s.modrm
    → BodyIs (action.MoveImmediate) p s size.Four bytes four body → IsSpellable body.instr
    → marks + (length (option_to_list rex) + (1 + ((1 + tail_of s) + 4))) ≤ total
    → Beats body.instr (row.Group group.Move size.Four) total
unfolding operand_body operation_of form_of IsSpellable signed_of
move_case p s rex marks total bytes four body h sib is ok room =
    let P : Body → Type 0 = λ b. IsSpellable b.instr → Beats b.instr (row.Group group.Move size.Four) total in
    let spelt : Spelt p s rex marks bytes (signed_of (displacement_size s) bytes) =
    record { around = h; sib-is = sib; number = refl } in
    subst P (sym is) (λ ok'. move_to (width_of p) (operand_in p s) (signed_of size.Four four)
    (signed_of (displacement_size s) bytes) rex marks
    (tail_of s) total (fits_of p s rex marks bytes (signed_of (displacement_size s) bytes) spelt
    (operand-lt (operand_in p s) (signed_of (displacement_size s) bytes) ok'.0)) (wide_of p rex marks h)
    (signed_long_fits (from_le_bytes w32 four)) room) ok

short_case : (a : Arithmetic) (p : Prefixes) (s : Selectors) (rex : Option ℕ) (marks total : ℕ) (bytes four : List ℕ)
    (body : Body) → Around p rex marks → is_some s.sib ≡ has_sib s.modrm
    → BodyIs (action.ComputeImmediate a) p s size.One bytes four body → IsSpellable body.instr
    → marks + (length (option_to_list rex) + (1 + ((1 + tail_of s) + 1))) ≤ total
    → Beats body.instr (row.Group group.Arithmetic size.One) total
unfolding operand_body operation_of form_of IsSpellable signed_of
short_case a p s rex marks total bytes four body h sib is ok room =
    let P : Body → Type 0 = λ b. IsSpellable b.instr → Beats b.instr (row.Group group.Arithmetic size.One) total in
    let spelt : Spelt p s rex marks bytes (signed_of (displacement_size s) bytes) =
    record { around = h; sib-is = sib; number = refl } in
    subst P (sym is) (λ ok'. compute_short a (width_of p) (operand_in p s) (signed_of size.One four)
    (signed_of (displacement_size s) bytes) rex marks
    (tail_of s) total (fits_of p s rex marks bytes (signed_of (displacement_size s) bytes) spelt
    (operand-lt (operand_in p s) (signed_of (displacement_size s) bytes) ok'.0)) (wide_of p rex marks h)
    (signed_byte_fits (slice_index four 0) (long-lt (signed_of size.One four) ok'.1)) room) ok

long_case : (a : Arithmetic) (p : Prefixes) (s : Selectors) (rex : Option ℕ) (marks total : ℕ) (bytes four : List ℕ)
    (body : Body) → Around p rex marks → is_some s.sib ≡ has_sib s.modrm
    → BodyIs (action.ComputeImmediate a) p s size.Four bytes four body → IsSpellable body.instr
    → marks + (length (option_to_list rex) + (1 + ((1 + tail_of s) + 4))) ≤ total
    → Beats body.instr (row.Group group.Arithmetic size.Four) total
unfolding operand_body operation_of form_of IsSpellable signed_of
long_case a p s rex marks total bytes four body h sib is ok room =
    let P : Body → Type 0 = λ b. IsSpellable b.instr → Beats b.instr (row.Group group.Arithmetic size.Four) total in
    let spelt : Spelt p s rex marks bytes (signed_of (displacement_size s) bytes) =
    record { around = h; sib-is = sib; number = refl } in
    subst P (sym is) (λ ok'. compute_to a (width_of p) (operand_in p s) (signed_of size.Four four)
    (signed_of (displacement_size s) bytes) rex marks
    (tail_of s) total (fits_of p s rex marks bytes (signed_of (displacement_size s) bytes) spelt
    (operand-lt (operand_in p s) (signed_of (displacement_size s) bytes) ok'.0)) (wide_of p rex marks h) room) ok

shift_case : (sh : Shift) (p : Prefixes) (s : Selectors) (rex : Option ℕ) (marks total : ℕ) (bytes four : List ℕ)
    (body : Body) → Around p rex marks → is_some s.sib ≡ has_sib s.modrm
    → BodyIs (action.ShiftBy sh) p s size.One bytes four body → IsSpellable body.instr
    → marks + (length (option_to_list rex) + (1 + ((1 + tail_of s) + 1))) ≤ total
    → Beats body.instr (row.Group group.Shift size.One) total
unfolding operand_body operation_of form_of IsSpellable signed_of
shift_case sh p s rex marks total bytes four body h sib is ok room =
    let P : Body → Type 0 = λ b. IsSpellable b.instr → Beats b.instr (row.Group group.Shift size.One) total in
    let spelt : Spelt p s rex marks bytes (signed_of (displacement_size s) bytes) =
    record { around = h; sib-is = sib; number = refl } in
    subst P (sym is) (λ ok'. shift_to sh (width_of p) (operand_in p s) (signed_of size.One four % 256)
    (signed_of (displacement_size s) bytes) rex marks
    (tail_of s) total (fits_of p s rex marks bytes (signed_of (displacement_size s) bytes) spelt
    (operand-lt (operand_in p s) (signed_of (displacement_size s) bytes) ok'.0)) (wide_of p rex marks h) room) ok

once_case : (sh : Shift) (p : Prefixes) (s : Selectors) (rex : Option ℕ) (marks total : ℕ) (bytes four : List ℕ)
    (body : Body) → Around p rex marks → is_some s.sib ≡ has_sib s.modrm
    → BodyIs (action.ShiftOnce sh) p s size.Zero bytes four body → IsSpellable body.instr
    → marks + (length (option_to_list rex) + (1 + ((1 + tail_of s) + 0))) ≤ total
    → Beats body.instr (row.Group group.ShiftOnce size.Zero) total
unfolding operand_body operation_of form_of IsSpellable signed_of
once_case sh p s rex marks total bytes four body h sib is ok room =
    let P : Body → Type 0 = λ b. IsSpellable b.instr → Beats b.instr (row.Group group.ShiftOnce size.Zero) total in
    let spelt : Spelt p s rex marks bytes (signed_of (displacement_size s) bytes) =
    record { around = h; sib-is = sib; number = refl } in
    subst P (sym is) (λ ok'. shift_once sh (width_of p) (operand_in p s)
    (signed_of (displacement_size s) bytes) rex marks (tail_of s) total
    (fits_of p s rex marks bytes (signed_of (displacement_size s) bytes) spelt
    (operand-lt (operand_in p s) (signed_of (displacement_size s) bytes) ok'.0))
    (wide_of p rex marks h) room) ok

call_case : (p : Prefixes) (s : Selectors) (rex : Option ℕ) (marks total : ℕ) (bytes four : List ℕ) (body : Body)
    → Around p rex marks → is_some s.sib ≡ has_sib s.modrm
    → BodyIs (action.CallTarget) p s size.Zero bytes four body → IsSpellable body.instr
    → marks + (length (option_to_list rex) + (1 + ((1 + tail_of s) + 0))) ≤ total
    → Beats body.instr (row.Group group.Target size.Zero) total
unfolding operand_body operation_of form_of IsSpellable signed_of
call_case p s rex marks total bytes four body h sib is ok room =
    let P : Body → Type 0 = λ b. IsSpellable b.instr → Beats b.instr (row.Group group.Target size.Zero) total in
    let spelt : Spelt p s rex marks bytes (signed_of (displacement_size s) bytes) =
    record { around = h; sib-is = sib; number = refl } in
    subst P (sym is) (λ ok'. target_to 2 (operand_in p s) (signed_of (displacement_size s) bytes) rex marks
    (tail_of s) total
    (fits_of p s rex marks bytes (signed_of (displacement_size s) bytes) spelt
    (operand-lt (operand_in p s) (signed_of (displacement_size s) bytes) ok'.0)) refl room) ok

jump_case : (p : Prefixes) (s : Selectors) (rex : Option ℕ) (marks total : ℕ) (bytes four : List ℕ) (body : Body)
    → Around p rex marks → is_some s.sib ≡ has_sib s.modrm
    → BodyIs (action.JumpTarget) p s size.Zero bytes four body → IsSpellable body.instr
    → marks + (length (option_to_list rex) + (1 + ((1 + tail_of s) + 0))) ≤ total
    → Beats body.instr (row.Group group.Target size.Zero) total
unfolding operand_body operation_of form_of IsSpellable signed_of
jump_case p s rex marks total bytes four body h sib is ok room =
    let P : Body → Type 0 = λ b. IsSpellable b.instr → Beats b.instr (row.Group group.Target size.Zero) total in
    let spelt : Spelt p s rex marks bytes (signed_of (displacement_size s) bytes) =
    record { around = h; sib-is = sib; number = refl } in
    subst P (sym is) (λ ok'. target_to 4 (operand_in p s) (signed_of (displacement_size s) bytes) rex marks
    (tail_of s) total
    (fits_of p s rex marks bytes (signed_of (displacement_size s) bytes) spelt
    (operand-lt (operand_in p s) (signed_of (displacement_size s) bytes) ok'.0)) refl room) ok

padding_case : (p : Prefixes) (s : Selectors) (rex : Option ℕ) (marks total : ℕ) (bytes four : List ℕ) (body : Body)
    → Around p rex marks → is_some s.sib ≡ has_sib s.modrm
    → BodyIs (action.Padding) p s size.Zero bytes four body → IsSpellable body.instr
    → marks + (length (option_to_list rex) + (2 + ((1 + tail_of s) + 0))) ≤ total
    → Beats body.instr (row.Group group.Nop size.Zero) total
unfolding operand_body operation_of form_of IsSpellable signed_of
padding_case p s rex marks total bytes four body h sib is ok room =
    let P : Body → Type 0 = λ b. IsSpellable b.instr → Beats b.instr (row.Group group.Nop size.Zero) total in
    let spelt : Spelt p s rex marks bytes (signed_of (displacement_size s) bytes) =
    record { around = h; sib-is = sib; number = refl } in
    subst P (sym is) (λ ok'. padding_to (operand_in p s) (signed_of (displacement_size s) bytes) rex marks
    (tail_of s) total
    (fits_of p s rex marks bytes (signed_of (displacement_size s) bytes) spelt
    (operand-lt (operand_in p s) (signed_of (displacement_size s) bytes) ok'.0)) room) ok

-- the parts behind an opcode with ModRM
operated_length : (p : Prefixes) (r : Row) (size : Size) (rest : List ℕ) (body : Body)
    (q : IsOperated p r size rest body)
    → length rest ≡ (1 + tail_of (record { modrm = q.modrm; sib = q.sib })) + count_of size
operated_length p r size rest body q =
    let w = ap (λ (t : List ℕ). length t) q.whole in
    let l1 = length-append (option_to_list q.sib) (q.displacement ++ q.immediate) in
    let l2 = length-append q.displacement q.immediate in
    let a = q.displacement-length in
    let b = q.immediate-length in
    omega arith

pub moved_body : (a b : Action) (p : Prefixes) (s : Selectors) (size : Size) (bytes four : List ℕ) (body : Body) → a ≡ b
    → BodyIs b p s size bytes four body → BodyIs a p s size bytes four body
moved_body a b p s size bytes four body e h = subst (λ (x : Action). BodyIs x p s size bytes four body) (sym e) h

group_case : (g : Group) (size : Size) (p : Prefixes) (rex : Option ℕ) (marks few total : ℕ) (rest : List ℕ)
    (body : Body) → Around p rex marks
    → IsOperated p (row.Group g size) size rest body → IsSpellable body.instr
    → Listed (bits_of p) (row.Group g size) few → marks + (length (option_to_list rex) + (few + length rest)) ≤ total
    → Beats body.instr (row.Group g size) total
unfolding group_action
group_case group.Move size.Zero p rex marks few total rest body h q ok (inl e) room = absurd (let t = e.0 in cc)
group_case group.Move size.Zero p rex marks few total rest body h q ok (inr (inl e)) room = absurd (let t = e.0 in cc)
group_case group.Move size.Zero p rex marks few total rest body h q ok (inr (inr e)) room = absurd (let t = e.0 in cc)
group_case group.Move size.One p rex marks few total rest body h q ok (inl e) room = absurd (let t = e.0 in cc)
group_case group.Move size.One p rex marks few total rest body h q ok (inr (inl e)) room = absurd (let t = e.0 in cc)
group_case group.Move size.One p rex marks few total rest body h q ok (inr (inr e)) room = absurd (let t = e.0 in cc)
group_case group.Move size.Four p rex marks few total rest body h q ok (inl e) room = let l =
    operated_length p (row.Group group.Move size.Four) size.Four rest body q in let n = e.1 in
    move_case p (record { modrm = q.modrm; sib = q.sib }) rex marks total q.displacement q.immediate body h q.has_sib
    (moved_body action.MoveImmediate q.action p
    (record { modrm = q.modrm; sib = q.sib }) size.Four q.displacement q.immediate body
    (some_is _ _ _ q.action-is) q.body-is) ok (omega arith)
group_case group.Move size.Four p rex marks few total rest body h q ok (inr (inl e)) room = absurd (let t = e.0 in cc)
group_case group.Move size.Four p rex marks few total rest body h q ok (inr (inr e)) room = absurd (let t = e.0 in cc)
group_case group.Move size.Eight p rex marks few total rest body h q ok (inl e) room = absurd (let t = e.0 in cc)
group_case group.Move size.Eight p rex marks few total rest body h q ok (inr (inl e)) room = absurd (let t = e.0 in cc)
group_case group.Move size.Eight p rex marks few total rest body h q ok (inr (inr e)) room = absurd (let t = e.0 in cc)
group_case group.Arithmetic size.Zero p rex marks few total rest body h q ok (inl e) room = absurd (let t = e.0 in cc)
group_case group.Arithmetic size.Zero p rex marks few total rest body h q ok (inr (inl e)) room =
    absurd (let t = e.0 in cc)
group_case group.Arithmetic size.Zero p rex marks few total rest body h q ok (inr (inr e)) room =
    absurd (let t = e.0 in cc)
group_case group.Arithmetic size.One p rex marks few total rest body h q ok (inl e) room = let l =
    operated_length p (row.Group group.Arithmetic size.One) size.One rest body q in let n = e.1 in
    let x = mapped_is action.ComputeImmediate _ _ q.action-is in
    short_case x.0 p (record
    { modrm = q.modrm; sib = q.sib }) rex marks total q.displacement q.immediate body h q.has_sib
    (moved_body (action.ComputeImmediate x.0) q.action p
    (record { modrm = q.modrm; sib = q.sib }) size.One q.displacement q.immediate body (x.1) q.body-is) ok
    (omega arith)
group_case group.Arithmetic size.One p rex marks few total rest body h q ok (inr (inl e)) room =
    absurd (let t = e.0 in cc)
group_case group.Arithmetic size.One p rex marks few total rest body h q ok (inr (inr e)) room =
    absurd (let t = e.0 in cc)
group_case group.Arithmetic size.Four p rex marks few total rest body h q ok (inl e) room = let l =
    operated_length p (row.Group group.Arithmetic size.Four) size.Four rest body q in let n = e.1 in
    let x = mapped_is action.ComputeImmediate _ _ q.action-is in long_case x.0 p
    (record { modrm = q.modrm; sib = q.sib }) rex marks total q.displacement q.immediate body h q.has_sib
    (moved_body (action.ComputeImmediate x.0) q.action p
    (record { modrm = q.modrm; sib = q.sib }) size.Four q.displacement q.immediate body (x.1) q.body-is) ok
    (omega arith)
group_case group.Arithmetic size.Four p rex marks few total rest body h q ok (inr (inl e)) room =
    absurd (let t = e.0 in cc)
group_case group.Arithmetic size.Four p rex marks few total rest body h q ok (inr (inr e)) room =
    absurd (let t = e.0 in cc)
group_case group.Arithmetic size.Eight p rex marks few total rest body h q ok (inl e) room = absurd (let t = e.0 in cc)
group_case group.Arithmetic size.Eight p rex marks few total rest body h q ok (inr (inl e)) room =
    absurd (let t = e.0 in cc)
group_case group.Arithmetic size.Eight p rex marks few total rest body h q ok (inr (inr e)) room =
    absurd (let t = e.0 in cc)
group_case group.Shift size.Zero p rex marks few total rest body h q ok (inl e) room = absurd (let t = e.0 in cc)
group_case group.Shift size.Zero p rex marks few total rest body h q ok (inr (inl e)) room = absurd (let t = e.0 in cc)
group_case group.Shift size.Zero p rex marks few total rest body h q ok (inr (inr e)) room = absurd (let t = e.0 in cc)
group_case group.Shift size.One p rex marks few total rest body h q ok (inl e) room = let l =
    operated_length p (row.Group group.Shift size.One) size.One rest body q in let n = e.1 in
    let x = mapped_is action.ShiftBy _ _ q.action-is in
    shift_case x.0 p (record
    { modrm = q.modrm; sib = q.sib }) rex marks total q.displacement q.immediate body h q.has_sib
    (moved_body (action.ShiftBy x.0) q.action p
    (record { modrm = q.modrm; sib = q.sib }) size.One q.displacement q.immediate body (x.1) q.body-is) ok
    (omega arith)
group_case group.Shift size.One p rex marks few total rest body h q ok (inr (inl e)) room = absurd (let t = e.0 in cc)
group_case group.Shift size.One p rex marks few total rest body h q ok (inr (inr e)) room = absurd (let t = e.0 in cc)
group_case group.Shift size.Four p rex marks few total rest body h q ok (inl e) room = absurd (let t = e.0 in cc)
group_case group.Shift size.Four p rex marks few total rest body h q ok (inr (inl e)) room = absurd (let t = e.0 in cc)
group_case group.Shift size.Four p rex marks few total rest body h q ok (inr (inr e)) room = absurd (let t = e.0 in cc)
group_case group.Shift size.Eight p rex marks few total rest body h q ok (inl e) room = absurd (let t = e.0 in cc)
group_case group.Shift size.Eight p rex marks few total rest body h q ok (inr (inl e)) room = absurd (let t = e.0 in cc)
group_case group.Shift size.Eight p rex marks few total rest body h q ok (inr (inr e)) room = absurd (let t = e.0 in cc)
group_case group.ShiftOnce size.Zero p rex marks few total rest body h q ok (inl e) room = let l =
    operated_length p (row.Group group.ShiftOnce size.Zero) size.Zero rest body q in let n = e.1 in
    let x = mapped_is action.ShiftOnce _ _ q.action-is in
    once_case x.0 p (record
    { modrm = q.modrm; sib = q.sib }) rex marks total q.displacement q.immediate body h q.has_sib
    (moved_body (action.ShiftOnce x.0) q.action p
    (record { modrm = q.modrm; sib = q.sib }) size.Zero q.displacement q.immediate body (x.1) q.body-is) ok
    (omega arith)
group_case group.ShiftOnce size.Zero p rex marks few total rest body h q ok (inr (inl e)) room =
    absurd (let t = e.0 in cc)
group_case group.ShiftOnce size.Zero p rex marks few total rest body h q ok (inr (inr e)) room =
    absurd (let t = e.0 in cc)
group_case group.ShiftOnce size.One p rex marks few total rest body h q ok (inl e) room = absurd (let t = e.0 in cc)
group_case group.ShiftOnce size.One p rex marks few total rest body h q ok (inr (inl e)) room =
    absurd (let t = e.0 in cc)
group_case group.ShiftOnce size.One p rex marks few total rest body h q ok (inr (inr e)) room =
    absurd (let t = e.0 in cc)
group_case group.ShiftOnce size.Four p rex marks few total rest body h q ok (inl e) room = absurd (let t = e.0 in cc)
group_case group.ShiftOnce size.Four p rex marks few total rest body h q ok (inr (inl e)) room =
    absurd (let t = e.0 in cc)
group_case group.ShiftOnce size.Four p rex marks few total rest body h q ok (inr (inr e)) room =
    absurd (let t = e.0 in cc)
group_case group.ShiftOnce size.Eight p rex marks few total rest body h q ok (inl e) room = absurd (let t = e.0 in cc)
group_case group.ShiftOnce size.Eight p rex marks few total rest body h q ok (inr (inl e)) room =
    absurd (let t = e.0 in cc)
group_case group.ShiftOnce size.Eight p rex marks few total rest body h q ok (inr (inr e)) room =
    absurd (let t = e.0 in cc)
group_case group.Target size.Zero p rex marks few total rest body h q ok (inl e) room = let l =
    operated_length p (row.Group group.Target size.Zero) size.Zero rest body q in let n = e.1 in
    elim (chosen (eqb ((q.modrm / 8) % 8) 2) _ _ _ q.action-is) [
      | inl t ↦ call_case p
          (record { modrm = q.modrm; sib = q.sib }) rex marks total q.displacement q.immediate body h q.has_sib
          (moved_body action.CallTarget q.action p
          (record { modrm = q.modrm; sib = q.sib }) size.Zero q.displacement q.immediate body
          (let u = t.1 in cc) q.body-is)
          ok (omega arith)
      | inr t ↦ jump_case p (record
          { modrm = q.modrm; sib = q.sib }) rex marks total q.displacement q.immediate body h q.has_sib
          (moved_body action.JumpTarget q.action p
          (record { modrm = q.modrm; sib = q.sib }) size.Zero q.displacement q.immediate body
          (some_is _ _ _ t.1) q.body-is) ok (omega arith)
    ]
group_case group.Target size.Zero p rex marks few total rest body h q ok (inr (inl e)) room = absurd (let t = e.0 in cc)
group_case group.Target size.Zero p rex marks few total rest body h q ok (inr (inr e)) room = absurd (let t = e.0 in cc)
group_case group.Target size.One p rex marks few total rest body h q ok (inl e) room = absurd (let t = e.0 in cc)
group_case group.Target size.One p rex marks few total rest body h q ok (inr (inl e)) room = absurd (let t = e.0 in cc)
group_case group.Target size.One p rex marks few total rest body h q ok (inr (inr e)) room = absurd (let t = e.0 in cc)
group_case group.Target size.Four p rex marks few total rest body h q ok (inl e) room = absurd (let t = e.0 in cc)
group_case group.Target size.Four p rex marks few total rest body h q ok (inr (inl e)) room = absurd (let t = e.0 in cc)
group_case group.Target size.Four p rex marks few total rest body h q ok (inr (inr e)) room = absurd (let t = e.0 in cc)
group_case group.Target size.Eight p rex marks few total rest body h q ok (inl e) room = absurd (let t = e.0 in cc)
group_case group.Target size.Eight p rex marks few total rest body h q ok (inr (inl e)) room =
    absurd (let t = e.0 in cc)
group_case group.Target size.Eight p rex marks few total rest body h q ok (inr (inr e)) room =
    absurd (let t = e.0 in cc)
group_case group.Nop size.Zero p rex marks few total rest body h q ok (inl e) room = absurd (let t = e.0 in cc)
group_case group.Nop size.Zero p rex marks few total rest body h q ok (inr (inl e)) room = let l =
    operated_length p (row.Group group.Nop size.Zero) size.Zero rest body q in let n = e.1 in
    padding_case p (record { modrm = q.modrm; sib = q.sib }) rex marks total q.displacement q.immediate body h q.has_sib
    (moved_body action.Padding q.action p
    (record { modrm = q.modrm; sib = q.sib }) size.Zero q.displacement q.immediate body
    (some_is _ _ _ q.action-is) q.body-is) ok (omega arith)
group_case group.Nop size.Zero p rex marks few total rest body h q ok (inr (inr e)) room = absurd (let t = e.0 in cc)
group_case group.Nop size.One p rex marks few total rest body h q ok (inl e) room = absurd (let t = e.0 in cc)
group_case group.Nop size.One p rex marks few total rest body h q ok (inr (inl e)) room = absurd (let t = e.0 in cc)
group_case group.Nop size.One p rex marks few total rest body h q ok (inr (inr e)) room = absurd (let t = e.0 in cc)
group_case group.Nop size.Four p rex marks few total rest body h q ok (inl e) room = absurd (let t = e.0 in cc)
group_case group.Nop size.Four p rex marks few total rest body h q ok (inr (inl e)) room = absurd (let t = e.0 in cc)
group_case group.Nop size.Four p rex marks few total rest body h q ok (inr (inr e)) room = absurd (let t = e.0 in cc)
group_case group.Nop size.Eight p rex marks few total rest body h q ok (inl e) room = absurd (let t = e.0 in cc)
group_case group.Nop size.Eight p rex marks few total rest body h q ok (inr (inl e)) room = absurd (let t = e.0 in cc)
group_case group.Nop size.Eight p rex marks few total rest body h q ok (inr (inr e)) room = absurd (let t = e.0 in cc)

-- ---- a number alone

number_case : (a : Numbered) (size : Size) (p : Prefixes) (rex : Option ℕ) (marks few total : ℕ) (rest : List ℕ)
    → Around p rex marks
    → IsSpellable (numbered_body a (width_of p) size (signed_of size rest)).instr
    → Listed (bits_of p) (row.Number a size) few → marks + (length (option_to_list rex) + (few + count_of size)) ≤ total
    → Beats (numbered_body a (width_of p) size (signed_of size rest)).instr (row.Number a size) total
unfolding numbered_body IsSpellable signed_of
number_case (numbered.Call) size.Zero p rex marks few total rest h ok (inl e) room = absurd (let t = e.0 in cc)
number_case (numbered.Call) size.Zero p rex marks few total rest h ok (inr (inl e)) room = absurd (let t = e.0 in cc)
number_case (numbered.Call) size.Zero p rex marks few total rest h ok (inr (inr e)) room = absurd (let t = e.0 in cc)
number_case (numbered.Call) size.One p rex marks few total rest h ok (inl e) room = absurd (let t = e.0 in cc)
number_case (numbered.Call) size.One p rex marks few total rest h ok (inr (inl e)) room = absurd (let t = e.0 in cc)
number_case (numbered.Call) size.One p rex marks few total rest h ok (inr (inr e)) room = absurd (let t = e.0 in cc)
number_case (numbered.Call) size.Four p rex marks few total rest h ok (inl e) room = let n = e.1 in
    called (signed_long_of (from_le_bytes w32 rest)) 0 0 rex marks total (omega arith)
number_case (numbered.Call) size.Four p rex marks few total rest h ok (inr (inl e)) room = absurd (let t = e.0 in cc)
number_case (numbered.Call) size.Four p rex marks few total rest h ok (inr (inr e)) room = absurd (let t = e.0 in cc)
number_case (numbered.Call) size.Eight p rex marks few total rest h ok (inl e) room = absurd (let t = e.0 in cc)
number_case (numbered.Call) size.Eight p rex marks few total rest h ok (inr (inl e)) room = absurd (let t = e.0 in cc)
number_case (numbered.Call) size.Eight p rex marks few total rest h ok (inr (inr e)) room = absurd (let t = e.0 in cc)
number_case (numbered.Jump) size.Zero p rex marks few total rest h ok (inl e) room = absurd (let t = e.0 in cc)
number_case (numbered.Jump) size.Zero p rex marks few total rest h ok (inr (inl e)) room = absurd (let t = e.0 in cc)
number_case (numbered.Jump) size.Zero p rex marks few total rest h ok (inr (inr e)) room = absurd (let t = e.0 in cc)
number_case (numbered.Jump) size.One p rex marks few total rest h ok (inl e) room = let n = e.1 in
    jumped_short (signed_byte_of (slice_index rest 0)) 0 0 rex marks total
    (signed_byte_fits (slice_index rest 0) (long-lt (signed_byte_of (slice_index rest 0)) ok.1)) (omega arith)
number_case (numbered.Jump) size.One p rex marks few total rest h ok (inr (inl e)) room = absurd (let t = e.0 in cc)
number_case (numbered.Jump) size.One p rex marks few total rest h ok (inr (inr e)) room = absurd (let t = e.0 in cc)
number_case (numbered.Jump) size.Four p rex marks few total rest h ok (inl e) room = let n = e.1 in
    jumped_long (signed_long_of (from_le_bytes w32 rest)) 0 0 rex marks total (omega arith)
number_case (numbered.Jump) size.Four p rex marks few total rest h ok (inr (inl e)) room = absurd (let t = e.0 in cc)
number_case (numbered.Jump) size.Four p rex marks few total rest h ok (inr (inr e)) room = absurd (let t = e.0 in cc)
number_case (numbered.Jump) size.Eight p rex marks few total rest h ok (inl e) room = absurd (let t = e.0 in cc)
number_case (numbered.Jump) size.Eight p rex marks few total rest h ok (inr (inl e)) room = absurd (let t = e.0 in cc)
number_case (numbered.Jump) size.Eight p rex marks few total rest h ok (inr (inr e)) room = absurd (let t = e.0 in cc)
number_case (numbered.JumpIf c) size.Zero p rex marks few total rest h ok (inl e) room = absurd (let t = e.0 in cc)
number_case (numbered.JumpIf c) size.Zero p rex marks few total rest h ok (inr (inl e)) room =
    absurd (let t = e.0 in cc)
number_case (numbered.JumpIf c) size.Zero p rex marks few total rest h ok (inr (inr e)) room =
    absurd (let t = e.0 in cc)
number_case (numbered.JumpIf c) size.One p rex marks few total rest h ok (inl e) room = let n = e.1 in
    jumped_if_short c (signed_byte_of (slice_index rest 0)) 0 0 rex marks total
    (signed_byte_fits (slice_index rest 0) (long-lt (signed_byte_of (slice_index rest 0)) ok.1)) (omega arith)
number_case (numbered.JumpIf c) size.One p rex marks few total rest h ok (inr (inl e)) room = absurd (let t = e.0 in cc)
number_case (numbered.JumpIf c) size.One p rex marks few total rest h ok (inr (inr e)) room = absurd (let t = e.0 in cc)
number_case (numbered.JumpIf c) size.Four p rex marks few total rest h ok (inl e) room = absurd (let t = e.0 in cc)
number_case (numbered.JumpIf c) size.Four p rex marks few total rest h ok (inr (inl e)) room = let n = e.1 in
    jumped_if_long c (signed_long_of (from_le_bytes w32 rest)) 0 0 rex marks total (omega arith)
number_case (numbered.JumpIf c) size.Four p rex marks few total rest h ok (inr (inr e)) room =
    absurd (let t = e.0 in cc)
number_case (numbered.JumpIf c) size.Eight p rex marks few total rest h ok (inl e) room = absurd (let t = e.0 in cc)
number_case (numbered.JumpIf c) size.Eight p rex marks few total rest h ok (inr (inl e)) room =
    absurd (let t = e.0 in cc)
number_case (numbered.JumpIf c) size.Eight p rex marks few total rest h ok (inr (inr e)) room =
    absurd (let t = e.0 in cc)
number_case (numbered.Move r) size.Zero p rex marks few total rest h ok (inl e) room = absurd (let t = e.0 in cc)
number_case (numbered.Move r) size.Zero p rex marks few total rest h ok (inr (inl e)) room = absurd (let t = e.0 in cc)
number_case (numbered.Move r) size.Zero p rex marks few total rest h ok (inr (inr e)) room = absurd (let t = e.0 in cc)
number_case (numbered.Move r) size.One p rex marks few total rest h ok (inl e) room = absurd (let t = e.0 in cc)
number_case (numbered.Move r) size.One p rex marks few total rest h ok (inr (inl e)) room = absurd (let t = e.0 in cc)
number_case (numbered.Move r) size.One p rex marks few total rest h ok (inr (inr e)) room = absurd (let t = e.0 in cc)
number_case (numbered.Move r) size.Four p rex marks few total rest h ok (inl e) room = let n = e.1 in
    moved_long p rex marks r (signed_long_of (from_le_bytes w32 rest)) total h e.0 (omega arith)
number_case (numbered.Move r) size.Four p rex marks few total rest h ok (inr (inl e)) room = absurd (let t = e.0 in cc)
number_case (numbered.Move r) size.Four p rex marks few total rest h ok (inr (inr e)) room = absurd (let t = e.0 in cc)
number_case (numbered.Move r) size.Eight p rex marks few total rest h ok (inl e) room = let n = e.1 in
    moved_quad p rex marks r (from_le_bytes w64 rest) total h e.0 (omega arith)
number_case (numbered.Move r) size.Eight p rex marks few total rest h ok (inr (inl e)) room = absurd (let t = e.0 in cc)
number_case (numbered.Move r) size.Eight p rex marks few total rest h ok (inr (inr e)) room = absurd (let t = e.0 in cc)
number_case (numbered.Compute a) size.Zero p rex marks few total rest h ok (inl e) room = absurd (let t = e.0 in cc)
number_case (numbered.Compute a) size.Zero p rex marks few total rest h ok (inr (inl e)) room =
    absurd (let t = e.0 in cc)
number_case (numbered.Compute a) size.Zero p rex marks few total rest h ok (inr (inr e)) room =
    absurd (let t = e.0 in cc)
number_case (numbered.Compute a) size.One p rex marks few total rest h ok (inl e) room = absurd (let t = e.0 in cc)
number_case (numbered.Compute a) size.One p rex marks few total rest h ok (inr (inl e)) room =
    absurd (let t = e.0 in cc)
number_case (numbered.Compute a) size.One p rex marks few total rest h ok (inr (inr e)) room =
    absurd (let t = e.0 in cc)
number_case (numbered.Compute a) size.Four p rex marks few total rest h ok (inl e) room = let n = e.1 in
    computed_rax p rex marks a (signed_long_of (from_le_bytes w32 rest)) total h (omega arith)
number_case (numbered.Compute a) size.Four p rex marks few total rest h ok (inr (inl e)) room =
    absurd (let t = e.0 in cc)
number_case (numbered.Compute a) size.Four p rex marks few total rest h ok (inr (inr e)) room =
    absurd (let t = e.0 in cc)
number_case (numbered.Compute a) size.Eight p rex marks few total rest h ok (inl e) room = absurd (let t = e.0 in cc)
number_case (numbered.Compute a) size.Eight p rex marks few total rest h ok (inr (inl e)) room =
    absurd (let t = e.0 in cc)
number_case (numbered.Compute a) size.Eight p rex marks few total rest h ok (inr (inr e)) room =
    absurd (let t = e.0 in cc)

alone_case : (op : Operation) (p : Prefixes) (rex : Option ℕ) (marks few total : ℕ) → Around p rex marks
    → Listed (bits_of p) (row.Alone op) few
    → marks + (length (option_to_list rex) + few) ≤ total → BeatsIn (form_of op 0) 0 (row.Alone op) total
alone_case op p rex marks few total h (inl e) room = alone_beats op p rex marks few 0 0 total h (inl e) room
alone_case op p rex marks few total h (inr (inl e)) room = alone_beats op p rex marks few 0 0 total h (inr e) room
alone_case op p rex marks few total h (inr (inr e)) room = absurd (let t = e.0 in cc)

pub nop_few : (rex : Rex) (few : ℕ) → Listed rex row.Nop few → few ≡ 1
nop_few rex few (inl e) = e.1
nop_few rex few (inr (inl e)) = absurd (let t = e.0 in cc)
nop_few rex few (inr (inr e)) = absurd (let t = e.0 in cc)

branch_few : (rex : Rex) (few : ℕ) → Listed rex row.EndBranch few → few ≡ 4
branch_few rex few (inl e) = absurd (let t = e.0 in cc)
branch_few rex few (inr (inl e)) = absurd (let t = e.0 in cc)
branch_few rex few (inr (inr e)) = e.1

zero_number : (a : Action) (p : Prefixes) (s : Selectors) (bytes none : List ℕ) (body : Body)
    → BodyIs a p s size.Zero bytes none body
    → body ≡ operand_body a p s size.Zero
    (record { displacement = signed_of (displacement_size s) bytes; immediate = 0 })
unfolding signed_of
zero_number a p s bytes none body h = h

-- any row
body_beats : (r : Row) (p : Prefixes) (rex : Option ℕ) (marks few total : ℕ) (rest : List ℕ) (body : Body)
    → Around p rex marks → HasBody p r rest body → IsSpellable body.instr
    → Listed (bits_of p) r few → marks + (length (option_to_list rex) + (few + length rest)) ≤ total
    → Beats body.instr r total
body_beats (row.Alone op) p rex marks few total rest body h is ok way room =
    rw (is.1) (alone_case op p rex marks few total h way (omega arith))
body_beats row.Nop p rex marks few total rest body h is ok way room =
    rw (is.1) (let n = nop_few (bits_of p) few way in nop_beats 0 0 rex marks total (omega arith))
body_beats row.EndBranch p rex marks few total rest body h is ok way room =
    rw (is.1) (let n = branch_few (bits_of p) few way in branch_beats 0 0 rex marks total (omega arith))
body_beats (row.Number a size) p rex marks few total rest body h is ok way room =
    let P : Body → Type 0 = λ b. IsSpellable b.instr → Beats b.instr (row.Number a size) total in
    let n = is.0 in
    subst P (sym is.1) (λ ok'. number_case a size p rex marks few total rest h ok' way (omega arith)) ok
body_beats (row.Register a) p rex marks few total rest body h q ok way room =
    register_operated a p rex marks few total rest body h q ok way room
  where
    register_operated : (a : Action) (p : Prefixes) (rex : Option ℕ) (marks few total : ℕ) (rest : List ℕ) (body : Body)
        → Around p rex marks
        → IsOperated p (row.Register a) size.Zero rest body → IsSpellable body.instr
        → Listed (bits_of p) (row.Register a) few → marks + (length (option_to_list rex) + (few + length rest)) ≤ total
        → Beats body.instr (row.Register a) total
    register_operated a p rex marks few total rest body h q ok way room =
        let s : Selectors = record { modrm = q.modrm; sib = q.sib } in
        let e : a ≡ q.action = let t = q.action-is in cc in
        let l = operated_length p (row.Register a) size.Zero rest body q in
        register_case a p s rex marks few total q.displacement body h q.has_sib
        (zero_number a p s q.displacement q.immediate body
        (moved_body a q.action p s size.Zero q.displacement q.immediate body e q.body-is))
        (subst (λ (x : Action). allowed x p q.modrm ≡ true) (sym e) q.allows) ok way (omega arith)
body_beats (row.Group g size) p rex marks few total rest body h q ok way room =
    group_case g size p rex marks few total rest body h q ok way room

-- ---- the whole

fs_some : (marks : List ℕ) → list_any (λ byte. eqb byte 0x64) marks ≡ true → 1 ≤ length marks
fs_some [] h = absurd cc
fs_some (b ∷ bs) h = omega arith

around : (marks : List ℕ) (rex : Option ℕ) → Around (prefixes_of marks rex) rex (length marks)
around marks rex = record { fs = fs_some marks; none = λ n. rw (n) refl; no_rex = λ n. rw (n) refl }

-- no spelling is shorter than the form, and one as short has no earlier line
pub spelled_beats : (other : List ℕ) (d : Decoded) (h : Spells other d) → IsSpellable d.instr
    → Beats d.instr h.parts.row (length other)
spelled_beats other d h ok =
    let q = h.parts in
    let way = listed (bits_of (prefixes_of q.marks q.rex)) q.opcode q.row q.row-is in
    let w = ap (λ (t : List ℕ). length t) q.whole in
    let l1 = length-append q.marks (option_to_list q.rex ++ (q.opcode ++ q.rest)) in
    let l2 = length-append (option_to_list q.rex) (q.opcode ++ q.rest) in
    let l3 = length-append q.opcode q.rest in
    let same : d.instr ≡ h.body.instr = ap (λ (x : Decoded). x.instr) h.decoded-is in
    let ok' : IsSpellable h.body.instr = subst IsSpellable same ok in
    let b = body_beats q.row (prefixes_of q.marks q.rex) q.rex (length q.marks) (length q.opcode)
    (length other) q.rest h.body (around q.marks q.rex) q.has_body ok' way (omega arith) in
    subst (λ (x : Instr). Beats x q.row (length other)) (sym same) b

-- the form of an instruction is its canonical spelling
pub canonical : (instr : Instr) → IsSpellable instr → IsCanonical instr (spelling_of instr)
unfolding spelling_of IsSpellable
canonical instr ok =
    let form = form_of instr.operation instr.immediate in
    let sp = spelling_from form instr.displacement (made instr.operation instr.displacement instr.immediate)
    (built instr.operation instr.displacement instr.immediate ok) in
    let beats : (other : List ℕ) (d : Decoded) (h : Spells other d) → d.instr ≡ instr
    → Beats instr h.parts.row (length other) =
    λ other d h e. subst (λ (x : Instr). Beats x h.parts.row (length other)) e
    (spelled_beats other d h (subst IsSpellable (sym e) ok)) in
    record {
      body = sp.body;
      parts = sp.parts;
      instr-is = sp.instr-is;
      short = sp.short;
      no_redundant = sp.no_redundant;
      shortest = λ other d h e. (beats other d h e).most;
      first = λ other d h e same. (beats other d h e).line (omega arith) sp.parts.row sp.row-is;
    }
