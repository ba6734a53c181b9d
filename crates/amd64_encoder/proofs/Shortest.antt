-- No spelling is shorter than the form of its instruction, and one as short has no earlier line: row by row.
use Rattle.std.proofs.Common.{◌≡◌, ℕ, ◌+◌, ◌*◌, ◌/◌, ◌%◌, ◌^◌, ◌<◌, ◌≤◌, Bool, true, false, eqb, ltb, leb, List, []}
use Rattle.std.proofs.Common.{◌∷◌, length, Option, Some, None, refl, ap, subst, arith, inl, inr, ◌⊎◌}
use Rattle.std.specs.Prelude.{◌&&◌, ◌||◌, is_some}
use Rattle.std.specs.Option.{option_to_list}
use Rattle.std.proofs.lemmas.Bool.{ltb-true}
use Rattle.amd64_words.specs.declared.register.Register.{Register}
use Rattle.amd64_subset.specs.declared.operand.Operand.{Operand}
use Rattle.amd64_subset.specs.declared.operand.Operand.TheVariants as operand
use Rattle.amd64_subset.specs.declared.operand.Operands.TheVariants.{IntoRegister}
use Rattle.amd64_subset.specs.declared.instr.Width.{Width}
use Rattle.amd64_subset.specs.declared.instr.Arithmetic.{Arithmetic}
use Rattle.amd64_subset.specs.declared.instr.Operation.TheVariants as operation
use Rattle.amd64_subset.specs.declared.prefix.Rex.{Rex}
use Rattle.amd64_subset.specs.declared.prefix.Prefixes.{Prefixes}
use Rattle.amd64_words.specs.declared.size.Size.{Size}
use Rattle.amd64_words.specs.declared.size.Size.TheVariants as size
use Rattle.amd64_subset.specs.declared.row.Row.{Row}
use Rattle.amd64_subset.specs.declared.row.Row.TheVariants as row
use Rattle.amd64_subset.specs.declared.row.Action.{Action}
use Rattle.amd64_subset.specs.declared.row.Action.TheVariants as action
use Rattle.amd64_subset.specs.declared.selectors.Selectors.{Selectors}
use Rattle.amd64_encoder.specs.declared.form.Form.{Form}
use Rattle.amd64_subset.specs.Number.{count_of, signed_of}
use Rattle.amd64_subset.specs.Register.{number_of, extended}
use Rattle.amd64_subset.specs.Prefix.{bits_of, no_bits}
use Rattle.amd64_subset.specs.Row.{row_of, fixed_row_of, escaped_row_of}
use Rattle.amd64_subset.specs.Selectors.{has_sib, displacement_size, allowed, allows_register, byte_register}
use Rattle.amd64_subset.specs.Selectors.{register_in, memory_in, operand_in}
use Rattle.amd64_subset.specs.Meaning.{width_of, into_operand, operation_of}
use Rattle.amd64_subset.specs.Spelling.{named}
use Rattle.amd64_encoder.specs.Form.{is_quad, arithmetic_number, needs_rex, two_operands, form_of}
use Rattle.amd64_encoder.specs.Writing.{is_high, high_base, high_index, rex_bits, when, opcode_bytes, form_bytes}
use Rattle.amd64_encoder.specs.Canonical.{IsOperand, IsOperation, line_of}
use Rattle.amd64_encoder.proofs.Digits.{bits, long-lt, extended-number}
use Rattle.amd64_encoder.proofs.Named.{into_row, from_row}
use Rattle.amd64_encoder.proofs.Operated.{selected}
use Rattle.amd64_encoder.proofs.Costs.{Fits, register_fits, operand_fits, low_extended, selected_most}
use Rattle.amd64_encoder.proofs.Listed.{is_short, is_long}

-- the form is not longer than this size, and at this size its line is not later than this row's
pub record BeatsIn (form : Form) (d : ℕ) (r : Row) (size : ℕ) : Type 0 where
  pub most : length (form_bytes form d) ≤ size
  pub line : size ≤ length (form_bytes form d) → (mine : Row) → named (rex_bits form) (opcode_bytes form) ≡ Some mine
      → line_of mine ≤ line_of r

pub beats_row : (form : Form) (d : ℕ) (r mine : Row) (size : ℕ) → length (form_bytes form d) ≤ size
    → named (rex_bits form) (opcode_bytes form) ≡ Some mine
    → line_of mine ≤ line_of r → BeatsIn form d r size
beats_row form d r mine size most names le = record {
  most = most;
  line = λ h other e. let same : mine ≡ other = cc in subst (λ (x : Row). line_of x ≤ line_of r) same le;
}

pub beats_less : (form : Form) (d : ℕ) (r : Row) (size : ℕ) → length (form_bytes form d) < size → BeatsIn form d r size
beats_less form d r size less = record { most = omega arith; line = λ h other e. absurd (omega arith) }

-- what stands before the opcode of a spelling
pub record Around (p : Prefixes) (rex : Option ℕ) (marks : ℕ) : Type 0 where
  pub fs : p.thread_pointer ≡ true → 1 ≤ marks
  pub none : rex ≡ None → bits_of p ≡ no_bits
  pub no_rex : rex ≡ None → p.rex ≡ None

-- and what stands behind it
pub record Spelt (p : Prefixes) (s : Selectors) (rex : Option ℕ) (marks : ℕ) (bytes : List ℕ) (d : ℕ) : Type 0 where
  pub around : Around p rex marks
  pub sib-is : is_some s.sib ≡ has_sib s.modrm
  pub number : signed_of (displacement_size s) bytes ≡ d

abbrev pub tail_of : Selectors → ℕ
tail_of s = length (option_to_list s.sib) + count_of (displacement_size s)

pub operand-lt : (o : Operand) (d : ℕ) → IsOperand o d → d < 2 ^ 64
operand-lt (operand.Register r) d h = omega arith
operand-lt (operand.InMemory m) d h = long-lt d h.1

pub fits_of : (p : Prefixes) (s : Selectors) (rex : Option ℕ) (marks : ℕ) (bytes : List ℕ) (d : ℕ)
    → Spelt p s rex marks bytes d → d < 2 ^ 64 → Fits rex marks (tail_of s) (operand_in p s) d
fits_of p s rex marks bytes d h lt = operand_fits p s rex marks bytes d h.around.fs h.around.none h.sib-is h.number lt

high_of : (p : Prefixes) (s : Selectors) (rex : Option ℕ) (marks : ℕ) → Around p rex marks → rex ≡ None
    → is_high (register_in p s) ≡ false
high_of p s rex marks h n = let z = h.none n in rw (z) (low_extended ((s.modrm / 8) % 8) (omega arith))

pub wide_of : (p : Prefixes) (rex : Option ℕ) (marks : ℕ) → Around p rex marks → rex ≡ None
    → is_quad (width_of p) ≡ false
wide_of p rex marks h n = let z = h.none n in rw (z) refl

-- the same row, or an earlier line
pub same : (escaped : Bool) (opcode : ℕ) (w low : Bool) (f : ℕ) (o : Operand) (size : Size) (number d : ℕ)
    (rex : Option ℕ) (marks tail : ℕ) (r mine : Row) (total : ℕ) → Fits rex marks tail o d
    → (rex ≡ None → low ≡ false) → (rex ≡ None → w ≡ false) → (rex ≡ None → leb 8 f ≡ false)
    → named (bits w (leb 8 f) (high_index o) (high_base o))
    (opcode_bytes (selected escaped opcode w low f o size number)) ≡ Some mine → line_of mine ≤ line_of r
    → marks + (length (option_to_list rex)
    + ((length (option_to_list (when escaped 0x0f)) + 1) + ((1 + tail) + count_of size))) ≤ total
    → BeatsIn (selected escaped opcode w low f o size number) d r total
same escaped opcode w low f o size number d rex marks tail r mine total fits l wide high names le room =
    let most = selected_most escaped opcode w low f o size number d rex marks tail fits l wide high in
    beats_row (selected escaped opcode w low f o size number) d r mine total (omega arith) names le

pub less : (escaped : Bool) (opcode : ℕ) (w low : Bool) (f : ℕ) (o : Operand) (size : Size) (number d : ℕ)
    (rex : Option ℕ) (marks tail : ℕ) (r : Row) (total : ℕ) → Fits rex marks tail o d
    → (rex ≡ None → low ≡ false) → (rex ≡ None → w ≡ false) → (rex ≡ None → leb 8 f ≡ false)
    → marks + (length (option_to_list rex)
    + ((length (option_to_list (when escaped 0x0f)) + 1) + ((1 + tail) + count_of size))) < total
    → BeatsIn (selected escaped opcode w low f o size number) d r total
less escaped opcode w low f o size number d rex marks tail r total fits l wide high room =
    let most = selected_most escaped opcode w low f o size number d rex marks tail fits l wide high in
    beats_less (selected escaped opcode w low f o size number) d r total (omega arith)

-- ---- two operands

-- a register into an operand, and an operand into a register: of two registers the former
into_beats : (base : ℕ) (into from : Action) (width : Width) (r : Register) (o : Operand) (d : ℕ) (rex : Option ℕ)
    (marks tail total : ℕ)
    → Fits rex marks tail o d → (rex ≡ None → is_high r ≡ false) → (rex ≡ None → is_quad width ≡ false)
    → ((b : Rex) → named b ((base + 1) ∷ []) ≡ Some (row.Register into))
    → marks + (length (option_to_list rex) + (1 + ((1 + tail) + 0))) ≤ total
    → BeatsIn (two_operands base width (into_operand o r)) d (row.Register into) total
into_beats base into from width r (operand.Register to) d rex marks tail total fits high wide names room =
    same false (base + 1) (is_quad width) false (number_of r) (operand.Register to) size.Zero 0 d rex marks tail
    (row.Register into)
    (row.Register into) total fits (λ n. refl) wide high (names _) (omega arith) room
into_beats base into from width r (operand.InMemory m) d rex marks tail total fits high wide names room =
    same false (base + 1) (is_quad width) false (number_of r) (operand.InMemory m) size.Zero 0 d rex marks tail
    (row.Register into)
    (row.Register into) total fits (λ n. refl) wide high (names _) (omega arith) room

from_beats : (base : ℕ) (into from : Action) (width : Width) (r : Register) (o : Operand) (d : ℕ) (rex : Option ℕ)
    (marks tail total : ℕ)
    → Fits rex marks tail o d → (rex ≡ None → is_high r ≡ false) → (rex ≡ None → is_quad width ≡ false)
    → ((b : Rex) → named b ((base + 1) ∷ []) ≡ Some (row.Register into))
    → ((b : Rex) → named b ((base + 3) ∷ []) ≡ Some (row.Register from))
    → line_of (row.Register into) ≤ line_of (row.Register from)
    → marks + (length (option_to_list rex) + (1 + ((1 + tail) + 0))) ≤ total
    → BeatsIn (two_operands base width (IntoRegister r o)) d (row.Register from) total
from_beats base into from width r (operand.Register q) d rex marks tail total fits high wide names other le room =
    same false (base + 1) (is_quad width) false (number_of q) (operand.Register r) size.Zero 0 d rex marks tail
    (row.Register from) (row.Register into) total
    (register_fits rex marks tail r d high) (λ n. refl) wide fits.base (names _) le room
from_beats base into from width r (operand.InMemory m) d rex marks tail total fits high wide names other le room =
    same false (base + 3) (is_quad width) false (number_of r) (operand.InMemory m) size.Zero 0 d rex marks tail
    (row.Register from)
    (row.Register from) total fits (λ n. refl) wide high (other _) (omega arith) room

-- two operands are a register and an operand
into-lt : (o : Operand) (r : Register) (width : Width) (d : ℕ)
    → IsOperation (operation.Move width (into_operand o r)) d 0 → d < 2 ^ 64
into-lt (operand.Register to) r width d h = let t = h.0 in omega arith
into-lt (operand.InMemory m) r width d h = long-lt d h.0.1

compute_into-lt : (o : Operand) (r : Register) (a : Arithmetic) (width : Width) (d : ℕ)
    → IsOperation (operation.Compute a width (into_operand o r)) d 0 → d < 2 ^ 64
compute_into-lt (operand.Register to) r a width d h = let t = h.0 in omega arith
compute_into-lt (operand.InMemory m) r a width d h = long-lt d h.0.1

move_form : (o : Operand) (r : Register) (width : Width)
    → form_of (operation.Move width (into_operand o r)) 0 ≡ two_operands 0x88 width (into_operand o r)
unfolding form_of
move_form (operand.Register to) r width = refl
move_form (operand.InMemory m) r width = refl

compute_form : (o : Operand) (r : Register) (a : Arithmetic) (width : Width)
    → form_of (operation.Compute a width (into_operand o r)) 0
    ≡ two_operands (8 * arithmetic_number a) width (into_operand o r)
unfolding form_of
compute_form (operand.Register to) r a width = refl
compute_form (operand.InMemory m) r a width = refl

-- ---- /r

abbrev pub opcode_size : Action → ℕ
opcode_size action.ExtendByte = 2
opcode_size action.MultiplyBy = 2
opcode_size a = 1

pub no_register : (a : Action) (p : Prefixes) (modrm : ℕ) → ((low : ℕ) → allows_register a p low ≡ false)
    → allowed a p modrm ≡ true → eqb (modrm / 64) 3 ≡ false
unfolding allowed
no_register a p modrm none h = go (eqb (modrm / 64) 3) refl
  where
    and_no : (x y : Bool) → (x && y) ≡ true → y ≡ false → ⊥
    and_no true y e f = cc
    and_no false y e f = cc

    go : (b : Bool) → eqb (modrm / 64) 3 ≡ b → eqb (modrm / 64) 3 ≡ false
    go false e = e
    go true e = absurd (let k = rw (e) at h in and_no _ _ k (none (modrm % 8)))

pub in_memory : (p : Prefixes) (s : Selectors) → eqb (s.modrm / 64) 3 ≡ false
    → operand_in p s ≡ operand.InMemory (memory_in p s)
in_memory p s e = rw (e) refl

-- a byte register without REX is one of the first four
byte_low : (p : Prefixes) (r : Register) (low : ℕ) → number_of r ≡ low → p.rex ≡ None → byte_register p low ≡ true
    → leb 4 (number_of r) ≡ false
byte_low p r low is none h =
    let t : ltb low 4 ≡ true = go (ltb low 4) (rw (none) at h) in
    let l = ltb-true low 4 t in
    grind arith
  where
    go : (b : Bool) → (b || false) ≡ true → b ≡ true
    go true e = refl
    go false e = absurd cc

extend_low : (p : Prefixes) (s : Selectors) (rex : Option ℕ) (marks : ℕ) → Around p rex marks
    → allowed action.ExtendByte p s.modrm ≡ true → rex ≡ None → needs_rex (operand_in p s) ≡ false
unfolding allowed
extend_low p s rex marks h ok n = go (eqb (s.modrm / 64) 3) refl
  where
    right : (x y : Bool) → (x && y) ≡ true → y ≡ true
    right true y e = e
    right false y e = absurd cc

    low : number_of (extended (s.modrm % 8) (bits_of p).base) ≡ s.modrm % 8
    low = let z = h.none n in let t = extended-number (s.modrm % 8) false (omega arith) in rw (z) (omega arith)

    go : (b : Bool) → eqb (s.modrm / 64) 3 ≡ b → needs_rex (operand_in p s) ≡ false
    go true e = rw (e) (let k = rw (e) at ok in
        byte_low p (extended (s.modrm % 8) (bits_of p).base) (s.modrm % 8) low (h.no_rex n) (right _ _ k))
    go false e = rw (e) refl

-- an action of the rows with a register
pub register_beats : (a : Action) (p : Prefixes) (s : Selectors) (rex : Option ℕ) (marks : ℕ) (bytes : List ℕ)
    (d total : ℕ) → Spelt p s rex marks bytes d → allowed a p s.modrm ≡ true
    → IsOperation (operation_of a p s 0) d 0
    → marks + (length (option_to_list rex) + (opcode_size a + ((1 + tail_of s) + 0))) ≤ total
    → (is_short (bits_of p) (row.Register a) ≡ true) ⊎ (is_long (row.Register a) ≡ true)
    → BeatsIn (form_of (operation_of a p s 0) 0) d (row.Register a) total
unfolding form_of operation_of named row_of fixed_row_of escaped_row_of line_of allowed
register_beats action.StoreByte p s rex marks bytes d total h ok is room listed =
    let three = no_register action.StoreByte p s.modrm (λ low. refl) ok in
    let fits : Fits rex marks (tail_of s) (operand.InMemory (memory_in p s)) d =
    subst (λ (o : Operand). Fits rex marks (tail_of s) o d) (in_memory p s three)
    (fits_of p s rex marks bytes d h (long-lt d is.0.1)) in
    let allows : byte_register p ((s.modrm / 8) % 8) ≡ true = rw (three) at ok in
    same false 0x88 false (leb 4 (number_of (register_in p s))) (number_of (register_in p s))
    (operand.InMemory (memory_in p s)) size.Zero 0 d rex marks
    (tail_of s) (row.Register action.StoreByte) (row.Register action.StoreByte) total fits
    (λ n. byte_low p (register_in p s) ((s.modrm / 8) % 8)
    (let z = h.around.none n in let t = extended-number ((s.modrm / 8) % 8) false (omega arith) in
    rw (z) (omega arith)) (h.around.no_rex n) allows)
    (λ n. refl) (high_of p s rex marks h.around) refl (omega arith) room
register_beats action.Store p s rex marks bytes d total h ok is room listed =
    rw (move_form (operand_in p s) (register_in p s) (width_of p))
    (into_beats 0x88 action.Store action.Load (width_of p) (register_in p s) (operand_in p s) d rex marks
    (tail_of s) total
    (fits_of p s rex marks bytes d h (into-lt (operand_in p s) (register_in p s) (width_of p) d is))
    (high_of p s rex marks h.around) (wide_of p rex marks h.around) (λ b. refl) room)
register_beats action.Load p s rex marks bytes d total h ok is room listed =
    from_beats 0x88 action.Store action.Load (width_of p) (register_in p s) (operand_in p s) d rex marks
    (tail_of s) total
    (fits_of p s rex marks bytes d h (operand-lt (operand_in p s) d is.0)) (high_of p s rex marks h.around)
    (wide_of p rex marks h.around) (λ b. refl) (λ b. refl) (omega arith) room
register_beats (action.ComputeInto a) p s rex marks bytes d total h ok is room listed =
    rw (compute_form (operand_in p s) (register_in p s) a (width_of p))
    (into_beats (8 * arithmetic_number a) (action.ComputeInto a) (action.ComputeFrom a) (width_of p) (register_in p s)
    (operand_in p s) d rex marks
    (tail_of s) total (fits_of p s rex marks bytes d h
    (compute_into-lt (operand_in p s) (register_in p s) a (width_of p) d is))
    (high_of p s rex marks h.around) (wide_of p rex marks h.around) (λ b. into_row b a) room)
register_beats (action.ComputeFrom a) p s rex marks bytes d total h ok is room listed =
    from_beats (8 * arithmetic_number a) (action.ComputeInto a) (action.ComputeFrom a) (width_of p) (register_in p s)
    (operand_in p s) d rex marks
    (tail_of s) total (fits_of p s rex marks bytes d h (operand-lt (operand_in p s) d is.0))
    (high_of p s rex marks h.around)
    (wide_of p rex marks h.around) (λ b. into_row b a) (λ b. from_row b a) (omega arith) room
register_beats action.ExtendByte p s rex marks bytes d total h ok is room listed =
    same true 0xb6 (is_quad (width_of p)) (needs_rex (operand_in p s)) (number_of (register_in p s))
    (operand_in p s) size.Zero 0 d rex marks (tail_of s)
    (row.Register action.ExtendByte) (row.Register action.ExtendByte) total
    (fits_of p s rex marks bytes d h (operand-lt (operand_in p s) d is.0))
    (extend_low p s rex marks h.around ok) (wide_of p rex marks h.around) (high_of p s rex marks h.around) refl
    (omega arith) room
register_beats action.ExtendLong p s rex marks bytes d total h ok is room listed =
    same false 0x63 true false (number_of (register_in p s)) (operand_in p s) size.Zero 0 d rex marks (tail_of s)
    (row.Register action.ExtendLong)
    (row.Register action.ExtendLong) total (fits_of p s rex marks bytes d h (operand-lt (operand_in p s) d is.0))
    (λ n. refl) (λ n. no_wide listed n) (high_of p s rex marks h.around) refl (omega arith) room
  where
    no_wide : (is_short (bits_of p) (row.Register action.ExtendLong) ≡ true)
        ⊎ (is_long (row.Register action.ExtendLong) ≡ true) → rex ≡ None → ◌≡◌ {A = Bool} true false
    no_wide (inl e) n = absurd (let z = ap (λ (y : Rex). y.wide) (h.around.none n) in cc)
    no_wide (inr e) n = absurd cc
register_beats action.LoadAddress p s rex marks bytes d total h ok is room listed =
    let three = no_register action.LoadAddress p s.modrm (λ low. refl) ok in
    let fits : Fits rex marks (tail_of s) (operand.InMemory (memory_in p s)) d =
    subst (λ (o : Operand). Fits rex marks (tail_of s) o d) (in_memory p s three)
    (fits_of p s rex marks bytes d h (long-lt d is.0.1)) in
    same false 0x8d (is_quad (width_of p)) false (number_of (register_in p s))
    (operand.InMemory (memory_in p s)) size.Zero 0 d rex marks (tail_of s)
    (row.Register action.LoadAddress) (row.Register action.LoadAddress) total fits
    (λ n. refl) (wide_of p rex marks h.around) (high_of p s rex marks h.around) refl (omega arith) room
register_beats action.TestWith p s rex marks bytes d total h ok is room listed =
    same false 0x85 (is_quad (width_of p)) false (number_of (register_in p s)) (operand_in p s) size.Zero 0 d rex marks
    (tail_of s)
    (row.Register action.TestWith) (row.Register action.TestWith) total
    (fits_of p s rex marks bytes d h (operand-lt (operand_in p s) d is.0))
    (λ n. refl) (wide_of p rex marks h.around) (high_of p s rex marks h.around) refl (omega arith) room
register_beats action.MultiplyBy p s rex marks bytes d total h ok is room listed =
    same true 0xaf (is_quad (width_of p)) false (number_of (register_in p s)) (operand_in p s) size.Zero 0 d rex marks
    (tail_of s)
    (row.Register action.MultiplyBy) (row.Register action.MultiplyBy) total
    (fits_of p s rex marks bytes d h (operand-lt (operand_in p s) d is.0))
    (λ n. refl) (wide_of p rex marks h.around) (high_of p s rex marks h.around) refl (omega arith) room
register_beats action.MoveImmediate p s rex marks bytes d total h ok is room (inl e) = absurd cc
register_beats action.MoveImmediate p s rex marks bytes d total h ok is room (inr e) = absurd cc
register_beats (action.ComputeImmediate a) p s rex marks bytes d total h ok is room (inl e) = absurd cc
register_beats (action.ComputeImmediate a) p s rex marks bytes d total h ok is room (inr e) = absurd cc
register_beats (action.ShiftBy sh) p s rex marks bytes d total h ok is room (inl e) = absurd cc
register_beats (action.ShiftBy sh) p s rex marks bytes d total h ok is room (inr e) = absurd cc
register_beats (action.ShiftOnce sh) p s rex marks bytes d total h ok is room (inl e) = absurd cc
register_beats (action.ShiftOnce sh) p s rex marks bytes d total h ok is room (inr e) = absurd cc
register_beats action.CallTarget p s rex marks bytes d total h ok is room (inl e) = absurd cc
register_beats action.CallTarget p s rex marks bytes d total h ok is room (inr e) = absurd cc
register_beats action.JumpTarget p s rex marks bytes d total h ok is room (inl e) = absurd cc
register_beats action.JumpTarget p s rex marks bytes d total h ok is room (inr e) = absurd cc
register_beats action.Padding p s rex marks bytes d total h ok is room (inl e) = absurd cc
register_beats action.Padding p s rex marks bytes d total h ok is room (inr e) = absurd cc
