-- No spelling is shorter than the form of its instruction: the rows whose ModRM completes the opcode, and those with a number
-- or nothing behind the opcode.
use Rattle.std.proofs.Common.{◌≡◌, ℕ, ◌+◌, ◌*◌, ◌<◌, ◌≤◌, Bool, true, false, eqb, leb, [], ◌∷◌, ◌++◌, length, Option}
use Rattle.std.proofs.Common.{Some, None, refl, ap, arith, inl, inr, ◌⊎◌}
use Rattle.std.specs.Prelude.{not, ◌||◌}
use Rattle.std.specs.Option.{option_to_list}
use Rattle.std.proofs.lemmas.Bool.{and_parts}
use Rattle.amd64_words.specs.declared.register.Register.{Register}
use Rattle.amd64_words.specs.declared.register.Register.TheVariants.{Rax, Rcx, Rdx, Rbx, Rsp, Rbp, Rsi, Rdi, R8, R9}
use Rattle.amd64_words.specs.declared.register.Register.TheVariants.{R10, R11, R12, R13, R14, R15}
use Rattle.amd64_subset.specs.declared.operand.Operand.{Operand}
use Rattle.amd64_subset.specs.declared.operand.Operand.TheVariants as operand
use Rattle.amd64_subset.specs.declared.operand.Operands.TheVariants.{Immediate}
use Rattle.amd64_subset.specs.declared.instr.Width.{Width}
use Rattle.amd64_subset.specs.declared.instr.Width.TheVariants.{Long, Quad}
use Rattle.amd64_subset.specs.declared.instr.Arithmetic.{Arithmetic}
use Rattle.amd64_subset.specs.declared.instr.Shift.{Shift}
use Rattle.amd64_subset.specs.declared.instr.Condition.{Condition}
use Rattle.amd64_subset.specs.declared.instr.Target.TheVariants.{Relative}
use Rattle.amd64_subset.specs.declared.instr.Operation.{Operation}
use Rattle.amd64_subset.specs.declared.instr.Operation.TheVariants as operation
use Rattle.amd64_subset.specs.declared.prefix.Rex.{Rex}
use Rattle.amd64_subset.specs.declared.prefix.Prefixes.{Prefixes}
use Rattle.amd64_words.specs.declared.size.Size.{Size}
use Rattle.amd64_words.specs.declared.size.Size.TheVariants as size
use Rattle.amd64_subset.specs.declared.row.Row.{Row}
use Rattle.amd64_subset.specs.declared.row.Row.TheVariants as row
use Rattle.amd64_subset.specs.declared.row.Numbered.TheVariants as numbered
use Rattle.amd64_subset.specs.declared.row.Group.TheVariants as group
use Rattle.amd64_encoder.specs.declared.form.Fields.TheVariants as fields
use Rattle.amd64_subset.specs.Number.{count_of}
use Rattle.amd64_subset.specs.Register.{number_of}
use Rattle.amd64_subset.specs.Prefix.{bits_of, no_bits}
use Rattle.amd64_subset.specs.Row.{row_of, fixed_row_of, escaped_row_of}
use Rattle.amd64_subset.specs.Meaning.{width_of}
use Rattle.amd64_subset.specs.Spelling.{named}
use Rattle.amd64_encoder.specs.Form.{fits_byte, fits_long, is_quad, low_bits, arithmetic_number, shift_number}
use Rattle.amd64_encoder.specs.Form.{condition_number, compute_long, compute_number, move_number, shifted, jump}
use Rattle.amd64_encoder.specs.Form.{jump_if}
use Rattle.amd64_encoder.specs.Form.{form_of}
use Rattle.amd64_encoder.specs.Writing.{is_high, when}
use Rattle.amd64_encoder.proofs.Operated.{selected}
use Rattle.amd64_encoder.proofs.Digits.{bits}
use Rattle.amd64_encoder.proofs.Named.{push_row, pop_row, move_long_row, move_quad_row, rax_row, short_jump_row}
use Rattle.amd64_encoder.proofs.Named.{long_jump_row, arithmetic-lt, shift-lt}
use Rattle.amd64_encoder.proofs.Costs.{Fits, register_fits, bare_most, low_most}
use Rattle.amd64_encoder.proofs.Listed.{reaches, is_short, is_long}
use Rattle.amd64_encoder.proofs.Shortest.{BeatsIn, beats_row, beats_less, Around, wide_of, same, less}

-- ---- /n

pub move_to : (width : Width) (o : Operand) (i d : ℕ) (rex : Option ℕ) (marks tail total : ℕ) → Fits rex marks tail o d
    → (rex ≡ None → is_quad width ≡ false) → fits_long i ≡ true
    → marks + (length (option_to_list rex) + (1 + ((1 + tail) + 4))) ≤ total
    → BeatsIn (move_number width o i) d (row.Group group.Move size.Four) total
unfolding named row_of fixed_row_of
move_to width (operand.InMemory m) i d rex marks tail total fits wide long room =
    same false 0xc7 (is_quad width) false 0 (operand.InMemory m) size.Four i d rex marks tail
    (row.Group group.Move size.Four)
    (row.Group group.Move size.Four) total fits (λ n. refl) wide (λ n. refl) refl (omega arith) room
move_to Long (operand.Register r) i d rex marks tail total fits wide long room =
    let most = low_most (0xb8 + low_bits r) r false size.Four i d rex (λ n. refl) fits.base in
    beats_less _ d (row.Group group.Move size.Four) total (omega arith)
move_to Quad (operand.Register r) i d rex marks tail total fits wide long room =
    rw (long) (same false 0xc7 true false 0 (operand.Register r) size.Four i d rex marks tail
    (row.Group group.Move size.Four)
    (row.Group group.Move size.Four) total fits (λ n. refl) wide (λ n. refl) refl (omega arith) room)

digit_low : (a : Arithmetic) → leb 8 (arithmetic_number a) ≡ false
digit_low a = let t = arithmetic-lt a in grind arith

shift_low : (sh : Shift) → leb 8 (shift_number sh) ≡ false
shift_low sh = let t = shift-lt sh in grind arith

pub compute_short : (a : Arithmetic) (width : Width) (o : Operand) (i d : ℕ) (rex : Option ℕ) (marks tail total : ℕ)
    → Fits rex marks tail o d
    → (rex ≡ None → is_quad width ≡ false) → fits_byte i ≡ true
    → marks + (length (option_to_list rex) + (1 + ((1 + tail) + 1))) ≤ total
    → BeatsIn (compute_number a width o i) d (row.Group group.Arithmetic size.One) total
unfolding named row_of fixed_row_of
compute_short a width o i d rex marks tail total fits wide byte room =
    rw (byte) (same false 0x83 (is_quad width) false (arithmetic_number a) o size.One i d rex marks tail
    (row.Group group.Arithmetic size.One)
    (row.Group group.Arithmetic size.One) total fits (λ n. refl) wide (λ n. digit_low a) refl (omega arith) room)

long_to : (a : Arithmetic) (width : Width) (o : Operand) (i d : ℕ) (rex : Option ℕ) (marks tail total : ℕ)
    → Fits rex marks tail o d → (rex ≡ None → is_quad width ≡ false)
    → marks + (length (option_to_list rex) + (1 + ((1 + tail) + 4))) ≤ total
    → BeatsIn (compute_long a width o i) d (row.Group group.Arithmetic size.Four) total
unfolding named row_of fixed_row_of
long_to a width (operand.Register Rax) i d rex marks tail total fits wide room =
    let most = bare_most false (8 * arithmetic_number a + 5) (is_quad width) size.Four i d rex wide in
    beats_less _ d (row.Group group.Arithmetic size.Four) total (omega arith)
long_to a width (operand.Register Rcx) i d rex marks tail total fits wide room =
    same false 0x81 (is_quad width) false (arithmetic_number a) (operand.Register Rcx) size.Four i d rex marks tail
    (row.Group group.Arithmetic size.Four)
    (row.Group group.Arithmetic size.Four) total fits (λ n. refl) wide (λ n. digit_low a) refl (omega arith) room
long_to a width (operand.Register Rdx) i d rex marks tail total fits wide room =
    same false 0x81 (is_quad width) false (arithmetic_number a) (operand.Register Rdx) size.Four i d rex marks tail
    (row.Group group.Arithmetic size.Four)
    (row.Group group.Arithmetic size.Four) total fits (λ n. refl) wide (λ n. digit_low a) refl (omega arith) room
long_to a width (operand.Register Rbx) i d rex marks tail total fits wide room =
    same false 0x81 (is_quad width) false (arithmetic_number a) (operand.Register Rbx) size.Four i d rex marks tail
    (row.Group group.Arithmetic size.Four)
    (row.Group group.Arithmetic size.Four) total fits (λ n. refl) wide (λ n. digit_low a) refl (omega arith) room
long_to a width (operand.Register Rsp) i d rex marks tail total fits wide room =
    same false 0x81 (is_quad width) false (arithmetic_number a) (operand.Register Rsp) size.Four i d rex marks tail
    (row.Group group.Arithmetic size.Four)
    (row.Group group.Arithmetic size.Four) total fits (λ n. refl) wide (λ n. digit_low a) refl (omega arith) room
long_to a width (operand.Register Rbp) i d rex marks tail total fits wide room =
    same false 0x81 (is_quad width) false (arithmetic_number a) (operand.Register Rbp) size.Four i d rex marks tail
    (row.Group group.Arithmetic size.Four)
    (row.Group group.Arithmetic size.Four) total fits (λ n. refl) wide (λ n. digit_low a) refl (omega arith) room
long_to a width (operand.Register Rsi) i d rex marks tail total fits wide room =
    same false 0x81 (is_quad width) false (arithmetic_number a) (operand.Register Rsi) size.Four i d rex marks tail
    (row.Group group.Arithmetic size.Four)
    (row.Group group.Arithmetic size.Four) total fits (λ n. refl) wide (λ n. digit_low a) refl (omega arith) room
long_to a width (operand.Register Rdi) i d rex marks tail total fits wide room =
    same false 0x81 (is_quad width) false (arithmetic_number a) (operand.Register Rdi) size.Four i d rex marks tail
    (row.Group group.Arithmetic size.Four)
    (row.Group group.Arithmetic size.Four) total fits (λ n. refl) wide (λ n. digit_low a) refl (omega arith) room
long_to a width (operand.Register R8) i d rex marks tail total fits wide room =
    same false 0x81 (is_quad width) false (arithmetic_number a) (operand.Register R8) size.Four i d rex marks tail
    (row.Group group.Arithmetic size.Four)
    (row.Group group.Arithmetic size.Four) total fits (λ n. refl) wide (λ n. digit_low a) refl (omega arith) room
long_to a width (operand.Register R9) i d rex marks tail total fits wide room =
    same false 0x81 (is_quad width) false (arithmetic_number a) (operand.Register R9) size.Four i d rex marks tail
    (row.Group group.Arithmetic size.Four)
    (row.Group group.Arithmetic size.Four) total fits (λ n. refl) wide (λ n. digit_low a) refl (omega arith) room
long_to a width (operand.Register R10) i d rex marks tail total fits wide room =
    same false 0x81 (is_quad width) false (arithmetic_number a) (operand.Register R10) size.Four i d rex marks tail
    (row.Group group.Arithmetic size.Four)
    (row.Group group.Arithmetic size.Four) total fits (λ n. refl) wide (λ n. digit_low a) refl (omega arith) room
long_to a width (operand.Register R11) i d rex marks tail total fits wide room =
    same false 0x81 (is_quad width) false (arithmetic_number a) (operand.Register R11) size.Four i d rex marks tail
    (row.Group group.Arithmetic size.Four)
    (row.Group group.Arithmetic size.Four) total fits (λ n. refl) wide (λ n. digit_low a) refl (omega arith) room
long_to a width (operand.Register R12) i d rex marks tail total fits wide room =
    same false 0x81 (is_quad width) false (arithmetic_number a) (operand.Register R12) size.Four i d rex marks tail
    (row.Group group.Arithmetic size.Four)
    (row.Group group.Arithmetic size.Four) total fits (λ n. refl) wide (λ n. digit_low a) refl (omega arith) room
long_to a width (operand.Register R13) i d rex marks tail total fits wide room =
    same false 0x81 (is_quad width) false (arithmetic_number a) (operand.Register R13) size.Four i d rex marks tail
    (row.Group group.Arithmetic size.Four)
    (row.Group group.Arithmetic size.Four) total fits (λ n. refl) wide (λ n. digit_low a) refl (omega arith) room
long_to a width (operand.Register R14) i d rex marks tail total fits wide room =
    same false 0x81 (is_quad width) false (arithmetic_number a) (operand.Register R14) size.Four i d rex marks tail
    (row.Group group.Arithmetic size.Four)
    (row.Group group.Arithmetic size.Four) total fits (λ n. refl) wide (λ n. digit_low a) refl (omega arith) room
long_to a width (operand.Register R15) i d rex marks tail total fits wide room =
    same false 0x81 (is_quad width) false (arithmetic_number a) (operand.Register R15) size.Four i d rex marks tail
    (row.Group group.Arithmetic size.Four)
    (row.Group group.Arithmetic size.Four) total fits (λ n. refl) wide (λ n. digit_low a) refl (omega arith) room
long_to a width (operand.InMemory m) i d rex marks tail total fits wide room =
    same false 0x81 (is_quad width) false (arithmetic_number a) (operand.InMemory m) size.Four i d rex marks tail
    (row.Group group.Arithmetic size.Four)
    (row.Group group.Arithmetic size.Four) total fits (λ n. refl) wide (λ n. digit_low a) refl (omega arith) room

pub compute_to : (a : Arithmetic) (width : Width) (o : Operand) (i d : ℕ) (rex : Option ℕ) (marks tail total : ℕ)
    → Fits rex marks tail o d → (rex ≡ None → is_quad width ≡ false)
    → marks + (length (option_to_list rex) + (1 + ((1 + tail) + 4))) ≤ total
    → BeatsIn (compute_number a width o i) d (row.Group group.Arithmetic size.Four) total
compute_to a width o i d rex marks tail total fits wide room = go (fits_byte i) refl
  where
    go : (b : Bool) → fits_byte i ≡ b
        → BeatsIn (compute_number a width o i) d (row.Group group.Arithmetic size.Four) total
    go true e = rw (e) (less false 0x83 (is_quad width) false (arithmetic_number a) o size.One i d rex marks tail
        (row.Group group.Arithmetic size.Four) total fits (λ n. refl) wide (λ n. digit_low a) (omega arith))
    go false e = rw (e) (long_to a width o i d rex marks tail total fits wide room)

pub shift_once : (sh : Shift) (width : Width) (o : Operand) (d : ℕ) (rex : Option ℕ) (marks tail total : ℕ)
    → Fits rex marks tail o d → (rex ≡ None → is_quad width ≡ false)
    → marks + (length (option_to_list rex) + (1 + ((1 + tail) + 0))) ≤ total
    → BeatsIn (shifted sh width o 1) d (row.Group group.ShiftOnce size.Zero) total
unfolding named row_of fixed_row_of
shift_once sh width o d rex marks tail total fits wide room =
    same false 0xd1 (is_quad width) false (shift_number sh) o size.Zero 0 d rex marks tail
    (row.Group group.ShiftOnce size.Zero)
    (row.Group group.ShiftOnce size.Zero) total fits (λ n. refl) wide (λ n. shift_low sh) refl (omega arith) room

pub shift_to : (sh : Shift) (width : Width) (o : Operand) (count d : ℕ) (rex : Option ℕ) (marks tail total : ℕ)
    → Fits rex marks tail o d → (rex ≡ None → is_quad width ≡ false)
    → marks + (length (option_to_list rex) + (1 + ((1 + tail) + 1))) ≤ total
    → BeatsIn (shifted sh width o count) d (row.Group group.Shift size.One) total
unfolding named row_of fixed_row_of
shift_to sh width o count d rex marks tail total fits wide room = go (eqb count 1) refl
  where
    go : (b : Bool) → eqb count 1 ≡ b → BeatsIn (shifted sh width o count) d (row.Group group.Shift size.One) total
    go true e = rw (e) (less false 0xd1 (is_quad width) false (shift_number sh) o size.Zero 0 d rex marks tail
        (row.Group group.Shift size.One) total fits
        (λ n. refl) wide (λ n. shift_low sh) (omega arith))
    go false e = rw (e) (same false 0xc1 (is_quad width) false (shift_number sh) o size.One count d rex marks tail
        (row.Group group.Shift size.One)
        (row.Group group.Shift size.One) total fits (λ n. refl) wide (λ n. shift_low sh) refl (omega arith) room)

pub target_to : (digit : ℕ) (o : Operand) (d : ℕ) (rex : Option ℕ) (marks tail total : ℕ) → Fits rex marks tail o d
    → leb 8 digit ≡ false
    → marks + (length (option_to_list rex) + (1 + ((1 + tail) + 0))) ≤ total
    → BeatsIn (selected false 0xff false false digit o size.Zero 0) d (row.Group group.Target size.Zero) total
unfolding named row_of fixed_row_of
target_to digit o d rex marks tail total fits low room =
    same false 0xff false false digit o size.Zero 0 d rex marks tail (row.Group group.Target size.Zero)
    (row.Group group.Target size.Zero) total fits
    (λ n. refl) (λ n. refl) (λ n. low) refl (omega arith) room

pub padding_to : (o : Operand) (d : ℕ) (rex : Option ℕ) (marks tail total : ℕ) → Fits rex marks tail o d
    → marks + (length (option_to_list rex) + (2 + ((1 + tail) + 0))) ≤ total
    → BeatsIn (selected true 0x1f false false 0 o size.Zero 0) d (row.Group group.Nop size.Zero) total
unfolding named row_of escaped_row_of
padding_to o d rex marks tail total fits room =
    same true 0x1f false false 0 o size.Zero 0 d rex marks tail (row.Group group.Nop size.Zero)
    (row.Group group.Nop size.Zero) total fits (λ n. refl) (λ n. refl) (λ n. refl) refl (omega arith) room

-- ---- a number alone

reach_low : (p : Prefixes) (r : Register) → bits_of p ≡ no_bits → reaches (bits_of p) r ≡ true → is_high r ≡ false
reach_low p r none h = go (is_high r) (rw (none) at h)
  where
    go : (b : Bool) → (not b || false) ≡ true → b ≡ false
    go false e = refl
    go true e = absurd cc

bare_row : (escaped : Bool) (opcode : ℕ) (w : Bool) (size : Size) (number d : ℕ) (rex : Option ℕ) (r : Row) (total : ℕ)
    → (rex ≡ None → w ≡ false)
    → named (bits w false false false) (option_to_list (when escaped 0x0f) ++ (opcode ∷ [])) ≡ Some r
    → length (option_to_list rex) + ((length (option_to_list (when escaped 0x0f)) + 1) + count_of size) ≤ total
    → BeatsIn (record {
      escaped = escaped;
      opcode = opcode;
      wide = w;
      low_byte = false;
      fields = fields.Bare;
      size = size;
      number = number;
    }) d r total
bare_row escaped opcode w size number d rex r total wide names room =
    let most = bare_most escaped opcode w size number d rex wide in
    beats_row (record {
      escaped = escaped;
      opcode = opcode;
      wide = w;
      low_byte = false;
      fields = fields.Bare;
      size = size;
      number = number;
    }) d r r total (omega arith) names (omega arith)

bare_less : (escaped : Bool) (opcode : ℕ) (size : Size) (number d : ℕ) (rex : Option ℕ) (r : Row) (total : ℕ)
    → length (option_to_list rex) + ((length (option_to_list (when escaped 0x0f)) + 1) + count_of size) < total
    → BeatsIn (record {
      escaped = escaped;
      opcode = opcode;
      wide = false;
      low_byte = false;
      fields = fields.Bare;
      size = size;
      number = number;
    }) d r total
bare_less escaped opcode size number d rex r total room =
    let most = bare_most escaped opcode false size number d rex (λ n. refl) in
    beats_less (record {
      escaped = escaped;
      opcode = opcode;
      wide = false;
      low_byte = false;
      fields = fields.Bare;
      size = size;
      number = number;
    }) d r total (omega arith)

low_row : (opcode : ℕ) (register : Register) (w : Bool) (size : Size) (number d : ℕ) (rex : Option ℕ) (r : Row)
    (total : ℕ) → (rex ≡ None → w ≡ false) → (rex ≡ None → is_high register ≡ false)
    → named (bits w false false (is_high register)) (opcode ∷ []) ≡ Some r
    → length (option_to_list rex) + (1 + count_of size) ≤ total
    → BeatsIn (record {
      escaped = false;
      opcode = opcode;
      wide = w;
      low_byte = false;
      fields = fields.Low register;
      size = size;
      number = number;
    }) d r total
low_row opcode register w size number d rex r total wide high names room =
    let most = low_most opcode register w size number d rex wide high in
    beats_row (record {
      escaped = false;
      opcode = opcode;
      wide = w;
      low_byte = false;
      fields = fields.Low register;
      size = size;
      number = number;
    }) d r r total (omega arith) names (omega arith)

not_true : (b : Bool) → not b ≡ true → b ≡ false
not_true false h = refl
not_true true h = absurd cc

pub moved_long : (p : Prefixes) (rex : Option ℕ) (marks : ℕ) (r : Register) (i total : ℕ) → Around p rex marks
    → is_short (bits_of p) (row.Number (numbered.Move r) size.Four) ≡ true
    → marks + (length (option_to_list rex) + (1 + 4)) ≤ total
    → BeatsIn (form_of (operation.Move (width_of p) (Immediate (operand.Register r))) i) 0
    (row.Number (numbered.Move r) size.Four) total
unfolding form_of
moved_long p rex marks r i total h listed room =
    let parts = and_parts _ _ listed in
    let long : (bits_of p).wide ≡ false = not_true _ parts.0 in
    rw (long) (low_row (0xb8 + low_bits r) r false size.Four i 0 rex (row.Number (numbered.Move r) size.Four) total
    (λ n. refl)
    (λ n. reach_low p r (h.none n) parts.1) (move_long_row false false r) (omega arith))

pub moved_quad : (p : Prefixes) (rex : Option ℕ) (marks : ℕ) (r : Register) (i total : ℕ) → Around p rex marks
    → is_short (bits_of p) (row.Number (numbered.Move r) size.Eight) ≡ true
    → marks + (length (option_to_list rex) + (1 + 8)) ≤ total
    → BeatsIn (form_of (operation.Move (width_of p) (Immediate (operand.Register r))) i) 0
    (row.Number (numbered.Move r) size.Eight) total
unfolding form_of
moved_quad p rex marks r i total h listed room = rw (quad) (go (fits_long i) refl)
  where
    parts : ((bits_of p).wide ≡ true) × (reaches (bits_of p) r ≡ true)
    parts = and_parts _ _ listed

    quad : (bits_of p).wide ≡ true
    quad = parts.0

    none : rex ≡ None → ⊥
    none n = let z = ap (λ (y : Rex). y.wide) (h.none n) in cc

    go : (b : Bool) → fits_long i ≡ b
        → BeatsIn (move_number Quad (operand.Register r) i) 0 (row.Number (numbered.Move r) size.Eight) total
    go true e = rw (e) (less false 0xc7 true false 0 (operand.Register r) size.Four i 0 rex marks 0
        (row.Number (numbered.Move r) size.Eight) total
        (register_fits rex marks 0 r 0 (λ n. absurd (none n))) (λ n. refl) (λ n. absurd (none n)) (λ n. refl)
        (omega arith))
    go false e = rw (e) (low_row (0xb8 + low_bits r) r true size.Eight i 0 rex
        (row.Number (numbered.Move r) size.Eight) total (λ n. absurd (none n))
        (λ n. absurd (none n)) (move_quad_row false false r) (omega arith))

pub computed_rax : (p : Prefixes) (rex : Option ℕ) (marks : ℕ) (a : Arithmetic) (i total : ℕ) → Around p rex marks
    → marks + (length (option_to_list rex) + (1 + 4)) ≤ total
    → BeatsIn (form_of (operation.Compute a (width_of p) (Immediate (operand.Register Rax))) i) 0
    (row.Number (numbered.Compute a) size.Four) total
unfolding form_of number_of
computed_rax p rex marks a i total h room = go (fits_byte i) refl
  where
    go : (b : Bool) → fits_byte i ≡ b
        → BeatsIn (compute_number a (width_of p) (operand.Register Rax) i) 0
        (row.Number (numbered.Compute a) size.Four) total
    go true e = rw (e) (less false 0x83 (is_quad (width_of p)) false (arithmetic_number a)
        (operand.Register Rax) size.One i 0 rex marks 0
        (row.Number (numbered.Compute a) size.Four) total (register_fits rex marks 0 Rax 0 (λ n. refl)) (λ n. refl)
        (wide_of p rex marks h) (λ n. digit_low a) (omega arith))
    go false e = rw (e) (bare_row false (8 * arithmetic_number a + 5) (is_quad (width_of p)) size.Four i 0 rex
        (row.Number (numbered.Compute a) size.Four) total (wide_of p rex marks h)
        (rax_row (bits (is_quad (width_of p)) false false false) a) (omega arith))

pub called : (x i d : ℕ) (rex : Option ℕ) (marks total : ℕ) → marks + (length (option_to_list rex) + (1 + 4)) ≤ total
    → BeatsIn (form_of (operation.Call (Relative x)) i) d (row.Number numbered.Call size.Four) total
unfolding form_of named row_of fixed_row_of
called x i d rex marks total room =
    bare_row false 0xe8 false size.Four x d rex (row.Number numbered.Call size.Four) total (λ n. refl) refl
    (omega arith)

pub jumped_short : (x i d : ℕ) (rex : Option ℕ) (marks total : ℕ) → fits_byte x ≡ true
    → marks + (length (option_to_list rex) + (1 + 1)) ≤ total
    → BeatsIn (form_of (operation.Jump (Relative x)) i) d (row.Number numbered.Jump size.One) total
unfolding form_of named row_of fixed_row_of
jumped_short x i d rex marks total byte room =
    rw (byte) (bare_row false 0xeb false size.One x d rex (row.Number numbered.Jump size.One) total (λ n. refl) refl
    (omega arith))

pub jumped_long : (x i d : ℕ) (rex : Option ℕ) (marks total : ℕ)
    → marks + (length (option_to_list rex) + (1 + 4)) ≤ total
    → BeatsIn (form_of (operation.Jump (Relative x)) i) d (row.Number numbered.Jump size.Four) total
unfolding form_of named row_of fixed_row_of
jumped_long x i d rex marks total room = go (fits_byte x) refl
  where
    go : (b : Bool) → fits_byte x ≡ b → BeatsIn (jump x) d (row.Number numbered.Jump size.Four) total
    go true e = rw (e) (bare_less false 0xeb size.One x d rex (row.Number numbered.Jump size.Four) total (omega arith))
    go false e = rw (e) (bare_row false 0xe9 false size.Four x d rex (row.Number numbered.Jump size.Four) total
        (λ n. refl) refl (omega arith))

pub jumped_if_short : (c : Condition) (x i d : ℕ) (rex : Option ℕ) (marks total : ℕ) → fits_byte x ≡ true
    → marks + (length (option_to_list rex) + (1 + 1)) ≤ total
    → BeatsIn (form_of (operation.JumpIf c x) i) d (row.Number (numbered.JumpIf c) size.One) total
unfolding form_of
jumped_if_short c x i d rex marks total byte room =
    rw (byte) (bare_row false (0x70 + condition_number c) false size.One x d rex
    (row.Number (numbered.JumpIf c) size.One) total (λ n. refl) (short_jump_row (bits false false false false) c)
    (omega arith))

pub jumped_if_long : (c : Condition) (x i d : ℕ) (rex : Option ℕ) (marks total : ℕ)
    → marks + (length (option_to_list rex) + (2 + 4)) ≤ total
    → BeatsIn (form_of (operation.JumpIf c x) i) d (row.Number (numbered.JumpIf c) size.Four) total
unfolding form_of
jumped_if_long c x i d rex marks total room = go (fits_byte x) refl
  where
    go : (b : Bool) → fits_byte x ≡ b → BeatsIn (jump_if c x) d (row.Number (numbered.JumpIf c) size.Four) total
    go true e = rw (e) (bare_less false (0x70 + condition_number c) size.One x d rex
        (row.Number (numbered.JumpIf c) size.Four) total (omega arith))
    go false e = rw (e) (bare_row true (0x80 + condition_number c) false size.Four x d rex
        (row.Number (numbered.JumpIf c) size.Four) total (λ n. refl)
        (long_jump_row (bits false false false false) c) (omega arith))

-- ---- nothing behind the opcode

pub alone_beats : (op : Operation) (p : Prefixes) (rex : Option ℕ) (marks few i d total : ℕ) → Around p rex marks
    → ((is_short (bits_of p) (row.Alone op) ≡ true) × (few ≡ 1)) ⊎ ((is_long (row.Alone op) ≡ true) × (few ≡ 2))
    → marks + (length (option_to_list rex) + few) ≤ total → BeatsIn (form_of op i) d (row.Alone op) total
unfolding form_of named row_of fixed_row_of escaped_row_of
alone_beats (operation.Push r) p rex marks few i d total h (inl e) room =
    low_row (0x50 + low_bits r) r false size.Zero 0 d rex (row.Alone (operation.Push r)) total (λ n. refl)
    (λ n. reach_low p r (h.none n) e.0) (push_row false false false r) (omega arith)
alone_beats (operation.Push r) p rex marks few i d total h (inr e) room = absurd (let t = e.0 in cc)
alone_beats (operation.Pop r) p rex marks few i d total h (inl e) room =
    low_row (0x58 + low_bits r) r false size.Zero 0 d rex (row.Alone (operation.Pop r)) total (λ n. refl)
    (λ n. reach_low p r (h.none n) e.0) (pop_row false false false r) (omega arith)
alone_beats (operation.Pop r) p rex marks few i d total h (inr e) room = absurd (let t = e.0 in cc)
alone_beats operation.Leave p rex marks few i d total h (inl e) room =
    bare_row false 0xc9 false size.Zero 0 d rex (row.Alone operation.Leave) total (λ n. refl) refl (omega arith)
alone_beats operation.Leave p rex marks few i d total h (inr e) room = absurd (let t = e.0 in cc)
alone_beats operation.Return p rex marks few i d total h (inl e) room =
    bare_row false 0xc3 false size.Zero 0 d rex (row.Alone operation.Return) total (λ n. refl) refl (omega arith)
alone_beats operation.Return p rex marks few i d total h (inr e) room = absurd (let t = e.0 in cc)
alone_beats operation.Undefined p rex marks few i d total h (inl e) room = absurd (let t = e.0 in cc)
alone_beats operation.Undefined p rex marks few i d total h (inr e) room =
    bare_row true 0x0b false size.Zero 0 d rex (row.Alone operation.Undefined) total (λ n. refl) refl (omega arith)
alone_beats (operation.Move width os) p rex marks few i d total h (inl e) room = absurd (let t = e.0 in cc)
alone_beats (operation.Move width os) p rex marks few i d total h (inr e) room = absurd (let t = e.0 in cc)
alone_beats (operation.StoreByte to from) p rex marks few i d total h (inl e) room = absurd (let t = e.0 in cc)
alone_beats (operation.StoreByte to from) p rex marks few i d total h (inr e) room = absurd (let t = e.0 in cc)
alone_beats (operation.ExtendByte width to from) p rex marks few i d total h (inl e) room = absurd (let t = e.0 in cc)
alone_beats (operation.ExtendByte width to from) p rex marks few i d total h (inr e) room = absurd (let t = e.0 in cc)
alone_beats (operation.ExtendLong to from) p rex marks few i d total h (inl e) room = absurd (let t = e.0 in cc)
alone_beats (operation.ExtendLong to from) p rex marks few i d total h (inr e) room = absurd (let t = e.0 in cc)
alone_beats (operation.LoadAddress width to from) p rex marks few i d total h (inl e) room = absurd (let t = e.0 in cc)
alone_beats (operation.LoadAddress width to from) p rex marks few i d total h (inr e) room = absurd (let t = e.0 in cc)
alone_beats (operation.Compute a width os) p rex marks few i d total h (inl e) room = absurd (let t = e.0 in cc)
alone_beats (operation.Compute a width os) p rex marks few i d total h (inr e) room = absurd (let t = e.0 in cc)
alone_beats (operation.Test width left right) p rex marks few i d total h (inl e) room = absurd (let t = e.0 in cc)
alone_beats (operation.Test width left right) p rex marks few i d total h (inr e) room = absurd (let t = e.0 in cc)
alone_beats (operation.Multiply width to from) p rex marks few i d total h (inl e) room = absurd (let t = e.0 in cc)
alone_beats (operation.Multiply width to from) p rex marks few i d total h (inr e) room = absurd (let t = e.0 in cc)
alone_beats (operation.Shift sh width to count) p rex marks few i d total h (inl e) room = absurd (let t = e.0 in cc)
alone_beats (operation.Shift sh width to count) p rex marks few i d total h (inr e) room = absurd (let t = e.0 in cc)
alone_beats (operation.Call t) p rex marks few i d total h (inl e) room = absurd (let t = e.0 in cc)
alone_beats (operation.Call t) p rex marks few i d total h (inr e) room = absurd (let t = e.0 in cc)
alone_beats (operation.Jump t) p rex marks few i d total h (inl e) room = absurd (let t = e.0 in cc)
alone_beats (operation.Jump t) p rex marks few i d total h (inr e) room = absurd (let t = e.0 in cc)
alone_beats (operation.JumpIf c x) p rex marks few i d total h (inl e) room = absurd (let t = e.0 in cc)
alone_beats (operation.JumpIf c x) p rex marks few i d total h (inr e) room = absurd (let t = e.0 in cc)
alone_beats (operation.Nop o) p rex marks few i d total h (inl e) room = absurd (let t = e.0 in cc)
alone_beats (operation.Nop o) p rex marks few i d total h (inr e) room = absurd (let t = e.0 in cc)

pub nop_beats : (i d : ℕ) (rex : Option ℕ) (marks total : ℕ) → marks + (length (option_to_list rex) + 1) ≤ total
    → BeatsIn (form_of (operation.Nop None) i) d row.Nop total
unfolding form_of named row_of fixed_row_of
nop_beats i d rex marks total room =
    bare_row false 0x90 false size.Zero 0 d rex row.Nop total (λ n. refl) refl (omega arith)

pub branch_beats : (i d : ℕ) (rex : Option ℕ) (marks total : ℕ) → marks + (length (option_to_list rex) + 4) ≤ total
    → BeatsIn (form_of (operation.Nop None) i) d row.EndBranch total
unfolding form_of
branch_beats i d rex marks total room = bare_less false 0x90 size.Zero 0 d rex row.EndBranch total (omega arith)
