-- The form of each instruction spells it, row by row.
use Rattle.std.proofs.Common.{◌≡◌, ℕ, ◌+◌, ◌*◌, ◌/◌, ◌%◌, ◌^◌, ◌<◌, ◌≤◌, Bool, true, false, cond, eqb, ltb, leb, List}
use Rattle.std.proofs.Common.{[], ◌∷◌, ◌++◌, Option, Some, None, refl, ap, ◌∙◌, arith, inl, inr}
use Rattle.std.specs.Prelude.{not, ◌&&◌, ◌||◌, is_some}
use Rattle.std.specs.Option.{option_map, option_to_list}
use Rattle.std.proofs.lemmas.Bool.{leb-true, leb-false, eqb-true, ltb-true}
use Rattle.amd64_words.specs.declared.register.Register.{Register}
use Rattle.amd64_words.specs.declared.register.Register.TheVariants.{Rax, Rcx, Rdx, Rbx, Rsp, Rbp, Rsi, Rdi, R8, R9}
use Rattle.amd64_words.specs.declared.register.Register.TheVariants.{R10, R11, R12, R13, R14, R15}
use Rattle.amd64_subset.specs.declared.operand.Memory.{Memory}
use Rattle.amd64_subset.specs.declared.operand.Operand.{Operand}
use Rattle.amd64_subset.specs.declared.operand.Operand.TheVariants as operand
use Rattle.amd64_subset.specs.declared.operand.Operands.{Operands}
use Rattle.amd64_subset.specs.declared.operand.Operands.TheVariants.{IntoRegister, IntoMemory, Immediate}
use Rattle.amd64_subset.specs.declared.instr.Width.{Width}
use Rattle.amd64_subset.specs.declared.instr.Width.TheVariants.{Long, Quad}
use Rattle.amd64_subset.specs.declared.instr.Arithmetic.{Arithmetic}
use Rattle.amd64_subset.specs.declared.instr.Shift.{Shift}
use Rattle.amd64_subset.specs.declared.instr.Condition.{Condition}
use Rattle.amd64_subset.specs.declared.instr.Target.TheVariants.{Relative, Indirect}
use Rattle.amd64_subset.specs.declared.instr.Operation.{Operation}
use Rattle.amd64_subset.specs.declared.instr.Operation.TheVariants as operation
use Rattle.amd64_subset.specs.declared.instr.Instr.{Instr}
use Rattle.amd64_subset.specs.declared.prefix.Rex.{Rex}
use Rattle.amd64_subset.specs.declared.prefix.Prefixes.{Prefixes}
use Rattle.amd64_words.specs.declared.size.Size.{Size}
use Rattle.amd64_words.specs.declared.size.Size.TheVariants as size
use Rattle.amd64_subset.specs.declared.row.Row.TheVariants as row
use Rattle.amd64_subset.specs.declared.row.Numbered.{Numbered}
use Rattle.amd64_subset.specs.declared.row.Numbered.TheVariants as numbered
use Rattle.amd64_subset.specs.declared.row.Group.TheVariants as group
use Rattle.amd64_subset.specs.declared.row.Action.{Action}
use Rattle.amd64_subset.specs.declared.row.Action.TheVariants as action
use Rattle.amd64_subset.specs.declared.selectors.Selectors.{Selectors}
use Rattle.amd64_encoder.specs.declared.form.Fields.TheVariants as fields
use Rattle.amd64_encoder.specs.declared.form.Form.{Form}
use Rattle.amd64_subset.specs.Number.{count_of, signed_of, signed_byte_of}
use Rattle.amd64_subset.specs.Register.{number_of}
use Rattle.amd64_subset.specs.Prefix.{bits_of}
use Rattle.amd64_subset.specs.Row.{row_of, fixed_row_of, escaped_row_of, group_action, takes, accesses}
use Rattle.amd64_subset.specs.Selectors.{allowed, allows_register, allows_memory, byte_register}
use Rattle.amd64_subset.specs.Meaning.{width_of, alone_body, numbered_body, operation_of, operand_body}
use Rattle.amd64_subset.specs.Spelling.{named}
use Rattle.amd64_encoder.specs.Form.{fits_byte, fits_long, is_quad, low_bits, arithmetic_number, shift_number}
use Rattle.amd64_encoder.specs.Form.{condition_number, compute_long, form_of}
use Rattle.amd64_encoder.specs.Writing.{is_high, high_base, high_index, has_segment, rex_in, selectors_of, selectors_in}
use Rattle.amd64_encoder.specs.Writing.{number_bytes, when}
use Rattle.amd64_encoder.specs.Canonical.{IsSignedLong, IsOperand, IsNamed, IsMoved, HasNone, IsOperation, AreAmong}
use Rattle.amd64_encoder.specs.Canonical.{bits_read, reads_wide}
use Rattle.amd64_encoder.proofs.Digits.{bits, low_digit, byte_again, long_again, whole_again, long-lt}
use Rattle.amd64_encoder.proofs.Selected.{is_register}
use Rattle.amd64_encoder.proofs.Built.{IsBuilt, prefixes_in, bits_again}
use Rattle.amd64_encoder.proofs.Named.{push_row, pop_row, move_long_row, move_quad_row, into_row, from_row, rax_row}
use Rattle.amd64_encoder.proofs.Named.{short_jump_row, long_jump_row, arithmetic_digit, arithmetic-lt, shift_digit}
use Rattle.amd64_encoder.proofs.Named.{shift-lt}
use Rattle.amd64_encoder.proofs.Operated.{Knows, knows, memory-is, register-is, width-is, width_again, numbers}
use Rattle.amd64_encoder.proofs.Operated.{selected, allowed_any, register_built, group_built}
use Rattle.amd64_encoder.proofs.Splices.{length-number}

abbrev pub made : Operation → ℕ → ℕ → Instr
made op d i = record { operation = op; displacement = d; immediate = i }

-- ---- no ModRM

pub number_built : (escaped : Bool) (opcode : ℕ) (w : Bool) (a : Numbered) (size : Size) (number : ℕ) (instr : Instr)
    → named (bits w false false false) (option_to_list (when escaped 0x0f) ++ (opcode ∷ [])) ≡ Some (row.Number a size)
    → ((rest : List ℕ) → AreAmong (bits w false false false) (bits_read (row.Number a size) rest))
    → ((p : Prefixes) → bits_of p ≡ bits w false false false
    → (numbered_body a (width_of p) size (signed_of size (number_bytes size number))).instr ≡ instr)
    → count_of size ≤ 8
    → IsBuilt (record {
      escaped = escaped;
      opcode = opcode;
      wide = w;
      low_byte = false;
      fields = fields.Bare;
      size = size;
      number = number;
    }) 0 instr
unfolding selectors_in takes
number_built escaped opcode w a size number instr names among instr-is few =
    let form : Form = record {
      escaped = escaped;
      opcode = opcode;
      wide = w;
      low_byte = false;
      fields = fields.Bare;
      size = size;
      number = number;
    } in
    record {
      row = row.Number a size;
      rest = number_bytes size number;
      body = numbered_body a (width_of (prefixes_in form)) size (signed_of size (number_bytes size number));
      row-is = names;
      takes = refl;
      rest-is = refl;
      has_body = (length-number size number, refl);
      instr-is = instr-is (prefixes_in form) (bits_again form);
      among = among (number_bytes size number);
      asks = λ l n. absurd cc;
      short = omega (arith, length-number size number);
    }

pub low_built : (opcode : ℕ) (r : Register) (w : Bool) (size : Size) (number : ℕ) (instr : Instr)
    → named (bits w false false (is_high r)) ((opcode + low_bits r) ∷ []) ≡ Some (row.Number (numbered.Move r) size)
    → ((p : Prefixes) → bits_of p ≡ bits w false false (is_high r)
    → (numbered_body (numbered.Move r) (width_of p) size (signed_of size (number_bytes size number))).instr ≡ instr)
    → count_of size ≤ 8
    → IsBuilt (record {
      escaped = false;
      opcode = opcode + low_bits r;
      wide = w;
      low_byte = false;
      fields = fields.Low r;
      size = size;
      number = number;
    }) 0 instr
unfolding selectors_in takes bits_read
low_built opcode r w size number instr names instr-is few =
    let form : Form = record {
      escaped = false;
      opcode = opcode + low_bits r;
      wide = w;
      low_byte = false;
      fields = fields.Low r;
      size = size;
      number = number;
    } in
    record {
      row = row.Number (numbered.Move r) size;
      rest = number_bytes size number;
      body = numbered_body (numbered.Move r) (width_of (prefixes_in form)) size
          (signed_of size (number_bytes size number));
      row-is = names;
      takes = refl;
      rest-is = refl;
      has_body = (length-number size number, refl);
      instr-is = instr-is (prefixes_in form) (bits_again form);
      among = (λ h. refl, λ h. absurd cc, λ h. absurd cc, λ h. refl);
      asks = λ l n. absurd cc;
      short = omega (arith, length-number size number);
    }

pub alone_built : (escaped : Bool) (opcode : ℕ) (op : Operation)
    → named (bits false false false false) (option_to_list (when escaped 0x0f) ++ (opcode ∷ [])) ≡ Some (row.Alone op)
    → IsBuilt (record {
      escaped = escaped;
      opcode = opcode;
      wide = false;
      low_byte = false;
      fields = fields.Bare;
      size = size.Zero;
      number = 0;
    }) 0 (made op 0 0)
unfolding selectors_in takes number_bytes bits_read
alone_built escaped opcode op names = record {
  row = row.Alone op;
  rest = [];
  body = alone_body op;
  row-is = names;
  takes = refl;
  rest-is = refl;
  has_body = (refl, refl);
  instr-is = refl;
  among = (λ h. absurd cc, λ h. absurd cc, λ h. absurd cc, λ h. absurd cc);
  asks = λ l n. absurd cc;
  short = omega arith;
}

stack_built : (opcode : ℕ) (r : Register) (op : Operation)
    → named (bits false false false (is_high r)) ((opcode + low_bits r) ∷ []) ≡ Some (row.Alone op)
    → IsBuilt (record {
      escaped = false;
      opcode = opcode + low_bits r;
      wide = false;
      low_byte = false;
      fields = fields.Low r;
      size = size.Zero;
      number = 0;
    }) 0 (made op 0 0)
unfolding selectors_in takes number_bytes bits_read
stack_built opcode r op names = record {
  row = row.Alone op;
  rest = [];
  body = alone_body op;
  row-is = names;
  takes = refl;
  rest-is = refl;
  has_body = (refl, refl);
  instr-is = refl;
  among = (λ h. absurd cc, λ h. absurd cc, λ h. absurd cc, λ h. refl);
  asks = λ l n. absurd cc;
  short = omega arith;
}

nop_built : IsBuilt (record {
  escaped = false;
  opcode = 0x90;
  wide = false;
  low_byte = false;
  fields = fields.Bare;
  size = size.Zero;
  number = 0;
}) 0 (made (operation.Nop None) 0 0)
unfolding selectors_in takes number_bytes bits_read named row_of fixed_row_of rex_in
nop_built = record {
  row = row.Nop;
  rest = [];
  body = alone_body (operation.Nop None);
  row-is = refl;
  takes = refl;
  rest-is = refl;
  has_body = (refl, refl);
  instr-is = refl;
  among = (λ h. absurd cc, λ h. absurd cc, λ h. absurd cc, λ h. absurd cc);
  asks = λ l n. absurd cc;
  short = omega arith;
}

-- ---- ModRM with a register

-- an action whose operands may be any
plain_built : (escaped : Bool) (opcode : ℕ) (w : Bool) (r : Register) (o : Operand) (d : ℕ) (a : Action) (instr : Instr)
    → IsOperand o d
    → named (bits w (is_high r) (high_index o) (high_base o)) (option_to_list (when escaped 0x0f) ++ (opcode ∷ []))
    ≡ Some (row.Register a)
    → (has_segment o ≡ true → accesses (row.Register a) ≡ true)
    → ((p : Prefixes) (low : ℕ) → is_register o ≡ true → allows_register a p low ≡ true)
    → ((p : Prefixes) (low : ℕ) → allows_memory a p low ≡ true)
    → (w ≡ true → reads_wide (row.Register a) ≡ true)
    → ((p : Prefixes) (s : Selectors) → Knows p s w (number_of r) o d
    → (operand_body a p s size.Zero (numbers s d size.Zero 0)).instr ≡ instr)
    → IsBuilt (selected escaped opcode w false (number_of r) o size.Zero 0) d instr
plain_built escaped opcode w r o d a instr is names fs reg mem reads instr-is =
    register_built escaped opcode w false (number_of r) o d a instr is names fs
    (λ k. allowed_any a (prefixes_in (selected escaped opcode w false (number_of r) o size.Zero 0))
    (selectors_of (number_of r % 8) o d).modrm o k.sel.mode-is k.fs-is (reg _ _) (λ h. mem _ _))
    reads (λ l. absurd cc) instr-is

-- mov and arithmetic of two registers or a register into memory
into_built : (opcode : ℕ) (width : Width) (r : Register) (o : Operand) (d : ℕ) (a : Action) (instr : Instr)
    → IsOperand o d
    → ((rex : Rex) → named rex (opcode ∷ []) ≡ Some (row.Register a))
    → accesses (row.Register a) ≡ true → ((p : Prefixes) (low : ℕ) → allows_register a p low ≡ true)
    → ((p : Prefixes) (low : ℕ) → allows_memory a p low ≡ true) → reads_wide (row.Register a) ≡ true
    → ((p : Prefixes) (s : Selectors) → Knows p s (is_quad width) (number_of r) o d
    → (operand_body a p s size.Zero (numbers s d size.Zero 0)).instr ≡ instr)
    → IsBuilt (selected false opcode (is_quad width) false (number_of r) o size.Zero 0) d instr
into_built opcode width r o d a instr is names fs reg mem reads instr-is =
    plain_built false opcode (is_quad width) r o d a instr is (names _) (λ h. fs) (λ p low h. reg p low) mem
    (λ h. reads) instr-is

-- a number that fits is one of 32 bits
pub fits_signed : (n : ℕ) → fits_long n ≡ true → n < 2 ^ 64 → IsSignedLong n
fits_signed n e lt = way (ltb n 0x8000_0000) refl e
  where
    way : (b : Bool) → ltb n 0x8000_0000 ≡ b → (b || leb 0xffff_ffff_8000_0000 n) ≡ true → IsSignedLong n
    way true h f = inl (let t = ltb-true n 0x8000_0000 h in omega arith)
    way false h f = inr ((let t = leb-true 0xffff_ffff_8000_0000 n f in omega arith), lt)

pub move_built : (width : Width) (os : Operands) (d i : ℕ) → IsOperation (operation.Move width os) d i
    → IsBuilt (form_of (operation.Move width os) i) d (made (operation.Move width os) d i)
unfolding form_of operand_body operation_of named row_of fixed_row_of group_action number_bytes numbered_body
move_built width (IntoRegister to (operand.Register from)) d i is =
    into_built 0x89 width from (operand.Register to) d action.Store
    (made (operation.Move width (IntoRegister to (operand.Register from))) d i) is.0
    (λ rex. refl) refl (λ p low. refl) (λ p low. refl) refl
    (λ p s k. rw (
      width-is p s width (number_of from) (operand.Register to) d k,
      k.sel.operand-is,
      register-is p s (is_quad width) from (operand.Register to) d k,
      k.sel.number-is,
      is.1,
    ) refl)
move_built width (IntoRegister to (operand.InMemory from)) d i is =
    into_built 0x8b width to (operand.InMemory from) d action.Load
    (made (operation.Move width (IntoRegister to (operand.InMemory from))) d i) is.0
    (λ rex. refl) refl (λ p low. refl) (λ p low. refl) refl
    (λ p s k. rw (
      width-is p s width (number_of to) (operand.InMemory from) d k,
      k.sel.operand-is,
      register-is p s (is_quad width) to (operand.InMemory from) d k,
      k.sel.number-is,
      is.1,
    ) refl)
move_built width (IntoMemory to from) d i is =
    into_built 0x89 width from (operand.InMemory to) d action.Store
    (made (operation.Move width (IntoMemory to from)) d i) is.0 (λ rex. refl) refl (λ p low. refl)
    (λ p low. refl) refl
    (λ p s k. rw (
      width-is p s width (number_of from) (operand.InMemory to) d k,
      k.sel.operand-is,
      register-is p s (is_quad width) from (operand.InMemory to) d k,
      k.sel.number-is,
      is.1,
    ) refl)
move_built width (Immediate (operand.InMemory m)) d i is =
    group_built false 0xc7 (is_quad width) 0 (operand.InMemory m) group.Move size.Four i d action.MoveImmediate
    (made (operation.Move width (Immediate (operand.InMemory m))) d i) is.0 (omega arith) refl refl refl (λ h. refl)
    (λ p low. refl) (λ p low. refl) (λ h. refl)
    (λ p s k. rw (
      width-is p s width 0 (operand.InMemory m) d k,
      k.sel.operand-is,
      k.sel.number-is,
      long_again i (moved width m is.1),
    ) refl)
  where
    moved : (width : Width) (m : Memory) → IsMoved width (operand.InMemory m) i → IsSignedLong i
    moved Long m h = h
    moved Quad m h = h
move_built Long (Immediate (operand.Register r)) d i is =
    rw (is.0) (low_built 0xb8 r false size.Four i (made (operation.Move Long (Immediate (operand.Register r))) 0 i)
    (move_long_row false false r) (λ p b. rw (b, long_again i is.1) refl) (omega arith))
move_built Quad (Immediate (operand.Register r)) d i is = go (fits_long i) refl
  where
    go : (b : Bool) → fits_long i ≡ b
        → IsBuilt (form_of (operation.Move Quad (Immediate (operand.Register r))) i) d
        (made (operation.Move Quad (Immediate (operand.Register r))) d i)
    go true e = rw (e)
        (group_built false 0xc7 true 0 (operand.Register r) group.Move size.Four i d action.MoveImmediate
        (made (operation.Move Quad (Immediate (operand.Register r))) d i) is.0 (omega arith) refl refl refl (λ h. refl)
        (λ p low. refl) (λ p low. refl) (λ h. refl)
        (λ p s k. rw (
          width-is p s Quad 0 (operand.Register r) d k,
          k.sel.operand-is,
          k.sel.number-is,
          long_again i (fits_signed i e is.1),
        ) refl))
    go false e = rw (e, is.0)
        (low_built 0xb8 r true size.Eight i (made (operation.Move Quad (Immediate (operand.Register r))) 0 i)
        (move_quad_row false false r) (λ p b. rw (b, whole_again i is.1) refl) (omega arith))

pub compute_built : (a : Arithmetic) (width : Width) (os : Operands) (d i : ℕ)
    → IsOperation (operation.Compute a width os) d i
    → IsBuilt (form_of (operation.Compute a width os) i) d (made (operation.Compute a width os) d i)
unfolding form_of operand_body operation_of group_action numbered_body named row_of fixed_row_of number_of bits_read
compute_built a width (IntoRegister to (operand.Register from)) d i is =
    into_built (8 * arithmetic_number a + 1) width from (operand.Register to) d (action.ComputeInto a)
    (made (operation.Compute a width (IntoRegister to (operand.Register from))) d i) is.0 (λ rex. into_row rex a) refl
    (λ p low. refl) (λ p low. refl) refl
    (λ p s k. rw (
      width-is p s width (number_of from) (operand.Register to) d k,
      k.sel.operand-is,
      register-is p s (is_quad width) from (operand.Register to) d k,
      k.sel.number-is,
      is.1,
    ) refl)
compute_built a width (IntoRegister to (operand.InMemory from)) d i is =
    into_built (8 * arithmetic_number a + 3) width to (operand.InMemory from) d (action.ComputeFrom a)
    (made (operation.Compute a width (IntoRegister to (operand.InMemory from))) d i) is.0 (λ rex. from_row rex a) refl
    (λ p low. refl) (λ p low. refl) refl
    (λ p s k. rw (
      width-is p s width (number_of to) (operand.InMemory from) d k,
      k.sel.operand-is,
      register-is p s (is_quad width) to (operand.InMemory from) d k,
      k.sel.number-is,
      is.1,
    ) refl)
compute_built a width (IntoMemory to from) d i is =
    into_built (8 * arithmetic_number a + 1) width from (operand.InMemory to) d (action.ComputeInto a)
    (made (operation.Compute a width (IntoMemory to from)) d i) is.0 (λ rex. into_row rex a) refl (λ p low. refl)
    (λ p low. refl) refl
    (λ p s k. rw (
      width-is p s width (number_of from) (operand.InMemory to) d k,
      k.sel.operand-is,
      register-is p s (is_quad width) from (operand.InMemory to) d k,
      k.sel.number-is,
      is.1,
    ) refl)
compute_built a width (Immediate to) d i is = go (fits_byte i) refl
  where
    digit : group_action group.Arithmetic (arithmetic_number a % 8) ≡ Some (action.ComputeImmediate a)
    digit = ap (λ (o : Option Arithmetic). option_map action.ComputeImmediate o) (arithmetic_digit a)

    low : leb 8 (arithmetic_number a) ≡ false
    low = let t = arithmetic-lt a in grind arith

    grouped : (opcode : ℕ) (size : Size) (o : Operand) → IsOperand o d → count_of size ≤ 4
        → ((rex : Rex) → named rex (opcode ∷ []) ≡ Some (row.Group group.Arithmetic size))
        → signed_of size (number_bytes size i) ≡ i
        → IsBuilt (selected false opcode (is_quad width) false (arithmetic_number a) o size i) d
        (made (operation.Compute a width (Immediate o)) d i)
    grouped opcode size o is-o few names number =
        group_built false opcode (is_quad width) (arithmetic_number a) o group.Arithmetic size i d
        (action.ComputeImmediate a)
        (made (operation.Compute a width (Immediate o)) d i) is-o few
        (names (bits (is_quad width) (leb 8 (arithmetic_number a)) (high_index o) (high_base o))) digit low (λ h. refl)
        (λ p l. refl) (λ p l. refl) (λ h. refl)
        (λ p s k. rw (width-is p s width (arithmetic_number a) o d k, k.sel.operand-is, k.sel.number-is, number) refl)

    rax : d ≡ 0 → IsBuilt (record {
      escaped = false;
      opcode = 8 * arithmetic_number a + 5;
      wide = is_quad width;
      low_byte = false;
      fields = fields.Bare;
      size =
          size.Four;
      number = i;
    }) d (made (operation.Compute a width (Immediate (operand.Register Rax))) d i)
    rax none = rw (none)
        (number_built false (8 * arithmetic_number a + 5) (is_quad width) (numbered.Compute a) size.Four i
        (made (operation.Compute a width (Immediate (operand.Register Rax))) 0 i)
        (rax_row (bits (is_quad width) false false false) a)
        (λ rest. (λ h. refl, λ h. absurd cc, λ h. absurd cc, λ h. absurd cc))
        (λ p b. rw (b, width_again width, long_again i is.1) refl) (omega arith))

    far : (o : Operand) → IsOperand o d
        → IsBuilt (compute_long a width o i) d (made (operation.Compute a width (Immediate o)) d i)
    far (operand.Register Rax) is-o = rax is-o
    far (operand.Register Rcx) is-o =
        grouped 0x81 size.Four (operand.Register Rcx) is-o (omega arith) (λ rex. refl) (long_again i is.1)
    far (operand.Register Rdx) is-o =
        grouped 0x81 size.Four (operand.Register Rdx) is-o (omega arith) (λ rex. refl) (long_again i is.1)
    far (operand.Register Rbx) is-o =
        grouped 0x81 size.Four (operand.Register Rbx) is-o (omega arith) (λ rex. refl) (long_again i is.1)
    far (operand.Register Rsp) is-o =
        grouped 0x81 size.Four (operand.Register Rsp) is-o (omega arith) (λ rex. refl) (long_again i is.1)
    far (operand.Register Rbp) is-o =
        grouped 0x81 size.Four (operand.Register Rbp) is-o (omega arith) (λ rex. refl) (long_again i is.1)
    far (operand.Register Rsi) is-o =
        grouped 0x81 size.Four (operand.Register Rsi) is-o (omega arith) (λ rex. refl) (long_again i is.1)
    far (operand.Register Rdi) is-o =
        grouped 0x81 size.Four (operand.Register Rdi) is-o (omega arith) (λ rex. refl) (long_again i is.1)
    far (operand.Register R8) is-o =
        grouped 0x81 size.Four (operand.Register R8) is-o (omega arith) (λ rex. refl) (long_again i is.1)
    far (operand.Register R9) is-o =
        grouped 0x81 size.Four (operand.Register R9) is-o (omega arith) (λ rex. refl) (long_again i is.1)
    far (operand.Register R10) is-o =
        grouped 0x81 size.Four (operand.Register R10) is-o (omega arith) (λ rex. refl) (long_again i is.1)
    far (operand.Register R11) is-o =
        grouped 0x81 size.Four (operand.Register R11) is-o (omega arith) (λ rex. refl) (long_again i is.1)
    far (operand.Register R12) is-o =
        grouped 0x81 size.Four (operand.Register R12) is-o (omega arith) (λ rex. refl) (long_again i is.1)
    far (operand.Register R13) is-o =
        grouped 0x81 size.Four (operand.Register R13) is-o (omega arith) (λ rex. refl) (long_again i is.1)
    far (operand.Register R14) is-o =
        grouped 0x81 size.Four (operand.Register R14) is-o (omega arith) (λ rex. refl) (long_again i is.1)
    far (operand.Register R15) is-o =
        grouped 0x81 size.Four (operand.Register R15) is-o (omega arith) (λ rex. refl) (long_again i is.1)
    far (operand.InMemory m) is-o =
        grouped 0x81 size.Four (operand.InMemory m) is-o (omega arith) (λ rex. refl) (long_again i is.1)

    go : (b : Bool) → fits_byte i ≡ b
        → IsBuilt (form_of (operation.Compute a width (Immediate to)) i) d
        (made (operation.Compute a width (Immediate to)) d i)
    go true e = rw (e) (grouped 0x83 size.One to is.0 (omega arith) (λ rex. refl) (byte_again i e (long-lt i is.1)))
    go false e = rw (e) (far to is.0)

shift_built : (sh : Shift) (width : Width) (to : Operand) (count d i : ℕ)
    → IsOperation (operation.Shift sh width to count) d i
    → IsBuilt (form_of (operation.Shift sh width to count) i) d (made (operation.Shift sh width to count) d i)
unfolding form_of operand_body operation_of group_action named row_of fixed_row_of number_bytes signed_of
shift_built sh width to count d i is = go (eqb count 1) refl
  where
    low : leb 8 (shift_number sh) ≡ false
    low = let t = shift-lt sh in grind arith

    back : signed_byte_of (count % 256) % 256 ≡ count
    back = way (ltb (count % 256) 0x80) refl
      where
        way : (b : Bool) → ltb (count % 256) 0x80 ≡ b
            → cond b (count % 256) (count % 256 + 0xffff_ffff_ffff_ff00) % 256 ≡ count
        way true e = let t = is.2 in omega arith
        way false e = let t = is.2 in omega arith

    go : (b : Bool) → eqb count 1 ≡ b
        → IsBuilt (form_of (operation.Shift sh width to count) i) d (made (operation.Shift sh width to count) d i)
    go true e = rw (e, eqb-true count 1 e)
        (group_built false 0xd1 (is_quad width) (shift_number sh) to group.ShiftOnce size.Zero 0 d (action.ShiftOnce sh)
        (made (operation.Shift sh width to 1) d i) is.0 (omega arith) refl
        (ap (λ (o : Option Shift). option_map action.ShiftOnce o) (shift_digit sh)) low
        (λ h. refl) (λ p l. refl) (λ p l. refl) (λ h. refl)
        (λ p s k. rw (width-is p s width (shift_number sh) to d k, k.sel.operand-is, k.sel.number-is, is.1) refl))
    go false e = rw (e)
        (group_built false 0xc1 (is_quad width) (shift_number sh) to group.Shift size.One count d (action.ShiftBy sh)
        (made (operation.Shift sh width to count) d i) is.0 (omega arith) refl
        (ap (λ (o : Option Shift). option_map action.ShiftBy o) (shift_digit sh)) low (λ h. refl) (λ p l. refl)
        (λ p l. refl) (λ h. refl)
        (λ p s k. rw (width-is p s width (shift_number sh) to d k, k.sel.operand-is, k.sel.number-is, is.1, back) refl))

-- ---- one byte

below_eight : (f : ℕ) → leb 8 f ≡ false → f % 8 ≡ f
below_eight f h = let t = leb-false 8 f h in omega arith

low_rex : (form : Form) → form.low_byte ≡ true → is_some (prefixes_in form).rex ≡ true
unfolding rex_in
low_rex form e = rw (e) refl

or_right : (a b : Bool) → b ≡ true → (a || b) ≡ true
or_right true b e = refl
or_right false b e = e

or_left : (a b : Bool) → a ≡ true → (a || b) ≡ true
or_left true b e = refl
or_left false b e = absurd cc

-- the low byte of a register is an operand, with REX or without
low_stands : (form : Form) (r : Register) (low : ℕ) → form.low_byte ≡ leb 4 (number_of r) → low ≡ low_bits r
    → byte_register (prefixes_in form) low ≡ true
low_stands form r low is e = go (leb 4 (number_of r)) refl
  where
    go : (b : Bool) → leb 4 (number_of r) ≡ b → byte_register (prefixes_in form) low ≡ true
    go true t = or_right (ltb low 4) (is_some (prefixes_in form).rex) (low_rex form (is ∙ t))
    go false t = or_left (ltb low 4) (is_some (prefixes_in form).rex)
        (let n = leb-false 4 (number_of r) t in grind arith)

-- and without REX it is none
low_falls : (p : Prefixes) (r : Register) (low : ℕ) → low ≡ low_bits r → leb 4 (number_of r) ≡ true
    → leb 8 (number_of r) ≡ false → p.rex ≡ None → byte_register p low ≡ false
low_falls p r low e four eight none =
    let f = leb-true 4 (number_of r) four in
    let g = leb-false 8 (number_of r) eight in
    let t : ltb low 4 ≡ false = grind arith in
    rw (t, none) refl

byte_stored : (r : Register) (m : Memory) (d i : ℕ) → IsOperation (operation.StoreByte m r) d i
    → IsBuilt (form_of (operation.StoreByte m r) i) d (made (operation.StoreByte m r) d i)
unfolding form_of operand_body operation_of named row_of fixed_row_of allowed
byte_stored r m d i is =
    let o = operand.InMemory m in
    let f = number_of r in
    let form = selected false 0x88 false (leb 4 f) f o size.Zero 0 in
    let k = knows false 0x88 false (leb 4 f) f o size.Zero 0 d is.0 in
    register_built false 0x88 false (leb 4 f) f o d action.StoreByte (made (operation.StoreByte m r) d i) is.0 refl
    (λ h. refl)
    (λ k. allowed_any action.StoreByte (prefixes_in form) (selectors_of (f % 8) o d).modrm o k.sel.mode-is k.fs-is
    (λ h. absurd cc) (λ h. low_stands form r _ refl k.sel.digit-is))
    (λ h. absurd cc)
    (λ low high hb p fs none. rw (k.sel.mode-is) (low_falls p r _ k.sel.digit-is low high none))
    (λ p s k. rw (memory-is p s false f m d k, register-is p s false r o d k, k.sel.number-is, is.1) refl)

byte_extended : (width : Width) (to : Register) (from : Operand) (d i : ℕ)
    → IsOperation (operation.ExtendByte width to from) d i
    → IsBuilt (form_of (operation.ExtendByte width to from) i) d (made (operation.ExtendByte width to from) d i)
unfolding form_of operand_body operation_of named escaped_row_of allowed selectors_of
byte_extended width to (operand.InMemory m) d i is =
    plain_built true 0xb6 (is_quad width) to (operand.InMemory m) d action.ExtendByte
    (made (operation.ExtendByte width to (operand.InMemory m)) d i) is.0 refl
    (λ h. refl) (λ p low h. absurd cc) (λ p low. refl) (λ h. refl)
    (λ p s k. rw (
      width-is p s width (number_of to) (operand.InMemory m) d k,
      register-is p s (is_quad width) to (operand.InMemory m) d k,
      k.sel.operand-is,
      k.sel.number-is,
      is.1,
    ) refl)
byte_extended width to (operand.Register q) d i is =
    let o = operand.Register q in
    let f = number_of to in
    let form = selected true 0xb6 (is_quad width) (leb 4 (number_of q)) f o size.Zero 0 in
    let s = selectors_of (f % 8) o d in
    let low-is : s.modrm % 8 ≡ low_bits q = low_digit 3 (f % 8) (low_bits q) (omega arith) (omega arith) in
    let mode : eqb (s.modrm / 64) 3 ≡ true =
    (knows true 0xb6 (is_quad width) (leb 4 (number_of q)) f o size.Zero 0 d is.0).sel.mode-is in
    register_built true 0xb6 (is_quad width) (leb 4 (number_of q)) f o d action.ExtendByte
    (made (operation.ExtendByte width to o) d i) is.0 refl (λ h. refl)
    (λ k. allowed_any action.ExtendByte (prefixes_in form) s.modrm o k.sel.mode-is k.fs-is
    (λ h. low_stands form q (s.modrm % 8) refl low-is) (λ h. refl))
    (λ h. refl)
    (λ low high hb p fs none. rw (mode)
    (and_false (not p.thread_pointer) _ (low_falls p q (s.modrm % 8) low-is low hb none)))
    (λ p s k. rw (
      width-is p s width f o d k,
      register-is p s (is_quad width) to o d k,
      k.sel.operand-is,
      k.sel.number-is,
      is.1,
    ) refl)
  where
    and_false : (a b : Bool) → b ≡ false → (a && b) ≡ false
    and_false true b e = e
    and_false false b e = refl

-- ---- the others

fs_named : (o : Operand) → IsNamed o → has_segment o ≡ true → ⊥
fs_named (operand.Register r) n h = cc
fs_named (operand.InMemory m) n h = cc

-- call and jmp of an operand
target_built : (digit : ℕ) (a : Action) (to : Operand) (op : Operation) (d i : ℕ) → IsOperand to d → i ≡ 0
    → group_action group.Target (digit % 8) ≡ Some a → leb 8 digit ≡ false
    → ((p : Prefixes) (low : ℕ) → allows_register a p low ≡ true)
    → ((p : Prefixes) (low : ℕ) → allows_memory a p low ≡ true)
    → ((p : Prefixes) (s : Selectors) → Knows p s false digit to d
    → (operand_body a p s size.Zero (numbers s d size.Zero 0)).instr ≡ made op d 0)
    → IsBuilt (selected false 0xff false false digit to size.Zero 0) d (made op d i)
unfolding named row_of fixed_row_of
target_built digit a to op d i is none found low reg mem instr-is =
    rw (none) (group_built false 0xff false digit to group.Target size.Zero 0 d a (made op d 0) is
    (omega arith) refl found low (λ h. refl) reg mem (λ h. absurd cc) instr-is)

distance_built : (escaped : Bool) (opcode : ℕ) (a : Numbered) (size : Size) (distance : ℕ) (op : Operation) (d i : ℕ)
    → HasNone d i
    → signed_of size (number_bytes size distance) ≡ distance → count_of size ≤ 8
    → named (bits false false false false) (option_to_list (when escaped 0x0f) ++ (opcode ∷ []))
    ≡ Some (row.Number a size)
    → ((p : Prefixes) → (numbered_body a (width_of p) size distance).instr ≡ made op 0 0)
    → IsBuilt (record {
      escaped = escaped;
      opcode = opcode;
      wide = false;
      low_byte = false;
      fields = fields.Bare;
      size = size;
      number = distance;
    }) d (made op d i)
distance_built escaped opcode a size distance op d i none number few names instr-is =
    rw (none.0, none.1) (number_built escaped opcode false a size distance (made op 0 0) names
    (λ rest. (λ h. absurd cc, λ h. absurd cc, λ h. absurd cc, λ h. absurd cc)) (λ p b. rw (number) (instr-is p)) few)

pub jump_built : (distance d i : ℕ) → HasNone d i → IsSignedLong distance
    → IsBuilt (form_of (operation.Jump (Relative distance)) i) d (made (operation.Jump (Relative distance)) d i)
unfolding form_of named row_of fixed_row_of numbered_body
jump_built distance d i none long = go (fits_byte distance) refl
  where
    go : (b : Bool) → fits_byte distance ≡ b
        → IsBuilt (form_of (operation.Jump (Relative distance)) i) d (made (operation.Jump (Relative distance)) d i)
    go true e = rw (e) (distance_built false 0xeb numbered.Jump size.One distance
        (operation.Jump (Relative distance)) d i none
        (byte_again distance e (long-lt distance long)) (omega arith) refl (λ p. refl))
    go false e = rw (e) (distance_built false 0xe9 numbered.Jump size.Four distance
        (operation.Jump (Relative distance)) d i none (long_again distance long) (omega arith) refl (λ p. refl))

pub jump_if_built : (condition : Condition) (distance d i : ℕ) → HasNone d i → IsSignedLong distance
    → IsBuilt (form_of (operation.JumpIf condition distance) i) d (made (operation.JumpIf condition distance) d i)
unfolding form_of numbered_body
jump_if_built condition distance d i none long = go (fits_byte distance) refl
  where
    go : (b : Bool) → fits_byte distance ≡ b
        → IsBuilt (form_of (operation.JumpIf condition distance) i) d (made (operation.JumpIf condition distance) d i)
    go true e = rw (e) (distance_built false (0x70 + condition_number condition)
        (numbered.JumpIf condition) size.One distance
        (operation.JumpIf condition distance) d i none (byte_again distance e (long-lt distance long)) (omega arith)
        (short_jump_row (bits false false false false) condition) (λ p. refl))
    go false e = rw (e) (distance_built true (0x80 + condition_number condition)
        (numbered.JumpIf condition) size.Four distance
        (operation.JumpIf condition distance) d i none (long_again distance long) (omega arith)
        (long_jump_row (bits false false false false) condition) (λ p. refl))

pub built : (op : Operation) (d i : ℕ) → IsOperation op d i → IsBuilt (form_of op i) d (made op d i)
unfolding form_of operand_body operation_of named row_of fixed_row_of escaped_row_of group_action number_bytes signed_of numbered_body
built (operation.Move width os) d i is = move_built width os d i is
built (operation.StoreByte to from) d i is = byte_stored from to d i is
built (operation.ExtendByte width to from) d i is = byte_extended width to from d i is
built (operation.ExtendLong to from) d i is =
    plain_built false 0x63 true to from d action.ExtendLong (made (operation.ExtendLong to from) d i) is.0 refl
    (λ h. refl) (λ p low h. refl) (λ p low. refl) (λ h. refl)
    (λ p s k. rw (register-is p s true to from d k, k.sel.operand-is, k.sel.number-is, is.1) refl)
built (operation.LoadAddress width to from) d i is =
    plain_built false 0x8d (is_quad width) to (operand.InMemory from) d action.LoadAddress
    (made (operation.LoadAddress width to from) d i) is.0 refl
    (λ h. absurd (let t = is.2 in cc)) (λ p low h. absurd cc) (λ p low. refl) (λ h. refl)
    (λ p s k. rw (
      width-is p s width (number_of to) (operand.InMemory from) d k,
      register-is p s (is_quad width) to (operand.InMemory from) d k,
      memory-is p s
          (is_quad width) (number_of to) from d k,
      k.sel.number-is,
      is.1,
    ) refl)
built (operation.Compute arithmetic width os) d i is = compute_built arithmetic width os d i is
built (operation.Test width left right) d i is =
    plain_built false 0x85 (is_quad width) right left d action.TestWith
    (made (operation.Test width left right) d i) is.0 refl (λ h. refl) (λ p low h. refl) (λ p low. refl) (λ h. refl)
    (λ p s k. rw (
      width-is p s width (number_of right) left d k,
      register-is p s (is_quad width) right left d k,
      k.sel.operand-is,
      k.sel.number-is,
      is.1,
    ) refl)
built (operation.Multiply width to from) d i is =
    plain_built true 0xaf (is_quad width) to from d action.MultiplyBy
    (made (operation.Multiply width to from) d i) is.0 refl (λ h. refl) (λ p low h. refl) (λ p low. refl)
    (λ h. refl)
    (λ p s k. rw (
      width-is p s width (number_of to) from d k,
      register-is p s (is_quad width) to from d k,
      k.sel.operand-is,
      k.sel.number-is,
      is.1,
    ) refl)
built (operation.Shift sh width to count) d i is = shift_built sh width to count d i is
built (operation.Push r) d i is = rw (is.0, is.1) (stack_built 0x50 r (operation.Push r) (push_row false false false r))
built (operation.Pop r) d i is = rw (is.0, is.1) (stack_built 0x58 r (operation.Pop r) (pop_row false false false r))
built operation.Leave d i is = rw (is.0, is.1) (alone_built false 0xc9 operation.Leave refl)
built (operation.Call (Relative distance)) d i is =
    distance_built false 0xe8 numbered.Call size.Four distance (operation.Call (Relative distance)) d i is.0
    (long_again distance is.1) (omega arith) refl (λ p. refl)
built (operation.Call (Indirect to)) d i is =
    target_built 2 action.CallTarget to (operation.Call (Indirect to)) d i is.0 is.1 refl refl (λ p low. refl)
    (λ p low. refl) (λ p s k. rw (k.sel.operand-is, k.sel.number-is) refl)
built (operation.Jump (Relative distance)) d i is = jump_built distance d i is.0 is.1
built (operation.Jump (Indirect to)) d i is =
    target_built 4 action.JumpTarget to (operation.Jump (Indirect to)) d i is.0 is.1 refl refl (λ p low. refl)
    (λ p low. refl) (λ p s k. rw (k.sel.operand-is, k.sel.number-is) refl)
built (operation.JumpIf condition distance) d i is = jump_if_built condition distance d i is.0 is.1
built operation.Return d i is = rw (is.0, is.1) (alone_built false 0xc3 operation.Return refl)
built (operation.Nop None) d i is = rw (is.0, is.1) nop_built
built (operation.Nop (Some of)) d i is =
    rw (is.1) (group_built true 0x1f false 0 of group.Nop size.Zero 0 d action.Padding
    (made (operation.Nop (Some of)) d 0) is.0 (omega arith) refl refl refl
    (λ h. absurd (fs_named of is.2 h)) (λ p low. refl) (λ p low. refl) (λ h. absurd cc)
    (λ p s k. rw (k.sel.operand-is, k.sel.number-is) refl))
built operation.Undefined d i is = rw (is.0, is.1) (alone_built true 0x0b operation.Undefined refl)
