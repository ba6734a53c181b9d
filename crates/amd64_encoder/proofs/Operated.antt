-- Forms with ModRM are built.
use Rattle.std.proofs.Common.{◌≡◌, ℕ, ◌/◌, ◌%◌, ◌≤◌, Bool, true, false, cond, eqb, leb, List, ◌∷◌, ◌++◌, length, Option}
use Rattle.std.proofs.Common.{Some, None, refl, ap, arith, append_assoc, length-append}
use Rattle.std.specs.Prelude.{not, ◌&&◌, ◌||◌, unwrap_or}
use Rattle.std.specs.Option.{option_to_list}
use Rattle.amd64_words.specs.declared.register.Register.{Register}
use Rattle.amd64_subset.specs.declared.operand.Memory.{Memory}
use Rattle.amd64_subset.specs.declared.operand.Operand.{Operand}
use Rattle.amd64_subset.specs.declared.operand.Operand.TheVariants as operand
use Rattle.amd64_subset.specs.declared.instr.Instr.{Instr}
use Rattle.amd64_subset.specs.declared.instr.Width.{Width}
use Rattle.amd64_subset.specs.declared.instr.Width.TheVariants.{Long, Quad}
use Rattle.amd64_subset.specs.declared.prefix.Rex.{Rex}
use Rattle.amd64_subset.specs.declared.prefix.Prefixes.{Prefixes}
use Rattle.amd64_words.specs.declared.size.Size.{Size}
use Rattle.amd64_words.specs.declared.size.Size.TheVariants as size
use Rattle.amd64_subset.specs.declared.numbers.Numbers.{Numbers}
use Rattle.amd64_subset.specs.declared.row.Row.{Row}
use Rattle.amd64_subset.specs.declared.row.Row.TheVariants as row
use Rattle.amd64_subset.specs.declared.row.Group.{Group}
use Rattle.amd64_subset.specs.declared.row.Action.{Action}
use Rattle.amd64_subset.specs.declared.selectors.Selectors.{Selectors}
use Rattle.amd64_encoder.specs.declared.form.Fields.TheVariants as fields
use Rattle.amd64_encoder.specs.declared.form.Form.{Form}
use Rattle.amd64_subset.specs.Number.{count_of, signed_of}
use Rattle.amd64_subset.specs.Register.{number_of}
use Rattle.amd64_subset.specs.Prefix.{bits_of}
use Rattle.amd64_subset.specs.Row.{takes, action_of, accesses, group_action}
use Rattle.amd64_subset.specs.Selectors.{displacement_size, allowed, allows_register, allows_memory, register_in}
use Rattle.amd64_subset.specs.Selectors.{memory_in, operand_in}
use Rattle.amd64_subset.specs.Meaning.{width_of, operand_body}
use Rattle.amd64_subset.specs.Spelling.{named, IsOperated}
use Rattle.amd64_encoder.specs.Form.{is_quad}
use Rattle.amd64_encoder.specs.Writing.{high_base, high_index, has_segment, selectors_of, selectors_in, selector_bytes}
use Rattle.amd64_encoder.specs.Writing.{opcode_bytes, number_bytes}
use Rattle.amd64_encoder.specs.Canonical.{IsOperand, bits_read, reads_wide}
use Rattle.amd64_encoder.proofs.Digits.{bits, extended_again}
use Rattle.amd64_encoder.proofs.Selected.{Selects, selects, is_register}
use Rattle.amd64_encoder.proofs.Built.{IsBuilt, prefixes_in, bits_again}
use Rattle.amd64_encoder.proofs.Splices.{length-number}

pub width_again : (width : Width) → cond (is_quad width) Quad Long ≡ width
width_again Long = refl
width_again Quad = refl

-- what is known of a form's prefixes and selectors
pub record Knows (p : Prefixes) (s : Selectors) (w : Bool) (f : ℕ) (o : Operand) (d : ℕ) : Type 0 where
  pub sel : Selects p s (f % 8) o d
  pub bits-are : bits_of p ≡ bits w (leb 8 f) (high_index o) (high_base o)
  pub fs-is : p.thread_pointer ≡ has_segment o

pub memory-is : (p : Prefixes) (s : Selectors) (w : Bool) (f : ℕ) (m : Memory) (d : ℕ)
    → Knows p s w f (operand.InMemory m) d → memory_in p s ≡ m
memory-is p s w f m d k =
    let shape : operand_in p s ≡ operand.InMemory (memory_in p s) = rw (k.sel.mode-is) refl in
    let is = k.sel.operand-is in cc

pub register-is : (p : Prefixes) (s : Selectors) (w : Bool) (r : Register) (o : Operand) (d : ℕ)
    → Knows p s w (number_of r) o d → register_in p s ≡ r
register-is p s w r o d k = rw (k.sel.digit-is, k.bits-are) (extended_again r)

pub width-is : (p : Prefixes) (s : Selectors) (width : Width) (f : ℕ) (o : Operand) (d : ℕ)
    → Knows p s (is_quad width) f o d → width_of p ≡ width
width-is p s width f o d k = rw (k.bits-are) (width_again width)

-- the numbers that a body reads
abbrev pub numbers : Selectors → ℕ → Size → ℕ → Numbers
numbers s d size number =
    record {
      displacement = signed_of (displacement_size s) (number_bytes (displacement_size s) d);
      immediate = signed_of size (number_bytes size number);
    }

abbrev pub selected : Bool → ℕ → Bool → Bool → ℕ → Operand → Size → ℕ → Form
selected escaped opcode w low f o size number =
    record {
      escaped = escaped;
      opcode = opcode;
      wide = w;
      low_byte = low;
      fields = fields.Selected f o;
      size = size;
      number = number;
    }

fits_fs : (b a : Bool) → (b ≡ true → a ≡ true) → ((not b || a) && true) ≡ true
fits_fs true true h = refl
fits_fs true false h = absurd (let t = h refl in cc)
fits_fs false a h = refl

or_same : (a : Bool) → (a || true) ≡ true
or_same true = refl
or_same false = refl

not_and : (t x : Bool) → t ≡ false → x ≡ true → (not t && x) ≡ true
not_and true x e h = absurd cc
not_and false x e h = h

-- the operand may stand there, whatever the action but those of one byte
pub allowed_any : (a : Action) (p : Prefixes) (modrm : ℕ) (o : Operand) → eqb (modrm / 64) 3 ≡ is_register o
    → p.thread_pointer ≡ has_segment o
    → (is_register o ≡ true → allows_register a p (modrm % 8) ≡ true)
    → (is_register o ≡ false → allows_memory a p ((modrm / 8) % 8) ≡ true) → allowed a p modrm ≡ true
unfolding allowed
allowed_any a p modrm (operand.Register r) mode fs reg mem = rw (mode) (not_and p.thread_pointer _ fs (reg refl))
allowed_any a p modrm (operand.InMemory m) mode fs reg mem = rw (mode) (mem refl)

pub sib_few : (o : Option ℕ) → length (option_to_list o) ≤ 1
sib_few None = omega arith
sib_few (Some x) = omega arith

size_at_most : (a b c e : Bool)
    → count_of (cond a size.One (cond b size.Four (cond c size.Zero (cond e size.Four size.Zero)))) ≤ 4
size_at_most true b c e = omega arith
size_at_most false true c e = omega arith
size_at_most false false true e = omega arith
size_at_most false false false true = omega arith
size_at_most false false false false = omega arith

pub size_few : (s : Selectors) → count_of (displacement_size s) ≤ 4
unfolding displacement_size
size_few s = size_at_most (eqb (s.modrm / 64) 1) (eqb (s.modrm / 64) 2) (eqb (s.modrm / 64) 3)
    (eqb (unwrap_or s.sib s.modrm % 8) 5)

few_bytes : (s : Selectors) (d n : ℕ) (size : Size) → count_of size ≤ 4
    → length (s.modrm ∷ (option_to_list s.sib ++ (number_bytes (displacement_size s) d ++ number_bytes size n))) ≤ 11
few_bytes s d n size h =
    let l1 = length-append (option_to_list s.sib) (number_bytes (displacement_size s) d ++ number_bytes size n) in
    let l2 = length-append (number_bytes (displacement_size s) d) (number_bytes size n) in
    let l3 = length-number (displacement_size s) d in
    let l4 = length-number size n in
    let m = sib_few s.sib in
    let k = size_few s in
    omega arith

-- ---- a form with ModRM

pub knows : (escaped : Bool) (opcode : ℕ) (w low : Bool) (f : ℕ) (o : Operand) (size : Size) (number d : ℕ)
    → IsOperand o d
    → Knows (prefixes_in (selected escaped opcode w low f o size number)) (selectors_of (f % 8) o d) w f o d
knows escaped opcode w low f o size number d is =
    let form = selected escaped opcode w low f o size number in
    let b = bits_again form in
    record {
      sel = selects (prefixes_in form) (f % 8) o d (omega arith) is refl (ap (λ (y : Rex). y.base) b)
          (ap (λ (y : Rex). y.index) b);
      bits-are = b;
      fs-is = refl;
    }

operated_from : (p : Prefixes) (r : Row) (size : Size) (a : Action) (s : Selectors) (w : Bool) (f : ℕ) (o : Operand)
    (d number : ℕ) → Knows p s w f o d
    → action_of r (f % 8) ≡ Some a → allowed a p s.modrm ≡ true
    → IsOperated p r size (s.modrm
    ∷ (option_to_list s.sib ++ (number_bytes (displacement_size s) d ++ number_bytes size number)))
    (operand_body a p s size (numbers s d size number))
operated_from p r size a s w f o d number k action-is allows = record {
  modrm = s.modrm;
  sib = s.sib;
  displacement = number_bytes (displacement_size s) d;
  immediate = number_bytes size number;
  action = a;
  whole = refl;
  action-is = rw (k.sel.digit-is) action-is;
  allows = allows;
  has_sib = k.sel.sib-is;
  displacement-length = length-number (displacement_size s) d;
  immediate-length = length-number size number;
  body-is = refl;
}

rest_is : (s : Selectors) (d number : ℕ) (size : Size)
    → selector_bytes (Some s) d ++ number_bytes size number ≡ s.modrm ∷
    (option_to_list s.sib ++ (number_bytes (displacement_size s) d ++ number_bytes size number))
rest_is s d number size =
    ap (λ (t : List ℕ). s.modrm ∷ t)
    (append_assoc (option_to_list s.sib) (number_bytes (displacement_size s) d) (number_bytes size number))

-- /r
pub register_built : (escaped : Bool) (opcode : ℕ) (w low : Bool) (f : ℕ) (o : Operand) (d : ℕ) (a : Action)
    (instr : Instr) → IsOperand o d
    → named (bits w (leb 8 f) (high_index o) (high_base o))
    (opcode_bytes (selected escaped opcode w low f o size.Zero 0)) ≡ Some (row.Register a)
    → (has_segment o ≡ true → accesses (row.Register a) ≡ true)
    → (Knows (prefixes_in (selected escaped opcode w low f o size.Zero 0)) (selectors_of (f % 8) o d) w f o d
    → allowed a (prefixes_in (selected escaped opcode w low f o size.Zero 0)) (selectors_of (f % 8) o d).modrm ≡ true)
    → (w ≡ true → reads_wide (row.Register a) ≡ true)
    → (low ≡ true → leb 8 f ≡ false → high_base o ≡ false → (p : Prefixes) → p.thread_pointer ≡ has_segment o
    → p.rex ≡ None → allowed a p (selectors_of (f % 8) o d).modrm ≡ false)
    → ((p : Prefixes) (s : Selectors) → Knows p s w f o d
    → (operand_body a p s size.Zero (numbers s d size.Zero 0)).instr ≡ instr)
    → IsBuilt (selected escaped opcode w low f o size.Zero 0) d instr
unfolding selectors_in takes bits_read
register_built escaped opcode w low f o d a instr is names fs allows reads asks instr-is =
    let form = selected escaped opcode w low f o size.Zero 0 in
    let p = prefixes_in form in
    let s = selectors_of (f % 8) o d in
    let k = knows escaped opcode w low f o size.Zero 0 d is in
    record {
      row = row.Register a;
      rest = s.modrm ∷ (option_to_list s.sib ++ (number_bytes (displacement_size s) d ++ number_bytes size.Zero 0));
      body = operand_body a p s size.Zero (numbers s d size.Zero 0);
      row-is = names;
      takes = fits_fs (has_segment o) (accesses (row.Register a)) fs;
      rest-is = rest_is s d 0 size.Zero;
      has_body = operated_from p (row.Register a) size.Zero a s w f o d 0 k refl (allows k);
      instr-is = instr-is p s k;
      among = (
        reads,
        λ h. refl,
        k.sel.index-read,
        λ h. k.sel.base-read h (number_bytes (displacement_size s) d ++ number_bytes size.Zero 0),
      );
      asks = λ l n. asks l (ap (λ (y : Rex). y.register) n) (ap (λ (y : Rex). y.base) n)
          (record { thread_pointer = has_segment o; operand_size = false; code_segment = false; rex = None }) refl refl;
      short = few_bytes s d 0 size.Zero (omega arith);
    }

-- /n
pub group_built : (escaped : Bool) (opcode : ℕ) (w : Bool) (f : ℕ) (o : Operand) (g : Group) (size : Size)
    (number d : ℕ) (a : Action) (instr : Instr) → IsOperand o d → count_of size ≤ 4
    → named (bits w (leb 8 f) (high_index o) (high_base o))
    (opcode_bytes (selected escaped opcode w false f o size number)) ≡ Some (row.Group g size)
    → group_action g (f % 8) ≡ Some a
    → leb 8 f ≡ false
    → (has_segment o ≡ true → accesses (row.Group g size) ≡ true)
    → ((p : Prefixes) (low : ℕ) → allows_register a p low ≡ true)
    → ((p : Prefixes) (low : ℕ) → allows_memory a p low ≡ true)
    → (w ≡ true → reads_wide (row.Group g size) ≡ true)
    → ((p : Prefixes) (s : Selectors) → Knows p s w f o d
    → (operand_body a p s size (numbers s d size number)).instr ≡ instr)
    → IsBuilt (selected escaped opcode w false f o size number) d instr
unfolding selectors_in takes bits_read
group_built escaped opcode w f o g size number d a instr is few names digit low fs reg mem reads instr-is =
    let form = selected escaped opcode w false f o size number in
    let p = prefixes_in form in
    let s = selectors_of (f % 8) o d in
    let k = knows escaped opcode w false f o size number d is in
    record {
      row = row.Group g size;
      rest = s.modrm ∷ (option_to_list s.sib ++ (number_bytes (displacement_size s) d ++ number_bytes size number));
      body = operand_body a p s size (numbers s d size number);
      row-is = names;
      takes = takes_group g size (has_segment o) fs;
      rest-is = rest_is s d number size;
      has_body = operated_from p (row.Group g size) size a s w f o d number k digit
          (allowed_any a p s.modrm o k.sel.mode-is refl (λ h. reg p _) (λ h. mem p _));
      instr-is = instr-is p s k;
      among = (
        reads,
        λ h. absurd cc,
        k.sel.index-read,
        λ h. k.sel.base-read h (number_bytes (displacement_size s) d ++ number_bytes size number),
      );
      asks = λ l n. absurd cc;
      short = few_bytes s d number size few;
    }
  where
    takes_group : (g : Group) (size : Size) (t : Bool) → (t ≡ true → accesses (row.Group g size) ≡ true)
        → ((not t || accesses (row.Group g size)) && true) ≡ true
    takes_group g size t h = fits_fs t (accesses (row.Group g size)) h
