-- Each type's row, solved for the value.
use Rattle.std.proofs.Common.{◌≡◌, ◌↔◌, ℕ, ℤ, pos, Option, Some, None, refl, sym, subst, arith}
use Rattle.std.specs.Prelude.{◌+ℤ◌, ◌-ℤ◌}
use Rattle.std.proofs.lemmas.Int.{ints}
use Rattle.elf_records.specs.declared.relocation.RelocationKind.{RelocationKind}
use Rattle.elf_records.specs.declared.relocation.RelocationKind.TheVariants.{Nothing, Absolute64, Pc32, Plt32}
use Rattle.elf_records.specs.declared.relocation.RelocationKind.TheVariants.{GotPcRel, Absolute32, Absolute32Signed}
use Rattle.elf_records.specs.declared.relocation.RelocationKind.TheVariants.{TlsGd, TlsLd, DtpOff32, GotTpOff}
use Rattle.elf_records.specs.declared.relocation.RelocationKind.TheVariants.{TpOff32, GotPc32TlsDesc, TlsDescCall}
use Rattle.elf_records.specs.declared.relocation.RelocationKind.TheVariants.{GotPcRelX, RexGotPcRelX}
use Rattle.elf_records.specs.Relocations.{relocation_kind}
use Rattle.tls_relocs.specs.declared.fields.Field.{Field}
use Rattle.tls_relocs.specs.declared.fields.Field.TheVariants.{Empty}
use Rattle.tls_relocs.specs.Values.{stored_field}
use Rattle.field_laws.specs.Laws.{letters_of}
use Rattle.field_laws.specs.Table.{Each, Signed, Unsigned, Letters, Range, Row, Has, IsAnswer, IsIn, Solves}
use Rattle.field_laws.specs.Table.{row_numbered}
use Rattle.field_laws.proofs.Values.{Holds, signed_is, unsigned_is, wrapped_is, empty_is}

-- the row of a number has these
abbrev row_of : ℕ → ℕ → Range → ℤ → ℤ → Row
row_of number bytes range left right =
    record { number = number; left = left; right = right; bytes = bytes; range = range }

-- what solves a row, whose left side is this function of it, is what this value holds
record IsSolved (left : ℤ → ℤ) (right : ℤ) (value : ℤ) : Type 0 where
  solves : left value ≡ right
  only : (x : ℤ) → left x ≡ right → x ≡ value

module _ (number : ℕ) (l : Letters) (bytes : ℕ) (range : Range) (left : ℤ → ℤ) (right value : ℤ)
    (has : (x : ℤ) → row_numbered number l x ≡ Some (row_of number bytes range (left x) right))
    (is : IsSolved left right value) where
  to_answer : (answer : Option Field) → Holds bytes range value answer → IsAnswer number l answer
  to_answer (Some field) holds = record {
    value = value;
    row = row_of number bytes range (left value) right;
    is_row = has value;
    solved = record { equal = is.solves; fits = holds.0 };
    has = holds.1;
  }
  to_answer None out = λ x row is_row solved.
      let at = has x in
      let same : row ≡ row_of number bytes range (left x) right = cc in
      let here : Solves (row_of number bytes range (left x) right) x = subst (λ (r : Row). Solves r x) same solved in
      out (subst (IsIn range) (is.only x here.equal) here.fits)

  of_answer : (answer : Option Field) → IsAnswer number l answer → Holds bytes range value answer
  of_answer (Some field) stored =
      let x = stored.value in
      let at = has x in
      let same : stored.row ≡ row_of number bytes range (left x) right = cc in
      let here : Solves (row_of number bytes range (left x) right) x =
      subst (λ (r : Row). Solves r x) same stored.solved in
      let held : Has field bytes x = subst (λ (r : Row). Has field r.bytes x) same stored.has in
      subst (λ (x : ℤ). Holds bytes range x (Some field)) (is.only x here.equal) (here.fits, held)
  of_answer None none = λ fits. none value (row_of number bytes range (left value) right) (has value)
      (record { equal = is.solves; fits = fits })

  -- what is stored is the answer, if it is what may be stored of the value
  solved : (stored : Option Field) → ((answer : Option Field) → (stored ≡ answer) ↔ Holds bytes range value answer)
      → (answer : Option Field) → (stored ≡ answer) ↔ IsAnswer number l answer
  solved stored may answer =
      (λ is. to_answer answer ((may answer).0 is), λ found. (may answer).1 (of_answer answer found))

itself : (value : ℤ) → IsSolved (λ x. x) value value
itself value = record { solves = refl; only = λ x is. is }

less : (n : ℕ) (sum : ℤ) → IsSolved (λ x. x +ℤ pos n) sum (sum -ℤ pos n)
less n sum = record { solves = omega (arith, ints); only = λ x is. omega (arith, ints) }

-- ** one type after another

-- the type with this number stores the only answer
abbrev pub IsRight : ℕ → RelocationKind → Type 0
IsRight number kind = (s : ℕ) (a : ℤ) (p g : ℕ) (answer : Option Field)
    → (stored_field kind s a p g ≡ answer) ↔ IsAnswer number (letters_of s a p g) answer

-- a type's number
abbrev pub number_of : RelocationKind → ℕ
number_of Nothing = 0
number_of Absolute64 = 1
number_of Pc32 = 2
number_of Plt32 = 4
number_of GotPcRel = 9
number_of Absolute32 = 10
number_of Absolute32Signed = 11
number_of TlsGd = 19
number_of TlsLd = 20
number_of DtpOff32 = 21
number_of GotTpOff = 22
number_of TpOff32 = 23
number_of GotPc32TlsDesc = 34
number_of TlsDescCall = 35
number_of GotPcRelX = 41
number_of RexGotPcRelX = 42

pub is_number : (number : ℕ) (kind : RelocationKind) → relocation_kind number ≡ Some kind → number ≡ number_of kind
is_number number Nothing is = grind arith
is_number number Absolute64 is = grind arith
is_number number Pc32 is = grind arith
is_number number Plt32 is = grind arith
is_number number GotPcRel is = grind arith
is_number number Absolute32 is = grind arith
is_number number Absolute32Signed is = grind arith
is_number number TlsGd is = grind arith
is_number number TlsLd is = grind arith
is_number number DtpOff32 is = grind arith
is_number number GotTpOff is = grind arith
is_number number TpOff32 is = grind arith
is_number number GotPc32TlsDesc is = grind arith
is_number number TlsDescCall is = grind arith
is_number number GotPcRelX is = grind arith
is_number number RexGotPcRelX is = grind arith

right : (kind : RelocationKind) → IsRight (number_of kind) kind
right Nothing s a p g =
    solved 0 (letters_of s a p g) 0 Each (λ x. x) (pos 0) (pos 0) (λ x. refl)
    (itself (pos 0)) (Some Empty) (empty_is (pos 0))
right Absolute64 s a p g =
    solved 1 (letters_of s a p g) 8 Each (λ x. x) (pos s +ℤ a) (pos s +ℤ a) (λ x. refl)
    (itself (pos s +ℤ a)) _ (wrapped_is (pos s +ℤ a))
right Pc32 s a p g =
    solved 2 (letters_of s a p g) 4 Signed (λ x. x +ℤ pos p) (pos s +ℤ a) ((pos s +ℤ a) -ℤ pos p) (λ x. refl)
    (less p (pos s +ℤ a)) _ (signed_is ((pos s +ℤ a) -ℤ pos p))
right Plt32 s a p g =
    solved 4 (letters_of s a p g) 4 Signed (λ x. x +ℤ pos p) (pos s +ℤ a) ((pos s +ℤ a) -ℤ pos p) (λ x. refl)
    (less p (pos s +ℤ a)) _ (signed_is ((pos s +ℤ a) -ℤ pos p))
right GotPcRel s a p g =
    solved 9 (letters_of s a p g) 4 Signed (λ x. x +ℤ pos p) (pos g +ℤ a) ((pos g +ℤ a) -ℤ pos p) (λ x. refl)
    (less p (pos g +ℤ a)) _ (signed_is ((pos g +ℤ a) -ℤ pos p))
right Absolute32 s a p g =
    solved 10 (letters_of s a p g) 4 Unsigned (λ x. x) (pos s +ℤ a) (pos s +ℤ a) (λ x. refl)
    (itself (pos s +ℤ a)) _ (unsigned_is (pos s +ℤ a))
right Absolute32Signed s a p g =
    solved 11 (letters_of s a p g) 4 Signed (λ x. x) (pos s +ℤ a) (pos s +ℤ a) (λ x. refl)
    (itself (pos s +ℤ a)) _ (signed_is (pos s +ℤ a))
right TlsGd s a p g =
    solved 19 (letters_of s a p g) 4 Signed (λ x. x +ℤ pos p) (pos g +ℤ a) ((pos g +ℤ a) -ℤ pos p) (λ x. refl)
    (less p (pos g +ℤ a)) _ (signed_is ((pos g +ℤ a) -ℤ pos p))
right TlsLd s a p g =
    solved 20 (letters_of s a p g) 4 Signed (λ x. x +ℤ pos p) (pos g +ℤ a) ((pos g +ℤ a) -ℤ pos p) (λ x. refl)
    (less p (pos g +ℤ a)) _ (signed_is ((pos g +ℤ a) -ℤ pos p))
right DtpOff32 s a p g =
    solved 21 (letters_of s a p g) 4 Signed (λ x. x +ℤ pos g) (pos s +ℤ a) ((pos s +ℤ a) -ℤ pos g) (λ x. refl)
    (less g (pos s +ℤ a)) _ (signed_is ((pos s +ℤ a) -ℤ pos g))
right GotTpOff s a p g =
    solved 22 (letters_of s a p g) 4 Signed (λ x. x +ℤ pos p) (pos g +ℤ a) ((pos g +ℤ a) -ℤ pos p) (λ x. refl)
    (less p (pos g +ℤ a)) _ (signed_is ((pos g +ℤ a) -ℤ pos p))
right TpOff32 s a p g =
    solved 23 (letters_of s a p g) 4 Signed (λ x. x +ℤ pos g) (pos s +ℤ a) ((pos s +ℤ a) -ℤ pos g) (λ x. refl)
    (less g (pos s +ℤ a)) _ (signed_is ((pos s +ℤ a) -ℤ pos g))
right GotPc32TlsDesc s a p g =
    solved 34 (letters_of s a p g) 4 Signed (λ x. x +ℤ pos p) (pos g +ℤ a) ((pos g +ℤ a) -ℤ pos p) (λ x. refl)
    (less p (pos g +ℤ a)) _ (signed_is ((pos g +ℤ a) -ℤ pos p))
right TlsDescCall s a p g =
    solved 35 (letters_of s a p g) 0 Each (λ x. x) (pos 0) (pos 0) (λ x. refl)
    (itself (pos 0)) (Some Empty) (empty_is (pos 0))
right GotPcRelX s a p g =
    solved 41 (letters_of s a p g) 4 Signed (λ x. x +ℤ pos p) (pos g +ℤ a) ((pos g +ℤ a) -ℤ pos p) (λ x. refl)
    (less p (pos g +ℤ a)) _ (signed_is ((pos g +ℤ a) -ℤ pos p))
right RexGotPcRelX s a p g =
    solved 42 (letters_of s a p g) 4 Signed (λ x. x +ℤ pos p) (pos g +ℤ a) ((pos g +ℤ a) -ℤ pos p) (λ x. refl)
    (less p (pos g +ℤ a)) _ (signed_is ((pos g +ℤ a) -ℤ pos p))

pub stored_right : (number : ℕ) (kind : RelocationKind) → relocation_kind number ≡ Some kind → IsRight number kind
stored_right number kind is = subst (λ (number : ℕ). IsRight number kind) (sym (is_number number kind is)) (right kind)
