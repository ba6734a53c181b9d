-- The code of an image where the meaning has code: the same bytes, except in fields and in sequences.
use Rattle.std.specs.Prelude.{◌≡◌, ◌≤◌, ◌<◌, ◌-◌, ℕ, ℤ, Bool, true, false, length, Option, Some, None, Ok}
use Rattle.amd64_subset.specs.Spelling.{field_of}
use Rattle.guest_arithmetic.specs.Values.{Operations}
use Rattle.guest_machine.specs.Access.{Accesses, bytes_from, code_at, load_of}
use Rattle.guest_machine.specs.Follow.{Alike}
use Rattle.guest_machine.specs.Use.{plus}
use Rattle.job_meaning.specs.Reading.{place_at}
use Rattle.whole_meaning.specs.declared.marks.Mark.{Mark}
use Rattle.whole_meaning.specs.declared.marks.Mark.TheVariants.{Usual, Offset, Address, Inside}
use Rattle.whole_meaning.specs.Fields.{is_minus}

-- both sides have a byte
abbrev pub AreBothThere : Option ℕ → Option ℕ → Type 0
AreBothThere None a' = ⊥
AreBothThere (Some a) None = ⊥
AreBothThere (Some a) (Some a') = Unit {0}

-- one address of code, by its mark: a usual one has the same byte on both sides, or none; in a field, of which this is
-- one of four bytes, and in a sequence there is some byte
abbrev pub SameCodeByte : Mark → Option ℕ → Option ℕ → Type 0
SameCodeByte Usual a a' = a' ≡ a
SameCodeByte (Offset number byte) a a' = (byte < 4) × AreBothThere a a'
SameCodeByte (Address number addend byte) a a' = (byte < 4) × AreBothThere a a'
SameCodeByte Inside a a' = AreBothThere a a'

-- all code of two memories, as far as an instruction can be read that begins where nothing is the linker's own. shut:
-- the addresses that are the linker's own; ops, ops': the values of the word that an address field leads to. Nothing
-- is required after an address where the meaning has no code: no instruction begins there
pub record SameCode {W F B W' F' B' M M' : Type 0} (same : Alike W F B W' F' B') (ops : Operations W F B)
    (ops' : Operations W' F' B') (mark : ℕ → Mark) (shut : ℕ → Bool) (acc : Accesses M B) (acc' : Accesses M' B')
    (m : M) (m' : M') : Type 0 where
  -- the byte where an instruction begins, if there is one
  pub first : (here : ℕ) → shut here ≡ false → SameCodeByte (mark here) (acc.code m here) (acc'.code m' here)
  -- the 15 bytes that an instruction may have
  pub byte : (here k a : ℕ) → shut here ≡ false → acc.code m here ≡ Some a → k < 15
      → SameCodeByte (mark (place_at here k)) (acc.code m (place_at here k)) (acc'.code m' (place_at here k))
  -- a byte of a field has the field's first byte before it, with the same number
  pub offset_begins : (here k number byte a : ℕ) → acc.code m here ≡ Some a → k < 15
      → mark (place_at here k) ≡ Offset number byte → byte ≤ k → mark (place_at here (k - byte)) ≡ Offset number 0
  pub address_begins : (here k number byte a : ℕ) (addend : ℤ) → acc.code m here ≡ Some a → k < 15
      → mark (place_at here k) ≡ Address number addend byte → byte ≤ k
      → mark (place_at here (k - byte)) ≡ Address number addend 0
  -- an offset field holds a number that moves bases as the meaning's number does
  pub offset : (place number : ℕ) → mark place ≡ Offset number 0 → length (code_at acc' m' place 4) ≡ 4
      → same.field (Some place) None number (field_of (code_at acc' m' place 4))
  -- an address field leads, from this many bytes after its address, to a word that can be read and holds the mark's
  -- number
  pub address : (place number size : ℕ) (addend : ℤ) → mark place ≡ Address number addend 0
      → is_minus addend size ≡ true → length (code_at acc' m' place 4) ≡ 4
      → (word : W')
      × ((load_of ops' acc' m' (plus (plus place size) (field_of (code_at acc' m' place 4))) 8 ≡ Ok word)
      × same.word (ops.joined (bytes_from ops (ops.word number) 0 8)) word)
