-- What is fetched of code in the meaning and by the machine, byte by byte.
use Rattle.std.proofs.Common.{◌≡◌, ℕ, zero, suc, ◌<◌, List, [], length, Option, Some, None, refl, ap, arith}
use Rattle.std.specs.List.{slice_get}
use Rattle.guest_operands.specs.Access.{Accesses, code_at, code_then, next_place}
use Rattle.job_meaning.specs.Reading.{place_at}
use Rattle.tied_meaning.specs.Codes.{AreBothThere, SameCodeByte}
use Rattle.whole_meaning.specs.declared.marks.Mark.{Mark}
use Rattle.whole_meaning.specs.declared.marks.Mark.TheVariants.{Usual, Offset, Address, Inside}
use Rattle.marked_code.proofs.Fields.{IsSmall}

pub small-byte : (μ : Mark) (a a' : Option ℕ) → SameCodeByte μ a a' → IsSmall μ
small-byte Usual a a' h = tt
small-byte (Offset number byte) a a' h = h.0
small-byte (Address number addend byte) a a' h = h.0
small-byte Inside a a' h = tt

-- where nothing can be fetched no code is read
pub code-none : {M B : Type 0} (acc : Accesses M B) (m : M) (n place : ℕ) → acc.code m place ≡ None
    → code_at acc m place (suc n) ≡ []
code-none acc m n place e = ap (λ (o : Option ℕ). code_then o (code_at acc m (next_place place) n)) e

-- ** a byte in front of others

long_both : (a a' : Option ℕ) (rest rest' : List ℕ) → AreBothThere a a' → length rest ≡ length rest'
    → length (code_then a rest) ≡ length (code_then a' rest')
long_both None a' rest rest' both e = absurd both
long_both (Some a) None rest rest' both e = absurd both
long_both (Some a) (Some a') rest rest' both e = ap suc e

as_long : (μ : Mark) (a a' : Option ℕ) (rest rest' : List ℕ) → SameCodeByte μ a a' → length rest ≡ length rest'
    → length (code_then a rest) ≡ length (code_then a' rest')
as_long Usual None a' rest rest' same e = rw same refl
as_long Usual (Some a) a' rest rest' same e = rw same (ap suc e)
as_long (Offset number byte) a a' rest rest' same e = long_both a a' rest rest' same.1 e
as_long (Address number addend byte) a a' rest rest' same e = long_both a a' rest rest' same.1 e
as_long Inside a a' rest rest' same e = long_both a a' rest rest' same e

usual_first : (μ : Mark) (a a' : Option ℕ) (rest rest' : List ℕ) → SameCodeByte μ a a' → μ ≡ Usual
    → slice_get (code_then a rest) 0 ≡ slice_get (code_then a' rest') 0
usual_first Usual None a' rest rest' same e = rw same refl
usual_first Usual (Some a) a' rest rest' same e = rw same refl
usual_first (Offset number byte) a a' rest rest' same e = absurd cc
usual_first (Address number addend byte) a a' rest rest' same e = absurd cc
usual_first Inside a a' rest rest' same e = absurd cc

both_behind : (a a' : Option ℕ) (rest rest' : List ℕ) (k : ℕ) → AreBothThere a a' → slice_get rest k ≡ slice_get rest' k
    → slice_get (code_then a rest) (suc k) ≡ slice_get (code_then a' rest') (suc k)
both_behind None a' rest rest' k both e = absurd both
both_behind (Some a) None rest rest' k both e = absurd both
both_behind (Some a) (Some a') rest rest' k both e = e

behind_byte : (μ : Mark) (a a' : Option ℕ) (rest rest' : List ℕ) (k : ℕ) → SameCodeByte μ a a'
    → slice_get rest k ≡ slice_get rest' k
    → slice_get (code_then a rest) (suc k) ≡ slice_get (code_then a' rest') (suc k)
behind_byte Usual None a' rest rest' k same e = rw same refl
behind_byte Usual (Some a) a' rest rest' k same e = rw same e
behind_byte (Offset number byte) a a' rest rest' k same e = both_behind a a' rest rest' k same.1 e
behind_byte (Address number addend byte) a a' rest rest' k same e = both_behind a a' rest rest' k same.1 e
behind_byte Inside a a' rest rest' k same e = both_behind a a' rest rest' k same e

is_below : (a : Option ℕ) (rest : List ℕ) (k : ℕ) → suc k < length (code_then a rest) → k < length rest
is_below None rest k low = absurd (omega arith)
is_below (Some a) rest k low = omega arith

-- ** all bytes of an instruction

module _ {M M' B B' : Type 0} (mark : ℕ → Mark) (acc : Accesses M B) (acc' : Accesses M' B') (m : M) (m' : M') where
  -- so many places of code from one on
  abbrev pub SameFetched : ℕ → ℕ → Type 0
  SameFetched place size = (k : ℕ) → k < size
      → SameCodeByte (mark (place_at place k)) (acc.code m (place_at place k)) (acc'.code m' (place_at place k))

  behind : (n place : ℕ) → SameFetched place (suc n) → SameFetched (next_place place) n
  behind n place same k low = same (suc k) (omega (arith, low))

  -- as many bytes are fetched
  pub code-as_long : (n place : ℕ) → SameFetched place n
      → length (code_at acc m place n) ≡ length (code_at acc' m' place n)
  code-as_long zero place same = refl
  code-as_long (suc n) place same =
      as_long (mark place) _ _ _ _ (same 0 (omega arith)) (code-as_long n (next_place place) (behind n place same))

  -- a usual byte is the same
  pub code-usual : (n place : ℕ) → SameFetched place n → (k : ℕ) → k < length (code_at acc m place n)
      → mark (place_at place k) ≡ Usual → slice_get (code_at acc m place n) k ≡ slice_get (code_at acc' m' place n) k
  code-usual zero place same k low usual = refl
  code-usual (suc n) place same zero low usual = usual_first (mark place) _ _ _ _ (same 0 (omega arith)) usual
  code-usual (suc n) place same (suc k) low usual =
      behind_byte (mark place) _ _ _ _ k (same 0 (omega arith))
      (code-usual n (next_place place) (behind n place same) k
      (is_below (acc.code m place) (code_at acc m (next_place place) n) k low) usual)
