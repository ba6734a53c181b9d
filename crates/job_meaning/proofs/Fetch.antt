-- What is fetched of code, byte by byte.
use Rattle.std.proofs.Common.{◌≡◌, ℕ, zero, suc, ◌+◌, ◌≤◌, List, ◌∷◌, length, take, drop, Option, Some, None, refl, ap}
use Rattle.std.proofs.Common.{arith}
use Rattle.guest_machine.specs.Access.{Accesses, next_place, code_then, code_at}
use Rattle.guest_machine.specs.Use.{plus}
use Rattle.job_meaning.specs.Reading.{place_at}

-- the place so many bytes behind another is a sum
pub place-is : (k place : ℕ) → place_at place (suc k) ≡ plus place (suc k)
place-is zero place = refl
place-is (suc k) place = let e : place_at (next_place place) (suc k) ≡ plus (next_place place) (suc k) =
    place-is k (next_place place) in omega arith

module _ {M B : Type 0} (acc : Accesses M B) (m : M) where
  pub code-length : (n place : ℕ) → length (code_at acc m place n) ≤ n
  code-length zero place = omega arith
  code-length (suc n) place =
      then_length (acc.code m place) (code_at acc m (next_place place) n) (code-length n (next_place place))
    where
      then_length : {n : ℕ} (o : Option ℕ) (rest : List ℕ) → length rest ≤ n → length (code_then o rest) ≤ suc n
      then_length None rest h = omega arith
      then_length (Some a) rest h = omega arith

  -- fewer bytes
  pub code-take : (j n place : ℕ) → j ≤ n → take j (code_at acc m place n) ≡ code_at acc m place j
  code-take zero n place h = refl
  code-take (suc j) zero place h = absurd (omega arith)
  code-take (suc j) (suc n) place h =
      then_take (acc.code m place) (code_at acc m (next_place place) n) (code_at acc m (next_place place) j) j
      (code-take j n (next_place place) (omega arith))
    where
      then_take : (o : Option ℕ) (rest rest' : List ℕ) (j : ℕ) → take j rest ≡ rest'
          → take (suc j) (code_then o rest) ≡ code_then o rest'
      then_take None rest rest' j e = refl
      then_take (Some a) rest rest' j e = ap (λ (l : List ℕ). a ∷ l) e

  -- four bytes in the middle of what is fetched
  pub code-part : (k n place : ℕ) → k + 4 ≤ length (code_at acc m place n)
      → take 4 (drop k (code_at acc m place n)) ≡ code_at acc m (place_at place k) 4
  code-part zero n place h = code-take 4 n place (omega (arith, h, code-length n place))
  code-part (suc k) zero place h = absurd (omega arith)
  code-part (suc k) (suc n) place h =
      then_part (acc.code m place) (code_at acc m (next_place place) n) h (code-part k n (next_place place))
    where
      then_part : (o : Option ℕ) (rest : List ℕ) → suc k + 4 ≤ length (code_then o rest)
          → (k + 4 ≤ length rest → take 4 (drop k rest) ≡ code_at acc m (place_at (next_place place) k) 4)
          → take 4 (drop (suc k) (code_then o rest)) ≡ code_at acc m (place_at (next_place place) k) 4
      then_part None rest h e = absurd (omega arith)
      then_part (Some a) rest h e = e (omega arith)
