-- A line of printable characters is text.
use Rattle.std.proofs.Common.{◌≡◌, ℕ, ◌<◌, Bool, true, false, ◌&&◌, ◌||◌, List, [], ◌∷◌, map, Result, Ok, Err, arith}
use Rattle.std.proofs.Common.{refl, ap}
use Rattle.std.proofs.lemmas.Bool.{false≢true}
use Rattle.std.proofs.lemmas.Bool.Decides.{nat_tests}
use Rattle.std.proofs.lemmas.List.Elements.{All-nil, All-cons}
use Rattle.std.proofs.lemmas.Str.{IsUtf8-from_ascii}
use Rattle.std.proofs.lemmas.Str.Ascii.{IsAscii-from_all}
use Rattle.std.specs.List.{All, list_any}
use Rattle.std.specs.Result.{MatchResult, is_ok}
use Rattle.std.specs.Str.{IsUtf8}
use Rattle.job_text.specs.Words.{is_printable, is_text}

pub both_hold : (a b : Bool) → (a && b) ≡ true → (a ≡ true) × (b ≡ true)
both_hold true b e = (refl, e)
both_hold false b e = absurd (false≢true e)

printable_small : (b : ℕ) → is_printable b ≡ true → b < 128
printable_small b e = grind (arith, nat_tests)

text_small : (line : List ℕ) → is_text line ≡ true → All (λ b. b < 128) line
text_small [] e = All-nil (λ b. b < 128)
text_small (b ∷ bs) e =
    let parts = both_hold (is_printable b) (is_text bs) e in
    All-cons (λ b. b < 128) b bs (printable_small b parts.0) (text_small bs parts.1)

pub text_is_utf8 : (line : List ℕ) → is_text line ≡ true → IsUtf8 line
text_is_utf8 line e = IsUtf8-from_ascii line (IsAscii-from_all line (text_small line e))

-- what fails only where U does not hold succeeds where it holds
pub ok_where : {T E : Type 0} (U : Type 0) (P : T → Type 0) (Q : E → Type 0) (r : Result T E)
    → MatchResult r P (λ e. (U → ⊥) × Q e) → U → is_ok r ≡ true
ok_where U P Q (Ok x) h u = refl
ok_where U P Q (Err e) h u = absurd (h.0 u)

-- a test of what is seen of the elements
pub list_any-map : {X Y : Type 0} (v : X → Y) (t : Y → Bool) (xs : List X)
    → list_any t (map v xs) ≡ list_any (λ x. t (v x)) xs
list_any-map v t [] = refl
list_any-map v t (x ∷ xs) = ap (λ (b : Bool). t (v x) || b) (list_any-map v t xs)
