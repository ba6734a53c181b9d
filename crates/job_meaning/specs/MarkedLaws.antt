-- Marked values keep the laws of values.
use Rattle.std.proofs.Common.{◌≡◌, ℕ, ◌%◌, ◌^◌, ◌<◌, Bool, List, [], ◌∷◌, map, Some, Ok, refl, ap, arith}
use Rattle.guest_arithmetic.specs.Plain.{plain_operations}
use Rattle.guest_arithmetic.specs.PlainLaws.{plain_laws}
use Rattle.guest_arithmetic.specs.Values.{IsLawful}
use Rattle.job_meaning.specs.declared.values.Word.{Word}
use Rattle.job_meaning.specs.declared.values.Word.TheVariants.{Number, Undefined, Marked}
use Rattle.job_meaning.specs.declared.values.Flag.{Flag}
use Rattle.job_meaning.specs.declared.values.Flag.TheVariants.{Truth, Unsettled}
use Rattle.job_meaning.specs.declared.values.Byte.{Byte}
use Rattle.job_meaning.specs.declared.values.Byte.TheVariants.{Value, Hidden, Part}
use Rattle.job_meaning.specs.Marked.{used_number, used_truth, code_byte, values_of, marked_operations}

number-only : (w : Word) (n : ℕ) → n < 2 ^ 64 → used_number w ≡ Ok n → w ≡ Number (n % 2 ^ 64)
number-only (Number m) n below used = let small : n % 2 ^ 64 ≡ n = omega arith in rw small (cc)
number-only Undefined n below used = cc
number-only (Marked token) n below used = cc

truth-only : (f : Flag) (b : Bool) → used_truth f ≡ Ok b → f ≡ Truth b
truth-only (Truth t) b used = cc
truth-only Unsettled b used = cc

code-only : (b : Byte) (n : ℕ) → code_byte b ≡ Some n → b ≡ Value n
code-only (Value m) n coded = cc
code-only Hidden n coded = cc
code-only (Part token k) n coded = cc

values-of : (ns : List ℕ) → values_of (map Value ns) ≡ Some ns
values-of [] = refl
values-of (n ∷ ns) = rw (values-of ns) refl

pub marked_lawful : (owner : ℕ → ℕ) → IsLawful (marked_operations owner)
unfolding marked_operations plain_operations
marked_lawful owner = record {
  number_of-word = λ n. refl;
  number_of-only = number-only;
  truth_of-flag = λ b. refl;
  truth_of-only = truth-only;
  truth_of-unsettled = λ f b used. cc;
  code-byte = λ n below. refl;
  code-only = λ b n below coded. code-only b n coded;
  joined-bytes = λ ns short. rw (values-of ns) refl;
  byte_of-word = λ n k below. ap Value (plain_laws.byte_of-word n k below);
}
