-- The shapes of the generated objects are small, their relocations in order, and each has one site.
use Rattle.std.proofs.Common.{◌≢◌, ◌%◌, ◌<◌, ◌≤◌, ◌==◌, ℕ, zero, suc, Bool, true, false, List, [], ◌∷◌, if◌then◌else◌}
use Rattle.std.proofs.Common.{length, Some, refl, arith, rules}
use Rattle.std.proofs.lemmas.Fmt.{decimal_is_IsNumeral, length-decimal-le}
use Rattle.std.proofs.lemmas.List.{get_or_default}
use Rattle.std.proofs.lemmas.List.Elements.{All-from_recursion}
use Rattle.std.proofs.lemmas.Str.Parse.{digit_at}
use Rattle.std.specs.Fmt.{decimal}
use Rattle.std.specs.List.{All, AllPairs}
use Rattle.elf_records.specs.Fields.{bytes_of}
use Rattle.elf_records.specs.Laws.{length-bytes_of}
use Rattle.elf_records.specs.Records.{rela_symbol, rela_kind}
use Rattle.elf_records.specs.FittingRecords.{FitsRela}
use Rattle.elf_records.specs.declared.relocation.Rela.{Rela}
use Rattle.object_faults.specs.declared.class.SectionClass.TheVariants.{Executable}
use Rattle.elf_object.specs.Faults.{IsMiskinded}
use Rattle.object_faults.specs.Relocations.{relocation_kind}
use Rattle.generated_job.specs.Generated.{function_name, variable_name, value_of, shape_of, module_shape}
use Rattle.generated_job.specs.Generated.{general_shape, initial_executable_shape, local_shape}
use Rattle.generated_job.specs.Shapes.{Shape}
use Rattle.generated_laws.specs.Reading.{IsByte, IsNameText, IsSmall, known_of}
use Rattle.generated_laws.proofs.ObjectRelocs.{AreInOrder, field_end}

-- ** names and values

-- a letter and a number's digits
numbered : (letter i : ℕ) → letter ≢ 0 → letter < 256 → i ≤ 1000 → IsNameText (letter ∷ decimal i)
numbered letter i some small few = record {
  some = omega arith;
  few = omega (arith, length-decimal-le 4 i (omega arith) (omega arith) (omega arith));
  bytes = bytes;
}
  where
    bytes : All (λ b. (b ≢ 0) × (b < 256)) (letter ∷ decimal i)
    bytes zero d below = (some, small)
    bytes (suc k) d below =
        let inside : k < length (decimal i) = omega arith in
        let digit = digit_at (decimal i) k (decimal_is_IsNumeral i (omega arith)).0.1 inside in
        let same = get_or_default (decimal i) k d 0 inside in
        (λ none. omega (arith, digit, same, none), omega (arith, digit, same))

function_text : (i : ℕ) → i ≤ 1000 → IsNameText (function_name i)
unfolding function_name
function_text i few = numbered 102 i (λ none. omega arith) (omega arith) few

variable_text : (i : ℕ) → i ≤ 1000 → IsNameText (variable_name i)
unfolding variable_name
variable_text i few = numbered 120 i (λ none. omega arith) (omega arith) few

four_bytes : (x : ℕ) → All IsByte (bytes_of 4 x)
unfolding bytes_of
four_bytes x = All-from_recursion IsByte (bytes_of 4 x) (omega arith, (omega arith, (omega arith, (omega arith, tt))))

four_long : (x : ℕ) → length (bytes_of 4 x) < 256
four_long x = omega (arith, length-bytes_of 4 x)

-- ** the shapes are small

pub general_small : (n i : ℕ) → i ≤ 1000 → IsSmall (general_shape n i)
general_small n i few = record {
  function_name = function_text i few;
  variable_name = variable_text i few;
  few_code = omega arith;
  code_bytes = All-from_recursion IsByte (general_shape n i).code (search (rules, arith));
  few_relocations = omega arith;
  relocations_fit = All-from_recursion FitsRela (general_shape n i).relocations (search (rules, arith));
  few_initial = four_long (value_of n i);
  initial_bytes = four_bytes (value_of n i);
  few_zeros = omega arith;
}

pub initial_small : (n i : ℕ) → i ≤ 1000 → IsSmall (initial_executable_shape n i)
initial_small n i few = record {
  function_name = function_text i few;
  variable_name = variable_text i few;
  few_code = omega arith;
  code_bytes = All-from_recursion IsByte (initial_executable_shape n i).code (search (rules, arith));
  few_relocations = omega arith;
  relocations_fit = All-from_recursion FitsRela (initial_executable_shape n i).relocations (search (rules, arith));
  few_initial = four_long (value_of n i);
  initial_bytes = four_bytes (value_of n i);
  few_zeros = omega arith;
}

pub local_small : (n i : ℕ) → i ≤ 1000 → IsSmall (local_shape n i)
local_small n i few = record {
  function_name = function_text i few;
  variable_name = variable_text i few;
  few_code = omega arith;
  code_bytes = All-from_recursion IsByte (local_shape n i).code (search (rules, arith));
  few_relocations = omega arith;
  relocations_fit = All-from_recursion FitsRela (local_shape n i).relocations (search (rules, arith));
  few_initial = four_long (value_of n i);
  initial_bytes = four_bytes (value_of n i);
  few_zeros = omega arith;
}

letter_text : (letter : ℕ) → letter ≢ 0 → letter < 256 → IsNameText (letter ∷ [])
letter_text letter some small = record {
  some = omega arith;
  few = omega arith;
  bytes = All-from_recursion (λ b. (b ≢ 0) × (b < 256)) (letter ∷ []) ((some, small), tt);
}

pub module_small : IsSmall module_shape
unfolding module_shape
module_small = record {
  function_name = letter_text 102 (λ none. omega arith) (omega arith);
  variable_name = letter_text 118 (λ none. omega arith) (omega arith);
  few_code = omega arith;
  code_bytes = All-from_recursion IsByte module_shape.code (search (rules, arith));
  few_relocations = omega arith;
  relocations_fit = All-from_recursion FitsRela module_shape.relocations (search (rules, arith));
  few_initial = omega arith;
  initial_bytes = All-from_recursion IsByte module_shape.initial (search (rules, arith));
  few_zeros = omega arith;
}

-- ** their relocations are in order

-- one more in front
pairs_of : {X : Type 0} (R : X → X → Type 0) (x : X) (xs : List X) → All (R x) xs → AllPairs R xs → AllPairs R (x ∷ xs)
pairs_of R x xs first rest i zero d less below = absurd (omega arith)
pairs_of R x xs first rest zero (suc j) d less below = first j d (omega arith)
pairs_of R x xs first rest (suc i) (suc j) d less below = rest i j d (omega arith) (omega arith)

pairs_none : {X : Type 0} (R : X → X → Type 0) → AllPairs R []
pairs_none R i j d less below = absurd (omega arith)

-- the field of one ends before that of another begins
abbrev Rises : Rela → Rela → Type 0
Rises x y = field_end x ≤ y.offset

one_rises : (x : Rela) → AllPairs Rises (x ∷ [])
one_rises x = pairs_of Rises x [] (All-from_recursion (Rises x) [] tt) (pairs_none Rises)

two_rise : (x y : Rela) → Rises x y → AllPairs Rises (x ∷ y ∷ [])
two_rise x y first = pairs_of Rises x (y ∷ []) (All-from_recursion (Rises x) (y ∷ []) (first, tt)) (one_rises y)

three_rise : (x y z : Rela) → Rises x y → Rises x z → Rises y z → AllPairs Rises (x ∷ y ∷ z ∷ [])
three_rise x y z first second third =
    pairs_of Rises x (y ∷ z ∷ []) (All-from_recursion (Rises x) (y ∷ z ∷ []) (first, (second, tt))) (two_rise y z third)

abbrev Names : Shape → Rela → Type 0
Names s x = (0 < rela_symbol x) × (rela_symbol x < length (known_of s))

abbrev IsOfType : Rela → Type 0
IsOfType x = IsMiskinded (relocation_kind (rela_kind x)) (Some Executable) → ⊥

abbrev LiesIn : Shape → Rela → Type 0
LiesIn s x = field_end x ≤ length s.code

pub general_in_order : (n i : ℕ) → AreInOrder (general_shape n i)
unfolding known_of
general_in_order n i = record {
  symbols = All-from_recursion (Names (general_shape n i)) (general_shape n i).relocations (search (rules, arith));
  kinds = All-from_recursion IsOfType (general_shape n i).relocations (λ bad. bad.1 refl, (λ bad. bad.1 refl, tt));
  within = All-from_recursion (LiesIn (general_shape n i)) (general_shape n i).relocations (search (rules, arith));
  rising = two_rise _ _ (omega arith);
}

pub initial_in_order : (n i : ℕ) → AreInOrder (initial_executable_shape n i)
unfolding known_of
initial_in_order n i = record {
  symbols = All-from_recursion (Names (initial_executable_shape n i)) (initial_executable_shape n i).relocations
      (search (rules, arith));
  kinds = All-from_recursion IsOfType (initial_executable_shape n i).relocations (λ bad. bad.1 refl, tt);
  within = All-from_recursion (LiesIn (initial_executable_shape n i)) (initial_executable_shape n i).relocations
      (search (rules, arith));
  rising = one_rises _;
}

pub local_in_order : (n i : ℕ) → AreInOrder (local_shape n i)
unfolding known_of
local_in_order n i = record {
  symbols = All-from_recursion (Names (local_shape n i)) (local_shape n i).relocations (search (rules, arith));
  kinds = All-from_recursion IsOfType (local_shape n i).relocations
      (λ bad. bad.1 refl, (λ bad. bad.1 refl, (λ bad. bad.1 refl, tt)));
  within = All-from_recursion (LiesIn (local_shape n i)) (local_shape n i).relocations (search (rules, arith));
  rising = three_rise _ _ _ (omega arith) (omega arith) (omega arith);
}

pub module_in_order : AreInOrder module_shape
unfolding known_of module_shape
module_in_order = record {
  symbols = All-from_recursion (Names module_shape) module_shape.relocations (search (rules, arith));
  kinds = All-from_recursion IsOfType module_shape.relocations (λ bad. bad.1 refl, (λ bad. bad.1 refl, tt));
  within = All-from_recursion (LiesIn module_shape) module_shape.relocations (search (rules, arith));
  rising = two_rise _ _ (omega arith);
}

-- ** which shape an object has

pub of_shape : (P : Shape → Type 0) (n i : ℕ) → P (general_shape n i) → P (initial_executable_shape n i)
    → P (local_shape n i) → P (shape_of n i)
unfolding shape_of
of_shape P n i general initial local = of_tests (i % 3 == 1) (i % 3 == 2)
  where
    of_tests : (p q : Bool)
        → P (if p then general_shape n i else if q then initial_executable_shape n i else local_shape n i)
    of_tests true q = general
    of_tests false true = initial
    of_tests false false = local
