-- The shapes that `gen N` makes are plain, and their names are apart.
use Rattle.std.proofs.Common.{◌≡◌, ◌≢◌, ◌%◌, ◌≤◌, ℕ, Bool, true, false, [], ◌∷◌, length, inl, inr, refl, ap, arith}
use Rattle.std.specs.Prelude.{◌==◌, codes, get_or, if◌then◌else◌}
use Rattle.std.specs.Fmt.{decimal}
use Rattle.std.specs.List.{All}
use Rattle.std.proofs.lemmas.Fmt.{decimal_injective, length-decimal-le}
use Rattle.std.proofs.lemmas.List.{append_cancel_left}
use Rattle.elf_object.specs.declared.relocation.Relocation.{Relocation}
use Rattle.elf_records.specs.Laws.{length-bytes_of}
use Rattle.elf_records.specs.Symbols.{get_address}
use Rattle.dynamic_symbols.proofs.Lists.{all_cons, all_nil}
use Rattle.generated_job.specs.Generated.{function_name, general_shape, initial_executable_shape, local_shape}
use Rattle.generated_job.specs.Generated.{module_shape, shape_of, value_of, variable_name}
use Rattle.generated_laws.proofs.KindPlain.{IsPlain, IsWelcome, Suits}

all_one : (P : Relocation → Type 0) (x : Relocation) → P x → All P (x ∷ [])
all_one P x here = all_cons P x [] here (all_nil P)

all_two : (P : Relocation → Type 0) (x y : Relocation) → P x → P y → All P (x ∷ y ∷ [])
all_two P x y here next = all_cons P x (y ∷ []) here (all_one P y next)

all_three : (P : Relocation → Type 0) (x y z : Relocation) → P x → P y → P z → All P (x ∷ y ∷ z ∷ [])
all_three P x y z here next last = all_cons P x (y ∷ z ∷ []) here (all_two P y z next last)

-- ** names

function_short : (i : ℕ) → i ≤ 1000 → length (function_name i) ≤ 5
unfolding function_name
function_short i few = let digits = length-decimal-le 4 i (omega arith) (omega (arith, few)) (omega (arith, few)) in
    omega (arith, digits)

variable_short : (i : ℕ) → i ≤ 1000 → length (variable_name i) ≤ 5
unfolding variable_name
variable_short i few = let digits = length-decimal-le 4 i (omega arith) (omega (arith, few)) (omega (arith, few)) in
    omega (arith, digits)

pub functions_apart : (i j : ℕ) → i ≤ 1000 → j ≤ 1000 → function_name i ≡ function_name j → i ≡ j
unfolding function_name
functions_apart i j low high e =
    decimal_injective i j (omega (arith, low)) (omega (arith, high))
    (append_cancel_left (codes "f") (decimal i) (decimal j) e)

pub variables_apart : (i j : ℕ) → i ≤ 1000 → j ≤ 1000 → variable_name i ≡ variable_name j → i ≡ j
unfolding variable_name
variables_apart i j low high e =
    decimal_injective i j (omega (arith, low)) (omega (arith, high))
    (append_cancel_left (codes "x") (decimal i) (decimal j) e)

-- they differ in their first bytes
pub kinds_apart : (i j : ℕ) → function_name i ≢ variable_name j
unfolding function_name variable_name
kinds_apart i j e = let first : 102 ≡ 120 = ap (λ name. get_or name 0 0) e in omega (arith, first)

pub function_named : (i : ℕ) → function_name i ≢ get_address
unfolding function_name
function_named i e = let first : 102 ≡ 95 = ap (λ name. get_or name 0 0) e in omega (arith, first)

pub variable_named : (i : ℕ) → variable_name i ≢ get_address
unfolding variable_name
variable_named i e = let first : 120 ≡ 95 = ap (λ name. get_or name 0 0) e in omega (arith, first)

-- ** shapes

general_plain : (n i : ℕ) → i ≤ 1000 → IsPlain (general_shape n i)
general_plain n i few = record {
  suits = all_two (Suits true) _ _ (inl (refl, refl)) (inr (refl, refl, refl));
  welcome = all_two IsWelcome _ _ (record { no_local_exec = λ image. refl; no_narrow = λ image. refl })
      (record { no_local_exec = λ image. refl; no_narrow = λ image. refl });
  few = omega arith;
  some_initial = omega (arith, length-bytes_of 4 (value_of n i));
  short_function = function_short i few;
  short_variable = variable_short i few;
}

initial_executable_plain : (n i : ℕ) → i ≤ 1000 → IsPlain (initial_executable_shape n i)
initial_executable_plain n i few = record {
  suits = all_one (Suits false) _ (inl (refl, refl));
  welcome = all_one IsWelcome _ (record { no_local_exec = λ image. refl; no_narrow = λ image. refl });
  few = omega arith;
  some_initial = omega (arith, length-bytes_of 4 (value_of n i));
  short_function = function_short i few;
  short_variable = variable_short i few;
}

local_plain : (n i : ℕ) → i ≤ 1000 → IsPlain (local_shape n i)
local_plain n i few = record {
  suits = all_three (Suits true) _ _ _ (inl (refl, refl)) (inr (refl, refl, refl)) (inl (refl, refl));
  welcome = all_three IsWelcome _ _ _ (record { no_local_exec = λ image. refl; no_narrow = λ image. refl })
      (record { no_local_exec = λ image. refl; no_narrow = λ image. refl })
      (record { no_local_exec = λ image. refl; no_narrow = λ image. refl });
  few = omega arith;
  some_initial = omega (arith, length-bytes_of 4 (value_of n i));
  short_function = function_short i few;
  short_variable = variable_short i few;
}

pub shape_plain : (n i : ℕ) → i ≤ 1000 → IsPlain (shape_of n i)
unfolding shape_of
shape_plain n i few = by (i % 3 == 1) (i % 3 == 2)
  where
    by : (t u : Bool) → IsPlain
        (if t then general_shape n i else (if u then initial_executable_shape n i else local_shape n i))
    by true u = general_plain n i few
    by false true = initial_executable_plain n i few
    by false false = local_plain n i few

pub function_of_shape : (n i : ℕ) → (shape_of n i).function ≡ function_name i
unfolding shape_of
function_of_shape n i = by (i % 3 == 1) (i % 3 == 2)
  where
    by : (t u : Bool)
        → (if t then general_shape n i else (if u then initial_executable_shape n i else local_shape n i)).function
        ≡ function_name i
    by true u = refl
    by false true = refl
    by false false = refl

pub variable_of_shape : (n i : ℕ) → (shape_of n i).variable ≡ variable_name i
unfolding shape_of
variable_of_shape n i = by (i % 3 == 1) (i % 3 == 2)
  where
    by : (t u : Bool)
        → (if t then general_shape n i else (if u then initial_executable_shape n i else local_shape n i)).variable
        ≡ variable_name i
    by true u = refl
    by false true = refl
    by false false = refl

pub module_plain : IsPlain module_shape
unfolding module_shape
module_plain = record {
  suits = all_two (Suits true) _ _ (inl (refl, refl)) (inr (refl, refl, refl));
  welcome = all_two IsWelcome _ _ (record { no_local_exec = λ image. refl; no_narrow = λ image. refl })
      (record { no_local_exec = λ image. refl; no_narrow = λ image. refl });
  few = omega arith;
  some_initial = omega arith;
  short_function = omega arith;
  short_variable = omega arith;
}

pub module_names_apart : module_shape.function ≢ module_shape.variable
unfolding module_shape
module_names_apart e = let first : 102 ≡ 118 = ap (λ name. get_or name 0 0) e in omega (arith, first)

pub module_function_named : module_shape.function ≢ get_address
unfolding module_shape
module_function_named e = let first : 102 ≡ 95 = ap (λ name. get_or name 0 0) e in omega (arith, first)

pub module_variable_named : module_shape.variable ≢ get_address
unfolding module_shape
module_variable_named e = let first : 118 ≡ 95 = ap (λ name. get_or name 0 0) e in omega (arith, first)
