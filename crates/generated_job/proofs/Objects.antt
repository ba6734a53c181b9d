-- The objects of the job, as the code draws them.
use Rattle.std.proofs.Common.{◌≡◌, ℕ, ◌+◌, ◌<◌, ◌≤◌, ◌^◌, ◌%◌, ◌==◌, Bool, true, false, cond, List, map, [], ◌∷◌, ◌++◌}
use Rattle.std.proofs.Common.{length, refl, sym, ap, ◌∙◌, arith, codes, length-append}
use Rattle.std.specs.Fmt.{decimal}
use Rattle.std.specs.List.{range_with_len}
use Rattle.std.proofs.lemmas.List.FromFn.{map-range_with_len_more}
use Rattle.std.proofs.lemmas.Fmt.{length-decimal-le}
use Rattle.elf_records.specs.Fields.{bytes_of}
use Rattle.elf_records.specs.Laws.{length-bytes_of}
use Rattle.elf_records.specs.declared.relocation.Rela.{Rela}
use Rattle.generated_job.specs.declared.access.Access.{Access}
use Rattle.generated_job.specs.declared.access.Access.TheVariants as access
use Rattle.generated_job.specs.Accesses.{access_of, calls_of, code_of, entries_of, shape_with}
use Rattle.generated_job.specs.Drafts.{IsShort}
use Rattle.generated_job.specs.Generated.{function_name, general_shape, generated_files, initial_executable_shape}
use Rattle.generated_job.specs.Generated.{local_shape}
use Rattle.generated_job.specs.Generated.{module_shape, object_name, shape_by, shape_of, value_of, variable_name}
use Rattle.generated_job.specs.Shapes.{object_bytes}

-- the form of an object, by what its number leaves
by_form : (n i : ℕ) (one two : Bool)
    → shape_by (code_of (cond one access.GeneralDynamic (cond two access.InitialExecutable access.LocalDynamic)))
    (entries_of (cond one access.GeneralDynamic (cond two access.InitialExecutable access.LocalDynamic)))
    (calls_of (cond one access.GeneralDynamic (cond two access.InitialExecutable access.LocalDynamic))) i
    (value_of n i)
    ≡ cond one (general_shape n i) (cond two (initial_executable_shape n i) (local_shape n i))
by_form n i true two = refl
by_form n i false true = refl
by_form n i false false = refl

-- the shape of an object follows from what its variable is at first
pub shape_known : (n i : ℕ) → shape_with i (value_of n i) ≡ shape_of n i
unfolding shape_of
shape_known n i = by_form n i (i % 3 == 1) (i % 3 == 2)

few_entries : (a : Access) → length (entries_of a) < 256
few_entries access.GeneralDynamic = omega arith
few_entries access.InitialExecutable = omega arith
few_entries access.LocalDynamic = omega arith
few_entries access.GeneralDynamicWrite = omega arith

few_code : (a : Access) → length (code_of a) < 256
few_code access.GeneralDynamic = omega arith
few_code access.InitialExecutable = omega arith
few_code access.LocalDynamic = omega arith
few_code access.GeneralDynamicWrite = omega arith

few_digits : (i : ℕ) → i ≤ 1000 → length (decimal i) ≤ 4
few_digits i h =
    let small : i < 10 ^ 4 = omega arith in
    let fits : i < 2 ^ 64 = omega arith in
    let some : 0 < 4 = omega arith in
    length-decimal-le 4 i some small fits

few_function : (i : ℕ) → i ≤ 1000 → length (function_name i) < 256
unfolding function_name
few_function i h = let e = length-append (codes "f") (decimal i) in omega (arith, e, few_digits i h)

few_variable : (i : ℕ) → i ≤ 1000 → length (variable_name i) < 256
unfolding variable_name
few_variable i h = let e = length-append (codes "x") (decimal i) in omega (arith, e, few_digits i h)

few_initial : (v : ℕ) → length (bytes_of 4 v) < 256
few_initial v = let e = length-bytes_of 4 v in omega (arith, e)

pub with_short : (i v : ℕ) → i ≤ 1000 → IsShort (shape_with i v)
with_short i v h = record {
  function = few_function i h;
  variable = few_variable i h;
  code = few_code (access_of i);
  relocations = few_entries (access_of i);
  initial = few_initial v;
}

pub module_short : IsShort module_shape
unfolding module_shape
module_short = record {
  function = omega arith;
  variable = omega arith;
  code = omega arith;
  relocations = omega arith;
  initial = omega arith;
}

-- parts that are those of a shape make it
pub shape_made : (i v : ℕ) (f x c b : List ℕ) (r : List Rela) (k : Bool) → f ≡ function_name i → x ≡ variable_name i
    → c ≡ code_of (access_of i)
    → r ≡ entries_of (access_of i) → b ≡ bytes_of 4 v → k ≡ calls_of (access_of i)
    → record { function = f; variable = x; code = c; relocations = r; initial = b; zeros = 0; calls = k }
    ≡ shape_with i v
shape_made i v f x c b r k ef ex ec er eb ek = rw (ef, ex, ec, er, eb, ek) refl

pub module_made : (c : List ℕ) (r : List Rela) (k : Bool) → c ≡ code_of access.GeneralDynamicWrite
    → r ≡ entries_of access.GeneralDynamicWrite
    → k ≡ calls_of access.GeneralDynamicWrite
    → record {
      function = codes "f";
      variable = codes "v";
      code = c;
      relocations = r;
      initial = 5 ∷ 0 ∷ 0 ∷ 0 ∷ [];
      zeros = 4;
      calls = k;
    } ≡ module_shape
unfolding module_shape
module_made c r k ec er ek = rw (ec, er, ek) refl

pub pair_known : {A B : Type 0} (a b : A) (x y : B) → a ≡ b → x ≡ y → ◌≡◌ {A = A × B} (a, x) (b, y)
pair_known a b x y e f = rw (e, f) refl

-- ** files

abbrev file_of : ℕ → ℕ → List ℕ × List ℕ
file_of n i = (object_name i, object_bytes (shape_of n i))

abbrev Pair : Type 0
Pair = List ℕ × List ℕ

-- one object more
pub files_more : (n k v : ℕ) (before after : List Pair) (file : Pair) → before ≡ map (file_of n) (range_with_len 1 k)
    → after ≡ before ++ file ∷ [] → file ≡ (object_name (k + 1), object_bytes (shape_with (k + 1) v))
    → v ≡ value_of n (k + 1)
    → after ≡ map (file_of n) (range_with_len 1 (k + 1))
files_more n k v before after file b a f e =
    let next : 1 + k ≡ k + 1 = omega arith in
    let is : file ≡ file_of n (k + 1) = f ∙ ap (λ w. (object_name (k + 1), object_bytes (shape_with (k + 1) w))) e
    ∙ ap (λ s. (object_name (k + 1), object_bytes s)) (shape_known n (k + 1)) in
    a ∙ ap (λ z. z ++ file ∷ []) b ∙ ap (λ p. map (file_of n) (range_with_len 1 k) ++ p ∷ []) is
    ∙ sym (map-range_with_len_more (file_of n) 1 k (k + 1) next)

-- behind them that of the module
pub files_known : (n k : ℕ) (before after : List Pair) (file : Pair) → k ≡ n
    → before ≡ map (file_of n) (range_with_len 1 k)
    → after ≡ before ++ file ∷ [] → file ≡ (codes "p.o", object_bytes module_shape) → after ≡ generated_files n
unfolding generated_files
files_known n k before after file e b a f = rw (a, b, f, e) refl
