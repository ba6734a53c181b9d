-- The program's objects and the module's are tiny.
use Rattle.std.proofs.Common.{◌≡◌, ◌+◌, ◌<◌, ◌≤◌, ◌%◌, ◌==◌, ℕ, zero, suc, Bool, true, false, List, [], ◌∷◌, length}
use Rattle.std.proofs.Common.{map}
use Rattle.std.proofs.Common.{refl, sym, ap, subst, arith}
use Rattle.std.specs.Prelude.{if◌then◌else◌, slice_index_or}
use Rattle.std.specs.List.{range_with_len}
use Rattle.std.proofs.lemmas.List.FromFn.{get_or-map-range_with_len, length-map-range_with_len}
use Rattle.elf_records.specs.Laws.{length-bytes_of}
use Rattle.generated_job.specs.Generated.{general_shape, initial_executable_shape, local_shape, module_shape, shape_of}
use Rattle.generated_job.specs.Generated.{value_of}
use Rattle.generated_job.specs.Shapes.{Shape, object_bytes}
use Rattle.tls_layout.specs.Places.{IsLawful, tls_size}
use Rattle.tls_layout.specs.Sections.{layout_of}
use Rattle.link_needs.specs.Linking.{Linking, layout, object}
use Rattle.generated_laws.specs.Reading.{ReadsAs}
use Rattle.generated_laws.proofs.PlaceSections.{IsTiny}
use Rattle.generated_laws.proofs.PlaceLimits.{AreTiny, lawful, tls_some}

-- ** shapes

-- what holds of the three forms holds of each object's shape
pub by_form : (n i : ℕ) (P : Shape → Type 0) → P (general_shape n i) → P (initial_executable_shape n i)
    → P (local_shape n i) → P (shape_of n i)
unfolding shape_of
by_form n i P general initial local = choose (i % 3 == 1) (i % 3 == 2)
  where
    choose : (a b : Bool)
        → P (if a then general_shape n i else if b then initial_executable_shape n i else local_shape n i)
    choose true b = general
    choose false true = initial
    choose false false = local

general_tiny : (n i : ℕ) → IsTiny (general_shape n i)
general_tiny n i =
    let four = length-bytes_of 4 (value_of n i) in
    record { code = omega arith; some_initial = omega arith; initial = omega arith; zeros = omega arith }

initial_tiny : (n i : ℕ) → IsTiny (initial_executable_shape n i)
initial_tiny n i =
    let four = length-bytes_of 4 (value_of n i) in
    record { code = omega arith; some_initial = omega arith; initial = omega arith; zeros = omega arith }

local_tiny : (n i : ℕ) → IsTiny (local_shape n i)
local_tiny n i =
    let four = length-bytes_of 4 (value_of n i) in
    record { code = omega arith; some_initial = omega arith; initial = omega arith; zeros = omega arith }

pub shape_tiny : (n i : ℕ) → IsTiny (shape_of n i)
shape_tiny n i = by_form n i IsTiny (general_tiny n i) (initial_tiny n i) (local_tiny n i)

pub module_tiny : IsTiny module_shape
unfolding module_shape
module_tiny =
    record { code = omega arith; some_initial = omega arith; initial = omega arith; zeros = omega arith }

-- ** what is asked of bytes: that they read as their shapes

abbrev pub ProgramIsRead : ℕ → Type 0
ProgramIsRead n = (i : ℕ) → 1 ≤ i → i ≤ n → ReadsAs (object_bytes (shape_of n i)) (shape_of n i)

abbrev pub ModuleIsRead : Type 0
ModuleIsRead = ReadsAs (object_bytes module_shape) module_shape

-- ** the program

abbrev pub program_bytes : ℕ → List (List ℕ)
program_bytes n = map (λ i. object_bytes (shape_of n i)) (range_with_len 1 n)

pub program_length : (n : ℕ) → length (program_bytes n) ≡ n
program_length n = length-map-range_with_len (λ i. object_bytes (shape_of n i)) 1 n

-- its objects are numbered from 0, their shapes from 1
pub program_object : (n o : ℕ) → o < n → slice_index_or (program_bytes n) o [] ≡ object_bytes (shape_of n (1 + o))
program_object n o below =
    get_or-map-range_with_len (λ i. object_bytes (shape_of n i)) 1 n o (1 + o) [] below refl

program_reads : (n o : ℕ) → ProgramIsRead n → o < n
    → ReadsAs (slice_index_or (program_bytes n) o []) (shape_of n (1 + o))
program_reads n o read below = rw (program_object n o below) (read (1 + o) (omega arith) (omega arith))

pub program_tiny : (n : ℕ) → ProgramIsRead n → AreTiny (program_bytes n)
program_tiny n read o below =
    let there : o < n = omega (arith, program_length n) in
    (shape_of n (1 + o), record { reads = program_reads n o read there; tiny = shape_tiny n (1 + o) })

-- ** the module

abbrev pub module_bytes : List (List ℕ)
module_bytes = object_bytes module_shape ∷ []

pub module_objects_tiny : ModuleIsRead → AreTiny module_bytes
module_objects_tiny read zero below = (module_shape, record { reads = read; tiny = module_tiny })
module_objects_tiny read (suc o) below = absurd (omega arith)

-- ** links of them

module _ (l : Linking) where
  module _ (n : ℕ) (few : n ≤ 1000) (read : ProgramIsRead n) (are : l.objects ≡ program_bytes n) where
    pub program_lawful : IsLawful (layout l)
    program_lawful =
        let P : List (List ℕ) → Type 0 = λ objects. IsLawful (layout_of l.kind objects) in
        subst P (sym are) (lawful l.kind (program_bytes n) (program_tiny n read) (omega (arith, program_length n)))

    pub program_read : (o : ℕ) → o < length l.objects → ReadsAs (object l o) (shape_of n (1 + o))
    program_read o below =
        let P : List (List ℕ) → Type 0 = λ objects. ReadsAs (slice_index_or objects o []) (shape_of n (1 + o)) in
        let there : o < n = omega (arith, program_length n, ap length are) in
        subst P (sym are) (program_reads n o read there)

  module _ (read : ModuleIsRead) (are : l.objects ≡ module_bytes) where
    pub module_lawful : IsLawful (layout l)
    module_lawful =
        let P : List (List ℕ) → Type 0 = λ objects. IsLawful (layout_of l.kind objects) in
        subst P (sym are) (lawful l.kind module_bytes (module_objects_tiny read) (omega arith))

    pub module_read : (o : ℕ) → o < length l.objects → ReadsAs (object l o) module_shape
    module_read o below =
        let P : List (List ℕ) → Type 0 = λ objects. ReadsAs (slice_index_or objects o []) module_shape in
        subst P (sym are) (only o (omega (arith, ap length are)))
      where
        only : (o : ℕ) → o < 1 → ReadsAs (slice_index_or module_bytes o []) module_shape
        only zero below = read
        only (suc o) below = absurd (omega arith)
