-- Generated objects: their names are resolved, no kind of image refuses their relocations, and these and the names are few.
use Rattle.std.proofs.Common.{◌≡◌, ◌+◌, ◌^◌, ◌<◌, ◌≤◌, ◌∙◌, ℕ, zero, suc, List, [], ◌∷◌, length, refl, sym, subst}
use Rattle.std.proofs.Common.{arith}
use Rattle.std.specs.Prelude.{slice_index_or}
use Rattle.std.proofs.lemmas.List.FromFn.{get_or-map-range_with_len, length-map-range_with_len}
use Rattle.link_faults.specs.declared.image_kind.ImageKind.{ImageKind}
use Rattle.link_needs.specs.Refusals.{FitsKind, FitsStorage}
use Rattle.elf_object.specs.Counts.{relocation_count}
use Rattle.sequence_forms.specs.declared.places.Site.{Site}
use Rattle.sequence_match.specs.Faults.{AreSites}
use Rattle.tls_layout.specs.Places.{tls_size}
use Rattle.tls_layout.specs.Sections.{all_sections}
use Rattle.tls_symbols.specs.Bindings.{object_at, binding_of}
use Rattle.tls_symbols.specs.Faults.{AreResolved}
use Rattle.dynamic_symbols.specs.Names.{defined_symbols, imports, name_size}
use Rattle.generated_job.specs.Generated.{module_shape, shape_of}
use Rattle.generated_job.specs.Shapes.{Shape, object_bytes}
use Rattle.generated_laws.specs.Linked.{program_objects}
use Rattle.generated_laws.specs.Reading.{ReadsAs}
use Rattle.generated_laws.proofs.KindFits.{few_relocations, fits_kind, fits_storage}
use Rattle.generated_laws.proofs.KindPlain.{ReadAsShapes}
use Rattle.generated_laws.proofs.KindShapes.{function_named, function_of_shape, functions_apart, kinds_apart}
use Rattle.generated_laws.proofs.KindShapes.{module_function_named, module_names_apart, module_plain}
use Rattle.generated_laws.proofs.KindShapes.{module_variable_named, shape_plain, variable_named, variable_of_shape}
use Rattle.generated_laws.proofs.KindShapes.{variables_apart}
use Rattle.generated_laws.proofs.KindStorage.{has_storage}
use Rattle.generated_laws.proofs.NameDefinitions.{AreApart, variable_bound}
use Rattle.std.proofs.Common.{Some}
use Rattle.elf_object.specs.declared.relocation.Relocation.{Relocation}
use Rattle.link_faults.specs.declared.binding.Binding.TheVariants.{Here}
use Rattle.generated_laws.proofs.NameFaults.{resolved}
use Rattle.generated_laws.proofs.NameSizes.{names_fit, no_imports}

-- each object reads as its shape: what is asked of the bytes
abbrev pub ProgramReads : ℕ → Type 0
ProgramReads n = (i : ℕ) → 1 ≤ i → i ≤ n → ReadsAs (object_bytes (shape_of n i)) (shape_of n i)

abbrev pub ModuleReads : Type 0
ModuleReads = ReadsAs (object_bytes module_shape) module_shape

-- the sites of an image are those of its objects
abbrev pub HasItsSites : List (List ℕ) → List (List Site) → Type 0
HasItsSites objects sites = (o : ℕ) → o < length objects → AreSites (object_at objects o) (slice_index_or sites o [])

-- ** the program of n objects

module _ (n : ℕ) (few : n ≤ 1000) (reads : ProgramReads n) where
  -- object o is that of number o + 1
  shape : ℕ → Shape
  shape o = shape_of n (1 + o)

  pub program_count : length (program_objects n) ≡ n
  program_count = length-map-range_with_len (λ i. object_bytes (shape_of n i)) 1 n

  object_is : (o : ℕ) → o < length (program_objects n)
      → object_at (program_objects n) o ≡ object_bytes (shape_of n (1 + o))
  object_is o there =
      get_or-map-range_with_len (λ i. object_bytes (shape_of n i)) 1 n o (1 + o) []
      (omega (arith, there, program_count)) refl

  given : ReadAsShapes (program_objects n) shape
  unfolding shape
  given = record {
    reads = λ o there.
        subst (λ b. ReadsAs b (shape_of n (1 + o))) (sym (object_is o there))
        (reads (1 + o) (omega arith) (omega (arith, there, program_count)));
    plain = λ o there. shape_plain n (1 + o) (omega (arith, there, program_count, few));
  }

  apart : AreApart (program_objects n) shape
  unfolding shape
  apart = record {
    functions = λ o p there here e.
        (let same : 1 + o ≡ 1 + p =
        functions_apart (1 + o) (1 + p) (omega (arith, there, program_count, few))
        (omega (arith, here, program_count, few))
        (sym (function_of_shape n (1 + o)) ∙ e ∙ function_of_shape n (1 + p)) in
        omega (arith, same));
    variables = λ o p there here e.
        (let same : 1 + o ≡ 1 + p =
        variables_apart (1 + o) (1 + p) (omega (arith, there, program_count, few))
        (omega (arith, here, program_count, few))
        (sym (variable_of_shape n (1 + o)) ∙ e ∙ variable_of_shape n (1 + p)) in
        omega (arith, same));
    mixed = λ o p there here e.
        kinds_apart (1 + o) (1 + p) (sym (function_of_shape n (1 + o)) ∙ e ∙ variable_of_shape n (1 + p));
    function_named = λ o there e. function_named (1 + o) (sym (function_of_shape n (1 + o)) ∙ e);
    variable_named = λ o there e. variable_named (1 + o) (sym (variable_of_shape n (1 + o)) ∙ e);
  }

  -- the variable that an object names is its own
  pub program_bound : (startup : List (List (List ℕ))) (o : ℕ) (r : Relocation) → o < length (program_objects n)
      → r.symbol ≡ 2 → binding_of (program_objects n) startup o r ≡ Some (Here (record { object = o; symbol = 2 }))
  program_bound startup o r = variable_bound (program_objects n) shape given apart startup o r

  pub program_resolved : (startup : List (List (List ℕ))) → AreResolved (program_objects n) startup
  program_resolved startup = resolved (program_objects n) shape given apart startup

  pub program_fits_kind : (image : ImageKind) → FitsKind (program_objects n) image
  program_fits_kind image = fits_kind (program_objects n) shape given image

  pub program_fits_storage : (startup : List (List (List ℕ))) (image : ImageKind) (size : ℕ) → 0 < size
      → FitsStorage (program_objects n) startup image size
  program_fits_storage startup image size some = fits_storage (program_objects n) shape given startup image size some

  pub program_has_storage : 1 ≤ n → 0 < tls_size (all_sections (program_objects n))
  program_has_storage some = has_storage (program_objects n) shape given (omega (arith, program_count, some))

  pub program_few : relocation_count (program_objects n) ≤ 2 ^ 19
  program_few = omega (arith, few_relocations (program_objects n) shape given, program_count, few)

  pub program_imports : (startup : List (List (List ℕ))) (sites : List (List Site))
      → length sites ≡ length (program_objects n)
      → HasItsSites (program_objects n) sites → imports (program_objects n) startup sites ≡ []
  program_imports startup sites each are = no_imports (program_objects n) shape given apart startup sites each are

  pub program_short : (startup : List (List (List ℕ))) (sites : List (List Site))
      → length sites ≡ length (program_objects n)
      → HasItsSites (program_objects n) sites
      → name_size (program_objects n) (defined_symbols (program_objects n))
      (imports (program_objects n) startup sites) ≤ 2 ^ 22
  program_short startup sites each are =
      let short = names_fit (program_objects n) shape given (imports (program_objects n) startup sites)
      (program_imports startup sites each are) in
      omega (arith, short, program_count, few)

-- ** the module

abbrev pub module_objects : List (List ℕ)
module_objects = object_bytes module_shape ∷ []

module _ (reads : ModuleReads) where
  module_given : ReadAsShapes module_objects (λ o. module_shape)
  module_given = record { reads = by; plain = λ o there. module_plain }
    where
      by : (o : ℕ) → o < length module_objects → ReadsAs (object_at module_objects o) module_shape
      by zero there = reads
      by (suc o) there = absurd (omega (arith, there))

  module_apart : AreApart module_objects (λ o. module_shape)
  module_apart = record {
    functions = λ o p there here e. omega (arith, there, here);
    variables = λ o p there here e. omega (arith, there, here);
    mixed = λ o p there here. module_names_apart;
    function_named = λ o there. module_function_named;
    variable_named = λ o there. module_variable_named;
  }

  pub module_resolved : (startup : List (List (List ℕ))) → AreResolved module_objects startup
  module_resolved startup = resolved module_objects (λ o. module_shape) module_given module_apart startup

  pub module_fits_kind : (image : ImageKind) → FitsKind module_objects image
  module_fits_kind image = fits_kind module_objects (λ o. module_shape) module_given image

  pub module_fits_storage : (startup : List (List (List ℕ))) (image : ImageKind) (size : ℕ) → 0 < size
      → FitsStorage module_objects startup image size
  module_fits_storage startup image size some =
      fits_storage module_objects (λ o. module_shape) module_given startup image size some

  pub module_has_storage : 0 < tls_size (all_sections module_objects)
  module_has_storage = has_storage module_objects (λ o. module_shape) module_given (omega arith)

  pub module_few : relocation_count module_objects ≤ 2 ^ 19
  module_few = let few = few_relocations module_objects (λ o. module_shape) module_given in omega (arith, few)

  pub module_imports : (startup : List (List (List ℕ))) (sites : List (List Site))
      → length sites ≡ length module_objects
      → HasItsSites module_objects sites → imports module_objects startup sites ≡ []
  module_imports startup sites each are =
      no_imports module_objects (λ o. module_shape) module_given module_apart startup sites each are

  pub module_short : (startup : List (List (List ℕ))) (sites : List (List Site)) → length sites ≡ length module_objects
      → HasItsSites module_objects sites
      → name_size module_objects (defined_symbols module_objects) (imports module_objects startup sites) ≤ 2 ^ 22
  module_short startup sites each are =
      let short = names_fit module_objects (λ o. module_shape) module_given (imports module_objects startup sites)
      (module_imports startup sites each are) in
      omega (arith, short)
