-- No field of a generated object overflows.
use Rattle.std.proofs.Common.{◌≡◌, ◌<◌, ◌≤◌, ◌+◌, ℕ, zero, suc, true, false, List, [], ◌∷◌, map, length, ap}
use Rattle.std.proofs.Common.{arith}
use Rattle.std.specs.Prelude.{IsNone, IsSomeAnd, slice_get}
use Rattle.std.specs.List.{AllByRecursion}
use Rattle.elf_object.specs.declared.relocation.Relocation.{Relocation}
use Rattle.elf_object.specs.Lent.{relocation_target}
use Rattle.generated_job.specs.Generated.{module_shape, shape_of}
use Rattle.generated_job.specs.Shapes.{Shape}
use Rattle.link_faults.specs.declared.image_kind.ImageKind.TheVariants.{Exe}
use Rattle.tls_symbols.specs.Faults.{held_in}
use Rattle.link_needs.specs.Given.{FitsTable, IsGiven}
use Rattle.link_needs.specs.Linking.{Linking, object}
use Rattle.link_needs.specs.Values.{field, is_replaced}
use Rattle.link_core.specs.Faults.{Overflows}
use Rattle.generated_laws.specs.Reading.{ReadsAs, relocation_of}
use Rattle.generated_laws.proofs.FieldShapes.{AllFit, BindsOwn, module_fits, program_fits}
use Rattle.generated_laws.proofs.PlaceShapes.{ModuleIsRead, ProgramIsRead, module_bytes, module_read}
use Rattle.generated_laws.proofs.PlaceShapes.{program_bytes, program_lawful, program_length, program_read}

-- what is true of no element is true of none by its number
none_at : (P : Relocation → Type 0) (xs : List Relocation) → AllByRecursion (λ r. P r → ⊥) xs → (e : ℕ)
    → IsSomeAnd (slice_get xs e) P → ⊥
none_at P [] none e is = is
none_at P (x ∷ xs) none zero is = none.0 is
none_at P (x ∷ xs) none (suc e) is = none_at P xs none.1 e is

-- a relocation of section t whose field does not hold its value
abbrev Overflowing : Linking → ℕ → ℕ → Relocation → Type 0
Overflowing l o t r = (is_replaced l o r ≡ false) × IsNone (field l o t r)

all_fit : (l : Linking) (o : ℕ) (xs : List Relocation) → AllFit l o xs
    → AllByRecursion (λ r. Overflowing l o 1 r → ⊥) xs
all_fit l o [] fits = tt
all_fit l o (x ∷ xs) fits = (λ over. fits.0 over.0 over.1, all_fit l o xs fits.1)

module _ (l : Linking) (o : ℕ) (s : Shape) (reads : ReadsAs (object l o) s)
    (fits : AllFit l o (map relocation_of s.relocations)) where
  -- of the relocations that are held for section t
  held_fit : (t e : ℕ) → relocation_target (object l o) t ≡ 0
      → IsSomeAnd (slice_get (held_in (object l o) t) e) (Overflowing l o (relocation_target (object l o) t)) → ⊥
  unfolding held_in
  held_fit t e none is = rw none at is

  code_fit : (e : ℕ)
      → IsSomeAnd (slice_get (held_in (object l o) 2) e) (Overflowing l o (relocation_target (object l o) 2)) → ⊥
  unfolding held_in
  code_fit e is =
      none_at (Overflowing l o 1) (map relocation_of s.relocations)
      (all_fit l o (map relocation_of s.relocations) fits) e
      (rw (reads.target, reads.relocations_are) at is)

  -- entry e of section t
  pub object_fits : (t e : ℕ) → Overflows l o t e → ⊥
  object_fits zero e over = held_fit zero e (reads.other_target zero (omega arith)) over.3
  object_fits (suc zero) e over = held_fit (suc zero) e (reads.other_target (suc zero) (omega arith)) over.3
  object_fits (suc (suc zero)) e over = code_fit e over.3
  object_fits (suc (suc (suc t))) e over =
      held_fit (suc (suc (suc t))) e (reads.other_target (suc (suc (suc t))) (omega arith)) over.3

-- the program: its objects read as their shapes, and each names its own variable
pub program_no_overflow : (n : ℕ) → n ≤ 1000 → (l : Linking) → l.relax ≡ true → l.kind ≡ Exe
    → l.objects ≡ program_bytes n → ProgramIsRead n → ((o : ℕ) → o < n → BindsOwn l o)
    → (o s e : ℕ) → Overflows l o s e → ⊥
program_no_overflow n few l relax program are read own o s e over =
    let there : o < n = omega (arith, over.0, program_length n, ap length are) in
    let reads = program_read l n few read are o over.0 in
    object_fits l o (shape_of n (1 + o)) reads
    (program_fits l o program relax (program_lawful l n few read are) (own o there) n (1 + o) reads) s e over

-- the module: its object reads as its shape, and its table is within the limits
pub module_no_overflow : (l : Linking) → IsGiven l → FitsTable l → l.objects ≡ module_bytes → ModuleIsRead
    → (o s e : ℕ) → Overflows l o s e → ⊥
module_no_overflow l given limits are read o s e over =
    let reads = module_read l read are o over.0 in
    object_fits l o module_shape reads (module_fits l o given limits reads) s e over
