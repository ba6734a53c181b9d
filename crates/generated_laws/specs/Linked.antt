-- Generated objects link.
use Rattle.std.specs.Prelude.{◌≡◌, ◌≤◌, ℕ, true, List, [], ◌∷◌, map}
use Rattle.std.specs.List.{range_with_len}
use Rattle.generated_job.specs.Generated.{module_shape, shape_of}
use Rattle.generated_job.specs.Shapes.{object_bytes}
use Rattle.link_core.specs.Faults.{Links}
use Rattle.link_faults.specs.declared.image_kind.ImageKind.TheVariants.{Exe, Late}
use Rattle.link_needs.specs.Given.{IsGiven}
use Rattle.link_needs.specs.Linking.{Linking}

-- the objects of the program
abbrev pub program_objects : ℕ → List (List ℕ)
program_objects n = map (λ i. object_bytes (shape_of n i)) (range_with_len 1 n)

-- whatever startup images export
pub record GeneratedObjectsLink : Type 0 where
  pub program : (n : ℕ) → 1 ≤ n → n ≤ 1000 → (l : Linking) → IsGiven l → l.relax ≡ true → l.kind ≡ Exe
      → l.objects ≡ program_objects n → Links l
  pub late : (l : Linking) → IsGiven l → l.relax ≡ true → l.kind ≡ Late
      → l.objects ≡ object_bytes module_shape ∷ [] → Links l
