-- Laws of instances.
use Rattle.std.specs.Prelude.{◌≡◌, ◌≢◌, ◌+◌, ◌≤◌, ◌⊎◌, ℕ, Some, length, map, slice_get, Ok, List}
use Rattle.image_file.specs.Spelled.{Part, Spelled}
use Rattle.image_rules.specs.declared.places.FileKind.{FileKind}
use Rattle.image_rules.specs.declared.places.FileKind.TheVariants.{Exe}
use Rattle.job_text.specs.Jobs.{JobParts, job_of}
use Rattle.loaded_modules.specs.Given.{LateLast}
use Rattle.loaded_modules.specs.Loader.{bias}

-- the address of a part of an image that is loaded as this instance
abbrev pub start_of : FileKind → ℕ → Part → ℕ
start_of kind number part = bias kind number + part.address

-- one ends before the other begins
abbrev pub LieApart : FileKind → ℕ → Part → FileKind → ℕ → Part → Type 0
LieApart k a p l b q =
    (start_of k a p + length p.bytes ≤ start_of l b q) ⊎ (start_of l b q + length q.bytes ≤ start_of k a p)

-- the parts of two instances with different numbers lie apart, unless both are of programs at fixed addresses,
-- of which a job has one
abbrev pub InstancesApart : Spelled → Spelled → Type 0
InstancesApart first second =
    (a b i j : ℕ) (p q : Part) → a ≢ b → (first.kind ≢ Exe) ⊎ (second.kind ≢ Exe) → slice_get first.parts i ≡ Some p
    → slice_get second.parts j ≡ Some q → LieApart first.kind a p second.kind b q

-- a job that was read has its late images last, as `LateLast` requires
abbrev pub ReadLateLast : List ℕ → JobParts → Type 0
ReadLateLast text job = job_of text ≡ Ok job → LateLast (map (λ image. image.kind) job.images)
