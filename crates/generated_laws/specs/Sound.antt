-- Generated objects have no fault.
use Rattle.std.specs.Prelude.{ℕ, ◌≤◌, List}
use Rattle.object_rules.specs.declared.fault.FaultKind.TheVariants.{Sequence, StrayCall}
use Rattle.elf_object.specs.Faults.{IsObject}
use Rattle.generated_job.specs.Generated.{module_shape, shape_of}
use Rattle.generated_job.specs.Shapes.{object_bytes}
use Rattle.sequence_match.specs.Faults.{Nowhere}

-- the bytes are an object, and all its TLS accesses are sequences
pub record IsFaultless (b : List ℕ) : Type 0 where
  pub object : IsObject b
  pub no_loose : Nowhere Sequence b
  pub no_stray : Nowhere StrayCall b

-- each object of each program, and that of the module
pub record GeneratedObjectsAreFaultless : Type 0 where
  pub program : (n i : ℕ) → n ≤ 1000 → 1 ≤ i → i ≤ n → IsFaultless (object_bytes (shape_of n i))
  pub late : IsFaultless (object_bytes module_shape)
