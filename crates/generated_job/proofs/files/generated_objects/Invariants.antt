use Rattle.std.proofs.Common.{◌≡◌, map}
use Rattle.std.specs.List.{range_with_len}
use Rattle.generated_job.specs.Generated.{object_name, shape_of, value_of}
use Rattle.generated_job.specs.Shapes.{object_bytes}
use Rattle.generated_job.proofs.files.generated_objects.Given as goal

abbrev pub invariant-loop-before : goal.invariant-loop-before
invariant-loop-before l =
    (l.value ≡ value_of l.count l.before)
    × (l.files.items ≡ map (λ i. (object_name i, object_bytes (shape_of l.count i))) (range_with_len 1 l.before))
