-- The shape that code holds, and the bounds by which its numbers fit their fields.
use Rattle.std.specs.Prelude.{◌<◌, length}
use Rattle.generated_job.specs.declared.shape.ObjectShape.{ObjectShape}
use Rattle.generated_job.specs.Shapes.{Shape}

abbrev pub shape_held : ObjectShape → Shape
shape_held s = record {
  function = s.function.now;
  variable = s.variable.now;
  code = s.code.now;
  relocations = s.relocations.now;
  initial = s.initial.now;
  zeros = s.zeros;
  calls = s.calls;
}

pub record IsShort (s : Shape) : Type 0 where
  pub function : length s.function < 256
  pub variable : length s.variable < 256
  pub code : length s.code < 256
  pub relocations : length s.relocations < 256
  pub initial : length s.initial < 256
