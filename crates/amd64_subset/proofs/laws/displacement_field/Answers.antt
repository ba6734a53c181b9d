-- The displacement's four bytes, and any other four there.
use Rattle.amd64_subset.proofs.FieldLaws.{displacement_around}
use Rattle.amd64_subset.proofs.laws.displacement_field.Goals as goal

pub returns : goal.returns
returns c = record {
  number = λ bytes four tail d len e at. (displacement_around bytes four tail d len e at).0;
  other = λ bytes four other tail d len other-length e at.
      (displacement_around bytes four tail d len e at).1 other other-length;
}
