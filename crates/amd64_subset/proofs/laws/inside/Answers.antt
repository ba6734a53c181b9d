-- The length and the fields of what was read lie in its bytes.
use Rattle.std.proofs.Common.{sym, Some}
use Rattle.amd64_subset.proofs.Places.{decoded_length, decoded_placed}
use Rattle.amd64_subset.proofs.laws.inside.Goals as goal

pub returns : goal.returns
returns c = record {
  length = λ bytes d e. decoded_length bytes (Some d) (sym e);
  placed = λ bytes d e. decoded_placed bytes (Some d) (sym e);
}
