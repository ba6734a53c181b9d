use Rattle.std.proofs.Common.{refl}
use Rattle.module_data.specs.Lending.{refilled}
use Rattle.module_data.proofs.piece.ImageData.bytes_mut.Goals as goal

pub returns : goal.returns
unfolding refilled
returns c = (
  (refl, λ w. rw (← c.self.view_is, c.self.inside.bytes.ok.0) refl),
  record { writes_back = tt; value = rw (← c.self.view_is) c.as_mut_slice.ensures.value },
)
