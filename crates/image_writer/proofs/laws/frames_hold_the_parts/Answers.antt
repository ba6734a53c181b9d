use Rattle.image_writer.proofs.Framing.{frames_hold}
use Rattle.image_writer.proofs.laws.frames_hold_the_parts.Goals as goal

pub returns : goal.returns
returns c d file linkable inside = frames_hold d file inside
