use Rattle.image_writer.proofs.Framing.{has_frame}
use Rattle.image_writer.proofs.laws.linkable_drafts_have_frames.Goals as goal

pub returns : goal.returns
returns c = has_frame
