use Rattle.image_writer.proofs.Framing.{read_again}
use Rattle.image_writer.proofs.laws.files_are_read.Goals as goal

pub returns : goal.returns
returns c d file linkable symbols relocations = read_again d file linkable symbols relocations
