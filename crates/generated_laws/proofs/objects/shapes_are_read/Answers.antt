use Rattle.generated_laws.proofs.ObjectReads.{object_reads}
use Rattle.generated_laws.proofs.objects.shapes_are_read.Goals as goal

pub returns : goal.returns
returns c = object_reads
