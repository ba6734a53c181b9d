use Rattle.generated_laws.proofs.ObjectCases.{generated_faultless}
use Rattle.generated_laws.proofs.objects.generated_objects_are_faultless.Goals as goal

pub returns : goal.returns
returns c = generated_faultless
