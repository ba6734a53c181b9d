use Rattle.generated_laws.proofs.Linking.{objects_link}
use Rattle.generated_laws.proofs.links.generated_objects_link.Goals as goal

pub returns : goal.returns
returns c = objects_link
