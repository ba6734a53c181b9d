use Rattle.job_meaning.specs.MarkedLaws.{marked_lawful}
use Rattle.job_meaning.proofs.laws.is_lawful.Goals as goal

pub returns : goal.returns
returns c = marked_lawful
