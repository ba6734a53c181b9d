use Rattle.commands.proofs.Ready.{checked_links}
use Rattle.commands.proofs.laws.checked_links_are_run.Goals as goal

pub returns : goal.returns
returns c = checked_links
