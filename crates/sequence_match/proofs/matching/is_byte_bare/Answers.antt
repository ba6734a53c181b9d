use Rattle.std.proofs.Common.{rules}
use Rattle.sequence_match.proofs.Entries.{bare_of}
use Rattle.sequence_match.proofs.matching.is_byte_bare.Goals as goal

pub returns-in-None : goal.returns-in-None
returns-in-None c = (
  λ t. bare_of c.args.code.now.relocations.now c.args.place c.in-None.ensures,
  λ h. (search rules),
)
