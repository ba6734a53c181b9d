-- The laws of single jobs.
use Rattle.std.specs.Prelude.{Bool, []}
use Rattle.closed_jobs.specs.Worlds.{BothSay}
use Rattle.closed_tokens.specs.OldDescriptor as old
use Rattle.closed_tokens.specs.Peeked as peeked
use Rattle.closed_tokens.specs.Unclean.{IsUnclean}

abbrev pub PeekSaysTheSame : Type 0
PeekSaysTheSame = (relax : Bool) → BothSay (peeked.links relax) 3 peeked.lines [] peeked.says

-- what the machine shows then depends on the setting
abbrev pub PeekIsUnclean : Type 0
PeekIsUnclean = (relax : Bool)
    → IsUnclean (peeked.links relax) 7 peeked.marked [] peeked.means peeked.first (peeked.does relax)

abbrev pub NewDescriptorSaysTheSame : Type 0
NewDescriptorSaysTheSame = (relax : Bool) → BothSay (old.links relax) 4 old.lines old.order old.says

abbrev pub OldDescriptorIsUnclean : Type 0
OldDescriptorIsUnclean = (relax : Bool)
    → IsUnclean (old.links relax) 4 old.lines_with_old old.order old.means old.first old.does
