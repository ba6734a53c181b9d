-- The law of values.
use Rattle.address_map.specs.Map.{owner_at}
use Rattle.guest_arithmetic.specs.Plain.{plain_operations}
use Rattle.guest_machine.specs.Follow.{IsFollowed}
use Rattle.job_meaning.specs.Marked.{marked_operations}
use Rattle.tied_meaning.specs.Numbers.{Setting, alike}

-- results of related values are related, in any setting; the code's own instance is read from its address
abbrev pub NumbersFollowMarkedValues : Type 0
NumbersFollowMarkedValues = (g : Setting) → IsFollowed (alike g) (marked_operations owner_at) plain_operations
