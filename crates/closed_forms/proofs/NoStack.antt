-- The late module that calls without a stack, computed.
use Rattle.std.proofs.Common.{◌≡◌, ◌∙◌, Bool, [], refl, ap}
use Rattle.whole_meaning.specs.Jobs.{meant_world}
use Rattle.whole_meaning.specs.Loads.{meaning_of}
use Rattle.closed_jobs.specs.Worlds.{said_in}
use Rattle.closed_jobs.proofs.Opened.{meant}
use Rattle.closed_forms.specs.LateData.{program, program_object}
use Rattle.closed_forms.specs.Laws.{StackIsAskedFirst}
use Rattle.closed_forms.specs.NoStack.{late, lines, links, module_object, says}

meant_says : (relax : Bool) → said_in (meant (links relax) 3 lines []) ≡ says
unfolding meant program late program_object module_object
meant_says relax = refl

is_meant : (relax : Bool) → meant_world (meaning_of (links relax)) 3 lines [] ≡ meant (links relax) 3 lines []
unfolding meant
is_meant relax = refl

pub asks_first : StackIsAskedFirst
asks_first relax = ap said_in (is_meant relax) ∙ meant_says relax
