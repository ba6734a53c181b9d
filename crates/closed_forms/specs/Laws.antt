-- The laws of single jobs.
use Rattle.std.specs.Prelude.{◌≡◌, Bool, []}
use Rattle.closed_forms.specs.EachForm.{EachLoads}
use Rattle.closed_forms.specs.HandedOver as handed
use Rattle.closed_forms.specs.LateData as late
use Rattle.closed_forms.specs.NoStack as stack
use Rattle.closed_jobs.specs.Worlds.{BothSay, said_in}
use Rattle.whole_meaning.specs.Jobs.{meant_world}
use Rattle.whole_meaning.specs.Loads.{meaning_of}

abbrev pub EachFormSaysTheSame : Type 0
EachFormSaysTheSame = (relax : Bool) → EachLoads relax

abbrev pub HandedOverSaysTheSame : Type 0
HandedOverSaysTheSame = (relax : Bool) → BothSay (handed.links relax) 6 handed.lines handed.order handed.says
    × BothSay (handed.links relax) 7 handed.reading [] handed.says_of_reading

abbrev pub LateDataSaysTheSame : Type 0
LateDataSaysTheSame = (relax : Bool) → BothSay (late.links relax) 3 late.lines late.order late.says

-- a call's test of the stack comes before the look for its variable
abbrev pub StackIsAskedFirst : Type 0
StackIsAskedFirst = (relax : Bool)
    → said_in (meant_world (meaning_of (stack.links relax)) 3 stack.lines []) ≡ stack.says
