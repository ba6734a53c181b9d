-- The laws of single jobs.
use Rattle.std.specs.Prelude.{Bool, []}
use Rattle.closed_jobs.specs.Worlds.{BothSay, loads_of_links}
use Rattle.closed_jobs.specs.LocalCode as local
use Rattle.closed_jobs.specs.Reopened as reopened
use Rattle.closed_jobs.specs.LocalSites.{AreTiedSites, setting}
use Rattle.tied_meaning.specs.Ties.{AreTied}
use Rattle.closed_jobs.specs.Tables.{HasTable, app, app_words, lib, lib_words, of_app, of_lib, of_plug, plug}
use Rattle.closed_jobs.specs.Tables.{plug_words}
use Rattle.whole_meaning.specs.Loads.{meaning_of}

abbrev pub LocalCodeSaysTheSame : Type 0
LocalCodeSaysTheSame = (relax : Bool) → BothSay (local.links relax) 4 local.lines [] local.says

abbrev pub ReopenedSaysTheSame : Type 0
ReopenedSaysTheSame = (relax : Bool) → BothSay (reopened.links relax) 4 reopened.lines reopened.order reopened.says

abbrev pub LocalCodeIsTied : Type 0
LocalCodeIsTied = (relax : Bool)
    → AreTiedSites (setting relax) (meaning_of (local.links relax)) (loads_of_links (local.links relax))

-- the premise of the laws of jobs, that all that is loaded is tied, is true of this job; it has no events
abbrev pub LocalJobIsTied : Type 0
LocalJobIsTied = (relax : Bool)
    → AreTied (setting relax) (meaning_of (local.links relax)) (loads_of_links (local.links relax)) []

abbrev pub TablesHoldTheirWords : Type 0
TablesHoldTheirWords =
    HasTable app of_app 0x1_0400_2000 app_words × HasTable lib of_lib 0x1_0800_2000 lib_words
    × HasTable plug of_plug 0x1_1000_2000 plug_words
