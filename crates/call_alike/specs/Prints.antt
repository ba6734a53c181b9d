-- What is printed, if what is loaded is tied to what is meant: the laws of jobs and of threads (`begin_alike`),
-- without the premise that calls are alike.
use Rattle.std.specs.Prelude.{ℕ, List}
use Rattle.module_table.specs.declared.events.Event.{Event}
use Rattle.thread_blocks.specs.Instances.{Loads}
use Rattle.whole_meaning.specs.Meanings.{Meaning}
use Rattle.tied_meaning.specs.Numbers.{Setting}
use Rattle.tied_meaning.specs.Ties.{AreTied}
use Rattle.begin_alike.specs.Laws.{JobPrints, ThreadPrints}

-- a clean job prints what it means: its events, and its lines, thread by thread
abbrev pub TiedJobsPrint : Type 0
TiedJobsPrint = (g : Setting) (m : Meaning) (q : Loads ℕ) (history : List Event) → AreTied g m q history
    → JobPrints m q history

-- a clean thread prints what it means by itself, whatever fronts of the history its turns see
abbrev pub TiedThreadsPrint : Type 0
TiedThreadsPrint = (g : Setting) (m : Meaning) (q : Loads ℕ) (history : List Event) → AreTied g m q history
    → ThreadPrints m q history
