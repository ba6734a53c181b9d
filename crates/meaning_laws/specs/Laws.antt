-- What each thread of a job means by itself, and when that is all; and that no linker's setting matters.
use Rattle.std.specs.Prelude.{◌≡◌, ℕ, Bool, false, List, [], Some, None, map}
use Rattle.std.specs.List.{All}
use Rattle.job_text.specs.declared.thread_lines.ThreadLine.{ThreadLine}
use Rattle.link_needs.specs.Linking.{Linking}
use Rattle.loaded_modules.specs.declared.instance.Instance.{Instance}
use Rattle.module_table.specs.declared.events.Event.{Event}
use Rattle.thread_blocks.specs.JobWorlds.{numbered_lines, thread_ready}
use Rattle.thread_blocks.specs.Turns.{at_number, ready, turns}
use Rattle.thread_blocks.specs.TurnsAlike.{Rises}
use Rattle.thread_blocks.specs.Turns.{AllFronts, IsFront}
use Rattle.whole_meaning.specs.Jobs.{lines_of, meant_world, verdict_of}
use Rattle.whole_meaning.specs.Loads.{meaning_of}
use Rattle.link_needs.specs.Linking.{has_writable_data}
use Rattle.whole_meaning.specs.Meanings.{Meaning}
use Rattle.whole_meaning.specs.Threads.{meant_turns, ops}

-- no image has data that threads write
abbrev pub HasNoData : Meaning → Type 0
HasNoData m = (x : Instance) → m.loads.shared x ≡ None

-- a thread of a job takes the turns that it would take alone, at fronts of the history, each of which the next one
-- continues, so its lines are the same
abbrev pub ThreadsMeanTheirOwn : Type 0
ThreadsMeanTheirOwn = (m : Meaning) (fuel : ℕ) (lines : List (List ThreadLine)) (order : List ℕ)
    → (thread : ℕ) (own : List ThreadLine) → HasNoData m → at_number lines thread ≡ Some own
    → (points : List (List Event)) × Rises IsFront [] points
    × AllFronts points (meant_world m fuel lines order).events
    × (at_number (meant_world m fuel lines order).threads thread
    ≡ Some (turns (meant_turns m thread fuel) (ready (thread_ready ops m.loads thread) (numbered_lines 1 own)) points))

-- images whose objects have no byte in a writable section have no such data
abbrev pub ImagesWithoutDataShareNone : Type 0
ImagesWithoutDataShareNone = (ls : List Linking) → All (λ l. has_writable_data l ≡ false) ls → HasNoData (meaning_of ls)

-- the links of a job, if sequences may be rewritten, or must be kept
abbrev pub set_to : Bool → List Linking → List Linking
set_to relax ls = map (λ (l : Linking). record l { relax = relax }) ls

-- the meaning is the same in both settings
abbrev pub MeaningKnowsNoSetting : Type 0
MeaningKnowsNoSetting = (ls : List Linking) (relax : Bool) → meaning_of (set_to relax ls) ≡ meaning_of ls

-- the verdict on a job is the same in both: no step is unclean in either, or the same one is the first
abbrev pub VerdictKnowsNoSetting : Type 0
VerdictKnowsNoSetting = (ls : List Linking) (relax : Bool) (fuel : ℕ) (lines : List (List ThreadLine)) (order : List ℕ)
    → verdict_of (lines_of (meant_world (meaning_of (set_to relax ls)) fuel lines order))
    ≡ verdict_of (lines_of (meant_world (meaning_of ls) fuel lines order))
