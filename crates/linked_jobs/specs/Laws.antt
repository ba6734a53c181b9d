-- What is loaded of a job's linked images, and what they print, by what their objects mean.
use Rattle.std.specs.Prelude.{◌≡◌, ◌≤◌, ℕ, false, List, [], ◌∷◌, length, map, Some, None}
use Rattle.std.specs.List.{All}
use Rattle.job_text.specs.declared.thread_lines.ThreadLine.{ThreadLine}
use Rattle.link_needs.specs.Linking.{Linking}
use Rattle.loaded_bytes.specs.Laws.{images_of}
use Rattle.module_table.specs.declared.events.Event.{Event}
use Rattle.module_table.specs.Past.{IsLegal}
use Rattle.thread_blocks.specs.JobLoads.{job_loads}
use Rattle.thread_blocks.specs.JobWorlds.{Tells, job_world}
use Rattle.thread_blocks.specs.MachineTurns.{shown}
use Rattle.thread_blocks.specs.Turns.{at_number}
use Rattle.transcript_text.specs.declared.outcomes.Line.{Line as ShownLine}
use Rattle.transcript_text.specs.Texts.{Shown}
use Rattle.whole_meaning.specs.Jobs.{lines_of, meant_world, verdict_of}
use Rattle.whole_meaning.specs.Loads.{meaning_of}
use Rattle.link_needs.specs.Linking.{has_writable_data}
use Rattle.lawful_points.specs.Printed.{printed_points}
use Rattle.tied_fields.specs.Settings.{setting_of}
use Rattle.tied_meaning.specs.Ties.{AreTied}
use Rattle.begin_alike.specs.Laws.{ThreadPrints, all_said}
use Rattle.linked_jobs.specs.Ready.{AreJob, AreReady}
use Rattle.linked_jobs.specs.Threads.{thread_meaning}

-- ** what is loaded

-- whatever the links, and in whatever order images were opened and closed, if each open and close was accepted
abbrev pub LinksAreTied : Type 0
LinksAreTied = (ls : List Linking) (history : List Event) → AreReady ls
    → IsLegal (job_loads (images_of ls)).infos (job_loads (images_of ls)).last_offset history
    → AreTied (setting_of ls history) (meaning_of ls) (job_loads (images_of ls)) history

-- ** what is printed

-- a clean job prints what it means, in any order of its threads' turns: its events, and its lines, thread by thread
abbrev pub LinkedJobsPrint : Type 0
LinkedJobsPrint = (ls : List Linking) (fuel : ℕ) (lines : List (List ThreadLine)) (order : List ℕ) → AreJob ls
    → length lines ≤ 64 → verdict_of (lines_of (meant_world (meaning_of ls) fuel lines order)) ≡ None
    → ((job_world (job_loads (images_of ls)) fuel lines order).events
    ≡ (meant_world (meaning_of ls) fuel lines order).events)
    × (all_said (job_world (job_loads (images_of ls)) fuel lines order)
    ≡ lines_of (meant_world (meaning_of ls) fuel lines order))

-- a clean thread prints what it means by itself, whatever fronts of a legal history its turns see
abbrev pub LinkedThreadsPrint : Type 0
LinkedThreadsPrint = (ls : List Linking) (history : List Event) → AreReady ls
    → IsLegal (job_loads (images_of ls)).infos (job_loads (images_of ls)).last_offset history
    → ThreadPrints (meaning_of ls) (job_loads (images_of ls)) history

-- if no image has data that threads write, each thread of a transcript has the lines that it means at the points that
-- they print, if that is clean, whatever the other threads did
abbrev pub TranscriptsTellTheirThreads : Type 0
TranscriptsTellTheirThreads = (ls : List Linking) (fuel : ℕ) (lines : List (List ThreadLine)) (order : List ℕ)
    (transcript : Shown) → AreJob ls → length lines ≤ 64 → All (λ (l : Linking). has_writable_data l ≡ false) ls
    → Tells (job_world (job_loads (images_of ls)) fuel lines order) transcript
    → (thread : ℕ) (own : List ThreadLine) (said : List ShownLine) → at_number lines thread ≡ Some own
    → at_number transcript.threads thread ≡ Some said
    → verdict_of (thread_meaning (meaning_of ls) fuel thread own transcript.events (printed_points said) ∷ []) ≡ None
    → map Some said
    ≡ map shown (thread_meaning (meaning_of ls) fuel thread own transcript.events (printed_points said))
