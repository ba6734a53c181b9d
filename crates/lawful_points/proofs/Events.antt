-- The events of every job's transcript, and of every raced one, are those that its lines made.
use Rattle.std.proofs.Common.{◌≡◌, ℕ, zero, suc, List, Some}
use Rattle.job_text.specs.declared.thread_lines.ThreadLine.{ThreadLine}
use Rattle.transcript_text.specs.declared.outcomes.Line.{Line as ShownLine}
use Rattle.transcript_text.specs.Texts.{Shown}
use Rattle.thread_blocks.specs.Instances.{Loads}
use Rattle.thread_blocks.specs.JobWorlds.{Tells, job_world, numbered_lines, thread_ready}
use Rattle.thread_blocks.specs.RunTime.{thread_turns}
use Rattle.thread_blocks.specs.Turns.{at_number}
use Rattle.thread_blocks.proofs.Endings.{threads_ended}
use Rattle.lawful_points.specs.Laws.{RacesMakeTheirEvents, RunsMakeTheirEvents}
use Rattle.lawful_points.specs.Raced.{IsRacer, first_of, raced_of}
use Rattle.lawful_points.proofs.Fitting.{AllShownFit, begins_fit, first_fits, last_fits, resumes_fit, shown_fit}
use Rattle.lawful_points.proofs.Fitting.{turns_fit}
use Rattle.lawful_points.proofs.Jobs.{points_lawful, shown_at}
use Rattle.lawful_points.proofs.Making.{TellsOwn, events_made}
use Rattle.lawful_points.proofs.Naming.{told_count, told_named, world_fits}
use Rattle.lawful_points.proofs.Racing.{raced_points}
use Rattle.guest_arithmetic.specs.Plain.{plain_operations}

run_tells : (l : Loads ℕ) (fuel : ℕ) (lines : List (List ThreadLine)) (order : List ℕ) (transcript : Shown)
    → Tells (job_world l fuel lines order) transcript
    → (thread : ℕ) (own : List ThreadLine) (said : List ShownLine) → at_number lines thread ≡ Some own
    → at_number transcript.threads thread ≡ Some said → TellsOwn transcript thread own said
run_tells l fuel lines order transcript tells zero own said at found = cc
run_tells l fuel lines order transcript tells (suc i) own said at found =
    let ended = threads_ended l fuel lines order (suc i) own at in record {
      told = (points_lawful l fuel lines order transcript tells (suc i) own said at found).own;
      fit = shown_fit (numbered_lines 1 own) said ended.0.said
          (shown_at transcript (job_world l fuel lines order) i said ended.0 tells found ended.1.0)
          (world_fits l fuel lines order i own ended.0 at ended.1.0);
    }

pub runs_make : RunsMakeTheirEvents
runs_make l fuel lines order transcript tells = events_made lines transcript
    (λ thread own said at found. run_tells l fuel lines order transcript tells thread own said at found)
    (told_count l fuel lines order transcript tells) (told_named l fuel lines order transcript tells)

racer_fits : (l : Loads ℕ) (fuel thread : ℕ) (own : List ThreadLine) (shown : Shown) (said : List ShownLine)
    → IsRacer l fuel thread own shown.events said → AllShownFit (numbered_lines 1 own) said
racer_fits l fuel thread own shown said racer =
    let last = raced_of l fuel thread own racer.points in
    shown_fit (numbered_lines 1 own) said last.said racer.lines
    (last_fits (numbered_lines 1 own) last.todo last.phase last.said racer.over
    (turns_fit (thread_turns l thread fuel) (begins_fit l thread fuel) (resumes_fit l thread fuel)
    (numbered_lines 1 own)
    racer.points (first_of l thread own) (first_fits (numbered_lines 1 own) (thread_ready plain_operations l thread))))

pub races_make : RacesMakeTheirEvents
races_make l fuel lines transcript raced = events_made lines transcript
    (λ thread own said at found. record {
      told = (raced_points l fuel lines transcript raced thread own said at found).own;
      fit = racer_fits l fuel thread own transcript said (raced.each thread own said at found);
    })
    raced.count raced.named
