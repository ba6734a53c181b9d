-- What threads that ran at once say: the machine's lines, and where a thread is clean what it means.
use Rattle.std.proofs.Common.{◌≡◌, ◌∙◌, ◌≤◌, ℕ, false, List, All, Vec, Global, length, map, Some, ◌⊎◌, Result, Ok, Err}
use Rattle.std.proofs.Common.{IfOk, sym, ap, subst}
use Rattle.std.specs.Prelude.{take}
use Rattle.begin_alike.specs.Laws.{meant_thread}
use Rattle.job_text.specs.declared.thread_lines.ThreadLine.{ThreadLine}
use Rattle.job_text.specs.Jobs.{JobParts}
use Rattle.job_turns.specs.Alone.{has_data}
use Rattle.lawful_points.specs.Laws.{RacersAreInHistory, RacersPrintTheirPoints}
use Rattle.lawful_points.specs.Printed.{printed_points}
use Rattle.lawful_points.specs.Raced.{IsRaced, IsRacer, raced_of}
use Rattle.link_core.specs.Images.{LinkedImage, linked_of}
use Rattle.link_needs.specs.Linking.{Linking}
use Rattle.linked_jobs.specs.Laws.{LinkedThreadsPrint}
use Rattle.linked_modules.specs.Dataless.{DatalessObjectsShareNoData, IsOfDataless}
use Rattle.loaded_bytes.specs.Laws.{images_of}
use Rattle.loaded_modules.specs.Loader.{of_job}
use Rattle.loaded_modules.specs.Images.{JobImages, infos, last_offset}
use Rattle.module_table.specs.declared.events.Event.{Event}
use Rattle.module_table.specs.History.{History}
use Rattle.module_table.specs.Past.{IsLegal}
use Rattle.module_table.specs.declared.modules.ImageInfo.{ImageInfo}
use Rattle.shared_modules.specs.declared.board.Images.{Images}
use Rattle.shared_modules.specs.Views.{all_threads, images_of as registry_images}
use Rattle.standing_sequences.specs.Laws.{LinkedImagesHoldTheTable}
use Rattle.thread_blocks.specs.JobLoads.{job_loads}
use Rattle.thread_blocks.specs.Lines.{Line}
use Rattle.thread_blocks.specs.MachineTurns.{shown}
use Rattle.thread_blocks.specs.Turns.{Thread, at_number}
use Rattle.thread_blocks.specs.TurnsAlike.{HasUnclean}
use Rattle.transcript_text.specs.declared.outcomes.Line.{Line as ShownLine}
use Rattle.transcript_text.specs.Texts.{Shown, transcript_text}
use Rattle.whole_meaning.specs.Loads.{meaning_of}
use Rattle.whole_meaning.specs.Threads.{Meant}
use Rattle.commands.specs.InOrder.{AreLinks}
use Rattle.commands.specs.Races.{AreRaced, HasRace}
use Rattle.commands.specs.RunJobs.{IsTold}
use Rattle.commands.specs.declared.telling.Telling.TheVariants.{Transcript}
use Rattle.commands.specs.Runs.{AreModulesBack, IsMeant, meant_lines}
use Rattle.linked_jobs.proofs.Telling.{alone_clean, few_threads, second_of, some_thread}
use Rattle.commands.proofs.Transcribed.{images_are, images_hold, modules_are, modules_linked}

-- ** a job

module _ (threads : LinkedThreadsPrint) (fronts : RacersAreInHistory) (print : RacersPrintTheirPoints)
    (hold : LinkedImagesHoldTheTable) (job : JobParts) (few : length job.lines ≤ 64) (ls : List Linking)
    (links : AreLinks job ls) where
  -- a clean thread of it has its meaning's lines
  thread_told : (transcript : Shown) → AreRaced (images_of ls) job transcript
      → (thread : ℕ) (own : List ThreadLine) (said : List ShownLine) → at_number job.lines thread ≡ Some own
      → at_number transcript.threads thread ≡ Some said → IsMeant said (meant_lines job ls transcript thread own said)
  thread_told transcript ran thread own said is_own is_said clean =
      let racer = ran.raced.each thread own said is_own is_said in
      let within = fronts (job_loads (images_of ls)) job.fuel thread own transcript.events said racer in
      let either =
      threads ls transcript.events links.links.ready ran.legal job.fuel thread (some_thread job.lines thread own is_own)
      (few_threads job.lines thread own is_own few) own racer.points within in
      told_at racer (subst (λ (at : List (List Event)). HasUnclean
      (meant_thread (meaning_of ls) job.fuel thread own at).said
      ⊎ ((raced_of (job_loads (images_of ls)) job.fuel thread own racer.points).said
      ≡ (meant_thread (meaning_of ls) job.fuel thread own at).said))
      (sym (print (job_loads (images_of ls)) job.fuel thread own transcript.events said racer)) either)
    where
      meant : Thread Meant Line Event
      meant = meant_thread (meaning_of ls) job.fuel thread own
          (map (λ (number : ℕ). take number transcript.events) (printed_points said))

      told_at : (racer : IsRacer (job_loads (images_of ls)) job.fuel thread own transcript.events said)
          → HasUnclean meant.said
          ⊎ ((raced_of (job_loads (images_of ls)) job.fuel thread own racer.points).said ≡ meant.said)
          → map Some said ≡ map shown meant.said
      told_at racer either = racer.lines ∙ ap (map shown) (second_of (alone_clean meant clean) either)

  has_race : (all : List LinkedImage) → all ≡ map linked_of ls → (m : JobImages) → AreModulesBack job all m
      → (transcript : Shown) → AreRaced m job transcript → HasRace job ls transcript
  has_race all all_is m made transcript ran = record {
    ran =
        subst (λ (n : JobImages). AreRaced n job transcript)
        (made.modules_are ∙ modules_are job ls links all all_is made.images made.back) ran;
    thread_is =
        thread_told transcript
        (subst (λ (n : JobImages). AreRaced n job transcript)
        (made.modules_are ∙ modules_linked job ls links all all_is made.images made.back) ran);
    images_hold = images_hold job ls links all all_is made.images made.back hold;
  }

-- what its threads answer
pub raced : {E : Type 0} → LinkedThreadsPrint → RacersAreInHistory → RacersPrintTheirPoints → LinkedImagesHoldTheTable
    → (job : JobParts) → length job.lines ≤ 64
    → (all : List LinkedImage) (m : JobImages) → AreModulesBack job all m → (r : Result Shown E)
    → IfOk r (AreRaced m job)
    → IfOk r (λ transcript. (ls : List Linking) → AreLinks job ls → all ≡ map linked_of ls → HasRace job ls transcript)
raced threads fronts print hold job few all m made (Ok transcript) ran =
    λ ls links all_is. has_race threads fronts print hold job few ls links all all_is m made transcript ran
raced threads fronts print hold job few all m made (Err e) ran = tt

-- and their text
pub race_told : {E : Type 0} (job : JobParts) (ls : List Linking) (transcript : Shown) → HasRace job ls transcript
    → (r : Result (Vec ℕ Global) E)
    → IfOk r (λ text. text.items ≡ transcript_text job.images transcript)
    → IfOk r (λ text. IsTold HasRace Transcript job ls text.items)
race_told job ls transcript ran (Ok text) is = record { transcript = transcript; ran = ran; told_is = is }
race_told job ls transcript ran (Err e) is = tt

-- ** the history that they shared

-- a pass of all threads
pub all_of_them : (threads : List ℕ) → threads ≡ all_threads → length threads ≡ 64
unfolding all_threads
all_of_them threads is = ap length is

-- it began with the images of the modules
pub same_images : (h : History) (m : JobImages) (own : List ImageInfo) (offset : ℕ) → h.infos ≡ own → own ≡ infos m
    → h.last_offset ≡ offset → offset ≡ last_offset m
    → registry_images h ≡ record { infos = infos m; last_offset = last_offset m }
same_images h m own offset infos_are own_is offset_is own_offset =
    ap (λ (is : List ImageInfo). record { infos = is; last_offset = h.last_offset }) (infos_are ∙ own_is)
    ∙ ap (λ (n : ℕ). record { infos = infos m; last_offset = n }) (offset_is ∙ own_offset)

-- what ran is told by the history that was closed in the end
pub are_raced : {E : Type 0} (m : JobImages) (job : JobParts) (h : History)
    → registry_images h ≡ record { infos = infos m; last_offset = last_offset m }
    → IsLegal h.infos h.last_offset h.events → (seen : List Event) → h.events ≡ seen → (r : Result Shown E)
    → IfOk r (IsRaced (job_loads m) job.fuel job.lines) → IfOk r (λ shown. shown.events ≡ seen)
    → IfOk r (AreRaced m job)
unfolding job_loads infos last_offset
are_raced m job h same legal seen events_are (Ok shown) raced history = record {
  legal =
      subst (λ (es : List Event). IsLegal (infos m) (last_offset m) es) (events_are ∙ sym history)
      (subst (λ (own : Images). IsLegal own.infos own.last_offset h.events) same legal);
  raced = raced;
}
are_raced m job h same legal seen events_are (Err e) raced history = tt

-- ** the images of objects with no data for programs to write have none

pub shares_none : DatalessObjectsShareNoData → (job : JobParts) (ls : List Linking) (links : AreLinks job ls)
    → All IsOfDataless ls
    → (all : List LinkedImage) → all ≡ map linked_of ls → (m : JobImages) → AreModulesBack job all m
    → has_data m ≡ false
unfolding has_data
shares_none law job ls links dataless all all_is m made =
    ap has_data (made.modules_are ∙ ap (of_job job) (images_are job ls links all all_is made.images made.back))
    ∙ (law ls dataless).parts
