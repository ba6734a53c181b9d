-- What a transcript's lines tell of each thread by itself.
use Rattle.std.proofs.Common.{◌≡◌, ◌∙◌, ◌≤◌, ℕ, zero, suc, List, [], ◌∷◌, length, map, Some, None, inl, inr, refl, sym}
use Rattle.std.proofs.Common.{ap, subst, arith}
use Rattle.std.specs.Prelude.{◌⊎◌, take}
use Rattle.std.proofs.lemmas.Option.{slice_get_within}
use Rattle.begin_alike.proofs.Printed.{verdict_clean}
use Rattle.begin_alike.specs.Laws.{meant_thread}
use Rattle.known_instances.proofs.Legal.{job_legal}
use Rattle.lawful_points.proofs.Fronts.{in_history}
use Rattle.lawful_points.proofs.Printed.{racers_print}
use Rattle.lawful_points.proofs.Racing.{runs_raced}
use Rattle.lawful_points.specs.Raced.{IsRacer, first_of, raced_of}
use Rattle.lawful_points.specs.Printed.{printed_points}
use Rattle.loaded_bytes.specs.Laws.{images_of}
use Rattle.module_table.specs.declared.events.Event.{Event}
use Rattle.module_table.specs.Past.{IsLegal}
use Rattle.thread_blocks.proofs.Histories.{histories_legal}
use Rattle.thread_blocks.specs.JobLoads.{job_loads}
use Rattle.thread_blocks.specs.Lines.{Line, event_by}
use Rattle.thread_blocks.specs.MachineTurns.{shown}
use Rattle.thread_blocks.specs.RunTime.{thread_turns}
use Rattle.thread_blocks.specs.Turns.{Thread, at_number}
use Rattle.thread_blocks.specs.TurnsAlike.{HasUnclean}
use Rattle.whole_meaning.specs.Jobs.{verdict_of}
use Rattle.whole_meaning.specs.Loads.{meaning_of}
use Rattle.whole_meaning.specs.Threads.{Meant}
use Rattle.linked_jobs.proofs.Infos.{are_infos}
use Rattle.linked_jobs.proofs.Printing.{linked_threads}
use Rattle.linked_jobs.proofs.WithoutData.{shares_none}
use Rattle.linked_jobs.specs.Laws.{TranscriptsTellTheirThreads}

-- threads are numbered from 1
pub some_thread : {X : Type 0} (xs : List X) (n : ℕ) (x : X) → at_number xs n ≡ Some x → 1 ≤ n
some_thread xs zero x e = cc
some_thread xs (suc i) x e = omega arith

pub few_threads : {X : Type 0} (xs : List X) (n : ℕ) (x : X) → at_number xs n ≡ Some x → length xs ≤ 64 → n ≤ 64
few_threads xs zero x e few = omega arith
few_threads xs (suc i) x e few = let below = slice_get_within xs i x e in omega (arith, below, few)

-- the verdict on one thread alone
pub alone_clean : (t : Thread Meant Line Event) → verdict_of (t.said ∷ []) ≡ None → HasUnclean t.said → ⊥
alone_clean t clean = verdict_clean (t ∷ []) clean zero t refl

-- of two answers the second, where the first is none
pub second_of : {A B : Type 0} → (A → ⊥) → A ⊎ B → B
second_of none (inl a) = absurd (none a)
second_of none (inr b) = b

pub threads_told : TranscriptsTellTheirThreads
threads_told ls fuel lines order transcript job few none told thread own said is_own is_said clean =
    let legal =
    subst (IsLegal (job_loads (images_of ls)).infos (job_loads (images_of ls)).last_offset) (sym told.events)
    (job_legal (images_of ls) _ (are_infos ls job) (histories_legal (job_loads (images_of ls)) fuel lines order)) in
    let racer =
    (runs_raced (job_loads (images_of ls)) fuel lines order transcript (shares_none ls job.ready none) told).each thread
    own said is_own is_said in
    let points =
    racers_print (job_loads (images_of ls)) fuel thread own transcript.events said racer in
    let within =
    in_history (thread_turns (job_loads (images_of ls)) thread fuel) (event_by (job_loads (images_of ls)) thread)
    transcript.events thread (first_of (job_loads (images_of ls)) thread own) racer.points racer.lawful in
    let either =
    linked_threads ls transcript.events job.ready legal fuel thread (some_thread lines thread own is_own)
    (few_threads lines thread own is_own few) own racer.points within in
    told_at racer (subst (λ (at : List (List Event)). HasUnclean (meant_thread (meaning_of ls) fuel thread own at).said
    ⊎ ((raced_of (job_loads (images_of ls)) fuel thread own racer.points).said
    ≡ (meant_thread (meaning_of ls) fuel thread own at).said)) (sym points) either)
  where
    meant : Thread Meant Line Event
    meant = meant_thread (meaning_of ls) fuel thread own
        (map (λ (number : ℕ). take number transcript.events) (printed_points said))

    told_at : (racer : IsRacer (job_loads (images_of ls)) fuel thread own transcript.events said)
        → HasUnclean meant.said ⊎ ((raced_of (job_loads (images_of ls)) fuel thread own racer.points).said ≡ meant.said)
        → map Some said ≡ map shown meant.said
    told_at racer either = racer.lines ∙ ap (map shown) (second_of (alone_clean meant clean) either)
