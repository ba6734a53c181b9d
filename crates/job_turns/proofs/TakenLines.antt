-- What a line's first look, a run and a resumed call do, together.
use Rattle.std.proofs.Common.{◌≡◌, ℕ, zero, suc, ◌+◌, ◌-◌, ◌*◌, ◌<◌, ◌≤◌, Bool, List, [], ◌∷◌, length, Option, Some}
use Rattle.std.proofs.Common.{None, refl, sym, ap, subst, ◌∙◌, arith}
use Rattle.guest_machine.specs.Machine.{Standing}
use Rattle.guest_machine.specs.Run.{Next, Goes, Ends, Looks, Outcome, Ended, Stepping, Waits as WaitsAt, go_on, over_or}
use Rattle.guest_machine.specs.Run.{run}
use Rattle.guest_operands.specs.declared.state.State.{State}
use Rattle.guest_operands.specs.declared.stop.Stop.{Stop}
use Rattle.loaded_modules.specs.Images.{JobImages, infos, last_offset}
use Rattle.module_table.specs.declared.events.Event.{Event}
use Rattle.module_table.specs.Past.{past}
use Rattle.thread_vector.specs.Holding.{IsLeftBy}
use Rattle.transcript_text.specs.declared.outcomes.Outcome.{Outcome as Answer}
use Rattle.thread_blocks.specs.declared.asked.Asked.{Asked}
use Rattle.thread_blocks.specs.JobLoads.{job_loads}
use Rattle.thread_blocks.specs.Lines.{Line, event_by}
use Rattle.thread_blocks.specs.MachineTurns.{answer_of}
use Rattle.thread_blocks.specs.RunTime.{Runs, thread_steps, thread_turns}
use Rattle.thread_blocks.specs.Turns.{Answered, Begun, Calls as CallsOn, Ending, Said, Says as SaysSo, Stopped}
use Rattle.thread_blocks.specs.Turns.{after_look, after_run, over_with, with_event}
use Rattle.thread_turns.specs.declared.parts.Started.TheVariants.{Says, Calls}
use Rattle.job_turns.specs.Running.{Ran, Resumes, RunsOn, outcome_of_run, resumed_as}
use Rattle.thread_turns.specs.declared.parts.Resumed.{Resumed}
use Rattle.thread_turns.specs.declared.parts.Resumed.TheVariants as resumed
use Rattle.job_turns.specs.Taking.{BeginsTo, HasStepsLeft, IsOver, KeepsJob, ResumesTo, RunsTo, Taken, TookAs, loads_in}
use Rattle.thread_turns.specs.declared.parts.Ended.TheVariants.{Over, Waits}
use Rattle.thread_space.specs.Kept.{HasSeen, Kept, held_at, owned_of}
use Rattle.job_turns.specs.Starting.{Starts}
use Rattle.thread_space.proofs.Owners.{owned_again}

-- ---- a line that is over where the thread keeps this

over_at : (k : Kept) (now : List Event) (state : State ℕ Bool) (asked : Option Asked) (ending : Ending)
    (outcome : Answer) (points : List ℕ)
    (todo : List Line) (said : List Said) (seen : List Event) → answer_of ending ≡ Some outcome
    → IsOver k outcome points now todo said seen (over_with todo said seen points ending (held_at now state asked k))
over_at k now state asked ending outcome points todo said seen is = record {
  ending = ending;
  held = held_at now state asked k;
  is = refl;
  outcome_is = is;
  owned_is = owned_again (owned_of k.vector k.pieces);
  events = refl;
  stack = refl;
}

-- what it saw it has seen while nothing of its job changes
seen_on : (k new : Kept) (seen : List Event) → HasSeen k.vector seen → new.vector.images ≡ k.vector.images
    → new.vector.past ≡ k.vector.past
    → HasSeen new.vector seen
seen_on k new seen has_seen images history =
    ap (λ m. past (infos m) (last_offset m) seen) images ∙ has_seen ∙ sym history

-- ---- runs

-- a run that waits has a step to pay
module _ {S : Type 0} (x : Stepping S) where
  abbrev HasStep : Outcome S → Type 0
  HasStep (Ended stop n s) = Unit {0}
  HasStep (WaitsAt n s) = 1 ≤ n

  over-step : (n : ℕ) (s : S) (over : Option Stop) (rest : Outcome S) → HasStep rest → HasStep (over_or n s over rest)
  over-step n s (Some stop) rest has = tt
  over-step n s None rest has = has

  goes-step : (n : ℕ) (s : S) (next : Next S) → ((t : S) → HasStep (run x n t))
      → HasStep (go_on (suc n) s (run x n) next)
  goes-step n s (Goes t) rest = rest t
  goes-step n s (Ends stop) rest = tt
  goes-step n s (Looks t) rest = omega arith

  run_has_step : (n : ℕ) (s : S) → HasStep (run x n s)
  run_has_step zero s = over-step zero s (x.over s) (Ended (x.spent s) zero s) tt
  run_has_step (suc n) s = over-step (suc n) s (x.over s) _ (goes-step n s (x.step s) (λ t. run_has_step n t))

-- what the code makes of how a run came to an end: the outcome of its stop, or the machine that waits
abbrev pub TakenAs : Ran → Standing ℕ Bool → Taken → Type 0
TakenAs (Over stop) m (Over outcome) = answer_of (Stopped stop) ≡ Some outcome
TakenAs (Over stop) m (Waits (machine, asked)) = ⊥
TakenAs (Waits wanted) m (Over outcome) = ⊥
TakenAs (Waits wanted) m (Waits (machine, asked)) = (machine ≡ m) × (asked ≡ wanted)

took_run : (limit : ℕ) (result : Ran) (m : Standing ℕ Bool) (taken : Taken) (k : Kept) (now seen : List Event)
    (asked : Option Asked)
    (points : List ℕ) (todo : List Line) (said : List Said) → TakenAs result m taken
    → TookAs limit k taken points now todo said seen
    (after_run todo said seen points (outcome_of_run now asked result (limit - m.taken) m.state k))
took_run limit (Over stop) m (Over outcome) k now seen asked points todo said is =
    over_at k now m.state asked (Stopped stop) outcome points todo said seen is
took_run limit (Over stop) m (Waits (machine, wanted)) k now seen asked points todo said is = absurd is
took_run limit (Waits wanted) m (Over outcome) k now seen asked points todo said is = absurd is
took_run limit (Waits wanted) m (Waits (machine, asked')) k now seen asked points todo said is = rw (is.0, is.1) refl

waits_steps : (limit : ℕ) (result : Ran) (m : Standing ℕ Bool) (taken : Taken) (k : Kept) (now : List Event)
    (x : Stepping Runs) (n : ℕ) (s : Runs)
    → run x n s ≡ outcome_of_run now None result (limit - m.taken) m.state k → TakenAs result m taken
    → HasStepsLeft limit taken
waits_steps limit (Over stop) m (Over outcome) k now x n s ends is = tt
waits_steps limit (Over stop) m (Waits (machine, asked)) k now x n s ends is = absurd is
waits_steps limit (Waits wanted) m (Over outcome) k now x n s ends is = absurd is
waits_steps limit (Waits wanted) m (Waits (machine, asked)) k now x n s ends is =
    let has : 1 ≤ limit - m.taken = subst (HasStep x) ends (run_has_step x n s) in
    subst (λ (at : Standing ℕ Bool). at.taken < limit) (sym is.0) (omega arith)

pub runs_to : (limit : ℕ) (m : Standing ℕ Bool) (k : Kept) (result : Ran) (m' : Standing ℕ Bool) (k' : Kept)
    (taken : Taken)
    → IsLeftBy k.vector.images k.vector.past → RunsOn limit m k result m' k' → TakenAs result m' taken
    → RunsTo limit m k taken k'
runs_to limit m k result m' k' taken left on is = record {
  keeps = record {
    thread = on.same.thread;
    images = on.same.images;
    startups = on.same.startups;
    pieces = on.same.pieces;
  };
  past = on.same.past;
  steps = waits_steps limit result m' taken k' left.events (thread_steps (job_loads k.vector.images) k.vector.thread)
      (limit - m.taken)
      (held_at left.events m.state None k) (on.runs left.events None (sym left.left)) is;
  runs = λ now seen asked points todo said has_seen.
      let P : Outcome Runs → Type 0 =
      λ out. TookAs limit k' taken points now todo said seen (after_run todo said seen points out) in
      subst P (sym (on.runs now asked has_seen)) (took_run limit result m' taken k' now seen asked points todo said is);
}

-- ---- a line that begins

both_keep : (a b c : Kept) → KeepsJob a b → KeepsJob b c → KeepsJob a c
both_keep a b c first then = record {
  thread = then.thread ∙ first.thread;
  images = then.images ∙ first.images;
  startups = λ has. then.startups (first.startups has);
  pieces = then.pieces ∙ first.pieces;
}

-- the run of a job's thread, said of what it kept before
run_before : (m n : JobImages) (thread other : ℕ) (steps : ℕ) (s : Runs) → n ≡ m → other ≡ thread
    → run (thread_steps (job_loads n) other) steps s ≡ run (thread_steps (job_loads m) thread) steps s
run_before m n thread other steps s images threads = rw (images, threads) refl

pub says_begins : (fuel : ℕ) (line : Line) (k : Kept) (outcome : Answer) (new : Kept) → Starts line k (Says outcome) new
    → BeginsTo fuel line k (Over outcome) new
says_begins fuel line k outcome new starts = record {
  keeps = starts.keeps;
  steps = tt;
  begins = λ seen state asked todo said has_seen.
      let facts = starts.starts seen state asked has_seen in
      let l = loads_in k in
      let now = with_event seen (event_by l k.vector.thread line seen) in
      let P : Begun Runs → Type 0 = λ b. TookAs (4 * fuel) new (Over outcome) (length seen ∷ []) now todo said seen
      (after_look (thread_turns l k.vector.thread fuel) (4 * fuel) todo said seen (length seen ∷ []) b) in (
        facts.0,
        subst P (sym facts.1)
            (over_at new now state asked (Answered outcome) outcome (length seen ∷ []) todo said seen refl),
      );
}

calls_took : (fuel : ℕ) (k k1 new : Kept) (m : Standing ℕ Bool) (taken : Taken) (now seen : List Event)
    (asked : Option Asked)
    (steps : ℕ) (points : List ℕ) (todo : List Line) (said : List Said)
    → RunsTo (4 * fuel) m k1 taken new → HasSeen k1.vector now → steps ≡ 4 * fuel - m.taken
    → k1.vector.images ≡ k.vector.images → k1.vector.thread ≡ k.vector.thread
    → TookAs (4 * fuel) new taken points now todo said seen
    (after_look (thread_turns (loads_in k) k.vector.thread fuel) steps todo said seen points
    (CallsOn (held_at now m.state asked k1)))
unfolding thread_turns
calls_took fuel k k1 new m taken now seen asked steps points todo said runs has_seen left images thread =
    let P : Outcome Runs → Type 0 =
    λ out. TookAs (4 * fuel) new taken points now todo said seen (after_run todo said seen points out) in
    subst P
    (run_before k.vector.images k1.vector.images k.vector.thread k1.vector.thread (4 * fuel - m.taken)
    (held_at now m.state asked k1) images thread
    ∙ ap (λ n. run (thread_steps (loads_in k) k.vector.thread) n (held_at now m.state asked k1)) (sym left))
    (runs.runs now seen asked points todo said has_seen)

pub calls_begins : (fuel : ℕ) (line : Line) (k : Kept) (m : Standing ℕ Bool) (k1 new : Kept) (taken : Taken)
    → Starts line k (Calls m) k1 → RunsTo (4 * fuel) m k1 taken new → BeginsTo fuel line k taken new
calls_begins fuel line k m k1 new taken starts runs = record {
  keeps = both_keep k k1 new
      starts.keeps runs.keeps;
  steps = runs.steps;
  begins = λ seen state asked todo said has_seen.
      let facts = starts.starts seen state asked has_seen in
      let l = loads_in k in
      let now = with_event seen (event_by l k.vector.thread line seen) in
      let P : Begun Runs → Type 0 = λ b. TookAs (4 * fuel) new taken (length seen ∷ []) now todo said seen
      (after_look (thread_turns l k.vector.thread fuel) (4 * fuel) todo said seen (length seen ∷ []) b) in (
        seen_on k1 new now facts.0 runs.keeps.images runs.past,
        subst P (sym facts.1)
            (calls_took fuel k k1 new m taken now seen asked (4 * fuel) (length seen ∷ []) todo said runs facts.0
            (none_taken (4 * fuel) m.taken starts.fresh) starts.keeps.images starts.keeps.thread),
      );
}
  where
    none_taken : (limit taken : ℕ) → taken ≡ 0 → limit ≡ limit - taken
    none_taken limit taken none = omega arith

-- ---- a call that goes on

pub goes_resumes : (fuel : ℕ) (m : Standing ℕ Bool) (asked : Asked) (k : Kept) (m' : Standing ℕ Bool) (k1 new : Kept)
    (taken : Taken)
    → m.taken < 4 * fuel → Resumes m k asked resumed.Goes m' k1 → RunsTo (4 * fuel) m' k1 taken new
    → ResumesTo fuel m asked k taken new
goes_resumes fuel m asked k m' k1 new taken left resumes runs = record {
  keeps = both_keep k k1 new
      (record {
        thread = resumes.same.thread;
        images = resumes.same.images;
        startups = resumes.same.startups;
        pieces = resumes.same.pieces;
      }) runs.keeps;
  steps = runs.steps;
  resumes = λ seen points todo said has_seen.
      let l = loads_in k in
      let has : HasSeen k1.vector seen = seen_on k k1 seen has_seen resumes.same.images resumes.same.past in
      let P : Begun Runs → Type 0 = λ b. TookAs (4 * fuel) new taken points seen todo said seen
      (after_look (thread_turns l k.vector.thread fuel) (4 * fuel - m.taken - 1) todo said seen points b) in (
        seen_on k1 new seen has runs.keeps.images runs.past,
        subst P (sym (resumes.resumes seen has_seen))
            (calls_took fuel k k1 new m' taken seen seen None (4 * fuel - m.taken - 1) points todo said runs has
            (one_more (4 * fuel) m.taken m'.taken resumes.takes) resumes.same.images resumes.same.thread),
      );
}
  where
    one_more : (limit taken taken' : ℕ) → taken' ≡ taken + 1 → limit - taken - 1 ≡ limit - taken'
    one_more limit taken taken' more = omega arith

pub ends_resumes : (fuel : ℕ) (m : Standing ℕ Bool) (asked : Asked) (k : Kept) (result : Resumed) (m' : Standing ℕ Bool)
    (new : Kept)
    (ending : Ending) (outcome : Answer) → answer_of ending ≡ Some outcome → Resumes m k asked result m' new
    → ((seen : List Event) → resumed_as seen result m'.state new ≡ SaysSo ending (held_at seen m'.state None new))
    → ResumesTo fuel m asked k (Over outcome) new
ends_resumes fuel m asked k result m' new ending outcome is resumes says = record {
  keeps = record {
    thread = resumes.same.thread;
    images = resumes.same.images;
    startups = resumes.same.startups;
    pieces = resumes.same.pieces;
  };
  steps = tt;
  resumes = λ seen points todo said has_seen.
      let l = loads_in k in
      let P : Begun Runs → Type 0 = λ b. TookAs (4 * fuel) new (Over outcome) points seen todo said seen
      (after_look (thread_turns l k.vector.thread fuel) (4 * fuel - m.taken - 1) todo said seen points b) in (
        seen_on k new seen has_seen resumes.same.images resumes.same.past,
        subst P (sym (resumes.resumes seen has_seen ∙ says seen))
            (over_at new seen m'.state None ending outcome points todo said seen is),
      );
}
