-- What the code's runs and answers make of a thread's run.
use Rattle.std.proofs.Common.{◌≡◌, ◌≤◌, ◌<◌, ◌+◌, ◌-◌, ◌&&◌, ℕ, suc, Bool, true, false, nat_lt, List, Option, Some}
use Rattle.std.proofs.Common.{None, refl, sym, ap, ◌∙◌, subst, arith}
use Rattle.std.proofs.lemmas.Bool.Decides.{nat_tests}
use Rattle.guest_arithmetic.specs.Plain.{plain_operations}
use Rattle.guest_operands.specs.declared.stop.Stop.{Stop}
use Rattle.guest_operands.specs.Use.{After, left}
use Rattle.guest_machine.specs.Clean.{IsClean}
use Rattle.guest_machine.specs.Machine.{Standing}
use Rattle.guest_machine.specs.Run.{Outcome, Ended, Waits, go_on, is_look, run}
use Rattle.guest_machine.specs.RunLaws.{Runs, machine_of, state_after, steps_left, stop_of}
use Rattle.module_table.specs.declared.events.Event.{Event}
use Rattle.thread_blocks.specs.declared.asked.Asked.{Asked}
use Rattle.thread_blocks.specs.Instances.{Loads}
use Rattle.thread_blocks.specs.JobLoads.{job_loads}
use Rattle.thread_blocks.specs.RunTime.{asked_at, asked_next, thread_accesses, thread_steps}
use Rattle.thread_blocks.specs.Spaces.{Space, no_field}
use Rattle.job_turns.specs.Running.{AnswersLook, Ran, RunsOn, RunsPart, RunsUpTo, bare, goes_on, left_run, next_after}
use Rattle.job_turns.specs.Running.{space_in}
use Rattle.thread_turns.specs.declared.parts.Ended.TheVariants as ran
use Rattle.thread_space.specs.Kept.{HasSeen, Kept, held_at, memory_of, shape_of}
use Rattle.thread_space.proofs.Rests.{run_ends, run_left, run_waits}
use Rattle.job_turns.proofs.RunningOn.{runs_on}
use Rattle.job_turns.proofs.SameThread.{held_after, held_still, same_thread}
use Rattle.job_turns.proofs.SpaceRuns.{RunsOver, has_seen_still, runs_over, same_shape}

-- ** loops

pub some_more : (limit : ℕ) (m m1 m2 : Standing ℕ Bool) (k k1 k2 : Kept) → RunsUpTo limit m k m1 k1
    → RunsUpTo limit m1 k1 m2 k2 → RunsUpTo limit m k m2 k2
some_more limit m m1 m2 k k1 k2 one two = record {
  shape = two.shape ∙ one.shape;
  within = two.within;
  runs = λ seen asked has. one.runs seen asked has ∙ two.runs seen asked (has_seen_still k k1 seen one.shape has);
}

pub then_ends : (limit : ℕ) (m m1 m2 : Standing ℕ Bool) (k k1 k2 : Kept) (result : Ran) → RunsUpTo limit m k m1 k1
    → RunsOn limit m1 k1 result m2 k2 → RunsOn limit m k result m2 k2
then_ends limit m m1 m2 k k1 k2 result one two = record {
  same = same_thread k k2 (two.shape ∙ one.shape);
  shape = two.shape ∙ one.shape;
  within = two.within;
  clean = two.clean;
  runs = λ seen asked has. one.runs seen asked has ∙ two.runs seen asked (has_seen_still k k1 seen one.shape has);
}

-- ** one run

both-false : (a b : Bool) → (a && b) ≡ false → a ≡ true → b ≡ true → ⊥
both-false true true e f g = cc
both-false true false e f g = cc
both-false false b e f g = cc

both-true : (a b : Bool) → (a && b) ≡ true → (a ≡ true) × (b ≡ true)
both-true true true e = (refl, refl)
both-true true false e = cc
both-true false b e = cc

is-below : (a b : ℕ) → nat_lt a b ≡ true → a < b
is-below a b e = grind (arith, nat_tests)

below-is : (a b : ℕ) → a < b → nat_lt a b ≡ true
below-is a b h = grind (arith, nat_tests)

waits-with : (out : Outcome (After ℕ Bool (Space Event ℕ))) (n : ℕ) (at : After ℕ Bool (Space Event ℕ))
    → out ≡ Waits (steps_left out) (state_after out)
    → steps_left out ≡ n → state_after out ≡ at → out ≡ Waits n at
waits-with out n at e f g = e ∙ rw (f, g) refl

ends-with : (out : Outcome (After ℕ Bool (Space Event ℕ))) (stop : Stop) (n : ℕ) (at : After ℕ Bool (Space Event ℕ))
    → out ≡ Ended (stop_of out) (steps_left out) (state_after out)
    → stop_of out ≡ stop → steps_left out ≡ n → state_after out ≡ at → out ≡ Ended stop n at
ends-with out stop n at e f g h = e ∙ rw (f, g, h) refl

module _ (limit : ℕ) (stop : Stop) (m : Standing ℕ Bool) (k : Kept) (m1 : Standing ℕ Bool) (k1 : Kept)
    (room : m.taken ≤ limit) (shape : shape_of k1 ≡ shape_of k)
    (runs : Runs plain_operations limit stop m (memory_of k) m1 (memory_of k1)) where
  abbrev loads : Loads ℕ
  loads = job_loads k.vector.images

  abbrev thread : ℕ
  thread = k.vector.thread

  abbrev out-of : List Event → Outcome (After ℕ Bool (Space Event ℕ))
  out-of seen = run (bare loads thread) (limit - m.taken) (left m.state (space_in seen k))

  over : (seen : List Event) → HasSeen k.vector seen → RunsOver seen limit stop m k m1 k1
  over seen has = runs_over seen limit stop m k m1 k1 has shape runs

  pub taken_within : m1.taken ≤ limit
  taken_within = let e = runs.steps in omega arith

  taken-since : m.taken ≤ m1.taken
  taken-since = let e = runs.steps in
      let h = run_left (machine_of plain_operations) (limit - m.taken) (left m.state (memory_of k)) in omega arith

  left-is : (seen : List Event) → HasSeen k.vector seen → steps_left (out-of seen) ≡ limit - m1.taken
  left-is seen has = let e = (over seen has).steps in omega arith

  place-is : (seen : List Event) → HasSeen k.vector seen
      → is_look (state_after (out-of seen)).state.place ≡ is_look m1.state.place
  place-is seen has = ap (λ (at : After ℕ Bool (Space Event ℕ)). is_look at.state.place) (over seen has).after

  out-waits : (is_look m1.state.place && nat_lt m1.taken limit) ≡ true → (seen : List Event) → HasSeen k.vector seen
      → out-of seen ≡ Waits (limit - m1.taken) (left m1.state (space_in seen k1))
  out-waits asks seen has =
      let both = both-true (is_look m1.state.place) (nat_lt m1.taken limit) asks in
      let below = is-below m1.taken limit both.1 in
      let n = left-is seen has in
      waits-with (out-of seen) (limit - m1.taken) (left m1.state (space_in seen k1))
      (run_waits (thread_accesses loads thread) no_field (limit - m.taken) (left m.state (space_in seen k))
      (place-is seen has ∙ both.0) (omega arith))
      n (over seen has).after

  out-ends : (is_look m1.state.place && nat_lt m1.taken limit) ≡ false → (seen : List Event) → HasSeen k.vector seen
      → out-of seen ≡ Ended stop (limit - m1.taken) (left m1.state (space_in seen k1))
  out-ends asks seen has =
      let n = left-is seen has in
      ends-with (out-of seen) stop (limit - m1.taken) (left m1.state (space_in seen k1))
      (run_ends (thread_accesses loads thread) no_field (limit - m.taken) (left m.state (space_in seen k))
      (λ looks some. both-false (is_look m1.state.place) (nat_lt m1.taken limit) asks (sym (place-is seen has) ∙ looks)
      (below-is m1.taken limit (omega arith))))
      (sym (over seen has).stop) n (over seen has).after

  -- what the whole run comes to
  left-run : (seen : List Event) (asked : Option Asked)
      → left_run limit seen asked m k ≡ goes_on loads thread (held_at seen m.state asked k) (out-of seen)
  left-run seen asked = runs_on loads thread (limit - m.taken) (held_at seen m.state asked k)

  -- it stopped
  pub run_over : (is_look m1.state.place && nat_lt m1.taken limit) ≡ false → IsClean stop
      → RunsOn limit m k (ran.Over stop) m1 k1
  run_over asks clean = record {
    same = same_thread k k1 shape;
    shape = shape;
    within = taken_within;
    clean = clean;
    runs = λ seen asked has. left-run seen asked
        ∙ ap (goes_on loads thread (held_at seen m.state asked k)) (out-ends asks seen has)
        ∙ ap (Ended stop (limit - m1.taken)) (held_after seen m.state m1.state asked k k1 shape);
  }

  -- it asks, with so many steps left behind the answer
  asks-with : (n : ℕ) → limit - m1.taken ≡ suc n → (is_look m1.state.place && nat_lt m1.taken limit) ≡ true
      → (seen : List Event) (asked : Option Asked) → HasSeen k.vector seen
      → left_run limit seen asked m k
      ≡ go_on (suc n) (held_at seen m1.state asked k1) (run (thread_steps loads thread) n)
      (asked_next loads thread (held_at seen m1.state asked k1)
      (asked_at loads thread (left m1.state (space_in seen k1))))
  asks-with n e asks seen asked has = left-run seen asked
      ∙ ap (goes_on loads thread (held_at seen m.state asked k))
      (out-waits asks seen has ∙ ap (λ steps. Waits steps (left m1.state (space_in seen k1))) e)
      ∙ ap (λ h. go_on (suc n) h (run (thread_steps loads thread) n)
      (asked_next loads thread h (asked_at loads thread (left m1.state (space_in seen k1)))))
      (held_after seen m.state m1.state asked k k1 shape)

  module _ (asks : (is_look m1.state.place && nat_lt m1.taken limit) ≡ true) (result : Option Ran)
      (m2 : Standing ℕ Bool) (k2 : Kept)
      (answers : AnswersLook m1 k1 result m2 k2) where
    abbrev rest : ℕ
    rest = limit - (m1.taken + 1)

    rest-is : limit - m1.taken ≡ suc rest
    rest-is = let below = is-below m1.taken limit (both-true (is_look m1.state.place) (nat_lt m1.taken limit) asks).1 in
        omega arith

    -- what the answer comes to
    asks-then : (seen : List Event) (asked : Option Asked) → HasSeen k.vector seen
        → left_run limit seen asked m k
        ≡ go_on (suc rest) (held_at seen m1.state asked k1) (run (thread_steps loads thread) rest)
        (next_after seen asked result m2 k2)
    asks-then seen asked has =
        let same = same_shape k k1 shape in
        asks-with rest rest-is asks seen asked has
        ∙ ap (go_on (suc rest) (held_at seen m1.state asked k1) (run (thread_steps loads thread) rest))
        (ap (λ l. asked_next l thread (held_at seen m1.state asked k1)
        (asked_at l thread (left m1.state (space_in seen k1)))) (ap job_loads (sym same.images))
        ∙ ap (λ t. asked_next (job_loads k1.vector.images) t (held_at seen m1.state asked k1)
        (asked_at (job_loads k1.vector.images) t (left m1.state (space_in seen k1)))) (sym same.thread)
        ∙ answers.next seen asked (has_seen_still k k1 seen shape has))

    pub whole : shape_of k2 ≡ shape_of k
    whole = answers.shape ∙ shape

    -- as the thread is known then
    pub left-then : (seen : List Event) (asked : Option Asked) (n : ℕ) → n ≡ limit - m2.taken
        → run (thread_steps loads thread) n (held_at seen m2.state asked k2) ≡ left_run limit seen asked m2 k2
    left-then seen asked n e =
        let same = same_shape k k2 whole in
        let h = held_at seen m2.state asked k2 in
        ap (λ l. run (thread_steps l thread) n h) (ap job_loads (sym same.images))
        ∙ ap (λ t. run (thread_steps (job_loads k2.vector.images) t) n h) (sym same.thread)
        ∙ ap (λ n. run (thread_steps (job_loads k2.vector.images) k2.vector.thread) n h) e

  -- the law of one part of a run
  pub run_answered : (asks : (is_look m1.state.place && nat_lt m1.taken limit) ≡ true) (result : Option Ran)
      (m2 : Standing ℕ Bool) (k2 : Kept)
      → AnswersLook m1 k1 result m2 k2 → RunsPart limit m k result m2 k2
  run_answered asks None m2 k2 answers =
      let took : m2.taken ≡ m1.taken + 1 = answers.takes in
      let below = is-below m1.taken limit (both-true (is_look m1.state.place) (nat_lt m1.taken limit) asks).1 in
      let before = taken-since in (
        record {
          shape = whole asks None m2 k2 answers;
          within = omega arith;
          runs = λ seen asked has. asks-then asks None m2 k2 answers seen asked has
              ∙ left-then asks None m2 k2 answers seen asked (limit - (m1.taken + 1)) (ap (λ t. limit - t) (sym took));
        },
        omega arith,
      )
  run_answered asks (Some (ran.Over stop)) m2 k2 answers =
      let left-is = rest-is asks (Some (ran.Over stop)) m2 k2 answers in
      let still : m2 ≡ m1 = answers.takes in record {
        same = same_thread k k2 (whole asks (Some (ran.Over stop)) m2 k2 answers);
        shape = whole asks (Some (ran.Over stop)) m2 k2 answers;
        within = subst (λ (m : Standing ℕ Bool). m.taken ≤ limit) (sym still) taken_within;
        clean = answers.clean;
        runs = λ seen asked has. asks-then asks (Some (ran.Over stop)) m2 k2 answers seen asked has
            ∙ ap (Ended stop (suc (limit - (m1.taken + 1))))
            (sym (held_still seen m1.state asked k1 k2 answers.shape
            (answers.still seen (has_seen_still k k1 seen shape has))))
            ∙ ap (λ n. Ended stop n (held_at seen m1.state asked k2)) (sym left-is)
            ∙ ap (λ (m : Standing ℕ Bool). Ended stop (limit - m.taken) (held_at seen m.state asked k2)) (sym still);
      }
  run_answered asks (Some (ran.Waits wanted)) m2 k2 answers =
      let left-is = rest-is asks (Some (ran.Waits wanted)) m2 k2 answers in
      let still : m2 ≡ m1 = answers.takes in record {
        same = same_thread k k2 (whole asks (Some (ran.Waits wanted)) m2 k2 answers);
        shape = whole asks (Some (ran.Waits wanted)) m2 k2 answers;
        within = subst (λ (m : Standing ℕ Bool). m.taken ≤ limit) (sym still) taken_within;
        clean = tt;
        runs = λ seen asked has. asks-then asks (Some (ran.Waits wanted)) m2 k2 answers seen asked has
            ∙ ap (λ n. Waits n (held_at seen m2.state (Some wanted) k2)) (sym left-is)
            ∙ ap (λ (m : Standing ℕ Bool). Waits (limit - m.taken) (held_at seen m2.state (Some wanted) k2))
            (sym still);
      }
