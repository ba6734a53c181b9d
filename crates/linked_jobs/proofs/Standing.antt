-- Where the meaning of a thread stands in a turn, the machine's thread stands too.
use Rattle.std.proofs.Common.{◌≡◌, ◌+◌, ◌-◌, ◌*◌, ◌≤◌, ℕ, zero, suc, List, [], ◌∷◌, Option, Some, refl, sym, subst, inl}
use Rattle.std.proofs.Common.{inr, arith}
use Rattle.std.specs.Prelude.{option_and_then}
use Rattle.guest_machine.specs.Run.{Stepping, Goes}
use Rattle.guest_machine.specs.Simulate.{Advances, IsSimulated, Moves}
use Rattle.job_text.specs.declared.thread_lines.ThreadLine.{ThreadLine}
use Rattle.module_table.specs.declared.events.Event.{Event}
use Rattle.shared_data.specs.Told.{called, steps_of}
use Rattle.thread_blocks.specs.Instances.{Loads}
use Rattle.thread_blocks.specs.JobWorlds.{numbered_lines, thread_ready}
use Rattle.thread_blocks.specs.Lines.{Line, event_by}
use Rattle.thread_blocks.specs.RunTime.{Runs, thread_turns}
use Rattle.thread_blocks.specs.Turns.{Begun, Calls, Idle, Mid, Phase, Says, Thread, Turns, event_of, next_line, ready}
use Rattle.thread_blocks.specs.Turns.{turn, turns, with_event, with_last}
use Rattle.thread_blocks.specs.TurnsAlike.{HasUnclean, SameBegun, SamePhase}
use Rattle.thread_blocks.specs.Turns.{IsFront}
use Rattle.whole_meaning.specs.Meanings.{Meaning}
use Rattle.whole_meaning.specs.Threads.{Meant, meant_turns, ops}
use Rattle.lawful_points.specs.Laws.{AtFronts}
use Rattle.lawful_points.specs.Raced.{first_of, raced_of}
use Rattle.order_laws.specs.Alike.{AreAlike, AtHistory, SameOne}
use Rattle.order_laws.proofs.Turns.{turns_alike}
use Rattle.tied_meaning.specs.Numbers.{Setting}
use Rattle.tied_meaning.specs.Ties.{AreTied}
use Rattle.tied_meaning.specs.Threads.{AtRest, InCall, Waiting}
use Rattle.begin_alike.specs.Laws.{meant_thread}
use Rattle.begin_alike.proofs.Firsts.{ready_rests}
use Rattle.begin_alike.proofs.Worlds.{threads_do}
use Rattle.call_alike.proofs.Simulated.{calls_alike}
use Rattle.linked_jobs.specs.Answers.{StandsIn}

-- ** steps

moves_on : {S : Type 0} (y : Stepping S) (k n : ℕ) (s b t : S) → Moves y k s b → Moves y n b t → Moves y (k + n) s t
moves_on y zero n s b t e more =
    let same : n ≡ 0 + n = omega arith in
    subst (λ (c : ℕ). Moves y c s t) same (subst (λ u. Moves y n u t) (sym e) more)
moves_on y (suc k) n s b t (over, (u, (step, moves))) more =
    let same : suc (k + n) ≡ suc k + n = omega arith in
    subst (λ (c : ℕ). Moves y c s t) same (over, (u, (step, moves_on y k n u b t moves more)))

module _ {S S' : Type 0} (x : Stepping S) (y : Stepping S') (Rel Wait Last : S → S' → Type 0)
    (alike : IsSimulated x y Rel Wait Last) where
  pub moves_alike : (n : ℕ) (s t : S) (s' : S') → Rel s s' → Moves x n s t
      → (n' : ℕ) × ((t' : S') × ((n' ≤ 4 * n) × Moves y n' s' t' × Rel t t'))
  moves_alike zero s t s' rel e = (0, (s', (omega arith, refl, subst (λ u. Rel u s') e rel)))
  moves_alike (suc n) s t s' rel (over, (u, (step, moves))) =
      let one : Advances y Rel Wait Last s (Goes u) s' =
      subst (λ next. Advances y Rel Wait Last s next s') step (alike.step s s' rel over) in
      let more = moves_alike n u t one.1.0 one.1.1.2 moves in
      let few = one.1.1.0 in
      let below = more.1.1.0 in (
        suc one.0 + more.0,
        (
          more.1.0,
          (
            omega (arith, few, below),
            moves_on y (suc one.0) more.0 s' one.1.0 more.1.0 one.1.1.1 more.1.1.1,
            more.1.1.2,
          ),
        ),
      )

-- ** turns

module _ {S S' : Type 0} (Rel Wait Rest : S → S' → Type 0) (Fine : List Event → Type 0) (x : Turns S Line Event)
    (y : Turns S' Line Event) (event : Line → List Event → Option Event) (alike : AreAlike Rel Wait Rest Fine x y event)
  where
    -- where the steps of a turn begin, with four times as many to take
    abbrev Begun4 : ℕ × S → Option (ℕ × S') → Type 0
    Begun4 begun o = (begun' : ℕ × S') × ((o ≡ Some begun') × (4 * begun.0 ≤ begun'.0) × Rel begun.1 begun'.1)

    called_alike : (steps steps' : ℕ) → 4 * steps ≤ steps' → (b : Begun S) (b' : Begun S') (seen : List Event)
        → SameBegun (λ (e : List Event). Rel) (λ (e : List Event). Rest) seen b b'
        → (begun : ℕ × S) → called steps b ≡ Some begun → Begun4 begun (called steps' b')
    called_alike steps steps' enough (Says ending s) b' seen same begun e = cc
    called_alike steps steps' enough (Calls s) (Says ending s') seen same begun e = absurd same
    called_alike steps steps' enough (Calls s) (Calls s') seen same begun e =
        let is : (steps, s) ≡ begun = cc in
        subst (λ (b : ℕ × S). Begun4 b (Some (steps', s'))) is ((steps', s'), (refl, enough, same))

    begins_alike : (todo : List Line) (phase : Phase S) (phase' : Phase S') (old seen : List Event) → Fine seen
        → Fine (with_event seen (option_and_then (λ line. event line seen) (next_line todo phase')))
        → SamePhase (λ (e : List Event). Wait) (λ (e : List Event). Rest) old phase phase'
        → (begun : ℕ × S) → steps_of x todo phase seen ≡ Some begun → Begun4 begun (steps_of y todo phase' seen)
    begins_alike [] (Idle s) phase' old seen fine own same begun e = cc
    begins_alike (line ∷ todo) (Idle s) (Idle s') old seen fine own same begun e =
        called_alike x.fuel y.fuel alike.fuel (x.begin line seen s) (y.begin line seen s') seen
        (alike.begin seen line fine own s s' same) begun e
    begins_alike (line ∷ todo) (Idle s) (Mid left' points' s') old seen fine own same begun e = absurd same
    begins_alike todo (Mid left points s) (Idle s') old seen fine own same begun e = absurd same
    begins_alike [] (Mid left points s) (Mid left' points' s') old seen fine own same begun e =
        let some = same.0 in
        let enough = same.1.0 in
        called_alike (left - 1) (left' - 1) (omega (arith, some, enough)) (x.resume seen s) (y.resume seen s') seen
        (alike.resume seen fine s s' same.1.1.1) begun e
    begins_alike (line ∷ todo) (Mid left points s) (Mid left' points' s') old seen fine own same begun e =
        let some = same.0 in
        let enough = same.1.0 in
        called_alike (left - 1) (left' - 1) (omega (arith, some, enough)) (x.resume seen s) (y.resume seen s') seen
        (alike.resume seen fine s s' same.1.1.1) begun e

    pub stands_alike : (t : Thread S Line Event) (t' : Thread S' Line Event) (seen : List Event) → Fine seen
        → Fine (with_event seen (event_of event t' seen)) → SameOne Wait Rest t t' → (HasUnclean t.said → ⊥)
        → (left : ℕ) (s : S) → StandsIn x t seen left s
        → (s' : S') × (StandsIn y t' seen (4 * left) s' × Rel s s')
    stands_alike t t' seen fine own (inl unclean) clean left s stands = absurd (clean unclean)
    stands_alike t t' seen fine own (inr level) clean left s stands =
        let mine : Fine (with_event seen (option_and_then (λ line. event line seen) (next_line t.todo t'.phase))) =
        subst (λ (ls : List Line). Fine
        (with_event seen (option_and_then (λ line. event line seen) (next_line ls t'.phase)))) level.todo own in
        let first = begins_alike t.todo t.phase t'.phase t.seen seen fine mine level.phase stands.begun stands.begins in
        let more = moves_alike x.steps y.steps Rel Wait Rest alike.steps stands.count stands.begun.1 s first.0.1
        first.1.2 stands.moves in
        let below = more.1.1.0 in
        let enough = stands.enough in
        let fuel = first.1.1 in (
          more.1.0,
          (
            record {
              begun = first.0;
              begins = subst (λ (ls : List Line). steps_of y ls t'.phase seen ≡ Some first.0) (sym level.todo)
                  first.1.0;
              count = more.0;
              moves = more.1.1.1;
              enough = omega (arith, below, enough, fuel);
            },
            more.1.1.2,
          ),
        )

-- turns, and one more
last_of : {S L E : Type 0} (x : Turns S L E) (event : L → List E → Option E) (Fine : List E → Type 0)
    (points : List (List E)) (seen : List E) (t : Thread S L E)
    → AtHistory x event Fine t (with_last points seen)
    → AtHistory x event Fine t points × (Fine seen × Fine (with_event seen (event_of event (turns x t points) seen)))
last_of x event Fine [] seen t at = (tt, at.0)
last_of x event Fine (first ∷ points) seen t at =
    let rest = last_of x event Fine points seen (turn x t first) at.1 in ((at.0, rest.0), rest.1)

-- ** a thread by itself

module _ (g : Setting) (m : Meaning) (q : Loads ℕ) (history : List Event) (tied : AreTied g m q history) where
  pub stands : (fuel thread : ℕ) → 1 ≤ thread → thread ≤ 64 → (own : List ThreadLine) (points : List (List Event))
      (seen : List Event)
      → AtFronts (thread_turns q thread fuel) (event_by q thread) history (first_of q thread own)
      (with_last points seen)
      → (HasUnclean (meant_thread m fuel thread own points).said → ⊥)
      → (left : ℕ) (h : Meant)
      → StandsIn (meant_turns m thread fuel) (meant_thread m fuel thread own points) seen left h
      → (h' : Runs) × (StandsIn (thread_turns q thread fuel) (raced_of q fuel thread own points) seen (4 * left) h'
      × InCall g m q history thread h h')
  stands fuel thread low high own points seen at clean left h =
      let Fine : List Event → Type 0 = λ seen. IsFront seen history in
      let alike = threads_do g m q history tied (calls_alike g m q history tied) fuel thread low high in
      let parts =
      last_of (thread_turns q thread fuel) (event_by q thread) Fine points seen (first_of q thread own) at in
      stands_alike (InCall g m q history thread) (Waiting g m q history thread) (AtRest g m q history thread) Fine
      (meant_turns m thread fuel) (thread_turns q thread fuel) (event_by q thread) alike
      (meant_thread m fuel thread own points) (raced_of q fuel thread own points) seen parts.1.0 parts.1.1
      (turns_alike (InCall g m q history thread) (Waiting g m q history thread) (AtRest g m q history thread) Fine
      (meant_turns m thread fuel) (thread_turns q thread fuel) (event_by q thread) alike points
      (ready (thread_ready ops m.loads thread) (numbered_lines 1 own)) (first_of q thread own) parts.0
      (inr (record { todo = refl; said = refl; seen = refl; phase = ready_rests g m q history tied thread })))
      clean left h
