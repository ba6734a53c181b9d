-- A turn of a thread that has nothing left to do changes nothing that counts.
use Rattle.std.proofs.Common.{◌≡◌, ◌+◌, ◌++◌, ℕ, List, [], ◌∷◌, Option, Some, None, refl, sym, ap, subst, ◌∙◌}
use Rattle.std.proofs.Common.{append-nil}
use Rattle.std.specs.Prelude.{not, slice_get}
use Rattle.std.proofs.lemmas.List.Elements.{filter-append}
use Rattle.job_text.specs.declared.thread_lines.Action.{Action}
use Rattle.job_text.specs.declared.thread_lines.Action.TheVariants.{Call, Open, Close, Peek}
use Rattle.job_text.specs.declared.thread_lines.ThreadLine.{ThreadLine}
use Rattle.module_data.specs.Pieces.{Piece}
use Rattle.module_table.specs.declared.events.Event.{Event}
use Rattle.module_table.specs.Past.{Past}
use Rattle.loaded_modules.specs.Images.{JobImages}
use Rattle.thread_blocks.specs.Held.{is_block, owned_by, with_owned}
use Rattle.thread_blocks.specs.JobWorlds.{blocks_in, changed, data_in, held_in, numbered_lines, with_data, without_data}
use Rattle.thread_blocks.specs.Lines.{Line}
use Rattle.thread_blocks.specs.RunTime.{Runs}
use Rattle.thread_blocks.specs.Turns.{Idle, Mid, Phase, Said, Thread, Turns, event_of, turn, turn_at}
use Rattle.job_turns.specs.declared.asking.Ask.TheVariants.{Done}
use Rattle.job_turns.specs.Asking.{ask_by, ask_next}
use Rattle.thread_space.specs.Kept.{Kept, blocks_of, shared_of}
use Rattle.job_turns.specs.Standing.{IsIdle, PhaseIs, Run, StandsFor, Waiting, ask_now, ask_of}
use Rattle.thread_space.proofs.Owners.{blocks_are_blocks, blocks_no_data, owned_again, shared_is_data, shared_no_blocks}
use Rattle.thread_vector.specs.Vectors.{Vector}
use Rattle.thread_turns.proofs.Lists.{none_drop}

-- ---- nothing is left

pub never_done : (line image : ℕ) (action : Action) → ask_by line image action ≡ Done → ⊥
never_done line image (Call symbol a b c) done = cc
never_done line image Open done = cc
never_done line image Close done = cc
never_done line image (Peek symbol size) done = cc

no_line : (number : ℕ) (line : Option ThreadLine) → ask_next number line ≡ Done → line ≡ None
no_line number None done = refl
no_line number (Some line) done = absurd (never_done number line.image line.action done)

nothing_left : (begun : ℕ) (lines : List ThreadLine) (call : Option Waiting) → ask_now begun lines call ≡ Done
    → (call ≡ None) × (slice_get lines begun ≡ None)
nothing_left begun lines None done = (refl, no_line (begun + 1) (slice_get lines begun) done)
nothing_left begun lines (Some call) done = absurd cc

module _ (r : Run) (t : Thread Runs Line Event) (stands : StandsFor r t) (done : ask_of r ≡ Done) where
  no_todo : t.todo ≡ []
  no_todo = let rest = none_drop r.lines r.begun (nothing_left r.begun r.lines r.call done).1 in
      stands.todo ∙ ap (λ lines. numbered_lines (r.begun + 1) lines) rest

  no_call : PhaseIs r.kept r.fuel None t.phase
  no_call = subst (λ call. PhaseIs r.kept r.fuel call t.phase) (nothing_left r.begun r.lines r.call done).0 stands.phase

  no_event : (event : Line → List Event → Option Event) (seen : List Event) → event_of event t seen ≡ None
  no_event event seen = rw no_todo refl

-- ---- its turn

module _ (x : Turns Runs Line Event) (f : Runs → Runs) (k : Kept) (fuel : ℕ) where
  turn_stays : (todo : List Line) (phase : Phase Runs) (said : List Said) (old seen : List Event) → todo ≡ []
      → PhaseIs k fuel None phase
      → turn_at x todo (changed f phase) said old seen
      ≡ record { todo = todo; phase = changed f phase; said = said; seen = old }
  turn_stays [] (Idle h) said old seen none is = refl
  turn_stays [] (Mid steps points h) said old seen none is = absurd is
  turn_stays (line ∷ todo) phase said old seen none is = absurd cc

-- ---- data in its hands and out of them again

module _ (v : Vector) (m : JobImages) (p : Past) (d : List Piece) where
  blocks_again : blocks_in (blocks_of v ++ shared_of m p d) ≡ blocks_of v
  blocks_again =
      filter-append (λ y. is_block y.owner.kind) (blocks_of v) (shared_of m p d)
      ∙ rw (blocks_are_blocks v, shared_no_blocks m p d) (append-nil (blocks_of v))

  data_again : data_in (blocks_of v ++ shared_of m p d) ≡ shared_of m p d
  data_again =
      filter-append (λ y. not (is_block y.owner.kind)) (blocks_of v) (shared_of m p d)
      ∙ rw (blocks_no_data v, shared_is_data m p d) refl

module _ (k : Kept) (m : JobImages) (p : Past) (d : List Piece) where
  abbrev put : Runs → Runs
  put h = with_owned h (owned_by h ++ shared_of m p d)

  abbrev out : Runs → Runs
  out h = with_owned h (blocks_in (owned_by h))

  put_holds : (h : Runs) → IsIdle k h → owned_by (put h) ≡ blocks_of k.vector ++ shared_of m p d
  put_holds h idle = owned_again _ ∙ ap (λ xs. xs ++ shared_of m p d) idle.blocks

  idle_again : (h : Runs) → IsIdle k h → IsIdle k (out (put h))
  idle_again h idle = record {
    seen = idle.seen;
    blocks = owned_again _ ∙ ap blocks_in (put_holds h idle) ∙ blocks_again k.vector m p d;
    stack = idle.stack;
  }

  phase_again : (fuel : ℕ) (phase : Phase Runs) → PhaseIs k fuel None phase
      → PhaseIs k fuel None (changed out (changed put phase))
  phase_again fuel (Idle h) is = idle_again h is
  phase_again fuel (Mid steps points h) is = absurd is

  data_held : (fuel : ℕ) (phase : Phase Runs) → PhaseIs k fuel None phase
      → data_in (owned_by (held_in (changed put phase))) ≡ shared_of m p d
  data_held fuel (Idle h) is = ap data_in (put_holds h is) ∙ data_again k.vector m p d
  data_held fuel (Mid steps points h) is = absurd is

-- ---- all of it

module _ (r : Run) (t : Thread Runs Line Event) (stands : StandsFor r t) (done : ask_of r ≡ Done)
    (x : Turns Runs Line Event) (seen : List Event) (m : JobImages) (p : Past) (d : List Piece) where
  pub done_turn : turn x (with_data (shared_of m p d) t) seen ≡ with_data (shared_of m p d) t
  done_turn = turn_stays x (put r.kept m p d) r.kept r.fuel t.todo t.phase t.said t.seen seen
      (no_todo r t stands done) (no_call r t stands done)

  pub done_adds_none : (event : Line → List Event → Option Event) → event_of event t seen ≡ None
  done_adds_none event = no_event r t stands done event seen

  pub done_stands : StandsFor r (without_data (with_data (shared_of m p d) t))
  done_stands = record {
    todo = stands.todo;
    said = stands.said;
    phase = subst (λ call. PhaseIs r.kept r.fuel call (changed (out r.kept m p d) (changed (put r.kept m p d) t.phase)))
        (sym (nothing_left r.begun r.lines r.call done).0)
        (phase_again r.kept m p d r.fuel t.phase (no_call r t stands done));
  }

  pub done_shared : data_in (owned_by (held_in (with_data (shared_of m p d) t).phase)) ≡ shared_of m p d
  done_shared = data_held r.kept m p d r.fuel t.phase (no_call r t stands done)
