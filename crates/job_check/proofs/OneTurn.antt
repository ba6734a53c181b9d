-- One turn: of a thread that has nothing left to do, and of one that has.
use Rattle.std.proofs.Common.{◌≡◌, ◌∙◌, ◌+◌, ◌++◌, ◌≤◌, ℕ, zero, suc, true, false, List, [], ◌∷◌, Option, Some, None}
use Rattle.std.proofs.Common.{length, refl, sym, ap, subst, arith}
use Rattle.std.specs.Prelude.{is_none, option_and_then, slice_get, slice_set}
use Rattle.std.proofs.lemmas.List.{drop_all}
use Rattle.guest_operands.specs.declared.state.State.{State}
use Rattle.job_meaning.specs.declared.values.Byte.{Byte}
use Rattle.job_meaning.specs.declared.values.Flag.{Flag}
use Rattle.job_meaning.specs.declared.values.Word.{Word}
use Rattle.job_text.specs.declared.thread_lines.Action.{Action}
use Rattle.job_text.specs.declared.thread_lines.Action.TheVariants.{Call, Open, Close, Peek}
use Rattle.job_text.specs.declared.thread_lines.ThreadLine.{ThreadLine}
use Rattle.link_needs.specs.Linking.{Linking}
use Rattle.module_table.specs.declared.events.Event.{Event}
use Rattle.module_table.specs.Past.{Past, accepts, close_refusal, open_refusal}
use Rattle.module_table.proofs.HistoryLemmas.{legal_more}
use Rattle.thread_blocks.specs.Held.{Owned, owned_by, with_owned}
use Rattle.thread_blocks.specs.Instances.{Loads, left_by}
use Rattle.thread_blocks.specs.JobWorlds.{Shared, blocks_in, changed, data_in, held_in, numbered_lines, shared_turn}
use Rattle.thread_blocks.specs.JobWorlds.{with_data, without_data}
use Rattle.thread_blocks.specs.Lines.{Line, event_at, event_by, unless_refused}
use Rattle.thread_blocks.specs.Turns.{Idle, Mid, Phase, Said, Thread, Turns, event_of, next_line, turn, turn_at}
use Rattle.thread_blocks.specs.Turns.{with_event}
use Rattle.whole_meaning.specs.Loads.{loads_of, meaning_of}
use Rattle.whole_meaning.specs.Threads.{Meant, meant_turns}
use Rattle.job_check.specs.declared.thread.Waiting.{Waiting}
use Rattle.job_check.specs.Histories.{IsHistory, infos_of, last_of}
use Rattle.marked_memory.specs.Kept.{Kept, held_at}
use Rattle.thread_turns.specs.Orders.{is_over, is_thread_over}
use Rattle.job_check.specs.declared.thread.Common.{Common}
use Rattle.job_check.specs.Progress.{IsRunOf, MeantThreads, Stands, Turned, meant_order}
use Rattle.job_check.specs.Standing.{PhaseIs, Run, StandsAfter, is_done, is_done_with}
use Rattle.thread_turns.proofs.Lists.{beside, each_set, none_beside, set-length, set_same}
use Rattle.job_check.proofs.Looks.{held_with}
use Rattle.job_check.proofs.OwnedApart.{blocks_before, blocks_of_data, data_behind, data_twice, owned_again}

-- ** the history stays one

is_event : {R : Type 0} (refusal : Option R) (e found : Event) → unless_refused refusal e ≡ Some found
    → (is_none refusal ≡ true) × (e ≡ found)
is_event None e found same = (refl, cc)
is_event (Some refusal) e found same = absurd cc

open_accepted : (p : Past) (e found : Event) → e.opens ≡ true → unless_refused (open_refusal p e.image) e ≡ Some found
    → accepts p found ≡ true
unfolding accepts
open_accepted p e found opens same =
    let is = is_event (open_refusal p e.image) e found same in
    let P : Event → Type 0 = λ x. accepts p x ≡ true in
    subst P is.1 (rw (opens, is.0) refl)

close_accepted : (p : Past) (e found : Event) → e.opens ≡ false
    → unless_refused (close_refusal p e.image) e ≡ Some found → accepts p found ≡ true
unfolding accepts
close_accepted p e found closes same =
    let is = is_event (close_refusal p e.image) e found same in
    let P : Event → Type 0 = λ x. accepts p x ≡ true in
    subst P is.1 (rw (closes, is.0) refl)

accepted_by : {B : Type 0} (l : Loads B) (thread number image : ℕ) (action : Action) (seen : List Event) (found : Event)
    → event_by l thread (record { number = number; told = record { image = image; action = action } }) seen ≡ Some found
    → accepts (left_by l seen) found ≡ true
accepted_by l thread number image (Call symbol a b c) seen found same = absurd cc
accepted_by l thread number image Open seen found same =
    open_accepted (left_by l seen) (event_at thread number true image) found refl same
accepted_by l thread number image Close seen found same =
    close_accepted (left_by l seen) (event_at thread number false image) found refl same
accepted_by l thread number image (Peek symbol size) seen found same = absurd cc

line_accepted : {B : Type 0} (l : Loads B) (thread : ℕ) (line : Option Line) (seen : List Event) (found : Event)
    → option_and_then (λ (x : Line). event_by l thread x seen) line ≡ Some found → accepts (left_by l seen) found ≡ true
line_accepted l thread None seen found same = absurd cc
line_accepted l thread (Some line) seen found same =
    accepted_by l thread line.number line.told.image line.told.action seen found same

legal_with : (ls : List Linking) (events : List Event) (e : Option Event) → IsHistory ls events
    → ((found : Event) → e ≡ Some found → accepts (left_by (loads_of ls) events) found ≡ true)
    → IsHistory ls (with_event events e)
unfolding loads_of
legal_with ls events None legal accepted = legal
legal_with ls events (Some e) legal accepted = legal_more (infos_of ls) (last_of ls) events e legal (accepted e refl)

pub turn_legal : (ls : List Linking) (thread : ℕ) (t : Thread Meant Line Event) (events : List Event)
    → IsHistory ls events
    → IsHistory ls (with_event events (event_of (event_by (meaning_of ls).loads thread) t events))
unfolding meaning_of
turn_legal ls thread t events legal =
    legal_with ls events (event_of (event_by (loads_of ls) thread) t events) legal
    (λ found same. line_accepted (loads_of ls) thread (next_line t.todo t.phase) events found same)

-- ** what is behind a turn of thread k

module _ (ls : List Linking) (fuel : ℕ) (w : Shared Word Flag Byte Line) (x : MeantThreads)
    (stands : Stands ls fuel w x) (e : Option Event)
    (legal : IsHistory ls (with_event w.events e)) where
  pub stands_then : (k : ℕ) (s : Common) (r : Run) (t : Thread Meant Line Event)
      → left_by (loads_of ls) (with_event w.events e) ≡ s.table → data_in s.ranges.items ≡ s.ranges.items
      → blocks_in s.ranges.items ≡ [] → IsRunOf ls fuel (suc k) r t
      → Stands ls fuel (record
      { threads = slice_set w.threads k t; events = with_event w.events e; shared = s.ranges.items })
      (record { shared = s; runs = slice_set x.runs k r })
  stands_then k s r t leaves are_data no_blocks is = record {
    legal = legal;
    leaves = leaves;
    shared_is = refl;
    are_data = are_data;
    no_blocks = no_blocks;
    count = set-length x.runs k r ∙ stands.count ∙ sym (set-length w.threads k t);
    each = each_set (λ n a b. IsRunOf ls fuel (suc n) a b) x.runs w.threads k r t is stands.each;
  }

-- ** nothing left to do

nothing_left : (lines : List ThreadLine) (begun : ℕ) (call : Option Waiting) → is_done_with lines begun call ≡ true
    → (call ≡ None) × (length lines ≤ begun)
nothing_left lines begun None done = (refl, grind (arith, done))
nothing_left lines begun (Some c) done = absurd cc

module _ (x : Turns Meant Line Event) (f : Meant → Meant) (k : Kept) where
  turn_stays : (todo : List Line) (phase : Phase Meant) (said : List Said) (old seen : List Event) → todo ≡ []
      → PhaseIs k None phase
      → turn_at x todo (changed f phase) said old seen
      ≡ record { todo = todo; phase = changed f phase; said = said; seen = old }
  turn_stays [] (Idle h) said old seen none is = refl
  turn_stays [] (Mid steps points h) said old seen none is = absurd is
  turn_stays (line ∷ todo) phase said old seen none is = absurd cc

module _ (k : Kept) (d : List (Owned Byte)) (blocks : blocks_in k.own ≡ k.own) (no_data : data_in k.own ≡ [])
    (are_data : data_in d ≡ d)
    (no_blocks : blocks_in d ≡ []) where
  abbrev put : Meant → Meant
  put h = with_owned h (owned_by h ++ d)

  abbrev out : Meant → Meant
  out h = with_owned h (blocks_in (owned_by h))

  held_again : (seen : List Event) (state : State Word Flag) → out (put (held_at seen state k)) ≡ held_at seen state k
  held_again seen state =
      ap (λ xs. out (held_with seen state k.stack (xs ++ d))) (owned_again k.own)
      ∙ ap (λ xs. held_with seen state k.stack (blocks_in xs)) (owned_again (k.own ++ d))
      ∙ ap (held_with seen state k.stack) (blocks_before k.own d blocks no_data are_data no_blocks)

  data_again : (seen : List Event) (state : State Word Flag) → data_in (owned_by (put (held_at seen state k))) ≡ d
  data_again seen state =
      ap (λ xs. data_in (owned_by (held_with seen state k.stack (xs ++ d)))) (owned_again k.own)
      ∙ ap data_in (owned_again (k.own ++ d)) ∙ data_behind k.own d blocks no_data are_data no_blocks

  phase_again : (phase : Phase Meant) → PhaseIs k None phase → PhaseIs k None (changed out (changed put phase))
  phase_again (Idle h) is = record {
    seen = is.seen;
    state = is.state;
    holds = ap (λ y. out (put y)) is.holds ∙ held_again is.seen is.state;
  }
  phase_again (Mid steps points h) is = absurd is

  data_held : (phase : Phase Meant) → PhaseIs k None phase → data_in (owned_by (held_in (changed put phase))) ≡ d
  data_held (Idle h) is = ap (λ y. data_in (owned_by (put y))) is.holds ∙ data_again is.seen is.state
  data_held (Mid steps points h) is = absurd is

module _ (ls : List Linking) (fuel : ℕ) (w : Shared Word Flag Byte Line) (x : MeantThreads)
    (stands : Stands ls fuel w x) where
  abbrev turned_by : ℕ → Option (Thread Meant Line Event) → Shared Word Flag Byte Line
  turned_by thread t =
      shared_turn (λ n. meant_turns (meaning_of ls) n fuel) (λ n. event_by (meaning_of ls).loads n) w thread t

  module _ (k : ℕ) (r : Run) (t : Thread Meant Line Event) (at_r : slice_get x.runs k ≡ Some r)
      (at_t : slice_get w.threads k ≡ Some t)
      (done : is_done r ≡ true) where
    run : IsRunOf ls fuel (suc k) r t
    run = stands.each k r t at_r at_t

    left_none : (r.call ≡ None) × (length r.lines ≤ r.begun)
    left_none = nothing_left r.lines r.begun r.call done

    no_todo : t.todo ≡ []
    no_todo = run.stands.todo ∙ ap (numbered_lines (r.begun + 1)) (drop_all r.begun r.lines left_none.1)

    idle : PhaseIs r.kept None t.phase
    idle = subst (λ call. PhaseIs r.kept call t.phase) left_none.0 run.stands.phase

    abbrev handed : Thread Meant Line Event
    handed = with_data w.shared t

    shared_data : data_in w.shared ≡ w.shared
    shared_data = subst (λ xs. data_in xs ≡ xs) (sym stands.shared_is) stands.are_data

    shared_no_blocks : blocks_in w.shared ≡ []
    shared_no_blocks = subst (λ xs. blocks_in xs ≡ []) (sym stands.shared_is) stands.no_blocks

    done_turn : turn (meant_turns (meaning_of ls) (suc k) fuel) handed w.events ≡ handed
    done_turn = turn_stays (meant_turns (meaning_of ls) (suc k) fuel)
        (put r.kept w.shared run.stands.blocks run.stands.no_data shared_data shared_no_blocks)
        r.kept t.todo t.phase t.said t.seen w.events no_todo idle

    no_event : event_of (event_by (meaning_of ls).loads (suc k)) t w.events ≡ None
    no_event = rw no_todo refl

    done_world : turned_by (suc k) (Some t)
        ≡ record {
          threads = slice_set w.threads k (without_data handed);
          events = w.events;
          shared = data_in (owned_by (held_in handed.phase));
        }
    done_world = rw (done_turn, no_event) refl

    data_same : data_in (owned_by (held_in handed.phase)) ≡ x.shared.ranges.items
    data_same = data_held r.kept w.shared run.stands.blocks run.stands.no_data shared_data shared_no_blocks t.phase idle
        ∙ stands.shared_is

    done_run : IsRunOf ls fuel (suc k) r (without_data handed)
    done_run = record {
      thread_is = run.thread_is;
      images_are = run.images_are;
      fuel_is = run.fuel_is;
      stands = record {
        todo = run.stands.todo;
        count = run.stands.count;
        unclean = run.stands.unclean;
        blocks = run.stands.blocks;
        no_data = run.stands.no_data;
        phase = subst (λ call. PhaseIs r.kept call (without_data handed).phase) (sym left_none.0)
            (phase_again r.kept w.shared run.stands.blocks run.stands.no_data shared_data shared_no_blocks t.phase idle);
      };
    }

    done_stays : Stands ls fuel (turned_by (suc k) (Some t)) x
    done_stays =
        let same : record { shared = x.shared; runs = slice_set x.runs k r } ≡ x =
        ap (λ runs. record { shared = x.shared; runs = runs }) (set_same x.runs k r at_r) in
        rw (done_world, data_same)
        (subst (λ y. Stands ls fuel
        (record {
          threads = slice_set w.threads k (without_data handed);
          events = w.events;
          shared = x.shared.ranges.items;
        }) y) same
        (stands_then ls fuel w x stands None stands.legal k x.shared r
        (without_data handed) stands.leaves stands.are_data
        stands.no_blocks done_run))

  over_stays_at : (k : ℕ) (r : Option Run) → slice_get x.runs k ≡ r → is_over is_done r ≡ true
      → Stands ls fuel (turned_by (suc k) (slice_get w.threads k)) x
  over_stays_at k None at over = rw (none_beside x.runs w.threads k stands.count at) stands
  over_stays_at k (Some r) at over =
      let found = beside x.runs w.threads k r stands.count at in
      rw found.1 (done_stays k r found.0 at found.1 over)

  pub over_stays : (thread : ℕ) → is_thread_over is_done x.runs thread ≡ true
      → Stands ls fuel (meant_order ls fuel (thread ∷ []) w) x
  over_stays zero over = stands
  over_stays (suc k) over = over_stays_at k (slice_get x.runs k) refl over

  -- ** a turn of a thread that has something left

  module _ (k : ℕ) (r : Run) (t : Thread Meant Line Event) (is : IsRunOf ls fuel (suc k) r t) (s : Common) (r' : Run)
      (takes : Turned x.shared r s r') where
    abbrev adds : Option Event
    adds = event_of (event_by (meaning_of ls).loads (suc k)) t w.events

    abbrev then : Thread Meant Line Event
    then = turn (meant_turns (meaning_of ls) (suc k) fuel) (with_data w.shared t) w.events

    after_turn : StandsAfter r' s.table s.ranges.items (with_event w.events adds) then
    after_turn =
        rw (stands.shared_is, ← is.images_are, ← is.thread_is, ← is.fuel_is)
        (takes.turns t w.events is.stands (rw is.images_are stands.leaves))

    images_then : r'.kept.images ≡ ls
    images_then = takes.same.images ∙ is.images_are

    turn_stands : Stands ls fuel (turned_by (suc k) (Some t)) (record { shared = s; runs = slice_set x.runs k r' })
    turn_stands =
        rw after_turn.shared
        (stands_then ls fuel w x stands adds (turn_legal ls (suc k) t w.events stands.legal) k s r' (without_data then)
        (subst (λ images. left_by (loads_of images) (with_event w.events adds) ≡ s.table) images_then after_turn.leaves)
        (subst (λ xs. data_in xs ≡ xs) after_turn.shared (data_twice (owned_by (held_in then.phase))))
        (subst (λ xs. blocks_in xs ≡ []) after_turn.shared (blocks_of_data (owned_by (held_in then.phase))))
        (record {
          thread_is = takes.same.thread ∙ is.thread_is;
          images_are = images_then;
          fuel_is = takes.same.fuel ∙ is.fuel_is;
          stands = after_turn.stands;
        }))

pub turned_stands : (ls : List Linking) (fuel : ℕ) (w : Shared Word Flag Byte Line) (x : MeantThreads) (k : ℕ) (r : Run)
    (s : Common)
    (r' : Run) → slice_get x.runs k ≡ Some r → Turned x.shared r s r' → Stands ls fuel w x
    → Stands ls fuel (meant_order ls fuel (suc k ∷ []) w) (record { shared = s; runs = slice_set x.runs k r' })
turned_stands ls fuel w x k r s r' at takes stands =
    let found = beside x.runs w.threads k r stands.count at in
    rw found.1 (turn_stands ls fuel w x stands k r found.0 (stands.each k r found.0 at found.1) s r' takes)
