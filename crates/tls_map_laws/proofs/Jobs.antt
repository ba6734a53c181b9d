-- What a thread holds is the map's at all times, where it is known of its instances what the map needs.
use Rattle.std.proofs.Common.{◌≡◌, ◌∙◌, ◌+◌, ◌++◌, ◌==◌, ◌≤◌, ℕ, zero, suc, true, List, [], ◌∷◌, Option, Some, None}
use Rattle.std.proofs.Common.{refl, sym, ap, subst, arith, append-nil}
use Rattle.std.specs.Prelude.{slice_get}
use Rattle.address_map.specs.Map.{stack_start}
use Rattle.guest_arithmetic.specs.Values.{Operations}
use Rattle.guest_machine.specs.Access.{Accesses}
use Rattle.guest_machine.specs.Ranges.{Range}
use Rattle.job_text.specs.declared.thread_lines.ThreadLine.{ThreadLine}
use Rattle.lawful_points.specs.Laws.{AtFronts}
use Rattle.lawful_points.specs.Orders.{looks_of}
use Rattle.lawful_points.specs.Points.{Follows}
use Rattle.loaded_modules.specs.declared.instance.Instance.{Instance}
use Rattle.module_table.specs.declared.events.Event.{Event}
use Rattle.module_table.specs.Past.{IsLegal}
use Rattle.std.specs.List.{flat_map}
use Rattle.shared_data.proofs.Legal.{legal_turn}
use Rattle.thread_blocks.specs.Held.{Held, data_after}
use Rattle.thread_blocks.specs.Instances.{Loads, fixed_at, instances}
use Rattle.thread_blocks.specs.JobWorlds.{Shared, held_in, job_start, numbered_lines, ready_from, shared_order}
use Rattle.thread_blocks.specs.JobWorlds.{shared_turn, thread_ready, with_data}
use Rattle.thread_blocks.specs.Lines.{Line, event_by}
use Rattle.thread_blocks.specs.MachineTurns.{pointer_word}
use Rattle.thread_blocks.specs.RunTime.{Runs, thread_turns}
use Rattle.thread_blocks.specs.Spaces.{Space, space_accesses}
use Rattle.thread_blocks.specs.Turns.{Ending, Thread, Turns, at_number, event_of, ready, turn, with_event}
use Rattle.thread_blocks.specs.Turns.{IsFront}
use Rattle.whole_meaning.specs.Meanings.{Meaning}
use Rattle.whole_meaning.specs.Threads.{Meant, meant_turns, ops as marked_ops}
use Rattle.tls_map_laws.specs.Always.{OrdersHaveMap, PeeksShow}
use Rattle.tls_map_laws.specs.Machine.{machine_acts, machine_asks}
use Rattle.tls_map_laws.specs.Map.{Act}
use Rattle.tls_map_laws.specs.Meaning.{meant_acts, meant_asks}
use Rattle.tls_map_laws.specs.Moments.{AreMap}
use Rattle.tls_map_laws.specs.Told.{AtRising, first_acts}
use Rattle.tls_map_laws.proofs.Entries.{AreData}
use Rattle.tls_map_laws.proofs.Known.{Around, Known}
use Rattle.tls_map_laws.proofs.Looks.{made_each}
use Rattle.tls_map_laws.proofs.Keeping.{lows}
use Rattle.tls_map_laws.proofs.Begins.{FitsBy, front_of}
use Rattle.tls_map_laws.proofs.Turns.{KeepsMap}
use Rattle.tls_map_laws.proofs.Machine.{machine_keeps}
use Rattle.tls_map_laws.proofs.Meaning.{meant_keeps}
use Rattle.tls_map_laws.proofs.Moment.{anew, found_member, is_map}
use Rattle.tls_map_laws.proofs.Orders.{AllFit, order_fit, thread_fit, thread_stands, thread_within}
use Rattle.tls_map_laws.proofs.Law.{machine_first, meant_first}
use Rattle.guest_arithmetic.specs.Plain.{plain_operations}

-- ** all instances that are ever live

module _ {W F B : Type 0} (ops : Operations W F B) (l : Loads B) (thread : ℕ) (initial : Instance → List B)
    (zero_byte : B) (history : List Event) (known : Known l thread history)
    (around : Around l thread (λ seen. pointer_word ops thread ∷ fixed_at l seen) initial zero_byte history) where
  abbrev fixed : List Event → List (Range B)
  fixed seen = pointer_word ops thread ∷ fixed_at l seen

  pub are_map : (acts : List (Act B)) (h : Held W F B) → FitsBy l thread history known acts h
      → AreMap l thread (space_accesses ops (stack_start thread) fixed) initial zero_byte history acts h
  are_map acts h fits = record {
    each = λ x lived. is_map ops l thread fixed initial zero_byte history known around acts h fits x lived.seen lived.front
        (found_member (λ (y : Instance). y.number == x.number) (instances l lived.seen) x lived.live);
    anew = anew ops l thread fixed initial zero_byte history known around acts h fits;
  }

-- ** fewer points

module _ {S : Type 0} (x : Turns S Line Event) (event : Line → List Event → Option Event) (history : List Event) where
  fewer_follow : (points more : List (List Event)) (t : Thread S Line Event) (old : List Event)
      → Follows old (looks_of x event t (points ++ more)) → Follows old (looks_of x event t points)
  fewer_follow [] more t old follows = tt
  fewer_follow (seen ∷ points) more t old follows =
      (follows.0, fewer_follow points more (turn x t seen) (with_event seen (event_of event t seen)) follows.1)

  fewer_fronts : (points more : List (List Event)) (t : Thread S Line Event)
      → AtFronts x event history t (points ++ more) → AtFronts x event history t points
  fewer_fronts [] more t fronts = tt
  fewer_fronts (seen ∷ points) more t fronts = (fronts.0, fewer_fronts points more (turn x t seen) fronts.1)

  pub fewer_rise : (points more : List (List Event)) (t : Thread S Line Event)
      → AtRising x event history t (points ++ more)
      → AtRising x event history t points
  fewer_rise points more t rising =
      record {
        follows = fewer_follow points more t [] rising.follows;
        fronts = fewer_fronts points more t rising.fronts;
      }

pub last_then : {X : Type 0} (xs : List X) (y : X) (ys : List X) → (xs ++ y ∷ []) ++ ys ≡ xs ++ y ∷ ys
last_then [] y ys = refl
last_then (x ∷ xs) y ys = ap (λ more. x ∷ more) (last_then xs y ys)

-- ** all threads of a job

module _ {W F B : Type 0} (l : Loads B) (x : ℕ → Turns (Held W F B) Line Event)
    (step_acts : ℕ → List (Act B) → Held W F B → List (Act B)) (asks : ℕ → List Event → Held W F B → Option Instance)
    (acc : ℕ → Accesses (Space Event B) B) (initial : Instance → List B) (zero_byte : B)
    (keeps : (thread : ℕ) (history : List Event) (known : Known l thread history)
    → KeepsMap l thread history known (x thread) (step_acts thread) (asks thread))
    (known : (history : List Event) → IsLegal l.infos l.last_offset history → (thread : ℕ) → Known l thread history)
    (maps : (history : List Event) (legal : IsLegal l.infos l.last_offset history) (thread : ℕ) → 1 ≤ thread
    → (acts : List (Act B)) (h : Held W F B) → FitsBy l thread history (known history legal thread) acts h
    → AreMap l thread (acc thread) initial zero_byte history acts h)
    (show : ℕ → Line → List Event → List B → Ending)
    (shows : (history : List Event) (legal : IsLegal l.infos l.last_offset history) (thread : ℕ) → 1 ≤ thread
    → (acts : List (Act B)) (t : Thread (Held W F B) Line Event) (seen : List Event)
    → FitsBy l thread history (known history legal thread) acts (held_in t.phase)
    → IsFront (held_in t.phase).after.memory.seen seen → IsFront seen history
    → PeeksShow l thread (x thread) initial zero_byte (show thread) acts t seen)
    (start : Shared W F B Line)
    (first : (history : List Event) (legal : IsLegal l.infos l.last_offset history)
    → AllFit l x step_acts asks keeps history (known history legal) (λ i. first_acts l) start)
    (legal_start : IsLegal l.infos l.last_offset start.events) where
  abbrev event : ℕ → Line → List Event → Option Event
  event i = event_by l i

  legal_turned : (w : Shared W F B Line) (i : ℕ) (o : Option (Thread (Held W F B) Line Event))
      → IsLegal l.infos l.last_offset w.events → IsLegal l.infos l.last_offset (shared_turn x event w i o).events
  legal_turned w i None legal = legal
  legal_turned w i (Some t) legal = legal_turn l i t w.events legal

  legal_order : (order : List ℕ) (w : Shared W F B Line) → IsLegal l.infos l.last_offset w.events
      → IsLegal l.infos l.last_offset (shared_order x event order w).events
  legal_order [] w legal = legal
  legal_order (i ∷ order) w legal =
      legal_order order (shared_turn x event w i (at_number w.threads i))
      (legal_turned w i (at_number w.threads i) legal)

  some_thread : {X : Type 0} (xs : List X) (thread : ℕ) (t : X) → at_number xs thread ≡ Some t → 1 ≤ thread
  some_thread xs zero t at = cc
  some_thread xs (suc i) t at = omega arith

  pub orders : (order : List ℕ) (thread : ℕ) (t : Thread (Held W F B) Line Event)
      → at_number (shared_order x event order start).threads thread ≡ Some t
      → OrdersHaveMap l x step_acts asks acc initial zero_byte show start order thread t
  orders order thread t at =
      let w = shared_order x event order start in
      let now = w.events in
      let legal = legal_order order start legal_start in
      let later = with_event now (event_of (event thread) t now) in
      let legal' = legal_turn l thread t now legal in
      let itself : (xs : List Event) → IsFront xs xs = λ xs. ([], sym (append-nil xs)) in
      let some = some_thread w.threads thread t at in
      let all = λ (h : List Event) (is : IsLegal l.infos l.last_offset h) (front : IsFront now h).
      order_fit l x step_acts asks keeps h (known h is) order (λ i. first_acts l) start (first h is) front in
      record {
        between = maps now legal thread some _ _
            (thread_fit l x step_acts asks keeps now (known now legal) _ w (all now legal (itself now)) thread t at);
        within = λ from n begun. maps later legal' thread some _ _
            (thread_within l x step_acts asks keeps later (known later legal') _ w
            (all later legal' (front_of now (event_of (event thread) t now) later (itself later)))
            thread t at (itself later) from n begun);
        peeks =
            let to = front_of now (event_of (event thread) t now) later (itself later) in
            let stands = thread_stands l x step_acts asks keeps later (known later legal') _ w
            (all later legal' to) thread t
            at (itself later) in
            shows later legal' thread some _ (with_data w.shared t) now stands.0 stands.1 to;
      }

-- ** before the first turn

module _ {B : Type 0} (l : Loads B) (thread : ℕ) (history : List Event) (known : Known l thread history) where
  first_low : AreData (flat_map (data_after l (λ y. true) []) (instances l []))
  first_low = made_each l thread (λ y. true) [] (instances l [])
      (lows l thread history known [] (history, refl)) tt

machine_ready : (l : Loads ℕ) (first : ℕ) (lines : List (List ThreadLine)) (i : ℕ) (t : Thread Runs Line Event)
    → slice_get (ready_from plain_operations l first lines) i ≡ Some t
    → thread_ready plain_operations l (first + i) ≡ held_in t.phase
machine_ready l first [] i t e = cc
machine_ready l first (own ∷ lines) zero t e =
    let same : ready (thread_ready plain_operations l first) (numbered_lines 1 own) ≡ t = (let s = e in cc) in
    let number : first + 0 ≡ first = omega arith in
    ap (λ (n : ℕ). thread_ready plain_operations l n) number ∙ ap (λ (u : Thread Runs Line Event). held_in u.phase) same
machine_ready l first (own ∷ lines) (suc i) t e =
    let number : first + suc i ≡ suc first + i = omega arith in
    ap (λ (n : ℕ). thread_ready plain_operations l n) number ∙ machine_ready l (suc first) lines i t e

meaning_ready : (m : Meaning) (first : ℕ) (lines : List (List ThreadLine)) (i : ℕ) (t : Thread Meant Line Event)
    → slice_get (ready_from marked_ops m.loads first lines) i ≡ Some t
    → thread_ready marked_ops m.loads (first + i) ≡ held_in t.phase
meaning_ready m first [] i t e = cc
meaning_ready m first (own ∷ lines) zero t e =
    let same : ready (thread_ready marked_ops m.loads first) (numbered_lines 1 own) ≡ t = (let s = e in cc) in
    let number : first + 0 ≡ first = omega arith in
    ap (λ (n : ℕ). thread_ready marked_ops m.loads n) number
    ∙ ap (λ (u : Thread Meant Line Event). held_in u.phase) same
meaning_ready m first (own ∷ lines) (suc i) t e =
    let number : first + suc i ≡ suc first + i = omega arith in
    ap (λ (n : ℕ). thread_ready marked_ops m.loads n) number ∙ meaning_ready m (suc first) lines i t e

pub machine_start : (l : Loads ℕ) (fuel : ℕ) (lines : List (List ThreadLine)) (history : List Event)
    (known : (thread : ℕ) → Known l thread history)
    → AllFit l (λ i. thread_turns l i fuel) (λ i. machine_acts l i) (λ i. machine_asks l i)
    (λ i h k. machine_keeps l i h k fuel) history known (λ i. first_acts l) (job_start plain_operations l lines)
machine_start l fuel lines history known = record {
  low = first_low l 1 history (known 1);
  all = λ i t e.
      let next : suc i ≡ 1 + i = omega arith in
      let is = ap (λ (n : ℕ). thread_ready plain_operations l n) next ∙ machine_ready l 1 lines i t e in (
        subst (λ (h : Runs). FitsBy l (suc i) history (known (suc i)) (first_acts l) h) is
            (machine_first l (suc i) history (known (suc i))),
        subst (λ (h : Runs). IsFront h.after.memory.seen []) is ([], refl),
      );
}

pub meaning_start : (m : Meaning) (fuel : ℕ) (lines : List (List ThreadLine)) (history : List Event)
    (known : (thread : ℕ) → Known m.loads thread history)
    → AllFit m.loads (λ i. meant_turns m i fuel) (λ i. meant_acts m i) (λ i. meant_asks m i)
    (λ i h k. meant_keeps m i h k fuel) history known (λ i. first_acts m.loads) (job_start marked_ops m.loads lines)
meaning_start m fuel lines history known = record {
  low = first_low m.loads 1 history (known 1);
  all = λ i t e.
      let next : suc i ≡ 1 + i = omega arith in
      let is = ap (λ (n : ℕ). thread_ready marked_ops m.loads n) next ∙ meaning_ready m 1 lines i t e in (
        subst (λ (h : Meant). FitsBy m.loads (suc i) history (known (suc i)) (first_acts m.loads) h) is
            (meant_first m (suc i) history (known (suc i))),
        subst (λ (h : Meant). IsFront h.after.memory.seen []) is ([], refl),
      );
}
