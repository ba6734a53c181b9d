-- All turns of a job leave the shared data as their changes say.
use Rattle.std.proofs.Common.{◌≡◌, ◌∙◌, ◌++◌, ℕ, zero, suc, Bool, true, false, not, List, [], ◌∷◌, Option, Some, None}
use Rattle.std.proofs.Common.{if◌then◌else◌, refl, sym, ap, subst}
use Rattle.std.specs.Prelude.{option_map}
use Rattle.std.specs.List.{filter}
use Rattle.guest_machine.specs.Run.{run}
use Rattle.guest_machine.specs.RunLaws.{state_after}
use Rattle.loaded_modules.specs.declared.instance.Instance.{Instance}
use Rattle.module_table.specs.declared.events.Event.{Event}
use Rattle.module_table.specs.Past.{IsLegal}
use Rattle.thread_blocks.specs.Held.{Held, Owned, is_block, owned_by}
use Rattle.thread_blocks.specs.Instances.{Loads, instances}
use Rattle.thread_blocks.specs.JobWorlds.{Shared, blocks_in, changed, data_in, held_in, shared_order, shared_turn}
use Rattle.thread_blocks.specs.JobWorlds.{with_data, without_data}
use Rattle.thread_blocks.specs.Lines.{Line, event_by}
use Rattle.thread_blocks.specs.Turns.{Phase, Idle, Mid, Said, Thread, Turns, at_number, event_of, turn, with_event}
use Rattle.thread_blocks.specs.Turns.{with_number}
use Rattle.shared_data.specs.Changes.{Change}
use Rattle.shared_data.specs.Told.{begins, filled_by, order_told, run_told, steps_of, steps_told, turn_filled}
use Rattle.shared_data.specs.Told.{turn_told}
use Rattle.shared_data.proofs.Fits.{HasAll, IsBlock, among_data, past_blocks}
use Rattle.shared_data.proofs.Held.{Holds, blocks_left, with_owned_by}
use Rattle.shared_data.proofs.Last.{append_append, append_none}
use Rattle.shared_data.proofs.Left.{AreLeft, Each, IsLeft, each_append}
use Rattle.shared_data.proofs.Legal.{legal_turn}
use Rattle.shared_data.proofs.Turns.{TellAll, begins_hold, run_holds, turn_holds}

-- ** lists

module _ {X : Type 0} (P : X → Type 0) where
  each_got : (xs : List X) (i : ℕ) (x : X) → at_number xs i ≡ Some x → Each P xs → P x
  each_got [] zero x e each = cc
  each_got [] (suc i) x e each = cc
  each_got (y ∷ xs) zero x e each = cc
  each_got (y ∷ xs) (suc zero) x e each = let same : y ≡ x = let s = e in cc in subst P same each.0
  each_got (y ∷ xs) (suc (suc i)) x e each = each_got xs (suc i) x e each.1

  each_put : (xs : List X) (i : ℕ) (x : X) → P x → Each P xs → Each P (with_number xs i x)
  each_put xs zero x p each = each
  each_put [] (suc i) x p each = tt
  each_put (y ∷ xs) (suc zero) x p each = (p, each.1)
  each_put (y ∷ xs) (suc (suc i)) x p each = (each.0, each_put xs (suc i) x p each.1)

  each_filter : (p : X → Bool) (xs : List X) → Each P xs → Each P (filter p xs)
  each_filter p [] each = tt
  each_filter p (x ∷ xs) each = either (p x) (each_filter p xs each.1)
    where
      either : (b : Bool) → Each P (filter p xs) → Each P (if b then x ∷ filter p xs else filter p xs)
      either true rest = (each.0, rest)
      either false rest = rest

filter_each : {X : Type 0} (p : X → Bool) (xs : List X) → Each (λ (x : X). p x ≡ true) (filter p xs)
filter_each p [] = tt
filter_each p (x ∷ xs) = either (p x) refl (filter_each p xs)
  where
    either : (b : Bool) → p x ≡ b → Each (λ x. p x ≡ true) (filter p xs)
        → Each (λ x. p x ≡ true) (if b then x ∷ filter p xs else filter p xs)
    either true e rest = (e, rest)
    either false e rest = rest

-- data alone are all that is there of them
given_all : {B : Type 0} (l : Loads B) (live : List Instance) (xs : List (Owned B)) → HasAll l live xs
    → HasAll l live (data_in xs)
given_all {B} l live xs all y is range e =
    let its = all y is range e in
    let found = among_data y.number xs in
    (its.0, (ap (λ (o : Option (Owned B)). option_map (λ (x : Owned B). x.range.bytes) o) found ∙ its.1.0, its.1.1))

module _ {W F B : Type 0} where
  pub held_changed : (f : Held W F B → Held W F B) (phase : Phase (Held W F B))
      → held_in (changed f phase) ≡ f (held_in phase)
  held_changed f (Idle h) = refl
  held_changed f (Mid steps points h) = refl

  -- between its turns a thread holds blocks
  abbrev pub HoldsBlocks : Thread (Held W F B) Line Event → Type 0
  HoldsBlocks t = Each IsBlock (owned_by (held_in t.phase))

  taken_left : (log : List (Change B)) (xs : List (Owned B)) (t : Thread (Held W F B) Line Event) → HoldsBlocks t
      → AreLeft log xs
      → AreLeft log (owned_by (held_in (with_data xs t).phase))
  taken_left log xs t blocks left =
      let held = owned_by (held_in t.phase) in
      subst (AreLeft log) (sym (ap (λ (h : Held W F B). owned_by h) (held_changed _ t.phase)
      ∙ with_owned_by (held_in t.phase) (held ++ xs)))
      (each_append (IsLeft log) held xs (blocks_left log held blocks) left)

  -- a thread that got the data holds all that there are
  taken_all : (l : Loads B) (live : List Instance) (xs : List (Owned B)) (t : Thread (Held W F B) Line Event)
      → HoldsBlocks t → HasAll l live xs → HasAll l live (owned_by (held_in (with_data xs t).phase))
  taken_all l live xs t blocks all =
      let held = owned_by (held_in t.phase) in
      subst (HasAll l live) (sym (ap (λ (h : Held W F B). owned_by h) (held_changed _ t.phase)
      ∙ with_owned_by (held_in t.phase) (held ++ xs)))
      (λ y is range e.
      let its = all y is range e in
      let found = past_blocks y.number held xs blocks in
      (its.0, (ap (λ (o : Option (Owned B)). option_map (λ (x : Owned B). x.range.bytes) o) found ∙ its.1.0, its.1.1)))

  put_blocks : (t : Thread (Held W F B) Line Event) → HoldsBlocks (without_data t)
  put_blocks t =
      let held = owned_by (held_in t.phase) in
      subst (Each IsBlock) (sym (ap (λ (h : Held W F B). owned_by h) (held_changed _ t.phase)
      ∙ with_owned_by (held_in t.phase) (blocks_in held)))
      (filter_each (λ (o : Owned B). is_block o.owner.kind) held)

  -- a job whose data are all there, as they were left
  pub record WorldHolds (l : Loads B) (log : List (Change B)) (w : Shared W F B Line) : Type 0 where
    pub legal : IsLegal l.infos l.last_offset w.events
    pub left : AreLeft log w.shared
    pub all : HasAll l (instances l w.events) w.shared
    pub blocks : Each HoldsBlocks w.threads

module _ {W F B : Type 0} (l : Loads B) (x : ℕ → Turns (Held W F B) Line Event)
    (changes : ℕ → Held W F B → List (Change B)) (tell : (i : ℕ) → TellAll l i (x i) (changes i)) where
  abbrev event : ℕ → Line → List Event → Option Event
  event i = event_by l i

  -- the event is that of the thread, with the data in its hands or without
  pub same_event : (i : ℕ) (xs : List (Owned B)) (seen : List Event) (todo : List Line) (phase : Phase (Held W F B))
      (said : List Said) (old : List Event)
      → let t : Thread (Held W F B) Line Event = record { todo = todo; phase = phase; said = said; seen = old } in
      event_of (event i) (with_data xs t) seen ≡ event_of (event i) t seen
  same_event i xs seen [] phase said old = refl
  same_event i xs seen (line ∷ todo) (Idle h) said old = refl
  same_event i xs seen (line ∷ todo) (Mid steps points h) said old = refl

  world_turn : (log : List (Change B)) (i : ℕ) (w : Shared W F B Line) (t : Option (Thread (Held W F B) Line Event))
      → at_number w.threads i ≡ t → WorldHolds l log w
      → WorldHolds l (log ++ turn_told l x event changes w i t) (shared_turn x event w i t)
  world_turn log i w None at holds = subst (λ (cs : List (Change B)). WorldHolds l cs w) (sym (append_none log)) holds
  world_turn log i w (Some t) at holds =
      let mine = each_got HoldsBlocks w.threads i t at holds.blocks in
      let t' = with_data w.shared t in
      let after = turn (x i) t' w.events in
      let left = turn_holds l i (x i) (changes i) (tell i) log t' w.events holds.legal
      (taken_left log w.shared t mine holds.left) (taken_all l (instances l w.events) w.shared t mine holds.all) in
      let told = steps_told (x i).steps (changes i) (steps_of (x i) t'.todo t'.phase w.events) in
      let same = same_event i w.shared w.events t.todo t.phase t.said t.seen in
      record {
        legal = legal_turn l i t w.events holds.legal;
        left = each_filter (IsLeft (log ++ (turn_filled l x event changes w i t ++ told)))
            (λ (o : Owned B). not (is_block o.owner.kind)) (owned_by (held_in after.phase))
            (subst (λ (e : Option Event). AreLeft (log ++ (filled_by l w.events e ++ told))
            (owned_by (held_in after.phase)))
            same left.0);
        all =
            given_all l (instances l (with_event w.events (event_of (event i) t w.events)))
            (owned_by (held_in after.phase))
            (subst (λ (e : Option Event). HasAll l (instances l (with_event w.events e))
            (owned_by (held_in after.phase)))
            same left.1);
        blocks = each_put HoldsBlocks w.threads i (without_data after) (put_blocks after) holds.blocks;
      }

  -- the law of orders
  pub world_order : (order : List ℕ) (log : List (Change B)) (w : Shared W F B Line) → WorldHolds l log w
      → WorldHolds l (log ++ order_told l x event changes order w) (shared_order x event order w)
  world_order [] log w holds = subst (λ (cs : List (Change B)). WorldHolds l cs w) (sym (append_none log)) holds
  world_order (i ∷ order) log w holds =
      let t = at_number w.threads i in
      let next = shared_turn x event w i t in
      subst (λ (cs : List (Change B)). WorldHolds l cs (shared_order x event order next))
      (append_append log (turn_told l x event changes w i t) (order_told l x event changes order next))
      (world_order order (log ++ turn_told l x event changes w i t) next (world_turn log i w t refl holds))

  -- the events at a thread's next turn, with its own
  abbrev pub own_events : Shared W F B Line → ℕ → Thread (Held W F B) Line Event → List Event
  own_events w i t = with_event w.events (event_of (event i) t w.events)

  -- in the midst of a turn
  pub world_within : (log : List (Change B)) (w : Shared W F B Line) (i : ℕ) (t : Thread (Held W F B) Line Event)
      (from : ℕ × Held W F B) (n : ℕ) → WorldHolds l log w → at_number w.threads i ≡ Some t
      → begins l x event changes w i t ≡ Some from
      → Holds l i (own_events w i t)
      (log ++ (turn_filled l x event changes w i t ++ run_told (x i).steps (changes i) n from.1))
      (state_after (run (x i).steps n from.1))
  world_within log w i t from n holds at e =
      let mine = each_got HoldsBlocks w.threads i t at holds.blocks in
      let t' = with_data w.shared t in
      let begun = begins_hold l i (x i) (changes i) (tell i) log t' w.events from holds.legal
      (taken_left log w.shared t mine holds.left) (taken_all l (instances l w.events) w.shared t mine holds.all) e in
      let here : Holds l i (own_events w i t) (log ++ turn_filled l x event changes w i t) from.1 =
      subst (λ (o : Option Event). Holds l i (with_event w.events o) (log ++ filled_by l w.events o) from.1)
      (same_event i w.shared w.events t.todo t.phase t.said t.seen) begun in
      subst (λ (cs : List (Change B)). Holds l i (own_events w i t) cs (state_after (run (x i).steps n from.1)))
      (append_append log (turn_filled l x event changes w i t) (run_told (x i).steps (changes i) n from.1))
      (run_holds l i (x i) (changes i) (tell i) (own_events w i t) n
      (log ++ turn_filled l x event changes w i t) from.1 here)

  -- and its events are legal
  pub legal_within : (log : List (Change B)) (w : Shared W F B Line) (i : ℕ) (t : Thread (Held W F B) Line Event)
      → WorldHolds l log w → IsLegal l.infos l.last_offset (own_events w i t)
  legal_within log w i t holds = legal_turn l i t w.events holds.legal
