-- A line's first look leaves data as they were, and an open fills those of what it loads.
use Rattle.std.proofs.Common.{◌≡◌, ◌∙◌, ◌⊎◌, ◌+◌, ◌++◌, ◌==◌, ℕ, Bool, true, false, List, [], Option, Some, None, refl}
use Rattle.std.proofs.Common.{sym, ap, subst, inl, inr}
use Rattle.std.specs.Prelude.{if◌then◌else◌, nat_le, length, slice_range}
use Rattle.std.proofs.lemmas.Bool.{eq-eqb}
use Rattle.guest_arithmetic.specs.Values.{Operations}
use Rattle.job_text.specs.declared.thread_lines.Action.{Action}
use Rattle.job_text.specs.declared.thread_lines.Action.TheVariants.{Call, Open, Close, Peek}
use Rattle.loaded_modules.specs.declared.instance.Instance.{Instance}
use Rattle.module_table.specs.declared.events.CloseRefusal.{CloseRefusal}
use Rattle.module_table.specs.declared.events.Event.{Event}
use Rattle.module_table.specs.declared.events.OpenRefusal.{OpenRefusal}
use Rattle.module_table.specs.Modules.{is_loaded}
use Rattle.module_table.specs.Past.{close_refusal, module_of, open_refusal}
use Rattle.transcript_text.specs.declared.outcomes.LineRefusal.TheVariants.{Length as TooLong}
use Rattle.thread_blocks.specs.Held.{Held, block_bytes, loaded, looked, owned_by, reached}
use Rattle.thread_blocks.specs.Instances.{Loads, instance_at, instances, left_by}
use Rattle.thread_blocks.specs.Lines.{Line, begin_line, begun_at, begun_by, begun_close, begun_in, begun_open}
use Rattle.thread_blocks.specs.Lines.{begun_peek, event_at, event_by, refused, shown_from, shown_in, unless_refused}
use Rattle.thread_blocks.specs.Lines.{with_load}
use Rattle.thread_blocks.specs.Turns.{Begun, Says, Calls, Ending, with_event, with_last}
use Rattle.shared_data.specs.Changes.{Change}
use Rattle.shared_data.specs.Told.{filled_by, filled_unless}
use Rattle.shared_data.proofs.Fits.{HasAll, HasIts, IsLive}
use Rattle.shared_data.proofs.Held.{AreOne, Holds, Numbered, load_holds, look_holds, look_keeps, look_left, reach_holds}
use Rattle.shared_data.proofs.Last.{append_none}
use Rattle.shared_data.proofs.Left.{AreLeft}

-- a thread that has begun or said something, at these events, holds data as they were left
abbrev pub BegunHolds : {W F B : Type 0} → Loads B → ℕ → List Event → List (Change B) → Begun (Held W F B) → Type 0
BegunHolds l thread seen log (Says ending h) = Holds l thread seen log h
BegunHolds l thread seen log (Calls h) = Holds l thread seen log h

-- where a line fills nothing, nothing more is told
pub none_filled : {W F B : Type 0} (l : Loads B) (thread : ℕ) (seen : List Event) (log : List (Change B))
    (begun : Begun (Held W F B)) → BegunHolds l thread seen log begun → BegunHolds l thread seen (log ++ []) begun
none_filled {W} {F} {B} l thread seen log begun =
    subst (λ (cs : List (Change B)). BegunHolds l thread seen cs begun) (sym (append_none log))

-- what is known of the live instances where so many events were seen
pub record AreOwn {B : Type 0} (l : Loads B) (seen : List Event) : Type 0 where
  pub numbers : Numbered l seen
  pub one : (image : ℕ) (x : Instance) → instance_at l seen image ≡ Some x → AreOne x (instances l seen)

-- the instance that an event loads
abbrev pub IsLoadedBy : {B : Type 0} → Loads B → List Event → Option Event → Instance → Type 0
IsLoadedBy l seen None y = ⊥
IsLoadedBy l seen (Some e) y = (e.opens ≡ true) × ((is_loaded (module_of (left_by l seen) e.image) ≡ false)
    × (instance_at l (with_last seen e) e.image ≡ Some y))

-- who is live behind an event was so before, or is loaded by it
abbrev pub Follows : {B : Type 0} → Loads B → List Event → Option Event → Type 0
Follows l seen e = (y : Instance) → IsLive (instances l (with_event seen e)) y
    → IsLive (instances l seen) y ⊎ IsLoadedBy l seen e y

module _ {W F B : Type 0} (ops : Operations W F B) (l : Loads B) (show : List B → Ending) (thread : ℕ) where
  abbrev Has : List Event → List (Change B) → Held W F B → Type 0
  Has seen log h = Holds l thread seen log h

  abbrev Begins : List Event → List (Change B) → Begun (Held W F B) → Type 0
  Begins seen log begun = BegunHolds l thread seen log begun

  quiet : (seen : List Event) (log : List (Change B)) (h : Held W F B) → Has seen log h → Has seen (log ++ []) h
  quiet seen log h = subst (λ (cs : List (Change B)). Has seen cs h) (sym (append_none log))

  at_holds : (seen : List Event) (log : List (Change B)) (symbol : List ℕ) (a b c : ℕ) (h : Held W F B)
      (place : Option ℕ)
      → Has seen log h → Begins seen log (begun_at ops l show thread symbol a b c h place)
  at_holds seen log symbol a b c h None holds = holds
  at_holds seen log symbol a b c h (Some place) holds = holds

  in_holds : (seen : List Event) (log : List (Change B)) (symbol : List ℕ) (a b c : ℕ) (h : Held W F B)
      (x : Option Instance) → Has seen log h → Begins seen log (begun_in ops l show thread symbol a b c h x)
  in_holds seen log symbol a b c h None holds = holds
  in_holds seen log symbol a b c h (Some x) holds = at_holds seen log symbol a b c h (l.function x symbol) holds

  -- ** opens and closes

  -- a look at the history with an event behind it, and the load that follows
  module _ (seen : List Event) (e : Event) (log : List (Change B)) (h : Held W F B) (opens : e.opens ≡ true)
      (own : AreOwn l (with_last seen e)) (follows : Follows l seen (Some e)) (holds : Has seen log h) where
    abbrev all : List Event
    all = with_last seen e

    -- where nothing is loaded, all data are held already
    none_new : ((y : Instance) → IsLoadedBy l seen (Some e) y → ⊥) → Has all log (looked l thread all h)
    none_new none = look_holds l thread log all h own.numbers holds.1.0 (λ y is. was_held y (follows y is))
      where
        was_held : (y : Instance) → IsLive (instances l seen) y ⊎ IsLoadedBy l seen (Some e) y → HasIts l (owned_by h) y
        was_held y (inl was) = holds.1.1.1.all y was
        was_held y (inr new) = absurd (none y new)

    filled_new : (x : Instance) → instance_at l all e.image ≡ Some x
        → Has all (log ++ filled_unless l false (Some x)) (loaded l thread x (looked l thread all h))
    filled_new x at =
        load_holds l thread all log x (looked l thread all h) own.numbers (own.one e.image x at) refl
        (look_left l thread log all h own.numbers holds.1.0).1 (λ y is. ready y is (follows y is))
      where
        ready : (y : Instance) → IsLive (instances l all) y
            → IsLive (instances l seen) y ⊎ IsLoadedBy l seen (Some e) y
            → ((y.number == x.number) ≡ true) ⊎ HasIts l (owned_by (looked l thread all h)) y
        ready y is (inl was) = inr (look_keeps l thread all h y is (holds.1.1.1.all y was))
        ready y is (inr new) =
            let same : x ≡ y = (let both : Some x ≡ Some y = sym at ∙ new.1.1 in let b = both in cc) in
            inl (eq-eqb y.number x.number (ap (λ (z : Instance). z.number) (sym same)))

    with_load_holds : (was : Bool) (x : Option Instance) → is_loaded (module_of (left_by l seen) e.image) ≡ was
        → instance_at l all e.image ≡ x
        → Has all (log ++ filled_unless l was x) (with_load ops l show thread was x (looked l thread all h))
    with_load_holds true x t at =
        quiet all log (looked l thread all h) (none_new (λ y new.
        let both : true ≡ false = sym t ∙ new.1.0 in absurd (let b = both in cc)))
    with_load_holds false None f at =
        quiet all log (looked l thread all h) (none_new (λ y new.
        let both : None ≡ Some y = sym at ∙ new.1.1 in absurd (let b = both in cc)))
    with_load_holds false (Some x) f at = filled_new x at

  open_holds : (log : List (Change B)) (line : Line) (seen : List Event) (h : Held W F B) (refusal : Option OpenRefusal)
      → let e = unless_refused refusal (event_at thread line.number true line.told.image) in
      AreOwn l (with_event seen e) → Follows l seen e → Has seen log h
      → Begins (with_event seen e) (log ++ filled_by l seen e) (begun_open ops l show thread line seen h refusal)
  open_holds log line seen h (Some refusal) own follows holds = quiet seen log h holds
  open_holds log line seen h None own follows holds =
      let e = event_at thread line.number true line.told.image in
      with_load_holds seen e log h refl own follows holds (is_loaded (module_of (left_by l seen) line.told.image))
      (instance_at l (with_last seen e) line.told.image) refl refl

  close_holds : (log : List (Change B)) (line : Line) (seen : List Event) (h : Held W F B)
      (refusal : Option CloseRefusal)
      → let e = unless_refused refusal (event_at thread line.number false line.told.image) in
      AreOwn l (with_event seen e) → Follows l seen e → Has seen log h
      → Begins (with_event seen e) (log ++ filled_by l seen e) (begun_close ops l show thread line seen h refusal)
  close_holds log line seen h (Some refusal) own follows holds = quiet seen log h holds
  close_holds log line seen h None own follows holds =
      let all = with_last seen (event_at thread line.number false line.told.image) in
      quiet all log (looked l thread all h)
      (look_holds l thread log all h own.numbers holds.1.0 (λ y is. was_held y (follows y is)))
    where
      was_held : (y : Instance) → IsLive (instances l seen) y
          ⊎ IsLoadedBy l seen (Some (event_at thread line.number false line.told.image)) y → HasIts l (owned_by h) y
      was_held y (inl was) = holds.1.1.1.all y was
      was_held y (inr new) = absurd (let f : false ≡ true = new.0 in cc)

  -- ** peeks

  either_says : (seen : List Event) (log : List (Change B)) (b : Bool) (x y : Begun (Held W F B)) → Begins seen log x
      → Begins seen log y → Begins seen log (if b then x else y)
  either_says seen log true x y f g = f
  either_says seen log false x y f g = g

  shown_in_holds : (seen : List Event) (log : List (Change B)) (h : Held W F B) (size offset : ℕ)
      (bytes : Option (List B))
      → Has seen log h → Begins seen log (shown_in ops l show thread h size offset bytes)
  shown_in_holds seen log h size offset None holds = holds
  shown_in_holds seen log h size offset (Some bytes) holds =
      either_says seen log (nat_le (offset + size) (length bytes))
      (Says (show (slice_range bytes offset (offset + size))) h) (refused ops l show thread TooLong h) holds holds

  shown_holds : (seen : List Event) (log : List (Change B)) (h : Held W F B) (size : ℕ) (x : Instance)
      (offset : Option ℕ)
      → Has seen log h → Begins seen log (shown_from ops l show thread h size x offset)
  shown_holds seen log h size x None holds = holds
  shown_holds seen log h size x (Some offset) holds =
      shown_in_holds seen log h size offset (block_bytes x.number (owned_by h)) holds

  peek_holds : (log : List (Change B)) (line : Line) (symbol : List ℕ) (size : ℕ) (seen : List Event) (h : Held W F B)
      (x : Option Instance) → Numbered l seen → Has seen log h
      → Begins seen log (begun_peek ops l show thread line symbol size h x)
  peek_holds log line symbol size seen h None own holds = holds
  peek_holds log line symbol size seen h (Some x) own holds =
      shown_holds seen log (reached l thread x h) size x (l.variable line.told.image symbol)
      (reach_holds l thread seen log x h own holds)

  -- ** lines

  by_holds : (log : List (Change B)) (number image : ℕ) (action : Action) (seen : List Event) (h : Held W F B)
      → let line : Line = record { number = number; told = record { image = image; action = action } } in
      let e = event_by l thread line seen in
      Numbered l seen → AreOwn l (with_event seen e) → Follows l seen e → Has seen log h
      → Begins (with_event seen e) (log ++ filled_by l seen e) (begun_by ops l show thread line seen h action)
  by_holds log number image (Call symbol a b c) seen h own next follows holds =
      none_filled l thread seen log _ (in_holds seen log symbol a b c h (instance_at l seen image) holds)
  by_holds log number image Open seen h own next follows holds =
      open_holds log (record { number = number; told = record { image = image; action = Open } }) seen h
      (open_refusal (left_by l seen) image) next follows holds
  by_holds log number image Close seen h own next follows holds =
      close_holds log (record { number = number; told = record { image = image; action = Close } }) seen h
      (close_refusal (left_by l seen) image) next follows holds
  by_holds log number image (Peek symbol size) seen h own next follows holds =
      none_filled l thread seen log _ (peek_holds log
      (record { number = number; told = record { image = image; action = Peek symbol size } })
      symbol size seen h (instance_at l seen image) own holds)

  -- the law: a line's first look, at these events and its own
  pub begin_holds : (log : List (Change B)) (line : Line) (seen : List Event) (h : Held W F B)
      → let e = event_by l thread line seen in
      AreOwn l seen → AreOwn l (with_event seen e) → Follows l seen e → AreLeft log (owned_by h)
      → HasAll l (instances l seen) (owned_by h)
      → Begins (with_event seen e) (log ++ filled_by l seen e) (begin_line ops l show thread line seen h)
  unfolding begin_line
  begin_holds log line seen h own next follows left all =
      by_holds log line.number line.told.image line.told.action seen (looked l thread seen h) own.numbers next follows
      (look_holds l thread log seen h own.numbers left all)
