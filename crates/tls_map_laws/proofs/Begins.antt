-- A line's first look.
use Rattle.std.proofs.Common.{◌≡◌, ◌∙◌, ◌+◌, ◌++◌, ℕ, Bool, true, false, List, [], ◌∷◌, length, Option, Some, None}
use Rattle.std.proofs.Common.{refl, ap}
use Rattle.std.specs.Prelude.{if◌then◌else◌, nat_le, slice_range}
use Rattle.guest_arithmetic.specs.Values.{Operations}
use Rattle.job_text.specs.declared.thread_lines.Action.{Action}
use Rattle.job_text.specs.declared.thread_lines.Action.TheVariants.{Call, Open, Close, Peek}
use Rattle.loaded_modules.specs.declared.instance.Instance.{Instance}
use Rattle.module_table.specs.declared.events.CloseRefusal.{CloseRefusal}
use Rattle.module_table.specs.declared.events.Event.{Event}
use Rattle.module_table.specs.declared.events.OpenRefusal.{OpenRefusal}
use Rattle.module_table.specs.Modules.{is_loaded}
use Rattle.module_table.specs.Past.{close_refusal, module_of, open_refusal}
use Rattle.transcript_text.specs.declared.outcomes.LineRefusal.TheVariants.{Length as TooLong}
use Rattle.thread_blocks.specs.Held.{Held, block_bytes, loaded, looked, owned_by, reached}
use Rattle.thread_blocks.specs.Instances.{Loads, instance_at, instances, left_by}
use Rattle.thread_blocks.specs.Lines.{Line, begin_line, begun_at, begun_by, begun_close, begun_in, begun_open}
use Rattle.thread_blocks.specs.Lines.{begun_peek, event_at, event_by, refused, shown_from, shown_in, unless_refused}
use Rattle.thread_blocks.specs.Lines.{with_load}
use Rattle.thread_blocks.specs.Turns.{Begun, Says, Calls, Ending, with_event, with_last}
use Rattle.thread_blocks.specs.Turns.{IsFront}
use Rattle.tls_map_laws.specs.Map.{Act}
use Rattle.tls_map_laws.specs.Told.{begin_acts, with_asked, with_look, with_own}
use Rattle.tls_map_laws.proofs.Places.{Member}
use Rattle.tls_map_laws.proofs.Known.{Known}
use Rattle.tls_map_laws.proofs.Keeping.{Fits, load_fits, look_fits, reach_fits}

pub front_of : (seen : List Event) (e : Option Event) (history : List Event) → IsFront (with_event seen e) history
    → IsFront seen history
front_of seen None history f = f
front_of seen (Some e) history f = (e ∷ f.0, f.1 ∙ joined seen e f.0)
  where
    joined : (xs : List Event) (y : Event) (ys : List Event) → (xs ++ y ∷ []) ++ ys ≡ xs ++ y ∷ ys
    joined [] y ys = refl
    joined (x ∷ xs) y ys = ap (λ (more : List Event). x ∷ more) (joined xs y ys)

module _ {W F B : Type 0} (l : Loads B) (thread : ℕ) (history : List Event) (known : Known l thread history) where
  abbrev pub FitsBy : List (Act B) → Held W F B → Type 0
  FitsBy acts h = Fits l thread history known acts h.after.memory.seen h.owners h.after.memory.own

  abbrev pub BegunFits : List (Act B) → Begun (Held W F B) → Type 0
  BegunFits acts (Says ending h) = FitsBy acts h
  BegunFits acts (Calls h) = FitsBy acts h

  pub looked_fits : (acts : List (Act B)) (seen : List Event) (h : Held W F B) → FitsBy acts h
      → IsFront h.after.memory.seen seen → IsFront seen history
      → FitsBy (with_look l seen acts) (looked l thread seen h)
  looked_fits acts seen h fits f g =
      look_fits l thread history known acts h.after.memory.seen seen h.owners h.after.memory.own fits f g

  pub reached_fits : (acts : List (Act B)) (x : Instance) (h : Held W F B) → FitsBy acts h
      → Member x (instances l h.after.memory.seen) → FitsBy (with_asked l (Some x) acts) (reached l thread x h)
  reached_fits acts x h fits m =
      reach_fits l thread history known acts h.after.memory.seen h.owners h.after.memory.own x fits m

  loaded_fits : (acts : List (Act B)) (x : Instance) (h : Held W F B) → FitsBy acts h
      → FitsBy acts (loaded l thread x h)
  loaded_fits acts x h fits =
      load_fits l thread history known acts h.after.memory.seen h.owners h.after.memory.own x fits

-- at: the live instance of an image is one of the live instances
module _ {W F B : Type 0} (ops : Operations W F B) (l : Loads B) (show : List B → Ending) (thread : ℕ)
    (history : List Event) (known : Known l thread history) where
  abbrev Fit : List (Act B) → Held W F B → Type 0
  Fit acts h = FitsBy l thread history known acts h

  abbrev Begin : List (Act B) → Begun (Held W F B) → Type 0
  Begin acts begun = BegunFits l thread history known acts begun

  at_fits : (acts : List (Act B)) (symbol : List ℕ) (a b c : ℕ) (h : Held W F B) (place : Option ℕ) → Fit acts h
      → Begin acts (begun_at ops l show thread symbol a b c h place)
  at_fits acts symbol a b c h None fits = fits
  at_fits acts symbol a b c h (Some place) fits = record {
    rest = fits.rest;
    data_behind = fits.data_behind;
    owners = fits.owners;
    ranges = fits.ranges;
    front = fits.front;
    live = fits.live;
    untouched = fits.untouched;
  }

  in_fits : (acts : List (Act B)) (symbol : List ℕ) (a b c : ℕ) (h : Held W F B) (x : Option Instance) → Fit acts h
      → Begin acts (begun_in ops l show thread symbol a b c h x)
  in_fits acts symbol a b c h None fits = fits
  in_fits acts symbol a b c h (Some x) fits = at_fits acts symbol a b c h (l.function x symbol) fits

  with_load_fits : (acts : List (Act B)) (was : Bool) (x : Option Instance) (h : Held W F B) → Fit acts h
      → Fit acts (with_load ops l show thread was x h)
  with_load_fits acts true x h fits = fits
  with_load_fits acts false None h fits = fits
  with_load_fits acts false (Some x) h fits = loaded_fits l thread history known acts x h fits

  one_more : (seen : List Event) (e : Event) → IsFront seen (with_last seen e)
  one_more seen e = (e ∷ [], refl)

  -- h: the thread after its look
  open_fits : (acts : List (Act B)) (line : Line) (h : Held W F B) (refusal : Option OpenRefusal) → Fit acts h
      → let seen = h.after.memory.seen in
      let own = unless_refused refusal (event_at thread line.number true line.told.image) in
      IsFront (with_event seen own) history
      → Begin (with_own l seen own acts) (begun_open ops l show thread line seen h refusal)
  open_fits acts line h (Some refusal) fits front = fits
  open_fits acts line h None fits front =
      let seen = h.after.memory.seen in
      let e = event_at thread line.number true line.told.image in
      let all = with_last seen e in
      with_load_fits (with_look l all acts) (is_loaded (module_of (left_by l seen) line.told.image))
      (instance_at l all line.told.image) (looked l thread all h)
      (looked_fits l thread history known acts all h fits (one_more seen e) front)

  close_fits : (acts : List (Act B)) (line : Line) (h : Held W F B) (refusal : Option CloseRefusal) → Fit acts h
      → let seen = h.after.memory.seen in
      let own = unless_refused refusal (event_at thread line.number false line.told.image) in
      IsFront (with_event seen own) history
      → Begin (with_own l seen own acts) (begun_close ops l show thread line seen h refusal)
  close_fits acts line h (Some refusal) fits front = fits
  close_fits acts line h None fits front =
      let seen = h.after.memory.seen in
      let e = event_at thread line.number false line.told.image in
      looked_fits l thread history known acts (with_last seen e) h fits (one_more seen e) front

  either_says : (acts : List (Act B)) (b : Bool) (x y : Begun (Held W F B)) → Begin acts x → Begin acts y
      → Begin acts (if b then x else y)
  either_says acts true x y f g = f
  either_says acts false x y f g = g

  shown_in_fits : (acts : List (Act B)) (h : Held W F B) (size offset : ℕ) (bytes : Option (List B)) → Fit acts h
      → Begin acts (shown_in ops l show thread h size offset bytes)
  shown_in_fits acts h size offset None fits = fits
  shown_in_fits acts h size offset (Some bytes) fits =
      either_says acts (nat_le (offset + size) (length bytes))
      (Says (show (slice_range bytes offset (offset + size))) h)
      (refused ops l show thread TooLong h) fits fits

  shown_fits : (acts : List (Act B)) (h : Held W F B) (size : ℕ) (x : Instance) (offset : Option ℕ) → Fit acts h
      → Begin acts (shown_from ops l show thread h size x offset)
  shown_fits acts h size x None fits = fits
  shown_fits acts h size x (Some offset) fits =
      shown_in_fits acts h size offset (block_bytes x.number (owned_by h)) fits

  peek_fits : (acts : List (Act B)) (line : Line) (symbol : List ℕ) (size : ℕ) (h : Held W F B) (x : Option Instance)
      → Fit acts h → ((y : Instance) → x ≡ Some y → Member y (instances l h.after.memory.seen))
      → Begin (with_asked l x acts) (begun_peek ops l show thread line symbol size h x)
  peek_fits acts line symbol size h None fits m = fits
  peek_fits acts line symbol size h (Some x) fits m =
      shown_fits (with_asked l (Some x) acts) (reached l thread x h) size x (l.variable line.told.image symbol)
      (reached_fits l thread history known acts x h fits (m x refl))

  by_fits : (acts : List (Act B)) (number image : ℕ) (action : Action) (seen : List Event) (h : Held W F B)
      → let line : Line = record { number = number; told = record { image = image; action = action } } in
      FitsBy l thread history known (with_look l seen acts) (looked l thread seen h)
      → IsFront (with_event seen (event_by l thread line seen)) history
      → Begin (begin_acts l thread line seen acts)
      (begun_by ops l show thread line seen (looked l thread seen h) action)
  by_fits acts number image (Call symbol a b c) seen h fits front =
      in_fits (with_look l seen acts) symbol a b c (looked l thread seen h) (instance_at l seen image) fits
  by_fits acts number image Open seen h fits front =
      open_fits (with_look l seen acts)
      (record { number = number; told = record { image = image; action = Open } }) (looked l thread seen h)
      (open_refusal (left_by l seen) image) fits front
  by_fits acts number image Close seen h fits front =
      close_fits (with_look l seen acts)
      (record { number = number; told = record { image = image; action = Close } }) (looked l thread seen h)
      (close_refusal (left_by l seen) image) fits front
  by_fits acts number image (Peek symbol size) seen h fits front =
      peek_fits (with_look l seen acts)
      (record { number = number; told = record { image = image; action = Peek symbol size } }) symbol size
      (looked l thread seen h) (instance_at l seen image) fits (λ y e. known.at seen image y e)

  -- the law
  pub begin_fits : (acts : List (Act B)) (line : Line) (seen : List Event) (h : Held W F B) → Fit acts h
      → IsFront h.after.memory.seen seen → IsFront (with_event seen (event_by l thread line seen)) history
      → Begin (begin_acts l thread line seen acts) (begin_line ops l show thread line seen h)
  unfolding begin_line
  begin_fits acts line seen h fits f g =
      by_fits acts line.number line.told.image line.told.action seen h
      (looked_fits l thread history known acts seen h fits f (front_of seen (event_by l thread line seen) history g)) g
