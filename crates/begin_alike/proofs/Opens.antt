-- An open or a close begins alike on both sides, refused or not.
use Rattle.std.proofs.Common.{ℕ, Bool, true, false, List, Option, Some, None, refl, subst, inr}
use Rattle.guest_arithmetic.specs.Plain.{plain_operations}
use Rattle.job_meaning.specs.declared.values.Byte.{Byte}
use Rattle.loaded_modules.specs.declared.instance.Instance.{Instance}
use Rattle.module_table.specs.declared.events.CloseRefusal.{CloseRefusal}
use Rattle.module_table.specs.declared.events.Event.{Event}
use Rattle.module_table.specs.declared.events.OpenRefusal.{OpenRefusal}
use Rattle.module_table.specs.Modules.{is_loaded}
use Rattle.module_table.specs.Past.{Past, close_refusal, module_of, open_refusal}
use Rattle.transcript_text.specs.declared.outcomes.Outcome.TheVariants.{Opened}
use Rattle.thread_blocks.specs.Held.{looked}
use Rattle.thread_blocks.specs.Instances.{Loads, instance_at, left_by}
use Rattle.thread_blocks.specs.Lines.{Line, begun_close, begun_open, event_at, unless_refused, with_load}
use Rattle.thread_blocks.specs.RunTime.{Runs, shows}
use Rattle.thread_blocks.specs.Turns.{Answered, Begun, Ending, Says, with_event, with_last}
use Rattle.thread_blocks.specs.Turns.{IsFront}
use Rattle.whole_meaning.specs.Meanings.{Meaning}
use Rattle.whole_meaning.specs.Threads.{Meant, meant_show, ops}
use Rattle.tied_meaning.specs.Numbers.{Setting}
use Rattle.tied_meaning.specs.Ties.{AreTied}
use Rattle.tied_meaning.specs.Threads.{AtRest}
use Rattle.begin_alike.specs.Begun.{BegunAlike}
use Rattle.begin_alike.proofs.Rests.{instance_same, left_same, look_rests, with_load_rests}
use Rattle.std.specs.Option.{option_map_or}

module _ (g : Setting) (m : Meaning) (q : Loads ℕ) (history : List Event) (thread : ℕ) (tied : AreTied g m q history)
    (line : Line) (seen : List Event) where
  abbrev Rest : Meant → Runs → Type 0
  Rest = AtRest g m q history thread

  abbrev Begins : Begun Meant → Begun Runs → Type 0
  Begins = BegunAlike g m q history thread seen

  abbrev show : List Byte → Ending
  show = meant_show m thread line seen

  abbrev show' : List ℕ → Ending
  show' = shows q thread

  abbrev image : ℕ
  image = line.told.image

  -- with the line's own event
  abbrev after : Bool → List Event
  after opens = with_last seen (event_at thread line.number opens image)

  -- it is seen where the line is not refused
  abbrev OwnIsFront : {R : Type 0} → Bool → Option R → Type 0
  OwnIsFront opens refusal =
      IsFront (with_event seen (unless_refused refusal (event_at thread line.number opens image))) history

  -- ** opens

  -- x: the instance that was opened; was: it was there before
  abbrev OpenedAlike : Meant → Runs → Option Instance → Option Instance → Bool → Bool → Type 0
  OpenedAlike h h' x x' was was' =
      Begins (Says (Answered (Opened (option_map_or (λ (x : Instance). x.number) x 0)))
      (with_load ops m.loads show thread was x h))
      (Says (Answered (Opened (option_map_or (λ (x : Instance). x.number) x' 0)))
      (with_load plain_operations q show' thread was' x' h'))

  opened : (h : Meant) (h' : Runs) → Rest h h' → (x : Option Instance) (was : Bool) → OpenedAlike h h' x x was was
  opened h h' r None was = inr (refl, with_load_rests g m q history thread tied show show' was None h h' r)
  opened h h' r (Some x) was = inr (refl, with_load_rests g m q history thread tied show show' was (Some x) h h' r)

  open_as : (refusal : Option OpenRefusal) → OwnIsFront true refusal → (h : Meant) (h' : Runs) → Rest h h'
      → Begins (begun_open ops m.loads show thread line seen h refusal)
      (begun_open plain_operations q show' thread line seen h' refusal)
  open_as (Some refusal) own h h' r = inr (refl, r)
  open_as None own h h' r =
      let ours : Meant = looked m.loads thread (after true) h in
      let theirs : Runs = looked q thread (after true) h' in
      let x : Option Instance = instance_at m.loads (after true) image in
      let was : Bool = is_loaded (module_of (left_by m.loads seen) image) in
      subst (λ (p : Past). OpenedAlike ours theirs x (instance_at q (after true) image) was
      (is_loaded (module_of p image))) (left_same g m q history thread tied seen)
      (subst (λ (x' : Option Instance). OpenedAlike ours theirs x x' was was)
      (instance_same g m q history thread tied (after true) image)
      (opened ours theirs (look_rests g m q history thread tied (after true) own h h' r) x was))

  pub open_alike : OwnIsFront true (open_refusal (left_by m.loads seen) image) → (h : Meant) (h' : Runs) → Rest h h'
      → Begins (begun_open ops m.loads show thread line seen h (open_refusal (left_by m.loads seen) image))
      (begun_open plain_operations q show' thread line seen h' (open_refusal (left_by q seen) image))
  open_alike own h h' r =
      let refusal : Option OpenRefusal = open_refusal (left_by m.loads seen) image in
      subst (λ (p : Past). Begins (begun_open ops m.loads show thread line seen h refusal)
      (begun_open plain_operations q show' thread line seen h' (open_refusal p image)))
      (left_same g m q history thread tied seen) (open_as refusal own h h' r)

  -- ** closes

  close_as : (refusal : Option CloseRefusal) → OwnIsFront false refusal → (h : Meant) (h' : Runs) → Rest h h'
      → Begins (begun_close ops m.loads show thread line seen h refusal)
      (begun_close plain_operations q show' thread line seen h' refusal)
  close_as (Some refusal) own h h' r = inr (refl, r)
  close_as None own h h' r = inr (refl, look_rests g m q history thread tied (after false) own h h' r)

  pub close_alike : OwnIsFront false (close_refusal (left_by m.loads seen) image) → (h : Meant) (h' : Runs) → Rest h h'
      → Begins (begun_close ops m.loads show thread line seen h (close_refusal (left_by m.loads seen) image))
      (begun_close plain_operations q show' thread line seen h' (close_refusal (left_by q seen) image))
  close_alike own h h' r =
      let refusal : Option CloseRefusal = close_refusal (left_by m.loads seen) image in
      subst (λ (p : Past). Begins (begun_close ops m.loads show thread line seen h refusal)
      (begun_close plain_operations q show' thread line seen h' (close_refusal p image)))
      (left_same g m q history thread tied seen) (close_as refusal own h h' r)
