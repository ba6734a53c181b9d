-- A line of each kind begins alike on both sides, and adds the same event.
use Rattle.std.proofs.Common.{◌≡◌, ℕ, true, false, List, Option, refl, sym, ap, subst}
use Rattle.guest_arithmetic.specs.Plain.{plain_operations}
use Rattle.job_meaning.specs.declared.values.Byte.{Byte}
use Rattle.job_text.specs.declared.thread_lines.Action.{Action}
use Rattle.job_text.specs.declared.thread_lines.Action.TheVariants.{Call, Open, Close, Peek}
use Rattle.loaded_modules.specs.declared.instance.Instance.{Instance}
use Rattle.module_table.specs.declared.events.Event.{Event}
use Rattle.module_table.specs.Past.{Past, close_refusal, open_refusal}
use Rattle.thread_blocks.specs.Held.{looked}
use Rattle.thread_blocks.specs.Instances.{Loads, instance_at}
use Rattle.thread_blocks.specs.Lines.{Line, begin_line, begun_by, begun_in, event_at, event_by, unless_refused}
use Rattle.thread_blocks.specs.RunTime.{Runs, shows}
use Rattle.thread_blocks.specs.Turns.{Begun, Ending, with_event}
use Rattle.thread_blocks.specs.Turns.{IsFront}
use Rattle.whole_meaning.specs.Meanings.{Meaning}
use Rattle.whole_meaning.specs.Threads.{Meant, begin_meant, meant_show, ops}
use Rattle.tied_meaning.specs.Numbers.{Setting}
use Rattle.tied_meaning.specs.Ties.{AreTied}
use Rattle.tied_meaning.specs.Threads.{AtRest}
use Rattle.begin_alike.specs.Begun.{BegunAlike}
use Rattle.begin_alike.specs.Laws.{EventsAreOne, LinesBeginAlike}
use Rattle.begin_alike.proofs.Calls.{in_alike}
use Rattle.begin_alike.proofs.Live.{tied_there}
use Rattle.begin_alike.proofs.Opens.{close_alike, open_alike}
use Rattle.begin_alike.proofs.Rests.{instance_same, left_same, look_rests}
use Rattle.begin_alike.proofs.Shown.{peek_alike}

module _ (g : Setting) (m : Meaning) (q : Loads ℕ) (history : List Event) (thread : ℕ)
    (tied : AreTied g m q history) where
  abbrev Rest : Meant → Runs → Type 0
  Rest = AtRest g m q history thread

  abbrev Begins : List Event → Begun Meant → Begun Runs → Type 0
  Begins = BegunAlike g m q history thread

  abbrev line_of : ℕ → ℕ → Action → Line
  line_of number image action = record { number = number; told = record { image = image; action = action } }

  -- ** calls

  module _ (line : Line) (seen : List Event) (front : IsFront seen history) where
    abbrev show : List Byte → Ending
    show = meant_show m thread line seen

    abbrev show' : List ℕ → Ending
    show' = shows q thread

    call_alike : (symbol : List ℕ) (a b c : ℕ) (h : Meant) (h' : Runs) → Rest h h'
        → Begins seen (begun_in ops m.loads show thread symbol a b c h (instance_at m.loads seen line.told.image))
        (begun_in plain_operations q show' thread symbol a b c h' (instance_at q seen line.told.image))
    call_alike symbol a b c h h' r =
        let there : Option Instance = instance_at q seen line.told.image in
        subst (λ (o : Option Instance). Begins seen (begun_in ops m.loads show thread symbol a b c h o)
        (begun_in plain_operations q show' thread symbol a b c h' there))
        (sym (instance_same g m q history thread tied seen line.told.image))
        (in_alike g m q history thread tied show show' symbol a b c seen h h' r there
        (λ x e. (tied_there g m q history tied seen front line.told.image x e).function symbol))

  -- ** lines of all kinds

  by_alike : (number image : ℕ) (action : Action) (seen : List Event) → IsFront seen history
      → IsFront (with_event seen (event_by m.loads thread (line_of number image action) seen)) history
      → (h : Meant) (h' : Runs) → Rest h h'
      → Begins seen (begun_by ops m.loads (meant_show m thread (line_of number image action) seen) thread
      (line_of number image action) seen h action)
      (begun_by plain_operations q (shows q thread) thread (line_of number image action) seen h' action)
  by_alike number image (Call symbol a b c) seen front own h h' r =
      call_alike (line_of number image (Call symbol a b c)) seen front symbol a b c h h' r
  by_alike number image Open seen front own h h' r =
      open_alike g m q history thread tied (line_of number image Open) seen own h h' r
  by_alike number image Close seen front own h h' r =
      close_alike g m q history thread tied (line_of number image Close) seen own h h' r
  by_alike number image (Peek symbol size) seen front own h h' r =
      peek_alike g m q history thread tied (line_of number image (Peek symbol size)) seen symbol size h h' r

  pub begin_alike : (seen : List Event) (line : Line) → IsFront seen history
      → IsFront (with_event seen (event_by m.loads thread line seen)) history → (h : Meant) (h' : Runs) → Rest h h'
      → Begins seen (begin_meant m thread line seen h)
      (begin_line plain_operations q (shows q thread) thread line seen h')
  unfolding begin_meant begin_line
  begin_alike seen line front own h h' r =
      by_alike line.number line.told.image line.told.action seen front own (looked m.loads thread seen h)
      (looked q thread seen h') (look_rests g m q history thread tied seen front h h' r)

  -- ** events

  pub event_same : (line : Line) (seen : List Event) → event_by q thread line seen ≡ event_by m.loads thread line seen
  event_same line seen = of_action line.number line.told.image line.told.action
    where
      of_action : (number image : ℕ) (action : Action) → event_by q thread (line_of number image action) seen
          ≡ event_by m.loads thread (line_of number image action) seen
      of_action number image (Call symbol a b c) = refl
      of_action number image Open =
          ap (λ (p : Past). unless_refused (open_refusal p image) (event_at thread number true image))
          (sym (left_same g m q history thread tied seen))
      of_action number image Close =
          ap (λ (p : Past). unless_refused (close_refusal p image) (event_at thread number false image))
          (sym (left_same g m q history thread tied seen))
      of_action number image (Peek symbol size) = refl

-- ** the laws

pub events_one : EventsAreOne
events_one g m q history tied thread line seen = event_same g m q history thread tied line seen

pub lines_begin : LinesBeginAlike
lines_begin g m q history tied thread = begin_alike g m q history thread tied
