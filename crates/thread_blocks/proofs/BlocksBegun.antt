-- Where no image has data, a line begins with blocks alone.
use Rattle.std.proofs.Common.{◌≡◌, ◌+◌, Bool, true, false, ℕ, List, Option, Some, None}
use Rattle.std.specs.Prelude.{if◌then◌else◌, length, nat_le, slice_range}
use Rattle.guest_arithmetic.specs.Values.{Operations}
use Rattle.job_text.specs.declared.thread_lines.Action.{Action}
use Rattle.job_text.specs.declared.thread_lines.Action.TheVariants.{Call, Open, Close, Peek}
use Rattle.loaded_modules.specs.declared.instance.Instance.{Instance}
use Rattle.module_table.specs.declared.events.CloseRefusal.{CloseRefusal}
use Rattle.module_table.specs.declared.events.Event.{Event}
use Rattle.module_table.specs.declared.events.OpenRefusal.{OpenRefusal}
use Rattle.module_table.specs.Modules.{is_loaded}
use Rattle.module_table.specs.Past.{close_refusal, module_of, open_refusal}
use Rattle.thread_blocks.specs.Held.{Held, block_bytes, looked, owned_by, reached}
use Rattle.thread_blocks.specs.Instances.{Loads, instance_at, left_by}
use Rattle.thread_blocks.specs.Lines.{Line, begin_line, begun_at, begun_by, begun_close, begun_in, begun_open}
use Rattle.thread_blocks.specs.Lines.{begun_peek, event_at, refused, shown_from, shown_in, with_load}
use Rattle.thread_blocks.specs.Turns.{Begun, Says, Calls, Ending, with_last}
use Rattle.transcript_text.specs.declared.outcomes.LineRefusal.TheVariants.{Length as TooLong}
use Rattle.thread_blocks.proofs.Blocks.{HoldsBlocks, load_holds, look_holds, reach_holds}

abbrev pub BegunHolds : {W F B : Type 0} → Begun (Held W F B) → Type 0
BegunHolds (Says ending h) = HoldsBlocks h
BegunHolds (Calls h) = HoldsBlocks h

pub either_begins : {W F B : Type 0} (b : Bool) (x y : Begun (Held W F B)) → BegunHolds x → BegunHolds y
    → BegunHolds (if b then x else y)
either_begins true x y f g = f
either_begins false x y f g = g

module _ {W F B : Type 0} (ops : Operations W F B) (l : Loads B) (none : (x : Instance) → l.shared x ≡ None)
    (show : List B → Ending) (thread : ℕ) where
  abbrev Ours : Type 0
  Ours = Held W F B

  -- ** calls

  at_holds : (symbol : List ℕ) (a b c : ℕ) (h : Ours) (place : Option ℕ) → HoldsBlocks h
      → BegunHolds (begun_at ops l show thread symbol a b c h place)
  at_holds symbol a b c h None holds = holds
  at_holds symbol a b c h (Some place) holds = holds

  in_holds : (symbol : List ℕ) (a b c : ℕ) (h : Ours) (x : Option Instance) → HoldsBlocks h
      → BegunHolds (begun_in ops l show thread symbol a b c h x)
  in_holds symbol a b c h None holds = holds
  in_holds symbol a b c h (Some x) holds = at_holds symbol a b c h (l.function x symbol) holds

  -- ** opens and closes

  with_load_holds : (was : Bool) (x : Option Instance) (h : Ours) → HoldsBlocks h
      → HoldsBlocks (with_load ops l show thread was x h)
  with_load_holds true x h holds = holds
  with_load_holds false None h holds = holds
  with_load_holds false (Some x) h holds = load_holds l none thread x h

  open_holds : (line : Line) (seen : List Event) (h : Ours) (refusal : Option OpenRefusal) → HoldsBlocks h
      → BegunHolds (begun_open ops l show thread line seen h refusal)
  open_holds line seen h (Some refusal) holds = holds
  open_holds line seen h None holds =
      let all = with_last seen (event_at thread line.number true line.told.image) in
      with_load_holds (is_loaded (module_of (left_by l seen) line.told.image)) (instance_at l all line.told.image)
      (looked l thread all h) (look_holds l none thread all h)

  close_holds : (line : Line) (seen : List Event) (h : Ours) (refusal : Option CloseRefusal) → HoldsBlocks h
      → BegunHolds (begun_close ops l show thread line seen h refusal)
  close_holds line seen h (Some refusal) holds = holds
  close_holds line seen h None holds = look_holds l none thread _ h

  -- ** bytes that are shown

  shown_in_holds : (h : Ours) (size offset : ℕ) (bytes : Option (List B)) → HoldsBlocks h
      → BegunHolds (shown_in ops l show thread h size offset bytes)
  shown_in_holds h size offset None holds = holds
  shown_in_holds h size offset (Some bytes) holds =
      either_begins (nat_le (offset + size) (length bytes)) (Says (show (slice_range bytes offset (offset + size))) h)
      (refused ops l show thread TooLong h) holds holds

  shown_holds : (h : Ours) (size : ℕ) (x : Instance) (offset : Option ℕ) → HoldsBlocks h
      → BegunHolds (shown_from ops l show thread h size x offset)
  shown_holds h size x None holds = holds
  shown_holds h size x (Some offset) holds = shown_in_holds h size offset (block_bytes x.number (owned_by h)) holds

  peek_holds : (line : Line) (symbol : List ℕ) (size : ℕ) (h : Ours) (x : Option Instance) → HoldsBlocks h
      → BegunHolds (begun_peek ops l show thread line symbol size h x)
  peek_holds line symbol size h None holds = holds
  peek_holds line symbol size h (Some x) holds =
      shown_holds (reached l thread x h) size x (l.variable line.told.image symbol) (reach_holds l none thread x h)

  -- ** lines of all kinds

  by_holds : (line : Line) (seen : List Event) (h : Ours) (action : Action) → HoldsBlocks h
      → BegunHolds (begun_by ops l show thread line seen h action)
  by_holds line seen h (Call symbol a b c) holds = in_holds symbol a b c h (instance_at l seen line.told.image) holds
  by_holds line seen h Open holds = open_holds line seen h (open_refusal (left_by l seen) line.told.image) holds
  by_holds line seen h Close holds = close_holds line seen h (close_refusal (left_by l seen) line.told.image) holds
  by_holds line seen h (Peek symbol size) holds =
      peek_holds line symbol size h (instance_at l seen line.told.image) holds

  pub begin_holds : (line : Line) (seen : List Event) (h : Ours)
      → BegunHolds (begin_line ops l show thread line seen h)
  unfolding begin_line
  begin_holds line seen h =
      by_holds line seen (looked l thread seen h) line.told.action (look_holds l none thread seen h)
