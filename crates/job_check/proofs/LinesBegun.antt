-- What the first look of a line comes to: of any line by its parts, and of lines that call or show bytes.
use Rattle.std.proofs.Common.{◌≡◌, ◌∙◌, ◌+◌, ◌-◌, ◌<◌, ◌%◌, ◌^◌, ℕ, Bool, true, false, List, [], Option, Some, None}
use Rattle.std.proofs.Common.{length, refl, sym, ap, subst, arith}
use Rattle.std.specs.Prelude.{nat_le, slice_range}
use Rattle.address_map.specs.Map.{pointer_of, stack_end}
use Rattle.guest_operands.specs.declared.state.State.{State}
use Rattle.guest_operands.specs.State.{start_of}
use Rattle.job_meaning.specs.declared.values.Byte.{Byte}
use Rattle.job_meaning.specs.declared.values.Flag.{Flag}
use Rattle.job_meaning.specs.declared.values.Word.{Word}
use Rattle.job_meaning.specs.declared.values.Word.TheVariants.{Number}
use Rattle.job_meaning.specs.Marked.{marked_operations, values_of}
use Rattle.job_text.specs.declared.thread_lines.Action.TheVariants.{Call, Peek}
use Rattle.link_needs.specs.Linking.{Linking}
use Rattle.loaded_modules.specs.declared.instance.Instance.{Instance}
use Rattle.module_table.specs.declared.events.Event.{Event}
use Rattle.module_table.specs.Past.{Past, module_of}
use Rattle.transcript_text.specs.declared.outcomes.LineRefusal.TheVariants.{NotOpen as IsClosed, Symbol as NoSymbol}
use Rattle.transcript_text.specs.declared.outcomes.Outcome.{Outcome}
use Rattle.transcript_text.specs.declared.outcomes.Outcome.TheVariants.{Refused}
use Rattle.thread_blocks.specs.Held.{block_bytes}
use Rattle.thread_blocks.specs.Instances.{block_start, instance_at, instances_in, loaded_instance}
use Rattle.thread_blocks.specs.Lines.{Line, begun_at, begun_by, begun_in, begun_peek, event_by, shown_from, shown_in}
use Rattle.thread_blocks.specs.MachineTurns.{call_start, fresh_stack}
use Rattle.thread_blocks.specs.Turns.{Answered, Begun, Says as SaysSo, with_event}
use Rattle.whole_meaning.specs.declared.unclean.UncleanStep.{UncleanStep}
use Rattle.whole_meaning.specs.Jobs.{unclean_ending}
use Rattle.whole_meaning.specs.Loads.{loads_of, meaning_of}
use Rattle.whole_meaning.specs.Threads.{Meant, ops, shown_as, shown_at, variable_start}
use Rattle.job_check.specs.Lines.{Begins, BeginsCall, BeginsPeek, BegunAs, HasLeft, KeepsThread, Started, Starts}
use Rattle.job_check.specs.Lines.{peek_line, shown_step, shows, step_in}
use Rattle.thread_turns.specs.declared.parts.Started.TheVariants.{Says, Calls}
use Rattle.marked_memory.specs.declared.space.Wanted.TheVariants.{BlockOf}
use Rattle.job_check.specs.Histories.{infos_of}
use Rattle.marked_memory.specs.Kept.{HasSeen, Kept, held_at}
use Rattle.marked_memory.specs.Spaces.{with_held}
use Rattle.job_check.proofs.Histories.{left_with}
use Rattle.job_check.proofs.Looks.{found_at, live_is, reach_is}
use Rattle.job_check.proofs.OwnedApart.{owned_again}

-- ** whole lines

module _ (line : Line) (p p' : Past) (old new : Kept) (started : Started) (event : Option Event)
    (begun : List Event → Meant → Begun Meant) (begins : Begins line.number event begun p old started p' new) where
  left_then : (seen : List Event) → HasLeft old seen p → HasLeft new (with_event seen event) p'
  left_then seen left =
      subst (λ ls. HasLeft (record new { images = ls }) (with_event seen event) p') (sym begins.keeps.images)
      (left_with (loads_of old.images) p p' seen event left begins.past)

  seen_then : (seen : List Event) → HasLeft old seen p → HasSeen new (with_event seen event)
  seen_then seen left =
      live_is new.images p' (with_event seen event) (left_then seen left)
      ∙ ap (λ ls. instances_in (infos_of ls) p') begins.keeps.images ∙ sym begins.live

  pub starts_so : ((seen : List Event) → HasLeft old seen p
      → event_by (loads_of old.images) old.thread line seen ≡ event)
      → ((seen : List Event) (h : Meant) → HasLeft old seen p
      → begun_by ops (loads_of old.images) (shows line old seen) old.thread line seen h line.told.action ≡ begun seen h)
      → Starts line p old started p' new
  unfolding meaning_of
  starts_so adds is = record {
    thread = begins.keeps.thread;
    images = begins.keeps.images;
    lent = begins.keeps.lent;
    starts = λ seen state left has_seen.
        let now = sym (ap (with_event seen) (adds seen left)) in (
          subst (λ events. HasLeft new events p') now (left_then seen left),
          subst (HasSeen new) now (seen_then seen left),
          subst (λ events. BegunAs line.number events state new started
              (begun_by ops (loads_of old.images) (shows line old seen) old.thread line seen
              (held_at seen state old) line.told.action)) now
              (subst (BegunAs line.number (with_event seen event) state new started)
              (sym (is seen (held_at seen state old) left))
              (begins.begins seen state left has_seen)),
        );
  }

pub same_thread : (k : Kept) → KeepsThread k k
same_thread k = record { thread = refl; images = refl; lent = refl }

-- a line that is over as it begins, and that changes nothing
pub over_at_once : (line : ℕ) (begun : List Event → Meant → Begun Meant) (p : Past) (k : Kept) (answer : Outcome)
    → k.live ≡ instances_in (infos_of k.images) p
    → ((seen : List Event) (h : Meant) → HasLeft k seen p → begun seen h ≡ SaysSo (Answered answer) h)
    → Begins line None begun p k (Says None) p k
over_at_once line begun p k answer live says = record {
  keeps = same_thread k;
  past = refl;
  live = live;
  begins = λ seen state left has_seen.
      subst (BegunAs line seen state k (Says None)) (sym (says seen (held_at seen state k) left)) (refl, refl);
}

-- ** calls

module _ (line : Line) (symbol : List ℕ) (a b c : ℕ) (p : Past) (k : Kept)
    (live : k.live ≡ instances_in (infos_of k.images) p) where
  begun_for : List Event → Meant → Option Instance → Begun Meant
  begun_for seen h x = begun_in ops (loads_of k.images) (shows line k seen) k.thread symbol a b c h x

  pub call_closed : loaded_instance (infos_of k.images) line.told.image (module_of p line.told.image) ≡ None
      → BeginsCall line symbol a b c p k (Says None) p k
  unfolding begun_for
  call_closed none = over_at_once line.number _ p k (Refused IsClosed) live
      (λ seen h left. ap (begun_for seen h) (found_at k.images p seen left line.told.image ∙ none))

  pub call_unknown : (x : Instance)
      → loaded_instance (infos_of k.images) line.told.image (module_of p line.told.image) ≡ Some x
      → (loads_of k.images).function x symbol ≡ None → BeginsCall line symbol a b c p k (Says None) p k
  unfolding begun_for
  call_unknown x is none = over_at_once line.number _ p k (Refused NoSymbol) live
      (λ seen h left. ap (begun_for seen h) (found_at k.images p seen left line.told.image ∙ is) ∙ rw none refl)

  pub call_begins : (x : Instance) (place : ℕ) (new : Kept) (first : State Word Flag)
      → loaded_instance (infos_of k.images) line.told.image (module_of p line.told.image) ≡ Some x
      → (loads_of k.images).function x symbol ≡ Some place → new ≡ record k { stack = fresh_stack ops }
      → first ≡ call_start ops k.thread place a b c
      → BeginsCall line symbol a b c p k (Calls first) p new
  unfolding begun_for
  call_begins x place new first is found fresh state = rw fresh (record {
    keeps = record { thread = refl; images = refl; lent = refl };
    past = refl;
    live = live;
    begins = λ seen old left has_seen.
        let there = record k { stack = fresh_stack ops } in
        subst (BegunAs line.number seen old there (Calls first))
        (sym (ap (begun_for seen (held_at seen old k)) (found_at k.images p seen left line.told.image ∙ is)
        ∙ ap (λ at. begun_at ops (loads_of k.images) (shows line k seen) k.thread symbol a b c
        (held_at seen old k) at) found))
        (rw state refl);
  })

-- ** peeks

-- what is said of bytes
ending_is : (ls : List Linking) (thread line address : ℕ) (bytes : List Byte) (values : Option (List ℕ))
    → unclean_ending thread line (shown_as (meaning_of ls) thread address bytes values)
    ≡ shown_step thread line address bytes values
ending_is ls thread line address bytes (Some numbers) = refl
ending_is ls thread line address bytes None = refl

module _ (line : Line) (symbol : List ℕ) (size : ℕ) (p : Past) (k : Kept)
    (live : k.live ≡ instances_in (infos_of k.images) p) where
  peek_for : List Event → Meant → Option Instance → Begun Meant
  peek_for seen h x = begun_peek ops (loads_of k.images)
      (shows (peek_line line symbol size) k seen) k.thread line symbol size h x

  pub peek_closed : loaded_instance (infos_of k.images) line.told.image (module_of p line.told.image) ≡ None
      → BeginsPeek line symbol size p k (Says None) p k
  unfolding peek_for
  peek_closed none = over_at_once line.number _ p k (Refused IsClosed) live
      (λ seen h left. ap (peek_for seen h) (found_at k.images p seen left line.told.image ∙ none))

  module _ (x : Instance)
      (is : loaded_instance (infos_of k.images) line.told.image (module_of p line.told.image) ≡ Some x) (new : Kept)
      (reaches : new ≡ with_held k.live [] (BlockOf x.number) k) where
    pub keeps : KeepsThread k new
    unfolding with_held
    keeps = rw reaches (record { thread = refl; images = refl; lent = refl })

    live_then : new.live ≡ instances_in (infos_of k.images) p
    unfolding with_held
    live_then = ap (λ (y : Kept). y.live) reaches ∙ live

    -- the block is reached
    peeks : (seen : List Event) (state : State Word Flag) → HasLeft k seen p → HasSeen k seen
        → peek_for seen (held_at seen state k) (instance_at (loads_of k.images) seen line.told.image)
        ≡ shown_from ops (loads_of k.images) (shows (peek_line line symbol size) k seen) k.thread
        (held_at seen state new) size x
        ((loads_of k.images).variable line.told.image symbol)
    unfolding peek_for
    peeks seen state left has_seen =
        ap (peek_for seen (held_at seen state k)) (found_at k.images p seen left line.told.image ∙ is)
        ∙ ap (λ h. shown_from ops (loads_of k.images) (shows (peek_line line symbol size) k seen) k.thread h size x
        ((loads_of k.images).variable line.told.image symbol))
        (reach_is k seen state x has_seen ∙ ap (held_at seen state) (sym reaches))

    pub peek_unknown : (loads_of k.images).variable line.told.image symbol ≡ None
        → BeginsPeek line symbol size p k (Says None) p new
    unfolding peek_for
    peek_unknown none = record {
      keeps = keeps;
      past = refl;
      live = live_then;
      begins = λ seen state left has_seen.
          subst (BegunAs line.number seen state new (Says None)) (sym (peeks seen state left has_seen
          ∙ ap (λ v. shown_from ops (loads_of k.images) (shows (peek_line line symbol size) k seen) k.thread
          (held_at seen state new) size x v) none))
          (refl, refl);
    }

    module _ (offset : ℕ) (found : (loads_of k.images).variable line.told.image symbol ≡ Some offset)
        (seen : List Event)
        (state : State Word Flag) (left : HasLeft k seen p) where
      address_is : shown_at (meaning_of k.images) k.thread line.told.image seen (Peek symbol size)
          ≡ block_start k.thread x + offset
      unfolding meaning_of
      address_is =
          ap (λ y. variable_start (meaning_of k.images) k.thread y
          ((loads_of k.images).variable line.told.image symbol))
          (found_at k.images p seen left line.told.image ∙ is)
          ∙ ap (variable_start (meaning_of k.images) k.thread (Some x)) found

      abbrev shown_so : Option (List Byte) → Begun Meant
      shown_so block = shown_in ops (loads_of k.images) (shows (peek_line line symbol size) k seen) k.thread
          (held_at seen state new) size offset block

      abbrev step_so : Option (List Byte) → Option UncleanStep
      step_so block = step_in k.thread line.number (block_start k.thread x) size offset block

      part_says : (bytes : List Byte) (t : Bool) → nat_le (offset + size) (length bytes) ≡ t
          → BegunAs line.number seen state new (Says (step_so (Some bytes))) (shown_so (Some bytes))
      part_says bytes true fits = rw (fits, keeps.thread) (
        ap (λ address. unclean_ending k.thread line.number (shown_as (meaning_of k.images) k.thread address
            (slice_range bytes offset (offset + size))
            (values_of (slice_range bytes offset (offset + size))))) address_is
            ∙ ending_is k.images k.thread line.number (block_start k.thread x + offset)
            (slice_range bytes offset (offset + size))
            (values_of (slice_range bytes offset (offset + size))),
        refl,
      )
      part_says bytes false fits = rw fits (refl, refl)

      block_says : (block : Option (List Byte))
          → BegunAs line.number seen state new (Says (step_so block)) (shown_so block)
      block_says None = (refl, refl)
      block_says (Some bytes) = part_says bytes (nat_le (offset + size) (length bytes)) refl

    pub peek_begins : (offset : ℕ) → (loads_of k.images).variable line.told.image symbol ≡ Some offset
        → BeginsPeek line symbol size p k
        (Says (step_in k.thread line.number (block_start k.thread x) size offset (block_bytes x.number new.own))) p new
    unfolding peek_for
    peek_begins offset found = record {
      keeps = keeps;
      past = refl;
      live = live_then;
      begins = λ seen state left has_seen.
          subst (BegunAs line.number seen state new
          (Says (step_so offset found seen state left (block_bytes x.number new.own))))
          (sym (peeks seen state left has_seen
          ∙ ap (λ v. shown_from ops (loads_of k.images) (shows (peek_line line symbol size) k seen) k.thread
          (held_at seen state new) size x v) found
          ∙ ap (λ xs. shown_so offset found seen state left (block_bytes x.number xs)) (owned_again new.own)))
          (block_says offset found seen state left (block_bytes x.number new.own));
    }

-- ** of whole lines

pub call_starts : (line : Line) (p p' : Past) (old new : Kept) (started : Started) (symbol : List ℕ) (a b c : ℕ)
    → line.told.action ≡ Call symbol a b c → BeginsCall line symbol a b c p old started p' new
    → Starts line p old started p' new
call_starts line p p' old new started symbol a b c is begins = starts_so line p p' old new started None _ begins
    (λ seen left. rw is refl) (λ seen h left. rw is refl)

pub peek_starts : (line : Line) (p p' : Past) (old new : Kept) (started : Started) (symbol : List ℕ) (size : ℕ)
    → line.told.action ≡ Peek symbol size → BeginsPeek line symbol size p old started p' new
    → Starts line p old started p' new
peek_starts line p p' old new started symbol size is begins = starts_so line p p' old new started None _ begins
    (λ seen left. rw is refl) (λ seen h left. rw is refl)

-- ** the registers of a call

number_is : (n : ℕ) → n < 2 ^ 64 → ops.word n ≡ Number n
unfolding marked_operations
number_is n small = let same : n % 2 ^ 64 ≡ n = omega (arith, small) in ap Number same

pub marked_start : (thread place a b c : ℕ) → a < 2 ^ 64 → b < 2 ^ 64 → c < 2 ^ 64
    → call_start ops thread place a b c
    ≡ (record (start_of ops place (stack_end thread - 8) (Number a) (Number b) (Number c))
    { thread_pointer = pointer_of thread })
marked_start thread place a b c f g h = rw (number_is a f, number_is b g, number_is c h) refl
