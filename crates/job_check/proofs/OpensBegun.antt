-- What a line comes to that opens or closes its image.
use Rattle.std.proofs.Common.{◌≡◌, ◌∙◌, ℕ, Bool, true, false, List, [], Option, Some, None, refl, ap}
use Rattle.std.specs.Prelude.{if◌then◌else◌, is_none}
use Rattle.std.proofs.lemmas.Bool.{lt-ltb}
use Rattle.guest_operands.specs.declared.state.State.{State}
use Rattle.job_meaning.specs.declared.values.Byte.{Byte}
use Rattle.job_meaning.specs.declared.values.Flag.{Flag}
use Rattle.job_meaning.specs.declared.values.Word.{Word}
use Rattle.job_text.specs.declared.thread_lines.Action.TheVariants.{Close, Open}
use Rattle.loaded_modules.specs.declared.instance.Instance.{Instance}
use Rattle.module_table.specs.declared.events.Event.{Event}
use Rattle.module_table.specs.Modules.{is_loaded}
use Rattle.module_table.specs.Past.{Past, accepts, after_one, close_refusal, module_of, open_refusal}
use Rattle.module_table.proofs.Refusals.{accepts_close, accepts_open, held}
use Rattle.transcript_text.specs.declared.outcomes.LineRefusal.{LineRefusal}
use Rattle.transcript_text.specs.declared.outcomes.Outcome.TheVariants.{Closed, Opened, Refused}
use Rattle.thread_blocks.specs.Held.{looked}
use Rattle.thread_blocks.specs.Instances.{Loads, instance_at, instances_in, loaded_instance}
use Rattle.thread_blocks.specs.Lines.{Line, begun_by, event_at, event_by, refused_close, refused_open, with_load}
use Rattle.thread_blocks.specs.Turns.{Answered, Begun, Ending, Says as SaysSo, with_last}
use Rattle.whole_meaning.specs.Loads.{loads_of}
use Rattle.whole_meaning.specs.Threads.{Meant, ops}
use Rattle.job_check.specs.Lines.{Begins, HasLeft, KeepsThread, LoadsNew, Sees, Starts, shows}
use Rattle.thread_turns.specs.declared.parts.Started.TheVariants.{Says}
use Rattle.marked_memory.specs.declared.space.Wanted.TheVariants.{Fixed}
use Rattle.job_check.specs.Histories.{infos_of}
use Rattle.marked_memory.specs.Kept.{HasSeen, Kept, held_at}
use Rattle.marked_memory.specs.Spaces.{with_held}
use Rattle.job_check.proofs.Histories.{left_with}
use Rattle.job_check.proofs.LinesBegun.{over_at_once, same_thread, starts_so}
use Rattle.job_check.proofs.Looks.{found_at, live_is, load_is, looks_alone}
use Rattle.std.specs.Option.{option_map_or}

-- ** an event that is refused

by_refusal : {R C : Type 0} (o : Option R) → is_none o ≡ false → ((refusal : R) → o ≡ Some refusal → C) → C
by_refusal None none so = absurd cc
by_refusal (Some refusal) some so = so refusal refl

module _ (line : Line) (p : Past) (k : Kept) (live : k.live ≡ instances_in (infos_of k.images) p) where
  refused_so : (refusal : LineRefusal)
      → ((seen : List Event) → HasLeft k seen p → event_by (loads_of k.images) k.thread line seen ≡ None)
      → ((seen : List Event) (h : Meant) → HasLeft k seen p
      → begun_by ops (loads_of k.images) (shows line k seen) k.thread line seen h line.told.action
      ≡ SaysSo (Answered (Refused refusal)) h)
      → Starts line p k (Says None) p k
  refused_so refusal = starts_so line p p k k (Says None) None (λ seen. SaysSo (Answered (Refused refusal)))
      (over_at_once line.number _ p k (Refused refusal) live (λ seen h left. refl))

  pub refused : (thread : ℕ) (opens : Bool) → line.told.action ≡ (if opens then Open else Close)
      → accepts p (event_at thread line.number opens line.told.image) ≡ false → Starts line p k (Says None) p k
  unfolding accepts
  refused thread true asks refuses = by_refusal (open_refusal p line.told.image) refuses
      (λ refusal is. refused_so (refused_open refusal) (λ seen left. rw (asks, left, is) refl)
      (λ seen h left. rw (asks, left, is) refl))
  refused thread false asks refuses = by_refusal (close_refusal p line.told.image) refuses
      (λ refusal is. refused_so (refused_close refusal) (λ seen left. rw (asks, left, is) refl)
      (λ seen h left. rw (asks, left, is) refl))

-- ** an event that is accepted

-- a load, where there is one
load_so : (k new : Kept) (was : Bool) (x : Option Instance) → LoadsNew was x k new
    → KeepsThread k new × (new.live ≡ k.live)
    × ((show : List Byte → Ending) (seen : List Event) (state : State Word Flag) → HasSeen k seen
    → with_load ops (loads_of k.images) show k.thread was x (held_at seen state k) ≡ held_at seen state new)
unfolding with_held
load_so k new true x is = rw is (same_thread k, refl, λ show seen state has_seen. refl)
load_so k new false None is = rw is (same_thread k, refl, λ show seen state has_seen. refl)
load_so k new false (Some x) is =
    rw is (
      record { thread = refl; images = refl; lent = refl },
      refl,
      λ show seen state has_seen. load_is k seen state x has_seen,
    )

module _ (line : Line) (was : Bool) (p p' : Past) (old mid new : Kept) (sees : Sees [] old p' mid)
    (loads : LoadsNew was (loaded_instance (infos_of mid.images) line.told.image
    (module_of p' line.told.image)) mid new) where
  abbrev l : Loads Byte
  l = loads_of old.images

  abbrev event : Bool → Event
  event opens = event_at old.thread line.number opens line.told.image

  -- the thread sees the event, and a load fills its instance's data
  abbrev done : Event → List Event → Meant → Begun Meant
  done e seen h =
      let all = with_last seen e in
      let x = instance_at l all line.told.image in
      SaysSo (Answered (if e.opens then Opened (option_map_or (λ (x : Instance). x.number) x 0) else Closed))
      (with_load ops l (shows line old seen) old.thread was x (looked l old.thread all h))

  does : (e : Event) → p' ≡ after_one p e → Begins line.number (Some e) (done e) p old (Says None) p' new
  unfolding with_held
  does e enters =
      let live = instances_in (infos_of old.images) p' in
      let there = with_held live [] Fixed old in
      let loaded = load_so there new was
      (loaded_instance (infos_of old.images) line.told.image (module_of p' line.told.image))
      (rw sees.is at loads) in
      record {
        keeps = record { thread = loaded.0.thread; images = loaded.0.images; lent = loaded.0.lent };
        past = enters;
        live = loaded.1;
        begins = λ seen state left has_seen.
            let all = with_last seen e in
            let left_all = left_with l p p' seen (Some e) left enters in
            let live_all = live_is old.images p' all left_all in
            let load = with_load ops l (shows line old seen) old.thread was in (
              refl,
              ap (load (instance_at l all line.told.image)) (looks_alone old seen state live all live_all)
                  ∙ ap (λ x. load x (held_at all state there)) (found_at old.images p' all left_all line.told.image)
                  ∙ loaded.2 (shows line old seen) all state live_all,
            );
      }

  pub accepted : (opens : Bool) → line.told.action ≡ (if opens then Open else Close) → accepts p (event opens) ≡ true
      → was ≡ is_loaded (module_of p line.told.image) → p' ≡ after_one p (event opens)
      → Starts line p old (Says None) p' new
  accepted true asks ok was_is enters =
      let none = accepts_open p (event true) ok refl in
      starts_so line p p' old new (Says None) (Some (event true)) (done (event true)) (does (event true) enters)
      (λ seen left. rw (asks, left, none) refl) (λ seen h left. rw (asks, left, none, left, was_is) refl)
  accepted false asks ok was_is enters =
      let none = accepts_close p (event false) ok refl in
      let loaded = was_is ∙ lt-ltb 0 (module_of p line.told.image).uses (held p line.told.image none) in
      starts_so line p p' old new (Says None) (Some (event false)) (done (event false)) (does (event false) enters)
      (λ seen left. rw (asks, left, none) refl) (λ seen h left. rw (asks, left, none, loaded) refl)
