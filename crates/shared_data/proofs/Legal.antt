-- The events of a job are legal, whatever its threads hold. Who is live behind one was so before, or is loaded by it.
use Rattle.std.proofs.Common.{◌≡◌, ◌∙◌, ◌⊎◌, ◌+◌, ◌-◌, ℕ, true, false, List, [], ◌∷◌, Option, Some, None, refl, sym, ap}
use Rattle.std.proofs.Common.{subst, inl, inr, append-nil}
use Rattle.std.specs.Prelude.{option_and_then}
use Rattle.std.proofs.lemmas.Bool.{cases_Bool, cases_eq, lt-ltb}
use Rattle.std.proofs.lemmas.List.{get_or-set_other}
use Rattle.job_text.specs.declared.thread_lines.Action.{Action}
use Rattle.job_text.specs.declared.thread_lines.Action.TheVariants.{Call, Open, Close, Peek}
use Rattle.known_instances.proofs.Found.{instance_for, loaded_is}
use Rattle.known_instances.proofs.Known.{numbered_at_image}
use Rattle.known_instances.proofs.OneInstance.{AreSame, numbered_is, used}
use Rattle.loaded_modules.specs.declared.instance.Instance.{Instance}
use Rattle.module_table.specs.declared.events.Event.{Event}
use Rattle.module_table.specs.declared.modules.ImageInfo.{ImageInfo}
use Rattle.module_table.specs.declared.modules.Module.{Module}
use Rattle.module_table.specs.Past.{IsLegal}
use Rattle.module_table.specs.Modules.{is_loaded, no_module}
use Rattle.module_table.specs.Past.{Past, accepts, after_one, close_refusal, loaded, module_of, new_instance}
use Rattle.module_table.specs.Past.{open_refusal, opened, past, released, retained, start, with_uses}
use Rattle.module_table.specs.Tables.{IsPast}
use Rattle.module_table.specs.Walks.{legal_push, past-append}
use Rattle.module_table.proofs.Along.{past_legal}
use Rattle.module_table.proofs.Refusals.{accepts_close, held}
use Rattle.module_table.proofs.Steps.{loaded_within}
use Rattle.thread_blocks.specs.Instances.{Loads, instance_at, instances, instances_in, left_by, loaded_instance}
use Rattle.thread_blocks.specs.Lines.{Line, event_at, event_by, unless_refused}
use Rattle.thread_blocks.specs.Turns.{Thread, event_of, next_line, with_event, with_last}
use Rattle.shared_data.proofs.Begins.{AreOwn, Follows, IsLoadedBy}
use Rattle.shared_data.proofs.Fits.{IsLive}
use Rattle.shared_data.proofs.Numbers.{image_one, numbers_own}
use Rattle.thread_blocks.proofs.Histories.{is_event}

open_accepted : (p : Past) (e found : Event) → e.opens ≡ true
    → unless_refused (open_refusal p e.image) e ≡ Some found → accepts p found ≡ true
unfolding accepts
open_accepted p e found opens same =
    let is = is_event (open_refusal p e.image) e found same in
    subst (λ (x : Event). accepts p x ≡ true) is.1 (rw (opens, is.0) refl)

close_accepted : (p : Past) (e found : Event) → e.opens ≡ false
    → unless_refused (close_refusal p e.image) e ≡ Some found → accepts p found ≡ true
unfolding accepts
close_accepted p e found opens same =
    let is = is_event (close_refusal p e.image) e found same in
    subst (λ (x : Event). accepts p x ≡ true) is.1 (rw (opens, is.0) refl)

module _ {B : Type 0} (l : Loads B) (thread : ℕ) where
  accepted_by : (number image : ℕ) (action : Action) (seen : List Event) (found : Event)
      → event_by l thread (record { number = number; told = record { image = image; action = action } }) seen
      ≡ Some found
      → accepts (left_by l seen) found ≡ true
  accepted_by number image (Call symbol a b c) seen found same = cc
  accepted_by number image Open seen found same =
      open_accepted (left_by l seen) (event_at thread number true image) found refl same
  accepted_by number image Close seen found same =
      close_accepted (left_by l seen) (event_at thread number false image) found refl same
  accepted_by number image (Peek symbol size) seen found same = cc

  line_accepted : (line : Option Line) (seen : List Event) (found : Event)
      → option_and_then (λ (x : Line). event_by l thread x seen) line ≡ Some found
      → accepts (left_by l seen) found ≡ true
  line_accepted None seen found same = cc
  line_accepted (Some line) seen found same =
      accepted_by line.number line.told.image line.told.action seen found same

  legal_with : (seen : List Event) (e : Option Event) → IsLegal l.infos l.last_offset seen
      → ((found : Event) → e ≡ Some found → accepts (left_by l seen) found ≡ true)
      → IsLegal l.infos l.last_offset (with_event seen e)
  unfolding past
  legal_with seen None legal accepted = legal
  legal_with seen (Some e) legal accepted = record {
    images = legal.images;
    low = legal.low;
    each = legal_push (start l.infos l.last_offset) seen e legal.each (accepted e refl);
  }

  -- with the event of a thread's next turn a legal history is one
  pub legal_turn : {S : Type 0} (t : Thread S Line Event) (seen : List Event) → IsLegal l.infos l.last_offset seen
      → IsLegal l.infos l.last_offset (with_event seen (event_of (event_by l thread) t seen))
  legal_turn t seen legal =
      legal_with seen (event_of (event_by l thread) t seen) legal
      (λ found same. line_accepted (next_line t.todo t.phase) seen found same)

pub are_own : {B : Type 0} (l : Loads B) (seen : List Event) → IsLegal l.infos l.last_offset seen → AreOwn l seen
are_own l seen legal = record {
  numbers = numbers_own l seen legal;
  one = λ image x e. image_one l seen legal image x e;
}

-- ** who is live behind an event

-- the same images, with nothing loaded of them: laws of numbers ask for no more
abbrev pub numbering : {B : Type 0} → Loads B → Loads ℕ
numbering l = record {
  infos = l.infos;
  last_offset = l.last_offset;
  function = λ x name. None;
  variable = λ image name. None;
  fixed = λ x. [];
  tables = λ x. [];
  shared = λ x. None;
  block = λ x. [];
}

for_same : (infos : List ImageInfo) (a : ℕ) (new old : Module) → AreSame new old
    → instance_for infos a new ≡ instance_for infos a old
for_same infos a new old s = rw (s.info, s.instance, s.id, s.offset) refl

module _ {B : Type 0} (l : Loads B) (seen : List Event) (legal : IsLegal l.infos l.last_offset seen) where
  abbrev now : Past
  now = left_by l seen

  is_past : IsPast now
  is_past = past_legal l.infos l.last_offset seen legal

  live_at : (a : ℕ) (y : Instance) → is_loaded (module_of now a) ≡ true → instance_for l.infos a (module_of now a) ≡ y
      → IsLive (instances l seen) y
  live_at a y t is =
      numbered_at_image (numbering l) seen legal seen a y ([], sym (append-nil seen))
      (loaded_is l.infos a (module_of now a) t ∙ ap (λ (z : Instance). Some z) is)

  -- one more use of an image, or one less
  after_use : (image uses : ℕ) → is_loaded (module_of now image) ≡ true → (y : Instance)
      → IsLive (instances_in l.infos (with_uses now image uses)) y → IsLive (instances l seen) y
  after_use image uses t y is =
      let n = numbered_is l.infos (with_uses now image uses) y.number y is in
      let u = used now image uses n.image (loaded_within now image is_past t).0 t in
      live_at n.image y (u.held n.loaded) (sym (for_same l.infos n.image _ _ u.same) ∙ n.is)

  module _ (e : Event) (accepted : accepts now e ≡ true) where
    whole : left_by l (with_last seen e) ≡ after_one now e
    whole = past-append l.infos l.last_offset seen (e ∷ [])

    after_load : e.opens ≡ true → is_loaded (module_of now e.image) ≡ false → after_one now e ≡ loaded now e.image
        → (y : Instance) → IsLive (instances_in l.infos (loaded now e.image)) y
        → IsLive (instances l seen) y ⊎ IsLoadedBy l seen (Some e) y
    unfolding loaded instance_at
    after_load opens f is_load y is =
        let n = numbered_is l.infos (loaded now e.image) y.number y is in
        elim (cases_eq n.image e.image) [
          | inl same ↦
              let here = loaded_is l.infos n.image (module_of (loaded now e.image) n.image) n.loaded
              ∙ ap (λ (z : Instance). Some z) n.is in
              inr (
                opens,
                (
                  f,
                  ap (λ (q : Past). loaded_instance l.infos e.image (module_of q e.image)) (whole ∙ is_load)
                      ∙ subst (λ (i : ℕ). loaded_instance l.infos i (module_of (loaded now e.image) i)
                      ≡ Some y) same here,
                ),
              )
          | inr ne ↦
              let other : module_of (loaded now e.image) n.image ≡ module_of now n.image =
              get_or-set_other now.modules e.image n.image (new_instance now (module_of now e.image)) no_module ne in
              inl (live_at n.image y (subst (λ (m : Module). is_loaded m ≡ true) other n.loaded)
              (subst (λ (m : Module). instance_for l.infos n.image m ≡ y) other n.is))
        ]

    event_follows : Follows l seen (Some e)
    unfolding after_one opened retained released instances_in
    event_follows y is =
        let behind = subst (λ (q : Past). IsLive (instances_in l.infos q) y) whole is in
        elim (cases_Bool e.opens) [
          | inl opens ↦ elim (cases_Bool (is_loaded (module_of now e.image))) [
            | inl t ↦
                let is_use : after_one now e ≡ retained now e.image = rw (opens, t) refl in
                inl (after_use e.image ((module_of now e.image).uses + 1) t y
                (subst (λ (q : Past). IsLive (instances_in l.infos q) y) is_use behind))
            | inr f ↦
                let is_load : after_one now e ≡ loaded now e.image = rw (opens, f) refl in
                after_load opens f is_load y (subst (λ (q : Past). IsLive (instances_in l.infos q) y) is_load behind)
          ]
          | inr closes ↦
              let is_use : after_one now e ≡ released now e.image = rw closes refl in
              let t : is_loaded (module_of now e.image) ≡ true =
              lt-ltb 0 (module_of now e.image).uses (held now e.image (accepts_close now e accepted closes)) in
              inl (after_use e.image ((module_of now e.image).uses - 1) t y
              (subst (λ (q : Past). IsLive (instances_in l.infos q) y) is_use behind))
        ]

  follows_by : (e : Option Event) → ((found : Event) → e ≡ Some found → accepts now found ≡ true) → Follows l seen e
  follows_by None accepted y is = inl is
  follows_by (Some e) accepted y is = event_follows e (accepted e refl) y is

-- behind the event of a thread's next turn
pub turn_follows : {B S : Type 0} (l : Loads B) (thread : ℕ) (t : Thread S Line Event) (seen : List Event)
    → IsLegal l.infos l.last_offset seen → Follows l seen (event_of (event_by l thread) t seen)
turn_follows l thread t seen legal =
    follows_by l seen legal (event_of (event_by l thread) t seen)
    (λ found same. line_accepted l thread (next_line t.todo t.phase) seen found same)
