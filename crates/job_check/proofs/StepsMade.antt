-- A step is that of the meaning.
use Rattle.std.proofs.Common.{◌≡◌, ℕ, ◌==◌, List, Option, Some, None, Result, Ok, Err, IfOk, refl, sym, ap, ◌∙◌}
use Rattle.std.specs.Prelude.{option_and_then, option_map, unwrap_or}
use Rattle.std.specs.List.{find}
use Rattle.address_map.specs.Map.{owner_at}
use Rattle.guest_machine.specs.Run.{Next, Goes as GoesTo, Ends as EndsWith, Looks as LooksAt}
use Rattle.guest_operands.specs.declared.state.State.{State}
use Rattle.guest_operands.specs.declared.stop.Stop.{Stop}
use Rattle.guest_operands.specs.Use.{After, left}
use Rattle.job_meaning.specs.declared.values.Flag.{Flag}
use Rattle.job_meaning.specs.declared.values.Word.{Word}
use Rattle.loaded_modules.specs.declared.instance.Instance.{Instance}
use Rattle.module_table.specs.declared.events.Event.{Event}
use Rattle.thread_blocks.specs.Held.{owners_of}
use Rattle.whole_meaning.specs.declared.sequences.Sequence.{Sequence}
use Rattle.whole_meaning.specs.Loads.{meaning_of}
use Rattle.whole_meaning.specs.Running.{asked, meaning, meant_step}
use Rattle.whole_meaning.specs.Threads.{Meant, Memory, held_next, meant_accesses, meant_mark, meant_sequence}
use Rattle.whole_meaning.specs.Threads.{meant_shut, meant_steps, ops, sequence_at, sequence_next}
use Rattle.job_check.specs.declared.step.Stepped.{Stepped}
use Rattle.job_check.specs.declared.step.Stepped.TheVariants.{Goes, Looks, Ends}
use Rattle.marked_memory.specs.Kept.{HasSeen, Kept, held_at, sequence_in, shape_of}
use Rattle.job_check.specs.Running.{KeepsJob, Steps, stepped_as}
use Rattle.job_check.specs.Stepping.{Asks, StepsAs, next_as, plain_next, space_of}
use Rattle.job_check.proofs.Memories.{same_owners}
use Rattle.marked_memory.proofs.SpaceImages.{same_shape}
use Rattle.job_check.proofs.SequencesMade.{sequence_next_of}

pub keeps_job : (k k' : Kept) → shape_of k' ≡ shape_of k → KeepsJob k k'
keeps_job k k' shape = let same = same_shape k k' shape in record {
  thread = same.thread;
  images = same.images;
  live = same.live;
  lent = same.lent_is;
}

pub if_ok : {A E : Type 0} (P Q : A → Type 0) (r : Result A E) → IfOk r P → ((x : A) → P x → Q x) → IfOk r Q
if_ok P Q (Ok x) holds f = f x holds
if_ok P Q (Err e) holds f = tt

-- ** what a step comes to is held

held-same : (k k' : Kept) (seen : List Event) (state : State Word Flag) → owners_of k'.own ≡ owners_of k.own
    → record { after = left state (space_of seen k'); owners = owners_of k.own; asked = None } ≡ held_at seen state k'
held-same k k' seen state e = rw e refl

next-held : (thread : ℕ) (stepped : Stepped) (k k' : Kept) (seen : List Event) (state state' : State Word Flag)
    → owners_of k'.own ≡ owners_of k.own
    → held_next (meaning_of k.images) thread (held_at seen state k) (next_as stepped (left state' (space_of seen k')))
    ≡ stepped_as stepped (held_at seen state' k')
next-held thread Goes k k' seen state state' e = ap (stepped_as Goes) (held-same k k' seen state' e)
next-held thread Looks k k' seen state state' e = ap (stepped_as Looks) (held-same k k' seen state' e)
next-held thread (Ends stop) k k' seen state state' e = refl

-- the meaning's step
bare : State Word Flag → Kept → List Event → Next (After Word Flag Memory)
bare state k seen = let m = meaning_of k.images in
    meant_step ops (meant_accesses m k.thread) (meant_mark m k.thread) (meant_shut m k.thread)
    (meant_sequence m k.thread) (left state (space_of seen k))

steps-from : (stepped : Stepped) (state : State Word Flag) (k : Kept) (state' : State Word Flag) (k' : Kept)
    (meant : List Event → Next (After Word Flag Memory))
    → StepsAs stepped state k state' k' meant → ((seen : List Event) → HasSeen k seen → bare state k seen ≡ meant seen)
    → Steps state k stepped state' k'
unfolding meant_steps meaning bare
steps-from stepped state k state' k' meant steps is = record {
  keeps = keeps_job k k' steps.shape;
  stays = steps.stays;
  steps = λ seen has.
      ap (λ (next : Next (After Word Flag Memory)). held_next (meaning_of k.images) k.thread
      (held_at seen state k) next) (is seen has ∙ steps.steps seen has)
      ∙ next-held k.thread stepped k k' seen state state' (same_owners k k' steps.shape);
}

-- ** a sequence begins, or none

begins : (k : Kept) (seen : List Event) (place : ℕ) → HasSeen k seen
    → sequence_at (meaning_of k.images) k.thread seen place ≡ sequence_in k place
unfolding sequence_in meaning_of
begins k seen place has =
    ap (λ (live : List Instance). option_and_then (λ x. (meaning_of k.images).sequence x place)
    (find (λ (x : Instance). x.number == owner_at place) live)) has

pub sequence_begins : (k : Kept) (seen : List Event) (place : ℕ) (s : Option Sequence) → HasSeen k seen
    → s ≡ sequence_in k place
    → sequence_at (meaning_of k.images) k.thread seen place ≡ s
sequence_begins k seen place s has is = begins k seen place has ∙ sym is

bare-is : (state : State Word Flag) (k : Kept) (seen : List Event) (s : Option Sequence)
    → sequence_at (meaning_of k.images) k.thread seen state.place ≡ s
    → bare state k seen
    ≡ unwrap_or (option_map (sequence_next (meaning_of k.images) k.thread (left state (space_of seen k))) s)
    (plain_next state k seen)
unfolding bare
bare-is state k seen s e = ap (λ (s : Option Sequence).
    unwrap_or (option_map (sequence_next (meaning_of k.images) k.thread (left state (space_of seen k))) s)
    (plain_next state k seen)) e

pub sequence_steps : (s : Sequence) (stepped : Stepped) (state : State Word Flag) (k : Kept) (state' : State Word Flag)
    (k' : Kept)
    → Some s ≡ sequence_in k state.place → StepsAs stepped state k state' k' (sequence_next_of s state k)
    → Steps state k stepped state' k'
sequence_steps s stepped state k state' k' is steps =
    steps-from stepped state k state' k' _ steps
    (λ seen has. bare-is state k seen (Some s) (sequence_begins k seen state.place (Some s) has is))

pub plain_steps : (stepped : Stepped) (state : State Word Flag) (k : Kept) (state' : State Word Flag) (k' : Kept)
    → None ≡ sequence_in k state.place → StepsAs stepped state k state' k' (plain_next state k)
    → Steps state k stepped state' k'
plain_steps stepped state k state' k' is steps =
    steps-from stepped state k state' k' _ steps
    (λ seen has. bare-is state k seen None (sequence_begins k seen state.place None has is))

-- ** a step that may not be made any more

asked-held : (m : Kept) (h : Meant) (place : ℕ) (next : Next (After Word Flag Memory))
    → asked place (held_next (meaning_of m.images) m.thread h next) ≡ asked place next
asked-held m h place (GoesTo at) = refl
asked-held m h place (EndsWith stop) = refl
asked-held m h place (LooksAt at) = refl

pub asks_step : (stop : Stop) (stepped : Stepped) (state : State Word Flag) (k : Kept) (state' : State Word Flag)
    (k' : Kept)
    → ((h : Meant) → asked state.place (stepped_as stepped h) ≡ stop) → Steps state k stepped state' k'
    → Asks stop state k
unfolding meant_steps meaning
asks_step stop stepped state k state' k' is steps = λ seen has.
    sym (asked-held k (held_at seen state k) state.place _) ∙ ap (asked state.place) (steps.steps seen has)
    ∙ is (held_at seen state' k')
