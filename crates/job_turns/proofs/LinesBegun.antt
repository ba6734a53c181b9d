-- What the first look of a line comes to, part by part.
use Rattle.std.proofs.Common.{◌≡◌, ◌∙◌, ◌+◌, ℕ, Bool, true, false, List, Option, Some, None, length, refl, sym, ap}
use Rattle.std.proofs.Common.{subst}
use Rattle.std.specs.Prelude.{nat_le}
use Rattle.guest_arithmetic.specs.Plain.{plain_operations}
use Rattle.guest_machine.specs.Machine.{Standing}
use Rattle.guest_operands.specs.declared.state.State.{State}
use Rattle.loaded_modules.specs.declared.instance.Instance.{Instance}
use Rattle.loaded_modules.specs.Images.{infos}
use Rattle.module_table.specs.declared.events.Event.{Event}
use Rattle.module_table.specs.Past.{module_of}
use Rattle.transcript_text.specs.declared.outcomes.LineRefusal.TheVariants.{NotOpen as IsClosed, Symbol as NoSymbol}
use Rattle.transcript_text.specs.declared.outcomes.Outcome.{Outcome}
use Rattle.transcript_text.specs.declared.outcomes.Outcome.TheVariants.{Refused}
use Rattle.thread_blocks.specs.declared.asked.Asked.{Asked}
use Rattle.thread_blocks.specs.Held.{block_bytes, owned_by, reached}
use Rattle.thread_blocks.specs.Instances.{Loads, loaded_instance}
use Rattle.thread_blocks.specs.JobLoads.{job_loads}
use Rattle.thread_blocks.specs.Lines.{Line, begun_by, begun_in, begun_peek, event_by, shown_from, shown_in}
use Rattle.thread_blocks.specs.MachineTurns.{call_start}
use Rattle.thread_blocks.specs.RunTime.{Runs, shows}
use Rattle.thread_blocks.specs.Turns.{Answered, Begun, Says as SaysSo, with_event}
use Rattle.thread_vector.specs.Vectors.{held}
use Rattle.job_turns.specs.Starting.{Begins, BeginsCall, BeginsPeek, ReachesLive, Started, Starts, part_shown, shown_of}
use Rattle.job_turns.specs.Starting.{started_as}
use Rattle.thread_turns.specs.declared.parts.Started.TheVariants.{Says, Calls}
use Rattle.thread_space.specs.Kept.{HasSeen, Kept, held_at, owned_of}
use Rattle.thread_space.specs.Live.{HasStartups, IsLive}
use Rattle.thread_space.specs.Steps.{HasFreshStack}
use Rattle.job_turns.proofs.HeldWith.{block_held, found_at, held_with, reached_with, same_thread, seen_with}
use Rattle.thread_space.proofs.Looks.{reach_kept}

-- ** whole lines

pub starts_so : (line : Line) (old new : Kept) (result : Started) (event : Option Event)
    (begun : List Event → Runs → Begun Runs)
    → Begins event begun old result new
    → ((seen : List Event) → HasSeen old.vector seen
    → event_by (job_loads old.vector.images) old.vector.thread line seen ≡ event)
    → ((seen : List Event) (h : Runs) → HasSeen old.vector seen
    → begun_by plain_operations (job_loads old.vector.images)
    (shows (job_loads old.vector.images) old.vector.thread) old.vector.thread line seen h line.told.action
    ≡ begun seen h)
    → Starts line old result new
starts_so line old new result event begun begins adds is = record {
  keeps = begins.keeps;
  fresh = begins.fresh;
  starts = λ seen state asked has_seen.
      let now = sym (ap (with_event seen) (adds seen has_seen)) in (
        subst (HasSeen new.vector) now (seen_with old new event seen begins.keeps.images begins.past has_seen),
        is seen (held_at seen state asked old) has_seen ∙ begins.begins seen state asked has_seen
            ∙ ap (λ events. started_as events state asked result new) now,
      );
}

-- a line that is over as it begins, and that changes nothing
pub over_at_once : (begun : List Event → Runs → Begun Runs) (k : Kept) (outcome : Outcome)
    → ((seen : List Event) (h : Runs) → HasSeen k.vector seen → begun seen h ≡ SaysSo (Answered outcome) h)
    → Begins None begun k (Says outcome) k
over_at_once begun k outcome says = record {
  keeps = same_thread k;
  fresh = tt;
  past = refl;
  begins = λ seen state asked has_seen. says seen (held_at seen state asked k) has_seen;
}

-- ** calls

module _ (k : Kept) (image : ℕ) (symbol : List ℕ) (a b c : ℕ) where
  l : Loads ℕ
  l = job_loads k.vector.images

  begun_for : Runs → Option Instance → Begun Runs
  begun_for h x = begun_in plain_operations l (shows l k.vector.thread) k.vector.thread symbol a b c h x

  pub call_closed : loaded_instance (infos k.vector.images) image (module_of k.vector.past image) ≡ None
      → BeginsCall image symbol a b c k (Says (Refused IsClosed)) k
  unfolding l begun_for
  call_closed none = over_at_once _ k (Refused IsClosed)
      (λ seen h has_seen. ap (begun_for h) (found_at k seen has_seen image ∙ none))

  pub call_unknown : (x : Instance)
      → loaded_instance (infos k.vector.images) image (module_of k.vector.past image) ≡ Some x
      → (job_loads k.vector.images).function x symbol ≡ None
      → BeginsCall image symbol a b c k (Says (Refused NoSymbol)) k
  unfolding l begun_for
  call_unknown x is none =
      over_at_once _ k (Refused NoSymbol)
      (λ seen h has_seen. ap (begun_for h) (found_at k seen has_seen image ∙ is) ∙ rw none refl)

  pub call_begins : (x : Instance) (place : ℕ) (new : Kept) (m : Standing ℕ Bool)
      → loaded_instance (infos k.vector.images) image (module_of k.vector.past image) ≡ Some x
      → (job_loads k.vector.images).function x symbol ≡ Some place → HasFreshStack k new
      → m.state ≡ call_start plain_operations k.vector.thread place a b c → m.taken ≡ 0
      → BeginsCall image symbol a b c k (Calls m) new
  unfolding l begun_for
  call_begins x place new m is found fresh state taken = record {
    keeps = record {
      thread = ap (λ v. v.thread) fresh.vector;
      images = ap (λ v. v.images) fresh.vector;
      startups = λ has. subst HasStartups (sym fresh.vector) has;
      pieces = ap length fresh.data_is;
    };
    fresh = taken;
    past = ap (λ v. v.past) fresh.vector;
    begins = λ seen old asked has_seen.
        ap (begun_for (held_at seen old asked k)) (found_at k seen has_seen image ∙ is)
        ∙ rw (found, state, fresh.vector, fresh.data_is, fresh.stack) refl;
  }

-- ** peeks

-- the block is reached
pub reach_holds : (old new : Kept) (x : Instance) (seen : List Event) (state : State ℕ Bool) (asked : Option Asked)
    → ReachesLive old x new
    → IsLive old.vector.images old.vector.past x → HasSeen old.vector seen
    → reached (job_loads old.vector.images) old.vector.thread x (held_at seen state asked old)
    ≡ held_at seen state asked new
reach_holds old new x seen state asked reaches live has_seen =
    let images = reaches.keeps.images in
    let has = seen_with old new None seen images reaches.past has_seen in
    let live = subst (λ m. IsLive m new.vector.past x) (sym images)
    (subst (λ p. IsLive old.vector.images p x) (sym reaches.past) live) in
    let xs = owned_of old.vector old.pieces in
    ap (λ m. reached (job_loads m) old.vector.thread x (held_at seen state asked old)) (sym images)
    ∙ ap (λ t. reached (job_loads new.vector.images) t x (held_at seen state asked old)) (sym reaches.keeps.thread)
    ∙ reached_with (job_loads new.vector.images) new.vector.thread seen state asked old.stack xs x
    ∙ ap (held_with seen state asked old.stack)
    (reach_kept old.vector new.vector images reaches.past reaches.left x live reaches.blocks old.pieces seen has
    ∙ ap (owned_of new.vector) (sym reaches.pieces))
    ∙ ap (λ stack. held_with seen state asked stack (owned_of new.vector new.pieces)) (sym reaches.stack)

module _ (l : Loads ℕ) (thread : ℕ) (h : Runs) (size : ℕ) where
  part_is : (bytes : List ℕ) (offset : ℕ) (t : Bool) → nat_le (offset + size) (length bytes) ≡ t
      → shown_in plain_operations l (shows l thread) thread h size offset (Some bytes)
      ≡ SaysSo (Answered (part_shown bytes size offset)) h
  part_is bytes offset true is = rw is refl
  part_is bytes offset false is = rw is refl

  shown_is : (block : Option (List ℕ)) (offset : ℕ)
      → shown_in plain_operations l (shows l thread) thread h size offset block
      ≡ SaysSo (Answered (shown_of block size (Some offset))) h
  shown_is None offset = refl
  shown_is (Some bytes) offset = part_is bytes offset (nat_le (offset + size) (length bytes)) refl

  pub peek_shows : (x : Instance) (variable : Option ℕ)
      → shown_from plain_operations l (shows l thread) thread h size x variable
      ≡ SaysSo (Answered (shown_of (block_bytes x.number (owned_by h)) size variable)) h
  peek_shows x None = refl
  peek_shows x (Some offset) = shown_is (block_bytes x.number (owned_by h)) offset

module _ (k : Kept) (line : Line) (symbol : List ℕ) (size : ℕ) where
  loads : Loads ℕ
  loads = job_loads k.vector.images

  peek_for : Runs → Option Instance → Begun Runs
  peek_for h x = begun_peek plain_operations loads (shows loads k.vector.thread) k.vector.thread line symbol size h x

  pub peek_closed : loaded_instance (infos k.vector.images) line.told.image (module_of k.vector.past line.told.image)
      ≡ None → BeginsPeek line symbol size k (Says (Refused IsClosed)) k
  unfolding loads peek_for
  peek_closed none = over_at_once _ k (Refused IsClosed)
      (λ seen h has_seen. ap (peek_for h) (found_at k seen has_seen line.told.image ∙ none))

  pub peek_begins : (x : Instance) (new : Kept) (variable : Option ℕ) (outcome : Outcome)
      → loaded_instance (infos k.vector.images) line.told.image (module_of k.vector.past line.told.image) ≡ Some x
      → IsLive k.vector.images k.vector.past x → ReachesLive k x new
      → variable ≡ (job_loads k.vector.images).variable line.told.image symbol
      → outcome ≡ shown_of (held new.vector x.number) size variable
      → BeginsPeek line symbol size k (Says outcome) new
  unfolding loads peek_for
  peek_begins x new variable outcome is live reaches known shown = record {
    keeps = reaches.keeps;
    fresh = tt;
    past = reaches.past;
    begins = λ seen state asked has_seen.
        let h = held_at seen state asked new in
        ap (peek_for (held_at seen state asked k)) (found_at k seen has_seen line.told.image ∙ is)
        ∙ ap (λ h. shown_from plain_operations loads (shows loads k.vector.thread) k.vector.thread h size x
        (loads.variable line.told.image symbol)) (reach_holds k new x seen state asked reaches live has_seen)
        ∙ ap (λ v. shown_from plain_operations loads (shows loads k.vector.thread) k.vector.thread h size x v)
        (sym known)
        ∙ peek_shows loads k.vector.thread h size x variable
        ∙ ap (λ block. SaysSo (Answered (shown_of block size variable)) h) (block_held new seen state asked x.number)
        ∙ ap (λ o. SaysSo (Answered o) h) (sym shown);
  }
