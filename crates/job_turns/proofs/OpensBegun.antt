-- What a line comes to that opens or closes its image.
use Rattle.std.proofs.Common.{◌≡◌, ◌∙◌, ◌+◌, ◌⊎◌, ℕ, Bool, true, false, List, [], ◌∷◌, Option, Some, None, Err, length}
use Rattle.std.proofs.Common.{refl, sym, ap, subst, inl, inr, arith}
use Rattle.std.specs.Prelude.{is_some, nat_lt, option_map, if◌then◌else◌}
use Rattle.std.proofs.lemmas.Bool.{lt-ltb}
use Rattle.std.proofs.lemmas.List.{get_or-set_same, length-set}
use Rattle.guest_arithmetic.specs.Plain.{plain_operations}
use Rattle.guest_operands.specs.declared.state.State.{State}
use Rattle.job_text.specs.declared.thread_lines.Action.{Action}
use Rattle.job_text.specs.declared.thread_lines.Action.TheVariants.{Call, Open, Close, Peek}
use Rattle.loaded_modules.specs.declared.instance.Instance.{Instance}
use Rattle.loaded_modules.specs.Images.{JobImages, infos}
use Rattle.module_data.specs.Pieces.{Piece, loaded as with_piece}
use Rattle.module_table.specs.declared.events.CloseRefusal.{CloseRefusal}
use Rattle.module_table.specs.declared.events.Closed.{Closed}
use Rattle.module_table.specs.declared.events.Event.{Event}
use Rattle.module_table.specs.declared.events.OpenRefusal.{OpenRefusal}
use Rattle.module_table.specs.declared.events.Opened.{Opened}
use Rattle.module_table.specs.History.{unless}
use Rattle.module_table.specs.Modules.{is_loaded, no_module}
use Rattle.module_table.specs.Past.{Past, accepts, after_one, close_refusal, is_legal, module_of, open_refusal, opened}
use Rattle.module_table.specs.Past.{retained}
use Rattle.module_table.proofs.Steps.{loaded_within}
use Rattle.transcript_text.specs.declared.outcomes.LineRefusal.{LineRefusal}
use Rattle.transcript_text.specs.declared.outcomes.Outcome.TheVariants.{Closed as ClosedSo, Opened as OpenedSo, Refused}
use Rattle.thread_blocks.specs.declared.asked.Asked.{Asked}
use Rattle.thread_blocks.specs.Held.{loaded_at, loaded as loading, looked, looked_at}
use Rattle.thread_blocks.specs.Instances.{Loads, instance_at, loaded_instance}
use Rattle.thread_blocks.specs.JobLoads.{job_loads}
use Rattle.thread_blocks.specs.Lines.{Line, begun_close, begun_open, event_at, refused_close, refused_open}
use Rattle.thread_blocks.specs.Lines.{unless_refused, with_load}
use Rattle.thread_blocks.specs.RunTime.{Runs, shows}
use Rattle.thread_blocks.specs.Turns.{Answered, Begun, Says as SaysSo, with_last}
use Rattle.thread_vector.specs.Holding.{IsLeftBy}
use Rattle.thread_vector.specs.Vectors.{loaded_as}
use Rattle.thread_vector.proofs.Events.{shape_of}
use Rattle.thread_vector.proofs.Facts.{facts}
use Rattle.job_turns.specs.declared.asking.LineAnswer.{LineAnswer}
use Rattle.job_turns.specs.declared.asking.LineAnswer.TheVariants.{Opened as OpenAnswer, Closed as CloseAnswer}
use Rattle.job_turns.specs.Asking.{answer_to, ask_by, closed_at, opened_at}
use Rattle.job_turns.specs.Starting.{BeginsCall, BeginsClose, BeginsOpen, BeginsPeek, LoadsNew, Sees, Started, Starts}
use Rattle.thread_turns.specs.declared.parts.Started.TheVariants.{Says}
use Rattle.thread_space.specs.Kept.{HasSeen, Kept, held_at, owned_of}
use Rattle.thread_space.specs.Live.{HasStartups}
use Rattle.thread_space.specs.Steps.{HasData}
use Rattle.job_turns.proofs.HeldWith.{found_at, held_with, left_is, loaded_with, looked_with, seen_with}
use Rattle.job_turns.proofs.LinesBegun.{over_at_once, starts_so}
use Rattle.thread_space.proofs.Live.{instance_is}
use Rattle.thread_space.proofs.LoadKept.{load_kept}
use Rattle.thread_space.proofs.Looks.{see_kept}
use Rattle.std.specs.Option.{option_map_or}

-- ** answers

-- what the registry said of a line that opens or closes its image
pub open_said : (p : Past) (number image : ℕ) (action : Action) (answer : Option LineAnswer) → action ≡ Open
    → answer ≡ answer_to p (ask_by number image action)
    → answer ≡ Some (OpenAnswer (unless (option_map refused_open (open_refusal p image)) (opened_at p image)))
open_said p number image action answer opens is = is ∙ ap (λ a. answer_to p (ask_by number image a)) opens

pub close_said : (p : Past) (number image : ℕ) (action : Action) (answer : Option LineAnswer) → action ≡ Close
    → answer ≡ answer_to p (ask_by number image action)
    → answer ≡ Some (CloseAnswer (unless (option_map refused_close (close_refusal p image)) (closed_at p image)))
close_said p number image action answer closes is = is ∙ ap (λ a. answer_to p (ask_by number image a)) closes

pub open_accepts : (p : Past) (e : Event) → e.opens ≡ true → open_refusal p e.image ≡ None → accepts p e ≡ true
unfolding accepts
open_accepts p e opens none = rw (opens, none) refl

pub close_accepts : (p : Past) (e : Event) → e.opens ≡ false → close_refusal p e.image ≡ None → accepts p e ≡ true
unfolding accepts
close_accepts p e closes none = rw (closes, none) refl

pub one_legal : (p : Past) (e : Event) → accepts p e ≡ true → is_legal p (e ∷ []) ≡ true
unfolding is_legal
one_legal p e accepted = rw accepted refl

more_loaded : (n : ℕ) → nat_lt 0 (n + 1) ≡ true
more_loaded n = lt-ltb 0 (n + 1) (omega arith)

-- an image that was opened is loaded
pub opened_loaded : (images : JobImages) (p : Past) (e : Event) → IsLeftBy images p → accepts p e ≡ true
    → e.opens ≡ true → is_loaded (module_of (after_one p e) e.image) ≡ true
unfolding after_one opened retained
opened_loaded images p e left accepted opens = elim (shape_of p e (facts images p left).is accepted) [
  | inl keeps ↦
      let m = module_of p e.image in
      let within = (loaded_within p e.image (facts images p left).is keeps.1).0 in
      rw (opens, keeps.1)
      (ap is_loaded (get_or-set_same p.modules e.image (record m { uses = m.uses + 1 }) no_module within)
      ∙ more_loaded m.uses)
  | inr loads ↦ ap is_loaded loads.0.here
]

-- ** the thread's own event

module _ (old mid : Kept) (e : Event) (sees : Sees old e mid) (startups : HasStartups old.vector)
    (accepted : accepts old.vector.past e ≡ true)
    (seen : List Event) (state : State ℕ Bool) (asked : Option Asked) (has_seen : HasSeen old.vector seen) where
  pub has_all : HasSeen mid.vector (with_last seen e)
  has_all = seen_with old mid (Some e) seen sees.keeps.images sees.past has_seen

  -- what the look leaves
  pub looks : looked (job_loads old.vector.images) old.vector.thread (with_last seen e) (held_at seen state asked old)
      ≡ held_with (with_last seen e) state asked mid.stack
      (looked_at (job_loads mid.vector.images) mid.vector.thread (with_last seen e)
      (owned_of old.vector old.pieces))
  looks =
      looked_with (job_loads old.vector.images) old.vector.thread seen state asked old.stack
      (owned_of old.vector old.pieces) (with_last seen e)
      ∙ ap (λ m. held_with (with_last seen e) state asked old.stack
      (looked_at (job_loads m) old.vector.thread (with_last seen e) (owned_of old.vector old.pieces)))
      (sym sees.keeps.images)
      ∙ ap (λ t. held_with (with_last seen e) state asked old.stack
      (looked_at (job_loads mid.vector.images) t (with_last seen e) (owned_of old.vector old.pieces)))
      (sym sees.keeps.thread)
      ∙ ap (λ s. held_with (with_last seen e) state asked s
      (looked_at (job_loads mid.vector.images) mid.vector.thread (with_last seen e) (owned_of old.vector old.pieces)))
      (sym sees.stack)

  -- where no instance is new, that is what the code keeps
  pub looks_so : (e.opens ≡ false) ⊎ (is_loaded (module_of old.vector.past e.image) ≡ true)
      → looked (job_loads old.vector.images) old.vector.thread (with_last seen e) (held_at seen state asked old)
      ≡ held_at (with_last seen e) state asked mid
  looks_so why =
      looks
      ∙ ap (held_with (with_last seen e) state asked mid.stack)
      (see_kept old.vector mid.vector old.pieces
      (with_last seen e) e sees.keeps.images has_all sees.was sees.left sees.blocks startups sees.past accepted why
      ∙ ap (owned_of mid.vector) (sym sees.pieces))

  -- and a load fills the data of the new one
  pub loads_so : (new : Kept) (x : Instance) → is_loaded (module_of old.vector.past e.image) ≡ false
      → length old.pieces ≡ length old.vector.images.images + 1
      → x ≡ loaded_as mid.vector.images mid.vector.past e.image
      → HasData mid (with_piece mid.vector.images x mid.pieces) new
      → loading (job_loads old.vector.images) old.vector.thread x
      (looked (job_loads old.vector.images) old.vector.thread (with_last seen e) (held_at seen state asked old))
      ≡ held_at (with_last seen e) state asked new
  loads_so new x unloaded long is puts =
      let xs = looked_at (job_loads mid.vector.images) mid.vector.thread (with_last seen e)
      (owned_of old.vector old.pieces) in
      let longer : length old.pieces ≡ length mid.vector.images.images + 1 = long
      ∙ ap (λ m. length m.images + 1) (sym sees.keeps.images) in
      ap (loading (job_loads old.vector.images) old.vector.thread x) looks
      ∙ loaded_with (job_loads old.vector.images) old.vector.thread (with_last seen e) state asked mid.stack xs x
      ∙ ap (λ m. held_with (with_last seen e) state asked mid.stack
      (loaded_at (job_loads m) old.vector.thread (with_last seen e) x xs)) (sym sees.keeps.images)
      ∙ ap (λ t. held_with (with_last seen e) state asked mid.stack
      (loaded_at (job_loads mid.vector.images) t (with_last seen e) x xs)) (sym sees.keeps.thread)
      ∙ ap (λ y. held_with (with_last seen e) state asked mid.stack
      (loaded_at (job_loads mid.vector.images) mid.vector.thread (with_last seen e) y xs)) is
      ∙ ap (held_with (with_last seen e) state asked mid.stack)
      (load_kept old.vector mid.vector old.pieces
      (with_last seen e) e sees.keeps.images has_all sees.was sees.left sees.blocks startups sees.past accepted unloaded longer)
      ∙ rw (puts.data_is, puts.vector, puts.stack, is, sees.pieces) refl

-- ** closes

-- the event of a line that opens or closes its image
abbrev own_event : Kept → Line → Bool → Event
own_event k line opens = event_at k.vector.thread line.number opens line.told.image

pub close_refused : (k : Kept) (line : Line) (answer : Closed) (said : LineRefusal) (refusal : Option CloseRefusal)
    → close_refusal k.vector.past line.told.image ≡ refusal
    → Err said ≡ unless (option_map refused_close refusal) answer
    → BeginsClose line k (Says (Refused said)) k
close_refused k line answer said None none is = absurd cc
close_refused k line answer said (Some why) some is =
    let same : said ≡ refused_close why = cc in
    subst (λ x. BeginsClose line k (Says (Refused x)) k) (sym same)
    (rw some (over_at_once _ k (Refused (refused_close why)) (λ seen h has_seen. refl)))

pub close_begins : (old new : Kept) (line : Line) → close_refusal old.vector.past line.told.image ≡ None
    → HasStartups old.vector
    → Sees old (own_event old line false) new → BeginsClose line old (Says ClosedSo) new
close_begins old new line none startups sees = rw none (record {
  keeps = sees.keeps;
  fresh = tt;
  past = sees.past;
  begins = λ seen state asked has_seen. ap (SaysSo (Answered ClosedSo))
      (looks_so old new (own_event old line false) sees startups
      (close_accepts old.vector.past _ refl none) seen state asked has_seen (inl refl));
})

-- ** opens

pub open_refused : (k : Kept) (line : Line) (answer : Opened) (said : LineRefusal) (refusal : Option OpenRefusal)
    → open_refusal k.vector.past line.told.image ≡ refusal → Err said ≡ unless (option_map refused_open refusal) answer
    → BeginsOpen line k (Says (Refused said)) k
open_refused k line answer said None none is = absurd cc
open_refused k line answer said (Some why) some is =
    let same : said ≡ refused_open why = cc in
    subst (λ x. BeginsOpen line k (Says (Refused x)) k) (sym same)
    (rw some (over_at_once _ k (Refused (refused_open why)) (λ seen h has_seen. refl)))

was_loaded : (t : Bool) (x : Instance) → is_some (if t then Some x else None) ≡ t
was_loaded true x = refl
was_loaded false x = refl

opens_past : (p : Past) (thread number image : ℕ) → after_one p (event_at thread number true image) ≡ opened p image
unfolding after_one
opens_past p thread number image = refl

module _ (old mid : Kept) (line : Line) (sees : Sees old (own_event old line true) mid)
    (none : open_refusal old.vector.past line.told.image ≡ None) (startups : HasStartups old.vector) where
  accepted : accepts old.vector.past (own_event old line true) ≡ true
  accepted = open_accepts old.vector.past (own_event old line true) refl none

  -- the instance that is live then
  x : Instance
  x = loaded_as mid.vector.images mid.vector.past line.told.image

  loaded_then : is_loaded (module_of mid.vector.past line.told.image) ≡ true
  loaded_then =
      ap (λ p. is_loaded (module_of p line.told.image)) sees.past
      ∙ opened_loaded old.vector.images old.vector.past (own_event old line true) sees.was accepted refl

  found_then : loaded_instance (infos mid.vector.images) line.told.image (module_of mid.vector.past line.told.image)
      ≡ Some x
  unfolding x
  found_then = instance_is mid.vector.images mid.vector.past line.told.image ∙ rw loaded_then refl

  number_then : (module_of (opened old.vector.past line.told.image) line.told.image).instance ≡ x.number
  unfolding x
  number_then = ap (λ p. (module_of p line.told.image).instance)
      (sym (sees.past ∙ opens_past old.vector.past old.vector.thread line.number line.told.image))

  module _ (seen : List Event) (state : State ℕ Bool) (asked : Option Asked) (has_seen : HasSeen old.vector seen) where
    l : Loads ℕ
    l = job_loads old.vector.images

    at_once : Bool → Option Instance → Begun Runs
    at_once was o = SaysSo (Answered (OpenedSo (option_map_or (λ (x : Instance). x.number) o 0)))
        (with_load plain_operations l (shows l old.vector.thread) old.vector.thread was o
        (looked l old.vector.thread (with_last seen (own_event old line true)) (held_at seen state asked old)))

    begun_at_once : begun_open plain_operations (job_loads old.vector.images)
        (shows (job_loads old.vector.images) old.vector.thread) old.vector.thread line seen
        (held_at seen state asked old) None
        ≡ at_once (is_loaded (module_of old.vector.past line.told.image)) (Some x)
    unfolding l at_once
    begun_at_once =
        let now = with_last seen (own_event old line true) in
        ap (λ p. at_once (is_loaded (module_of p line.told.image)) (instance_at l now line.told.image))
        (left_is old seen has_seen)
        ∙ ap (at_once (is_loaded (module_of old.vector.past line.told.image)))
        (ap (λ m. instance_at (job_loads m) now line.told.image) (sym sees.keeps.images)
        ∙ found_at mid now (has_all old mid
        (own_event old line true) sees startups accepted seen state asked has_seen) line.told.image
        ∙ found_then)

    by_was : (new : Kept) (was : Bool) → is_loaded (module_of old.vector.past line.told.image) ≡ was
        → length old.pieces ≡ length old.vector.images.images + 1
        → LoadsNew was (Some x) mid new
        → at_once was (Some x) ≡ SaysSo (Answered (OpenedSo x.number))
        (held_at (with_last seen (own_event old line true)) state asked new)
    unfolding l at_once x
    by_was new true is long same =
        ap (SaysSo (Answered (OpenedSo x.number)))
        (looks_so old mid (own_event old line true) sees startups accepted seen state asked has_seen (inr is)
        ∙ ap (held_at (with_last seen (own_event old line true)) state asked) (sym same))
    by_was new false is long puts =
        ap (SaysSo (Answered (OpenedSo x.number)))
        (loads_so old mid (own_event old line true) sees startups accepted seen state asked has_seen new x is long refl puts)

    opens_so : (new : Kept) → length old.pieces ≡ length old.vector.images.images + 1
        → LoadsNew (is_loaded (module_of old.vector.past line.told.image)) (Some x) mid new
        → begun_open plain_operations (job_loads old.vector.images)
        (shows (job_loads old.vector.images) old.vector.thread) old.vector.thread line seen
        (held_at seen state asked old) None
        ≡ SaysSo (Answered (OpenedSo x.number)) (held_at (with_last seen (own_event old line true)) state asked new)
    opens_so new long load = begun_at_once
        ∙ by_was new (is_loaded (module_of old.vector.past line.told.image)) refl long load

length_loaded : (m : JobImages) (x : Instance) (d : List Piece) → length (with_piece m x d) ≡ length d
unfolding with_piece
length_loaded m x d = length-set d x.image _

load_same : (was : Bool) (x : Instance) (old new : Kept) → LoadsNew was (Some x) old new
    → (new.vector ≡ old.vector) × (length new.pieces ≡ length old.pieces)
load_same true x old new same = (ap (λ k. k.vector) same, ap (λ k. length k.pieces) same)
load_same false x old new puts = (puts.vector, ap length puts.data_is ∙ length_loaded old.vector.images x old.pieces)

pub open_begins : (old mid new : Kept) (line : Line) (was : Bool) (instance : ℕ)
    → open_refusal old.vector.past line.told.image ≡ None
    → HasStartups old.vector → length old.pieces ≡ length old.vector.images.images + 1
    → Sees old (own_event old line true) mid
    → was ≡ is_some (loaded_instance (infos old.vector.images) line.told.image
    (module_of old.vector.past line.told.image))
    → LoadsNew was (loaded_instance (infos mid.vector.images) line.told.image
    (module_of mid.vector.past line.told.image)) mid new
    → instance ≡ (module_of (opened old.vector.past line.told.image) line.told.image).instance
    → BeginsOpen line old (Says (OpenedSo instance)) new
open_begins old mid new line was instance none startups long sees was_is load gives =
    let found = found_then old mid line sees none startups in
    let was_so : was ≡ is_loaded (module_of old.vector.past line.told.image) =
    was_is ∙ ap is_some (instance_is old.vector.images old.vector.past line.told.image) ∙ was_loaded _ _ in
    let load : LoadsNew (is_loaded (module_of old.vector.past line.told.image))
    (Some (x old mid line sees none startups)) mid new =
    subst (λ o. LoadsNew (is_loaded (module_of old.vector.past line.told.image)) o mid new) found
    (subst (λ t. LoadsNew t
    (loaded_instance (infos mid.vector.images) line.told.image
    (module_of mid.vector.past line.told.image)) mid new) was_so load) in
    let same = load_same (is_loaded (module_of old.vector.past line.told.image))
    (x old mid line sees none startups) mid new load in
    rw none (record {
      keeps = record {
        thread = ap (λ v. v.thread) same.0 ∙ sees.keeps.thread;
        images = ap (λ v. v.images) same.0 ∙ sees.keeps.images;
        startups = λ has. subst HasStartups (sym same.0) (sees.keeps.startups has);
        pieces = same.1 ∙ sees.keeps.pieces;
      };
      fresh = tt;
      past = ap (λ v. v.past) same.0 ∙ sees.past;
      begins = λ seen state asked has_seen.
          opens_so old mid line sees none startups seen state asked has_seen new long load
          ∙ ap (λ n. SaysSo (Answered (OpenedSo n))
          (held_at (with_last seen (own_event old line true)) state asked new))
          (sym (gives ∙ number_then old mid line sees none startups));
    })

-- ** lines of each kind

module _ (line : Line) (old new : Kept) (result : Started) where
  pub call_starts : (symbol : List ℕ) (a b c : ℕ) → line.told.action ≡ Call symbol a b c
      → BeginsCall line.told.image symbol a b c old result new → Starts line old result new
  call_starts symbol a b c is begins =
      starts_so line old new result None _ begins (λ seen has_seen. rw is refl) (λ seen h has_seen. rw is refl)

  pub peek_starts : (symbol : List ℕ) (size : ℕ) → line.told.action ≡ Peek symbol size
      → BeginsPeek line symbol size old result new → Starts line old result new
  peek_starts symbol size is begins =
      starts_so line old new result None _ begins (λ seen has_seen. rw is refl) (λ seen h has_seen. rw is refl)

  pub open_starts : line.told.action ≡ Open → BeginsOpen line old result new → Starts line old result new
  open_starts is begins =
      starts_so line old new result _ _ begins
      (λ seen has_seen. rw is
      (ap (λ p. unless_refused (open_refusal p line.told.image) (own_event old line true))
      (left_is old seen has_seen)))
      (λ seen h has_seen. rw is
      (ap (λ p. begun_open plain_operations (job_loads old.vector.images)
      (shows (job_loads old.vector.images) old.vector.thread) old.vector.thread line seen h
      (open_refusal p line.told.image)) (left_is old seen has_seen)))

  pub close_starts : line.told.action ≡ Close → BeginsClose line old result new → Starts line old result new
  close_starts is begins =
      starts_so line old new result _ _ begins
      (λ seen has_seen. rw is
      (ap (λ p. unless_refused (close_refusal p line.told.image) (own_event old line false))
      (left_is old seen has_seen)))
      (λ seen h has_seen. rw is
      (ap (λ p. begun_close plain_operations (job_loads old.vector.images)
      (shows (job_loads old.vector.images) old.vector.thread) old.vector.thread line seen h
      (close_refusal p line.told.image)) (left_is old seen has_seen)))
