-- After the last turn: what the threads said, the whole order, and whose images the events name.
use Rattle.std.proofs.Common.{◌≡◌, ◌++◌, ◌+◌, ◌*◌, ◌≤◌, ◌<◌, ℕ, Bool, true, false, List, [], ◌∷◌, length, map, Option}
use Rattle.std.proofs.Common.{Some, None, Result, Ok, Err, refl, sym, ap, ◌∙◌, inl, inr, arith}
use Rattle.std.specs.Prelude.{All, IfOk, if◌then◌else◌, nat_lt, not}
use Rattle.std.proofs.lemmas.Bool.{and_parts, cases_Bool}
use Rattle.std.proofs.lemmas.List.{length-map}
use Rattle.std.proofs.lemmas.List.Elements.{All-cons, All-nil}
use Rattle.job_text.specs.declared.images.Image.{Image}
use Rattle.job_text.specs.Images.{IsImageNumber}
use Rattle.job_text.specs.Jobs.{JobParts}
use Rattle.link_faults.specs.declared.image_kind.ImageKind.{ImageKind}
use Rattle.image_file.specs.Spelled.{Spelled}
use Rattle.loaded_modules.specs.Images.{JobImages, infos, infos_of, last_offset}
use Rattle.module_table.specs.declared.events.Event.{Event}
use Rattle.module_table.specs.declared.events.OpenRefusal.{OpenRefusal}
use Rattle.module_table.specs.declared.events.OpenRefusal.TheVariants.{Unknown}
use Rattle.module_table.specs.Past.{IsLegal}
use Rattle.module_table.specs.Modules.{is_loaded}
use Rattle.module_table.specs.Past.{Past, accepts, after_one, is_legal, loaded, module_of, open_refusal, released}
use Rattle.module_table.specs.Past.{retained, start}
use Rattle.module_table.specs.Tables.{IsPast}
use Rattle.module_table.proofs.Along.{IsKept, kept_step, past_step}
use Rattle.module_table.proofs.Refusals.{accepts_close, accepts_open, held}
use Rattle.module_table.proofs.StartLemmas.{length-first_modules}
use Rattle.module_table.proofs.Starting.{past_start}
use Rattle.module_table.proofs.Steps.{late_within, loaded_within}
use Rattle.thread_blocks.specs.JobLoads.{job_loads}
use Rattle.thread_blocks.specs.JobWorlds.{Shared, Tells, job_start, job_world}
use Rattle.thread_blocks.specs.Lines.{Line}
use Rattle.thread_blocks.specs.MachineTurns.{shown}
use Rattle.thread_blocks.specs.Turns.{finishing}
use Rattle.transcript_text.specs.Texts.{Shown}
use Rattle.job_turns.specs.Standing.{Run}
use Rattle.job_turns.specs.Progress.{IsFirst, Runners, Stands, StandsForSome, is_over}
use Rattle.job_turns.specs.Turning.{TurnedIn}
use Rattle.job_turns.specs.Transcripts.{transcript_of}
use Rattle.job_turns.proofs.FirstTurn.{first_stands}
use Rattle.thread_turns.proofs.Lists.{same_images, set-length}
use Rattle.job_turns.proofs.Orders.{turns_stand}
use Rattle.thread_turns.specs.Orders.{TakesTurns}
use Rattle.thread_turns.proofs.Orders.{takes_both}
use Rattle.guest_arithmetic.specs.Plain.{plain_operations}

-- ---- the transcript

map-map : {X Y Z : Type 0} (f : Y → Z) (g : X → Y) (xs : List X) → map f (map g xs) ≡ map (λ x. f (g x)) xs
map-map f g [] = refl
map-map f g (x ∷ xs) = ap (λ ys. f (g x) ∷ ys) (map-map f g xs)

pub stands_shown : (m : JobImages) (fuel : ℕ) (w : Shared ℕ Bool ℕ Line) (x : Runners) → Stands m fuel w x
    → Tells w (transcript_of x)
stands_shown m fuel w x stands = record {
  events = stands.events_are;
  lines = map-map (map Some) (λ (r : Run). r.said) x.runs
      ∙ same_images (λ (r : Run). map Some r.said) (λ t. map shown t.said) x.runs w.threads stands.count
      (λ k r t at_r at_t. sym (stands.each k r t at_r at_t).stands.said);
}

-- ---- before the first turn it stands for the threads of its job

pub first_some : (m : JobImages) (job : JobParts) (x : Runners) → IsFirst m job x → StandsForSome x
first_some m job x first = record {
  images = m;
  fuel = job.fuel;
  world = job_start plain_operations (job_loads m) job.lines;
  stands = first_stands m job x first;
}

-- ---- images of events

is_late_of : (late is_in : Bool) (rest : Option OpenRefusal)
    → ◌≡◌ {A = Option OpenRefusal} (if not late then Some Unknown else rest) None → late ≡ true
is_late_of true is_in rest e = refl
is_late_of false is_in rest e = cc

open_late : (p : Past) (image : ℕ) → open_refusal p image ≡ None → (module_of p image).info.late ≡ true
unfolding open_refusal
open_late p image none = is_late_of (module_of p image).info.late true _ none

abbrev Within : Past → ℕ → Type 0
Within p image = (image < length p.modules) × (1 ≤ image)

accepted_within : (p : Past) (e : Event) → IsPast p → accepts p e ≡ true → Within p e.image
accepted_within p e is accepted = elim (cases_Bool e.opens) [
  | inl opens ↦ late_within p e.image is (open_late p e.image (accepts_open p e accepted opens))
  | inr closes ↦
      let some : is_loaded (module_of p e.image) ≡ true =
      used (module_of p e.image).uses (held p e.image (accepts_close p e accepted closes)) in
      loaded_within p e.image is some
]
  where
    used : (n : ℕ) → 0 < n → nat_lt 0 n ≡ true
    used n some = grind arith

-- there are as many images as before
count_kept : (n : ℕ) → IsKept (λ p. length p.modules ≡ n)
unfolding retained loaded released
count_kept n = record {
  retained = λ p image long is. set-length p.modules image _ ∙ long;
  loaded = λ p image long can. set-length p.modules image _ ∙ long;
  released = λ p image long used. set-length p.modules image _ ∙ long;
}

images_within : (n : ℕ) (p : Past) (events : List Event) → IsPast p → length p.modules ≡ n + 1
    → is_legal p events ≡ true
    → All (λ e. (1 ≤ e.image) × (e.image ≤ n)) events
unfolding is_legal
images_within n p [] is long legal = All-nil (λ (e : Event). (1 ≤ e.image) × (e.image ≤ n))
images_within n p (e ∷ events) is long legal =
    let parts = and_parts (accepts p e) (is_legal (after_one p e) events) legal in
    let here = accepted_within p e is parts.0 in
    All-cons (λ (e : Event). (1 ≤ e.image) × (e.image ≤ n)) e events (here.1, omega (arith, here.0, long))
    (images_within n (after_one p e) events (past_step p e is parts.0)
    (kept_step (λ q. length q.modules ≡ n + 1) (count_kept (n + 1)) p e long parts.0) parts.1)

few_infos : (kinds : List ImageKind) (images : List Spelled) → length (infos_of kinds images) ≤ length kinds
few_infos [] images = omega arith
few_infos (kind ∷ kinds) [] = omega arith
few_infos (kind ∷ kinds) (image ∷ images) = let fewer = few_infos kinds images in omega arith

module _ (m : JobImages) (images : List Image) (are : m.kinds ≡ map (λ image. image.kind) images) where
  few_images : length (infos m) ≤ length images
  unfolding infos
  few_images =
      let few = few_infos m.kinds m.images in
      let long : length m.kinds ≡ length images = ap length are ∙ length-map images (λ image. image.kind) in
      omega (arith, few, long)

  first-length : length (start (infos m) (last_offset m)).modules ≡ length (infos m) + 1
  unfolding start
  first-length = let long = length-first_modules (infos m) 1 in omega (arith, long)

  pub named_images : (events : List Event) → IsLegal (infos m) (last_offset m) events
      → All (λ event. IsImageNumber images event.image) events
  named_images events legal k d less =
      let each = images_within (length (infos m)) (start (infos m) (last_offset m)) events
      (past_start (infos m) (last_offset m) legal.images legal.low) first-length legal.each k d less in
      (each.0, omega (arith, each.1, few_images))

-- ---- all of it

module _ (m : JobImages) (job : JobParts) (x y z : Runners) (first : IsFirst m job x)
    (takes : TakesTurns is_over TurnedIn x job.order y)
    (finishes : TakesTurns is_over TurnedIn y (finishing (4 * job.fuel) 1 job.lines) z) where
  whole_world : Stands m job.fuel (job_world (job_loads m) job.fuel job.lines job.order) z
  unfolding job_world
  whole_world =
      turns_stand m job.fuel (job.order ++ finishing (4 * job.fuel) 1 job.lines)
      (job_start plain_operations (job_loads m) job.lines) x z
      (first_stands m job x first)
      (takes_both is_over TurnedIn x y z job.order (finishing (4 * job.fuel) 1 job.lines) takes finishes)

  pub all_shown : {X : Type 0} (result : Result Shown X) → IfOk result (λ shown. shown ≡ transcript_of z)
      → IfOk result (λ shown. Tells (job_world (job_loads m) job.fuel job.lines job.order) shown)
  all_shown (Ok shown) is =
      rw is (stands_shown m job.fuel (job_world (job_loads m) job.fuel job.lines job.order) z whole_world)
  all_shown (Err why) is = tt

  pub all_named : {X : Type 0} (result : Result Shown X) → m.kinds ≡ map (λ image. image.kind) job.images
      → IfOk result (λ shown. shown ≡ transcript_of z)
      → IfOk result (λ shown. All (λ event. IsImageNumber job.images event.image) shown.events)
  all_named (Ok shown) are is =
      rw (is, whole_world.events_are)
      (named_images m job.images are (job_world (job_loads m) job.fuel job.lines job.order).events whole_world.legal)
  all_named (Err why) are is = tt
