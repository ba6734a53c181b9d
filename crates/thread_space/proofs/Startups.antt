-- The images that start with the program stay, each as the instance of its number.
use Rattle.std.proofs.Common.{◌≡◌, ◌∙◌, ◌+◌, ◌<◌, ◌≤◌, ◌^◌, ℕ, zero, suc, true, false, cond, List, [], ◌∷◌, length}
use Rattle.std.proofs.Common.{get_or, Some, None, refl, sym, ap, subst, arith, inl, inr}
use Rattle.std.specs.Prelude.{not, AllPairs}
use Rattle.std.proofs.lemmas.Bool.{both_ways, cases_Bool, cases_eq, false_from_ne_true, lt-ltb}
use Rattle.std.proofs.lemmas.List.{get_or-set_same}
use Rattle.std.proofs.lemmas.List.Sums.{count_by-le-length, sum_by-cons}
use Rattle.std.proofs.lemmas.Option.{none-some}
use Rattle.loaded_modules.specs.Images.{JobImages, infos, last_offset}
use Rattle.module_table.specs.declared.events.CloseRefusal.TheVariants.{Permanent}
use Rattle.module_table.specs.declared.events.Event.{Event}
use Rattle.module_table.specs.declared.modules.ImageInfo.{ImageInfo}
use Rattle.module_table.specs.declared.modules.Module.{Module}
use Rattle.module_table.specs.Modules.{AreInfos, is_loaded, no_module}
use Rattle.module_table.specs.Past.{Past, accepts, after, after_one, close_refusal, first_module, first_modules}
use Rattle.module_table.specs.Past.{is_legal, module_of, opened, past, retained, start, startup_count}
use Rattle.module_table.specs.PastLaws.{image_of}
use Rattle.module_table.specs.Tables.{IsPast}
use Rattle.module_table.proofs.Along.{past_step}
use Rattle.module_table.proofs.LawsOfNumbers.{others_stay}
use Rattle.module_table.proofs.Refusals.{accepts_close}
use Rattle.module_table.proofs.Starting.{own_number, past_start}
use Rattle.module_table.proofs.Steps.{loaded_within}
use Rattle.std.proofs.lemmas.Bool.{and_parts}
use Rattle.thread_vector.specs.Holding.{IsLeftBy}
use Rattle.thread_vector.proofs.Events.{shape_of}
use Rattle.thread_vector.proofs.Facts.{facts, image_is}

pub record StartupsStay (xs : List ImageInfo) (p : Past) : Type 0 where
  -- an image that is loaded, and not late, is one of those, as the instance of its number
  pub early : (image : ℕ) → is_loaded (module_of p image) ≡ true → (module_of p image).info.late ≡ false
      → ((module_of p image).instance ≡ image) × (1 ≤ image) × (image ≤ startup_count xs)
  -- each of them is loaded, and not late
  pub stay : (image : ℕ) → 1 ≤ image → image ≤ startup_count xs
      → (is_loaded (module_of p image) ≡ true) × ((module_of p image).info.late ≡ false)

-- ** before any event

none_counted : (xs : List ImageInfo) (d : ImageInfo) → ((j : ℕ) → j < length xs → (get_or xs j d).late ≡ true)
    → startup_count xs ≡ 0
none_counted [] d late = refl
none_counted (x ∷ xs) d late =
    let here : startup_count (x ∷ xs) ≡ 0 + startup_count xs =
    rw (sum_by-cons (λ (i : ImageInfo). cond (not i.late) 1 0) x xs, late 0 (omega arith)) refl in
    omega (arith, here, none_counted xs d (λ j l. late (suc j) (omega (arith, l))))

-- behind a late image none is counted
few_before : (xs : List ImageInfo) (k : ℕ) (d : ImageInfo)
    → AllPairs (λ (a b : ImageInfo). a.late ≡ true → b.late ≡ true) xs
    → k < length xs → (get_or xs k d).late ≡ true → startup_count xs ≤ k
few_before [] k d last l late = absurd (omega (arith, l))
few_before (x ∷ xs) zero d last l late =
    omega (arith, none_counted (x ∷ xs) d (every d last late))
  where
    every : (d : ImageInfo) → AllPairs (λ (a b : ImageInfo). a.late ≡ true → b.late ≡ true) (x ∷ xs) → x.late ≡ true
        → (j : ℕ) → j < length (x ∷ xs) → (get_or (x ∷ xs) j d).late ≡ true
    every d last late zero l = late
    every d last late (suc j) l = last 0 (suc j) d (omega arith) l late
few_before (x ∷ xs) (suc k) d last l late =
    let rest : startup_count xs ≤ k =
    few_before xs k d (λ i j e h m. last (suc i) (suc j) e (omega (arith, h)) (omega (arith, m)))
    (omega (arith, l)) late in
    let here : startup_count (x ∷ xs) ≡ cond (not x.late) 1 0 + startup_count xs =
    sum_by-cons (λ (i : ImageInfo). cond (not i.late) 1 0) x xs in
    let one : cond (not x.late) 1 0 ≤ 1 =
    elim x.late as (λ b. cond (not b) 1 0 ≤ 1) [ true ↦ omega arith | false ↦ omega arith ] in
    omega (arith, rest, here, one)

first_at : (xs : List ImageInfo) (image k : ℕ) (d : ImageInfo) → k < length xs
    → get_or (first_modules xs image) k no_module ≡ first_module (get_or xs k d) (image + k)
first_at [] image k d l = absurd (omega (arith, l))
first_at (x ∷ xs) image zero d l = ap (first_module x) (omega arith)
first_at (x ∷ xs) image (suc k) d l = first_at xs (image + 1) k d (omega (arith, l))
    ∙ ap (first_module (get_or xs k d)) (omega arith)

started : (info : ImageInfo) (image : ℕ) → info.late ≡ false
    → (is_loaded (first_module info image) ≡ true) × ((first_module info image).info.late ≡ false)
started info image early = rw early (refl, refl)

-- the first images are those
pub early_info : (xs : List ImageInfo) (k : ℕ) (d : ImageInfo) → AreInfos xs → k < startup_count xs
    → (k < length xs) × ((get_or xs k d).late ≡ false)
early_info xs k d are few =
    let l : k < length xs = omega (arith, few, count_by-le-length (λ (i : ImageInfo). not i.late) xs) in (
      l,
      false_from_ne_true _
          (λ late. absurd (let more = few_before xs k d are.late_last l late in omega (arith, few, more))),
    )

at_first : (xs : List ImageInfo) (last_offset image : ℕ) → AreInfos xs → 1 ≤ image → image ≤ startup_count xs
    → (is_loaded (module_of (start xs last_offset) image) ≡ true)
    × ((module_of (start xs last_offset) image).info.late ≡ false)
unfolding start
at_first xs last_offset zero are low high = absurd (omega (arith, low))
at_first xs last_offset (suc k) are low high =
    let early = early_info xs k no_module.info are (omega (arith, high)) in
    subst (λ (m : Module). (is_loaded m ≡ true) × (m.info.late ≡ false)) (sym (first_at xs 1 k no_module.info early.0))
    (started (get_or xs k no_module.info) (1 + k) early.1)

pub stay_start : (xs : List ImageInfo) (last_offset : ℕ) → AreInfos xs → StartupsStay xs (start xs last_offset)
unfolding start
stay_start xs last_offset are = record {
  early = λ image loaded early. let own = own_number xs image are loaded in (own.0, own.2, own.3);
  stay = λ image low high. at_first xs last_offset image are low high;
}

-- ** one event

closed_late : (p : Past) (image : ℕ) → close_refusal p image ≡ None → is_loaded (module_of p image) ≡ true
    → (module_of p image).info.late ≡ false → ⊥
unfolding close_refusal
closed_late p image none loaded early = none-some Permanent (sym (rw (loaded, early) at none))

-- it opens a startup image once more
opened_again : (p : Past) (image : ℕ) → IsPast p → is_loaded (module_of p image) ≡ true
    → (module_of p image).info.late ≡ false
    → (is_loaded (module_of (opened p image) image) ≡ true) × ((module_of (opened p image) image).info.late ≡ false)
unfolding opened retained
opened_again p image is loaded early =
    rw (
      loaded,
      get_or-set_same p.modules image
          (record (module_of p image) { uses = (module_of p image).uses + 1 }) no_module
          (loaded_within p image is loaded).0,
    )
    (lt-ltb 0 ((module_of p image).uses + 1) (omega arith), early)

stays_on : (xs : List ImageInfo) (p : Past) (e : Event) → IsPast p → accepts p e ≡ true → StartupsStay xs p
    → (image : ℕ) → 1 ≤ image → image ≤ startup_count xs
    → (is_loaded (module_of (after_one p e) image) ≡ true) × ((module_of (after_one p e) image).info.late ≡ false)
unfolding after_one
stays_on xs p e is accepted was image low high =
    let here = was.stay image low high in
    elim (cases_eq e.image image) [
      | inl same ↦ elim (cases_Bool e.opens) [
        | inl opens ↦ rw (opens, same) (opened_again p image is here.0 here.1)
        | inr closes ↦ absurd (closed_late p image (rw same at (accepts_close p e accepted closes)) here.0 here.1)
      ]
      | inr other ↦ rw (others_stay p e image other) here
    ]

stay_on : (xs : List ImageInfo) (p : Past) (e : Event) → IsPast p → accepts p e ≡ true → StartupsStay xs p
    → StartupsStay xs (after_one p e)
stay_on xs p e is accepted was = record {
  early = λ image loaded early. elim (shape_of p e is accepted) [
    | inl keeps ↦
        let same = keeps.0.each image in
        let old = was.early image (same.held loaded) (sym (ap (λ (i : ImageInfo). i.late) same.info) ∙ early) in
        (same.instance ∙ old.0, old.1, old.2)
    | inr loads ↦ elim (cases_eq image e.image) [
      | inl here ↦ absurd (both_ways _ early
          (ap (λ k. (module_of (after_one p e) k).info.late) here ∙ ap (λ (m : Module). m.info.late) loads.0.here
          ∙ loads.0.can.late))
      | inr other ↦
          let same = loads.0.others image other in
          let old = was.early image (rw same at loaded) (rw same at early) in
          (ap (λ (m : Module). m.instance) same ∙ old.0, old.1, old.2)
    ]
  ];
  stay = λ image low high. stays_on xs p e is accepted was image low high;
}

-- ** a history

stay_along : (xs : List ImageInfo) (p : Past) (events : List Event) → IsPast p → is_legal p events ≡ true
    → StartupsStay xs p → StartupsStay xs (after p events)
unfolding is_legal
stay_along xs p [] is legal was = was
stay_along xs p (e ∷ es) is legal was =
    let parts = and_parts (accepts p e) (is_legal (after_one p e) es) legal in
    stay_along xs (after_one p e) es (past_step p e is parts.0) parts.1 (stay_on xs p e is parts.0 was)

stay_past : (xs : List ImageInfo) (last_offset : ℕ) (events : List Event) → AreInfos xs → last_offset < 2 ^ 27
    → is_legal (start xs last_offset) events ≡ true → StartupsStay xs (past xs last_offset events)
unfolding past
stay_past xs last_offset events are low legal =
    stay_along xs (start xs last_offset) events (past_start xs last_offset are low) legal
    (stay_start xs last_offset are)

pub startups_stay_in : (m : JobImages) (p : Past) → IsLeftBy m p → StartupsStay (infos m) p
startups_stay_in m p left =
    subst (StartupsStay (infos m)) (sym left.left)
    (stay_past (infos m) (last_offset m) left.events left.legal.images left.legal.low left.legal.each)

-- each of them is the image of its number
pub startup_image : (m : JobImages) (p : Past) (number : ℕ) → IsLeftBy m p → 1 ≤ number
    → number ≤ startup_count (infos m) → image_of p number ≡ Some number
startup_image m p number left low high =
    let is = startups_stay_in m p left in
    let here = is.stay number low high in
    subst (λ n. image_of p n ≡ Some number) (is.early number here.0 here.1).0
    (image_is p number (facts m p left).own here.0)
