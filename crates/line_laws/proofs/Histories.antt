-- What a walk along the events keeps of each image is what counting finds.
use Rattle.std.proofs.Common.{◌≡◌, ◌↔◌, ◌⊎◌, ◌∙◌, ◌+◌, ◌*◌, ◌<◌, ◌≤◌, ℕ, zero, suc, Bool, true, false, List, [], ◌∷◌}
use Rattle.std.proofs.Common.{get_or, Option, Some, None, refl, sym, ap, subst, inl, inr, arith}
use Rattle.std.specs.Prelude.{◌&&◌, not, nat_le, nat_lt, slice_get, if◌then◌else◌}
use Rattle.std.proofs.lemmas.Bool.{cases_Bool, lt-ltb, ltb-true, ltb-false, leb-true, leb-false, and_parts}
use Rattle.std.proofs.lemmas.Option.{slice_get-get_or}
use Rattle.job_text.specs.Numbering.{at_number}
use Rattle.module_table.specs.declared.TheConstants.{MOST_INSTANCES}
use Rattle.module_table.specs.declared.modules.ImageInfo.{ImageInfo}
use Rattle.module_table.specs.declared.modules.Module.{Module}
use Rattle.module_table.specs.declared.events.Event.{Event}
use Rattle.module_table.specs.declared.events.CloseRefusal.{CloseRefusal}
use Rattle.module_table.specs.declared.events.CloseRefusal.TheVariants.{Permanent, NotOpen}
use Rattle.module_table.specs.declared.events.CloseRefusal.TheVariants.{OutOfMemory as NoRoomToClose}
use Rattle.module_table.specs.declared.events.OpenRefusal.{OpenRefusal}
use Rattle.module_table.specs.declared.events.OpenRefusal.TheVariants.{Unknown, Full, StaticFull}
use Rattle.module_table.specs.declared.events.OpenRefusal.TheVariants.{OutOfMemory as NoRoomToOpen}
use Rattle.module_table.specs.Past.{IsLegal}
use Rattle.module_table.specs.Modules.{is_loaded, is_permanent, no_module}
use Rattle.module_table.specs.Past.{Past, close_refusal, first_module, first_modules, module_of, next_offset}
use Rattle.module_table.specs.Past.{open_refusal, past, start}
use Rattle.module_table.proofs.Along.{past_legal}
use Rattle.module_table.proofs.Infos.{info_of}
use Rattle.module_table.proofs.LawsOfNumbers.{balances}
use Rattle.module_table.proofs.Starting.{own_number}
use Rattle.known_instances.proofs.Numbered.{are_numbered}
use Rattle.known_instances.proofs.Placed.{is_image}
use Rattle.known_instances.proofs.Startup.{startup_kept}
use Rattle.tls_layout.specs.Rounding.{round_up}
use Rattle.tls_layout.proofs.Rounds.{least_multiple}
use Rattle.line_laws.specs.Histories.{ClosesAreRuled, ComesLate, IsBeyond, IsCloseAnswer, IsGone, IsLive, IsNextBlock}
use Rattle.line_laws.specs.Histories.{IsOpenAnswer, IsStatic, IsWithin, Starts}

-- ** images before any event

-- a number has no image, or the first state of its image
IsFirst : (o : Option ImageInfo) → ℕ → Module → Type 0
IsFirst None image m = m ≡ no_module
IsFirst (Some info) image m = m ≡ first_module info image

first_at : (infos : List ImageInfo) (from k : ℕ)
    → IsFirst (slice_get infos k) (from + k) (get_or (first_modules infos from) k no_module)
unfolding IsFirst
first_at [] from k = refl
first_at (x ∷ xs) from zero = ap (first_module x) (omega arith)
first_at (x ∷ xs) from (suc k) =
    let same : from + 1 + k ≡ from + suc k = omega arith in
    subst (λ (n : ℕ). IsFirst (slice_get xs k) n (get_or (first_modules xs (from + 1)) k no_module)) same
    (first_at xs (from + 1) k)

image_at : (infos : List ImageInfo) (last : ℕ) (image : ℕ)
    → IsFirst (at_number infos image) image (module_of (start infos last) image)
unfolding IsFirst start
image_at infos last zero = refl
image_at infos last (suc k) =
    let same : 1 + k ≡ suc k = omega arith in
    subst (λ (n : ℕ). IsFirst (slice_get infos k) n (get_or (first_modules infos 1) k no_module)) same
    (first_at infos 1 k)

first_info : (info : ImageInfo) (image : ℕ) → (first_module info image).info ≡ info
first_info info image = elim (cases_Bool info.late) [ inl t ↦ rw t refl | inr f ↦ rw f refl ]

late_uses : (info : ImageInfo) (image : ℕ) → info.late ≡ true → (first_module info image).uses ≡ 0
late_uses info image t = rw t refl

early_uses : (info : ImageInfo) (image : ℕ) → info.late ≡ false → (first_module info image).uses ≡ 1
early_uses info image f = rw f refl

same_some : {X : Type 0} {x y : X} → Some x ≡ Some y → x ≡ y
same_some e = cc

-- ** after the events of a legal history

module _ (infos : List ImageInfo) (last : ℕ) (events : List Event) (legal : IsLegal infos last events) where
  abbrev after_all : Past
  after_all = past infos last events

  abbrev state : ℕ → Module
  state image = module_of (past infos last events) image

  -- what is known of an image stays
  info_stays : (image : ℕ) → (state image).info ≡ (module_of (start infos last) image).info
  info_stays image = (are_numbered infos last events legal).info image

  info_is : (image : ℕ) (info : ImageInfo) → at_number infos image ≡ Some info → (state image).info ≡ info
  unfolding IsFirst
  info_is image info at =
      let first : module_of (start infos last) image ≡ first_module info image =
      subst (λ (o : Option ImageInfo). IsFirst o image (module_of (start infos last) image)) at
      (image_at infos last image) in
      info_stays image ∙ (ap (λ (m : Module). m.info) first ∙ first_info info image)

  -- a fact of what is known, which no image has for a number without one
  known : (image : ℕ) (f : ImageInfo → Bool) → f no_module.info ≡ false → f (state image).info ≡ true
      → (info : ImageInfo) × ((at_number infos image ≡ Some info) × (f info ≡ true))
  unfolding IsFirst
  known image f none holds = of (at_number infos image) refl (image_at infos last image)
    where
      of : (o : Option ImageInfo) → at_number infos image ≡ o → IsFirst o image (module_of (start infos last) image)
          → (info : ImageInfo) × ((at_number infos image ≡ Some info) × (f info ≡ true))
      of None at first =
          let is : (state image).info ≡ no_module.info = info_stays image ∙ ap (λ (m : Module). m.info) first in
          let no : f (state image).info ≡ false = ap f is ∙ none in
          absurd cc
      of (Some info) at first = (info, (at, ap f (sym (info_is image info at)) ∙ holds))

  pub late_of : (image : ℕ) → (state image).info.late ≡ true → ComesLate infos image
  late_of image t = known image (λ info. info.late) refl t

  pub of_late : (image : ℕ) → ComesLate infos image → (state image).info.late ≡ true
  of_late image late = ap (λ (info : ImageInfo). info.late) (info_is image late.0 late.1.0) ∙ late.1.1

  pub static_of : (image : ℕ) → (state image).info.statics ≡ true → IsStatic infos image
  static_of image t = known image (λ info. info.statics) refl t

  pub of_static : (image : ℕ) → IsStatic infos image → (state image).info.statics ≡ true
  of_static image is = ap (λ (info : ImageInfo). info.statics) (info_is image is.0 is.1.0) ∙ is.1.1

  -- ** who is live

  started : (image : ℕ) → Starts infos image → is_loaded (state image) ≡ true
  unfolding IsFirst start
  started image is =
      let first : module_of (start infos last) image ≡ first_module is.0 image =
      subst (λ (o : Option ImageInfo). IsFirst o image (module_of (start infos last) image)) is.1.0
      (image_at infos last image) in
      let uses : (module_of (start infos last) image).uses ≡ 1 =
      ap (λ (m : Module). m.uses) first ∙ early_uses is.0 image is.1.1 in
      let held : is_loaded (module_of (start infos last) image) ≡ true = ap (λ (n : ℕ). nat_lt 0 n) uses in
      let own = own_number infos image legal.images held in
      (startup_kept infos last events image legal own.2 own.3).loaded

  pub live_of : (image : ℕ) → is_loaded (state image) ≡ true → IsLive infos events image
  unfolding IsFirst
  live_of image held = of (at_number infos image) refl (image_at infos last image)
    where
      some : 0 < (state image).uses
      some = ltb-true 0 (state image).uses held

      counted : (module_of (start infos last) image).uses ≡ 0 → IsLive infos events image
      counted none = let balance = balances infos last events image legal in inr (omega (arith, balance, none, some))

      of : (o : Option ImageInfo) → at_number infos image ≡ o → IsFirst o image (module_of (start infos last) image)
          → IsLive infos events image
      of None at first = counted (ap (λ (m : Module). m.uses) first)
      of (Some info) at first = elim (cases_Bool info.late) [
        | inl late ↦ counted (ap (λ (m : Module). m.uses) first ∙ late_uses info image late)
        | inr early ↦ inl (info, (at, early))
      ]

  pub of_live : (image : ℕ) → IsLive infos events image → is_loaded (state image) ≡ true
  of_live image (inl is) = started image is
  of_live image (inr more) =
      let balance = balances infos last events image legal in
      lt-ltb 0 (state image).uses (omega (arith, balance, more))

  pub gone_of : (image : ℕ) → is_loaded (state image) ≡ false → IsGone infos events image
  gone_of image not_held live = let held = of_live image live in absurd cc

  pub of_gone : (image : ℕ) → IsGone infos events image → is_loaded (state image) ≡ false
  of_gone image gone = elim (cases_Bool (is_loaded (state image))) [
    | inl held ↦ absurd (gone (live_of image held))
    | inr not_held ↦ not_held
  ]

  -- an image that is loaded is one of the list
  starts_of : (image : ℕ) → is_loaded (state image) ≡ true → (state image).info.late ≡ false → Starts infos image
  starts_of image held early =
      let found = is_image infos last events image legal held in
      let there : at_number infos (suc found.index) ≡ Some (get_or infos found.index no_module.info) =
      slice_get-get_or infos found.index no_module.info found.within in
      let at : at_number infos image ≡ Some (get_or infos found.index no_module.info) =
      ap (at_number infos) found.image ∙ there in (
        get_or infos found.index no_module.info,
        (at, ap (λ (info : ImageInfo). info.late) (sym (info_is image _ at)) ∙ early),
      )

  not_both : (image : ℕ) → Starts infos image → ComesLate infos image → ⊥
  not_both image is late =
      let same : is.0 ≡ late.0 = same_some (sym is.1.0 ∙ late.1.0) in
      let early : late.0.late ≡ false = ap (λ (info : ImageInfo). info.late) (sym same) ∙ is.1.1 in
      let t = late.1.1 in
      absurd cc

  early_of : (image : ℕ) → Starts infos image → (state image).info.late ≡ false
  early_of image is = ap (λ (info : ImageInfo). info.late) (info_is image is.0 is.1.0) ∙ is.1.1

  late_live : (image : ℕ) → is_loaded (state image) ≡ true
      → (is_loaded (state image) && not (state image).info.late) ≡ false
      → (state image).info.late ≡ true
  late_live image held e = elim (cases_Bool (state image).info.late) [
    | inl t ↦ t
    | inr f ↦ let no : (is_loaded (state image) && not (state image).info.late) ≡ true = rw (held, f) refl in absurd cc
  ]

  -- ** closes

  close_pick : Bool → Bool → Option CloseRefusal
  close_pick permanent held = if permanent then Some Permanent else (if held then None else Some NotOpen)

  close_given : (image : ℕ) (permanent held : Bool) → is_permanent (state image) ≡ permanent
      → is_loaded (state image) ≡ held
      → IsCloseAnswer infos events image (close_pick permanent held)
  unfolding close_pick
  close_given image true held p h =
      let parts = and_parts (is_loaded (state image)) (not (state image).info.late) p in
      starts_of image parts.0 (not_true (state image).info.late parts.1)
    where
      not_true : (b : Bool) → not b ≡ true → b ≡ false
      not_true true e = cc
      not_true false e = refl
  close_given image false true p h = (late_of image (late_live image h p), live_of image h)
  close_given image false false p h = gone_of image h

  one_close : (image : ℕ) (a b : Option CloseRefusal) → IsCloseAnswer infos events image a
      → IsCloseAnswer infos events image b → a ≡ b
  one_close image (Some NoRoomToClose) b h k = absurd h
  one_close image a (Some NoRoomToClose) h k = absurd k
  one_close image (Some Permanent) (Some Permanent) h k = refl
  one_close image (Some Permanent) (Some NotOpen) h k = absurd (k (inl h))
  one_close image (Some Permanent) None h k = absurd (not_both image h k.0)
  one_close image (Some NotOpen) (Some Permanent) h k = absurd (h (inl k))
  one_close image (Some NotOpen) (Some NotOpen) h k = refl
  one_close image (Some NotOpen) None h k = absurd (h k.1)
  one_close image None (Some Permanent) h k = absurd (not_both image k h.0)
  one_close image None (Some NotOpen) h k = absurd (k h.1)
  one_close image None None h k = refl

  close_found : (image : ℕ) → IsCloseAnswer infos events image (close_refusal (past infos last events) image)
  unfolding close_refusal close_pick
  close_found image = close_given image (is_permanent (state image)) (is_loaded (state image)) refl refl

  pub close_ruled : (image : ℕ) (answer : Option CloseRefusal)
      → (close_refusal (past infos last events) image ≡ answer) ↔ IsCloseAnswer infos events image answer
  close_ruled image answer = (
    λ is. subst (IsCloseAnswer infos events image) is (close_found image),
    λ h. one_close image _ answer (close_found image) h,
  )

  -- ** opens

  -- the next block of an image
  pub next_block : (image : ℕ) (info : ImageInfo) → at_number infos image ≡ Some info
      → IsNextBlock infos image (past infos last events).taken (next_offset (past infos last events) (state image))
  unfolding round_up
  next_block image info at =
      let is = info_is image info at in
      let sized : (state image).info.size ≡ info.size = ap (λ (i : ImageInfo). i.size) is in
      let aligned : (state image).info.align ≡ info.align = ap (λ (i : ImageInfo). i.align) is in
      let some : 0 < (state image).info.align =
      (info_of (past infos last events) image (past_legal infos last events legal)).aligned in
      let least = least_multiple ((past infos last events).taken + (state image).info.size)
      (state image).info.align some in
      record {
        info = info;
        is = at;
        times = least.multiple.0;
        aligned = rw (← aligned) (least.multiple.1 ∙ times (state image).info.align least.multiple.0);
        room = rw (← sized) least.above;
        least = λ fewer enough. rw (← aligned) (least.least (fewer * (state image).info.align)
            (fewer, times fewer (state image).info.align) (rw (sized, aligned) enough));
      }
    where
      times : (a b : ℕ) → a * b ≡ b * a
      times a b = omega arith

  pub one_block : (image reach place other : ℕ) → IsNextBlock infos image reach place
      → IsNextBlock infos image reach other → place ≡ other
  one_block image reach place other a b =
      let same : a.info ≡ b.info = same_some (sym a.is ∙ b.is) in
      let low : place ≤ other = at_most image reach place other a b same in
      let high : other ≤ place = at_most image reach other place b a (sym same) in
      omega arith
    where
      at_most : (image reach place other : ℕ) (a : IsNextBlock infos image reach place)
          (b : IsNextBlock infos image reach other)
          → a.info ≡ b.info → place ≤ other
      at_most image reach place other a b same =
          let align : a.info.align ≡ b.info.align = ap (λ (i : ImageInfo). i.align) same in
          let size : a.info.size ≡ b.info.size = ap (λ (i : ImageInfo). i.size) same in
          let there : other ≡ b.times * a.info.align = rw align b.aligned in
          let room : reach + a.info.size ≤ b.times * a.info.align = rw (← there, size) b.room in
          rw there (a.least b.times room)

  -- with the limits of the walk
  module _ (full_is : (past infos last events).limit ≡ last + 4096) where
    abbrev answers : ℕ → Option OpenRefusal → Type 0
    answers image = IsOpenAnswer infos last events (past infos last events).made (past infos last events).taken image

    open_pick : (late held full statics lacks : Bool) → Option OpenRefusal
    open_pick late held full statics lacks = if not late then Some Unknown
        else (if held then None else (if full then Some Full else (if statics && lacks then Some StaticFull else None)))

    -- the block of a static image
    placed : (image : ℕ) → (is : IsStatic infos image)
        → IsNextBlock infos image (past infos last events).taken (next_offset (past infos last events) (state image))
    placed image is = next_block image is.0 is.1.0

    open_given : (image : ℕ) (late held full statics lacks : Bool) → (state image).info.late ≡ late
        → is_loaded (state image) ≡ held → nat_le MOST_INSTANCES (past infos last events).made ≡ full
        → (state image).info.statics ≡ statics
        → nat_lt (past infos last events).limit (next_offset (past infos last events) (state image)) ≡ lacks
        → answers image (open_pick late held full statics lacks)
    unfolding open_pick
    open_given image false held full statics lacks l h f s r = λ late. let t = of_late image late in absurd cc
    open_given image true true full statics lacks l h f s r = (late_of image l, inl (live_of image h))
    open_given image true false true statics lacks l h f s r = (late_of image l, gone_of image h, leb-true 4095 _ f)
    open_given image true false false true true l h f s r = (
      late_of image l,
      gone_of image h,
      leb-false 4095 _ f,
      static_of image s,
      (
        next_offset (past infos last events) (state image),
        (placed image (static_of image s), rw (← full_is) (ltb-true _ _ r)),
      ),
    )
    open_given image true false false true false l h f s r = (
      late_of image l,
      inr (
        leb-false 4095 _ f,
        λ is.
            (next_offset (past infos last events) (state image), (placed image is, rw (← full_is) (ltb-false _ _ r))),
      ),
    )
    open_given image true false false false lacks l h f s r = (
      late_of image l,
      inr (
        leb-false 4095 _ f,
        λ is.
            let t = of_static image is in absurd cc,
      ),
    )

    open_found : (image : ℕ) → answers image (open_refusal (past infos last events) image)
    unfolding open_refusal open_pick
    open_found image = open_given image (state image).info.late (is_loaded (state image))
        (nat_le MOST_INSTANCES (past infos last events).made) (state image).info.statics
        (nat_lt (past infos last events).limit
        (next_offset (past infos last events) (state image))) refl refl refl refl refl

    apart : (image reach limit : ℕ) → IsBeyond infos image reach limit → IsWithin infos image reach limit → ⊥
    apart image reach limit far near =
        let same = one_block image reach far.0 near.0 far.1.0 near.1.0 in
        let over = far.1.1 in
        let under = near.1.1 in
        absurd (omega (arith, same, over, under))

    full_apart : (made : ℕ) → 4095 ≤ made → made < 4095 → ⊥
    full_apart made a b = absurd (omega arith)

    no_none : (image : ℕ) → IsGone infos events image → (made : ℕ) → (reach limit : ℕ)
        → (4095 ≤ made) ⊎ (IsStatic infos image × IsBeyond infos image reach limit)
        → IsLive infos events image ⊎ ((made < 4095) × (IsStatic infos image → IsWithin infos image reach limit)) → ⊥
    no_none image gone made reach limit why (inl live) = gone live
    no_none image gone made reach limit (inl full) (inr some) = full_apart made full some.0
    no_none image gone made reach limit (inr far) (inr some) = apart image reach limit far.1 (some.1 far.0)

    one_open : (image : ℕ) (a b : Option OpenRefusal) → answers image a → answers image b → a ≡ b
    one_open image (Some NoRoomToOpen) b h k = absurd h
    one_open image a (Some NoRoomToOpen) h k = absurd k
    one_open image (Some Unknown) (Some Unknown) h k = refl
    one_open image (Some Unknown) (Some Full) h k = absurd (h k.0)
    one_open image (Some Unknown) (Some StaticFull) h k = absurd (h k.0)
    one_open image (Some Unknown) None h k = absurd (h k.0)
    one_open image (Some Full) (Some Unknown) h k = absurd (k h.0)
    one_open image (Some Full) (Some Full) h k = refl
    one_open image (Some Full) (Some StaticFull) h k = absurd (full_apart _ h.2 k.2)
    one_open image (Some Full) None h k =
        absurd (no_none image h.1 _ (past infos last events).taken (last + 4096) (inl h.2) k.1)
    one_open image (Some StaticFull) (Some Unknown) h k = absurd (k h.0)
    one_open image (Some StaticFull) (Some Full) h k = absurd (full_apart _ k.2 h.2)
    one_open image (Some StaticFull) (Some StaticFull) h k = refl
    one_open image (Some StaticFull) None h k =
        absurd (no_none image h.1 (past infos last events).made _ _ (inr (h.3, h.4)) k.1)
    one_open image None (Some Unknown) h k = absurd (k h.0)
    one_open image None (Some Full) h k =
        absurd (no_none image k.1 _ (past infos last events).taken (last + 4096) (inl k.2) h.1)
    one_open image None (Some StaticFull) h k =
        absurd (no_none image k.1 (past infos last events).made _ _ (inr (k.3, k.4)) h.1)
    one_open image None None h k = refl

    pub open_ruled : (image : ℕ) (answer : Option OpenRefusal)
        → (open_refusal (past infos last events) image ≡ answer) ↔ answers image answer
    open_ruled image answer = (
      λ is. subst (answers image) is (open_found image),
      λ h. one_open image _ answer (open_found image) h,
    )

pub closes_ruled : ClosesAreRuled
closes_ruled infos last events image legal answer = close_ruled infos last events legal image answer
