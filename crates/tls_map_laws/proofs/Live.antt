-- Where the blocks of live instances lie: each below its thread's stack, and no two of one history share a byte, one of
-- them closed long before the other was loaded or not.
use Rattle.std.proofs.Common.{◌≡◌, ◌∙◌, ◌⊎◌, ◌+◌, ◌-◌, ◌*◌, ◌<◌, ◌≤◌, ◌^◌, ◌++◌, ℕ, suc, true, false, List, [], ◌∷◌}
use Rattle.std.proofs.Common.{length, get_or, Option, Some, None, refl, sym, ap, subst, inl, inr, arith}
use Rattle.std.specs.Prelude.{IfSome, nat_le, nat_lt, take}
use Rattle.std.proofs.lemmas.Bool.{and_parts, cases_Bool, cases_eq, leb-false, leb-true, ltb-true}
use Rattle.address_map.specs.Map.{pointer_of, stack_start}
use Rattle.known_instances.proofs.Found.{instance_for}
use Rattle.known_instances.proofs.Known.{number_low, numbered_at_image}
use Rattle.known_instances.proofs.Placed.{IsPlacedIn, is_image, placed_in}
use Rattle.known_instances.proofs.StartupNumbers.{image_number}
use Rattle.loaded_modules.specs.declared.instance.Instance.{Instance}
use Rattle.module_table.proofs.LawsOfBlocks.{instances_apart}
use Rattle.module_table.specs.Past.{IsLegal}
use Rattle.module_table.specs.Laws.{Covers}
use Rattle.module_table.specs.Modules.{startup_end}
use Rattle.module_table.specs.Modules.{no_module}
use Rattle.module_table.specs.declared.events.Event.{Event}
use Rattle.module_table.specs.declared.modules.ImageInfo.{ImageInfo}
use Rattle.thread_blocks.specs.Instances.{Loads, block_start, instances, left_by, numbered_instance}
use Rattle.thread_blocks.specs.Turns.{IsFront}
use Rattle.tls_map_laws.specs.Acts.{is_in}
use Rattle.tls_map_laws.proofs.Known.{IsLow, Known}
use Rattle.tls_map_laws.proofs.Later.{IsGiven, later_apart}
use Rattle.tls_map_laws.proofs.Never.{IsLoaded, at_live, bare, front_legal, loaded_of, module_at, never_again}
use Rattle.tls_map_laws.proofs.Places.{Member}
use Rattle.tls_map_laws.proofs.Sizes.{early_counts, end_most, end_past, end_rises}

-- a fresh block is as long as the image's segment
abbrev pub BlocksAreLong : {B : Type 0} → Loads B → Type 0
BlocksAreLong l = (x : Instance) (index : ℕ) → x.image ≡ suc index → index < length l.infos
    → length (l.block x) ≡ (get_or l.infos index no_module.info).size

-- of two fronts of one history, one begins the other
either : {E : Type 0} (a b r s : List E) → a ++ r ≡ b ++ s → IsFront a b ⊎ IsFront b a
either [] b r s e = inl (b, refl)
either (x ∷ a) [] r s e = inr (x ∷ a, refl)
either (x ∷ a) (y ∷ b) r s e =
    let first : x ≡ y = cc in
    let rest : a ++ r ≡ b ++ s = cc in
    elim (either a b r s rest) [
      | inl f ↦ let is = f.1 in inl (f.0, let same : y ∷ b ≡ x ∷ (a ++ f.0) = cc in same)
      | inr f ↦ let is = f.1 in inr (f.0, let same : x ∷ a ≡ y ∷ (b ++ f.0) = cc in same)
    ]

module _ {B : Type 0} (l : Loads B) (history : List Event) (legal : IsLegal l.infos l.last_offset history)
    (last : l.last_offset ≡ startup_end l.infos 0) (long : BlocksAreLong l) where
  -- ** a live instance

  pub record IsLive (seen : List Event) (x : Instance) : Type 0 where
    pub front : IsFront seen history
    pub member : Member x (instances l seen)
    pub at : IsLoaded l seen x
    pub placed : IsPlacedIn l.infos x
    pub numbered : numbered_instance (bare l) seen x.number ≡ Some x
    pub info : (module_at l seen at.image).info ≡ get_or l.infos placed.index no_module.info
    pub size : (module_at l seen at.image).info.size ≡ length (l.block x)
    pub low : x.number < 2 ^ 12
    pub small : length (l.block x) ≤ 2 ^ 20
    pub offset : (o : ℕ) → x.offset ≡ Some o → (o < 2 ^ 28) × (length (l.block x) ≤ o)

  pub is_live : (seen : List Event) → IsFront seen history → (x : Instance) → Member x (instances l seen)
      → IsLive seen x
  is_live seen front x member =
      let at = loaded_of l seen x member in
      let here = front_legal l history legal seen front in
      let numbered = numbered_at_image (bare l) history legal seen at.image x front at.is in
      let placed = placed_in (bare l) history legal seen x.number x front numbered in
      let image = is_image l.infos l.last_offset seen at.image here at.loaded in
      let same : placed.index ≡ image.index =
      (let i : suc placed.index ≡ suc image.index =
      sym placed.image ∙ (ap (λ (y : Instance). y.image) (sym at.same) ∙ image.image) in
      omega (arith, i)) in
      let info : (module_at l seen at.image).info ≡ get_or l.infos placed.index no_module.info =
      image.info ∙ ap (λ (i : ℕ). get_or l.infos i no_module.info) (sym same) in
      let size : length (l.block x) ≡ (get_or l.infos placed.index no_module.info).size =
      long x placed.index placed.image placed.within in
      let small = (here.images.each placed.index no_module.info placed.within).small in
      record {
        front = front;
        member = member;
        at = at;
        placed = placed;
        numbered = numbered;
        info = info;
        size = ap (λ (i : ImageInfo). i.size) info ∙ sym size;
        low = number_low (bare l) history legal seen x.number x front numbered;
        small = omega (arith, size, small);
        offset = λ o e.
            let far : (o < 2 ^ 28) × ((get_or l.infos placed.index no_module.info).size ≤ o) =
            subst (λ (r : Option ℕ). IfSome r
            (λ (p : ℕ). (p < 2 ^ 28) × ((get_or l.infos placed.index no_module.info).size ≤ p))) e placed.offset in
            (far.0, omega (arith, far.1, size));
      }

  -- ** the addresses of a thread's block

  -- an address of the block
  pub record Has (thread : ℕ) (x : Instance) (place : ℕ) : Type 0 where
    pub from : block_start thread x ≤ place
    pub to : place < block_start thread x + length (l.block x)

  pub has : (thread : ℕ) (x : Instance) (place : ℕ) → is_in l thread x place ≡ true → Has thread x place
  has thread x place e =
      let both = and_parts (nat_le (block_start thread x) place)
      (nat_lt (place - block_start thread x) (length (l.block x))) e in
      let from = leb-true (block_start thread x) place both.0 in
      let to = ltb-true (place - block_start thread x) (length (l.block x)) both.1 in
      record { from = from; to = omega (arith, from, to) }

  start_some : (thread : ℕ) (x : Instance) (o : ℕ) → x.offset ≡ Some o → block_start thread x ≡ pointer_of thread - o
  start_some thread x o e = rw e refl

  start_none : (thread : ℕ) (x : Instance) → x.offset ≡ None
      → block_start thread x ≡ thread * 2 ^ 40 + x.number * 2 ^ 24
  start_none thread x e = rw e refl

  -- it lies among the thread's addresses, below the thread pointer
  pub start_high : (thread : ℕ) (seen : List Event) (x : Instance) → IsLive seen x
      → thread * 2 ^ 40 ≤ block_start thread x
  start_high thread seen x live = by_offset x.offset refl
    where
      by_offset : (offset : Option ℕ) → x.offset ≡ offset → thread * 2 ^ 40 ≤ block_start thread x
      by_offset None e = let here = start_none thread x e in omega (arith, here)
      by_offset (Some o) e =
          let here = start_some thread x o e in
          let far = live.offset o e in
          omega (arith, here, far.0)

  pub place_low : (thread : ℕ) (seen : List Event) (x : Instance) (place : ℕ) → IsLive seen x → Has thread x place
      → place < pointer_of thread
  place_low thread seen x place live has = by_offset x.offset refl
    where
      by_offset : (offset : Option ℕ) → x.offset ≡ offset → place < pointer_of thread
      by_offset None e =
          let here = start_none thread x e in
          let to = has.to in
          let low = live.low in
          let small = live.small in
          omega (arith, here, to, low, small)
      by_offset (Some o) e =
          let here = start_some thread x o e in
          let to = has.to in
          let far = live.offset o e in
          omega (arith, here, to, far.0, far.1)

  -- the law: below the stack
  pub below_stack : (thread : ℕ) (seen : List Event) → IsFront seen history → (x : Instance)
      → Member x (instances l seen)
      → (place : ℕ) → is_in l thread x place ≡ true → place < stack_start thread
  below_stack thread seen front x member place e =
      let low = place_low thread seen x place (is_live seen front x member) (has thread x place e) in
      omega (arith, low)

  -- how far below the thread pointer an address lies is told by its block at a fixed distance
  covers : (thread : ℕ) (seen : List Event) (x : Instance) (o place : ℕ) (live : IsLive seen x) → x.offset ≡ Some o
      → Has thread x place
      → Covers (record { offset = o; size = (module_at l seen live.at.image).info.size }) (pointer_of thread - place)
  covers thread seen x o place live e has =
      let here = start_some thread x o e in
      let far = live.offset o e in
      let size = live.size in
      let from = has.from in
      let to = has.to in
      (omega (arith, here, far.0, far.1, size, from, to), omega (arith, here, far.0, far.1, size, from, to))

  -- ** two blocks that have one address are of one instance

  offset_late : (seen : List Event) (x : Instance) (live : IsLive seen x) (o : ℕ)
      → (module_at l seen live.at.image).info.late ≡ true → x.offset ≡ Some o
      → (module_at l seen live.at.image).offset ≡ Some o
  offset_late seen x live o late e =
      let is : (instance_for l.infos live.at.image (module_at l seen live.at.image)).offset ≡ Some o =
      ap (λ (y : Instance). y.offset) live.at.same ∙ e in
      rw late at is

  offset_early : (seen : List Event) (x : Instance) (live : IsLive seen x) (o : ℕ)
      → (module_at l seen live.at.image).info.late ≡ false → x.offset ≡ Some o
      → startup_end (take live.at.image l.infos) 0 ≡ o
  offset_early seen x live o early e =
      let is : (instance_for l.infos live.at.image (module_at l seen live.at.image)).offset ≡ Some o =
      ap (λ (y : Instance). y.offset) live.at.same ∙ e in
      let same : Some (startup_end (take live.at.image l.infos) 0) ≡ Some o = rw early at is in
      let s = same in cc

  image_is : (seen : List Event) (x : Instance) (live : IsLive seen x) → live.at.image ≡ suc live.placed.index
  image_is seen x live = ap (λ (y : Instance). y.image) live.at.same ∙ live.placed.image

  first_early : (seen : List Event) (x : Instance) (live : IsLive seen x)
      → (module_at l seen live.at.image).info.late ≡ false
      → (get_or l.infos live.placed.index no_module.info).late ≡ false
  first_early seen x live early = subst (λ (i : ImageInfo). i.late ≡ false) live.info early

  -- a startup image's instance has its number
  startup_number : (seen : List Event) (x : Instance) (live : IsLive seen x)
      → (module_at l seen live.at.image).info.late ≡ false → x.number ≡ x.image
  startup_number seen x live early =
      let some = early_counts l.infos live.placed.index no_module.info legal.images.late_last live.placed.within
      (first_early seen x live early) in
      let image = live.placed.image in
      image_number (bare l) history legal seen x.number x live.front live.numbered (omega (arith, image, some))

  -- no address is in the blocks of two startup images, the first before the other
  early_apart : (thread : ℕ) (a b : List Event) (x z : Instance) (o p place : ℕ) (first : IsLive a x)
      (second : IsLive b z)
      → first.at.image < second.at.image → startup_end (take first.at.image l.infos) 0 ≡ o
      → startup_end (take second.at.image l.infos) 0 ≡ p → (module_at l b second.at.image).info.late ≡ false
      → x.offset ≡ Some o → z.offset ≡ Some p → Has thread x place → Has thread z place → ⊥
  early_apart thread a b x z o p place first second less ex ez early ox oz here there =
      let past = end_past l.infos second.placed.index 0 no_module.info second.placed.within
      (first_early b z second early) in
      let image = image_is b z second in
      let up : startup_end (take (suc second.placed.index) l.infos) 0 ≡ p =
      subst (λ (i : ℕ). startup_end (take i l.infos) 0 ≡ p) image ez in
      let rises = end_rises l.infos first.at.image second.placed.index 0 (omega (arith, less, image)) in
      let size : (module_at l b second.at.image).info.size ≡ (get_or l.infos second.placed.index no_module.info).size =
      ap (λ (i : ImageInfo). i.size) second.info in
      let near = covers thread a x o place first ox here in
      let far = covers thread b z p place second oz there in
      omega (arith, past, up, rises, size, ex, near.0, far.1)

  -- nor in one of the surplus and one of a startup image
  surplus_apart : (thread : ℕ) (a b : List Event) (x z : Instance) (o p place : ℕ) (first : IsLive a x)
      (second : IsLive b z)
      → (module_at l a first.at.image).info.late ≡ true → (module_at l b second.at.image).info.late ≡ false
      → x.offset ≡ Some o → z.offset ≡ Some p → Has thread x place → Has thread z place → ⊥
  surplus_apart thread a b x z o p place first second late early ox oz here there =
      let above = (instances_apart l.infos l.last_offset a
      (front_legal l history legal a first.front)).above first.at.image o
      (offset_late a x first o late ox) in
      let low = end_most l.infos second.at.image 0 in
      let is = offset_early b z second p early oz in
      let far = covers thread a x o place first ox here in
      let near = covers thread b z p place second oz there in
      omega (arith, above, low, is, last, far.1, near.0)

  -- nor in one at a fixed distance and one that lies elsewhere
  own_apart : (thread : ℕ) (a b : List Event) (x z : Instance) (p place : ℕ) (first : IsLive a x) (second : IsLive b z)
      → x.offset ≡ None → z.offset ≡ Some p → Has thread x place → Has thread z place → ⊥
  own_apart thread a b x z p place first second ox oz here there =
      let start = start_none thread x ox in
      let other = start_some thread z p oz in
      let low = first.low in
      let small = first.small in
      let far = second.offset p oz in
      let to = here.to in
      let since = there.from in
      omega (arith, start, other, low, small, far.0, to, since)

  -- the second is seen no earlier than the first
  module _ (thread : ℕ) (a b : List Event) (x z : Instance) (place : ℕ) (then : IsFront a b) (first : IsLive a x)
      (second : IsLive b z) (here : Has thread x place) (there : Has thread z place) where
    one : z.number ≡ x.number → z ≡ x
    one e = (never_again l history legal).one a b first.front second.front x z first.member second.member e

    both_late : (o p : ℕ) → x.offset ≡ Some o → z.offset ≡ Some p → (module_at l a first.at.image).info.late ≡ true
        → (module_at l b second.at.image).info.late ≡ true → z ≡ x
    both_late o p ox oz la lb =
        let given = later_apart l.infos l.last_offset a then.0 first.at.image o
        (subst (IsLegal l.infos l.last_offset) then.1 (front_legal l history legal b second.front)) first.at.loaded
        (offset_late a x first o la ox) in
        let is = subst (λ (es : List Event). IsGiven (module_at l a first.at.image).instance
        (record { offset = o; size = (module_at l a first.at.image).info.size }) (left_by l es)) (sym then.1) given in
        elim (is.apart second.at.image p second.at.loaded (offset_late b z second p lb oz)) [
          | inl same ↦ one (sym (ap (λ (y : Instance). y.number) second.at.same)
              ∙ (same ∙ ap (λ (y : Instance). y.number) first.at.same))
          | inr apart ↦ absurd (apart (pointer_of thread - place) (covers thread a x o place first ox here)
              (covers thread b z p place second oz there))
        ]

    both_early : (o p : ℕ) → x.offset ≡ Some o → z.offset ≡ Some p → (module_at l a first.at.image).info.late ≡ false
        → (module_at l b second.at.image).info.late ≡ false → z ≡ x
    both_early o p ox oz ea eb =
        let from = offset_early a x first o ea ox in
        let other = offset_early b z second p eb oz in
        elim (cases_eq first.at.image second.at.image) [
          | inl same ↦
              let image : x.image ≡ z.image =
              sym (ap (λ (y : Instance). y.image) first.at.same)
              ∙ (same ∙ ap (λ (y : Instance). y.image) second.at.same) in
              one (startup_number b z second eb ∙ (sym image ∙ sym (startup_number a x first ea)))
          | inr ne ↦ elim (cases_Bool (nat_le first.at.image second.at.image)) [
            | inl le ↦
                let less : first.at.image ≤ second.at.image = leb-true first.at.image second.at.image le in
                absurd (early_apart thread a b x z o p place first second
                (omega (arith, less, ne)) from other eb ox oz here
                there)
            | inr gt ↦
                absurd (early_apart thread b a z x p o place second first (leb-false first.at.image second.at.image gt)
                other from ea oz ox there here)
          ]
        ]

    both_static : (o p : ℕ) → x.offset ≡ Some o → z.offset ≡ Some p → z ≡ x
    both_static o p ox oz = elim (cases_Bool (module_at l a first.at.image).info.late) [
      | inl la ↦ elim (cases_Bool (module_at l b second.at.image).info.late) [
        | inl lb ↦ both_late o p ox oz la lb
        | inr eb ↦ absurd (surplus_apart thread a b x z o p place first second la eb ox oz here there)
      ]
      | inr ea ↦ elim (cases_Bool (module_at l b second.at.image).info.late) [
        | inl lb ↦ absurd (surplus_apart thread b a z x p o place second first lb ea oz ox there here)
        | inr eb ↦ both_early o p ox oz ea eb
      ]
    ]

    both_own : x.offset ≡ None → z.offset ≡ None → z ≡ x
    both_own ox oz =
        let start = start_none thread x ox in
        let other = start_none thread z oz in
        let small = first.small in
        let little = second.small in
        let from = here.from in
        let to = here.to in
        let since = there.from in
        let until = there.to in
        one (omega (arith, start, other, small, little, from, to, since, until))

    pub same_instance : (r s : Option ℕ) → x.offset ≡ r → z.offset ≡ s → z ≡ x
    same_instance None None ox oz = both_own ox oz
    same_instance None (Some p) ox oz = absurd (own_apart thread a b x z p place first second ox oz here there)
    same_instance (Some o) None ox oz = absurd (own_apart thread b a z x o place second first oz ox there here)
    same_instance (Some o) (Some p) ox oz = both_static o p ox oz

  -- the law: no two instances of one history share a place of their blocks
  pub never_share : (thread : ℕ) (a b : List Event) → IsFront a history → IsFront b history → (x z : Instance)
      → Member x (instances l a) → Member z (instances l b) → (place : ℕ) → is_in l thread x place ≡ true
      → (z ≡ x) ⊎ (is_in l thread z place ≡ false)
  never_share thread a b f g x z m n place t = elim (cases_Bool (is_in l thread z place)) [
    | inr out ↦ inr out
    | inl s ↦
        let first = is_live a f x m in
        let second = is_live b g z n in
        let here = has thread x place t in
        let there = has thread z place s in
        elim (either a b f.0 g.0 (sym f.1 ∙ g.1)) [
          | inl then ↦ inl (same_instance thread a b x z place then first second here there x.offset z.offset refl refl)
          | inr then ↦
              inl (sym (same_instance thread b a z x place then second first there here z.offset x.offset refl refl))
        ]
  ]

  -- the law: all that is known of instances
  pub known_all : (thread : ℕ)
      → ((seen : List Event) → IsFront seen history → (x : Instance) → Member x (instances l seen)
      → IfSome (l.shared x) IsLow)
      → Known l thread history
  known_all thread low = record {
    again = never_again l history legal;
    below = λ seen front x member place is. below_stack thread seen front x member place is;
    at = λ seen image x e. at_live l seen image x e;
    apart = λ a b f g x z m n place is. never_share thread a b f g x z m n place is;
    low = low;
  }
