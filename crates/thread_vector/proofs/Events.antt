-- What one event does to the images.
use Rattle.std.proofs.Common.{◌≡◌, ◌≢◌, ℕ, ◌+◌, ◌-◌, ◌<◌, ◌≤◌, true, false, [], ◌∷◌, ◌++◌, Option, Some, None, sym}
use Rattle.std.proofs.Common.{refl, ap, ◌∙◌, subst, arith, inl, inr}
use Rattle.std.specs.Prelude.{◌⊎◌}
use Rattle.std.proofs.lemmas.Bool.{cases_Bool, cases_eq, lt-ltb}
use Rattle.std.proofs.lemmas.List.{get_or-set_same, get_or-set_other}
use Rattle.module_table.specs.declared.modules.Module.{Module}
use Rattle.module_table.specs.declared.events.Event.{Event}
use Rattle.module_table.specs.Modules.{no_module, is_loaded}
use Rattle.module_table.specs.Past.{Past, module_of, after_one, opened, loaded, retained, released, with_uses}
use Rattle.module_table.specs.Past.{new_instance, accepts}
use Rattle.module_table.specs.PastLaws.{image_of}
use Rattle.module_table.specs.Tables.{IsPast, CanLoad}
use Rattle.module_table.proofs.Refusals.{can_load, held, accepts_open, accepts_close}
use Rattle.module_table.proofs.HistoryLemmas.{past_more, legal_more}
use Rattle.module_table.proofs.Steps.{late_within, loaded_within, numbered_at}
use Rattle.loaded_modules.specs.Images.{JobImages, infos, last_offset}
use Rattle.thread_vector.specs.Holding.{IsLeftBy}
use Rattle.thread_vector.proofs.Facts.{Facts, image_has, image_is}

-- an image before and after, its number of uses apart
pub record Stays (new old : Module) : Type 0 where
  pub info : new.info ≡ old.info
  pub instance : new.instance ≡ old.instance
  pub id : new.id ≡ old.id
  pub offset : new.offset ≡ old.offset
  pub held : is_loaded new ≡ true → is_loaded old ≡ true

-- no image gets a new instance
pub record Keeps (p q : Past) : Type 0 where
  pub limit : q.limit ≡ p.limit
  pub made : q.made ≡ p.made
  pub each : (k : ℕ) → Stays (module_of q k) (module_of p k)

-- one gets one
pub record Loads (p q : Past) (image : ℕ) : Type 0 where
  pub can : CanLoad p image
  pub limit : q.limit ≡ p.limit
  pub made : q.made ≡ p.made + 1
  pub here : module_of q image ≡ new_instance p (module_of p image)
  pub others : (k : ℕ) → k ≢ image → module_of q k ≡ module_of p k

abbrev pub Shape : Past → Past → Event → Type 0
Shape p q e = (Keeps p q × (is_loaded (module_of p e.image) ≡ true))
    ⊎ (Loads p q e.image × (is_loaded (module_of p e.image) ≡ false))

keeps_with_uses : (p : Past) (image uses : ℕ) → IsPast p → is_loaded (module_of p image) ≡ true
    → Keeps p (with_uses p image uses)
keeps_with_uses p image uses is here = record {
  limit = refl;
  made = refl;
  each = λ k. elim (cases_eq k image) [
    | inl e ↦ let at : module_of (with_uses p image uses) k ≡ record (module_of p image) { uses = uses } =
        rw e (get_or-set_same p.modules image (record (module_of p image) { uses = uses }) no_module
        (loaded_within p image is here).0) in
        rw (at, e) (record { info = refl; instance = refl; id = refl; offset = refl; held = λ _. here })
    | inr ne ↦ let at : module_of (with_uses p image uses) k ≡ module_of p k =
        get_or-set_other p.modules image k (record (module_of p image) { uses = uses }) no_module ne in
        rw at (record { info = refl; instance = refl; id = refl; offset = refl; held = λ t. t })
  ];
}

loads_new : (p : Past) (image : ℕ) → IsPast p → CanLoad p image → Loads p (loaded p image) image
unfolding loaded
loads_new p image is can = record {
  can = can;
  limit = refl;
  made = refl;
  here = get_or-set_same p.modules image (new_instance p (module_of p image)) no_module
      (late_within p image is can.late).0;
  others = λ k ne. get_or-set_other p.modules image k (new_instance p (module_of p image)) no_module ne;
}

pub shape_of : (p : Past) (e : Event) → IsPast p → accepts p e ≡ true → Shape p (after_one p e) e
unfolding after_one opened retained released
shape_of p e is accepted = elim (cases_Bool e.opens) [
  | inl opens ↦ elim (cases_Bool (is_loaded (module_of p e.image))) [
    | inl l ↦ rw (opens, l) (inl (keeps_with_uses p e.image ((module_of p e.image).uses + 1) is l, refl))
    | inr u ↦ rw (opens, u)
        (inr (loads_new p e.image is (can_load p e.image (accepts_open p e accepted opens) u), refl))
  ]
  | inr closes ↦
      let l : is_loaded (module_of p e.image) ≡ true =
      lt-ltb 0 (module_of p e.image).uses (held p e.image (accepts_close p e accepted closes)) in
      rw (closes, l) (inl (keeps_with_uses p e.image ((module_of p e.image).uses - 1) is l, refl))
]

-- one event more of a history
pub left_more : (images : JobImages) (p : Past) (e : Event) → IsLeftBy images p → accepts p e ≡ true
    → IsLeftBy images (after_one p e)
left_more images p e l accepted = record {
  events = l.events ++ e ∷ [];
  legal = legal_more (infos images) (last_offset images) l.events e l.legal
      (subst (λ (q : Past). accepts q e ≡ true) l.left accepted);
  left = ap (λ (q : Past). after_one q e) l.left ∙ sym (past_more (infos images) (last_offset images) l.events e);
}

-- ---- an instance that is live afterwards

-- it was live already
pub record WasLive (p q : Past) (instance image : ℕ) : Type 0 where
  pub before : image_of p instance ≡ Some image
  pub stays : Stays (module_of q image) (module_of p image)

-- it is the new one
pub record IsNew (p q : Past) (instance image : ℕ) (e : Event) : Type 0 where
  pub before : image_of p instance ≡ None
  pub number : instance ≡ p.made + 1
  pub image_is : image ≡ e.image
  pub loads : Loads p q e.image

-- an instance that no load made yet is not live
pub none_above : (p : Past) (instance : ℕ) → IsPast p → p.made < instance → image_of p instance ≡ None
none_above p instance is h = by_image (image_of p instance) refl
  where
    by_image : (o : Option ℕ) → image_of p instance ≡ o → o ≡ None
    by_image None e = refl
    by_image (Some image) e =
        let has = image_has p instance image e in
        let low : (module_of p image).instance ≤ p.made = (numbered_at p image is).instance has.1 in
        absurd (omega (arith, has.2))

pub stays_same : (m : Module) → Stays m m
stays_same m = record { info = refl; instance = refl; id = refl; offset = refl; held = λ t. t }

pub live_after : (images : JobImages) (p : Past) (e : Event) (instance image : ℕ) → Facts images p → accepts p e ≡ true
    → image_of (after_one p e) instance ≡ Some image
    → WasLive p (after_one p e) instance image ⊎ IsNew p (after_one p e) instance image e
live_after images p e instance image f accepted at =
    let has = image_has (after_one p e) instance image at in
    elim (shape_of p e f.is accepted) [
      | inl keeps ↦
          let same = keeps.0.each image in
          inl (record {
            before = subst (λ (i : ℕ). image_of p i ≡ Some image) (sym same.instance ∙ has.2)
                (image_is p image f.own (same.held has.1));
            stays = same;
          })
      | inr loads ↦ elim (cases_eq image e.image) [
        | inl here ↦
            let number : p.made + 1 ≡ instance =
            sym (ap (λ (m : Module). m.instance)
            (subst (λ (k : ℕ). module_of (after_one p e) k ≡ new_instance p (module_of p e.image))
            (sym here) loads.0.here)) ∙ has.2 in
            inr (record {
              before = none_above p instance f.is (omega arith);
              number = sym number;
              image_is = here;
              loads = loads.0;
            })
        | inr other ↦
            let same = loads.0.others image other in
            inl (record {
              before = subst (λ (i : ℕ). image_of p i ≡ Some image) (sym (ap (λ (m : Module). m.instance) same) ∙ has.2)
                  (image_is p image f.own (subst (λ (m : Module). is_loaded m ≡ true) same has.1));
              stays = subst (λ (m : Module). Stays m (module_of p image)) (sym same) (stays_same (module_of p image));
            })
      ]
    ]
