-- What is known of the images that a history leaves.
use Rattle.std.proofs.Common.{◌≡◌, ℕ, zero, suc, ◌+◌, ◌-◌, ◌<◌, ◌≤◌, true, cond, List, [], ◌∷◌, length, get_or, Some}
use Rattle.std.proofs.Common.{None, sym, refl, ap, ◌∙◌, subst, arith, inl, inr}
use Rattle.std.proofs.Math.ListN.{set}
use Rattle.std.proofs.lemmas.Bool.{cases_Bool, cases_eq, and_parts, and_from, eqb-true, eq-eqb, lt-ltb}
use Rattle.std.proofs.lemmas.List.{get_or-set_same, get_or-set_other, length-set}
use Rattle.std.proofs.lemmas.Option.{get_or_from_slice_get, slice_get_within}
use Rattle.std.proofs.lemmas.List.Quantifiers.{position-Some}
use Rattle.std.specs.Prelude.{slice_get, ◌==◌, slice_index_or}
use Rattle.module_table.specs.declared.TheConstants.{SURPLUS}
use Rattle.module_table.specs.declared.modules.ImageInfo.{ImageInfo}
use Rattle.module_table.specs.declared.modules.Module.{Module}
use Rattle.module_table.specs.declared.events.Event.{Event}
use Rattle.module_table.specs.Modules.{no_module, is_loaded}
use Rattle.module_table.specs.Past.{Past, module_of, first_modules, start, past, loaded, retained, released}
use Rattle.module_table.specs.Past.{with_uses, new_instance}
use Rattle.module_table.specs.PastLaws.{image_of, has_instance}
use Rattle.module_table.specs.Laws.{HaveOwnNumbers, InstancesAreApart}
use Rattle.module_table.specs.Tables.{IsPast, CanLoad}
use Rattle.module_table.proofs.Along.{IsKept, kept_along}
use Rattle.module_table.proofs.Lookups.{position_one}
use Rattle.module_table.proofs.StartLemmas.{length-first_modules}
use Rattle.module_table.proofs.Starting.{past_start}
use Rattle.module_table.proofs.Steps.{late_within, loaded_within, past_retained, past_loaded, past_released}
use Rattle.module_table.proofs.LawsOfNumbers.{own_numbers}
use Rattle.module_table.proofs.LawsOfBlocks.{instances_apart}
use Rattle.image_file.specs.Spelled.{Spelled}
use Rattle.link_faults.specs.declared.image_kind.ImageKind.{ImageKind}
use Rattle.loaded_modules.specs.Images.{JobImages, infos, infos_of, last_offset, image_at, size_of, size_at}
use Rattle.thread_vector.specs.Holding.{IsLeftBy}

pub record Facts (images : JobImages) (p : Past) : Type 0 where
  pub is : IsPast p
  pub own : HaveOwnNumbers p
  pub apart : InstancesAreApart (last_offset images) p
  pub low : last_offset images ≤ p.limit
  pub limit : p.limit ≡ last_offset images + SURPLUS
  pub long : length p.modules ≡ length (infos images) + 1
  pub infos : (k : ℕ) → (module_of p (k + 1)).info ≡ slice_index_or (infos images) k no_module.info

-- ---- what no event changes

record Alike (base p : Past) : Type 0 where
  pub is : IsPast p
  pub limit : p.limit ≡ base.limit
  pub long : length p.modules ≡ length base.modules
  pub infos : (k : ℕ) → (module_of p k).info ≡ (module_of base k).info

info_set : (ms : List Module) (image k : ℕ) (m : Module) → image < length ms → m.info ≡ (get_or ms image no_module).info
    → (get_or (set ms image m) k no_module).info ≡ (get_or ms k no_module).info
info_set ms image k m l same = elim (cases_eq k image) [
  | inl e ↦ rw e (ap (λ (x : Module). x.info) (get_or-set_same ms image m no_module l) ∙ same)
  | inr ne ↦ ap (λ (x : Module). x.info) (get_or-set_other ms image k m no_module ne)
]

alike_with_uses : (base p : Past) (image uses : ℕ) → IsPast (with_uses p image uses) → Alike base p
    → image < length p.modules → Alike base (with_uses p image uses)
alike_with_uses base p image uses is a l = record {
  is = is;
  limit = a.limit;
  long = length-set p.modules image (record (module_of p image) { uses = uses }) ∙ a.long;
  infos = λ k. info_set p.modules image k (record (module_of p image) { uses = uses }) l refl ∙ a.infos k;
}

alike_loaded : (base p : Past) (image : ℕ) → Alike base p → CanLoad p image → Alike base (loaded p image)
unfolding loaded
alike_loaded base p image a can = record {
  is = past_loaded p image a.is can;
  limit = a.limit;
  long = length-set p.modules image (new_instance p (module_of p image)) ∙ a.long;
  infos = λ k. info_set p.modules image k (new_instance p (module_of p image))
      (late_within p image a.is can.late).0 refl ∙ a.infos k;
}

alike_kept : (base : Past) → IsKept (Alike base)
unfolding retained released
alike_kept base = record {
  retained = λ p image a l. alike_with_uses base p image ((module_of p image).uses + 1) (past_retained p image a.is l) a
      (loaded_within p image a.is l).0;
  loaded = λ p image a can. alike_loaded base p image a can;
  released = λ p image a h. alike_with_uses base p image ((module_of p image).uses - 1) (past_released p image a.is h) a
      (loaded_within p image a.is (lt-ltb 0 (module_of p image).uses h)).0;
}

-- ---- at the start

first_infos : (xs : List ImageInfo) (image k : ℕ)
    → (get_or (first_modules xs image) k no_module).info ≡ get_or xs k no_module.info
first_infos [] image k = refl
first_infos (x ∷ xs) image zero = elim (cases_Bool x.late) [ inl t ↦ rw t refl | inr f ↦ rw f refl ]
first_infos (x ∷ xs) image (suc k) = first_infos xs (image + 1) k

start_info : (xs : List ImageInfo) (k : ℕ)
    → (get_or (no_module ∷ first_modules xs 1) (k + 1) no_module).info ≡ get_or xs k no_module.info
start_info xs k = subst
    (λ (j : ℕ). (get_or (no_module ∷ first_modules xs 1) j no_module).info ≡ get_or xs k no_module.info)
    (let e : suc k ≡ k + 1 = omega arith in e) (first_infos xs 1 k)

past_facts : (images : JobImages) (events : List Event)
    (l : IsLeftBy images (past (infos images) (last_offset images) events))
    → Facts images (past (infos images) (last_offset images) l.events)
unfolding past start
past_facts images events l =
    let base : Past = start (infos images) (last_offset images) in
    let first : IsPast (start (infos images) (last_offset images)) =
    past_start (infos images) (last_offset images) l.legal.images l.legal.low in
    let a : Alike (start (infos images) (last_offset images)) (past (infos images) (last_offset images) l.events) =
    kept_along (Alike (start (infos images) (last_offset images)))
    (alike_kept (start (infos images) (last_offset images))) (start (infos images) (last_offset images)) l.events
    (record { is = first; limit = refl; long = refl; infos = λ k. refl }) l.legal.each in
    record {
      is = a.is;
      own = own_numbers (infos images) (last_offset images) l.events l.legal;
      apart = instances_apart (infos images) (last_offset images) l.events l.legal;
      low = omega (arith, a.limit);
      limit = a.limit;
      long = a.long ∙ omega (arith, length-first_modules (infos images) 1);
      infos = λ k. a.infos (k + 1) ∙ start_info (infos images) k;
    }

pub facts : (images : JobImages) (p : Past) → IsLeftBy images p → Facts images p
facts images p l = subst (Facts images) (sym l.left)
    (past_facts images l.events (record { events = l.events; legal = l.legal; left = refl }))

-- ---- images and instances

pub image_has : (p : Past) (instance image : ℕ) → image_of p instance ≡ Some image
    → (image < length p.modules) × (is_loaded (module_of p image) ≡ true) × ((module_of p image).instance ≡ instance)
unfolding image_of
image_has p instance image e =
    let at = position-Some (has_instance instance) p.modules image no_module e in
    let parts = and_parts (is_loaded (module_of p image)) ((module_of p image).instance == instance) at.1 in
    (at.0, parts.0, eqb-true (module_of p image).instance instance parts.1)

pub image_is : (p : Past) (image : ℕ) → HaveOwnNumbers p → is_loaded (module_of p image) ≡ true
    → image_of p (module_of p image).instance ≡ Some image
unfolding image_of
image_is p image own here =
    let passes : has_instance (module_of p image).instance (module_of p image) ≡ true =
    and_from (is_loaded (module_of p image)) ((module_of p image).instance == (module_of p image).instance) here
    (eq-eqb (module_of p image).instance (module_of p image).instance refl) in
    position_one (has_instance (module_of p image).instance) p.modules image no_module refl (λ k t.
    let parts = and_parts (is_loaded (module_of p k)) ((module_of p k).instance == (module_of p image).instance) t in
    elim (cases_eq k image) [
      | inl e ↦ e
      | inr ne ↦ absurd ((own k image ne parts.0 here).0
          (eqb-true (module_of p k).instance (module_of p image).instance parts.1))
    ]) ∙ ap (λ b. cond b (Some image) None) passes

-- ---- the images of a job

sizes_are : (kinds : List ImageKind) (images : List Spelled) (k : ℕ) → k < length (infos_of kinds images)
    → (get_or (infos_of kinds images) k no_module.info).size ≡ size_of (slice_get images k)
sizes_are [] images k l = absurd (omega arith)
sizes_are (kind ∷ kinds) [] k l = absurd (omega arith)
sizes_are (kind ∷ kinds) (image ∷ images) zero l = refl
sizes_are (kind ∷ kinds) (image ∷ images) (suc k) l = sizes_are kinds images k (omega arith)

size_is_at : (images : JobImages) (k : ℕ) → k < length (infos images)
    → (slice_index_or (infos images) k no_module.info).size ≡ size_at images (suc k)
unfolding infos size_at image_at
size_is_at images k l = sizes_are images.kinds images.images k l

-- a loaded image's blocks are as long as the image says
pub size_is : (images : JobImages) (p : Past) (image : ℕ) → IsLeftBy images p → is_loaded (module_of p image) ≡ true
    → (module_of p image).info.size ≡ size_at images image
size_is images p image l here =
    let f = facts images p l in
    let within = loaded_within p image f.is here in
    let e : image - 1 + 1 ≡ image = omega (arith, within.1) in
    let n : suc (image - 1) ≡ image = omega (arith, within.1) in
    ap (λ (j : ℕ). (module_of p j).info.size) (sym e) ∙ ap (λ (i : ImageInfo). i.size) (f.infos (image - 1))
    ∙ size_is_at images (image - 1) (omega (arith, within.0, within.1, f.long)) ∙ ap (size_at images) n

-- so is one that is listed
pub listed_size : (images : JobImages) (k : ℕ) (info : ImageInfo) → slice_get (infos images) k ≡ Some info
    → info.size ≡ size_at images (suc k)
listed_size images k info e =
    ap (λ (i : ImageInfo). i.size) (sym (get_or_from_slice_get (infos images) k info no_module.info e))
    ∙ size_is_at images k (slice_get_within (infos images) k info e)
