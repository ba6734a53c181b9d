-- An image that wants its blocks at a fixed distance from the thread pointer has them so while it is loaded.
use Rattle.std.proofs.Common.{◌≡◌, ◌∙◌, ◌+◌, ◌-◌, ◌^◌, ◌<◌, ℕ, zero, suc, Bool, true, false, List, [], ◌∷◌, get_or}
use Rattle.std.proofs.Common.{Option}
use Rattle.std.proofs.Common.{Some, None, IsSome, refl, sym, ap, subst, inl, inr}
use Rattle.std.specs.Prelude.{if◌then◌else◌}
use Rattle.std.proofs.lemmas.Bool.{cases_Bool, cases_eq, lt-ltb}
use Rattle.std.proofs.lemmas.List.{get_or-set_same, get_or-set_other}
use Rattle.std.proofs.lemmas.Option.{get_or_from_slice_get}
use Rattle.loaded_modules.specs.declared.instance.Instance.{Instance}
use Rattle.module_table.specs.declared.modules.ImageInfo.{ImageInfo}
use Rattle.module_table.specs.declared.modules.Module.{Module}
use Rattle.module_table.specs.declared.events.Event.{Event}
use Rattle.module_table.specs.Modules.{AreInfos, is_loaded, no_module}
use Rattle.module_table.specs.Past.{Past, first_module, first_modules, loaded, module_of, new_instance, past, released}
use Rattle.module_table.specs.Past.{retained, start, with_uses}
use Rattle.module_table.specs.Past.{IsLegal}
use Rattle.module_table.specs.Tables.{IsPast, CanLoad}
use Rattle.module_table.proofs.Along.{IsKept, kept_along}
use Rattle.module_table.proofs.Starting.{past_start}
use Rattle.module_table.proofs.Steps.{late_within, loaded_within, past_retained, past_loaded, past_released}
use Rattle.thread_blocks.specs.Instances.{left_by}
use Rattle.thread_blocks.specs.Turns.{at_number}
use Rattle.known_instances.specs.Laws.{StaticBlocksHaveOffsets}
use Rattle.known_instances.proofs.Found.{module_at}
use Rattle.known_instances.proofs.Known.{known_live, legal_front}
use Rattle.known_instances.proofs.OneInstance.{numbered_is, used}
use Rattle.known_instances.proofs.Placed.{is_image}

-- ** along the events

-- who is loaded, came late and wants it has an offset
HasOffset : Module → Type 0
HasOffset m = is_loaded m ≡ true → m.info.late ≡ true → m.info.statics ≡ true → IsSome m.offset

record HaveOffsets (p : Past) : Type 0 where
  is : IsPast p
  each : (a : ℕ) → HasOffset (module_of p a)

offsets_with_uses : (p : Past) (image uses : ℕ) → IsPast (with_uses p image uses) → HaveOffsets p
    → is_loaded (module_of p image) ≡ true → HaveOffsets (with_uses p image uses)
unfolding HasOffset
offsets_with_uses p image uses is have held = record {
  is = is;
  each = λ a t late statics.
      let u = used p image uses a (loaded_within p image have.is held).0 held in
      let same = u.same.info in
      subst (λ (o : Option ℕ). IsSome o) (sym u.same.offset)
      (have.each a (u.held t) (ap (λ (i : ImageInfo). i.late) (sym same) ∙ late)
      (ap (λ (i : ImageInfo). i.statics) (sym same) ∙ statics));
}

offsets_loaded : (p : Past) (image : ℕ) → HaveOffsets p → CanLoad p image → HaveOffsets (loaded p image)
unfolding HasOffset loaded
offsets_loaded p image have can =
    let within = (late_within p image have.is can.late).0 in
    record {
      is = past_loaded p image have.is can;
      each = λ a. elim (cases_eq a image) [
        | inl same ↦
            let here : module_of (loaded p image) a ≡ new_instance p (module_of p image) =
            rw same (get_or-set_same p.modules image (new_instance p (module_of p image)) no_module within) in
            subst HasOffset (sym here) (λ t late statics. rw statics refl)
        | inr ne ↦
            let here : module_of (loaded p image) a ≡ module_of p a =
            get_or-set_other p.modules image a (new_instance p (module_of p image)) no_module ne in
            subst HasOffset (sym here) (have.each a)
      ];
    }

offsets_kept : IsKept HaveOffsets
unfolding retained released
offsets_kept = record {
  retained = λ p image have held. offsets_with_uses p image ((module_of p image).uses + 1)
      (past_retained p image have.is held) have held;
  loaded = λ p image have can. offsets_loaded p image have can;
  released = λ p image have some. offsets_with_uses p image ((module_of p image).uses - 1)
      (past_released p image have.is some) have (lt-ltb 0 (module_of p image).uses some);
}

-- ** before any event nobody came late

none_loaded : HasOffset no_module
unfolding HasOffset
none_loaded t late statics = absurd (cc)

first_offset : (x : ImageInfo) (image : ℕ) → HasOffset (first_module x image)
unfolding HasOffset
first_offset x image = of_late x.late refl
  where
    of_late : (t : Bool) → x.late ≡ t
        → HasOffset (if t
        then record { info = x; uses = 0; instance = 0; id = 0; offset = None }
        else record { info = x; uses = 1; instance = image; id = image; offset = None })
    of_late true is = λ held late statics. absurd (cc)
    of_late false is = λ held late statics. absurd (cc)

first_offsets : (infos : List ImageInfo) (image a : ℕ) → HasOffset (get_or (first_modules infos image) a no_module)
first_offsets [] image a = none_loaded
first_offsets (x ∷ xs) image zero = first_offset x image
first_offsets (x ∷ xs) image (suc a) = first_offsets xs (image + 1) a

offsets_start : (infos : List ImageInfo) (last : ℕ) → AreInfos infos → last < 2 ^ 27 → HaveOffsets (start infos last)
unfolding start
offsets_start infos last are low = record { is = past_start infos last are low; each = of_image }
  where
    of_image : (a : ℕ) → HasOffset (get_or (no_module ∷ first_modules infos 1) a no_module)
    of_image zero = none_loaded
    of_image (suc a) = first_offsets infos 1 a

-- so it is behind each legal history
have_offsets : (infos : List ImageInfo) (last : ℕ) (events : List Event) → IsLegal infos last events
    → HaveOffsets (past infos last events)
unfolding past
have_offsets infos last events legal =
    kept_along HaveOffsets offsets_kept (start infos last) events (offsets_start infos last legal.images legal.low)
    legal.each

-- ** the law

pub static_offsets : StaticBlocksHaveOffsets
unfolding HasOffset
static_offsets q history legal number x info known at statics =
    let live = known_live q history number x known in
    let here = legal_front q history legal live.seen live.front in
    let f = numbered_is q.infos (left_by q live.seen) number x live.live in
    let m = is_image q.infos q.last_offset live.seen f.image here f.loaded in
    let image : x.image ≡ suc m.index = sym (ap (λ (y : Instance). y.image) f.is) ∙ m.image in
    let there : at_number q.infos (suc m.index) ≡ Some info = ap (at_number q.infos) (sym image) ∙ at in
    let same : (module_at q live.seen f.image).info ≡ info =
    m.info ∙ get_or_from_slice_get q.infos m.index info no_module.info there in
    let wants : (module_at q live.seen f.image).info.statics ≡ true = ap (λ (i : ImageInfo). i.statics) same
    ∙ statics in
    let have = have_offsets q.infos q.last_offset live.seen here in
    subst (λ (y : Instance). IsSome y.offset) f.is (elim (cases_Bool (module_at q live.seen f.image).info.late) [
      | inl late ↦ rw late (have.each f.image f.loaded late wants)
      | inr early ↦ rw early refl
    ])
