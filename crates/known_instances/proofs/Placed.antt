-- A live instance stands for an image of the list, and where its blocks begin.
use Rattle.std.proofs.Common.{◌≡◌, ◌∙◌, ◌+◌, ◌^◌, ◌<◌, ◌≤◌, ℕ, zero, suc, Bool, true, false, List, [], ◌∷◌, get_or}
use Rattle.std.proofs.Common.{length, Some, refl, sym, subst, inl, inr, arith}
use Rattle.std.specs.Prelude.{All, IfSome, take}
use Rattle.std.specs.List.{find}
use Rattle.std.proofs.lemmas.Bool.{cases_Bool}
use Rattle.loaded_modules.specs.declared.instance.Instance.{Instance}
use Rattle.module_table.specs.declared.modules.ImageInfo.{ImageInfo}
use Rattle.module_table.specs.declared.modules.Module.{Module}
use Rattle.module_table.specs.declared.events.Event.{Event}
use Rattle.module_table.specs.Modules.{startup_end}
use Rattle.module_table.specs.Modules.{is_loaded, no_module}
use Rattle.module_table.specs.Past.{module_of, past, start, first_modules}
use Rattle.module_table.specs.Past.{IsLegal}
use Rattle.module_table.proofs.LawsOfBlocks.{instances_apart}
use Rattle.module_table.proofs.StartLemmas.{length-first_modules}
use Rattle.module_table.proofs.Steps.{loaded_within}
use Rattle.thread_blocks.specs.Instances.{Loads, left_by, instances, numbered_instance}
use Rattle.thread_blocks.specs.Turns.{IsFront}
use Rattle.known_instances.specs.Known.{known_in}
use Rattle.known_instances.proofs.Found.{module_at, instance_for}
use Rattle.known_instances.proofs.Known.{legal_front, known_live, numbered_number}
use Rattle.known_instances.proofs.Numbered.{are_numbered}
use Rattle.known_instances.proofs.StaticOffsets.{end_low, end_holds, offset_if}
use Rattle.known_instances.proofs.OneInstance.{numbered_is}

-- what is known of an image before any event
get_first : (infos : List ImageInfo) (image k : ℕ) (d : ImageInfo) (e : Module) → k < length infos
    → (get_or (first_modules infos image) k e).info ≡ get_or infos k d
get_first [] image k d e l = absurd (omega arith)
get_first (x ∷ xs) image zero d e l = elim (cases_Bool x.late) [ inl t ↦ rw t refl | inr f ↦ rw f refl ]
get_first (x ∷ xs) image (suc k) d e l = get_first xs (image + 1) k d e (omega arith)

-- the image of a loaded module, and what is known of it
pub record IsImage (infos : List ImageInfo) (a : ℕ) (m : Module) : Type 0 where
  pub index : ℕ
  pub image : a ≡ suc index
  pub within : index < length infos
  pub info : m.info ≡ get_or infos index no_module.info

-- who is loaded is an image of the list
pub is_image : (infos : List ImageInfo) (last : ℕ) (events : List Event) (a : ℕ) → IsLegal infos last events
    → is_loaded (module_of (past infos last events) a) ≡ true
    → IsImage infos a (module_of (past infos last events) a)
unfolding start
is_image infos last events zero legal t =
    let l = loaded_within (past infos last events) 0 (are_numbered infos last events legal).is t in
    absurd (omega (arith, l.1))
is_image infos last events (suc k) legal t =
    let made = are_numbered infos last events legal in
    let l = loaded_within (past infos last events) (suc k) made.is t in
    let within : k < length infos = omega (arith, l.0, made.long, length-first_modules infos 1) in
    record {
      index = k;
      image = refl;
      within = within;
      info = made.info (suc k) ∙ get_first infos 1 k no_module.info no_module within;
    }

-- what holds of a live instance's place
pub record IsPlacedIn (infos : List ImageInfo) (x : Instance) : Type 0 where
  pub index : ℕ
  pub image : x.image ≡ suc index
  pub within : index < length infos
  pub some : 0 < x.number
  pub offset : IfSome x.offset (λ (o : ℕ). (o < 2 ^ 28) × ((get_or infos index no_module.info).size ≤ o))

module _ (q : Loads ℕ) (history : List Event) (legal : IsLegal q.infos q.last_offset history) where
  -- how far below the thread pointer the blocks of a loaded image begin: far enough for them, and not far
  image_offset : (seen : List Event) (a : ℕ) → IsLegal q.infos q.last_offset seen
      → is_loaded (module_at q seen a) ≡ true
      → IsImage q.infos a (module_at q seen a)
      → IfSome (instance_for q.infos a (module_at q seen a)).offset
      (λ (o : ℕ). (o < 2 ^ 28) × ((module_at q seen a).info.size ≤ o))
  image_offset seen a here t is =
      let apart = instances_apart q.infos q.last_offset seen here in
      let low : q.last_offset < 2 ^ 27 = here.low in
      let bound = end_low q.infos a 0 here.images.each in
      let few : length q.infos ≤ 64 = here.images.few in
      offset_if (module_at q seen a).info.late (module_at q seen a).offset (startup_end (take a q.infos) 0)
      (λ (o : ℕ). (o < 2 ^ 28) × ((module_at q seen a).info.size ≤ o))
      (λ late o e. (omega (arith, apart.below a o e, low), omega (arith, apart.above a o e)))
      (λ early.
      let first : (get_or q.infos is.index no_module.info).late ≡ false =
      subst (λ (i : ImageInfo). i.late ≡ false) is.info early in
      let holds = end_holds q.infos is.index 0 no_module.info is.within first in
      let there : (get_or q.infos is.index no_module.info).size ≤ startup_end (take a q.infos) 0 =
      subst (λ (i : ℕ). (get_or q.infos is.index no_module.info).size ≤ startup_end (take i q.infos) 0)
      (sym is.image) (omega (arith, holds)) in (
        omega (arith, bound, few),
        subst (λ (i : ImageInfo). i.size ≤ startup_end (take a q.infos) 0)
            (sym is.info) there,
      ))

  -- and so it is of each live instance
  pub placed_in : (seen : List Event) (n : ℕ) (x : Instance) → IsFront seen history
      → numbered_instance q seen n ≡ Some x
      → IsPlacedIn q.infos x
  placed_in seen n x front e =
      let here = legal_front q history legal seen front in
      let f = numbered_is q.infos (left_by q seen) n x e in
      let is = is_image q.infos q.last_offset seen f.image here f.loaded in
      let number : 0 < (module_at q seen f.image).instance =
      (are_numbered q.infos q.last_offset seen here).some f.image f.loaded in
      let offset = image_offset seen f.image here f.loaded is in
      subst (IsPlacedIn q.infos) f.is (record {
        index = is.index;
        image = is.image;
        within = is.within;
        some = number;
        offset = subst (λ (i : ImageInfo). IfSome (instance_for q.infos f.image (module_at q seen f.image)).offset
            (λ (o : ℕ). (o < 2 ^ 28) × (i.size ≤ o))) is.info offset;
      })

-- ** what was found is one of them

pub all_found : (P : Instance → Type 0) (test : Instance → Bool) (xs : List Instance) (x : Instance) → All P xs
    → find test xs ≡ Some x → P x
all_found P test [] x all e = cc
all_found P test (y ∷ ys) x all e = elim (cases_Bool (test y)) [
  | inl t ↦
      let here : Some y ≡ Some x = rw t at e in
      let same : y ≡ x = let h = here in cc in
      subst P same (all 0 y (omega arith))
  | inr f ↦ all_found P test ys x (λ k d l. all (suc k) d (omega arith)) (rw f at e)
]

module _ (q : Loads ℕ) (history : List Event) (legal : IsLegal q.infos q.last_offset history) where
  -- so what holds of all live instances, at any time, holds of each known one
  pub known_each : (P : Instance → Type 0) → ((seen : List Event) → IsFront seen history → All P (instances q seen))
      → (number : ℕ) (x : Instance) → known_in q history number ≡ Some x → P x × (x.number ≡ number)
  known_each P each number x e =
      let live = known_live q history number x e in (
        all_found P _ (instances q live.seen) x (each live.seen live.front) live.live,
        numbered_number q history live.seen number x live.live,
      )
