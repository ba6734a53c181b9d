-- What holds of each live instance, and the laws of ids.
use Rattle.std.proofs.Common.{◌≡◌, ◌∙◌, ◌+◌, ◌<◌, ◌≤◌, ◌^◌, ℕ, suc, true, false, List, [], ◌∷◌, ◌++◌, get_or, Option}
use Rattle.std.proofs.Common.{Some, None, refl, sym, ap, subst, inl, inr, arith}
use Rattle.std.specs.Prelude.{All, option_to_list}
use Rattle.std.proofs.lemmas.Bool.{cases_eq, both_ways, false_from_ne_true, leb-true, ne_eqb}
use Rattle.std.proofs.lemmas.List.Elements.{All-nil, All-cons}
use Rattle.loaded_modules.specs.declared.instance.Instance.{Instance}
use Rattle.module_table.specs.declared.modules.ImageInfo.{ImageInfo}
use Rattle.module_table.specs.declared.modules.Module.{Module}
use Rattle.module_table.specs.declared.events.Event.{Event}
use Rattle.module_table.specs.Modules.{no_module}
use Rattle.module_table.specs.Past.{startup_count}
use Rattle.module_table.specs.Past.{IsLegal}
use Rattle.module_table.proofs.LawsOfNumbers.{own_numbers}
use Rattle.thread_blocks.specs.Instances.{Loads, left_by, loaded_instance, instances_from, instances_in, instances}
use Rattle.thread_blocks.specs.Instances.{numbered_instance, is_startup_id}
use Rattle.thread_blocks.specs.Turns.{IsFront}
use Rattle.known_instances.specs.Known.{known_in}
use Rattle.known_instances.specs.Laws.{LateIdsAreLate, StartupInstancesStay}
use Rattle.known_instances.proofs.Found.{module_at, instance_for, loaded_is}
use Rattle.known_instances.proofs.Known.{legal_front, numbered_at_image, known_is, number_low}
use Rattle.known_instances.proofs.OneInstance.{numbered_is}
use Rattle.known_instances.proofs.Startup.{startup_kept}

-- ** what holds of each loaded image holds of each live instance

-- of a list of modules, from an image on
pub all_from : (P : Instance → Type 0) (infos : List ImageInfo) (image : ℕ) (ms : List Module)
    → ((a : ℕ) (x : Instance) → loaded_instance infos (image + a) (get_or ms a no_module) ≡ Some x → P x)
    → All P (instances_from infos image ms)
all_from P infos image [] each = All-nil P
all_from P infos image (m ∷ ms) each =
    first (loaded_instance infos image m) refl
    (all_from P infos (suc image) ms
    (λ a x e. each (suc a) x (ap (λ (i : ℕ). loaded_instance infos i (get_or ms a no_module)) (omega arith) ∙ e)))
  where
    first : (o : Option Instance) → loaded_instance infos image m ≡ o → All P (instances_from infos (suc image) ms)
        → All P (option_to_list o ++ instances_from infos (suc image) ms)
    first None e rest = rest
    first (Some x) e rest = All-cons P x (instances_from infos (suc image) ms)
        (each 0 x (ap (λ (i : ℕ). loaded_instance infos i m) (omega arith) ∙ e)) rest

module _ (q : Loads ℕ) (history : List Event) (legal : IsLegal q.infos q.last_offset history) where
  pub all_live : (P : Instance → Type 0) (seen : List Event) → IsFront seen history
      → ((x : Instance) → numbered_instance q seen x.number ≡ Some x → P x) → All P (instances q seen)
  unfolding instances_in
  all_live P seen front each = all_from P q.infos 0 (left_by q seen).modules
      (λ a x e. each x (numbered_at_image q history legal seen a x front
      (ap (λ (i : ℕ). loaded_instance q.infos i (module_at q seen a)) (omega arith) ∙ e)))

  -- of each live instance: it is found under its number, it is the known one, its number is small
  pub record IsKnown (seen : List Event) (x : Instance) : Type 0 where
    pub numbered : numbered_instance q seen x.number ≡ Some x
    pub known : known_in q history x.number ≡ Some x
    pub low : x.number < 2 ^ 12

  -- what starts with the program is found under its number, and has it as its id
  pub startup : (seen : List Event) (number : ℕ) → IsFront seen history → 0 < number → number ≤ startup_count q.infos
      → (x : Instance) × ((numbered_instance q seen number ≡ Some x) × (x.id ≡ number))
  startup seen number front some low =
      let s = startup_kept q.infos q.last_offset seen number (legal_front q history legal seen front) some low in
      let x : Instance = instance_for q.infos number (module_at q seen number) in
      let at = numbered_at_image q history legal seen number
      (instance_for q.infos number (module_at q seen number)) front
      (loaded_is q.infos number (module_at q seen number) s.loaded) in (
        instance_for q.infos number (module_at q seen number),
        (
          subst (λ (n : ℕ). numbered_instance q seen n ≡ Some (instance_for q.infos number (module_at q seen number)))
              s.instance at,
          s.id,
        ),
      )

  -- an id of a startup image is one of the first numbers
  startup_id : (id : ℕ) → is_startup_id q id ≡ true → (0 < id) × (id ≤ startup_count q.infos)
  startup_id id t = elim (cases_eq id 0) [
    | inl e ↦ absurd (both_ways (is_startup_id q id) (rw e refl) t)
    | inr ne ↦ (omega arith, leb-true id (startup_count q.infos) (rw (ne_eqb id 0 ne) at t))
  ]

  -- what came late has none of these ids
  pub late_ids : (seen : List Event) (x : Instance) → IsFront seen history → numbered_instance q seen x.number ≡ Some x
      → startup_count q.infos < x.number → is_startup_id q x.id ≡ false
  late_ids seen x front e late = false_from_ne_true _ (λ t.
      let own = own_numbers q.infos q.last_offset seen (legal_front q history legal seen front) in
      let f = numbered_is q.infos (left_by q seen) x.number x e in
      let id : (module_at q seen f.image).id ≡ x.id = ap (λ (y : Instance). y.id) f.is in
      let low = startup_id x.id t in
      let s = startup_kept q.infos q.last_offset seen x.id (legal_front q history legal seen front) low.0 low.1 in
      elim (cases_eq f.image x.id) [
        | inl same ↦
            let number : (module_at q seen x.id).instance ≡ x.number =
            subst (λ (i : ℕ). (module_at q seen i).instance ≡ x.number) same f.number in
            absurd (omega (arith, number, s.instance, low.1, late))
        | inr ne ↦ absurd ((own f.image x.id ne f.loaded s.loaded).1 (id ∙ sym s.id))
      ])

-- ** the laws

pub startup_stays : StartupInstancesStay
startup_stays q history legal seen number front some low = startup q history legal seen number front some low

pub late_late : LateIdsAreLate
late_late q history legal seen x front e late = late_ids q history legal seen x front e late
