-- What starts with the program stays, under its number, and no late instance has its id.
use Rattle.std.proofs.Common.{◌≡◌, ◌∙◌, ℕ, zero, suc, ◌+◌, ◌-◌, ◌<◌, ◌≤◌, Bool, true, false, cond, List, [], ◌∷◌}
use Rattle.std.proofs.Common.{length, get_or, Option, Some, None, refl, sym, ap, subst, arith, inl, inr}
use Rattle.std.specs.Prelude.{not, AllPairs, if◌then◌else◌}
use Rattle.std.proofs.lemmas.Bool.{cases_Bool, cases_eq, both_ways, and_parts, lt-ltb}
use Rattle.std.proofs.lemmas.List.{get_or-set_same, get_or-set_other}
use Rattle.std.proofs.lemmas.List.Sums.{sum_by-cons}
use Rattle.module_table.specs.declared.modules.ImageInfo.{ImageInfo}
use Rattle.module_table.specs.declared.modules.Module.{Module}
use Rattle.module_table.specs.declared.events.Event.{Event}
use Rattle.module_table.specs.declared.events.CloseRefusal.{CloseRefusal}
use Rattle.module_table.specs.Modules.{AreInfos, is_loaded, is_permanent, no_module}
use Rattle.module_table.specs.Past.{Past, module_of, start, past, after, after_one, opened, loaded, retained, released}
use Rattle.module_table.specs.Past.{with_uses, new_instance, first_module, startup_count, close_refusal, accepts}
use Rattle.module_table.specs.Past.{is_legal}
use Rattle.module_table.specs.Past.{IsLegal}
use Rattle.module_table.specs.Tables.{IsPast}
use Rattle.module_table.proofs.Along.{past_step}
use Rattle.module_table.proofs.Refusals.{can_load, accepts_open, accepts_close}
use Rattle.module_table.proofs.Starting.{get_or-first_modules, past_start}
use Rattle.module_table.proofs.Steps.{loaded_within}

-- an image that started with the program, as image k: its number is its id
pub record IsStartup (k : ℕ) (m : Module) : Type 0 where
  pub early : m.info.late ≡ false
  pub loaded : is_loaded m ≡ true
  pub instance : m.instance ≡ k
  pub id : m.id ≡ k

Stays : ℕ → Past → Type 0
Stays k p = IsStartup k (module_of p k)

-- ** along the events

stays_with_uses : (k : ℕ) (p : Past) (image uses : ℕ) → IsPast p → Stays k p → (k ≡ image → 0 < uses)
    → Stays k (with_uses p image uses)
unfolding Stays
stays_with_uses k p image uses is s some = elim (cases_eq k image) [
  | inl e ↦
      let l = (loaded_within p k is s.loaded).0 in
      let here : module_of (with_uses p image uses) k ≡ record (module_of p k) { uses = uses } =
      rw (sym e) (get_or-set_same p.modules k (record (module_of p k) { uses = uses }) no_module l) in
      rw here (record { early = s.early; loaded = lt-ltb 0 uses (some e); instance = s.instance; id = s.id })
  | inr ne ↦
      let here : module_of (with_uses p image uses) k ≡ module_of p k =
      get_or-set_other p.modules image k (record (module_of p image) { uses = uses }) no_module ne in
      subst (IsStartup k) (sym here) s
]

stays_loaded : (k : ℕ) (p : Past) (image : ℕ) → Stays k p → (module_of p image).info.late ≡ true
    → Stays k (loaded p image)
unfolding Stays loaded
stays_loaded k p image s late = elim (cases_eq k image) [
  | inl e ↦ absurd (both_ways _ s.early (subst (λ (i : ℕ). (module_of p i).info.late ≡ true) (sym e) late))
  | inr ne ↦
      let here : module_of (loaded p image) k ≡ module_of p k =
      get_or-set_other p.modules image k (new_instance p (module_of p image)) no_module ne in
      subst (IsStartup k) (sym here) s
]

not_permanent : (permanent loaded : Bool) (a b : CloseRefusal)
    → ◌≡◌ {A = Option CloseRefusal} (if permanent then Some a else (if loaded then None else Some b)) None
    → permanent ≡ false
not_permanent true loaded a b e = cc
not_permanent false loaded a b e = refl

closes_late : (p : Past) (image : ℕ) → close_refusal p image ≡ None → is_permanent (module_of p image) ≡ false
unfolding close_refusal
closes_late p image none = not_permanent (is_permanent (module_of p image)) (is_loaded (module_of p image)) _ _ none

permanent : (k : ℕ) (p : Past) → Stays k p → is_permanent (module_of p k) ≡ true
unfolding Stays
permanent k p s = rw (s.loaded, s.early) refl

stays_step : (k : ℕ) (p : Past) (e : Event) → IsPast p → Stays k p → accepts p e ≡ true → Stays k (after_one p e)
unfolding after_one opened retained released
stays_step k p e is s accepted = elim (cases_Bool e.opens) [
  | inl opens ↦ elim (cases_Bool (is_loaded (module_of p e.image))) [
    | inl l ↦ rw (opens, l) (stays_with_uses k p e.image ((module_of p e.image).uses + 1) is s (λ h. omega arith))
    | inr u ↦ rw (opens, u) (stays_loaded k p e.image s (can_load p e.image (accepts_open p e accepted opens) u).late)
  ]
  | inr closes ↦ rw closes (stays_with_uses k p e.image ((module_of p e.image).uses - 1) is s
      (λ h. absurd (both_ways _ (closes_late p e.image (accepts_close p e accepted closes))
      (subst (λ (i : ℕ). is_permanent (module_of p i) ≡ true) h (permanent k p s)))))
]

stays_along : (k : ℕ) (p : Past) (events : List Event) → IsPast p → Stays k p → is_legal p events ≡ true
    → Stays k (after p events)
unfolding is_legal
stays_along k p [] is s legal = s
stays_along k p (e ∷ es) is s legal = let parts = and_parts (accepts p e) (is_legal (after_one p e) es) legal in
    stays_along k (after_one p e) es (past_step p e is parts.0) (stays_step k p e is s parts.0) parts.1

-- ** before any event

none_early : (infos : List ImageInfo) (d : ImageInfo) → ((k : ℕ) → k < length infos → (get_or infos k d).late ≡ true)
    → startup_count infos ≡ 0
none_early [] d late = refl
none_early (x ∷ xs) d late =
    let rest = none_early xs d (λ k l. late (suc k) (omega arith)) in
    let first : x.late ≡ true = late 0 (omega arith) in
    let here : startup_count (x ∷ xs) ≡ 0 + startup_count xs =
    rw (sum_by-cons (λ (i : ImageInfo). cond (not i.late) 1 0) x xs, first) refl in
    omega (arith, here, rest)

pub early : (infos : List ImageInfo) (k : ℕ) (d : ImageInfo)
    → AllPairs (λ (a b : ImageInfo). a.late ≡ true → b.late ≡ true) infos → k < startup_count infos
    → (k < length infos) × ((get_or infos k d).late ≡ false)
early [] k d last l = absurd (omega arith)
early (x ∷ xs) k d last l = elim (cases_Bool x.late) [
  | inl late ↦
      let none = none_early xs d (λ i m. last 0 (suc i) d (omega arith) (omega arith) late) in
      let here : startup_count (x ∷ xs) ≡ 0 + startup_count xs =
      rw (sum_by-cons (λ (i : ImageInfo). cond (not i.late) 1 0) x xs, late) refl in
      absurd (omega (arith, none, here))
  | inr first ↦
      let here : startup_count (x ∷ xs) ≡ 1 + startup_count xs =
      rw (sum_by-cons (λ (i : ImageInfo). cond (not i.late) 1 0) x xs, first) refl in
      at_one k l here first (λ j m. early xs j d (λ a b e h n. last (suc a) (suc b) e (omega arith) (omega arith)) m)
]
  where
    at_one : (i : ℕ) → i < startup_count (x ∷ xs) → startup_count (x ∷ xs) ≡ 1 + startup_count xs → x.late ≡ false
        → ((j : ℕ) → j < startup_count xs → (j < length xs) × ((get_or xs j d).late ≡ false))
        → (i < length (x ∷ xs)) × ((get_or (x ∷ xs) i d).late ≡ false)
    at_one zero m here first rest = (omega arith, first)
    at_one (suc j) m here first rest = let r = rest j (omega (arith, m, here)) in (omega (arith, r.0), r.1)

first_is : (info : ImageInfo) (k : ℕ) → info.late ≡ false → IsStartup k (first_module info k)
first_is info k f = rw f (record { early = refl; loaded = refl; instance = refl; id = refl })

stays_start : (infos : List ImageInfo) (last : ℕ) (k : ℕ) → AreInfos infos → k < startup_count infos
    → Stays (suc k) (start infos last)
unfolding start Stays
stays_start infos last k are l =
    let e = early infos k no_module.info are.late_last l in
    let number : 1 + k ≡ suc k = omega arith in
    subst (IsStartup (suc k)) (sym
    (get_or-first_modules infos 1 k no_module.info no_module e.0
    ∙ ap (first_module (get_or infos k no_module.info)) number))
    (first_is (get_or infos k no_module.info) (suc k) e.1)

-- the law: so it is behind each legal history
pub startup_kept : (infos : List ImageInfo) (last : ℕ) (events : List Event) (k : ℕ) → IsLegal infos last events → 0 < k
    → k ≤ startup_count infos
    → IsStartup k (module_of (past infos last events) k)
unfolding past Stays
startup_kept infos last events zero legal some low = absurd (omega arith)
startup_kept infos last events (suc k) legal some low =
    stays_along (suc k) (start infos last) events (past_start infos last legal.images legal.low)
    (stays_start infos last k legal.images (omega arith)) legal.each
