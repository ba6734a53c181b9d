-- Opens and closes balance; instances and ids.
use Rattle.std.proofs.Common.{◌≡◌, ◌≢◌, ℕ, ◌+◌, ◌-◌, ◌<◌, ◌≤◌, true, false, cond, List, [], ◌∷◌, length, get_or, sym}
use Rattle.std.proofs.Common.{refl, ap, ◌∙◌, subst, arith, inl, inr}
use Rattle.std.proofs.Math.ListN.{set}
use Rattle.std.specs.Prelude.{if◌then◌else◌, ◌&&◌, ◌==◌, not}
use Rattle.std.proofs.lemmas.Bool.{cases_Bool, cases_eq, both_ways, and_parts, and_from, eq-eqb, ne_eqb, ltb-false}
use Rattle.std.proofs.lemmas.Bool.{lt-ltb}
use Rattle.std.proofs.lemmas.List.{get_or-set_same, get_or-set_other}
use Rattle.std.proofs.lemmas.List.Folds.{list_any_at}
use Rattle.std.proofs.lemmas.List.Sums.{sum_by-cons}
use Rattle.module_table.specs.declared.modules.ImageInfo.{ImageInfo}
use Rattle.module_table.specs.declared.modules.Module.{Module}
use Rattle.module_table.specs.declared.events.Event.{Event}
use Rattle.module_table.specs.Modules.{AreInfos, is_loaded, no_module}
use Rattle.module_table.specs.Past.{Past, module_of, has_id, start, past, after_one, after, opened, loaded, retained}
use Rattle.module_table.specs.Past.{released, with_uses, new_instance, least_free}
use Rattle.module_table.specs.Past.{accepts, is_legal}
use Rattle.module_table.specs.Past.{IsLegal}
use Rattle.module_table.specs.Laws.{opens_of, closes_of, Balances, loads, load_count, CountsInstances, HaveOwnNumbers}
use Rattle.module_table.specs.Laws.{LoadsTakeLeastId}
use Rattle.module_table.specs.Tables.{IsPast, CanLoad}
use Rattle.module_table.proofs.Refusals.{can_load, held, accepts_open, accepts_close}
use Rattle.module_table.proofs.Starting.{past_start, own_number}
use Rattle.module_table.proofs.Steps.{late_within, loaded_within, few_loaded, least_of, numbered_at, past_retained}
use Rattle.module_table.proofs.Steps.{past_loaded, past_released}
use Rattle.module_table.proofs.Along.{IsKept, kept_along, past_step, past_legal}

-- ---- the balance

-- each event writes one image
pub written : (p : Past) (e : Event) → (m : Module) × ((after_one p e).modules ≡ set p.modules e.image m)
unfolding after_one opened loaded retained released
written p e = elim e.opens as
    (λ b. (m : Module) × ((if b then (if is_loaded (module_of p e.image) then retained p e.image else loaded p e.image)
    else released p e.image).modules ≡ set p.modules e.image m)) [
      | true ↦ elim (is_loaded (module_of p e.image)) as
          (λ b. (m : Module) × ((if b then retained p e.image else loaded p e.image).modules ≡ set p.modules e.image m)) [
            | true ↦ (record (module_of p e.image) { uses = (module_of p e.image).uses + 1 }, refl)
            | false ↦ (new_instance p (module_of p e.image), refl)
          ]
      | false ↦ (record (module_of p e.image) { uses = (module_of p e.image).uses - 1 }, refl)
    ]

-- and leaves the others
pub others_stay : (p : Past) (e : Event) (image : ℕ) → (e.image ≡ image → ⊥)
    → module_of (after_one p e) image ≡ module_of p image
others_stay p e image ne = let w = written p e in
    ap (λ (ms : List Module). get_or ms image no_module) w.1
    ∙ get_or-set_other p.modules e.image image w.0 no_module (λ h. ne (sym h))

uses-retained : (p : Past) (image : ℕ) → image < length p.modules
    → (module_of (retained p image) image).uses ≡ (module_of p image).uses + 1
unfolding retained
uses-retained p image l =
    ap (λ (m : Module). m.uses)
    (get_or-set_same p.modules image
    (record (module_of p image) { uses = (module_of p image).uses + 1 }) no_module l)

uses-loaded : (p : Past) (image : ℕ) → image < length p.modules → (module_of (loaded p image) image).uses ≡ 1
unfolding loaded
uses-loaded p image l =
    ap (λ (m : Module). m.uses) (get_or-set_same p.modules image (new_instance p (module_of p image)) no_module l)

uses-released : (p : Past) (image : ℕ) → image < length p.modules
    → (module_of (released p image) image).uses ≡ (module_of p image).uses - 1
unfolding released
uses-released p image l =
    ap (λ (m : Module). m.uses)
    (get_or-set_same p.modules image
    (record (module_of p image) { uses = (module_of p image).uses - 1 }) no_module l)

-- the image of an accepted event: an open adds one, a close takes one
uses_here : (p : Past) (e : Event) → IsPast p → accepts p e ≡ true
    → (module_of (after_one p e) e.image).uses + cond (not e.opens && true) 1 0
    ≡ (module_of p e.image).uses + cond (e.opens && true) 1 0
unfolding after_one opened
uses_here p e is accepted = elim (cases_Bool e.opens) [
  | inl opens ↦ elim (cases_Bool (is_loaded (module_of p e.image))) [
    | inl l ↦ rw (opens, l) (omega (arith, uses-retained p e.image (loaded_within p e.image is l).0))
    | inr u ↦
        let can = can_load p e.image (accepts_open p e accepted opens) u in
        let none : (module_of p e.image).uses ≤ 0 = ltb-false 0 (module_of p e.image).uses u in
        rw (opens, u) (omega (arith, uses-loaded p e.image (late_within p e.image is can.late).0))
  ]
  | inr closes ↦
      let some : 0 < (module_of p e.image).uses = held p e.image (accepts_close p e accepted closes) in
      rw closes (omega (
        arith,
        uses-released p e.image (loaded_within p e.image is (lt-ltb 0 (module_of p e.image).uses some)).0,
      ))
]

uses-after_one : (p : Past) (e : Event) (image : ℕ) → IsPast p → accepts p e ≡ true
    → (module_of (after_one p e) image).uses + cond (not e.opens && (e.image == image)) 1 0
    ≡ (module_of p image).uses + cond (e.opens && (e.image == image)) 1 0
uses-after_one p e image is accepted = elim (cases_eq e.image image) [
  | inl same ↦ subst (λ (j : ℕ). (module_of (after_one p e) j).uses + cond (not e.opens && (e.image == j)) 1 0
      ≡ (module_of p j).uses + cond (e.opens && (e.image == j)) 1 0) same
      (rw (eq-eqb e.image e.image refl) (uses_here p e is accepted))
  | inr ne ↦ rw (ne_eqb e.image image ne, others_stay p e image ne)
      (elim e.opens as (λ b. (module_of p image).uses + cond (not b && false) 1 0
      ≡ (module_of p image).uses + cond (b && false) 1 0) [ true ↦ refl | false ↦ refl ])
]

balance_after : (p : Past) (events : List Event) (image : ℕ) → IsPast p → is_legal p events ≡ true
    → (module_of (after p events) image).uses + closes_of image events
    ≡ (module_of p image).uses + opens_of image events
unfolding is_legal
balance_after p [] image is legal = refl
balance_after p (e ∷ es) image is legal =
    let parts = and_parts (accepts p e) (is_legal (after_one p e) es) legal in
    let rest = balance_after (after_one p e) es image (past_step p e is parts.0) parts.1 in
    let step = uses-after_one p e image is parts.0 in
    let opens : opens_of image (e ∷ es) ≡ cond (e.opens && (e.image == image)) 1 0 + opens_of image es =
    sum_by-cons (λ (x : Event). cond (x.opens && (x.image == image)) 1 0) e es in
    let closes : closes_of image (e ∷ es) ≡ cond (not e.opens && (e.image == image)) 1 0 + closes_of image es =
    sum_by-cons (λ (x : Event). cond (not x.opens && (x.image == image)) 1 0) e es in
    omega (arith, rest, step, opens, closes)

pub balances : (infos : List ImageInfo) (last_offset : ℕ) (events : List Event) (image : ℕ)
    → IsLegal infos last_offset events → Balances infos last_offset events image
unfolding past
balances infos last_offset events image is =
    balance_after (start infos last_offset) events image (past_start infos last_offset is.images is.low) is.each

-- ---- instances

made-after_one : (p : Past) (e : Event) → (after_one p e).made ≡ p.made + (if loads p e then 1 else 0)
unfolding after_one opened loaded retained released
made-after_one p e = elim e.opens as
    (λ b. (if b then (if is_loaded (module_of p e.image) then retained p e.image else loaded p e.image)
    else released p e.image).made
    ≡ p.made + (if b && not (is_loaded (module_of p e.image)) then 1 else 0)) [
      | true ↦ elim (is_loaded (module_of p e.image)) as
          (λ b. (if b then retained p e.image else loaded p e.image).made ≡ p.made + (if not b then 1 else 0))
          [ true ↦ omega arith | false ↦ refl ]
      | false ↦ omega arith
    ]

made-after : (p : Past) (events : List Event) → (after p events).made ≡ p.made + load_count p events
made-after p [] = omega arith
made-after p (e ∷ es) = omega (arith, made-after (after_one p e) es, made-after_one p e)

pub counts_instances : (infos : List ImageInfo) (last_offset : ℕ) (events : List Event)
    → CountsInstances infos last_offset events
unfolding past start
counts_instances infos last_offset events = made-after (start infos last_offset) events

-- ---- numbers of their own

record Numbered (p : Past) : Type 0 where
  pub is : IsPast p
  pub own : HaveOwnNumbers p

pub record SameNumbers (new old : Module) : Type 0 where
  pub instance : new.instance ≡ old.instance
  pub id : new.id ≡ old.id
  pub held : is_loaded new ≡ true → is_loaded old ≡ true

pub numbers_same : (p : Past) (image uses a : ℕ) → image < length p.modules → is_loaded (module_of p image) ≡ true
    → SameNumbers (module_of (with_uses p image uses) a) (module_of p a)
numbers_same p image uses a l loaded = elim (cases_eq a image) [
  | inl e ↦ let here : module_of (with_uses p image uses) a ≡ record (module_of p image) { uses = uses } =
      rw e (get_or-set_same p.modules image (record (module_of p image) { uses = uses }) no_module l) in
      rw (here, e) (record { instance = refl; id = refl; held = λ _. loaded })
  | inr ne ↦ let here : module_of (with_uses p image uses) a ≡ module_of p a =
      get_or-set_other p.modules image a (record (module_of p image) { uses = uses }) no_module ne in
      rw here (record { instance = refl; id = refl; held = λ t. t })
]

own_with_uses : (p : Past) (image uses : ℕ) → IsPast p → HaveOwnNumbers p → is_loaded (module_of p image) ≡ true
    → HaveOwnNumbers (with_uses p image uses)
own_with_uses p image uses is own loaded a b ne la lb =
    let l = (loaded_within p image is loaded).0 in
    let x = numbers_same p image uses a l loaded in
    let y = numbers_same p image uses b l loaded in
    let old = own a b ne (x.held la) (y.held lb) in
    (λ e. old.0 (sym x.instance ∙ e ∙ y.instance), λ e. old.1 (sym x.id ∙ e ∙ y.id))

-- the new instance and another loaded image
new_is_apart : (p : Past) (image b : ℕ) → IsPast p → CanLoad p image → is_loaded (module_of p b) ≡ true
    → ((new_instance p (module_of p image)).instance ≢ (module_of p b).instance)
    × ((new_instance p (module_of p image)).id ≢ (module_of p b).id)
new_is_apart p image b is can loaded =
    let least = least_of p (few_loaded p image is can) in
    let made : (module_of p b).instance ≤ p.made = (numbered_at p b is).instance loaded in (
      λ e. absurd (omega arith),
      λ e. both_ways _ least.free
          (list_any_at (has_id (least_free p.modules)) p.modules b no_module (loaded_within p b is loaded).0
          (and_from _ _ loaded (eq-eqb _ _ (sym e)))),
    )

own_loaded : (p : Past) (image : ℕ) → IsPast p → HaveOwnNumbers p → CanLoad p image → HaveOwnNumbers (loaded p image)
unfolding loaded
own_loaded p image is own can a b ne la lb =
    let l = (late_within p image is can.late).0 in
    let m : Module = new_instance p (module_of p image) in
    elim (cases_eq a image) [
      | inl x ↦ elim (cases_eq b image) [
        | inl y ↦ absurd (ne (x ∙ sym y))
        | inr y ↦
            let at_b : get_or (set p.modules image (new_instance p (module_of p image))) b no_module ≡ module_of p b =
            get_or-set_other p.modules image b (new_instance p (module_of p image)) no_module y in
            rw (x, get_or-set_same p.modules image (new_instance p (module_of p image)) no_module l, at_b)
            (new_is_apart p image b is can (rw at_b at lb))
      ]
      | inr x ↦
          let at_a : get_or (set p.modules image (new_instance p (module_of p image))) a no_module ≡ module_of p a =
          get_or-set_other p.modules image a (new_instance p (module_of p image)) no_module x in
          elim (cases_eq b image) [
            | inl y ↦ let other = new_is_apart p image a is can (rw at_a at la) in
                rw (y, get_or-set_same p.modules image (new_instance p (module_of p image)) no_module l, at_a)
                ((λ e. other.0 (sym e)), (λ e. other.1 (sym e)))
            | inr y ↦
                let at_b : get_or (set p.modules image (new_instance p (module_of p image))) b no_module
                ≡ module_of p b =
                get_or-set_other p.modules image b (new_instance p (module_of p image)) no_module y in
                rw (at_a, at_b) (own a b ne (rw at_a at la) (rw at_b at lb))
          ]
    ]

numbered_kept : IsKept Numbered
unfolding retained released
numbered_kept = record {
  retained = λ p image n l. record
      { is = past_retained p image n.is l; own = own_with_uses p image ((module_of p image).uses + 1) n.is n.own l };
  loaded = λ p image n can. record { is = past_loaded p image n.is can; own = own_loaded p image n.is n.own can };
  released = λ p image n h. record {
    is = past_released p image n.is h;
    own = own_with_uses p image ((module_of p image).uses - 1) n.is n.own (lt-ltb 0 (module_of p image).uses h);
  };
}

own_start : (infos : List ImageInfo) (last_offset : ℕ) → AreInfos infos → HaveOwnNumbers (start infos last_offset)
unfolding start
own_start infos last_offset are a b ne la lb =
    let x = own_number infos a are la in
    let y = own_number infos b are lb in
    (λ e. ne (sym x.0 ∙ e ∙ y.0), λ e. ne (sym x.1 ∙ e ∙ y.1))

pub own_numbers : (infos : List ImageInfo) (last_offset : ℕ) (events : List Event) → IsLegal infos last_offset events
    → HaveOwnNumbers (past infos last_offset events)
unfolding past
own_numbers infos last_offset events is =
    (kept_along Numbered numbered_kept (start infos last_offset) events
    (record {
      is = past_start infos last_offset is.images is.low;
      own = own_start infos last_offset is.images;
    }) is.each).own

-- ---- the least id

pub least_ids : (infos : List ImageInfo) (last_offset : ℕ) (events : List Event) → IsLegal infos last_offset events
    → LoadsTakeLeastId (past infos last_offset events)
unfolding opened loaded
least_ids infos last_offset events legal image none unloaded =
    let p : Past = past infos last_offset events in
    let is = past_legal infos last_offset events legal in
    let can = can_load (past infos last_offset events) image none unloaded in
    let l = (late_within (past infos last_offset events) image is can.late).0 in
    rw (
      unloaded,
      get_or-set_same (past infos last_offset events).modules image
          (new_instance (past infos last_offset events) (module_of (past infos last_offset events) image)) no_module l,
    )
    (least_of (past infos last_offset events) (few_loaded (past infos last_offset events) image is can))
