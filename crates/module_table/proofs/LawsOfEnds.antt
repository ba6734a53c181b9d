-- Instances end for good.
use Rattle.std.proofs.Common.{◌≡◌, ℕ, ◌+◌, ◌-◌, ◌<◌, ◌≤◌, true, false, ltb, List, ◌++◌, length, sym, refl, ap, ◌∙◌}
use Rattle.std.proofs.Common.{arith, inl, inr}
use Rattle.std.specs.Prelude.{◌==◌, is_some}
use Rattle.std.specs.List.{position_or_len}
use Rattle.std.proofs.lemmas.Bool.{cases_eq, cases_lt, both_ways, and_parts, and_from, eq-eqb, ne_eqb, eqb-true, lt-ltb}
use Rattle.std.proofs.lemmas.Bool.{false_from_ne_true}
use Rattle.std.proofs.lemmas.List.{get_or-set_same, get_or-set_other}
use Rattle.std.proofs.lemmas.List.Sums.{fails_before_first}
use Rattle.module_table.specs.declared.modules.ImageInfo.{ImageInfo}
use Rattle.module_table.specs.declared.events.Event.{Event}
use Rattle.module_table.specs.Modules.{is_loaded, no_module}
use Rattle.module_table.specs.Past.{Past, module_of, start, past, after, loaded, retained, released, with_uses}
use Rattle.module_table.specs.Past.{new_instance, is_legal}
use Rattle.module_table.specs.PastLaws.{has_instance, image_of, live}
use Rattle.module_table.specs.Past.{IsLegal}
use Rattle.module_table.specs.Laws.{EndsForGood}
use Rattle.module_table.specs.Walks.{past-append, is_legal-append}
use Rattle.module_table.specs.Tables.{IsPast, CanLoad}
use Rattle.module_table.proofs.Lookups.{index_none}
use Rattle.module_table.proofs.Starting.{past_start}
use Rattle.module_table.proofs.Steps.{late_within, loaded_within, past_retained, past_loaded, past_released}
use Rattle.module_table.proofs.Along.{IsKept, kept_along, past_along}
use Rattle.module_table.proofs.LawsOfNumbers.{numbers_same}

-- ---- what "not live" says of each image

not_live : (p : Past) (instance : ℕ) → ((a : ℕ) → has_instance instance (module_of p a) ≡ false)
    → live p instance ≡ false
unfolding live image_of
not_live p instance none =
    ap is_some (index_none (has_instance instance) p.modules 0 no_module (λ k t. absurd (both_ways _ (none k) t))
    (none 0))

each_is_other : (p : Past) (instance : ℕ) → IsPast p → live p instance ≡ false → (a : ℕ)
    → has_instance instance (module_of p a) ≡ false
unfolding live image_of
each_is_other p instance is dead a = false_from_ne_true _ (λ t.
    let parts = and_parts (is_loaded (module_of p a)) ((module_of p a).instance == instance) t in
    let within : a < length p.modules = (loaded_within p a is parts.0).0 in
    let first : position_or_len (has_instance instance) p.modules ≤ a =
    elim (cases_lt a (position_or_len (has_instance instance) p.modules)) [
      | inl before ↦ absurd (both_ways _ (fails_before_first (has_instance instance) p.modules a no_module before) t)
      | inr h ↦ h
    ] in
    let found : ltb (position_or_len (has_instance instance) p.modules) (length p.modules) ≡ true =
    lt-ltb _ _ (omega arith) in
    both_ways _ dead (rw found refl))

-- ---- a made instance that no loaded image is

record Ended (instance : ℕ) (p : Past) : Type 0 where
  pub is : IsPast p
  pub made : instance ≤ p.made
  pub gone : (a : ℕ) → has_instance instance (module_of p a) ≡ false

ended_with_uses : (instance : ℕ) (p : Past) (image uses : ℕ) → IsPast (with_uses p image uses) → Ended instance p
    → is_loaded (module_of p image) ≡ true → Ended instance (with_uses p image uses)
ended_with_uses instance p image uses is e loaded = record {
  is = is;
  made = e.made;
  gone = λ a. false_from_ne_true _ (λ t.
      let same = numbers_same p image uses a (loaded_within p image e.is loaded).0 loaded in
      let parts = and_parts (is_loaded (module_of (with_uses p image uses) a))
      ((module_of (with_uses p image uses) a).instance == instance) t in
      both_ways _ (e.gone a)
      (and_from (is_loaded (module_of p a)) ((module_of p a).instance == instance) (same.held parts.0)
      (eq-eqb (module_of p a).instance instance
      (sym same.instance ∙ eqb-true (module_of (with_uses p image uses) a).instance instance parts.1))));
}

ended_loaded : (instance : ℕ) (p : Past) (image : ℕ) → Ended instance p → CanLoad p image
    → Ended instance (loaded p image)
unfolding loaded
ended_loaded instance p image e can =
    let l = (late_within p image e.is can.late).0 in
    let old : instance ≤ p.made = e.made in
    record {
      is = past_loaded p image e.is can;
      made = omega arith;
      gone = λ a. elim (cases_eq a image) [
        | inl same ↦ rw (same, get_or-set_same p.modules image (new_instance p (module_of p image)) no_module l)
            (ne_eqb (p.made + 1) instance (λ h. omega arith))
        | inr ne ↦ rw (get_or-set_other p.modules image a (new_instance p (module_of p image)) no_module ne) (e.gone a)
      ];
    }

ended_kept : (instance : ℕ) → IsKept (Ended instance)
unfolding retained released
ended_kept instance = record {
  retained = λ p image e l. ended_with_uses instance p image ((module_of p image).uses + 1)
      (past_retained p image e.is l) e l;
  loaded = λ p image e can. ended_loaded instance p image e can;
  released = λ p image e h. ended_with_uses instance p image ((module_of p image).uses - 1)
      (past_released p image e.is h) e (lt-ltb 0 (module_of p image).uses h);
}

pub ends_for_good : (infos : List ImageInfo) (last_offset : ℕ) (front rest : List Event) (instance : ℕ)
    → IsLegal infos last_offset (front ++ rest)
    → EndsForGood infos last_offset front rest instance
unfolding past
ends_for_good infos last_offset front rest instance legal made dead =
    let parts = and_parts (is_legal (start infos last_offset) front)
    (is_legal (after (start infos last_offset) front) rest)
    (sym (is_legal-append (start infos last_offset) front rest) ∙ legal.each) in
    let here = past_along (start infos last_offset) front
    (past_start infos last_offset legal.images legal.low) parts.0 in
    let ended = kept_along (Ended instance) (ended_kept instance) (after (start infos last_offset) front) rest
    (record {
      is = here;
      made = made;
      gone = each_is_other (after (start infos last_offset) front) instance here dead;
    }) parts.1 in
    rw (past-append infos last_offset front rest)
    (not_live (after (after (start infos last_offset) front) rest) instance ended.gone)
