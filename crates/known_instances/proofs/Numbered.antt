-- What each loaded image keeps: a number that is not 0, and what is known of it from the start.
use Rattle.std.proofs.Common.{◌≡◌, ◌∙◌, ℕ, ◌+◌, ◌-◌, ◌^◌, ◌<◌, true, List, length, get_or, refl, sym, ap, subst, arith}
use Rattle.std.proofs.Common.{inl, inr}
use Rattle.std.proofs.lemmas.Bool.{cases_eq, lt-ltb}
use Rattle.std.proofs.lemmas.List.{get_or-set_same, get_or-set_other, length-set}
use Rattle.module_table.specs.declared.modules.ImageInfo.{ImageInfo}
use Rattle.module_table.specs.declared.modules.Module.{Module}
use Rattle.module_table.specs.declared.events.Event.{Event}
use Rattle.module_table.specs.Modules.{AreInfos, is_loaded, no_module}
use Rattle.module_table.specs.Past.{Past, module_of, start, past, loaded, retained, released, with_uses, new_instance}
use Rattle.module_table.specs.Past.{IsLegal}
use Rattle.module_table.specs.Tables.{IsPast, CanLoad}
use Rattle.module_table.proofs.Along.{IsKept, kept_along}
use Rattle.module_table.proofs.Starting.{past_start, own_number}
use Rattle.module_table.proofs.Steps.{late_within, loaded_within, past_retained, past_loaded, past_released}
use Rattle.known_instances.proofs.OneInstance.{used}

-- of all images behind some events: what is known of each is what was known at first, and who is loaded has a number
pub record AreNumbered (first : List Module) (p : Past) : Type 0 where
  pub is : IsPast p
  pub long : length p.modules ≡ length first
  pub info : (a : ℕ) → (module_of p a).info ≡ (get_or first a no_module).info
  pub some : (a : ℕ) → is_loaded (module_of p a) ≡ true → 0 < (module_of p a).instance

numbered_with_uses : (first : List Module) (p : Past) (image uses : ℕ) → IsPast (with_uses p image uses)
    → AreNumbered first p → is_loaded (module_of p image) ≡ true → AreNumbered first (with_uses p image uses)
numbered_with_uses first p image uses is m loaded =
    let l = (loaded_within p image m.is loaded).0 in
    record {
      is = is;
      long = length-set p.modules image (record (module_of p image) { uses = uses }) ∙ m.long;
      info = λ a. (used p image uses a l loaded).same.info ∙ m.info a;
      some = λ a t. let u = used p image uses a l loaded in
          let old : 0 < (module_of p a).instance = m.some a (u.held t) in
          subst (λ (n : ℕ). 0 < n) (sym u.same.instance) old;
    }

numbered_loaded : (first : List Module) (p : Past) (image : ℕ) → AreNumbered first p → CanLoad p image
    → AreNumbered first (loaded p image)
unfolding loaded
numbered_loaded first p image m can =
    let l = (late_within p image m.is can.late).0 in
    record {
      is = past_loaded p image m.is can;
      long = length-set p.modules image (new_instance p (module_of p image)) ∙ m.long;
      info = λ a. elim (cases_eq a image) [
        | inl same ↦ rw (same, get_or-set_same p.modules image (new_instance p (module_of p image)) no_module l)
            (m.info image)
        | inr ne ↦
            let here : module_of (loaded p image) a ≡ module_of p a =
            get_or-set_other p.modules image a (new_instance p (module_of p image)) no_module ne in
            ap (λ (x : Module). x.info) here ∙ m.info a
      ];
      some = λ a t. elim (cases_eq a image) [
        | inl same ↦ rw (same, get_or-set_same p.modules image (new_instance p (module_of p image)) no_module l)
            (omega arith)
        | inr ne ↦
            let here : module_of (loaded p image) a ≡ module_of p a =
            get_or-set_other p.modules image a (new_instance p (module_of p image)) no_module ne in
            subst (λ (x : Module). 0 < x.instance) (sym here)
            (m.some a (subst (λ (x : Module). is_loaded x ≡ true) here t))
      ];
    }

numbered_kept : (first : List Module) → IsKept (AreNumbered first)
unfolding retained released
numbered_kept first = record {
  retained = λ p image m l. numbered_with_uses first p image ((module_of p image).uses + 1)
      (past_retained p image m.is l) m l;
  loaded = λ p image m can. numbered_loaded first p image m can;
  released = λ p image m h. numbered_with_uses first p image ((module_of p image).uses - 1)
      (past_released p image m.is h) m (lt-ltb 0 (module_of p image).uses h);
}

numbered_start : (infos : List ImageInfo) (last : ℕ) → AreInfos infos → last < 2 ^ 27
    → AreNumbered (start infos last).modules (start infos last)
unfolding start
numbered_start infos last are low = record {
  is = past_start infos last are low;
  long = refl;
  info = λ a. refl;
  some = λ a t. let own = own_number infos a are t in omega (arith, own.0, own.2);
}

-- so it is behind each legal history
pub are_numbered : (infos : List ImageInfo) (last : ℕ) (events : List Event) → IsLegal infos last events
    → AreNumbered (start infos last).modules (past infos last events)
unfolding past
are_numbered infos last events legal =
    kept_along (AreNumbered (start infos last).modules) (numbered_kept (start infos last).modules)
    (start infos last) events
    (numbered_start infos last legal.images legal.low) legal.each
