-- What an accepted event may rely on.
use Rattle.std.proofs.Common.{◌≡◌, ℕ, ◌<◌, Bool, true, false, Option, Some, None, refl}
use Rattle.std.specs.Prelude.{◌&&◌, not, nat_lt, nat_le, is_none, if◌then◌else◌}
use Rattle.std.proofs.lemmas.Bool.{leb-false, ltb-false, ltb-true, false≢true}
use Rattle.module_table.specs.declared.TheConstants.{MOST_INSTANCES}
use Rattle.module_table.specs.declared.events.Event.{Event}
use Rattle.module_table.specs.declared.events.OpenRefusal.{OpenRefusal}
use Rattle.module_table.specs.declared.events.OpenRefusal.TheVariants.{Unknown, Full, StaticFull}
use Rattle.module_table.specs.declared.events.CloseRefusal.{CloseRefusal}
use Rattle.module_table.specs.declared.events.CloseRefusal.TheVariants.{Permanent, NotOpen}
use Rattle.module_table.specs.Modules.{is_loaded, is_permanent}
use Rattle.module_table.specs.Past.{Past, module_of, next_offset, open_refusal, close_refusal, accepts}
use Rattle.module_table.specs.Tables.{CanLoad}

pub record Picked (late full statics lacks : Bool) : Type 0 where
  pub is_late : late ≡ true
  pub not_full : full ≡ false
  pub has_room : statics ≡ true → lacks ≡ false

picked : (late loaded full statics lacks : Bool)
    → ◌≡◌ {A = Option OpenRefusal}
    (if not late then Some Unknown
    else (if loaded then None
    else (if full then Some Full else (if statics && lacks then Some StaticFull else None)))) None
    → loaded ≡ false → Picked late full statics lacks
picked false loaded full statics lacks e f = cc
picked true true full statics lacks e f = cc
picked true false true statics lacks e f = cc
picked true false false true true e f = cc
picked true false false true false e f = record { is_late = refl; not_full = refl; has_room = λ _. refl }
picked true false false false lacks e f =
    record { is_late = refl; not_full = refl; has_room = λ t. absurd (false≢true t) }

pub can_load : (p : Past) (image : ℕ) → open_refusal p image ≡ None → is_loaded (module_of p image) ≡ false
    → CanLoad p image
unfolding open_refusal
can_load p image none unloaded =
    let is = picked (module_of p image).info.late (is_loaded (module_of p image)) (nat_le MOST_INSTANCES p.made)
    (module_of p image).info.statics
    (nat_lt p.limit (next_offset p (module_of p image))) none unloaded in
    record {
      late = is.is_late;
      unloaded = unloaded;
      below = leb-false MOST_INSTANCES p.made is.not_full;
      room = λ t. ltb-false p.limit (next_offset p (module_of p image)) (is.has_room t);
    }

kept : (permanent loaded : Bool)
    → ◌≡◌ {A = Option CloseRefusal} (if permanent then Some Permanent else (if loaded then None else Some NotOpen)) None
    → loaded ≡ true
kept true loaded e = cc
kept false true e = refl
kept false false e = cc

-- what is closed is loaded
pub held : (p : Past) (image : ℕ) → close_refusal p image ≡ None → 0 < (module_of p image).uses
unfolding close_refusal
held p image none = ltb-true 0 (module_of p image).uses
    (kept (is_permanent (module_of p image)) (is_loaded (module_of p image)) none)

is_none-true : {X : Type 0} (o : Option X) → is_none o ≡ true → o ≡ None
is_none-true None e = refl
is_none-true (Some x) e = cc

pub accepts_open : (p : Past) (e : Event) → accepts p e ≡ true → e.opens ≡ true → open_refusal p e.image ≡ None
unfolding accepts
accepts_open p e accepted opens = is_none-true _ (rw opens at accepted)

pub accepts_close : (p : Past) (e : Event) → accepts p e ≡ true → e.opens ≡ false → close_refusal p e.image ≡ None
unfolding accepts
accepts_close p e accepted closes = is_none-true _ (rw closes at accepted)
