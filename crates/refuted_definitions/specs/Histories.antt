-- Which opens and closes are refused (module_table, Past), with one word changed. Each makes a law of line_laws
-- false.
use Rattle.std.specs.Prelude.{◌≡◌, ◌↔◌, ◌+◌, ◌-◌, ◌<◌, ◌^◌, ◌&&◌, ℕ, Bool, true, false, not, nat_le, nat_lt}
use Rattle.std.specs.Prelude.{List, [], ◌∷◌, fold, length, slice_set, Option, Some, None, is_none, if◌then◌else◌}
use Rattle.module_table.specs.declared.TheConstants.{MOST_INSTANCES}
use Rattle.module_table.specs.declared.events.CloseRefusal.{CloseRefusal}
use Rattle.module_table.specs.declared.events.CloseRefusal.TheVariants.{NotOpen, Permanent}
use Rattle.module_table.specs.declared.events.Event.{Event}
use Rattle.module_table.specs.declared.events.OpenRefusal.{OpenRefusal}
use Rattle.module_table.specs.declared.events.OpenRefusal.TheVariants.{Full, StaticFull, Unknown}
use Rattle.module_table.specs.declared.modules.ImageInfo.{ImageInfo}
use Rattle.module_table.specs.Modules.{AreInfos, is_loaded, is_permanent}
use Rattle.module_table.specs.Past.{Past, after_one, close_refusal, loaded, module_of, new_instance}
use Rattle.module_table.specs.Past.{next_offset, open_refusal, released, retained, start, with_uses}
use Rattle.line_laws.specs.Histories.{IsAccount, IsCloseAnswer, IsOpenAnswer}

-- ** the statements, of any definition

module _ (open_refusal : Past → ℕ → Option OpenRefusal) (close_refusal : Past → ℕ → Option CloseRefusal)
    (after_one : Past → Event → Past) where
  abbrev pub past : List ImageInfo → ℕ → List Event → Past
  past infos last_offset events = fold after_one (start infos last_offset) events

  abbrev pub accepts : Past → Event → Bool
  accepts p e = if e.opens then is_none (open_refusal p e.image) else is_none (close_refusal p e.image)

  abbrev pub is_legal : Past → List Event → Bool
  is_legal p [] = true
  is_legal p (e ∷ es) = accepts p e && is_legal (after_one p e) es

  pub record IsLegalBy (infos : List ImageInfo) (last_offset : ℕ) (events : List Event) : Type 0 where
    pub images : AreInfos infos
    pub low : last_offset < 2 ^ 27
    pub each : is_legal (start infos last_offset) events ≡ true

  abbrev pub OpensAreRuledBy : Type 0
  OpensAreRuledBy = (infos : List ImageInfo) (last_offset : ℕ) (events : List Event) (made reach : ℕ → ℕ) (image : ℕ)
      → IsLegalBy infos last_offset events → IsAccount infos last_offset events made reach
      → (answer : Option OpenRefusal)
      → (open_refusal (past infos last_offset events) image ≡ answer)
      ↔ IsOpenAnswer infos last_offset events (made (length events)) (reach (length events)) image answer

  abbrev pub ClosesAreRuledBy : Type 0
  ClosesAreRuledBy = (infos : List ImageInfo) (last_offset : ℕ) (events : List Event) (image : ℕ)
      → IsLegalBy infos last_offset events → (answer : Option CloseRefusal)
      → (close_refusal (past infos last_offset events) image ≡ answer) ↔ IsCloseAnswer infos events image answer

-- ** refusals

-- `open_refusal`: the surplus ends a byte early, since `<` is `≤`
abbrev pub open_refusal_early : Past → ℕ → Option OpenRefusal
open_refusal_early p image =
    let m = module_of p image in
    if not m.info.late then Some Unknown else (
    if is_loaded m then None else (
    if nat_le MOST_INSTANCES p.made then Some Full else (
    if m.info.statics && nat_le p.limit (next_offset p m) then Some StaticFull else None)))

-- `open_refusal`: whether it is loaded is asked before whether it comes late
abbrev pub open_refusal_in_turn : Past → ℕ → Option OpenRefusal
open_refusal_in_turn p image =
    let m = module_of p image in
    if is_loaded m then None else (
    if not m.info.late then Some Unknown else (
    if nat_le MOST_INSTANCES p.made then Some Full else (
    if m.info.statics && nat_lt p.limit (next_offset p m) then Some StaticFull else None)))

-- `close_refusal`: `NotOpen` for `Permanent`
abbrev pub close_refusal_not_open : Past → ℕ → Option CloseRefusal
close_refusal_not_open p image =
    let m = module_of p image in
    if is_permanent m then Some NotOpen else (if is_loaded m then None else Some NotOpen)

-- ** events

-- `after_one`, over what an open does to an image that is not loaded, and to one that is
abbrev pub after_by : (Past → ℕ → Past) → (Past → ℕ → Past) → Past → Event → Past
after_by loaded retained p e =
    if e.opens then (if is_loaded (module_of p e.image) then retained p e.image else loaded p e.image)
    else released p e.image

-- `loaded`: bytes of the surplus may be given again
abbrev pub loaded_again : Past → ℕ → Past
loaded_again p image = let m = module_of p image in record {
  seen = p.seen + 1;
  made = p.made + 1;
  taken = p.taken;
  limit = p.limit;
  modules = slice_set p.modules image (new_instance p m);
}

-- `retained`: a second open is no use more
abbrev pub retained_once : Past → ℕ → Past
retained_once p image = with_uses p image (module_of p image).uses

pub record HistoriesAreRefuted : Type 0 where
  pub surplus_ends_a_byte_early : OpensAreRuledBy open_refusal_early close_refusal after_one → ⊥
  pub loaded_before_unknown : OpensAreRuledBy open_refusal_in_turn close_refusal after_one → ⊥
  pub surplus_is_given_again : OpensAreRuledBy open_refusal close_refusal (after_by loaded_again retained) → ⊥
  pub opens_are_not_counted : ClosesAreRuledBy open_refusal close_refusal (after_by loaded retained_once) → ⊥
  pub permanent_is_not_open : ClosesAreRuledBy open_refusal close_refusal_not_open after_one → ⊥
