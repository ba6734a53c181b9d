-- What each kind of event keeps, every legal history keeps.
use Rattle.std.proofs.Common.{◌≡◌, ℕ, ◌<◌, true, List, [], ◌∷◌, inl, inr}
use Rattle.std.proofs.lemmas.Bool.{cases_Bool, and_parts}
use Rattle.module_table.specs.declared.modules.ImageInfo.{ImageInfo}
use Rattle.module_table.specs.declared.events.Event.{Event}
use Rattle.module_table.specs.Modules.{is_loaded}
use Rattle.module_table.specs.Past.{Past, module_of, start, past, after_one, after, opened, loaded, retained, released}
use Rattle.module_table.specs.Past.{accepts, is_legal}
use Rattle.module_table.specs.Past.{IsLegal}
use Rattle.module_table.specs.Tables.{IsPast, CanLoad}
use Rattle.module_table.proofs.Refusals.{can_load, held, accepts_open, accepts_close}
use Rattle.module_table.proofs.Starting.{past_start}
use Rattle.module_table.proofs.Steps.{past_loaded, past_retained, past_released}

-- a fact that each kind of event keeps
pub record IsKept (P : Past → Type 0) : Type 0 where
  pub retained : (p : Past) (image : ℕ) → P p → is_loaded (module_of p image) ≡ true → P (retained p image)
  pub loaded : (p : Past) (image : ℕ) → P p → CanLoad p image → P (loaded p image)
  pub released : (p : Past) (image : ℕ) → P p → 0 < (module_of p image).uses → P (released p image)

pub kept_step : (P : Past → Type 0) → IsKept P → (p : Past) (e : Event) → P p → accepts p e ≡ true → P (after_one p e)
unfolding after_one opened
kept_step P is p e here accepted = elim (cases_Bool e.opens) [
  | inl opens ↦ elim (cases_Bool (is_loaded (module_of p e.image))) [
    | inl l ↦ rw (opens, l) (is.retained p e.image here l)
    | inr u ↦ rw (opens, u) (is.loaded p e.image here (can_load p e.image (accepts_open p e accepted opens) u))
  ]
  | inr closes ↦ rw closes (is.released p e.image here (held p e.image (accepts_close p e accepted closes)))
]

pub kept_along : (P : Past → Type 0) → IsKept P → (p : Past) (events : List Event) → P p → is_legal p events ≡ true
    → P (after p events)
unfolding is_legal
kept_along P is p [] here legal = here
kept_along P is p (e ∷ es) here legal = let parts = and_parts (accepts p e) (is_legal (after_one p e) es) legal in
    kept_along P is (after_one p e) es (kept_step P is p e here parts.0) parts.1

past_kept : IsKept IsPast
past_kept = record {
  retained = λ p image is l. past_retained p image is l;
  loaded = λ p image is can. past_loaded p image is can;
  released = λ p image is h. past_released p image is h;
}

pub past_step : (p : Past) (e : Event) → IsPast p → accepts p e ≡ true → IsPast (after_one p e)
past_step = kept_step IsPast past_kept

pub past_along : (p : Past) (events : List Event) → IsPast p → is_legal p events ≡ true → IsPast (after p events)
past_along = kept_along IsPast past_kept

pub past_legal : (infos : List ImageInfo) (last_offset : ℕ) (events : List Event) → IsLegal infos last_offset events
    → IsPast (past infos last_offset events)
unfolding past
past_legal infos last_offset events is =
    past_along (start infos last_offset) events (past_start infos last_offset is.images is.low) is.each
