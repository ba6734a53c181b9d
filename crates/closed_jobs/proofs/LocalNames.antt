-- The program with local dynamic code and a descriptor, in both settings: by name the same functions are found in its
-- image and in its objects, and no variable, since its only one is its own.
use Rattle.std.proofs.Common.{◌≡◌, ℕ, zero, suc, Bool, true, false, List, refl, inl, inr}
use Rattle.std.specs.Prelude.{codes}
use Rattle.std.specs.Str.{bytes_eq}
use Rattle.std.proofs.lemmas.Bool.{cases_Bool}
use Rattle.closed_jobs.specs.LocalSites.{app}
use Rattle.closed_jobs.proofs.LocalLoads.{m, q}

pub function : (relax : Bool) (name : List ℕ) → (q relax).function app name ≡ (m relax).loads.function app name
unfolding m q
function true name = elim (cases_Bool (bytes_eq name (codes "f"))) [
  | inl f ↦ rw f refl
  | inr not_f ↦ elim (cases_Bool (bytes_eq name (codes "g"))) [
    | inl g ↦ rw (not_f, g) refl
    | inr not_g ↦ rw (not_f, not_g) refl
  ]
]
function false name = elim (cases_Bool (bytes_eq name (codes "f"))) [
  | inl f ↦ rw f refl
  | inr not_f ↦ elim (cases_Bool (bytes_eq name (codes "g"))) [
    | inl g ↦ rw (not_f, g) refl
    | inr not_g ↦ elim (cases_Bool (bytes_eq name (codes "__tls_get_addr"))) [
      | inl t ↦ rw (not_f, not_g, t) refl
      | inr not_t ↦ rw (not_f, not_g, not_t) refl
    ]
  ]
]

pub variable : (relax : Bool) (image : ℕ) (name : List ℕ)
    → (q relax).variable image name ≡ (m relax).loads.variable image name
unfolding m q
variable relax zero name = refl
variable relax (suc (suc more)) name = refl
variable true (suc zero) name = elim (cases_Bool (bytes_eq name (codes "f"))) [
  | inl f ↦ rw f refl
  | inr not_f ↦ elim (cases_Bool (bytes_eq name (codes "g"))) [
    | inl g ↦ rw (not_f, g) refl
    | inr not_g ↦ rw (not_f, not_g) refl
  ]
]
variable false (suc zero) name = elim (cases_Bool (bytes_eq name (codes "f"))) [
  | inl f ↦ rw f refl
  | inr not_f ↦ elim (cases_Bool (bytes_eq name (codes "g"))) [
    | inl g ↦ rw (not_f, g) refl
    | inr not_g ↦ elim (cases_Bool (bytes_eq name (codes "__tls_get_addr"))) [
      | inl t ↦ rw (not_f, not_g, t) refl
      | inr not_t ↦ rw (not_f, not_g, not_t) refl
    ]
  ]
]
