-- The first use that has a property: found place by place.
use Rattle.std.proofs.Common.{◌≡◌, ◌+◌, ◌<◌, ◌≤◌, ◌∙◌, ℕ, List, Option, Some, None, length, inl, inr, refl, sym, ap}
use Rattle.std.proofs.Common.{subst, arith}
use Rattle.std.specs.Prelude.{slice_get, IsSomeAnd}
use Rattle.std.proofs.lemmas.Bool.{cases_lt}
use Rattle.std.proofs.lemmas.Option.{get_or_from_slice_get, slice_get_past, slice_get_within}
use Rattle.object_faults.specs.Firsts.{nonzero}
use Rattle.elf_object.specs.declared.relocation.Relocation.{Relocation}
use Rattle.elf_object.specs.Faults.{IsObject}
use Rattle.elf_object.specs.Lawful.{IsLawful}
use Rattle.elf_object.specs.LawsOfRelocations.{lawful}
use Rattle.elf_object.specs.Lent.{relocation_target, relocations}
use Rattle.elf_object.specs.Object.{section_count}
use Rattle.tls_symbols.specs.declared.uses.Use.{Use}
use Rattle.tls_symbols.specs.Bindings.{object_at}
use Rattle.tls_symbols.specs.Faults.{held_in}
use Rattle.tls_symbols.specs.Searches.{IsUseIn, NoneIn}
use Rattle.tls_symbols.specs.Walks.{use_at, IsUse, IsUsedAt, NoneBefore}
use Rattle.tls_symbols.proofs.Walked.{held_is, held_none}

-- section s of object o holds these relocations, which are those of section t
pub record Holds (objects : List (List ℕ)) (o s t : ℕ) (rs : List Relocation) : Type 0 where
  pub object : IsObject (object_at objects o)
  pub target : relocation_target (object_at objects o) s ≡ t
  pub held : held_in (object_at objects o) s ≡ rs
  pub own : rs ≡ relocations (object_at objects o) t

pub holds : (objects : List (List ℕ)) (o s t : ℕ) (b : List ℕ) (rs : List Relocation) → IsObject b
    → b ≡ object_at objects o
    → Some t ≡ nonzero (relocation_target b s) → rs ≡ relocations b t → Holds objects o s t rs
holds objects o s t b rs object here target own =
    let held = held_is b s t (sym target) in
    let P : List ℕ → Type 0 = λ b. IsObject b × (relocation_target b s ≡ t) × (held_in b s ≡ rs)
    × (rs ≡ relocations b t) in
    let all : P (object_at objects o) = subst P here (object, held.1, held.0 ∙ sym own, own) in
    record { object = all.0; target = all.1; held = all.2; own = all.3 }

-- each is a relocation of the object
use_in : (objects : List (List ℕ)) (o s t : ℕ) (rs : List Relocation) → Holds objects o s t rs
    → (e : ℕ) (r : Relocation)
    → slice_get rs e ≡ Some r → IsUseIn o (object_at objects o) (use_at o s t e r)
use_in objects o s t rs holds e r is =
    let b = object_at objects o in
    let found : slice_get (relocations b t) e ≡ Some r = ap (λ rs. slice_get rs e) (sym holds.own) ∙ is in
    let within = slice_get_within (relocations b t) e r found in
    let here = get_or_from_slice_get (relocations b t) e r r found in
    record {
      object = refl;
      own = (e, within, here);
      lawful = subst (IsLawful b t) here (lawful b holds.object t e r within);
    }

pub use_of : (objects : List (List ℕ)) (o s t : ℕ) (rs : List Relocation) → Holds objects o s t rs
    → (e n : ℕ) (r : Relocation)
    → slice_get rs e ≡ Some r → o < length objects → IsUse objects (use_at o n t e r)
use_of objects o s t rs holds e n r is there =
    let found = use_in objects o s t rs holds e r is in
    record { object = there; own = found.own; lawful = found.lawful }

module _ (P : Use → Type 0) (objects : List (List ℕ)) where
  moved : (p t f o s e : ℕ) → p ≡ o → t ≡ s → f ≡ e → IsUsedAt P objects p t f → IsUsedAt P objects o s e
  moved p t f o s e here there at is =
      subst (λ o. IsUsedAt P objects o s e) here
      (subst (λ s. IsUsedAt P objects p s e) there (subst (IsUsedAt P objects p t) at is))

  after_entry : (o s e : ℕ) → NoneBefore P objects o s e → (IsUsedAt P objects o s e → ⊥)
      → NoneBefore P objects o s (e + 1)
  after_entry o s e before none p t f (inl less) at = before p t f (inl less) at
  after_entry o s e before none p t f (inr (same, inl less)) at = before p t f (inr (same, inl less)) at
  after_entry o s e before none p t f (inr (same, inr (section, less))) at = elim (cases_lt f e) [
    | inl below ↦ before p t f (inr (same, inr (section, below))) at
    | inr past ↦ none (moved p t f o s e same section (omega (arith, less, past)) at)
  ]

  after_section : (o s e : ℕ) → NoneBefore P objects o s e → ((f : ℕ) → e ≤ f → IsUsedAt P objects o s f → ⊥)
      → NoneBefore P objects o (s + 1) 0
  after_section o s e before none p t f (inl less) at = before p t f (inl less) at
  after_section o s e before none p t f (inr (same, inr (section, less))) at = absurd (omega (arith, less))
  after_section o s e before none p t f (inr (same, inl less)) at = elim (cases_lt t s) [
    | inl below ↦ before p t f (inr (same, inl below)) at
    | inr past ↦
        let section : t ≡ s = omega (arith, less, past) in
        elim (cases_lt f e) [
          | inl first ↦ before p t f (inr (same, inr (section, first))) at
          | inr behind ↦ none f behind (moved p t f o s f same section refl at)
        ]
  ]

  -- a section of an object
  module _ (o s : ℕ) where
    abbrev b : List ℕ
    b = object_at objects o

    -- what an entry of it is, by the section that the entries apply to
    abbrev At : ℕ → ℕ → Option Relocation → Type 0
    At e t found = IsSomeAnd found (λ r. P (use_at o s t e r))

    -- the section holds no relocations, or those of a section that linking drops
    none_there : (e : ℕ) → nonzero (relocation_target b s) ≡ None → IsUsedAt P objects o s e → ⊥
    none_there e is at = subst (λ rs. At e (relocation_target b s) (slice_get rs e)) (held_none b s is) at.3

    pub skips_section : (c : List ℕ) → c ≡ b → None ≡ nonzero (relocation_target c s) → NoneBefore P objects o s 0
        → NoneBefore P objects o (s + 1) 0
    skips_section c here is before =
        let none = sym (subst (λ b. None ≡ nonzero (relocation_target b s)) here is) in
        after_section o s 0 before (λ f behind at. none_there f none at)

    module _ (t : ℕ) (rs : List Relocation) (holds : Holds objects o s t rs) where
      by_target : (e : ℕ) → IsUsedAt P objects o s e → At e t (slice_get rs e)
      by_target e at =
          subst (λ t. At e t (slice_get rs e)) holds.target
          (subst (λ rs. At e (relocation_target b s) (slice_get rs e)) holds.held at.3)

      pub used_here : (e : ℕ) (r : Relocation) → o < length objects → 0 < s → s < section_count b
          → slice_get rs e ≡ Some r
          → P (use_at o s t e r) → IsUsedAt P objects o s e
      used_here e r there some below found has = (
        there,
        some,
        below,
        subst (λ rs. At e (relocation_target b s) (slice_get rs e)) (sym holds.held)
            (subst (λ t. At e t (slice_get rs e)) (sym holds.target) (subst (At e t) (sym found) has)),
      )

      pub next_entry : (e : ℕ) (r : Relocation) → slice_get rs e ≡ Some r → (P (use_at o s t e r) → ⊥)
          → NoneBefore P objects o s e → NoneBefore P objects o s (e + 1)
      next_entry e r found lacks before = after_entry o s e before (λ at. lacks (subst (At e t) found (by_target e at)))

      pub next_section : (e : ℕ) → length rs ≤ e → NoneBefore P objects o s e → NoneBefore P objects o (s + 1) 0
      next_section e past before = after_section o s e before
          (λ f behind at. subst (At f t) (slice_get_past rs f (omega (arith, past, behind))) (by_target f at))

    -- no relocation of the object has the property
    none_here : (e : ℕ) → IsObject b → NoneIn P o b → IsUsedAt P objects o s e → ⊥
    none_here e object none at = of_target (nonzero (relocation_target b s)) refl
      where
        of_entry : (t : ℕ) → Holds objects o s t (relocations b t) → (found : Option Relocation)
            → slice_get (relocations b t) e ≡ found
            → At e t found → ⊥
        of_entry t holds None is has = has
        of_entry t holds (Some r) is has =
            none (use_at o s t e r) (use_in objects o s t (relocations b t) holds e r is) has

        of_target : (target : Option ℕ) → nonzero (relocation_target b s) ≡ target → ⊥
        of_target None is = none_there e is at
        of_target (Some t) is =
            let held = holds objects o s t b (relocations b t) object refl (sym is) refl in
            of_entry t held (slice_get (relocations b t) e) refl (by_target t (relocations b t) held e at)

  pub skips_object : (o : ℕ) → IsObject (object_at objects o) → NoneIn P o (object_at objects o)
      → NoneBefore P objects o 1 0
      → NoneBefore P objects (o + 1) 1 0
  skips_object o object none before p s e (inr (same, inl less)) at = let some = at.1 in omega (arith, less, some)
  skips_object o object none before p s e (inr (same, inr (section, less))) at = omega (arith, less)
  skips_object o object none before p s e (inl less) at = elim (cases_lt p o) [
    | inl below ↦ before p s e (inl below) at
    | inr behind ↦
        let same : p ≡ o = omega (arith, less, behind) in
        none_here o s e object none (moved p s e o s e same refl refl at)
  ]
