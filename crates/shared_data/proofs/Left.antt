-- Data that hold what was left there last, and what a store makes of them.
use Rattle.std.proofs.Common.{◌≡◌, ◌∙◌, ◌-◌, ◌==◌, ℕ, Bool, true, false, not, List, [], ◌∷◌, ◌++◌, Some, None}
use Rattle.std.proofs.Common.{if◌then◌else◌, refl, sym, ap, subst, inl, inr}
use Rattle.std.specs.Prelude.{slice_get, slice_set}
use Rattle.std.proofs.lemmas.Bool.{cases_eq, cases_Bool, and_parts, eqb-true}
use Rattle.guest_operands.specs.declared.space.Access.TheVariants.{Write}
use Rattle.guest_machine.specs.Ranges.{Range, grants, with_byte}
use Rattle.thread_blocks.specs.Held.{Block, Data, Kind, Owned, Owner, data_bytes, is_block, is_data_of, owned}
use Rattle.shared_data.specs.Changes.{Change, Written, last_left, written_in, written_to}
use Rattle.shared_data.proofs.Last.{append_none, last_reached, last_spared, set_elsewhere, set_there, written_elsewhere}
use Rattle.shared_data.proofs.Last.{written_other, written_there}

-- each of a list
abbrev pub Each : {X : Type 0} → (X → Type 0) → List X → Type 0
Each P [] = Unit {0}
Each P (x ∷ xs) = P x × Each P xs

module _ {X : Type 0} (P : X → Type 0) where
  pub each_append : (xs ys : List X) → Each P xs → Each P ys → Each P (xs ++ ys)
  each_append [] ys h k = k
  each_append (x ∷ xs) ys h k = (h.0, each_append xs ys h.1 k)

  pub each_any : (xs : List X) → ((x : X) → P x) → Each P xs
  each_any [] h = tt
  each_any (x ∷ xs) h = (h x, each_any xs h)

-- two owners are not both of one instance's data
abbrev pub Other : Owner → Owner → Type 0
Other o p = is_block o.kind ≡ false → is_block p.kind ≡ false → o.instance ≡ p.instance → ⊥

-- no instance's data stand twice among them
abbrev pub Apart : List Owner → Type 0
Apart [] = Unit {0}
Apart (o ∷ os) = Each (Other o) os × Apart os

module _ {B : Type 0} where
  -- data hold what was left there last
  abbrev pub IsLeft : List (Change B) → Owned B → Type 0
  IsLeft log x = is_block x.owner.kind ≡ false → (k : ℕ) (b : B) → slice_get x.range.bytes k ≡ Some b
      → last_left x.owner.instance k log ≡ Some b

  abbrev pub AreLeft : List (Change B) → List (Owned B) → Type 0
  AreLeft log xs = Each (IsLeft log) xs

  -- ** writes

  -- a store into other data
  spared : (o : Owner) (os : List Owner) (rs : List (Range B)) (place k : ℕ) (b : B) → is_block o.kind ≡ false
      → Each (Other o) os → last_left o.instance k (written_in (owned os rs) place b) ≡ None
  spared o [] rs place k b d other = refl
  spared o (p ∷ os) [] place k b d other = refl
  spared o (p ∷ os) (r ∷ rs) place k b d other =
      by_grant (grants Write r place) (spared o os rs place k b d other.1)
    where
      of_kind : (kind : Kind) (n j : ℕ) → (is_block kind ≡ false → o.instance ≡ n → ⊥)
          → last_left o.instance k (written_to kind n j b) ≡ None
      of_kind Block n j ne = refl
      of_kind Data n j ne = written_other n o.instance j k b (λ e. ne refl (sym e))

      by_grant : (g : Bool) → last_left o.instance k (written_in (owned os rs) place b) ≡ None
          → last_left o.instance k
          (if g then written_to p.kind p.instance (place - r.start) b else written_in (owned os rs) place b) ≡ None
      by_grant true rest = of_kind p.kind p.instance (place - r.start) (other.0 d)
      by_grant false rest = rest

  -- data that a change does not reach
  left_spared : (log more : List (Change B)) (x : Owned B) → IsLeft log x
      → ((k : ℕ) → is_block x.owner.kind ≡ false → last_left x.owner.instance k more ≡ None) → IsLeft (log ++ more) x
  left_spared log more x left none d k b e = last_spared x.owner.instance k log more (none k d) ∙ left d k b e

  rest_spared : (log : List (Change B)) (n j : ℕ) (b : B) (os : List Owner) (rs : List (Range B))
      → Each (Other (record { kind = Data; instance = n })) os → AreLeft log (owned os rs)
      → AreLeft (log ++ Written n j b ∷ []) (owned os rs)
  rest_spared log n j b [] rs other left = tt
  rest_spared log n j b (p ∷ os) [] other left = tt
  rest_spared log n j b (p ∷ os) (r ∷ rs) other left = (
    left_spared log (Written n j b ∷ []) (record { owner = p; range = r }) left.0
        (λ k d. written_other n p.instance j k b (λ e. other.0 refl d e)),
    rest_spared log n j b os rs other.1 left.1,
  )

  -- the data that a store goes to
  hit : (log : List (Change B)) (kind : Kind) (n j : ℕ) (b : B) (r : Range B) (os : List Owner) (rs : List (Range B))
      → Each (Other (record { kind = kind; instance = n })) os
      → AreLeft log (owned (record { kind = kind; instance = n } ∷ os) (r ∷ rs))
      → AreLeft (log ++ written_to kind n j b)
      (owned (record { kind = kind; instance = n } ∷ os) (record r { bytes = slice_set r.bytes j b } ∷ rs))
  hit log Block n j b r os rs other left = (
    λ d. absurd (let e : true ≡ false = d in cc),
    subst (λ (cs : List (Change B)). AreLeft cs (owned os rs)) (sym
        (append_none log)) left.1,
  )
  hit log Data n j b r os rs other left = (now, rest_spared log n j b os rs other left.1)
    where
      now : IsLeft (log ++ Written n j b ∷ [])
          (record { owner = record { kind = Data; instance = n }; range = record r { bytes = slice_set r.bytes j b } })
      now d k c e = elim (cases_eq j k) [
        | inl same ↦
            let here : slice_get (slice_set r.bytes j b) j ≡ Some c = ap (slice_get (slice_set r.bytes j b)) same ∙ e in
            let is : b ≡ c = set_there r.bytes j b c here in
            last_reached n k log (Written n j b ∷ []) c
            (ap (λ (i : ℕ). last_left n i (Written n j b ∷ [])) (sym same) ∙ (written_there n j b ∙ ap Some is))
        | inr ne ↦
            last_spared n k log (Written n j b ∷ []) (written_elsewhere n j k b ne)
            ∙ left.0 d k c (sym (set_elsewhere r.bytes j k b ne) ∙ e)
      ]

  -- the law: what a store notes is what it does
  pub written_left : (log : List (Change B)) (os : List Owner) (rs : List (Range B)) (place : ℕ) (b : B) → Apart os
      → AreLeft log (owned os rs)
      → AreLeft (log ++ written_in (owned os rs) place b) (owned os (with_byte rs place b))
  written_left log [] rs place b apart left = tt
  written_left log (o ∷ os) [] place b apart left = tt
  written_left log (o ∷ os) (r ∷ rs) place b apart left =
      by_grant (grants Write r place) (hit log o.kind o.instance (place - r.start) b r os rs apart.0 left)
      (left_spared log (written_in (owned os rs) place b) (record { owner = o; range = r }) left.0
      (λ k d. spared o os rs place k b d apart.0)) (written_left log os rs place b apart.1 left.1)
    where
      by_grant : (g : Bool)
          → AreLeft (log ++ written_to o.kind o.instance (place - r.start) b) (owned (o ∷ os)
          (record r { bytes = slice_set r.bytes (place - r.start) b } ∷ rs))
          → IsLeft (log ++ written_in (owned os rs) place b) (record { owner = o; range = r })
          → AreLeft (log ++ written_in (owned os rs) place b) (owned os (with_byte rs place b))
          → AreLeft
          (log ++ (if g then written_to o.kind o.instance (place - r.start) b else written_in (owned os rs) place b))
          (owned (o ∷ os)
          (if g then record r { bytes = slice_set r.bytes (place - r.start) b } ∷ rs else r ∷ with_byte rs place b))
      by_grant true h one rest = h
      by_grant false h one rest = (one, rest)

  -- ** what is found

  found_first : (log : List (Change B)) (n : ℕ) (x : Owned B) (t : is_data_of n x.owner ≡ true) (k : ℕ) (b : B)
      → IsLeft log x
      → slice_get x.range.bytes k ≡ Some b → last_left n k log ≡ Some b
  found_first log n x t k b left e =
      let both = and_parts (not (is_block x.owner.kind)) (x.owner.instance == n) t in
      let same = eqb-true x.owner.instance n both.1 in
      subst (λ (m : ℕ). last_left m k log ≡ Some b) same (left (not_true (is_block x.owner.kind) both.0) k b e)
    where
      not_true : (g : Bool) → not g ≡ true → g ≡ false
      not_true true e = cc
      not_true false e = refl

  -- the bytes of an instance's data among what is held
  pub found_left : (log : List (Change B)) (xs : List (Owned B)) (n : ℕ) (bytes : List B) → data_bytes n xs ≡ Some bytes
      → AreLeft log xs → (k : ℕ) (b : B) → slice_get bytes k ≡ Some b → last_left n k log ≡ Some b
  found_left log [] n bytes found left k b e = cc
  found_left log (x ∷ xs) n bytes found left k b e = elim (cases_Bool (is_data_of n x.owner)) [
    | inl t ↦
        let here : Some x.range.bytes ≡ Some bytes = rw t at found in
        let same : x.range.bytes ≡ bytes = let h = here in cc in
        found_first log n x t k b left.0 (subst (λ (bs : List B). slice_get bs k ≡ Some b) (sym same) e)
    | inr f ↦ found_left log xs n bytes (rw f at found) left.1 k b e
  ]
