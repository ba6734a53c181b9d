-- What a thread holds after a look: each range lies where a live instance has it, and the data of each are all there.
use Rattle.std.proofs.Common.{◌≡◌, ◌∙◌, ◌⊎◌, ◌-◌, ◌==◌, ◌++◌, ℕ, Bool, true, false, List, [], ◌∷◌, length, Option, Some}
use Rattle.std.proofs.Common.{None, if◌then◌else◌, refl, sym, ap, subst, inl, inr}
use Rattle.std.specs.Prelude.{not, slice_set}
use Rattle.std.specs.List.{filter, find, flat_map}
use Rattle.std.specs.Option.{option_or}
use Rattle.std.proofs.lemmas.Bool.{cases_Bool, eq-eqb, ne_eqb}
use Rattle.std.proofs.lemmas.List.{length-set}
use Rattle.guest_operands.specs.declared.space.Access.TheVariants.{Write}
use Rattle.guest_machine.specs.Ranges.{Range, grants, with_byte}
use Rattle.loaded_modules.specs.declared.instance.Instance.{Instance}
use Rattle.thread_blocks.specs.Held.{Block, Data, Kind, Owned, Owner, block_after, block_with, data_after, data_bytes}
use Rattle.thread_blocks.specs.Held.{data_with, fresh_data, held_of, is_block, is_data_of, owned}
use Rattle.thread_blocks.specs.Instances.{Loads, block_start}
use Rattle.shared_data.proofs.Left.{Each, each_append}

-- no two of these instances have one number
abbrev pub HaveOwnNumbers : List Instance → Type 0
HaveOwnNumbers [] = Unit {0}
HaveOwnNumbers (x ∷ xs) = Each (λ (y : Instance). x.number ≡ y.number → ⊥) xs × HaveOwnNumbers xs

-- it is the first of these with its number
abbrev pub IsLive : List Instance → Instance → Type 0
IsLive live y = find (λ (z : Instance). z.number == y.number) live ≡ Some y

pub each_of : {X : Type 0} (P Q : X → Type 0) (xs : List X) → ((x : X) → P x → Q x) → Each P xs → Each Q xs
each_of P Q [] f each = tt
each_of P Q (x ∷ xs) f each = (f x each.0, each_of P Q xs f each.1)

both_each : {X : Type 0} (P Q : X → Type 0) (xs : List X) → Each P xs → Each Q xs → Each (λ (x : X). P x × Q x) xs
both_each P Q [] p q = tt
both_each P Q (x ∷ xs) p q = ((p.0, q.0), both_each P Q xs p.1 q.1)

pub own_live : (live : List Instance) → HaveOwnNumbers live → Each (IsLive live) live
own_live [] own = tt
own_live (x ∷ live) own = (
  rw (eq-eqb x.number x.number refl) refl,
  each_of (λ (y : Instance). (x.number ≡ y.number → ⊥) × IsLive live y) (IsLive (x ∷ live)) live
      (λ y both. rw (ne_eqb x.number y.number both.0) both.1)
      (both_each (λ (y : Instance). x.number ≡ y.number → ⊥) (IsLive live) live own.0 (own_live live own.1)),
)

-- ** blocks

abbrev pub IsBlock : {B : Type 0} → Owned B → Type 0
IsBlock x = is_block x.owner.kind ≡ true

module _ {B : Type 0} (l : Loads B) (thread : ℕ) where
  one_block : (x : Instance) (bytes : Option (List B)) → Each IsBlock (block_with thread x bytes)
  one_block x None = tt
  one_block x (Some bytes) = (refl, tt)

  pub all_blocks : (reaches : Instance → Bool) (xs : List (Owned B)) (ys : List Instance)
      → Each IsBlock (flat_map (block_after l thread reaches xs) ys)
  all_blocks reaches xs [] = tt
  all_blocks reaches xs (y ∷ ys) =
      each_append IsBlock (block_after l thread reaches xs y) _ (one_block y _) (all_blocks reaches xs ys)

-- ** the data of one instance among what is held

-- the data of a number in a range
abbrev pub data_in : {B : Type 0} → ℕ → Range B → List B → Owned B
data_in n range bytes =
    record { owner = record { kind = Data; instance = n }; range = record range { bytes = bytes } }

module _ {B : Type 0} (n : ℕ) where
  pub past_blocks : (xs more : List (Owned B)) → Each IsBlock xs
      → find (λ (o : Owned B). is_data_of n o.owner) (xs ++ more) ≡ find (λ (o : Owned B). is_data_of n o.owner) more
  past_blocks [] more blocks = refl
  past_blocks (x ∷ xs) more blocks = rw blocks.0 (past_blocks xs more blocks.1)

  -- it is among the data alone
  pub among_data : (xs : List (Owned B)) → find (λ (o : Owned B). is_data_of n o.owner)
      (filter (λ (o : Owned B). not (is_block o.owner.kind)) xs) ≡ find (λ (o : Owned B). is_data_of n o.owner) xs
  among_data [] = refl
  among_data (x ∷ xs) = by_kind (is_block x.owner.kind) refl (among_data xs)
    where
      others : List (Owned B)
      others = filter (λ (o : Owned B). not (is_block o.owner.kind)) xs

      by_kind : (b : Bool) → is_block x.owner.kind ≡ b
          → find (λ (o : Owned B). is_data_of n o.owner) others ≡ find (λ (o : Owned B). is_data_of n o.owner) xs
          → find (λ (o : Owned B). is_data_of n o.owner) (if not b then x ∷ others else others)
          ≡ find (λ (o : Owned B). is_data_of n o.owner) (x ∷ xs)
      by_kind true e rest = rw e rest
      by_kind false e rest =
          ap (λ (found : Option (Owned B)). if is_data_of n x.owner then Some x else found) rest

  past_other : (z : Instance) (range : Option (Range B)) (bytes : Option (List B)) (more : List (Owned B))
      → (z.number == n) ≡ false
      → find (λ (o : Owned B). is_data_of n o.owner) (data_with z range bytes ++ more)
      ≡ find (λ (o : Owned B). is_data_of n o.owner) more
  past_other z None bytes more f = refl
  past_other z (Some range) None more f = refl
  past_other z (Some range) (Some bytes) more f = rw f refl

  first_is : (z : Instance) (range : Range B) (bytes : List B) (more : List (Owned B)) → (z.number == n) ≡ true
      → find (λ (o : Owned B). is_data_of n o.owner) (data_with z (Some range) (Some bytes) ++ more)
      ≡ Some (data_in z.number range bytes)
  first_is z range bytes more t = rw t refl

  module _ (l : Loads B) (loads : Instance → Bool) (xs : List (Owned B)) (x : Instance) (range : Range B)
      (bytes : List B)
      (shared : l.shared x ≡ Some range)
      (are : option_or (fresh_data (l.shared x) (loads x)) (data_bytes x.number xs) ≡ Some bytes) where
    pub of_live : (live : List Instance) → find (λ (y : Instance). y.number == n) live ≡ Some x → (x.number == n) ≡ true
        → find (λ (o : Owned B). is_data_of n o.owner) (flat_map (data_after l loads xs) live)
        ≡ Some (data_in x.number range bytes)
    of_live [] e t = cc
    of_live (z ∷ live) e t = elim (cases_Bool (z.number == n)) [
      | inl is ↦
          let same : z ≡ x = (let s : Some z ≡ Some x = rw is at e in let first = s in cc) in
          let more = flat_map (data_after l loads xs) live in
          ap (λ (y : Instance). find (λ (o : Owned B). is_data_of n o.owner) (data_after l loads xs y ++ more)) same
          ∙ (ap (λ (bs : Option (List B)). find (λ (o : Owned B). is_data_of n o.owner)
          (data_with x (l.shared x) bs ++ more))
          are
          ∙ (ap (λ (r : Option (Range B)). find (λ (o : Owned B). is_data_of n o.owner)
          (data_with x r (Some bytes) ++ more))
          shared
          ∙ first_is x range bytes more t))
      | inr f ↦
          let rest : find (λ (y : Instance). y.number == n) live ≡ Some x = rw f at e in
          past_other z (l.shared z) _ (flat_map (data_after l loads xs) live) f ∙ of_live live rest t
    ]

-- ** what fits

module _ {B : Type 0} (l : Loads B) where
  -- the data of an instance are held, as many bytes as a load fills
  abbrev pub HasIts : List (Owned B) → Instance → Type 0
  HasIts xs y = (range : Range B) → l.shared y ≡ Some range
      → (bytes : List B) × ((data_bytes y.number xs ≡ Some bytes) × (length bytes ≡ length range.bytes))

  abbrev pub HasAll : List Instance → List (Owned B) → Type 0
  HasAll live xs = (y : Instance) → IsLive live y → HasIts xs y

  -- a range of this kind lies where the instance has it
  abbrev pub IsRangeOf : ℕ → Instance → Kind → Range B → Type 0
  IsRangeOf thread y Block range = range.start ≡ block_start thread y
  IsRangeOf thread y Data range = (whole : Range B) × ((l.shared y ≡ Some whole)
      × ((range ≡ record whole { bytes = range.bytes }) × (length range.bytes ≡ length whole.bytes)))

  abbrev pub IsOf : ℕ → List Instance → Owned B → Type 0
  IsOf thread live o = (y : Instance)
      × (IsLive live y × ((o.owner.instance ≡ y.number) × IsRangeOf thread y o.owner.kind o.range))

  pub record Fits (thread : ℕ) (live : List Instance) (xs : List (Owned B)) : Type 0 where
    pub of : Each (IsOf thread live) xs
    pub all : HasAll live xs

  -- ** stores

  module _ (thread : ℕ) (live : List Instance) (place : ℕ) (byte : B) where
    kept_range : (y : Instance) (kind : Kind) (r : Range B) (j : ℕ) → IsRangeOf thread y kind r
        → IsRangeOf thread y kind (record r { bytes = slice_set r.bytes j byte })
    kept_range y Block r j of = of
    kept_range y Data r j of = (
      of.0,
      (
        of.1.0,
        (
          ap (λ (s : Range B). record s { bytes = slice_set r.bytes j byte }) of.1.1.0,
          length-set r.bytes j byte ∙ of.1.1.1,
        ),
      ),
    )

    put_of : (os : List Owner) (rs : List (Range B)) → Each (IsOf thread live) (owned os rs)
        → Each (IsOf thread live) (owned os (with_byte rs place byte))
    put_of [] rs each = tt
    put_of (o ∷ os) [] each = tt
    put_of (o ∷ os) (r ∷ rs) each = by_grant (grants Write r place) (put_of os rs each.1)
      where
        by_grant : (g : Bool) → Each (IsOf thread live) (owned os (with_byte rs place byte))
            → Each (IsOf thread live) (owned (o ∷ os) (if g
            then record r { bytes = slice_set r.bytes (place - r.start) byte } ∷ rs else r ∷ with_byte rs place byte))
        by_grant true rest = (
          (each.0.0, (each.0.1.0, (each.0.1.1.0, kept_range each.0.0 o.kind r (place - r.start) each.0.1.1.1))),
          each.1,
        )
        by_grant false rest = (each.0, rest)

    put_bytes : (n : ℕ) (os : List Owner) (rs : List (Range B)) (bytes : List B)
        → data_bytes n (owned os rs) ≡ Some bytes
        → (more : List B) × ((data_bytes n (owned os (with_byte rs place byte)) ≡ Some more)
        × (length more ≡ length bytes))
    put_bytes n [] rs bytes e = cc
    put_bytes n (o ∷ os) [] bytes e = cc
    put_bytes n (o ∷ os) (r ∷ rs) bytes e = elim (cases_Bool (is_data_of n o)) [
      | inl t ↦
          let here : Some r.bytes ≡ Some bytes = rw t at e in
          let same : r.bytes ≡ bytes = let h = here in cc in
          elim (cases_Bool (grants Write r place)) [
            | inl g ↦ (
              slice_set r.bytes (place - r.start) byte,
              (rw (g, t) refl, length-set r.bytes (place - r.start) byte ∙ ap (λ (bs : List B). length bs) same),
            )
            | inr g ↦ (bytes, (rw (g, t) here, refl))
          ]
      | inr f ↦ elim (cases_Bool (grants Write r place)) [
        | inl g ↦ (bytes, (rw (g, f) (rw f at e), refl))
        | inr g ↦
            let rest = put_bytes n os rs bytes (rw f at e) in
            (rest.0, (rw (g, f) rest.1.0, rest.1.1))
      ]
    ]

    pub put_fits : (os : List Owner) (rs : List (Range B)) → Fits thread live (owned os rs)
        → Fits thread live (owned os (with_byte rs place byte))
    put_fits os rs fits = record {
      of = put_of os rs fits.of;
      all = λ y is range e.
          let was = fits.all y is range e in
          let now = put_bytes y.number os rs was.0 was.1.0 in
          (now.0, (now.1.0, now.1.1 ∙ was.1.1));
    }

  -- ** looks

  module _ (thread : ℕ) (reaches loads : Instance → Bool) (live : List Instance) (xs : List (Owned B)) where
    -- a load fills the instance's data, or they are held
    abbrev pub IsReady : Instance → Type 0
    IsReady y = (loads y ≡ true) ⊎ HasIts xs y

    its_bytes : (y : Instance) (range : Range B) → l.shared y ≡ Some range → IsReady y
        → (bytes : List B) × ((option_or (fresh_data (l.shared y) (loads y)) (data_bytes y.number xs) ≡ Some bytes)
        × (length bytes ≡ length range.bytes))
    its_bytes y range e (inl t) = (range.bytes, (rw (e, t) refl, refl))
    its_bytes y range e (inr its) = elim (cases_Bool (loads y)) [
      | inl t ↦ (range.bytes, (rw (e, t) refl, refl))
      | inr f ↦ let was = its range e in (was.0, (rw (e, f) was.1.0, was.1.1))
    ]

    -- what a look leaves of it
    pub keeps_its : (y : Instance) → IsLive live y → IsReady y → HasIts (held_of l thread reaches loads live xs) y
    keeps_its y is ready range e =
        let bytes = its_bytes y range e ready in
        let blocks = flat_map (block_after l thread reaches xs) live in
        let datas = flat_map (data_after l loads xs) live in
        let found = past_blocks y.number blocks datas (all_blocks l thread reaches xs live)
        ∙ of_live y.number l loads xs y range bytes.0 e bytes.1.0 live is (eq-eqb y.number y.number refl) in
        (bytes.0, (rw found refl, bytes.1.1))

    one_of : (y : Instance) → IsLive live y → (bytes : Option (List B))
        → Each (IsOf thread live) (block_with thread y bytes)
    one_of y is None = tt
    one_of y is (Some bytes) = ((y, (is, (refl, refl))), tt)

    blocks_of : (ys : List Instance) → Each (IsLive live) ys
        → Each (IsOf thread live) (flat_map (block_after l thread reaches xs) ys)
    blocks_of [] each = tt
    blocks_of (y ∷ ys) each =
        each_append (IsOf thread live) (block_after l thread reaches xs y) _ (one_of y each.0 _) (blocks_of ys each.1)

    one_data : (y : Instance) → IsLive live y → IsReady y → (range : Option (Range B)) → l.shared y ≡ range
        → Each (IsOf thread live)
        (data_with y range (option_or (fresh_data (l.shared y) (loads y)) (data_bytes y.number xs)))
    one_data y is ready None e = tt
    one_data y is ready (Some range) e =
        let bytes = its_bytes y range e ready in
        subst (λ (bs : Option (List B)). Each (IsOf thread live) (data_with y (Some range) bs)) (sym bytes.1.0)
        ((y, (is, (refl, (range, (e, (refl, bytes.1.1)))))), tt)

    data_of : (ys : List Instance) → Each (IsLive live) ys → ((y : Instance) → IsLive live y → IsReady y)
        → Each (IsOf thread live) (flat_map (data_after l loads xs) ys)
    data_of [] each ready = tt
    data_of (y ∷ ys) each ready =
        each_append (IsOf thread live) (data_after l loads xs y) _
        (one_data y each.0 (ready y each.0) (l.shared y) refl) (data_of ys each.1 ready)

    pub held_fits : HaveOwnNumbers live → ((y : Instance) → IsLive live y → IsReady y)
        → Fits thread live (held_of l thread reaches loads live xs)
    held_fits own ready = record {
      of = each_append (IsOf thread live) (flat_map (block_after l thread reaches xs) live) _
          (blocks_of live (own_live live own)) (data_of live (own_live live own) ready);
      all = λ y is. keeps_its y is (ready y is);
    }
