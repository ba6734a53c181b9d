-- What a thread reads and may write at a place of a block.
use Rattle.std.proofs.Common.{◌≡◌, ◌∙◌, ◌⊎◌, ◌-◌, ◌++◌, ◌&&◌, ℕ, true, false, List, [], ◌∷◌, Option, refl, sym, ap, inl}
use Rattle.std.proofs.Common.{inr}
use Rattle.std.specs.Prelude.{slice_get, nat_le, nat_lt}
use Rattle.std.proofs.lemmas.Bool.{cases_Bool}
use Rattle.guest_operands.specs.declared.space.Access.{Access}
use Rattle.guest_machine.specs.Ranges.{Range, allows, byte_in, grants}
use Rattle.loaded_modules.specs.declared.instance.Instance.{Instance}
use Rattle.thread_blocks.specs.Held.{Owned, ranges_in}
use Rattle.thread_blocks.specs.Instances.{Loads, block_range, block_start}
use Rattle.tls_map_laws.specs.Map.{Act, has_storage}
use Rattle.tls_map_laws.specs.Acts.{is_in}
use Rattle.tls_map_laws.proofs.Bytes.{bytes_after, bytes_long}
use Rattle.tls_map_laws.proofs.Entries.{Each, blocks, entry}

abbrev pub Member : Instance → List Instance → Type 0
Member x [] = ⊥
Member x (y ∷ ys) = (y ≡ x) ⊎ Member x ys

module _ {B : Type 0} (l : Loads B) (thread : ℕ) (how : Access)
    (allowed : (x : Instance) (bytes : List B) → allows how (block_range thread x bytes) ≡ true) where
  grants_as : (y : Instance) (acts : List (Act B)) (place : ℕ)
      → grants how (block_range thread y (bytes_after y.number (l.block y) acts)) place ≡ is_in l thread y place
  grants_as y acts place =
      let yes = allowed y (bytes_after y.number (l.block y) acts) in
      rw yes (ap (λ (long : ℕ). nat_le (block_start thread y) place && nat_lt (place - block_start thread y) long)
      (bytes_long y.number (l.block y) acts))

  in_first : (r : Range B) (rs : List (Range B)) (place : ℕ) → grants how r place ≡ true
      → byte_in how (r ∷ rs) place ≡ slice_get r.bytes (place - r.start)
  in_first r rs place t = rw t refl

  in_later : (r : Range B) (rs : List (Range B)) (place : ℕ) → grants how r place ≡ false
      → byte_in how (r ∷ rs) place ≡ byte_in how rs place
  in_later r rs place f = rw f refl

  -- a block that does not have the place is passed by
  passed : (y : Instance) (acts : List (Act B)) (more : List (Owned B)) (fixed : List (Range B)) (place : ℕ)
      → is_in l thread y place ≡ false
      → byte_in how (ranges_in (entry l thread acts y ++ more) ++ fixed) place
      ≡ byte_in how (ranges_in more ++ fixed) place
  passed y acts more fixed place f = elim (cases_Bool (has_storage y.number acts)) [
    | inl t ↦ rw t (in_later (block_range thread y (bytes_after y.number (l.block y) acts))
        (ranges_in more ++ fixed) place
        (grants_as y acts place ∙ f))
    | inr none ↦ rw none refl
  ]

  -- one that is not held too
  absent : (y : Instance) (acts : List (Act B)) (more : List (Owned B)) (fixed : List (Range B)) (place : ℕ)
      → has_storage y.number acts ≡ false
      → byte_in how (ranges_in (entry l thread acts y ++ more) ++ fixed) place
      ≡ byte_in how (ranges_in more ++ fixed) place
  absent y acts more fixed place none = rw none refl

  found : (y : Instance) (acts : List (Act B)) (more : List (Owned B)) (fixed : List (Range B)) (place : ℕ)
      → has_storage y.number acts ≡ true → is_in l thread y place ≡ true
      → byte_in how (ranges_in (entry l thread acts y ++ more) ++ fixed) place
      ≡ slice_get (bytes_after y.number (l.block y) acts) (place - block_start thread y)
  found y acts more fixed place t is =
      rw t (in_first (block_range thread y (bytes_after y.number (l.block y) acts)) (ranges_in more ++ fixed) place
      (grants_as y acts place ∙ is))

  appended : (xs ys zs : List (Owned B)) → (xs ++ ys) ++ zs ≡ xs ++ (ys ++ zs)
  appended [] ys zs = refl
  appended (x ∷ xs) ys zs = ap (λ (more : List (Owned B)). x ∷ more) (appended xs ys zs)

  abbrev in_blocks : List (Owned B) → List (Range B) → ℕ → Option B
  in_blocks xs fixed place = byte_in how (ranges_in xs ++ fixed) place

  -- the law: an access to a place of a block that is held is one to its bytes
  pub block_there : (ys : List Instance) (acts : List (Act B)) (rest : List (Owned B)) (fixed : List (Range B))
      (place : ℕ)
      (x : Instance) → Member x ys → has_storage x.number acts ≡ true → is_in l thread x place ≡ true
      → Each (λ (z : Instance). (z ≡ x) ⊎ (is_in l thread z place ≡ false)) ys
      → byte_in how (ranges_in (blocks l thread acts ys ++ rest) ++ fixed) place
      ≡ slice_get (bytes_after x.number (l.block x) acts) (place - block_start thread x)
  block_there [] acts rest fixed place x m has is apart = absurd m
  block_there (y ∷ ys) acts rest fixed place x m has is apart =
      ap (λ (xs : List (Owned B)). in_blocks xs fixed place)
      (appended (entry l thread acts y) (blocks l thread acts ys) rest)
      ∙ by_apart apart.0 m (λ later. block_there ys acts rest fixed place x later has is apart.1)
    where
      by_apart : (y ≡ x) ⊎ (is_in l thread y place ≡ false) → (y ≡ x) ⊎ Member x ys
          → (Member x ys → byte_in how (ranges_in (blocks l thread acts ys ++ rest) ++ fixed) place
          ≡ slice_get (bytes_after x.number (l.block x) acts) (place - block_start thread x))
          → byte_in how (ranges_in (entry l thread acts y ++ (blocks l thread acts ys ++ rest)) ++ fixed) place
          ≡ slice_get (bytes_after x.number (l.block x) acts) (place - block_start thread x)
      by_apart (inl same) m later =
          ap (λ (z : Instance). in_blocks (entry l thread acts z ++ (blocks l thread acts ys ++ rest)) fixed place) same
          ∙ found x acts (blocks l thread acts ys ++ rest) fixed place has is
      by_apart (inr f) (inl same) later =
          absurd (let both : true ≡ false = sym is ∙ (ap (λ (z : Instance). is_in l thread z place) (sym same) ∙ f) in
          cc)
      by_apart (inr f) (inr m) later = passed y acts (blocks l thread acts ys ++ rest) fixed place f ∙ later m

  -- at a place of no block that is held, what else is there decides
  pub none_there : (ys : List Instance) (acts : List (Act B)) (rest : List (Owned B)) (fixed : List (Range B))
      (place : ℕ)
      → Each (λ (z : Instance). (has_storage z.number acts ≡ false) ⊎ (is_in l thread z place ≡ false)) ys
      → byte_in how (ranges_in (blocks l thread acts ys ++ rest) ++ fixed) place
      ≡ byte_in how (ranges_in rest ++ fixed) place
  none_there [] acts rest fixed place apart = refl
  none_there (y ∷ ys) acts rest fixed place apart =
      ap (λ (xs : List (Owned B)). in_blocks xs fixed place)
      (appended (entry l thread acts y) (blocks l thread acts ys) rest)
      ∙ (by_apart apart.0 ∙ none_there ys acts rest fixed place apart.1)
    where
      by_apart : (has_storage y.number acts ≡ false) ⊎ (is_in l thread y place ≡ false)
          → byte_in how (ranges_in (entry l thread acts y ++ (blocks l thread acts ys ++ rest)) ++ fixed) place
          ≡ byte_in how (ranges_in (blocks l thread acts ys ++ rest) ++ fixed) place
      by_apart (inl none) = absent y acts (blocks l thread acts ys ++ rest) fixed place none
      by_apart (inr f) = passed y acts (blocks l thread acts ys ++ rest) fixed place f
