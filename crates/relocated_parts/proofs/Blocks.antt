-- A thread's block of an instance: the initial image as the instance has it, and zeros.
use Rattle.std.proofs.Common.{◌≡◌, ◌∙◌, ◌+◌, ◌-◌, ◌<◌, ◌≤◌, ℕ, true, List, Option, Some, None, drop, get_or, length}
use Rattle.std.proofs.Common.{take, inl, inr, refl, sym, ap, subst, arith, length-append, length-drop}
use Rattle.std.specs.Prelude.{IfSome, replicate, slice_get, slice_range}
use Rattle.std.specs.List.{find}
use Rattle.std.proofs.lemmas.Bool.{cases_lt, le-leb}
use Rattle.std.proofs.lemmas.Bool.Decides.{nat_tests}
use Rattle.std.proofs.lemmas.List.{length-map, length-replicate, length-take-le}
use Rattle.std.proofs.lemmas.Option.{slice_get-get_or, slice_get_within}
use Rattle.image_file.specs.declared.part.TlsPart.{TlsPart}
use Rattle.image_file.specs.Spelled.{Part}
use Rattle.image_writer.specs.declared.outline.PartPlace.{PartPlace}
use Rattle.image_writer.specs.Contents.{Contents}
use Rattle.image_writer.specs.Loadable.{HoldsInitial, IsRightTlsPart}
use Rattle.image_writer.specs.Outlined.{outline_of, part, place_of}
use Rattle.image_writer.specs.Tables.{finished, tables_part}
use Rattle.loaded_modules.specs.declared.instance.Instance.{Instance}
use Rattle.loaded_modules.specs.Images.{JobImages}
use Rattle.loaded_modules.specs.Loader.{block_of, block_of_image, filled, fresh_block, holds, initial_bytes, part_bytes}
use Rattle.relocated_parts.specs.Laws.{BlocksAreLeft, IsBlock, IsMade}
use Rattle.relocated_parts.specs.Left.{left_byte}
use Rattle.relocated_parts.proofs.Found.{find_only}
use Rattle.relocated_parts.proofs.Loaded.{part_left}
use Rattle.relocated_parts.proofs.Parts.{lies_at, one_part}
use Rattle.tls_relocs.specs.Elements.{slice_get-append, slice_get-append_behind, slice_get-drop, slice_get-replicate}
use Rattle.tls_relocs.specs.Elements.{slice_get-take}

holds_within : (t : TlsPart) (p : Part) → holds t p ≡ true
    → (p.address ≤ t.address) × (t.address + t.initial ≤ p.address + length p.bytes)
holds_within t p h = grind (arith, nat_tests)

-- ** bytes that are cut out

cut_long : (xs : List ℕ) (a n : ℕ) → a + n ≤ length xs → length (slice_range xs a (a + n)) ≡ n
cut_long xs a n inside =
    let rest = length-drop a xs in length-take-le (a + n - a) (drop a xs) (omega (arith, rest, inside)) ∙ omega arith

cut_at : (xs : List ℕ) (a n k : ℕ) → k < n → slice_get (slice_range xs a (a + n)) k ≡ slice_get xs (a + k)
cut_at xs a n k below = slice_get-take (a + n - a) k (drop a xs) (omega (arith, below)) ∙ slice_get-drop a k xs

-- ** a block

filled_long : (size : ℕ) (initial : List ℕ) → length initial ≤ size → length (filled size initial) ≡ size
filled_long size initial within =
    length-append initial (replicate (size - length initial) 0)
    ∙ (let zeros : length {A = ℕ} (replicate (size - length initial) 0) ≡ size - length initial =
    length-replicate (size - length initial) 0 in
    omega (arith, zeros, within))

filled_front : (size k : ℕ) (initial : List ℕ) → k < length initial
    → slice_get (filled size initial) k ≡ slice_get initial k
filled_front size k initial below = slice_get-append initial (replicate (size - length initial) 0) k below

filled_rest : (size k : ℕ) (initial : List ℕ) → length initial ≤ k → k < size
    → slice_get (filled size initial) k ≡ Some 0
filled_rest size k initial behind below =
    slice_get-append_behind initial (replicate (size - length initial) 0) k behind
    ∙ slice_get-replicate (size - length initial) (k - length initial) 0 (omega (arith, behind, below))

module _ (m : JobImages) (c : Contents) (x : Instance) (t : TlsPart) (made : IsMade m c x) (tls : c.tls ≡ Some t) where
  abbrev found : Option Part
  found = find (holds t) (finished c).parts

  fresh_is : fresh_block m x ≡ filled t.size (initial_bytes m (finished c) x t (find (holds t) (finished c).parts))
  unfolding fresh_block finished
  fresh_is = ap (block_of_image m x) made.image ∙ ap (block_of m (finished c) x) tls

  right : IsRightTlsPart (outline_of (finished c)) t
  unfolding finished
  right =
      subst (λ (o : Option TlsPart). IfSome o (IsRightTlsPart (outline_of (finished c)))) tls
      made.linkable.loadable.tls_is

  -- the part that is the initial image
  record IsInitial (i : ℕ) (p : Part) : Type 0 where
    pub at : slice_get (finished c).parts i ≡ Some p
    pub address : p.address ≡ t.address
    pub long : length p.bytes ≡ t.initial

  initial_in : (i : ℕ) → HoldsInitial (outline_of (finished c)) t i
      → IsInitial i (get_or (finished c).parts i (tables_part c))
  initial_in i h =
      let p = get_or (finished c).parts i (tables_part c) in
      let long = length-map (finished c).parts place_of in
      let at : slice_get (finished c).parts i ≡ Some p =
      slice_get-get_or (finished c).parts i (tables_part c) (omega (arith, long, h.0)) in
      let lies = lies_at c made.linkable i p at in
      record {
        at = at;
        address = sym (ap (λ (place : PartPlace). place.address) lies) ∙ h.2;
        long = sym (ap (λ (place : PartPlace). place.size) lies) ∙ h.3;
      }

  module _ (i : ℕ) (p : Part) (is : IsInitial i p) (some : 0 < t.initial) where
    found_is : find (holds t) (finished c).parts ≡ Some p
    found_is =
        find_only (holds t) (finished c).parts i p is.at
        (rw (
          le-leb p.address t.address (omega (arith, is.address)),
          le-leb (t.address + t.initial) (p.address + length p.bytes) (omega (arith, is.address, is.long)),
        ) refl)
        (λ j q at here.
        let within = holds_within t q here in
        one_part c made.linkable j i t.address q p at is.at within.0 (omega (arith, within.1, some))
        (omega (arith, is.address)) (omega (arith, is.address, is.long, some)))

    left_long : length (part_bytes m (finished c) x p) ≡ t.initial
    left_long = (part_left m c x i p made is.at).long ∙ is.long

    some_long : length (initial_bytes m (finished c) x t (find (holds t) (finished c).parts)) ≡ t.initial
    some_long =
        ap (λ o. length (initial_bytes m (finished c) x t o)) found_is
        ∙ cut_long (part_bytes m (finished c) x p) (t.address - p.address) t.initial
        (omega (arith, left_long, is.address))

    some_byte : (j k own : ℕ) (q : Part) → slice_get (finished c).parts j ≡ Some q → k < t.initial
        → q.address ≤ t.address + k → slice_get q.bytes (t.address + k - q.address) ≡ Some own
        → slice_get (initial_bytes m (finished c) x t (find (holds t) (finished c).parts)) k
        ≡ Some (left_byte m (finished c) x (t.address + k) own)
    some_byte j k own q at below low own_is =
        let high = slice_get_within q.bytes (t.address + k - q.address) own own_is in
        let same : i ≡ j =
        one_part c made.linkable i j (t.address + k) p q is.at at (omega (arith, is.address))
        (omega (arith, is.address, is.long, below)) low (omega (arith, high, low)) in
        let part_is : Some p ≡ Some q = sym is.at ∙ ap (slice_get (finished c).parts) same ∙ at in
        let address : q.address ≡ t.address = ap address_in (sym part_is) ∙ is.address in
        let index : t.address - q.address + k ≡ t.address + k - q.address = omega (arith, address) in
        let place : q.address + (t.address + k - q.address) ≡ t.address + k = omega (arith, low) in
        ap (λ o. slice_get (initial_bytes m (finished c) x t o) k) (found_is ∙ part_is)
        ∙ cut_at (part_bytes m (finished c) x q) (t.address - q.address) t.initial k below
        ∙ ap (slice_get (part_bytes m (finished c) x q)) index
        ∙ (part_left m c x j q made at).each (t.address + k - q.address) own own_is
        ∙ ap (λ (a : ℕ). Some (left_byte m (finished c) x a own)) place
      where
        address_in : Option Part → ℕ
        address_in None = 0
        address_in (Some part) = part.address

  -- an initial image of no bytes
  none_long : t.initial ≡ 0 → (o : Option Part) → length (initial_bytes m (finished c) x t o) ≡ t.initial
  none_long none None = sym none
  none_long none (Some p) =
      let a = t.address - p.address in
      let count : a + t.initial - a ≡ 0 = omega (arith, none) in
      ap (λ n. length (take n (drop a (part_bytes m (finished c) x p)))) count ∙ sym none

  initial_long : length (initial_bytes m (finished c) x t (find (holds t) (finished c).parts)) ≡ t.initial
  initial_long = elim (cases_lt 0 t.initial) [
    | inl some ↦ elim right.held [
      | inl none ↦ none_long none (find (holds t) (finished c).parts)
      | inr held ↦ some_long held.0 (get_or (finished c).parts held.0 (tables_part c)) (initial_in held.0 held.1) some
    ]
    | inr none ↦ none_long (omega (arith, none)) (find (holds t) (finished c).parts)
  ]

  initial_byte : (j k own : ℕ) (q : Part) → slice_get (finished c).parts j ≡ Some q → k < t.initial
      → q.address ≤ t.address + k → slice_get q.bytes (t.address + k - q.address) ≡ Some own
      → slice_get (initial_bytes m (finished c) x t (find (holds t) (finished c).parts)) k
      ≡ Some (left_byte m (finished c) x (t.address + k) own)
  initial_byte j k own q at below low own_is = elim right.held [
    | inl none ↦ absurd (omega (arith, none, below))
    | inr held ↦
        some_byte held.0 (get_or (finished c).parts held.0 (tables_part c)) (initial_in held.0 held.1)
        (omega (arith, below)) j k own q at below low own_is
  ]

  block_left : IsBlock m c x t (filled t.size (initial_bytes m (finished c) x t (find (holds t) (finished c).parts)))
  block_left =
      let initial = initial_bytes m (finished c) x t (find (holds t) (finished c).parts) in
      record {
        long = filled_long t.size initial (omega (arith, initial_long, right.initial_in));
        initial = λ j k own q at below low own_is.
            filled_front t.size k initial (omega (arith, initial_long, below))
            ∙ initial_byte j k own q at below low own_is;
        rest = λ k behind below. filled_rest t.size k initial (omega (arith, initial_long, behind)) below;
      }

-- the law
pub blocks_left : BlocksAreLeft
blocks_left m c x t made tls =
    subst (λ (bytes : List ℕ). IsBlock m c x t bytes) (sym (fresh_is m c x t made tls)) (block_left m c x t made tls)
