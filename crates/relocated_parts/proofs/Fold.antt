-- A part with the words of its relocations in it, one behind another.
use Rattle.std.proofs.Common.{◌≡◌, ◌∙◌, ◌+◌, ◌-◌, ◌<◌, ◌≤◌, ◌⊎◌, ◌&&◌, ℕ, Bool, true, false, List, [], ◌∷◌, Some, None}
use Rattle.std.proofs.Common.{fold, length, inl, inr, refl, ap, arith, if◌then◌else◌}
use Rattle.std.specs.Prelude.{nat_le, nat_lt, slice_get}
use Rattle.std.specs.List.{All, find}
use Rattle.std.proofs.lemmas.Bool.{cases_lt, lt-ltb, le-leb, lt-leb}
use Rattle.std.proofs.lemmas.Bool.Decides.{nat_tests}
use Rattle.std.proofs.lemmas.List.Elements.{All-head, All-tail}
use Rattle.std.proofs.lemmas.Option.{slice_get_within}
use Rattle.elf_records.specs.Laws.{length-splice}
use Rattle.image_faults.specs.declared.loader_kind.LoaderKind.{LoaderKind}
use Rattle.image_faults.specs.declared.loader_kind.LoaderKind.TheVariants.{JumpSlot, Relative, Module, ModuleOffset}
use Rattle.image_faults.specs.declared.loader_kind.LoaderKind.TheVariants.{ThreadOffset, Descriptor}
use Rattle.image_file.specs.declared.relocation.ImageRelocation.{ImageRelocation}
use Rattle.image_file.specs.Spelled.{Part, Spelled}
use Rattle.image_writer.specs.Linkable.{AreRising, width}
use Rattle.loaded_modules.specs.declared.instance.Instance.{Instance}
use Rattle.loaded_modules.specs.Images.{JobImages}
use Rattle.loaded_modules.specs.Loader.{lies_in, part_bytes, relocation_bytes, with_relocation, with_written}
use Rattle.relocated_parts.specs.Laws.{LiesWhole, PartsAreLeft}
use Rattle.relocated_parts.specs.Left.{byte_by, is_written_at, left_byte, written_byte}
use Rattle.relocated_parts.proofs.Words.{written_digits, written_long}
use Rattle.tls_relocs.specs.Elements.{slice_get-splice_after, slice_get-splice_before, slice_get-splice_within}

-- each writes a byte at least
wide : (k : LoaderKind) → 0 < width k
wide JumpSlot = omega arith
wide Relative = omega arith
wide Module = omega arith
wide ModuleOffset = omega arith
wide ThreadOffset = omega arith
wide Descriptor = omega arith

-- ** what a relocation writes at an address

pub written_here : (address : ℕ) (r : ImageRelocation) → is_written_at address r ≡ true
    → (r.place ≤ address) × (address < r.place + width r.kind)
written_here address r e = grind (arith, nat_tests)

written_away : (address : ℕ) (r : ImageRelocation) → is_written_at address r ≡ false
    → (address < r.place) ⊎ (r.place + width r.kind ≤ address)
written_away address r e = elim (cases_lt address r.place) [
  | inl low ↦ inl low
  | inr from ↦ elim (cases_lt address (r.place + width r.kind)) [
    | inl inside ↦ absurd (no (le-leb r.place address from) (lt-ltb address (r.place + width r.kind) inside))
    | inr past ↦ inr past
  ]
]
  where
    no : nat_le r.place address ≡ true → nat_lt address (r.place + width r.kind) ≡ true → ⊥
    no first second = cc (rw (first, second) at e)

-- where they rise, none behind writes there
none_from : (address : ℕ) (r : ImageRelocation) (more : List ImageRelocation) → AreRising (r ∷ more) → address < r.place
    → find (is_written_at address) (r ∷ more) ≡ None
none_from address r [] rising low = rw (lt-leb r.place address low) refl
none_from address r (s ∷ more) rising low =
    rw (lt-leb r.place address low) (none_from address s more rising.1 (omega (arith, low, rising.0)))

none_behind : (address : ℕ) (r : ImageRelocation) (more : List ImageRelocation) → AreRising (r ∷ more)
    → is_written_at address r ≡ true → find (is_written_at address) more ≡ None
none_behind address r [] rising here = refl
none_behind address r (s ∷ more) rising here =
    none_from address s more rising.1 (omega (arith, rising.0, (written_here address r here).1))

rising_tail : (r : ImageRelocation) (more : List ImageRelocation) → AreRising (r ∷ more) → AreRising more
rising_tail r [] rising = tt
rising_tail r (s ∷ more) rising = rising.1

-- ** one relocation

-- it lies in the part
lies : (part : Part) (place count : ℕ) → part.address ≤ place → place + count ≤ part.address + length part.bytes
    → lies_in part place count ≡ true
lies part place count low high =
    rw (le-leb part.address place low, le-leb (place + count) (part.address + length part.bytes) high) refl

lies_so : (part : Part) (place count : ℕ) → lies_in part place count ≡ true
    → (part.address ≤ place) × (place + count ≤ part.address + length part.bytes)
lies_so part place count h = grind (arith, nat_tests)

-- or outside
lies_out : (part : Part) (place count : ℕ) → 0 < count
    → (place + count ≤ part.address) ⊎ (part.address + length part.bytes ≤ place) → lies_in part place count ≡ false
lies_out part place count some (inl before) = rw (lt-leb part.address place (omega (arith, some, before))) refl
lies_out part place count some (inr behind) =
    rw (lt-leb (place + count) (part.address + length part.bytes) (omega (arith, some, behind)))
    (no_other (nat_le part.address place))
  where
    no_other : (a : Bool) → (a && false) ≡ false
    no_other true = refl
    no_other false = refl

module _ (m : JobImages) (image : Spelled) (x : Instance) (part : Part) (r : ImageRelocation) (bytes : List ℕ)
    (long : length bytes ≡ length part.bytes) where
  word : List ℕ
  word = relocation_bytes m image x r

  word_long : length (relocation_bytes m image x r) ≡ width r.kind
  unfolding relocation_bytes
  word_long = written_long m image x r r.kind r.addend

  word_digit : (i : ℕ) → i < width r.kind
      → slice_get (relocation_bytes m image x r) i ≡ Some (written_byte m image x r i)
  unfolding relocation_bytes
  word_digit i below = written_digits m image x r r.kind r.addend i below

  module _ (k own : ℕ) (is : slice_get bytes k ≡ Some own) where
    inside_part : k < length part.bytes
    inside_part = let lt = slice_get_within bytes k own is in omega (arith, lt, long)

    -- where it writes
    stepped_in : LiesWhole part r → is_written_at (part.address + k) r ≡ true
        → slice_get (with_relocation m image x part bytes r) k
        ≡ Some (written_byte m image x r (part.address + k - r.place))
    stepped_in (inl inside) here =
        let at = written_here (part.address + k) r here in
        let same : k - (r.place - part.address) ≡ part.address + k - r.place = omega (arith, inside.0, at.0) in
        rw (lies part r.place (length (relocation_bytes m image x r)) inside.0 (omega (arith, word_long, inside.1)))
        (slice_get-splice_within (r.place - part.address) k (relocation_bytes m image x r) bytes
        (omega (arith, word_long, inside.0, inside.1, long)) (omega (arith, at.0, inside.0))
        (omega (arith, at.1, word_long, inside.0))
        ∙ ap (slice_get (relocation_bytes m image x r)) same
        ∙ word_digit (part.address + k - r.place) (omega (arith, at.0, at.1)))
    stepped_in (inr (inl before)) here =
        absurd (let at = written_here (part.address + k) r here in omega (arith, before, at.1))
    stepped_in (inr (inr behind)) here =
        absurd (let at = written_here (part.address + k) r here in omega (arith, behind, at.0, inside_part))

    -- and where it does not
    stepped_out : LiesWhole part r → is_written_at (part.address + k) r ≡ false
        → slice_get (with_relocation m image x part bytes r) k ≡ Some own
    stepped_out (inl inside) away =
        rw (lies part r.place (length (relocation_bytes m image x r)) inside.0 (omega (arith, word_long, inside.1)))
        (elim (written_away (part.address + k) r away) [
          | inl low ↦
              slice_get-splice_before (r.place - part.address) k (relocation_bytes m image x r) bytes
              (omega (arith, word_long, inside.0, inside.1, long)) (omega (arith, low, inside.0))
              ∙ is
          | inr past ↦
              slice_get-splice_after (r.place - part.address) k (relocation_bytes m image x r) bytes
              (omega (arith, word_long, inside.0, inside.1, long)) (omega (arith, past, word_long, inside.0))
              ∙ is
        ])
    stepped_out (inr out) away =
        rw (lies_out part r.place (length (relocation_bytes m image x r)) (omega (arith, word_long, wide r.kind))
        (rw word_long out)) is

-- ** all of them

-- nothing grows
spliced_long : (t : Bool) (part : Part) (bytes : List ℕ) (place : ℕ) (w : List ℕ) → lies_in part place (length w) ≡ t
    → length bytes ≡ length part.bytes → length (with_written part bytes place w) ≡ length part.bytes
spliced_long true part bytes place w is long =
    let at = lies_so part place (length w) is in
    rw is (length-splice (place - part.address) w bytes (omega (arith, at.0, at.1, long)) ∙ long)
spliced_long false part bytes place w is long = rw is long

module _ (m : JobImages) (image : Spelled) (x : Instance) (part : Part) where
  stepped_long : (r : ImageRelocation) (bytes : List ℕ) → length bytes ≡ length part.bytes
      → length (with_relocation m image x part bytes r) ≡ length part.bytes
  stepped_long r bytes long =
      spliced_long (lies_in part r.place (length (relocation_bytes m image x r))) part bytes r.place
      (relocation_bytes m image x r) refl long

  fold_long : (rs : List ImageRelocation) (bytes : List ℕ) → length bytes ≡ length part.bytes
      → length (fold (with_relocation m image x part) bytes rs) ≡ length part.bytes
  fold_long [] bytes long = long
  fold_long (r ∷ rs) bytes long = fold_long rs (with_relocation m image x part bytes r) (stepped_long r bytes long)

  -- a part is as long as in the file, whatever is written
  pub left_long : length (part_bytes m image x part) ≡ length part.bytes
  unfolding part_bytes
  left_long = fold_long image.relocations part.bytes refl

  fold_left : (rs : List ImageRelocation) (bytes : List ℕ) → length bytes ≡ length part.bytes → AreRising rs
      → All (LiesWhole part) rs → (k own : ℕ) → slice_get bytes k ≡ Some own
      → slice_get (fold (with_relocation m image x part) bytes rs) k
      ≡ Some (byte_by m image x (part.address + k) own (find (is_written_at (part.address + k)) rs))
  fold_left [] bytes long rising whole k own is = is
  fold_left (r ∷ rs) bytes long rising whole k own is =
      let here = All-head (LiesWhole part) r rs whole in
      of_test (is_written_at (part.address + k) r) refl here
      (λ now at. fold_left rs (with_relocation m image x part bytes r) (stepped_long r bytes long)
      (rising_tail r rs rising) (All-tail (LiesWhole part) r rs whole) k now at)
    where
      of_test : (t : Bool) → is_written_at (part.address + k) r ≡ t → LiesWhole part r
          → ((now : ℕ) → slice_get (with_relocation m image x part bytes r) k ≡ Some now
          → slice_get (fold (with_relocation m image x part) (with_relocation m image x part bytes r) rs) k
          ≡ Some (byte_by m image x (part.address + k) now (find (is_written_at (part.address + k)) rs)))
          → slice_get (fold (with_relocation m image x part) (with_relocation m image x part bytes r) rs) k
          ≡ Some (byte_by m image x (part.address + k) own
          (if t then Some r else find (is_written_at (part.address + k)) rs))
      of_test true e here rest =
          let now = written_byte m image x r (part.address + k - r.place) in
          rest now (stepped_in m image x part r bytes long k own is here e)
          ∙ ap (λ found. Some (byte_by m image x (part.address + k) now found))
          (none_behind (part.address + k) r rs rising e)
      of_test false e here rest = rest own (stepped_out m image x part r bytes long k own is here e)

-- the law
pub parts_left : PartsAreLeft
unfolding part_bytes left_byte
parts_left m image x part rising whole = record {
  long = left_long m image x part;
  each = λ k own is. fold_left m image x part image.relocations part.bytes refl rising whole k own is;
}
