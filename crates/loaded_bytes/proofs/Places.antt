-- All that is loaded of an instance lies among its own places, and its data apart from the rest.
use Rattle.std.proofs.Common.{◌≡◌, ◌+◌, ◌-◌, ◌<◌, ◌≤◌, ◌⊎◌, ◌^◌, ◌&&◌, ◌∙◌, ℕ, suc, Bool, true, false, not, List, []}
use Rattle.std.proofs.Common.{◌∷◌}
use Rattle.std.proofs.Common.{Option, Some, None, length, inl, inr, refl, sym, ap, subst, arith, if◌then◌else◌}
use Rattle.std.specs.Prelude.{IfSome, nat_le, nat_lt, slice_get}
use Rattle.std.specs.List.{All, find}
use Rattle.std.proofs.lemmas.Bool.Decides.{nat_tests}
use Rattle.std.proofs.lemmas.List.Elements.{All-cons, All-nil}
use Rattle.guest_operands.specs.declared.space.Access.{Access}
use Rattle.guest_operands.specs.Ranges.{Range, allows, byte_in, grants, holds}
use Rattle.image_file.specs.declared.part.PartClass.{PartClass}
use Rattle.image_file.specs.declared.part.PartClass.TheVariants.{Executable, ReadOnly, Writable}
use Rattle.image_file.specs.Spelled.{Part, is_writable, Spelled}
use Rattle.image_writer.specs.declared.outline.PartPlace.{PartPlace}
use Rattle.image_writer.specs.Outlined as outlined
use Rattle.link_core.proofs.Linkable.{linkable}
use Rattle.link_core.specs.Images.{contents, image_of}
use Rattle.link_faults.specs.ImageKinds.{base_of}
use Rattle.link_needs.specs.Linking.{Linking}
use Rattle.loaded_modules.specs.declared.instance.Instance.{Instance}
use Rattle.loaded_modules.specs.Loader.{bias, part_bytes}
use Rattle.relocated_parts.proofs.Fold.{left_long}
use Rattle.relocated_parts.proofs.Parts.{lies_at, one_part, part_within}
use Rattle.relocated_parts.specs.Laws.{end_of}
use Rattle.thread_blocks.specs.JobLoads.{instance_part, job_loads, parts_from, written_from}
use Rattle.whole_meaning.specs.Spots.{bias_of}
use Rattle.loaded_bytes.specs.Laws.{IsInstanceOf, images_of}
use Rattle.loaded_bytes.specs.Places.{IsApart, IsOwn, PlacesAreOwn}
use Rattle.loaded_bytes.proofs.Biases.{image_base, image_bias}
use Rattle.loaded_bytes.proofs.Ranges.{still}
use Rattle.loaded_bytes.proofs.Still.{fixed_is, image_is}
use Rattle.link_core.proofs.TogetherPlaces.{second as second_of}
use Rattle.std.specs.Option.{option_map_or}
use Rattle.image_names.specs.Functions.{is_code}

pub holds_so : (start place n : ℕ) → (nat_le start place && nat_lt (place - start) n) ≡ true
    → (start ≤ place) × (place - start < n)
holds_so start place n e = grind (arith, nat_tests)

-- a part that is written is not run
no_code : (kind : PartClass) (t : Bool) → (is_writable kind && t) ≡ true → is_code kind ≡ false
no_code Executable t e = absurd (cc)
no_code ReadOnly t e = refl
no_code Writable t e = refl

module _ (ls : List Linking) (l : Linking) (x : Instance) (is : IsInstanceOf ls l x) where
  abbrev pub part_range : ℕ → Part → Range ℕ
  part_range n p = instance_part (images_of ls) (image_of l) x n p

  abbrev pub Ranges : ℕ → List Part → List (Range ℕ)
  Ranges n ps = parts_from (images_of ls) (image_of l) x n ps

  pub kind_bias : bias (image_of l).kind x.number ≡ bias_of l.kind x.number
  kind_bias = image_bias l x.number

  -- ** parts

  -- a part lies among the addresses of an image
  pub record IsInside (p : Part) : Type 0 where
    pub above : base_of l.kind ≤ p.address
    pub below : end_of p ≤ base_of l.kind + 2 ^ 26

  pub inside : (i : ℕ) (p : Part) → slice_get (image_of l).parts i ≡ Some p → IsInside p
  unfolding image_of
  inside i p at =
      let link = linkable l is.given is.links.sound in
      let here = lies_at (contents l) link i p at in
      let right = link.loadable.parts i (part_within (contents l) link i p at) in
      let address = ap (λ (place : PartPlace). place.address) here in
      let end = ap outlined.end_of here in
      let base = image_base l in
      record { above = omega (arith, right.above, address, base); below = omega (arith, right.below, end, base) }

  -- a place of its range is the instance's
  own_place : (n : ℕ) (p : Part) → IsInside p → (place : ℕ) → holds (part_range n p) place ≡ true
      → IsOwn l (bias_of l.kind x.number) place
  own_place n p lies place h =
      let at = holds_so (p.address + bias (image_of l).kind x.number) place
      (length (part_bytes (images_of ls) (image_of l) x p)) h in
      let long = left_long (images_of ls) (image_of l) x p in
      let moved = kind_bias in
      (omega (arith, at.0, moved, lies.above), omega (arith, at.0, at.1, moved, long, lies.below))

  -- ** what is found

  abbrev pub AllInside : List Part → Type 0
  AllInside ps = (i : ℕ) (p : Part) → slice_get ps i ≡ Some p → IsInside p

  rest : (p : Part) (ps : List Part) → AllInside (p ∷ ps) → AllInside ps
  rest p ps all i q at = all (suc i) q at

  pub found_own : (n : ℕ) (ps : List Part) → AllInside ps → (access : Access) (place byte : ℕ)
      → byte_in access (still (Ranges n ps)) place ≡ Some byte → IsOwn l (bias_of l.kind x.number) place
  found_own n [] all access place byte e = cc
  found_own n (p ∷ ps) all access place byte e =
      of_written (not (part_range n p).writable) e
      (found_own (suc n) ps (rest p ps all) access place byte)
    where
      of_grant : (t : Bool) → grants access (part_range n p) place ≡ t
          → (if t then slice_get (part_range n p).bytes (place - (part_range n p).start)
          else byte_in access (still (Ranges (suc n) ps)) place) ≡ Some byte
          → (byte_in access (still (Ranges (suc n) ps)) place ≡ Some byte → IsOwn l (bias_of l.kind x.number) place)
          → IsOwn l (bias_of l.kind x.number) place
      of_grant true g e later =
          own_place n p (all 0 p refl) place
          (second_of (allows access (part_range n p)) (holds (part_range n p) place) g)
      of_grant false g e later = later e

      of_written : (t : Bool)
          → byte_in access (if t then part_range n p ∷ still (Ranges (suc n) ps) else still (Ranges (suc n) ps)) place
          ≡ Some byte
          → (byte_in access (still (Ranges (suc n) ps)) place ≡ Some byte → IsOwn l (bias_of l.kind x.number) place)
          → IsOwn l (bias_of l.kind x.number) place
      of_written true e later = of_grant (grants access (part_range n p) place) refl e later
      of_written false e later = later e

  -- ** the parts that are written

  abbrev OwnRange : Range ℕ → Type 0
  OwnRange range = (place : ℕ) → holds range place ≡ true → IsOwn l (bias_of l.kind x.number) place

  tables_own : (n : ℕ) (ps : List Part) → AllInside ps → All OwnRange (written_from ps (Ranges n ps))
  tables_own n [] all = All-nil OwnRange
  tables_own n (p ∷ ps) all =
      of_test (is_writable p.class) (tables_own (suc n) ps (rest p ps all))
    where
      of_test : (t : Bool) → All OwnRange (written_from ps (Ranges (suc n) ps))
          → All OwnRange (if t then part_range n p ∷ written_from ps (Ranges (suc n) ps)
          else written_from ps (Ranges (suc n) ps))
      of_test true later =
          All-cons OwnRange (part_range n p) (written_from ps (Ranges (suc n) ps)) (own_place n p (all 0 p refl)) later
      of_test false later = later

  -- ** data

  -- it is the range of a part that is written
  record IsWritten (n : ℕ) (ps : List Part) (range : Range ℕ) : Type 0 where
    pub index : ℕ
    pub part : Part
    pub at : slice_get ps index ≡ Some part
    pub range_is : range ≡ part_range (n + index) part
    pub writable : (part_range (n + index) part).writable ≡ true

  written_is : (n : ℕ) (ps : List Part) (range : Range ℕ)
      → find (λ (r : Range ℕ). r.writable) (Ranges n ps) ≡ Some range → IsWritten n ps range
  written_is n [] range e = cc
  written_is n (p ∷ ps) range e =
      of_test (part_range n p).writable refl e (written_is (suc n) ps range)
    where
      of_test : (t : Bool) → (part_range n p).writable ≡ t
          → (if t then Some (part_range n p) else find (λ (r : Range ℕ). r.writable) (Ranges (suc n) ps)) ≡ Some range
          → (find (λ (r : Range ℕ). r.writable) (Ranges (suc n) ps) ≡ Some range → IsWritten (suc n) ps range)
          → IsWritten n (p ∷ ps) range
      of_test true w e later =
          let same : n ≡ n + 0 = omega arith in
          record {
            index = 0;
            part = p;
            at = refl;
            range_is = sym (same_some (part_range n p) range e) ∙ ap (λ i. part_range i p) same;
            writable = ap (λ i. (part_range i p).writable) (sym same) ∙ w;
          }
        where
          same_some : (a b : Range ℕ) → Some a ≡ Some b → a ≡ b
          same_some a b e = cc
      of_test false w e later =
          let found = later e in
          let same : suc n + found.index ≡ n + suc found.index = omega arith in
          record {
            index = suc found.index;
            part = found.part;
            at = found.at;
            range_is = found.range_is ∙ ap (λ i. part_range i found.part) same;
            writable = ap (λ i. (part_range i found.part).writable) (sym same) ∙ found.writable;
          }

  -- a place that no other part holds, of a part that is written, is found in nothing else
  none_still : (n : ℕ) (ps : List Part) (access : Access) (place : ℕ)
      → ((i : ℕ) (q : Part) → slice_get ps i ≡ Some q
      → ((part_range (n + i) q).writable ≡ true) ⊎ (holds (part_range (n + i) q) place ≡ false))
      → byte_in access (still (Ranges n ps)) place ≡ None
  none_still n [] access place none = refl
  none_still n (p ∷ ps) access place none =
      let same : n + 0 ≡ n = omega arith in
      of_first (subst (λ i. ((part_range i p).writable ≡ true) ⊎ (holds (part_range i p) place ≡ false)) same
      (none 0 p refl))
      (none_still (suc n) ps access place (λ i q at.
      let next : n + suc i ≡ suc n + i = omega arith in
      subst (λ k. ((part_range k q).writable ≡ true) ⊎ (holds (part_range k q) place ≡ false)) next
      (none (suc i) q at)))
    where
      no_other : (a : Bool) → (a && false) ≡ false
      no_other true = refl
      no_other false = refl

      of_written : (t : Bool) → holds (part_range n p) place ≡ false
          → byte_in access (still (Ranges (suc n) ps)) place ≡ None
          → byte_in access (if t then part_range n p ∷ still (Ranges (suc n) ps) else still (Ranges (suc n) ps)) place
          ≡ None
      of_written true out later =
          let away : grants access (part_range n p) place ≡ false =
          ap (λ b. allows access (part_range n p) && b) out ∙ no_other (allows access (part_range n p)) in
          ap (λ b. if b then slice_get (part_range n p).bytes (place - (part_range n p).start)
          else byte_in access (still (Ranges (suc n) ps)) place) away
          ∙ later
      of_written false out later = later

      of_first : ((part_range n p).writable ≡ true) ⊎ (holds (part_range n p) place ≡ false)
          → byte_in access (still (Ranges (suc n) ps)) place ≡ None
          → byte_in access (still (Ranges n (p ∷ ps))) place ≡ None
      of_first (inl writable) later =
          ap
          (λ b. byte_in access (if not b then part_range n p ∷ still (Ranges (suc n) ps)
          else still (Ranges (suc n) ps)) place)
          writable
          ∙ later
      of_first (inr out) later = of_written (not (part_range n p).writable) out later

  data_apart : (range : Range ℕ) → find (λ (r : Range ℕ). r.writable) (Ranges 0 (image_of l).parts) ≡ Some range
      → IsApart l (bias_of l.kind x.number) (still (Ranges 0 (image_of l).parts)) range
  unfolding image_of
  data_apart range e =
      let w = written_is 0 (image_of l).parts range e in
      subst (IsApart l (bias_of l.kind x.number) (still (Ranges 0 (image_of l).parts))) (sym w.range_is)
      (record {
        runnable = no_code w.part.class _ w.writable;
        own = λ place h. own_place (0 + w.index) w.part (inside w.index w.part w.at) place h;
        apart = λ place h access. none_still 0 (image_of l).parts access place
            (λ i q at. other w.index w.part w.at w.writable place h i q at);
      })
    where
      held : (n : ℕ) (p : Part) (place : ℕ) → holds (part_range n p) place ≡ true
          → (p.address + bias (image_of l).kind x.number ≤ place) × (place < end_of p + bias (image_of l).kind x.number)
      held n p place h =
          let at = holds_so (p.address + bias (image_of l).kind x.number) place
          (length (part_bytes (images_of ls) (image_of l) x p)) h in
          let long = left_long (images_of ls) (image_of l) x p in
          (at.0, omega (arith, at.0, at.1, long))

      other : (j : ℕ) (p : Part) → slice_get (image_of l).parts j ≡ Some p → (part_range (0 + j) p).writable ≡ true
          → (place : ℕ) → holds (part_range (0 + j) p) place ≡ true → (i : ℕ) (q : Part)
          → slice_get (image_of l).parts i ≡ Some q
          → ((part_range (0 + i) q).writable ≡ true) ⊎ (holds (part_range (0 + i) q) place ≡ false)
      other j p at_j writable place h i q at_i = of_test (holds (part_range (0 + i) q) place) refl
        where
          of_test : (t : Bool) → holds (part_range (0 + i) q) place ≡ t
              → ((part_range (0 + i) q).writable ≡ true) ⊎ (holds (part_range (0 + i) q) place ≡ false)
          of_test false e = inr e
          of_test true e =
              let b = bias (image_of l).kind x.number in
              let first = held (0 + j) p place h in
              let second = held (0 + i) q place e in
              let same : j ≡ i =
              one_part (contents l) (linkable l is.given is.links.sound) j i (place - b) p q at_j at_i
              (omega (arith, first.0)) (omega (arith, first.0, first.1)) (omega (arith, second.0))
              (omega (arith, second.0, second.1)) in
              let part_same : Some p ≡ Some q = sym at_j ∙ ap (slice_get (image_of l).parts) same ∙ at_i in
              inl (ap (λ (o : Option Part). writable_in o) (sym part_same) ∙ writable_at same)
            where
              writable_in : Option Part → Bool
              writable_in None = false
              writable_in (Some part) = (part_range (0 + i) part).writable

              writable_at : j ≡ i → (part_range (0 + i) p).writable ≡ true
              writable_at same = ap (λ k. (part_range (0 + k) p).writable) (sym same) ∙ writable

-- the law
pub places_own : PlacesAreOwn
unfolding job_loads
places_own ls l x is =
    let image = image_is ls l x is.image in
    let fixed = fixed_is ls l x is.image in
    let all = inside ls l x is in
    record {
      fixed = λ access place byte e.
          found_own ls l x is 0 (image_of l).parts all access place byte
          (sym (ap (λ (ranges : List (Range ℕ)). byte_in access ranges place) fixed) ∙ e);
      tables = subst (λ (ranges : List (Range ℕ)). All (λ (range : Range ℕ). (place : ℕ) → holds range place ≡ true
          → IsOwn l (bias_of l.kind x.number) place) ranges)
          (sym (ap (λ i. option_map_or
          (λ (own : Spelled). written_from own.parts (parts_from (images_of ls) own x 0 own.parts)) i []) image))
          (tables_own ls l x is 0 (image_of l).parts all);
      shared = shared_of (ap (λ i. find (λ (r : Range ℕ). r.writable)
          (option_map_or (λ (own : Spelled). parts_from (images_of ls) own x 0 own.parts) i [])) image) fixed;
    }
  where
    shared_of : (job_loads (images_of ls)).shared x
        ≡ find (λ (r : Range ℕ). r.writable) (parts_from (images_of ls) (image_of l) x 0 (image_of l).parts)
        → (job_loads (images_of ls)).fixed x ≡ still (parts_from (images_of ls) (image_of l) x 0 (image_of l).parts)
        → IfSome ((job_loads (images_of ls)).shared x)
        (IsApart l (bias_of l.kind x.number) ((job_loads (images_of ls)).fixed x))
    shared_of shared fixed =
        subst (λ (ranges : List (Range ℕ)). IfSome ((job_loads (images_of ls)).shared x)
        (IsApart l (bias_of l.kind x.number) ranges)) (sym fixed)
        (subst (λ (o : Option (Range ℕ)). IfSome o
        (IsApart l (bias_of l.kind x.number) (still (parts_from (images_of ls) (image_of l) x 0 (image_of l).parts))))
        (sym shared)
        (of_found (find (λ (r : Range ℕ). r.writable)
        (parts_from (images_of ls) (image_of l) x 0 (image_of l).parts)) refl))
      where
        of_found : (o : Option (Range ℕ))
            → find (λ (r : Range ℕ). r.writable) (parts_from (images_of ls) (image_of l) x 0
            (image_of l).parts) ≡ o
            → IfSome o (IsApart l (bias_of l.kind x.number)
            (still (parts_from (images_of ls) (image_of l) x 0 (image_of l).parts)))
        of_found None e = tt
        of_found (Some range) e = data_apart ls l x is range e
