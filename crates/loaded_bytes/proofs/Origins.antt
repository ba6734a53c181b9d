-- Each RELATIVE of an image is that of an address of 8 bytes in one of its sections, and each such address has one.
use Rattle.std.proofs.Common.{◌≡◌, ◌+◌, ◌-◌, ◌<◌, ◌≤◌, ◌∙◌, ℕ, zero, suc, Bool, true, false, List, [], ◌∷◌, ◌++◌}
use Rattle.std.proofs.Common.{length}
use Rattle.std.proofs.Common.{refl, sym, ap, subst, arith, if◌then◌else◌}
use Rattle.std.specs.Prelude.{nat_le, slice_index_or}
use Rattle.std.specs.List.{All, Contains, flat_map, range_with_len}
use Rattle.std.proofs.lemmas.List.Elements.{All-append, All-cons, All-nil, Contains-append_left, Contains-append_right}
use Rattle.std.proofs.lemmas.List.FromFn.{get_or-range_with_len, length-range_with_len}
use Rattle.dynamic_symbols.proofs.Lists.{all_flat_range}
use Rattle.elf_object.specs.declared.relocation.Relocation.{Relocation}
use Rattle.elf_object.specs.Lent.{relocations}
use Rattle.elf_object.specs.Object.{section_count}
use Rattle.image_file.specs.declared.relocation.ImageRelocation.{ImageRelocation}
use Rattle.link_core.proofs.RelativesApart.{all_sorted}
use Rattle.link_core.specs.Dynamic.{field_relocations, is_absolute, object_relocations, relative}
use Rattle.link_core.specs.Dynamic.{relatives, section_relocations, sum_of}
use Rattle.link_faults.specs.ImageKinds.{is_moved}
use Rattle.link_needs.proofs.Reached.{contains_flat, contains_sorted}
use Rattle.link_needs.specs.Linking.{Linking, object, place}
use Rattle.link_needs.specs.Needs.{inserted, sorted_by}
use Rattle.tls_symbols.specs.Definitions.{flat_map_from}

-- ** where each is from

pub record Origin (l : Linking) (x : ImageRelocation) : Type 0 where
  pub of_object : ℕ
  pub of_section : ℕ
  pub field : Relocation
  pub there : of_object < length l.objects
  pub among : Contains (relocations (object l of_object) of_section) field
  pub absolute : is_absolute field.kind ≡ true
  pub is : x ≡ relative (place l of_object of_section field.offset) (sum_of l of_object field)

module _ {X Y : Type 0} (P : X → Type 0) (f : Y → List X) where
  -- what holds of each list holds of all joined
  all_flat : (ys : List Y) → ((y : Y) → Contains ys y → All P (f y)) → All P (flat_map f ys)
  all_flat [] each = All-nil P
  all_flat (y ∷ more) each =
      All-append P (f y) (flat_map f more) (each y (0, omega arith, refl))
      (all_flat more (λ z has. each z (suc has.0, (let lt = has.1 in omega arith), has.2)))

module _ (l : Linking) where
  of_field : (o t : ℕ) (r : Relocation) → o < length l.objects → Contains (relocations (object l o) t) r
      → All (Origin l) (field_relocations l o t r)
  of_field o t r there has = of_test (is_absolute r.kind) refl
    where
      of_test : (x : Bool) → is_absolute r.kind ≡ x
          → All (Origin l) (if x then relative (place l o t r.offset) (sum_of l o r) ∷ [] else [])
      of_test true e =
          All-cons (Origin l) (relative (place l o t r.offset) (sum_of l o r)) []
          (record {
            of_object = o;
            of_section = t;
            field = r;
            there = there;
            among = has;
            absolute = e;
            is = refl;
          })
          (All-nil (Origin l))
      of_test false e = All-nil (Origin l)

  of_one : (o : ℕ) → o < length l.objects → All (Origin l) (object_relocations l o (object l o))
  unfolding object_relocations
  of_one o there =
      all_flat_range (Origin l) (section_relocations l o (object l o)) 0 (section_count (object l o)) (λ t low high.
      all_flat (Origin l) (field_relocations l o t) (relocations (object l o) t) (λ r has. of_field o t r there has))

  of_objects : (o : ℕ) (bs : List (List ℕ)) → o + length bs ≡ length l.objects
      → ((k : ℕ) → k < length bs → object l (o + k) ≡ slice_index_or bs k [])
      → All (Origin l) (flat_map_from (object_relocations l) o bs)
  of_objects o [] all each = All-nil (Origin l)
  of_objects o (b ∷ more) all each =
      let same : o ≡ o + 0 = omega arith in
      let here : object l o ≡ b = ap (object l) same ∙ each 0 (omega arith) in
      All-append (Origin l) (object_relocations l o b) (flat_map_from (object_relocations l) (o + 1) more)
      (subst (λ (x : List ℕ). All (Origin l) (object_relocations l o x)) here (of_one o (omega (arith, all))))
      (of_objects (o + 1) more (omega (arith, all)) (λ k below.
      let next : o + 1 + k ≡ o + suc k = omega arith in ap (object l) next ∙ each (suc k) (omega (arith, below))))

  pub all_origins : All (Origin l) (relatives l)
  unfolding relatives
  all_origins = of_test (is_moved l.kind)
    where
      of_test : (t : Bool)
          → All (Origin l) (if t then sorted_by (λ r. r.place)
          (flat_map_from (object_relocations l) 0 l.objects) else [])
      of_test true =
          all_sorted (λ r. r.place) (Origin l) (flat_map_from (object_relocations l) 0 l.objects)
          (of_objects 0 l.objects (omega arith) (λ k below. let same : 0 + k ≡ k = omega arith in ap (object l) same))
      of_test false = All-nil (Origin l)

-- ** each has one

contains_first : {X : Type 0} (x : X) (xs : List X) → Contains (x ∷ xs) x
contains_first x xs = (0, omega arith, refl)

module _ (l : Linking) (o t : ℕ) (r : Relocation) (within : t < section_count (object l o))
    (has : Contains (relocations (object l o) t) r) (absolute : is_absolute r.kind ≡ true) where
  abbrev own : ImageRelocation
  own = relative (place l o t r.offset) (sum_of l o r)

  in_object : Contains (object_relocations l o (object l o)) (relative (place l o t r.offset) (sum_of l o r))
  unfolding object_relocations
  in_object =
      let b = object l o in
      let numbered : Contains (range_with_len 0 (section_count b)) t = (
        t,
        (let n = length-range_with_len 0 (section_count b) in omega (arith, n, within)),
        get_or-range_with_len 0 (section_count b) t t within ∙ omega arith,
      ) in
      contains_flat (section_relocations l o b) (range_with_len 0 (section_count b)) t
      (relative (place l o t r.offset) (sum_of l o r)) numbered
      (contains_flat (field_relocations l o t) (relocations b t) r (relative (place l o t r.offset) (sum_of l o r)) has
      (rw absolute (contains_first (relative (place l o t r.offset) (sum_of l o r)) [])))

  in_objects : (i : ℕ) (bs : List (List ℕ)) → i ≤ o → o < i + length bs
      → ((k : ℕ) → k < length bs → object l (i + k) ≡ slice_index_or bs k [])
      → Contains (flat_map_from (object_relocations l) i bs) (relative (place l o t r.offset) (sum_of l o r))
  in_objects i [] low high each = absurd (omega (arith, low, high))
  in_objects i (b ∷ more) low high each =
      of_index (o - i) (omega (arith, low)) (λ later.
      in_objects (i + 1) more later (omega (arith, high)) (λ k below.
      let next : i + 1 + k ≡ i + suc k = omega arith in ap (object l) next ∙ each (suc k) (omega (arith, below))))
    where
      of_index : (d : ℕ) → i + d ≡ o
          → (i + 1 ≤ o → Contains (flat_map_from (object_relocations l) (i + 1) more)
          (relative (place l o t r.offset) (sum_of l o r)))
          → Contains (object_relocations l i b ++ flat_map_from (object_relocations l) (i + 1) more)
          (relative (place l o t r.offset) (sum_of l o r))
      of_index zero far rest =
          let same : o ≡ i = omega (arith, far) in
          let first : i ≡ i + 0 = omega arith in
          let here : object l o ≡ b = ap (object l) (same ∙ first) ∙ each 0 (omega arith) in
          Contains-append_left (object_relocations l i b) (flat_map_from (object_relocations l) (i + 1) more)
          (relative (place l o t r.offset) (sum_of l o r))
          (subst (λ (n : ℕ). Contains (object_relocations l n b) (relative (place l o t r.offset) (sum_of l o r))) same
          (subst (λ (x : List ℕ). Contains (object_relocations l o x)
          (relative (place l o t r.offset) (sum_of l o r))) here
          in_object))
      of_index (suc d) far rest =
          Contains-append_right (object_relocations l i b) (flat_map_from (object_relocations l) (i + 1) more)
          (relative (place l o t r.offset) (sum_of l o r)) (rest (omega (arith, far)))

  pub has_relative : is_moved l.kind ≡ true → o < length l.objects
      → Contains (relatives l) (relative (place l o t r.offset) (sum_of l o r))
  unfolding relatives
  has_relative moved there =
      rw moved (contains_sorted (λ x. x.place) (flat_map_from (object_relocations l) 0 l.objects)
      (relative (place l o t r.offset) (sum_of l o r))
      (in_objects 0 l.objects (omega arith) (omega (arith, there)) (λ k below.
      let same : 0 + k ≡ k = omega arith in ap (object l) same)))
