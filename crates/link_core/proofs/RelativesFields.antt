-- The relocations of fields: each lies in a section that has an address, and they share no byte.
use Rattle.std.proofs.Common.{◌≡◌, ◌+◌, ◌<◌, ◌≤◌, ◌⊎◌, ℕ, Bool, true, false, List, [], ◌∷◌, length, drop, get_or, Some}
use Rattle.std.proofs.Common.{inl, inr, refl, subst, arith, ◌∙◌, ap}
use Rattle.std.specs.Prelude.{if◌then◌else◌, unwrap_or}
use Rattle.std.specs.List.{All, flat_map}
use Rattle.std.proofs.lemmas.List.Elements.{All-nil, All-cons, All-head, All-tail, All-append, All-weaker}
use Rattle.object_faults.specs.declared.class.SectionClass.{SectionClass}
use Rattle.elf_records.specs.declared.relocation.RelocationKind.{RelocationKind}
use Rattle.elf_records.specs.declared.relocation.RelocationKind.TheVariants.{Absolute64}
use Rattle.elf_object.specs.declared.relocation.Relocation.{Relocation}
use Rattle.elf_object.specs.Faults.{IsObject}
use Rattle.elf_object.specs.Lawful.{IsLawful}
use Rattle.elf_object.specs.LawsOfRelocations.{lawful}
use Rattle.elf_object.specs.Lent.{relocations}
use Rattle.elf_object.specs.Object.{section_count}
use Rattle.elf_object.specs.Relocations.{field_width}
use Rattle.dynamic_symbols.proofs.Lists.{all_flat_range}
use Rattle.image_faults.specs.declared.loader_kind.LoaderKind.TheVariants.{Relative}
use Rattle.image_file.specs.declared.relocation.ImageRelocation.{ImageRelocation}
use Rattle.tls_symbols.proofs.Within.{dropped_is}
use Rattle.sequence_match.specs.Code.{AreApart as ShareNoByte}
use Rattle.sequence_match.proofs.Sections.{fields_apart}
use Rattle.tls_layout.specs.Places.{address_of, class_of, section_named}
use Rattle.tls_layout.proofs.LawsOfPlaces.{addresses_apart, have_addresses}
use Rattle.tls_layout.proofs.LawsOfSections.{finds_sections}
use Rattle.link_needs.specs.Linking.{Linking, layout, object, place}
use Rattle.link_tables.specs.Dynamic.{field_relocations, is_absolute, object_relocations}
use Rattle.link_tables.specs.Dynamic.{relative, section_relocations, sum_of}
use Rattle.link_needs.specs.Given.{IsGiven}
use Rattle.link_core.proofs.RelativesApart.{AreApart, IsApart, apart_append, apart_range}
use Rattle.link_tables.proofs.RelativesTables.{IsPlaced, IsApart as FieldsApart, apart_first, apart_rest}
use Rattle.link_tables.proofs.RelativesTables.{placed_section}
use Rattle.link_core.proofs.GotRelocationsSites.{has_value}
use Rattle.tls_symbols.specs.Definitions.{flat_map_from}

-- ** where a relocation lies

-- in section t of object o, which has an address
pub record InSection (l : Linking) (o t : ℕ) (r : ImageRelocation) : Type 0 where
  pub address : ℕ
  pub class : SectionClass
  pub at : address_of (layout l) o t ≡ Some address
  pub class_is : class_of (layout l) o t ≡ Some class
  pub begins : address ≤ r.place
  pub ends : r.place + 8 ≤ address + (section_named (layout l) o t).size
  pub kind_is : r.kind ≡ Relative
  pub symbol_is : r.symbol ≡ 0

-- those of two sections share no byte
sections_far : (l : Linking) (o t p u : ℕ) (x y : ImageRelocation) → InSection l o t x → InSection l p u y
    → ((o ≡ p) × (t ≡ u) → ⊥) → IsApart x y
sections_far l o t p u x y first next other =
    elim (addresses_apart (layout l) o t first.address p u next.address first.at next.at) [
      | inl same ↦ absurd (other same)
      | inr far ↦ elim far [
        | inl before ↦ inl (omega (arith, first.ends, next.begins))
        | inr behind ↦ inr (omega (arith, next.ends, first.begins))
      ]
    ]

-- ** one relocation

pub absolute_is : (kind : RelocationKind) → is_absolute kind ≡ true → kind ≡ Absolute64
absolute_is Absolute64 e = refl
absolute_is kind e = cc

all_one : {X : Type 0} (P : X → Type 0) (x : X) → P x → All P (x ∷ [])
all_one P x here = All-cons P x [] here (All-nil P)

-- what holds of each list holds of all joined
all_flat : {X Y : Type 0} (P : X → Type 0) (f : Y → List X) (ys : List Y) → All (λ y. All P (f y)) ys
    → All P (flat_map f ys)
all_flat P f [] each = All-nil P
all_flat P f (y ∷ more) each =
    All-append P (f y) (flat_map f more) (All-head (λ z. All P (f z)) y more each)
    (all_flat P f more (All-tail (λ z. All P (f z)) y more each))

-- of a field that is no address there is none
all_field : (l : Linking) (o t : ℕ) (r : Relocation) (P : ImageRelocation → Type 0)
    → (is_absolute r.kind ≡ true → P (relative (place l o t r.offset) (sum_of l o r)))
    → All P (field_relocations l o t r)
all_field l o t r P here = of_test (is_absolute r.kind) refl
  where
    of_test : (x : Bool) → is_absolute r.kind ≡ x
        → All P (if x then relative (place l o t r.offset) (sum_of l o r) ∷ [] else [])
    of_test true e = all_one P (relative (place l o t r.offset) (sum_of l o r)) (here e)
    of_test false e = All-nil P

-- there is one at most
apart_field : (l : Linking) (o t : ℕ) (r : Relocation) → AreApart (field_relocations l o t r)
apart_field l o t r = of_test (is_absolute r.kind)
  where
    of_test : (x : Bool) → AreApart (if x then relative (place l o t r.offset) (sum_of l o r) ∷ [] else [])
    of_test true = (All-nil (IsApart (relative (place l o t r.offset) (sum_of l o r))), tt)
    of_test false = tt

-- ** one section

module _ (l : Linking) (o t : ℕ) where
  -- of two relocations of the section
  far_fields : (x y : Relocation) → FieldsApart x y → is_absolute x.kind ≡ true
      → All (IsApart (relative (place l o t x.offset) (sum_of l o x))) (field_relocations l o t y)
  far_fields x y apart first =
      all_field l o t y (IsApart (relative (place l o t x.offset) (sum_of l o x))) (λ next.
      moved (unwrap_or (address_of (layout l) o t) 0) x.offset y.offset
      (apart (absolute_is x.kind first) (absolute_is y.kind next)))
    where
      moved : (n a b : ℕ) → (a + 8 ≤ b) ⊎ (b + 8 ≤ a) → ((n + a) + 8 ≤ n + b) ⊎ ((n + b) + 8 ≤ n + a)
      moved n a b (inl h) = inl (omega arith)
      moved n a b (inr h) = inr (omega arith)

  -- of all
  apart_section : (xs : List Relocation) → ShareNoByte xs → AreApart (flat_map (field_relocations l o t) xs)
  apart_section [] never = tt
  apart_section (x ∷ more) never =
      let F = field_relocations l o t in
      apart_append (F x) (flat_map F more) (apart_field l o t x) (apart_section more (apart_rest x more never))
      (all_field l o t x (λ u. All (IsApart u) (flat_map F more)) (λ first.
      let u = relative (place l o t x.offset) (sum_of l o x) in
      all_flat (IsApart u) F more
      (All-weaker (FieldsApart x) (λ y. All (IsApart u) (F y)) (λ y apart. far_fields x y apart first) more
      (apart_first x more never))))

module _ (l : Linking) (given : IsGiven l) (o : ℕ) (within : o < length l.objects) where
  is_object : IsObject (object l o)
  is_object = given.are_objects o [] within

  -- an address of 8 bytes lies where its section does
  in_section : (t : ℕ) (r : Relocation) → IsPlaced (object l o) t → IsLawful (object l o) t r
      → is_absolute r.kind ≡ true → InSection l o t (relative (place l o t r.offset) (sum_of l o r))
  in_section t r placed law absolute =
      let found = finds_sections l.kind l.objects o t within in
      let class = found.class_is ∙ placed.class_is in
      let there = has_value (address_of (layout l) o t)
      (have_addresses (layout l) o t placed.class class placed.other) in
      let size = found.size_is (rw placed.class_is refl) in
      let first : unwrap_or (address_of (layout l) o t) 0 ≡ there.0 = ap (λ a. unwrap_or a 0) there.1 in
      let eight : field_width r.kind ≡ 8 = ap field_width (absolute_is r.kind absolute) in
      record {
        address = there.0;
        class = placed.class;
        at = there.1;
        class_is = class;
        begins = omega (arith, first);
        ends = omega (arith, first, eight, size, law.inside);
        kind_is = refl;
        symbol_is = refl;
      }

  -- so do all of the section
  all_section : (t : ℕ) → All (InSection l o t) (section_relocations l o (object l o) t)
  all_section t =
      all_flat (InSection l o t) (field_relocations l o t) (relocations (object l o) t) (λ k d below.
      let r = get_or (relocations (object l o) t) k d in
      all_field l o t r (InSection l o t)
      (in_section t r (placed_section (object l o) is_object t (omega arith))
      (lawful (object l o) is_object t k d below)))

  -- ** one object

  all_object : All (λ x. (t : ℕ) × InSection l o t x) (object_relocations l o (object l o))
  unfolding object_relocations
  all_object =
      all_flat_range (λ x. (t : ℕ) × InSection l o t x) (section_relocations l o (object l o)) 0
      (section_count (object l o)) (λ t low high.
      All-weaker (InSection l o t) (λ x. (u : ℕ) × InSection l o u x) (λ x here. (t, here))
      (section_relocations l o (object l o) t) (all_section t))

  apart_object : AreApart (object_relocations l o (object l o))
  unfolding object_relocations
  apart_object =
      apart_range (InSection l o) (section_relocations l o (object l o))
      (λ t u x y less first next. sections_far l o t o u x y first next (λ same. omega (arith, same.1))) 0
      (section_count (object l o)) all_section
      (λ t. apart_section l o t (relocations (object l o) t) (fields_apart (object l o) is_object t))

-- ** all objects

-- in a section of object o or a later one
pub record IsField (l : Linking) (o : ℕ) (r : ImageRelocation) : Type 0 where
  pub object : ℕ
  pub section : ℕ
  pub from : o ≤ object
  pub within : object < length l.objects
  pub lies : InSection l object section r

module _ (l : Linking) (given : IsGiven l) where
  -- a field of a later object is one of those from object o on
  from_next : (o : ℕ) (r : ImageRelocation) → IsField l (o + 1) r → IsField l o r
  from_next o r is = record {
    object = is.object;
    section = is.section;
    from = omega (arith, is.from);
    within = is.within;
    lies = is.lies;
  }

  -- those of object o
  all_own : (o : ℕ) → o < length l.objects → All (IsField l o) (object_relocations l o (object l o))
  all_own o within =
      All-weaker (λ x. (t : ℕ) × InSection l o t x) (IsField l o)
      (λ x here. record { object = o; section = here.0; from = omega arith; within = within; lies = here.1 })
      (object_relocations l o (object l o)) (all_object l given o within)

  -- those of object o and the later ones
  pub all_from : (o : ℕ) (bs : List (List ℕ)) → drop o l.objects ≡ bs
      → All (IsField l o) (flat_map_from (object_relocations l) o bs)
  all_from o [] rest = All-nil (IsField l o)
  all_from o (b ∷ more) rest =
      let is = dropped_is l.objects o [] b more rest in
      All-append (IsField l o) (object_relocations l o b) (flat_map_from (object_relocations l) (o + 1) more)
      (subst (λ c. All (IsField l o) (object_relocations l o c)) is.here (all_own o is.within))
      (All-weaker (IsField l (o + 1)) (IsField l o) (from_next o) (flat_map_from (object_relocations l) (o + 1) more)
      (all_from (o + 1) more is.rest))

  -- those of an object share no byte with those of the later ones
  far_objects : (o : ℕ) → o < length l.objects → (xs : List ImageRelocation) → All (IsField l (o + 1)) xs
      → All (λ x. All (IsApart x) xs) (object_relocations l o (object l o))
  far_objects o within xs all =
      All-weaker (λ x. (t : ℕ) × InSection l o t x) (λ x. All (IsApart x) xs)
      (λ x here. All-weaker (IsField l (o + 1)) (IsApart x)
      (λ y there. sections_far l o here.0 there.object there.section x y here.1 there.lies
      (λ same. omega (arith, same.0, there.from))) xs all)
      (object_relocations l o (object l o)) (all_object l given o within)

  -- they share no byte
  pub apart_from : (o : ℕ) (bs : List (List ℕ)) → drop o l.objects ≡ bs → AreApart
      (flat_map_from (object_relocations l) o bs)
  apart_from o [] rest = tt
  apart_from o (b ∷ more) rest =
      let is = dropped_is l.objects o [] b more rest in
      let later = flat_map_from (object_relocations l) (o + 1) more in
      apart_append (object_relocations l o b) later
      (subst (λ c. AreApart (object_relocations l o c)) is.here (apart_object l given o is.within))
      (apart_from (o + 1) more is.rest)
      (subst (λ c. All (λ x. All (IsApart x) later) (object_relocations l o c)) is.here
      (far_objects o is.within later (all_from (o + 1) more is.rest)))
