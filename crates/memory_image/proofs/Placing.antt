-- Where the sections of a class stand, and what stands at an address by that.
use Rattle.std.proofs.Common.{◌≡◌, ◌<◌, ◌≤◌, ◌+◌, ℕ, List, [], true, false, None, Some, IsSome, length, take, refl, sym}
use Rattle.std.proofs.Common.{ap, subst, ◌∙◌, arith, inl, inr, slice_index}
use Rattle.std.specs.Prelude.{slice_index_or, sum, unwrap_or, nat_lt, nat_le}
use Rattle.std.proofs.lemmas.Bool.{and_from, and_parts, cases_lt, false_from_ne_true, lt-ltb, ltb-true, le-leb}
use Rattle.std.proofs.lemmas.Bool.{leb-true}
use Rattle.std.proofs.lemmas.List.{get_or-map, take-take}
use Rattle.elf_object.specs.Lent.{section_class, section_size}
use Rattle.elf_object.specs.Object.{section_count}
use Rattle.object_faults.specs.declared.class.SectionClass.{SectionClass}
use Rattle.object_faults.specs.declared.class.SectionClass.TheVariants.{Executable, ReadOnly, Tls, Writable}
use Rattle.link_faults.specs.declared.image_kind.ImageKind.{ImageKind}
use Rattle.placed_sections.proofs.Rising.{class_is}
use Rattle.tls_layout.specs.declared.sections.Section.{Section}
use Rattle.tls_layout.specs.Laws.{IsSectionOf}
use Rattle.tls_layout.specs.Places.{extent_for}
use Rattle.tls_layout.specs.Places.{end_of, place_in, address_of, address_at, address_by, section_named}
use Rattle.tls_layout.specs.Sections.{Layout, layout_of, section_at, section_counts, position, is_class, is_in, dropped}
use Rattle.tls_layout.proofs.Ends.{end_of-more, end_of-all, end_of-front}
use Rattle.tls_layout.proofs.LawsOfPlaces.{ends_at, in_class, same_place}
use Rattle.tls_layout.proofs.LawsOfSections.{finds_sections}
use Rattle.tls_layout.proofs.Rounds.{round_up-above}
use Rattle.whole_meaning.specs.Spots.{begin_of, spot_at, spot_from, stands_at}
use Rattle.memory_image.specs.Laying.{HasRange}
use Rattle.memory_image.proofs.Spotted.{spot_none, spot_some}

module _ (kind : ImageKind) (objects : List (List ℕ)) (class : SectionClass) where
  abbrev pub p : Layout
  p = layout_of kind objects

  abbrev pub start : ℕ
  start = (extent_for class p).start

  -- section s of object o is number k of all sections
  abbrev pub number : ℕ → ℕ → ℕ
  number o s = sum (take o p.counts) + s

  -- where the first n of all sections end
  abbrev pub end_after : ℕ → ℕ
  end_after n = end_of class start (take n p.sections)

  -- a section of the class and where it stands
  pub record Placed (o s k : ℕ) : Type 0 where
    pub numbered : position p.counts o s ≡ Some k
    pub is : (section_at p.sections k).class ≡ Some class
    pub size_is : (section_at p.sections k).size ≡ section_size (slice_index_or objects o []) s
    pub begin_is : begin_of p o s ≡ place_in class start p.sections k

  numbered_is : (o s : ℕ) → o < length objects → s < section_count (slice_index_or objects o [])
      → position p.counts o s ≡ Some (number o s)
  unfolding position section_counts
  numbered_is o s there below =
      let count : slice_index p.counts o ≡ section_count (slice_index_or objects o []) =
      get_or-map section_count objects o [] 0 there in
      rw (count, lt-ltb s (section_count (slice_index_or objects o [])) below) refl

  named_is : (o s : ℕ) → o < length objects → s < section_count (slice_index_or objects o [])
      → section_named p o s ≡ section_at p.sections (number o s)
  unfolding section_named
  named_is o s there below = rw (numbered_is o s there below) refl

  section_is : (o s : ℕ) → o < length objects → s < section_count (slice_index_or objects o [])
      → IsSectionOf (slice_index_or objects o []) s (section_at p.sections (number o s))
  section_is o s there below =
      subst (λ (x : Section). IsSectionOf (slice_index_or objects o []) s x) (named_is o s there below)
      (finds_sections kind objects o s there)

  address_is : HasRange class → (o s k : ℕ) → position p.counts o s ≡ Some k
      → (section_at p.sections k).class ≡ Some class
      → address_of p o s ≡ Some (place_in class start p.sections k)
  unfolding address_of address_at
  address_is range o s k at is = rw (at, is) (by_class class range)
    where
      by_class : (class : SectionClass) → HasRange class
          → address_by (Some class) p.kind p.sections k ≡ Some (place_in class (extent_for class p).start p.sections k)
      by_class Executable range = refl
      by_class ReadOnly range = refl
      by_class (Tls true) range = refl
      by_class (Tls false) range = absurd range
      by_class (Writable true) range = refl
      by_class (Writable false) range = absurd range

  pub placed_at : HasRange class → (o s : ℕ) → o < length objects → s < section_count (slice_index_or objects o [])
      → section_class (slice_index_or objects o []) s ≡ Some class → Placed o s (number o s)
  placed_at range o s there below is =
      let seen = section_is o s there below in
      let numbered = numbered_is o s there below in
      let here : (section_at p.sections (number o s)).class ≡ Some class = seen.class_is ∙ is in
      record {
        numbered = numbered;
        is = here;
        size_is = seen.size_is (subst (λ c. IsSome c) (sym is) refl);
        begin_is = ap (λ a. unwrap_or a 0) (address_is range o s (number o s) numbered here);
      }

  -- a section of another class moves no end
  pub end_skips : (o s : ℕ) → o < length objects → s < section_count (slice_index_or objects o [])
      → is_class class (section_class (slice_index_or objects o []) s) ≡ false
      → end_after (number o s + 1) ≡ end_after (number o s)
  end_skips o s there below other =
      let seen = section_is o s there below in
      let out : is_in class (section_at p.sections (number o s)) ≡ false = ap (is_class class) seen.class_is ∙ other in
      elim (cases_lt (number o s) (length p.sections)) [
        | inl inside ↦ end_of-more class start p.sections (number o s) dropped inside ∙ rw out refl
        | inr past ↦ end_of-all class start p.sections (number o s + 1) (omega arith)
            ∙ sym (end_of-all class start p.sections (number o s) past)
      ]

  -- one of the class begins behind those before it, and the next end is its own
  pub end_moves : (o s k : ℕ) → Placed o s k
      → end_after (k + 1) ≡ begin_of p o s + section_size (slice_index_or objects o []) s
  end_moves o s k x = let ends = ends_at class start p.sections k x.is in omega (arith, x.begin_is, x.size_is)

  pub begins_after : (o s k : ℕ) → Placed o s k → end_after k ≤ begin_of p o s
  unfolding place_in
  begins_after o s k x =
      let above = round_up-above (end_after k) (section_at p.sections k).alignment in
      omega (arith, x.begin_is)

  -- it ends before a later one begins, and before that the sections so far end
  ends_before : (o s k m : ℕ) → Placed o s k → k < m
      → begin_of p o s + section_size (slice_index_or objects o []) s ≤ end_after m
  ends_before o s k m x less =
      let moves = end_moves o s k x in
      let more : end_after (k + 1) ≤ end_after m =
      rw (← take-take (k + 1) m p.sections (omega arith)) (end_of-front class start (take m p.sections) (k + 1)) in
      omega arith

  -- and begins no later
  pub rises : (o s k o' s' m : ℕ) → Placed o s k → Placed o' s' m → k ≤ m → begin_of p o s ≤ begin_of p o' s'
  rises o s k o' s' m x y le = elim (cases_lt k m) [
    | inl less ↦ let ends = ends_before o s k m x less in let begins = begins_after o' s' m y in omega arith
    | inr more ↦
        let same : place_in class start p.sections k ≡ place_in class start p.sections m =
        ap (place_in class start p.sections) (omega arith) in
        omega (arith, x.begin_is, y.begin_is)
  ]

  -- ** by address

  -- a section that stands at an address
  pub record Stands (o s address : ℕ) : Type 0 where
    pub of_class : section_class (slice_index_or objects o []) s ≡ Some class
    pub from : begin_of p o s ≤ address
    pub to : address < begin_of p o s + section_size (slice_index_or objects o []) s

  pub stands_so : (o s address : ℕ) → stands_at p class o (slice_index_or objects o []) address s ≡ true
      → Stands o s address
  stands_so o s address e =
      let both = and_parts (is_class class (section_class (slice_index_or objects o []) s)) _ e in
      let ends = and_parts (nat_le (begin_of p o s) address)
      (nat_lt address (begin_of p o s + section_size (slice_index_or objects o []) s)) both.1 in
      record {
        of_class = class_is class (section_class (slice_index_or objects o []) s) both.0;
        from = leb-true (begin_of p o s) address ends.0;
        to = ltb-true address (begin_of p o s + section_size (slice_index_or objects o []) s) ends.1;
      }

  -- nothing stands behind the first k sections of all and before each other
  pub gap_at : HasRange class → (k address : ℕ) → end_after k ≤ address
      → ((o s m : ℕ) → Placed o s m → k ≤ m → address < begin_of p o s) → spot_from p class 0 objects address ≡ None
  gap_at range k address above below =
      spot_none p class address 0 objects (λ o i s at there within. none o i s (omega arith) there within)
    where
      none : (o i s : ℕ) → o ≡ i → i < length objects → s < section_count (slice_index_or objects i [])
          → stands_at p class o (slice_index_or objects i []) address s ≡ false
      none o i s at there within =
          rw at (false_from_ne_true (stands_at p class i (slice_index_or objects i []) address s)
          (λ is. clash (stands_so i s address is)))
        where
          clash : Stands i s address → ⊥
          clash x =
              let placed = placed_at range i s there within x.of_class in
              elim (cases_lt (number i s) k) [
                | inl before ↦ let ends = ends_before i s (number i s) k placed before in omega (arith, x.to)
                | inr after ↦ let begins = below i s (number i s) placed after in omega (arith, x.from)
              ]

  -- a section stands at each of its addresses alone
  pub section_stands : HasRange class → (o s address : ℕ) → o < length objects
      → s < section_count (slice_index_or objects o [])
      → section_class (slice_index_or objects o []) s ≡ Some class → begin_of p o s ≤ address
      → address < begin_of p o s + section_size (slice_index_or objects o []) s
      → spot_from p class 0 objects address ≡ Some (spot_at p o address s)
  section_stands range o s address there within is from to =
      spot_some p class address 0 objects o o s (omega arith) there within stands
      (λ o' i' s' at' there' within' stands'. alone o' i' s' (omega arith) there' within' stands')
    where
      here : Placed o s (number o s)
      here = placed_at range o s there within is

      stands : stands_at p class o (slice_index_or objects o []) address s ≡ true
      stands = rw (is, in_class class (record { class = Some class; size = 0; alignment = 1 }) refl)
          (and_from _ _ (le-leb (begin_of p o s) address from)
          (lt-ltb address (begin_of p o s + section_size (slice_index_or objects o []) s) to))

      one : (i s' : ℕ) → Stands i s' address → Placed i s' (number i s') → (i ≡ o) × (s' ≡ s)
      one i s' x placed = elim (cases_lt (number i s') (number o s)) [
        | inl before ↦
            let ends = ends_before i s' (number i s') (number o s) placed before in
            let begins = begins_after o s (number o s) here in
            absurd (omega (arith, x.to))
        | inr more ↦ elim (cases_lt (number o s) (number i s')) [
          | inl before ↦
              let ends = ends_before o s (number o s) (number i s') here before in
              let begins = begins_after i s' (number i s') placed in
              absurd (omega (arith, x.from))
          | inr less ↦
              let same : number i s' ≡ number o s = omega arith in
              same_place p.counts i s' o s (number o s) (placed.numbered ∙ ap Some same) here.numbered
        ]
      ]

      alone : (o' i s' : ℕ) → o' ≡ i → i < length objects → s' < section_count (slice_index_or objects i [])
          → stands_at p class o' (slice_index_or objects i []) address s' ≡ true → (i ≡ o) × (s' ≡ s)
      alone o' i s' at there' within' stands' =
          let x = stands_so i s' address
          (subst (λ (m : ℕ). stands_at p class m (slice_index_or objects i []) address s' ≡ true) at stands') in
          one i s' x (placed_at range i s' there' within' x.of_class)
