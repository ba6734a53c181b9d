-- Sections lie near the start of the file, and each is one of the objects'.
use Rattle.std.proofs.Common.{◌≡◌, ◌+◌, ◌<◌, ◌≤◌, ◌^◌, ◌&&◌, ℕ, zero, suc, Bool, true, false, List, [], ◌∷◌, length}
use Rattle.std.proofs.Common.{drop, slice_index_or, Option, Some, None, IsSome, refl, sym, subst, arith}
use Rattle.std.specs.Prelude.{nat_lt, unwrap_or, if◌then◌else◌}
use Rattle.std.specs.List.{All, flat_map, range_with_len}
use Rattle.std.proofs.lemmas.List.Elements.{All-append, All-cons, All-nil}
use Rattle.object_faults.specs.declared.class.SectionClass.{SectionClass}
use Rattle.object_faults.specs.declared.class.SectionClass.TheVariants.{Executable, ReadOnly, Tls, Writable}
use Rattle.elf_object.specs.Lent.{section_class, section_size}
use Rattle.elf_object.specs.Object.{section_count}
use Rattle.link_faults.specs.ImageKinds.{base_of}
use Rattle.tls_layout.specs.Places.{extent_for}
use Rattle.tls_layout.specs.Places.{address_of, IsLawful}
use Rattle.tls_layout.specs.Sections.{Layout, is_class}
use Rattle.tls_layout.proofs.Bounds.{address_bounds, extent_bounds}
use Rattle.placed_sections.specs.declared.part.PlacedPart.{PlacedPart}
use Rattle.placed_sections.specs.Files.{offset_of, placed, placed_class, placed_section, placed_object, placed_from}
use Rattle.placed_sections.specs.Files.{end_mark}
use Rattle.placed_sections.specs.Laws.{IsNear}
use Rattle.placed_sections.proofs.Rising.{dropped_is}

module _ (objects : List (List ℕ)) (p : Layout) (lawful : IsLawful p) where
  -- the part that is named, if there is one
  one_or_none : (t : Bool) (part : PlacedPart) → (t ≡ true → IsNear objects part)
      → All (IsNear objects) (if t then part ∷ [] else [])
  one_or_none true part near = All-cons (IsNear objects) part [] (near refl) (All-nil (IsNear objects))
  one_or_none false part near = All-nil (IsNear objects)

  near_place : (found : Option ℕ) (o s : ℕ) → address_of p o s ≡ found → offset_of p (unwrap_or found 0) ≤ 2 ^ 26
  near_place None o s e = omega arith
  near_place (Some n) o s e = let bounds = address_bounds p o s n e lawful in
      omega (arith, bounds.0, bounds.1, bounds.2)

  own_class : (class : SectionClass) (kept : Option SectionClass) (n : ℕ) → (is_class class kept && nat_lt 0 n) ≡ true
      → IsSome kept
  own_class class (Some other) n e = refl
  own_class class None n e = cc

  section_near : (class : SectionClass) (o : ℕ) (b : List ℕ) → o < length objects → slice_index_or objects o [] ≡ b
      → (s : ℕ) → s < section_count b
      → All (IsNear objects) (placed_section (λ part. part) p class o b s)
  section_near class o b within here s below =
      one_or_none (is_class class (section_class b s) && nat_lt 0 (section_size b s)) (record {
        place = offset_of p (unwrap_or (address_of p o s) 0);
        section = Some (record { object = o; section = s });
      }) (λ so. record {
        near = near_place (address_of p o s) o s refl;
        own = record {
          object = within;
          section = subst (λ (c : List ℕ). s < section_count c) (sym here) below;
          class = subst (λ (c : List ℕ). IsSome (section_class c s)) (sym here)
              (own_class class (section_class b s) (section_size b s) so);
        };
      })

  range_near : (class : SectionClass) (o : ℕ) (b : List ℕ) → o < length objects → slice_index_or objects o [] ≡ b
      → (n a : ℕ) → a + n ≤ section_count b
      → All (IsNear objects) (flat_map (placed_section (λ part. part) p class o b) (range_with_len a n))
  range_near class o b within here zero a fits = All-nil (IsNear objects)
  range_near class o b within here (suc n) a fits =
      All-append (IsNear objects) (placed_section (λ part. part) p class o b a)
      (flat_map (placed_section (λ part. part) p class o b) (range_with_len (a + 1) n))
      (section_near class o b within here a (omega arith)) (range_near class o b within here n (a + 1) (omega arith))

  object_near : (class : SectionClass) (o : ℕ) (b : List ℕ) → o < length objects → slice_index_or objects o [] ≡ b
      → All (IsNear objects) (placed_object (λ part. part) p class o b)
  unfolding placed_object
  object_near class o b within here = range_near class o b within here (section_count b) 0 (omega arith)

  from_near : (class : SectionClass) (more : List (List ℕ)) (o : ℕ) → drop o objects ≡ more
      → All (IsNear objects) (placed_from (λ part. part) p class o more)
  from_near class [] o e = All-nil (IsNear objects)
  from_near class (b ∷ more) o e =
      let at = dropped_is objects o [] b more e in
      All-append (IsNear objects) (placed_object (λ part. part) p class o b)
      (placed_from (λ part. part) p class (o + 1) more)
      (object_near class o b at.within at.here) (from_near class more (o + 1) at.rest)

  abbrev mark : ℕ → PlacedPart
  mark n = record { place = offset_of p n; section = None }

  mark_near : (class : SectionClass) → All (IsNear objects) (end_mark (λ part. part) p class)
  mark_near class = by_class class (extent_bounds class p lawful)
    where
      at_end : (n : ℕ) (t : Bool) → n ≤ base_of p.kind + 2 ^ 24 → All (IsNear objects) (if t then mark n ∷ [] else [])
      at_end n t low = one_or_none t (mark n) (λ so. record { near = omega arith; own = tt })

      by_class : (class : SectionClass)
          → (base_of p.kind ≤ (extent_for class p).end) × ((extent_for class p).end ≤ base_of p.kind + 2 ^ 24)
          × (base_of p.kind ≤ 2 ^ 22)
          → All (IsNear objects) (end_mark (λ part. part) p class)
      by_class (Writable initial) bounds = All-nil (IsNear objects)
      by_class Executable bounds = let x = extent_for Executable p in at_end x.end (nat_lt x.start x.end) bounds.1
      by_class ReadOnly bounds = let x = extent_for ReadOnly p in at_end x.end (nat_lt x.start x.end) bounds.1
      by_class (Tls initial) bounds = let x = extent_for (Tls initial) p in at_end x.end (nat_lt x.start x.end) bounds.1

  class_near : (class : SectionClass) → All (IsNear objects) (placed_class (λ part. part) p objects class)
  class_near class =
      All-append (IsNear objects) (placed_from (λ part. part) p class 0 objects) (end_mark (λ part. part) p class)
      (from_near class objects 0 refl) (mark_near class)

  pub all_near : All (IsNear objects) (placed (λ part. part) p objects)
  unfolding placed
  all_near =
      All-append (IsNear objects) (placed_class (λ part. part) p objects Executable) _ (class_near Executable)
      (All-append (IsNear objects) (placed_class (λ part. part) p objects ReadOnly) _ (class_near ReadOnly)
      (All-append (IsNear objects) (placed_class (λ part. part) p objects (Tls true)) _ (class_near (Tls true))
      (All-append (IsNear objects) (placed_class (λ part. part) p objects (Writable true)) _
      (class_near (Writable true))
      (All-append (IsNear objects) (placed_class (λ part. part) p objects (Writable false)) []
      (class_near (Writable false)) (All-nil (IsNear objects))))))
