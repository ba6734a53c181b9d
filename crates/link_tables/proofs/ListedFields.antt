-- The relocations of fields as they are listed.
use Rattle.std.proofs.Common.{◌≡◌, ◌≢◌, ◌∙◌, ◌<◌, ◌≤◌, ◌+◌, ◌^◌, ◌++◌, ◌&&◌, ℕ, Bool, true, false, List, [], ◌∷◌}
use Rattle.std.proofs.Common.{length}
use Rattle.std.proofs.Common.{drop, filter, map, refl, sym, ap, subst, arith}
use Rattle.std.specs.Prelude.{if◌then◌else◌}
use Rattle.std.specs.List.{All, Contains, flat_map, range_with_len}
use Rattle.std.proofs.lemmas.List.{map-append}
use Rattle.std.proofs.lemmas.List.Elements.{All-append, All-contains, All-contains_itself, All-filter, All-map, All-nil}
use Rattle.std.proofs.lemmas.List.Elements.{filter_passes}
use Rattle.elf_records.specs.declared.relocation.RelocationKind.{RelocationKind}
use Rattle.elf_records.specs.declared.relocation.RelocationKind.TheVariants.{Nothing}
use Rattle.elf_object.specs.declared.relocation.Relocation.{Relocation}
use Rattle.elf_object.specs.Faults.{IsObject}
use Rattle.elf_object.specs.Lawful.{IsLawful}
use Rattle.elf_object.specs.LawsOfRelocations.{lawful}
use Rattle.elf_object.specs.LawsOfSections.{kept_as}
use Rattle.elf_object.specs.Lent.{relocations}
use Rattle.elf_object.specs.Object.{section_count}
use Rattle.elf_object.specs.Parts.{symbol_count}
use Rattle.dynamic_symbols.proofs.Lists.{all_flat}
use Rattle.image_file.specs.declared.relocation.ImageRelocation.{ImageRelocation}
use Rattle.link_faults.specs.ImageKinds.{is_moved}
use Rattle.link_needs.specs.declared.needs.AbsoluteField.{AbsoluteField}
use Rattle.link_needs.specs.Given.{IsGiven}
use Rattle.link_needs.specs.Linking.{Linking, object}
use Rattle.link_needs.specs.Needs.{sorted_by}
use Rattle.link_needs.specs.NeedLaws.{absolutes, absolutes_from, fields_among, object_absolutes, section_absolutes}
use Rattle.link_needs.proofs.Reached.{both}
use Rattle.tls_symbols.proofs.Within.{dropped_is}
use Rattle.link_tables.specs.Dynamic.{field_relocations, is_absolute, object_relocations}
use Rattle.link_tables.specs.Dynamic.{relative_of, relatives, section_relocations}
use Rattle.link_tables.proofs.RelativesTables.{placed_section}
use Rattle.tls_symbols.specs.Definitions.{flat_map_from}

some_of : {X : Type 0} (xs : List X) (x : X) → Contains xs x → 0 < length xs
some_of xs x is = omega (arith, is.1)

something : (kind : RelocationKind) → is_absolute kind ≡ true → kind ≢ Nothing
something Nothing is e = cc
something kind is e = cc

pub all_contained : {X : Type 0} (xs ys : List X) → xs ≡ ys → All (Contains ys) xs
all_contained xs ys same = subst (λ zs. All (Contains ys) zs) (sym same) (All-contains_itself ys)

-- ** one field

-- it is one of its object's, names a symbol of its object, and lies near the start of its section
pub record IsNear (l : Linking) (x : AbsoluteField) : Type 0 where
  pub there : x.object < length l.objects
  pub symbol : x.relocation.symbol < symbol_count (object l x.object)
  pub near : x.relocation.offset ≤ 2 ^ 20

-- a field that a loader fills in, and so one of a moved image
record IsListed (l : Linking) (x : AbsoluteField) : Type 0 where
  there : x.object < length l.objects
  own : Contains (relocations (object l x.object) x.section) x.relocation
  moved : is_moved l.kind ≡ true
  absolute : is_absolute x.relocation.kind ≡ true

module _ (l : Linking) where
  of_section : (o t : ℕ) → o < length l.objects → All (IsListed l) (section_absolutes l o (object l o) t)
  of_section o t there =
      let rs = relocations (object l o) t in
      let test : Relocation → Bool = λ r. is_moved l.kind && is_absolute r.kind in
      All-map (IsListed l) _ (filter test rs) (λ k d h.
      let passes = both _ _ (filter_passes test rs k d h) in record {
        there = there;
        own = All-filter test (Contains rs) rs (All-contains_itself rs) k d h;
        moved = passes.0;
        absolute = passes.1;
      })

  of_objects : (o : ℕ) (left : List (List ℕ)) → drop o l.objects ≡ left → All (IsListed l) (absolutes_from l o left)
  unfolding object_absolutes
  of_objects o [] e = All-nil (IsListed l)
  of_objects o (b ∷ more) e =
      let first = dropped_is l.objects o [] b more e in
      All-append (IsListed l) (object_absolutes l o b) (absolutes_from l (o + 1) more)
      (subst (λ b. All (IsListed l) (object_absolutes l o b)) first.here
      (all_flat (IsListed l) (section_absolutes l o (object l o)) _ (λ t. of_section o t first.within)))
      (of_objects (o + 1) more first.rest)

  are_listed : All (IsListed l) (absolutes l)
  unfolding absolutes
  are_listed = of_objects 0 l.objects refl

  pub near_of : IsGiven l → (x : AbsoluteField) → Contains (absolutes l) x → IsNear l x
  near_of given x is =
      let listed : IsListed l x = All-contains (IsListed l) (absolutes l) x are_listed is in
      let b = object l x.object in
      let rs = relocations b x.section in
      let whole : IsObject b = given.are_objects x.object [] listed.there in
      let law = All-contains (IsLawful b x.section) rs x.relocation (lawful b whole x.section) listed.own in
      let placed = placed_section b whole x.section (some_of rs x.relocation listed.own) in
      let small = (kept_as b whole x.section placed.class placed.class_is).small in
      record {
        there = listed.there;
        symbol = (law.symbol (something x.relocation.kind listed.absolute)).1;
        near = omega (arith, law.inside, small);
      }

  -- ** all fields

  module _ (moved : is_moved l.kind ≡ true) where
    from_section : (o t : ℕ) (rs : List Relocation)
        → map (relative_of l) (fields_among l o t rs) ≡ flat_map (field_relocations l o t) rs
    from_section o t [] = refl
    from_section o t (r ∷ rs) =
        let made = relative_of l (record { object = o; section = t; relocation = r }) in
        let others = filter (λ (r : Relocation). is_moved l.kind && is_absolute r.kind) rs in
        rw moved (elim (is_absolute r.kind) as (λ b.
        map (relative_of l) (map (λ r. record { object = o; section = t; relocation = r })
        (if b then r ∷ others else others))
        ≡ (if b then made ∷ [] else []) ++ flat_map (field_relocations l o t) rs) [
          | true ↦ ap (λ xs. made ∷ xs) (from_section o t rs)
          | false ↦ from_section o t rs
        ])

    from_sections : (o : ℕ) (b : List ℕ) (ts : List ℕ)
        → map (relative_of l) (flat_map (section_absolutes l o b) ts) ≡ flat_map (section_relocations l o b) ts
    from_sections o b [] = refl
    from_sections o b (t ∷ ts) =
        map-append (relative_of l) (section_absolutes l o b t) (flat_map (section_absolutes l o b) ts)
        ∙ ap (λ xs. xs ++ map (relative_of l) (flat_map (section_absolutes l o b) ts))
        (from_section o t (relocations b t))
        ∙ ap (λ xs. section_relocations l o b t ++ xs) (from_sections o b ts)

    from_objects : (o : ℕ) (bs : List (List ℕ))
        → map (relative_of l) (absolutes_from l o bs) ≡ flat_map_from (object_relocations l) o bs
    unfolding object_absolutes object_relocations
    from_objects o [] = refl
    from_objects o (b ∷ more) =
        map-append (relative_of l) (object_absolutes l o b) (absolutes_from l (o + 1) more)
        ∙ ap (λ xs. xs ++ map (relative_of l) (absolutes_from l (o + 1) more))
        (from_sections o b (range_with_len 0 (section_count b)))
        ∙ ap (λ xs. object_relocations l o b ++ xs) (from_objects (o + 1) more)

  -- in their order, of what the list of all fields gives
  pub are_relatives : (all sorted : List ImageRelocation) → all ≡ map (relative_of l) (absolutes l)
      → sorted ≡ sorted_by (λ r. r.place) all → sorted ≡ relatives l
  unfolding absolutes relatives
  are_relatives all sorted made order = of_test (is_moved l.kind) refl
    where
      none : (xs : List AbsoluteField) → All (IsListed l) xs → is_moved l.kind ≡ false → map (relative_of l) xs ≡ []
      none [] all still = refl
      none (x ∷ xs) all still = absurd (let moved = (all 0 x (omega arith)).moved in cc)

      of_test : (t : Bool) → is_moved l.kind ≡ t
          → sorted ≡ (if t then sorted_by (λ r. r.place) (flat_map_from (object_relocations l) 0 l.objects) else [])
      of_test true moved = rw (order, made, from_objects moved 0 l.objects) refl
      of_test false still = rw (order, made, none (absolutes l) are_listed still) refl
