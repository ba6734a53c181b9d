-- An image runs the bytes of its executable class and those of the stub, which stands behind all that a symbol names.
use Rattle.std.proofs.Common.{◌≡◌, ◌+◌, ◌-◌, ◌<◌, ◌≤◌, ◌&&◌, ◌||◌, ◌==◌, ◌∙◌, ℕ, Bool, true, false, List, [], ◌∷◌, ◌++◌}
use Rattle.std.proofs.Common.{length, map, refl, sym, ap, arith}
use Rattle.std.specs.Prelude.{nat_le, nat_lt, if◌then◌else◌}
use Rattle.std.specs.List.{All, list_any}
use Rattle.std.proofs.lemmas.Bool.{lt-leb}
use Rattle.std.proofs.lemmas.Bool.Decides.{nat_tests}
use Rattle.std.proofs.lemmas.List.Folds.{list_any-append}
use Rattle.image_file.specs.declared.part.PartClass.{PartClass}
use Rattle.image_file.specs.declared.part.PartClass.TheVariants.{Executable, ReadOnly, Writable}
use Rattle.image_file.specs.Spelled.{Part}
use Rattle.image_names.specs.Functions.{runs_at}
use Rattle.image_writer.specs.declared.outline.PartPlace.{PartPlace}
use Rattle.image_writer.specs.Contents.{part_in}
use Rattle.image_writer.specs.Page.{file_offset}
use Rattle.image_writer.proofs.Making.{part_in-size}
use Rattle.image_writer.specs.Tables.{finished, tables_part}
use Rattle.link_core.specs.Bytes.{file}
use Rattle.link_core.proofs.Few.{table_fits}
use Rattle.link_core.proofs.Lengths.{places_inside}
use Rattle.link_core.specs.Faults.{Links}
use Rattle.link_core.specs.Images.{contents, file_kind, filled, got_places, image_of, places, section_places}
use Rattle.link_core.specs.Images.{stub_places}
use Rattle.got_pairs.specs.declared.need.Need.TheVariants.{RuntimeWord}
use Rattle.link_needs.proofs.Reached.{stubs_have_their_word, table_some}
use Rattle.link_needs.specs.Given.{IsGiven}
use Rattle.link_needs.specs.Linking.{Linking, layout}
use Rattle.link_needs.specs.Needs.{got_size, got_start, has_stub, stub_start}
use Rattle.object_faults.specs.declared.class.SectionClass.TheVariants as class
use Rattle.tls_layout.specs.declared.extent.Extent.{Extent}
use Rattle.tls_layout.specs.Places.{extent_for}
use Rattle.tls_layout.specs.Places.{executable, read_only, room, tls_image, writable}
use Rattle.tls_layout.proofs.Together.{page_up-above}

-- ** lists

or_false : (t : Bool) → (t || false) ≡ t
or_false true = refl
or_false false = refl

module _ {X : Type 0} (test : X → Bool) where
  pub first_alone : (xs ys : List X) → list_any test ys ≡ false → list_any test (xs ++ ys) ≡ list_any test xs
  first_alone xs ys none =
      list_any-append test xs ys ∙ ap (λ t. list_any test xs || t) none ∙ or_false (list_any test xs)

  pub none_of : (xs ys : List X) → list_any test xs ≡ false → list_any test ys ≡ false
      → list_any test (xs ++ ys) ≡ false
  none_of xs ys first second = first_alone xs ys second ∙ first

  pub any_map : {Y : Type 0} (f : Y → X) (ys : List Y) → list_any test (map f ys) ≡ list_any (λ y. test (f y)) ys
  any_map f [] = refl
  any_map f (y ∷ ys) = ap (λ t. test (f y) || t) (any_map f ys)

-- ** extents

-- one of no bytes holds no address
none_within : (start end at : ℕ) → nat_lt start end ≡ false → (nat_le start at && nat_lt at end) ≡ false
none_within start end at none = grind (arith, nat_tests)

rises : (start end : ℕ) → nat_lt start end ≡ true → start < end
rises start end some = grind (arith, nat_tests)

-- the part of an extent
abbrev place_of : PartClass → Extent → PartPlace
place_of kind extent = record { class = kind; address = extent.start; size = extent.end - extent.start }

first_of : {X : Type 0} (P : X → Type 0) (t : Bool) (x : X) (ys zs : List X) → t ≡ true
    → All P (((if t then x ∷ [] else []) ++ ys) ++ zs) → P x
first_of P true x ys zs is all = all 0 x (omega arith)
first_of P false x ys zs is all = absurd (cc)

module _ (l : Linking) (given : IsGiven l) (links : Links l) where
  abbrev code : Extent
  code = extent_for class.Executable (layout l)

  abbrev pub is_within : ℕ → Bool
  is_within at =
      nat_le (extent_for class.Executable (layout l)).start at
      && nat_lt at (extent_for class.Executable (layout l)).end

  -- where the class has bytes, they are the first part of the image
  abbrev code_place : PartPlace
  code_place = place_of Executable (extent_for class.Executable (layout l))

  code_long : nat_lt code.start code.end ≡ true
      → length (part_in (file_kind l.kind) (file l) code_place).bytes ≡ code.end - code.start
  unfolding places section_places
  code_long some =
      part_in-size (file_kind l.kind) (file l) code_place
      (first_of (λ (p : PartPlace). file_offset (file_kind l.kind) p.address + p.size ≤ length (file l))
      (nat_lt code.start code.end) code_place
      (filled ReadOnly (read_only (layout l).kind (layout l).sections)
      ++ (filled ReadOnly (tls_image (layout l).kind (layout l).sections)
      ++ filled Writable (writable (layout l).kind (layout l).sections)))
      (got_places l ++ stub_places l) some (places_inside l given (table_fits l given links.sound.limits)))

  module _ (at : ℕ) (low : at ≤ room (layout l).kind (layout l).sections) where
    -- whether the part at a place of the file runs the byte there
    abbrev runs : PartPlace → Bool
    runs p = runs_at at (part_in (file_kind l.kind) (file l) p)

    -- constants and data run nothing
    constants_none : (extent : Extent) → list_any runs (filled ReadOnly extent) ≡ false
    constants_none extent = of_test (nat_lt extent.start extent.end)
      where
        of_test : (t : Bool)
            → list_any runs (if t then place_of ReadOnly extent ∷ [] else []) ≡ false
        of_test true = refl
        of_test false = refl

    data_none : (extent : Extent) → list_any runs (filled Writable extent) ≡ false
    data_none extent = of_test (nat_lt extent.start extent.end)
      where
        of_test : (t : Bool)
            → list_any runs (if t then place_of Writable extent ∷ [] else []) ≡ false
        of_test true = refl
        of_test false = refl

    table_none : list_any runs (got_places l) ≡ false
    table_none = of_test (got_size l == 0)
      where
        of_test : (t : Bool)
            → list_any runs (if t then []
            else record { class = Writable; address = got_start l; size = got_size l } ∷ [])
            ≡ false
        of_test true = refl
        of_test false = refl

    -- the stub lies behind the table, which has bytes
    stub_none : list_any runs (stub_places l) ≡ false
    stub_none = of_test (has_stub l) refl
      where
        of_test : (t : Bool) → has_stub l ≡ t
            → list_any runs (if t then record { class = Executable; address = stub_start l; size = 6 } ∷ [] else [])
            ≡ false
        of_test true has =
            let up = page_up-above (got_start l + got_size l) in
            rw (lt-leb (stub_start l) at
            (omega (arith, low, table_some l RuntimeWord (stubs_have_their_word l has), up))) refl
        of_test false none = refl

    -- the part of the code runs what lies in the class
    code_first : list_any runs (filled Executable (executable (layout l).kind (layout l).sections)) ≡ is_within at
    code_first = of_test (nat_lt code.start code.end) refl
      where
        of_test : (t : Bool) → nat_lt code.start code.end ≡ t
            → list_any runs (if t then code_place ∷ [] else [])
            ≡ (nat_le code.start at && nat_lt at code.end)
        of_test true some =
            let less = rises code.start code.end some in
            let long = code_long some in
            let end : code.start + length (part_in (file_kind l.kind) (file l) code_place).bytes ≡ code.end =
            omega (arith, long, less) in
            or_false (runs code_place) ∙ ap (λ n. nat_le code.start at && nat_lt at n) end
        of_test false none = sym (none_within code.start code.end at none)

    places_run : list_any runs (places l) ≡ is_within at
    unfolding places section_places
    places_run =
        let x = filled Executable (executable (layout l).kind (layout l).sections) in
        let r = filled ReadOnly (read_only (layout l).kind (layout l).sections) in
        let t = filled ReadOnly (tls_image (layout l).kind (layout l).sections) in
        let w = filled Writable (writable (layout l).kind (layout l).sections) in
        let added = none_of runs (got_places l) (stub_places l) table_none stub_none in
        let last = none_of runs t w (constants_none (tls_image (layout l).kind (layout l).sections))
        (data_none (writable (layout l).kind (layout l).sections)) in
        let rest = none_of runs r (t ++ w) (constants_none (read_only (layout l).kind (layout l).sections)) last in
        first_alone runs (x ++ (r ++ (t ++ w))) (got_places l ++ stub_places l) added
        ∙ first_alone runs x (r ++ (t ++ w)) rest
        ∙ code_first

    tables_none : list_any (runs_at at) (tables_part (contents l) ∷ []) ≡ false
    unfolding tables_part
    tables_none = refl

    -- the law of code
    pub code_runs : list_any (runs_at at) (image_of l).parts ≡ is_within at
    unfolding image_of finished contents
    code_runs =
        let f : PartPlace → Part = part_in (file_kind l.kind) (file l) in
        first_alone (runs_at at) (map f (places l)) (tables_part (contents l) ∷ []) tables_none
        ∙ any_map (runs_at at) f (places l)
        ∙ places_run
