-- What a linker adds to the sections, the table, the stub and the dynamic tables, lies in the room behind them.
use Rattle.std.proofs.Common.{◌≡◌, ◌+◌, ◌≤◌, ◌==◌, ◌∙◌, ℕ, suc, Bool, true, false, List, [], ◌∷◌, ◌++◌}
use Rattle.std.proofs.Common.{inl, inr, refl, ap, arith, if◌then◌else◌}
use Rattle.std.specs.List.{All}
use Rattle.std.proofs.lemmas.Bool.{cases_lt}
use Rattle.std.proofs.lemmas.List.Elements.{All-append, All-cons, All-nil}
use Rattle.image_file.specs.declared.part.PartClass.TheVariants.{Executable, ReadOnly, Writable}
use Rattle.image_writer.specs.declared.outline.PartPlace.{PartPlace}
use Rattle.image_writer.specs.Tables.{tables_part}
use Rattle.link_core.proofs.Loads.{tabled}
use Rattle.link_core.proofs.LoadsChains.{last_end, last_end-append}
use Rattle.link_core.proofs.LoadsParts.{filled_end, filled_none, image_early, page_again, page_rises}
use Rattle.link_core.specs.Faults.{Links}
use Rattle.link_core.specs.Images.{contents, filled, got_places, places, section_places, stub_places}
use Rattle.link_faults.specs.ImageKinds.{base_of}
use Rattle.link_needs.specs.Given.{IsGiven}
use Rattle.link_needs.specs.Linking.{Linking, layout}
use Rattle.link_needs.specs.Needs.{got_size, got_start, has_stub, stub_start}
use Rattle.tls_layout.proofs.Together.{page_up-above, rise}
use Rattle.tls_layout.specs.Places.{executable, initial_data, read_only, room, tls_image, writable, zero_data}
use Rattle.tls_layout.specs.Rounding.{page_up}

abbrev pub room_of : Linking → ℕ
room_of l = room (layout l).kind (layout l).sections

-- ** the table and the stub

-- both begin there or behind
abbrev pub IsAdded : Linking → PartPlace → Type 0
IsAdded l p = room (layout l).kind (layout l).sections ≤ p.address

got_added : (l : Linking) → All (IsAdded l) (got_places l)
got_added l = of_test (got_size l == 0)
  where
    of_test : (t : Bool)
        → All (IsAdded l) (if t then [] else record { class = Writable; address = got_start l; size = got_size l } ∷ [])
    of_test true = All-nil (IsAdded l)
    of_test false =
        All-cons (IsAdded l) (record { class = Writable; address = got_start l; size = got_size l }) [] (omega arith)
        (All-nil (IsAdded l))

stub_added : (l : Linking) → All (IsAdded l) (stub_places l)
stub_added l = of_test (has_stub l)
  where
    of_test : (t : Bool)
        → All (IsAdded l) (if t then record { class = Executable; address = stub_start l; size = 6 } ∷ [] else [])
    of_test true =
        let up = page_up-above (got_start l + got_size l) in
        All-cons (IsAdded l) (record { class = Executable; address = stub_start l; size = 6 }) [] (omega (arith, up))
        (All-nil (IsAdded l))
    of_test false = All-nil (IsAdded l)

pub places_added : (l : Linking) → All (IsAdded l) (got_places l ++ stub_places l)
places_added l = All-append (IsAdded l) (got_places l) (stub_places l) (got_added l) (stub_added l)

-- parts that begin there end there
ends_added : (room at : ℕ) (ps : List PartPlace) → All (λ (p : PartPlace). room ≤ p.address) ps → room ≤ page_up at
    → room ≤ page_up (last_end at ps)
ends_added room at [] all low = low
ends_added room at (p ∷ ps) all low =
    let first : room ≤ p.address = all 0 p (omega arith) in
    let up = page_up-above (p.address + p.size) in
    ends_added room (p.address + p.size) ps (λ k d below. all (suc k) d (omega (arith, below)))
    (omega (arith, first, up))

-- ** the dynamic tables

module _ (l : Linking) (given : IsGiven l) (links : Links l) where
  abbrev code : List PartPlace
  code = filled Executable (executable (layout l).kind (layout l).sections)

  abbrev constants : List PartPlace
  constants = filled ReadOnly (read_only (layout l).kind (layout l).sections)

  abbrev image : List PartPlace
  image = filled ReadOnly (tls_image (layout l).kind (layout l).sections)

  abbrev written : List PartPlace
  written = filled Writable (writable (layout l).kind (layout l).sections)

  -- where the last of the sections ends is on the last page before the room
  sections_reach : room (layout l).kind (layout l).sections ≤ page_up
      (last_end (base_of l.kind) (section_places (layout l)))
  unfolding section_places room
  sections_reach =
      let base = base_of l.kind in
      let before = last_end (last_end (last_end base code) constants) image in
      let split : last_end base (code ++ (constants ++ (image ++ written))) ≡ last_end before written =
      last_end-append base code (constants ++ (image ++ written))
      ∙ last_end-append (last_end base code) constants (image ++ written)
      ∙ last_end-append (last_end (last_end base code) constants) image written in
      elim (cases_lt (initial_data (layout l).kind (layout l).sections).start
      (zero_data (layout l).kind (layout l).sections).end) [
        | inl some ↦
            let end = filled_end Writable before (writable (layout l).kind (layout l).sections) some in
            let same = ap page_up (split ∙ end) in
            omega (arith, same)
        | inr none ↦
            let same : last_end base (section_places (layout l)) ≡ before =
            sections_are ∙ split ∙ filled_none Writable before (writable (layout l).kind (layout l).sections) none in
            let early = image_early (layout l) links.sound.limits.lawful in
            let r = rise (layout l).kind (layout l).sections in
            let image_end = (tls_image (layout l).kind (layout l).sections).end in
            let up = page_rises (zero_data (layout l).kind (layout l).sections).end (page_up image_end)
            (omega (arith, none, r.written)) in
            let again = page_again image_end in
            let whole : last_end base (code ++ (constants ++ (image ++ written))) ≡ before =
            split ∙ filled_none Writable before (writable (layout l).kind (layout l).sections) none in
            elim (cases_lt (tls_image (layout l).kind (layout l).sections).start image_end) [
              | inl held ↦
                  let last : before ≡ image_end =
                  filled_end ReadOnly (last_end (last_end base code) constants)
                  (tls_image (layout l).kind (layout l).sections) held in
                  let paged = ap page_up (whole ∙ last) in
                  omega (arith, up, again, paged)
              | inr empty ↦
                  let reached = ap page_up (same) in
                  let over = page_rises image_end (page_up (last_end base (section_places (layout l))))
                  (omega (arith, early, empty)) in
                  let twice = page_again (last_end base (section_places (layout l))) in
                  let end = ap page_up sections_are in
                  omega (arith, up, again, over, twice, end)
            ]
      ]
    where
      sections_are : last_end (base_of l.kind) (section_places (layout l))
          ≡ last_end (base_of l.kind) (code ++ (constants ++ (image ++ written)))
      sections_are = refl

  pub tables_added : room (layout l).kind (layout l).sections ≤ (tables_part (contents l)).address
  unfolding places
  tables_added =
      let t = tabled l given links.sound.limits in
      let end = ends_added (room (layout l).kind (layout l).sections)
      (last_end (base_of l.kind) (section_places (layout l)))
      (got_places l ++ stub_places l) (places_added l) sections_reach in
      let all = places_end in
      omega (arith, t.address, end, all)
    where
      places_end : page_up (last_end (base_of l.kind) (places l))
          ≡ page_up (last_end (last_end (base_of l.kind) (section_places (layout l))) (got_places l ++ stub_places l))
      places_end =
          ap page_up (last_end-append (base_of l.kind) (section_places (layout l)) (got_places l ++ stub_places l))
