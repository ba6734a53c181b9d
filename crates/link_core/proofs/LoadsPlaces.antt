-- The table and the stub lie behind the sections, and how many parts there are.
use Rattle.std.proofs.Common.{◌≡◌, ◌+◌, ◌*◌, ◌^◌, ◌≤◌, ◌==◌, ℕ, Bool, true, false, [], ◌∷◌, ◌++◌, length, refl, arith}
use Rattle.std.proofs.Common.{inl, inr, length-append}
use Rattle.std.specs.Prelude.{if◌then◌else◌}
use Rattle.std.proofs.lemmas.Bool.{cases_lt}
use Rattle.std.proofs.lemmas.Bool.Decides.{nat_tests}
use Rattle.image_file.specs.declared.part.PartClass.TheVariants.{Executable, ReadOnly, Writable}
use Rattle.image_writer.specs.declared.outline.PartPlace.{PartPlace}
use Rattle.link_faults.specs.ImageKinds.{base_of}
use Rattle.tls_layout.specs.Places.{executable, read_only, room, tls_image, writable, zero_data, IsLawful}
use Rattle.tls_layout.specs.Rounding.{page_up}
use Rattle.tls_layout.specs.Sections.{Layout}
use Rattle.tls_layout.proofs.LawsOfPlaces.{classes_follow, page_multiple}
use Rattle.tls_layout.proofs.Together.{page_up-above, page_limit, ascend, rise}
use Rattle.link_needs.specs.Linking.{Linking, layout}
use Rattle.link_needs.specs.Needs.{got_size, got_start, has_stub, stub_start}
use Rattle.link_core.specs.Images.{filled, section_places, got_places, stub_places, places}
use Rattle.link_core.proofs.LoadsChains.{Lies, last_end, last_end-append, chain_rises, chain_lower, lies-append}
use Rattle.link_core.proofs.LoadsChains.{lies_none, lies_one}
use Rattle.link_core.proofs.LoadsCounts.{written, written-append}
use Rattle.link_core.proofs.LoadsParts.{on_page, page_near, page_rises, sections_lie, image_early, filled_few}
use Rattle.link_core.proofs.LoadsParts.{filled_written}
use Rattle.link_core.proofs.GotRelocationsSites.{not_zero}

-- ** where the table and the stub lie

-- the table begins at a page, within 16 MiB
pub record BeginsWell (l : Linking) : Type 0 where
  pub above : base_of l.kind ≤ got_start l
  pub below : got_start l ≤ base_of l.kind + 2 ^ 24

-- where it begins, the sections end within their limit
pub begins_well : (l : Linking) → IsLawful (layout l) → BeginsWell l
unfolding room
begins_well l lawful =
    let p = layout l in
    let w = ascend p.kind p.sections in
    let r = rise p.kind p.sections in
    let up = page_up-above (zero_data p.kind p.sections).end in
    let span = lawful.small_span in
    record {
      above = omega (arith, w.first, w.to_read_only);
      below = page_limit l.kind (zero_data p.kind p.sections).end (omega arith);
    }

none_is : (n : ℕ) → n ≤ 0 → (n == 0) ≡ true
none_is n h = grind (arith, nat_tests)

-- the table lies between its start and the page of the stub
got_lies : (l : Linking) → IsLawful (layout l) → got_size l ≤ 16 * (2 ^ 19 + 1)
    → Lies (base_of l.kind) (got_start l) (got_places l) (stub_start l)
got_lies l lawful small =
    let begins = begins_well l lawful in
    let page = (classes_follow (layout l)).room_page in
    let up = page_up-above (got_start l + got_size l) in
    elim (cases_lt 0 (got_size l)) [
      | inl some ↦ rw (not_zero (got_size l) some) (record {
        chain = (
          record {
            filled = some;
            paged = on_page (got_start l) page;
            above = begins.above;
            below = omega (arith, begins.below);
          },
          omega arith,
          tt,
        );
        ends = up;
      })
      | inr none ↦
          rw (none_is (got_size l) none) (lies_none (base_of l.kind) (got_start l) (stub_start l) (omega arith))
    ]

-- the stub lies on that page
stub_lies : (l : Linking) → IsLawful (layout l) → got_size l ≤ 16 * (2 ^ 19 + 1)
    → Lies (base_of l.kind) (stub_start l) (stub_places l) (stub_start l + 6)
stub_lies l lawful small = of_test (has_stub l)
  where
    begins : BeginsWell l
    begins = begins_well l lawful

    of_test : (t : Bool)
        → Lies (base_of l.kind) (stub_start l)
        (if t then record { class = Executable; address = stub_start l; size = 6 } ∷ [] else [])
        (stub_start l + 6)
    of_test true =
        let up = page_up-above (got_start l + got_size l) in
        let near = page_near (got_start l + got_size l) in
        lies_one (base_of l.kind) (stub_start l) (record { class = Executable; address = stub_start l; size = 6 })
        (record {
          filled = omega arith;
          paged = on_page (stub_start l) (page_multiple (got_start l + got_size l));
          above = omega (arith, begins.above);
          below = omega (arith, begins.below);
        }) (omega arith)
    of_test false = lies_none (base_of l.kind) (stub_start l) (stub_start l + 6) (omega arith)

-- all parts
pub places_lie : (l : Linking) → IsLawful (layout l) → got_size l ≤ 16 * (2 ^ 19 + 1)
    → Lies (base_of l.kind) (base_of l.kind) (places l) (stub_start l + 6)
unfolding places
places_lie l lawful small =
    let base = base_of l.kind in
    lies-append base base (got_start l) (stub_start l + 6) (section_places (layout l)) (got_places l ++ stub_places l)
    (sections_lie (layout l) lawful)
    (lies-append base (got_start l) (stub_start l) (stub_start l + 6) (got_places l) (stub_places l)
    (got_lies l lawful small) (stub_lies l lawful small))

-- thread-local storage begins no later than at the page behind them
pub image_before : (l : Linking) → IsLawful (layout l) → got_size l ≤ 16 * (2 ^ 19 + 1)
    → (tls_image l.kind (layout l).sections).start ≤ page_up (last_end (base_of l.kind) (places l))
unfolding places
image_before l lawful small =
    let base = base_of l.kind in
    let p = layout l in
    let lies = sections_lie p lawful in
    let middle = last_end base (section_places p) in
    let rest = got_places l ++ stub_places l in
    let back = lies-append base (got_start l) (stub_start l) (stub_start l + 6) (got_places l) (stub_places l)
    (got_lies l lawful small) (stub_lies l lawful small) in
    let up = chain_rises base middle rest (chain_lower base middle (got_start l) rest lies.ends back.chain) in
    let whole : last_end base (section_places p ++ rest) ≡ last_end middle rest =
    last_end-append base (section_places p) rest in
    let early = image_early p lawful in
    let page = page_rises middle (last_end middle rest) up in
    rw whole (omega arith)

-- ** how many there are

-- the sections are four parts at most
pub sections_few : (p : Layout) → length (section_places p) ≤ 4
unfolding section_places
sections_few p =
    let one = filled Executable (executable p.kind p.sections) in
    let two = filled ReadOnly (read_only p.kind p.sections) in
    let three = filled ReadOnly (tls_image p.kind p.sections) in
    let four = filled Writable (writable p.kind p.sections) in
    omega (
      arith,
      length-append one (two ++ (three ++ four)),
      length-append two (three ++ four),
      length-append three four,
      filled_few Executable (executable p.kind p.sections),
      filled_few ReadOnly (read_only p.kind p.sections),
      filled_few ReadOnly (tls_image p.kind p.sections),
      filled_few Writable (writable p.kind p.sections),
    )

-- one of them is written at most
pub sections_written : (p : Layout) → written (section_places p) ≤ 1
unfolding section_places
sections_written p =
    let one = filled Executable (executable p.kind p.sections) in
    let two = filled ReadOnly (read_only p.kind p.sections) in
    let three = filled ReadOnly (tls_image p.kind p.sections) in
    let four = filled Writable (writable p.kind p.sections) in
    omega (
      arith,
      written-append one (two ++ (three ++ four)),
      written-append two (three ++ four),
      written-append three four,
      filled_written Executable (executable p.kind p.sections),
      filled_written ReadOnly (read_only p.kind p.sections),
      filled_written ReadOnly (tls_image p.kind p.sections),
      filled_written Writable (writable p.kind p.sections),
    )

-- the stub is one part at most
pub stub_few : (l : Linking) → length (stub_places l) ≤ 1
stub_few l = of_test (has_stub l)
  where
    of_test : (t : Bool)
        → length {A = PartPlace}
        (if t then record { class = Executable; address = stub_start l; size = 6 } ∷ [] else [])
        ≤ 1
    of_test true = omega arith
    of_test false = omega arith

-- which is not written
pub stub_unwritten : (l : Linking) → written (stub_places l) ≡ 0
stub_unwritten l = of_test (has_stub l)
  where
    of_test : (t : Bool)
        → written (if t then record { class = Executable; address = stub_start l; size = 6 } ∷ [] else []) ≡ 0
    of_test true = refl
    of_test false = refl
