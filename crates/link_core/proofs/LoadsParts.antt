-- The parts of an image lie one behind another, and which of them are written.
use Rattle.std.proofs.Common.{◌≡◌, ◌+◌, ◌-◌, ◌%◌, ◌^◌, ◌<◌, ◌≤◌, ◌∙◌, ℕ, Bool, true, false, [], ◌∷◌, ◌++◌}
use Rattle.std.proofs.Common.{length, refl, ap, arith, inl, inr}
use Rattle.std.specs.Prelude.{nat_lt, if◌then◌else◌}
use Rattle.std.proofs.lemmas.Bool.{cases_lt, lt-ltb, le-ltb}
use Rattle.object_faults.specs.declared.class.SectionClass.TheVariants as class
use Rattle.image_file.specs.declared.part.PartClass.{PartClass}
use Rattle.image_file.specs.declared.part.PartClass.TheVariants.{Executable, ReadOnly, Writable}
use Rattle.image_writer.specs.declared.outline.PartPlace.{PartPlace}
use Rattle.image_file.specs.Spelled.{is_writable}
use Rattle.link_faults.specs.ImageKinds.{base_of}
use Rattle.tls_layout.specs.declared.extent.Extent.{Extent}
use Rattle.tls_layout.specs.Places.{executable, read_only, room, tls_image, writable, zero_data, IsLawful}
use Rattle.tls_layout.specs.Rounding.{page_up, round_up, IsMultiple}
use Rattle.tls_layout.specs.Sections.{Layout}
use Rattle.tls_layout.proofs.LawsOfPlaces.{classes_follow, page_multiple}
use Rattle.tls_layout.proofs.Together.{page_up-above, page_up-least, ascend, rise}
use Rattle.link_core.specs.Images.{filled, section_places}
use Rattle.link_core.proofs.LoadsChains.{Lies, last_end, last_end-append, chain_rises, chain_lower, lies-append}
use Rattle.link_core.proofs.LoadsChains.{lies_longer, lies_none}
use Rattle.link_core.proofs.LoadsCounts.{one_if, written}

-- ** pages

-- a multiple of the size of a page
pub on_page : (n : ℕ) → IsMultiple n 4096 → n % 4096 ≡ 0
on_page n page = rw page.1 (omega arith)

-- the next page is near
pub page_near : (n : ℕ) → page_up n < n + 4096
unfolding page_up round_up
page_near n = omega arith

-- a later place has no earlier page
pub page_rises : (n m : ℕ) → n ≤ m → page_up n ≤ page_up m
page_rises n m le =
    let page = page_multiple m in
    let above = page_up-above m in
    let low = page_up-least n page.0 (omega (arith, page.1)) in
    omega (arith, page.1)

-- a page begins at itself
pub page_again : (n : ℕ) → page_up (page_up n) ≡ page_up n
page_again n =
    let page = page_multiple n in
    let low = page_up-least (page_up n) page.0 (omega (arith, page.1)) in
    let above = page_up-above (page_up n) in
    omega (arith, page.1)

-- ** one class

-- a class with bytes is a part
pub filled_lies : (class : PartClass) (base at : ℕ) (x : Extent) → at ≤ x.start → x.start ≤ x.end → x.start % 4096 ≡ 0
    → base ≤ x.start → x.end ≤ base + 2 ^ 24 → Lies base at (filled class x) x.end
filled_lies class base at x behind up page above below = elim (cases_lt x.start x.end) [
  | inl some ↦ rw (lt-ltb x.start x.end some) (record {
    chain = (
      record { filled = omega arith; paged = page; above = above; below = omega arith },
      behind,
      tt,
    );
    ends = omega arith;
  })
  | inr none ↦ rw (le-ltb x.start x.end none) (lies_none base at x.end (omega arith))
]

-- a class without is none
pub filled_end : (class : PartClass) (at : ℕ) (x : Extent) → x.start < x.end → last_end at (filled class x) ≡ x.end
filled_end class at x some = rw (lt-ltb x.start x.end some) (omega arith)

-- a class without bytes ends nothing
pub filled_none : (class : PartClass) (at : ℕ) (x : Extent) → x.end ≤ x.start → last_end at (filled class x) ≡ at
filled_none class at x none = rw (le-ltb x.start x.end none) refl

-- a class ends before the next one
pub filled_before : (class : PartClass) (at next : ℕ) (x : Extent) → at ≤ x.start → x.start ≤ x.end → x.end ≤ next
    → last_end at (filled class x) ≤ next
filled_before class at next x behind up below = elim (cases_lt x.start x.end) [
  | inl some ↦ rw (filled_end class at x some) below
  | inr none ↦ rw (filled_none class at x none) (omega arith)
]

-- a class is one part at most: how many are written
pub filled_written : (class : PartClass) (x : Extent) → written (filled class x) ≤ one_if (is_writable class)
filled_written class x = of_test (nat_lt x.start x.end)
  where
    of_test : (t : Bool)
        → written (if t then record { class = class; address = x.start; size = x.end - x.start } ∷ [] else [])
        ≤ one_if (is_writable class)
    of_test true = omega arith
    of_test false = omega arith

-- and how many there are
pub filled_few : (class : PartClass) (x : Extent) → length (filled class x) ≤ 1
filled_few class x = of_test (nat_lt x.start x.end)
  where
    of_test : (t : Bool)
        → length {A = PartPlace}
        (if t then record { class = class; address = x.start; size = x.end - x.start } ∷ [] else [])
        ≤ 1
    of_test true = omega arith
    of_test false = omega arith

-- ** the sections

-- the sections end within 16 MiB
sections_limit : (p : Layout) → IsLawful p → (zero_data p.kind p.sections).end ≤ base_of p.kind + 2 ^ 24
sections_limit p lawful = let span = lawful.small_span in omega arith

-- thread-local storage and what programs write
back_lies : (p : Layout) → IsLawful p
    → Lies (base_of p.kind) (tls_image p.kind p.sections).start
    (filled ReadOnly (tls_image p.kind p.sections) ++ filled Writable (writable p.kind p.sections))
    (room p.kind p.sections)
back_lies p lawful =
    let f = classes_follow p in
    let w = ascend p.kind p.sections in
    let base = base_of p.kind in
    let image = tls_image p.kind p.sections in
    let variables = writable p.kind p.sections in
    let limit = sections_limit p lawful in
    let front = filled_lies ReadOnly base image.start image (omega arith) (f.rise (class.Tls true))
    (on_page image.start (f.pages (class.Tls true))) (omega (arith, w.first, f.second, f.rise class.ReadOnly, f.third))
    (omega (arith, w.to_data)) in
    let back = filled_lies Writable base image.end variables f.fourth (f.rise (class.Writable true))
    (on_page variables.start (f.pages (class.Writable true)))
    (omega (arith, w.first, f.second, f.rise class.ReadOnly, f.third, f.rise (class.Tls true), f.fourth)) limit in
    lies_longer base image.start variables.end (room p.kind p.sections) _
    (lies-append base image.start image.end variables.end _ _ front back) f.last

-- code, constants and the others
pub sections_lie : (p : Layout) → IsLawful p
    → Lies (base_of p.kind) (base_of p.kind) (section_places p) (room p.kind p.sections)
unfolding section_places
sections_lie p lawful =
    let f = classes_follow p in
    let w = ascend p.kind p.sections in
    let base = base_of p.kind in
    let code = executable p.kind p.sections in
    let constants = read_only p.kind p.sections in
    let image = tls_image p.kind p.sections in
    let limit = sections_limit p lawful in
    let first = filled_lies Executable base base code (omega (arith, f.first)) (f.rise class.Executable)
    (on_page code.start (f.pages class.Executable)) (omega (arith, f.first)) (omega (arith, w.to_read_only)) in
    let second = filled_lies ReadOnly base code.end constants f.second (f.rise class.ReadOnly)
    (on_page constants.start (f.pages class.ReadOnly)) (omega (arith, w.first, f.second)) (omega (arith, w.to_tls)) in
    let back = back_lies p lawful in
    lies-append base base code.end (room p.kind p.sections) _ _ first
    (lies-append base code.end image.start (room p.kind p.sections) _ _
    (lies_longer base code.end constants.end image.start _ second f.third) back)

-- where code ends, or the base
front_end : (p : Layout)
    → last_end (base_of p.kind) (filled Executable (executable p.kind p.sections)) ≡ (executable p.kind p.sections).end
front_end p =
    let f = classes_follow p in
    let code = executable p.kind p.sections in
    let up = f.rise class.Executable in
    elim (cases_lt code.start code.end) [
      | inl some ↦ filled_end Executable (base_of p.kind) code some
      | inr none ↦ filled_none Executable (base_of p.kind) code none ∙ omega (arith, f.first)
    ]

-- thread-local storage begins at the page behind code and constants
image_near : (p : Layout)
    → (tls_image p.kind p.sections).start
    ≤ page_up (last_end (executable p.kind p.sections).end (filled ReadOnly (read_only p.kind p.sections)))
image_near p =
    let r = rise p.kind p.sections in
    let code = executable p.kind p.sections in
    let constants = read_only p.kind p.sections in
    elim (cases_lt constants.start constants.end) [
      | inl some ↦ rw (filled_end ReadOnly code.end constants some) (omega (arith, r.image))
      | inr none ↦
          let same : constants.end ≡ page_up code.end = omega (arith, r.constants, r.read_only_up) in
          let image : (tls_image p.kind p.sections).start ≡ page_up code.end =
          r.image ∙ (ap page_up same ∙ page_again code.end) in
          rw (filled_none ReadOnly code.end constants none) (omega arith)
    ]

-- and no later than at the one behind all sections
pub image_early : (p : Layout) → IsLawful p
    → (tls_image p.kind p.sections).start ≤ page_up (last_end (base_of p.kind) (section_places p))
unfolding section_places
image_early p lawful =
    let f = classes_follow p in
    let base = base_of p.kind in
    let code = executable p.kind p.sections in
    let constants = read_only p.kind p.sections in
    let image = tls_image p.kind p.sections in
    let first = filled Executable code in
    let second = filled ReadOnly constants in
    let rest = filled ReadOnly image ++ filled Writable (writable p.kind p.sections) in
    let middle = last_end code.end second in
    let whole : last_end base (first ++ (second ++ rest)) ≡ last_end middle rest =
    last_end-append base first (second ++ rest)
    ∙ (ap (λ n. last_end n (second ++ rest)) (front_end p) ∙ last_end-append code.end second rest) in
    let near = image_near p in
    let before = filled_before ReadOnly code.end image.start constants f.second (f.rise class.ReadOnly) f.third in
    let lies = back_lies p lawful in
    let up = chain_rises base middle rest (chain_lower base middle image.start rest before lies.chain) in
    let page = page_rises middle (last_end middle rest) up in
    rw whole (omega arith)
