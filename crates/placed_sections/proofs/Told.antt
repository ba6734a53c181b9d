-- What the file of sections holds, offset by offset.
use Rattle.std.proofs.Common.{◌≡◌, ◌+◌, ◌-◌, ◌∙◌, ℕ, List, inl, inr, ap, arith}
use Rattle.std.specs.Prelude.{slice_get, unwrap_or}
use Rattle.std.proofs.lemmas.Bool.{cases_lt}
use Rattle.link_faults.specs.declared.image_kind.ImageKind.{ImageKind}
use Rattle.tls_layout.specs.Sections.{layout_of}
use Rattle.placed_sections.specs.Files.{offset_of, placed, filled, Contents}
use Rattle.placed_sections.specs.Laws.{FilesEnd, SectionsFit, SectionsStand, GapsAreZero, StandsAt}
use Rattle.placed_sections.proofs.Pages.{file_len, file_page, file_unit}
use Rattle.placed_sections.proofs.Found.{lies_within, unit_among, unit_clear}
use Rattle.placed_sections.proofs.Standing.{stood, is_among, all_clear}
use Rattle.placed_sections.proofs.Whole.{all_end, all_rise}

pub files_end : FilesEnd
files_end kind contents objects laid = file_len kind contents objects laid.whole
    ∙ all_end kind contents objects laid.whole

place_is : (kind : ImageKind) (contents : Contents) (objects : List (List ℕ)) (o s address : ℕ)
    → StandsAt kind objects o s address
    → (stood (layout_of kind objects) contents o s).place ≡ offset_of (layout_of kind objects) address
place_is kind contents objects o s address stands =
    ap (λ a. offset_of (layout_of kind objects) (unwrap_or a 0)) stands.1

pub sections_fit : SectionsFit
sections_fit kind contents objects o s address laid stands some =
    let p = layout_of kind objects in
    let within = lies_within 4096 (placed (filled contents) p objects) (stood p contents o s)
    (all_rise kind contents objects laid.whole) (is_among kind contents objects o s address stands some) in
    let place = place_is kind contents objects o s address stands in
    omega (arith, within.below, place, laid.whole o s stands.0, file_len kind contents objects laid.whole)

pub sections_stand : SectionsStand
sections_stand kind contents objects o s address k laid stands below =
    let p = layout_of kind objects in
    let x = stood p contents o s in
    let among = is_among kind contents objects o s address stands (omega arith) in
    let rises = all_rise kind contents objects laid.whole in
    let within = lies_within 4096 (placed (filled contents) p objects) x rises among in
    let place = place_is kind contents objects o s address stands in
    let long = laid.whole o s stands.0 in
    let at : offset_of p address + k - x.place ≡ k = omega (arith, place) in
    file_unit kind contents objects laid.whole (offset_of p address + k) (omega (arith, within.above, place))
    ∙ unit_among 4096 (placed (filled contents) p objects) x (offset_of p address + k) rises among
    (omega (arith, place)) (omega (arith, place, long))
    ∙ ap (slice_get (contents o s)) at

pub gaps_are_zero : GapsAreZero
gaps_are_zero kind contents objects k laid below outside = elim (cases_lt k 4096) [
  | inl in_page ↦ file_page kind contents objects laid.whole k in_page
  | inr past ↦
      file_unit kind contents objects laid.whole k past
      ∙ unit_clear 4096 (placed (filled contents) (layout_of kind objects) objects) k
      (all_rise kind contents objects laid.whole) past
      (omega (arith, file_len kind contents objects laid.whole)) (all_clear kind contents objects laid.whole k outside)
]
