-- What a reader finds in the file.
use Rattle.std.proofs.Common.{◌≡◌, ◌<◌, ◌≤◌, ◌∙◌, ℕ, List, length, Some, sym, ap, subst, arith, length-append}
use Rattle.std.specs.Prelude.{slice_get}
use Rattle.std.proofs.lemmas.List.{length-replicate}
use Rattle.link_faults.specs.declared.image_kind.ImageKind.{ImageKind}
use Rattle.tls_layout.specs.Sections.{layout_of}
use Rattle.tls_relocs.specs.Elements.{slice_get-append, slice_get-append_behind, slice_get-replicate}
use Rattle.tls_relocs.specs.Laid.{Rising, laid, zeros, end_of, unit_at}
use Rattle.tls_relocs.specs.LaidLaws.{laid_bytes, length-laid}
use Rattle.placed_sections.specs.Files.{placed, sections_file, filled, AreWhole, Contents}
use Rattle.placed_sections.proofs.Filed.{Pages, page_of}
use Rattle.placed_sections.proofs.Whole.{all_rise}

page : List ℕ
page = zeros 4096

page_len : length page ≡ 4096
unfolding page
page_len = length-replicate {A = ℕ} 4096 0

page_zero : page ≡ zeros (length page)
unfolding page
page_zero = ap zeros (sym (length-replicate {A = ℕ} 4096 0))

module _ (kind : ImageKind) (contents : Contents) (objects : List (List ℕ)) (are_whole : AreWhole contents objects)
  where
    is_paged : Pages (layout_of kind objects) contents objects page
    is_paged = page_of (layout_of kind objects) contents objects page page_len page_zero

    rises : Rising (length page) (placed (filled contents) (layout_of kind objects) objects)
    rises = subst (λ n. Rising n (placed (filled contents) (layout_of kind objects) objects)) (sym page_len)
        (all_rise kind contents objects are_whole)

    -- the file ends where the last section does
    pub file_len : length (sections_file (layout_of kind objects) contents objects)
        ≡ end_of 4096 (placed (filled contents) (layout_of kind objects) objects)
    file_len =
        ap length is_paged.whole
        ∙ length-append page (laid (length page) (placed (filled contents) (layout_of kind objects) objects))
        ∙ length-laid (length page) (placed (filled contents) (layout_of kind objects) objects) rises
        ∙ ap (λ n. end_of n (placed (filled contents) (layout_of kind objects) objects)) page_len

    -- behind the first page stand sections, and in it zeros
    pub file_unit : (k : ℕ) → 4096 ≤ k
        → slice_get (sections_file (layout_of kind objects) contents objects) k
        ≡ unit_at (placed (filled contents) (layout_of kind objects) objects) k
    file_unit k past =
        let behind : length page ≤ k = omega (arith, page_len) in
        ap (λ file. slice_get file k) is_paged.whole
        ∙ slice_get-append_behind page
        (laid (length page) (placed (filled contents) (layout_of kind objects) objects)) k behind
        ∙ laid_bytes (length page) (placed (filled contents) (layout_of kind objects) objects) k rises behind

    pub file_page : (k : ℕ) → k < 4096 → slice_get (sections_file (layout_of kind objects) contents objects) k ≡ Some 0
    file_page k below =
        let inside : k < length page = omega (arith, page_len) in
        ap (λ file. slice_get file k) is_paged.whole
        ∙ slice_get-append page
        (laid (length page) (placed (filled contents) (layout_of kind objects) objects)) k inside
        ∙ ap (λ zs. slice_get zs k) page_zero
        ∙ slice_get-replicate (length page) k 0 inside
