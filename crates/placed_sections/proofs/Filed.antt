-- A page of zeros with the sections laid out behind it is the file.
use Rattle.std.proofs.Common.{◌≡◌, ◌∙◌, ℕ, List, ◌++◌, length, sym, ap}
use Rattle.tls_layout.specs.Sections.{Layout}
use Rattle.tls_relocs.specs.Laid.{laid, zeros}
use Rattle.placed_sections.specs.Files.{placed, sections_file, filled, Contents}

-- the page that the file begins with, and what stands behind it
pub record Pages (p : Layout) (contents : Contents) (objects : List (List ℕ)) (page : List ℕ) : Type 0 where
  pub len : length page ≡ 4096
  pub zero : page ≡ zeros (length page)
  pub whole : sections_file p contents objects ≡ page ++ laid (length page) (placed (filled contents) p objects)

-- with a page, whatever its length
paged : (p : Layout) (contents : Contents) (objects : List (List ℕ)) (n : ℕ) → n ≡ 4096
    → zeros n ++ laid n (placed (filled contents) p objects) ≡ sections_file p contents objects
unfolding sections_file
paged p contents objects n e = ap (λ m. zeros m ++ laid m (placed (filled contents) p objects)) e

pub page_of : (p : Layout) (contents : Contents) (objects : List (List ℕ)) (page : List ℕ) → length page ≡ 4096
    → page ≡ zeros (length page) → Pages p contents objects page
page_of p contents objects page len zero = record {
  len = len;
  zero = zero;
  whole = sym (ap (λ x. x ++ laid (length page) (placed (filled contents) p objects)) zero
      ∙ paged p contents objects (length page) len);
}
