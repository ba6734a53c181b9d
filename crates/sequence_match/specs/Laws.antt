-- What holds of the sites of every object.
use Rattle.std.specs.Prelude.{◌≡◌, ◌+◌, ◌<◌, ◌≤◌, ℕ, List}
use Rattle.sequence_forms.specs.declared.places.Site.{Site}
use Rattle.sequence_match.specs.Faults.{IsSite}

-- sites that share a byte are the same
abbrev pub SitesAreApart : Type 0
SitesAreApart =
    (b : List ℕ) (p q : Site) (k : ℕ) → IsSite b p → IsSite b q → p.section ≡ q.section
    → p.start ≤ k → k < p.start + p.len → q.start ≤ k → k < q.start + q.len → p ≡ q
