-- A sequence begins where it is the first to cover a byte, and that byte is its first one.
use Rattle.std.proofs.Common.{◌≡◌, ◌∙◌, ◌+◌, ◌<◌, ◌≤◌, ℕ, suc, Bool, true, false, List, [], ◌∷◌, Option, None, Some}
use Rattle.std.proofs.Common.{length, get_or, refl, sym, ap, arith}
use Rattle.std.specs.Prelude.{◌==◌, if◌then◌else◌}
use Rattle.std.specs.List.{All, find}
use Rattle.std.proofs.lemmas.Bool.{false_from_ne_true}
use Rattle.std.proofs.lemmas.Bool.Decides.{nat_tests}
use Rattle.sequence_forms.specs.declared.forms.Form.{Form}
use Rattle.sequence_forms.specs.declared.forms.Form.TheVariants.{Gd, Ld, IeMov, IeAdd, GdInd, LdInd, DescLea, DescCall}
use Rattle.sequence_forms.specs.declared.places.Site.{Site}
use Rattle.sequence_forms.specs.Forms.{row}
use Rattle.sequence_match.specs.Faults.{IsSite}
use Rattle.sequence_match.proofs.ApartSites.{sites_apart}
use Rattle.whole_meaning.specs.Code.{is_in_site, starts_at}

-- the site, if it begins at byte k
abbrev pub starting : ℕ → Option Site → Option Site
starting k None = None
starting k (Some site) = if site.start == k then Some site else None

-- a sequence of the object that has bytes
pub record IsLong (b : List ℕ) (site : Site) : Type 0 where
  pub site_is : IsSite b site
  pub long : 0 < site.len

-- it has some bytes, and few
pub form_short : (form : Form) → (0 < length ((row form).cells)) × (length ((row form).cells) ≤ 256)
unfolding row
form_short Gd = (omega arith, omega arith)
form_short Ld = (omega arith, omega arith)
form_short IeMov = (omega arith, omega arith)
form_short IeAdd = (omega arith, omega arith)
form_short GdInd = (omega arith, omega arith)
form_short LdInd = (omega arith, omega arith)
form_short DescLea = (omega arith, omega arith)
form_short DescCall = (omega arith, omega arith)

-- ** tests

-- what a test says of one site
pub record Covers (s k : ℕ) (site : Site) : Type 0 where
  pub own : site.section ≡ s
  pub from : site.start ≤ k
  pub to : k < site.start + site.len

pub covers_by : (s k : ℕ) (site : Site) → is_in_site s k site ≡ true → Covers s k site
covers_by s k site h = record
    { own = grind (arith, nat_tests); from = grind (arith, nat_tests); to = grind (arith, nat_tests) }

starts_in : (s k : ℕ) (site : Site) → 0 < site.len → starts_at s k site ≡ true → is_in_site s k site ≡ true
starts_in s k site long h = grind (arith, nat_tests)

starts_by : (s k : ℕ) (site : Site) → starts_at s k site ≡ true → (site.start == k) ≡ true
starts_by s k site h = grind (arith, nat_tests)

-- in its own section it starts there if its start is there
starts_as : (s k : ℕ) (site : Site) → is_in_site s k site ≡ true → starts_at s k site ≡ (site.start == k)
starts_as s k site h = grind (arith, nat_tests)

-- ** search

none_found : {X : Type 0} (p : X → Bool) (xs : List X) → ((i : ℕ) (d : X) → i < length xs → p (get_or xs i d) ≡ false)
    → find p xs ≡ None
none_found p [] none = refl
none_found p (x ∷ xs) none = rw (none 0 x (omega arith)) (none_found p xs (λ i d h. none (suc i) d (omega (arith, h))))

-- of two sequences that cover a byte of one section one is the other
same_site : (b : List ℕ) (s k : ℕ) (x y : Site) → IsLong b x → IsLong b y → is_in_site s k x ≡ true
    → is_in_site s k y ≡ true → x ≡ y
same_site b s k x y x_is y_is x_in y_in =
    let p = covers_by s k x x_in in
    let q = covers_by s k y y_in in
    sites_apart b x y k x_is.site_is y_is.site_is (p.own ∙ sym q.own) p.from p.to q.from q.to

starts_in_front : (b : List ℕ) (s k : ℕ) (site : Site) (more : List Site) → IsLong b site → All (IsLong b) more
    → is_in_site s k site ≡ true
    → find (starts_at s k) (site ∷ more) ≡ starting k (Some site)
starts_in_front b s k site more is all covered = by_start (site.start == k) refl
  where
    none_behind : (site.start == k) ≡ false → (i : ℕ) (d : Site) → i < length more
        → starts_at s k (get_or more i d) ≡ false
    none_behind unlike i d inside =
        let y = get_or more i d in
        let y_is : IsLong b y = all i d inside in
        false_from_ne_true (starts_at s k y) (λ yes.
        let same : site ≡ y = same_site b s k site y is y_is covered (starts_in s k y y_is.long yes) in
        let there : (site.start == k) ≡ true = ap (λ (x : Site). x.start == k) same ∙ starts_by s k y yes in
        cc)

    by_start : (t : Bool) → (site.start == k) ≡ t → find (starts_at s k) (site ∷ more) ≡ starting k (Some site)
    by_start true here = rw (starts_as s k site covered, here) refl
    by_start false here = rw (starts_as s k site covered, here) (none_found (starts_at s k) more (none_behind here))

pub starts_found : (b : List ℕ) (s k : ℕ) (sites : List Site) → All (IsLong b) sites
    → find (starts_at s k) sites ≡ starting k (find (is_in_site s k) sites)
starts_found b s k [] all = refl
starts_found b s k (site ∷ more) all = by_cover (is_in_site s k site) refl (starts_found b s k more rest)
  where
    rest : All (IsLong b) more
    rest i d inside = all (suc i) d (omega (arith, inside))

    first : IsLong b site
    first = all 0 site (omega arith)

    by_cover : (t : Bool) → is_in_site s k site ≡ t
        → find (starts_at s k) more ≡ starting k (find (is_in_site s k) more)
        → find (starts_at s k) (site ∷ more) ≡ starting k (find (is_in_site s k) (site ∷ more))
    by_cover true covered later = rw covered (starts_in_front b s k site more first rest covered)
    by_cover false covered later =
        let not : starts_at s k site ≡ false = false_from_ne_true (starts_at s k site)
        (λ yes. let there = starts_in s k site first.long yes in cc) in
        rw (covered, not) later
