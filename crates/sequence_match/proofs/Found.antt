-- The sequences that are found, one relocation after another, then one section after another.
use Rattle.std.proofs.Common.{◌≡◌, ◌≢◌, ◌+◌, ◌-◌, ◌<◌, ◌⊎◌, ◌∙◌, ◌++◌, ◌∷◌, ℕ, List, [], Option, Some, None, length}
use Rattle.std.proofs.Common.{get_or, sym, ap, subst, inl, inr, below_more, arith}
use Rattle.std.specs.Prelude.{IfSome}
use Rattle.std.specs.Borrow.{Bor}
use Rattle.std.specs.Slice.{IsGetResult}
use Rattle.std.specs.List.{All, AllPairs, Contains}
use Rattle.std.proofs.lemmas.List.Elements.{All-push, Contains-append_left, Contains-push}
use Rattle.std.proofs.lemmas.List.Quantifiers.{all_pairs_push}
use Rattle.std.proofs.lemmas.Option.{slice_get_within}
use Rattle.object_rules.specs.declared.fault.FaultKind.{FaultKind}
use Rattle.object_rules.specs.declared.fault.FaultKind.TheVariants.{Sequence, StrayCall}
use Rattle.elf_object.specs.declared.relocation.Relocation.{Relocation}
use Rattle.sequence_forms.specs.declared.forms.Form.{Form}
use Rattle.sequence_forms.specs.declared.forms.Second.{Second}
use Rattle.sequence_match.specs.declared.matching.Code.{Code}
use Rattle.sequence_forms.specs.declared.places.Site.{Site}
use Rattle.sequence_match.specs.Code.{HasSite, IsFound, IsNoFirst, IsSiteIn, Names}
use Rattle.sequence_match.specs.Faults.{StandsAt}
use Rattle.elf_object.specs.Faults.{IsFirstAt}
use Rattle.sequence_match.specs.Finding.{AreSitesIn, IsLeastBelow, IsLooseIn}
use Rattle.sequence_forms.specs.Forms.{row, register}
use Rattle.sequence_match.specs.Sites.{Calls, HasSecond, IsSecond, IsSiteOf, IsSpelled}
use Rattle.sequence_match.proofs.Entries.{same_entry}
use Rattle.sequence_match.proofs.OneForm.{one_form}
use Rattle.sequence_match.proofs.Opened.{same_start}

-- a fault stands at a relocation that there is
pub stands_within : (kind : FaultKind) (code : List ℕ) (xs : List Relocation) (getter : ℕ → Type 0) (e : ℕ)
    → StandsAt kind code xs getter e
    → e < length xs
stands_within Sequence code xs getter e h = slice_get_within xs e h.0 h.1
stands_within StrayCall code xs getter e h = slice_get_within xs e h.0 h.1
stands_within _ code xs getter e h = absurd h

-- the forms of two sequences that start at one place
pub forms_are : (code : List ℕ) (xs : List Relocation) (getter : ℕ → Type 0) (d e : ℕ) (p q : Site)
    → IsSiteOf code xs getter d p
    → IsSiteOf code xs getter e q → p.start ≡ q.start → p.form ≡ q.form
forms_are code xs getter d e p q a b at =
    let S : ℕ → Type 0 = λ n. IsSpelled code xs (row q.form).cells n in
    one_form p.form q.form code xs p.start a.spelled (subst S (sym at) b.spelled)

site_is : (s t : ℕ) (a b : ℕ) (l m : ℕ) (f g : Form) (x y : ℕ) (r q : ℕ) → s ≡ t → a ≡ b → l ≡ m → f ≡ g → x ≡ y → r ≡ q
    → ◌≡◌ {A = Site} (record { section = s; start = a; len = l; form = f; symbol = x; reg = r })
    (record { section = t; start = b; len = m; form = g; symbol = y; reg = q })
site_is s t a b l m f g x y r q h i j k n o = cc

-- a relocation opens one sequence at most
pub one_site : (code : List ℕ) (xs : List Relocation) (getter : ℕ → Type 0) (e : ℕ) (p q : Site) → p.section ≡ q.section
    → IsSiteOf code xs getter e p
    → IsSiteOf code xs getter e q → p ≡ q
one_site code xs getter e p q section a b =
    let at = same_start code xs getter e p q a b in
    let form = forms_are code xs getter e e p q a b at in
    let symbol = a.first.3 ∙ ap (λ x. x.symbol) (same_entry xs e a.first.0 b.first.0 a.first.1 b.first.1)
    ∙ sym b.first.3 in
    let len = a.len_is ∙ ap (λ f. length (row f).cells) form ∙ sym b.len_is in
    let reg = a.reg_is ∙ ap (λ f. register f code p.start) form ∙ ap (λ n. register q.form code n) at ∙ sym b.reg_is in
    site_is p.section q.section p.start q.start p.len q.len p.form q.form p.symbol q.symbol p.reg q.reg section at len form symbol reg

-- two relocations open no sequences at one place
pub other_start : (code : List ℕ) (xs : List Relocation) (getter : ℕ → Type 0) (d e : ℕ) (p q : Site) → d < e
    → IsSiteOf code xs getter d p
    → IsSiteOf code xs getter e q → p.start ≢ q.start
other_start code xs getter d e p q less a b at =
    let form = forms_are code xs getter d e p q a b at in
    b.earliest d a.first.0 less a.first.1 (a.first.2.kind_is ∙ ap (λ f. (row f).first) form)
    (a.first.2.offset_is ∙ ap (λ f. p.start + (row f).first_at) form ∙ ap (λ n. n + (row q.form).first_at) at)

-- a sequence of the code that one of the first n relocations opens
abbrev pub IsBelow : Code → ℕ → Site → Type 0
IsBelow code n site = (site.section ≡ code.section) × ((e : ℕ) × (e < n) × IsSiteIn code e site)

-- exactly the sequences that the first n relocations open
pub record SitesBelow (code : Code) (n : ℕ) (sites : List Site) : Type 0 where
  pub only : All (IsBelow code n) sites
  pub every : (site : Site) → IsBelow code n site → Contains sites site
  pub apart : AllPairs (λ p q. p.start ≢ q.start) sites

pub below_or_at : (e n : ℕ) → e < n + 1 → (e < n) ⊎ (e ≡ n)
below_or_at e n h = grind arith

module _ (code : Code) (n : ℕ) (sites : List Site) (below : SitesBelow code n sites) where
  wider : All (IsBelow code (n + 1)) sites
  wider k d inside = let h = below.only k d inside in (h.0, (h.1.0, omega (arith, h.1.1), h.1.2))

  -- one relocation more, which opens none
  pub sites_same : IsNoFirst code n → SitesBelow code (n + 1) sites
  sites_same none = record {
    only = wider;
    every = λ site h. elim (below_or_at h.1.0 n h.1.1) [
      | inl less ↦ below.every site (h.0, (h.1.0, less, h.1.2))
      | inr at ↦ let P : ℕ → Type 0 = λ e. IsSiteIn code e site in absurd (none site (subst P at h.1.2))
    ];
    apart = below.apart;
  }

  -- one that opens a sequence
  pub sites_more : (p : Site) → IsFound code p.form n p → SitesBelow code (n + 1) (sites ++ p ∷ [])
  sites_more p found = record {
    only = All-push (IsBelow code (n + 1)) sites p wider (found.1, (n, omega arith, found.2));
    every = λ site h. elim (below_or_at h.1.0 n h.1.1) [
      | inl less ↦ Contains-append_left sites (p ∷ []) site (below.every site (h.0, (h.1.0, less, h.1.2)))
      | inr at ↦
          let P : ℕ → Type 0 = λ e. IsSiteIn code e site in
          let same = one_site code.bytes.now code.relocations.now (Names code.getters.now) n p site
          (found.1 ∙ sym h.0) found.2 (subst P at h.1.2) in
          let C : Site → Type 0 = λ x. Contains (sites ++ p ∷ []) x in
          subst C same (Contains-push sites p)
    ];
    apart = all_pairs_push (λ x y. x.start ≢ y.start) sites p below.apart
        (λ k d inside. let h = below.only k d inside in
        other_start code.bytes.now code.relocations.now (Names code.getters.now) h.1.0 n
        (get_or sites k d) p h.1.1 h.1.2 found.2);
  }

-- the last one that was found
pub last_found : (code : Code) (n : ℕ) (sites : List Site) (r : Option (Bor Site)) → SitesBelow code n sites
    → IsGetResult sites 0 (length sites - 1) r
    → IfSome r (λ site. HasSite code site.now)
last_found code n sites None below h = tt
last_found code n sites (Some site) below h =
    let found = below.only (length sites - 1) site.now (omega (arith, h.3.0)) in
    let P : Site → Type 0 = λ x. HasSite code x in
    subst P (sym h.1) (found.1.0, found.1.2)

pub sites_all : (code : Code) (n : ℕ) (sites : List Site) → n ≡ length code.relocations.now → SitesBelow code n sites
    → AreSitesIn code sites
sites_all code n sites all below = record {
  only = λ k d inside. let h = below.only k d inside in (h.0, (h.1.0, h.1.2));
  every = λ site h.
      below.every site (
        h.0,
        (
          h.1.0,
          omega (arith, slice_get_within code.relocations.now h.1.0 h.1.1.first.0 h.1.1.first.1),
          h.1.1,
        ),
      );
  apart = below.apart;
}

-- which symbols are `__tls_get_addr` may be told in two ways
calls_with : (P Q : ℕ → Type 0) (second : Second) (start : ℕ) (x : Relocation) → ((n : ℕ) → P n → Q n)
    → Calls second P start x → Calls second Q start x
calls_with P Q second start x to h =
    record { kind_is = h.kind_is; offset_is = h.offset_is; addend_is = h.addend_is; names = to x.symbol h.names }

pub second_with : (P Q : ℕ → Type 0) (second : Option Second) (xs : List Relocation) (start f : ℕ)
    → ((n : ℕ) → P n → Q n) → IsSecond second P xs start f
    → IsSecond second Q xs start f
second_with P Q None xs start f to h = h
second_with P Q (Some second) xs start f to h = (h.0, h.1, calls_with P Q second start h.0 to h.2)

has_with : (P Q : ℕ → Type 0) (second : Option Second) (xs : List Relocation) (start : ℕ) → ((n : ℕ) → P n → Q n)
    → HasSecond second P xs start
    → HasSecond second Q xs start
has_with P Q None xs start to h = h
has_with P Q (Some second) xs start to h = (h.0, second_with P Q (Some second) xs start h.0 to h.1)

pub site_with : (P Q : ℕ → Type 0) (code : List ℕ) (xs : List Relocation) (e : ℕ) (site : Site) → ((n : ℕ) → P n → Q n)
    → IsSiteOf code xs P e site
    → IsSiteOf code xs Q e site
site_with P Q code xs e site to h = record {
  spelled = h.spelled;
  first = h.first;
  earliest = h.earliest;
  second = has_with P Q (row site.form).second xs site.start to h.second;
  len_is = h.len_is;
  reg_is = h.reg_is;
}

pub stands_with : (P Q : ℕ → Type 0) (kind : FaultKind) (code : List ℕ) (xs : List Relocation) (e : ℕ)
    → ((n : ℕ) → P n → Q n) → ((n : ℕ) → Q n → P n)
    → StandsAt kind code xs P e → StandsAt kind code xs Q e
stands_with P Q Sequence code xs e to from h = (h.0, h.1, h.2, λ site s. h.3 site (site_with Q P code xs e site from s))
stands_with P Q StrayCall code xs e to from h = (
  h.0,
  h.1,
  h.2,
  to h.0.symbol h.3,
  λ d site s second. h.4 d site (site_with Q P code xs d site from s)
      (second_with Q P (row site.form).second xs site.start e from second),
)
stands_with P Q _ code xs e to from h = h

-- one number more, at which P does not hold
pub least_more : (P : ℕ → Type 0) (n : ℕ) (least : Option ℕ) → IsLeastBelow P n least → (P n → ⊥)
    → IsLeastBelow P (n + 1) least
least_more P n None least none = below_more (λ e. P e → ⊥) n least none
least_more P n (Some e) least none = least

-- none of the numbers that count is left
pub least_all : (P : ℕ → Type 0) (n : ℕ) (least : Option ℕ) → ((e : ℕ) → P e → e < n) → IsLeastBelow P n least
    → IsFirstAt P least
least_all P n None within least = λ e h. least e (within e h) h
least_all P n (Some e) within least = least

-- what opens a sequence is not loose
pub found_not_loose : (code : Code) (n : ℕ) (p : Site) → IsFound code p.form n p → IsLooseIn code n → ⊥
found_not_loose code n p found loose = loose.3 p found.2
