-- From the sites of one section to those of an object.
use Rattle.std.proofs.Common.{◌≡◌, ◌≢◌, ◌+◌, ◌-◌, ◌<◌, ◌≤◌, ◌⊎◌, ◌∙◌, ◌++◌, ℕ, List, []}
use Rattle.std.proofs.Common.{length, get_or, refl, sym, ap, subst, inl, inr, arith, length-append}
use Rattle.std.specs.List.{AllPairs}
use Rattle.std.specs.List.Sorted.{IsPermutation, IsNonDecreasingBy}
use Rattle.std.proofs.lemmas.Bool.{cases_lt}
use Rattle.std.proofs.lemmas.List.{get_or-append_right, get_or_append_left}
use Rattle.std.proofs.lemmas.List.Elements.{All-append, Contains-append_left, Contains-append_right}
use Rattle.std.proofs.lemmas.List.Sorted.{All-permutation, Contains-permutation}
use Rattle.elf_object.specs.declared.relocation.Relocation.{Relocation}
use Rattle.elf_object.specs.Lent.{relocations}
use Rattle.elf_object.specs.Parts.{header}
use Rattle.sequence_match.specs.declared.matching.Code.{Code}
use Rattle.sequence_forms.specs.declared.places.Site.{Site}
use Rattle.sequence_match.specs.Code.{Names}
use Rattle.sequence_match.specs.Faults.{code_of, AreSites, Before, IsGetter, IsSite}
use Rattle.sequence_match.specs.Finding.{AreGetters, AreSitesFrom, AreSitesIn, IsOf}
use Rattle.sequence_match.specs.Sites.{IsSiteOf}
use Rattle.sequence_match.proofs.Found.{site_with}
use Rattle.sequence_match.proofs.Rising.{pairs_of_permutation, rises}
use Rattle.sequence_match.proofs.Rows.{first_inside}
use Rattle.sequence_match.proofs.Sections.{code_past, code_zero}

-- a section's sites
module _ (code : Code) (b : List ℕ) (s : ℕ) (at : code.section ≡ s) (bytes_are : code.bytes.now ≡ code_of b s)
    (xs_are : code.relocations.now ≡ relocations b s) (are : AreGetters b code.getters.now) where
  to_site : (site : Site) → IsOf code site → IsSite b site × (s ≤ site.section) × (site.section < s + 1)
  to_site site h =
      let section = h.0 ∙ at in
      let B : List ℕ → Type 0 = λ c. IsSiteOf c code.relocations.now (IsGetter b) h.1.0 site in
      let X : List Relocation → Type 0 = λ c. IsSiteOf (code_of b s) c (IsGetter b) h.1.0 site in
      let S : ℕ → Type 0 = λ t. IsSiteOf (code_of b t) (relocations b t) (IsGetter b) h.1.0 site in
      let is = site_with (Names code.getters.now) (IsGetter b) code.bytes.now code.relocations.now h.1.0 site
      (λ n. (are n).0) h.1.1 in (
        (h.1.0, subst S (sym section) (subst X xs_are (subst B bytes_are is))),
        omega (arith, section),
        omega (arith, section),
      )

  from_site : (site : Site) → IsSite b site → site.section ≡ s → IsOf code site
  from_site site h section =
      let B : List ℕ → Type 0 = λ c. IsSiteOf c code.relocations.now (IsGetter b) h.0 site in
      let X : List Relocation → Type 0 = λ c. IsSiteOf (code_of b s) c (IsGetter b) h.0 site in
      let S : ℕ → Type 0 = λ t. IsSiteOf (code_of b t) (relocations b t) (IsGetter b) h.0 site in
      let is = subst B (sym bytes_are) (subst X (sym xs_are) (subst S section h.1)) in (
        section ∙ sym at,
        (
          h.0,
          site_with (IsGetter b) (Names code.getters.now) code.bytes.now code.relocations.now h.0 site
              (λ n. (are n).1) is,
        ),
      )

  at_most : (m n : ℕ) → n ≤ m → m < n + 1 → m ≡ n
  at_most m n low high = omega arith

  turned : (p q : Site) → p.start ≢ q.start → q.start ≢ p.start
  turned p q apart same = apart (sym same)

  pub sites_sorted : (found sorted : List Site) → AreSitesIn code found → IsPermutation found sorted
      → IsNonDecreasingBy (λ site. site.start) sorted
      → AreSitesFrom b s (s + 1) sorted
  sites_sorted found sorted sites moved order =
      let all = All-permutation (IsOf code) found sorted moved sites.only in
      let apart = pairs_of_permutation (λ p q. p.start ≢ q.start) turned found sorted moved sites.apart in
      let up = rises (λ (site : Site). site.start) sorted order apart in
      record {
        only = λ k d inside. to_site (get_or sorted k d) (all k d inside);
        every = λ site is low high. Contains-permutation found sorted site moved
            (sites.every site (from_site site is (at_most site.section s low high)));
        rising = λ i j d less inside. inr ((all i d (omega arith)).0 ∙ sym (all j d inside).0, up i j d less inside);
      }

all_pairs_append : (R : Site → Site → Type 0) (xs ys : List Site) → AllPairs R xs → AllPairs R ys
    → ((i j : ℕ) (d : Site) → i < length xs → j < length ys → R (get_or xs i d) (get_or ys j d)) → AllPairs R (xs ++ ys)
all_pairs_append R xs ys left right cross i j d less inside =
    let P : Site → Type 0 = λ x. R x (get_or (xs ++ ys) j d) in
    let total = length-append xs ys in
    elim (cases_lt j (length xs)) [
      | inl low ↦
          let Q : Site → Type 0 = λ y. R (get_or xs i d) y in
          subst P (sym (get_or_append_left xs ys d i (omega arith)))
          (subst Q (sym (get_or_append_left xs ys d j low)) (left i j d less low))
      | inr high ↦
          let here = get_or-append_right xs ys (length xs) j d refl high in
          elim (cases_lt i (length xs)) [
            | inl low ↦
                let Q : Site → Type 0 = λ y. R (get_or xs i d) y in
                subst P (sym (get_or_append_left xs ys d i low))
                (subst Q (sym here) (cross i (j - length xs) d low (omega (arith, total))))
            | inr far ↦
                let there = get_or-append_right xs ys (length xs) i d refl far in
                let Q : Site → Type 0 = λ y. R (get_or ys (i - length xs) d) y in
                subst P (sym there) (subst Q (sym here)
                (right (i - length xs) (j - length xs) d (omega arith) (omega (arith, total))))
          ]
    ]

below_or_at : (m n : ℕ) → m < n + 1 → (m < n) ⊎ (n ≤ m)
below_or_at m n h = grind arith

-- one section's sites more
pub sites_append : (b : List ℕ) (n : ℕ) (xs ys : List Site) → 1 ≤ n → AreSitesFrom b 1 n xs
    → AreSitesFrom b n (n + 1) ys → AreSitesFrom b 1 (n + 1) (xs ++ ys)
sites_append b n xs ys above left right = record {
  only = All-append (λ site. IsSite b site × (1 ≤ site.section) × (site.section < n + 1)) xs ys
      (λ k d inside. let h = left.only k d inside in (h.0, h.1, omega (arith, h.2)))
      (λ k d inside. let h = right.only k d inside in (h.0, omega (arith, h.1), h.2));
  every = λ site is low high. elim (below_or_at site.section n high) [
    | inl less ↦ Contains-append_left xs ys site (left.every site is low less)
    | inr at ↦ Contains-append_right xs ys site (right.every site is at high)
  ];
  rising = all_pairs_append Before xs ys left.rising right.rising
      (λ i j d low high. inl (omega (arith, (left.only i d low).2, (right.only j d high).1)));
}

pub sites_before : (b : List ℕ) → AreSitesFrom b 1 1 []
sites_before b = record {
  only = λ k d inside. absurd (omega arith);
  every = λ site is low high. absurd (omega arith);
  rising = λ i j d less inside. absurd (omega arith);
}

-- a site stands in a section of the table
site_section : (b : List ℕ) (site : Site) → IsSite b site → (1 ≤ site.section) × (site.section < (header b).e_shnum)
site_section b site h =
    let inside = h.1.spelled.inside in
    let some = first_inside site.form in
    let zero_or : (n : ℕ) → (n ≡ 0) ⊎ (1 ≤ n) = λ n. grind arith in (
      elim (zero_or site.section) [
        | inl null ↦ absurd (omega (arith, inside, some, ap (λ n. length (code_of b n)) null, ap length (code_zero b)))
        | inr more ↦ more
      ],
      elim (cases_lt site.section (header b).e_shnum) [
        | inl less ↦ less
        | inr past ↦ absurd (omega (arith, inside, some, ap length (code_past b site.section past)))
      ],
    )

pub sites_done : (b : List ℕ) (n : ℕ) (xs : List Site) → (header b).e_shnum ≤ n → AreSitesFrom b 1 n xs → AreSites b xs
sites_done b n xs all from = record {
  only = λ k d inside. (from.only k d inside).0;
  every = λ site is. let h = site_section b site is in from.every site is h.0 (omega (arith, h.1));
  rising = from.rising;
}
