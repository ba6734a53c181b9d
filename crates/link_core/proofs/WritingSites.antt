-- What one sequence writes, and which sequences are a section's.
use Rattle.std.proofs.Common.{◌≡◌, ◌+◌, ◌-◌, ◌<◌, ◌≤◌, ◌==◌, ◌⊎◌, ◌∙◌, ℕ, zero, suc, true, false, List, [], ◌∷◌}
use Rattle.std.proofs.Common.{Option, Some, None, drop, get_or, inl, inr, length, refl, sym, take, ap, arith}
use Rattle.std.specs.List.{AllPairs, Contains}
use Rattle.std.specs.Prelude.{fold, slice_range}
use Rattle.std.proofs.Math.Seq.{drop-cons}
use Rattle.std.proofs.lemmas.Bool.{cases_lt}
use Rattle.std.proofs.lemmas.Bool.Decides.{nat_tests}
use Rattle.std.specs.List.Sorted.{IsNonDecreasingBy}
use Rattle.relax_sites.specs.declared.choices.Choice.{Choice}
use Rattle.relax_sites.specs.declared.rows.NewField.{NewField}
use Rattle.relax_sites.specs.Rewriting.{rewritten}
use Rattle.relax_sites.specs.Rows.{new_field}
use Rattle.sequence_forms.specs.declared.places.Site.{Site}
use Rattle.sequence_match.specs.Faults.{Before}
use Rattle.tls_relocs.specs.declared.fields.Field.{Field}
use Rattle.tls_relocs.specs.declared.fields.Field.TheVariants.{Empty}
use Rattle.link_needs.specs.Linking.{Linking, choice, sites_at}
use Rattle.link_needs.specs.Needs.{new_relocation}
use Rattle.link_needs.specs.Values.{field}
use Rattle.link_core.specs.Bytes.{sites_in, with_new_field, with_site, with_value}
use Rattle.link_core.proofs.WritingRoom.{patched_nothing}

-- ** one sequence

module _ (l : Linking) (o : ℕ) (site : Site) (bytes : List ℕ) where
  -- the new field, where its value fits it; else nothing
  pub new_writes : (f : NewField) (value : Option Field) → value ≡ field l o site.section (new_relocation site f)
      → with_value (site.start + f.at) value bytes ≡ with_new_field l o site (Some f) bytes
  new_writes f value is = rw is refl

  pub new_skips : (f : NewField) → None ≡ field l o site.section (new_relocation site f)
      → bytes ≡ with_new_field l o site (Some f) bytes
  new_skips f is =
      sym (patched_nothing (site.start + f.at) Empty bytes (omega arith)) ∙ new_writes f None is

  -- the sequence, and then its field
  pub site_writes : (chosen : Choice) (new : Option NewField) → chosen ≡ choice l o site
      → new ≡ new_field site.form chosen
      → with_new_field l o site new (rewritten site chosen bytes) ≡ with_site l o bytes site
  unfolding with_site
  site_writes chosen new is field = rw (field, is) refl

-- a site of an object, by its number
pub entry_has : (l : Linking) (o n : ℕ) (site : Site) → n < length (sites_at l o) → site ≡ get_or (sites_at l o) n site
    → Contains (sites_at l o) site
entry_has l o n site there is = (n, there, sym is)

-- ** those of a section

-- sections rise
pub sites_rise : (sites : List Site) → AllPairs Before sites → IsNonDecreasingBy (λ (site : Site). site.section) sites
sites_rise sites pairs i j d most inside = elim (cases_lt i j) [
  | inl less ↦ elim (pairs i j d less inside) [
    | inl lower ↦ omega arith
    | inr same ↦ omega (arith, same.0)
  ]
  | inr here ↦ let same : i ≡ j = omega arith in rw same (omega arith)
]

-- n sites from number `from` on are all of the section's
pub record AreBetween (t : ℕ) (sites : List Site) (from n : ℕ) : Type 0 where
  pub below : (k : ℕ) (d : Site) → k < from → (get_or sites k d).section < t
  pub above : (k : ℕ) (d : Site) → from ≤ k → k < length sites → t ≤ (get_or sites k d).section
  pub upto : (k : ℕ) (d : Site) → k < from + n → (get_or sites k d).section ≤ t
  pub past : (k : ℕ) (d : Site) → from + n ≤ k → k < length sites → t < (get_or sites k d).section

other_section : (m t : ℕ) → (m < t) ⊎ (t < m) → (m == t) ≡ false
other_section m t (inl less) = grind (arith, nat_tests)
other_section m t (inr more) = grind (arith, nat_tests)

own_section : (m t : ℕ) → m ≤ t → t ≤ m → (m == t) ≡ true
own_section m t most least = grind (arith, nat_tests)

pub sites_between : (t : ℕ) (sites : List Site) (from n : ℕ) → from + n ≤ length sites → AreBetween t sites from n
    → take n (drop from sites) ≡ sites_in sites t
sites_between t [] zero zero fits are = refl
sites_between t [] zero (suc n) fits are = absurd (omega arith)
sites_between t [] (suc from) n fits are = absurd (omega arith)
sites_between t (x ∷ xs) (suc from) n fits are =
    let other = other_section x.section t (inl (are.below 0 x (omega arith))) in
    rw other (sites_between t xs from n (omega arith) (record {
      below = λ k d low. are.below (suc k) d (omega arith);
      above = λ k d low high. are.above (suc k) d (omega arith) (omega arith);
      upto = λ k d low. are.upto (suc k) d (omega arith);
      past = λ k d low high. are.past (suc k) d (omega arith) (omega arith);
    }))
sites_between t (x ∷ xs) zero (suc n) fits are =
    let own = own_section x.section t (are.upto 0 x (omega arith)) (are.above 0 x (omega arith) (omega arith)) in
    rw own (ap (λ (sites : List Site). x ∷ sites) (sites_between t xs zero n (omega arith) (record {
      below = λ k d low. absurd (omega arith);
      above = λ k d low high. are.above (suc k) d (omega arith) (omega arith);
      upto = λ k d low. are.upto (suc k) d (omega arith);
      past = λ k d low high. are.past (suc k) d (omega arith) (omega arith);
    })))
sites_between t (x ∷ xs) zero zero fits are =
    let other = other_section x.section t (inr (are.past 0 x (omega arith) (omega arith))) in
    rw other (sites_between t xs zero zero (omega arith) (record {
      below = λ k d low. absurd (omega arith);
      above = λ k d low high. are.above (suc k) d (omega arith) (omega arith);
      upto = λ k d low. absurd (omega arith);
      past = λ k d low high. are.past (suc k) d (omega arith) (omega arith);
    }))

-- where two searches of sites that rise end
pub record AreCut (t : ℕ) (sites : List Site) (from to : ℕ) : Type 0 where
  pub below : (k : ℕ) (d : Site) → k < from → (get_or sites k d).section < t
  pub above : (k : ℕ) (d : Site) → from ≤ k → k < length sites → t ≤ (get_or sites k d).section
  pub upto : (k : ℕ) (d : Site) → k < to → (get_or sites k d).section ≤ t
  pub past : (k : ℕ) (d : Site) → to ≤ k → k < length sites → t < (get_or sites k d).section

pub in_order : (t : ℕ) (sites : List Site) (from to : ℕ) → from ≤ length sites → AreCut t sites from to → from ≤ to
in_order t [] from to fits cut = omega arith
in_order t (x ∷ xs) from to fits cut = elim (cases_lt to from) [
  | inl less ↦ absurd (omega (arith, cut.below to x less, cut.past to x (omega arith) (omega arith)))
  | inr most ↦ most
]

pub cut_is : (t : ℕ) (sites : List Site) (from to : ℕ) → from ≤ to → to ≤ length sites → AreCut t sites from to
    → slice_range sites from to ≡ sites_in sites t
cut_is t sites from to order fits cut = sites_between t sites from (to - from) (omega arith) (record {
  below = cut.below;
  above = cut.above;
  upto = λ k d low. cut.upto k d (omega arith);
  past = λ k d low high. cut.past k d (omega arith) high;
})

pub cut_own : (t : ℕ) (sites : List Site) (from to : ℕ) → to ≤ length sites → AreCut t sites from to
    → (k : ℕ) (d : Site) → from ≤ k → k < to → (get_or sites k d).section ≡ t
cut_own t sites from to fits cut k d low high =
    omega (arith, cut.above k d low (omega arith), cut.upto k d high)

-- one of a range, and those behind it
pub range_first : (sites : List Site) (n end : ℕ) (d : Site) → n < end → end ≤ length sites
    → slice_range sites n end ≡ get_or sites n d ∷ slice_range sites (n + 1) end
range_first sites n end d some fits =
    let next : suc n ≡ n + 1 = omega arith in
    let more : end - n ≡ suc (end - (n + 1)) = omega arith in
    ap (λ m. take m (drop n sites)) more
    ∙ ap (take (suc (end - (n + 1)))) (drop-cons sites n d (omega arith))
    ∙ ap (λ m. get_or sites n d ∷ take (end - (n + 1)) (drop m sites)) next

pub range_none : (sites : List Site) (n end : ℕ) → end ≤ n → slice_range sites n end ≡ []
range_none sites n end none =
    let zero : end - n ≡ 0 = omega arith in ap (λ m. take m (drop n sites)) zero

-- the sequence of one site, and then those of the sites behind it
pub sequence_step : (l : Linking) (o : ℕ) (sites : List Site) (n end : ℕ) (new old : List ℕ) (site d : Site)
    → n < end → end ≤ length sites → new ≡ with_site l o old site → site ≡ get_or sites n d
    → fold (with_site l o) new (slice_range sites (n + 1) end) ≡ fold (with_site l o) old (slice_range sites n end)
sequence_step l o sites n end new old site d some fits written is =
    let more = slice_range sites (n + 1) end in
    ap (λ now. fold (with_site l o) now more) (written ∙ ap (with_site l o old) is)
    ∙ ap (fold (with_site l o) old) (sym (range_first sites n end d some fits))
