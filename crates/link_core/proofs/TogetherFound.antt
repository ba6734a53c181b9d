-- Whether one of an object's sites is rewritten and has a byte: there is one, or there is none.
use Rattle.std.proofs.Common.{◌≡◌, ◌+◌, ◌<◌, ◌≤◌, ◌⊎◌, ◌&&◌, ◌==◌, ℕ, Bool, true, false, not, List, refl, inl, inr}
use Rattle.std.proofs.Common.{arith}
use Rattle.std.specs.Prelude.{nat_le, nat_lt}
use Rattle.std.specs.List.{Contains, list_any}
use Rattle.std.proofs.lemmas.Bool.Decides.{nat_tests}
use Rattle.std.proofs.lemmas.List.Folds.{Any-from_list_any}
use Rattle.sequence_forms.specs.declared.places.Site.{Site}
use Rattle.link_needs.specs.Linking.{Linking, choice}
use Rattle.link_needs.specs.Needs.{is_kept}
use Rattle.link_needs.proofs.Reached.{any_among}
use Rattle.link_core.specs.Meant.{is_in_rewritten}

-- ** the test of a site

pub covers_is : (m n a k e : ℕ) (kept : Bool) → ((m == n) && (nat_le a k && nat_lt k e) && not kept) ≡ true
    → (m ≡ n) × (a ≤ k) × (k < e) × (kept ≡ false)
covers_is m n a k e kept h = grind (arith, nat_tests)

pub covers_so : (m n a k e : ℕ) (kept : Bool) → m ≡ n → a ≤ k → k < e → kept ≡ false
    → ((m == n) && (nat_le a k && nat_lt k e) && not kept) ≡ true
covers_so m n a k e kept same low high off = grind (arith, nat_tests)

module _ (l : Linking) (o t k : ℕ) where
  -- a site of these that is rewritten, and has byte k of section t
  abbrev pub IsRewrittenIn : List Site → Site → Type 0
  IsRewrittenIn own site =
      Contains own site × (site.section ≡ t) × (site.start ≤ k) × (k < site.start + site.len)
      × (is_kept (choice l o site) ≡ false)

  -- there is one
  abbrev pub Rewritten : List Site → Type 0
  Rewritten own = (site : Site) × IsRewrittenIn own site

  pub rewritten_or_not : (own : List Site) → Rewritten own ⊎ (Rewritten own → ⊥)
  rewritten_or_not own = by (list_any (is_in_rewritten l o t k) own) refl
    where
      by : (b : Bool) → list_any (is_in_rewritten l o t k) own ≡ b → Rewritten own ⊎ (Rewritten own → ⊥)
      by true e =
          let any = Any-from_list_any (is_in_rewritten l o t k) own e in
          let site = any.1 in
          let h = covers_is site.section t site.start k (site.start + site.len) (is_kept (choice l o site)) any.4 in
          inl (site, ((any.0, any.2, any.3), h.0, h.1, h.2, h.3))
      by false e = inr (λ h.
          let site = h.0 in
          let is = h.1 in
          let some = any_among (is_in_rewritten l o t k) own site is.0
          (covers_so site.section t site.start k (site.start + site.len) (is_kept (choice l o site)) is.1 is.2 is.3
          is.4) in
          cc)
