-- A relocation whose field shares a byte with a site is one of the site's own, and its field lies in the site.
use Rattle.std.proofs.Common.{◌≡◌, ◌+◌, ◌-◌, ◌<◌, ◌≤◌, ◌⊎◌, ◌∙◌, ℕ, List, Option, Some, None, length}
use Rattle.std.proofs.Common.{sym, ap, subst, inl, inr, arith}
use Rattle.elf_object.specs.declared.relocation.Relocation.{Relocation}
use Rattle.elf_object.specs.Relocations.{field_width}
use Rattle.sequence_forms.specs.declared.forms.Second.{Second}
use Rattle.sequence_forms.specs.declared.places.Site.{Site}
use Rattle.sequence_match.specs.Code.{AreApart}
use Rattle.sequence_forms.specs.Forms.{row}
use Rattle.sequence_match.specs.Sites.{Covers, HasSecond, IsEntry, IsSecond, IsSiteOf}
use Rattle.sequence_match.proofs.Entries.{below_or_not, same_entry}
use Rattle.sequence_match.proofs.Rows.{call_width_is}
use Rattle.link_core.proofs.TogetherRows.{cell_at, first_fits, FitsIn, IsInSecond, second_fits}

covers_at : (o w start at n k : ℕ) → o ≡ start + at → k ≡ start + n → (at ≤ n) × (n < at + w)
    → (o ≤ k) × (k < o + w)
covers_at o w start at n k offset place inside = (omega (arith, inside.0), omega (arith, inside.1))

module _ (code : List ℕ) (xs : List Relocation) (getter : ℕ → Type 0) where
  -- ** a relocation in the field of another is the same

  one_field : AreApart xs → (e f k : ℕ) (x r : Relocation) → IsEntry xs e x → IsEntry xs f r → Covers x k → Covers r k
      → e ≡ f
  one_field apart e f k x r at_e at_f there here = elim (below_or_not e f) [
    | inl less ↦ absurd (apart e f k x r at_e at_f less there here)
    | inr (inl same) ↦ same
    | inr (inr more) ↦ absurd (apart f e k r x at_f at_e more here there)
  ]

  in_second : AreApart xs → (second : Option Second) (start n k f : ℕ) (r : Relocation) → k ≡ start + n
      → IsEntry xs f r → Covers r k → HasSecond second getter xs start → IsInSecond second n
      → IsSecond second getter xs start f
  in_second apart None start n k f r place entry covers has inside = absurd inside
  in_second apart (Some second) start n k f r place entry covers has inside =
      let x = has.1.0 in
      let width = call_width_is second.call x.kind has.1.2.kind_is in
      let W : ℕ → Type 0 = λ w. (x.offset ≤ k) × (k < x.offset + w) in
      let there : Covers x k =
      subst W (sym width) (covers_at x.offset 4 start second.at n k has.1.2.offset_is place inside) in
      let P : ℕ → Type 0 = λ e. IsSecond (Some second) getter xs start e in
      subst P (one_field apart has.0 f k x r has.1.1 entry there covers) has.1

  -- relocation number f is the first of the site, or its second
  abbrev pub IsOwn : ℕ → Site → ℕ → Type 0
  IsOwn e site f = (e ≡ f) ⊎ IsSecond (row site.form).second getter xs site.start f

  pub own_relocation : AreApart xs → (e f k : ℕ) (r : Relocation) (site : Site) → IsSiteOf code xs getter e site
      → IsEntry xs f r → Covers r k → site.start ≤ k → k < site.start + site.len → IsOwn e site f
  own_relocation apart e f k r site is entry covers low high =
      let n = k - site.start in
      let place : k ≡ site.start + n = omega arith in
      elim (cell_at site.form n (omega (arith, is.len_is))) [
        | inl literal ↦
            let C : ℕ → Type 0 = λ i. Covers r i in
            absurd ((is.spelled.stands n literal.0 literal.1).1 literal.2 f r entry (subst C place covers))
        | inr (inl first) ↦
            let x = is.first.0 in
            let same : field_width (row site.form).first ≡ field_width x.kind =
            ap field_width (sym is.first.2.kind_is) in
            let W : ℕ → Type 0 = λ w. (x.offset ≤ k) × (k < x.offset + w) in
            let there : Covers x k =
            subst W same (covers_at x.offset (field_width (row site.form).first) site.start (row site.form).first_at n k
            is.first.2.offset_is place first) in
            inl (one_field apart e f k x r is.first.1 entry there covers)
        | inr (inr second) ↦
            inr (in_second apart (row site.form).second site.start n k f r place entry covers is.second second)
      ]

  -- ** the fields of a site's relocations lie in it

  abbrev pub IsWithin : ℕ → Site → Type 0
  IsWithin k site = (site.start ≤ k) × (k < site.start + site.len)

  pub first_within : (f k : ℕ) (r : Relocation) (site : Site) → IsSiteOf code xs getter f site → IsEntry xs f r
      → Covers r k → IsWithin k site
  first_within f k r site is entry covers =
      let x = is.first.0 in
      let same : x ≡ r = same_entry xs f x r is.first.1 entry in
      let offset : r.offset ≡ site.start + (row site.form).first_at =
      ap (λ y. y.offset) (sym same) ∙ is.first.2.offset_is in
      let width : field_width r.kind ≡ field_width (row site.form).first =
      ap (λ y. field_width y.kind) (sym same) ∙ ap field_width is.first.2.kind_is in
      (omega (arith, covers.0), omega (arith, covers.1, first_fits site.form, is.len_is))

  in_call : (second : Option Second) (start n f k : ℕ) (r : Relocation) → FitsIn second n
      → IsSecond second getter xs start f → IsEntry xs f r → Covers r k → (start ≤ k) × (k < start + n)
  in_call None start n f k r fits is entry covers = absurd is
  in_call (Some second) start n f k r fits is entry covers =
      let x = is.0 in
      let same : x ≡ r = same_entry xs f x r is.1 entry in
      let offset : r.offset ≡ start + second.at = ap (λ y. y.offset) (sym same) ∙ is.2.offset_is in
      let width : field_width r.kind ≡ 4 =
      ap (λ y. field_width y.kind) (sym same) ∙ call_width_is second.call x.kind is.2.kind_is in
      (omega (arith, covers.0), omega (arith, covers.1))

  pub second_within : (e f k : ℕ) (r : Relocation) (site : Site) → IsSiteOf code xs getter e site
      → IsSecond (row site.form).second getter xs site.start f → IsEntry xs f r → Covers r k → IsWithin k site
  second_within e f k r site is second entry covers =
      let inside = in_call (row site.form).second site.start (length (row site.form).cells) f k r
      (second_fits site.form) second entry covers in
      (inside.0, omega (arith, inside.1, is.len_is))
