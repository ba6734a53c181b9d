-- Two images that hold the table have the same bytes in each section.
use Rattle.std.proofs.Common.{◌≡◌, ◌+◌, ◌-◌, ◌<◌, ◌≤◌, ◌&&◌, ◌⊎◌, ◌∙◌, ℕ, suc, Bool, true, false, List, [], ◌∷◌}
use Rattle.std.proofs.Common.{zero, Option, None, Some, get_or, length, inl, inr, refl, sym, ap, arith}
use Rattle.std.specs.Prelude.{nat_le, nat_lt, slice_get}
use Rattle.std.specs.List.{Contains}
use Rattle.std.proofs.lemmas.Bool.Decides.{nat_tests}
use Rattle.std.proofs.lemmas.Option.{get_or_from_slice_get, same_Some, slice_get_within}
use Rattle.elf_object.specs.declared.relocation.Relocation.{Relocation}
use Rattle.elf_object.specs.Lent.{relocations, section_size}
use Rattle.elf_object.specs.Relocations.{field_width}
use Rattle.elf_records.specs.Fields.{splice}
use Rattle.image_file.specs.Spelled.{Spelled}
use Rattle.link_core.proofs.TogetherPlaces.{covers_is, covers_so}
use Rattle.link_core.specs.Meant.{is_in_rewritten}
use Rattle.link_needs.specs.Linking.{Linking, choice, object, sites_at}
use Rattle.link_needs.specs.Needs.{is_kept}
use Rattle.relax_sites.specs.declared.choices.Choice.{Choice}
use Rattle.relax_sites.specs.declared.rows.NewField.{NewField}
use Rattle.relax_sites.specs.Rows.{new_bytes, new_field}
use Rattle.sequence_forms.specs.declared.places.Site.{Site}
use Rattle.sequence_match.specs.Sites.{Covers}
use Rattle.tls_relocs.specs.declared.fields.Field.{Field}
use Rattle.tls_relocs.specs.Fields.{field_bytes}
use Rattle.standing_sequences.specs.Bytes.{IsFilled, IsUnreplaced, IsPlain, IsSectionAt, byte_at}
use Rattle.standing_sequences.specs.Images.{HoldsTheTable}
use Rattle.standing_sequences.specs.Laws.{ImagesWithTheTableAgree, IsLinked}
use Rattle.standing_sequences.specs.Table.{IsSequence, Matches}
use Rattle.standing_sequences.proofs.Choosing.{listed_changes, matched, matches}
use Rattle.standing_sequences.proofs.Covering.{own_site, sequence_of}

-- ** searches

-- an element passes a test, or none does
abbrev Finds : {X : Type 0} → (X → Bool) → List X → Type 0
Finds {X} p xs = ((x : X) × Contains xs x × (p x ≡ true)) ⊎ ((x : X) → Contains xs x → p x ≡ true → ⊥)

finds : {X : Type 0} (p : X → Bool) (xs : List X) → Finds p xs
finds p [] = inr (λ x has passes. absurd (let below = has.1 in omega arith))
finds {X} p (y ∷ ys) = of_test (p y) refl (finds p ys)
  where
    of_test : (t : Bool) → p y ≡ t → Finds p ys → Finds p (y ∷ ys)
    of_test true here rest = inl (y, (0, omega arith, refl), here)
    of_test false here (inl (x, has, passes)) = inl (x, (suc has.0, (let below = has.1 in omega arith), has.2), passes)
    of_test false here (inr none) = inr (λ x has passes. at x has.0 has.1 has.2 passes)
      where
        at : (x : X) (i : ℕ) → i < length (y ∷ ys) → get_or (y ∷ ys) i x ≡ x → p x ≡ true → ⊥
        at x zero below is passes = let no : p y ≡ true = ap p is ∙ passes in cc
        at x (suc i) below is passes = none x (i, omega arith, is) passes

-- ** the images

-- one row, filled with the value of one field
same_filled : (l : Linking) (o : ℕ) (site : Site) (row : List ℕ) (new : Option NewField) (xs ys : List ℕ)
    → IsFilled l o site row new xs → IsFilled l o site row new ys → xs ≡ ys
same_filled l o site row None xs ys first second = first ∙ sym second
same_filled l o site row (Some new) xs ys (value, is, xs_are) (other, other_is, ys_are) =
    xs_are
    ∙ ap (λ (v : Field). splice new.at (field_bytes v) row) (same_Some value other (sym is ∙ other_is))
    ∙ sym ys_are

listed : (xs : List Relocation) (f : ℕ) (r : Relocation) → slice_get xs f ≡ Some r → Contains xs r
listed xs f r entry = (f, slice_get_within xs f r entry, get_or_from_slice_get xs f r r entry)

abbrev covers : ℕ → Relocation → Bool
covers k r = nat_le r.offset k && nat_lt k (r.offset + field_width r.kind)

covers_is_so : (a k e : ℕ) → (nat_le a k && nat_lt k e) ≡ true → (a ≤ k) × (k < e)
covers_is_so a k e h = grind (arith, nat_tests)

so_covers : (a k e : ℕ) → a ≤ k → k < e → (nat_le a k && nat_lt k e) ≡ true
so_covers a k e low high = grind (arith, nat_tests)

module _ (l : Linking) (linked : IsLinked l) (image other : Spelled) (this : HoldsTheTable l image)
    (that : HoldsTheTable l other) (o t address k : ℕ) (at : IsSectionAt l o t address)
    (below : k < section_size (object l o) t) where
  abbrev Agree : Type 0
  Agree = byte_at image (address + k) ≡ byte_at other (address + k)

  -- in the place of a sequence with another form
  in_form : (site : Site) (c : Choice) → IsSequence l o t site → Matches l o site c → site.start ≤ k
      → k < site.start + site.len → Agree
  in_form site c is m low high =
      let x = this.forms o t address site c at is m in
      let y = that.forms o t address site c at is m in
      let same = same_filled l o site (new_bytes site.form c site.reg) (new_field site.form c) x.0 y.0 x.1 y.1 in
      let long = x.2 in
      let other_long = y.2 in
      let place : address + site.start + (k - site.start) ≡ address + k = omega (arith, low) in
      sym (ap (byte_at image) place)
      ∙ x.3 (k - site.start) (omega (arith, long, low, high))
      ∙ ap (λ (bytes : List ℕ). slice_get bytes (k - site.start)) same
      ∙ sym (y.3 (k - site.start) (omega (arith, other_long, low, high)))
      ∙ ap (byte_at other) place

  -- in a field
  in_field : (r : Relocation) → Contains (relocations (object l o) t) r → Covers r k → IsUnreplaced l o t k → Agree
  in_field r has over kept =
      let x = this.values o t address k r at has over kept in
      let y = that.values o t address k r at has over kept in
      let same = same_Some x.0 y.0 (sym x.1 ∙ y.1) in
      x.2 ∙ ap (λ (v : Field). slice_get (field_bytes v) (k - r.offset)) same ∙ sym y.2

  elsewhere : IsUnreplaced l o t k → Agree
  elsewhere kept = elim (finds (covers k) (relocations (object l o) t)) [
    | inl (r, has, passes) ↦
        in_field r has (covers_is_so r.offset k (r.offset + field_width r.kind) passes) kept
    | inr none ↦
        let plain : IsPlain l o t k =
        λ f r entry over.
        none r (listed (relocations (object l o) t) f r entry)
        (so_covers r.offset k (r.offset + field_width r.kind) over.0 over.1) in
        this.own o t address k at below kept plain ∙ sym (that.own o t address k at below kept plain)
  ]

  agree : Agree
  agree = elim (finds (is_in_rewritten l o t k) (sites_at l o)) [
    | inl (site, has, passes) ↦
        let h = covers_is site.section t site.start k (site.start + site.len) (is_kept (choice l o site)) passes in
        let is = sequence_of l linked.given o t at.there site has h.0 in
        in_form site (choice l o site) is (matches l o site h.3) h.1 h.2
    | inr none ↦ elsewhere (λ site c is m low high.
        let off : is_kept (choice l o site) ≡ false =
        ap is_kept (matched l o site c m) ∙ listed_changes site.form m.bound c m.listed in
        none site (own_site l linked.given o t at.there site is)
        (covers_so site.section t site.start k (site.start + site.len) (is_kept (choice l o site)) is.section_is low
        high off))
  ]

pub images_agree : ImagesWithTheTableAgree
images_agree l image other linked this that o t address k at below =
    agree l linked image other this that o t address k at below
