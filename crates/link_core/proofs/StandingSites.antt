-- What the sequences in the place of rewritten sites make of a byte of a section.
use Rattle.std.proofs.Common.{◌≡◌, ◌≢◌, ◌+◌, ◌-◌, ◌<◌, ◌≤◌, ◌&&◌, ◌==◌, ◌∙◌, ℕ, Bool, true, false, not, List}
use Rattle.std.proofs.Common.{Option, Some, None, length, drop, inl, inr, refl, sym, ap, subst, arith}
use Rattle.std.specs.Prelude.{fold, nat_le, nat_lt, slice_get, slice_index_or, unwrap_or, if◌then◌else◌}
use Rattle.std.specs.List.{Contains, find}
use Rattle.std.proofs.lemmas.Bool.{eqb-true}
use Rattle.std.proofs.lemmas.Option.{slice_get-get_or}
use Rattle.elf_records.specs.Fields.{part_at, splice}
use Rattle.elf_records.specs.Laws.{length-splice, part_at-splice}
use Rattle.elf_object.specs.Lent.{section_size}
use Rattle.relax_sites.specs.declared.choices.Choice.{Choice}
use Rattle.relax_sites.specs.declared.choices.Choice.TheVariants.{Keep}
use Rattle.relax_sites.specs.declared.rows.NewField.{NewField}
use Rattle.relax_sites.specs.Rewriting.{rewritten}
use Rattle.relax_sites.specs.Rows.{new_bytes, new_field}
use Rattle.relax_sites.proofs.Parts.{part_at-splice_inside}
use Rattle.relax_sites.proofs.Tables.{row_length}
use Rattle.sequence_forms.specs.declared.forms.Form.{Form}
use Rattle.sequence_forms.specs.declared.forms.Form.TheVariants.{Gd}
use Rattle.sequence_forms.specs.declared.places.Site.{Site}
use Rattle.sequence_match.proofs.ApartSites.{sites_apart}
use Rattle.tls_relocs.specs.declared.fields.Field.TheVariants.{Empty}
use Rattle.tls_relocs.specs.Elements.{slice_get-drop, slice_get-take}
use Rattle.tls_relocs.specs.Fields.{field_bytes}
use Rattle.link_needs.specs.Linking.{Linking, choice, object, sites_at}
use Rattle.link_needs.specs.Needs.{is_kept, new_relocation}
use Rattle.link_core.specs.Bytes.{sites_in, with_new_field, with_site}
use Rattle.link_needs.specs.Given.{IsGiven}
use Rattle.link_core.specs.Meant.{is_in_rewritten, rewritten_bytes, row_with, site_byte}
use Rattle.link_needs.specs.Values.{field}
use Rattle.link_core.proofs.LengthsInside.{own_site, site_fits}
use Rattle.link_core.proofs.LengthsKept.{fold_filter, new_field_in, own_choice_of}
use Rattle.link_core.proofs.StandingSteps.{Has, byte_of, inside_is, one_writes, outside_is, splice_fills}
use Rattle.link_core.proofs.StandingSteps.{splice_leaves}
use Rattle.link_core.proofs.TogetherFound.{covers_is}

-- ** choices

kept_is : (choice : Choice) → is_kept choice ≡ true → choice ≡ Keep
kept_is Keep e = refl
kept_is choice e = absurd (cc)

pub kept_not : (choice : Choice) → is_kept choice ≡ false → choice ≢ Keep
kept_not Keep e = absurd (cc)
kept_not choice e = λ h. cc

-- a site that is kept has no field
no_field : (form : Form) → new_field form Keep ≡ None
no_field Gd = refl
no_field form = refl

-- the row of one that is not stands in its place
spliced : (site : Site) (choice : Choice) (bytes : List ℕ) → choice ≢ Keep
    → rewritten site choice bytes ≡ splice site.start (new_bytes site.form choice site.reg) bytes
spliced site Keep bytes changes = absurd (changes refl)
spliced site choice bytes changes = refl

-- ** bytes in a row that was written

splice_twice : (s a q : ℕ) (new row now : List ℕ) → a + length new ≤ length row → s + length row ≤ length now → s ≤ q
    → q < s + length row
    → slice_get (splice (s + a) new (splice s row now)) q ≡ Some (slice_index_or (splice a new row) (q - s) 0)
unfolding part_at
splice_twice s a q new row now room inside low high =
    let n = length row in
    let j = q - s in
    let whole = splice (s + a) new (splice s row now) in
    let long = length-splice s row now inside in
    let same = length-splice a new row room in
    let here : q ≡ s + j = omega arith in
    let part : part_at n s whole ≡ splice a new row =
    part_at-splice_inside n a s new (splice s row now) room (omega arith)
    ∙ ap (splice a new) (part_at-splice s row now (omega arith)) in
    ap (slice_get whole) here
    ∙ sym (slice_get-drop s j whole) ∙ sym (slice_get-take n j (drop s whole) (omega arith))
    ∙ ap (λ xs. slice_get xs j) part
    ∙ slice_get-get_or (splice a new row) j 0 (omega arith)

-- ** the sites of a section

module _ (l : Linking) (given : IsGiven l) (o t k : ℕ) (there : o < length l.objects) where
  abbrev n : ℕ
  n = section_size (object l o) t

  abbrev site_value : Site → ℕ
  site_value site = site_byte l o k (Some site) 0

  -- one that is kept stays
  kept_leaves : (site : Site) → choice l o site ≡ Keep → (now : List ℕ) → with_site l o now site ≡ now
  unfolding with_site
  kept_leaves site e now =
      ap (λ c. with_new_field l o site (new_field site.form c) (rewritten site c now)) e
      ∙ ap (λ f. with_new_field l o site f now) (no_field site.form)

  -- one that is rewritten
  module _ (site : Site) (has : Contains (sites_at l o) site) (section : site.section ≡ t)
      (changes : choice l o site ≢ Keep) (byte : ℕ) (now : List ℕ) (was : Has n k byte now) where
    abbrev row : List ℕ
    row = new_bytes site.form (choice l o site) site.reg

    len : site.len ≡ length row
    len =
        (own_site l o site given there has).1.len_is
        ∙ sym (row_length site.form (choice l o site) site.reg (own_choice_of l o site changes) changes)

    fits : site.start + site.len ≤ n
    fits = omega (arith, site_fits l o site given there has, ap (section_size (object l o)) section)

    row_leaves : (nat_le site.start k && nat_lt k (site.start + site.len)) ≡ false
        → Has n k byte (splice site.start row now)
    row_leaves covers =
        splice_leaves n k site.start row (omega (arith, len, fits))
        (outside_is site.start site.len (length row) k (omega (arith, len)) covers) byte now was

    -- its row and then the field of this
    row_writes : (c : Bool) → (nat_le site.start k && nat_lt k (site.start + site.len)) ≡ c → (new : Option NewField)
        → new_field site.form (choice l o site) ≡ new
        → Has n k (if c then slice_index_or (row_with l o site new) (k - site.start) 0 else byte)
        (with_new_field l o site new (splice site.start row now))
    row_writes true covers None e =
        let within = inside_is site.start (site.start + site.len) k covers in
        splice_fills n k site.start row (omega (arith, len, fits)) within.0 (omega (arith, len, within.1)) now was.0
    row_writes false covers None e = row_leaves covers
    row_writes true covers (Some f) e =
        let within = inside_is site.start (site.start + site.len) k covers in
        let bytes = field_bytes (unwrap_or (field l o site.section (new_relocation site f)) Empty) in
        let room = new_field_in l o site f (own_site l o site given there has).1.len_is e in
        let rows = length-splice site.start row now (omega (arith, len, fits, was.0)) in (
          length-splice (site.start + f.at) bytes (splice site.start row now) (omega (arith, room, fits, rows, was.0))
              ∙ rows ∙ was.0,
          splice_twice site.start f.at k bytes row now (omega (arith, room, len)) (omega (arith, len, fits, was.0))
              within.0 (omega (arith, len, within.1)),
        )
    row_writes false covers (Some f) e =
        let bytes = field_bytes (unwrap_or (field l o site.section (new_relocation site f)) Empty) in
        let room = new_field_in l o site f (own_site l o site given there has).1.len_is e in
        let away = outside_is site.start site.len site.len k (omega arith) covers in
        splice_leaves n k (site.start + f.at) bytes (omega (arith, room, fits))
        (elim away [ inl before ↦ inl (omega (arith, before)) | inr behind ↦ inr (omega (arith, behind, room)) ]) byte
        (splice site.start row now) (row_leaves covers)

    site_writes : (c : Bool) → (nat_le site.start k && nat_lt k (site.start + site.len)) ≡ c
        → Has n k (if c then site_byte l o k (Some site) 0 else byte) (with_site l o now site)
    unfolding with_site rewritten_bytes
    site_writes c covers =
        subst (λ made. Has n k (if c then site_byte l o k (Some site) 0 else byte)
        (with_new_field l o site (new_field site.form (choice l o site)) made))
        (sym (spliced site (choice l o site) now changes))
        (row_writes c covers (new_field site.form (choice l o site)) refl)

  -- what one makes of the byte, if it is of the section
  abbrev step : List ℕ → Site → List ℕ
  step now site = if site.section == t then with_site l o now site else now

  each_site : (site : Site) → Contains (sites_at l o) site → (byte : ℕ) (now : List ℕ) → Has n k byte now
      → Has n k (if is_in_rewritten l o t k site then site_value site else byte) (step now site)
  each_site site has byte now was =
      of_tests (site.section == t) (nat_le site.start k && nat_lt k (site.start + site.len))
      (is_kept (choice l o site)) refl refl refl
    where
      of_tests : (s c x : Bool) → (site.section == t) ≡ s
          → (nat_le site.start k && nat_lt k (site.start + site.len)) ≡ c → is_kept (choice l o site) ≡ x
          → Has n k (if s && c && not x then site_byte l o k (Some site) 0 else byte)
          (if s then with_site l o now site else now)
      of_tests false c x section covers kept = was
      of_tests true true false section covers kept =
          site_writes site has (eqb-true site.section t section) (kept_not (choice l o site) kept) byte now was
          true covers
      of_tests true false false section covers kept =
          site_writes site has (eqb-true site.section t section) (kept_not (choice l o site) kept) byte now was
          false covers
      of_tests true true true section covers kept =
          subst (Has n k byte) (sym (kept_leaves site (kept_is (choice l o site) kept) now)) was
      of_tests true false true section covers kept =
          subst (Has n k byte) (sym (kept_leaves site (kept_is (choice l o site) kept) now)) was

  -- one alone has the byte
  site_alone : (x y : Site) → Contains (sites_at l o) x → Contains (sites_at l o) y → is_in_rewritten l o t k x ≡ true
      → is_in_rewritten l o t k y ≡ true → y ≡ x
  site_alone x y has among first again =
      let one = covers_is x.section t x.start k (x.start + x.len) (is_kept (choice l o x)) first in
      let two = covers_is y.section t y.start k (y.start + y.len) (is_kept (choice l o y)) again in
      sites_apart (object l o) y x k (own_site l o y given there among) (own_site l o x given there has)
      (two.0 ∙ sym one.0) two.1 two.2 one.1 one.2

  -- what all of them make of it
  pub sites_write : (byte : ℕ) (now : List ℕ) → Has (section_size (object l o) t) k byte now
      → Has (section_size (object l o) t) k
      (site_byte l o k (find (is_in_rewritten l o t k) (sites_at l o)) byte)
      (fold (with_site l o) now (sites_in (sites_at l o) t))
  sites_write byte now was =
      subst (Has n k (site_byte l o k (find (is_in_rewritten l o t k) (sites_at l o)) byte))
      (sym (fold_filter (λ (site : Site). site.section == t) (with_site l o) now (sites_at l o)))
      (subst (λ x. Has n k x (fold step now (sites_at l o))) (meant (find (is_in_rewritten l o t k) (sites_at l o)))
      (one_writes n k site_value (is_in_rewritten l o t k) step (sites_at l o) site_alone each_site byte now was))
    where
      meant : (found : Option Site) → byte_of site_value found byte ≡ site_byte l o k found byte
      meant None = refl
      meant (Some site) = refl
