-- What is loaded in the place of a site: of a rewritten one its row, and of a kept one, outside its fields, the bytes
-- that the object has there.
use Rattle.std.proofs.Common.{◌≡◌, ◌∙◌, ◌+◌, ◌-◌, ◌<◌, ◌≤◌, ◌&&◌, ℕ, Bool, true, false, not, Option, Some}
use Rattle.std.proofs.Common.{None, length, refl, ap, arith}
use Rattle.std.specs.Prelude.{nat_le, nat_lt, slice_index_or}
use Rattle.std.specs.List.{Contains, find}
use Rattle.std.proofs.lemmas.Bool.Decides.{nat_tests}
use Rattle.std.proofs.lemmas.List.Elements.{All-contains}
use Rattle.elf_object.specs.declared.relocation.Relocation.{Relocation}
use Rattle.elf_object.specs.Lent.{relocations, section_bytes}
use Rattle.elf_object.specs.Relocations.{field_width}
use Rattle.link_core.specs.Meant.{is_in_field, is_in_rewritten, rewritten_bytes, site_byte}
use Rattle.link_needs.specs.Given.{IsGiven}
use Rattle.link_needs.specs.Linking.{Linking, choice, object, sites_at}
use Rattle.link_needs.specs.Needs.{is_kept}
use Rattle.link_needs.specs.Values.{is_replaced}
use Rattle.link_core.proofs.TogetherFound.{covers_is, covers_so}
use Rattle.loaded_bytes.proofs.Finds.{found_is, none_found, none_passes}
use Rattle.loaded_bytes.specs.Bytes.{field_byte, loaded_byte}
use Rattle.sequence_forms.specs.declared.places.Site.{Site}
use Rattle.sequence_match.proofs.ApartSites.{sites_apart}
use Rattle.sequence_match.specs.Faults.{IsSite}
use Rattle.sequence_match.specs.Sites.{Covers}

-- ** tests

field_is : (a k e : ℕ) (gone : Bool) → ((nat_le a k && nat_lt k e) && not gone) ≡ true
    → (a ≤ k) × (k < e) × (gone ≡ false)
field_is a k e gone h = grind (arith, nat_tests)

module _ (l : Linking) (given : IsGiven l) (o : ℕ) (there : o < length l.objects) where
  is_site : (site : Site) → Contains (sites_at l o) site → IsSite (object l o) site
  is_site site own = All-contains (IsSite (object l o)) (sites_at l o) site (given.are_sites o there).only own

  module _ (site : Site) (own : Contains (sites_at l o) site) (k : ℕ) (below : k < site.len) where
    -- a site with the byte is this one
    one_site : (y : Site) → Contains (sites_at l o) y → y.section ≡ site.section → y.start ≤ site.start + k
        → site.start + k < y.start + y.len → y ≡ site
    one_site y has section low high =
        sites_apart (object l o) y site (site.start + k) (is_site y has) (is_site site own) section low high
        (omega arith) (omega (arith, below))

    -- ** rewritten

    rewritten_found : is_kept (choice l o site) ≡ false
        → find (is_in_rewritten l o site.section (site.start + k)) (sites_at l o) ≡ Some site
    rewritten_found off =
        of_found (find (is_in_rewritten l o site.section (site.start + k)) (sites_at l o)) refl
      where
        of_found : (found : Option Site)
            → find (is_in_rewritten l o site.section (site.start + k)) (sites_at l o) ≡ found
            → find (is_in_rewritten l o site.section (site.start + k)) (sites_at l o) ≡ Some site
        of_found None e =
            absurd (none_passes (is_in_rewritten l o site.section (site.start + k)) (sites_at l o) site e own
            (covers_so site.section site.section site.start (site.start + k) (site.start + site.len)
            (is_kept (choice l o site)) refl (omega arith) (omega (arith, below)) off))
        of_found (Some y) e =
            let f = found_is (is_in_rewritten l o site.section (site.start + k)) (sites_at l o) y e in
            let h = covers_is y.section site.section y.start (site.start + k) (y.start + y.len) (is_kept (choice l o y))
            f.passes in
            e ∙ ap Some (one_site y f.among h.0 h.1 h.2)

    pub rewritten_byte : (bias : ℕ) → is_kept (choice l o site) ≡ false
        → loaded_byte l bias o site.section (site.start + k) ≡ slice_index_or (rewritten_bytes l o site) k 0
    unfolding loaded_byte
    rewritten_byte bias off =
        let index : site.start + k - site.start ≡ k = omega arith in
        let other = field_byte l bias o site.section (site.start + k)
        (find (is_in_field l o (site.start + k)) (relocations (object l o) site.section))
        (slice_index_or (section_bytes (object l o) site.section) (site.start + k) 0) in
        ap (λ found. site_byte l o (site.start + k) found other) (rewritten_found off)
        ∙ ap (λ i. slice_index_or (rewritten_bytes l o site) i 0) index

    -- ** kept

    none_rewritten : is_kept (choice l o site) ≡ true
        → find (is_in_rewritten l o site.section (site.start + k)) (sites_at l o) ≡ None
    none_rewritten kept =
        none_found (is_in_rewritten l o site.section (site.start + k)) (sites_at l o) (λ y has passes.
        let h = covers_is y.section site.section y.start (site.start + k) (y.start + y.len) (is_kept
        (choice l o y)) passes in
        let same : is_kept (choice l o y) ≡ is_kept (choice l o site) =
        ap (λ z. is_kept (choice l o z)) (one_site y has h.0 h.1 h.2) in
        let off = h.3 in
        cc)

    by_field : (bias : ℕ) → is_kept (choice l o site) ≡ true
        → loaded_byte l bias o site.section (site.start + k)
        ≡ field_byte l bias o site.section (site.start + k)
        (find (is_in_field l o (site.start + k)) (relocations (object l o) site.section))
        (slice_index_or (section_bytes (object l o) site.section) (site.start + k) 0)
    unfolding loaded_byte
    by_field bias kept =
        let other = field_byte l bias o site.section (site.start + k)
        (find (is_in_field l o (site.start + k)) (relocations (object l o) site.section))
        (slice_index_or (section_bytes (object l o) site.section) (site.start + k) 0) in
        ap (λ found. site_byte l o (site.start + k) found other) (none_rewritten kept)

    -- where no relocation has a field the section's own byte stands
    pub bare_byte : (bias : ℕ) → is_kept (choice l o site) ≡ true
        → ((r : Relocation) → Contains (relocations (object l o) site.section) r → Covers r (site.start + k) → ⊥)
        → loaded_byte l bias o site.section (site.start + k)
        ≡ slice_index_or (section_bytes (object l o) site.section) (site.start + k) 0
    bare_byte bias kept bare =
        let own = slice_index_or (section_bytes (object l o) site.section) (site.start + k) 0 in
        by_field bias kept
        ∙ ap (λ found. field_byte l bias o site.section (site.start + k) found own)
        (none_found (is_in_field l o (site.start + k)) (relocations (object l o) site.section) (λ r has passes.
        let h = field_is r.offset (site.start + k) (r.offset + field_width r.kind) (is_replaced l o r) passes in
        bare r has (h.0, h.1)))
