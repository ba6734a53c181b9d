-- Which relocation has no field, and what a byte means, by place alone.
use Rattle.std.proofs.Common.{◌≡◌, ◌+◌, ◌<◌, ◌≤◌, ◌&&◌, ◌||◌, ◌∙◌, ℕ, zero, suc, Bool, true, false, not, List, [], ◌∷◌}
use Rattle.std.proofs.Common.{Option, Some, None, length, refl, sym, ap, arith, if◌then◌else◌}
use Rattle.std.specs.Prelude.{nat_le, nat_lt, slice_index_or}
use Rattle.std.specs.List.{Contains, find, list_any}
use Rattle.std.proofs.lemmas.Bool.{lt-ltb, ltb-true}
use Rattle.std.proofs.lemmas.Bool.Decides.{nat_tests}
use Rattle.elf_object.specs.declared.relocation.Relocation.{Relocation}
use Rattle.elf_object.specs.Lent.{relocations, section_bytes}
use Rattle.elf_object.specs.Relocations.{field_width}
use Rattle.elf_records.specs.declared.relocation.RelocationKind.{RelocationKind}
use Rattle.elf_records.specs.declared.relocation.RelocationKind.TheVariants.{Nothing, TlsDescCall}
use Rattle.link_faults.specs.declared.binding.Binding.{Binding}
use Rattle.link_needs.proofs.Reached.{any_among}
use Rattle.link_needs.specs.Given.{IsGiven}
use Rattle.link_needs.specs.Linking.{Linking, binding, choice, object, sites_at}
use Rattle.link_needs.specs.Needs.{is_kept}
use Rattle.link_needs.specs.Values.{goes, is_replaced, is_rewriting}
use Rattle.link_tables.specs.Faults.{Links}
use Rattle.sequence_forms.specs.declared.places.Site.{Site}
use Rattle.link_core.specs.Laws.{BytesAreMeantByPlace, GoWithTheirSites, HasNoStray, ReplacedFieldsLieInSites}
use Rattle.link_core.specs.Meant.{field_byte, is_in_field, is_in_rewritten, is_of_field, lies_in_rewritten, meant_byte}
use Rattle.link_core.specs.Meant.{placed_byte, site_byte}
use Rattle.link_core.proofs.Together.{together}
pub use Rattle.link_core.proofs.TogetherFound.{covers_is, covers_so}

-- ** tests

within_is : (a k e : ℕ) → (nat_le a k && nat_lt k e) ≡ true → (a ≤ k) × (k < e)
within_is a k e h = grind (arith, nat_tests)

-- what no element passes none does
none_among : {X : Type 0} (test : X → Bool) (xs : List X) → ((x : X) → Contains xs x → test x ≡ true → ⊥)
    → list_any test xs ≡ false
none_among test [] none = refl
none_among test (y ∷ ys) none =
    of_test (test y) refl (none_among test ys (λ x has. none x (suc has.0, (let lt = has.1 in omega arith), has.2)))
  where
    of_test : (t : Bool) → test y ≡ t → list_any test ys ≡ false → (t || list_any test ys) ≡ false
    of_test true here rest = absurd (none y (0, omega arith, refl) here)
    of_test false here rest = rest

-- two tests that agree on all elements find the same
find_same : {X : Type 0} (p q : X → Bool) (xs : List X) → ((x : X) → Contains xs x → p x ≡ q x) → find p xs ≡ find q xs
find_same p q [] agree = refl
find_same p q (y ∷ ys) agree =
    ap (λ t. if t then Some y else find p ys) (agree y (0, omega arith, refl))
    ∙ ap (λ rest. if q y then Some y else rest)
    (find_same p q ys (λ x has. agree x (suc has.0, (let lt = has.1 in omega arith), has.2)))

found_none : {X : Type 0} (p : X → Bool) (xs : List X) → find p xs ≡ None → (x : X) → Contains xs x → p x ≡ true → ⊥
found_none p [] none x has e = omega (arith, has.1)
found_none p (y ∷ ys) none x has e =
    of_test (p y) refl none has.0 has.1 has.2 (λ rest there. found_none p ys rest x there e)
  where
    of_test : (t : Bool) → p y ≡ t → (if t then Some y else find p ys) ≡ None → (i : ℕ) → i < length (y ∷ ys)
        → slice_index_or (y ∷ ys) i x ≡ x → (find p ys ≡ None → Contains ys x → ⊥) → ⊥
    of_test true here none i below at later = cc
    of_test false here none zero below at later =
        let also : p y ≡ true = ap p at ∙ e in cc
    of_test false here none (suc i) below at later = later none (i, omega (arith, below), at)

-- ** relocations

-- what goes with a sequence has a field
goes_wide : (bound : Option Binding) (kind : RelocationKind) → goes bound kind ≡ true → 0 < field_width kind
goes_wide bound Nothing h = absurd (cc)
goes_wide bound TlsDescCall h = absurd (cc)
goes_wide bound kind h = omega arith

pub second : (a b : Bool) → (a && b) ≡ true → b ≡ true
second true b e = e
second false b e = absurd (cc)

module _ (l : Linking) (given : IsGiven l) (links : Links l) (stray : HasNoStray l) (o t : ℕ)
    (there : o < length l.objects) where
  -- a rewritten site has byte k
  in_rewritten : (k : ℕ) (site : Site) → Contains (sites_at l o) site → site.section ≡ t → site.start ≤ k
      → k < site.start + site.len → is_kept (choice l o site) ≡ false → is_in_rewritten l o t k site ≡ true
  in_rewritten k site has section low high off =
      covers_so site.section t site.start k (site.start + site.len) (is_kept (choice l o site)) section low high off

  module _ (r : Relocation) (has : Contains (relocations (object l o) t) r) where
    go : GoWithTheirSites l o t r
    go = together l o t r given links stray there has

    -- it has no field, so each byte lies in a rewritten site
    gone : is_replaced l o r ≡ true → (k : ℕ) → r.offset ≤ k → k < r.offset + field_width r.kind
        → (site : Site) × Contains (sites_at l o) site × (is_in_rewritten l o t k site ≡ true)
    gone e k low high =
        let found = go.inside e k (low, high) in
        let inside = found.1 in (
          found.0,
          inside.own,
          in_rewritten k found.0 inside.own inside.section inside.from inside.to found.2,
        )

    wide : is_replaced l o r ≡ true → 0 < field_width r.kind
    unfolding is_replaced
    wide e = goes_wide (binding l o r) r.kind (second (is_rewriting l) (goes (binding l o r) r.kind) e)

    -- it has one, so none does
    stays : is_replaced l o r ≡ false → (k : ℕ) → r.offset ≤ k → k < r.offset + field_width r.kind → (site : Site)
        → Contains (sites_at l o) site → is_in_rewritten l o t k site ≡ true → ⊥
    stays e k low high site own passes =
        let h = covers_is site.section t site.start k (site.start + site.len) (is_kept (choice l o site)) passes in
        let kept = go.outside e k site (low, high)
        (record { own = own; section = h.0; from = h.1; to = h.2 }) in
        let off = h.3 in
        cc

    pub replaced : is_replaced l o r ≡ lies_in_rewritten l o t r
    replaced = of_test (is_replaced l o r) refl
      where
        of_width : (x : Bool) → nat_lt 0 (field_width r.kind) ≡ x → is_replaced l o r ≡ false
            → false ≡ (x && list_any (is_in_rewritten l o t r.offset) (sites_at l o))
        of_width false w e = refl
        of_width true w e =
            let some = ltb-true 0 (field_width r.kind) w in
            sym (none_among (is_in_rewritten l o t r.offset) (sites_at l o)
            (stays e r.offset (omega arith) (omega (arith, some))))

        of_test : (x : Bool) → is_replaced l o r ≡ x → x ≡ lies_in_rewritten l o t r
        of_test true e =
            let some = wide e in
            let found = gone e r.offset (omega arith) (omega (arith, some)) in
            let any = any_among (is_in_rewritten l o t r.offset) (sites_at l o) found.0 found.1 found.2 in
            rw (lt-ltb 0 (field_width r.kind) some, any) refl
        of_test false e = of_width (nat_lt 0 (field_width r.kind)) refl e

    -- where no rewritten site has a byte, a field that covers it is there
    alike : (k : ℕ) → find (is_in_rewritten l o t k) (sites_at l o) ≡ None → is_in_field l o k r ≡ is_of_field k r
    alike k none = of_field (is_of_field k r) refl (is_replaced l o r) refl
      where
        of_field : (x : Bool) → is_of_field k r ≡ x → (y : Bool) → is_replaced l o r ≡ y → (x && not y) ≡ x
        of_field false covers y e = refl
        of_field true covers false e = refl
        of_field true covers true e =
            let at = within_is r.offset k (r.offset + field_width r.kind) covers in
            let found = gone e k at.0 at.1 in
            absurd (found_none (is_in_rewritten l o t k) (sites_at l o) none found.0 found.1 found.2)

  pub by_place : (k : ℕ) → meant_byte l o t k ≡ placed_byte l o t k
  unfolding meant_byte placed_byte
  by_place k = of_site (find (is_in_rewritten l o t k) (sites_at l o)) refl
    where
      of_site : (found : Option Site) → find (is_in_rewritten l o t k) (sites_at l o) ≡ found
          → site_byte l o k found (field_byte l o t k (find (is_in_field l o k) (relocations (object l o) t))
          (slice_index_or (section_bytes (object l o) t) k 0))
          ≡ site_byte l o k found (field_byte l o t k (find (is_of_field k) (relocations (object l o) t))
          (slice_index_or (section_bytes (object l o) t) k 0))
      of_site (Some site) e = refl
      of_site None e =
          ap (λ r. field_byte l o t k r (slice_index_or (section_bytes (object l o) t) k 0))
          (find_same (is_in_field l o k) (is_of_field k) (relocations (object l o) t) (λ r has. alike r has k e))

pub replaced_fields_lie_in_sites : ReplacedFieldsLieInSites
replaced_fields_lie_in_sites l o t r given links stray there has = replaced l given links stray o t there r has

pub bytes_are_meant_by_place : BytesAreMeantByPlace
bytes_are_meant_by_place l o t k given links stray there = by_place l given links stray o t there k
