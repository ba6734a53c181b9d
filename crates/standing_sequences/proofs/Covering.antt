-- Which sequence, and which field, has a byte of a section.
use Rattle.std.proofs.Common.{◌≡◌, ◌+◌, ◌<◌, ◌≤◌, ◌&&◌, ◌∙◌, ℕ, suc, Bool, true, false, not, List, [], ◌∷◌}
use Rattle.std.proofs.Common.{Some, None, length, inl, inr, refl, sym, ap, arith, if◌then◌else◌}
use Rattle.std.specs.Prelude.{nat_le, nat_lt, slice_get}
use Rattle.std.specs.List.{Contains, find}
use Rattle.std.proofs.lemmas.Bool.{cases_lt}
use Rattle.std.proofs.lemmas.Bool.Decides.{nat_tests}
use Rattle.std.proofs.lemmas.List.Elements.{All-contains}
use Rattle.std.proofs.lemmas.Option.{same_Some, slice_get-get_or}
use Rattle.elf_object.specs.declared.relocation.Relocation.{Relocation}
use Rattle.elf_object.specs.Lent.{relocations}
use Rattle.elf_object.specs.Relocations.{field_width}
use Rattle.link_core.proofs.StandingSteps.{one_found}
use Rattle.link_core.proofs.Together.{together}
use Rattle.link_core.proofs.TogetherPlaces.{covers_is, covers_so}
use Rattle.link_core.specs.Meant.{is_in_field, is_in_rewritten}
use Rattle.link_needs.specs.Given.{IsGiven}
use Rattle.link_needs.specs.Linking.{Linking, choice, object, sites_at}
use Rattle.link_needs.specs.Needs.{is_kept}
use Rattle.link_needs.specs.Values.{is_replaced}
use Rattle.sequence_forms.specs.declared.places.Site.{Site}
use Rattle.sequence_match.proofs.ApartSites.{sites_apart}
use Rattle.sequence_match.proofs.Sections.{fields_apart}
use Rattle.sequence_match.specs.Code.{AreApart}
use Rattle.sequence_match.specs.Faults.{IsSite}
use Rattle.sequence_match.specs.Sites.{Covers, IsEntry}
use Rattle.standing_sequences.specs.Bytes.{IsUnreplaced, IsPlain}
use Rattle.standing_sequences.specs.Laws.{IsLinked}
use Rattle.standing_sequences.specs.Table.{IsSequence}
use Rattle.standing_sequences.proofs.Choosing.{matches}

-- ** tests

field_is : (a k e : ℕ) (gone : Bool) → ((nat_le a k && nat_lt k e) && not gone) ≡ true
    → (a ≤ k) × (k < e) × (gone ≡ false)
field_is a k e gone h = grind (arith, nat_tests)

field_so : (a k e : ℕ) (gone : Bool) → a ≤ k → k < e → gone ≡ false
    → ((nat_le a k && nat_lt k e) && not gone) ≡ true
field_so a k e gone low high stays = grind (arith, nat_tests)

-- what no element passes finds none
none_found : {X : Type 0} (p : X → Bool) (xs : List X) → ((x : X) → Contains xs x → p x ≡ true → ⊥)
    → find p xs ≡ None
none_found p [] none = refl
none_found p (y ∷ ys) none =
    of_test (p y) refl (none_found p ys (λ x has. none x (suc has.0, (let lt = has.1 in omega arith), has.2)))
  where
    of_test : (t : Bool) → p y ≡ t → find p ys ≡ None → (if t then Some y else find p ys) ≡ None
    of_test true here rest = absurd (none y (0, omega arith, refl) here)
    of_test false here rest = rest

-- ** entries

pub entry_of : (xs : List Relocation) (r : Relocation) (has : Contains xs r) → IsEntry xs has.0 r
entry_of xs r has = slice_get-get_or xs has.0 r has.1 ∙ ap Some has.2

-- two relocations that share a byte are one
shared : (xs : List Relocation) (x y : Relocation) (k : ℕ) → AreApart xs → Contains xs x → Contains xs y
    → Covers x k → Covers y k → y ≡ x
shared xs x y k apart first next covers again = elim (cases_lt first.0 next.0) [
  | inl less ↦ absurd (apart first.0 next.0 k x y (entry_of xs x first) (entry_of xs y next) less covers again)
  | inr most ↦ elim (cases_lt next.0 first.0) [
    | inl less ↦ absurd (apart next.0 first.0 k y x (entry_of xs y next) (entry_of xs x first) less again covers)
    | inr least ↦
        let here : next.0 ≡ first.0 = omega (arith, most, least) in
        same_Some y x (sym (entry_of xs y next) ∙ ap (slice_get xs) here ∙ entry_of xs x first)
  ]
]

module _ (l : Linking) (given : IsGiven l) (o t : ℕ) (there : o < length l.objects) where
  -- ** sequences

  -- those of the section are sites of the object
  pub own_site : (site : Site) → IsSequence l o t site → Contains (sites_at l o) site
  own_site site is = (given.are_sites o there).every site is.spelled

  pub sequence_of : (site : Site) → Contains (sites_at l o) site → site.section ≡ t → IsSequence l o t site
  sequence_of site has section = record {
    section_is = section;
    spelled = All-contains (IsSite (object l o)) (sites_at l o) site (given.are_sites o there).only has;
  }

  -- two that share a byte are one
  pub one_sequence : (p q : Site) (k : ℕ) → IsSequence l o t p → IsSequence l o t q → p.start ≤ k
      → k < p.start + p.len → q.start ≤ k → k < q.start + q.len → p ≡ q
  one_sequence p q k a b p_low p_high q_low q_high =
      sites_apart (object l o) p q k a.spelled b.spelled (a.section_is ∙ sym b.section_is) p_low p_high q_low q_high

  -- the one that is rewritten and has the byte
  pub rewritten_found : (site : Site) (k : ℕ) → IsSequence l o t site → is_kept (choice l o site) ≡ false
      → site.start ≤ k → k < site.start + site.len → find (is_in_rewritten l o t k) (sites_at l o) ≡ Some site
  rewritten_found site k is off low high =
      one_found (is_in_rewritten l o t k) (sites_at l o) site (own_site site is)
      (covers_so site.section t site.start k (site.start + site.len) (is_kept (choice l o site)) is.section_is low high
      off)
      (λ y has again.
      let h = covers_is y.section t y.start k (y.start + y.len) (is_kept (choice l o y)) again in
      one_sequence y site k (sequence_of y has h.0) is h.1 h.2 low high)

  pub none_rewritten : (k : ℕ) → IsUnreplaced l o t k → find (is_in_rewritten l o t k) (sites_at l o) ≡ None
  none_rewritten k kept =
      none_found (is_in_rewritten l o t k) (sites_at l o) (λ y has passes.
      let h = covers_is y.section t y.start k (y.start + y.len) (is_kept (choice l o y)) passes in
      kept y (choice l o y) (sequence_of y has h.0) (matches l o y h.3) h.1 h.2)

  -- ** fields

  abbrev xs : List Relocation
  xs = relocations (object l o) t

  pub field_found : (r : Relocation) (k : ℕ) → Contains (relocations (object l o) t) r → Covers r k
      → is_replaced l o r ≡ false → find (is_in_field l o k) (relocations (object l o) t) ≡ Some r
  field_found r k has covers stays =
      one_found (is_in_field l o k) xs r has
      (field_so r.offset k (r.offset + field_width r.kind) (is_replaced l o r) covers.0 covers.1 stays)
      (λ y among again.
      let h = field_is y.offset k (y.offset + field_width y.kind) (is_replaced l o y) again in
      shared xs r y k (fields_apart (object l o) (given.are_objects o [] there) t) has among covers (h.0, h.1))

  pub none_field : (k : ℕ) → IsPlain l o t k → find (is_in_field l o k) (relocations (object l o) t) ≡ None
  none_field k plain =
      none_found (is_in_field l o k) xs (λ y has passes.
      let h = field_is y.offset k (y.offset + field_width y.kind) (is_replaced l o y) passes in
      plain has.0 y (entry_of xs y has) (h.0, h.1))

-- the field of a relocation that covers a byte outside all rewritten sequences is there
pub field_stays : (l : Linking) → IsLinked l → (o t : ℕ) → o < length l.objects → (r : Relocation) (k : ℕ)
    → Contains (relocations (object l o) t) r → Covers r k → IsUnreplaced l o t k → is_replaced l o r ≡ false
field_stays l linked o t there r k has covers kept = of_test (is_replaced l o r) refl
  where
    of_test : (x : Bool) → is_replaced l o r ≡ x → is_replaced l o r ≡ false
    of_test false e = e
    of_test true e =
        let found = (together l o t r linked.given linked.links linked.stray there has).inside e k covers in
        let site = found.0 in
        let inside = found.1 in
        let section = inside.section in
        let is : IsSequence l o t found.0 = sequence_of l linked.given o t there found.0 inside.own inside.section in
        absurd (kept found.0 (choice l o found.0) is (matches l o found.0 found.2) inside.from inside.to)
