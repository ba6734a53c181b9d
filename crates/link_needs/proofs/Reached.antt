-- What code reaches is among the needs, and so has an entry.
use Rattle.std.proofs.Common.{◌≡◌, ◌∙◌, ◌+◌, ◌-◌, ◌<◌, ◌≤◌, ◌&&◌, ◌||◌, ◌++◌, ℕ, zero, suc, Bool, true, false, List, []}
use Rattle.std.proofs.Common.{◌∷◌, Option, Some, length, filter, refl, sym, ap, subst, arith, if◌then◌else◌}
use Rattle.std.specs.Prelude.{nat_le, option_and_then, option_map, slice_index_or}
use Rattle.std.specs.List.{Contains, flat_map, list_any, range_with_len}
use Rattle.std.specs.Option.{IfSome}
use Rattle.std.proofs.lemmas.List.Elements.{Contains-append_left, Contains-append_right}
use Rattle.std.proofs.lemmas.List.FromFn.{get_or-range_with_len, length-range_with_len}
use Rattle.std.proofs.lemmas.Option.{same_Some, slice_get-get_or}
use Rattle.elf_object.specs.declared.relocation.Relocation.{Relocation}
use Rattle.elf_object.specs.Lent.{relocations}
use Rattle.elf_object.specs.Object.{section_count}
use Rattle.got_pairs.proofs.Equal.{size_some}
use Rattle.got_pairs.proofs.Served.{within}
use Rattle.got_pairs.proofs.Tables.{needs_have_entries as of_needs}
use Rattle.got_pairs.specs.declared.need.Need.{Need}
use Rattle.got_pairs.specs.declared.need.Need.TheVariants.{AddressWord, RuntimeWord}
use Rattle.got_pairs.specs.Needs.{size_of, start_of}
use Rattle.link_faults.specs.declared.binding.Binding.TheVariants.{Here}
use Rattle.link_faults.specs.declared.symbol_ref.SymbolRef.{SymbolRef}
use Rattle.relax_sites.specs.declared.choices.Choice.{Choice}
use Rattle.relax_sites.specs.declared.choices.Choice.TheVariants.{Keep}
use Rattle.relax_sites.specs.Rows.{new_field}
use Rattle.sequence_forms.specs.declared.forms.Form.{Form}
use Rattle.sequence_forms.specs.declared.forms.Form.TheVariants.{Gd, Ld, GdInd, LdInd}
use Rattle.sequence_forms.specs.declared.forms.Call.TheVariants.{Direct}
use Rattle.sequence_forms.specs.declared.forms.Second.{Second}
use Rattle.sequence_forms.specs.Forms.{row}
use Rattle.sequence_forms.specs.declared.places.Site.{Site}
use Rattle.sequence_match.specs.Sites.{first_of}
use Rattle.link_needs.specs.Given.{IsGiven}
use Rattle.link_needs.specs.Laws.{FieldsReachEntries, HasEntry, NeedsHaveEntries, SitesReachEntries, StubsHaveTheirWord}
use Rattle.link_needs.specs.Linking.{Linking, address, binding, choice, object, sites_at}
use Rattle.link_needs.specs.Needs.{address_needs, any_stub_call, calls, calls_stub, entries, got_size, has_stub}
use Rattle.link_needs.specs.Needs.{is_address_kind, is_kept, is_stub_call, needs, new_relocation, object_needs}
use Rattle.link_needs.specs.Needs.{own_word, reaching, relocation_need, section_needs, site_needs}
use Rattle.link_needs.specs.Needs.{inserted, sorted_by}
use Rattle.tls_symbols.specs.Definitions.{flat_map_from}
use Rattle.std.specs.Prelude.{option_to_list}

-- ** lists

contains_next : {X : Type 0} (y : X) (ys : List X) (x : X) → Contains ys x → Contains (y ∷ ys) x
contains_next y ys x has = (suc has.0, (let below = has.1 in omega (arith, below)), has.2)

pub contains_flat : {X Y : Type 0} (f : Y → List X) (ys : List Y) (y : Y) (x : X) → Contains ys y → Contains (f y) x
    → Contains (flat_map f ys) x
contains_flat f [] y x has inner = absurd (omega (arith, has.1))
contains_flat f (z ∷ more) y x has inner =
    of_index has.0 has.1 has.2 (λ rest. contains_flat f more y x rest inner)
  where
    of_index : (i : ℕ) → i < length (z ∷ more) → slice_index_or (z ∷ more) i y ≡ y
        → (Contains more y → Contains (flat_map f more) x) → Contains (f z ++ flat_map f more) x
    of_index zero below at rest =
        Contains-append_left (f z) (flat_map f more) x (subst (λ w. Contains (f w) x) (sym at) inner)
    of_index (suc i) below at rest =
        Contains-append_right (f z) (flat_map f more) x (rest (i, omega (arith, below), at))

-- what a filter lets through
pub contains_filter : {X : Type 0} (test : X → Bool) (xs : List X) (x : X) → Contains xs x → test x ≡ true
    → Contains (filter test xs) x
contains_filter test [] x has e = absurd (omega (arith, has.1))
contains_filter test (y ∷ ys) x has e =
    of_index has.0 has.1 has.2 (λ rest. contains_filter test ys x rest e)
  where
    of_test : (t : Bool) → Contains (filter test ys) x → Contains (if t then y ∷ filter test ys else filter test ys) x
    of_test true rest = contains_next y (filter test ys) x rest
    of_test false rest = rest

    of_index : (i : ℕ) → i < length (y ∷ ys) → slice_index_or (y ∷ ys) i x ≡ x
        → (Contains ys x → Contains (filter test ys) x)
        → Contains (if test y then y ∷ filter test ys else filter test ys) x
    of_index zero below at rest =
        let here : test y ≡ true = ap test at ∙ e in
        let first : Contains (y ∷ filter test ys) x = (0, omega arith, at) in
        rw here first
    of_index (suc i) below at rest = of_test (test y) (rest (i, omega (arith, below), at))

module _ {X : Type 0} (number : X → ℕ) where
  contains_inserted : (x : X) (xs : List X) (z : X) → Contains (x ∷ xs) z → Contains (inserted number x xs) z
  contains_inserted x [] z has = has
  contains_inserted x (y ∷ ys) z has =
      of_test (nat_le (number x) (number y)) (λ there. contains_inserted x ys z there)
    where
      of_index : (i : ℕ) → i < length (x ∷ (y ∷ ys)) → slice_index_or (x ∷ (y ∷ ys)) i z ≡ z
          → (Contains (x ∷ ys) z → Contains (inserted number x ys) z) → Contains (y ∷ inserted number x ys) z
      of_index zero below at rest =
          contains_next y (inserted number x ys) z (rest (0, omega arith, at))
      of_index (suc zero) below at rest = (0, omega arith, at)
      of_index (suc (suc i)) below at rest =
          contains_next y (inserted number x ys) z (rest (suc i, omega (arith, below), at))

      of_test : (t : Bool) → (Contains (x ∷ ys) z → Contains (inserted number x ys) z)
          → Contains (if t then x ∷ (y ∷ ys) else y ∷ inserted number x ys) z
      of_test true rest = has
      of_test false rest = of_index has.0 has.1 has.2 rest

  pub contains_sorted : (xs : List X) (z : X) → Contains xs z → Contains (sorted_by number xs) z
  contains_sorted [] z has = has
  contains_sorted (x ∷ xs) z has =
      contains_inserted x (sorted_by number xs) z
      (of_index has.0 has.1 has.2 (λ there. contains_sorted xs z there))
    where
      of_index : (i : ℕ) → i < length (x ∷ xs) → slice_index_or (x ∷ xs) i z ≡ z
          → (Contains xs z → Contains (sorted_by number xs) z) → Contains (x ∷ sorted_by number xs) z
      of_index zero below at rest = (0, omega arith, at)
      of_index (suc i) below at rest =
          contains_next x (sorted_by number xs) z (rest (i, omega (arith, below), at))

-- a test of one is one of all
pub any_among : {X : Type 0} (test : X → Bool) (xs : List X) (x : X) → Contains xs x → test x ≡ true
    → list_any test xs ≡ true
any_among test [] x has e = absurd (omega (arith, has.1))
any_among test (y ∷ ys) x has e = of_index has.0 has.1 has.2 (λ rest. any_among test ys x rest e)
  where
    or_true : (a b : Bool) → b ≡ true → (a || b) ≡ true
    or_true true b e = refl
    or_true false b e = e

    of_index : (i : ℕ) → i < length (y ∷ ys) → slice_index_or (y ∷ ys) i x ≡ x
        → (Contains ys x → list_any test ys ≡ true) → list_any test (y ∷ ys) ≡ true
    of_index zero below at rest = let here : test y ≡ true = ap test at ∙ e in rw here refl
    of_index (suc i) below at rest =
        or_true (test y) (list_any test ys) (rest (i, omega (arith, below), at))

pub both : (a b : Bool) → (a && b) ≡ true → (a ≡ true) × (b ≡ true)
both true b e = (refl, e)
both false b e = absurd (cc)

-- ** entries

module _ (l : Linking) where
  entry_has : (need : Need) → Contains (needs l) need → HasEntry l need
  unfolding entries
  entry_has need among = let found = of_needs (needs l) need among in record { at = found.0; starts = found.1 }

  -- it lies in the table, which is then not empty
  pub entry_within : (need : Need) (e : HasEntry l need) → e.at + size_of need ≤ got_size l
  entry_within need e =
      subst (λ o. IfSome o (λ s. s + size_of need ≤ got_size l)) e.starts
      (within (entries l) need (start_of (entries l) need) refl)

  pub table_some : (need : Need) → HasEntry l need → 0 < got_size l
  table_some need e = omega (arith, entry_within need e, size_some need)

pub needs_have_entries : NeedsHaveEntries
needs_have_entries = entry_has

-- ** sequences

calls_too : (form : Form) → calls_stub form ≡ true → calls form ≡ true
calls_too Gd e = refl
calls_too Ld e = refl
calls_too form e = absurd (cc)

module _ (l : Linking) where
  -- those of the sites of an object
  from_site : (n : ℕ) (sites : List (List Site)) (o i : ℕ) (site : Site) (need : Need) → o ≡ n + i
      → i < length sites → Contains (slice_index_or sites i []) site → Contains (site_needs l o site) need
      → Contains (flat_map_from (λ o. flat_map (site_needs l o)) n sites) need
  from_site n [] o i site need number below own has = absurd (omega arith)
  from_site n (first ∷ more) o zero site need number below own has =
      let same : o ≡ n = omega arith in
      Contains-append_left (flat_map (site_needs l n) first)
      (flat_map_from (λ o. flat_map (site_needs l o)) (n + 1) more) need
      (contains_flat (site_needs l n) first site need own (subst (λ m. Contains (site_needs l m site) need) same has))
  from_site n (first ∷ more) o (suc i) site need number below own has =
      Contains-append_right (flat_map (site_needs l n) first)
      (flat_map_from (λ o. flat_map (site_needs l o)) (n + 1) more) need
      (from_site (n + 1) more o i site need (omega arith) (omega (arith, below)) own has)

  calls_from : (n : ℕ) (sites : List (List Site)) (o i : ℕ) (site : Site) → o ≡ n + i → i < length sites
      → Contains (slice_index_or sites i []) site → is_stub_call l o site ≡ true → any_stub_call l n sites ≡ true
  calls_from n [] o i site number below own e = absurd (omega arith)
  calls_from n (first ∷ more) o zero site number below own e =
      let same : o ≡ n = omega arith in
      let here : list_any (is_stub_call l n) first ≡ true =
      any_among (is_stub_call l n) first site own (ap (λ m. is_stub_call l m site) (sym same) ∙ e) in
      rw here refl
  calls_from n (first ∷ more) o (suc i) site number below own e =
      of_test (list_any (is_stub_call l n) first)
      (calls_from (n + 1) more o i site (omega arith) (omega (arith, below)) own e)
    where
      of_test : (t : Bool) → any_stub_call l (n + 1) more ≡ true
          → (if t then true else any_stub_call l (n + 1) more) ≡ true
      of_test true rest = refl
      of_test false rest = rest

  -- by what it reaches, and by its call
  reached : (o : ℕ) (site : Site) (r : Option Relocation) (need : Need) → reaching site (choice l o site) ≡ r
      → option_and_then (relocation_need l o) r ≡ Some need → Contains (site_needs l o site) need
  unfolding site_needs
  reached o site r need reach e =
      let listed : option_to_list (option_and_then (relocation_need l o) (reaching site (choice l o site)))
      ≡ need ∷ [] =
      ap (λ found. option_to_list (option_and_then (relocation_need l o) found)) reach ∙ ap option_to_list e in
      Contains-append_left (option_to_list (option_and_then (relocation_need l o) (reaching site (choice l o site))))
      (if is_kept (choice l o site) && calls site.form then RuntimeWord ∷ [] else []) need
      (subst (λ xs. Contains xs need) (sym listed) (0, omega arith, refl))

  called : (o : ℕ) (site : Site) → is_kept (choice l o site) ≡ true → calls site.form ≡ true
      → Contains (site_needs l o site) RuntimeWord
  unfolding site_needs
  called o site kept call =
      let listed : (if is_kept (choice l o site) && calls site.form then RuntimeWord ∷ [] else []) ≡ RuntimeWord ∷ [] =
      rw (kept, call) refl in
      Contains-append_right (option_to_list (option_and_then (relocation_need l o) (reaching site (choice l o site))))
      (if is_kept (choice l o site) && calls site.form then RuntimeWord ∷ [] else []) RuntimeWord
      (subst (λ xs. Contains xs RuntimeWord) (sym listed) (0, omega arith, refl))

  module _ (given : IsGiven l) (o : ℕ) (site : Site) (there : o < length l.objects)
      (own : Contains (sites_at l o) site) where
    of_site : (need : Need) → Contains (site_needs l o site) need → HasEntry l need
    unfolding needs
    of_site need has =
        entry_has l need
        (Contains-append_left (flat_map_from (λ o. flat_map (site_needs l o)) 0 l.sites)
        (flat_map_from (object_needs l) 0 l.objects) need
        (from_site 0 l.sites o o site need (omega arith) (omega (arith, given.each, there)) own has))

    pub stub_there : is_stub_call l o site ≡ true → has_stub l ≡ true
    unfolding has_stub
    stub_there e = calls_from 0 l.sites o o site (omega arith) (omega (arith, given.each, there)) own e

    pub called_entry : is_kept (choice l o site) ≡ true → calls site.form ≡ true → HasEntry l RuntimeWord
    called_entry kept call = of_site RuntimeWord (called o site kept call)

    -- what holds of a site holds of one of all sites
    pub any_site : (test : Site → Bool) → test site ≡ true → list_any (λ own. list_any test own) l.sites ≡ true
    any_site test e =
        let below : o < length l.sites = omega (arith, given.each, there) in
        let among : Contains l.sites (sites_at l o) = (
          o,
          below,
          same_Some _ _ (sym (slice_get-get_or l.sites o (sites_at l o) below) ∙ slice_get-get_or l.sites o [] below),
        ) in
        any_among (λ own. list_any test own) l.sites (sites_at l o) among (any_among test (sites_at l o) site own e)

-- a form with a call is one that calls, and with a direct one calls the stub
calls_of : (form : Form) (call : Second) → (row form).second ≡ Some call → calls form ≡ true
unfolding row
calls_of Gd call e = refl
calls_of Ld call e = refl
calls_of GdInd call e = refl
calls_of LdInd call e = refl
calls_of form call e = absurd (cc)

stub_of : (form : Form) (call : Second) → (row form).second ≡ Some call → call.call ≡ Direct → calls_stub form ≡ true
unfolding row
stub_of Gd call e direct = refl
stub_of Ld call e direct = refl
stub_of GdInd call e direct = absurd (let far = ap (λ (c : Second). c.call) (same_Some _ call e) in cc)
stub_of LdInd call e direct = absurd (let far = ap (λ (c : Second). c.call) (same_Some _ call e) in cc)
stub_of form call e direct = absurd (cc)

by_first : (site : Site) (c : Choice) → is_kept c ≡ true → reaching site c ≡ Some (first_of site)
by_first site Keep e = refl
by_first site c e = absurd (cc)

by_new : (site : Site) (c : Choice) → is_kept c ≡ false
    → reaching site c ≡ option_map (new_relocation site) (new_field site.form c)
by_new site Keep e = absurd (cc)
by_new site c e = refl

pub sites_reach_entries : SitesReachEntries
sites_reach_entries l o site given there own =
    let among = of_site l given o site there own in
    let c = choice l o site in
    record {
      first = λ kept need e. among need (reached l o site (Some (first_of site)) need (by_first site c kept) e);
      new = λ off f is need e.
          among need (reached l o site (Some (new_relocation site f)) need
          (by_new site c off ∙ ap (option_map (new_relocation site)) is) e);
      word = λ kept call e. among RuntimeWord (called l o site kept (calls_of site.form call e));
      stub = λ kept call e direct.
          stub_there l given o site there own (rw (kept, stub_of site.form call e direct) refl);
    }

-- ** the stub

module _ (l : Linking) where
  in_sites : (o : ℕ) (own : List Site) → list_any (is_stub_call l o) own ≡ true
      → Contains (flat_map (site_needs l o) own) RuntimeWord
  in_sites o [] e = absurd (cc)
  in_sites o (site ∷ own) e = of_test (is_stub_call l o site) refl (in_sites o own)
    where
      of_test : (t : Bool) → is_stub_call l o site ≡ t
          → (list_any (is_stub_call l o) own ≡ true → Contains (flat_map (site_needs l o) own) RuntimeWord)
          → Contains (site_needs l o site ++ flat_map (site_needs l o) own) RuntimeWord
      of_test true here later =
          let parts = both (is_kept (choice l o site)) (calls_stub site.form) here in
          Contains-append_left (site_needs l o site) (flat_map (site_needs l o) own) RuntimeWord
          (called l o site parts.0 (calls_too site.form parts.1))
      of_test false here later =
          Contains-append_right (site_needs l o site) (flat_map (site_needs l o) own) RuntimeWord
          (later (rw here at e))

  in_all : (o : ℕ) (sites : List (List Site)) → any_stub_call l o sites ≡ true
      → Contains (flat_map_from (λ o. flat_map (site_needs l o)) o sites) RuntimeWord
  in_all o [] e = absurd (cc)
  in_all o (own ∷ more) e = of_test (list_any (is_stub_call l o) own) refl e (in_all (o + 1) more)
    where
      of_test : (t : Bool) → list_any (is_stub_call l o) own ≡ t
          → (if t then true else any_stub_call l (o + 1) more) ≡ true
          → (any_stub_call l (o + 1) more ≡ true → Contains
          (flat_map_from (λ o. flat_map (site_needs l o)) (o + 1) more) RuntimeWord)
          → Contains (flat_map (site_needs l o) own ++ flat_map_from (λ o. flat_map (site_needs l o))
          (o + 1) more) RuntimeWord
      of_test true here e later =
          Contains-append_left (flat_map (site_needs l o) own)
          (flat_map_from (λ o. flat_map (site_needs l o)) (o + 1) more) RuntimeWord
          (in_sites o own here)
      of_test false here e later =
          Contains-append_right (flat_map (site_needs l o) own)
          (flat_map_from (λ o. flat_map (site_needs l o)) (o + 1) more) RuntimeWord (later e)

pub stubs_have_their_word : StubsHaveTheirWord
unfolding has_stub needs
stubs_have_their_word l e =
    entry_has l RuntimeWord
    (Contains-append_left (flat_map_from (λ o. flat_map (site_needs l o)) 0 l.sites)
    (flat_map_from (object_needs l) 0 l.objects) RuntimeWord (in_all l 0 l.sites e))

-- ** address fields

module _ (l : Linking) (o t : ℕ) (r : Relocation) (v : SymbolRef) (inside : t < section_count (object l o))
    (has : Contains (relocations (object l o) t) r) (kind : is_address_kind r.kind ≡ true)
    (bound : binding l o r ≡ Some (Here v)) where
  in_object : Contains (object_needs l o (object l o)) (AddressWord v (address l v))
  unfolding object_needs
  in_object =
      let b = object l o in
      let numbered : Contains (range_with_len 0 (section_count b)) t = (
        t,
        (let n = length-range_with_len 0 (section_count b) in omega (arith, n, inside)),
        get_or-range_with_len 0 (section_count b) t t inside ∙ omega arith,
      ) in
      let word : Contains (address_needs l o r) (AddressWord v (address l v)) =
      subst (λ found. Contains (own_word l found) (AddressWord v (address l v))) (sym bound) (0, omega arith, refl) in
      contains_flat (section_needs l o b) (range_with_len 0 (section_count b)) t (AddressWord v (address l v)) numbered
      (contains_flat (address_needs l o) _ r (AddressWord v (address l v))
      (contains_sorted (λ (y : Relocation). y.offset)
      (filter (λ (y : Relocation). is_address_kind y.kind) (relocations b t)) r
      (contains_filter (λ (y : Relocation). is_address_kind y.kind) (relocations b t) r has kind)) word)

  in_objects : (i : ℕ) (bs : List (List ℕ)) → i ≤ o → o < i + length bs
      → ((k : ℕ) → k < length bs → object l (i + k) ≡ slice_index_or bs k [])
      → Contains (flat_map_from (object_needs l) i bs) (AddressWord v (address l v))
  in_objects i [] low high each = absurd (omega (arith, low, high))
  in_objects i (b ∷ more) low high each =
      of_index (o - i) (omega (arith, low)) (λ later.
      in_objects (i + 1) more later (omega (arith, high)) (λ k below.
      let next : i + 1 + k ≡ i + suc k = omega arith in ap (object l) next ∙ each (suc k) (omega (arith, below))))
    where
      of_index : (d : ℕ) → i + d ≡ o
          → (i + 1 ≤ o → Contains (flat_map_from (object_needs l) (i + 1) more) (AddressWord v (address l v)))
          → Contains (object_needs l i b ++ flat_map_from (object_needs l) (i + 1) more) (AddressWord v (address l v))
      of_index zero far rest =
          let same : o ≡ i = omega (arith, far) in
          let first : i ≡ i + 0 = omega arith in
          let here : object l o ≡ b = ap (object l) (same ∙ first) ∙ each 0 (omega arith) in
          Contains-append_left (object_needs l i b) (flat_map_from (object_needs l) (i + 1) more)
          (AddressWord v (address l v))
          (subst (λ (n : ℕ). Contains (object_needs l n b) (AddressWord v (address l v))) same
          (subst (λ (x : List ℕ). Contains (object_needs l o x) (AddressWord v (address l v))) here in_object))
      of_index (suc d) far rest =
          Contains-append_right (object_needs l i b) (flat_map_from (object_needs l) (i + 1) more)
          (AddressWord v (address l v))
          (rest (omega (arith, far)))

pub fields_reach_entries : FieldsReachEntries
unfolding needs
fields_reach_entries l o t r v there inside has kind bound =
    entry_has l (AddressWord v (address l v))
    (Contains-append_right (flat_map_from (λ o. flat_map (site_needs l o)) 0 l.sites)
    (flat_map_from (object_needs l) 0 l.objects) (AddressWord v (address l v))
    (in_objects l o t r v inside has kind bound 0 l.objects (omega arith) (omega (arith, there)) (λ k below.
    let same : 0 + k ≡ k = omega arith in ap (object l) same)))
