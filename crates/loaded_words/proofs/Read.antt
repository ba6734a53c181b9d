-- What the entries of a table have in them: the name of an import is listed, and an address is one of 64 bits.
use Rattle.std.proofs.Common.{◌≡◌, ◌≢◌, ◌∙◌, ◌+◌, ◌<◌, ◌^◌, ◌&&◌, ℕ, zero, suc, Bool, true, false, List}
use Rattle.std.proofs.Common.{[], ◌∷◌, Option, Some, None, length, filter, refl, sym, ap, subst, arith}
use Rattle.std.specs.Prelude.{option_and_then, option_map, slice_index_or, if◌then◌else◌}
use Rattle.std.specs.List.{All, Contains, flat_map, list_any, range_with_len}
use Rattle.std.specs.Str.{bytes_eq}
use Rattle.std.proofs.lemmas.Bool.{or_left, or_right}
use Rattle.std.proofs.lemmas.List.Elements.{All-append, All-cons, All-contains_itself, All-filter, All-head}
use Rattle.std.proofs.lemmas.List.Elements.{All-nil, All-tail, filter_passes}
use Rattle.std.proofs.lemmas.List.Folds.{list_any-append}
use Rattle.std.proofs.lemmas.Slice.Eq.{bytes_eq-Decides}
use Rattle.dynamic_symbols.proofs.Lists.{all_flat}
use Rattle.dynamic_symbols.specs.Names.{imported_at, imported_in, imports as imports_of, is_import, is_startup}
use Rattle.elf_object.specs.declared.relocation.Relocation.{Relocation}
use Rattle.elf_object.specs.Lawful.{IsLawful}
use Rattle.elf_object.specs.LawsOfRelocations.{lawful}
use Rattle.elf_object.specs.Lent.{relocations, symbol_name}
use Rattle.elf_object.specs.Object.{section_count}
use Rattle.elf_records.specs.declared.relocation.RelocationKind.{RelocationKind}
use Rattle.elf_records.specs.declared.relocation.RelocationKind.TheVariants.{GotPcRel, GotPcRelX, RexGotPcRelX, Nothing}
use Rattle.elf_records.specs.declared.relocation.RelocationKind.TheVariants.{TlsGd, TlsLd, GotTpOff, GotPc32TlsDesc}
use Rattle.got_pairs.specs.declared.need.Need.{Need}
use Rattle.got_pairs.specs.declared.need.Need.TheVariants.{ModulePair, SymbolPair, Descriptor, SymbolWord}
use Rattle.got_pairs.specs.declared.need.Need.TheVariants.{AddressWord, RuntimeWord}
use Rattle.got_pairs.specs.declared.need.Target.{Target}
use Rattle.got_pairs.specs.declared.need.Target.TheVariants as target
use Rattle.got_pairs.specs.Needs.{by_group, entries as entries_of, group_of, groups, of_group, same_group}
use Rattle.link_core.proofs.RelativesApart.{all_sorted}
use Rattle.link_core.specs.Dynamic.{imports}
use Rattle.link_faults.specs.declared.binding.Binding.{Binding}
use Rattle.link_faults.specs.declared.binding.Binding.TheVariants.{Here, Startup, Runtime}
use Rattle.link_faults.specs.declared.symbol_ref.SymbolRef.{SymbolRef}
use Rattle.link_needs.specs.Given.{IsGiven}
use Rattle.link_needs.specs.Linking.{Linking, address, binding, choice, layout, object, offset, sites_at}
use Rattle.link_needs.specs.Needs.{address_fields, address_needs, calls, entries, is_address_kind, is_kept}
use Rattle.link_needs.specs.Needs.{need_by, needs, new_relocation, object_needs, own_word, reaching}
use Rattle.link_needs.specs.Needs.{relocation_need, section_needs, site_needs, target_by}
use Rattle.loaded_names.proofs.Defined.{any_distinct, any_flat}
use Rattle.relax_sites.specs.declared.choices.Choice.{Choice}
use Rattle.relax_sites.specs.declared.choices.Choice.TheVariants.{Keep, GdLe, GdIe, IeLe, DescLe, DescIe}
use Rattle.relax_sites.specs.declared.rows.NewField.{NewField}
use Rattle.relax_sites.specs.Rows.{new_field}
use Rattle.sequence_forms.specs.declared.forms.Form.{Form}
use Rattle.sequence_forms.specs.declared.forms.Form.TheVariants.{Gd, Ld, IeMov, IeAdd, GdInd, LdInd, DescLea, DescCall}
use Rattle.sequence_forms.specs.declared.places.Site.{Site}
use Rattle.sequence_forms.specs.Forms.{row}
use Rattle.sequence_match.specs.Sites.{first_of}
use Rattle.tls_layout.specs.Places.{IsLawful as IsWithinLimits}
use Rattle.tls_symbols.proofs.BoundAlike.{bound_alike}
use Rattle.tls_symbols.specs.Bindings.{may_import}
use Rattle.loaded_words.proofs.Addresses.{bound_low}
use Rattle.link_core.proofs.GotRelocationsNeeds.{distinct_suits as distinct_read}
use Rattle.tls_symbols.specs.Definitions.{flat_map_from}
use Rattle.std.specs.Prelude.{option_to_list}

-- ** what is read of an entry

abbrev pub IsListed : Linking → List ℕ → Type 0
IsListed l name = list_any (bytes_eq name) (imports l) ≡ true

abbrev pub TargetIsRead : Linking → Target → Type 0
TargetIsRead l (target.Here s o) = Unit {0}
TargetIsRead l (target.Import name) = IsListed l name

abbrev pub IsRead : Linking → Need → Type 0
IsRead l ModulePair = Unit {0}
IsRead l (SymbolPair x) = TargetIsRead l x
IsRead l (Descriptor x) = TargetIsRead l x
IsRead l (SymbolWord x) = TargetIsRead l x
IsRead l (AddressWord s p) = p < 2 ^ 64
IsRead l RuntimeWord = Unit {0}

-- ** the name of a site that imports is listed

module _ (l : Linking) (name : List ℕ) where
  listed_from : (n : ℕ) (sites : List (List Site)) (o : ℕ) → o < length sites
      → list_any (bytes_eq name) (imported_in l.objects l.startup (n + o) (slice_index_or sites o [])) ≡ true
      → list_any (bytes_eq name) (flat_map_from (imported_in l.objects l.startup) n sites) ≡ true
  listed_from n [] o below is = absurd (omega (arith, below))
  listed_from n (own ∷ more) zero below is =
      let at : n + 0 ≡ n = omega arith in
      list_any-append (bytes_eq name) (imported_in l.objects l.startup n own)
      (flat_map_from (imported_in l.objects l.startup) (n + 1) more)
      ∙ or_left (list_any (bytes_eq name) (imported_in l.objects l.startup n own))
      (list_any (bytes_eq name) (flat_map_from (imported_in l.objects l.startup) (n + 1) more))
      (ap (λ m. list_any (bytes_eq name) (imported_in l.objects l.startup m own)) (sym at) ∙ is)
  listed_from n (own ∷ more) (suc o) below is =
      let at : n + 1 + o ≡ n + suc o = omega arith in
      list_any-append (bytes_eq name) (imported_in l.objects l.startup n own)
      (flat_map_from (imported_in l.objects l.startup) (n + 1) more)
      ∙ or_right (list_any (bytes_eq name) (imported_in l.objects l.startup n own))
      (list_any (bytes_eq name) (flat_map_from (imported_in l.objects l.startup) (n + 1) more))
      (listed_from (n + 1) more o (omega (arith, below))
      (ap (λ m. list_any (bytes_eq name) (imported_in l.objects l.startup m (slice_index_or more o []))) at ∙ is))

module _ (l : Linking) (o : ℕ) (site : Site) (there : o < length l.sites) (among : Contains (sites_at l o) site) where
  abbrev name : List ℕ
  name = symbol_name (object l o) site.symbol

  site_listed : is_import l.objects l.startup o site ≡ true → IsListed l name
  unfolding imports_of imported_in
  site_listed is =
      let named : bytes_eq name name ≡ true = (bytes_eq-Decides name name).1 refl in
      let start : o ≡ 0 + o = omega arith in
      let here : list_any (bytes_eq name) (imported_at l.objects l.startup o site) ≡ true = rw (is, named) refl in
      let own : list_any (bytes_eq name) (imported_in l.objects l.startup o (sites_at l o)) ≡ true =
      any_flat (bytes_eq name) (imported_at l.objects l.startup o) (sites_at l o) among.0 site among.1
      (ap (λ (s : Site). list_any (bytes_eq name) (imported_at l.objects l.startup o s)) among.2 ∙ here) in
      any_distinct name (flat_map_from (imported_in l.objects l.startup) 0 l.sites)
      (listed_from l name 0 l.sites o there
      (ap (λ m. list_any (bytes_eq name) (imported_in l.objects l.startup m (sites_at l o))) (sym start) ∙ own))

-- ** the needs of a sequence

module _ (l : Linking) where
  abbrev R : Need → Type 0
  R need = IsRead l need

  one : (need : Need) → R need → All R (need ∷ [])
  one need read = All-cons R need [] read (All-nil R)

  -- an entry that is made of a variable
  made : (f : Target → Need) → ((x : Target) → TargetIsRead l x → R (f x)) → (o e : ℕ) (bound : Option Binding)
      → (is_startup bound ≡ true → IsListed l (symbol_name (object l o) e))
      → All R (option_to_list (option_map f (target_by l o e bound)))
  made f reads o e None import = All-nil R
  made f reads o e (Some Runtime) import = All-nil R
  made f reads o e (Some (Startup image)) import =
      let x = target.Import (symbol_name (object l o) e) in one (f x) (reads x (import refl))
  made f reads o e (Some (Here found)) import =
      let x = target.Here found (offset l found) in one (f x) (reads x tt)

  -- that of a field whose type is none of an address
  field_read : (kind : RelocationKind) → is_address_kind kind ≡ false → (o e : ℕ) (bound : Option Binding)
      → (may_import kind ≡ true → is_startup bound ≡ true → IsListed l (symbol_name (object l o) e))
      → All R (option_to_list (need_by l o e bound kind))
  field_read TlsGd other o e bound import = made SymbolPair (λ x reads. reads) o e bound (import refl)
  field_read TlsLd other o e bound import = one ModulePair tt
  field_read GotTpOff other o e bound import = made SymbolWord (λ x reads. reads) o e bound (import refl)
  field_read GotPc32TlsDesc other o e bound import = made Descriptor (λ x reads. reads) o e bound (import refl)
  field_read GotPcRel other o e bound import = absurd (cc)
  field_read GotPcRelX other o e bound import = absurd (cc)
  field_read RexGotPcRelX other o e bound import = absurd (cc)
  field_read kind other o e bound import = All-nil R

first_kind : (form : Form) → is_address_kind (row form).first ≡ false
unfolding row
first_kind Gd = refl
first_kind Ld = refl
first_kind IeMov = refl
first_kind IeAdd = refl
first_kind GdInd = refl
first_kind LdInd = refl
first_kind DescLea = refl
first_kind DescCall = refl

-- a field in the place of a sequence is none of an address, and the sequence may have imported what the field may not
abbrev IsNew : Form → Option NewField → Type 0
IsNew form None = Unit {0}
IsNew form (Some f) = (is_address_kind f.kind ≡ false) × (may_import (row form).first ≡ true)

is_new : (form : Form) (c : Choice) → IsNew form (new_field form c)
unfolding row
is_new Gd GdLe = (refl, refl)
is_new GdInd GdLe = (refl, refl)
is_new Gd GdIe = (refl, refl)
is_new GdInd GdIe = (refl, refl)
is_new IeMov IeLe = (refl, refl)
is_new IeAdd IeLe = (refl, refl)
is_new DescLea DescLe = (refl, refl)
is_new DescLea DescIe = (refl, refl)
is_new form c = tt

module _ (l : Linking) (o : ℕ) (site : Site) (there : o < length l.sites) (among : Contains (sites_at l o) site) where
  abbrev bound : Option Binding
  bound = binding l o (first_of site)

  new_read : (f : Option NewField) → IsNew site.form f
      → All (R l) (option_to_list (option_and_then (relocation_need l o) (option_map (new_relocation site) f)))
  unfolding relocation_need
  new_read None is = All-nil (R l)
  new_read (Some f) is =
      field_read l f.kind is.0 o site.symbol (binding l o (new_relocation site f)) (λ may other.
      site_listed l o site there among
      (ap is_startup (bound_alike l.objects l.startup o (first_of site) (new_relocation site f) refl (is.1 ∙ sym may))
      ∙ other))

  reached_read : (c : Choice) → All (R l) (option_to_list (option_and_then (relocation_need l o) (reaching site c)))
  unfolding relocation_need
  reached_read Keep =
      field_read l (row site.form).first (first_kind site.form) o site.symbol bound
      (λ may. site_listed l o site there among)
  reached_read c = new_read (new_field site.form c) (is_new site.form c)

  called_read : (t : Bool) → All (R l) (if t then RuntimeWord ∷ [] else [])
  called_read true = one l RuntimeWord tt
  called_read false = All-nil (R l)

  site_read : All (R l) (site_needs l o site)
  unfolding site_needs
  site_read =
      All-append (R l) (option_to_list (option_and_then (relocation_need l o) (reaching site (choice l o site))))
      (if is_kept (choice l o site) && calls site.form then RuntimeWord ∷ [] else []) (reached_read (choice l o site))
      (called_read (is_kept (choice l o site) && calls site.form))

-- ** those of all sequences, and of other code

read_flat : {X : Type 0} (l : Linking) (Q : X → Type 0) (f : X → List Need) → ((x : X) → Q x → All (R l) (f x))
    → (xs : List X) → All Q xs → All (R l) (flat_map f xs)
read_flat l Q f each [] all = All-nil (R l)
read_flat l Q f each (x ∷ xs) all =
    All-append (R l) (f x) (flat_map f xs) (each x (All-head Q x xs all))
    (read_flat l Q f each xs (All-tail Q x xs all))

sites_read : (l : Linking) (n : ℕ) (sites : List (List Site))
    → ((o : ℕ) → o < length sites → All (R l) (flat_map (site_needs l (n + o)) (slice_index_or sites o [])))
    → All (R l) (flat_map_from (λ o. flat_map (site_needs l o)) n sites)
sites_read l n [] each = All-nil (R l)
sites_read l n (own ∷ more) each =
    let P : ℕ → Type 0 = λ m. All (R l) (flat_map (site_needs l m) own) in
    let at : n + 0 ≡ n = omega arith in
    All-append (R l) (flat_map (site_needs l n) own) (flat_map_from (λ o. flat_map (site_needs l o)) (n + 1) more)
    (subst P at (each 0 (omega arith)))
    (sites_read l (n + 1) more (λ o below.
    let Q : ℕ → Type 0 = λ m. All (R l) (flat_map (site_needs l m) (slice_index_or more o [])) in
    let next : n + suc o ≡ n + 1 + o = omega arith in
    subst Q next (each (suc o) (omega (arith, below)))))

objects_read : (l : Linking) (n : ℕ) (objects : List (List ℕ))
    → ((o : ℕ) → o < length objects → All (R l) (object_needs l (n + o) (slice_index_or objects o [])))
    → All (R l) (flat_map_from (object_needs l) n objects)
objects_read l n [] each = All-nil (R l)
objects_read l n (b ∷ more) each =
    let P : ℕ → Type 0 = λ m. All (R l) (object_needs l m b) in
    let at : n + 0 ≡ n = omega arith in
    All-append (R l) (object_needs l n b) (flat_map_from (object_needs l) (n + 1) more)
    (subst P at (each 0 (omega arith)))
    (objects_read l (n + 1) more (λ o below.
    let Q : ℕ → Type 0 = λ m. All (R l) (object_needs l m (slice_index_or more o [])) in
    let next : n + suc o ≡ n + 1 + o = omega arith in
    subst Q next (each (suc o) (omega (arith, below)))))

own_read : (l : Linking) (bound : Option Binding)
    → ((found : SymbolRef) → bound ≡ Some (Here found) → address l found < 2 ^ 64) → All (R l) (own_word l bound)
own_read l None low = All-nil (R l)
own_read l (Some Runtime) low = All-nil (R l)
own_read l (Some (Startup image)) low = All-nil (R l)
own_read l (Some (Here found)) low = one l (AddressWord found (address l found)) (low found refl)

-- a relocation that reaches an address has a symbol
has_symbol : (kind : RelocationKind) → is_address_kind kind ≡ true → kind ≢ Nothing
has_symbol Nothing is = absurd (cc)
has_symbol kind is = λ none. cc

module _ (l : Linking) (given : IsGiven l) (limits : IsWithinLimits (layout l)) (o : ℕ) (there : o < length l.objects)
  where
    -- a field that the linker fills with an entry's place
    abbrev IsField : ℕ → Relocation → Type 0
    IsField t r = IsLawful (object l o) t r × (is_address_kind r.kind ≡ true)

    fields_are : (t : ℕ) → All (IsField t) (address_fields (object l o) t)
    fields_are t =
        let b = object l o in
        let fields = filter (λ (r : Relocation). is_address_kind r.kind) (relocations b t) in
        let lawful_fields = All-filter (λ (r : Relocation). is_address_kind r.kind) (IsLawful b t) (relocations b t)
        (lawful b (given.are_objects o [] there) t) in
        let passing = filter_passes (λ (r : Relocation). is_address_kind r.kind) (relocations b t) in
        all_sorted (λ (r : Relocation). r.offset) (IsField t) fields
        (λ k d below. (lawful_fields k d below, passing k d below))

    object_read : All (R l) (object_needs l o (object l o))
    unfolding object_needs
    object_read =
        all_flat (R l) (section_needs l o (object l o)) (range_with_len 0 (section_count (object l o))) (λ t.
        read_flat l (IsField t) (address_needs l o) (λ r is.
        own_read l (binding l o r) (bound_low l given limits o t there r is.0 (has_symbol r.kind is.1)))
        (address_fields (object l o) t) (fields_are t))

needs_read : (l : Linking) → IsGiven l → IsWithinLimits (layout l) → All (R l) (needs l)
unfolding needs
needs_read l given limits =
    All-append (R l) (flat_map_from (λ o. flat_map (site_needs l o)) 0 l.sites)
    (flat_map_from (object_needs l) 0 l.objects) (sites_read l 0 l.sites each_site)
    (objects_read l 0 l.objects each_object)
  where
    start : (o : ℕ) → 0 + o ≡ o
    start o = omega arith

    each_site : (o : ℕ) → o < length l.sites → All (R l) (flat_map (site_needs l (0 + o)) (sites_at l o))
    each_site o there =
        let P : ℕ → Type 0 = λ m. All (R l) (flat_map (site_needs l m) (sites_at l o)) in
        subst P (sym (start o)) (read_flat l (Contains (sites_at l o)) (site_needs l o)
        (λ site among. site_read l o site there among) (sites_at l o) (All-contains_itself (sites_at l o)))

    each_object : (o : ℕ) → o < length l.objects → All (R l) (object_needs l (0 + o) (object l o))
    each_object o there =
        let P : ℕ → Type 0 = λ m. All (R l) (object_needs l m (object l o)) in
        subst P (sym (start o)) (object_read l given limits o there)

-- ** those of the entries

entries_all : (P : Need → Type 0) (xs : List Need) → All P xs → All P (entries_of xs)
unfolding entries_of
entries_all P xs all =
    distinct_read P (by_group xs)
    (all_flat P (λ g. of_group g xs) groups (λ g. All-filter (λ need. same_group g (group_of need)) P xs all))

pub entries_read : (l : Linking) → IsGiven l → IsWithinLimits (layout l) → All (IsRead l) (entries l)
unfolding entries
entries_read l given limits = entries_all (R l) (needs l) (needs_read l given limits)
