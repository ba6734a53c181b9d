-- What a loader may rely on of the entries of the table.
use Rattle.std.proofs.Common.{◌≡◌, ◌∙◌, ◌+◌, ◌<◌, ◌≤◌, ◌⊎◌, ◌&&◌, ℕ, zero, suc, Bool, true, false, not, List, [], ◌∷◌}
use Rattle.std.proofs.Common.{length, filter, Option, Some, None, inl, inr, refl, sym, ap, subst, arith}
use Rattle.std.specs.Prelude.{is_some, option_and_then, option_map, slice_index_or, if◌then◌else◌}
use Rattle.std.specs.List.{All, Contains, flat_map, range_with_len}
use Rattle.std.proofs.lemmas.List.Elements.{All-append, All-cons, All-contains, All-contains_itself, All-filter}
use Rattle.std.proofs.lemmas.List.Elements.{All-head, All-nil, All-tail}
use Rattle.elf_records.specs.declared.relocation.RelocationKind.{RelocationKind}
use Rattle.elf_records.specs.declared.relocation.RelocationKind.TheVariants.{TlsGd, GotTpOff, GotPc32TlsDesc, TpOff32}
use Rattle.elf_object.specs.declared.relocation.Relocation.{Relocation}
use Rattle.elf_records.specs.declared.symbol.SymbolBinding.TheVariants.{Local}
use Rattle.elf_object.specs.Lent.{symbol_binding, symbol_name}
use Rattle.elf_object.specs.Object.{section_count}
use Rattle.elf_object.specs.Parts.{symbol_count}
use Rattle.sequence_forms.specs.declared.forms.Form.{Form}
use Rattle.sequence_forms.specs.declared.forms.Form.TheVariants.{Gd, Ld, IeMov, IeAdd, GdInd, LdInd, DescLea, DescCall}
use Rattle.sequence_forms.specs.declared.places.Site.{Site}
use Rattle.sequence_match.specs.Faults.{IsSite}
use Rattle.sequence_forms.specs.Forms.{row}
use Rattle.link_faults.specs.declared.image_kind.ImageKind.{ImageKind}
use Rattle.link_faults.specs.declared.binding.Binding.{Binding}
use Rattle.link_faults.specs.declared.binding.Binding.TheVariants.{Here, Startup, Runtime}
use Rattle.link_faults.specs.declared.symbol_ref.SymbolRef.{SymbolRef}
use Rattle.tls_symbols.specs.Bindings.{binding_of, bound_to, first_export, here_or, may_import, object_at}
use Rattle.elf_records.specs.Symbols.{get_address}
use Rattle.tls_symbols.specs.Bindings.{of_startup}
use Rattle.tls_symbols.specs.Definitions.{definition_of, same_binding}
use Rattle.std.specs.Str.{bytes_eq}
use Rattle.dynamic_symbols.specs.Names.{is_startup}
use Rattle.sequence_match.specs.Sites.{first_of}
use Rattle.dynamic_symbols.proofs.Lists.{all_flat}
use Rattle.sequence_match.proofs.SitesSymbols.{sites_symbols}
use Rattle.got_pairs.specs.declared.need.Need.{Need}
use Rattle.got_pairs.specs.declared.need.Need.TheVariants.{ModulePair, SymbolPair, Descriptor, SymbolWord}
use Rattle.got_pairs.specs.declared.need.Need.TheVariants.{AddressWord, RuntimeWord}
use Rattle.got_pairs.specs.declared.need.Target.{Target}
use Rattle.got_pairs.specs.declared.need.Target.TheVariants as target
use Rattle.got_pairs.specs.Needs.{by_group, distinct, entries as entries_of, group_of, groups, of_group, same_group}
use Rattle.got_pairs.specs.Needs.{same_need, size_of, start_from}
use Rattle.link_needs.specs.Refusals.{asks_storage}
use Rattle.link_faults.specs.ImageKinds.{is_module}
use Rattle.relax_sites.specs.declared.choices.Choice.{Choice}
use Rattle.relax_sites.specs.declared.choices.Choice.TheVariants.{Keep, GdLe, GdIe, IeLe, DescLe, DescIe}
use Rattle.relax_sites.specs.declared.rows.NewField.{NewField}
use Rattle.relax_sites.specs.Rows.{new_field}
use Rattle.link_needs.specs.Linking.{Linking, address, binding, choice, object, offset, sites_at}
use Rattle.link_needs.specs.Needs.{address_needs, calls, entries, is_kept, need_by, needs, new_relocation}
use Rattle.link_needs.specs.Needs.{object_needs, own_word, reaching, relocation_need, section_needs}
use Rattle.link_needs.specs.Needs.{site_needs, target_by, address_fields, uses_runtime}
use Rattle.link_tables.specs.Dynamic.{imports}
use Rattle.link_tables.specs.Faults.{IsSound}
use Rattle.link_needs.specs.Given.{IsGiven}
use Rattle.link_core.proofs.GotRelocationsSites.{known, segment, IsKnown}
use Rattle.tls_symbols.specs.Definitions.{flat_map_from}
use Rattle.std.specs.Prelude.{option_to_list}

-- ** what an entry asks of an image of this kind

-- a variable that has a relocation: an import has its name, and one of the image lies in the segment
abbrev pub TargetSuits : Linking → Bool → Target → Type 0
TargetSuits l asks (target.Here found o) = asks ≡ true → (0 < segment l) × (o ≤ segment l)
TargetSuits l asks (target.Import name) = 0 < length (imports l)

abbrev pub Suits : Linking → ImageKind → Need → Type 0
Suits l kind ModulePair = 0 < segment l
Suits l kind (SymbolPair x) = TargetSuits l (is_module kind) x
Suits l kind (Descriptor x) = TargetSuits l true x
Suits l kind (SymbolWord x) = TargetSuits l (is_module kind) x
Suits l kind (AddressWord found p) = Unit {0}
Suits l kind RuntimeWord = Unit {0}

-- ** those of a sequence

module _ (l : Linking) where
  abbrev S : Need → Type 0
  S need = Suits l l.kind need

  one : (need : Need) → S need → All S (need ∷ [])
  one need suits = All-cons S need [] suits (All-nil S)

  -- what is made of a variable
  made : (f : Target → Need) (asks : Bool) → ((x : Target) → TargetSuits l asks x → S (f x))
      → (o e : ℕ) (bound : Option Binding)
      → ((found : SymbolRef) → bound ≡ Some (Here found) → asks ≡ true → (0 < segment l) × (offset l found ≤ segment l))
      → (is_startup bound ≡ true → 0 < length (imports l))
      → All S (option_to_list (option_map f (target_by l o e bound)))
  made f asks suits o e None here import = All-nil S
  made f asks suits o e (Some Runtime) here import = All-nil S
  made f asks suits o e (Some (Startup image)) here import =
      let x = target.Import (symbol_name (object l o) e) in one (f x) (suits x (import refl))
  made f asks suits o e (Some (Here found)) here import =
      let x = target.Here found (offset l found) in one (f x) (suits x (here found refl))

  module _ (o : ℕ) (e : ℕ) (bound : Option Binding)
      (inside : (found : SymbolRef) → bound ≡ Some (Here found) → offset l found ≤ segment l)
      (import : is_startup bound ≡ true → 0 < length (imports l)) where
    both_true : (s t : Bool) → s ≡ true → t ≡ true → (s && t) ≡ true
    both_true s t p q = rw (p, q) refl

    pair : (asks_storage l.kind TlsGd bound ≡ true → 0 < segment l)
        → All S (option_to_list (option_map SymbolPair (target_by l o e bound)))
    pair stored =
        let asked : (found : SymbolRef) → bound ≡ Some (Here found) → is_module l.kind ≡ true
        → asks_storage l.kind TlsGd bound ≡ true = λ found is asks.
        ap (asks_storage l.kind TlsGd) is ∙ both_true (is_module l.kind) true asks refl in
        made SymbolPair (is_module l.kind) (λ x suits. suits) o e bound
        (λ found is asks. (stored (asked found is asks), inside found is)) import

    descriptor : (asks_storage l.kind GotPc32TlsDesc bound ≡ true → 0 < segment l)
        → All S (option_to_list (option_map Descriptor (target_by l o e bound)))
    descriptor stored =
        made Descriptor true (λ x suits. suits) o e bound
        (λ found is asks. (stored (ap (asks_storage l.kind GotPc32TlsDesc) is), inside found is)) import

    -- an offset's word is asked for by its own type, and in the place of a pair and of a descriptor
    offset_word : (kind : RelocationKind) → (kind ≡ TlsGd) ⊎ ((kind ≡ GotTpOff) ⊎ (kind ≡ GotPc32TlsDesc))
        → (asks_storage l.kind kind bound ≡ true → 0 < segment l)
        → All S (option_to_list (option_map SymbolWord (target_by l o e bound)))
    offset_word kind which stored =
        made SymbolWord (is_module l.kind) (λ x suits. suits) o e bound
        (λ found is asks. (stored (asked found is asks which), inside found is)) import
      where
        asked : (found : SymbolRef) → bound ≡ Some (Here found) → is_module l.kind ≡ true
            → (kind ≡ TlsGd) ⊎ ((kind ≡ GotTpOff) ⊎ (kind ≡ GotPc32TlsDesc)) → asks_storage l.kind kind bound ≡ true
        asked found is asks (inl k) =
            ap (λ t. asks_storage l.kind t bound) k
            ∙ ap (asks_storage l.kind TlsGd) is ∙ both_true (is_module l.kind) true asks refl
        asked found is asks (inr (inl k)) =
            ap (λ t. asks_storage l.kind t bound) k
            ∙ ap (asks_storage l.kind GotTpOff) is ∙ both_true (is_module l.kind) true asks refl
        asked found is asks (inr (inr k)) =
            ap (λ t. asks_storage l.kind t bound) k ∙ ap (asks_storage l.kind GotPc32TlsDesc) is

    -- of a sequence that is kept
    kept : (form : Form) → (asks_storage l.kind (row form).first bound ≡ true → 0 < segment l)
        → All S (option_to_list (need_by l o e bound (row form).first))
    unfolding row
    kept Gd stored = pair stored
    kept GdInd stored = pair stored
    kept Ld stored = one ModulePair (stored refl)
    kept LdInd stored = one ModulePair (stored refl)
    kept IeMov stored = offset_word GotTpOff (inr (inl refl)) stored
    kept IeAdd stored = offset_word GotTpOff (inr (inl refl)) stored
    kept DescLea stored = descriptor stored
    kept DescCall stored = All-nil S

-- the field of a rewritten sequence is an offset itself, or reaches a word in the place of a pair or a descriptor
abbrev IsNewKind : Form → Option NewField → Type 0
IsNewKind form None = Unit {0}
IsNewKind form (Some f) =
    (f.kind ≡ TpOff32) ⊎ ((f.kind ≡ GotTpOff) × (((row form).first ≡ TlsGd) ⊎ ((row form).first ≡ GotPc32TlsDesc)))

new_kind : (form : Form) (c : Choice) → IsNewKind form (new_field form c)
unfolding row
new_kind Gd GdLe = inl refl
new_kind GdInd GdLe = inl refl
new_kind Gd GdIe = inr (refl, inl refl)
new_kind GdInd GdIe = inr (refl, inl refl)
new_kind IeMov IeLe = inl refl
new_kind IeAdd IeLe = inl refl
new_kind DescLea DescLe = inl refl
new_kind DescLea DescIe = inr (refl, inr refl)
new_kind form c = tt

-- what may be reached in another image is bound alike by each such type
pub bound_alike : (objects : List (List ℕ)) (startup : List (List (List ℕ))) (o : ℕ) (x y : Relocation)
    → may_import x.kind ≡ may_import y.kind → x.symbol ≡ y.symbol
    → binding_of objects startup o x ≡ binding_of objects startup o y
unfolding bound_to
bound_alike objects startup o x y kinds symbols = λ i.
    let name = symbol_name (object_at objects o) (symbols i) in
    if same_binding Local (symbol_binding (object_at objects o) (symbols i))
    then Some (Here (record { object = o; symbol = symbols i }))
    else if bytes_eq name get_address then Some Runtime else
    here_or (definition_of objects name) (if kinds i then of_startup (first_export name 1 startup) else None)

module _ (l : Linking) (o : ℕ) (site : Site) (is : IsKnown l o site) where
  -- of a sequence that is rewritten
  new_suits : (f : Option NewField) → IsNewKind site.form f
      → All (S l) (option_to_list (option_and_then (relocation_need l o) (option_map (new_relocation site) f)))
  unfolding relocation_need
  new_suits None h = All-nil (S l)
  new_suits (Some f) (inl offset_is) =
      let P : RelocationKind → Type 0 = λ kind.
      All (S l) (option_to_list (need_by l o site.symbol (binding l o (new_relocation site f)) kind)) in
      subst P (sym offset_is) (All-nil (S l))
  new_suits (Some f) (inr h) =
      let P : RelocationKind → Type 0 = λ kind.
      All (S l) (option_to_list (need_by l o site.symbol (binding l o (new_relocation site f)) kind)) in
      let Q : Option Binding → Type 0 = λ bound. All (S l) (option_to_list (need_by l o site.symbol bound GotTpOff)) in
      let bound = binding l o (first_of site) in
      let word = offset_word l o site.symbol bound is.inside is.imported (row site.form).first (which h.1) is.stored in
      subst P (sym h.0) (subst Q (same h.1) word)
    where
      same : ((row site.form).first ≡ TlsGd) ⊎ ((row site.form).first ≡ GotPc32TlsDesc)
          → binding l o (first_of site) ≡ binding l o (new_relocation site f)
      same of =
          bound_alike l.objects l.startup o (first_of site) (new_relocation site f)
          (elim of [ inl e ↦ ap may_import e | inr e ↦ ap may_import e ] ∙ sym (ap may_import h.0)) refl

      which : ((row site.form).first ≡ TlsGd) ⊎ ((row site.form).first ≡ GotPc32TlsDesc)
          → ((row site.form).first ≡ TlsGd)
          ⊎ (((row site.form).first ≡ GotTpOff) ⊎ ((row site.form).first ≡ GotPc32TlsDesc))
      which (inl e) = inl e
      which (inr e) = inr (inr e)

  reached_suits : (c : Choice) → All (S l) (option_to_list (option_and_then (relocation_need l o) (reaching site c)))
  unfolding relocation_need
  reached_suits Keep = kept l o site.symbol (binding l o (first_of site)) is.inside is.imported site.form is.stored
  reached_suits c = new_suits (new_field site.form c) (new_kind site.form c)

  called : (t : Bool) → All (S l) (if t then RuntimeWord ∷ [] else [])
  called true = one l RuntimeWord tt
  called false = All-nil (S l)

  site_suits : All (S l) (site_needs l o site)
  unfolding site_needs
  site_suits =
      All-append (S l) (option_to_list (option_and_then (relocation_need l o) (reaching site (choice l o site))))
      (if is_kept (choice l o site) && calls site.form then RuntimeWord ∷ [] else []) (reached_suits (choice l o site))
      (called (is_kept (choice l o site) && calls site.form))

-- ** those of all sequences, and of other code

flat_suits : {X : Type 0} (l : Linking) (Q : X → Type 0) (f : X → List Need) → ((x : X) → Q x → All (S l) (f x))
    → (xs : List X) → All Q xs → All (S l) (flat_map f xs)
flat_suits l Q f each [] all = All-nil (S l)
flat_suits l Q f each (x ∷ xs) all =
    All-append (S l) (f x) (flat_map f xs) (each x (All-head Q x xs all))
    (flat_suits l Q f each xs (All-tail Q x xs all))

sites_suit : (l : Linking) (n : ℕ) (sites : List (List Site))
    → ((o : ℕ) → o < length sites → All (S l) (flat_map (site_needs l (n + o)) (slice_index_or sites o [])))
    → All (S l) (flat_map_from (λ o. flat_map (site_needs l o)) n sites)
sites_suit l n [] each = All-nil (S l)
sites_suit l n (own ∷ more) each =
    let P : ℕ → Type 0 = λ m. All (S l) (flat_map (site_needs l m) own) in
    let at : n + 0 ≡ n = omega arith in
    All-append (S l) (flat_map (site_needs l n) own) (flat_map_from (λ o. flat_map (site_needs l o)) (n + 1) more)
    (subst P at (each 0 (omega arith)))
    (sites_suit l (n + 1) more (λ o h.
    let R : ℕ → Type 0 = λ m. All (S l) (flat_map (site_needs l m) (slice_index_or more o [])) in
    let next : n + suc o ≡ n + 1 + o = omega arith in
    subst R next (each (suc o) (omega arith))))

own_suits : (l : Linking) (bound : Option Binding) → All (S l) (own_word l bound)
own_suits l (Some (Here found)) = one l (AddressWord found (address l found)) tt
own_suits l bound = All-nil (S l)

object_suits : (l : Linking) (o : ℕ) (b : List ℕ) → All (S l) (object_needs l o b)
unfolding object_needs
object_suits l o b =
    all_flat (S l) (section_needs l o b) (range_with_len 0 (section_count b))
    (λ t. all_flat (S l) (address_needs l o) (address_fields b t) (λ r. own_suits l (binding l o r)))

objects_suit : (l : Linking) (o : ℕ) (objects : List (List ℕ)) → All (S l) (flat_map_from (object_needs l) o objects)
objects_suit l o [] = All-nil (S l)
objects_suit l o (b ∷ more) =
    All-append (S l) (object_needs l o b) (flat_map_from (object_needs l) (o + 1) more) (object_suits l o b)
    (objects_suit l (o + 1) more)

needs_suit : (l : Linking) → IsGiven l → IsSound l → All (S l) (needs l)
unfolding needs
needs_suit l given sound =
    All-append (S l) (flat_map_from (λ o. flat_map (site_needs l o)) 0 l.sites)
    (flat_map_from (object_needs l) 0 l.objects) (sites_suit l 0 l.sites each)
    (objects_suit l 0 l.objects)
  where
    each : (o : ℕ) → o < length l.sites → All (S l) (flat_map (site_needs l (0 + o)) (sites_at l o))
    each o h =
        let there : o < length l.objects = omega (arith, given.each, h) in
        let at : 0 + o ≡ o = omega arith in
        let P : ℕ → Type 0 = λ m. All (S l) (flat_map (site_needs l m) (sites_at l o)) in
        let are = given.are_sites o there in
        let symbols = sites_symbols (object l o) (sites_at l o) (given.are_objects o [] there) are in
        subst P (sym at) (flat_suits l (Contains (sites_at l o)) (site_needs l o) (λ site among.
        site_suits l o site (known l given sound o site there among
        (All-contains (IsSite (object l o)) (sites_at l o) site are.only among)
        (All-contains (λ s. s.symbol < symbol_count (object l o)) (sites_at l o) site symbols among)))
        (sites_at l o) (All-contains_itself (sites_at l o)))

-- ** those of the entries

pub distinct_suits : (P : Need → Type 0) (xs : List Need) → All P xs → All P (distinct xs)
distinct_suits P [] all = all
distinct_suits P (x ∷ xs) all =
    All-cons P x (filter (λ y. not (same_need x y)) (distinct xs)) (All-head P x xs all)
    (All-filter (λ y. not (same_need x y)) P (distinct xs) (distinct_suits P xs (All-tail P x xs all)))

entries_all : (P : Need → Type 0) (xs : List Need) → All P xs → All P (entries_of xs)
unfolding entries_of
entries_all P xs all =
    distinct_suits P (by_group xs)
    (all_flat P (λ g. of_group g xs) groups (λ g. All-filter (λ need. same_group g (group_of need)) P xs all))

-- where the run time's word is one of them its function is used
word_starts : (at : ℕ) (ks : List Need) (k : ℕ) (d : Need) → k < length ks → slice_index_or ks k d ≡ RuntimeWord
    → is_some (start_from at ks RuntimeWord) ≡ true
word_starts at [] k d h is = absurd (omega arith)
word_starts at (x ∷ ks) zero d h is =
    let same : same_need RuntimeWord x ≡ true = ap (same_need RuntimeWord) is in rw same refl
word_starts at (x ∷ ks) (suc k) d h is =
    by (same_need RuntimeWord x) (word_starts (at + size_of x) ks k d (omega arith) is)
  where
    by : (t : Bool) → is_some (start_from (at + size_of x) ks RuntimeWord) ≡ true
        → is_some (if t then Some at else start_from (at + size_of x) ks RuntimeWord) ≡ true
    by true rest = refl
    by false rest = rest

-- an entry suits its image, and the run time's word says that its function is used
unfoldable pub IsEntry : Linking → Need → Type 0
IsEntry l need = Suits l l.kind need × (need ≡ RuntimeWord → uses_runtime l ≡ true)

pub are_entries : (l : Linking) → IsGiven l → IsSound l → All (IsEntry l) (entries l)
unfolding entries IsEntry
are_entries l given sound = λ k d h.
    (entries_all (S l) (needs l) (needs_suit l given sound) k d h, λ is. word_starts 0 (entries l) k d h is)
