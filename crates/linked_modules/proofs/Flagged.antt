-- A late image that is not flagged wants no offset from the thread pointer.
use Rattle.std.proofs.Common.{◌≡◌, ◌≢◌, ◌+◌, ◌&&◌, ◌||◌, ◌∙◌, ℕ, Bool, true, false, not, List, [], ◌∷◌, Option}
use Rattle.std.proofs.Common.{Some, None, filter, refl, sym, ap, subst}
use Rattle.std.specs.Prelude.{option_and_then, option_map, if◌then◌else◌}
use Rattle.std.specs.List.{All, flat_map, list_any, range_with_len}
use Rattle.std.proofs.lemmas.List.Elements.{All-append, All-cons, All-filter, All-head, All-nil, All-tail}
use Rattle.elf_object.specs.declared.relocation.Relocation.{Relocation}
use Rattle.elf_object.specs.Lent.{relocations}
use Rattle.elf_object.specs.Object.{section_count}
use Rattle.sequence_forms.specs.declared.forms.Form.{Form}
use Rattle.sequence_forms.specs.declared.forms.Form.TheVariants.{Gd, Ld, IeMov, IeAdd, GdInd, LdInd, DescLea, DescCall}
use Rattle.sequence_forms.specs.declared.places.Site.{Site}
use Rattle.sequence_forms.specs.Forms.{is_initial, row}
use Rattle.sequence_match.specs.Sites.{first_of}
use Rattle.image_faults.specs.declared.loader_kind.LoaderKind.TheVariants.{ThreadOffset}
use Rattle.image_file.specs.declared.relocation.ImageRelocation.{ImageRelocation}
use Rattle.link_faults.specs.declared.binding.Binding.{Binding}
use Rattle.link_faults.specs.declared.binding.Binding.TheVariants.{Here, Startup, Runtime}
use Rattle.link_faults.specs.declared.image_kind.ImageKind.{ImageKind}
use Rattle.link_faults.specs.declared.image_kind.ImageKind.TheVariants.{Exe, Pie, Start, Late}
use Rattle.link_faults.specs.ImageKinds.{is_module, is_moved}
use Rattle.got_pairs.specs.declared.need.Need.{Need}
use Rattle.got_pairs.specs.declared.need.Need.TheVariants.{ModulePair, SymbolPair, Descriptor, SymbolWord}
use Rattle.got_pairs.specs.declared.need.Need.TheVariants.{AddressWord, RuntimeWord}
use Rattle.got_pairs.specs.declared.need.Target.{Target}
use Rattle.got_pairs.specs.declared.need.Target.TheVariants as target
use Rattle.got_pairs.specs.Entries.{entry_of}
use Rattle.got_pairs.specs.Needs.{by_group, distinct, entries as entries_of, group_of, groups, of_group, same_group}
use Rattle.got_pairs.specs.Needs.{same_need}
use Rattle.relax_sites.specs.declared.choices.Choice.TheVariants.{Keep}
use Rattle.relax_sites.specs.Choices.{choice_of}
use Rattle.dynamic_symbols.proofs.Lists.{all_flat}
use Rattle.link_needs.specs.Linking.{Linking, address, binding, block_offset, choice, chosen, place}
use Rattle.link_needs.specs.Needs.{address_fields, address_needs, calls, entries, got_start, is_kept, need_by}
use Rattle.link_needs.specs.Needs.{needs, object_needs, own_word, reaching, relocation_need}
use Rattle.link_needs.specs.Needs.{section_needs, site_needs, target_by, sorted_by}
use Rattle.link_core.specs.Dynamic.{entry_relocations, field_relocations, got_relocations, image_relocations}
use Rattle.link_core.specs.Dynamic.{is_absolute, is_flagged, need_relocations, object_relocations}
use Rattle.link_core.specs.Dynamic.{relative, relatives, section_relocations, sum_of}
use Rattle.link_core.proofs.GotRelocationsRows.{all_rows}
use Rattle.link_core.proofs.RelativesApart.{all_sorted}
use Rattle.loaded_modules.specs.Images.{is_late}
use Rattle.tls_symbols.specs.Definitions.{flat_map_from}
use Rattle.std.specs.Prelude.{option_to_list}

late_is : (kind : ImageKind) → is_late kind ≡ true → kind ≡ Late
late_is Exe is = absurd (cc)
late_is Pie is = absurd (cc)
late_is Start is = absurd (cc)
late_is Late is = refl

neither : (s t : Bool) → (s || t) ≡ false → (s ≡ false) × (t ≡ false)
neither true t e = absurd (cc)
neither false t e = (refl, e)

-- ** needs

-- another entry than that of an offset
abbrev IsOther : Need → Type 0
IsOther (SymbolWord x) = ⊥
IsOther need = Unit {0}

one : (need : Need) → IsOther need → All IsOther (need ∷ [])
one need is = All-cons IsOther need [] is (All-nil IsOther)

module _ (l : Linking) (o : ℕ) where
  made : (f : Target → Need) → ((x : Target) → IsOther (f x)) → (e : ℕ) (bound : Option Binding)
      → All IsOther (option_to_list (option_map f (target_by l o e bound)))
  made f other e None = All-nil IsOther
  made f other e (Some Runtime) = All-nil IsOther
  made f other e (Some (Startup image)) = one (f _) (other _)
  made f other e (Some (Here found)) = one (f _) (other _)

  -- what a sequence needs that is no initial executable one
  kept_other : (form : Form) (e : ℕ) (bound : Option Binding) → is_initial form ≡ false
      → All IsOther (option_to_list (need_by l o e bound (row form).first))
  unfolding row
  kept_other Gd e bound other = made SymbolPair (λ x. tt) e bound
  kept_other GdInd e bound other = made SymbolPair (λ x. tt) e bound
  kept_other Ld e bound other = one ModulePair tt
  kept_other LdInd e bound other = one ModulePair tt
  kept_other IeMov e bound other = absurd (cc)
  kept_other IeAdd e bound other = absurd (cc)
  kept_other DescLea e bound other = made Descriptor (λ x. tt) e bound
  kept_other DescCall e bound other = All-nil IsOther

  called : (t : Bool) → All IsOther (if t then RuntimeWord ∷ [] else [])
  called true = one RuntimeWord tt
  called false = All-nil IsOther

  module _ (late : l.kind ≡ Late) (site : Site) (other : is_initial site.form ≡ false) where
    -- a late image keeps its sequences
    keeps : choice l o site ≡ Keep
    unfolding choice
    keeps = of_bound (binding l o (first_of site))
      where
        of_relax : (bound : Binding) (relax : Bool) → choice_of site.form bound Late relax ≡ Keep
        of_relax bound true = refl
        of_relax bound false = refl

        of_bound : (bound : Option Binding) → chosen l site.form bound ≡ Keep
        of_bound None = refl
        of_bound (Some bound) = ap (λ kind. choice_of site.form bound kind l.relax) late ∙ of_relax bound l.relax

    reached : All IsOther (option_to_list (option_and_then (relocation_need l o) (reaching site Keep)))
    unfolding relocation_need
    reached = kept_other site.form site.symbol (binding l o (first_of site)) other

    site_other : All IsOther (site_needs l o site)
    unfolding site_needs
    site_other =
        All-append IsOther (option_to_list (option_and_then (relocation_need l o) (reaching site (choice l o site))))
        (if is_kept (choice l o site) && calls site.form then RuntimeWord ∷ [] else [])
        (subst (λ c. All IsOther (option_to_list (option_and_then (relocation_need l o) (reaching site c))))
        (sym keeps) reached)
        (called (is_kept (choice l o site) && calls site.form))

abbrev initial_in : List Site → Bool
initial_in own = list_any (λ (site : Site). is_initial site.form) own

module _ (l : Linking) (late : l.kind ≡ Late) where
  own_other : (o : ℕ) (own : List Site) → initial_in own ≡ false → All IsOther (flat_map (site_needs l o) own)
  own_other o [] none = All-nil IsOther
  own_other o (site ∷ own) none =
      let parts = neither (is_initial site.form) (initial_in own) none in
      All-append IsOther (site_needs l o site) (flat_map (site_needs l o) own) (site_other l o late site parts.0)
      (own_other o own parts.1)

  sites_other : (o : ℕ) (sites : List (List Site)) → list_any initial_in sites ≡ false
      → All IsOther (flat_map_from (λ o. flat_map (site_needs l o)) o sites)
  sites_other o [] none = All-nil IsOther
  sites_other o (own ∷ more) none =
      let parts = neither (initial_in own) (list_any initial_in more) none in
      All-append IsOther (flat_map (site_needs l o) own) (flat_map_from (λ o. flat_map (site_needs l o)) (o + 1) more)
      (own_other o own parts.0)
      (sites_other (o + 1) more parts.1)

word_other : (l : Linking) (bound : Option Binding) → All IsOther (own_word l bound)
word_other l None = All-nil IsOther
word_other l (Some Runtime) = All-nil IsOther
word_other l (Some (Startup image)) = All-nil IsOther
word_other l (Some (Here found)) = one (AddressWord found (address l found)) tt

object_other : (l : Linking) (o : ℕ) (b : List ℕ) → All IsOther (object_needs l o b)
unfolding object_needs
object_other l o b =
    all_flat IsOther (section_needs l o b) (range_with_len 0 (section_count b))
    (λ t. all_flat IsOther (address_needs l o) (address_fields b t) (λ r. word_other l (binding l o r)))

objects_other : (l : Linking) (o : ℕ) (objects : List (List ℕ)) → All IsOther (flat_map_from (object_needs l) o objects)
objects_other l o [] = All-nil IsOther
objects_other l o (b ∷ more) =
    All-append IsOther (object_needs l o b) (flat_map_from (object_needs l) (o + 1) more) (object_other l o b)
    (objects_other l (o + 1) more)

needs_other : (l : Linking) → l.kind ≡ Late → list_any initial_in l.sites ≡ false → All IsOther (needs l)
unfolding needs
needs_other l late none =
    All-append IsOther (flat_map_from (λ o. flat_map (site_needs l o)) 0 l.sites)
    (flat_map_from (object_needs l) 0 l.objects) (sites_other l late 0 l.sites none)
    (objects_other l 0 l.objects)

-- ** entries

distinct_other : (xs : List Need) → All IsOther xs → All IsOther (distinct xs)
distinct_other [] all = all
distinct_other (x ∷ xs) all =
    All-cons IsOther x (filter (λ y. not (same_need x y)) (distinct xs)) (All-head IsOther x xs all)
    (All-filter (λ y. not (same_need x y)) IsOther (distinct xs) (distinct_other xs (All-tail IsOther x xs all)))

entries_other : (xs : List Need) → All IsOther xs → All IsOther (entries_of xs)
unfolding entries_of
entries_other xs all =
    distinct_other (by_group xs)
    (all_flat IsOther (λ g. of_group g xs) groups
    (λ g. All-filter (λ need. same_group g (group_of need)) IsOther xs all))

-- ** relocations

-- it does not ask for an offset from the thread pointer
abbrev IsFree : ImageRelocation → Type 0
IsFree r = r.kind ≢ ThreadOffset

module _ (l : Linking) where
  free_one : (r : ImageRelocation) → IsFree r → All IsFree (r ∷ [])
  free_one r free = All-cons IsFree r [] free (All-nil IsFree)

  free_two : (r s : ImageRelocation) → IsFree r → IsFree s → All IsFree (r ∷ s ∷ [])
  free_two r s first second = All-cons IsFree r (s ∷ []) first (free_one s second)

  entry_free : (block : ℕ) (need : Need) (at : ℕ) → IsOther need
      → All IsFree (entry_relocations l at (entry_of Late block need))
  entry_free block ModulePair at other = free_one _ (λ h. cc)
  entry_free block (SymbolPair (target.Here s o)) at other = free_one _ (λ h. cc)
  entry_free block (SymbolPair (target.Import n)) at other = free_two _ _ (λ h. cc) (λ h. cc)
  entry_free block (Descriptor (target.Here s o)) at other = free_one _ (λ h. cc)
  entry_free block (Descriptor (target.Import n)) at other = free_one _ (λ h. cc)
  entry_free block (SymbolWord x) at other = absurd other
  entry_free block (AddressWord s p) at other = free_one _ (λ h. cc)
  entry_free block RuntimeWord at other = free_one _ (λ h. cc)

  need_free : l.kind ≡ Late → (need : Need) (at : ℕ) → IsOther need → All IsFree (need_relocations l (need, at))
  need_free late need at other =
      subst (λ kind. All IsFree (entry_relocations l at (entry_of kind (block_offset l) need))) (sym late)
      (entry_free (block_offset l) need at other)

  got_free : l.kind ≡ Late → list_any initial_in l.sites ≡ false → All IsFree (got_relocations l)
  unfolding got_relocations entries
  got_free late none =
      all_rows l IsFree IsOther (need_free late) (got_start l) (entries l)
      (entries_other (needs l) (needs_other l late none))

  -- ** those of fields

  field_free : (o t : ℕ) (r : Relocation) → All IsFree (field_relocations l o t r)
  field_free o t r = of_test (is_absolute r.kind)
    where
      of_test : (x : Bool) → All IsFree (if x then relative (place l o t r.offset) (sum_of l o r) ∷ [] else [])
      of_test true = free_one _ (λ h. cc)
      of_test false = All-nil IsFree

  object_free : (o : ℕ) (b : List ℕ) → All IsFree (object_relocations l o b)
  unfolding object_relocations
  object_free o b =
      all_flat IsFree (section_relocations l o b) (range_with_len 0 (section_count b))
      (λ t. all_flat IsFree (field_relocations l o t) (relocations b t) (field_free o t))

  objects_free : (o : ℕ) (objects : List (List ℕ)) → All IsFree (flat_map_from (object_relocations l) o objects)
  objects_free o [] = All-nil IsFree
  objects_free o (b ∷ more) =
      All-append IsFree (object_relocations l o b) (flat_map_from (object_relocations l) (o + 1) more) (object_free o b)
      (objects_free (o + 1) more)

  relatives_free : All IsFree (relatives l)
  unfolding relatives
  relatives_free = of_test (is_moved l.kind)
    where
      of_test : (t : Bool)
          → All IsFree (if t then sorted_by (λ r. r.place) (flat_map_from (object_relocations l) 0 l.objects) else [])
      of_test true = all_sorted (λ r. r.place) IsFree (flat_map_from (object_relocations l) 0 l.objects)
          (objects_free 0 l.objects)
      of_test false = All-nil IsFree

  -- a late image that is not flagged has no initial executable sequence
  no_initial : l.kind ≡ Late → is_flagged l ≡ false → list_any initial_in l.sites ≡ false
  unfolding is_flagged
  no_initial late unflagged = ap (λ kind. is_module kind && list_any initial_in l.sites) (sym late) ∙ unflagged

  pub late_free : is_late l.kind ≡ true → is_flagged l ≡ false → All (λ r. r.kind ≢ ThreadOffset) (image_relocations l)
  unfolding image_relocations
  late_free late unflagged =
      let is = late_is l.kind late in
      All-append IsFree (relatives l) (got_relocations l) relatives_free (got_free is (no_initial is unflagged))
