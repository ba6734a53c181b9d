-- The image that a loader finds an import in is the one that the import is bound to.
use Rattle.std.proofs.Common.{◌≡◌, ◌∙◌, ◌+◌, ◌<◌, ℕ, zero, suc, Bool, true, false, not, List, [], ◌∷◌, Option, Some}
use Rattle.std.proofs.Common.{None}
use Rattle.std.proofs.Common.{length, filter, map, refl, sym, ap, subst, arith}
use Rattle.std.specs.Prelude.{cond, option_map, slice_get, slice_index_or, if◌then◌else◌}
use Rattle.std.specs.List.{All, list_any}
use Rattle.std.specs.Option.{option_or}
use Rattle.std.specs.Str.{bytes_eq}
use Rattle.std.proofs.lemmas.List.Elements.{All-head, All-tail}
use Rattle.std.proofs.lemmas.Option.{get_or_from_slice_get, same_Some, slice_get_within}
use Rattle.elf_object.specs.declared.relocation.Relocation.{Relocation}
use Rattle.elf_records.specs.declared.symbol.SymbolBinding.TheVariants.{Local}
use Rattle.elf_object.specs.Lent.{symbol_binding, symbol_name}
use Rattle.job_text.specs.LateImages.{LateLast, is_late}
use Rattle.link_core.specs.Images.{image_of}
use Rattle.link_faults.specs.declared.binding.Binding.TheVariants.{Here, Runtime, Startup}
use Rattle.link_faults.specs.declared.image_kind.ImageKind.{ImageKind}
use Rattle.link_faults.specs.declared.symbol_ref.SymbolRef.{SymbolRef}
use Rattle.link_needs.specs.Given.{IsGiven}
use Rattle.link_needs.specs.Linking.{Linking, binding, object, offset}
use Rattle.linked_modules.specs.Together.{exports_among}
use Rattle.loaded_modules.specs.Loader.{export_in, export_of, shared_from, shared_offset}
use Rattle.tls_symbols.specs.Bindings.{binding_of, bound_to, exported_names, first_export, here_or, may_import}
use Rattle.elf_records.specs.Symbols.{get_address}
use Rattle.tls_symbols.specs.Bindings.{name_binding, of_startup}
use Rattle.tls_symbols.specs.Definitions.{definition_of, same_binding}
use Rattle.thread_blocks.specs.Turns.{at_number}
use Rattle.loaded_names.proofs.Exports.{exported_found, other_missed}
use Rattle.loaded_names.specs.Laws.{ImportsAreFound}

abbrev kinds_of : List Linking → List ImageKind
kinds_of ls = map (λ (l : Linking). l.kind) ls

-- ** which of the images exports the name first

-- images that come late export nothing at the start
none_early : (ls : List Linking)
    → ((k : ℕ) (d : ImageKind) → k < length (kinds_of ls) → is_late (slice_index_or (kinds_of ls) k d) ≡ true)
    → exports_among ls ≡ []
none_early [] late = refl
none_early (l ∷ ls) late =
    let first : is_late l.kind ≡ true = late 0 l.kind (omega arith) in
    rw first (none_early ls (λ k d below. late (suc k) d (omega (arith, below))))

module _ (name : List ℕ) where
  -- the image of number k, where the first has number n
  record IsFoundFrom (n k : ℕ) (ls : List Linking) : Type 0 where
    index : ℕ
    number : k ≡ n + index
    image : Linking
    at : slice_get ls index ≡ Some image
    early : is_late image.kind ≡ false
    found : SymbolRef
    defined : definition_of image.objects name ≡ Some found
    shared : shared_from name n (kinds_of ls) (map image_of ls) ≡ Some (export_in k (offset image found))

  first_of : (n k : ℕ) (l : Linking) (ls : List Linking) → IsGiven l → is_late l.kind ≡ false
      → (t : Bool) → list_any (bytes_eq name) (exported_names l.objects) ≡ t
      → (if t then Some n else first_export name (n + 1) (exports_among ls)) ≡ Some k
      → (first_export name (n + 1) (exports_among ls) ≡ Some k → IsFoundFrom (n + 1) k ls)
      → IsFoundFrom n k (l ∷ ls)
  first_of n k l ls given early true exported is rest =
      let same : n ≡ k = same_Some n k is in
      let there = exported_found l given name exported in
      let more = shared_from name (suc n) (kinds_of ls) (map image_of ls) in
      record {
        index = 0;
        number = omega (arith, same);
        image = l;
        at = refl;
        early = early;
        found = there.found;
        defined = there.defined;
        shared =
            ap (λ late. option_or (if late then None
            else option_map (export_in n) (shared_offset name (image_of l))) more)
            early
            ∙ ap (λ own. option_or (option_map (export_in n) own) more) there.shared
            ∙ ap (λ (number : ℕ). Some (export_in number (offset l there.found))) same;
      }
  first_of n k l ls given early false other is rest =
      let r = rest is in
      let number = r.number in
      let next : suc n ≡ n + 1 = omega arith in
      let more = shared_from name (suc n) (kinds_of ls) (map image_of ls) in
      record {
        index = suc r.index;
        number = omega (arith, number);
        image = r.image;
        at = r.at;
        early = r.early;
        found = r.found;
        defined = r.defined;
        shared =
            ap (λ late. option_or (if late then None
            else option_map (export_in n) (shared_offset name (image_of l))) more)
            early
            ∙ ap (λ own. option_or (option_map (export_in n) own) more) (other_missed l given name other)
            ∙ ap (λ (number : ℕ). shared_from name number (kinds_of ls) (map image_of ls)) next
            ∙ r.shared;
      }

  found_from : (n k : ℕ) (ls : List Linking) → All IsGiven ls → LateLast (kinds_of ls)
      → first_export name n (exports_among ls) ≡ Some k → IsFoundFrom n k ls
  found_from n k [] given last is = absurd (cc)
  found_from n k (l ∷ ls) given last is =
      of_late (is_late l.kind) refl is
      (found_from (n + 1) k ls (All-tail IsGiven l ls given)
      (λ i j d less within late. last (suc i) (suc j) d (omega (arith, less)) (omega (arith, within)) late))
    where
      startup : List Linking
      startup = filter (λ (x : Linking). not (is_late x.kind)) ls

      of_late : (t : Bool) → is_late l.kind ≡ t
          → first_export name n (map (λ (x : Linking). exported_names x.objects) (cond (not t) (l ∷ startup) startup))
          ≡ Some k
          → (first_export name (n + 1) (exports_among ls) ≡ Some k → IsFoundFrom (n + 1) k ls)
          → IsFoundFrom n k (l ∷ ls)
      of_late true late is rest =
          let none : exports_among ls ≡ [] =
          none_early ls (λ i d below. last 0 (suc i) d (omega arith) (omega (arith, below)) late) in
          let missing : first_export name n (exports_among ls) ≡ None = ap (first_export name n) none in
          absurd (cc)
      of_late false early is rest =
          first_of n k l ls (All-head IsGiven l ls given) early
          (list_any (bytes_eq name) (exported_names l.objects)) refl is
          rest

-- ** a name that is bound to a startup image

module _ (l : Linking) (o k : ℕ) (r : Relocation) where
  export_first : binding l o r ≡ Some (Startup k)
      → first_export (symbol_name (object l o) r.symbol) 1 l.startup ≡ Some k
  unfolding bound_to
  export_first is = of_local (same_binding Local (symbol_binding (object l o) r.symbol)) is
    where
      of_export : (may : Bool) (found : Option ℕ) → (if may then of_startup found else None) ≡ Some (Startup k)
          → found ≡ Some k
      of_export true None is = absurd (cc)
      of_export true (Some j) is = cc
      of_export false found is = absurd (cc)

      of_definition : (found : Option SymbolRef)
          → here_or found (if may_import r.kind
          then of_startup (first_export (symbol_name (object l o) r.symbol) 1 l.startup) else None) ≡ Some (Startup k)
          → first_export (symbol_name (object l o) r.symbol) 1 l.startup ≡ Some k
      of_definition None is =
          of_export (may_import r.kind) (first_export (symbol_name (object l o) r.symbol) 1 l.startup) is
      of_definition (Some found) is = absurd (cc)

      of_name : (runtime : Bool)
          → (if runtime then Some Runtime else here_or (definition_of l.objects (symbol_name (object l o) r.symbol))
          (if may_import r.kind
          then of_startup (first_export (symbol_name (object l o) r.symbol) 1 l.startup) else None)) ≡ Some (Startup k)
          → first_export (symbol_name (object l o) r.symbol) 1 l.startup ≡ Some k
      of_name true is = absurd (cc)
      of_name false is = of_definition (definition_of l.objects (symbol_name (object l o) r.symbol)) is

      of_local : (local : Bool)
          → (if local then Some (Here (record { object = o; symbol = r.symbol }))
          else name_binding l.objects l.startup r.kind (symbol_name (object l o) r.symbol)) ≡ Some (Startup k)
          → first_export (symbol_name (object l o) r.symbol) 1 l.startup ≡ Some k
      of_local true is = absurd (cc)
      of_local false is = of_name (bytes_eq (symbol_name (object l o) r.symbol) get_address) is

-- ** the law

one_of : (xs : List Linking) (n : ℕ) (l : Linking) (P : Linking → Type 0) → All P xs → at_number xs n ≡ Some l → P l
one_of xs zero l P all at = absurd (cc)
one_of xs (suc i) l P all at =
    subst P (get_or_from_slice_get xs i l l at) (all i l (slice_get_within xs i l at))

pub imports_found : ImportsAreFound
unfolding export_of
imports_found ls l number o k r together last at is =
    let beside = one_of ls number l (λ (x : Linking). x.startup ≡ exports_among ls) together.beside at in
    let first = export_first l o k r is in
    let there = found_from (symbol_name (object l o) r.symbol) 1 k ls together.given last
    (ap (first_export (symbol_name (object l o) r.symbol) 1) (sym beside) ∙ first) in
    let place = there.number in
    let index : k ≡ suc there.index = omega (arith, place) in
    record {
      image = there.image;
      at = ap (at_number ls) index ∙ there.at;
      early = there.early;
      found = there.found;
      defined = there.defined;
      shared = there.shared;
    }
