-- What is bound to a startup image lies in that image's TLS segment, near its start.
use Rattle.std.proofs.Common.{◌≡◌, ◌∙◌, ◌+◌, ◌≤◌, ◌^◌, ℕ, suc, Bool, true, false, List, [], ◌∷◌}
use Rattle.std.proofs.Common.{Option, Some, None}
use Rattle.std.proofs.Common.{map, refl, sym, ap, subst, arith, if◌then◌else◌}
use Rattle.std.specs.Prelude.{option_map, slice_get}
use Rattle.std.specs.List.{All}
use Rattle.std.specs.Option.{IfSome, option_or}
use Rattle.std.proofs.lemmas.Bool.{and_parts}
use Rattle.std.proofs.lemmas.List.Elements.{All-contains}
use Rattle.std.proofs.lemmas.Option.{get_or_from_slice_get, same_Some, slice_get_within}
use Rattle.elf_object.specs.declared.relocation.Relocation.{Relocation}
use Rattle.elf_object.specs.Lent.{symbol_name, symbol_visibility}
use Rattle.job_text.specs.LateImages.{LateLast, is_late}
use Rattle.link_core.proofs.GotRelocationsSites.{offset_inside}
use Rattle.link_core.specs.Faults.{Links}
use Rattle.link_core.specs.Images.{image_of}
use Rattle.link_faults.specs.declared.binding.Binding.TheVariants.{Startup}
use Rattle.link_faults.specs.declared.symbol_ref.SymbolRef.{SymbolRef}
use Rattle.link_needs.specs.Given.{IsGiven}
use Rattle.link_needs.specs.Linking.{Linking, binding, object, offset}
use Rattle.linked_modules.specs.Together.{AreTogether}
use Rattle.loaded_modules.specs.declared.exports.Export.{Export}
use Rattle.loaded_modules.specs.declared.instance.Instance.{Instance}
use Rattle.loaded_modules.specs.Loader.{export_in, export_of, shared_from, shared_offset}
use Rattle.loaded_names.proofs.Exports.{export_at, export_is}
use Rattle.loaded_names.proofs.Imports.{imports_found}
use Rattle.loaded_words.specs.Laws.{IsKnown}
use Rattle.module_table.specs.declared.events.Event.{Event}
use Rattle.thread_blocks.specs.Turns.{at_number}
use Rattle.tls_symbols.proofs.Within.{definition_within}
use Rattle.tls_symbols.specs.Bindings.{is_tls_symbol}
use Rattle.elf_records.specs.Symbols.{is_visible}
use Rattle.tls_symbols.specs.Definitions.{IsWithin, definition_of}
use Rattle.tls_symbols.specs.Laws.{is_exported_by}
use Rattle.tied_sites.proofs.Counted.{early_image, starts}
use Rattle.tied_sites.specs.Instances.{IsShared}

-- ** the image that exports a name exports it

record IsExportAt (name : List ℕ) (n k at : ℕ) (ls : List Linking) : Type 0 where
  index : ℕ
  number : k ≡ n + index
  image : Linking
  there : slice_get ls index ≡ Some image
  shared : shared_offset name (image_of image) ≡ Some at

exported : (name : List ℕ) (n k at : ℕ) (ls : List Linking)
    → shared_from name n (map (λ (l : Linking). l.kind) ls) (map image_of ls) ≡ Some (record { image = k; offset = at })
    → IsExportAt name n k at ls
exported name n k at [] e = absurd (cc)
exported name n k at (l ∷ ls) e =
    of_late (is_late l.kind) (shared_offset name (image_of l)) refl e (exported name (suc n) k at ls)
  where
    later : (shared_from name (suc n) (map (λ (l : Linking). l.kind) ls) (map image_of ls)
        ≡ Some (record { image = k; offset = at }))
        → (shared_from name (suc n) (map (λ (l : Linking). l.kind) ls) (map image_of ls)
        ≡ Some (record { image = k; offset = at }) → IsExportAt name (suc n) k at ls)
        → IsExportAt name n k at (l ∷ ls)
    later e rest =
        let r = rest e in
        let number = r.number in
        record {
          index = suc r.index;
          number = omega
              (arith, number);
          image = r.image;
          there = r.there;
          shared = r.shared;
        }

    of_late : (late : Bool) (own : Option ℕ) → shared_offset name (image_of l) ≡ own
        → option_or (if late then None else option_map (export_in n) own)
        (shared_from name (suc n) (map (λ (l : Linking). l.kind) ls) (map image_of ls))
        ≡ Some (record { image = k; offset = at })
        → (shared_from name (suc n) (map (λ (l : Linking). l.kind) ls) (map image_of ls)
        ≡ Some (record { image = k; offset = at }) → IsExportAt name (suc n) k at ls)
        → IsExportAt name n k at (l ∷ ls)
    of_late true own is e rest = later e rest
    of_late false None is e rest = later e rest
    of_late false (Some own) is e rest =
        let first : Export = record { image = n; offset = own } in
        let export : Export = record { image = k; offset = at } in
        let same : first ≡ export = same_Some first export e in
        let number : n ≡ k = ap (λ (x : Export). x.image) same in
        let offset : own ≡ at = ap (λ (x : Export). x.offset) same in
        record { index = 0; number = omega (arith, number); image = l; there = refl; shared = is ∙ ap Some offset }

-- the variable of an import
module _ (ls : List Linking) (history : List Event) (l : Linking) (x : Instance) (is : IsKnown ls history x)
    (together : AreTogether ls) (last : LateLast (map (λ (l : Linking). l.kind) ls))
    (at : at_number ls x.image ≡ Some l) where
  one_of : (P : Linking → Type 0) → All P ls → (i : ℕ) (image : Linking) → slice_get ls i ≡ Some image → P image
  one_of P all i image there =
      All-contains P ls image all
      (i, slice_get_within ls i image there, get_or_from_slice_get ls i image image there)

  -- its offset is in the segment
  near : (image : Linking) (found : SymbolRef) (name : List ℕ) (i : ℕ) → slice_get ls i ≡ Some image
      → definition_of image.objects name ≡ Some found → shared_offset name (image_of image) ≡ Some (offset image found)
      → offset image found ≤ 2 ^ 20
  near image found name i there defined shared =
      let given = one_of IsGiven together.given i image there in
      let links = one_of Links together.links i image there in
      let within = subst (λ d. IfSome d (IsWithin image.objects)) defined (definition_within image.objects name) in
      let found_at : export_at image (Some found) ≡ Some (offset image found) =
      ap (export_at image) (sym defined) ∙ sym (export_is image given name) ∙ shared in
      let tls = tls_of (is_exported_by image.objects (Some found)) refl found_at in
      let inside = offset_inside image given links.sound.limits.lawful found within tls in
      let small = links.sound.limits.lawful.small_tls in
      omega (arith, inside, small)
    where
      tls_of : (t : Bool) → is_exported_by image.objects (Some found) ≡ t
          → (if t then Some (offset image found) else None) ≡ Some (offset image found)
          → is_tls_symbol (object image found.object) found.symbol ≡ true
      tls_of true exports e =
          (and_parts (is_tls_symbol (object image found.object) found.symbol)
          (is_visible (symbol_visibility (object image found.object) found.symbol)) exports).0
      tls_of false exports e = absurd (cc)

  pub shared : (o : ℕ) (r : Relocation) (k : ℕ) → binding l o r ≡ Some (Startup k)
      → IsShared ls (symbol_name (object l o) r.symbol) k
  unfolding export_of
  shared o r k bound =
      let name = symbol_name (object l o) r.symbol in
      let f = imports_found ls l x.image o k r together last at bound in
      let e = exported name 1 k (offset f.image f.found) ls f.shared in
      let number = e.number in
      let here : at_number ls k ≡ Some e.image = (let index : k ≡ suc e.index = omega (arith, number) in
      ap (at_number ls) index ∙ e.there) in
      let same : e.image ≡ f.image = same_Some e.image f.image (sym here ∙ f.at) in
      let low = early_image ls history l x is k f.image f.at f.early in
      let s = starts ls history l x is k low.0 low.1 in
      let small = near f.image f.found name e.index (e.there ∙ ap Some same) f.defined
      (ap (λ (m : Linking). shared_offset name (image_of m)) (sym same) ∙ e.shared) in
      record {
        link = f.image;
        found = f.found;
        at = f.at;
        defined = f.defined;
        export = f.shared;
        some = low.0;
        early = low.1;
        low = s.few;
        small = omega (arith, small);
      }
