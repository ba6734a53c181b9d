-- What the loader may rely on of a sequence's variable: its name is imported, or it lies in the segment.
use Rattle.std.proofs.Common.{◌≡◌, ◌∙◌, ◌+◌, ◌<◌, ◌≤◌, ◌==◌, ◌&&◌, ℕ, zero, suc, Bool, true, false, not, List, [], ◌∷◌}
use Rattle.std.proofs.Common.{length, Option, Some, None, IsSome, refl, sym, ap, subst, arith}
use Rattle.std.specs.Prelude.{IsSomeAnd, slice_get, slice_index_or, unwrap_or}
use Rattle.std.specs.List.{Contains, flat_map}
use Rattle.std.specs.Option.{IfSome}
use Rattle.std.proofs.lemmas.Bool.Decides.{nat_tests}
use Rattle.std.proofs.lemmas.List.{length-append}
use Rattle.object_faults.specs.declared.class.SectionClass.{SectionClass}
use Rattle.object_faults.specs.declared.class.SectionClass.TheVariants.{Tls}
use Rattle.elf_object.specs.declared.relocation.Relocation.{Relocation}
use Rattle.elf_object.specs.declared.symbol.SymbolPlace.{SymbolPlace}
use Rattle.elf_object.specs.declared.symbol.SymbolPlace.TheVariants.{Undefined, Absolute, InSection}
use Rattle.elf_object.specs.Laws.{table_of_kept}
use Rattle.elf_object.specs.LawsOfParts.{placed}
use Rattle.elf_object.specs.Lent.{kept_relocation_table, relocation_target, relocations, relocations_in, section_class}
use Rattle.elf_object.specs.Lent.{symbol_place, symbol_value}
use Rattle.elf_object.specs.Object.{section_count}
use Rattle.elf_object.specs.Parts.{symbol_count}
use Rattle.sequence_forms.specs.declared.forms.Form.{Form}
use Rattle.sequence_forms.specs.declared.forms.Form.TheVariants.{Gd}
use Rattle.sequence_forms.specs.declared.places.Site.{Site}
use Rattle.sequence_match.specs.Faults.{IsSite}
use Rattle.sequence_forms.specs.Forms.{row}
use Rattle.sequence_match.proofs.Sections.{target_of_table}
use Rattle.link_faults.specs.declared.fault.LinkFaultKind.TheVariants.{NotTls}
use Rattle.tls_layout.specs.Places.{tls_offset_of, tls_size, IsLawful}
use Rattle.tls_layout.proofs.LawsOfSections.{finds_sections}
use Rattle.tls_layout.proofs.LawsOfTls.{have_offsets, lie_in_segment}
use Rattle.link_faults.specs.declared.binding.Binding.{Binding}
use Rattle.link_faults.specs.declared.binding.Binding.TheVariants.{Here}
use Rattle.link_faults.specs.declared.symbol_ref.SymbolRef.{SymbolRef}
use Rattle.tls_symbols.specs.Bindings.{is_tls_symbol, IsBindingWithin}
use Rattle.elf_object.specs.Lent.{is_tls_class, is_tls_place}
use Rattle.tls_symbols.specs.Definitions.{IsWithin}
use Rattle.tls_symbols.specs.Faults.{differ, held_in, is_faulty, is_mismatched, is_tls_kind, names_symbol, Stands}
use Rattle.tls_symbols.proofs.Within.{binding_within}
use Rattle.dynamic_symbols.specs.Names.{distinct, imported_at, imported_in, imports as imports_of}
use Rattle.sequence_match.specs.Sites.{first_of}
use Rattle.dynamic_symbols.specs.Names.{is_import}
use Rattle.dynamic_symbols.proofs.Foreign.{bindings_by_use}
use Rattle.link_needs.specs.Refusals.{by_storage, asks_storage}
use Rattle.link_needs.specs.Linking.{Linking, binding, layout, object, offset, sites_at}
use Rattle.link_tables.specs.Dynamic.{imports}
use Rattle.link_tables.specs.Faults.{IsSound}
use Rattle.link_needs.specs.Given.{IsGiven}
use Rattle.tls_symbols.specs.Definitions.{flat_map_from}
use Rattle.link_needs.specs.Linking.{placed_value}

-- how many bytes the segment has
abbrev pub segment : Linking → ℕ
segment l = tls_size (layout l).sections

-- ** where a site's first relocation is held

-- a relocation of the object, by the section that holds it
pub record IsHeld (b : List ℕ) (x : Relocation) : Type 0 where
  pub table : ℕ
  pub entry : ℕ
  pub above : 0 < table
  pub below : table < section_count b
  pub there : slice_get (held_in b table) entry ≡ Some x

-- a number above zero is not zero
pub not_zero : (n : ℕ) → 0 < n → (n == 0) ≡ false
not_zero n h = grind (arith, nat_tests)

pub held_of : (b : List ℕ) (t r : ℕ) → 0 < t → relocation_target b r ≡ t → held_in b r ≡ relocations b t
unfolding held_in
held_of b t r above target = rw (target, not_zero t above) refl

-- a section that has relocations has a table of them
pub has_table : (b : List ℕ) (r e : ℕ) (x : Relocation) → slice_get (relocations_in b r) e ≡ Some x → 0 < r
unfolding relocations_in
has_table b zero e x is = absurd (cc)
has_table b (suc r) e x is = omega arith

pub held : (b : List ℕ) (t e : ℕ) (x : Relocation) → slice_get (relocations b t) e ≡ Some x → IsHeld b x
held b t e x is =
    let r = kept_relocation_table b t in
    let some = has_table b r e x is in
    let table = table_of_kept b t some in
    record {
      table = r;
      entry = e;
      above = some;
      below = table.1.0.1;
      there = ap (λ xs. slice_get xs e) (held_of b t r table.0.0.0 (target_of_table b t some)) ∙ is;
    }

-- what is charged nowhere is not charged of it
pub passes : (b : List ℕ) (x : Relocation) (test : Relocation → Bool) (h : IsHeld b x) → test x ≡ true
    → IsSomeAnd (slice_get (held_in b h.table) h.entry) (λ r. test r ≡ true)
passes b x test h is =
    let Q : Option Relocation → Type 0 = λ o. IsSomeAnd o (λ r. test r ≡ true) in
    subst Q (sym h.there) is

-- ** offsets

pub class_is : (class : Option SectionClass) → is_tls_class class ≡ true
    → (initial : Bool) × (class ≡ Some (Tls initial))
class_is (Some (Tls initial)) h = (initial, refl)
class_is class h = absurd (cc)

pub has_value : {X : Type 0} (o : Option X) → IsSome o → (x : X) × (o ≡ Some x)
has_value None h = absurd (cc)
has_value (Some x) h = (x, refl)

module _ (l : Linking) (given : IsGiven l) (lawful : IsLawful (layout l)) where
  pub in_section : (found : SymbolRef) → IsWithin l.objects found → (s : ℕ)
      → symbol_place (object l found.object) found.symbol ≡ InSection s
      → is_tls_class (section_class (object l found.object) s) ≡ true
      → unwrap_or (tls_offset_of (layout l) found.object s) 0 + symbol_value (object l found.object) found.symbol
      ≤ segment l
  in_section found within s at is =
      let b = object l found.object in
      let class = class_is (section_class b s) is in
      let some : IsSome (section_class b s) = rw class.1 refl in
      let places = placed b (given.are_objects found.object [] within.object) found.symbol within.symbol in
      let inside = places.inside s at some in
      let section = finds_sections l.kind l.objects found.object s within.object in
      let size = section.size_is some in
      let has = has_value (tls_offset_of (layout l) found.object s)
      (have_offsets (layout l) found.object s class.0 (section.class_is ∙ class.1)) in
      let lies = lie_in_segment (layout l) lawful found.object s has.0 has.1 in
      let first : unwrap_or (tls_offset_of (layout l) found.object s) 0 ≡ has.0 = ap (λ o. unwrap_or o 0) has.1 in
      omega (arith, inside, size, lies.inside, first)

  pub offset_inside : (found : SymbolRef) → IsWithin l.objects found
      → is_tls_symbol (object l found.object) found.symbol ≡ true → offset l found ≤ segment l
  unfolding offset
  offset_inside found within is = by (symbol_place (object l found.object) found.symbol) refl is
    where
      by : (place : SymbolPlace) → symbol_place (object l found.object) found.symbol ≡ place
          → is_tls_place (object l found.object) place ≡ true
          → placed_value (tls_offset_of (layout l) found.object) place
          (symbol_value (object l found.object) found.symbol) ≤ segment l
      by Undefined at h = absurd (cc)
      by Absolute at h = absurd (cc)
      by (InSection s) at h = in_section found within s at h

-- ** imports

some_flat : (f : Site → List (List ℕ)) (ys : List Site) (k : ℕ) (site : Site) → k < length ys
    → slice_index_or ys k site ≡ site → 0 < length (f site) → 0 < length (flat_map f ys)
some_flat f [] k site h is some = absurd (omega arith)
some_flat f (y ∷ ys) zero site h is some =
    let here : length (f site) ≡ length (f y) = ap (λ x. length (f x)) (sym is) in
    omega (arith, length-append (f y) (flat_map f ys), here, some)
some_flat f (y ∷ ys) (suc k) site h is some =
    omega (arith, length-append (f y) (flat_map f ys), some_flat f ys k site (omega arith) is some)

some_distinct : (xs : List (List ℕ)) → 0 < length xs → 0 < length (distinct xs)
some_distinct [] h = absurd (omega arith)
some_distinct (x ∷ xs) h = omega arith

module _ (objects : List (List ℕ)) (startup : List (List (List ℕ))) where
  one_name : (o : ℕ) (site : Site) → is_import objects startup o site ≡ true
      → 0 < length (imported_at objects startup o site)
  one_name o site is = rw is (omega arith)

  some_from : (n : ℕ) (sites : List (List Site)) (o : ℕ) (site : Site) → o < length sites
      → Contains (slice_index_or sites o []) site → is_import objects startup (n + o) site ≡ true
      → 0 < length (flat_map_from (imported_in objects startup) n sites)
  unfolding imported_in
  some_from n [] o site h there is = absurd (omega arith)
  some_from n (own ∷ more) zero site h there is =
      let at : n + 0 ≡ n = omega arith in
      let here = some_flat (imported_at objects startup n) own there.0 site there.1 there.2
      (one_name n site (ap (λ m. is_import objects startup m site) (sym at) ∙ is)) in
      let both = length-append (imported_in objects startup n own)
      (flat_map_from (imported_in objects startup) (n + 1) more) in
      omega (arith, both, here)
  some_from n (own ∷ more) (suc o) site h there is =
      let at : n + 1 + o ≡ n + suc o = omega arith in
      let here = ap (λ m. is_import objects startup m site) at ∙ is in
      let rest = some_from (n + 1) more o site (omega arith) there here in
      let both = length-append (imported_in objects startup n own)
      (flat_map_from (imported_in objects startup) (n + 1) more) in
      omega (arith, both, rest)

pub has_import : (l : Linking) (o : ℕ) (site : Site) → o < length l.sites → Contains (sites_at l o) site
    → is_import l.objects l.startup o site ≡ true → 0 < length (imports l)
unfolding imports_of
has_import l o site h there is =
    let at : 0 + o ≡ o = omega arith in
    some_distinct (flat_map_from (imported_in l.objects l.startup) 0 l.sites)
    (some_from l.objects l.startup 0 l.sites o site h there (ap (λ m. is_import l.objects l.startup m site) at ∙ is))

-- ** what is known of a site

-- the variable of a site is thread-local and in the segment, where it is the image's own; there is a segment where the
-- site asks for storage; and an import has its name
pub record IsKnown (l : Linking) (o : ℕ) (site : Site) : Type 0 where
  pub inside : (found : SymbolRef) → binding l o (first_of site) ≡ Some (Here found) → offset l found ≤ segment l
  pub stored : asks_storage l.kind (row site.form).first (binding l o (first_of site)) ≡ true → 0 < segment l
  pub imported : is_import l.objects l.startup o site ≡ true → 0 < length (imports l)

-- the types of first relocations are thread-local
first_is_tls : (form : Form) → (names_symbol (row form).first ≡ true) × (is_tls_kind (row form).first ≡ true)
unfolding row
first_is_tls Gd = (refl, refl)
first_is_tls form = (refl, refl)

module _ (l : Linking) (sound : IsSound l) (o : ℕ) (there : o < length l.objects) where
  -- a segment that is asked for has bytes
  storage_known : (x : Relocation) → IsHeld (object l o) x → asks_storage l.kind x.kind (binding l o x) ≡ true
      → 0 < segment l
  storage_known x h asks = by (segment l == 0) refl
    where
      above : (n : ℕ) → (n == 0) ≡ false → 0 < n
      above n e = grind (arith, nat_tests)

      by : (t : Bool) → (segment l == 0) ≡ t → 0 < segment l
      by false e = above (segment l) e
      by true e =
          let charged : by_storage l.objects l.startup l.kind (segment l) o x ≡ true =
          ap (λ t. t && asks_storage l.kind x.kind (binding l o x)) e ∙ asks in
          absurd (sound.storage.nowhere o h.table h.entry (
            there,
            h.above,
            h.below,
            passes (object l o) x (by_storage l.objects l.startup l.kind (segment l) o) h charged,
          ))

  -- what a relocation of a thread-local type names is thread-local
  tls_known : (x : Relocation) → IsHeld (object l o) x → names_symbol x.kind ≡ true → is_tls_kind x.kind ≡ true
      → (found : SymbolRef) → binding l o x ≡ Some (Here found)
      → is_tls_symbol (object l found.object) found.symbol ≡ true
  unfolding Stands
  tls_known x h names tls found is = by (is_tls_symbol (object l found.object) found.symbol) refl
    where
      mismatched : is_tls_symbol (object l found.object) found.symbol ≡ false
          → is_faulty NotTls l.objects l.startup o x ≡ true
      mismatched e =
          ap (λ t. t && is_mismatched l.objects x.kind (binding l o x)) names
          ∙ ap (is_mismatched l.objects x.kind) is
          ∙ ap (λ t. differ t (is_tls_symbol (object l found.object) found.symbol)) tls
          ∙ ap not e

      by : (t : Bool) → is_tls_symbol (object l found.object) found.symbol ≡ t
          → is_tls_symbol (object l found.object) found.symbol ≡ true
      by true e = e
      by false e =
          absurd (sound.resolved NotTls (omega arith) o h.table h.entry (
            there,
            h.above,
            h.below,
            passes (object l o) x (is_faulty NotTls l.objects l.startup o) h (mismatched e),
          ))

within_of : (objects : List (List ℕ)) (bound : Option Binding) (found : SymbolRef) → bound ≡ Some (Here found)
    → IfSome bound (IsBindingWithin objects) → IsWithin objects found
within_of objects bound found is h =
    let P : Option Binding → Type 0 = λ o. IfSome o (IsBindingWithin objects) in subst P is h

pub known : (l : Linking) → IsGiven l → IsSound l → (o : ℕ) (site : Site) → o < length l.objects
    → Contains (sites_at l o) site → IsSite (object l o) site → site.symbol < symbol_count (object l o)
    → IsKnown l o site
known l given sound o site there among is symbol =
    let first = is.1.first in
    let x = first.0 in
    let h = held (object l o) site.section is.0 x first.1 in
    let bound : binding l o (first_of site) ≡ binding l o x =
    bindings_by_use l.objects l.startup o (first_of site) x (sym first.2.kind_is) first.3 in
    let tls = first_is_tls site.form in
    record {
      inside = λ found at.
          let within = within_of l.objects (binding l o (first_of site)) found at
          (binding_within l.objects l.startup o (first_of site) there symbol) in
          offset_inside l given sound.limits.lawful found within
          (tls_known l sound o there x h (ap names_symbol first.2.kind_is ∙ tls.0)
          (ap is_tls_kind first.2.kind_is ∙ tls.1) found (sym bound ∙ at));
      stored = λ asks. storage_known l sound o there x h
          (ap (λ kind. asks_storage l.kind kind (binding l o x)) first.2.kind_is
          ∙ ap (asks_storage l.kind (row site.form).first) (sym bound) ∙ asks);
      imported = has_import l o site (omega (arith, given.each, there)) among;
    }
