-- Sections that have a place are kept, and what lies in them is small.
use Rattle.std.proofs.Common.{◌≡◌, ◌<◌, ◌≤◌, ◌+◌, ◌^◌, ◌||◌, ℕ, Bool, List, [], ◌∷◌, map, length, Option, Some, None}
use Rattle.std.proofs.Common.{refl, sym, ap, subst, ◌∙◌, arith, Fits, w64}
use Rattle.std.specs.Prelude.{IsSome, unwrap_or}
use Rattle.std.specs.List.{list_any}
use Rattle.object_faults.specs.declared.class.SectionClass.{SectionClass}
use Rattle.elf_object.specs.declared.part.SymbolPart.{SymbolPart}
use Rattle.elf_object.specs.declared.symbol.SymbolPlace.TheVariants.{InSection}
use Rattle.elf_object.specs.Faults.{IsObject}
use Rattle.elf_object.specs.Lawful.{IsPlaced}
use Rattle.elf_object.specs.LawsOfSections.{kept_as}
use Rattle.elf_object.specs.Lent.{section_class, symbol_place, symbol_value}
use Rattle.elf_object.specs.LentLaws.{IsSymbolPart}
use Rattle.tls_layout.proofs.Bounds.{address_bounds}
use Rattle.tls_layout.specs.declared.sections.Section.{Section}
use Rattle.tls_layout.specs.Places.{address_at, address_of, class_of, offset_at, offset_by, tls_offset_of, IsLawful}
use Rattle.tls_layout.specs.Sections.{section_at, Layout}
use Rattle.tls_layout.proofs.LawsOfPlaces.{found_at, placed}
use Rattle.tls_layout.proofs.LawsOfSections.{finds_sections}
use Rattle.tls_layout.proofs.LawsOfTls.{lie_in_segment}
use Rattle.tls_symbols.specs.Bindings.{object_at}
use Rattle.link_needs.specs.Linking.{Linking, layout}

-- what has an address has a class
class_with_address : (p : Layout) (o s address : ℕ) → address_of p o s ≡ Some address → IsSome (class_of p o s)
unfolding address_of
class_with_address p o s address e =
    let x = found_at p o s (address_at p.kind p.sections) address e in
    let at = placed p.kind p.sections x.place address x.gives in
    rw (ap (λ section. section.class) x.named ∙ at.is) refl

class_with_offset_at : (class : Option SectionClass) (sections : List Section) (k offset : ℕ)
    → offset_by class sections k ≡ Some offset → IsSome class
class_with_offset_at None sections k offset e = absurd (cc)
class_with_offset_at (Some c) sections k offset e = refl

-- so has what has an offset
class_with_offset : (p : Layout) (o s offset : ℕ) → tls_offset_of p o s ≡ Some offset → IsSome (class_of p o s)
unfolding tls_offset_of offset_at
class_with_offset p o s offset e =
    let x = found_at p o s (offset_at p.sections) offset e in
    subst IsSome (ap (λ section. section.class) (sym x.named))
    (class_with_offset_at (section_at p.sections x.place).class p.sections x.place offset x.gives)

-- an address lies below the end of all images
pub address_small : (p : Layout) (o s address : ℕ) → IsLawful p → address_of p o s ≡ Some address → address ≤ 2 ^ 25
address_small p o s address lawful e = omega (arith, address_bounds p o s address e lawful)

pub offset_small : (p : Layout) (o s offset : ℕ) → IsLawful p → tls_offset_of p o s ≡ Some offset → offset ≤ 2 ^ 20
offset_small p o s offset lawful e = omega (arith, (lie_in_segment p lawful o s offset e).inside, lawful.small_tls)

-- a value fits behind the place of its section, which is far below the limit, if it is small where there is a place
fits : (found : Option ℕ) (class : Option SectionClass) (place value : ℕ)
    → ((x : ℕ) → found ≡ Some x → IsSome class) → (IsSome class → value ≤ 2 ^ 20) → Fits w64 value
    → place ≡ unwrap_or found 0 → place ≤ 2 ^ 25 → Fits w64 (place + value)
fits None class place value classed small below is inside = omega (arith, below, is)
fits (Some x) class place value classed small below is inside = omega (arith, small (classed x refl), inside)

module _ (p : Layout) (o s place value : ℕ) (small : IsSome (class_of p o s) → value ≤ 2 ^ 20)
    (below : Fits w64 value) where
  pub fits_at_address : place ≡ unwrap_or (address_of p o s) 0 → place ≤ 2 ^ 25 → Fits w64 (place + value)
  fits_at_address = fits (address_of p o s) (class_of p o s) place value (class_with_address p o s) small below

  pub fits_at_offset : place ≡ unwrap_or (tls_offset_of p o s) 0 → place ≤ 2 ^ 20 → Fits w64 (place + value)
  fits_at_offset is inside =
      fits (tls_offset_of p o s) (class_of p o s) place value (class_with_offset p o s) small below is
      (omega (arith, inside))

-- the value of a symbol in a section that linking keeps is small
value_small : (b : List ℕ) (e s : ℕ) (class : Option SectionClass) → IsObject b → IsPlaced b e
    → symbol_place b e ≡ InSection s → section_class b s ≡ class → IsSome class → symbol_value b e ≤ 2 ^ 20
value_small b e s None object placed at is some = absurd (cc)
value_small b e s (Some class) object placed at is some =
    omega (arith, placed.inside s at (rw is refl), (kept_as b object s class is).small)

-- so is that of what an object lends of it
pub part_small : (l : Linking) (o e s : ℕ) (b : List ℕ) (part : SymbolPart) → o < length l.objects
    → b ≡ object_at l.objects o → IsObject b → IsPlaced b e → IsSymbolPart b e part → part.place ≡ InSection s
    → IsSome (class_of (layout l) o s) → part.value ≤ 2 ^ 20
part_small l o e s b part there is object placed part_is at some =
    rw part_is.value_is
    (value_small b e s (class_of (layout l) o s) object placed (sym part_is.place_is ∙ at)
    (ap (λ b. section_class b s) is ∙ sym (finds_sections l.kind l.objects o s there).class_is) some)

-- one of the elements passes as they are seen
pub any_seen : {X Y : Type 0} (v : X → Y) (t : Y → Bool) (xs : List X)
    → list_any t (map v xs) ≡ list_any (λ x. t (v x)) xs
any_seen v t [] = refl
any_seen v t (x ∷ xs) = ap (λ (b : Bool). t (v x) || b) (any_seen v t xs)
