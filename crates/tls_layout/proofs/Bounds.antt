-- Addresses are small, and none lies below the base of its image.
use Rattle.std.proofs.Common.{◌≡◌, ◌+◌, ◌-◌, ◌≤◌, ◌^◌, ℕ, Some, ap, ◌∙◌, arith}
use Rattle.object_faults.specs.declared.class.SectionClass.{SectionClass}
use Rattle.object_faults.specs.declared.class.SectionClass.TheVariants.{Executable, ReadOnly, Tls, Writable}
use Rattle.link_faults.specs.declared.image_kind.ImageKind.{ImageKind}
use Rattle.link_faults.specs.declared.image_kind.ImageKind.TheVariants.{Exe, Pie, Start, Late}
use Rattle.link_faults.specs.ImageKinds.{base_of}
use Rattle.tls_layout.specs.Places.{extent_for}
use Rattle.tls_layout.specs.Places.{address_of, address_at, room, zero_data, IsLawful}
use Rattle.tls_layout.specs.Sections.{Layout}
use Rattle.tls_layout.proofs.LawsOfPlaces.{found_at, placed, lie_in_classes}
use Rattle.tls_layout.proofs.Together.{page_limit, page_up-above, ascend, rise, Ascend, Rise}

pub base_small : (kind : ImageKind) → base_of kind ≤ 2 ^ 22
base_small Exe = omega arith
base_small Pie = omega arith
base_small Start = omega arith
base_small Late = omega arith

room_small : (p : Layout) → IsLawful p → room p.kind p.sections ≤ base_of p.kind + 2 ^ 24
unfolding room
room_small p lawful = let span = lawful.small_span in page_limit p.kind (zero_data p.kind p.sections).end (omega arith)

pub address_bounds : (p : Layout) (o s n : ℕ) → address_of p o s ≡ Some n → IsLawful p
    → (base_of p.kind ≤ n) × (n ≤ base_of p.kind + 2 ^ 24) × (base_of p.kind ≤ 2 ^ 22)
unfolding address_of
address_bounds p o s n e lawful =
    let x = found_at p o s (address_at p.kind p.sections) n e in
    let y = placed p.kind p.sections x.place n x.gives in
    let lies = lie_in_classes p lawful o s n y.class (ap (λ c. c.class) x.named ∙ y.is) e in
    let top = room_small p lawful in
    (lies.above, omega (arith, lies.below, top), base_small p.kind)

-- a class ends at or above the base, and within the limit
pub extent_bounds : (class : SectionClass) (p : Layout) → IsLawful p
    → (base_of p.kind ≤ (extent_for class p).end) × ((extent_for class p).end ≤ base_of p.kind + 2 ^ 24)
    × (base_of p.kind ≤ 2 ^ 22)
extent_bounds class p lawful =
    by_class class (rise p.kind p.sections) (ascend p.kind p.sections) lawful.small_span (base_small p.kind)
  where
    by_class : (class : SectionClass) → Rise p.kind p.sections → Ascend p.kind p.sections
        → (zero_data p.kind p.sections).end - base_of p.kind ≤ 2 ^ 24 → base_of p.kind ≤ 2 ^ 22
        → (base_of p.kind ≤ (extent_for class p).end) × ((extent_for class p).end ≤ base_of p.kind + 2 ^ 24)
        × (base_of p.kind ≤ 2 ^ 22)
    by_class Executable r w span low = (omega arith, omega arith, low)
    by_class ReadOnly r w span low = (omega arith, omega arith, low)
    by_class (Tls initial) r w span low = (omega arith, omega arith, low)
    by_class (Writable initial) r w span low = (omega arith, omega arith, low)

-- the room begins at or above the base
pub room_above : (p : Layout) → base_of p.kind ≤ room p.kind p.sections
unfolding room
room_above p =
    let w = ascend p.kind p.sections in
    let over = page_up-above (zero_data p.kind p.sections).end in
    omega arith
