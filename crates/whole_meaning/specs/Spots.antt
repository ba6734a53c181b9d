-- The addresses of the sections of an image's objects, and of its instances.
use Rattle.std.specs.Prelude.{ℕ, ◌+◌, ◌-◌, ◌^◌, ◌&&◌, Bool, List, [], ◌∷◌, Option, None, nat_le, nat_lt, unwrap_or}
use Rattle.std.specs.Prelude.{option_map, if◌then◌else◌}
use Rattle.std.specs.List.{find, range_with_len}
use Rattle.std.specs.Option.{option_or}
use Rattle.address_map.specs.Map.{moved_bias}
use Rattle.elf_object.specs.Lent.{section_class, section_size}
use Rattle.elf_object.specs.Object.{section_count}
use Rattle.link_faults.specs.declared.image_kind.ImageKind.{ImageKind}
use Rattle.link_faults.specs.ImageKinds.{base_of, is_moved}
use Rattle.link_needs.specs.Linking.{Linking, layout}
use Rattle.object_faults.specs.declared.class.SectionClass.{SectionClass}
use Rattle.tls_layout.specs.Places.{address_of, room}
use Rattle.tls_layout.specs.Sections.{Layout, is_class}

-- ** instances

-- the load bias of an instance: its distance from where its image was laid out
abbrev pub bias_of : ImageKind → ℕ → ℕ
bias_of kind number = if is_moved kind then moved_bias number else 0

-- whether an address is in the room of an instance: from the end of all of its sections to the end of its addresses
unfoldable pub in_room : Linking → ℕ → ℕ → Bool
in_room l bias place =
    nat_le (room (layout l).kind (layout l).sections + bias) place && nat_lt place (base_of l.kind + 2 ^ 26 + bias)

-- ** sections

-- a byte of a section
pub record Spot : Type 0 where
  pub object : ℕ
  pub section : ℕ
  pub within : ℕ

abbrev pub begin_of : Layout → ℕ → ℕ → ℕ
begin_of p o s = unwrap_or (address_of p o s) 0

-- section s of object o is of the class, and holds the address
abbrev pub stands_at : Layout → SectionClass → ℕ → List ℕ → ℕ → ℕ → Bool
stands_at p class o b address s =
    is_class class (section_class b s)
    && (nat_le (begin_of p o s) address && nat_lt address (begin_of p o s + section_size b s))

abbrev pub spot_at : Layout → ℕ → ℕ → ℕ → Spot
spot_at p o address s = record { object = o; section = s; within = address - begin_of p o s }

-- the section that holds it, if there is one, of the objects from number o on
abbrev pub spot_from : Layout → SectionClass → ℕ → List (List ℕ) → ℕ → Option Spot
spot_from p class o [] address = None
spot_from p class o (b ∷ more) address =
    option_or
    (option_map (spot_at p o address) (find (stands_at p class o b address) (range_with_len 0 (section_count b))))
    (spot_from p class (o + 1) more address)

-- the byte of a section at an address of the class; there is none between two sections
unfoldable pub spot_in : Linking → SectionClass → ℕ → Option Spot
spot_in l class address = spot_from (layout l) class 0 l.objects address

-- the byte of a section at an address in an image with this load bias; there is none below the bias
abbrev pub moved_spot : Linking → SectionClass → ℕ → ℕ → Option Spot
moved_spot l class bias place = if nat_lt place bias then None else spot_in l class (place - bias)
