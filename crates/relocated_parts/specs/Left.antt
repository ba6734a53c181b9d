-- What a loader leaves at each address of a part, by the digits of words: those of a relocation's words where one
-- writes, and elsewhere the part's own byte (psABI, "Relocation Types"; Drepper, "ELF Handling For Thread-Local
-- Storage", section 4.4). No list is written over another here.
use Rattle.std.specs.Prelude.{◌+◌, ◌-◌, ◌*◌, ◌^◌, ◌&&◌, ℕ, ℤ, Bool, Option, Some, None, nat_le, nat_lt, if◌then◌else◌}
use Rattle.std.specs.Int.{w64, cast_unsigned}
use Rattle.std.specs.List.{find}
use Rattle.address_map.specs.Map.{descriptor_place, getter_place}
use Rattle.guest_arithmetic.specs.Values.{digit}
use Rattle.image_faults.specs.declared.loader_kind.LoaderKind.{LoaderKind}
use Rattle.image_faults.specs.declared.loader_kind.LoaderKind.TheVariants.{JumpSlot, Relative, Module, ModuleOffset}
use Rattle.image_faults.specs.declared.loader_kind.LoaderKind.TheVariants.{ThreadOffset, Descriptor}
use Rattle.image_file.specs.declared.relocation.ImageRelocation.{ImageRelocation}
use Rattle.image_file.specs.Spelled.{Spelled}
use Rattle.image_rules.specs.declared.places.FileKind.{FileKind}
use Rattle.image_writer.specs.Linkable.{width}
use Rattle.loaded_modules.specs.declared.instance.Instance.{Instance}
use Rattle.loaded_modules.specs.Images.{JobImages}
use Rattle.loaded_modules.specs.Loader.{bias, target_of}

-- ** words

-- id, offset, distance: the module id that a relocation asks for, the offset in that module's blocks, and the distance
-- from these blocks up to the thread pointer
module _ (kind : FileKind) (x : Instance) (id offset distance : ℕ) where
  -- the first word at its address; eight digits of it count, so it is taken modulo 2^64
  abbrev pub first_word : LoaderKind → ℤ → ℕ
  first_word JumpSlot addend = getter_place
  first_word Relative addend = bias kind x.number + cast_unsigned w64 addend
  first_word Module addend = id
  first_word ModuleOffset addend = offset
  first_word ThreadOffset addend = offset + (2 ^ 64 - distance)
  first_word Descriptor addend = descriptor_place

-- the second, which only a descriptor has
abbrev pub second_word : ℕ → ℕ → ℕ
second_word id offset = id * 2 ^ 32 + offset

-- byte k of two words
abbrev pub digit_of_two : ℕ → ℕ → ℕ → ℕ
digit_of_two first second k = if nat_lt k 8 then digit first k else digit second (k - 8)

-- ** bytes

-- the relocation writes the byte at this address
abbrev pub is_written_at : ℕ → ImageRelocation → Bool
is_written_at address r = nat_le r.place address && nat_lt address (r.place + width r.kind)

module _ (m : JobImages) (image : Spelled) (x : Instance) where
  -- byte k of the words that a relocation writes
  abbrev pub written_byte : ImageRelocation → ℕ → ℕ
  written_byte r k =
      let t = target_of m image x r in
      digit_of_two (first_word image.kind x t.id t.offset t.distance r.kind r.addend) (second_word t.id t.offset) k

  abbrev pub byte_by : ℕ → ℕ → Option ImageRelocation → ℕ
  byte_by address own None = own
  byte_by address own (Some r) = written_byte r (address - r.place)

  -- the byte at an address; `own` is the part's own byte there
  unfoldable pub left_byte : ℕ → ℕ → ℕ
  left_byte address own = byte_by address own (find (is_written_at address) image.relocations)
