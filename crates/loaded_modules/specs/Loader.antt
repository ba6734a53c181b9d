-- What a loader makes of an image: where it lies, the words of its relocations (psABI, "Relocation Types";
-- Drepper, "ELF Handling For Thread-Local Storage", section 4.4), and the TLS block that each thread begins with
-- (gABI, "Program Loading").
use Rattle.std.specs.Prelude.{◌+◌, ◌-◌, ◌*◌, ◌%◌, ◌^◌, ◌==◌, ◌&&◌, ℕ, Bool, suc, List, [], ◌∷◌, ◌++◌}
use Rattle.std.specs.Prelude.{drop, fold, length, replicate, nat_le, Option, Some, None, slice_get, slice_range}
use Rattle.std.specs.Prelude.{ℤ, option_map, unwrap_or, if◌then◌else◌}
use Rattle.std.specs.Int.{w64, cast_unsigned}
use Rattle.std.specs.List.{find}
use Rattle.std.specs.Option.{option_or}
use Rattle.std.specs.Str.{bytes_eq}
use Rattle.address_map.specs.Map.{descriptor_place, getter_place, moved_bias}
use Rattle.elf_records.specs.Fields.{bytes_of, splice}
use Rattle.image_faults.specs.declared.loader_kind.LoaderKind.{LoaderKind}
use Rattle.image_faults.specs.declared.loader_kind.LoaderKind.TheVariants.{JumpSlot, Relative, Module, ModuleOffset}
use Rattle.image_faults.specs.declared.loader_kind.LoaderKind.TheVariants.{ThreadOffset, Descriptor}
use Rattle.image_file.specs.declared.part.TlsPart.{TlsPart}
use Rattle.image_file.specs.declared.relocation.ImageRelocation.{ImageRelocation}
use Rattle.image_file.specs.declared.symbol.ImageSymbol.{ImageSymbol}
use Rattle.elf_records.specs.Symbols.{is_tls, is_visible}
use Rattle.image_file.specs.Spelled.{Part, Spelled}
use Rattle.image_rules.specs.declared.places.FileKind.{FileKind}
use Rattle.image_rules.specs.declared.places.FileKind.TheVariants.{Exe, Pie, Module as ModuleFile}
use Rattle.link_faults.specs.declared.image_kind.ImageKind.{ImageKind}
use Rattle.loaded_modules.specs.declared.exports.Export.{Export}
use Rattle.loaded_modules.specs.declared.instance.Instance.{Instance}
use Rattle.loaded_modules.specs.declared.relocating.Target.{Target}
use Rattle.loaded_modules.specs.Images.{JobImages, image_at, is_late, static_offset}
use Rattle.std.specs.Prelude.{map}
use Rattle.job_text.specs.Jobs.{JobParts}
use Rattle.link_faults.specs.declared.image_kind.ImageKind.TheVariants.{Exe, Pie}

-- ---- where an instance lies

-- how far a loader moves an image: a program at fixed addresses not at all, each other instance to a range of its own
unfoldable pub bias : FileKind → ℕ → ℕ
bias Exe instance = 0
bias Pie instance = moved_bias instance
bias ModuleFile instance = moved_bias instance

-- ---- thread-local symbols of startup images

-- a symbol that other images may name
abbrev pub is_shared : ImageSymbol → Bool
is_shared symbol = symbol.is_defined && (is_tls symbol.kind && is_visible symbol.visibility)

-- the offset of the first shared symbol with a name; symbol 0 is reserved
abbrev pub shared_among : List ℕ → List ImageSymbol → List (List ℕ) → Option ℕ
shared_among name (symbol ∷ symbols) (own ∷ names) =
    if is_shared symbol && bytes_eq name own then Some symbol.value else shared_among name symbols names
shared_among name symbols names = None

abbrev pub shared_offset : List ℕ → Spelled → Option ℕ
shared_offset name image = shared_among name (drop 1 image.symbols) (drop 1 image.names)

abbrev pub export_in : ℕ → ℕ → Export
export_in number offset = record { image = number; offset = offset }

-- what a startup image shares under the name
abbrev pub export_here : List ℕ → ℕ → ImageKind → Spelled → Option Export
export_here name number kind image =
    if is_late kind then None else option_map (export_in number) (shared_offset name image)

-- the first startup image that shares the name, by its number, and the symbol's offset there
abbrev pub shared_from : List ℕ → ℕ → List ImageKind → List Spelled → Option Export
shared_from name number (kind ∷ kinds) (image ∷ images) =
    option_or (export_here name number kind image) (shared_from name (suc number) kinds images)
shared_from name number kinds images = None

unfoldable pub export_of : JobImages → List ℕ → Option Export
export_of m name = shared_from name 1 m.kinds m.images

-- ---- the words of relocations

-- a relocation without a symbol means the image itself, and its addend is the offset
abbrev pub own_target : Instance → ImageRelocation → Target
own_target x r =
    record { id = x.id; offset = cast_unsigned w64 r.addend; distance = unwrap_or x.offset 0 }

-- the module id of an image that starts with the program is its number
abbrev pub export_target : JobImages → Option Export → Target
export_target m None = record { id = 0; offset = 0; distance = 0 }
export_target m (Some e) = record { id = e.image; offset = e.offset; distance = static_offset m e.image }

-- the name of a symbol
abbrev pub name_of : Spelled → ℕ → List ℕ
name_of image symbol = unwrap_or (slice_get image.names symbol) []

unfoldable pub target_of : JobImages → Spelled → Instance → ImageRelocation → Target
target_of m image x r = if r.symbol == 0 then own_target x r else export_target m (export_of m (name_of image r.symbol))

-- the bytes that the loader writes at a relocation's place, by its type
abbrev pub written_bytes : FileKind → Instance → Target → LoaderKind → ℤ → List ℕ
written_bytes kind x t JumpSlot addend = bytes_of 8 getter_place
written_bytes kind x t Relative addend = bytes_of 8 ((bias kind x.number + cast_unsigned w64 addend) % 2 ^ 64)
written_bytes kind x t Module addend = bytes_of 8 t.id
written_bytes kind x t ModuleOffset addend = bytes_of 8 t.offset
written_bytes kind x t ThreadOffset addend = bytes_of 8 ((t.offset + (2 ^ 64 - t.distance)) % 2 ^ 64)
written_bytes kind x t Descriptor addend =
    bytes_of 8 descriptor_place ++ bytes_of 8 ((t.id * 2 ^ 32 + t.offset) % 2 ^ 64)

unfoldable pub relocation_bytes : JobImages → Spelled → Instance → ImageRelocation → List ℕ
relocation_bytes m image x r = written_bytes image.kind x (target_of m image x r) r.kind r.addend

-- ---- parts with their relocations done

-- whether all of those bytes lie in a part
abbrev pub lies_in : Part → ℕ → ℕ → Bool
lies_in part place count = nat_le part.address place && nat_le (place + count) (part.address + length part.bytes)

-- the bytes of a part, with those of a relocation written at their place, if they lie in the part
abbrev pub with_written : Part → List ℕ → ℕ → List ℕ → List ℕ
with_written part bytes place written =
    if lies_in part place (length written) then splice (place - part.address) written bytes else bytes

abbrev pub with_relocation : JobImages → Spelled → Instance → Part → List ℕ → ImageRelocation → List ℕ
with_relocation m image x part bytes r = with_written part bytes r.place (relocation_bytes m image x r)

-- the bytes of a part of an instance
unfoldable pub part_bytes : JobImages → Spelled → Instance → Part → List ℕ
part_bytes m image x part = fold (with_relocation m image x part) part.bytes image.relocations

-- ---- blocks

-- whether the initial image of the TLS segment lies in a part
abbrev pub holds : TlsPart → Part → Bool
holds tls part = lies_in part tls.address tls.initial

-- the initial image, in an instance
abbrev pub initial_bytes : JobImages → Spelled → Instance → TlsPart → Option Part → List ℕ
initial_bytes m image x tls None = []
initial_bytes m image x tls (Some part) =
    slice_range (part_bytes m image x part) (tls.address - part.address)
    (tls.address - part.address + tls.initial)

-- the initial image, followed by zeros (gABI, "Program Loading": p_filesz and p_memsz)
abbrev pub filled : ℕ → List ℕ → List ℕ
filled size initial = initial ++ replicate (size - length initial) 0

abbrev pub block_of : JobImages → Spelled → Instance → Option TlsPart → List ℕ
block_of m image x None = []
block_of m image x (Some tls) = filled tls.size (initial_bytes m image x tls (find (holds tls) image.parts))

abbrev pub block_of_image : JobImages → Instance → Option Spelled → List ℕ
block_of_image m x None = []
block_of_image m x (Some image) = block_of m image x image.tls

-- a thread's block of an instance before any write
unfoldable pub fresh_block : JobImages → Instance → List ℕ
fresh_block m x = block_of_image m x (image_at m x.image)

-- the images of a job, with the job's kinds
abbrev pub of_job : JobParts → List Spelled → JobImages
of_job job images = record { kinds = map (λ image. image.kind) job.images; images = images }
