-- Parts of the page of headers, for the functions that write it.
use Rattle.std.specs.Prelude.{◌+◌, ◌^◌, ◌<◌, ◌≤◌, ℕ, List, map}
use Rattle.std.specs.List.{flat_map}
use Rattle.elf_records.specs.Records.{segment_bytes}
use Rattle.image_rules.specs.declared.places.FileKind.{FileKind}
use Rattle.image_writer.specs.Outlined.{Outlined}
use Rattle.image_writer.specs.Page.{base_of, load_header}

-- an address that has an offset in the file
abbrev pub IsNear : FileKind → ℕ → Type 0
IsNear kind address = (base_of kind ≤ address + 4096) × (address + 4096 < 2 ^ 64)

-- the LOADs
abbrev pub loads_bytes : Outlined → List ℕ
loads_bytes o = flat_map segment_bytes (map (load_header o.kind) o.parts)
