-- Which fields need an absolute address.
use Rattle.std.specs.Prelude.{◌+◌, ◌&&◌, ◌++◌, ℕ, List, [], ◌∷◌, filter}
use Rattle.std.specs.Prelude.{map}
use Rattle.std.specs.List.{flat_map, range_with_len}
use Rattle.elf_records.specs.RelocationRows.{is_absolute}
use Rattle.elf_object.specs.declared.relocation.Relocation.{Relocation}
use Rattle.elf_object.specs.Lent.{relocations}
use Rattle.elf_object.specs.Object.{section_count}
use Rattle.got_pairs.specs.Plans.{Table}
use Rattle.link_faults.specs.ImageKinds.{is_moved}
use Rattle.link_needs.specs.declared.needs.AbsoluteField.{AbsoluteField}
use Rattle.link_needs.specs.Linking.{Linking, block_offset}
use Rattle.link_needs.specs.Needs.{entries}

abbrev pub table : Linking → Table
table l = record { kind = l.kind; block_offset = block_offset l; entries = entries l }

-- ** the fields that hold an address in 8 bytes; a loader fills them in, in an image that may be loaded at any address

-- those among some relocations of section t of object o, and among all
abbrev pub fields_among : Linking → ℕ → ℕ → List Relocation → List AbsoluteField
fields_among l o t rs =
    map (λ r. record { object = o; section = t; relocation = r })
    (filter (λ r. is_moved l.kind && is_absolute r.kind) rs)

abbrev pub section_absolutes : Linking → ℕ → List ℕ → ℕ → List AbsoluteField
section_absolutes l o b t = fields_among l o t (relocations b t)

unfoldable pub object_absolutes : Linking → ℕ → List ℕ → List AbsoluteField
object_absolutes l o b = flat_map (section_absolutes l o b) (range_with_len 0 (section_count b))

abbrev pub absolutes_from : Linking → ℕ → List (List ℕ) → List AbsoluteField
absolutes_from l o [] = []
absolutes_from l o (b ∷ more) = object_absolutes l o b ++ absolutes_from l (o + 1) more

-- those of all objects, in the order of their sections and of the file
unfoldable pub absolutes : Linking → List AbsoluteField
absolutes l = absolutes_from l 0 l.objects
