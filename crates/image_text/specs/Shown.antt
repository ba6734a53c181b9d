-- An image as text: a line for each thing that it spells.
use Rattle.std.specs.Prelude.{ℕ, ◌-◌, List, [], ◌++◌, length, drop, codes}
use Rattle.std.specs.Prelude.{slice_get, option_to_list, option_and_then, if◌then◌else◌}
use Rattle.std.specs.List.{flat_map, zip}
use Rattle.std.specs.Fmt.{decimal, signed_decimal}
use Rattle.image_file.specs.declared.part.TlsPart.{TlsPart}
use Rattle.image_file.specs.declared.symbol.ImageSymbol.{ImageSymbol}
use Rattle.image_file.specs.declared.relocation.ImageRelocation.{ImageRelocation}
use Rattle.image_file.specs.Spelled.{Part, Spelled}
use Rattle.elf_records.specs.Symbols.{type_number}
use Rattle.image_faults.specs.Relocations.{kind_number}
use Rattle.transcript_text.specs.Texts.{hex16}
use Rattle.image_text.specs.Words.{class_word, kind_word}

-- a part: what may be done with it, its address, its length
unfoldable pub part_line : Part → List ℕ
part_line part =
    codes "part " ++ class_word part.class ++ codes " " ++ hex16 part.address ++ codes " "
    ++ decimal (length part.bytes) ++ codes "\n"

-- the TLS segment: its address, how many bytes the file has of it, how many a block has, its alignment
unfoldable pub tls_line : TlsPart → List ℕ
tls_line tls =
    codes "tls " ++ hex16 tls.address ++ codes " " ++ decimal tls.initial ++ codes " " ++ decimal tls.size ++ codes " "
    ++ decimal tls.alignment ++ codes "\n"

-- the part that only the loader writes
unfoldable pub relro_line : Part → List ℕ
relro_line part = codes "relro " ++ hex16 part.address ++ codes " " ++ decimal (length part.bytes) ++ codes "\n"

-- a symbol with its name: its value, its type, the word for one that another image defines, its name
unfoldable pub symbol_line : ImageSymbol × List ℕ → List ℕ
symbol_line named =
    codes "symbol " ++ hex16 named.0.value ++ codes " " ++ decimal (type_number named.0.kind) ++ codes " "
    ++ (if named.0.is_defined then [] else codes "import ") ++ named.1 ++ codes "\n"

-- a relocation: its place, its type, its symbol's number, its addend
unfoldable pub relocation_line : ImageRelocation → List ℕ
relocation_line relocation =
    codes "reloc " ++ hex16 relocation.place ++ codes " " ++ decimal (kind_number relocation.kind) ++ codes " "
    ++ decimal relocation.symbol ++ codes " " ++ signed_decimal relocation.addend ++ codes "\n"

-- the text of an image: its kind, its parts, the TLS segment, the part that only the loader writes, its symbols from
-- number 1 on, its relocations, and whether it uses static TLS
unfoldable pub shown : Spelled → List ℕ
shown image =
    (codes "kind " ++ kind_word image.kind ++ codes "\n")
    ++ flat_map part_line image.parts
    ++ flat_map tls_line (option_to_list image.tls)
    ++ flat_map relro_line (option_to_list (option_and_then (slice_get image.parts) image.got))
    ++ flat_map symbol_line (drop 1 (zip image.symbols image.names))
    ++ flat_map relocation_line image.relocations
    ++ (if image.is_flagged then codes "static-tls\n" else [])
