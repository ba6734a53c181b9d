-- The header of an image's file.
use Rattle.std.specs.Prelude.{length}
use Rattle.elf_records.specs.declared.file_header.Header.{Header}
use Rattle.image_writer.specs.Outlined.{Outlined}
use Rattle.image_writer.specs.Page.{header_of, program_headers}

-- it counts the program headers of the outline
abbrev pub file_header : Outlined → Header
file_header o = header_of o.kind (length (program_headers o))
