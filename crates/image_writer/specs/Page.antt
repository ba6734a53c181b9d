-- The first page of an image's file: its header, its program headers, and zeros after them (gABI, "ELF Header",
-- "Program Header"; "ELF Handling For Thread-Local Storage", "Program Headers").
use Rattle.std.specs.Prelude.{◌+◌, ◌-◌, ◌*◌, ℕ, List, ◌∷◌, ◌++◌, Option, length, map, option_map, option_to_list}
use Rattle.std.specs.Prelude.{replicate}
use Rattle.std.specs.List.{flat_map}
use Rattle.elf_records.specs.declared.file_header.Header.{Header}
use Rattle.elf_records.specs.declared.program_header.Segment.{Segment}
use Rattle.elf_records.specs.Records.{header_bytes, segment_bytes}
use Rattle.elf_records.specs.declared.file_header.TheConstants.{ELF_IDENT, ET_EXEC, ET_DYN, EM_X86_64, EV_CURRENT}
use Rattle.elf_records.specs.declared.program_header.TheConstants.{PT_LOAD, PT_DYNAMIC, PT_TLS, PT_GNU_RELRO}
use Rattle.elf_records.specs.declared.program_header.TheConstants.{PF_X, PF_R, PF_W}
use Rattle.image_rules.specs.declared.places.FileKind.{FileKind}
use Rattle.image_rules.specs.declared.places.FileKind.TheVariants.{Exe, Pie, Module}
use Rattle.image_file.specs.declared.part.PartClass.{PartClass}
use Rattle.image_file.specs.declared.part.PartClass.TheVariants.{Executable, ReadOnly, Writable}
use Rattle.image_file.specs.declared.part.TlsPart.{TlsPart}
use Rattle.image_writer.specs.declared.outline.PartPlace.{PartPlace}
use Rattle.image_writer.specs.Outlined.{Outlined, last_part, part}

-- what may be done with a part, as the flags of a program header
abbrev pub flags_of : PartClass → ℕ
flags_of Executable = PF_X
flags_of ReadOnly = PF_R
flags_of Writable = PF_R + PF_W

-- the type of the file
abbrev pub type_of : FileKind → ℕ
type_of Exe = ET_EXEC
type_of Pie = ET_DYN
type_of Module = ET_DYN

-- the address at which an image begins
abbrev pub base_of : FileKind → ℕ
base_of Exe = 0x400000
base_of Pie = 0
base_of Module = 0

-- the offset in the file of an address: the first page is that of the headers
abbrev pub file_offset : FileKind → ℕ → ℕ
file_offset kind address = address + 4096 - base_of kind

-- the program header of a type for what lies at an address: its flags, how many bytes it has in the file and in memory,
-- and its alignment
abbrev pub range_header : FileKind → ℕ → ℕ → ℕ → ℕ → ℕ → ℕ → Segment
range_header file kind flags address filesz memsz align = record {
  kind = kind;
  flags = flags;
  offset = file_offset file address;
  vaddr = address;
  paddr = address;
  filesz = filesz;
  memsz = memsz;
  align = align;
}

unfoldable pub load_header : FileKind → PartPlace → Segment
load_header kind p = range_header kind PT_LOAD (flags_of p.class) p.address p.size p.size 4096

-- the dynamic array, at the start of the last part
unfoldable pub dynamic_header : Outlined → Segment
dynamic_header o = range_header o.kind PT_DYNAMIC PF_R (last_part o).address o.array_size o.array_size 8

unfoldable pub tls_header : FileKind → TlsPart → Segment
tls_header kind t = range_header kind PT_TLS PF_R t.address t.initial t.size t.alignment

-- the part that only the loader writes
unfoldable pub relro_header : FileKind → PartPlace → Segment
relro_header kind p = range_header kind PT_GNU_RELRO PF_R p.address p.size p.size 1

abbrev pub tls_headers : FileKind → Option TlsPart → List Segment
tls_headers kind tls = option_to_list (option_map (tls_header kind) tls)

abbrev pub relro_headers : Outlined → Option ℕ → List Segment
relro_headers o got = option_to_list (option_map (λ g. relro_header o.kind (part o g)) got)

-- the program headers: one for each part, and then DYNAMIC, TLS and GNU_RELRO
unfoldable pub program_headers : Outlined → List Segment
program_headers o =
    map (load_header o.kind) o.parts
    ++ (dynamic_header o ∷ (tls_headers o.kind o.tls ++ relro_headers o o.got))

-- the header of a file with this many program headers
unfoldable pub header_of : FileKind → ℕ → Header
header_of kind count = record {
  ident = ELF_IDENT ++ replicate 9 0;
  e_type = type_of kind;
  e_machine = EM_X86_64;
  e_version = EV_CURRENT;
  e_entry = 0;
  e_phoff = 64;
  e_shoff = 0;
  e_flags = 0;
  e_ehsize = 64;
  e_phentsize = 56;
  e_phnum = count;
  e_shentsize = 0;
  e_shnum = 0;
  e_shstrndx = 0;
}

-- the page
unfoldable pub page : Outlined → List ℕ
page o =
    header_bytes (header_of o.kind (length (program_headers o)))
    ++ (flat_map segment_bytes (program_headers o) ++ replicate (4032 - 56 * length (program_headers o)) 0)
