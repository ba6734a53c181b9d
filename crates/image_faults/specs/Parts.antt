-- Where the headers of an image lie in its bytes (gABI, "ELF Header", "Program Header").
use Rattle.std.specs.Prelude.{◌+◌, ◌-◌, ◌*◌, ◌==◌, ◌&&◌, ℕ, Bool, List, Option, Some, None, nat_lt, if◌then◌else◌}
use Rattle.elf_records.specs.declared.file_header.Header.{Header}
use Rattle.elf_records.specs.declared.program_header.Segment.{Segment}
use Rattle.elf_records.specs.Records.{header_at, segment_at}
use Rattle.elf_records.specs.declared.file_header.TheConstants.{ET_EXEC}
use Rattle.elf_records.specs.declared.program_header.TheConstants.{PT_LOAD, PT_TLS, PT_GNU_RELRO, PF_R, PF_W}
use Rattle.image_faults.specs.Counts.{leading, behind_last}

-- the file's header
unfoldable pub header : List ℕ → Header
header b = header_at 0 b

-- how many program headers there are
abbrev pub count : List ℕ → ℕ
count b = (header b).e_phnum

-- program header i
unfoldable pub segment : List ℕ → ℕ → Segment
segment b i = segment_at (64 + 56 * i) b

-- the address at which an image begins: fixed in a program at fixed addresses, 0 in an image that
-- may be loaded anywhere
abbrev pub base : List ℕ → ℕ
base b = if (header b).e_type == ET_EXEC then 0x400000 else 0

-- how many LOADs there are, parts to be loaded: the leading headers of that type
unfoldable pub loads : List ℕ → ℕ
loads b = leading (λ i. (segment b i).kind == PT_LOAD) (count b)

-- the last LOAD, which holds the dynamic tables
abbrev pub last : List ℕ → Segment
last b = segment b (loads b - 1)

-- header i is that of a part that may be written
abbrev pub is_writable : List ℕ → ℕ → Bool
is_writable b i = (segment b i).flags == PF_R + PF_W

-- the number after that of the last LOAD that may be written; 0 if there is none
abbrev pub behind_last_writable : List ℕ → ℕ
behind_last_writable b = behind_last (is_writable b) (loads b)

-- a header of the table names the part that only the loader writes
abbrev pub has_relro : List ℕ → Bool
has_relro b = nat_lt 0 (behind_last (λ i. (segment b i).kind == PT_GNU_RELRO) (count b))

-- the header after DYNAMIC is that of a TLS segment
abbrev pub has_tls : List ℕ → Bool
has_tls b = nat_lt (loads b + 1) (count b) && ((segment b (loads b + 1)).kind == PT_TLS)

-- the header of the TLS segment
abbrev pub tls : List ℕ → Option Segment
tls b = if has_tls b then Some (segment b (loads b + 1)) else None

-- how many bytes each thread's block of the image has; 0 if it has none
abbrev pub tls_size : List ℕ → ℕ
tls_size b = if has_tls b then (segment b (loads b + 1)).memsz else 0

-- where GNU_RELRO stands, if there is one: after DYNAMIC and TLS
abbrev pub relro_place : List ℕ → ℕ
relro_place b = if has_tls b then loads b + 2 else loads b + 1
