-- When the program headers of an image are right: LOADs at rising pages, the dynamic array at the start of the last
-- one, a TLS segment whose initial image is one of them, and the part that only the loader writes (gABI, "Program
-- Header", "Program Loading"; "ELF Handling For Thread-Local Storage", "Program Headers").
use Rattle.std.specs.Prelude.{◌≡◌, ◌≢◌, ◌+◌, ◌-◌, ◌*◌, ◌%◌, ◌^◌, ◌<◌, ◌≤◌, ◌⊎◌, ℕ, List, length, if◌then◌else◌}
use Rattle.elf_records.specs.declared.program_header.Segment.{Segment}
use Rattle.elf_records.specs.declared.program_header.TheConstants.{PT_DYNAMIC, PT_TLS, PT_GNU_RELRO, PF_X, PF_R, PF_W}
use Rattle.image_faults.specs.Counts.{how_many}
use Rattle.image_faults.specs.Parts.{count, segment, base, loads, last, is_writable, behind_last_writable, has_relro}
use Rattle.image_faults.specs.Parts.{relro_place}
pub use Rattle.elf_records.specs.Alignments.{IsAlignment}

-- the bytes of segment i pass the end of the file
abbrev pub HasSegmentPastEnd : List ℕ → ℕ → Type 0
HasSegmentPastEnd b i = (i < count b) × (length b < (segment b i).offset + (segment b i).filesz)

-- the program headers, or the bytes of a segment, pass the end of the file
abbrev pub PassesEnd : List ℕ → Type 0
PassesEnd b = (length b < 64 + 56 * count b) ⊎ ((i : ℕ) × HasSegmentPastEnd b i)

-- the bytes of address a stand at offset a - base + 4096
abbrev pub IsPlaced : List ℕ → Segment → Type 0
IsPlaced b s = s.vaddr + 4096 ≡ s.offset + base b

-- code, constant data, or data that is written
abbrev pub IsClass : Segment → Type 0
IsClass s = (s.flags ≡ PF_X) ⊎ (s.flags ≡ PF_R) ⊎ (s.flags ≡ PF_R + PF_W)

-- a segment that begins at a page and has bytes, all of them in the file
abbrev pub IsWhole : Segment → Type 0
IsWhole s = (s.filesz ≡ s.memsz) × (0 < s.memsz) × (s.vaddr % 4096 ≡ 0)

-- within the range of the image, and no lower than the end of the LOAD before
abbrev pub IsInRange : List ℕ → ℕ → Type 0
IsInRange b i =
    (base b ≤ (segment b i).vaddr) × ((segment b i).vaddr + (segment b i).memsz ≤ base b + 2 ^ 26)
    × ((i ≡ 0) ⊎ ((segment b (i - 1)).vaddr + (segment b (i - 1)).memsz ≤ (segment b i).vaddr))

-- at most two LOADs are written; the second needs a GNU_RELRO, which tells the two apart
abbrev pub IsOfFewWritten : List ℕ → ℕ → Type 0
IsOfFewWritten b i =
    ((segment b i).flags ≢ PF_R + PF_W) ⊎ (how_many (is_writable b) i < (if has_relro b then 2 else 1))

-- the last LOAD, which holds the dynamic tables, is constant
abbrev pub IsLastConstant : List ℕ → ℕ → Type 0
IsLastConstant b i = (i + 1 ≢ loads b) ⊎ ((segment b i).flags ≡ PF_R)

-- when LOAD i is right
abbrev pub IsRightLoad : List ℕ → ℕ → Type 0
IsRightLoad b i =
    IsPlaced b (segment b i) × IsClass (segment b i) × IsWhole (segment b i) × IsInRange b i × IsOfFewWritten b i
    × IsLastConstant b i

-- header i, after the LOADs, of which there is one at least, is that of the dynamic array: at the start of the
-- last LOAD, and within it
abbrev pub IsRightDynamic : List ℕ → ℕ → Type 0
IsRightDynamic b i =
    (0 < i) × (i < count b) × ((segment b i).kind ≡ PT_DYNAMIC) × IsPlaced b (segment b i)
    × ((segment b i).vaddr ≡ (last b).vaddr) × ((segment b i).filesz ≤ (last b).filesz)

-- a constant LOAD, not the last, holds the initial image
abbrev pub HoldsInitialImage : List ℕ → Segment → ℕ → Type 0
HoldsInitialImage b s i =
    (i + 1 < loads b) × ((segment b i).flags ≡ PF_R) × ((segment b i).vaddr ≡ s.vaddr)
    × ((segment b i).filesz ≡ s.filesz)

-- when the TLS segment is right
abbrev pub IsRightTls : List ℕ → Segment → Type 0
IsRightTls b s =
    IsPlaced b s × (s.filesz ≤ s.memsz) × (0 < s.memsz) × (s.memsz ≤ 2 ^ 20) × IsAlignment s.align
    × (s.vaddr % s.align ≡ 0) × ((s.filesz ≡ 0) ⊎ ((i : ℕ) × HoldsInitialImage b s i))

-- when GNU_RELRO is right: it is the last LOAD that is written
abbrev pub IsRightRelro : List ℕ → Segment → Type 0
IsRightRelro b s =
    let written = segment b (behind_last_writable b - 1) in
    IsPlaced b s × (0 < behind_last_writable b) × (s.vaddr ≡ written.vaddr) × (s.filesz ≡ written.filesz)
    × (s.memsz ≡ written.memsz)

-- header i, after DYNAMIC, is that of a TLS segment right after it, or GNU_RELRO after both
abbrev pub IsRightRest : List ℕ → ℕ → Type 0
IsRightRest b i =
    ((i ≡ loads b + 1) × ((segment b i).kind ≡ PT_TLS) × IsRightTls b (segment b i))
    ⊎ ((i ≡ relro_place b) × ((segment b i).kind ≡ PT_GNU_RELRO) × IsRightRelro b (segment b i))

-- header i is wrong; if DYNAMIC is missing, i is the end of the table
abbrev pub IsWrongSegment : List ℕ → ℕ → Type 0
IsWrongSegment b i =
    ((i < loads b) × (IsRightLoad b i → ⊥))
    ⊎ ((i ≡ loads b) × (IsRightDynamic b i → ⊥))
    ⊎ ((loads b < i) × (i < count b) × (IsRightRest b i → ⊥))
