-- Names lie in string tables.
use Rattle.std.specs.Prelude.{◌+◌, ℕ, List, slice_index}
use Rattle.elf_records.specs.Strings.{IsNamesEnd, Ends as EndsIn}
use Rattle.object_faults.specs.Parts.{section}

-- byte k of section s
abbrev pub byte_of : List ℕ → ℕ → ℕ → ℕ
byte_of b s k = slice_index b ((section b s).offset + k)

-- in string table s a zero byte stands at offset `at` or after it, so a name that begins there ends
abbrev pub Ends : List ℕ → ℕ → ℕ → Type 0
Ends b s at = EndsIn b (section b s).offset (section b s).size at

-- n is the offset after the last zero byte of string table s, or 0 where it has none
abbrev pub IsEndOfNames : List ℕ → ℕ → ℕ → Type 0
IsEndOfNames b s n = IsNamesEnd b (section b s).offset (section b s).size n
