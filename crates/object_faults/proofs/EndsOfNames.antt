-- A name ends exactly where it begins before the end of names.
use Rattle.std.proofs.Common.{◌<◌, ◌≤◌, ℕ, List}
use Rattle.elf_records.specs.StringLaws as strings
use Rattle.object_faults.specs.Parts.{section}
use Rattle.object_faults.specs.Names.{Ends, IsEndOfNames}

-- a name that begins before that end ends
pub ends_before : (b : List ℕ) (s n at : ℕ) → IsEndOfNames b s n → at < n → Ends b s at
ends_before b s n at = strings.ends_before b (section b s).offset (section b s).size n at

-- and no other
pub no_end_after : (b : List ℕ) (s n at : ℕ) → IsEndOfNames b s n → n ≤ at → Ends b s at → ⊥
no_end_after b s n at = strings.no_end_after b (section b s).offset (section b s).size n at
