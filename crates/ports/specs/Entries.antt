-- The entries of a map in memory as files.
use Rattle.std.specs.Prelude.{ℕ, List, map, String, Vec}
use Rattle.std.specs.String.{string_bytes}
use Rattle.std.specs.FinMap as fin
use Rattle.ports.specs.Files.{Files}

-- the files that the entries name
abbrev pub files_of : {A B : Type 0} → List (String A × Vec ℕ B) → Files
files_of entries = fin.from_entries (map (λ e. (string_bytes e.0, e.1.items)) entries)
