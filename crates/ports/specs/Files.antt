-- What a store holds, which names it was asked for, and how a call changes both.
use Rattle.std.specs.Prelude.{◌≡◌, ℕ, List, ◌++◌, Option, None, Some, IfSome, Result, Ok, Err, take}
use Rattle.std.specs.Option.{option_map}
use Rattle.std.specs.Ordering.{nat_cmp}
use Rattle.std.specs.Cmp.Lexicographic.{slice_cmp}
use Rattle.std.specs.FinMap as map
use Rattle.ports.specs.declared.faults.FetchFault.{FetchFault}

-- files by name: names and contents are bytes
abbrev pub Files : Type 0
Files = map.FinMap (slice_cmp nat_cmp) (List ℕ)

-- a store that does not show its files
abbrev pub untold_files : Option Files
untold_files = None

-- the content of a file
abbrev pub file_at : Files → List ℕ → Option (List ℕ)
file_at files name = map.get files name

-- the content of the file of that name, if a store shows its files
abbrev pub IsFile : Option Files → List ℕ → List ℕ → Type 0
IsFile told name bytes = IfSome told (λ files. file_at files name ≡ Some bytes)

-- the files with these bytes under that name, and each other file as it was
abbrev pub with_file : List ℕ → List ℕ → Option Files → Option Files
with_file name bytes = option_map (λ files. map.insert files name bytes)

-- a store that does not show the names
abbrev pub untold_names : Option (List (List ℕ))
untold_names = None

-- the names asked for, and these
abbrev pub with_names : List (List ℕ) → Option (List (List ℕ)) → Option (List (List ℕ))
with_names names = option_map (λ before. before ++ names)

-- a prefix of these names is asked for
abbrev pub AsksFront : List (List ℕ) → Option (List (List ℕ)) → Option (List (List ℕ)) → Type 0
AsksFront names old new = (k : ℕ) × (new ≡ with_names (take k names) old)

-- all of these names if they were fetched, else a prefix of them
abbrev pub Fetches : {T : Type 0} → List (List ℕ) → Option (List (List ℕ)) → Option (List (List ℕ))
    → Result T FetchFault → Type 0
Fetches names old new (Ok x) = new ≡ with_names names old
Fetches names old new (Err fault) = AsksFront names old new
