-- What holds of the table for any needs.
use Rattle.std.specs.Prelude.{◌≡◌, ◌≢◌, ◌≤◌, ℕ, List, Some}
use Rattle.std.specs.List.{AllPairs, Contains}
use Rattle.got_pairs.specs.declared.need.Group.{Group}
use Rattle.got_pairs.specs.declared.need.Group.TheVariants as group
use Rattle.got_pairs.specs.declared.need.Need.{Need}
use Rattle.got_pairs.specs.Needs.{entries, group_of, start_of}

-- each need has an entry, at some byte of the table
abbrev pub NeedsHaveEntries : Type 0
NeedsHaveEntries = (needs : List Need) (need : Need) → Contains needs need
    → (at : ℕ) × (start_of (entries needs) need ≡ Some at)

-- each entry serves a need
abbrev pub EntriesAreNeeded : Type 0
EntriesAreNeeded = (needs : List Need) (entry : Need) → Contains (entries needs) entry → Contains needs entry

-- no two entries serve the same need
abbrev pub EntriesDiffer : Type 0
EntriesDiffer = (needs : List Need) → AllPairs (λ x y. x ≢ y) (entries needs)

-- the place of a group in the order
abbrev pub rank : Group → ℕ
rank group.ModulePair = 0
rank group.SymbolPairs = 1
rank group.Descriptors = 2
rank group.SymbolWords = 3
rank group.AddressWords = 4
rank group.RuntimeWord = 5

-- no entry comes after one of a later group
abbrev pub GroupsStandInOrder : Type 0
GroupsStandInOrder = (needs : List Need) → AllPairs (λ x y. rank (group_of x) ≤ rank (group_of y)) (entries needs)
