-- What code needs from the global offset table, and the order of the entries (Drepper, "ELF Handling For Thread-Local
-- Storage", section 4; psABI, "Relocation Types").
use Rattle.std.specs.Prelude.{◌+◌, ◌&&◌, ℕ, Bool, true, false, not, nat_eq, if◌then◌else◌}
use Rattle.std.specs.Prelude.{List, [], ◌∷◌, Option, Some, None, filter}
use Rattle.std.specs.List.{flat_map}
use Rattle.std.specs.Str.{bytes_eq}
use Rattle.link_faults.specs.declared.symbol_ref.SymbolRef.{SymbolRef}
use Rattle.got_pairs.specs.declared.need.Group.{Group}
use Rattle.got_pairs.specs.declared.need.Group.TheVariants as group
use Rattle.got_pairs.specs.declared.need.Need.{Need}
use Rattle.got_pairs.specs.declared.need.Need.TheVariants.{ModulePair, SymbolPair, Descriptor, SymbolWord}
use Rattle.got_pairs.specs.declared.need.Need.TheVariants.{AddressWord, RuntimeWord}
use Rattle.got_pairs.specs.declared.need.Target.{Target}
use Rattle.got_pairs.specs.declared.need.Target.TheVariants.{Here, Import}

-- ** equal needs

abbrev pub same_symbol : SymbolRef → SymbolRef → Bool
same_symbol s t = nat_eq s.object t.object && nat_eq s.symbol t.symbol

abbrev pub same_target : Target → Target → Bool
same_target (Here s o) (Here t p) = same_symbol s t && nat_eq o p
same_target (Import n) (Import m) = bytes_eq n m
same_target x y = false

-- the same kind of entry, for the same symbol or name; a symbol has one offset and one place
abbrev pub same_need : Need → Need → Bool
same_need ModulePair ModulePair = true
same_need (SymbolPair x) (SymbolPair y) = same_target x y
same_need (Descriptor x) (Descriptor y) = same_target x y
same_need (SymbolWord x) (SymbolWord y) = same_target x y
same_need (AddressWord s p) (AddressWord t q) = same_symbol s t && nat_eq p q
same_need RuntimeWord RuntimeWord = true
same_need x y = false

-- ** the order of the entries

abbrev pub group_of : Need → Group
group_of ModulePair = group.ModulePair
group_of (SymbolPair x) = group.SymbolPairs
group_of (Descriptor x) = group.Descriptors
group_of (SymbolWord x) = group.SymbolWords
group_of (AddressWord s p) = group.AddressWords
group_of RuntimeWord = group.RuntimeWord

-- how many bytes an entry has: a pair and a descriptor have two words
abbrev pub size_of : Need → ℕ
size_of ModulePair = 16
size_of (SymbolPair x) = 16
size_of (Descriptor x) = 16
size_of (SymbolWord x) = 8
size_of (AddressWord s p) = 8
size_of RuntimeWord = 8

abbrev pub same_group : Group → Group → Bool
same_group group.ModulePair group.ModulePair = true
same_group group.SymbolPairs group.SymbolPairs = true
same_group group.Descriptors group.Descriptors = true
same_group group.SymbolWords group.SymbolWords = true
same_group group.AddressWords group.AddressWords = true
same_group group.RuntimeWord group.RuntimeWord = true
same_group x y = false

-- the needs of one group, in their order
abbrev pub of_group : Group → List Need → List Need
of_group g needs = filter (λ need. same_group g (group_of need)) needs

-- the groups in the order of the table
abbrev pub groups : List Group
groups =
    group.ModulePair ∷ group.SymbolPairs ∷ group.Descriptors ∷ group.SymbolWords ∷ group.AddressWords
    ∷ group.RuntimeWord ∷ []

-- all needs, group by group
abbrev pub by_group : List Need → List Need
by_group needs = flat_map (λ g. of_group g needs) groups

-- each of these needs once, at its first occurrence
abbrev pub distinct : List Need → List Need
distinct [] = []
distinct (need ∷ needs) = need ∷ filter (λ other. not (same_need need other)) (distinct needs)

-- the needs that the table's entries serve: group by group, and in each group in the order of first need
unfoldable pub entries : List Need → List Need
entries needs = distinct (by_group needs)

-- ** where they begin, in bytes from the table's start

abbrev pub total_size : List Need → ℕ
total_size [] = 0
total_size (entry ∷ more) = size_of entry + total_size more

-- where the entry for a need begins, if the first of these entries begins at this byte
abbrev pub start_from : ℕ → List Need → Need → Option ℕ
start_from at [] need = None
start_from at (entry ∷ more) need =
    if same_need need entry then Some at else start_from (at + size_of entry) more need

abbrev pub start_of : List Need → Need → Option ℕ
start_of = start_from 0

-- each of these entries with the byte at which it begins; the first begins at `at`
abbrev pub starts_from : ℕ → List Need → List (Need × ℕ)
starts_from at [] = []
starts_from at (entry ∷ more) = (entry, at) ∷ starts_from (at + size_of entry) more
