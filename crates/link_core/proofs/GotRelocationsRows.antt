-- The relocations of a table, entry by entry: where they lie.
use Rattle.std.proofs.Common.{◌≡◌, ◌+◌, ◌≤◌, ℕ, List, [], ◌∷◌, ◌++◌, subst, arith}
use Rattle.std.specs.List.{All, flat_map}
use Rattle.std.proofs.lemmas.List.Elements.{All-append, All-cons, All-head, All-nil, All-tail}
use Rattle.image_file.specs.declared.relocation.ImageRelocation.{ImageRelocation}
use Rattle.image_writer.specs.Linkable.{AreRising, width}
use Rattle.got_pairs.specs.declared.need.Need.{Need}
use Rattle.got_pairs.specs.declared.need.Need.TheVariants.{ModulePair, SymbolPair, Descriptor, SymbolWord, AddressWord}
use Rattle.got_pairs.specs.declared.need.Target.TheVariants.{Here, Import}
use Rattle.got_pairs.specs.Entries.{entry_of}
use Rattle.got_pairs.specs.Needs.{size_of, total_size}
use Rattle.got_pairs.specs.Needs.{starts_from}
use Rattle.link_faults.specs.declared.image_kind.ImageKind.{ImageKind}
use Rattle.link_faults.specs.declared.image_kind.ImageKind.TheVariants.{Exe, Pie}
use Rattle.link_needs.specs.Linking.{Linking, block_offset}
use Rattle.link_needs.specs.Needs.{entries, got_size, got_start}
use Rattle.link_tables.specs.Dynamic.{entry_relocations, got_relocations, need_relocations}

-- the relocations of these entries, the first of which begins there
abbrev pub rows : Linking → ℕ → List Need → List ImageRelocation
rows l at ks = flat_map (need_relocations l) (starts_from at ks)

-- ** relocations that lie behind each other, from one place to another

pub Chained : ℕ → List ImageRelocation → ℕ → Type 0
Chained at [] stop = at ≤ stop
Chained at (r ∷ rs) stop = (at ≤ r.place) × Chained (r.place + width r.kind) rs stop

-- they may begin earlier
chain_from : (at from : ℕ) (rs : List ImageRelocation) (stop : ℕ) → at ≤ from → Chained from rs stop
    → Chained at rs stop
unfolding Chained
chain_from at from [] stop less h = omega (arith, less, h)
chain_from at from (r ∷ rs) stop less h = (omega (arith, less, h.0), h.1)

chain-append : (at : ℕ) (rs : List ImageRelocation) (mid : ℕ) (more : List ImageRelocation) (stop : ℕ)
    → Chained at rs mid → Chained mid more stop → Chained at (rs ++ more) stop
unfolding Chained
chain-append at [] mid more stop first next = chain_from at mid more stop first next
chain-append at (r ∷ rs) mid more stop first next =
    (first.0, chain-append (r.place + width r.kind) rs mid more stop first.1 next)

chain_ends : (at : ℕ) (rs : List ImageRelocation) (stop : ℕ) → Chained at rs stop → at ≤ stop
unfolding Chained
chain_ends at [] stop h = h
chain_ends at (r ∷ rs) stop h = omega (arith, h.0, chain_ends (r.place + width r.kind) rs stop h.1)

chain_rises : (at : ℕ) (rs : List ImageRelocation) (stop : ℕ) → Chained at rs stop → AreRising rs
unfolding Chained
chain_rises at [] stop h = tt
chain_rises at (r ∷ []) stop h = tt
chain_rises at (r ∷ (s ∷ more)) stop h = (h.1.0, chain_rises (r.place + width r.kind) (s ∷ more) stop h.1)

-- a relocation writes between two places
pub record LiesBetween (at stop : ℕ) (r : ImageRelocation) : Type 0 where
  pub above : at ≤ r.place
  pub below : r.place + width r.kind ≤ stop

between_from : (at from stop : ℕ) (rs : List ImageRelocation) → at ≤ from → All (LiesBetween from stop) rs
    → All (LiesBetween at stop) rs
between_from at from stop rs less all = λ k d h.
    record { above = omega (arith, less, (all k d h).above); below = (all k d h).below }

chain_lies : (at : ℕ) (rs : List ImageRelocation) (stop : ℕ) → Chained at rs stop → All (LiesBetween at stop) rs
unfolding Chained
chain_lies at [] stop h = All-nil (LiesBetween at stop)
chain_lies at (r ∷ rs) stop h =
    All-cons (LiesBetween at stop) r rs
    (record { above = h.0; below = chain_ends (r.place + width r.kind) rs stop h.1 })
    (between_from at (r.place + width r.kind) stop rs (omega (arith, h.0))
    (chain_lies (r.place + width r.kind) rs stop h.1))

-- ** those of an entry lie in it

entry_chain : (l : Linking) (kind : ImageKind) (block : ℕ) (need : Need) (at : ℕ)
    → Chained at (entry_relocations l at (entry_of kind block need)) (at + size_of need)
unfolding Chained
entry_chain l Exe block ModulePair at = omega arith
entry_chain l Pie block ModulePair at = omega arith
entry_chain l Exe block (SymbolPair (Here s o)) at = omega arith
entry_chain l Pie block (SymbolPair (Here s o)) at = omega arith
entry_chain l kind block (SymbolPair (Import n)) at = (omega arith, (omega arith, omega arith))
entry_chain l kind block (Descriptor (Here s o)) at = (omega arith, omega arith)
entry_chain l Exe block (SymbolWord (Here s o)) at = omega arith
entry_chain l Pie block (SymbolWord (Here s o)) at = omega arith
entry_chain l kind block (SymbolWord (Import n)) at = (omega arith, omega arith)
entry_chain l Exe block (AddressWord s p) at = omega arith
entry_chain l kind block need at = (omega arith, omega arith)

rows_chain : (l : Linking) (at : ℕ) (ks : List Need) → Chained at (rows l at ks) (at + total_size ks)
unfolding Chained
rows_chain l at [] = omega arith
rows_chain l at (need ∷ ks) =
    let ends : at + size_of need + total_size ks ≡ at + (size_of need + total_size ks) = omega arith in
    chain-append at (need_relocations l (need, at)) (at + size_of need) (rows l (at + size_of need) ks)
    (at + (size_of need + total_size ks)) (entry_chain l l.kind (block_offset l) need at)
    (subst (Chained (at + size_of need) (rows l (at + size_of need) ks)) ends (rows_chain l (at + size_of need) ks))

-- ** those of the table

pub got_rises : (l : Linking) → AreRising (got_relocations l)
unfolding got_relocations
got_rises l =
    chain_rises (got_start l) (rows l (got_start l) (entries l)) (got_start l + got_size l)
    (rows_chain l (got_start l) (entries l))

pub got_lies : (l : Linking) → All (LiesBetween (got_start l) (got_start l + got_size l)) (got_relocations l)
unfolding got_relocations
got_lies l =
    chain_lies (got_start l) (rows l (got_start l) (entries l)) (got_start l + got_size l)
    (rows_chain l (got_start l) (entries l))

-- ** what holds of the relocations of each entry holds of all

pub all_rows : (l : Linking) (P : ImageRelocation → Type 0) (Q : Need → Type 0)
    → ((need : Need) (at : ℕ) → Q need → All P (need_relocations l (need, at)))
    → (at : ℕ) (ks : List Need) → All Q ks → All P (rows l at ks)
all_rows l P Q each at [] all = All-nil P
all_rows l P Q each at (need ∷ ks) all =
    All-append P (need_relocations l (need, at)) (rows l (at + size_of need) ks) (each need at (All-head Q need ks all))
    (all_rows l P Q each (at + size_of need) ks (All-tail Q need ks all))
