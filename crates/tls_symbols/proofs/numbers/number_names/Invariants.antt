use Rattle.std.proofs.Common.{◌≡◌, ◌<◌, ℕ, [], length, map, slice_index_or}
use Rattle.elf_records.specs.Symbols.{get_address}
use Rattle.tls_symbols.specs.Numbers.{AreListed, IsNumberOf}
use Rattle.tls_symbols.proofs.numbers.number_names.Given as goal

-- the run time's function and the names of the startup images so far have their numbers
abbrev pub invariant-loop-exports : goal.invariant-loop-exports
invariant-loop-exports l =
    IsNumberOf l.names.keys get_address 0 ×
    (length l.exported.items ≡ l.exports-index) ×
    ((k : ℕ) → k < l.exports-index
    → AreListed l.names.keys (slice_index_or l.startup k [])
    (slice_index_or (map (λ own. own.items) l.exported.items) k []))
