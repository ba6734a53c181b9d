-- A text ends exactly where it begins before the end of names.
use Rattle.std.proofs.Common.{◌-◌, ◌<◌, ◌≤◌, ℕ, List, arith}
use Rattle.elf_records.specs.Strings.{Ends, IsNamesEnd}

-- a text that begins before the end of names ends
pub ends_before : (b : List ℕ) (from size n at : ℕ) → IsNamesEnd b from size n → at < n → Ends b from size at
ends_before b from size n at end h =
    let k : ℕ = n - 1 in
    (k, omega arith, omega (arith, end.inside), end.zero_before (omega arith))

-- a text that begins after it does not end
pub no_end_after : (b : List ℕ) (from size n at : ℕ) → IsNamesEnd b from size n → n ≤ at → Ends b from size at → ⊥
no_end_after b from size n at end h ends = end.none_after ends.0 (omega (arith, ends.1)) ends.2 ends.3
