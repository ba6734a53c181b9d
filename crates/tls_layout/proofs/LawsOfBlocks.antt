-- Blocks below a thread pointer.
use Rattle.std.proofs.Common.{◌≡◌, ℕ, zero, suc, ◌+◌, ◌-◌, ◌<◌, ◌≤◌, List, length, All, sym, arith, inl, inr}
use Rattle.std.proofs.lemmas.Bool.{cases_lt}
use Rattle.tls_layout.specs.declared.statics.TlsSize.{TlsSize}
use Rattle.tls_layout.specs.Statics.{tls_offset, tls_of, no_tls, IsTlsSize}
use Rattle.tls_layout.specs.Laws.{Holds, BlocksAreApart, IsBelowThreadPointer}
use Rattle.tls_layout.proofs.Rounds.{round_up-above, round_up-multiple, power_bounds, tls_offset-next}

-- a module's block lies past those before it
next_past : (sizes : List TlsSize) (m : ℕ) → tls_offset sizes m + (tls_of sizes m).size ≤ tls_offset sizes (m + 1)
next_past sizes m = rw (tls_offset-next sizes m)
    (round_up-above (tls_offset sizes m + (tls_of sizes m).size) (tls_of sizes m).alignment)

offsets_rise : (sizes : List TlsSize) (m k : ℕ) → tls_offset sizes m ≤ tls_offset sizes (m + k)
offsets_rise sizes m zero = let e : m + 0 ≡ m = omega arith in rw e (omega arith)
offsets_rise sizes m (suc k) =
    let e : m + suc k ≡ m + k + 1 = omega arith in
    let before = offsets_rise sizes m k in
    let once = next_past sizes (m + k) in
    rw e (omega arith)

past : (sizes : List TlsSize) (m n : ℕ) → m < n → tls_offset sizes (m + 1) ≤ tls_offset sizes n
past sizes m n h = let e : m + 1 + (n - (m + 1)) ≡ n = omega arith in
    rw (← e) (offsets_rise sizes (m + 1) (n - (m + 1)))

-- what one block holds, no later one does
apart : (sizes : List TlsSize) (m n d : ℕ) → m < n → Holds sizes m d → Holds sizes n d → m ≡ n
apart sizes m n d h first second =
    let before = past sizes m n h in
    let once = next_past sizes n in
    absurd (omega (arith, first.1, second.2))

pub blocks_apart : (sizes : List TlsSize) → BlocksAreApart sizes
blocks_apart sizes m n d first second = elim (cases_lt m n) [
  | inl less ↦ apart sizes m n d less first second
  | inr more ↦ elim (cases_lt n m) [
    | inl less ↦ sym (apart sizes n m d less second first)
    | inr same ↦ omega arith
  ]
]

pub below_thread_pointer : (sizes : List TlsSize) (m : ℕ) → All IsTlsSize sizes → m < length sizes
    → IsBelowThreadPointer sizes m
below_thread_pointer sizes m ordinary l =
    let once = next_past sizes m in
    record {
      below = omega arith;
      aligned = rw (tls_offset-next sizes m)
          (round_up-multiple (tls_offset sizes m + (tls_of sizes m).size) (tls_of sizes m).alignment
          (power_bounds (tls_of sizes m).alignment (ordinary m no_tls l).1).0);
    }
