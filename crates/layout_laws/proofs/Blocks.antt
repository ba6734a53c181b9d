-- Blocks below a thread pointer, and the order of sections.
use Rattle.std.proofs.Common.{◌≡◌, ◌⊎◌, ◌∙◌, ◌+◌, ◌*◌, ◌<◌, ◌≤◌, ℕ, zero, suc, List, length, slice_index, take, Some}
use Rattle.std.proofs.Common.{sym, ap, subst, inl, inr, arith}
use Rattle.std.specs.Prelude.{slice_get, sum}
use Rattle.std.proofs.lemmas.Bool.{cases_lt, ltb-true}
use Rattle.std.proofs.lemmas.List.{get_or_past, take-take}
use Rattle.std.proofs.lemmas.List.Sums.{sum_by_more, sum_by-take-le}
use Rattle.std.proofs.lemmas.Option.{cond_some, get_or_from_slice_get, slice_get-get_or, slice_get_within}
use Rattle.tls_layout.specs.declared.statics.TlsSize.{TlsSize}
use Rattle.tls_layout.specs.Rounding.{round_up}
use Rattle.tls_layout.specs.Sections.{position}
use Rattle.tls_layout.specs.Statics.{no_tls, tls_of, tls_offset}
use Rattle.tls_layout.proofs.Rounds.{tls_offset-next}
use Rattle.layout_laws.specs.Layout.{AreBlocks, BlocksAreOnly, IsLeast, PositionsAreInOrder}
use Rattle.layout_laws.proofs.Found.{round_up-over, rounded}
use Rattle.layout_laws.proofs.Only.{one_least}

module _ (sizes : List TlsSize) (aligned : (m : ℕ) (tls : TlsSize) → slice_get sizes m ≡ Some tls → 0 < tls.alignment)
  where
    next_is : (m : ℕ) (tls : TlsSize) → slice_get sizes m ≡ Some tls
        → tls_offset sizes (suc m) ≡ round_up (tls_offset sizes m + tls.size) tls.alignment
    next_is m tls at =
        let same : tls_of sizes m ≡ tls = get_or_from_slice_get sizes m tls no_tls at in
        let one : suc m ≡ m + 1 = omega arith in
        ap (tls_offset sizes) one
        ∙ (tls_offset-next sizes m ∙ ap (λ (t : TlsSize). round_up (tls_offset sizes m + t.size) t.alignment) same)

    next_least : (m : ℕ) (tls : TlsSize) → slice_get sizes m ≡ Some tls
        → IsLeast tls.alignment (λ at. tls_offset sizes m + tls.size ≤ at) (tls_offset sizes (suc m))
    next_least m tls at = subst (λ (n : ℕ). IsLeast tls.alignment (λ at. tls_offset sizes m + tls.size ≤ at) n)
        (sym (next_is m tls at))
        (rounded tls.alignment (tls_offset sizes m + tls.size) (λ at. tls_offset sizes m + tls.size ≤ at)
        (aligned m tls at)
        (round_up-over (tls_offset sizes m + tls.size) tls.alignment (aligned m tls at)) (λ fewer h. h))

    module _ (offset : ℕ → ℕ) where
      only_blocks : AreBlocks sizes offset → (m : ℕ) → m ≤ length sizes → offset m ≡ tls_offset sizes m
      unfolding tls_offset
      only_blocks are zero few = are.first
      only_blocks are (suc m) few =
          let tls : TlsSize = tls_of sizes m in
          let at : slice_get sizes m ≡ Some (tls_of sizes m) = slice_get-get_or sizes m no_tls (omega (arith, few)) in
          let same = only_blocks are m (omega (arith, few)) in
          one_least (tls_of sizes m).alignment (λ at. offset m + (tls_of sizes m).size ≤ at)
          (λ at. tls_offset sizes m + (tls_of sizes m).size ≤ at)
          (offset (suc m)) (tls_offset sizes (suc m)) (λ n h. omega (arith, h, same)) (λ n h. omega (arith, h, same))
          (are.next m (tls_of sizes m) at) (next_least m (tls_of sizes m) at)

      are_blocks : ((m : ℕ) → m ≤ length sizes → offset m ≡ tls_offset sizes m) → AreBlocks sizes offset
      unfolding tls_offset
      are_blocks same = record { first = same 0 (omega arith); next = next }
        where
          next : (m : ℕ) (tls : TlsSize) → slice_get sizes m ≡ Some tls
              → IsLeast tls.alignment (λ at. offset m + tls.size ≤ at) (offset (suc m))
          next m tls at =
              let within = slice_get_within sizes m tls at in
              let here = same m (omega (arith, within)) in
              let there = same (suc m) (omega (arith, within)) in
              let is = next_least m tls at in
              record {
                times = is.times;
                multiple = there ∙ is.multiple;
                holds = omega (arith, is.holds, here, there);
                least = λ fewer h. subst (λ (n : ℕ). n ≤ fewer * tls.alignment) (sym there)
                    (is.least fewer (omega (arith, h, here)));
              }

pub blocks_only : BlocksAreOnly
blocks_only sizes aligned offset = (only_blocks sizes aligned offset, are_blocks sizes aligned offset)

-- ** the order of sections

position_some : (counts : List ℕ) (o s k : ℕ) → position counts o s ≡ Some k
    → (s < slice_index counts o) × (k ≡ sum (take o counts) + s)
unfolding position
position_some counts o s k e = let is = cond_some _ _ _ e in (ltb-true s (slice_index counts o) is.0, sym is.1)

earlier_object : (counts : List ℕ) (o s o' s' : ℕ) → o < o' → s < slice_index counts o
    → sum (take o counts) + s < sum (take o' counts) + s'
earlier_object counts o s o' s' less h =
    let there : o < length counts = elim (cases_lt o (length counts)) [
      | inl below ↦ below
      | inr past ↦ absurd (omega (arith, h, get_or_past counts o 0 past))
    ] in
    let one = sum_by_more (λ x. x) counts o 0 there in
    let shorter : sum (take (o + 1) counts) ≤ sum (take o' counts) =
    rw (← take-take (o + 1) o' counts (omega arith)) (sum_by-take-le (λ x. x) (take o' counts) (o + 1)) in
    omega (arith, one, shorter, h)

pub in_order : PositionsAreInOrder
in_order counts o s k o' s' k' first second =
    let a = position_some counts o s k first in
    let b = position_some counts o' s' k' second in (
      λ less. elim (cases_lt o o') [
        | inl earlier ↦ inl earlier
        | inr not_earlier ↦ elim (cases_lt o' o) [
          | inl later ↦ absurd (omega (arith, less, earlier_object counts o' s' o s later b.0, a.1, b.1))
          | inr not_later ↦
              let same : o ≡ o' = omega (arith, not_earlier, not_later) in
              let at : sum (take o counts) ≡ sum (take o' counts) = ap (λ (n : ℕ). sum (take n counts)) same in
              inr (same, omega (arith, less, a.1, b.1, at))
        ]
      ],
      λ which. of a b which,
    )
  where
    of : (s < slice_index counts o) × (k ≡ sum (take o counts) + s)
        → (s' < slice_index counts o') × (k' ≡ sum (take o' counts) + s')
        → (o < o') ⊎ ((o ≡ o') × (s < s')) → k < k'
    of a b (inl earlier) = omega (arith, earlier_object counts o s o' s' earlier a.0, a.1, b.1)
    of a b (inr same) =
        let at : sum (take o counts) ≡ sum (take o' counts) = ap (λ (n : ℕ). sum (take n counts)) same.0 in
        omega (arith, same.1, a.1, b.1, at)
