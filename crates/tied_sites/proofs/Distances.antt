-- The distance of a variable from the thread pointer: that of a block which begins a fixed way below it.
use Rattle.std.proofs.Common.{◌≡◌, ◌∙◌, ◌+◌, ◌-◌, ◌%◌, ◌^◌, ◌<◌, ◌≤◌, ℕ, Some, refl, sym, ap}
use Rattle.std.proofs.Common.{arith}
use Rattle.address_map.specs.Map.{pointer_of}
use Rattle.got_pairs.specs.Entries.{less}
use Rattle.loaded_modules.specs.declared.instance.Instance.{Instance}
use Rattle.thread_blocks.specs.Instances.{block_start}
use Rattle.tied_meaning.specs.Numbers.{Setting}
use Rattle.tied_meaning.specs.Sites.{IsDistance}
use Rattle.whole_meaning.specs.declared.sequences.Sequence.{Sequence}

-- an offset from so far below a pointer on
sum_below : (pointer distance offset : ℕ) → distance ≤ pointer → pointer < 2 ^ 64 → offset < 2 ^ 63
    → ((pointer - distance + offset) % 2 ^ 64 + (2 ^ 64 - pointer)) % 2 ^ 64 ≡ (offset + (2 ^ 64 - distance)) % 2 ^ 64
sum_below pointer distance offset below small low = omega arith

start_is : (thread distance : ℕ) (y : Instance) → y.offset ≡ Some distance
    → block_start thread y ≡ pointer_of thread - distance
start_is thread distance y e = rw e refl

-- every instance that has the target's number has its block so far below the thread pointer
pub distance_is : (g : Setting) (s : Sequence) (distance : ℕ) → distance < 2 ^ 28 → s.offset < 2 ^ 63
    → ((y : Instance) → g.known s.target ≡ Some y → y.offset ≡ Some distance)
    → IsDistance g s (less s.offset distance)
distance_is g s distance near low each thread y few known =
    let start : block_start thread y ≡ pointer_of thread - distance = start_is thread distance y (each y known) in
    let pointer : ℕ = pointer_of thread in
    sym (ap (λ a. ((a + s.offset) % 2 ^ 64 + (2 ^ 64 - pointer_of thread)) % 2 ^ 64) start
    ∙ sum_below (pointer_of thread) distance s.offset (omega (arith, near)) (omega (arith, few)) low)
