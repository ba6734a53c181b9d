-- Bytes written inside a part of a list are written in that part.
use Rattle.std.proofs.Common.{◌≡◌, ℕ, ◌+◌, ◌≤◌, List, ◌++◌, length, take, drop, sym, ap, ◌∙◌, arith, append_assoc}
use Rattle.std.proofs.Common.{length-append}
use Rattle.std.proofs.Math.Seq.{take-append-add, drop-append-add}
use Rattle.std.proofs.lemmas.List.{take-append-drop, take-append-le, drop-append-le, drop_at, take_at, length-take-le}
use Rattle.std.proofs.lemmas.List.{length-drop}
use Rattle.elf_records.specs.Fields.{part_at, splice}

-- behind a front
splice-behind : (front new rest : List ℕ) (k : ℕ)
    → splice (length front + k) new (front ++ rest) ≡ front ++ splice k new rest
unfolding splice
splice-behind front new rest k =
    let before : take (length front + k) (front ++ rest) ≡ front ++ take k rest = take-append-add front rest k in
    let there : length front + k + length new ≡ length front + (k + length new) = omega arith in
    let after : drop (length front + k + length new) (front ++ rest) ≡ drop (k + length new) rest =
    ap (λ n. drop n (front ++ rest)) there ∙ drop-append-add front rest (k + length new) in
    rw (before, after) (append_assoc front (take k rest) (new ++ drop (k + length new) rest))

-- before an end
splice-before : (front new rest : List ℕ) (k : ℕ) → k + length new ≤ length front
    → splice k new (front ++ rest) ≡ splice k new front ++ rest
unfolding splice
splice-before front new rest k room =
    let starts : k ≤ length front = omega arith in
    let before : take k (front ++ rest) ≡ take k front = take-append-le k front rest starts in
    let after : drop (k + length new) (front ++ rest) ≡ drop (k + length new) front ++ rest =
    drop-append-le (k + length new) front rest room in
    rw (before, after) (simp append_assoc)

length-splice_part : (k : ℕ) (new part : List ℕ) → k + length new ≤ length part
    → length (splice k new part) ≡ length part
unfolding splice
length-splice_part k new part room =
    let starts : k ≤ length part = omega arith in
    omega (
      arith,
      length-append (take k part) (new ++ drop (k + length new) part),
      length-append new (drop (k + length new) part),
      length-take-le k part starts,
      length-drop (k + length new) part,
    )

pub part_at-splice_inside : (n k start : ℕ) (new bytes : List ℕ) → k + length new ≤ n → start + n ≤ length bytes
    → part_at n start (splice (start + k) new bytes) ≡ splice k new (part_at n start bytes)
unfolding part_at
part_at-splice_inside n k start new bytes room inside =
    let front = take start bytes in
    let part = take n (drop start bytes) in
    let rest = drop n (drop start bytes) in
    let starts : start ≤ length bytes = omega arith in
    let front-size : length front ≡ start = length-take-le start bytes starts in
    let holds : n ≤ length (drop start bytes) = omega (arith, length-drop start bytes) in
    let part-size : length part ≡ n = length-take-le n (drop start bytes) holds in
    let fits : k + length new ≤ length part = omega arith in
    let whole : bytes ≡ front ++ (part ++ rest) = sym (take-append-drop start bytes)
    ∙ ap (λ r. front ++ r) (sym (take-append-drop n (drop start bytes))) in
    let written : splice (start + k) new bytes ≡ front ++ (splice k new part ++ rest) =
    ap (splice (start + k) new) whole ∙ ap (λ i. splice (i + k) new (front ++ (part ++ rest))) (sym front-size)
    ∙ splice-behind front new (part ++ rest) k ∙ ap (λ r. front ++ r) (splice-before part new rest k fits) in
    let size : length (splice k new part) ≡ n = length-splice_part k new part fits ∙ part-size in
    ap (λ bs. take n (drop start bs)) written ∙ ap (take n) (drop_at front (splice k new part ++ rest) start front-size)
    ∙ take_at (splice k new part) rest n size
