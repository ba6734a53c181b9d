-- The pieces of a file, run by run.
use Rattle.std.proofs.Common.{◌≡◌, ℕ, ◌+◌, ◌-◌, ◌<◌, ◌≤◌, List, [], ◌++◌, ap, append-nil, append_assoc, arith, drop}
use Rattle.std.proofs.Common.{get_or, length, length-append, slice_range, subst, sym, take, take-append-drop, ◌∙◌}
use Rattle.std.proofs.Math.Seq.{take-add}
use Rattle.std.proofs.lemmas.List.{drop_more}
use Rattle.std.proofs.lemmas.List.Concat.{flat_map-append}
use Rattle.std.proofs.lemmas.List.Folds.{length-flat_map-take}
use Rattle.file_bytes.specs.Pieces.{joined, EachFits}

module _ (pieces : List (List ℕ)) where
  -- a run behind the pieces before it
  pub joined_more : (from to : ℕ) → from ≤ to
      → joined (take to pieces) ≡ joined (take from pieces) ++ joined (slice_range pieces from to)
  joined_more from to order =
      let whole : from + (to - from) ≡ to = omega (arith, order) in
      ap joined (ap (λ n. take n pieces) (sym whole) ∙ take-add from (to - from) pieces)
      ∙ flat_map-append (λ piece. piece) (take from pieces) (slice_range pieces from to)

  pub size_more : (from to : ℕ) → from ≤ to
      → length (joined (take to pieces))
      ≡ length (joined (take from pieces)) + length (joined (slice_range pieces from to))
  size_more from to order = ap length (joined_more from to order) ∙ length-append _ _

  -- a run between the pieces before and behind it
  pub joined_split : (from to : ℕ) → from ≤ to
      → joined pieces ≡ joined (take from pieces) ++ (joined (slice_range pieces from to) ++ joined (drop to pieces))
  joined_split from to order =
      ap joined (sym (take-append-drop to pieces)) ∙ flat_map-append (λ piece. piece) (take to pieces) (drop to pieces)
      ∙ ap (λ front. front ++ joined (drop to pieces)) (joined_more from to order)
      ∙ append_assoc (joined (take from pieces)) (joined (slice_range pieces from to)) (joined (drop to pieces))

  -- a run of one piece
  pub joined_one : (k : ℕ) (d : List ℕ) → k < length pieces → joined (slice_range pieces k (k + 1)) ≡ get_or pieces k d
  joined_one k d inside =
      let one : k + 1 - k ≡ 1 = omega arith in
      ap (λ n. joined (take n (drop k pieces))) one ∙ ap (λ rest. joined (take 1 rest)) (drop_more pieces k d inside)
      ∙ append-nil _

  pub one_fits : (room k : ℕ) → EachFits room pieces → k < length pieces
      → length (joined (slice_range pieces k (k + 1))) ≤ room
  one_fits room k fits inside = subst (λ bytes. length bytes ≤ room) (sym (joined_one k [] inside)) (fits k [] inside)

  -- no piece has more bytes than all of them
  pub all_fit : EachFits (length (joined pieces)) pieces
  all_fit k d inside = omega (arith, length-flat_map-take (λ piece. piece) pieces k d inside)
