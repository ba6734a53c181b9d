-- Which fronts of some bytes may yet begin an instruction: those before the end of the one that they spell.
use Rattle.std.proofs.Common.{◌≡◌, ℕ, ◌+◌, ◌-◌, ◌<◌, ◌≤◌, Bool, true, false, List, [], ◌++◌, length, take, drop, Some}
use Rattle.std.proofs.Common.{refl, sym, ap, ◌∙◌, subst, append-nil, append_assoc, arith}
use Rattle.std.specs.Prelude.{replicate}
use Rattle.std.proofs.lemmas.List.{drop-replicate, length-append, length-take-le, take-append-le, take-replicate}
use Rattle.std.proofs.Math.Seq.{take-append-add}
use Rattle.amd64_subset.specs.declared.instr.Decoded.{Decoded}
use Rattle.amd64_subset.specs.Beginning.{begins_of}
use Rattle.amd64_subset.specs.Decoding.{decoded}
use Rattle.amd64_subset.specs.Spelling.{Spells}
use Rattle.amd64_subset.proofs.Beginning.{begins_spelling, spelling_begins}
use Rattle.amd64_subset.proofs.FieldLaws.{one_spelling_lem}
use Rattle.amd64_subset.proofs.Whole.{decoded_found}
use Rattle.job_meaning.specs.Reading.{completed}
use Rattle.job_meaning.proofs.Lists.{take-cut}
use Rattle.job_meaning.proofs.Reading.{front-begins}

abbrev zeros : List ℕ
zeros = replicate 15 0

-- at most 15 bytes and 15 zeros behind them, as they lie in 30 bytes
pub padded : (bytes : List ℕ) → length bytes ≤ 15
    → take (length bytes + 15) (bytes ++ drop (length bytes) (replicate 30 0)) ≡ bytes ++ replicate 15 0
padded bytes few =
    rw (
      take-append-add bytes (drop (length bytes) (replicate 30 0)) 15,
      drop-replicate {X = ℕ} (length bytes) 30 0,
      take-replicate {X = ℕ} 15 (30 - length bytes) 0 (omega arith),
    ) refl

false-unless : (b : Bool) → (b ≡ true → ⊥) → b ≡ false
false-unless true h = absurd (h refl)
false-unless false h = refl

module _ (bytes : List ℕ) where
  -- where a front begins no instruction, no longer one does
  pub stays-none : (k j : ℕ) → k ≤ j → begins_of (take k bytes) ≡ false → begins_of (take j bytes) ≡ false
  stays-none k j low none = false-unless (begins_of (take j bytes)) (λ e.
      let h = begins_spelling (take j bytes) e in
      let cut : take k bytes ++ drop k (take j bytes) ≡ take j bytes = take-cut k j bytes low in
      let more = drop k (take j bytes) ++ h.more in
      let some : 0 < length more = let some = h.some in omega (arith, length-append (drop k (take j bytes)) h.more) in
      let whole : take k bytes ++ more ≡ take j bytes ++ h.more =
      sym (append_assoc (take k bytes) (drop k (take j bytes)) h.more) ∙ ap (λ (l : List ℕ). l ++ h.more) cut in
      let begins : begins_of (take k bytes) ≡ true =
      spelling_begins (take k bytes) more h.decoded some
      (subst (λ (l : List ℕ). Spells l h.decoded) (sym whole) h.spells) in
      cc)

module _ (bytes : List ℕ) (it : Decoded) (spelled : completed bytes ≡ Some it) where
  decoded-is : decoded (bytes ++ zeros) ≡ Some it
  unfolding completed
  decoded-is = spelled

  pub front-is : (j : ℕ) → j ≤ length bytes → take j (bytes ++ zeros) ≡ take j bytes
  front-is j low = take-append-le j bytes zeros low

  -- a front before the instruction's end begins it
  pub begun : (j : ℕ) → j ≤ length bytes → j < it.len → begins_of (take j bytes) ≡ true
  begun j low short = subst (λ (l : List ℕ). begins_of l ≡ true) (front-is j low)
      (front-begins (bytes ++ zeros) it j decoded-is short)

  -- and one behind it begins none
  pub ended : (j : ℕ) → it.len ≤ j → j ≤ length bytes → begins_of (take j bytes) ≡ false
  ended j long low = false-unless (begins_of (take j bytes)) (λ e.
      let h = begins_spelling (take j bytes) e in
      let own : Spells (take it.len bytes) it =
      subst (λ (l : List ℕ). Spells l it) (front-is it.len (omega arith))
      (decoded_found (bytes ++ zeros) it decoded-is).spells in
      let cut : take it.len bytes ++ drop it.len (take j bytes) ≡ take j bytes = take-cut it.len j bytes long in
      let whole : take it.len bytes ++ (drop it.len (take j bytes) ++ h.more) ≡ (take j bytes ++ h.more) ++ [] =
      sym (append_assoc (take it.len bytes) (drop it.len (take j bytes)) h.more)
      ∙ (ap (λ (l : List ℕ). l ++ h.more) cut ∙ sym (append-nil (take j bytes ++ h.more))) in
      let same : take it.len bytes ≡ take j bytes ++ h.more =
      (one_spelling_lem (take it.len bytes) (take j bytes ++ h.more) (drop it.len (take j bytes) ++ h.more)
      [] it h.decoded own h.spells whole).0 in
      let some = h.some in
      let size : length (take it.len bytes) ≡ length (take j bytes ++ h.more) = ap length same in
      let a : length (take it.len bytes) ≡ it.len = length-take-le it.len bytes (omega arith) in
      let b : length (take j bytes) ≡ j = length-take-le j bytes low in
      absurd (omega (arith, length-append (take j bytes) h.more)))
