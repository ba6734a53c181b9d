-- What an index by place tells of the relocations.
use Rattle.std.proofs.Common.{◌≡◌, ◌+◌, ◌*◌, ◌<◌, ◌≤◌, ◌^◌, ℕ, List, length, ap, subst, refl, inl, inr, arith}
use Rattle.std.specs.List.{All, Contains}
use Rattle.std.specs.List.Sorted.{IsNonDecreasingBy, IsPermutation}
use Rattle.std.proofs.lemmas.List.Elements.{All-contains}
use Rattle.std.proofs.lemmas.List.Sorted.{All-permutation, Contains-permutation}
use Rattle.std.proofs.lemmas.Option.{slice_get_within}
use Rattle.elf_records.specs.declared.relocation.RelocationKind.{RelocationKind}
use Rattle.elf_records.specs.declared.relocation.RelocationKind.TheVariants.{TlsDescCall}
use Rattle.elf_object.specs.declared.relocation.Relocation.{Relocation}
use Rattle.sequence_match.specs.declared.index.Reach.{Reach}
use Rattle.sequence_match.specs.declared.index.Reach.TheVariants.{OfField}
use Rattle.sequence_match.specs.declared.index.Span.{Span}
use Rattle.sequence_match.specs.Code.{AreApart, AreSpans, IsIndex, IsSpanOf, Reaches, ReachesAt, call_width, order_of}
use Rattle.sequence_match.specs.Code.{span_of}
use Rattle.sequence_match.specs.Sites.{IsEntry}
use Rattle.sequence_match.proofs.Entries.{below_or_not, same_entry}

offset_first : (o p e f : ℕ) → e < 2 ^ 20 → f < 2 ^ 20 → o * 2 ^ 20 + e ≤ p * 2 ^ 20 + f → o ≤ p
offset_first o p e f a b h = omega arith

-- spans that are in order rise by offset
pub index_is : (reach : Reach) (xs : List Relocation) (spans : List Span) → length xs ≤ 2 ^ 20
    → AreSpans reach xs (length xs) spans → IsNonDecreasingBy order_of spans
    → IsIndex reach xs spans
index_is reach xs spans few are order = record {
  are = are;
  rising = record {
    by_offset = λ i j d less inside.
        offset_first _ _ _ _ (omega (arith, few, (are.only i d (omega arith)).0))
        (omega (arith, few, (are.only j d inside).0)) (order i j d less inside);
    by_order = order;
  };
}

-- another order keeps the spans
pub spans_moved : (reach : Reach) (xs : List Relocation) (n : ℕ) (spans sorted : List Span) → AreSpans reach xs n spans
    → IsPermutation spans sorted
    → AreSpans reach xs n sorted
spans_moved reach xs n spans sorted are moved = record {
  only = All-permutation (IsSpanOf reach xs n) spans sorted moved are.only;
  every = λ e x below entry some. Contains-permutation spans sorted (span_of reach e x) moved
      (are.every e x below entry some);
}

module _ (reach : Reach) (xs : List Relocation) (spans : List Span) (few : length xs ≤ 2 ^ 20)
    (index : IsIndex reach xs spans) where
  -- a relocation that reaches a byte has its span
  pub span_is : (e k : ℕ) (x : Relocation) → IsEntry xs e x → Reaches reach x k → Contains spans (span_of reach e x)
  span_is e k x entry reaches =
      index.are.every e x (slice_get_within xs e x entry) entry (omega (arith, reaches.0, reaches.1))

  pub entry_few : (e : ℕ) (x : Relocation) → IsEntry xs e x → e < 2 ^ 20
  entry_few e x entry = omega (arith, few, slice_get_within xs e x entry)

  -- and a span its relocation
  pub of_span : (span : Span) → Contains spans span → IsSpanOf reach xs (length xs) span
  of_span span among = All-contains (IsSpanOf reach xs (length xs)) spans span index.are.only among

  -- which reaches the bytes of the span
  pub span_reaches : (span : Span) (k : ℕ) → Contains spans span → span.offset ≤ k → k < span.offset + span.width
      → ReachesAt reach xs k span.entry
  span_reaches span k among low high =
      let of = of_span span among in
      let offset = ap (λ s. s.offset) of.2.2 in
      let width = ap (λ s. s.width) of.2.2 in
      (of.2.0, of.2.1, (omega (arith, offset, low), omega (arith, offset, width, high)))

  -- where all spans begin above a byte, none reaches it
  pub none_below : (k : ℕ) → All (λ span. k + 1 ≤ span.offset) spans → (e : ℕ) → ReachesAt reach xs k e → ⊥
  none_below k above e h =
      let at = All-contains (λ (span : Span). k + 1 ≤ span.offset) spans (span_of reach e h.0) above
      (span_is e k h.0 h.1 h.2) in
      omega (arith, at, h.2.0)

-- the last field that begins at a byte or before
module _ (xs : List Relocation) (spans : List Span) (few : length xs ≤ 2 ^ 20) (index : IsIndex OfField xs spans)
    (apart : AreApart xs) (k : ℕ) (last : Span)
    (among : Contains spans last) (low : last.offset < k + 1) where
  -- covers it, and no other does
  pub last_covers : k < last.offset + last.width
      → ReachesAt OfField xs k last.entry × ((f : ℕ) → f < last.entry → ReachesAt OfField xs k f → ⊥)
  last_covers high =
      let by = span_reaches OfField xs spans few index last k among (omega arith) high in
      (by, λ f less h. apart f last.entry k h.0 by.0 h.1 by.1 less h.2 by.2)

  -- or none does
  pub none_covers : All (λ span. span.offset < k + 1 → order_of span ≤ order_of last) spans
      → last.offset + last.width ≤ k → (f : ℕ) → ReachesAt OfField xs k f → ⊥
  none_covers greatest past f h =
      let of = of_span OfField xs spans few index last among in
      let own = span_reaches OfField xs spans few index last last.offset among (omega arith) (omega (arith, of.1)) in
      let order = All-contains (λ (span : Span). span.offset < k + 1 → order_of span ≤ order_of last) spans
      (span_of OfField f h.0) greatest (span_is OfField xs spans few index f k h.0 h.1 h.2)
      (omega (arith, h.2.0)) in
      let before : h.0.offset ≤ last.offset =
      offset_first _ _ _ _ (entry_few OfField xs spans few index f h.0 h.1) (omega (arith, few, of.0)) order in
      let covers : Reaches OfField h.0 last.offset = (before, omega (arith, h.2.1)) in
      elim (below_or_not f last.entry) [
        | inl less ↦ apart f last.entry last.offset h.0 own.0 h.1 own.1 less covers own.2
        | inr (inl same) ↦
            let P : ℕ → Type 0 = λ n. IsEntry xs n h.0 in
            let R : Relocation → Type 0 = λ x. Reaches OfField x k in
            let there : Reaches OfField of.2.0 k =
            subst R (same_entry xs last.entry h.0 of.2.0 (subst P same h.1) of.2.1) h.2 in
            omega (arith, there.1, past, ap (λ s. s.offset) of.2.2, ap (λ s. s.width) of.2.2)
        | inr (inr more) ↦ apart last.entry f last.offset own.0 h.0 own.1 h.1 more own.2 covers
      ]

pub reach_of_call : (kind : RelocationKind) (o k : ℕ) → (o ≤ k) × (k < o + call_width kind)
    → (kind ≡ TlsDescCall) × (o ≡ k)
reach_of_call TlsDescCall o k h = (refl, omega (arith, h.0, h.1))
reach_of_call _ o k h = absurd (omega (arith, h.0, h.1))
