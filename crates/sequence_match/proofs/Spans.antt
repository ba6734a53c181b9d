-- Lists of spans: how they are made, put in order and searched.
use Rattle.std.proofs.Common.{◌≡◌, ◌+◌, ◌-◌, ◌<◌, ◌≤◌, ◌⊎◌, ◌∙◌, ◌++◌, ◌∷◌, ℕ, List, [], length, get_or, IsTrue, nat_lt}
use Rattle.std.proofs.Common.{refl, sym, ap, subst, inl, inr, arith}
use Rattle.std.specs.Prelude.{Some}
use Rattle.std.specs.List.{AllWithin, Contains}
use Rattle.std.proofs.lemmas.Bool.Decides.{nat_tests}
use Rattle.std.proofs.lemmas.List.{get_or_default}
use Rattle.std.proofs.lemmas.List.Elements.{All-push, Contains-append_left, Contains-get_or, Contains-push}
use Rattle.elf_object.specs.declared.relocation.Relocation.{Relocation}
use Rattle.sequence_match.specs.declared.index.Reach.{Reach}
use Rattle.sequence_match.specs.declared.index.Span.{Span}
use Rattle.sequence_match.specs.Code.{AreSpans, IsFirstFrom, IsLastBelow, IsRising, IsSpanOf, IsSplit, order_of}
use Rattle.sequence_match.specs.Code.{reach_width, span_of}
use Rattle.sequence_match.specs.Sites.{IsEntry}
use Rattle.sequence_match.proofs.Entries.{same_entry}
use Rattle.sequence_match.proofs.Found.{below_or_at}

-- ** how they are made

module _ (reach : Reach) (xs : List Relocation) (n : ℕ) (spans : List Span) (are : AreSpans reach xs n spans)
    (x : Relocation) (entry : IsEntry xs n x) where
  wider : (k : ℕ) (d : Span) → k < length spans → IsSpanOf reach xs (n + 1) (get_or spans k d)
  wider k d inside = let h = are.only k d inside in (omega (arith, h.0), h.1, h.2)

  -- one relocation more, which reaches no byte
  pub spans_same : reach_width reach x.kind ≡ 0 → AreSpans reach xs (n + 1) spans
  spans_same none = record {
    only = wider;
    every = λ e y below at some. elim (below_or_at e n below) [
      | inl less ↦ are.every e y less at some
      | inr same ↦
          let P : ℕ → Type 0 = λ m. IsEntry xs m y in
          let eq = same_entry xs n y x (subst P same at) entry in
          absurd (omega (arith, some, none, ap (λ z. reach_width reach z.kind) eq))
    ];
  }

  -- one that does
  pub spans_more : 0 < reach_width reach x.kind → AreSpans reach xs (n + 1) (spans ++ span_of reach n x ∷ [])
  spans_more some = record {
    only = All-push (IsSpanOf reach xs (n + 1)) spans (span_of reach n x) wider (omega arith, some, (x, entry, refl));
    every = λ e y below at reached. elim (below_or_at e n below) [
      | inl less ↦ Contains-append_left spans (span_of reach n x ∷ []) (span_of reach e y)
          (are.every e y less at reached)
      | inr same ↦
          let P : ℕ → Type 0 = λ m. IsEntry xs m y in
          let eq = same_entry xs n y x (subst P same at) entry in
          let C : Span → Type 0 = λ s. Contains (spans ++ span_of reach n x ∷ []) s in
          let whole : span_of reach n x ≡ span_of reach e y = ap (λ z. span_of reach n z) (sym eq)
          ∙ ap (λ m. span_of reach m y) (sym same) in
          subst C whole (Contains-push spans (span_of reach n x))
    ];
  }

-- ** how they are put in order

-- the first n are, by a key
abbrev pub RiseTo : (X : Type 0) → (X → ℕ) → List X → ℕ → Type 0
RiseTo X key xs n = (i j : ℕ) (d : X) → i ≤ j → j < n → j < length xs → key (get_or xs i d) ≤ key (get_or xs j d)

before_or_at : (i n : ℕ) → i ≤ n → (i ≡ n) ⊎ (i + 1 ≤ n)
before_or_at i n h = grind arith

pub rise_more : {X : Type 0} (key : X → ℕ) (xs : List X) (n : ℕ) (d : X) → RiseTo X key xs n → 1 ≤ n
    → key (get_or xs (n - 1) d) ≤ key (get_or xs n d) → RiseTo X key xs (n + 1)
rise_more key xs n d rise some next i j e less below inside =
    elim (below_or_at j n below) [
      | inl earlier ↦ rise i j e less earlier inside
      | inr at ↦ elim (before_or_at i j less) [
        | inl same ↦ let P : ℕ → Type 0 = λ m. key (get_or xs i e) ≤ key (get_or xs m e) in subst P same (omega arith)
        | inr lower ↦
            let P : ℕ → Type 0 = λ m. key (get_or xs i e) ≤ key (get_or xs m e) in
            let before = rise i (n - 1) e (omega arith) (omega arith) (omega arith) in
            let here = ap key (get_or_default xs n d e (omega arith)) in
            let there = ap key (get_or_default xs (n - 1) d e (omega arith)) in
            subst P (sym at) (omega (arith, before, next, here, there))
      ]
    ]

-- ** how they are searched

pub lt_of : (m n : ℕ) → IsTrue (nat_lt m n) → m < n
lt_of m n t = grind (arith, nat_tests)

pub of_lt : (m n : ℕ) → m < n → IsTrue (nat_lt m n)
of_lt m n h = grind (arith, nat_tests)

module _ (spans : List Span) (rising : IsRising spans) (limit n : ℕ) where
  pub below_last : (d : Span) → n ≤ length spans → 0 < n → (get_or spans (n - 1) d).offset < limit
      → AllWithin (λ span. span.offset < limit) spans 0 n
  below_last d few some last k e from inside =
      let order = rising.by_offset k (n - 1) e (omega arith) (omega arith) in
      let same = ap (λ s. s.offset) (get_or_default spans (n - 1) d e (omega arith)) in
      omega (arith, order, same, last)

  pub above_first : (d : Span) → n < length spans → limit ≤ (get_or spans n d).offset
      → AllWithin (λ span. limit ≤ span.offset) spans n (length spans)
  above_first d some first k e from inside =
      let order = rising.by_offset n k e from inside in
      let same = ap (λ s. s.offset) (get_or_default spans n d e some) in
      omega (arith, order, same, first)

  module _ (split : IsSplit spans limit n) where
    below_or_from : (k : ℕ) → (k < n) ⊎ (n ≤ k)
    below_or_from k = grind arith

    -- the last below
    pub last_is : (d : Span) → 0 < n → IsLastBelow spans limit (Some (get_or spans (n - 1) d))
    last_is d some = (
      Contains-get_or spans (n - 1) d (omega (arith, split.few)),
      split.below (n - 1) d (omega arith) (omega arith),
      λ k e inside low.
          let same = ap order_of (get_or_default spans (n - 1) d e (omega (arith, split.few))) in
          elim (below_or_from k) [
            | inl less ↦ omega (arith, rising.by_order k (n - 1) e (omega arith) (omega (arith, split.few)), same)
            | inr past ↦ absurd (omega (arith, split.above k e past inside, low))
          ],
    )

    -- the first from it on
    pub first_is : (d : Span) → n < length spans → IsFirstFrom spans limit (Some (get_or spans n d))
    first_is d some = (
      Contains-get_or spans n d some,
      split.above n d (omega arith) some,
      λ k e inside high.
          let same = ap order_of (get_or_default spans n d e some) in
          elim (below_or_from k) [
            | inl less ↦ absurd (omega (arith, split.below k e (omega arith) less, high))
            | inr past ↦ omega (arith, rising.by_order n k e past inside, same)
          ],
    )
