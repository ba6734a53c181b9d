-- What the search for a duplicate finds is the first.
use Rattle.std.proofs.Common.{◌≡◌, ◌+◌, ◌-◌, ◌<◌, ◌≤◌, ℕ, Bool, true, false, List, Option, Some, None, length, inl, inr}
use Rattle.std.proofs.Common.{refl, sym, subst, arith}
use Rattle.std.specs.Prelude.{slice_get, IsSomeAnd}
use Rattle.std.specs.List.{find, range_with_len}
use Rattle.std.proofs.lemmas.Bool.{cases_lt}
use Rattle.elf_object.specs.Parts.{symbol_count, symbol_table}
use Rattle.tls_symbols.specs.Bindings.{object_at}
use Rattle.tls_symbols.specs.Faults.{is_duplicate, Earlier, IsDuplicateAt, IsFirstDuplicate, NoDuplicate}
use Rattle.tls_symbols.proofs.Within.{FoundAt, find_found, find_nothing}

pub impossible : true ≡ false → ⊥
impossible h = cc

-- entry k passes
abbrev pub ChargedAt : {X : Type 0} → (X → Bool) → List X → ℕ → Type 0
ChargedAt p xs k = IsSomeAnd (slice_get xs k) (λ x. p x ≡ true)

module _ (objects : List (List ℕ)) where
  -- the objects before a number have none
  abbrev pub NoneBelow : ℕ → Type 0
  NoneBelow n = (p t f : ℕ) → p < n → IsDuplicateAt objects p t f → ⊥

  pub none_left : (n : ℕ) → length objects ≤ n → NoneBelow n → NoDuplicate objects
  none_left n past before o s e at = before o s e (omega (arith, past, at.0)) at

  -- what the search in an object answers
  abbrev Finds : ℕ → List ℕ → Option ℕ → Type 0
  Finds o b found = found ≡ find (is_duplicate objects o b) (range_with_len 1 (symbol_count b - 1))

  module _ (o : ℕ) (b : List ℕ) (here : b ≡ object_at objects o) (before : NoneBelow o) where
    pub none_next : Finds o b None → NoneBelow (o + 1)
    none_next is p t f less at = elim (cases_lt p o) [
      | inl below ↦ before p t f below at
      | inr past ↦
          let c = object_at objects o in
          let same : p ≡ o = omega (arith, less, past) in
          let moved : IsDuplicateAt objects o t f = subst (λ p. IsDuplicateAt objects p t f) same at in
          find_nothing (is_duplicate objects o c) 1 (symbol_count c - 1) (sym (subst (λ b. Finds o b None) here is))
          f (omega (arith, moved.2)) (omega (arith, moved.2, moved.3)) moved.4
    ]

    pub first_here : o < length objects → (e : ℕ) → Finds o b (Some e) → IsFirstDuplicate objects o (symbol_table b) e
    first_here within e is =
        rw here (((within, refl, found.low, omega (arith, found.low, found.high), found.passes)), earlier)
      where
        c : List ℕ
        c = object_at objects o

        found : FoundAt (is_duplicate objects o c) 1 (symbol_count c - 1) e
        found = find_found (is_duplicate objects o c) 1 (symbol_count c - 1) e
            (sym (subst (λ b. Finds o b (Some e)) here is))

        earlier : (p t f : ℕ) → Earlier p t f o (symbol_table c) e → IsDuplicateAt objects p t f → ⊥
        earlier p t f (inl less) at = before p t f less at
        earlier p t f (inr (same, later)) at =
            let moved : IsDuplicateAt objects o t f = subst (λ p. IsDuplicateAt objects p t f) same at in elim later [
              | inl less ↦ let section = moved.1 in omega (arith, less, section)
              | inr (section, less) ↦ found.first f (omega (arith, moved.2)) less moved.4
            ]
