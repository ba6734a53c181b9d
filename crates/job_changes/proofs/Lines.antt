-- What one change leaves of the lines.
use Rattle.std.proofs.Common.{◌≡◌, ◌∙◌, ◌+◌, ◌++◌, ◌<◌, ◌≤◌, ◌⊎◌, ℕ, suc, Bool, true, false, List, [], ◌∷◌, drop}
use Rattle.std.proofs.Common.{length, length-append, map, take, refl, sym, ap, subst, arith, inl, inr}
use Rattle.std.specs.Prelude.{if◌then◌else◌, slice_index_or, slice_set}
use Rattle.std.specs.List.{Contains, insert, remove}
use Rattle.std.proofs.lemmas.Bool.{cases_lt}
use Rattle.std.proofs.lemmas.List.{drop-map, get_or_past, length-map, length-set, map-append, map-set, set_past}
use Rattle.std.proofs.lemmas.List.{take-map}
use Rattle.std.proofs.lemmas.List.Edits.{length-insert, length-remove}
use Rattle.std.proofs.lemmas.List.Elements.{All-append, All-cons, All-contains, All-contains_itself, All-drop}
use Rattle.std.proofs.lemmas.List.Elements.{All-get_or, All-push, All-set, All-take, All-weaker}
use Rattle.job_changes.specs.Lines.{AreFrom, IsChange, IsFrom}

-- ** lists of owned lines, as contracts see them

module _ {S : Type 0} (f : S → List ℕ) (xs : List S) where
  pub view_set : (i : ℕ) (x : S) → map f (slice_set xs i x) ≡ slice_set (map f xs) i (f x)
  view_set i x = map-set f xs i x

  pub view_past : (i : ℕ) (line : List ℕ) → length xs ≤ i → map f xs ≡ slice_set (map f xs) i line
  view_past i line h = sym (set_past (map f xs) i line (rw length-map h))

  pub view_push : (x : S) → map f (xs ++ x ∷ []) ≡ map f xs ++ f x ∷ []
  view_push x = map-append f xs (x ∷ [])

  pub view_insert : (i : ℕ) (x : S) → map f (insert xs i x) ≡ insert (map f xs) i (f x)
  view_insert i x = map-append f (take i xs) (x ∷ drop i xs) ∙ rw (take-map f i xs, drop-map f i xs) refl

  pub view_remove : (i : ℕ) → map f (remove xs i) ≡ remove (map f xs) i
  view_remove i = map-append f (take i xs) (drop (suc i) xs) ∙ rw (take-map f i xs, drop-map f (suc i) xs) refl

  module _ (ys : List S) (old : List (List ℕ)) (seen : map f xs ≡ old) where
    pub removed : (i : ℕ) → i < length xs → ys ≡ remove xs i
        → (map f ys ≡ old) ⊎ ((i < length old) × (map f ys ≡ remove old i))
    removed i low is =
        inr (
          subst (λ n. i < n) (sym (length-map xs f) ∙ ap length seen) low,
          ap (map f) is ∙ view_remove i
              ∙ ap (λ ls. remove ls i) seen,
        )

    pub inserted : (i : ℕ) (x : S) → i ≤ length xs → ys ≡ insert xs i x
        → (map f ys ≡ old) ⊎ ((i ≤ length old) × (map f ys ≡ insert old i (f x)))
    inserted i x low is =
        inr (
          subst (λ n. i ≤ n) (sym (length-map xs f) ∙ ap length seen) low,
          ap (map f) is ∙ view_insert i x
              ∙ ap (λ ls. insert ls i (f x)) seen,
        )

-- ** what one change makes of lines

pub from_self : (old : List (List ℕ)) (other : List ℕ) → AreFrom old other old
from_self old other = All-weaker (Contains old) (IsFrom old other) (λ x h. inl h) old (All-contains_itself old)

pub line_from : (old : List (List ℕ)) (k : ℕ) → IsFrom old [] (slice_index_or old k [])
line_from old k = by_place (cases_lt k (length old))
  where
    by_place : (k < length old) ⊎ (length old ≤ k) → IsFrom old [] (slice_index_or old k [])
    by_place (inl low) = inl (All-get_or (Contains old) old k [] low (All-contains_itself old))
    by_place (inr high) = inr (get_or_past old k [] high)

pub from_across : (a b c : List (List ℕ)) → AreFrom a [] b → AreFrom b [] c → AreFrom a [] c
from_across a b c first second = All-weaker (IsFrom b []) (IsFrom a []) each c second
  where
    each : (line : List ℕ) → IsFrom b [] line → IsFrom a [] line
    each line (inl within) = All-contains (IsFrom a []) b line first within
    each line (inr none) = inr none

module _ (old : List (List ℕ)) where
  pub change_none : IsChange old old
  change_none = record { other = []; from = from_self old []; fewer = omega arith; more = omega arith }

  pub change_set : (i : ℕ) (line : List ℕ) → IsChange old (slice_set old i line)
  change_set i line = record {
    other = line;
    from = All-set (IsFrom old line) old i line (inr refl) (from_self old line);
    fewer = omega (arith, length-set old i line);
    more = omega (arith, length-set old i line);
  }

  pub change_exchanged : (i j : ℕ)
      → IsChange old (slice_set (slice_set old i (slice_index_or old j [])) j (slice_index_or old i []))
  change_exchanged i j =
      let once = slice_set old i (slice_index_or old j []) in
      let first : length once ≡ length old = length-set old i (slice_index_or old j []) in
      let both : length (slice_set once j (slice_index_or old i [])) ≡ length once =
      length-set once j (slice_index_or old i []) in
      record {
        other = [];
        from = All-set (IsFrom old []) once j (slice_index_or old i []) (line_from old i)
            (All-set (IsFrom old []) old i (slice_index_or old j []) (line_from old j) (from_self old []));
        fewer = omega (arith, first, both);
        more = omega (arith, first, both);
      }

  pub from_inserted : (mid : List (List ℕ)) (other : List ℕ) (i : ℕ) (line : List ℕ) → AreFrom old other mid
      → IsFrom old other line
      → AreFrom old other (insert mid i line)
  from_inserted mid other i line are is =
      All-append (IsFrom old other) (take i mid) (line ∷ drop i mid) (All-take (IsFrom old other) i mid are)
      (All-cons (IsFrom old other) line (drop i mid) is (All-drop (IsFrom old other) i mid are))

  pub from_removed : (i : ℕ) → AreFrom old [] (remove old i)
  from_removed i =
      All-append (IsFrom old []) (take i old) (drop (suc i) old) (All-take (IsFrom old []) i old (from_self old []))
      (All-drop (IsFrom old []) (suc i) old (from_self old []))

  pub change_inserted : (new : List (List ℕ)) (i : ℕ) (line : List ℕ)
      → (new ≡ old) ⊎ ((i ≤ length old) × (new ≡ insert old i line)) → IsChange old new
  change_inserted new i line (inl same) = subst (IsChange old) (sym same) change_none
  change_inserted new i line (inr put) =
      let long : length (insert old i line) ≡ length old + 1 = length-insert old i line put.0 in
      let change : IsChange old (insert old i line) = record {
        other = line;
        from = from_inserted old line i line (from_self old line) (inr refl);
        fewer = omega (arith, long);
        more = omega (arith, long);
      } in
      subst (IsChange old) (sym put.1) change

  -- a line was dropped, or none was
  pub dropped_from : (new : List (List ℕ)) (i : ℕ) → (new ≡ old) ⊎ ((i < length old) × (new ≡ remove old i))
      → AreFrom old [] new
  dropped_from new i (inl same) = subst (AreFrom old []) (sym same) (from_self old [])
  dropped_from new i (inr cut) = subst (AreFrom old []) (sym cut.1) (from_removed i)

  pub dropped_fewer : (new : List (List ℕ)) (i : ℕ) → (new ≡ old) ⊎ ((i < length old) × (new ≡ remove old i))
      → length old ≤ length new + 1
  dropped_fewer new i (inl same) = omega (arith, ap length same)
  dropped_fewer new i (inr cut) = omega (arith, ap length cut.1, length-remove old i cut.0)

  pub dropped_no_more : (new : List (List ℕ)) (i : ℕ) → (new ≡ old) ⊎ ((i < length old) × (new ≡ remove old i))
      → length new ≤ length old
  dropped_no_more new i (inl same) = omega (arith, ap length same)
  dropped_no_more new i (inr cut) = omega (arith, ap length cut.1, length-remove old i cut.0)

  pub change_dropped : (new : List (List ℕ)) → AreFrom old [] new → length old ≤ length new + 1
      → length new ≤ length old → IsChange old new
  change_dropped new are fewer no_more = record { other = []; from = are; fewer = fewer; more = omega (arith, no_more) }

  -- and one of the old ones was put somewhere
  pub change_moved : (mid new : List (List ℕ)) (i : ℕ) (line : List ℕ) → AreFrom old [] mid
      → length old ≤ length mid + 1 → length mid ≤ length old
      → IsFrom old [] line → (new ≡ mid) ⊎ ((i ≤ length mid) × (new ≡ insert mid i line)) → IsChange old new
  change_moved mid new i line are fewer no_more is (inl same) =
      subst (IsChange old) (sym same) (change_dropped mid are fewer no_more)
  change_moved mid new i line are fewer no_more is (inr put) =
      let long : length (insert mid i line) ≡ length mid + 1 = length-insert mid i line put.0 in
      let change : IsChange old (insert mid i line) = record {
        other = [];
        from = from_inserted mid [] i line are is;
        fewer = omega (arith, long, fewer);
        more = omega (arith, long, no_more);
      } in
      subst (IsChange old) (sym put.1) change

  pub change_repeated : (new : List (List ℕ)) → AreFrom old [] new → length old ≤ length new
      → length new ≤ length old + 12300 → IsChange old new
  change_repeated new are no_fewer more =
      record { other = []; from = are; fewer = omega (arith, no_fewer); more = more }

  -- one of them once more, at the end
  pub from_pushed : (new : List (List ℕ)) (line : List ℕ) (k : ℕ) (put : Bool) → line ≡ slice_index_or old k []
      → new ≡ (if put then old ++ line ∷ [] else old)
      → AreFrom old [] new
  from_pushed new line k true is at =
      subst (AreFrom old []) (sym at)
      (All-push (IsFrom old []) old line (from_self old []) (subst (IsFrom old []) (sym is) (line_from old k)))
  from_pushed new line k false is at = subst (AreFrom old []) (sym at) (from_self old [])

  pub pushed_no_fewer : (new : List (List ℕ)) (line : List ℕ) (put : Bool)
      → new ≡ (if put then old ++ line ∷ [] else old) → length old ≤ length new
  pushed_no_fewer new line true at = omega (arith, ap length at, length-append old (line ∷ []))
  pushed_no_fewer new line false at = omega (arith, ap length at)

  pub pushed_more : (new : List (List ℕ)) (line : List ℕ) (put : Bool) → new ≡ (if put then old ++ line ∷ [] else old)
      → length new ≤ length old + 1
  pushed_more new line true at = omega (arith, ap length at, length-append old (line ∷ []))
  pushed_more new line false at = omega (arith, ap length at)
