-- Windows of a list of bytes, in which others are written.
use Rattle.std.proofs.Common.{◌≡◌, ◌∙◌, ℕ, ◌+◌, ◌-◌, ◌<◌, ◌≤◌, List, ◌++◌, take, drop, get_or, length, refl, sym, ap}
use Rattle.std.proofs.Common.{arith, inl, inr, length-append, ◌⊎◌}
use Rattle.std.proofs.lemmas.Bool.{cases_lt}
use Rattle.std.proofs.lemmas.List.{get_or-take, get_or-drop, get_or-append_right, get_or_append_left, length-take-le}
use Rattle.std.proofs.lemmas.List.{length-drop}
use borrow.Rule.Slice.PartMut.{put_mid}
use Rattle.std.specs.Prelude.{slice_range}
use Rattle.elf_records.specs.Fields.{splice}
use Rattle.elf_records.specs.Laws.{length-splice}
use Rattle.loaded_modules.specs.Words.{IsWindow}

module _ (a : ℕ) (xs ys rest : List ℕ) (j d : ℕ) (inside : a ≤ length xs) where
  front : length (take a xs) ≡ a
  front = length-take-le a xs inside

  below : j < a → get_or (take a xs ++ (ys ++ rest)) j d ≡ get_or xs j d
  below lt = get_or_append_left (take a xs) (ys ++ rest) d j (omega (arith, front, lt)) ∙ get_or-take a xs j d lt

  within : a ≤ j → j < a + length ys → get_or (take a xs ++ (ys ++ rest)) j d ≡ get_or ys (j - a) d
  within ge lt = get_or-append_right (take a xs) (ys ++ rest) a j d front ge
      ∙ get_or_append_left ys rest d (j - a) (omega (arith, ge, lt))

  above : a + length ys ≤ j → get_or (take a xs ++ (ys ++ rest)) j d ≡ get_or rest (j - a - length ys) d
  above ge = get_or-append_right (take a xs) (ys ++ rest) a j d front (omega (arith, ge))
      ∙ get_or-append_right ys rest (length ys) (j - a) d refl (omega (arith, ge))

-- ** a splice

module _ (at : ℕ) (new bytes : List ℕ) (j d : ℕ) (inside : at + length new ≤ length bytes) where
  pub splice_below : j < at → get_or (splice at new bytes) j d ≡ get_or bytes j d
  unfolding splice
  splice_below lt = below at bytes new (drop (at + length new) bytes) j d (omega (arith, inside)) lt

  pub splice_within : at ≤ j → j < at + length new → get_or (splice at new bytes) j d ≡ get_or new (j - at) d
  unfolding splice
  splice_within ge lt = within at bytes new (drop (at + length new) bytes) j d (omega (arith, inside)) ge lt

  pub splice_above : at + length new ≤ j → get_or (splice at new bytes) j d ≡ get_or bytes j d
  unfolding splice
  splice_above ge =
      above at bytes new (drop (at + length new) bytes) j d (omega (arith, inside)) ge
      ∙ get_or-drop (at + length new) bytes (j - at - length new) d
      ∙ ap (λ i. get_or bytes i d) (omega (arith, ge))

-- ** a window in which the bytes are written that lie in it

module _ (whole bytes window ys : List ℕ) (from place start end : ℕ) (shows : IsWindow whole from window)
    (inside : place + length bytes ≤ length whole) where
  -- none lies in it
  pub window_kept : ((j : ℕ) → place ≤ from + j → from + j < place + length bytes → j < length window → ⊥)
      → IsWindow (splice place bytes whole) from window
  window_kept apart = record {
    within = let long = length-splice place bytes whole inside in omega (arith, long, shows.within);
    same = λ j d lt. shows.same j d lt ∙ elim (cases_lt (from + j) place) [
      | inl before ↦ sym (splice_below place bytes whole (from + j) d inside before)
      | inr ge ↦ elim (cases_lt (from + j) (place + length bytes)) [
        | inl between ↦ absurd (apart j ge between lt)
        | inr behind ↦ sym (splice_above place bytes whole (from + j) d inside behind)
      ]
    ];
  }

  module _ (bounds : (place ≤ start) × (from ≤ start) × (end ≤ place + length bytes) × (end ≤ from + length window)
      × (start < end)) (tight : ((start ≡ place) ⊎ (start ≡ from))
      × ((end ≡ place + length bytes) ⊎ (end ≡ from + length window)))
      (is : ys ≡ slice_range bytes (start - place) (end - place)) where
    abbrev a : ℕ
    a = start - from

    count : length ys ≡ end - start
    count =
        ap length is
        ∙ length-take-le (end - place - (start - place)) (drop (start - place) bytes)
        (let long = length-drop (start - place) bytes in
        omega (arith, long, bounds.0, bounds.1, bounds.2, bounds.3, bounds.4))
        ∙ omega (arith, bounds.0, bounds.1, bounds.2, bounds.3, bounds.4)

    abbrev rest : List ℕ
    rest = drop (end - from - a) (drop a window)

    in_window : a ≤ length window
    in_window = omega (arith, bounds.1, bounds.3, bounds.4)

    long : length (put_mid a (end - from - a) window ys) ≡ length window
    long =
        length-append (take a window) (ys ++ rest)
        ∙ (let one = length-append ys rest in
        let two = length-drop (end - from - a) (drop a window) in
        let three = length-drop a window in
        let four = length-take-le a window in_window in
        omega (arith, one, two, three, four, count, bounds.1, bounds.3, bounds.4))

    same_at : (j d : ℕ) → j < length window
        → get_or (put_mid a (end - from - a) window ys) j d ≡ get_or (splice place bytes whole) (from + j) d
    same_at j d lt = elim (cases_lt j a) [
      | inl before ↦ below a window ys rest j d in_window before ∙ shows.same j d lt
          ∙ sym (splice_below place bytes whole (from + j) d inside (low before tight.0))
      | inr ge ↦ elim (cases_lt j (a + length ys)) [
        | inl between ↦ within a window ys rest j d in_window ge between
            ∙ ap (λ (zs : List ℕ). get_or zs (j - a) d) is
            ∙ get_or-take (end - place - (start - place)) (drop (start - place) bytes) (j - a) d
            (omega (arith, count, between, ge, bounds.0, bounds.1, bounds.4))
            ∙ get_or-drop (start - place) bytes (j - a) d
            ∙ ap (λ i. get_or bytes i d) (omega (arith, ge, bounds.0, bounds.1))
            ∙ sym (splice_within place bytes whole (from + j) d inside (omega (arith, ge, bounds.0, bounds.1))
            (omega (arith, between, count, ge, bounds.1, bounds.2, bounds.4)))
        | inr behind ↦ above a window ys rest j d in_window behind
            ∙ get_or-drop (end - from - a) (drop a window) (j - a - length ys) d
            ∙ get_or-drop a window (end - from - a + (j - a - length ys)) d
            ∙ ap (λ i. get_or window i d) (omega (arith, behind, count, ge, bounds.1, bounds.4))
            ∙ shows.same j d lt
            ∙ sym (splice_above place bytes whole (from + j) d inside (high behind tight.1))
      ]
    ]
      where
        low : j < a → (start ≡ place) ⊎ (start ≡ from) → from + j < place
        low before (inl here) = omega (arith, before, here)
        low before (inr there) = absurd (omega (arith, before, there))

        high : a + length ys ≤ j → (end ≡ place + length bytes) ⊎ (end ≡ from + length window)
            → place + length bytes ≤ from + j
        high behind (inl here) = omega (arith, behind, here, count, bounds.1, bounds.4)
        high behind (inr there) = absurd (omega (arith, behind, there, count, lt, bounds.1, bounds.4))

    pub window_on : IsWindow (splice place bytes whole) from (put_mid a (end - from - a) window ys)
    window_on = record {
      within = let len = length-splice place bytes whole inside in omega (arith, len, long, shows.within);
      same = λ j d lt. same_at j d (omega (arith, long, lt));
    }
