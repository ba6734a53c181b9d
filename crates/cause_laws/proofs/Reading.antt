-- Where reading stops, and with which cause: the meaning's walk finds what the table's rows say.
use Rattle.std.proofs.Common.{◌≡◌, ℕ, zero, suc, ◌+◌, ◌<◌, ◌≤◌, ◌⊎◌, inl, inr, Bool, true, false, List, length, take}
use Rattle.std.proofs.Common.{Option, Some, None, refl, sym, ap, subst, ◌∙◌, arith}
use Rattle.std.specs.Prelude.{if◌then◌else◌}
use Rattle.std.specs.Option.{option_or}
use Rattle.std.proofs.lemmas.Bool.{cases_lt}
use Rattle.amd64_subset.specs.Beginning.{begins_of}
use Rattle.guest_arithmetic.specs.declared.cause.Cause.{Cause}
use Rattle.guest_arithmetic.specs.declared.cause.Cause.TheVariants as cause
use Rattle.guest_operands.specs.declared.state.State.{State}
use Rattle.job_meaning.specs.declared.values.Flag.{Flag}
use Rattle.job_meaning.specs.declared.values.Word.{Word}
use Rattle.job_meaning.specs.Reading.{completed, place_at}
use Rattle.whole_meaning.specs.declared.marks.Mark.{Mark}
use Rattle.whole_meaning.specs.declared.marks.Mark.TheVariants.{Usual, Offset, Address, Inside}
use Rattle.whole_meaning.specs.Reading.{first_hindrance, hindered, hindrance}
use Rattle.whole_meaning.specs.Threads.{ops}
use Rattle.cause_laws.specs.Rows.{StopsReading, is_covered, is_of_field, is_of_sequence, is_read_to, may_cover}
use Rattle.cause_laws.proofs.Fields.{blocked, blocked-is}

-- ** the first of so many answers

-- an answer at k, and none before it from another number on
pub record IsFirstAt (answer : ℕ → Option Cause) (from k : ℕ) (why : Cause) : Type 0 where
  pub low : from ≤ k
  pub is : answer k ≡ Some why
  pub before : (j : ℕ) → from ≤ j → j < k → answer j ≡ None

pub record IsFound (answer : ℕ → Option Cause) (from count : ℕ) (why : Cause) : Type 0 where
  pub at : ℕ
  pub high : at ≤ from + count
  pub first : IsFirstAt answer from at why

module _ (mark : ℕ → Mark) (state : State Word Flag) (bytes : List ℕ) where
  abbrev asked : ℕ → Option Cause
  asked k = hindered ops mark state bytes k

  -- what is asked of byte k, in the table's words
  abbrev pub met : ℕ → Option Cause
  met k = if is_read_to mark state bytes k then blocked (may_cover mark state bytes k)
      (mark (place_at state.place k)) else None

  pub met-is : (k : ℕ) → asked k ≡ met k
  met-is k = ap (λ (o : Option Cause). if begins_of (take k bytes) then o else None)
      (blocked-is mark state (completed bytes) k (mark (place_at state.place k)))

  next-at : (k : ℕ) (more : ℕ) (why : Cause) → asked k ≡ None → IsFound asked (k + 1) more why
      → IsFound asked k (suc more) why
  next-at k more why none h = record {
    at = h.at;
    high = let high = h.high in omega arith;
    first = record {
      low = let low = h.first.low in omega arith;
      is = h.first.is;
      before = λ j low below. before j low below (cases_lt j (k + 1));
    };
  }
    where
      before : (j : ℕ) → k ≤ j → j < h.at → (j < k + 1) ⊎ (k + 1 ≤ j) → asked j ≡ None
      before j low below (inl here) = let same : j ≡ k = omega arith in
          subst (λ (n : ℕ). asked n ≡ None) (sym same) none
      before j low below (inr behind) = h.first.before j behind below

  found : (count k : ℕ) (why : Cause) → first_hindrance ops mark state bytes k count ≡ Some why
      → IsFound asked k count why
  found zero k why e =
      record {
        at = k;
        high = omega arith;
        first =
            record { low = omega arith; is = e; before = λ j a b. absurd (omega arith) };
      }
  found (suc more) k why e = by_first (asked k) refl (found more (k + 1) why)
    where
      by_first : (o : Option Cause) → asked k ≡ o
          → (first_hindrance ops mark state bytes (k + 1) more ≡ Some why → IsFound asked (k + 1) more why)
          → IsFound asked k (suc more) why
      by_first None none rest = next-at k more why none
          (rest (sym (ap (λ (o : Option Cause). option_or o (first_hindrance ops mark state bytes (k + 1) more)) none)
          ∙ e))
      by_first (Some other) some rest =
          let same : Some other ≡ Some why =
          sym (ap (λ (o : Option Cause). option_or o (first_hindrance ops mark state bytes (k + 1) more)) some) ∙ e in
          record {
            at = k;
            high = omega arith;
            first =
                record { low = omega arith; is = some ∙ same; before = λ j a b. absurd (omega arith) };
          }

  first-is : (count from k : ℕ) (why : Cause) → k ≤ from + count → IsFirstAt asked from k why
      → first_hindrance ops mark state bytes from count ≡ Some why
  first-is zero from k why high h =
      let low = h.low in let same : k ≡ from = omega arith in subst (λ (n : ℕ). asked n ≡ Some why) same h.is
  first-is (suc more) from k why high h = by_place (cases_lt from k)
      (λ later. first-is more (from + 1) k why (omega arith) (record {
        low = omega arith;
        is = h.is;
        before = λ j low below. h.before j (omega arith) below;
      }))
    where
      by_place : (from < k) ⊎ (k ≤ from)
          → (from < k → first_hindrance ops mark state bytes (from + 1) more ≡ Some why)
          → first_hindrance ops mark state bytes from (suc more) ≡ Some why
      by_place (inl later) rest =
          ap (λ (o : Option Cause). option_or o (first_hindrance ops mark state bytes (from + 1) more))
          (h.before from (omega arith) later) ∙ rest later
      by_place (inr here) rest =
          let low = h.low in let same : k ≡ from = omega arith in
          ap (λ (o : Option Cause). option_or o (first_hindrance ops mark state bytes (from + 1) more))
          (subst (λ (n : ℕ). asked n ≡ Some why) same h.is)

  -- ** the table's words

  abbrev pub StopsWith : (Mark → Bool) → Type 0
  StopsWith is_kind = (k : ℕ) × (StopsReading mark state bytes k × (is_kind (mark (place_at state.place k)) ≡ true))

  covered-usual : (k : ℕ) → mark (place_at state.place k) ≡ Usual → may_cover mark state bytes k ≡ true
  covered-usual k e = rw e (either (completed bytes))
    where
      either : (it : _) → is_covered mark state it k Usual ≡ true
      either None = refl
      either (Some it) = refl

  stop-is : (k : ℕ) (why : Cause) → StopsReading mark state bytes k
      → blocked false (mark (place_at state.place k)) ≡ Some why
      → first_hindrance ops mark state bytes 0 (length bytes) ≡ Some why
  stop-is k why h e = first-is (length bytes) 0 k why (let within = h.within in omega arith) (record {
    low = omega arith;
    is = met-is k ∙ rw (h.asked, h.not_covered) e;
    before = λ j low below. met-is j ∙ none j below (is_read_to mark state bytes j) refl;
  })
    where
      none : (j : ℕ) → j < k → (b : Bool) → is_read_to mark state bytes j ≡ b
          → (if b then blocked (may_cover mark state bytes j) (mark (place_at state.place j)) else None) ≡ None
      none j below true asks = rw (h.before j below asks) refl
      none j below false asks = refl

  -- what was found stops the reading
  reads : (b : Bool) (o : Option Cause) (why : Cause) → (if b then o else None) ≡ Some why → (b ≡ true) × (o ≡ Some why)
  reads true o why e = (refl, e)
  reads false o why e = absurd cc

  is_blocked : (b : Bool) (μ : Mark) (why : Cause) → blocked b μ ≡ Some why → (b ≡ false) × (blocked false μ ≡ Some why)
  is_blocked true μ why e = absurd cc
  is_blocked false μ why e = (refl, e)

  found-stops : (why : Cause) → first_hindrance ops mark state bytes 0 (length bytes) ≡ Some why
      → (k : ℕ) × (StopsReading mark state bytes k × (blocked false (mark (place_at state.place k)) ≡ Some why))
  found-stops why e =
      let h = found (length bytes) 0 why e in
      let k = h.at in
      let p = reads (is_read_to mark state bytes k)
      (blocked (may_cover mark state bytes k) (mark (place_at state.place k))) why
      (sym (met-is k) ∙ h.first.is) in
      let q = is_blocked (may_cover mark state bytes k) (mark (place_at state.place k)) why p.1 in (
        k,
        (
          record {
            within = let high = h.high in omega arith;
            asked = p.0;
            not_covered = q.0;
            before = λ j below asks. covers j asks (may_cover mark state bytes j) refl
                (mark (place_at state.place j)) refl
                (sym (met-is j) ∙ h.first.before j (omega arith) below);
          },
          q.1,
        ),
      )
    where
      covers : (j : ℕ) → is_read_to mark state bytes j ≡ true → (b : Bool) → may_cover mark state bytes j ≡ b
          → (μ : Mark) → mark (place_at state.place j) ≡ μ → met j ≡ None → may_cover mark state bytes j ≡ true
      covers j asks true is μ here none = is
      covers j asks false is Usual here none = covered-usual j here
      covers j asks false is (Offset number byte) here none = let no : Some cause.Field
          ≡ None = sym (rw (asks, is, here) refl) ∙ none in absurd cc
      covers j asks false is (Address number addend byte) here none = let no : Some cause.Field
          ≡ None = sym (rw (asks, is, here) refl) ∙ none in absurd cc
      covers j asks false is Inside here none = let no : Some cause.Inside ≡ None = sym (rw (asks, is, here) refl)
          ∙ none in absurd cc

  abbrev pub ReadingIs : Option Cause → Type 0
  ReadingIs None = (StopsWith is_of_sequence → ⊥) × (StopsWith is_of_field → ⊥)
  ReadingIs (Some cause.Inside) = StopsWith is_of_sequence × (StopsWith is_of_field → ⊥)
  ReadingIs (Some cause.Field) = StopsWith is_of_field × (StopsWith is_of_sequence → ⊥)
  ReadingIs (Some why) = ⊥

  seq-cause : (μ : Mark) → is_of_sequence μ ≡ true → blocked false μ ≡ Some cause.Inside
  seq-cause Usual e = absurd cc
  seq-cause (Offset number byte) e = absurd cc
  seq-cause (Address number addend byte) e = absurd cc
  seq-cause Inside e = refl

  field-cause : (μ : Mark) → is_of_field μ ≡ true → blocked false μ ≡ Some cause.Field
  field-cause Usual e = absurd cc
  field-cause (Offset number byte) e = refl
  field-cause (Address number addend byte) e = refl
  field-cause Inside e = absurd cc

  stopped-by : (is_kind : Mark → Bool) (why : Cause) (r : Option Cause) → hindrance ops mark state bytes ≡ r
      → ((μ : Mark) → is_kind μ ≡ true → blocked false μ ≡ Some why) → StopsWith is_kind → r ≡ Some why
  unfolding hindrance
  stopped-by is_kind why r e h s = sym e ∙ stop-is s.0 why s.1.0 (h (mark (place_at state.place s.0)) s.1.1)

  pub reading : (r : Option Cause) → hindrance ops mark state bytes ≡ r → ReadingIs r
  unfolding hindrance
  reading None e = (
    λ s. let no : None ≡ Some cause.Inside = stopped-by is_of_sequence cause.Inside None e seq-cause s in absurd cc,
    λ s. let no : None ≡ Some cause.Field = stopped-by is_of_field cause.Field None e field-cause s in absurd cc,
  )
  reading (Some why) e = by_mark (mark (place_at state.place f.0)) refl
    where
      f : (k : ℕ) × (StopsReading mark state bytes k × (blocked false (mark (place_at state.place k)) ≡ Some why))
      f = found-stops why e

      field : Some cause.Field ≡ Some why → StopsWith is_of_field → ReadingIs (Some why)
      field is stops = subst ReadingIs is (
        stops,
        λ s.
            let no : Some why ≡ Some cause.Inside =
            stopped-by is_of_sequence cause.Inside (Some why) e seq-cause s in absurd cc,
      )

      by_mark : (μ : Mark) → mark (place_at state.place f.0) ≡ μ → ReadingIs (Some why)
      by_mark Usual here = let no : None ≡ Some why = sym (ap (blocked false) here) ∙ f.1.1 in absurd cc
      by_mark (Offset number byte) here =
          field (sym (ap (blocked false) here) ∙ f.1.1) (f.0, (f.1.0, rw here refl))
      by_mark (Address number addend byte) here =
          field (sym (ap (blocked false) here) ∙ f.1.1) (f.0, (f.1.0, rw here refl))
      by_mark Inside here = let is : Some cause.Inside ≡ Some why = sym (ap (blocked false) here) ∙ f.1.1 in
          subst ReadingIs is (
            (f.0, (f.1.0, rw here refl)),
            λ s.
                let no : Some why ≡ Some cause.Field =
                stopped-by is_of_field cause.Field (Some why) e field-cause s in absurd cc,
          )
