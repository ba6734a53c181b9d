-- The events of a row of threads: those of its threads that the job lacks are none.
use Rattle.std.proofs.Common.{◌≡◌, ◌==◌, ◌+◌, ◌<◌, ◌≤◌, ℕ, zero, suc, Bool, true, false, List, [], ◌∷◌, length, ap, inl}
use Rattle.std.proofs.Common.{inr, sym, subst, arith, eq-eqb}
use Rattle.std.specs.Prelude.{All, MatchBool, nat_lt, if◌then◌else◌}
use Rattle.std.proofs.lemmas.Bool.{cases_lt, cases_order}
use Rattle.std.proofs.lemmas.List.Elements.{All-append, All-cons, All-head, All-nil, All-tail, All-weaker}
use Rattle.job_text.specs.Threads.{IsThread}
use Rattle.module_table.specs.declared.events.Event.{Event}
use Rattle.shared_modules.specs.Views.{ByOthers, Knows, flag, longer, rising, times}
use Rattle.job_race.specs.Rows.{IsOfJob}

-- a number that is in no place of a row is before it or behind it
in_none : (first count thread : ℕ) → times thread (rising first count) ≡ 0 → first ≤ thread → thread < first + count → ⊥
in_none first zero thread none low high = omega (arith, low, high)
in_none first (suc count) thread none low high = elim (cases_order first thread) [
  | inl same ↦ let one : flag (first == thread) ≡ 1 = ap flag (eq-eqb first thread same) in omega (arith, one, none)
  | inr (inl below) ↦
      in_none (first + 1) count thread (omega (arith, none)) (omega (arith, below)) (omega (arith, high))
  | inr (inr above) ↦ omega (arith, above, low)
]

module _ (threads first count : ℕ) where
  abbrev Of : Event → Type 0
  Of = IsOfJob threads first count

  others_named : (es : List Event) → ByOthers (rising first count) es → All Of es
  others_named [] others = All-nil Of
  others_named (e ∷ es) others = All-cons Of e es
      (record {
        program = (others.0.1, others.0.2);
        has = λ low high. absurd (in_none first count e.thread others.0.0 low high);
      }) (others_named es others.1)

  -- what others added changes nothing of it
  pub named_stays : (held : List ℕ) (history seen : List Event) → held ≡ rising first count → Knows history held seen
      → All Of seen → All Of history
  named_stays held history seen are knows named =
      subst (All Of) (sym knows.whole)
      (All-append Of seen knows.rest named
      (others_named knows.rest (subst (λ (ts : List ℕ). ByOthers ts knows.rest) are knows.others)))

-- two rows
module _ (threads first some more : ℕ) where
  both_named : (seen : List Event) → All (IsOfJob threads first some) seen
      → All (IsOfJob threads (first + some) more) seen → All (IsOfJob threads first (some + more)) seen
  both_named [] left right = All-nil (IsOfJob threads first (some + more))
  both_named (e ∷ es) left right =
      let here = All-head (IsOfJob threads first some) e es left in
      let there = All-head (IsOfJob threads (first + some) more) e es right in
      All-cons (IsOfJob threads first (some + more)) e es
      (record { program = here.program; has = λ low high. either e here there low high })
      (both_named es (All-tail (IsOfJob threads first some) e es left)
      (All-tail (IsOfJob threads (first + some) more) e es right))
    where
      either : (e : Event) → IsOfJob threads first some e → IsOfJob threads (first + some) more e → first ≤ e.thread
          → e.thread < first + (some + more) → e.thread ≤ threads
      either e here there low high = elim (cases_lt e.thread (first + some)) [
        | inl before ↦ here.has low before
        | inr behind ↦ there.has behind (omega (arith, high))
      ]

  in_longer : (b : Bool) (left_threads right_threads : List ℕ) (left right : List Event)
      → left_threads ≡ rising first some → right_threads ≡ rising (first + some) more
      → MatchBool b (Knows right left_threads left) (Knows left right_threads right)
      → All (IsOfJob threads first some) left → All (IsOfJob threads (first + some) more) right
      → All (IsOfJob threads first (some + more)) (if b then right else left)
  in_longer true left_threads right_threads left right left_are right_are knows named others =
      both_named right (named_stays threads first some left_threads right left left_are knows named) others
  in_longer false left_threads right_threads left right left_are right_are knows named others =
      both_named left named (named_stays threads (first + some) more right_threads left right right_are knows others)

  pub rows_named : (left_threads right_threads : List ℕ) (left right : List Event)
      → left_threads ≡ rising first some → right_threads ≡ rising (first + some) more
      → MatchBool (nat_lt (length left) (length right)) (Knows right left_threads left) (Knows left right_threads right)
      → All (IsOfJob threads first some) left → All (IsOfJob threads (first + some) more) right
      → All (IsOfJob threads first (some + more)) (longer left right)
  rows_named left_threads right_threads left right left_are right_are agree named others =
      in_longer (nat_lt (length left)
      (length right)) left_threads right_threads left right left_are right_are agree named
      others

-- all threads of a program: the job has each of which there is an event
pub all_named : (threads : ℕ) (seen : List Event) → All (IsOfJob threads 1 64) seen
    → All (λ (event : Event). IsThread threads event.thread) seen
all_named threads seen named =
    All-weaker (IsOfJob threads 1 64) (λ (event : Event). IsThread threads event.thread)
    (λ e is. let low = is.program.0 in let high = is.program.1 in (low, is.has low (omega (arith, high)))) seen named
