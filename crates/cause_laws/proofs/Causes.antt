-- A cause is answered exactly where it is the first whose row holds.
use Rattle.std.proofs.Common.{◌≡◌, ◌⊎◌, inl, inr, ℕ, ◌==◌, Bool, true, false, List, Option, Some, None, Err, refl, sym}
use Rattle.std.proofs.Common.{ap, subst}
use Rattle.std.specs.Prelude.{if◌then◌else◌, ◌||◌, is_none, not, ok_or}
use Rattle.std.specs.List.{list_any}
use Rattle.std.proofs.lemmas.Bool.{or_cases}
use Rattle.address_map.specs.Map.{return_place}
use Rattle.amd64_subset.specs.Decoding.{decoded}
use Rattle.guest_arithmetic.specs.declared.cause.Cause.{Cause}
use Rattle.guest_arithmetic.specs.declared.cause.Cause.TheVariants as cause
use Rattle.guest_arithmetic.specs.Cause.{first_cause}
use Rattle.guest_operands.specs.declared.state.State.{State}
use Rattle.guest_operands.specs.declared.stop.Stop.TheVariants.{Unclean}
use Rattle.guest_operands.specs.Access.{Accesses, Refused, reached}
use Rattle.guest_machine.specs.Run.{Ends, Goes, Looks, Next, next_of, returned}
use Rattle.guest_machine.specs.Touch.{touched}
use Rattle.guest_machine.specs.Use.{After}
use Rattle.job_meaning.specs.declared.values.Byte.{Byte}
use Rattle.job_meaning.specs.declared.values.Flag.{Flag}
use Rattle.job_meaning.specs.declared.values.Token.TheVariants.{Base as BaseOf, Descriptor}
use Rattle.job_meaning.specs.declared.values.Word.{Word}
use Rattle.job_meaning.specs.declared.values.Word.TheVariants.{Number, Undefined, Marked}
use Rattle.job_meaning.specs.Marked.{marked_operations, used_number}
use Rattle.job_meaning.specs.Reading.{beside_linker}
use Rattle.thread_blocks.specs.Spaces.{space_accesses}
use Rattle.whole_meaning.specs.declared.marks.Mark.{Mark}
use Rattle.whole_meaning.specs.Meanings.{Meaning}
use Rattle.whole_meaning.specs.Reading.{done, hindrance, marked_step, own_touches, plain_step, reaches_linker}
use Rattle.whole_meaning.specs.Running.{asked, meaning}
use Rattle.whole_meaning.specs.Threads.{Meant, Memory as Space, held_next, meant_accesses, meant_mark, meant_shut}
use Rattle.whole_meaning.specs.Threads.{meant_steps, ops}
use Rattle.cause_laws.specs.Laws.{CausesAreAnswered, IsAnswered, RowOf}
use Rattle.cause_laws.specs.Operands.{number_in}
use Rattle.cause_laws.specs.Rows.{RowIf, Stands, StandsOver, fetched, is_base, is_descriptor, is_undefined}
use Rattle.cause_laws.specs.Rows.{is_undefined_flag, order}
use Rattle.step_laws.specs.Steps.{StartsNoSequence}
use Rattle.cause_laws.specs.Steps.{next_with, places_of, used_flags, words_of}
use Rattle.cause_laws.proofs.Clean.{touched-are}
use Rattle.cause_laws.proofs.Order.{Decides, TellsNext, asked-tells, beside-linker, field-first, first_by, first-found}
use Rattle.cause_laws.proofs.Order.{first-only, inside-first, is_field, is_inside, linker-then, next-answers}
use Rattle.cause_laws.proofs.Order.{next-tells, next-told, test_of, unless_left, uses-then}
use Rattle.cause_laws.proofs.Picks.{pick}
use Rattle.cause_laws.proofs.Reading.{ReadingIs, reading}
use Rattle.cause_laws.proofs.Told.{step-told}
use Rattle.cause_laws.proofs.Uses.{NotShut, Tells}

module _ {M : Type 0} (acc : Accesses M Byte) (mark : ℕ → Mark) (shut : ℕ → Bool) (state : State Word Flag) (memory : M)
    (left : Bool) where
  abbrev bytes : List ℕ
  bytes = fetched acc state memory

  abbrev words : List Word
  words = words_of acc mark state memory (decoded bytes)

  abbrev flags : List Flag
  flags = used_flags acc mark state memory (decoded bytes)

  abbrev outside : Bool
  outside = shut state.place || list_any shut (places_of acc mark state memory (decoded bytes))

  -- the tests of the rows
  abbrev test : Option Cause → Cause → Bool
  test r = test_of r outside (list_any is_undefined words) (list_any is_undefined_flag flags) (list_any is_base words)
      (list_any is_descriptor words) left

  abbrev RowHere : Cause → Type 0
  RowHere why = Stands acc mark shut state memory left why

  or-no : (a b : Bool) → (a || b) ≡ false → (a ≡ true) ⊎ (b ≡ true) → ⊥
  or-no true b e h = absurd cc
  or-no false true e h = absurd cc
  or-no false false e (inl h) = absurd cc
  or-no false false e (inr h) = absurd cc

  left-no : (b : Bool) → not b ≡ true → b ≡ false
  left-no true e = absurd cc
  left-no false e = refl

  left-yes : (b : Bool) → not b ≡ false → b ≡ false → ⊥
  left-yes true e f = absurd cc
  left-yes false e f = absurd cc

  false-true : (b : Bool) → b ≡ false → b ≡ true → ⊥
  false-true true e f = absurd cc
  false-true false e f = absurd cc

  decides : (r : Option Cause)
      → ((is_inside r ≡ true → RowHere cause.Inside) × (is_inside r ≡ false → RowHere cause.Inside → ⊥))
      → ((is_field r ≡ true → RowHere cause.Field) × (is_field r ≡ false → RowHere cause.Field → ⊥))
      → Decides RowHere (test r)
  decides r inside field = record { yes = yes; no = no }
    where
      yes : (why : Cause) → test r why ≡ true → RowHere why
      yes cause.Inside e = inside.0 e
      yes cause.Field e = field.0 e
      yes cause.Linker e =
          or_cases (shut state.place) (list_any shut (places_of acc mark state memory (decoded bytes))) e
      yes cause.Undefined e = e
      yes cause.Flags e = e
      yes cause.Base e = e
      yes cause.Descriptor e = e
      yes cause.Answer e = absurd cc
      yes cause.Steps e = left-no left e

      no : (why : Cause) → test r why ≡ false → RowHere why → ⊥
      no cause.Inside e h = inside.1 e h
      no cause.Field e h = field.1 e h
      no cause.Linker e h =
          or-no (shut state.place) (list_any shut (places_of acc mark state memory (decoded bytes))) e h
      no cause.Undefined e h = false-true _ e h
      no cause.Flags e h = false-true _ e h
      no cause.Base e h = false-true _ e h
      no cause.Descriptor e h = false-true _ e h
      no cause.Answer e h = h
      no cause.Steps e h = left-yes left e h

  -- what stops the reading, by its rows; where it is a field, no sequence is met
  abbrev Reads : Option Cause → Type 0
  Reads r = ((is_inside r ≡ true → RowHere cause.Inside) × (is_inside r ≡ false → RowHere cause.Inside → ⊥))
      × ((is_field r ≡ true → RowHere cause.Field) × (is_field r ≡ false → RowHere cause.Field → ⊥))

  -- ** the step

  -- a step of the meaning, with its cause
  abbrev Steps_told : Option Cause → Type 0
  Steps_told c = Tells state.place (marked_step ops acc mark shut state memory) c

  module _ (open_byte : (place : ℕ) → NotShut (acc.byte memory place)) (open_write : (place : ℕ)
      → NotShut (acc.writes memory place)) where
    reaches-is : hindrance ops mark state bytes ≡ None → reaches_linker ops acc mark shut state memory ≡ outside
    unfolding reaches_linker
    reaches-is free = by_place (shut state.place)
      where
        by_place : (a : Bool)
            → (if a then true else list_any shut (touched acc memory (own_touches ops mark state (decoded bytes))))
            ≡ (a || list_any shut (places_of acc mark state memory (decoded bytes)))
        by_place true = refl
        by_place false = rw (touched-are acc mark shut state memory left free (decoded bytes) refl) refl

    -- nothing stops the reading
    free-told : hindrance ops mark state bytes ≡ None → (l : Bool) → outside ≡ l
        → Steps_told (if l then Some cause.Linker else pick words flags)
    unfolding marked_step plain_step
    free-told free true is =
        let t = step-told acc mark state memory open_byte open_write free (decoded bytes) refl in
        rw (reaches-is free, is, free) (
          refl,
          ap (λ (c : Cause). Some c) (sym (beside-linker state.place
              (done ops acc mark None (decoded bytes) state memory) (list_any is_undefined words)
              (list_any is_undefined_flag flags)
              (list_any is_base words) (list_any is_descriptor words) t)),
        )
    free-told free false is =
        rw (reaches-is free, is, free) (step-told acc mark state memory open_byte open_write free (decoded bytes) refl)

    -- something stops it
    hindered-told : (why : Cause) → (first_cause why cause.Linker ≡ why) → hindrance ops mark state bytes ≡ Some why
        → Steps_told (Some why)
    unfolding marked_step plain_step
    hindered-told why first e = rw e (by_reach (reaches_linker ops acc mark shut state memory))
      where
        by_reach : (b : Bool)
            → Tells {A = After Word Flag M} state.place (beside_linker b state.place (Err (Unclean state.place why)))
            (Some why)
        by_reach true = (refl, ap (λ (c : Cause). Some c) (sym first))
        by_reach false = (refl, refl)

    -- the cause of a step that is left or not
    abbrev cause_is : Option Cause → Type 0
    cause_is c = (r : Option Cause) × (Decides RowHere (test r) × (first_by (test r) order ≡ unless_left left c))

    by-linker : (l : Bool) → outside ≡ l
        → first_by (test None) order ≡ unless_left left (if l then Some cause.Linker else pick words flags)
    by-linker true is = rw is
        (linker-then (list_any is_undefined words) (list_any is_undefined_flag flags) (list_any is_base words)
        (list_any is_descriptor words) left)
    by-linker false is =
        rw is (uses-then (list_any is_undefined words) (list_any is_undefined_flag flags) (list_any is_base words)
        (list_any is_descriptor words) left)

    abbrev StepIs : Type 0
    StepIs = (c : Option Cause) × (cause_is c × Steps_told c)

    step-is : (r : Option Cause) → hindrance ops mark state bytes ≡ r → ReadingIs mark state bytes r → StepIs
    step-is None e h = (
      if outside then Some cause.Linker else pick words flags,
      (
        (
          None,
          (
            decides None (λ f. absurd cc, λ f row. h.0 row) (λ f. absurd cc, λ f row. h.1 row),
            by-linker outside refl,
          ),
        ),
        free-told e outside refl,
      ),
    )
    step-is (Some cause.Inside) e h = (
      Some cause.Inside,
      (
        (
          Some cause.Inside,
          (
            decides (Some cause.Inside) (λ f. h.0, λ f row. absurd cc) (λ f. absurd cc, λ f row. h.1 row),
            inside-first outside (list_any is_undefined words) (list_any is_undefined_flag flags)
                (list_any is_base words)
                (list_any is_descriptor words) left,
          ),
        ),
        hindered-told cause.Inside refl e,
      ),
    )
    step-is (Some cause.Field) e h = (
      Some cause.Field,
      (
        (
          Some cause.Field,
          (
            decides (Some cause.Field) (λ f. absurd cc, λ f row. h.1 row) (λ f. h.0, λ f row. absurd cc),
            field-first outside (list_any is_undefined words) (list_any is_undefined_flag flags)
                (list_any is_base words)
                (list_any is_descriptor words) left,
          ),
        ),
        hindered-told cause.Field refl e,
      ),
    )
    step-is (Some cause.Linker) e h = absurd h
    step-is (Some cause.Undefined) e h = absurd h
    step-is (Some cause.Flags) e h = absurd h
    step-is (Some cause.Base) e h = absurd h
    step-is (Some cause.Descriptor) e h = absurd h
    step-is (Some cause.Answer) e h = absurd h
    step-is (Some cause.Steps) e h = absurd h

    pub step-there : StepIs
    step-there = step-is (hindrance ops mark state bytes) refl
        (reading mark state bytes (hindrance ops mark state bytes) refl)

-- ** where the call has returned

module _ {M : Type 0} (acc : Accesses M Byte) (mark : ℕ → Mark) (shut : ℕ → Bool) (state : State Word Flag) (memory : M)
    (left : Bool) where
  abbrev OverHere : Cause → Type 0
  OverHere why = StandsOver acc mark shut state memory left why

  abbrev over_test : Option ℕ → Cause → Bool
  over_test o cause.Answer = is_none o
  over_test o why = false

  never-over : (o : Option ℕ) → is_none o ≡ false → o ≡ None → ⊥
  never-over None e f = absurd cc
  never-over (Some n) e f = absurd cc

  is-over : (o : Option ℕ) → is_none o ≡ true → o ≡ None
  is-over None e = refl
  is-over (Some n) e = absurd cc

  over-decides : Decides OverHere (over_test (number_in state.registers.rax))
  over-decides = record { yes = yes; no = no }
    where
      yes : (why : Cause) → over_test (number_in state.registers.rax) why ≡ true → OverHere why
      yes cause.Answer e = is-over _ e
      yes why e = absurd cc

      no : (why : Cause) → over_test (number_in state.registers.rax) why ≡ false → OverHere why → ⊥
      no cause.Answer e h = never-over _ e h
      no why e h = h

-- what a return tells
return-told : (S : Type 0) (here : ℕ) (w : Word)
    → TellsNext {S = S} here (Ends (returned (used_number w) here))
    (if is_none (number_in w) then Some cause.Answer else None)
return-told S here (Number n) = refl
return-told S here Undefined = (refl, refl)
return-told S here (Marked (BaseOf block)) = (refl, refl)
return-told S here (Marked (Descriptor instance symbol)) = (refl, refl)

-- ** a thread's memory has no closed byte

ok-open : {A : Type 0} (o : Option A) → NotShut (ok_or o Refused)
ok-open None = tt
ok-open (Some x) = tt

reached-open : {A : Type 0} (o : Option A) → NotShut (reached (λ x. tt {0}) (ok_or o Refused))
reached-open None = tt
reached-open (Some x) = tt

module _ (m : Meaning) (thread : ℕ) (memory : Space) where
  byte-open : (place : ℕ) → NotShut ((meant_accesses m thread).byte memory place)
  unfolding meant_accesses space_accesses
  byte-open place = ok-open _

  write-open : (place : ℕ) → NotShut ((meant_accesses m thread).writes memory place)
  unfolding meant_accesses space_accesses
  write-open place = reached-open _

-- ** the law

-- a test for each row, and the first whose test holds
abbrev IsTold : Meaning → ℕ → Meant → Bool → Next Meant → Type 0
IsTold m thread h left next = (test : Cause → Bool) × (Decides (RowOf m thread h left) test
    × TellsNext h.after.state.place next (first_by test order))

answers : (m : Meaning) (thread : ℕ) (h : Meant) (left : Bool)
    → IsTold m thread h left (next_with (meant_steps m thread) left h)
    → IsAnswered m thread h left
answers m thread h left told = record {
  first = λ why at e. let t = next-told h.after.state.place _ (first_by told.0 order) at why told.1.1 e in
      (t.0, first-found (RowOf m thread h left) told.0 told.1.0 order why t.1);
  answered = λ why is. next-answers h.after.state.place _ (first_by told.0 order) why told.1.1
      (first-only (RowOf m thread h left) told.0 told.1.0 order why is);
}

held-tells : (m : Meaning) (thread : ℕ) (h : Meant) (here : ℕ) (next : Next (After Word Flag Space)) (c : Option Cause)
    → TellsNext here next c → TellsNext here (held_next m thread h next) c
held-tells m thread h here (Goes s) c t = t
held-tells m thread h here (Looks s) c t = t
held-tells m thread h here (Ends stop) c t = t

module _ (m : Meaning) (thread : ℕ) (h : Meant) (none : StartsNoSequence m thread h) where
  abbrev here : ℕ
  here = h.after.state.place

  abbrev decided : (left b : Bool) → (here == return_place) ≡ b → (test : Cause → Bool)
      → Decides (RowIf (meant_accesses m thread) (meant_mark m thread h.after.memory)
      (meant_shut m thread h.after.memory)
      h.after.state h.after.memory left b) test → Decides (RowOf m thread h left) test
  decided left b e test d =
      subst (λ (x : Bool). Decides (RowIf (meant_accesses m thread) (meant_mark m thread h.after.memory)
      (meant_shut m thread h.after.memory) h.after.state h.after.memory left x) test) (sym e) d

  over-told : (left : Bool) → (here == return_place) ≡ true
      → IsTold m thread h left (next_with (meant_steps m thread) left h)
  unfolding meant_steps meaning marked_operations
  over-told left e =
      let w = h.after.state.registers.rax in (
        over_test (meant_accesses m thread) (meant_mark m thread h.after.memory)
            (meant_shut m thread h.after.memory) h.after.state h.after.memory left (number_in w),
        (
          decided left true e _
              (over-decides (meant_accesses m thread) (meant_mark m thread h.after.memory)
              (meant_shut m thread h.after.memory) h.after.state h.after.memory left),
          rw e (return-told Meant here w),
        ),
      )

  abbrev step_here : Next (After Word Flag Space)
  step_here = next_of (marked_step ops (meant_accesses m thread) (meant_mark m thread h.after.memory)
      (meant_shut m thread h.after.memory) h.after.state h.after.memory)

  abbrev next_here : Bool → Next Meant
  next_here true = held_next m thread h step_here
  next_here false = Ends (asked here step_here)

  next-is : (left : Bool) → (here == return_place) ≡ false → next_with (meant_steps m thread) left h ≡ next_here left
  unfolding meant_steps meaning
  next-is true e = rw (e, none) refl
  next-is false e = rw (e, none) refl

  next-told-so : (left : Bool) (c : Option Cause) → TellsNext here step_here c
      → TellsNext here (next_here left) (unless_left left c)
  next-told-so true c t = held-tells m thread h here step_here c t
  next-told-so false c t = asked-tells here step_here c t

  step-told-so : (left : Bool) → (here == return_place) ≡ false
      → IsTold m thread h left (next_with (meant_steps m thread) left h)
  step-told-so left e =
      let mark = meant_mark m thread h.after.memory in
      let shut = meant_shut m thread h.after.memory in
      let s = step-there (meant_accesses m thread) mark shut h.after.state h.after.memory left
      (byte-open m thread h.after.memory) (write-open m thread h.after.memory) in
      let tests = test (meant_accesses m thread) mark shut h.after.state h.after.memory left s.1.0.0 in
      let told = next-told-so left s.0
      (next-tells here (marked_step ops (meant_accesses m thread) mark shut h.after.state
      h.after.memory) s.0 s.1.1) in (
        tests,
        (
          decided left false e tests s.1.0.1.0,
          subst (λ (n : Next Meant). TellsNext here n (first_by tests order)) (sym (next-is left e))
              (subst (λ (c : Option Cause). TellsNext here (next_here left) c) (sym s.1.0.1.1) told),
        ),
      )

  told : (left b : Bool) → (here == return_place) ≡ b → IsTold m thread h left (next_with (meant_steps m thread) left h)
  told left true e = over-told left e
  told left false e = step-told-so left e

pub causes_answered : CausesAreAnswered
causes_answered m thread h left none =
    answers m thread h left (told m thread h none left (h.after.state.place == return_place) refl)
