-- What a turn of a runner needs and leaves, from what the registry answers: the events that the thread has not seen, with
-- its own event cut off.
use Rattle.std.proofs.Common.{◌≡◌, ◌+◌, ◌≤◌, ◌++◌, ℕ, true, List, [], ◌∷◌, length, take, drop, Option, Some, None}
use Rattle.std.proofs.Common.{Result, Ok, Err, refl, sym, ap, subst, ◌∙◌, length-append, arith}
use Rattle.std.specs.Prelude.{OnOk, option_map}
use Rattle.std.proofs.lemmas.Bool.{and_parts}
use Rattle.std.proofs.Math.Seq.{drop-append_seam, take-append_seam, take-length}
use Rattle.loaded_modules.specs.Images.{infos, last_offset}
use Rattle.module_data.specs.Pieces.{Piece}
use Rattle.module_table.specs.declared.events.Event.{Event}
use Rattle.module_table.specs.History.{History, close_answer, closed_of, left, open_answer, opened_of, unless}
use Rattle.module_table.specs.Past.{IsLegal}
use Rattle.module_table.specs.Past.{after, close_refusal, is_legal, open_refusal, past, start}
use Rattle.module_table.specs.Walks.{is_legal-append, seen-past}
use Rattle.thread_blocks.specs.Turns.{with_event}
use Rattle.job_turns.specs.declared.asking.Ask.{Ask}
use Rattle.job_turns.specs.declared.asking.LineAnswer.{LineAnswer}
use Rattle.job_turns.specs.Asking.{answer_to, closed_at, opened_at}
use Rattle.job_turns.specs.Standing.{Run, TakesTurn, ask_of}
use Rattle.job_turns.specs.Turning.{AddsAsked, CanTurn, Turned, event_asked}
use Rattle.job_turns.proofs.OneTurn.{rest_is, rest_leaves, seen_front}
use Rattle.job_turns.proofs.Standings.{front_grows}

-- ---- the registry's answers

pub open_same : (h : History) (image : ℕ)
    → unless (open_refusal (left h) image) (opened_at (left h) image) ≡ open_answer h image
unfolding left open_answer opened_of
open_same h image = rw (seen-past h.infos h.last_offset h.events) refl

pub close_same : (h : History) (image : ℕ)
    → unless (close_refusal (left h) image) (closed_at (left h) image) ≡ close_answer h image
unfolding left close_answer closed_of
close_same h image = rw (seen-past h.infos h.last_offset h.events) refl

-- as a line is handed it
module _ {A R S : Type 0} (f : R → S) where
  pub handed_ok : (refusal : Option R) (a b : A) → unless refusal a ≡ Ok b → unless (option_map f refusal) a ≡ Ok b
  handed_ok None a b same = let e : a ≡ b = cc in rw e refl
  handed_ok (Some refusal) a b same = absurd cc

  pub handed_err : (refusal : Option R) (a : A) (r : R) → unless refusal a ≡ Err r
      → unless (option_map f refusal) a ≡ Err (f r)
  handed_err None a r same = absurd cc
  handed_err (Some refusal) a r same = let e : refusal ≡ r = cc in rw e refl

-- ---- the events that are new to a runner

with_event-length : {E : Type 0} (xs : List E) (e : Option E) → length xs ≤ length (with_event xs e)
with_event-length xs None = omega arith
with_event-length xs (Some e) = let long = length-append xs (e ∷ []) in omega (arith, long)

take_known : {E : Type 0} (xs : List E) (e : Option E) → take (length xs) (with_event xs e) ≡ xs
take_known xs None = take-length xs
take_known xs (Some e) = take-append_seam xs (e ∷ [])

module _ (h : History) (d : List Piece) (r : Run) (can : CanTurn h d r) (at : ℕ) (seen : at ≡ r.kept.vector.past.seen)
  where
    at_front : at ≡ length can.front
    at_front = seen ∙ seen_front r.kept.vector.images r can.front can.has_seen

    pub seen_within : at ≤ length h.events
    seen_within = let long = ap length can.events_are ∙ length-append can.front can.rest in
        omega (arith, long, at_front)

    known_is : (known : List Event) → known ≡ drop at h.events → known ≡ can.rest
    known_is known is = is ∙ rw seen (rest_is r h.events can.front can.rest can.events_are can.has_seen)

    left_is : left h ≡ after r.kept.vector.past can.rest
    unfolding left
    left_is = rw (can.infos_are, can.last_is) (rest_leaves r h.events can.front can.rest can.events_are can.has_seen)

    module _ (thread : ℕ) (ask : Ask) (h' : History) (adds : AddsAsked thread ask h h') where
      pub seen_within_then : at ≤ length h'.events
      seen_within_then =
          let longer = with_event-length h.events (event_asked thread (left h) ask) in
          let long = ap length adds.events_are in
          omega (arith, longer, long, seen_within)

      news_are : drop at h'.events ≡ with_event can.rest (event_asked thread (left h) ask)
      news_are =
          let e = event_asked thread (left h) ask in
          rw (at_front, adds.events_are, front_grows h.events can.front can.rest e can.events_are)
          (drop-append_seam can.front (with_event can.rest e))

      module _ (known news : List Event) (known_at : known ≡ drop at h.events) (news_at : news ≡ drop at h'.events)
        where
          pub cut_is : take (length known) news ≡ can.rest
          cut_is = rw (known_is known known_at, news_at, news_are) (take_known can.rest (event_asked thread (left h) ask))

          pub cut_length : length known ≡ length (take (length known) news)
          cut_length = rw cut_is (ap length (known_is known known_at))

          pub cut_legal : IsLegal h.infos h.last_offset h.events
              → is_legal r.kept.vector.past (take (length known) news) ≡ true
          unfolding past
          cut_legal legal =
              let whole : is_legal (start (infos r.kept.vector.images) (last_offset r.kept.vector.images))
              (can.front ++ can.rest) ≡ true =
              rw (← can.infos_are, ← can.last_is, ← can.events_are) legal.each in
              let parts = and_parts _ _
              (sym (is_legal-append (start (infos r.kept.vector.images)
              (last_offset r.kept.vector.images)) can.front can.rest) ∙ whole) in
              rw (cut_is, ← can.has_seen) parts.1

          pub cut_room : r.kept.vector.past.seen + length (take (length known) news) ≡ length h.events
          cut_room =
              let long = ap length can.events_are ∙ length-append can.front can.rest in
              rw cut_is (omega (arith, long, at_front, seen))

          pub cut_answer : (answer : Option LineAnswer) (asked : Ask) → answer ≡ answer_to (left h) ask → ask ≡ asked
              → answer ≡ answer_to (after r.kept.vector.past (take (length known) news)) asked
          cut_answer answer asked is same = is ∙ rw (cut_is, left_is, same) refl

          pub cut_turned : {T E : Type 0} (d' : List Piece) (r' : Run) (result : Result T E)
              → thread ≡ r.kept.vector.thread
              → ask ≡ ask_of r → OnOk result (TakesTurn r (take (length known) news) d r' d')
              → OnOk result (length d' ≡ length d)
              → OnOk result (Turned h d r h' d' r')
          cut_turned d' r' (Ok done) thread_is ask_is takes long = record {
            adds = subst (λ n. AddsAsked n (ask_of r) h h') thread_is (subst (λ a. AddsAsked thread a h h') ask_is adds);
            pieces_are = long;
            takes = subst (λ rest. TakesTurn r rest d r' d')
                (cut_is ∙ sym (rest_is r h.events can.front can.rest can.events_are can.has_seen)) takes;
          }
          cut_turned d' r' (Err why) thread_is ask_is takes long = tt
