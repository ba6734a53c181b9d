-- What a turn of the runner needs, from what the shared history answered, and what it leaves.
use Rattle.std.proofs.Common.{◌≡◌, ◌∙◌, ◌+◌, ◌++◌, ◌<◌, ◌-◌, ◌^◌, ℕ, true, List, length, take, drop, Option, sym, ap}
use Rattle.std.proofs.Common.{subst, arith, length-append}
use Rattle.std.proofs.lemmas.Bool.{and_parts}
use Rattle.std.proofs.lemmas.List.{length-drop, take_all}
use Rattle.std.proofs.Math.Seq.{drop-append_seam}
use Rattle.loaded_modules.specs.Images.{infos, last_offset}
use Rattle.module_table.specs.declared.events.Event.{Event}
use Rattle.module_table.specs.Past.{Past, after, is_legal, past, start}
use Rattle.module_table.specs.Walks.{is_legal-append}
use Rattle.shared_modules.specs.declared.board.Images.{Images}
use Rattle.shared_modules.specs.Passes.{PassView}
use Rattle.thread_blocks.specs.Turns.{with_event}
use Rattle.job_turns.specs.declared.asking.Ask.{Ask}
use Rattle.job_turns.specs.declared.asking.LineAnswer.{LineAnswer}
use Rattle.job_turns.specs.Alone.{TakesOwnTurn}
use Rattle.job_turns.specs.Asking.{answer_to}
use Rattle.job_turns.specs.Standing.{Run, ask_of}
use Rattle.job_turns.proofs.OneTurn.{rest_leaves, seen_front}
use Rattle.racing_thread.specs.Answers.{Answers, Finds, IsLevel, TakesRacingTurn, left_by}
use Rattle.racing_thread.specs.Tallies.{is_registry}

-- known: the list before, all: the list now, of which the turn sees what is behind `known`
module _ {r : Run} {p : PassView} {events : List Event} (level : IsLevel r p events) {found : List Event} {q : PassView}
    {answer : Option LineAnswer} {own : Option Event} {thread : ℕ} {ask : Ask}
    (thread_is : thread ≡ r.kept.vector.thread)
    (ask_is : ask ≡ ask_of r) (answers : Answers thread ask p found q answer own) {known all : List Event}
    (known_is : known ≡ events) (all_is : all ≡ found) where
  pub asked : Answers r.kept.vector.thread (ask_of r) p found q answer own
  asked = subst (λ (n : ℕ). Answers n (ask_of r) p found q answer own) thread_is
      (subst (λ (k : Ask). Answers thread k p found q answer own) ask_is answers)

  abbrev pub rest : List Event
  rest = asked.finds.known.rest

  abbrev pub fresh : List Event
  fresh = take (length all - length known) (drop (length known) all)

  long : length found ≡ length p.seen + length rest
  long = ap length asked.finds.known.whole ∙ length-append p.seen rest

  seen_is : r.kept.vector.past.seen ≡ length p.seen
  seen_is = seen_front r.kept.vector.images r p.seen level.has_seen

  -- the whole part behind what was known is what is new
  new_is : fresh ≡ drop (length p.seen) found
  new_is =
      let cut = length-drop (length known) all in
      take_all (length all - length known) (drop (length known) all) (omega (arith, cut))
      ∙ (ap (λ (es : List Event). drop (length es) all) (known_is ∙ level.events_are)
      ∙ ap (drop (length p.seen)) all_is)

  rest_is : fresh ≡ rest
  rest_is = new_is ∙ (ap (drop (length p.seen)) asked.finds.known.whole ∙ drop-append_seam p.seen rest)

  -- ** what it needs

  pub has_room : length found < 2 ^ 61 → r.kept.vector.past.seen + length fresh + 1 < 2 ^ 62
  has_room few = let count = ap length rest_is in omega (arith, long, seen_is, count, few)

  legal_all : is_legal (start (infos r.kept.vector.images) (last_offset r.kept.vector.images)) (p.seen ++ rest) ≡ true
  legal_all =
      subst (λ (es : List Event). is_legal (start (infos r.kept.vector.images) (last_offset r.kept.vector.images)) es
      ≡ true)
      asked.finds.known.whole
      (subst (λ (images : Images). is_legal (start images.infos images.last_offset) found ≡ true) level.images_are
      asked.finds.legal.each)

  pub is_legal_then : is_legal r.kept.vector.past fresh ≡ true
  unfolding past
  is_legal_then =
      let first = start (infos r.kept.vector.images) (last_offset r.kept.vector.images) in
      let parts = and_parts (is_legal first p.seen) (is_legal (after first p.seen) rest)
      (sym (is_legal-append first p.seen rest) ∙ legal_all) in
      subst (λ (es : List Event). is_legal r.kept.vector.past es ≡ true) (sym rest_is)
      (subst (λ (at : Past). is_legal at rest ≡ true) level.has_seen parts.1)

  leaves : left_by p found ≡ after r.kept.vector.past fresh
  leaves =
      ap (λ (images : Images). past images.infos images.last_offset found) level.images_are
      ∙ (rest_leaves r found p.seen rest asked.finds.known.whole level.has_seen
      ∙ ap (after r.kept.vector.past) (sym rest_is))

  pub answers_then : answer ≡ answer_to (after r.kept.vector.past fresh) (ask_of r)
  answers_then = asked.answer_is ∙ ap (λ (at : Past). answer_to at (ask_of r)) leaves

  -- ** what it leaves

  -- with the own event behind it the list has what the pass has
  pub takes_turn : (events' : List Event) (r' : Run) → TakesOwnTurn r fresh r' → events' ≡ with_event found own
      → TakesRacingTurn r p events' q r'
  takes_turn events' r' takes are = record {
    history = found;
    finds = subst (λ (e : Option Event). Finds (is_registry (ask_of r)) p found e q) asked.own_is asked.finds;
    takes = subst (λ (es : List Event). TakesOwnTurn r es r') new_is takes;
    events_are = are ∙ sym asked.finds.seen_is;
  }
