-- A turn of a runner is one of each thread that it stands for.
use Rattle.std.proofs.Common.{◌≡◌, ℕ, ◌+◌, ◌<◌, ◌^◌, List, [], ◌∷◌, ◌++◌, length, drop, get_or, Option, Some, None, inl}
use Rattle.std.proofs.Common.{inr, refl, sym, ap, subst, ◌∙◌}
use native.Mathlib.Numerals.{unary_clauses}
use Rattle.std.specs.Prelude.{slice_get}
use Rattle.std.proofs.lemmas.List.{drop_more}
use Rattle.std.proofs.lemmas.Option.{get_or_from_slice_get, slice_get_cases}
use Rattle.job_text.specs.declared.thread_lines.ThreadLine.{ThreadLine}
use Rattle.loaded_modules.specs.Images.{JobImages, infos, last_offset}
use Rattle.module_data.specs.Pieces.{Piece}
use Rattle.module_table.specs.declared.events.Event.{Event}
use Rattle.module_table.specs.Past.{Past, after, past, start}
use Rattle.module_table.specs.Walks.{seen-after, seen-past}
use Rattle.thread_vector.specs.Holding.{IsLeftBy}
use Rattle.thread_vector.specs.Vectors.{Vector, caught_up, fresh, held}
use Rattle.transcript_text.specs.declared.outcomes.Line.{Line as Printed}
use Rattle.thread_blocks.specs.Held.{looked_at}
use Rattle.thread_blocks.specs.JobLoads.{job_loads}
use Rattle.thread_blocks.specs.JobWorlds.{numbered_lines, with_data}
use Rattle.thread_blocks.specs.Lines.{Line, event_by}
use Rattle.thread_blocks.specs.RunTime.{Runs, thread_turns}
use Rattle.thread_blocks.specs.Turns.{Thread, event_of, turn, with_event, with_last}
use Rattle.job_turns.specs.Taking.{BeginsLine, CanBegin, ResumesLine, Taken, emptied, loads_in, run_after}
use Rattle.thread_turns.specs.declared.parts.Ended.TheVariants.{Over, Waits}
use Rattle.job_turns.specs.declared.asking.LineAnswer.{LineAnswer}
use Rattle.job_turns.specs.Asking.{answer_to, ask_by, ask_next}
use Rattle.thread_space.specs.Kept.{HasSeen, Kept, blocks_of, owned_of, shared_of}
use Rattle.thread_space.specs.Live.{HasStartups}
use Rattle.job_turns.specs.Standing.{IsGoing, IsSameRunner, Run, StandsAfter, StandsFor, TakesTurn, Waiting}
use Rattle.thread_space.specs.Steps.{HasData, IsNew, Looks}
use Rattle.thread_space.proofs.Looks.{look_kept}
use Rattle.thread_space.proofs.StartKept.{start_has}
use Rattle.thread_space.proofs.StartupBlocks.{look_startups}
use Rattle.job_turns.proofs.TurnsBegun.{begins_turn, resumes_turn}

-- ---- the line that is next

pub going_within : (number begun : ℕ) (lines : List ThreadLine) → IsGoing (ask_next number (slice_get lines begun))
    → begun < length lines
going_within number begun lines going = elim (slice_get_cases lines begun).1 [
  | inl found ↦ found.1
  | inr past ↦ absurd (subst (λ line. IsGoing (ask_next number line)) past.1 going)
]

no_line : {X : Type 0} {x : X} → None ≡ Some x → ⊥
no_line e = cc

one_line : (number : ℕ) (line same : ThreadLine) (rest : List ThreadLine) → line ≡ same
    → numbered_lines number (line ∷ rest) ≡ record { number = number; told = same } ∷ numbered_lines (number + 1) rest
one_line number line same rest is = rw is (simp unary_clauses refl)

next_lines : (begun : ℕ) (lines : List ThreadLine) (line : ThreadLine) → slice_get lines begun ≡ Some line
    → numbered_lines (begun + 1) (drop begun lines)
    ≡ record { number = begun + 1; told = line } ∷ numbered_lines (begun + 1 + 1) (drop (begun + 1) lines)
next_lines begun lines line there = elim (slice_get_cases lines begun).1 [
  | inl found ↦
      ap (numbered_lines (begun + 1)) (drop_more lines begun line found.1)
      ∙ one_line (begun + 1) (get_or lines begun line) line (drop (begun + 1) lines)
      (get_or_from_slice_get lines begun line line there)
  | inr none ↦ absurd (no_line (sym none.1 ∙ there))
]

-- ---- what stays

taken_same : (lines : List ThreadLine) (begun fuel : ℕ) (said : List Printed) (points : List ℕ) (taken : Taken)
    (k : Kept)
    → (r : Run) → r ≡ run_after lines begun fuel said points taken k
    → (r.lines ≡ lines) × (r.fuel ≡ fuel) × (r.kept ≡ k)
taken_same lines begun fuel said points (Over outcome) k r is =
    (ap (λ (x : Run). x.lines) is, ap (λ (x : Run). x.fuel) is, ap (λ (x : Run). x.kept) is)
taken_same lines begun fuel said points (Waits (machine, asked)) k r is =
    (ap (λ (x : Run). x.lines) is, ap (λ (x : Run). x.fuel) is, ap (λ (x : Run). x.kept) is)

-- ---- a turn

module _ (k put k1 : Kept) (events : List Event) (d : List Piece) (given : HasData k d put)
    (looks : Looks put events k1)
    (left : IsLeftBy k1.vector.images k1.vector.past) (startups : HasStartups k.vector) where
  pub images_is : k1.vector.images ≡ k.vector.images
  images_is = looks.leaves.images ∙ ap (λ (v : Vector). v.images) given.vector

  thread_is : k1.vector.thread ≡ k.vector.thread
  thread_is = looks.leaves.thread ∙ ap (λ (v : Vector). v.thread) given.vector

  past_is : k1.vector.past ≡ after k.vector.past events
  past_is = looks.leaves.past ∙ ap (λ (v : Vector). after v.past events) given.vector

  blocks_are : (i : ℕ) → held k1.vector i ≡ caught_up k.vector k1.vector.past i
  blocks_are i = looks.blocks i ∙ ap (λ v. caught_up v k1.vector.past i) given.vector

  pieces_are : k1.pieces ≡ d
  pieces_are = looks.data_is ∙ given.data_is

  pub looked_startups : HasStartups k1.vector
  looked_startups = look_startups k.vector k1.vector images_is left blocks_are startups

  looked_pieces : length d ≡ length k.vector.images.images + 1 → length k1.pieces ≡ length k1.vector.images.images + 1
  looked_pieces long = ap length pieces_are ∙ long ∙ ap (λ (m : JobImages). length m.images + 1) (sym images_is)

  looked_room : (most : ℕ) → k.vector.past.seen + length events + 1 < most → k1.vector.past.seen + 1 < most
  looked_room most room =
      subst (λ seen. seen + 1 < most) (sym (ap (λ (p : Past). p.seen) past_is ∙ seen-after k.vector.past events)) room

  pub looked_ready : k.vector.past.seen + length events + 1 < 2 ^ 62 → length d ≡ length k.vector.images.images + 1
      → CanBegin k1
  looked_ready room long = record {
    room = looked_room 4611686018427387904 room;
    startups = looked_startups;
    pieces = looked_pieces long;
  }

  pub looked_answer : (answer : Option LineAnswer) (number : ℕ) (line : ThreadLine) (next : Option ThreadLine)
      → next ≡ Some line
      → answer ≡ answer_to (after k.vector.past events) (ask_next number next)
      → answer ≡ answer_to k1.vector.past (ask_by number line.image line.action)
  looked_answer answer number line next is told =
      told ∙ ap (λ p. answer_to p (ask_next number next)) (sym past_is)
      ∙ ap (λ x. answer_to k1.vector.past (ask_next number x)) is

  -- the number of events that it saw
  point_is : (seen : List Event) → HasSeen k1.vector seen → k1.vector.past.seen ≡ length seen
  point_is seen has_seen = ap (λ (p : Past). p.seen) (sym has_seen)
      ∙ seen-past (infos k1.vector.images) (last_offset k1.vector.images) seen

  seen_by : (seen : List Event)
      → past (infos k.vector.images) (last_offset k.vector.images) seen ≡ after k.vector.past events
      → HasSeen k1.vector seen
  seen_by seen is = ap (λ m. past (infos m) (last_offset m) seen) images_is ∙ is ∙ sym past_is

  at_look : (seen : List Event) → HasSeen k1.vector seen
      → looked_at (loads_in k1) k1.vector.thread seen
      (blocks_of k.vector ++ shared_of k1.vector.images k1.vector.past d)
      ≡ owned_of k1.vector k1.pieces
  at_look seen has_seen =
      look_kept k.vector k1.vector d seen images_is has_seen left blocks_are startups
      ∙ ap (owned_of k1.vector) (sym pieces_are)

  -- said of the images, the thread and the history as they were before the look
  as_before : (r : Run) (d' : List Piece) (fuel : ℕ) (seen : List Event) (t : Thread Runs Line Event)
      → StandsAfter r d' (with_event seen (event_of (event_by (job_loads k1.vector.images) k1.vector.thread) t seen))
      (turn (thread_turns (job_loads k1.vector.images) k1.vector.thread fuel)
      (with_data (shared_of k1.vector.images k1.vector.past d) t) seen)
      → StandsAfter r d' (with_event seen (event_of (event_by (job_loads k.vector.images) k.vector.thread) t seen))
      (turn (thread_turns (job_loads k.vector.images) k.vector.thread fuel)
      (with_data (shared_of k.vector.images (after k.vector.past events) d) t) seen)
  as_before r d' fuel seen t stands =
      let P : JobImages → ℕ → Past → Type 0 = λ m thread p.
      StandsAfter r d' (with_event seen (event_of (event_by (job_loads m) thread) t seen))
      (turn (thread_turns (job_loads m) thread fuel) (with_data (shared_of m p d) t) seen) in
      subst (λ m. P m k.vector.thread (after k.vector.past events)) images_is
      (subst (λ thread. P k1.vector.images thread (after k.vector.past events)) thread_is
      (subst (λ p. P k1.vector.images k1.vector.thread p) past_is stands))

  module _ (lines : List ThreadLine) (begun fuel : ℕ) (said : List Printed) where
    abbrev before : Option Waiting → Run
    before call = record { lines = lines; begun = begun; fuel = fuel; kept = k; call = call; said = said }

    same_runner : (call : Option Waiting) (n : ℕ) (points : List ℕ) (taken : Taken) (new : Kept) (r : Run)
        → new.vector.thread ≡ k1.vector.thread → new.vector.images ≡ k1.vector.images
        → r ≡ run_after lines n fuel said points taken (emptied new) → IsSameRunner (before call) r
    same_runner call n points taken new r thread images is =
        let same = taken_same lines n fuel said points taken (emptied new) r is in
        record {
          thread = ap (λ (x : Kept). x.vector.thread) same.2 ∙ thread ∙ thread_is;
          images = ap (λ (x : Kept). x.vector.images) same.2 ∙ images ∙ images_is;
          lines = same.0;
          fuel = same.1;
        }

    begins_stands : (line : ThreadLine) (r : Run) (d' : List Piece) → slice_get lines begun ≡ Some line
        → BeginsLine lines begun fuel line k1 said r d' → (t : Thread Runs Line Event) (seen : List Event)
        → StandsFor (before None) t
        → HasSeen k1.vector seen
        → StandsAfter r d' (with_event seen (event_of (event_by (job_loads k1.vector.images) k1.vector.thread) t seen))
        (turn (thread_turns (job_loads k1.vector.images) k1.vector.thread fuel)
        (with_data (shared_of k1.vector.images k1.vector.past d) t) seen)
    begins_stands line r d' there is t seen stands has_seen =
        let l = job_loads k1.vector.images in
        let P : Run → List Piece → Type 0 = λ x pieces.
        StandsAfter x pieces (with_event seen (event_of (event_by l k1.vector.thread) t seen))
        (turn (thread_turns l k1.vector.thread fuel)
        (with_data (shared_of k1.vector.images k1.vector.past d) t) seen) in
        subst (λ x. P x d') (sym is.is)
        (subst (λ pieces. P (run_after lines (begun + 1) fuel said (k1.vector.past.seen ∷ []) is.taken
        (emptied is.new)) pieces) (sym is.pieces)
        (subst (λ point. P (run_after lines (begun + 1) fuel said (point ∷ []) is.taken (emptied is.new)) is.new.pieces)
        (sym (point_is seen has_seen))
        (begins_turn lines fuel said k k1 is.new is.taken seen (shared_of k1.vector.images k1.vector.past d) has_seen
        (sym (looks.stack ∙ given.stack)) (at_look seen has_seen) begun line t.todo t.phase t.said t.seen is.begins
        (stands.todo ∙ next_lines begun lines line there) stands.phase stands.said)))

    pub begins_line : (line : ThreadLine) (r : Run) (d' : List Piece) → slice_get lines begun ≡ Some line
        → BeginsLine lines begun fuel line k1 said r d' → TakesTurn (before None) events d r d'
    begins_line line r d' there is = record {
      same = same_runner None (begun + 1)
          (k1.vector.past.seen ∷ []) is.taken is.new r is.begins.keeps.thread is.begins.keeps.images is.is;
      turns = λ t seen stands history.
          as_before r d' fuel seen t (begins_stands line r d' there is t seen stands (seen_by seen history));
    }

    resumes_stands : (c : Waiting) (r : Run) (d' : List Piece)
        → ResumesLine lines begun fuel k1 said c r d' → (t : Thread Runs Line Event) (seen : List Event)
        → StandsFor (before (Some c)) t
        → HasSeen k1.vector seen
        → StandsAfter r d' (with_event seen (event_of (event_by (job_loads k1.vector.images) k1.vector.thread) t seen))
        (turn (thread_turns (job_loads k1.vector.images) k1.vector.thread fuel)
        (with_data (shared_of k1.vector.images k1.vector.past d) t) seen)
    resumes_stands c r d' is t seen stands has_seen =
        let l = job_loads k1.vector.images in
        let P : Run → List Piece → Type 0 = λ x pieces.
        StandsAfter x pieces (with_event seen (event_of (event_by l k1.vector.thread) t seen))
        (turn (thread_turns l k1.vector.thread fuel)
        (with_data (shared_of k1.vector.images k1.vector.past d) t) seen) in
        subst (λ x. P x d') (sym is.is)
        (subst (λ pieces. P (run_after lines begun fuel said (with_last c.points k1.vector.past.seen) is.taken
        (emptied is.new)) pieces) (sym is.pieces)
        (subst (λ point. P (run_after lines begun fuel said (with_last c.points point) is.taken
        (emptied is.new)) is.new.pieces) (sym (point_is seen has_seen))
        (resumes_turn lines fuel said k k1 is.new is.taken seen (shared_of k1.vector.images k1.vector.past d) has_seen
        (sym (looks.stack ∙ given.stack)) (at_look seen has_seen) begun c t.todo t.phase t.said t.seen is.resumes
        stands.todo stands.phase stands.said)))

    pub resumes_line : (c : Waiting) (r : Run) (d' : List Piece)
        → ResumesLine lines begun fuel k1 said c r d' → TakesTurn (before (Some c)) events d r d'
    resumes_line c r d' is = record {
      same = same_runner (Some c) begun
          (with_last c.points k1.vector.past.seen) is.taken is.new r is.resumes.keeps.thread is.resumes.keeps.images is.is;
      turns = λ t seen stands history.
          as_before r d' fuel seen t (resumes_stands c r d' is t seen stands (seen_by seen history));
    }

-- ---- before the first turn

pub new_startups : (thread : ℕ) (m : JobImages) (k : Kept) → IsNew thread m k → IsLeftBy k.vector.images k.vector.past
    → HasStartups k.vector
new_startups thread m k is left = start_has k.vector left
    (is.past ∙ ap (λ images. start (infos images) (last_offset images)) (sym is.images))
    (λ i. is.blocks i ∙ ap (λ images. fresh images k.vector.past i) (sym is.images))
