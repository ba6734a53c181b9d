-- A turn of a thread of the code is one of each thread that it stands for.
use Rattle.std.proofs.Common.{◌≡◌, ◌∙◌, ◌+◌, ◌-◌, ◌<◌, ◌^◌, ◌++◌, ℕ, false, List, [], ◌∷◌, Option, Some, None, length}
use Rattle.std.proofs.Common.{drop, refl, sym, ap, subst, arith}
use native.Mathlib.Numerals.{unary_clauses}
use Rattle.std.specs.Prelude.{option_and_then, slice_get}
use Rattle.guest_operands.specs.declared.state.State.{State}
use Rattle.job_meaning.specs.declared.values.Byte.{Byte}
use Rattle.job_meaning.specs.declared.values.Flag.{Flag}
use Rattle.job_meaning.specs.declared.values.Word.{Word}
use Rattle.job_text.specs.declared.thread_lines.ThreadLine.{ThreadLine}
use Rattle.module_table.specs.declared.events.Event.{Event}
use Rattle.module_table.specs.Past.{Past}
use Rattle.thread_blocks.specs.Held.{Owned, looked, owned_by, with_owned}
use Rattle.thread_blocks.specs.Instances.{instances_in, left_by}
use Rattle.thread_blocks.specs.JobWorlds.{changed, data_in, numbered_lines}
use Rattle.thread_blocks.specs.Lines.{Line, begin_line, begun_by, event_by}
use Rattle.thread_blocks.specs.Turns.{Idle, Mid, Phase, Said, Thread, after_look, next_line, turn_at, with_event}
use Rattle.thread_blocks.specs.Turns.{with_last}
use Rattle.whole_meaning.specs.Jobs.{first_in}
use Rattle.whole_meaning.specs.Loads.{loads_of, meaning_of}
use Rattle.whole_meaning.specs.Threads.{Meant, begin_meant, code_owner, meant_show, meant_turns, ops, resume_meant}
use Rattle.whole_meaning.specs.Threads.{resumed_for}
use Rattle.marked_memory.specs.declared.space.Wanted.TheVariants.{Fixed}
use Rattle.job_check.specs.Taking.{BeginsTo, ResumesTo, Taken}
use Rattle.thread_turns.specs.declared.parts.Ended.TheVariants.{Over, Waits}
use Rattle.job_check.specs.declared.thread.Waiting.{Waiting}
use Rattle.job_check.specs.Histories.{infos_of}
use Rattle.marked_memory.specs.Kept.{HasSeen, Kept, held_at}
use Rattle.job_check.specs.Lines.{CanBegin, HasLeft, Sees}
use Rattle.marked_memory.specs.Spaces.{with_held}
use Rattle.job_check.specs.Standing.{BeginsLine, GoesOn, IsIdle, IsMid, IsSameThread, PhaseIs, ResumesLine, Run}
use Rattle.job_check.specs.Standing.{StandsAfter, TakesTurn, emptied, is_done_with, run_after}
use Rattle.thread_turns.proofs.Lists.{at_drop}
use Rattle.job_check.proofs.Looks.{held_with, live_is, look_is}
use Rattle.job_check.proofs.OwnedApart.{owned_again}
use Rattle.job_check.proofs.TurnsTaken.{took_stands}

-- ** the line that is next

next_lines : (begun : ℕ) (lines : List ThreadLine) (line : ThreadLine) → slice_get lines begun ≡ Some line
    → numbered_lines (begun + 1) (drop begun lines)
    ≡ record { number = begun + 1; told = line } ∷ numbered_lines (begun + 1 + 1) (drop (begun + 1) lines)
next_lines begun lines line there =
    ap (numbered_lines (begun + 1)) (at_drop lines begun line there) ∙ simp unary_clauses refl

-- ** the look

-- with the data, and no word that is lent
abbrev pub look_at : Kept → Past → List (Owned Byte) → Kept
look_at k p d = record (with_held (instances_in (infos_of k.images) p) d Fixed k) { lent = None }

module _ (k : Kept) (p : Past) (d : List (Owned Byte)) (seen : List Event) (left : left_by (loads_of k.images) seen ≡ p)
  where
    abbrev in_hands : Meant → Meant
    in_hands h = with_owned h (owned_by h ++ d)

    looks_in_hands : (before : List Event) (state : State Word Flag)
        → looked (loads_of k.images) k.thread seen (in_hands (held_at before state k))
        ≡ held_at seen state (look_at k p d)
    looks_in_hands before state =
        ap (λ xs. looked (loads_of k.images) k.thread seen (held_with before state k.stack (xs ++ d)))
        (owned_again k.own)
        ∙ look_is k before state d (instances_in (infos_of k.images) p) seen (live_is k.images p seen left)

    has_left : HasLeft (look_at k p d) seen p
    unfolding with_held
    has_left = left

    has_seen : HasSeen (look_at k p d) seen
    unfolding with_held
    has_seen = live_is k.images p seen left

    module _ (r : Run) (p' : Past) (taken : Taken) where
      abbrev StandsThen : Past → List Event → Thread Meant Line Event → Type 0
      StandsThen q now t = StandsAfter (run_after (emptied r) taken) q (data_in r.kept.own) now t

      -- a line that begins
      begun_turn : (line : ThreadLine) (todo : List Line) (said : List Said) (old : List Event) (h : Meant)
          → IsIdle k h → BeginsTo r.fuel (record { number = r.begun; told = line }) p (look_at k p d) taken p' r.kept
          → todo ≡ numbered_lines (r.begun + 1) (drop r.begun r.lines) → length said + 1 ≡ r.begun
          → first_in k.thread 1 said ≡ r.unclean
          → StandsThen p' (with_event seen
          (event_by (meaning_of k.images).loads k.thread (record { number = r.begun; told = line }) seen))
          (turn_at (meant_turns (meaning_of k.images) k.thread r.fuel) (record { number = r.begun; told = line } ∷ todo)
          (Idle (in_hands h)) said old seen)
      unfolding meant_turns begin_meant begin_line meaning_of with_held
      begun_turn line todo said old h idle begins rest count first =
          let number : Line = record { number = r.begun; told = line } in
          let m = meaning_of k.images in
          let now = with_event seen (event_by (loads_of k.images) k.thread number seen) in
          let facts = begins.begins seen idle.state todo said left (live_is k.images p seen left) in
          let P : Meant → Type 0 = λ held.
          StandsThen p' now
          (after_look (meant_turns m k.thread r.fuel) r.fuel todo said seen (length seen ∷ [])
          (begun_by ops (loads_of k.images)
          (meant_show m k.thread number seen) k.thread number seen held line.action)) in
          let same : first_in r.kept.thread 1 said ≡ r.unclean =
          ap (λ thread. first_in thread 1 said) begins.keeps.thread
          ∙ first in
          subst (λ x. P (looked (loads_of k.images) k.thread seen (in_hands x))) (sym idle.holds)
          (subst P (sym (looks_in_hands idle.seen idle.state))
          (took_stands r (length seen ∷ []) now todo said seen p' facts.0 rest count same taken _ facts.1))

      -- a call that goes on
      resumed_turn : (c : Waiting) (todo : List Line) (said : List Said) (old : List Event) (steps : ℕ)
          (points : List ℕ)
          (h : Meant)
          → IsMid k c steps h → ResumesTo r.fuel r.begun c (look_at k p d) taken r.kept
          → todo ≡ numbered_lines (r.begun + 1) (drop r.begun r.lines) → length said + 1 ≡ r.begun
          → first_in k.thread 1 said ≡ r.unclean
          → StandsThen p seen
          (after_look (meant_turns (meaning_of k.images) k.thread r.fuel) (steps - 1) todo said seen
          (with_last points (length seen))
          (resume_meant (meaning_of k.images) k.thread seen (in_hands h)))
      unfolding resume_meant meaning_of with_held
      resumed_turn c todo said old steps points h mid resumes rest count first =
          let took = resumes.resumes seen (with_last points (length seen)) todo said (live_is k.images p seen left) in
          let P : Meant → Type 0 = λ held.
          StandsThen p seen
          (after_look (meant_turns (meaning_of k.images) k.thread r.fuel) (steps - 1) todo said seen
          (with_last points (length seen))
          (resumed_for (meaning_of k.images) k.thread held
          (code_owner (meaning_of k.images) k.thread seen held.after.state.place))) in
          let same : first_in r.kept.thread 1 said ≡ r.unclean =
          ap (λ thread. first_in thread 1 said) resumes.keeps.thread ∙ first in
          let left_then : HasLeft r.kept seen p =
          subst (λ ls. left_by (loads_of ls) seen ≡ p) (sym resumes.keeps.images) left in
          subst (λ x. P (looked (loads_of k.images) k.thread seen (in_hands x))) (sym mid.holds)
          (subst P (sym (looks_in_hands mid.seen c.state))
          (rw mid.steps_left
          (took_stands r (with_last points
          (length seen)) seen todo said seen p left_then rest count same taken _ took)))

      begins_turn : (line : ThreadLine) (todo : List Line) (phase : Phase Meant) (said : List Said) (old : List Event)
          → BeginsTo r.fuel (record { number = r.begun; told = line }) p (look_at k p d) taken p' r.kept
          → todo ≡ record { number = r.begun; told = line } ∷ numbered_lines (r.begun + 1) (drop r.begun r.lines)
          → PhaseIs k None phase → length said + 1 ≡ r.begun → first_in k.thread 1 said ≡ r.unclean
          → StandsThen p'
          (with_event seen (option_and_then (λ x. event_by (meaning_of k.images).loads k.thread x seen)
          (next_line todo phase)))
          (turn_at (meant_turns (meaning_of k.images) k.thread r.fuel) todo (changed in_hands phase) said old seen)
      begins_turn line todo (Idle h) said old begins is idle count first =
          let P : List Line → Type 0 = λ ys. StandsThen p'
          (with_event seen (option_and_then (λ x. event_by (meaning_of k.images).loads k.thread x seen)
          (next_line ys (Idle h))))
          (turn_at (meant_turns (meaning_of k.images) k.thread r.fuel) ys (Idle (in_hands h)) said old seen) in
          subst P (sym is) (begun_turn line _ said old h idle begins refl count first)
      begins_turn line todo (Mid steps points h) said old begins is idle count first = absurd idle

      -- such a turn adds no event
      mid_adds_none : (todo : List Line) (steps : ℕ) (points : List ℕ) (h : Meant)
          → with_event seen (option_and_then (λ x. event_by (meaning_of k.images).loads k.thread x seen)
          (next_line todo (Mid steps points h))) ≡ seen
      mid_adds_none [] steps points h = refl
      mid_adds_none (line ∷ todo) steps points h = refl

      mid_turn : (todo : List Line) (steps : ℕ) (points : List ℕ) (h : Meant) (said : List Said) (old : List Event)
          → turn_at (meant_turns (meaning_of k.images) k.thread r.fuel) todo (Mid steps points h) said old seen
          ≡ after_look (meant_turns (meaning_of k.images) k.thread r.fuel) (steps - 1) todo said seen
          (with_last points (length seen)) (resume_meant (meaning_of k.images) k.thread seen h)
      unfolding meant_turns
      mid_turn [] steps points h said old = refl
      mid_turn (line ∷ todo) steps points h said old = refl

      resumes_turn : (c : Waiting) (todo : List Line) (phase : Phase Meant) (said : List Said) (old : List Event)
          → ResumesTo r.fuel r.begun c (look_at k p d) taken r.kept
          → todo ≡ numbered_lines (r.begun + 1) (drop r.begun r.lines)
          → PhaseIs k (Some c) phase → length said + 1 ≡ r.begun → first_in k.thread 1 said ≡ r.unclean
          → StandsThen p
          (with_event seen (option_and_then (λ x. event_by (meaning_of k.images).loads k.thread x seen)
          (next_line todo phase)))
          (turn_at (meant_turns (meaning_of k.images) k.thread r.fuel) todo (changed in_hands phase) said old seen)
      resumes_turn c todo (Idle h) said old resumes is mid count first = absurd mid
      resumes_turn c todo (Mid steps points h) said old resumes is mid count first =
          rw (mid_adds_none todo steps points h, mid_turn todo steps points (in_hands h) said old)
          (resumed_turn c todo said old steps points h mid resumes is count first)

-- ** whole turns

module _ (r : Run) (p : Past) (d : List (Owned Byte)) (taken : Taken) where
  abbrev pub looking : Run
  looking = record r { kept = look_at r.kept p d }

  same_after : (y : Run) → y.kept.thread ≡ looking.kept.thread → y.kept.images ≡ looking.kept.images → y.lines ≡ r.lines
      → y.fuel ≡ r.fuel → (call : Option Waiting) (t : Taken)
      → IsSameThread (record r { call = call }) (run_after (emptied y) t)
  unfolding with_held
  same_after y thread images lines fuel call (Over found) =
      record { thread = thread; images = images; lines = lines; fuel = fuel }
  same_after y thread images lines fuel call (Waits c) =
      record { thread = thread; images = images; lines = lines; fuel = fuel }

  begins_line : (y : Run) (p' : Past) → BeginsLine looking p taken y p'
      → TakesTurn (record r { call = None }) p d (run_after (emptied y) taken) p' (data_in y.kept.own)
  begins_line y p' begun =
      subst (λ (z : Run). TakesTurn (record r { call = None }) p d (run_after (emptied z) taken) p'
      (data_in z.kept.own)) (sym begun.is)
      (record {
        same = same_after (record r {
          begun = r.begun + 1;
          kept =
              y.kept;
        }) begun.begins.keeps.thread begun.begins.keeps.images refl refl None taken;
        turns = λ t seen stands left.
            begins_turn r.kept p d seen left
            (record r { begun = r.begun + 1; kept = y.kept }) p' taken begun.line t.todo t.phase t.said t.seen
            begun.begins (stands.todo ∙ next_lines r.begun r.lines begun.line begun.there) stands.phase
            (ap (λ n. n + 1) stands.count)
            stands.unclean;
      })

  resumes_line : (c : Waiting) (y : Run) (p' : Past) → ResumesLine c looking p taken y p'
      → TakesTurn (record r { call = Some c }) p d (run_after (emptied y) taken) p' (data_in y.kept.own)
  resumes_line c y p' resumed =
      subst (λ q. TakesTurn (record r { call = Some c }) p d (run_after (emptied y) taken) q (data_in y.kept.own))
      (sym resumed.past)
      (subst (λ (z : Run). TakesTurn (record r { call = Some c }) p d (run_after (emptied z) taken) p
      (data_in z.kept.own)) (sym resumed.is)
      (record {
        same = same_after (record r
            { kept = y.kept }) resumed.resumes.keeps.thread resumed.resumes.keeps.images refl refl (Some c) taken;
        turns = λ t seen stands left.
            resumes_turn r.kept p d seen left
            (record r { kept = y.kept }) p taken c t.todo t.phase t.said t.seen resumed.resumes stands.todo
            stands.phase stands.count stands.unclean;
      }))

  pub goes_on : (call : Option Waiting) (y : Run) (p' : Past) → GoesOn call looking p taken y p'
      → TakesTurn (record r { call = call }) p d (run_after (emptied y) taken) p' (data_in y.kept.own)
  goes_on None y p' goes = begins_line y p' goes
  goes_on (Some c) y p' goes = resumes_line c y p' goes

-- its next line can begin
pub can_begin : (d : List (Owned Byte)) (k : Kept) (p : Past) (new : Kept) → Sees d k p new → p.seen < 2 ^ 61
    → CanBegin (record new { lent = None }) p
unfolding with_held
can_begin d k p new sees room = rw sees.is (record { live = refl; past = sees.left; room = room })

pub going_within : (lines : List ThreadLine) (begun : ℕ) → is_done_with lines begun None ≡ false → begun < length lines
going_within lines begun going = grind (arith, going)
