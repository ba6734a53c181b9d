-- What a turn leaves is what the definitions say, from what its parts do.
use Rattle.std.proofs.Common.{◌≡◌, ℕ, ◌+◌, ◌-◌, ◌*◌, Bool, List, [], ◌∷◌, ◌++◌, map, drop, Option, Some, None, refl}
use Rattle.std.proofs.Common.{sym, ap, subst, ◌∙◌}
use Rattle.std.proofs.lemmas.List.{map-append}
use Rattle.guest_machine.specs.Machine.{Standing}
use Rattle.job_text.specs.declared.thread_lines.ThreadLine.{ThreadLine}
use Rattle.module_table.specs.declared.events.Event.{Event}
use Rattle.transcript_text.specs.declared.outcomes.Line.{Line as Printed}
use Rattle.transcript_text.specs.declared.outcomes.Outcome.{Outcome as Answer}
use Rattle.thread_blocks.specs.Held.{Owned, owned_by, looked, looked_at, with_owned}
use Rattle.thread_blocks.specs.Instances.{Loads}
use Rattle.thread_blocks.specs.JobWorlds.{blocks_in, data_in, numbered_lines}
use Rattle.thread_blocks.specs.Lines.{Line}
use Rattle.thread_blocks.specs.MachineTurns.{answer_of, shown}
use Rattle.thread_blocks.specs.RunTime.{Runs}
use Rattle.thread_blocks.specs.declared.asked.Asked.{Asked}
use Rattle.thread_blocks.specs.Turns.{Ending, Mid, Said, Thread}
use Rattle.thread_space.specs.Kept.{HasSeen, Kept, blocks_of, held_at, owned_of}
use Rattle.job_turns.specs.Standing.{Run, StandsAfter, Waiting}
use Rattle.job_turns.specs.Taking.{IsOver, Taken, TookAs, emptied, run_after}
use Rattle.thread_turns.specs.declared.parts.Ended.TheVariants.{Over, Waits}
use Rattle.thread_space.proofs.Owners.{blocks_of_owned, data_of_owned, owned_again}

-- what is put into a thread's hands is in them
pub owned_put : (h : Runs) (xs : List (Owned ℕ)) → owned_by (with_owned h xs) ≡ xs
owned_put h xs = owned_again xs

-- a thread that holds these ranges and looks, where they then are what is kept
pub look_held : (l : Loads ℕ) (thread : ℕ) (seen : List Event) (h : Runs) (xs : List (Owned ℕ)) (k : Kept)
    → looked_at l thread seen xs ≡ owned_of k.vector k.pieces → h.after.memory.stack ≡ k.stack
    → looked l thread seen (with_owned h xs) ≡ held_at seen h.after.state h.asked k
look_held l thread seen h xs k at stack =
    rw (owned_again xs, at, stack) refl

-- ---- a line that is over

module _ (lines : List ThreadLine) (begun fuel : ℕ) (said : List Printed) where
  -- the runner, once a turn is over and the data are out of its hands
  abbrev left_with : Option Waiting → List Printed → Kept → Run
  left_with call said k = record {
    lines = lines;
    begun = begun;
    fuel = fuel;
    kept = record k { pieces = [] };
    call = call;
    said = said;
  }

  over_said : (before : List Said) (points : List ℕ) (ending : Ending) (outcome : Answer)
      → map shown before ≡ map Some said
      → answer_of ending ≡ Some outcome
      → map shown (before ++ record { points = points; ending = ending } ∷ [])
      ≡ map Some (said ++ record { points = points; outcome = outcome } ∷ [])
  over_said before points ending outcome same is =
      map-append shown before (record { points = points; ending = ending } ∷ [])
      ∙ rw (same, is) refl
      ∙ sym (map-append Some said (record { points = points; outcome = outcome } ∷ []))

  -- what is out of a thread's hands again leaves it its blocks
  without_shared : (h : Runs) (k : Kept) → owned_by h ≡ owned_of k.vector k.pieces
      → owned_by (with_owned h (blocks_in (owned_by h))) ≡ blocks_of k.vector
  without_shared h k is = owned_put h (blocks_in (owned_by h)) ∙ ap blocks_in is ∙ blocks_of_owned k.vector k.pieces

  pub over_stands : (k : Kept) (outcome : Answer) (points : List ℕ) (now : List Event) (todo : List Line)
      (before : List Said)
      (seen : List Event) (t : Thread Runs Line Event)
      → IsOver k outcome points now todo before seen t → HasSeen k.vector now
      → todo ≡ numbered_lines (begun + 1) (drop begun lines) → map shown before ≡ map Some said
      → StandsAfter (left_with None (said ++ record { points = points; outcome = outcome } ∷ []) k) k.pieces now t
  over_stands k outcome points now todo before seen t over has_seen rest same =
      subst (λ x. StandsAfter
      (left_with None (said ++ record { points = points; outcome = outcome } ∷ []) k) k.pieces now x)
      (sym over.is)
      (record {
        stands = record {
          todo = rest;
          said = over_said before points over.ending outcome same over.outcome_is;
          phase = record {
            seen = rw over.events has_seen;
            blocks = without_shared over.held k over.owned_is;
            stack = over.stack;
          };
        };
        shared = ap data_in over.owned_is ∙ data_of_owned k.vector k.pieces;
        has_seen = has_seen;
      })

  -- ---- a call that waits

  pub waits_stands : (k : Kept) (machine : Standing ℕ Bool) (asked : Asked) (points : List ℕ) (now : List Event)
      (todo : List Line)
      (before : List Said) (seen : List Event) (t : Thread Runs Line Event)
      → t ≡ record {
        todo = todo;
        phase = Mid (4 * fuel - machine.taken) points (held_at now machine.state (Some asked) k);
        said = before;
        seen = seen;
      }
      → HasSeen k.vector now → todo ≡ numbered_lines (begun + 1) (drop begun lines) → map shown before ≡ map Some said
      → StandsAfter
      (left_with (Some (record { machine = machine; asked = asked; points = points })) said k) k.pieces now t
  waits_stands k machine asked points now todo before seen t is has_seen rest same =
      subst (λ x. StandsAfter
      (left_with (Some (record { machine = machine; asked = asked; points = points })) said k) k.pieces now x)
      (sym is)
      (record {
        stands = record {
          todo = rest;
          said = same;
          phase = record {
            seen = has_seen;
            steps_left = refl;
            points_are = refl;
            holds = rw (owned_again (owned_of k.vector k.pieces), blocks_of_owned k.vector k.pieces) refl;
          };
        };
        shared = ap data_in (owned_again (owned_of k.vector k.pieces)) ∙ data_of_owned k.vector k.pieces;
        has_seen = has_seen;
      })

pub took_stands : (lines : List ThreadLine) (begun fuel : ℕ) (said : List Printed) (taken : Taken) (k : Kept)
    (points : List ℕ)
    (now : List Event) (todo : List Line) (before : List Said) (seen : List Event) (t : Thread Runs Line Event)
    → TookAs (4 * fuel) k taken points now todo before seen t → HasSeen k.vector now
    → todo ≡ numbered_lines (begun + 1) (drop begun lines) → map shown before ≡ map Some said
    → StandsAfter (run_after lines begun fuel said points taken (emptied k)) k.pieces now t
took_stands lines begun fuel said (Over outcome) k points now todo before seen t took has_seen rest same =
    over_stands lines begun fuel said k outcome points now todo before seen t took has_seen rest same
took_stands lines begun fuel said (Waits (machine, asked)) k points now todo before seen t took has_seen rest same =
    waits_stands lines begun fuel said k machine asked points now todo before seen t took has_seen rest same
