-- What a turn leaves is what the definitions say, from what its parts do.
use Rattle.std.proofs.Common.{◌≡◌, ◌∙◌, ◌+◌, ◌++◌, ℕ, List, [], ◌∷◌, Option, Some, None, length, drop, refl, sym, ap}
use Rattle.std.proofs.Common.{subst, arith}
use Rattle.std.specs.Option.{option_or}
use Rattle.std.proofs.lemmas.List.{length-append}
use Rattle.module_table.specs.declared.events.Event.{Event}
use Rattle.module_table.specs.Past.{Past}
use Rattle.thread_blocks.specs.JobWorlds.{blocks_in, data_in, numbered_lines}
use Rattle.thread_blocks.specs.Lines.{Line}
use Rattle.thread_blocks.specs.Turns.{Mid, Said, Thread}
use Rattle.whole_meaning.specs.declared.unclean.UncleanStep.{UncleanStep}
use Rattle.whole_meaning.specs.Jobs.{first_in, unclean_ending}
use Rattle.whole_meaning.specs.Threads.{Meant}
use Rattle.job_check.specs.Taking.{IsOver, Taken, TookAs}
use Rattle.thread_turns.specs.declared.parts.Ended.TheVariants.{Over, Waits}
use Rattle.job_check.specs.declared.thread.Waiting.{Waiting}
use Rattle.marked_memory.specs.Kept.{held_at}
use Rattle.job_check.specs.Lines.{HasLeft}
use Rattle.job_check.specs.Standing.{Run, StandsAfter, emptied, run_after}
use Rattle.job_check.proofs.Looks.{held_with}
use Rattle.job_check.proofs.OwnedApart.{blocks_twice, data_of_blocks, owned_again}
use Rattle.loaded_modules.proofs.Left.{or_none}

-- ** the first unclean step

or_assoc : {A : Type 0} (x y z : Option A) → option_or x (option_or y z) ≡ option_or (option_or x y) z
or_assoc None y z = refl
or_assoc (Some a) y z = refl

-- with a line more
first_last : (thread line : ℕ) (said : List Said) (x : Said)
    → first_in thread line (said ++ x ∷ [])
    ≡ option_or (first_in thread line said) (unclean_ending thread (line + length said) x.ending)
first_last thread line [] x = let sum : line + 0 ≡ line = omega arith in
    rw sum (or_none (unclean_ending thread line x.ending))
first_last thread line (y ∷ said) x =
    let sum : line + 1 + length said ≡ line + length (y ∷ said) = omega arith in
    ap (option_or (unclean_ending thread line y.ending)) (first_last thread (line + 1) said x)
    ∙ or_assoc (unclean_ending thread line y.ending) (first_in thread (line + 1) said)
    (unclean_ending thread (line + 1 + length said) x.ending)
    ∙ ap (λ n. option_or (first_in thread line (y ∷ said)) (unclean_ending thread n x.ending)) sum

-- ** a turn

module _ (r : Run) (points : List ℕ) (now : List Event) (todo : List Line) (said : List Said) (seen : List Event)
    (p : Past)
    (left : HasLeft r.kept now p) (rest : todo ≡ numbered_lines (r.begun + 1) (drop r.begun r.lines))
    (count : length said + 1 ≡ r.begun) (first : first_in r.kept.thread 1 said ≡ r.unclean) where
  over_stands : (found : Option UncleanStep) (t : Thread Meant Line Event)
      → IsOver r.begun r.kept found points now todo said seen t
      → StandsAfter (run_after (emptied r) (Over found)) p (data_in r.kept.own) now t
  over_stands found t over =
      subst (λ x. StandsAfter (run_after (emptied r) (Over found)) p (data_in r.kept.own) now x) (sym over.is)
      (record {
        stands = record {
          todo = rest;
          count = length-append said (record { points = points; ending = over.ending } ∷ []) ∙ count;
          unclean =
              first_last r.kept.thread 1 said (record { points = points; ending = over.ending })
              ∙ (let number : 1 + length said ≡ r.begun = omega (arith, count) in
              rw (number, first, over.unclean_is) refl);
          blocks = blocks_twice r.kept.own;
          no_data = data_of_blocks r.kept.own;
          phase = record {
            seen = now;
            state = over.state;
            holds = ap (λ xs. held_with now over.state r.kept.stack (blocks_in xs)) (owned_again r.kept.own);
          };
        };
        shared = ap data_in (owned_again r.kept.own);
        leaves = left;
      })

  waits_stands : (c : Waiting) (t : Thread Meant Line Event)
      → t ≡ record { todo = todo; phase = Mid c.steps points (held_at now c.state r.kept); said = said; seen = seen }
      → StandsAfter (run_after (emptied r) (Waits c)) p (data_in r.kept.own) now t
  waits_stands c t is =
      subst (λ x. StandsAfter (run_after (emptied r) (Waits c)) p (data_in r.kept.own) now x) (sym is)
      (record {
        stands = record {
          todo = rest;
          count = count;
          unclean = first;
          blocks = blocks_twice r.kept.own;
          no_data = data_of_blocks r.kept.own;
          phase = record {
            seen = now;
            steps_left = refl;
            holds = ap (λ xs. held_with now c.state r.kept.stack (blocks_in xs)) (owned_again r.kept.own);
          };
        };
        shared = ap data_in (owned_again r.kept.own);
        leaves = left;
      })

  pub took_stands : (taken : Taken) (t : Thread Meant Line Event)
      → TookAs r.begun r.kept taken points now todo said seen t
      → StandsAfter (run_after (emptied r) taken) p (data_in r.kept.own) now t
  took_stands (Over found) t took = over_stands found t took
  took_stands (Waits c) t took = waits_stands c t took
