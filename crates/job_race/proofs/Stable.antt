-- What is known of a thread that raced stays when others add events.
use Rattle.std.proofs.Common.{◌≡◌, ◌==◌, ◌+◌, ◌≤◌, ◌∙◌, ℕ, zero, suc, false, true, Bool, List, [], ◌∷◌, ◌++◌, length}
use Rattle.std.proofs.Common.{refl, ap, subst, append_assoc, arith}
use Rattle.job_text.specs.Jobs.{JobParts}
use Rattle.job_text.specs.Threads.{of_thread}
use Rattle.job_text.specs.declared.thread_lines.ThreadLine.{ThreadLine}
use Rattle.loaded_modules.specs.Images.{JobImages}
use Rattle.module_table.specs.declared.events.Event.{Event}
use Rattle.transcript_text.specs.declared.outcomes.Line.{Line as ShownLine}
use Rattle.thread_blocks.specs.Instances.{Loads}
use Rattle.thread_blocks.specs.JobLoads.{job_loads}
use Rattle.thread_blocks.specs.Turns.{AllFronts}
use Rattle.lawful_points.specs.Raced.{IsRacer}
use Rattle.shared_modules.specs.Stable.{IsStable, other_last, stays}
use Rattle.shared_modules.specs.Views.{Knows, flag, rising, times}
use Rattle.job_race.specs.Rows.{AllRaced}

-- what was a front of a history is one of a longer one
fronts_stay : (fronts : List (List Event)) (whole more : List Event) → AllFronts fronts whole
    → AllFronts fronts (whole ++ more)
fronts_stay [] whole more are = tt
fronts_stay (front ∷ fronts) whole more are = (
  (are.0.0 ++ more, ap (λ (events : List Event). events ++ more) are.0.1 ∙ append_assoc front are.0.0 more),
  fronts_stay fronts whole more are.1,
)

-- one thread, and an event of another
racer_stays : (l : Loads ℕ) (fuel thread : ℕ) (own : List ThreadLine) (said : List ShownLine) (front : List Event)
    (e : Event) → (e.thread == thread) ≡ false → IsRacer l fuel thread own front said
    → IsRacer l fuel thread own (front ++ e ∷ []) said
racer_stays l fuel thread own said front e other racer = record {
  points = racer.points;
  lawful = record {
    follows = racer.lawful.follows;
    fronts = fronts_stay _ front (e ∷ []) racer.lawful.fronts;
    own = other_last thread 0 front e other ∙ racer.lawful.own;
  };
  over = racer.over;
  lines = racer.lines;
  told = racer.told;
}

no_flag : (b : Bool) (rest : ℕ) → flag b + rest ≡ 0 → (b ≡ false) × (rest ≡ 0)
no_flag false rest e = (refl, omega (arith, e))
no_flag true rest e = absurd (omega (arith, e))

eqb_swap : (a b : ℕ) → (a == b) ≡ false → (b == a) ≡ false
eqb_swap a b e = grind arith

-- a row of threads, and an event of none of them
pub row_stable : (m : JobImages) (job : JobParts) (lines : List (List ShownLine)) (first count : ℕ)
    → length lines ≤ count → IsStable (rising first count) (λ history. AllRaced m job history first lines)
row_stable m job [] first count few front e none raced = tt
row_stable m job (said ∷ more) first zero few front e none raced = absurd (omega (arith, few))
row_stable m job (said ∷ more) first (suc count) few front e none raced =
    let other = no_flag (first == e.thread) (times e.thread (rising (first + 1) count)) none in (
      racer_stays (job_loads m) job.fuel first (of_thread job.lines first) said front e
          (eqb_swap first e.thread other.0) raced.0,
      row_stable m job more (first + 1) count (omega (arith, few)) front e other.1 raced.1,
    )

-- so it is in a history that goes on by others
pub row_stays : (m : JobImages) (job : JobParts) (lines : List (List ShownLine)) (first count : ℕ) (threads : List ℕ)
    (history seen : List Event) → length lines ≤ count → threads ≡ rising first count → Knows history threads seen
    → AllRaced m job seen first lines → AllRaced m job history first lines
row_stays m job lines first count threads history seen few are knows raced =
    stays (rising first count) (λ events. AllRaced m job events first lines) (row_stable m job lines first count few)
    history seen (subst (λ (ts : List ℕ). Knows history ts seen) are knows) raced
