-- The points that a raced thread's lines print are those of its turns.
use Rattle.std.proofs.Common.{◌≡◌, ◌∙◌, ◌++◌, ◌≤◌, ℕ, List, [], ◌∷◌, map, length, take, Option, Some, refl, sym, ap}
use Rattle.std.proofs.Common.{subst, arith}
use Rattle.std.proofs.lemmas.List.{length-map, map-append}
use Rattle.job_text.specs.declared.thread_lines.ThreadLine.{ThreadLine}
use Rattle.module_table.specs.declared.events.Event.{Event}
use Rattle.transcript_text.specs.declared.outcomes.Line.{Line as ShownLine}
use Rattle.thread_blocks.specs.Instances.{Loads}
use Rattle.thread_blocks.specs.JobWorlds.{numbered_lines, thread_ready}
use Rattle.thread_blocks.specs.Lines.{Line, event_by}
use Rattle.thread_blocks.specs.MachineTurns.{shown}
use Rattle.thread_blocks.specs.RunTime.{Runs, thread_turns}
use Rattle.thread_blocks.specs.Turns.{Thread, Turns}
use Rattle.lawful_points.specs.Laws.{RacersPrintTheirPoints}
use Rattle.lawful_points.specs.Orders.{looks_of}
use Rattle.lawful_points.specs.Points.{seen_by}
use Rattle.lawful_points.specs.Raced.{IsRacer, first_of, raced_looks, raced_of}
use Rattle.lawful_points.specs.Told.{Point, points_of, told_by, told_line}
use Rattle.lawful_points.specs.Printed.{printed_points}
use Rattle.lawful_points.proofs.Alone.{acting, acting_turns, alone_told, seen_alone}
use Rattle.lawful_points.proofs.Fronts.{found_by, look_by}
use Rattle.lawful_points.proofs.Jobs.{turns_tell}
use Rattle.lawful_points.proofs.Telling.{Tells, first_told, last_count}
use Rattle.guest_arithmetic.specs.Plain.{plain_operations}

abbrev number_of : Point → ℕ
number_of point = point.number

-- ** what is printed, without what was added

numbers : (added : Option Event) (ns : List ℕ)
    → map number_of (map (λ (number : ℕ). record { number = number; added = added }) ns) ≡ ns
numbers added [] = refl
numbers added (n ∷ ns) = ap (λ (more : List ℕ). n ∷ more) (numbers added ns)

-- of as many lines as there are, or fewer
numbers_told : (thread : ℕ) (lines : List Line) (said : List ShownLine) → length said ≤ length lines
    → map number_of (told_by thread lines said) ≡ printed_points said
numbers_told thread [] [] few = refl
numbers_told thread [] (s ∷ said) few = absurd (omega (arith, few))
numbers_told thread (line ∷ lines) [] few = refl
numbers_told thread (line ∷ lines) (s ∷ said) few =
    map-append number_of (told_line thread line s) (told_by thread lines said)
    ∙ (ap (λ (ns : List ℕ). ns ++ map number_of (told_by thread lines said)) (numbers _ s.points)
    ∙ ap (λ (ns : List ℕ). s.points ++ ns) (numbers_told thread lines said (omega (arith, few))))

-- what looks at points of a history see
seen_of : (history : List Event) (points : List Point)
    → seen_by (map (look_by history) points) ≡ map (λ (number : ℕ). take number history) (map number_of points)
seen_of history [] = refl
seen_of history (point ∷ points) =
    ap (λ (more : List (List Event)). take point.number history ∷ more) (seen_of history points)

-- ** a raced thread

module _ (l : Loads ℕ) (fuel thread : ℕ) (own : List ThreadLine) (history : List Event) (said : List ShownLine)
    (racer : IsRacer l fuel thread own history said) where
  abbrev x : Turns Runs Line Event
  x = thread_turns l thread fuel

  abbrev event : Line → List Event → Option Event
  event = event_by l thread

  abbrev first : Thread Runs Line Event
  first = first_of l thread own

  abbrev last : Thread Runs Line Event
  last = raced_of l fuel thread own racer.points

  -- it said something of each line
  each_said : length last.said ≡ length (numbered_lines 1 own)
  each_said =
      let tells = λ (line : Line) (seen : List Event) (h : Runs). turns_tell l fuel thread line seen h in
      let told = points_of (looks_of x event first (acting x first racer.points)) in
      let at = subst (λ (t : Thread Runs Line Event). Tells thread x event tells (numbered_lines 1 own) t told)
      (acting_turns x racer.points first)
      (alone_told thread x event tells (numbered_lines 1 own) racer.points first []
      (first_told thread x event tells (numbered_lines 1 own) (thread_ready plain_operations l thread))) in
      last_count thread x event tells (numbered_lines 1 own) last.todo last.phase last.said told racer.over at

  each_printed : length said ≡ length (numbered_lines 1 own)
  each_printed =
      sym (length-map said Some) ∙ (ap length racer.lines ∙ (length-map last.said shown ∙ each_said))

  abbrev told_points : List Point
  told_points = told_by thread (numbered_lines 1 own) said

  pub printed : map (λ (number : ℕ). take number history) (printed_points said) ≡ racer.points
  printed =
      let looks = raced_looks l fuel thread own racer.points in
      ap (map (λ (number : ℕ). take number history))
      (sym (numbers_told thread (numbered_lines 1 own) said (omega (arith, each_printed))))
      ∙ (sym (seen_of history told_points)
      ∙ (ap (λ (ps : List Point). seen_by (map (look_by history) ps)) racer.told
      ∙ (ap seen_by (found_by history looks racer.lawful.fronts)
      ∙ seen_alone x event racer.points first)))

pub racers_print : RacersPrintTheirPoints
racers_print l fuel thread own history said racer = printed l fuel thread own history said racer
