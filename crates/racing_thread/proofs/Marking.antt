-- Each turn of a thread that is not over tells one mark more: that of its look.
use Rattle.std.proofs.Common.{◌≡◌, ◌∙◌, ◌+◌, ◌-◌, ◌++◌, ℕ, Bool, false, List, [], ◌∷◌, map, length, Option, Some, None}
use Rattle.std.proofs.Common.{refl, sym, ap, arith, append-nil, append_assoc, length-append}
use Rattle.std.specs.Prelude.{option_and_then, option_map}
use Rattle.std.proofs.lemmas.List.{map-append}
use Rattle.guest_machine.specs.Run.{Outcome, Ended, Waits, run}
use Rattle.module_table.specs.declared.events.Event.{Event}
use Rattle.transcript_text.specs.declared.outcomes.Line.{Line as ShownLine}
use Rattle.transcript_text.specs.declared.outcomes.Outcome.{Outcome as Answer}
use Rattle.lawful_points.specs.Orders.{is_over}
use Rattle.lawful_points.specs.Told.{added_by}
use Rattle.lawful_points.proofs.Telling.{IsSilent, TellsBegun, added_in}
use Rattle.thread_blocks.specs.Lines.{Line}
use Rattle.thread_blocks.specs.MachineTurns.{answer_of, shown}
use Rattle.thread_blocks.specs.Turns.{Ending, Stopped, Said, Begun, Says, Calls, Turns, Phase, Idle, Mid, Thread}
use Rattle.thread_blocks.specs.Turns.{IsFinished, after_look, after_run, event_of, next_line, turn, turn_at, with_last}
use Rattle.racing_thread.specs.Tallies.{Mark, is_registry_line, marks_of, marks_of_line}

-- ** what is said of lines

abbrev pub mark : Bool → ℕ → Option Event → Mark
mark registry number added = record { registry = registry; number = number; added = added }

abbrev marks_in : Bool → Option Event → List ℕ → List Mark
marks_in registry added points = map (λ (number : ℕ). mark registry number added) points

abbrev said_line : ℕ → Line → Said → List Mark
said_line thread line said = marks_in (is_registry_line line.told.action) (added_in thread line said.ending) said.points

abbrev pub said_marks : ℕ → List Line → List Said → List Mark
said_marks thread [] said = []
said_marks thread (line ∷ lines) [] = []
said_marks thread (line ∷ lines) (said ∷ more) = said_line thread line said ++ said_marks thread lines more

line_shown : (thread : ℕ) (line : Line) (points : List ℕ) (answer : Option Answer) (said : ShownLine)
    → Some said ≡ option_map (λ (outcome : Answer). record { points = points; outcome = outcome }) answer
    → marks_of_line thread line said
    ≡ marks_in (is_registry_line line.told.action) (option_and_then (added_by thread line) answer) points
line_shown thread line points None said e = cc
line_shown thread line points (Some outcome) said e =
    let same : said ≡ record { points = points; outcome = outcome } = cc in
    ap (marks_of_line thread line) same

pub shown_marks : (thread : ℕ) (lines : List Line) (shows : List ShownLine) (said : List Said)
    → map Some shows ≡ map shown said → marks_of thread lines shows ≡ said_marks thread lines said
shown_marks thread [] shows said e = refl
shown_marks thread (line ∷ lines) [] [] e = refl
shown_marks thread (line ∷ lines) [] (s ∷ said) e = cc
shown_marks thread (line ∷ lines) (x ∷ shows) [] e = cc
shown_marks thread (line ∷ lines) (x ∷ shows) (s ∷ said) e =
    let first : Some x ≡ shown s = cc in
    let rest : map Some shows ≡ map shown said = cc in
    ap (λ (ms : List Mark). ms ++ marks_of thread lines shows)
    (line_shown thread line s.points (answer_of s.ending) x first)
    ∙ ap (λ (ms : List Mark). said_line thread line s ++ ms) (shown_marks thread lines shows said rest)

told_last : (thread : ℕ) (done : List Line) (said : List Said) (line : Line) (last : Said) → length said ≡ length done
    → said_marks thread (done ++ line ∷ []) (with_last said last) ≡ said_marks thread done said
    ++ said_line thread line last
told_last thread [] [] line last e = append-nil (said_line thread line last)
told_last thread [] (s ∷ said) line last e = absurd (omega (arith, e))
told_last thread (d ∷ done) [] line last e = absurd (omega (arith, e))
told_last thread (d ∷ done) (s ∷ said) line last e =
    ap (λ (more : List Mark). said_line thread d s ++ more) (told_last thread done said line last (omega (arith, e)))
    ∙ sym (append_assoc (said_line thread d s) (said_marks thread done said) (said_line thread line last))

-- ** where a thread stands

-- a line that never asks the registry, and so adds no event
pub record IsPlain (thread : ℕ) (line : Line) : Type 0 where
  pub silent : IsSilent thread line
  pub apart : is_registry_line line.told.action ≡ false

-- between two lines: those that are over told these marks
pub record IsBetween (thread : ℕ) (own todo : List Line) (said : List Said) (marks : List Mark) : Type 0 where
  pub done : List Line
  pub lines : own ≡ done ++ todo
  pub each : length said ≡ length done
  pub marks_are : said_marks thread done said ≡ marks

-- in the middle of a line
pub record IsWithin (thread : ℕ) (own todo : List Line) (said : List Said) (points : List ℕ)
    (marks : List Mark) : Type 0 where
  pub done : List Line
  pub line : Line
  pub lines : own ≡ done ++ (line ∷ todo)
  pub each : length said ≡ length done
  pub plain : IsPlain thread line
  pub marks_are : said_marks thread done said ++ marks_in false None points ≡ marks

abbrev pub HasMarked : {S : Type 0} → ℕ → List Line → List Line → Phase S → List Said → List Mark → Type 0
HasMarked thread own todo (Idle s) said marks = IsBetween thread own todo said marks
HasMarked thread own todo (Mid left points s) said marks = IsWithin thread own todo said points marks

-- what a line's first look comes to: only a line that asks nothing of the registry goes on
abbrev pub Goes : {S : Type 0} → Line → Begun S → Type 0
Goes line (Says ending s) = Unit {0}
Goes line (Calls s) = is_registry_line line.told.action ≡ false

-- whether a line asks the registry, if there is one
abbrev pub asks_registry : Option Line → Bool
asks_registry None = false
asks_registry (Some line) = is_registry_line line.told.action

-- a plain line's marks
plain_marks : (thread : ℕ) (line : Line) (plain : IsPlain thread line) (ending : Ending) (points : List ℕ)
    → said_line thread line (record { points = points; ending = ending }) ≡ marks_in false None points
plain_marks thread line plain ending points =
    ap (λ (registry : Bool). marks_in registry (added_in thread line ending) points) plain.apart
    ∙ ap (λ (added : Option Event). marks_in false added points) (plain.silent ending)

module _ {S : Type 0} (thread : ℕ) (x : Turns S Line Event) (event : Line → List Event → Option Event)
    (begins : (line : Line) (seen : List Event) (s : S)
    → TellsBegun thread line (event line seen) (x.begin line seen s))
    (goes : (line : Line) (seen : List Event) (s : S) → Goes line (x.begin line seen s)) where
  abbrev Marks : List Line → Thread S Line Event → List Mark → Type 0
  Marks own t marks = HasMarked thread own t.todo t.phase t.said marks

  -- a line that is over
  line_marks : (own todo : List Line) (said : List Said) (done : List Line) (line : Line) (last : Said)
      (marks : List Mark)
      → own ≡ done ++ (line ∷ todo) → length said ≡ length done
      → said_marks thread done said ++ said_line thread line last ≡ marks
      → IsBetween thread own todo (with_last said last) marks
  line_marks own todo said done line last marks lines each marks_are = record {
    done = done ++ line ∷ [];
    lines = lines ∙ sym (append_assoc done (line ∷ []) todo);
    each = length-append said (last ∷ []) ∙ (ap (λ (n : ℕ). n + 1) each ∙ sym (length-append done (line ∷ [])));
    marks_are = told_last thread done said line last each ∙ marks_are;
  }

  over_marks : (own todo : List Line) (said : List Said) (points : List ℕ) (marks : List Mark) (ending : Ending)
      → IsWithin thread own todo said points marks
      → IsBetween thread own todo (with_last said (record { points = points; ending = ending })) marks
  over_marks own todo said points marks ending at =
      line_marks own todo said at.done at.line (record { points = points; ending = ending }) marks at.lines at.each
      (ap (λ (ms : List Mark). said_marks thread at.done said ++ ms) (plain_marks thread at.line at.plain ending points)
      ∙ at.marks_are)

  run_marks : (own todo : List Line) (said : List Said) (seen : List Event) (points : List ℕ) (marks : List Mark)
      → IsWithin thread own todo said points marks → (out : Outcome S)
      → Marks own (after_run todo said seen points out) marks
  run_marks own todo said seen points marks at (Ended stop left s) =
      over_marks own todo said points marks (Stopped stop) at
  run_marks own todo said seen points marks at (Waits left s) = at

  -- a line's first look
  begin_marks : (own todo : List Line) (said : List Said) (seen : List Event) (line : Line) (marks : List Mark)
      (e : Option Event) → IsBetween thread own (line ∷ todo) said marks
      → (b : Begun S) → TellsBegun thread line e b → Goes line b
      → Marks own (after_look x x.fuel todo said seen (length seen ∷ []) b)
      (marks ++ mark (is_registry_line line.told.action) (length seen) e ∷ [])
  begin_marks own todo said seen line marks e at (Says ending s) tells goes_on =
      let registry = is_registry_line line.told.action in
      line_marks own todo said at.done line (record { points = length seen ∷ []; ending = ending })
      (marks ++ mark registry (length seen) e ∷ []) at.lines at.each
      (ap (λ (added : Option Event). said_marks thread at.done said ++ mark registry (length seen) added ∷ []) tells
      ∙ ap (λ (before : List Mark). before ++ mark registry (length seen) e ∷ []) at.marks_are)
  begin_marks own todo said seen line marks e at (Calls s) tells goes_on =
      let registry = is_registry_line line.told.action in
      run_marks own todo said seen (length seen ∷ []) (marks ++ mark registry (length seen) e ∷ []) (record {
        done = at.done;
        line = line;
        lines = at.lines;
        each = at.each;
        plain = record { silent = tells.1; apart = goes_on };
        marks_are = ap (λ (added : Option Event). said_marks thread at.done said ++ mark false (length seen) added ∷ [])
            (sym tells.0)
            ∙ (ap (λ (r : Bool). said_marks thread at.done said ++ mark r (length seen) e ∷ []) (sym goes_on)
            ∙ ap (λ (before : List Mark). before ++ mark registry (length seen) e ∷ []) at.marks_are);
      }) (run x.steps x.fuel s)

  -- a look in its middle
  more_marks : (own todo : List Line) (said : List Said) (points : List ℕ) (number : ℕ) (marks : List Mark)
      → IsWithin thread own todo said points marks
      → IsWithin thread own todo said (with_last points number) (marks ++ mark false number None ∷ [])
  more_marks own todo said points number marks at = record {
    done = at.done;
    line = at.line;
    lines = at.lines;
    each = at.each;
    plain = at.plain;
    marks_are = ap (λ (more : List Mark). said_marks thread at.done said ++ more)
        (map-append (λ (n : ℕ). mark false n None) points (number ∷ []))
        ∙ (sym (append_assoc (said_marks thread at.done said) (marks_in false None points)
        (mark false number None ∷ []))
        ∙ ap (λ (before : List Mark). before ++ mark false number None ∷ []) at.marks_are);
  }

  resume_marks : (own todo : List Line) (said : List Said) (seen : List Event) (steps : ℕ) (points : List ℕ)
      (marks : List Mark) → IsWithin thread own todo said points marks → (b : Begun S)
      → Marks own (after_look x steps todo said seen points b) marks
  resume_marks own todo said seen steps points marks at (Says ending s) =
      over_marks own todo said points marks ending at
  resume_marks own todo said seen steps points marks at (Calls s) =
      run_marks own todo said seen points marks at (run x.steps steps s)

  turn_at_marks : (own todo : List Line) (phase : Phase S) (said : List Said) (old seen : List Event)
      (marks : List Mark)
      → HasMarked thread own todo phase said marks → is_over todo phase ≡ false
      → Marks own (turn_at x todo phase said old seen)
      (marks ++ mark (asks_registry (next_line todo phase)) (length seen)
      (event_of event (record { todo = todo; phase = phase; said = said; seen = old }) seen) ∷ [])
  turn_at_marks own [] (Idle s) said old seen marks at over = cc
  turn_at_marks own (line ∷ todo) (Idle s) said old seen marks at over =
      begin_marks own todo said seen line marks (event line seen) at (x.begin line seen s) (begins line seen s)
      (goes line seen s)
  turn_at_marks own [] (Mid left points s) said old seen marks at over =
      resume_marks own [] said seen (left - 1) (with_last points (length seen))
      (marks ++ mark false (length seen) None ∷ [])
      (more_marks own [] said points (length seen) marks at) (x.resume seen s)
  turn_at_marks own (line ∷ todo) (Mid left points s) said old seen marks at over =
      resume_marks own (line ∷ todo) said seen (left - 1) (with_last points (length seen))
      (marks ++ mark false (length seen) None ∷ [])
      (more_marks own (line ∷ todo) said points (length seen) marks at) (x.resume seen s)

  -- the law of one turn
  pub turn_marks : (own : List Line) (t : Thread S Line Event) (seen : List Event) (marks : List Mark)
      → HasMarked thread own t.todo t.phase t.said marks → is_over t.todo t.phase ≡ false
      → HasMarked thread own (turn x t seen).todo (turn x t seen).phase (turn x t seen).said
      (marks ++ mark (asks_registry (next_line t.todo t.phase)) (length seen) (event_of event t seen) ∷ [])
  turn_marks own t seen marks at over = turn_at_marks own t.todo t.phase t.said t.seen seen marks at over

-- a thread before its first line has told nothing
pub first_marks : {S : Type 0} (thread : ℕ) (own : List Line) (s : S) → HasMarked thread own own (Idle s) [] []
first_marks thread own s = record { done = []; lines = refl; each = refl; marks_are = refl }

-- and one that is over has told what its lines tell
pub last_marks : {S : Type 0} (thread : ℕ) (own todo : List Line) (phase : Phase S) (said : List Said)
    (marks : List Mark)
    → IsFinished todo phase → HasMarked thread own todo phase said marks → said_marks thread own said ≡ marks
last_marks thread own [] (Idle s) said marks over at =
    ap (λ (lines : List Line). said_marks thread lines said) (at.lines ∙ append-nil at.done) ∙ at.marks_are
last_marks thread own (line ∷ todo) (Idle s) said marks over at = absurd over
last_marks thread own [] (Mid left points s) said marks over at = absurd over
last_marks thread own (line ∷ todo) (Mid left points s) said marks over at = absurd over
