-- Each turn of a thread that is not over tells one point more: that of its look, with its event.
use Rattle.std.proofs.Common.{◌≡◌, ◌∙◌, ◌+◌, ◌-◌, ◌++◌, ℕ, true, false, List, [], ◌∷◌, map, length, Option, Some, None}
use Rattle.std.proofs.Common.{refl, sym, ap, arith, append-nil, append_assoc, length-append}
use Rattle.std.specs.Prelude.{option_and_then, option_map}
use Rattle.std.proofs.lemmas.List.{map-append}
use Rattle.job_text.specs.declared.thread_lines.Action.{Action}
use Rattle.job_text.specs.declared.thread_lines.Action.TheVariants.{Call, Open, Close, Peek}
use Rattle.guest_arithmetic.specs.Values.{Operations}
use Rattle.guest_machine.specs.Run.{Outcome, Ended, Waits, run}
use Rattle.module_table.specs.declared.events.CloseRefusal.{CloseRefusal}
use Rattle.module_table.specs.declared.events.Event.{Event}
use Rattle.module_table.specs.declared.events.OpenRefusal.{OpenRefusal}
use Rattle.module_table.specs.Past.{open_refusal, close_refusal}
use Rattle.thread_blocks.specs.Held.{Held, looked}
use Rattle.thread_blocks.specs.Instances.{Loads, left_by}
use Rattle.transcript_text.specs.declared.outcomes.Line.{Line as ShownLine}
use Rattle.transcript_text.specs.declared.outcomes.Outcome.{Outcome as Answer}
use Rattle.thread_blocks.specs.MachineTurns.{answer_of, shown}
use Rattle.thread_blocks.specs.Lines.{Line, begin_line, begun_by, begun_close, begun_open, event_at, event_by}
use Rattle.thread_blocks.specs.Lines.{unless_refused}
use Rattle.thread_blocks.specs.Turns.{Ending, Stopped, Said, Begun, Says, Calls, Turns, Phase, Idle, Mid, Thread}
use Rattle.thread_blocks.specs.Turns.{IsFinished, after_look, after_run, event_of, ready, turn, turn_at, with_last}
use Rattle.lawful_points.specs.Orders.{is_over}
use Rattle.lawful_points.specs.Told.{Point, added_by, told_by, told_line}

-- ** what is said of lines, clean or not

abbrev pub added_in : ℕ → Line → Ending → Option Event
added_in thread line ending = option_and_then (added_by thread line) (answer_of ending)

abbrev pub said_line : ℕ → Line → Said → List Point
said_line thread line said =
    map (λ (number : ℕ). record { number = number; added = added_in thread line said.ending }) said.points

abbrev pub said_by : ℕ → List Line → List Said → List Point
said_by thread [] said = []
said_by thread (line ∷ lines) [] = []
said_by thread (line ∷ lines) (said ∷ more) = said_line thread line said ++ said_by thread lines more

-- a line that is shown
line_shown : (thread : ℕ) (line : Line) (points : List ℕ) (answer : Option Answer) (said : ShownLine)
    → Some said ≡ option_map (λ (outcome : Answer). record { points = points; outcome = outcome }) answer
    → told_line thread line said
    ≡ map (λ (number : ℕ). record { number = number; added = option_and_then (added_by thread line) answer }) points
line_shown thread line points None said e = cc
line_shown thread line points (Some outcome) said e =
    let same : said ≡ record { points = points; outcome = outcome } = cc in
    ap (told_line thread line) same

pub shown_said : (thread : ℕ) (lines : List Line) (shows : List ShownLine) (said : List Said)
    → map Some shows ≡ map shown said → told_by thread lines shows ≡ said_by thread lines said
shown_said thread [] shows said e = refl
shown_said thread (line ∷ lines) [] [] e = refl
shown_said thread (line ∷ lines) [] (s ∷ said) e = cc
shown_said thread (line ∷ lines) (x ∷ shows) [] e = cc
shown_said thread (line ∷ lines) (x ∷ shows) (s ∷ said) e =
    let first : Some x ≡ shown s = cc in
    let rest : map Some shows ≡ map shown said = cc in
    ap (λ (ps : List Point). ps ++ told_by thread lines shows)
    (line_shown thread line s.points (answer_of s.ending) x first)
    ∙ ap (λ (ps : List Point). said_line thread line s ++ ps) (shown_said thread lines shows said rest)

-- a line that never adds an event
abbrev pub IsSilent : ℕ → Line → Type 0
IsSilent thread line = (ending : Ending) → added_in thread line ending ≡ None

-- what a line's first look comes to tells the event that the line adds
abbrev pub TellsBegun : {S : Type 0} → ℕ → Line → Option Event → Begun S → Type 0
TellsBegun thread line e (Says ending s) = added_in thread line ending ≡ e
TellsBegun thread line e (Calls s) = (e ≡ None) × IsSilent thread line

-- points of looks that added nothing
abbrev plain : List ℕ → List Point
plain points = map (λ (number : ℕ). record { number = number; added = None }) points

abbrev one_point : ℕ → Option Event → List Point
one_point number e = record { number = number; added = e } ∷ []

-- ** lines that are over

told_last : (thread : ℕ) (done : List Line) (said : List Said) (line : Line) (last : Said) → length said ≡ length done
    → said_by thread (done ++ line ∷ []) (with_last said last) ≡ said_by thread done said ++ said_line thread line last
told_last thread [] [] line last e = append-nil (said_line thread line last)
told_last thread [] (s ∷ said) line last e = absurd (omega (arith, e))
told_last thread (d ∷ done) [] line last e = absurd (omega (arith, e))
told_last thread (d ∷ done) (s ∷ said) line last e =
    ap (λ (more : List Point). said_line thread d s ++ more) (told_last thread done said line last (omega (arith, e)))
    ∙ sym (append_assoc (said_line thread d s) (said_by thread done said) (said_line thread line last))

-- ** where a thread stands

-- between two lines: those that are over told these points
pub record IsBetween (thread : ℕ) (own todo : List Line) (said : List Said) (told : List Point) : Type 0 where
  pub done : List Line
  pub lines : own ≡ done ++ todo
  pub each : length said ≡ length done
  pub told_is : said_by thread done said ≡ told

-- in the middle of a line, which never adds an event
pub record IsWithin (thread : ℕ) (own todo : List Line) (said : List Said) (points : List ℕ)
    (told : List Point) : Type 0 where
  pub done : List Line
  pub line : Line
  pub lines : own ≡ done ++ (line ∷ todo)
  pub each : length said ≡ length done
  pub silent : IsSilent thread line
  pub told_is : said_by thread done said ++ plain points ≡ told

abbrev pub HasTold : {S : Type 0} → ℕ → List Line → List Line → Phase S → List Said → List Point → Type 0
HasTold thread own todo (Idle s) said told = IsBetween thread own todo said told
HasTold thread own todo (Mid left points s) said told = IsWithin thread own todo said points told

module _ {S : Type 0} (thread : ℕ) (x : Turns S Line Event) (event : Line → List Event → Option Event)
    (begins : (line : Line) (seen : List Event) (s : S)
    → TellsBegun thread line (event line seen) (x.begin line seen s)) where
  abbrev pub Tells : List Line → Thread S Line Event → List Point → Type 0
  Tells own t told = HasTold thread own t.todo t.phase t.said told

  -- a line that is over
  line_told : (own todo : List Line) (said : List Said) (done : List Line) (line : Line) (last : Said)
      (told : List Point)
      → own ≡ done ++ (line ∷ todo) → length said ≡ length done
      → said_by thread done said ++ said_line thread line last ≡ told
      → IsBetween thread own todo (with_last said last) told
  line_told own todo said done line last told lines each told_is = record {
    done = done ++ line ∷ [];
    lines = lines ∙ sym (append_assoc done (line ∷ []) todo);
    each = length-append said (last ∷ []) ∙ (ap (λ (n : ℕ). n + 1) each ∙ sym (length-append done (line ∷ [])));
    told_is = told_last thread done said line last each ∙ told_is;
  }

  -- a run of a line that never adds an event
  run_told : (own todo : List Line) (said : List Said) (seen : List Event) (points : List ℕ) (told : List Point)
      → IsWithin thread own todo said points told → (out : Outcome S)
      → Tells own (after_run todo said seen points out) told
  run_told own todo said seen points told at (Ended stop left s) =
      line_told own todo said at.done at.line (record { points = points; ending = Stopped stop }) told at.lines at.each
      (ap (λ (e : Option Event). said_by thread at.done said
      ++ map (λ (n : ℕ). record { number = n; added = e }) points)
      (at.silent (Stopped stop)) ∙ at.told_is)
  run_told own todo said seen points told at (Waits left s) = at

  -- a line's first look
  begin_told : (own todo : List Line) (said : List Said) (seen : List Event) (line : Line) (told : List Point)
      (e : Option Event)
      → IsBetween thread own (line ∷ todo) said told → (b : Begun S) → TellsBegun thread line e b
      → Tells own (after_look x x.fuel todo said seen (length seen ∷ []) b) (told ++ one_point (length seen) e)
  begin_told own todo said seen line told e at (Says ending s) tells =
      line_told own todo said at.done line (record { points = length seen ∷ []; ending = ending })
      (told ++ one_point (length seen) e) at.lines at.each
      (ap (λ (added : Option Event). said_by thread at.done said ++ one_point (length seen) added) tells
      ∙ ap (λ (before : List Point). before ++ one_point (length seen) e) at.told_is)
  begin_told own todo said seen line told e at (Calls s) tells =
      run_told own todo said seen (length seen ∷ []) (told ++ one_point (length seen) e) (record {
        done = at.done;
        line = line;
        lines = at.lines;
        each = at.each;
        silent = tells.1;
        told_is = ap (λ (added : Option Event). said_by thread at.done said ++ one_point (length seen) added)
            (sym tells.0)
            ∙ ap (λ (before : List Point). before ++ one_point (length seen) e) at.told_is;
      }) (run x.steps x.fuel s)

  -- a look in its middle
  more_told : (own todo : List Line) (said : List Said) (points : List ℕ) (number : ℕ) (told : List Point)
      → IsWithin thread own todo said points told
      → IsWithin thread own todo said (with_last points number) (told ++ one_point number None)
  more_told own todo said points number told at = record {
    done = at.done;
    line = at.line;
    lines = at.lines;
    each = at.each;
    silent = at.silent;
    told_is = ap (λ (more : List Point). said_by thread at.done said ++ more)
        (map-append (λ (n : ℕ). record { number = n; added = None }) points (number ∷ []))
        ∙ (sym (append_assoc (said_by thread at.done said) (plain points) (one_point number None))
        ∙ ap (λ (before : List Point). before ++ one_point number None) at.told_is);
  }

  resume_told : (own todo : List Line) (said : List Said) (seen : List Event) (steps : ℕ) (points : List ℕ)
      (told : List Point)
      → IsWithin thread own todo said points told → (b : Begun S)
      → Tells own (after_look x steps todo said seen points b) told
  resume_told own todo said seen steps points told at (Says ending s) =
      line_told own todo said at.done at.line (record { points = points; ending = ending }) told at.lines at.each
      (ap (λ (e : Option Event). said_by thread at.done said
      ++ map (λ (n : ℕ). record { number = n; added = e }) points)
      (at.silent ending) ∙ at.told_is)
  resume_told own todo said seen steps points told at (Calls s) =
      run_told own todo said seen points told at (run x.steps steps s)

  turn_at_told : (own todo : List Line) (phase : Phase S) (said : List Said) (old seen : List Event) (told : List Point)
      → HasTold thread own todo phase said told → is_over todo phase ≡ false
      → Tells own (turn_at x todo phase said old seen)
      (told ++ one_point (length seen)
      (event_of event (record { todo = todo; phase = phase; said = said; seen = old }) seen))
  turn_at_told own [] (Idle s) said old seen told at over = cc
  turn_at_told own (line ∷ todo) (Idle s) said old seen told at over =
      begin_told own todo said seen line told (event line seen) at (x.begin line seen s) (begins line seen s)
  turn_at_told own [] (Mid left points s) said old seen told at over =
      resume_told own [] said seen (left - 1) (with_last points (length seen)) (told ++ one_point (length seen) None)
      (more_told own [] said points (length seen) told at) (x.resume seen s)
  turn_at_told own (line ∷ todo) (Mid left points s) said old seen told at over =
      resume_told own (line ∷ todo) said seen (left - 1) (with_last points (length seen))
      (told ++ one_point (length seen) None)
      (more_told own (line ∷ todo) said points (length seen) told at) (x.resume seen s)

  -- the law of one turn
  pub turn_told : (own : List Line) (t : Thread S Line Event) (seen : List Event) (told : List Point) → Tells own t told
      → is_over t.todo t.phase ≡ false
      → Tells own (turn x t seen) (told ++ one_point (length seen) (event_of event t seen))
  turn_told own t seen told at over = turn_at_told own t.todo t.phase t.said t.seen seen told at over

  -- a thread before its first line has told nothing
  pub first_told : (own : List Line) (s : S) → Tells own (ready s own) []
  first_told own s = record { done = []; lines = refl; each = refl; told_is = refl }

  -- and one that is over has told what its lines tell
  pub last_told : (own todo : List Line) (phase : Phase S) (said : List Said) (told : List Point)
      → IsFinished todo phase
      → HasTold thread own todo phase said told → said_by thread own said ≡ told
  last_told own [] (Idle s) said told over at =
      ap (λ (lines : List Line). said_by thread lines said) (at.lines ∙ append-nil at.done) ∙ at.told_is
  last_told own (line ∷ todo) (Idle s) said told over at = absurd over
  last_told own [] (Mid left points s) said told over at = absurd over
  last_told own (line ∷ todo) (Mid left points s) said told over at = absurd over

  -- and has said something of each of its lines
  pub last_count : (own todo : List Line) (phase : Phase S) (said : List Said) (told : List Point)
      → IsFinished todo phase
      → HasTold thread own todo phase said told → length said ≡ length own
  last_count own [] (Idle s) said told over at = at.each ∙ ap length (sym (at.lines ∙ append-nil at.done))
  last_count own (line ∷ todo) (Idle s) said told over at = absurd over
  last_count own [] (Mid left points s) said told over at = absurd over
  last_count own (line ∷ todo) (Mid left points s) said told over at = absurd over

-- ** lines of a job

module _ {W F B : Type 0} (ops : Operations W F B) (l : Loads B) (show : List B → Ending) (thread : ℕ) where
  never : (answer : Option Answer)
      → option_and_then (λ (x : Answer). let none : Option Event = None in none) answer ≡ None
  never None = refl
  never (Some outcome) = refl

  silent_tells : (line : Line) → IsSilent thread line → (b : Begun (Held W F B)) → TellsBegun thread line None b
  silent_tells line silent (Says ending h) = silent ending
  silent_tells line silent (Calls h) = (refl, silent)

  open_tells : (line : Line) (seen : List Event) (h : Held W F B) (refusal : Option OpenRefusal)
      → line.told.action ≡ Open
      → TellsBegun thread line (unless_refused refusal (event_at thread line.number true line.told.image))
      (begun_open ops l show thread line seen h refusal)
  open_tells line seen h None e = rw e refl
  open_tells line seen h (Some refusal) e = rw e refl

  close_tells : (line : Line) (seen : List Event) (h : Held W F B) (refusal : Option CloseRefusal)
      → line.told.action ≡ Close
      → TellsBegun thread line (unless_refused refusal (event_at thread line.number false line.told.image))
      (begun_close ops l show thread line seen h refusal)
  close_tells line seen h None e = rw e refl
  close_tells line seen h (Some refusal) e = rw e refl

  by_tells : (number image : ℕ) (action : Action) (seen : List Event) (h : Held W F B)
      → let line : Line = record { number = number; told = record { image = image; action = action } } in
      TellsBegun thread line (event_by l thread line seen) (begun_by ops l show thread line seen h action)
  by_tells number image (Call symbol a b c) seen h =
      silent_tells (record { number = number; told = record { image = image; action = Call symbol a b c } })
      (λ ending. never (answer_of ending)) _
  by_tells number image Open seen h = open_tells _ seen h (open_refusal (left_by l seen) image) refl
  by_tells number image Close seen h = close_tells _ seen h (close_refusal (left_by l seen) image) refl
  by_tells number image (Peek symbol size) seen h =
      silent_tells (record { number = number; told = record { image = image; action = Peek symbol size } })
      (λ ending. never (answer_of ending)) _

  -- what a line's first look comes to tells the line's event
  pub begin_tells : (line : Line) (seen : List Event) (h : Held W F B)
      → TellsBegun thread line (event_by l thread line seen) (begin_line ops l show thread line seen h)
  unfolding begin_line
  begin_tells line seen h = by_tells line.number line.told.image line.told.action seen (looked l thread seen h)
