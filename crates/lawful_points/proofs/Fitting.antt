-- A line that says that its image was opened is an open, one that says that it was closed is a close, and each of them
-- had one look.
use Rattle.std.proofs.Common.{◌≡◌, ◌∙◌, ◌+◌, ◌-◌, ◌++◌, ℕ, Bool, true, false, List, [], ◌∷◌, length, map, Option, Some}
use Rattle.std.proofs.Common.{None, refl, sym, ap, subst, arith, append-nil, append_assoc, length-append}
use Rattle.std.specs.Prelude.{Result, Ok, Err, is_none, nat_le, option_map, slice_range, if◌then◌else◌}
use Rattle.job_text.specs.declared.thread_lines.Action.{Action}
use Rattle.job_text.specs.declared.thread_lines.Action.TheVariants.{Call, Open, Close, Peek}
use Rattle.guest_arithmetic.specs.Plain.{plain_operations}
use Rattle.guest_machine.specs.Run.{Outcome, Ended, Waits, run}
use Rattle.guest_machine.specs.Use.{After}
use Rattle.guest_operands.specs.declared.stop.Stop.{Stop}
use Rattle.guest_operands.specs.declared.stop.Stop.TheVariants.{Returned, Look, Address, Code, Unclean, Steps}
use Rattle.loaded_modules.specs.declared.instance.Instance.{Instance}
use Rattle.module_table.specs.declared.events.CloseRefusal.{CloseRefusal}
use Rattle.module_table.specs.declared.events.Event.{Event}
use Rattle.module_table.specs.declared.events.OpenRefusal.{OpenRefusal}
use Rattle.module_table.specs.Past.{open_refusal, close_refusal}
use Rattle.transcript_text.specs.declared.outcomes.Line.{Line as ShownLine}
use Rattle.transcript_text.specs.declared.outcomes.LineFault.TheVariants.{Unloaded}
use Rattle.transcript_text.specs.declared.outcomes.LineRefusal.TheVariants.{Length as TooLong}
use Rattle.transcript_text.specs.declared.outcomes.Outcome.{Outcome as Answer}
use Rattle.transcript_text.specs.declared.outcomes.Outcome.TheVariants.{Returned as ReturnedAnswer, Opened, Closed}
use Rattle.transcript_text.specs.declared.outcomes.Outcome.TheVariants.{Bytes, Refused, Fault}
use Rattle.thread_blocks.specs.declared.asked.Asked.{Asked}
use Rattle.thread_blocks.specs.Held.{block_bytes, looked, owned_by, reached}
use Rattle.thread_blocks.specs.Instances.{Loads, instance_at, instance_with_id, left_by, numbered_instance}
use Rattle.thread_blocks.specs.Lines.{Line, begin_line, begun_at, begun_by, begun_close, begun_in, begun_open}
use Rattle.thread_blocks.specs.Lines.{begun_peek, shown_from, shown_in}
use Rattle.thread_blocks.specs.MachineTurns.{answer_of, shown}
use Rattle.thread_blocks.specs.RunTime.{Runs, answered, resume_line, resumed_by, resumed_in, shows, thread_turns}
use Rattle.thread_blocks.specs.RunTime.{resumed}
use Rattle.thread_blocks.specs.Spaces.{Space}
use Rattle.thread_blocks.specs.Turns.{Ending, Answered, Stopped, Said, Begun, Says, Calls, Turns, Phase, Idle, Mid}
use Rattle.thread_blocks.specs.Turns.{Thread, IsFinished, after_look, after_run, turn, turn_at, turns, with_last}

-- ** lines

abbrev pub HasOne : List ℕ → Type 0
HasOne points = (point : ℕ) × (points ≡ point ∷ [])

abbrev pub Fits : Action → List ℕ → Answer → Type 0
Fits action points (ReturnedAnswer number) = Unit {0}
Fits action points (Opened instance) = (action ≡ Open) × HasOne points
Fits action points Closed = (action ≡ Close) × HasOne points
Fits action points (Bytes bytes) = Unit {0}
Fits action points (Refused refusal) = Unit {0}
Fits action points (Fault fault) = Unit {0}

-- an unclean line says nothing
abbrev FitsAny : Action → List ℕ → Option Answer → Type 0
FitsAny action points None = Unit {0}
FitsAny action points (Some answer) = Fits action points answer

-- an ending that fits each line
abbrev IsPlain : Ending → Type 0
IsPlain ending = (action : Action) (points : List ℕ) → FitsAny action points (answer_of ending)

stops_plain : (stop : Stop) → IsPlain (Stopped stop)
stops_plain (Returned number) action points = tt
stops_plain (Look place) action points = tt
stops_plain (Address place) action points = tt
stops_plain (Code place) action points = tt
stops_plain (Unclean place cause) action points = tt
stops_plain (Steps place) action points = tt

abbrev SaidFits : Line → Said → Type 0
SaidFits line said = FitsAny line.told.action said.points (answer_of said.ending)

abbrev pub AllFit : List Line → List Said → Type 0
AllFit [] said = Unit {0}
AllFit (line ∷ lines) [] = Unit {0}
AllFit (line ∷ lines) (said ∷ more) = SaidFits line said × AllFit lines more

abbrev pub AllShownFit : List Line → List ShownLine → Type 0
AllShownFit [] said = Unit {0}
AllShownFit (line ∷ lines) [] = Unit {0}
AllShownFit (line ∷ lines) (said ∷ more) = Fits line.told.action said.points said.outcome × AllShownFit lines more

line_shown : (action : Action) (points : List ℕ) (answer : Option Answer) (said : ShownLine)
    → Some said ≡ option_map (λ (outcome : Answer). record { points = points; outcome = outcome }) answer
    → FitsAny action points answer → Fits action said.points said.outcome
line_shown action points None said e fits = cc
line_shown action points (Some outcome) said e fits =
    let same : said ≡ record { points = points; outcome = outcome } = cc in
    subst (λ (line : ShownLine). Fits action line.points line.outcome) (sym same) fits

pub shown_fit : (lines : List Line) (shows : List ShownLine) (said : List Said) → map Some shows ≡ map shown said
    → AllFit lines said → AllShownFit lines shows
shown_fit [] shows said e fit = tt
shown_fit (line ∷ lines) [] said e fit = tt
shown_fit (line ∷ lines) (x ∷ shows) [] e fit = cc
shown_fit (line ∷ lines) (x ∷ shows) (s ∷ said) e fit =
    let first : Some x ≡ shown s = cc in
    let rest : map Some shows ≡ map shown said = cc in
    (line_shown line.told.action s.points (answer_of s.ending) x first fit.0, shown_fit lines shows said rest fit.1)

fit_last : (done : List Line) (said : List Said) (line : Line) (last : Said) → length said ≡ length done
    → AllFit done said → SaidFits line last → AllFit (done ++ line ∷ []) (with_last said last)
fit_last [] [] line last e fit fits = (fits, tt)
fit_last [] (s ∷ said) line last e fit fits = absurd (omega (arith, e))
fit_last (d ∷ done) [] line last e fit fits = absurd (omega (arith, e))
fit_last (d ∷ done) (s ∷ said) line last e fit fits =
    (fit.0, fit_last done said line last (omega (arith, e)) fit.1 fits)

-- ** where a thread stands

-- between two lines
pub record IsBetween (own todo : List Line) (said : List Said) : Type 0 where
  pub done : List Line
  pub lines : own ≡ done ++ todo
  pub each : length said ≡ length done
  pub fit : AllFit done said

-- in the middle of a line
pub record IsWithin (own todo : List Line) (said : List Said) : Type 0 where
  pub done : List Line
  pub line : Line
  pub lines : own ≡ done ++ (line ∷ todo)
  pub each : length said ≡ length done
  pub fit : AllFit done said

abbrev pub HasFit : {S : Type 0} → List Line → List Line → Phase S → List Said → Type 0
HasFit own todo (Idle s) said = IsBetween own todo said
HasFit own todo (Mid left points s) said = IsWithin own todo said

-- what a line's first look comes to
abbrev pub BeginFits : {S : Type 0} → Action → Begun S → Type 0
BeginFits action (Says ending s) = (point : ℕ) → FitsAny action (point ∷ []) (answer_of ending)
BeginFits action (Calls s) = Unit {0}

-- and a look in its middle
abbrev pub ResumeFits : {S : Type 0} → Begun S → Type 0
ResumeFits (Says ending s) = IsPlain ending
ResumeFits (Calls s) = Unit {0}

module _ {S : Type 0} (x : Turns S Line Event)
    (begins : (line : Line) (seen : List Event) (s : S) → BeginFits line.told.action (x.begin line seen s))
    (resumes : (seen : List Event) (s : S) → ResumeFits (x.resume seen s)) where
  abbrev pub Fit : List Line → Thread S Line Event → Type 0
  Fit own t = HasFit own t.todo t.phase t.said

  line_fits : (own todo : List Line) (said : List Said) (done : List Line) (line : Line) (last : Said)
      → own ≡ done ++ (line ∷ todo) → length said ≡ length done → AllFit done said → SaidFits line last
      → IsBetween own todo (with_last said last)
  line_fits own todo said done line last lines each fit fits = record {
    done = done ++ line ∷ [];
    lines = lines ∙ sym (append_assoc done (line ∷ []) todo);
    each = length-append said (last ∷ []) ∙ (ap (λ (n : ℕ). n + 1) each ∙ sym (length-append done (line ∷ [])));
    fit = fit_last done said line last each fit fits;
  }

  over_fits : (own todo : List Line) (said : List Said) (points : List ℕ) (ending : Ending) → IsWithin own todo said
      → IsPlain ending → IsBetween own todo (with_last said (record { points = points; ending = ending }))
  over_fits own todo said points ending at plain =
      line_fits own todo said at.done at.line (record { points = points; ending = ending }) at.lines at.each at.fit
      (plain at.line.told.action points)

  run_fits : (own todo : List Line) (said : List Said) (seen : List Event) (points : List ℕ) → IsWithin own todo said
      → (out : Outcome S) → Fit own (after_run todo said seen points out)
  run_fits own todo said seen points at (Ended stop left s) =
      over_fits own todo said points (Stopped stop) at (stops_plain stop)
  run_fits own todo said seen points at (Waits left s) = at

  begin_fits : (own todo : List Line) (said : List Said) (seen : List Event) (line : Line)
      → IsBetween own (line ∷ todo) said → (b : Begun S) → BeginFits line.told.action b
      → Fit own (after_look x x.fuel todo said seen (length seen ∷ []) b)
  begin_fits own todo said seen line at (Says ending s) fits =
      line_fits own todo said at.done line
      (record { points = length seen ∷ []; ending = ending }) at.lines at.each at.fit
      (fits (length seen))
  begin_fits own todo said seen line at (Calls s) fits =
      run_fits own todo said seen (length seen ∷ [])
      (record { done = at.done; line = line; lines = at.lines; each = at.each; fit = at.fit }) (run x.steps x.fuel s)

  resume_fits : (own todo : List Line) (said : List Said) (seen : List Event) (steps : ℕ) (points : List ℕ)
      → IsWithin own todo said → (b : Begun S) → ResumeFits b → Fit own (after_look x steps todo said seen points b)
  resume_fits own todo said seen steps points at (Says ending s) plain = over_fits own todo said points ending at plain
  resume_fits own todo said seen steps points at (Calls s) plain =
      run_fits own todo said seen points at (run x.steps steps s)

  turn_at_fits : (own todo : List Line) (phase : Phase S) (said : List Said) (old seen : List Event)
      → HasFit own todo phase said → Fit own (turn_at x todo phase said old seen)
  turn_at_fits own [] (Idle s) said old seen at = at
  turn_at_fits own (line ∷ todo) (Idle s) said old seen at =
      begin_fits own todo said seen line at (x.begin line seen s) (begins line seen s)
  turn_at_fits own [] (Mid left points s) said old seen at =
      resume_fits own [] said seen (left - 1) (with_last points (length seen)) at (x.resume seen s) (resumes seen s)
  turn_at_fits own (line ∷ todo) (Mid left points s) said old seen at =
      resume_fits own (line ∷ todo) said seen (left - 1) (with_last points (length seen)) at (x.resume seen s)
      (resumes seen s)

  -- the law of one turn, and of turns
  pub turn_fits : (own : List Line) (t : Thread S Line Event) (seen : List Event) → Fit own t → Fit own (turn x t seen)
  turn_fits own t seen at = turn_at_fits own t.todo t.phase t.said t.seen seen at

  pub turns_fit : (own : List Line) (points : List (List Event)) (t : Thread S Line Event) → Fit own t
      → Fit own (turns x t points)
  turns_fit own [] t at = at
  turns_fit own (seen ∷ points) t at = turns_fit own points (turn x t seen) (turn_fits own t seen at)

-- a thread before its first line
pub first_fits : {S : Type 0} (own : List Line) (s : S) → HasFit own own (Idle s) []
first_fits own s = record { done = []; lines = refl; each = refl; fit = tt }

-- and one that is over
pub last_fits : {S : Type 0} (own todo : List Line) (phase : Phase S) (said : List Said) → IsFinished todo phase
    → HasFit own todo phase said → AllFit own said
last_fits own [] (Idle s) said over at =
    subst (λ (lines : List Line). AllFit lines said) (sym (at.lines ∙ append-nil at.done)) at.fit
last_fits own (line ∷ todo) (Idle s) said over at = absurd over
last_fits own [] (Mid left points s) said over at = absurd over
last_fits own (line ∷ todo) (Mid left points s) said over at = absurd over

-- ** the machine's lines

module _ (l : Loads ℕ) (thread : ℕ) where
  abbrev First : Action → Begun Runs → Type 0
  First action b = BeginFits action b

  place_fits : (action : Action) (symbol : List ℕ) (a b c : ℕ) (h : Runs) (place : Option ℕ)
      → First action (begun_at plain_operations l (shows l thread) thread symbol a b c h place)
  place_fits action symbol a b c h None = λ point. tt
  place_fits action symbol a b c h (Some place) = tt

  call_fits : (action : Action) (symbol : List ℕ) (a b c : ℕ) (h : Runs) (x : Option Instance)
      → First action (begun_in plain_operations l (shows l thread) thread symbol a b c h x)
  call_fits action symbol a b c h None = λ point. tt
  call_fits action symbol a b c h (Some x) = place_fits action symbol a b c h (l.function x symbol)

  open_fits : (line : Line) (seen : List Event) (h : Runs) (refusal : Option OpenRefusal)
      → First Open (begun_open plain_operations l (shows l thread) thread line seen h refusal)
  open_fits line seen h None = λ point. (refl, (point, refl))
  open_fits line seen h (Some refusal) = λ point. tt

  close_fits : (line : Line) (seen : List Event) (h : Runs) (refusal : Option CloseRefusal)
      → First Close (begun_close plain_operations l (shows l thread) thread line seen h refusal)
  close_fits line seen h None = λ point. (refl, (point, refl))
  close_fits line seen h (Some refusal) = λ point. tt

  bytes_fit : (within : Bool) (action : Action) (bytes : List ℕ) (h : Runs) → First action
      (if within then Says (shows l thread bytes) h else Says (Answered (Refused TooLong)) h)
  bytes_fit true action bytes h = λ point. tt
  bytes_fit false action bytes h = λ point. tt

  block_fits : (action : Action) (h : Runs) (size offset : ℕ) (bytes : Option (List ℕ))
      → First action (shown_in plain_operations l (shows l thread) thread h size offset bytes)
  block_fits action h size offset None = λ point. tt
  block_fits action h size offset (Some bytes) =
      bytes_fit (nat_le (offset + size) (length bytes)) action (slice_range bytes offset (offset + size)) h

  variable_fits : (action : Action) (h : Runs) (size : ℕ) (x : Instance) (offset : Option ℕ)
      → First action (shown_from plain_operations l (shows l thread) thread h size x offset)
  variable_fits action h size x None = λ point. tt
  variable_fits action h size x (Some offset) =
      block_fits action h size offset (block_bytes x.number (owned_by h))

  peek_fits : (action : Action) (line : Line) (symbol : List ℕ) (size : ℕ) (h : Runs) (x : Option Instance)
      → First action (begun_peek plain_operations l (shows l thread) thread line symbol size h x)
  peek_fits action line symbol size h None = λ point. tt
  peek_fits action line symbol size h (Some x) =
      variable_fits action (reached l thread x h) size x (l.variable line.told.image symbol)

  by_fits : (line : Line) (seen : List Event) (h : Runs) (action : Action)
      → First action (begun_by plain_operations l (shows l thread) thread line seen h action)
  by_fits line seen h (Call symbol a b c) =
      call_fits (Call symbol a b c) symbol a b c h (instance_at l seen line.told.image)
  by_fits line seen h Open = open_fits line seen h (open_refusal (left_by l seen) line.told.image)
  by_fits line seen h Close = close_fits line seen h (close_refusal (left_by l seen) line.told.image)
  by_fits line seen h (Peek symbol size) =
      peek_fits (Peek symbol size) line symbol size h (instance_at l seen line.told.image)

  -- a look in the middle of a call
  answer_fits : (h : Runs) (after : Result (After ℕ Bool (Space Event ℕ)) Stop) → ResumeFits (resumed h after)
  answer_fits h (Ok after) = tt
  answer_fits h (Err stop) = stops_plain stop

  instance_fits : (asked : Asked) (h : Runs) (x : Option Instance) → ResumeFits (resumed_in l thread asked h x)
  instance_fits asked h None = λ action points. tt
  instance_fits asked h (Some x) =
      let now = reached l thread x h in answer_fits now (answered l thread asked x now)

  live_fits : (gone : Bool) (asked : Asked) (h : Runs) (x : Option Instance)
      → ResumeFits (if gone then Says (Answered (Fault Unloaded)) h else resumed_in l thread asked h x)
  live_fits true asked h x = λ action points. tt
  live_fits false asked h x = instance_fits asked h x

  asked_fits : (seen : List Event) (h : Runs) (asked : Option Asked) → ResumeFits (resumed_by l thread seen h asked)
  asked_fits seen h None = tt
  asked_fits seen h (Some asked) =
      live_fits (is_none (numbered_instance l seen asked.asking)) asked h (instance_with_id l seen asked.id)

  pub begins_fit : (fuel : ℕ) (line : Line) (seen : List Event) (h : Runs)
      → BeginFits line.told.action ((thread_turns l thread fuel).begin line seen h)
  unfolding thread_turns begin_line
  begins_fit fuel line seen h = by_fits line seen (looked l thread seen h) line.told.action

  pub resumes_fit : (fuel : ℕ) (seen : List Event) (h : Runs) → ResumeFits ((thread_turns l thread fuel).resume seen h)
  unfolding thread_turns resume_line
  resumes_fit fuel seen h = asked_fits seen (looked l thread seen (record h { asked = None })) h.asked
