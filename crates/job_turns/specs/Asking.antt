-- What a thread asks for at its next turn, and the answer of the history's keeper.
use Rattle.std.specs.Prelude.{ℕ, not, Option, Some, None, option_map}
use Rattle.job_text.specs.declared.thread_lines.Action.{Action}
use Rattle.job_text.specs.declared.thread_lines.Action.TheVariants.{Call, Open, Close, Peek}
use Rattle.job_text.specs.declared.thread_lines.ThreadLine.{ThreadLine}
use Rattle.module_table.specs.declared.events.CloseRefusal.{CloseRefusal}
use Rattle.module_table.specs.declared.events.CloseRefusal.TheVariants.{OutOfMemory as NoRoomToClose}
use Rattle.module_table.specs.declared.events.Closed.{Closed}
use Rattle.module_table.specs.declared.events.OpenRefusal.{OpenRefusal}
use Rattle.module_table.specs.declared.events.OpenRefusal.TheVariants.{OutOfMemory as NoRoomToOpen}
use Rattle.module_table.specs.declared.events.Opened.{Opened}
use Rattle.module_table.specs.History.{unless}
use Rattle.module_table.specs.Modules.{is_loaded}
use Rattle.module_table.specs.Past.{Past, close_refusal, module_of, open_refusal, opened, released}
use Rattle.thread_blocks.specs.Lines.{refused_close, refused_open}
use Rattle.job_turns.specs.declared.asking.Ask.{Ask}
use Rattle.job_turns.specs.declared.asking.Ask.TheVariants.{Done, Look, Opens, Closes}
use Rattle.job_turns.specs.declared.asking.LineAnswer.{LineAnswer}
use Rattle.job_turns.specs.declared.asking.LineAnswer.TheVariants as answer

-- ---- the question

abbrev pub ask_by : ℕ → ℕ → Action → Ask
ask_by line image (Call symbol a b c) = Look line
ask_by line image Open = Opens line image
ask_by line image Close = Closes line image
ask_by line image (Peek symbol size) = Look line

-- the question of the line that begins next, by its number, if there is one
abbrev pub ask_next : ℕ → Option ThreadLine → Ask
ask_next number None = Done
ask_next number (Some line) = ask_by number line.image line.action

-- ---- the answer, if the history leaves this state

abbrev pub opened_at : Past → ℕ → Opened
opened_at p image = let m = module_of (opened p image) image in
    record { instance = m.instance; id = m.id; at = p.seen }

abbrev pub closed_at : Past → ℕ → Closed
closed_at p image = record { at = p.seen; gone = not (is_loaded (module_of (released p image) image)) }

abbrev pub answer_to : Past → Ask → Option LineAnswer
answer_to p Done = None
answer_to p (Look line) = None
answer_to p (Opens line image) =
    Some (answer.Opened (unless (option_map refused_open (open_refusal p image)) (opened_at p image)))
answer_to p (Closes line image) =
    Some (answer.Closed (unless (option_map refused_close (close_refusal p image)) (closed_at p image)))

-- ---- a refusal is an answer, but for want of memory

abbrev pub IsOpensAnswer : OpenRefusal → Type 0
IsOpensAnswer NoRoomToOpen = ⊥
IsOpensAnswer refusal = Unit {0}

abbrev pub IsClosesAnswer : CloseRefusal → Type 0
IsClosesAnswer NoRoomToClose = ⊥
IsClosesAnswer refusal = Unit {0}
