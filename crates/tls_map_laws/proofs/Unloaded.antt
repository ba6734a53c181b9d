-- A line whose own instance is closed ends with `unloaded`.
use Rattle.std.proofs.Common.{◌≡◌, ◌∙◌, ◌-◌, ℕ, List, [], ◌∷◌, length, Option, None, refl, ap}
use Rattle.module_table.specs.declared.events.Event.{Event}
use Rattle.thread_blocks.specs.declared.asked.Asked.{Asked}
use Rattle.thread_blocks.specs.Held.{looked}
use Rattle.thread_blocks.specs.Lines.{Line}
use Rattle.thread_blocks.specs.RunTime.{resume_line, resumed_by, thread_turns}
use Rattle.thread_blocks.specs.Turns.{Answered, Begun, Mid, Said, Says, Thread, Turns, after_look, turn, with_last}
use Rattle.transcript_text.specs.declared.outcomes.LineFault.TheVariants.{Unloaded}
use Rattle.transcript_text.specs.declared.outcomes.Outcome.TheVariants.{Fault}
use Rattle.whole_meaning.specs.Threads.{meant_turns, resume_meant, resumed_for}
use Rattle.tls_map_laws.specs.Unloaded.{ClosedAskersEnd, MeantAskersEnd, unloaded_at}

-- a turn in the middle of a line whose look says so
turn_says : {S : Type 0} (x : Turns S Line Event) (todo : List Line) (left : ℕ) (points : List ℕ) (s after : S)
    (said : List Said) (old seen : List Event) → x.resume seen s ≡ Says (Answered (Fault Unloaded)) after
    → let t : Thread S Line Event = record { todo = todo; phase = Mid left points s; said = said; seen = old } in
    (turn x t seen).said ≡ with_last said (unloaded_at (with_last points (length seen)))
turn_says {S} x [] left points s after said old seen e =
    ap (λ (begun : Begun S). (after_look x (left - 1) [] said seen (with_last points (length seen)) begun).said) e
turn_says {S} x (line ∷ todo) left points s after said old seen e =
    ap (λ (begun : Begun S).
    (after_look x (left - 1) (line ∷ todo) said seen (with_last points (length seen)) begun).said) e

pub askers_end : ClosedAskersEnd
unfolding thread_turns resume_line
askers_end l thread fuel todo left points h said old seen asked e closed =
    let g = looked l thread seen (record h { asked = None }) in
    turn_says (thread_turns l thread fuel) todo left points h g said old seen
    (ap (λ (o : Option Asked). resumed_by l thread seen g o) e ∙ rw closed refl)

pub meant_askers_end : MeantAskersEnd
unfolding meant_turns resume_meant
meant_askers_end m thread fuel todo left points h said old seen closed =
    let g = looked m.loads thread seen h in
    turn_says (meant_turns m thread fuel) todo left points h g said old seen (ap (resumed_for m thread g) closed)
