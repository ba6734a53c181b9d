use Rattle.std.proofs.Common.{◌≡◌, ◌++◌, drop}
use Rattle.std.specs.String.{string_bytes}
use Rattle.transcript_text.specs.Texts.{events_text}
use Rattle.transcript_text.proofs.text.push_events.Given as goal

-- the text so far, and then that of the events that are left
abbrev pub invariant-loop-index : goal.invariant-loop-index
invariant-loop-index l =
    string_bytes l.text ++ events_text l.images l.index (drop l.index l.events) ≡ string_bytes l.initial.text
    ++ events_text l.images 0 l.events
