use Rattle.std.proofs.Common.{◌≡◌, ◌+◌, ◌++◌, drop}
use Rattle.std.specs.String.{string_bytes}
use Rattle.transcript_text.specs.Texts.{lines_text}
use Rattle.transcript_text.proofs.text.push_lines.Given as goal

-- the text so far, and then that of the lines that are left
abbrev pub invariant-loop-index : goal.invariant-loop-index
invariant-loop-index l =
    string_bytes l.text ++ lines_text l.thread (l.index + 1) (drop l.index l.lines) ≡ string_bytes l.initial.text
    ++ lines_text l.thread 1 l.lines
