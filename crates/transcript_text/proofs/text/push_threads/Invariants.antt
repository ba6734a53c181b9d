use Rattle.std.proofs.Common.{◌≡◌, ◌+◌, ◌++◌, drop, map}
use Rattle.std.specs.String.{string_bytes}
use Rattle.transcript_text.specs.Texts.{threads_text}
use Rattle.transcript_text.proofs.text.push_threads.Given as goal

-- the text so far, and then that of the threads that are left
abbrev pub invariant-loop-index : goal.invariant-loop-index
invariant-loop-index l =
    string_bytes l.text ++ threads_text (l.index + 1) (map (λ lines. lines.items) (drop l.index l.threads))
    ≡ string_bytes l.initial.text ++ threads_text 1 (map (λ lines. lines.items) l.threads)
