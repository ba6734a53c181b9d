use Rattle.tls_symbols.specs.Walks.{NoneBefore}
use Rattle.tls_symbols.proofs.searching.first_held.Given as goal

-- no entry so far is asked for
abbrev pub invariant-loop-entry : goal.invariant-loop-entry
invariant-loop-entry g l = NoneBefore (g.Q.Question.about l.question) l.objects l.number l.table l.entry
