use Rattle.tls_symbols.specs.Walks.{NoneBefore}
use Rattle.tls_symbols.proofs.searching.first_use.Given as goal

-- the objects so far have none
abbrev pub invariant-loop-number : goal.invariant-loop-number
invariant-loop-number g l = NoneBefore (g.Q.Question.about l.question) l.objects l.number 1 0
