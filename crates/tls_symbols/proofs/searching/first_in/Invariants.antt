use Rattle.tls_symbols.specs.Walks.{NoneBefore}
use Rattle.tls_symbols.proofs.searching.first_in.Given as goal

-- no section so far holds one that is asked for
abbrev pub invariant-loop-table : goal.invariant-loop-table
invariant-loop-table g l = NoneBefore (g.Q.Question.about l.question) l.objects l.number l.table 0
