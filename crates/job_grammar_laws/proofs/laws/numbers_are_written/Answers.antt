use Rattle.job_grammar_laws.proofs.Numbers.{writes_read}
use Rattle.job_grammar_laws.proofs.laws.numbers_are_written.Goals as goal

pub returns : goal.returns
returns c = writes_read
