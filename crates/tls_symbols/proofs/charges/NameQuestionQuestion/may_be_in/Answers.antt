use Rattle.std.proofs.Common.{arith}
use Rattle.tls_symbols.proofs.Charged.{none_charged}
use Rattle.tls_symbols.proofs.charges.NameQuestionQuestion.may_be_in.Goals as goal

pub returns : goal.returns
returns c _ =
    let past = c.loop-symbol-test.false in
    none_charged c.args.self.now c.args.number c.args.object.now
    (λ e below. c.loop-symbol.invariant e (omega (arith, below, past, c.symbol_count-symbol-end.ensures.count)))
