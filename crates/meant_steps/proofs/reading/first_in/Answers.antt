use Rattle.std.proofs.Common.{◌≡◌, ◌∙◌, ℕ, ap, sym, Option}
use Rattle.guest_arithmetic.specs.declared.cause.Cause.{Cause}
use Rattle.guest_operands.specs.Use.{plus}
use Rattle.whole_meaning.specs.Reading.{hindrance_of}
use Rattle.whole_meaning.specs.Threads.{ops}
use Rattle.meant_steps.proofs.Walking.{found, missed}
use Rattle.meant_steps.proofs.reading.first_in.Goals as goal

pub returns-then-is_some : goal.returns-then-is_some
returns-then-is_some g c =
    let mark = g.M.Marks.mark c.args.marks.now in
    let state = c.args.state.now in
    let it = c.args.it.now in
    let answer : ℕ → Option Cause = λ j. hindrance_of ops mark state it j (mark (plus state.place j)) in
    let is : c.hindrance_of-why.result ≡ answer c.loop-at.at = c.hindrance_of-why.ensures
    ∙ ap (hindrance_of ops mark state it c.loop-at.at)
    (c.mark-mark.ensures ∙ ap (λ (n : ℕ). mark (plus state.place n)) c.from.ensures) in
    sym (c.loop-at.invariant
    ∙ found answer c.loop-at.at c.args.end c.hindrance_of-why.result c.loop-at-test.true is
    (sym c.if-is_some.ensures))

pub loop-at-preserved : goal.loop-at-preserved
loop-at-preserved g c =
    let mark = g.M.Marks.mark c.args.marks.now in
    let state = c.args.state.now in
    let it = c.args.it.now in
    let answer : ℕ → Option Cause = λ j. hindrance_of ops mark state it j (mark (plus state.place j)) in
    let is : c.hindrance_of-why.result ≡ answer c.loop-at.at = c.hindrance_of-why.ensures
    ∙ ap (hindrance_of ops mark state it c.loop-at.at)
    (c.mark-mark.ensures ∙ ap (λ (n : ℕ). mark (plus state.place n)) c.from.ensures) in
    c.loop-at.invariant ∙ missed answer c.loop-at.at c.args.end c.hindrance_of-why.result c.loop-at-test.true is
    (sym c.if-is_some.ensures)
