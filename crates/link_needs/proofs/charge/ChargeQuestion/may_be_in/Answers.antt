use Rattle.std.proofs.Common.{◌∙◌, ap, sym}
use Rattle.link_needs.proofs.Asked.{none_among}
use Rattle.link_needs.specs.RefusalLaws.{asks_among}
use Rattle.link_needs.proofs.charge.ChargeQuestion.may_be_in.Goals as goal

pub returns : goal.returns
returns c = λ none. none_among c.args.self.now c.args._number c.args.object.now
    (ap (asks_among c.args.self.now) (sym c.traits.ensures) ∙ sym c.asks_among.ensures ∙ none)
