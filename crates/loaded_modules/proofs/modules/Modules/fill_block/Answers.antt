use Rattle.std.proofs.Common.{◌∙◌, length, sym, ap}
use Rattle.loaded_modules.proofs.FreshBlocks.{fresh_nowhere, fresh_some, fresh_without, size_some}
use Rattle.loaded_modules.proofs.modules.Modules.fill_block.Goals as goal

pub fill_tls-requires-clause-size : goal.fill_tls-requires-clause-size
fill_tls-requires-clause-size c =
    c.requires ∙ size_some c.args.self.now c.args.instance.now c.in-Some.image.now c.in-Some-tls_of.tls c.in-Some.ensures c.in-Some-tls_of.ensures.value

pub returns-in-Some-tls_of-clause-value : goal.returns-in-Some-tls_of-clause-value
returns-in-Some-tls_of-clause-value c =
    c.fill_tls.ensures.value
    ∙ fresh_some c.args.self.now c.args.instance.now c.in-Some.image.now c.in-Some-tls_of.tls c.in-Some.ensures c.in-Some-tls_of.ensures.value

pub returns-in-Some-tls_of-clause-len : goal.returns-in-Some-tls_of-clause-len
returns-in-Some-tls_of-clause-len c =
    sym (ap length (c.fill_tls.ensures.value
    ∙ fresh_some c.args.self.now c.args.instance.now c.in-Some.image.now c.in-Some-tls_of.tls c.in-Some.ensures c.in-Some-tls_of.ensures.value))
    ∙ c.fill_tls.ensures.len ∙ c.requires

pub returns-in_default-tls_of-clause-value : goal.returns-in_default-tls_of-clause-value
returns-in_default-tls_of-clause-value c =
    fresh_without c.args.self.now c.args.instance.now c.in-Some.image.now c.args.into.now c.in-Some.ensures c.in_default-tls_of.ensures.value c.requires

pub returns-in_default-tls_of-clause-len : goal.returns-in_default-tls_of-clause-len
returns-in_default-tls_of-clause-len c =
    sym (ap length (fresh_without c.args.self.now c.args.instance.now c.in-Some.image.now c.args.into.now c.in-Some.ensures c.in_default-tls_of.ensures.value c.requires)) ∙ c.requires

pub returns-in_default-clause-value : goal.returns-in_default-clause-value
returns-in_default-clause-value c =
    fresh_nowhere c.args.self.now c.args.instance.now c.args.into.now c.in_default.ensures c.requires

pub returns-in_default-clause-len : goal.returns-in_default-clause-len
returns-in_default-clause-len c =
    sym (ap length (fresh_nowhere c.args.self.now c.args.instance.now c.args.into.now c.in_default.ensures c.requires))
    ∙ c.requires
