-- What was read has a spelling.
use Rattle.std.proofs.Common.{◌∙◌, sym, arith}
use Rattle.amd64_encoder.proofs.Spellable.{decoded_spellable}
use Rattle.instruction_tests.proofs.instructions.writes.Goals as goal

pub encode-requires : goal.encode-requires
encode-requires g c =
    decoded_spellable c.args.from.now c.in-Some.read (λ i. omega (arith, c.type_inv.from i))
    (sym c.decode.ensures.exact ∙ c.in-Some.is)
