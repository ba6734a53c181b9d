use Rattle.std.proofs.Common.{arith, rules}
use Rattle.sequence_match.proofs.Literals.{ends_bare}
use Rattle.sequence_match.proofs.matching.are_ends_bare.Goals as goal

pub returns-then-is_byte_bare : goal.returns-then-is_byte_bare
returns-then-is_byte_bare c = (
  λ t. ends_bare c.args.code.now.relocations.now c.args.from c.args.to c.requires.few
      (c.is_byte_bare.ensures.0 (search rules))
      (c.is_byte_bare-then-is_byte_bare.ensures.0 t),
  λ bare. c.is_byte_bare-then-is_byte_bare.ensures.1 (bare c.args.from (omega arith) c.requires.some),
)

pub returns-else-is_byte_bare : goal.returns-else-is_byte_bare
returns-else-is_byte_bare c = (
  λ t. absurd (cc),
  λ bare. c.is_byte_bare.ensures.1 (bare _ (omega (arith, c.requires.some)) (omega (arith, c.requires.some))),
)
