-- Numbers of symbols.
use Rattle.std.proofs.Common.{arith}
use Rattle.whole_meaning.specs.Laws.{NumbersAreOwn}

pub own_numbers : NumbersAreOwn
own_numbers image image' x y a b c d same =
    (omega (arith, a, b, c, d, same), omega (arith, a, b, c, d, same), omega (arith, a, b, c, d, same))
