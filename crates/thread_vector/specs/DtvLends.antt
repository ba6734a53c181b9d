-- A vector after a block of it was lent.
use Rattle.std.specs.Prelude.{ℕ, List, []}
use Rattle.std.specs.Borrow.{Array, Lends, MutBor, Fml, u8}
use mir.Syntax.{named}
use Rattle.thread_vector.specs.Vectors.{Vector}
use Rattle.thread_vector.specs.Places.{with_block}
use Rattle.thread_vector.specs.contracts.dtv.Dtv as dtv

abbrev pub LendsBlock : MutBor Vector → ℕ → MutBor (List ℕ) → Fml
LendsBlock s instance r =
    Lends (dtv.the_row (record { mir = named 1; lft = [] })) (Array u8 0) s r (with_block s.now instance)
