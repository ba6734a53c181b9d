-- A slot after its bytes were lent.
use Rattle.std.specs.Prelude.{ℕ, List}
use Rattle.std.specs.Borrow.{Array, Lends, MutBor, Fml, u8}
use Rattle.thread_vector.specs.Vectors.{Piece, rewritten}
use Rattle.thread_vector.specs.contracts.slot.Slot.{the_row}

abbrev pub LendsPart : MutBor Piece → ℕ → MutBor (List ℕ) → Fml
LendsPart s from r =
    Lends the_row (Array u8 0) s r (λ w. record { instance = s.now.instance; bytes = rewritten s.now.bytes from w })
