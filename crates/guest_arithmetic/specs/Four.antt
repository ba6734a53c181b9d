-- Four bytes as a list.
use Rattle.std.specs.Prelude.{List, [], ◌∷◌}
use Rattle.guest_arithmetic.specs.declared.values.Four.{Four}

abbrev pub bytes_of : {B : Type 0} → Four B → List B
bytes_of four = four.first ∷ four.second ∷ four.third ∷ four.fourth ∷ []
