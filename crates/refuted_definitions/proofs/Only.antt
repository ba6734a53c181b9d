-- Where a law fixes the one answer, two definitions that meet it say the same.
use Rattle.std.proofs.Common.{◌≡◌, ◌↔◌, refl}

pub one_answer : {A : Type 0} (P : A → Type 0) (right wrong : A) → ((answer : A) → (right ≡ answer) ↔ P answer)
    → ((answer : A) → (wrong ≡ answer) ↔ P answer) → right ≡ wrong
one_answer P right wrong law other = (law wrong).1 ((other wrong).0 refl)
