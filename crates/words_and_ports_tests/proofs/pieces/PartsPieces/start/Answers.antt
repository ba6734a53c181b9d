use Rattle.std.proofs.Common.{◌∷◌, ◌∙◌, ◌≤◌, [], ap, arith, length, sym}
use Rattle.std.proofs.lemmas.List.{length-map, length-take-le}
use Rattle.words_and_ports_tests.proofs.Singles.{front_of_singles}
use Rattle.words_and_ports_tests.proofs.pieces.PartsPieces.start.Goals as goal

pub returns : goal.returns
returns c =
    let number = c.args.number in
    let bytes = c.args.self.now.bytes.now in
    let inside : number ≤ length bytes = omega (arith, c.requires, length-map bytes (λ byte. byte ∷ [])) in
    sym (ap length (front_of_singles number bytes) ∙ length-take-le number bytes inside)
