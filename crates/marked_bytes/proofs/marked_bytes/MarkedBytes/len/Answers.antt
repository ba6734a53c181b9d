-- There are as many bytes as values.
use Rattle.std.proofs.Common.{◌∙◌, ℕ, List, length, ap, arith}
use Rattle.marked_bytes.proofs.Cells.{as_many}
use Rattle.marked_bytes.proofs.marked_bytes.MarkedBytes.len.Goals as goal

pub returns-clause-count : goal.returns-clause-count
returns-clause-count c =
    ap (λ (xs : List ℕ). length xs) c.as_slice.ensures.value
    ∙ as_many c.self.inside.values.items c.self.inside.slots.items c.self.inside.marks.items c.args.self.now c.self.view_is

pub returns-clause-few : goal.returns-clause-few
returns-clause-few c = let many = ap (λ (xs : List ℕ). length xs) c.as_slice.ensures.value in
    omega (arith, many, c.self.invariant.few)
