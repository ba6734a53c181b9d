use Rattle.std.proofs.Common.{◌≡◌, ◌+◌, ℕ, Some, IsTrue, slice_index, subst, below_more, arith, rules}
use Rattle.std.specs.List.{slice_get}
use Rattle.std.proofs.lemmas.Option.{slice_get_within, get_or_from_slice_get}
use Rattle.sequence_forms.specs.declared.forms.Cell.{Cell}
use Rattle.sequence_forms.specs.declared.forms.Cell.TheVariants.{Is}
use Rattle.sequence_forms.specs.Forms.{fits}
use Rattle.sequence_match.proofs.matching.are_bytes.Goals as goal

pub loop-index-preserved : goal.loop-index-preserved
loop-index-preserved c =
    let P : ℕ → Type 0 = λ k. (cell : Cell) → slice_get c.args.cells.now k ≡ Some cell
    → IsTrue (fits cell (slice_index c.args.bytes.now (c.args.start + k))) in
    below_more P c.loop-index.index c.loop-index.invariant
    (λ cell at.
    let C : Cell → Type 0 = λ x. IsTrue (fits x (slice_index c.args.bytes.now (c.args.start + c.loop-index.index))) in
    subst C (get_or_from_slice_get c.args.cells.now c.loop-index.index cell (Is 0) at) (search rules))

pub returns : goal.returns
returns c = (
  λ t k cell at. c.loop-index.invariant k (omega (arith, slice_get_within c.args.cells.now k cell at)) cell at,
  λ h. (search rules),
)
