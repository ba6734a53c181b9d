use Rattle.std.proofs.Common.{◌+◌, length, arith, inl, inr}
use Rattle.std.proofs.lemmas.Bool.{cases_lt}
use Rattle.loaded_modules.proofs.Windows.{window_kept, window_on}
use Rattle.loaded_modules.proofs.relocating.overlay.Goals as goal

pub returns-then-start-end-clause-shows : goal.returns-then-start-end-clause-shows
returns-then-start-end-clause-shows c = λ whole inside shows.
    let start = c.max-start.ensures in
    let end = c.min-end.ensures in
    let lt = c.if-start-end.true in
    window_on whole c.args.bytes.now c.args.window.now c.copy_from_slice.new.self c.args.from c.args.place c.max-start.result c.min-end.result shows inside
    (omega (arith, start), omega (arith, start), omega (arith, end), omega (arith, end), lt) (
      elim (cases_lt c.args.place c.args.from) [
        | inl below ↦ inr (omega (arith, start, below))
        | inr above ↦ inl (omega (arith, start, above))
      ],
      elim (cases_lt c.min-end.result (c.args.place + length c.args.bytes.now)) [
        | inl below ↦ inr (omega (arith, end, below))
        | inr above ↦ inl (omega (arith, end, above))
      ],
    )
    c.copy_from_slice.ensures.after

pub returns-else-start-end-clause-shows : goal.returns-else-start-end-clause-shows
returns-else-start-end-clause-shows c = λ whole inside shows.
    let start = c.max-start.ensures in
    let end = c.min-end.ensures in
    let no = c.if-start-end.false in
    window_kept whole c.args.bytes.now c.args.window.now c.args.window.now c.args.from c.args.place c.max-start.result c.min-end.result shows inside
    (λ j ge lt within. omega (arith, start, end, no, ge, lt, within))
