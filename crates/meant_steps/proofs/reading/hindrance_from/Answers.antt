use Rattle.std.proofs.Common.{◌∙◌, ◌+◌, ap, length}
use Rattle.std.specs.Prelude.{ℕ, min}
use Rattle.whole_meaning.specs.Threads.{ops}
use Rattle.meant_steps.proofs.Walking.{begun-at}
use Rattle.meant_steps.proofs.reading.hindrance_from.Goals as goal

pub returns : goal.returns
returns g c = c.first_in.ensures
    ∙ begun-at ops (g.M.Marks.mark c.args.marks.now) c.args.state.now c.args.bytes.now c.requires.low c.args.k c.requires.at c.requires.begins c.requires.marked
    c.completed-it.result c.min-end.result c.completed-it.ensures
    (c.min-end.ensures ∙ ap (λ (n : ℕ). min n (length c.args.bytes.now + 1)) c.end_of.ensures)
