use Rattle.std.proofs.Common.{◌≡◌, ◌≤◌, ◌+◌, length, take, rules, sym, ◌∙◌}
use Rattle.file_bytes.proofs.StreamLemmas.{take-filled_up, take-written}
use Rattle.file_bytes.proofs.streams.read_front.Goals as goal

pub returns-clause-bytes : goal.returns-clause-bytes
returns-clause-bytes g c =
    let old = c.args.into.now.items in
    let begin = c.len-begin.result in
    let count = c.in_ok-count.count in
    let at : begin ≡ length old = search rules in
    let order : begin ≤ c.saturating_add.result = search rules in
    let before = take-filled_up begin _ old _ _ at order (c.deref_mut.ensures.value ∙ c.in_ok-resize.ensures.items) in
    let within : begin + count ≤ c.resize.new.self.len = search rules in
    let written = take-written begin count _ old _ c.fill.new.buffer _ _ before at c.in_ok-count.ensures.bound.0 within in (
      take count c.fill.new.buffer,
      sym c.in_ok-count.ensures.bound.1,
      c.in_ok-count.ensures.bytes,
      c.truncate.ensures.items ∙ written,
    )
