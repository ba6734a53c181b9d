use Rattle.std.proofs.Common.{◌≡◌, ap, ◌∙◌}
use Rattle.std.specs.Option.{option_map_or}
use Rattle.thread_blocks.specs.Instances.{block_start}
use Rattle.job_check.proofs.SequencesMade.{sequence_is_made}
use Rattle.job_check.proofs.sequence.do_sequence.Goals as goal

pub returns : goal.returns
returns c =
    let thread : c.from.result ≡ c.args.space.now.thread = c.from.ensures ∙ c.thread-thread.ensures.value in
    sequence_is_made c.args.sequence.now c.args.state.now c.does.new.state c.args.space.now c.does.new.stack c.numbered.result c.start_in-start.result c.does.result
    c.numbered.ensures (c.start_in-start.ensures
    ∙ ap (λ thread. option_map_or (block_start thread) c.numbered.result 0) c.thread-thread.ensures.value)
    (rw thread at c.does.ensures.does) c.does.ensures.rest
