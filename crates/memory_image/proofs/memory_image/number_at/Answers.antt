use Rattle.std.proofs.Common.{◌∙◌}
use Rattle.memory_image.proofs.Words.{eight_bytes}
use Rattle.memory_image.proofs.memory_image.number_at.Goals as goal

pub returns : goal.returns
returns c =
    c.read_u64.ensures
    ∙ eight_bytes c.args.bytes.now c.args.at c.byte_or_zero.result c.byte_or_zero-2.result c.byte_or_zero-3.result c.byte_or_zero-4.result
    c.byte_or_zero-5.result c.byte_or_zero-6.result c.byte_or_zero-7.result c.byte_or_zero-8.result c.byte_or_zero.ensures
    c.byte_or_zero-2.ensures c.byte_or_zero-3.ensures c.byte_or_zero-4.ensures c.byte_or_zero-5.ensures c.byte_or_zero-6.ensures
    c.byte_or_zero-7.ensures c.byte_or_zero-8.ensures
