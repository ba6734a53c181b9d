use Rattle.std.proofs.Common.{◌<◌, length, arith}
use Rattle.terminal_notes.specs.Printable.{shown_byte}
use Rattle.terminal_notes.proofs.Appending.{one_more}
use Rattle.terminal_notes.proofs.printable.append_bytes.Goals as goal

pub loop-byte-preserved : goal.loop-byte-preserved
loop-byte-preserved c =
    let inside : c.loop-byte.byte-index < length c.args.bytes.now = omega arith in
    one_more shown_byte _ _ _ c.args.bytes.now c.loop-byte.byte-index _ inside c.loop-byte.invariant
    c.in_ok-append_byte.ensures
