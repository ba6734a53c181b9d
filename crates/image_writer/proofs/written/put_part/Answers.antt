use Rattle.std.proofs.Common.{◌+◌, ◌-◌, replicate, ap, sym, arith}
use Rattle.std.proofs.lemmas.List.{length-replicate}
use Rattle.image_writer.proofs.Puts.{put_next}
use Rattle.image_writer.proofs.written.put_part.Goals as goal

pub returns : goal.returns
returns c =
    let at = c.args.at in
    let gap = c.args.part.now.address - c.args.end in
    put_next at (at + gap) (replicate gap 0) c.args.part.now.bytes.now c.args.out.now c.put_zeros.new.out c.put_bytes.new.out
    (ap (λ n. at + n) (sym (length-replicate gap 0))) (omega arith) c.put_zeros.ensures c.put_bytes.ensures
