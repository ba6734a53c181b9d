use Rattle.std.proofs.Common.{length, refl}
use Rattle.image_writer.proofs.Puts.{put_mid-part}
use Rattle.image_writer.proofs.put.put_bytes.Goals as goal

pub returns : goal.returns
returns c =
    put_mid-part c.args.at (length c.args.bytes.now) c.args.bytes.now c.args.out.now c.copy_from_slice.new.self refl
    c.copy_from_slice.ensures.after
