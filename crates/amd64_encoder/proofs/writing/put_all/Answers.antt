-- The part stands where it was copied to.
use Rattle.amd64_encoder.proofs.Splices.{put_mid-part}
use Rattle.amd64_encoder.proofs.writing.put_all.Goals as goal

pub returns-clause-written : goal.returns-clause-written
returns-clause-written c =
    put_mid-part c.args.at c.args.part.now c.args.into.now c.copy_from_slice.new.self c.copy_from_slice.ensures.after
