use Rattle.elf_records.proofs.Written.{put_mid-part}
use Rattle.relax_sites.proofs.rewriting.put.Goals as goal

pub returns : goal.returns
returns c = put_mid-part c.args.at c.args.new.now c.args.bytes.now c.copy_from_slice.new.self c.copy_from_slice.ensures.after
