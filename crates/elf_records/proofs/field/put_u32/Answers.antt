use Rattle.elf_records.specs.Fields.{bytes_of}
use Rattle.elf_records.specs.Laws.{length-bytes_of}
use Rattle.elf_records.proofs.Written.{put_mid-rest}
use Rattle.elf_records.proofs.field.put_u32.Goals as goal

pub returns-clause-written : goal.returns-clause-written
unfolding bytes_of
returns-clause-written c =
    let size = length-bytes_of 4 c.args.value in
    put_mid-rest c.args.at 4
    (bytes_of 4 c.args.value) c.args.bytes.now c.write_u32.new.buf size c.requires c.write_u32.ensures
