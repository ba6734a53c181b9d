use Rattle.elf_records.specs.Fields.{bytes_of}
use Rattle.elf_records.specs.Laws.{length-bytes_of}
use Rattle.elf_records.proofs.Written.{put_mid-rest}
use Rattle.image_writer.proofs.put.put_word.Goals as goal

pub returns : goal.returns
unfolding bytes_of
returns c =
    put_mid-rest c.args.at 4 (bytes_of 4 c.args.word) c.args.out.now c.write_u32.new.buf (length-bytes_of 4 c.args.word)
    c.requires c.write_u32.ensures
