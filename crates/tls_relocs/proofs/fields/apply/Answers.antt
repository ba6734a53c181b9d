use Rattle.std.proofs.Common.{◌+◌, ◌≤◌, length, sym, add-zero}
use Rattle.std.proofs.lemmas.List.{take-append-drop}
use Rattle.elf_records.specs.Fields.{bytes_of, splice}
use Rattle.elf_records.specs.Laws.{length-bytes_of}
use Rattle.elf_records.proofs.Written.{put_mid-rest}
use Rattle.tls_relocs.proofs.fields.apply.Goals as goal

pub returns-in-Empty : goal.returns-in-Empty
unfolding splice
returns-in-Empty c = rw (c.in-Empty.is, add-zero c.args.at) (sym (take-append-drop c.args.at c.args.bytes.now))

pub returns-in-Word32 : goal.returns-in-Word32
unfolding bytes_of
returns-in-Word32 c =
    let size = length-bytes_of 4 c.in-Word32.word in
    let room : c.args.at + 4 ≤ length c.args.bytes.now = rw c.in-Word32.is at c.requires in
    rw c.in-Word32.is
    (put_mid-rest c.args.at 4
    (bytes_of 4 c.in-Word32.word) c.args.bytes.now c.write_u32.new.buf size room c.write_u32.ensures)

pub returns-in-Word64 : goal.returns-in-Word64
unfolding bytes_of
returns-in-Word64 c =
    let size = length-bytes_of 8 c.in-Word64.word in
    let room : c.args.at + 8 ≤ length c.args.bytes.now = rw c.in-Word64.is at c.requires in
    rw c.in-Word64.is
    (put_mid-rest c.args.at 8
    (bytes_of 8 c.in-Word64.word) c.args.bytes.now c.write_u64.new.buf size room c.write_u64.ensures)
