-- The record's bytes stand at its place, since each field is written right behind the one before.
use Rattle.std.proofs.Common.{◌+◌, ◌≤◌, [], ◌∷◌, length, arith}
use Rattle.elf_records.specs.Fields.{bytes_of, spelled}
use Rattle.elf_records.specs.Laws.{length-bytes_of, take-splice, drop-splice}
use Rattle.elf_records.specs.Records.{dynamic_bytes}
use Rattle.elf_records.specs.RecordLaws.{dynamic_at-splice, length-dynamic_bytes}
use Rattle.elf_records.proofs.Written.{written_behind}
use Rattle.elf_records.proofs.dynamic.write_dynamic.Goals as goal

pub returns-clause-bytes : goal.returns-clause-bytes
unfolding dynamic_bytes spelled
returns-clause-bytes c =
    let inside : c.args.at ≤ length c.args.bytes.now = omega arith in
    rw (c.put_u64-2.ensures.written, c.put_u64.ensures.written)
    (written_behind c.args.at 8 (bytes_of 8 c.args.fields.now.tag) ((
      8,
      c.args.fields.now.value,
    ) ∷ []) c.args.bytes.now (length-bytes_of 8 c.args.fields.now.tag) inside)

pub returns-clause-again : goal.returns-clause-again
returns-clause-again c =
    let inside : c.args.at ≤ length c.args.bytes.now = omega arith in
    rw (returns-clause-bytes c)
    (dynamic_at-splice c.args.at c.args.fields.now c.args.bytes.now inside (
      c.put_u64.ensures.fits,
      (c.put_u64-2.ensures.fits, tt),
    ))

pub returns-clause-before : goal.returns-clause-before
returns-clause-before c =
    let inside : c.args.at ≤ length c.args.bytes.now = omega arith in
    rw (returns-clause-bytes c)
    (take-splice c.args.at c.args.at (dynamic_bytes c.args.fields.now) c.args.bytes.now (omega arith) inside)

pub returns-clause-after : goal.returns-clause-after
returns-clause-after c =
    let inside : c.args.at ≤ length c.args.bytes.now = omega arith in
    let size = length-dynamic_bytes c.args.fields.now in
    rw (returns-clause-bytes c) (drop-splice c.args.at (c.args.at + 16)
    (dynamic_bytes c.args.fields.now) c.args.bytes.now (omega arith) inside)
