-- The record's bytes stand at its place, since each field is written right behind the one before.
use Rattle.std.proofs.Common.{◌+◌, ◌≤◌, [], ◌∷◌, length, arith, rules, w64, FitsSigned}
use Rattle.std.proofs.Math.Facts.{to_z-of_z}
use Rattle.std.specs.Int.{cast_unsigned}
use Rattle.elf_records.specs.Fields.{bytes_of, spelled}
use Rattle.elf_records.specs.Laws.{length-bytes_of, take-splice, drop-splice}
use Rattle.elf_records.specs.Records.{rela_bytes}
use Rattle.elf_records.specs.RecordLaws.{rela_at-splice, length-rela_bytes}
use Rattle.elf_records.proofs.Written.{written_behind}
use Rattle.elf_records.proofs.relocation.write_rela.Goals as goal

pub returns-clause-bytes : goal.returns-clause-bytes
unfolding rela_bytes spelled
returns-clause-bytes c =
    let inside : c.args.at ≤ length c.args.bytes.now = omega arith in
    let fits : FitsSigned w64 c.args.fields.now.addend = search rules in
    let same = to_z-of_z fits in
    rw (c.put_i64.ensures, same, c.put_u64-2.ensures.written, c.put_u64.ensures.written)
    (written_behind c.args.at 8 (bytes_of 8 c.args.fields.now.offset) ((8, c.args.fields.now.info) ∷ (
      8,
      cast_unsigned w64 c.args.fields.now.addend,
    ) ∷ []) c.args.bytes.now (length-bytes_of 8 c.args.fields.now.offset) inside)

pub returns-clause-again : goal.returns-clause-again
returns-clause-again c =
    let inside : c.args.at ≤ length c.args.bytes.now = omega arith in
    let fits : FitsSigned w64 c.args.fields.now.addend = search rules in
    rw (returns-clause-bytes c)
    (rela_at-splice c.args.at c.args.fields.now c.args.bytes.now inside (
      (
        c.put_u64.ensures.fits,
        (c.put_u64-2.ensures.fits, tt),
      ),
      fits,
    ))

pub returns-clause-before : goal.returns-clause-before
returns-clause-before c =
    let inside : c.args.at ≤ length c.args.bytes.now = omega arith in
    rw (returns-clause-bytes c)
    (take-splice c.args.at c.args.at (rela_bytes c.args.fields.now) c.args.bytes.now (omega arith) inside)

pub returns-clause-after : goal.returns-clause-after
returns-clause-after c =
    let inside : c.args.at ≤ length c.args.bytes.now = omega arith in
    let size = length-rela_bytes c.args.fields.now in
    rw (returns-clause-bytes c) (drop-splice c.args.at (c.args.at + 24)
    (rela_bytes c.args.fields.now) c.args.bytes.now (omega arith) inside)
