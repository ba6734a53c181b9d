-- The record's bytes stand at its place, since each field is written right behind the one before.
use Rattle.std.proofs.Common.{◌+◌, ◌≤◌, ◌≡◌, length, arith, rules}
use Rattle.elf_records.specs.Fields.{spelled}
use Rattle.elf_records.specs.Laws.{take-splice, drop-splice}
use Rattle.elf_records.specs.Records.{header_bytes, header_fields}
use Rattle.elf_records.specs.RecordLaws.{header_at-splice, length-header_bytes}
use Rattle.elf_records.proofs.Written.{written_behind}
use Rattle.elf_records.proofs.file_header.write_header.Goals as goal

pub returns-clause-bytes : goal.returns-clause-bytes
unfolding header_bytes spelled
returns-clause-bytes c =
    let inside : c.args.at ≤ length c.args.bytes.now = omega arith in
    let sixteen : length c.args.fields.now.ident ≡ 16 = search rules in
    rw (
      c.put_u16-8.ensures.written,
      c.put_u16-7.ensures.written,
      c.put_u16-6.ensures.written,
      c.put_u16-5.ensures.written,
      c.put_u16-4.ensures.written,
      c.put_u16-3.ensures.written,
      c.put_u32-2.ensures.written,
      c.put_u64-3.ensures.written,
      c.put_u64-2.ensures.written,
      c.put_u64.ensures.written,
      c.put_u32.ensures.written,
      c.put_u16-2.ensures.written,
      c.put_u16.ensures.written,
      c.put_bytes.ensures,
    )
    (written_behind c.args.at 16 c.args.fields.now.ident
    (header_fields c.args.fields.now) c.args.bytes.now sixteen inside)

pub returns-clause-again : goal.returns-clause-again
returns-clause-again c =
    let inside : c.args.at ≤ length c.args.bytes.now = omega arith in
    rw (returns-clause-bytes c)
    (header_at-splice c.args.at c.args.fields.now c.args.bytes.now inside (
      search rules,
      (
        c.put_u16.ensures.fits,
        (
          c.put_u16-2.ensures.fits,
          (
            c.put_u32.ensures.fits,
            (
              c.put_u64.ensures.fits,
              (
                c.put_u64-2.ensures.fits,
                (
                  c.put_u64-3.ensures.fits,
                  (
                    c.put_u32-2.ensures.fits,
                    (
                      c.put_u16-3.ensures.fits,
                      (
                        c.put_u16-4.ensures.fits,
                        (
                          c.put_u16-5.ensures.fits,
                          (c.put_u16-6.ensures.fits, (c.put_u16-7.ensures.fits, (c.put_u16-8.ensures.fits, tt))),
                        ),
                      ),
                    ),
                  ),
                ),
              ),
            ),
          ),
        ),
      ),
    ))

pub returns-clause-before : goal.returns-clause-before
returns-clause-before c =
    let inside : c.args.at ≤ length c.args.bytes.now = omega arith in
    rw (returns-clause-bytes c)
    (take-splice c.args.at c.args.at (header_bytes c.args.fields.now) c.args.bytes.now (omega arith) inside)

pub returns-clause-after : goal.returns-clause-after
returns-clause-after c =
    let inside : c.args.at ≤ length c.args.bytes.now = omega arith in
    let size = length-header_bytes c.args.fields.now (search rules) in
    rw (returns-clause-bytes c) (drop-splice c.args.at (c.args.at + 64)
    (header_bytes c.args.fields.now) c.args.bytes.now (omega arith) inside)
