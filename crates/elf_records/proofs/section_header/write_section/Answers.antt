-- The record's bytes stand at its place, since each field is written right behind the one before.
use Rattle.std.proofs.Common.{◌+◌, ◌≤◌, [], ◌∷◌, length, arith}
use Rattle.elf_records.specs.Fields.{bytes_of, spelled}
use Rattle.elf_records.specs.Laws.{length-bytes_of, take-splice, drop-splice}
use Rattle.elf_records.specs.Records.{section_bytes}
use Rattle.elf_records.specs.RecordLaws.{section_at-splice, length-section_bytes}
use Rattle.elf_records.proofs.Written.{written_behind}
use Rattle.elf_records.proofs.section_header.write_section.Goals as goal

pub returns-clause-bytes : goal.returns-clause-bytes
unfolding section_bytes spelled
returns-clause-bytes c =
    let inside : c.args.at ≤ length c.args.bytes.now = omega arith in
    rw (
      c.put_u64-6.ensures.written,
      c.put_u64-5.ensures.written,
      c.put_u32-4.ensures.written,
      c.put_u32-3.ensures.written,
      c.put_u64-4.ensures.written,
      c.put_u64-3.ensures.written,
      c.put_u64-2.ensures.written,
      c.put_u64.ensures.written,
      c.put_u32-2.ensures.written,
      c.put_u32.ensures.written,
    ) (written_behind c.args.at 4 (bytes_of 4 c.args.fields.now.name) ((
      4,
      c.args.fields.now.kind,
    ) ∷ (8, c.args.fields.now.flags) ∷ (8, c.args.fields.now.addr) ∷ (
      8,
      c.args.fields.now.offset,
    ) ∷ (8, c.args.fields.now.size) ∷ (4, c.args.fields.now.link) ∷ (
      4,
      c.args.fields.now.info,
    ) ∷ (8, c.args.fields.now.addralign) ∷ (
      8,
      c.args.fields.now.entsize,
    ) ∷ []) c.args.bytes.now (length-bytes_of 4 c.args.fields.now.name) inside)

pub returns-clause-again : goal.returns-clause-again
returns-clause-again c =
    let inside : c.args.at ≤ length c.args.bytes.now = omega arith in
    rw (returns-clause-bytes c)
    (section_at-splice c.args.at c.args.fields.now c.args.bytes.now inside (
      c.put_u32.ensures.fits,
      (
        c.put_u32-2.ensures.fits,
        (
          c.put_u64.ensures.fits,
          (
            c.put_u64-2.ensures.fits,
            (
              c.put_u64-3.ensures.fits,
              (
                c.put_u64-4.ensures.fits,
                (
                  c.put_u32-3.ensures.fits,
                  (c.put_u32-4.ensures.fits, (c.put_u64-5.ensures.fits, (c.put_u64-6.ensures.fits, tt))),
                ),
              ),
            ),
          ),
        ),
      ),
    ))

pub returns-clause-before : goal.returns-clause-before
returns-clause-before c =
    let inside : c.args.at ≤ length c.args.bytes.now = omega arith in
    rw (returns-clause-bytes c)
    (take-splice c.args.at c.args.at (section_bytes c.args.fields.now) c.args.bytes.now (omega arith) inside)

pub returns-clause-after : goal.returns-clause-after
returns-clause-after c =
    let inside : c.args.at ≤ length c.args.bytes.now = omega arith in
    let size = length-section_bytes c.args.fields.now in
    rw (returns-clause-bytes c) (drop-splice c.args.at (c.args.at + 64)
    (section_bytes c.args.fields.now) c.args.bytes.now (omega arith) inside)
