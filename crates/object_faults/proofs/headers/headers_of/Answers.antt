use Rattle.std.proofs.Common.{◌+◌, ◌*◌, ◌<◌, length, arith}
use Rattle.object_faults.specs.Parts.{header}
use Rattle.object_faults.specs.Faults.{IsElf, IsRelocatable}
use Rattle.object_faults.proofs.File.{truncated_short, not_elf, not_relocatable, table_passes}
use Rattle.object_faults.proofs.headers.headers_of.Goals as goal

pub returns-in_default-clause-fault : goal.returns-in_default-clause-fault
returns-in_default-clause-fault c = rw c.fault_at.ensures (truncated_short c.args.bytes.now c.in_default.ensures)

pub returns-then-not-is_elf-clause-fault : goal.returns-then-not-is_elf-clause-fault
returns-then-not-is_elf-clause-fault c =
    let long = c.in-Some.ensures.0 in
    let other : IsElf (header c.args.bytes.now)
    → ⊥ = λ elf. let wrong = c.if-not-is_elf.ensures.1 (rw c.in-Some.ensures.1 elf) in cc in
    rw c.fault_at-then-not-is_elf.ensures (not_elf c.args.bytes.now long other)

pub returns-then-not-is_relocatable-clause-fault : goal.returns-then-not-is_relocatable-clause-fault
returns-then-not-is_relocatable-clause-fault c =
    let long = c.in-Some.ensures.0 in
    let elf : IsElf (header c.args.bytes.now) = rw (← c.in-Some.ensures.1) (c.is_elf.ensures.0 c.if-not-is_elf.false) in
    let other : IsRelocatable (header c.args.bytes.now)
    → ⊥ = λ object. let wrong = c.if-not-is_relocatable.ensures.1 (rw c.in-Some.ensures.1 object) in cc in
    rw c.fault_at-then-not-is_relocatable.ensures (not_relocatable c.args.bytes.now long elf other)

pub returns-then-not-lies_in-clause-fault : goal.returns-then-not-lies_in-clause-fault
returns-then-not-lies_in-clause-fault c =
    let long = c.in-Some.ensures.0 in
    let elf : IsElf (header c.args.bytes.now) = rw (← c.in-Some.ensures.1) (c.is_elf.ensures.0 c.if-not-is_elf.false) in
    let object : IsRelocatable (header c.args.bytes.now) =
    rw (← c.in-Some.ensures.1) (c.is_relocatable.ensures.0 c.if-not-is_relocatable.false) in
    let past : length c.args.bytes.now < (header c.args.bytes.now).e_shoff + 64 * (header c.args.bytes.now).e_shnum =
    grind (arith, c.if-not-lies_in.ensures, c.from-count.ensures, c.in-Some.ensures.1) in
    rw c.fault_at-then-not-lies_in.ensures (table_passes c.args.bytes.now long elf object past)
