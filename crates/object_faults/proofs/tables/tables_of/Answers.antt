use Rattle.object_faults.proofs.File.{section_passes, none_passes}
use Rattle.object_faults.proofs.tables.tables_of.Goals as goal

pub returns-in-Some-clause-answers : goal.returns-in-Some-clause-answers
returns-in-Some-clause-answers c =
    let headers = c.in_ok-headers.headers in
    rw (c.fault_at.ensures, ← c.in_ok-headers.ensures.headers)
    (section_passes headers.bytes.now c.in-Some.section headers.long headers.elf headers.relocatable
    (rw (← headers.table_is, ← headers.count_is) headers.inside) c.in-Some.ensures.0 c.in-Some.ensures.1)

pub returns-clause-answers : goal.returns-clause-answers
returns-clause-answers c =
    let headers = c.in_ok-headers.headers in
    rw (← c.in_ok-headers.ensures.headers)
    (none_passes headers.bytes.now headers.long headers.elf headers.relocatable
    (rw (← headers.table_is, ← headers.count_is) headers.inside) c.in_default.ensures)
