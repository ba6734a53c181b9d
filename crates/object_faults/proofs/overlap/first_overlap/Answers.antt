use Rattle.std.proofs.Common.{length}
use Rattle.object_faults.proofs.Overlaps.{room_of}
use Rattle.object_faults.proofs.Walks.{apart}
use Rattle.object_faults.proofs.overlap.first_overlap.Goals as goal

pub overlap_in-requires-clause-room : goal.overlap_in-requires-clause-room
overlap_in-requires-clause-room c = λ e reloc.
    room_of c.args.tables.now.bytes.now c.args.section e (length c.args.marks.now) c.requires.earlier reloc
    (c.requires.room e reloc c.in-Scattered.ensures.1)

pub returns-in-Rising-clause-first : goal.returns-in-Rising-clause-first
returns-in-Rising-clause-first c = λ e h. apart c.args.tables.now.bytes.now c.args.section e c.in-Rising.ensures.1 h
