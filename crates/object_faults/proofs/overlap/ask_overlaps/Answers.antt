use Rattle.std.proofs.Common.{ℕ, subst, arith}
use Rattle.object_rules.specs.declared.fault.FaultKind.TheVariants.{RelocOverlap}
use Rattle.object_faults.specs.Walks.{HasRoomToMark}
use Rattle.object_faults.proofs.Order.{none_more}
use Rattle.object_faults.proofs.Walks.{none_to_mark}
use Rattle.object_faults.proofs.overlap.ask_overlaps.Goals as goal

pub returns-then-most-eq0 : goal.returns-then-most-eq0
returns-then-most-eq0 c =
    let b = c.args.tables.now.bytes.now in
    none_more RelocOverlap b c.requires.earlier
    (λ r e h.
    let P : ℕ → Type 0 = λ n. HasRoomToMark b r n in
    none_to_mark b r e c.requires.earlier (subst P (omega (arith, c.if-most-eq0.true)) (c.requires.room r)) h)

pub ask_marked-requires-clause-room : goal.ask_marked-requires-clause-room
ask_marked-requires-clause-room c = λ r e reloc scattered.
    let room = c.requires.room r e reloc scattered in
    omega (arith, room, c.deref_mut.ensures.len, c.in_ok-marks.ensures.len)
