use Rattle.std.proofs.Common.{◌∙◌, sym, ap, arith}
use Rattle.object_faults.proofs.TargetsFound.{targets_other, targets_kept, targets_new}
use Rattle.object_faults.proofs.targets.note_target.Goals as goal
use Rattle.object_faults.proofs.targets.note_target.Goals.{then-header-ne-SHT_RELA-via-then-header-ne-SHT_RELA}
use Rattle.object_faults.proofs.targets.note_target.Goals.{then-header-ne-SHT_RELA-via-else-header-ne-SHT_RELA+then-found-target}

pub returns-then-header-ne-SHT_RELA : goal.returns-then-header-ne-SHT_RELA
returns-then-header-ne-SHT_RELA c =
    targets_other c.args.tables.now.bytes.now c.args.section c.args.found.now c.requires.found
    (λ t h kind target. elim c.then-header-ne-SHT_RELA.branch [
      | then-header-ne-SHT_RELA-via-then-header-ne-SHT_RELA w ↦ w.if-header-ne-SHT_RELA.true
          (ap (λ x. x.kind) c.section-header.ensures ∙ kind)
      | then-header-ne-SHT_RELA-via-else-header-ne-SHT_RELA+then-found-target w ↦
          omega (
            arith,
            w.if-found-target.true,
            ap (λ x. x.info) c.section-header.ensures,
            c.requires.len,
            c.args.tables.now.count_is,
          )
    ])

pub returns-then-found-target-eq0 : goal.returns-then-found-target-eq0
returns-then-found-target-eq0 c =
    let same = ap (λ x. x.info) c.section-header.ensures in
    rw same
    (targets_new c.args.tables.now.bytes.now c.args.section c.args.found.now c.requires.section.0
    (sym (ap (λ x. x.kind) c.section-header.ensures) ∙ c.if-header-ne-SHT_RELA.false) c.requires.found
    (omega (arith, c.if-found-target.false, same)) (rw (← same) c.if-found-target-eq0.true))

pub returns-else-found-target-eq0 : goal.returns-else-found-target-eq0
returns-else-found-target-eq0 c =
    let same = ap (λ x. x.info) c.section-header.ensures in
    targets_kept c.args.tables.now.bytes.now c.args.section c.args.found.now c.requires.found
    (rw (← same) c.if-found-target-eq0.false)
