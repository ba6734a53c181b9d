use Rattle.std.proofs.Common.{false, ap, arith}
use Rattle.elf_object.proofs.Noting.{noted_here, noted_nowhere}
use Rattle.elf_object.proofs.noted.note_role.Goals as goal

pub returns-then-symbol-roles-clause-roles : goal.returns-then-symbol-roles-clause-roles
returns-then-symbol-roles-clause-roles c seen known =
    noted_here seen c.args.relocation.now c.args.roles.now
    (record { ordinary = false; own_variable = false; any_variable = false }) c.with.result c.row.result.symbol
    (ap (λ its. its.symbol) c.row.ensures) c.if-symbol-roles.true c.with.ensures known

pub returns-else-symbol-roles-clause-roles : goal.returns-else-symbol-roles-clause-roles
returns-else-symbol-roles-clause-roles c seen known =
    noted_nowhere seen c.args.relocation.now c.args.roles.now (omega (arith, c.if-symbol-roles.false)) known
