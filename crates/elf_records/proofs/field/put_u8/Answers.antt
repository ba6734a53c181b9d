use Rattle.std.proofs.Common.{arith}
use Rattle.elf_records.proofs.Written.{set-splice}
use Rattle.elf_records.proofs.field.put_u8.Goals as goal

pub returns-clause-written : goal.returns-clause-written
returns-clause-written c = set-splice c.args.at c.args.value c.args.bytes.now (omega arith) c.requires
