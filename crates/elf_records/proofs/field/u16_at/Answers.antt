use Rattle.std.proofs.Common.{◌∙◌}
use Rattle.elf_records.specs.Laws.{number_at-rest}
use Rattle.elf_records.proofs.field.u16_at.Goals as goal

pub returns : goal.returns
returns c = c.read_u16.ensures ∙ number_at-rest 2 c.args.at c.args.bytes.now
