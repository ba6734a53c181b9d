use Rattle.std.proofs.Common.{◌∙◌}
use Rattle.elf_records.specs.Laws.{number_at-rest}
use Rattle.image_faults.proofs.words.word_at.Goals as goal

pub returns : goal.returns
returns c = c.read_u32.ensures ∙ number_at-rest 4 c.args.at c.args.bytes.now
