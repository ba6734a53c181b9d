use Rattle.loaded_modules.proofs.WordBytes.{one_word, two_words}
use Rattle.loaded_modules.proofs.relocating.count_of.Goals as goal

pub returns-in-Some : goal.returns-in-Some
returns-in-Some c = two_words c.args.words _ c.in-Some.is

pub returns-in-None : goal.returns-in-None
returns-in-None c = one_word c.args.words c.in-None.is
