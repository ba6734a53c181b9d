use Rattle.loaded_words.proofs.Words.{words_loaded}
use Rattle.loaded_words.proofs.laws.words_are_loaded.Goals as goal

pub returns : goal.returns
returns c = words_loaded
