use Rattle.loaded_words.proofs.StubJump.{stub_loaded}
use Rattle.loaded_words.proofs.laws.stub_is_loaded.Goals as goal

pub returns : goal.returns
returns c = stub_loaded
