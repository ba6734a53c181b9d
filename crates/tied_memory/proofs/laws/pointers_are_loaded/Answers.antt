-- The word at the thread pointer.
use Rattle.tied_memory.proofs.Pointer.{pointers_loaded}
use Rattle.tied_memory.proofs.laws.pointers_are_loaded.Goals as goal

pub returns : goal.returns
returns c = pointers_loaded
