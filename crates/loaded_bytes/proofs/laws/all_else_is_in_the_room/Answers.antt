use Rattle.loaded_bytes.proofs.Elsewhere.{elsewhere}
use Rattle.loaded_bytes.proofs.laws.all_else_is_in_the_room.Goals as goal

pub returns : goal.returns
returns c = elsewhere
