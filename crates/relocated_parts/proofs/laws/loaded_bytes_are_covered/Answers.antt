use Rattle.relocated_parts.proofs.Covered.{loaded_bytes_are_covered}
use Rattle.relocated_parts.proofs.laws.loaded_bytes_are_covered.Goals as goal

pub returns : goal.returns
returns c = loaded_bytes_are_covered
