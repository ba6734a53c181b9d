-- How an instruction is decoded from bytes of which some are missing, and the cause of a step that accesses what is
-- the linker's.
use Rattle.std.specs.Prelude.{ℕ, zero, suc, ◌==◌, Bool, false, List, ◌++◌, replicate, Option, Some, None, Result, Err}
use Rattle.std.specs.Prelude.{if◌then◌else◌}
use Rattle.amd64_subset.specs.declared.instr.Decoded.{Decoded}
use Rattle.amd64_subset.specs.Decoding.{decoded}
use Rattle.guest_arithmetic.specs.declared.cause.Cause.{Cause}
use Rattle.guest_arithmetic.specs.declared.cause.Cause.TheVariants as cause
use Rattle.guest_operands.specs.declared.stop.Stop.{Stop}
use Rattle.guest_operands.specs.declared.stop.Stop.TheVariants.{Unclean}
use Rattle.guest_machine.specs.Access.{next_place}
use Rattle.guest_arithmetic.specs.Cause.{first_cause}

-- the address this many bytes after another
abbrev pub place_at : ℕ → ℕ → ℕ
place_at place zero = place
place_at place (suc k) = place_at (next_place place) k

-- the instruction that bytes spell; if some are missing, the one that they spell with zeros in their place
unfoldable pub completed : List ℕ → Option Decoded
completed bytes = decoded (bytes ++ replicate 15 0)

abbrev pub is_at : Option ℕ → ℕ → Bool
is_at None k = false
is_at (Some at) k = at == k

-- the cause of a step that accesses what is the linker's: of two the one that comes first
abbrev pub linker_with : {A : Type 0} → Result A Stop → Cause
linker_with (Err (Unclean at why)) = first_cause why cause.Linker
linker_with other = cause.Linker

abbrev pub beside_linker : {A : Type 0} → Bool → ℕ → Result A Stop → Result A Stop
beside_linker reaches here step = if reaches then Err (Unclean here (linker_with step)) else step
