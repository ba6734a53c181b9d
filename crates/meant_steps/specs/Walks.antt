-- A walk over the bytes of an instruction, in search of one that may not be read.
use Rattle.std.specs.Prelude.{ℕ, zero, suc, ◌+◌, Bool, true, false, Option, Some, None}
use Rattle.std.specs.Option.{option_or}
use Rattle.amd64_subset.specs.declared.instr.Decoded.{Decoded}
use Rattle.guest_arithmetic.specs.declared.cause.Cause.{Cause}
use Rattle.whole_meaning.specs.declared.marks.Mark.{Mark}
use Rattle.whole_meaning.specs.declared.marks.Mark.TheVariants.{Usual, Offset, Address, Inside}

abbrev pub is_usual : Mark → Bool
is_usual Usual = true
is_usual (Offset number byte) = false
is_usual (Address number addend byte) = false
is_usual Inside = false

-- the first answer, of this many from number k on
abbrev pub first_from : (ℕ → Option Cause) → ℕ → ℕ → Option Cause
first_from answer k zero = None
first_from answer k (suc more) = option_or (answer k) (first_from answer (k + 1) more)

-- the end of the bytes that are read, if byte k is read
abbrev pub end_of : Option Decoded → ℕ → ℕ
end_of None k = k + 1
end_of (Some it) k = it.len
