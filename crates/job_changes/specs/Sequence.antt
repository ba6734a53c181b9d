-- The sequence of numbers from which changes are drawn.
use Rattle.std.specs.Prelude.{ℕ, ◌+◌, ◌*◌, ◌/◌, ◌%◌, ◌^◌, ◌==◌, if◌then◌else◌}

-- the state behind a state, and the first one of a seed
unfoldable pub advanced : ℕ → ℕ
advanced state = (state * 6364136223846793005 + 1442695040888963407) % 2 ^ 64

-- the number below an end that a state gives, by its upper 32 bits; 0 where no number is below
unfoldable pub drawn : ℕ → ℕ → ℕ
drawn end state = if end == 0 then 0 else state / 2 ^ 32 % end
