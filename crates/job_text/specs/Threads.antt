-- Threads by their numbers, which count from 1.
use Rattle.std.specs.Prelude.{ℕ, ◌-◌, ◌≤◌, nat_lt, List, [], slice_index_or, if◌then◌else◌}

-- a thread's number: from 1 to the number of threads
abbrev pub IsThread : ℕ → ℕ → Type 0
IsThread threads thread = (1 ≤ thread) × (thread ≤ threads)

-- a thread's entry in a list with one for each thread; nothing if there is no such thread
abbrev pub of_thread : {X : Type 0} → List (List X) → ℕ → List X
of_thread all thread = if nat_lt 0 thread then slice_index_or all (thread - 1) [] else []
