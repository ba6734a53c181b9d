-- How the answers to one job fit one another.
use Rattle.std.specs.Prelude.{◌≡◌, ◌≢◌, ◌⊎◌, ℕ, List, [], slice_get}
use Rattle.std.specs.Option.{option_map_or}
use Rattle.ports.specs.States.{SinkState}

-- what was printed into the output of this number
abbrev pub printed_in : List SinkState → ℕ → List ℕ
printed_in outputs number = option_map_or (λ out. out.bytes) (slice_get outputs number) []

-- an answer: its status, and what was printed
pub record Said : Type 0 where
  pub status : ℕ
  pub text : List ℕ

-- the job's images were asked to be linked: the output, or what is refused of a link
abbrev pub IsLinked : ℕ → Type 0
IsLinked status = (status ≡ 0) ⊎ (status ≡ 7)

-- `run`, `run` without rewriting, and `check`: where `run` is done, `check` gives a verdict; else it refuses as `run`
-- does. The two settings say the same, but where links were asked for, which may fail in one of them; they always do
-- where `check` finds the job clean, and both link
pub record Agree (run kept check : Said) : Type 0 where
  pub verdict : run.status ≡ 0 → (check.status ≡ 0) ⊎ (check.status ≡ 9)
  pub refused : run.status ≢ 0 → check ≡ run
  pub settings : (kept ≡ run) ⊎ (IsLinked run.status × IsLinked kept.status)
  pub clean : check.status ≡ 0 → kept.status ≡ 0 → kept ≡ run
