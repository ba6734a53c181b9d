-- What is left of names that a store gave out.
use Rattle.std.specs.Prelude.{◌≡◌, ◌≢◌, ℕ, ◌-◌, ◌⊎◌, List, [], ◌∷◌, Option, None, Some, Result, Ok, Err, IsOk, IsErrOf}
use Rattle.std.specs.Prelude.{Vec}
use Rattle.ports.specs.declared.claims.Claim.{Claim}
use Rattle.ports.specs.declared.faults.FetchFault.{FetchFault}
use Rattle.ports.specs.declared.faults.FetchFault.TheVariants as fetch
use Rattle.ports.specs.Files.{Files}
use Rattle.ports.specs.Claims.{IsRead}

-- the same claim before its file was read, and after
abbrev pub Reads : {B : Type 0} → Option Files → Claim B → Claim B → Type 0
Reads told before now = (now.name.now ≡ before.name.now) × IsRead told now

-- ---- claims that are taken back

-- what ends with a claim whose call is not set to fail: a refusal is the result; behind a file come the rest, unless
-- there is no memory
abbrev pub Goes : {A T : Type 0} → Option (Result (Vec ℕ A) FetchFault) → Result T FetchFault → Type 0 → Type 0 → Type 0
Goes None result Ends Rest = ⊥
Goes (Some (Ok file)) result Ends Rest = Rest ⊎ (IsErrOf result fetch.OutOfMemory × Ends)
Goes (Some (Err fault)) result Ends Rest = IsErrOf result fault × Ends

-- no call is set to fail
abbrev pub never : ℕ
never = 0

-- claims in their order, each a call, up to the first refusal; with the number of the call that is set to fail, counted
-- from 1 (0: none), before and after
abbrev pub Settles : {B T : Type 0} → ℕ → ℕ → List (Claim B) → Result T FetchFault → Type 0
Settles due now [] result = (now ≡ due) × IsOk result
Settles due now (claim ∷ claims) result =
    ((due ≡ 1) × IsErrOf result fetch.Failed × (now ≡ 0))
    ⊎ ((due ≢ 1) × Goes claim.came result (now ≡ due - 1) (Settles (due - 1) now claims result))

-- a store that does not show it
abbrev pub untold_count : Option ℕ
untold_count = None
