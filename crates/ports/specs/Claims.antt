-- Names that a store gave out, and what came of their files.
use Rattle.std.specs.Prelude.{◌≡◌, ℕ, ◌+◌, ◌-◌, List, Option, None, Some, Result, Ok, IfOk, map, Vec}
use Rattle.std.specs.Borrow.{Bor}
use Rattle.std.specs.declared.alloc.Global.{Global}
use Rattle.std.specs.Option.{option_map}
use Rattle.ports.specs.declared.claims.Claim.{Claim}
use Rattle.ports.specs.declared.faults.FetchFault.{FetchFault}
use Rattle.ports.specs.Files.{Files, IsFile}

-- the bytes of names
abbrev pub texts : List (Bor (List ℕ)) → List (List ℕ)
texts = map (λ name. name.now)

-- a claim whose file was not read
abbrev pub IsFresh : {B : Type 0} → Claim B → Type 0
IsFresh claim = claim.came ≡ None

-- a claim of this name, whose file was not read
abbrev pub IsFor : {B : Type 0} → Bor (List ℕ) → Claim B → Type 0
IsFor name claim = (claim.name.now ≡ name.now) × IsFresh claim

-- a result has come, and bytes are those of the file of that name
abbrev pub HasCome : {A : Type 0} → Option Files → List ℕ → Option (Result (Vec ℕ A) FetchFault) → Type 0
HasCome told name None = ⊥
HasCome told name (Some came) = IfOk came (λ file. IsFile told name file.items)

-- a claim whose file was read, over these files
abbrev pub IsRead : {B : Type 0} → Option Files → Claim B → Type 0
IsRead told claim = HasCome told claim.name.now claim.came

-- the file of a claim's name
abbrev pub IsFileOf : {A B : Type 0} → Option Files → Claim B → Vec ℕ A → Type 0
IsFileOf told claim file = IsFile told claim.name.now file.items

-- the file came by the claim
abbrev pub Brings : {B : Type 0} → Claim B → Vec ℕ Global → Type 0
Brings claim file = claim.came ≡ Some (Ok file)

-- ---- how many claims are out: given, and not taken back

-- so many more
abbrev pub more : ℕ → Option ℕ → Option ℕ
more n = option_map (λ k. k + n)

-- so many fewer
abbrev pub fewer : ℕ → Option ℕ → Option ℕ
fewer n = option_map (λ k. k - n)
