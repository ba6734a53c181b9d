-- Why a command gives no output, and how that relates to the store.
use Rattle.std.specs.Prelude.{◌≡◌, ◌≤◌, ℕ, Result, Ok, Err}
use Rattle.ports.specs.Counts.{Counted}
use Rattle.command_replies.specs.declared.fault.CommandFault.{CommandFault}
use Rattle.command_replies.specs.declared.fault.CommandFault.TheVariants as fault
use Rattle.command_replies.specs.Statuses.{code_of}

-- the store's count of faults rose if the command gave up because of the store, and only then; a refusal has a status
-- of its own
abbrev pub StoreCounts : {T : Type 0} → ℕ → ℕ → Result T CommandFault → Type 0
StoreCounts before now (Ok x) = now ≡ before
StoreCounts before now (Err fault.Store) = Counted before now
StoreCounts before now (Err fault.OutOfMemory) = now ≡ before
StoreCounts before now (Err (fault.Refused reply)) = (now ≡ before) × (5 ≤ code_of reply.status)

-- the command did not give up because of the store; a refusal has a status of its own
abbrev pub IsNoStoreFault : CommandFault → Type 0
IsNoStoreFault fault.Store = ⊥
IsNoStoreFault fault.OutOfMemory = Unit {0}
IsNoStoreFault (fault.Refused reply) = 5 ≤ code_of reply.status

abbrev pub NoStoreFault : {T : Type 0} → Result T CommandFault → Type 0
NoStoreFault (Ok x) = Unit {0}
NoStoreFault (Err f) = IsNoStoreFault f

-- the file could not be fetched; nothing is refused yet
abbrev pub IsFetchFault : CommandFault → Type 0
IsFetchFault fault.Store = Unit {0}
IsFetchFault fault.OutOfMemory = Unit {0}
IsFetchFault (fault.Refused reply) = ⊥
