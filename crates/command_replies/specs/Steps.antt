-- The steps of a command: the result of each, and which names it asks for.
use Rattle.std.specs.Prelude.{◌≡◌, ℕ, List, Option, Some, None, Result, Ok, Err}
use Rattle.job_text.specs.declared.fault.JobFault.{JobFault}
use Rattle.job_text.specs.declared.fault.JobFault.TheVariants.{At}
use Rattle.job_text.specs.declared.fault.JobFaultKind.TheVariants.{Name}
use Rattle.job_text.specs.Jobs.{JobParts}
use Rattle.command_replies.specs.declared.fault.CommandFault.{CommandFault}
use Rattle.command_replies.specs.declared.fault.CommandFault.TheVariants as fault
use Rattle.command_replies.specs.Says.{JobFaultSays}
use Rattle.command_replies.specs.Statuses.{code_of}
pub use Rattle.ports.specs.Files.{AsksFront, with_names}

-- a step's result is as `says` has it, or the store fails, or memory runs out
abbrev pub Comes : {T : Type 0} → (T → List ℕ) → (ℕ → List ℕ → Type 0) → Result T CommandFault → Type 0
Comes text_of Says (Ok text) = Says 0 (text_of text)
Comes text_of Says (Err fault.Store) = Unit {0}
Comes text_of Says (Err fault.OutOfMemory) = Unit {0}
Comes text_of Says (Err (fault.Refused reply)) = Says (code_of reply.status) reply.text.items

-- ---- the names asked for

-- all of them, if the step got to its own result
abbrev pub Asks : {T : Type 0} → List (List ℕ) → Option (List (List ℕ)) → Option (List (List ℕ))
    → Result T CommandFault → Type 0
Asks names old new (Ok x) = new ≡ with_names names old
Asks names old new (Err fault.Store) = AsksFront names old new
Asks names old new (Err fault.OutOfMemory) = AsksFront names old new
Asks names old new (Err (fault.Refused reply)) = new ≡ with_names names old

-- ---- refusals

-- why there is no job
abbrev pub IsNoJob : Result JobParts JobFault → CommandFault → Type 0
IsNoJob (Ok job) f = f ≡ fault.OutOfMemory
IsNoJob (Err told) fault.Store = ⊥
IsNoJob (Err told) fault.OutOfMemory = Unit {0}
IsNoJob (Err told) (fault.Refused reply) = JobFaultSays told (code_of reply.status) reply.text.items

-- the job has no image of the name
abbrev pub IsNoImage : Option ℕ → JobFault → Type 0
IsNoImage (Some number) told = ⊥
IsNoImage None told = told ≡ At 0 Name
