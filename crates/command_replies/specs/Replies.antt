-- How a command's output, or its refusal, relates to the number that the program ends with, and to its text.
use Rattle.std.specs.Prelude.{◌≡◌, ℕ, ◌⊎◌, List, Result, Ok, Err}
use Rattle.command_replies.specs.declared.fault.CommandFault.{CommandFault}
use Rattle.command_replies.specs.declared.fault.CommandFault.TheVariants as fault
use Rattle.command_replies.specs.Delivery.{store_line}
use Rattle.command_replies.specs.Statuses.{code_of, IsLate}

-- the number that the program ends with is the command's own, or one for a text that did not get through
abbrev pub IsDelivered : {T : Type 0} → Result T CommandFault → ℕ → Type 0
IsDelivered (Ok output) code = (code ≡ 0) ⊎ IsLate code
IsDelivered (Err fault.Store) code = (code ≡ 3) ⊎ IsLate code
IsDelivered (Err fault.OutOfMemory) code = IsLate code
IsDelivered (Err (fault.Refused reply)) code = (code ≡ code_of reply.status) ⊎ IsLate code

-- the command's own status and text
abbrev pub IsOwn : {T : Type 0} → (T → List ℕ) → Result T CommandFault → ℕ → List ℕ → Type 0
IsOwn text_of (Ok output) own text = (own ≡ 0) × (text ≡ text_of output)
IsOwn text_of (Err fault.Store) own text = (own ≡ 3) × (text ≡ store_line)
IsOwn text_of (Err fault.OutOfMemory) own text = ⊥
IsOwn text_of (Err (fault.Refused reply)) own text = (own ≡ code_of reply.status) × (text ≡ reply.text.items)
