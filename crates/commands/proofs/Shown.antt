-- What an output shows.
use Rattle.std.proofs.Common.{ℕ, List, Option, Some, None, IfSome, Result, Ok, Err, inl, inr}
use Rattle.command_line.specs.declared.tasks.Command.{Command}
use Rattle.command_replies.specs.Delivery.{Delivered}
use Rattle.command_replies.specs.Replies.{IsOwn}
use Rattle.command_replies.specs.declared.fault.CommandFault.{CommandFault}
use Rattle.command_replies.specs.declared.fault.CommandFault.TheVariants as fault
use Rattle.command_replies.specs.Faults.{StoreCounts}
use Rattle.command_replies.specs.Steps.{Comes}
use Rattle.ports.specs.Files.{Files}
use Rattle.ports.specs.Sinks.{SinkView}
use Rattle.commands.specs.Replies.{MaySay}
use Rattle.commands.specs.Commands.{CommandSays}
use Rattle.commands.specs.Untold.{UntoldSays}
use Rattle.commands.proofs.Saying.{Text, items}

-- what may say more says as much
delivered_weaker : (P Q : ℕ → List ℕ → Type 0) (old new : SinkView) (code : ℕ)
    → ((own : ℕ) (text : List ℕ) → P own text → Q own text) → Delivered P old new code → Delivered Q old new code
delivered_weaker P Q old new code more (inl line) = inl line
delivered_weaker P Q old new code more (inr (own, (text, (may, delivers)))) =
    inr (own, (text, (more own text may, delivers)))

output_may : (files after : Option Files) (command : Command) (r : Result Text CommandFault) (before now own : ℕ)
    (text : List ℕ) → StoreCounts before now r
    → IfSome files (λ fs. Comes items (CommandSays fs after command) r) → Comes items (UntoldSays command) r
    → IsOwn items r own text
    → MaySay files after command own text
output_may None after command (Ok x) before now own text counts says may is = inr (rw (is.0, is.1) may)
output_may (Some fs) after command (Ok x) before now own text counts says may is = inr (rw (is.0, is.1) says)
output_may None after command (Err fault.Store) before now own text counts says may is = inl is
output_may (Some fs) after command (Err fault.Store) before now own text counts says may is = inl is
output_may files after command (Err fault.OutOfMemory) before now own text counts says may is = absurd is
output_may None after command (Err (fault.Refused reply)) before now own text counts says may is =
    inr (rw (is.0, is.1) may)
output_may (Some fs) after command (Err (fault.Refused reply)) before now own text counts says may is =
    inr (rw (is.0, is.1) says)

pub output_shows : (files after : Option Files) (command : Command) (r : Result Text CommandFault) (before now : ℕ)
    (old new : SinkView) (code : ℕ) → StoreCounts before now r
    → IfSome files (λ fs. Comes items (CommandSays fs after command) r) → Comes items (UntoldSays command) r
    → Delivered (IsOwn items r) old new code
    → Delivered (MaySay files after command) old new code
output_shows files after command r before now old new code counts says may delivered =
    delivered_weaker (IsOwn items r) (MaySay files after command) old new code
    (λ own text is. output_may files after command r before now own text counts says may is) delivered
