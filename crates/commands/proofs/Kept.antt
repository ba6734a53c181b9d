-- Which files a command leaves.
use Rattle.std.proofs.Common.{◌≡◌, ℕ, List, inl, inr, IfSome, Option, Some, None, OnErr, Result, Ok, Err}
use Rattle.command_replies.specs.declared.fault.CommandFault.{CommandFault}
use Rattle.command_replies.specs.Replies.{IsDelivered}
use Rattle.command_replies.specs.Statuses.{FilesShown}
use Rattle.command_replies.specs.Steps.{Comes}
use Rattle.ports.specs.Files.{Files}
use Rattle.commands.specs.Links.{FilesAfter, Leaves}
use Rattle.commands.proofs.Saying.{Said, Text, items}

-- one that leaves them as they were keeps them, whatever it answers
pub keeps_same : {T : Type 0} (before after : Option Files) (r : Result T CommandFault) → after ≡ before
    → OnErr r (after ≡ before)
keeps_same before after (Ok x) same = tt
keeps_same before after (Err f) same = same

-- and so does one that gives up
pub gives_up : (out : Option (List ℕ)) (before after : Option Files) (f : CommandFault) → after ≡ before
    → FilesAfter {T = Text} out before after (Err f)
gives_up None before after f same = same
gives_up (Some out) before after f same = same

-- what an output keeps, the number shows
pub output_kept : {T : Type 0} (before after : Option Files) (r : Result T CommandFault) (code : ℕ)
    → OnErr r (after ≡ before) → IsDelivered r code → FilesShown before after code
output_kept before after (Ok x) code same delivered = inl delivered
output_kept before after (Err f) code same delivered = inr same

-- ** one that puts a file

module _ (out : List ℕ) (after : Option Files) where
  pub put_keeps : (before : Option Files) (r : Result Text CommandFault) → FilesAfter (Some out) before after r
      → OnErr r (after ≡ before)
  put_keeps before (Ok text) put = tt
  put_keeps before (Err f) same = same

  pub put_leaves : (Says : Files → Said) (before : Option Files) (r : Result Text CommandFault)
      → FilesAfter (Some out) before after r → IfSome before (λ fs. Comes items (Says fs) r)
      → Leaves before after Says
  put_leaves Says None (Ok text) put says = put.1
  put_leaves Says None (Err f) same says = same
  put_leaves Says (Some fs) (Ok text) put says = inr (text.items, says)
  put_leaves Says (Some fs) (Err f) same says = inl same
