use Rattle.std.proofs.Common.{◌≡◌, ◌++◌, take}
use Rattle.std.specs.List.{flat_map}
use Rattle.image_text.specs.Shown.{relocation_line}
use Rattle.image_text.proofs.shown.push_relocations.Given as goal

-- the lines of the relocations so far
abbrev pub invariant-loop-number : goal.invariant-loop-number
invariant-loop-number l =
    l.text.items ≡ l.initial.text.items ++ flat_map relocation_line (take l.number l.image.relocations)
