use Rattle.std.proofs.Common.{◌≡◌, ◌++◌, take}
use Rattle.std.specs.List.{flat_map}
use Rattle.image_text.specs.Shown.{part_line}
use Rattle.image_text.proofs.shown.push_parts.Given as goal

-- the lines of the parts so far
abbrev pub invariant-loop-number : goal.invariant-loop-number
invariant-loop-number l = l.text.items ≡ l.initial.text.items ++ flat_map part_line (take l.number l.image.parts)
