use Rattle.std.proofs.Common.{◌≡◌, map, take}
use Rattle.image_writer.specs.Outlined.{place_of}
use Rattle.image_writer.proofs.written.places_of.Given as goal

abbrev pub invariant-loop-number : goal.invariant-loop-number
invariant-loop-number l = l.places.items ≡ map place_of (take l.number l.image.parts)
