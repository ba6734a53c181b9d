-- What is known so far.
use Rattle.std.proofs.Common.{◌≡◌, All, map, take}
use Rattle.module_table.specs.Modules.{IsInfo}
use Rattle.whole_meaning.specs.Loads.{info_of}
use Rattle.meant_images.proofs.images.infos_of.Given as goal

abbrev pub invariant-loop-own : goal.invariant-loop-own
invariant-loop-own l = (l.infos.items ≡ map info_of (take l.own-index l.inputs)) × All IsInfo l.infos.items
