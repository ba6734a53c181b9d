use Rattle.std.proofs.Common.{◌≡◌, map, take}
use Rattle.link_tables.specs.Dynamic.{relative_of}
use Rattle.link_tables.proofs.relocation_list.relatives.Given as goal

abbrev pub invariant-loop-field : goal.invariant-loop-field
invariant-loop-field l = l.all.items ≡ map (relative_of l.plan) (take l.field-index l.field-items)
