use Rattle.std.proofs.Common.{◌≡◌, ◌++◌, map}
use Rattle.std.specs.List.{range_with_len}
use Rattle.tls_layout.specs.Sections.{section_of}
use Rattle.tls_layout.proofs.section_list.push_sections.Given as goal

abbrev pub invariant-loop-number : goal.invariant-loop-number
invariant-loop-number l =
    l.sections.items ≡ l.initial.sections.items ++ map (section_of l.object) (range_with_len 0 l.number)
