use Rattle.std.proofs.Common.{◌≡◌, fold, length}
use Rattle.std.specs.List.{All, Contains}
use Rattle.elf_object.specs.Lent.{relocations}
use Rattle.link_core.specs.Bytes.{with_field}
use Rattle.link_needs.specs.Linking.{object}
use Rattle.link_core.proofs.sections.write_fields.Given as goal

-- the relocations that are left, over what was written so far, write what all do
abbrev pub invariant-loop-relocation : goal.invariant-loop-relocation
invariant-loop-relocation l =
    (goal.iterator-loop-relocation).can_next l.relocation-iterator ×
    (goal.iterator-loop-relocation).is_finite l.relocation-iterator ×
    (fold (with_field l.plan l.own.object l.own.section) l.bytes l.relocation-iterator
    ≡ fold (with_field l.plan l.own.object l.own.section) l.fn.bytes
    (relocations (object l.plan l.own.object) l.own.section)) ×
    (length l.bytes ≡ length l.fn.bytes) ×
    All (Contains (relocations (object l.plan l.own.object) l.own.section)) l.relocation-iterator
