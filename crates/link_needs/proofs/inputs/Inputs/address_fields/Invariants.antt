use Rattle.std.proofs.Common.{◌≡◌, ◌++◌, filter}
use Rattle.elf_object.specs.declared.relocation.Relocation.{Relocation}
use Rattle.elf_object.specs.Lent.{relocations}
use Rattle.tls_symbols.specs.Bindings.{object_at}
use Rattle.link_needs.specs.Needs.{is_address_kind}
use Rattle.link_needs.specs.NeedLaws.{fields_among, section_absolutes}
use Rattle.link_needs.proofs.inputs.Inputs.address_fields.Given as goal

-- those that are found and those among the relocations that are left are all
abbrev pub invariant-loop-relocation : goal.invariant-loop-relocation
invariant-loop-relocation l =
    (goal.iterator-loop-relocation).can_next l.relocation-iterator ×
    (goal.iterator-loop-relocation).is_finite l.relocation-iterator ×
    (l.fields.items ++ filter (λ (r : Relocation). is_address_kind r.kind) l.relocation-iterator
    ≡ filter (λ (r : Relocation). is_address_kind r.kind) (relocations (object_at l.self.objects l.object) l.section)) ×
    (l.absolutes.items ++ fields_among l.self l.object l.section l.relocation-iterator
    ≡ l.fn.absolutes.items ++ section_absolutes l.self l.object (object_at l.self.objects l.object) l.section)
