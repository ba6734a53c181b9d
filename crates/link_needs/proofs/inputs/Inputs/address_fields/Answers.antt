use Rattle.std.proofs.Common.{◌<◌, ◌∙◌, List, ap, append-nil, filter, rules, subst, sym}
use Rattle.std.specs.List.{All}
use Rattle.std.proofs.lemmas.List.Sorted.{All-permutation}
use Rattle.elf_object.specs.declared.relocation.Relocation.{Relocation}
use Rattle.elf_object.specs.Lawful.{IsLawful}
use Rattle.elf_object.specs.Lent.{relocations}
use Rattle.elf_object.specs.Parts.{symbol_count}
use Rattle.tls_symbols.specs.Bindings.{object_at}
use Rattle.link_needs.specs.Needs.{is_address_kind, sorted_by}
use Rattle.link_needs.proofs.NeedsLemmas.{fields_symbols}
use Rattle.link_needs.proofs.SortingLaws.{sorted_by_key}
use Rattle.link_needs.proofs.inputs.Inputs.address_fields.Goals as goal

pub returns-clause-fields : goal.returns-clause-fields
returns-clause-fields c =
    let kept = c.loop-relocation.invariant in
    let found = c.loop-relocation.fields.items in
    let among : List Relocation → List Relocation = filter (λ (r : Relocation). is_address_kind r.kind) in
    sorted_by_key (λ (r : Relocation). r.offset) found c.sort_by_key.new.self.items
    c.in_ok-sort_by_key.ensures.sorted c.sort_by_key.ensures.stable (λ a r q k. search rules)
    ∙ ap (sorted_by (λ (r : Relocation). r.offset)) (rw (c.in-None.ensures.steps.0, append-nil found) at kept.2)

pub returns-clause-symbols : goal.returns-clause-symbols
returns-clause-symbols c =
    let b = object_at c.args.self.now.objects c.args.object in
    let t = c.args.section in
    let kept = c.loop-relocation.invariant in
    let found = c.loop-relocation.fields.items in
    let lawful = subst (λ rs. All (IsLawful c.object.result.now t) rs) c.relocs-relocation-items.ensures.relocations
    c.relocs-relocation-items.ensures.lawful in
    All-permutation (λ (r : Relocation). r.symbol < symbol_count b) found c.sort_by_key.new.self.items
    c.sort_by_key.ensures.permutation
    (subst (All (λ (r : Relocation). r.symbol < symbol_count b))
    (sym (rw (c.in-None.ensures.steps.0, append-nil found) at kept.2))
    (fields_symbols b t (relocations b t)
    (subst (λ b. All (IsLawful b t) (relocations b t)) c.object.ensures lawful)))
