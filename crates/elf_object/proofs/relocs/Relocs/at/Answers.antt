use Rattle.std.proofs.Common.{◌-◌, ◌∙◌, Some, sym, ap, arith}
use Rattle.std.specs.List.{slice_get}
use Rattle.elf_object.proofs.Lists.{nth_inside, relocations_nth}
use Rattle.elf_object.proofs.relocs.Relocs.at.Goals as goal

pub overflow_add-self-inside : goal.overflow_add-self-inside
overflow_add-self-inside c =
    let r = c.self.inside in
    let inside = nth_inside r.bytes.now r.at r.next r.end c.args.index c.args.self.now c.self.view_is c.requires in
    omega (arith, inside, c.self.invariant, c.self.told.0)

pub overflow_mul-self-inside : goal.overflow_mul-self-inside
overflow_mul-self-inside c =
    let r = c.self.inside in
    let inside = nth_inside r.bytes.now r.at r.next r.end c.args.index c.args.self.now c.self.view_is c.requires in
    omega (arith, inside, c.self.invariant, c.self.told.0)

pub overflow_add-self-inside-2 : goal.overflow_add-self-inside-2
overflow_add-self-inside-2 c =
    let r = c.self.inside in
    let inside = nth_inside r.bytes.now r.at r.next r.end c.args.index c.args.self.now c.self.view_is c.requires in
    omega (arith, inside, c.self.invariant, c.self.told.0)

pub relocation_at-requires : goal.relocation_at-requires
relocation_at-requires c =
    let r = c.self.inside in
    let inside = nth_inside r.bytes.now r.at r.next r.end c.args.index c.args.self.now c.self.view_is c.requires in
    omega (arith, inside, c.self.invariant)

pub returns : goal.returns
returns c =
    let r = c.self.inside in
    let inside = nth_inside r.bytes.now r.at r.next r.end c.args.index c.args.self.now c.self.view_is c.requires in
    ap (λ left. slice_get left c.args.index) (sym c.self.view_is)
    ∙ relocations_nth r.bytes.now r.at r.next (r.end - r.next) c.args.index (omega (arith, inside))
    ∙ ap Some (sym c.relocation_at.ensures)
