use Rattle.std.proofs.Common.{◌<◌, length, arith, sym, subst}
use Rattle.generated_job.specs.Drafts.{shape_held}
use Rattle.generated_job.proofs.Parts.{few_names, few_symbols, sections_known}
use Rattle.generated_job.proofs.shape.ObjectShape.sections.Goals as goal

pub overflow_add-section_names_at : goal.overflow_add-section_names_at
overflow_add-section_names_at c =
    let names : length c.args.names.now < 600 =
    subst (λ z. length z < 600) (sym c.requires.names) (few_names (shape_held c.args.self.now) c.requires.short) in
    let symbols : length c.args.symbols.now < 5 =
    subst (λ z. length z < 5) (sym c.requires.symbols) (few_symbols (shape_held c.args.self.now)) in
    omega (arith, names, symbols, c.requires.short.code, c.requires.short.initial)

pub overflow_add-relocations_at : goal.overflow_add-relocations_at
overflow_add-relocations_at c =
    let names : length c.args.names.now < 600 =
    subst (λ z. length z < 600) (sym c.requires.names) (few_names (shape_held c.args.self.now) c.requires.short) in
    let symbols : length c.args.symbols.now < 5 =
    subst (λ z. length z < 5) (sym c.requires.symbols) (few_symbols (shape_held c.args.self.now)) in
    omega (arith, names, symbols, c.requires.short.code, c.requires.short.initial)

pub returns : goal.returns
returns c =
    sections_known (shape_held c.args.self.now) c.args.symbols.now c.args.names.now c.zeros_alignment.result _ _ _ _ _ _ _ _
    c.requires.symbols c.requires.names c.zeros_alignment.ensures
    c.section_of.ensures c.section_of-2.ensures c.table_of.ensures c.section_of-3.ensures c.section_of-4.ensures
    c.table_of-2.ensures c.section_of-5.ensures c.section_of-6.ensures
