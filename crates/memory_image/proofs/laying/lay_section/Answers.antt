use Rattle.std.proofs.Common.{rules, ◌≡◌, ◌∙◌, ◌++◌, ◌-◌, false, length, sym, ap, replicate}
use Rattle.elf_object.specs.Lent.{section_class}
use Rattle.link_needs.specs.Linking.{layout, object}
use Rattle.tls_layout.specs.declared.extent.Extent.{Extent}
use Rattle.tls_layout.specs.Places.{extent_for}
use Rattle.tls_layout.specs.Sections.{is_class}
use Rattle.whole_meaning.specs.Spots.{begin_of}
use Rattle.memory_image.specs.Laying.{IsOfClass, section_cells}
use Rattle.memory_image.proofs.Laid.{section_laid, section_skipped}
use Rattle.memory_image.proofs.laying.lay_section.Goals as goal
use Rattle.placed_sections.proofs.Rising.{class_is}

pub returns-then-not-is_class : goal.returns-then-not-is_class
returns-then-not-is_class g c =
    let l = c.args.inputs.now in
    let s = c.args.section in
    let cells = c.args.cells.now in
    let known = c.in-Some.ensures.part.class_is ∙ ap (λ b. section_class b s) c.object.ensures in
    let no : c.is_class.result ≡ false = search rules in
    c.requires.before
    ∙ section_skipped (g.C.Cells.cell cells) l c.args.class
    (g.C.Cells.gap_cell cells) c.args.number s c.requires.object c.requires.section
    (sym (ap (is_class c.args.class) known) ∙ sym c.is_class.ensures ∙ no)

pub returns : goal.returns
returns g c =
    let l = c.args.inputs.now in
    let o = c.args.number in
    let s = c.args.section in
    let class = c.args.class in
    let cells = c.args.cells.now in
    let t = c.args.table.now.items in
    let known = c.in-Some.ensures.part.class_is ∙ ap (λ b. section_class b s) c.object.ensures in
    let so = sym (ap (is_class class) known) ∙ sym c.is_class.ensures ∙ c.if-not-is_class.false in
    let is : IsOfClass l class o s = record {
      object_there = c.requires.object;
      section_there = c.requires.section;
      class_is = class_is class (section_class (object l o) s) so;
    } in
    let start = ap (λ (x : Extent). x.start) c.class_extent-start.ensures.extent in
    let from : c.saturating_sub.result ≡ begin_of (layout l) o s - (extent_for class (layout l)).start = cc in
    section_laid (g.C.Cells.cell cells) l class
    (g.C.Cells.gap_cell cells) o s t c.pad.new.table.items c.push_section.new.table.items
    c.requires.range is c.requires.before
    (c.in_ok-pad.ensures ∙ ap (λ n. t ++ replicate (n - length t) (g.C.Cells.gap_cell cells)) from)
    (c.in_ok-push_section.ensures
    ∙ ap (λ m. c.pad.new.table.items ++ section_cells (g.C.Cells.cell cells) m o s) c.requires.linking)
