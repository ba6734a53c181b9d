use Rattle.std.proofs.Common.{◌≡◌, ◌∙◌, ℕ, List, length, Some, ap, subst}
use Rattle.std.specs.Prelude.{slice_get}
use Rattle.job_text.specs.Numbering.{at_number}
use Rattle.link_needs.specs.Linking.{Linking}
use Rattle.meant_images.specs.Images.{AreTables}
use Rattle.meant_images.specs.declared.images.Tables.{Tables}
use Rattle.meant_images.proofs.Known.{table_is, table_there}
use Rattle.meant_images.proofs.images.MeantImages.tables.Goals as goal

pub returns-clause-there : goal.returns-clause-there
returns-clause-there c = λ l at.
    table_there c.args.self.now c.self.inside.tables.items c.args.number l c.at_number.result
    (c.self.invariant.count ∙ ap (λ (ls : List Linking). length ls) c.self.view_is) at
    (c.at_number.ensures ∙ ap (λ (ts : List Tables). at_number ts c.args.number) c.as_slice.ensures.value)

pub returns-clause-each : goal.returns-clause-each
returns-clause-each c = λ l at.
    let ls = c.args.self.now in
    let tables = c.self.inside.tables.items in
    let each = subst
    (λ (ls : List Linking). (i : ℕ) (l : Linking) (t : Tables) → slice_get ls i ≡ Some l → slice_get tables i ≡ Some t
    → AreTables ls l t)
    c.self.view_is c.self.invariant.each in
    table_is ls tables c.args.number l c.at_number.result each at
    (c.at_number.ensures ∙ ap (λ (ts : List Tables). at_number ts c.args.number) c.as_slice.ensures.value)
