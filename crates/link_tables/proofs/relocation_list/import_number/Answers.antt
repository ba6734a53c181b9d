use Rattle.std.proofs.Common.{◌∙◌, ℕ, List, Option, Bor, ap, unwrap_or}
use Rattle.std.specs.List.{position_from}
use Rattle.std.specs.Str.{bytes_eq}
use Rattle.std.proofs.lemmas.Iterator.Adapters.{position_from-zero}
use Rattle.link_needs.specs.Linking.{Linking}
use Rattle.link_tables.specs.Dynamic.{imports}
use Rattle.link_tables.proofs.RelocationListLemmas.{found_lent}
use Rattle.link_tables.proofs.relocation_list.import_number.Goals as goal

pub returns-clause-number : goal.returns-clause-number
returns-clause-number c =
    let name = c.args.name.now in
    let lent = c.tables.inside.imports.keys in
    let found = λ (names : List (List ℕ)). position_from (bytes_eq name) 0 names in
    c.unwrap_or.ensures
    ∙ ap (λ (at : Option ℕ). unwrap_or at 0)
    (c.get_index_of.ensures.index
    ∙ position_from-zero (λ (other : Bor (List ℕ)). bytes_eq name other.now) lent
    ∙ found_lent name 0 lent
    ∙ ap found c.tables.invariant.imports_are
    ∙ ap (λ (l : Linking). found (imports l)) c.tables.view_is)
