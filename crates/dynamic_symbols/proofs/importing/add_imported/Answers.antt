use Rattle.std.proofs.Common.{◌≡◌, ◌∙◌, ◌+◌, drop, map, refl, sym, ap}
use Rattle.std.specs.Prelude.{slice_index_or}
use Rattle.std.specs.List.{flat_map}
use Rattle.elf_object.specs.Lent.{symbol_name}
use Rattle.sequence_forms.specs.declared.forms.Form.TheVariants.{Gd}
use Rattle.sequence_forms.specs.declared.places.Site.{Site}
use Rattle.tls_symbols.specs.Bindings.{bound_to, may_import, object_at}
use Rattle.dynamic_symbols.specs.Names.{imported_at, imported_in, is_import, is_startup}
use Rattle.dynamic_symbols.specs.Found.{with_name, with_names}
use Rattle.dynamic_symbols.proofs.Adding.{imports_none, imports_one, inserted, walk_none, walk_one}
use Rattle.sequence_match.proofs.OwnSites.{drop_at}
use Rattle.dynamic_symbols.proofs.importing.add_imported.Goals as goal
use Rattle.dynamic_symbols.proofs.importing.add_imported.Goals.{then-is_startup+in_ok-insert, else-is_startup}

pub loop-site-init : goal.loop-site-init
unfolding imported_in
loop-site-init c = refl

pub loop-site-preserved : goal.loop-site-preserved
loop-site-preserved c =
    let objects = c.args.bindings.now.objects in
    let startup = c.args.bindings.now.startup in
    let o = c.args.index in
    let sites = c.args.sites.now in
    let i = c.loop-site.site-index in
    let none : Site = record { section = 0; start = 0; len = 0; form = Gd; symbol = 0; reg = 0 } in
    let site = slice_index_or sites i none in
    let here = drop_at sites i none c.loop-site-test.true in
    let seen = map (λ name. name.now) c.loop-site.names.keys in
    let rest = flat_map (imported_at objects startup o) (drop (i + 1) sites) in
    let name = symbol_name (object_at objects o) site.symbol in
    let asked : c.is_startup.result ≡ is_import objects startup o site =
    c.is_startup.ensures
    ∙ ap (λ t. is_startup (bound_to objects startup o site.symbol t))
    (c.imports_of-imports.ensures ∙ ap may_import c.row.ensures.first_is) in
    elim c.if-is_startup.branch [
      | then-is_startup+in_ok-insert w ↦
          ap (λ s. with_names (map (λ n. n.now) s.keys) rest) w.names-is
          ∙ ap (λ ks. with_names (map (λ n. n.now) ks) rest) w.in_ok-insert.ensures.keys
          ∙ ap (λ ns. with_names ns rest) (inserted c.loop-site.names.keys w.symbol_name.result)
          ∙ ap (λ n. with_names (with_name seen n) rest)
          (w.symbol_name.ensures.name ∙ ap (λ b. symbol_name b site.symbol) c.requires.here)
          ∙ walk_one (imported_at objects startup o) seen site sites i here name
          (imports_one objects startup o site (sym asked ∙ w.if-is_startup.true))
          ∙ c.loop-site.invariant
      | else-is_startup w ↦
          ap (λ s. with_names (map (λ n. n.now) s.keys) rest) w.names-is
          ∙ walk_none (imported_at objects startup o) seen site sites i here
          (imports_none objects startup o site (sym asked ∙ w.if-is_startup.false))
          ∙ c.loop-site.invariant
    ]
