use Rattle.std.proofs.Common.{◌≡◌, ◌<◌, ◌∙◌, ◌+◌, ℕ, List, [], drop, length, map, sym, ap, subst, arith}
use Rattle.std.specs.Global.{Vec}
use Rattle.std.specs.Prelude.{slice_index_or}
use Rattle.sequence_forms.specs.declared.places.Site.{Site}
use Rattle.tls_symbols.specs.Bindings.{object_at}
use Rattle.dynamic_symbols.specs.Names.{distinct, imported_in, imports}
use Rattle.dynamic_symbols.specs.Found.{with_names}
use Rattle.sequence_match.specs.Sites.{HaveSymbols}
use Rattle.dynamic_symbols.proofs.Adding.{added, ended_from, object_is, walk_from}
use Rattle.dynamic_symbols.proofs.Unasked.{nothing_imported}
use Rattle.sequence_match.proofs.OwnSites.{own_sites, drop_here}
use Rattle.dynamic_symbols.proofs.importing.imports.Goals as goal
use Rattle.dynamic_symbols.proofs.importing.imports.Goals.{then-may_import+in_ok-add_imported, else-may_import}
use Rattle.tls_symbols.specs.Definitions.{flat_map_from}

-- the symbols of an object's sites are its own
own_symbols : (objects : List (List ℕ)) (sites : List (Vec Site)) (i : ℕ) (b : List ℕ) (own : Vec Site)
    → ((o : ℕ) → o < length objects
    → HaveSymbols (object_at objects o) (slice_index_or (map (λ v. v.items) sites) o []))
    → length sites ≡ length objects → b ≡ slice_index_or objects i b → own ≡ slice_index_or sites i own
    → i < length sites
    → HaveSymbols b own.items
own_symbols objects sites i b own symbols each b_is own_is there =
    let below : i < length objects = omega (arith, there, each) in
    subst (λ x. HaveSymbols x own.items) (object_is objects i b b_is below)
    (subst (HaveSymbols (object_at objects i)) (own_sites sites i own own_is there) (symbols i below))

pub add_imported-requires-clause-symbols : goal.add_imported-requires-clause-symbols
add_imported-requires-clause-symbols c =
    subst (HaveSymbols c.index-objects-index.result) (sym c.deref.ensures.value)
    (own_symbols c.args.objects.now c.args.sites.now c.loop-index.index c.index-objects-index.result c.index-sites-index.result
    c.requires.symbols c.requires.each c.index-objects-index.is c.index-sites-index.is c.loop-index-test.true)

pub loop-index-preserved : goal.loop-index-preserved
loop-index-preserved c =
    let objects = c.args.bindings.now.objects in
    let startup = c.args.bindings.now.startup in
    let sites = c.args.sites.now in
    let i = c.loop-index.index in
    let own = c.index-sites-index.result in
    let b = c.index-objects-index.result in
    let seen = map (λ name. name.now) c.loop-index.names.keys in
    let rest = flat_map_from (imported_in objects startup) (i + 1) (map (λ v. v.items) (drop (i + 1) sites)) in
    let symbols =
    own_symbols c.args.objects.now sites i b own c.requires.symbols c.requires.each c.index-objects-index.is c.index-sites-index.is c.loop-index-test.true in
    let each : map (λ name. name.now) c.if-may_import.names.keys
    ≡ with_names seen (imported_in objects startup i own.items) =
    elim c.if-may_import.branch [
      | then-may_import+in_ok-add_imported w ↦
          ap (λ s. map (λ name. name.now) s.keys) w.names-is ∙ w.in_ok-add_imported.ensures
          ∙ ap (λ ys. with_names seen (imported_in objects startup i ys)) w.deref.ensures.value
      | else-may_import w ↦
          ap (λ s. map (λ name. name.now) s.keys) w.names-is
          ∙ ap (with_names seen) (sym
          (nothing_imported objects startup i b (sym c.may_import.ensures ∙ w.if-may_import.false) own.items symbols))
    ] in
    ap (λ ns. with_names ns rest) each
    ∙ walk_from objects startup seen sites i own (drop_here sites i own c.index-sites-index.is c.loop-index-test.true)
    ∙ c.loop-index.invariant

pub returns : goal.returns
unfolding imports
returns c =
    let objects = c.args.bindings.now.objects in
    let startup = c.args.bindings.now.startup in
    let sites = c.args.sites.now in
    let listed = map (λ own. own.items) sites in
    ended_from objects startup
    (map (λ name. name.now) c.loop-index.names.keys) sites c.loop-index.index c.loop-index-test.false
    ∙ c.loop-index.invariant
    ∙ added (flat_map_from (imported_in objects startup) 0 listed)
    ∙ ap (λ os. distinct (flat_map_from (imported_in os startup) 0 listed)) (sym c.requires.objects)
