use Rattle.std.proofs.Common.{◌≡◌, ◌∙◌, ◌+◌, drop, sym, ap, subst}
use Rattle.std.specs.List.{All, filter_map, flat_map}
use Rattle.tls_symbols.specs.Definitions.{definition_of, IsWithin}
use Rattle.dynamic_symbols.specs.Found.{names_of, with_names}
use Rattle.dynamic_symbols.specs.Names.{defined_in, defined_names, defined_symbols}
use Rattle.dynamic_symbols.proofs.Adding.{added, ended, walk}
use Rattle.dynamic_symbols.proofs.Named.{symbols_shared}
use Rattle.sequence_match.proofs.OwnSites.{drop_here}
use Rattle.dynamic_symbols.proofs.defining.defined_symbols.Goals as goal

pub loop-index-preserved : goal.loop-index-preserved
loop-index-preserved c =
    let objects = c.args.objects.now in
    let i = c.loop-index.index in
    let b = c.index-objects-index.result in
    let seen = names_of c.loop-index.found in (
      ap (λ ns. with_names ns (flat_map defined_in (drop (i + 1) objects))) c.in_ok-add_defined.ensures.names
          ∙ walk defined_in seen b objects i (drop_here objects i b c.index-objects-index.is c.loop-index-test.true)
          ∙ c.loop-index.invariant.0,
      c.in_ok-add_defined.ensures.bound,
    )

pub returns-clause-symbols : goal.returns-clause-symbols
unfolding defined_names defined_symbols
returns-clause-symbols c =
    let objects = c.args.objects.now in
    let names : names_of c.loop-index.found ≡ defined_names objects =
    ended defined_in (names_of c.loop-index.found) objects c.loop-index.index c.loop-index-test.false
    ∙ c.loop-index.invariant.0
    ∙ added (flat_map defined_in objects) in
    c.loop-index.invariant.1
    ∙ ap (filter_map (definition_of c.args.bindings.now.objects)) names
    ∙ ap (λ os. filter_map (definition_of os) (defined_names objects)) (sym c.requires)

pub returns-clause-within : goal.returns-clause-within
returns-clause-within c =
    let objects = c.args.objects.now in
    subst (All (IsWithin objects)) (sym (returns-clause-symbols c)) (λ k d h. (symbols_shared objects k d h).within)
