use Rattle.std.proofs.Common.{◌≡◌, ◌∙◌, ◌+◌, ◌<◌, ℕ, List, [], ◌∷◌, map, sym, ap, subst, arith, below_more}
use Rattle.std.specs.Prelude.{slice_index_or}
use Rattle.std.proofs.lemmas.List.{get_or_default, length-map, map-append}
use Rattle.sequence_forms.specs.declared.places.Site.{Site}
use Rattle.object_rules.specs.declared.fault.FaultKind.TheVariants.{Sequence, StrayCall}
use Rattle.sequence_match.specs.Faults.{AreSites, Nowhere}
use Rattle.tls_symbols.specs.Bindings.{object_at}
use Rattle.tls_symbols.proofs.Numbered.{each_push}
use Rattle.link_tests.proofs.cases.all_sites.Goals as goal

pub loop-object-preserved : goal.loop-object-preserved
loop-object-preserved c =
    let so_far = c.loop-object.invariant in
    let objects = c.args.objects.now in
    let n = c.loop-object.object-index in
    let old = c.loop-object.all.items in
    let own = c.in_ok-own.own in
    let here : object_at objects n ≡ c.object-item.result =
    get_or_default objects n [] c.object-item.result c.loop-object-test.true ∙ sym c.object-item.is in
    let P : ℕ → List Site → Type 0 = λ o ys. AreSites (object_at objects o) ys in
    let pushed = ap (map (λ v. v.items)) c.in_ok-push.ensures.items ∙ map-append (λ v. v.items) old (own ∷ []) in
    let Q : List (List Site) → Type 0 = λ xs. (o : ℕ) → o < n + 1 → P o (slice_index_or xs o []) in (
      omega (arith, c.in_ok-push.ensures.len, so_far.0),
      subst Q (sym pushed)
          (each_push P (map (λ v. v.items) old) own.items [] n
          (length-map old (λ v. v.items) ∙ so_far.0) so_far.1
          (subst (λ b. AreSites b own.items) (sym here) c.in_ok-own.ensures.sites)),
      below_more _ _ so_far.2
          (subst (λ b. Nowhere Sequence b × Nowhere StrayCall b) (sym here)
          (c.in_ok-own.ensures.no_loose, c.in_ok-own.ensures.no_stray)),
    )

pub returns-clause-stray : goal.returns-clause-stray
returns-clause-stray c = λ o below. c.loop-object.invariant.2 o (omega (arith, below, c.loop-object-test.false))
