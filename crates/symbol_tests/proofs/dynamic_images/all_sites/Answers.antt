use Rattle.std.proofs.Common.{◌≡◌, ◌∙◌, ◌+◌, ◌<◌, ℕ, List, [], ◌∷◌, map, sym, ap, subst, arith}
use Rattle.std.specs.Prelude.{slice_index_or}
use Rattle.std.proofs.lemmas.List.{length-map, map-append}
use Rattle.sequence_forms.specs.declared.places.Site.{Site}
use Rattle.tls_symbols.specs.Bindings.{object_at}
use Rattle.tls_symbols.proofs.Numbered.{each_push}
use Rattle.sequence_match.specs.Sites.{HaveSymbols}
use Rattle.sequence_match.proofs.SitesSymbols.{sites_symbols}
use Rattle.dynamic_symbols.proofs.Adding.{object_is}
use Rattle.symbol_tests.proofs.dynamic_images.all_sites.Goals as goal

pub loop-object-preserved : goal.loop-object-preserved
loop-object-preserved c =
    let so_far = c.loop-object.invariant in
    let objects = c.args.objects.now in
    let n = c.loop-object.object-index in
    let old = c.loop-object.all.items in
    let own = c.in_ok-own.own in
    let have = sites_symbols c.object-item.result own.items c.was_read.ensures c.in_ok-own.ensures.sites in
    let here : object_at objects n ≡ c.object-item.result =
    object_is objects n c.object-item.result c.object-item.is c.loop-object-test.true in
    let P : ℕ → List Site → Type 0 = λ o ys. HaveSymbols (object_at objects o) ys in
    let Q : List (List Site) → Type 0 = λ xs. (o : ℕ) → o < n + 1 → P o (slice_index_or xs o []) in
    let pushed = ap (map (λ v. v.items)) c.in_ok-push.ensures.items ∙ map-append (λ v. v.items) old (own ∷ []) in (
      omega (arith, c.in_ok-push.ensures.len, so_far.0),
      subst Q (sym pushed)
          (each_push P (map (λ v. v.items) old) own.items [] n (length-map old (λ v. v.items) ∙ so_far.0) so_far.1
          (subst (λ b. HaveSymbols b own.items) (sym here) have)),
    )
