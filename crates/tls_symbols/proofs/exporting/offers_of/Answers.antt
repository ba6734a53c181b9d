use Rattle.std.proofs.Common.{◌≡◌, ◌∙◌, ◌+◌, ◌<◌, ◌++◌, ◌∷◌, [], suc, append_assoc, drop, length, map, sym, ap, arith}
use Rattle.std.proofs.Common.{rules}
use Rattle.std.proofs.Math.Seq.{drop-cons}
use Rattle.std.proofs.lemmas.List.{get_or_default}
use Rattle.tls_symbols.specs.Bindings.{object_at}
use Rattle.tls_symbols.specs.Offers.{offered_from, offered_in}
use Rattle.tls_symbols.proofs.exporting.offers_of.Goals as goal

pub loop-index-preserved : goal.loop-index-preserved
loop-index-preserved c =
    let objects = c.args.objects.now in
    let i = c.loop-index.index in
    let was = c.loop-index.invariant in
    let next : suc i ≡ i + 1 = omega arith in
    let rest = offered_from (i + 1) (drop (i + 1) objects) in
    let seen = map (λ offer. offer.found) c.loop-index.offers.items in
    let below : i < length objects = search rules in
    let here : drop i objects ≡ object_at objects i ∷ drop (i + 1) objects =
    drop-cons objects i [] below ∙ ap (λ m. object_at objects i ∷ drop m objects) next in
    let same : c.index-objects-index.result ≡ object_at objects i =
    c.index-objects-index.is ∙ get_or_default objects i c.index-objects-index.result [] below in
    record {
      found =
          ap (λ xs. xs ++ rest) c.in_ok-push_offers.ensures.found
          ∙ append_assoc seen (offered_in i c.index-objects-index.result) rest
          ∙ ap (λ b. seen ++ (offered_in i b ++ rest)) same
          ∙ sym (ap (λ left. seen ++ offered_from i left) here) ∙ was.found;
      numbered = c.in_ok-push_offers.ensures.numbered objects below same was.numbered;
    }
