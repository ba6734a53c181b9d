use Rattle.std.proofs.Common.{◌≡◌, ◌∙◌, ◌+◌, ◌<◌, ◌++◌, ◌∷◌, [], suc, append_assoc, drop, length, map, sym, ap, subst}
use Rattle.std.proofs.Common.{arith, rules, if◌then◌else◌}
use Rattle.std.specs.List.{flat_map, All}
use Rattle.std.specs.Prelude.{slice_index_or}
use Rattle.std.proofs.Math.Seq.{drop-cons}
use Rattle.std.proofs.lemmas.List.{get_or_default, map-append}
use Rattle.std.proofs.lemmas.List.Concat.{flat_map-cons}
use Rattle.std.proofs.lemmas.List.Folds.{flat_map-map}
use Rattle.tls_symbols.specs.declared.exporting.Offer.{Offer}
use Rattle.elf_object.specs.Lent.{symbol_name}
use Rattle.tls_symbols.specs.Bindings.{is_symbol}
use Rattle.tls_symbols.specs.Definitions.{definition_of}
use Rattle.tls_symbols.specs.Offers.{name_at, IsOffer}
use Rattle.tls_symbols.proofs.Exported.{bound_name, exported_of_offers, none_offered, offer_definition}
use Rattle.tls_symbols.proofs.exporting.exports.Goals as goal
use Rattle.tls_symbols.proofs.exporting.exports.Goals.{then-is_symbol+in_ok-push, else-is_symbol}

pub loop-offer-init : goal.loop-offer-init
loop-offer-init c =
    let objects = c.args.objects.now in
    let all = flat_map (λ offer. bound_name objects offer.found) in
    ap (λ xs. map (λ name. name.now) xs ++ all c.deref-offer-items.result.now) c.new-exported.ensures.items
    ∙ ap all c.deref-offer-items.ensures.value
    ∙ sym (flat_map-map (bound_name objects) (λ offer. offer.found) c.in_ok-offers.offers.items)
    ∙ ap (flat_map (bound_name objects)) c.in_ok-offers.ensures.found ∙ exported_of_offers objects

pub loop-offer-preserved : goal.loop-offer-preserved
loop-offer-preserved c =
    let objects = c.args.objects.now in
    let items = c.deref-offer-items.result.now in
    let i = c.loop-offer.offer-index in
    let none : Offer = record { found = record { object = 0; symbol = 0 }; number = 0 } in
    let offer = slice_index_or items i none in
    let all = flat_map (λ (offer : Offer). bound_name objects offer.found) in
    let rest = all (drop (i + 1) items) in
    let seen = map (λ name. name.now) c.loop-offer.exported.items in
    let name = name_at objects offer.found in
    let below : i < length items = c.loop-offer-test.true in
    let next : suc i ≡ i + 1 = omega arith in
    let here : all (drop i items) ≡ bound_name objects offer.found ++ rest =
    ap all (drop-cons items i none below ∙ ap (λ m. offer ∷ drop m items) next)
    ∙ flat_map-cons (λ (offer : Offer). bound_name objects offer.found) offer (drop (i + 1) items) in
    let is = subst (All (IsOffer c.offers_of.new.names.keys objects))
    (sym c.deref-offer-items.ensures.value) c.in_ok-offers.ensures.numbered i none below in
    let definition =
    offer_definition c.offers_of.new.names.keys objects c.in_ok-strong.strong.items c.in_ok-weak.weak.items offer
    c.index.result.now c.index-in-loop-offer.result.now c.in_ok-strong.ensures c.in_ok-weak.ensures is
    c.index.ensures c.index-in-loop-offer.ensures in
    let test : c.is_symbol.result ≡ is_symbol (definition_of objects name) offer.found.object offer.found.symbol =
    c.is_symbol.ensures
    ∙ ap (λ x. is_symbol x offer.found.object offer.found.symbol) (c.or-definition.ensures ∙ definition) in
    elim c.if-is_symbol.branch [
      | then-is_symbol+in_ok-push w ↦
          let bound : bound_name objects offer.found ≡ name ∷ [] =
          ap (λ t. if t then name ∷ [] else []) (sym test ∙ w.if-is_symbol.true) in
          let named : w.symbol_name.result.now ≡ name =
          w.symbol_name.ensures.name
          ∙ ap (λ b. symbol_name b offer.found.symbol) (w.index-objects-object.is
          ∙ get_or_default objects offer.found.object w.index-objects-object.result [] is.within.object) in
          ap (λ v. map (λ name. name.now) v.items ++ rest) w.exported-is
          ∙ ap (λ xs. map (λ name. name.now) xs ++ rest) w.in_ok-push.ensures.items
          ∙ ap (λ xs. xs ++ rest)
          (map-append (λ name. name.now) c.loop-offer.exported.items (w.symbol_name.result ∷ []))
          ∙ ap (λ n. (seen ++ n ∷ []) ++ rest) named ∙ append_assoc seen (name ∷ []) rest
          ∙ sym (ap (λ xs. seen ++ (xs ++ rest)) bound) ∙ sym (ap (λ xs. seen ++ xs) here) ∙ c.loop-offer.invariant
      | else-is_symbol w ↦
          let bound : bound_name objects offer.found ≡ [] =
          ap (λ t. if t then name ∷ [] else []) (sym test ∙ w.if-is_symbol.false) in
          ap (λ v. map (λ name. name.now) v.items ++ rest) w.exported-is
          ∙ sym (ap (λ xs. seen ++ (xs ++ rest)) bound) ∙ sym (ap (λ xs. seen ++ xs) here) ∙ c.loop-offer.invariant
    ]

pub returns-then-is_empty : goal.returns-then-is_empty
returns-then-is_empty c =
    let none : length c.in_ok-offers.offers.items ≡ 0 = search rules in
    c.of.ensures ∙ ap (map (λ name. name.now)) c.new.ensures.items
    ∙ none_offered c.args.objects.now c.in_ok-offers.offers.items none c.in_ok-offers.ensures.found
