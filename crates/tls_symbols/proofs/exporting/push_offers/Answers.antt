use Rattle.std.proofs.Common.{◌≡◌, ◌∙◌, ◌+◌, ◌-◌, ◌<◌, ◌++◌, [], ◌∷◌, map, refl, sym, ap, subst, arith}
use Rattle.std.specs.List.{flat_map, range_with_len, All}
use Rattle.std.proofs.lemmas.List.{append-nil, map-append}
use Rattle.std.proofs.lemmas.List.Elements.{All-push}
use Rattle.elf_object.specs.Lent.{symbol_name}
use Rattle.elf_object.specs.Parts.{symbol_count}
use Rattle.tls_symbols.specs.declared.exporting.Offer.{Offer}
use Rattle.tls_symbols.specs.Numbers.{Grows, IsNumberOf}
use Rattle.tls_symbols.specs.Offers.{offered_at, offered_in, IsOffer}
use Rattle.tls_symbols.proofs.Exported.{offer_here, offer_later, offers_grow}
use Rattle.tls_symbols.proofs.Numbered.{grows_then}
use Rattle.tls_symbols.proofs.exporting.push_offers.Goals as goal
use Rattle.tls_symbols.proofs.exporting.push_offers.Goals.{then-is_offered+in_ok-number+in_ok-push, else-is_offered}

pub loop-symbol-init : goal.loop-symbol-init
unfolding offered_in
loop-symbol-init c = record {
  grows = record { keeps = λ name n h. h };
  found = refl;
  numbered = λ objects there here all. all;
}

pub loop-symbol-preserved : goal.loop-symbol-preserved
loop-symbol-preserved c =
    let b = c.args.object.now in
    let o = c.args.index in
    let a = c.loop-symbol.symbol in
    let was = c.loop-symbol.invariant in
    let below : a < symbol_count b = omega (arith, c.loop-symbol-test.true, c.symbol_count-symbol-end.ensures.count) in
    let seen = map (λ offer. offer.found) c.loop-symbol.offers.items in
    let rest = flat_map (offered_at o b) (range_with_len (a + 1) (symbol_count b - (a + 1))) in
    elim c.if-is_offered.branch [
      | then-is_offered+in_ok-number+in_ok-push w ↦
          let offer : Offer = record { found = record { object = o; symbol = a }; number = w.in_ok-number.number } in
          let old = c.loop-symbol.names.keys in
          let new = w.number_name.new.names.keys in
          let grows = w.in_ok-number.ensures.grows in record {
            grows = subst (λ n. Grows c.args.names.now.keys n.keys) (sym w.names-is)
                (grows_then c.args.names.now.keys old new was.grows grows);
            found =
                ap (λ v. map (λ offer. offer.found) v.items ++ rest) w.offers-is
                ∙ ap (λ xs. map (λ offer. offer.found) xs ++ rest) w.in_ok-push.ensures.items
                ∙ ap (λ xs. xs ++ rest) (map-append (λ offer. offer.found) c.loop-symbol.offers.items (offer ∷ []))
                ∙ offer_here o b seen a below (sym c.is_offered.ensures ∙ w.if-is_offered.true) ∙ was.found;
            numbered = λ objects there here all.
                let before = offers_grow old new objects c.loop-symbol.offers.items grows
                (was.numbered objects there here all) in
                let name = w.symbol_name.ensures.name ∙ ap (λ x. symbol_name x a) here in
                let last : IsOffer new objects offer = record {
                  within = record { object = there; symbol = subst (λ x. a < symbol_count x) here below };
                  number = subst (λ n. IsNumberOf new n w.in_ok-number.number) name w.in_ok-number.ensures.number;
                } in
                let more = All-push (IsOffer new objects) c.loop-symbol.offers.items offer before last in
                let items = ap (λ v. v.items) w.offers-is ∙ w.in_ok-push.ensures.items in
                subst (λ n. All (IsOffer n.keys objects) c.if-is_offered.offers.items) (sym w.names-is)
                (subst (All (IsOffer new objects)) (sym items) more);
          }
      | else-is_offered w ↦ record {
        grows = subst (λ n. Grows c.args.names.now.keys n.keys) (sym w.names-is) was.grows;
        found =
            ap (λ v. map (λ offer. offer.found) v.items ++ rest) w.offers-is
            ∙ offer_later o b seen a below (sym c.is_offered.ensures ∙ w.if-is_offered.false) ∙ was.found;
        numbered = λ objects there here all.
            subst (λ n. All (IsOffer n.keys objects) c.if-is_offered.offers.items) (sym w.names-is)
            (subst (λ v. All (IsOffer c.loop-symbol.names.keys objects) v.items) (sym w.offers-is)
            (was.numbered objects there here all));
      }
    ]

pub returns-clause-found : goal.returns-clause-found
returns-clause-found c =
    let b = c.args.object.now in
    let past : symbol_count b - c.loop-symbol.symbol ≡ 0 =
    omega (arith, c.loop-symbol-test.false, c.symbol_count-symbol-end.ensures.count) in
    let seen = map (λ offer. offer.found) c.loop-symbol.offers.items in
    sym (append-nil seen)
    ∙ sym (ap (λ n. seen ++ flat_map (offered_at c.args.index b) (range_with_len c.loop-symbol.symbol n)) past)
    ∙ c.loop-symbol.invariant.found
