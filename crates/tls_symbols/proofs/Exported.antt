-- One symbol after another that an image may export, and those that it does.
use Rattle.std.proofs.Common.{◌≡◌, ◌+◌, ◌-◌, ◌<◌, ◌∙◌, ◌++◌, ◌&&◌, ℕ, Bool, true, false, not, List, [], ◌∷◌, Option}
use Rattle.std.proofs.Common.{None, arith}
use Rattle.std.proofs.Common.{length, drop, map, refl, sym, ap, subst, append_assoc, if◌then◌else◌}
use Rattle.std.specs.List.{flat_map, range_with_len, All}
use Rattle.std.specs.Option.{option_or}
use Rattle.std.proofs.lemmas.Grind.{flat_map-append}
use Rattle.std.specs.Prelude.{slice_index_or}
use Rattle.std.proofs.lemmas.List.{append-nil, get_or_default}
use Rattle.std.proofs.lemmas.List.Concat.{flat_map-cons}
use Rattle.elf_object.specs.Lent.{symbol_binding, symbol_name, symbol_visibility}
use Rattle.elf_object.specs.Parts.{symbol_count}
use Rattle.elf_object.proofs.Ranges.{range_first}
use Rattle.elf_records.specs.declared.symbol.SymbolBinding.TheVariants.{Local, Global, Weak}
use Rattle.elf_records.specs.Symbols.{is_visible}
use Rattle.link_faults.specs.declared.symbol_ref.SymbolRef.{SymbolRef}
use Rattle.tls_symbols.specs.Bindings.{exported_at, exported_in, exported_names, is_symbol, is_tls_symbol}
use Rattle.tls_symbols.specs.Bindings.{object_at}
use Rattle.tls_symbols.specs.Definitions.{definition_of, first_from, same_binding}
use Rattle.tls_symbols.specs.declared.exporting.Offer.{Offer}
use Rattle.tls_symbols.specs.Numbers.{Names, at_number, Grows}
use Rattle.tls_symbols.specs.Offers.{is_offered, name_at, offered_at, offered_from, offered_in, IsOffer, TellsAmong}
use Rattle.tls_symbols.proofs.KnownNames.{or_else_weak}
use Rattle.tls_symbols.proofs.Within.{dropped_is}
use Rattle.tls_symbols.specs.Definitions.{flat_map_from}

module _ (o : ℕ) (b : List ℕ) (seen : List SymbolRef) (a : ℕ) (below : a < symbol_count b) where
  pub offer_here : is_offered b a ≡ true
      → (seen ++ record { object = o; symbol = a } ∷ [])
      ++ flat_map (offered_at o b) (range_with_len (a + 1) (symbol_count b - (a + 1)))
      ≡ seen ++ flat_map (offered_at o b) (range_with_len a (symbol_count b - a))
  offer_here here =
      rw (range_first a (symbol_count b) below, here)
      (append_assoc seen (record { object = o; symbol = a } ∷ [])
      (flat_map (offered_at o b) (range_with_len (a + 1) (symbol_count b - (a + 1)))))

  pub offer_later : is_offered b a ≡ false
      → seen ++ flat_map (offered_at o b) (range_with_len (a + 1) (symbol_count b - (a + 1)))
      ≡ seen ++ flat_map (offered_at o b) (range_with_len a (symbol_count b - a))
  offer_later other = rw (range_first a (symbol_count b) below, other) refl

-- among more names an offer keeps its number
pub offers_grow : (old new : Names) (objects : List (List ℕ)) (offers : List Offer) → Grows old new
    → All (IsOffer old objects) offers → All (IsOffer new objects) offers
offers_grow old new objects offers grows all k d below =
    let was = all k d below in
    record { within = was.within; number = grows.keeps _ _ was.number }

-- ** which of the offers an image exports

-- the name of a symbol, if it binds to it
abbrev pub bound_name : List (List ℕ) → SymbolRef → List (List ℕ)
bound_name objects found =
    if is_symbol (definition_of objects (name_at objects found)) found.object found.symbol
    then name_at objects found ∷ [] else []

-- of one symbol: it is not LOCAL, its name binds to it, it is thread-local and visible
one : (local bound seen : Bool) (name : List ℕ) (found : SymbolRef) (f : SymbolRef → List (List ℕ))
    → f found ≡ (if bound then name ∷ [] else [])
    → flat_map f (if not local && seen then found ∷ [] else [])
    ≡ (if (not local && bound) && seen then name ∷ [] else [])
one true bound seen name found f is = refl
one false true true name found f is = flat_map-cons f found [] ∙ append-nil (f found) ∙ is
one false true false name found f is = refl
one false false true name found f is = flat_map-cons f found [] ∙ append-nil (f found) ∙ is
one false false false name found f is = refl

module _ (objects : List (List ℕ)) where
  exported_of_symbol : (o : ℕ) (b : List ℕ) (e : ℕ) → b ≡ object_at objects o
      → flat_map (bound_name objects) (offered_at o b e) ≡ exported_at objects o b e
  exported_of_symbol o b e here =
      one (same_binding Local (symbol_binding b e)) (is_symbol (definition_of objects (symbol_name b e)) o e)
      (is_tls_symbol b e && is_visible (symbol_visibility b e)) (symbol_name b e) (record { object = o; symbol = e })
      (bound_name objects)
      (subst (λ x. bound_name objects (record { object = o; symbol = e })
      ≡ (if is_symbol (definition_of objects (symbol_name x e)) o e then symbol_name x e ∷ [] else [])) (sym here) refl)

  exported_of_symbols : (o : ℕ) (b : List ℕ) (es : List ℕ) → b ≡ object_at objects o
      → flat_map (bound_name objects) (flat_map (offered_at o b) es) ≡ flat_map (exported_at objects o b) es
  exported_of_symbols o b [] here = refl
  exported_of_symbols o b (e ∷ es) here =
      ap (flat_map (bound_name objects)) (flat_map-cons (offered_at o b) e es)
      ∙ flat_map-append (bound_name objects) (offered_at o b e) (flat_map (offered_at o b) es)
      ∙ ap (λ xs. xs ++ flat_map (bound_name objects) (flat_map (offered_at o b) es)) (exported_of_symbol o b e here)
      ∙ ap (λ xs. exported_at objects o b e ++ xs) (exported_of_symbols o b es here)
      ∙ sym (flat_map-cons (exported_at objects o b) e es)

  exported_of_objects : (o : ℕ) (left : List (List ℕ)) → drop o objects ≡ left
      → flat_map (bound_name objects) (offered_from o left) ≡ flat_map_from (exported_in objects) o left
  unfolding offered_in exported_in
  exported_of_objects o [] are = refl
  exported_of_objects o (b ∷ more) are =
      let at = dropped_is objects o [] b more are in
      flat_map-append (bound_name objects) (offered_in o b) (offered_from (o + 1) more)
      ∙ ap (λ xs. xs ++ flat_map (bound_name objects) (offered_from (o + 1) more))
      (exported_of_symbols o b (range_with_len 1 (symbol_count b - 1)) (sym at.here))
      ∙ ap (λ xs. exported_in objects o b ++ xs) (exported_of_objects (o + 1) more at.rest)

  pub exported_of_offers : flat_map (bound_name objects) (offered_from 0 objects) ≡ exported_names objects
  unfolding exported_names
  exported_of_offers = exported_of_objects 0 objects refl

-- the definition of an offer's name, by its number
pub offer_definition : (names : Names) (objects : List (List ℕ)) (strong weak : List (Option SymbolRef)) (offer : Offer)
    (s w : Option SymbolRef) → TellsAmong names Global objects strong → TellsAmong names Weak objects weak
    → IsOffer names objects offer → s ≡ slice_index_or strong offer.number s → w ≡ slice_index_or weak offer.number w
    → option_or s w ≡ definition_of objects (name_at objects offer.found)
unfolding definition_of
offer_definition names objects strong weak offer s w strongly weakly is s_is w_is =
    let name = name_at objects offer.found in
    let n = is.number.number in
    let within = subst (λ m. m < length names) n is.number.within in
    let strong_is = get_or_default strong offer.number s None (omega (arith, is.number.within, strongly.len)) in
    let weak_is = get_or_default weak offer.number w None (omega (arith, is.number.within, weakly.len)) in
    ap (λ x. option_or x w) (s_is ∙ strong_is ∙ ap (at_number strong) n ∙ strongly.tells name within)
    ∙ ap (λ x. option_or (first_from Global name 0 objects) x)
    (w_is ∙ weak_is ∙ ap (at_number weak) n ∙ weakly.tells name within)
    ∙ or_else_weak (first_from Global name 0 objects) (first_from Weak name 0 objects)

-- without an offer it exports nothing
pub none_offered : (objects : List (List ℕ)) (offers : List Offer) → length offers ≡ 0
    → map (λ offer. offer.found) offers ≡ offered_from 0 objects → [] ≡ exported_names objects
none_offered objects [] none are = ap (flat_map (bound_name objects)) are ∙ exported_of_offers objects
none_offered objects (offer ∷ more) none are = absurd (omega (arith, none))
