-- What a loader reads of an entry: the name of an import is the one that was written, and numbers have 64 bits.
use Rattle.std.proofs.Common.{◌≡◌, ◌∙◌, ◌+◌, ◌-◌, ◌≤◌, ◌^◌, ℕ, suc, Bool, true, false, List, [], ◌∷◌, ◌++◌}
use Rattle.std.proofs.Common.{Some, length, map, refl, sym, ap, arith}
use Rattle.std.specs.Prelude.{◌||◌, slice_get, unwrap_or}
use Rattle.std.specs.List.{Contains, list_any, position_from}
use Rattle.std.specs.Str.{bytes_eq}
use Rattle.std.proofs.lemmas.List.{length-map}
use Rattle.std.proofs.lemmas.List.Elements.{All-contains}
use Rattle.std.proofs.lemmas.Option.{slice_get_within}
use Rattle.std.proofs.lemmas.Slice.Eq.{bytes_eq-Decides}
use Rattle.dynamic_symbols.specs.Names.{name_of as name_in}
use Rattle.got_pairs.specs.declared.entry.DynamicSymbol.TheVariants.{Imported}
use Rattle.got_pairs.specs.declared.need.Need.{Need}
use Rattle.got_pairs.specs.declared.need.Need.TheVariants.{ModulePair, SymbolPair, Descriptor, SymbolWord}
use Rattle.got_pairs.specs.declared.need.Need.TheVariants.{AddressWord, RuntimeWord}
use Rattle.got_pairs.specs.declared.need.Target.TheVariants.{Here, Import}
use Rattle.image_writer.specs.Tables.{finished}
use Rattle.link_core.proofs.GotRelocationsNeeds.{IsEntry, Suits, are_entries}
use Rattle.link_core.proofs.GotRelocationsSites.{segment}
use Rattle.link_core.specs.Dynamic.{imports, names, number_of, own_symbols, runtime_names}
use Rattle.link_core.specs.Faults.{Links}
use Rattle.link_core.specs.Images.{contents, image_of}
use Rattle.link_needs.specs.Given.{IsGiven}
use Rattle.link_needs.specs.Linking.{Linking}
use Rattle.link_needs.specs.Needs.{entries, uses_runtime}
use Rattle.loaded_modules.specs.Loader.{name_of}
use Rattle.tls_relocs.specs.Elements.{slice_get-append, slice_get-append_behind}
use Rattle.loaded_words.proofs.Entries.{Fits}
use Rattle.loaded_words.proofs.Read.{IsListed, IsRead, entries_read}

-- ** names

-- where a name stands in a list
record IsAt (name : List ℕ) (i : ℕ) (names : List (List ℕ)) : Type 0 where
  pub behind : ℕ
  pub position : position_from (bytes_eq name) i names ≡ Some (i + behind)
  pub at : slice_get names behind ≡ Some name

is_at : (name : List ℕ) (i : ℕ) (names : List (List ℕ)) → list_any (bytes_eq name) names ≡ true → IsAt name i names
is_at name i [] has = absurd (cc)
is_at name i (other ∷ names) has = of_test (bytes_eq name other) refl has (is_at name (i + 1) names)
  where
    of_test : (t : Bool) → bytes_eq name other ≡ t → (t || list_any (bytes_eq name) names) ≡ true
        → (list_any (bytes_eq name) names ≡ true → IsAt name (i + 1) names) → IsAt name i (other ∷ names)
    of_test true e has later =
        let same : name ≡ other = (bytes_eq-Decides name other).0 e in
        let start : i ≡ i + 0 = omega arith in
        record { behind = 0; position = rw e (ap Some start); at = ap Some (sym same) }
    of_test false e has later =
        let rest = later has in
        let next : i + 1 + rest.behind ≡ i + suc rest.behind = omega arith in
        record { behind = suc rest.behind; position = rw e (rest.position ∙ ap Some next); at = rest.at }

pub name_read : (l : Linking) (name : List ℕ) → IsListed l name
    → name_of (image_of l) (number_of l (Imported name)) ≡ name
unfolding image_of finished contents names
name_read l name has =
    let is = is_at name 0 (imports l) has in
    let own : List (List ℕ) = map (name_in l.objects) (own_symbols l) in
    let more : List (List ℕ) = runtime_names (uses_runtime l) in
    let long : length own ≡ length (own_symbols l) = length-map (own_symbols l) (name_in l.objects) in
    let start : 0 + is.behind ≡ is.behind = omega arith in
    let place : unwrap_or (position_from (bytes_eq name) 0 (imports l)) 0 ≡ is.behind =
    ap (λ p. unwrap_or p 0) is.position ∙ start in
    let next : 1 + (length (own_symbols l) + is.behind) ≡ suc (length (own_symbols l) + is.behind) = omega arith in
    let index : length (own_symbols l) + is.behind - length own ≡ is.behind = omega (arith, long) in
    let found : slice_get (own ++ (imports l ++ more)) (length (own_symbols l) + is.behind) ≡ Some name =
    slice_get-append_behind own (imports l ++ more) (length (own_symbols l) + is.behind) (omega (arith, long))
    ∙ ap (slice_get (imports l ++ more)) index
    ∙ slice_get-append (imports l) more is.behind (slice_get_within (imports l) is.behind name is.at)
    ∙ is.at in
    ap (λ p. unwrap_or (slice_get ([] ∷ (own ++ (imports l ++ more))) (1 + (length (own_symbols l) + p))) []) place
    ∙ ap (λ n. unwrap_or (slice_get ([] ∷ (own ++ (imports l ++ more))) n) []) next
    ∙ ap (λ o. unwrap_or o []) found

-- ** all that a row relies on

fits_of : (l : Linking) (need : Need) → segment l ≤ 2 ^ 20 → Suits l l.kind need → IsRead l need → Fits l l.kind need
fits_of l ModulePair small suits read = tt
fits_of l (SymbolPair (Here s o)) small suits read = tt
fits_of l (SymbolPair (Import n)) small suits read = name_read l n read
fits_of l (Descriptor (Here s o)) small suits read = let within = (suits refl).1 in omega (arith, small, within)
fits_of l (Descriptor (Import n)) small suits read = name_read l n read
fits_of l (SymbolWord (Here s o)) small suits read = λ e. let within = (suits e).1 in omega (arith, small, within)
fits_of l (SymbolWord (Import n)) small suits read = name_read l n read
fits_of l (AddressWord s p) small suits read = read
fits_of l RuntimeWord small suits read = tt

pub entry_fits : (l : Linking) → IsGiven l → Links l → (need : Need) → Contains (entries l) need → Fits l l.kind need
unfolding IsEntry
entry_fits l given links need among =
    fits_of l need links.sound.limits.lawful.small_tls
    (All-contains (IsEntry l) (entries l) need (are_entries l given links.sound) among).0
    (All-contains (IsRead l) (entries l) need (entries_read l given links.sound.limits.lawful) among)
