-- Walks that add what code needs, or look for a call of the stub: what is left of them.
use Rattle.std.proofs.Common.{◌≡◌, ◌≢◌, ◌+◌, ◌-◌, ◌<◌, ◌≤◌, ◌∙◌, ℕ, refl, suc, zero, Bool, true, false, List, [], ◌∷◌}
use Rattle.std.proofs.Common.{◌++◌}
use Rattle.std.proofs.Common.{drop, filter, length, map, sym, ap, append_assoc, append-nil, arith, subst}
use Rattle.std.specs.Global.{Vec}
use Rattle.std.specs.Prelude.{Err, IfOk, MatchResult, Ok, slice_index_or, if◌then◌else◌}
use Rattle.std.specs.declared.result.Result.{Result}
use Rattle.std.specs.List.{All, AllZip, flat_map, list_any, range_with_len}
use Rattle.std.proofs.Math.ListN.{drop_of_length-le}
use Rattle.std.proofs.lemmas.List.Elements.{All-filter, filter_passes}
use Rattle.elf_records.specs.declared.relocation.RelocationKind.{RelocationKind}
use Rattle.elf_records.specs.declared.relocation.RelocationKind.TheVariants.{Nothing}
use Rattle.elf_object.specs.declared.relocation.Relocation.{Relocation}
use Rattle.elf_object.specs.Lawful.{IsLawful}
use Rattle.elf_object.specs.Parts.{symbol_count}
use Rattle.sequence_forms.specs.declared.places.Site.{Site}
use Rattle.elf_object.proofs.Ranges.{range_first, range_none}
use Rattle.sequence_match.proofs.OwnSites.{drop_at}
use Rattle.link_needs.specs.Linking.{Linking, choices_from}
use Rattle.link_needs.specs.declared.needs.OwnWanted.{OwnWanted}
use Rattle.link_needs.specs.Plans.{AreOwn}
use Rattle.std.proofs.lemmas.List.Concat.{flat_map_single}
use Rattle.link_needs.specs.Needs.{any_stub_call, is_address_kind, is_stub_call}
use Rattle.link_needs.specs.NeedLaws.{absolutes, absolutes_from}
use Rattle.link_needs.specs.Needs.{object_needs, site_needs}
use Rattle.link_needs.specs.NeedLaws.{object_absolutes}
use Rattle.tls_symbols.specs.Definitions.{flat_map_from}
use Rattle.link_needs.specs.Linking.{choice}

-- ** numbers below an end

module _ {A : Type 0} (f : ℕ → List A) (seen : List A) (a n : ℕ) where
  pub counted : a < n
      → (seen ++ f a) ++ flat_map f (range_with_len (a + 1) (n - (a + 1)))
      ≡ seen ++ flat_map f (range_with_len a (n - a))
  counted below =
      append_assoc seen (f a) (flat_map f (range_with_len (a + 1) (n - (a + 1))))
      ∙ ap (λ ys. seen ++ flat_map f ys) (sym (range_first a n below))

  pub counted_all : n ≤ a → seen ≡ seen ++ flat_map f (range_with_len a (n - a))
  counted_all past = sym (ap (λ ys. seen ++ flat_map f ys) (range_none a n past) ∙ append-nil seen)

-- ** objects, each by itself

-- where each x by its number gives a step, and each z is found for a number, all zs together give what all xs do
module _ {X Y Z : Type 0} (from : ℕ → List X → List Y) (step : ℕ → X → List Y) (xs : List X) (d : X)
    (none : (o : ℕ) → from o [] ≡ [])
    (more : (o : ℕ) (x : X) (ys : List X) → from o (x ∷ ys) ≡ step o x ++ from (o + 1) ys)
    (found : Z → List Y) (R : ℕ → Z → Type 0)
    (of : (o : ℕ) (z : Z) → R o z → found z ≡ step o (slice_index_or xs o d)) where
  all_found : (o n : ℕ) (zs : List Z) → o + n ≡ length xs → AllZip R (range_with_len o n) zs
      → flat_map found zs ≡ from o (drop o xs)
  all_found o zero [] long are =
      sym (ap (from o) (drop_of_length-le xs (omega (arith, long))) ∙ none o)
  all_found o zero (z ∷ zs) long are = absurd are
  all_found o (suc n) [] long are = absurd are
  all_found o (suc n) (z ∷ zs) long are =
      let x = slice_index_or xs o d in
      let rest = all_found (o + 1) n zs (omega (arith, long)) are.1 in
      ap (λ ys. ys ++ flat_map found zs) (of o z are.0) ∙ ap (λ ys. step o x ++ ys) rest
      ∙ sym (ap (from o) (drop_at xs o d (omega (arith, long))) ∙ more o x (drop (o + 1) xs))

module _ (l : Linking) (zs : List OwnWanted) (are : AllZip (AreOwn l) (range_with_len 0 (length l.objects)) zs) where
  pub fields_found : flat_map (λ own. own.fields.items) zs ≡ flat_map_from (object_needs l) 0 l.objects
  fields_found =
      all_found (flat_map_from (object_needs l)) (object_needs l) l.objects [] (λ o. refl) (λ o x ys. refl)
      (λ own. own.fields.items) (AreOwn l) (λ o z own. own.fields_are) 0 (length l.objects) zs (omega arith) are

  pub absolutes_found : flat_map (λ own. own.absolutes.items) zs ≡ absolutes l
  unfolding absolutes
  absolutes_found =
      all_found (absolutes_from l) (object_absolutes l) l.objects [] (λ o. refl) (λ o x ys. refl)
      (λ own. own.absolutes.items) (AreOwn l) (λ o z own. own.absolutes_are) 0 (length l.objects) zs (omega arith) are

  module _ (each : length l.sites ≡ length l.objects) where
    pub sites_found : flat_map (λ own. own.sites.items) zs ≡ flat_map_from (λ o. flat_map (site_needs l o)) 0 l.sites
    sites_found =
        all_found (flat_map_from (λ o. flat_map (site_needs l o))) (λ o own. flat_map (site_needs l o) own) l.sites []
        (λ o. refl)
        (λ o x ys. refl) (λ own. own.sites.items) (AreOwn l) (λ o z own. own.sites_are) 0 (length l.objects) zs
        (omega (arith, each)) are

    pub choices_found : map (λ own. own.choices.items) zs ≡ choices_from l 0 l.sites
    choices_found =
        sym (flat_map_single (λ (own : OwnWanted). own.choices.items) zs)
        ∙ all_found (choices_from l) (λ o own. map (choice l o) own ∷ []) l.sites [] (λ o. refl)
        (λ o x ys. refl) (λ own. own.choices.items ∷ []) (AreOwn l) (λ o z own. ap (λ ys. ys ∷ []) own.choices_are) 0
        (length l.objects) zs (omega (arith, each)) are

-- what holds of each result that is no error holds of what all hold, if none is
zipped_ok : {X Y : Type 0} (E : Type 0) (R : X → Y → Type 0) (xs : List X) (zs : List Y)
    → AllZip (λ x (y : Result Y E). IfOk y (R x)) xs (map Ok zs) → AllZip R xs zs
zipped_ok E R [] [] are = tt
zipped_ok E R [] (z ∷ zs) are = absurd are
zipped_ok E R (x ∷ xs) [] are = absurd are
zipped_ok E R (x ∷ xs) (z ∷ zs) are = (are.0, zipped_ok E R xs zs are.1)

pub all_ok : {X Y E : Type 0} (R : X → Y → Type 0) (xs : List X) (ys : List (Result Y E)) (r : Result (Vec Y) E)
    (Q : E → Type 0) → AllZip (λ x y. IfOk y (R x)) xs ys
    → MatchResult r (λ v. (zs : List Y) × (ys ≡ map Ok zs) × (v.items ≡ zs)) Q → IfOk r (λ v. AllZip R xs v.items)
all_ok R xs ys (Ok v) Q are kept =
    subst (AllZip R xs) (sym kept.2)
    (zipped_ok _ R xs kept.0 (subst (AllZip (λ x y. IfOk y (R x)) xs) kept.1 are))
all_ok R xs ys (Err e) Q are kept = tt

-- ** calls of the stub

module _ (l : Linking) (sites : List (List Site)) (i : ℕ) where
  pub stub_here : (own : List Site) → drop i sites ≡ own ∷ drop (i + 1) sites
      → list_any (is_stub_call l i) own ≡ true → any_stub_call l i (drop i sites) ≡ true
  stub_here own here is =
      ap (any_stub_call l i) here
      ∙ ap (λ b. if b then true else any_stub_call l (i + 1) (drop (i + 1) sites)) is

  pub stub_later : (own : List Site) → drop i sites ≡ own ∷ drop (i + 1) sites
      → list_any (is_stub_call l i) own ≡ false
      → any_stub_call l (i + 1) (drop (i + 1) sites) ≡ any_stub_call l i (drop i sites)
  stub_later own here is =
      sym (ap (any_stub_call l i) here
      ∙ ap (λ b. if b then true else any_stub_call l (i + 1) (drop (i + 1) sites)) is)

  pub stub_none : length sites ≤ i → any_stub_call l i (drop i sites) ≡ false
  stub_none past = ap (any_stub_call l i) (drop_of_length-le sites past)

-- ** address fields

-- what is none of these types is of some type
some_type : (kind : RelocationKind) → is_address_kind kind ≡ true → kind ≢ Nothing
some_type Nothing is = λ _. absurd (cc)
some_type kind is = λ nothing. absurd (cc)

-- their symbols are the object's
pub fields_symbols : (b : List ℕ) (t : ℕ) (xs : List Relocation) → All (IsLawful b t) xs
    → All (λ r. r.symbol < symbol_count b) (filter (λ (r : Relocation). is_address_kind r.kind) xs)
fields_symbols b t xs lawful = λ k d h.
    let test : Relocation → Bool = λ r. is_address_kind r.kind in
    let r = slice_index_or (filter test xs) k d in
    let law : IsLawful b t r = All-filter test (IsLawful b t) xs lawful k d h in
    (law.symbol (some_type r.kind (filter_passes test xs k d h))).1
