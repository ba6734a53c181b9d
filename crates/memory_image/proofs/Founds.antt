-- What a search found: a section at an address, a field at a byte.
use Rattle.std.proofs.Common.{◌≡◌, ◌<◌, ◌≤◌, ◌+◌, ◌∙◌, ℕ, zero, suc, List, [], ◌∷◌, Bool, true, false, Option, None}
use Rattle.std.proofs.Common.{Some, length, refl, sym, ap, subst, arith}
use Rattle.std.specs.Prelude.{slice_index_or, option_map, if◌then◌else◌}
use Rattle.std.specs.List.{Contains, find, range_with_len}
use Rattle.std.specs.Option.{option_or}
use Rattle.std.proofs.lemmas.Option.{same_Some}
use Rattle.elf_object.specs.declared.relocation.Relocation.{Relocation}
use Rattle.elf_object.specs.Object.{section_count}
use Rattle.object_faults.specs.declared.class.SectionClass.{SectionClass}
use Rattle.sequence_match.specs.Code.{AreApart}
use Rattle.tls_layout.specs.Sections.{Layout}
use Rattle.whole_meaning.specs.Spots.{Spot, spot_at, spot_from, stands_at}
use Rattle.memory_image.proofs.Filled.{apart_rest, hits, hits_parts, none_more}

no_option : {A : Type 0} (x : A) → None ≡ Some x → ⊥
no_option x e = cc

-- the first number of a range
record InRange (p : ℕ → Bool) (a n s : ℕ) : Type 0 where
  passes : p s ≡ true
  from : a ≤ s
  to : s < a + n

find_range : (p : ℕ → Bool) (a n s : ℕ) → find p (range_with_len a n) ≡ Some s → InRange p a n s
find_range p a zero s e = absurd (no_option s e)
find_range p a (suc n) s e = by_first (p a) refl e (find_range p (a + 1) n s)
  where
    by_first : (t : Bool) → p a ≡ t → (if t then Some a else find p (range_with_len (a + 1) n)) ≡ Some s
        → (find p (range_with_len (a + 1) n) ≡ Some s → InRange p (a + 1) n s) → InRange p a (suc n) s
    by_first true h e rest =
        let same : a ≡ s = same_Some a s e in
        record { passes = subst (λ (x : ℕ). p x ≡ true) same h; from = omega arith; to = omega arith }
    by_first false h e rest =
        let x = rest e in
        record { passes = x.passes; from = omega (arith, x.from); to = omega (arith, x.to) }

-- the spot is of a section that stands there
pub record IsSpot (p : Layout) (class : SectionClass) (address n : ℕ) (objects : List (List ℕ)) (spot : Spot) : Type 0
  where
    pub at : ℕ
    pub number : spot.object ≡ n + at
    pub there : at < length objects
    pub within : spot.section < section_count (slice_index_or objects at [])
    pub stands : stands_at p class spot.object (slice_index_or objects at []) address spot.section ≡ true
    pub is : spot ≡ spot_at p spot.object address spot.section

pub spot_is : (p : Layout) (class : SectionClass) (address n : ℕ) (objects : List (List ℕ)) (spot : Spot)
    → spot_from p class n objects address ≡ Some spot → IsSpot p class address n objects spot
spot_is p class address n [] spot e = absurd (no_option spot e)
spot_is p class address n (b ∷ more) spot e =
    by_find (find (stands_at p class n b address) (range_with_len 0 (section_count b))) refl e
    (spot_is p class address (n + 1) more spot)
  where
    by_find : (found : Option ℕ) → find (stands_at p class n b address) (range_with_len 0 (section_count b)) ≡ found
        → option_or (option_map (spot_at p n address) found) (spot_from p class (n + 1) more address) ≡ Some spot
        → (spot_from p class (n + 1) more address ≡ Some spot → IsSpot p class address (n + 1) more spot)
        → IsSpot p class address n (b ∷ more) spot
    by_find (Some s) here e rest =
        let x = find_range (stands_at p class n b address) 0 (section_count b) s here in
        let same : spot_at p n address s ≡ spot = same_Some _ _ e in
        let made : IsSpot p class address n (b ∷ more) (spot_at p n address s) = record {
          at = 0;
          number = omega arith;
          there = omega arith;
          within = omega (arith, x.to);
          stands = x.passes;
          is = refl;
        } in
        subst (λ (y : Spot). IsSpot p class address n (b ∷ more) y) same made
    by_find None here e rest =
        let x = rest e in
        record {
          at = suc x.at;
          number = omega (arith, x.number);
          there = omega (arith, x.there);
          within = x.within;
          stands = x.stands;
          is = x.is;
        }

-- ** fields

pub found_hits : (k : ℕ) (rs : List Relocation) (r : Relocation) → find (hits k) rs ≡ Some r → hits k r ≡ true
found_hits k [] r e = absurd (no_option r e)
found_hits k (y ∷ rs) r e = by_hit (hits k y) refl (found_hits k rs r) e
  where
    by_hit : (t : Bool) → hits k y ≡ t → (find (hits k) rs ≡ Some r → hits k r ≡ true)
        → (if t then Some y else find (hits k) rs) ≡ Some r → hits k r ≡ true
    by_hit true h later e = subst (λ (x : Relocation). hits k x ≡ true) (same_Some y r e) h
    by_hit false h later e = later e

-- a field is found at each of its bytes
pub found_again : (k k' : ℕ) (rs : List Relocation) (r : Relocation) → AreApart rs → find (hits k) rs ≡ Some r
    → hits k' r ≡ true → find (hits k') rs ≡ Some r
found_again k k' [] r apart e h = absurd (no_option r e)
found_again k k' (y ∷ rs) r apart e h =
    by_hit (hits k y) refl (λ later. found_again k k' rs r (apart_rest y rs apart) later h) e
  where
    by_hit : (t : Bool) → hits k y ≡ t → (find (hits k) rs ≡ Some r → find (hits k') rs ≡ Some r)
        → (if t then Some y else find (hits k) rs) ≡ Some r
        → find (hits k') (y ∷ rs) ≡ Some r
    by_hit true first later e =
        let same : y ≡ r = same_Some y r e in
        let here : hits k' y ≡ true = subst (λ (x : Relocation). hits k' x ≡ true) (sym same) h in
        rw here (ap Some same)
    by_hit false first later e = by_other (hits k' y) refl (later e)
      where
        by_other : (t : Bool) → hits k' y ≡ t → find (hits k') rs ≡ Some r → find (hits k') (y ∷ rs) ≡ Some r
        by_other true other rest = absurd (no_option r (sym (none_more y rs k' apart (hits_parts k' y other).1) ∙ rest))
        by_other false other rest = rw other rest

pub found_in : (k : ℕ) (rs : List Relocation) (r : Relocation) → find (hits k) rs ≡ Some r → Contains rs r
found_in k [] r e = absurd (no_option r e)
found_in k (y ∷ rs) r e = by_hit (hits k y) e (found_in k rs r)
  where
    by_hit : (t : Bool) → (if t then Some y else find (hits k) rs) ≡ Some r
        → (find (hits k) rs ≡ Some r → Contains rs r) → Contains (y ∷ rs) r
    by_hit true e later = (0, omega arith, same_Some y r e)
    by_hit false e later = let x = later e in (suc x.0, omega (arith, x.1), x.2)
