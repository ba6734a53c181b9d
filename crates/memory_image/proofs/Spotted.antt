-- What stands at an address of a class, where none of its sections does, and where just one does.
use Rattle.std.proofs.Common.{◌≡◌, ◌<◌, ◌+◌, ℕ, zero, suc, List, [], ◌∷◌, true, false, None, Some, length, refl, subst}
use Rattle.std.proofs.Common.{arith}
use Rattle.std.specs.Prelude.{slice_index_or}
use Rattle.std.specs.List.{find, range_with_len}
use Rattle.std.proofs.lemmas.Bool.{false_from_ne_true}
use Rattle.elf_object.specs.Object.{section_count}
use Rattle.object_faults.specs.declared.class.SectionClass.{SectionClass}
use Rattle.tls_layout.specs.Sections.{Layout}
use Rattle.whole_meaning.specs.Spots.{spot_at, spot_from, stands_at}
use Rattle.memory_image.proofs.RangeLists.{find_none, find_one}

-- objects: those from number n on; o is the number of the one at place i of them
pub spot_none : (p : Layout) (class : SectionClass) (address n : ℕ) (objects : List (List ℕ))
    → ((o i s : ℕ) → o ≡ n + i → i < length objects → s < section_count (slice_index_or objects i [])
    → stands_at p class o (slice_index_or objects i []) address s ≡ false)
    → spot_from p class n objects address ≡ None
spot_none p class address n [] none = refl
spot_none p class address n (b ∷ more) none =
    let here : find (stands_at p class n b address) (range_with_len 0 (section_count b)) ≡ None =
    find_none (stands_at p class n b address) 0 (section_count b)
    (λ s above below. none n 0 s (omega arith) (omega arith) (omega arith)) in
    rw here (spot_none p class address (n + 1) more
    (λ o i s at there within. none o (suc i) s (omega arith) (omega arith) within))

pub spot_some : (p : Layout) (class : SectionClass) (address n : ℕ) (objects : List (List ℕ)) (o i s : ℕ) → o ≡ n + i
    → i < length objects
    → s < section_count (slice_index_or objects i [])
    → stands_at p class o (slice_index_or objects i []) address s ≡ true
    → ((o' i' s' : ℕ) → o' ≡ n + i' → i' < length objects → s' < section_count (slice_index_or objects i' [])
    → stands_at p class o' (slice_index_or objects i' []) address s' ≡ true → (i' ≡ i) × (s' ≡ s))
    → spot_from p class n objects address ≡ Some (spot_at p o address s)
spot_some p class address n [] o i s at there within stands one = absurd (omega arith)
spot_some p class address n (b ∷ more) o zero s at there within stands one =
    let same : o ≡ n = omega arith in
    let here : stands_at p class n b address s ≡ true =
    subst (λ (m : ℕ). stands_at p class m b address s ≡ true) same stands in
    let found : find (stands_at p class n b address) (range_with_len 0 (section_count b)) ≡ Some s =
    find_one (stands_at p class n b address) 0 (section_count b) s (omega arith) (omega arith) here
    (λ x lo hi is. (one n 0 x (omega arith) (omega arith) (omega arith) is).1) in
    rw (found, same) refl
spot_some p class address n (b ∷ more) o (suc i) s at there within stands one =
    let none : find (stands_at p class n b address) (range_with_len 0 (section_count b)) ≡ None =
    find_none (stands_at p class n b address) 0 (section_count b)
    (λ x lo hi. false_from_ne_true (stands_at p class n b address x) (λ is. other x (omega arith) is)) in
    rw none (spot_some p class address (n + 1) more o i s (omega arith) (omega arith) within stands rest)
  where
    other : (x : ℕ) → x < section_count b → stands_at p class n b address x ≡ true → ⊥
    other x below is = let e : (0 ≡ suc i) × (x ≡ s) = one n 0 x (omega arith) (omega arith) below is in omega arith

    rest : (o' i' s' : ℕ) → o' ≡ n + 1 + i' → i' < length more → s' < section_count (slice_index_or more i' [])
        → stands_at p class o' (slice_index_or more i' []) address s' ≡ true → (i' ≡ i) × (s' ≡ s)
    rest o' i' s' at' there' within' is =
        let e : (suc i' ≡ suc i) × (s' ≡ s) = one o' (suc i') s' (omega arith) (omega arith) within' is in
        (omega arith, e.1)
