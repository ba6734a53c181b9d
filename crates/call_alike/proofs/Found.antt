-- What is fixed of live instances: at a place of one it is that one's alone, and it is read alike on both sides.
use Rattle.std.proofs.Common.{if◌then◌else◌, ◌≡◌, ◌∙◌, ◌==◌, ℕ, zero, suc, Bool, true, false, List, [], ◌∷◌, All}
use Rattle.std.proofs.Common.{Option, Some, None, refl, sym, arith}
use Rattle.std.specs.List.{find, flat_map, list_any}
use Rattle.std.specs.Option.{option_or}
use Rattle.std.proofs.lemmas.Bool.{eq-eqb, eqb-true, or_parts}
use Rattle.address_map.specs.Map.{owner_at}
use Rattle.guest_operands.specs.declared.space.Access.{Access}
use Rattle.guest_operands.specs.declared.space.Access.TheVariants.{Read}
use Rattle.guest_machine.specs.Ranges.{Range, byte_in}
use Rattle.loaded_modules.specs.declared.instance.Instance.{Instance}
use Rattle.thread_blocks.specs.Instances.{Loads}
use Rattle.thread_blocks.specs.SpaceLaws.{FoundAlike}
use Rattle.whole_meaning.specs.Meanings.{Meaning}
use Rattle.tied_meaning.specs.Numbers.{Setting, SameByte}
use Rattle.tied_meaning.specs.Ties.{IsTied}
use Rattle.tied_memory.proofs.Live.{found_holds}
use Rattle.tied_memory.proofs.Ranges.{found_behind}

-- ** the one instance whose place it is

abbrev pub is_number : ℕ → Instance → Bool
is_number number x = x.number == number

-- fixed: the ranges of an instance that no thread writes, of the one side or of the other
module _ {B : Type 0} (access : Access) (fixed : Instance → List (Range B)) (place : ℕ) where
  abbrev pub of_owner : Option Instance → Option B
  of_owner None = None
  of_owner (Some x) = byte_in access (fixed x) place

  abbrev pub HasOwnPlaces : Instance → Type 0
  HasOwnPlaces x = (b : B) → byte_in access (fixed x) place ≡ Some b → owner_at place ≡ x.number

  same_twice : (o : Option B) → option_or o o ≡ o
  same_twice None = refl
  same_twice (Some b) = refl

  nothing_behind : (o : Option B) → option_or o None ≡ o
  nothing_behind None = refl
  nothing_behind (Some b) = refl

  module _ (known : ℕ → Option Instance) where
    abbrev pub IsKnown : Instance → Type 0
    IsKnown x = known x.number ≡ Some x

    -- should two of the list have its number, they are one: what is known of the number
    pub found_of_owner : (live : List Instance) → All IsKnown live → All HasOwnPlaces live
        → byte_in access (flat_map fixed live) place ≡ of_owner (find (is_number (owner_at place)) live)
    found_of_owner [] all own = refl
    found_of_owner (y ∷ live) all own =
        found_behind access (fixed y) (flat_map fixed live) place
        ∙ of_test (y.number == owner_at place) refl (find (is_number (owner_at place)) live) refl
        (found_of_owner live others (λ k d below. own (suc k) d (omega (arith, below))))
      where
        others : All IsKnown live
        others k d below = all (suc k) d (omega (arith, below))

        of_test : (b : Bool) → (y.number == owner_at place) ≡ b → (o : Option Instance)
            → find (is_number (owner_at place)) live ≡ o → byte_in access (flat_map fixed live) place ≡ of_owner o
            → option_or (byte_in access (fixed y) place) (byte_in access (flat_map fixed live) place)
            ≡ of_owner (if b then Some y else o)
        of_test true t None f e = rw e (nothing_behind (byte_in access (fixed y) place))
        of_test true t (Some z) f e =
            let k = found_holds (is_number (owner_at place)) IsKnown live z others f in
            let mine : known y.number ≡ Some y = all zero y (omega arith) in
            let theirs : known z.number ≡ Some z = k.0 in
            let numbers : y.number ≡ z.number =
            eqb-true y.number (owner_at place) t ∙ sym (eqb-true z.number (owner_at place) k.1) in
            let same : z ≡ y = cc in
            rw (e, same) (same_twice (byte_in access (fixed y) place))
        of_test false t o f e = of_byte (byte_in access (fixed y) place) refl
          where
            of_byte : (c : Option B) → byte_in access (fixed y) place ≡ c
                → option_or (byte_in access (fixed y) place) (byte_in access (flat_map fixed live) place) ≡ of_owner o
            of_byte None g = rw g e
            of_byte (Some b) g =
                let own_place : owner_at place ≡ y.number = own zero y (omega arith) b g in
                let never : true ≡ false = sym (eq-eqb y.number (owner_at place) (sym own_place)) ∙ t in
                absurd cc

-- ** what is read

-- where no instance has a room, this one has none
pub outside : (room : Instance → Bool) (live : List Instance) → list_any room live ≡ false
    → All (λ (x : Instance). room x ≡ false) live
outside room [] e k d below = absurd (omega (arith, below))
outside room (x ∷ live) e zero d below = (or_parts (room x) (list_any room live) e).0
outside room (x ∷ live) e (suc k) d below =
    outside room live (or_parts (room x) (list_any room live) e).1 k d (omega (arith, below))

or_alike : {B B' : Type 0} (R : B → B' → Type 0) (a b : Option B) (a' b' : Option B') → FoundAlike R a a'
    → FoundAlike R b b' → FoundAlike R (option_or a b) (option_or a' b')
or_alike R None b None b' h k = k
or_alike R None b (Some y) b' h k = absurd h
or_alike R (Some x) b None b' h k = absurd h
or_alike R (Some x) b (Some y) b' h k = h

-- outside all rooms of live instances
pub reads_alike : (g : Setting) (m : Meaning) (q : Loads ℕ) (live : List Instance) → All (IsTied g m q) live
    → (place : ℕ) → list_any (λ (x : Instance). m.room x place) live ≡ false
    → FoundAlike (SameByte g) (byte_in Read (flat_map m.loads.fixed live) place)
    (byte_in Read (flat_map q.fixed live) place)
reads_alike g m q [] tied place out = tt
reads_alike g m q (x ∷ live) tied place out =
    let parts = or_parts (m.room x place) (list_any (λ (y : Instance). m.room y place) live) out in
    rw (
      found_behind Read (m.loads.fixed x) (flat_map m.loads.fixed live) place,
      found_behind Read (q.fixed x) (flat_map q.fixed live) place,
    )
    (or_alike (SameByte g) (byte_in Read (m.loads.fixed x) place) (byte_in Read (flat_map m.loads.fixed live) place)
    (byte_in Read (q.fixed x) place) (byte_in Read (flat_map q.fixed live) place)
    ((tied zero x (omega arith)).reads place parts.0)
    (reads_alike g m q live (λ k d below. tied (suc k) d (omega (arith, below))) place parts.1))
