-- Accesses of several bytes, one of which can be neither read nor written.
use Rattle.std.proofs.Common.{◌≡◌, ◌⊎◌, inl, inr, ◌<◌, ℕ, zero, suc, Bool, true, false, List, [], ◌∷◌, length, Option}
use Rattle.std.proofs.Common.{Some, None, Result, Ok, Err, refl, ap, arith}
use Rattle.std.specs.Prelude.{slice_index_or, if◌then◌else◌}
use Rattle.std.specs.List.{Contains}
use Rattle.std.proofs.lemmas.List.Elements.{Contains-append_cases}
use Rattle.guest_operands.specs.Access.{Accesses, Refusal, Refused, Shut, all_write, both_reached, bytes_at, bytes_in}
use Rattle.guest_operands.specs.Access.{next_place, reached}
use Rattle.guest_machine.specs.declared.touch.Touch.{Touch}
use Rattle.guest_machine.specs.declared.touch.Touches.{Touches}
use Rattle.guest_machine.specs.Touch.{places_from, refuses, touched, touched_then}

-- no byte is closed
abbrev pub IsOpen : {A : Type 0} → Result A Refusal → Type 0
IsOpen (Ok x) = Unit {0}
IsOpen (Err Refused) = Unit {0}
IsOpen (Err Shut) = ⊥

-- an access is made as by the other memory, or it is refused
abbrev pub IsLess : {A : Type 0} → Result A Refusal → Result A Refusal → Type 0
IsLess r r' = (r' ≡ r) ⊎ (r' ≡ Err Refused)

module _ {A C D : Type 0} (f : A → C → D) where
  pub refused-first : (b : Result C Refusal) → IsOpen b → both_reached f (Err Refused) b ≡ Err Refused
  refused-first (Ok x) h = refl
  refused-first (Err Refused) h = refl
  refused-first (Err Shut) h = absurd h

  pub refused-rest : (a : Result A Refusal) → IsOpen a → both_reached f a (Err Refused) ≡ Err Refused
  refused-rest (Ok x) h = refl
  refused-rest (Err Refused) h = refl
  refused-rest (Err Shut) h = absurd h

  pub both-open : (a : Result A Refusal) (b : Result C Refusal) → IsOpen a → IsOpen b → IsOpen (both_reached f a b)
  both-open (Ok x) (Ok y) h k = tt
  both-open (Ok x) (Err why) h k = k
  both-open (Err Refused) b h k = tt
  both-open (Err Shut) b h k = absurd h

  pub both-less : (a a' : Result A Refusal) (b b' : Result C Refusal) → IsOpen a → IsOpen b → IsLess a a' → IsLess b b'
      → IsLess (both_reached f a b) (both_reached f a' b')
  both-less a a' b b' h k (inl e) (inl g) = inl (rw (e, g) refl)
  both-less a a' b b' h k (inl e) (inr g) = inr (rw (e, g) (refused-rest a h))
  both-less a a' b b' h k (inr e) (inl g) = inr (rw e refl)
  both-less a a' b b' h k (inr e) (inr g) = inr (rw e refl)

pub reached-open : {A C : Type 0} (f : A → C) (r : Result A Refusal) → IsOpen r → IsOpen (reached f r)
reached-open f (Ok x) h = tt
reached-open f (Err why) h = h

pub reached-less : {A C : Type 0} (f : A → C) (r r' : Result A Refusal) → IsLess r r'
    → IsLess (reached f r) (reached f r')
reached-less f r r' (inl e) = inl (ap (reached f) e)
reached-less f r r' (inr e) = inr (ap (reached f) e)

-- one of so many bytes from a place on
abbrev pub IsAmong : ℕ → ℕ → ℕ → Type 0
IsAmong a place zero = ⊥
IsAmong a place (suc size) = (place ≡ a) ⊎ IsAmong a (next_place place) size

-- one of the bytes of an access
abbrev pub IsIn : ℕ → Option Touch → Type 0
IsIn a None = ⊥
IsIn a (Some touch) = IsAmong a touch.address (bytes_in touch.size)

contains-head : (a x k : ℕ) (xs : List ℕ) → k < suc (length xs) → slice_index_or (x ∷ xs) k a ≡ a
    → (x ≡ a) ⊎ Contains xs a
contains-head a x zero xs h e = inl e
contains-head a x (suc k) xs h e = inr (k, omega arith, e)

no-element : (a k : ℕ) → k < 0 → ⊥
no-element a k h = omega arith

among : (a : ℕ) (size place : ℕ) → Contains (places_from place size) a → IsAmong a place size
among a zero place h = no-element a h.0 h.1
among a (suc size) place h =
    elim (contains-head a place h.0 (places_from (next_place place) size) h.1 h.2) as (λ c. IsAmong a place (suc size))
    [ inl e ↦ inl e | inr more ↦ inr (among a size (next_place place) more) ]

module _ {M B : Type 0} (acc : Accesses M B) (m : M) (a : ℕ) where
  rest-in : (b : Bool) (rest : List ℕ) → Contains (if b then [] else rest) a → Contains rest a
  rest-in true rest h = absurd (no-element a h.0 h.1)
  rest-in false rest h = h

  last-in : (second : Option Touch) → Contains (touched_then acc m second []) a → IsIn a second
  last-in None h = no-element a h.0 h.1
  last-in (Some touch) h =
      elim (Contains-append_cases (places_from touch.address (bytes_in touch.size))
      (if refuses acc m touch.direction touch.address (bytes_in touch.size) then [] else []) a h) as
      (λ c. IsIn a (Some touch)) [
        | inl here ↦ among a (bytes_in touch.size) touch.address here
        | inr more ↦ absurd (let none = rest-in (refuses acc m touch.direction touch.address (bytes_in touch.size)) []
            more in no-element a none.0 none.1)
      ]

  -- a byte that is touched is one of the first access, or of the second
  pub touched-in : (it : Touches) → Contains (touched acc m it) a → IsIn a it.first ⊎ IsIn a it.second
  unfolding touched
  touched-in it h = parts it.first it.second h
    where
      parts : (first second : Option Touch) → Contains (touched_then acc m first (touched_then acc m second [])) a
          → IsIn a first ⊎ IsIn a second
      parts None second h = inr (last-in second h)
      parts (Some touch) second h =
          elim (Contains-append_cases (places_from touch.address (bytes_in touch.size))
          (if refuses acc m touch.direction touch.address
          (bytes_in touch.size) then [] else touched_then acc m second []) a h) as
          (λ c. IsIn a (Some touch) ⊎ IsIn a second) [
            | inl here ↦ inl (among a (bytes_in touch.size) touch.address here)
            | inr more ↦ inr (last-in second (rest-in (refuses acc m touch.direction touch.address
                (bytes_in touch.size)) (touched_then acc m second []) more))
          ]

-- acc': a memory that allows no more than acc
module _ {M B : Type 0} (acc acc' : Accesses M B) (m : M) where
  pub record AllowsLess : Type 0 where
    pub open_byte : (place : ℕ) → IsOpen (acc.byte m place)
    pub open_writes : (place : ℕ) → IsOpen (acc.writes m place)
    pub byte : (place : ℕ) → IsLess (acc.byte m place) (acc'.byte m place)
    pub writes : (place : ℕ) → IsLess (acc.writes m place) (acc'.writes m place)

  module _ (less : AllowsLess) where
    pub bytes-open : (size place : ℕ) → IsOpen (bytes_at acc m place size)
    bytes-open zero place = tt
    bytes-open (suc size) place = both-open ◌∷◌ _ _ (less.open_byte place) (bytes-open size (next_place place))

    pub writes-open : (size place : ℕ) → IsOpen (all_write acc m place size)
    writes-open zero place = tt
    writes-open (suc size) place = both-open (λ (x : Unit {0}) (y : Unit {0}). tt {0}) _ _ (less.open_writes place)
        (writes-open size (next_place place))

    pub bytes-less : (size place : ℕ) → IsLess (bytes_at acc m place size) (bytes_at acc' m place size)
    bytes-less zero place = inl refl
    bytes-less (suc size) place =
        both-less ◌∷◌ (acc.byte m place) (acc'.byte m place) (bytes_at acc m (next_place place) size)
        (bytes_at acc' m (next_place place) size)
        (less.open_byte place) (bytes-open size (next_place place)) (less.byte place)
        (bytes-less size (next_place place))

    pub writes-less : (size place : ℕ) → IsLess (all_write acc m place size) (all_write acc' m place size)
    writes-less zero place = inl refl
    writes-less (suc size) place =
        both-less (λ (x : Unit {0}) (y : Unit {0}). tt {0}) (acc.writes m place) (acc'.writes m place)
        (all_write acc m (next_place place) size)
        (all_write acc' m (next_place place) size) (less.open_writes place) (writes-open size (next_place place))
        (less.writes place) (writes-less size (next_place place))

    less-open : {A : Type 0} (r r' : Result A Refusal) → IsOpen r → IsLess r r' → IsOpen r'
    less-open r r' h (inl e) = rw e h
    less-open r r' h (inr e) = rw e tt

    module _ (a : ℕ) where
      module _ (unread : acc'.byte m a ≡ Err Refused) where
        pub bytes-refused : (size place : ℕ) → IsAmong a place size → bytes_at acc' m place size ≡ Err Refused
        bytes-refused zero place h = absurd h
        bytes-refused (suc size) place (inl e) =
            let rest : IsOpen (bytes_at acc' m (next_place place) size) =
            less-open _ _ (bytes-open size (next_place place)) (bytes-less size (next_place place)) in
            rw (e, unread) (refused-first ◌∷◌ (bytes_at acc' m (next_place a) size) (rw (← e) rest))
        bytes-refused (suc size) place (inr h) =
            rw (bytes-refused size (next_place place) h)
            (refused-rest ◌∷◌ (acc'.byte m place) (less-open _ _ (less.open_byte place) (less.byte place)))

      module _ (unwritten : acc'.writes m a ≡ Err Refused) where
        pub writes-refused : (size place : ℕ) → IsAmong a place size → all_write acc' m place size ≡ Err Refused
        writes-refused zero place h = absurd h
        writes-refused (suc size) place (inl e) =
            let rest : IsOpen (all_write acc' m (next_place place) size) =
            less-open _ _ (writes-open size (next_place place)) (writes-less size (next_place place)) in
            rw (e, unwritten) (refused-first (λ (x : Unit {0}) (y : Unit {0}). tt {0})
            (all_write acc' m (next_place a) size) (rw (← e) rest))
        writes-refused (suc size) place (inr h) =
            rw (writes-refused size (next_place place) h)
            (refused-rest (λ (x : Unit {0}) (y : Unit {0}). tt {0}) (acc'.writes m place)
            (less-open _ _ (less.open_writes place) (less.writes place)))
