-- What is found on both sides, or on neither; and what is found by its owner in what a thread holds.
use Rattle.std.proofs.Common.{if◌then◌else◌, ◌≡◌, ℕ, zero, suc, Bool, true, false, List, [], ◌∷◌, All, Option, Some}
use Rattle.std.proofs.Common.{None, refl, ap, arith}
use Rattle.std.specs.Prelude.{option_map}
use Rattle.std.specs.List.{find}
use Rattle.std.specs.Option.{option_or}
use Rattle.guest_machine.specs.Follow.{All2}
use Rattle.job_meaning.specs.declared.values.Byte.{Byte}
use Rattle.thread_blocks.specs.Held.{Owned, Owner}
use Rattle.thread_blocks.specs.SpaceLaws.{FoundAlike}
use Rattle.tied_meaning.specs.Numbers.{Setting}
use Rattle.tied_meaning.specs.Threads.{SameOwned}

-- one of two, by tests that agree
pub either_alike : {X Y : Type 0} (Q : X → Y → Type 0) (b b' : Bool) (x z : X) (y w : Y) → b' ≡ b
    → (b' ≡ true → Q x y) → Q z w → Q (if b then x else z) (if b' then y else w)
either_alike Q true true x z y w e first second = first refl
either_alike Q true false x z y w e first second = absurd cc
either_alike Q false true x z y w e first second = absurd cc
either_alike Q false false x z y w e first second = second

module _ {A A' : Type 0} (Q : A → A' → Type 0) where
  -- the one, or else the other
  pub or_alike : (a b : Option A) (a' b' : Option A') → FoundAlike Q a a' → FoundAlike Q b b'
      → FoundAlike Q (option_or a b) (option_or a' b')
  or_alike None b None b' h k = k
  or_alike None b (Some x') b' h k = absurd h
  or_alike (Some x) b None b' h k = absurd h
  or_alike (Some x) b (Some x') b' h k = h

  pub map_alike : {C C' : Type 0} (R : C → C' → Type 0) (f : A → C) (f' : A' → C')
      → ((x : A) (x' : A') → Q x x' → R (f x) (f' x')) → (a : Option A) (a' : Option A') → FoundAlike Q a a'
      → FoundAlike R (option_map f a) (option_map f' a')
  map_alike R f f' each None None h = tt
  map_alike R f f' each None (Some x') h = absurd h
  map_alike R f f' each (Some x) None h = absurd h
  map_alike R f f' each (Some x) (Some x') h = each x x' h

-- test: of owners; P: what is known of all ranges of the machine's
module _ (g : Setting) (test : Owner → Bool) (P : Owned ℕ → Type 0) where
  -- two ranges that are found by it
  abbrev pub AreFound : Owned Byte → Owned ℕ → Type 0
  AreFound o o' = SameOwned g o o' × (P o' × (test o'.owner ≡ true))

  pub find_alike : (xs : List (Owned Byte)) (ys : List (Owned ℕ)) → All2 (SameOwned g) xs ys → All P ys
      → FoundAlike AreFound (find (λ o. test o.owner) xs) (find (λ o. test o.owner) ys)
  find_alike [] [] h p = tt
  find_alike [] (y ∷ ys) h p = absurd h
  find_alike (x ∷ xs) [] h p = absurd h
  find_alike (x ∷ xs) (y ∷ ys) h p =
      either_alike (FoundAlike AreFound) (test x.owner) (test y.owner) (Some x) (find (λ o. test o.owner) xs)
      (Some y) (find (λ o. test o.owner) ys) (ap test h.0.owner) (λ is. (h.0, (p zero y (omega arith), is)))
      (find_alike xs ys h.1 (λ k e below. p (suc k) e (omega (arith, below))))
