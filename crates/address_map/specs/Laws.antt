-- Whose an address is, of instances that are moved and of a program that is not.
use Rattle.std.proofs.Common.{◌≡◌, ◌∙◌, ◌+◌, ◌*◌, ◌<◌, ◌≤◌, ◌^◌, ℕ, refl, arith}
use Rattle.std.proofs.lemmas.Bool.{le-ltb, lt-ltb}
use Rattle.address_map.specs.Map.{moved_bias, owner_at}

-- the 2^26 addresses from a moved instance's load bias on tell its number
pub moved_addresses_tell : (number place : ℕ) → moved_bias number ≤ place → place < moved_bias number + 2 ^ 26
    → owner_at place ≡ number
unfolding owner_at
moved_addresses_tell number place low high =
    rw (le-ltb place (2 ^ 32) (omega (arith, low))) (omega (arith, low, high))

-- an address below all of them is the program's, which is instance 1
pub fixed_addresses_tell : (place : ℕ) → place < 2 ^ 32 → owner_at place ≡ 1
unfolding owner_at
fixed_addresses_tell place low = rw (lt-ltb place (2 ^ 32) low) refl
