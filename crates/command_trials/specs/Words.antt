-- What the words of trials say: a count, a seed, and kinds of inputs.
use Rattle.std.specs.Prelude.{◌≡◌, ◌<◌, ◌^◌, ◌||◌, ℕ, Bool, List, String, codes, drop, slice_get, string_bytes}
use Rattle.std.specs.Prelude.{IsSomeAnd, IsTrue}
use Rattle.std.specs.List.{All}
use Rattle.std.specs.Str.{bytes_eq}
use Rattle.std.specs.Str.Parse.{IsNumeral, digits_value, without_leading_plus}

-- a word that is a decimal number of 64 bits
abbrev pub IsNumber : List ℕ → Type 0
IsNumber word = IsNumeral 10 (without_leading_plus word) × (digits_value 10 (without_leading_plus word) < 2 ^ 64)

-- a word that is this number
abbrev pub Gives : List ℕ → ℕ → Type 0
Gives word number = IsNumber word × (digits_value 10 (without_leading_plus word) ≡ number)

-- the names of the kinds
abbrev pub is_kind : List ℕ → Bool
is_kind name = bytes_eq name (codes "jobs") || (bytes_eq name (codes "objects") || bytes_eq name (codes "images"))

module _ {A : Type 0} where
  -- words of which the first gives the count and the second the seed
  abbrev pub IsPlan : List (String A) → ℕ → ℕ → Type 0
  IsPlan words count seed =
      IsSomeAnd (slice_get words 0) (λ word. Gives (string_bytes word) count)
      × IsSomeAnd (slice_get words 1) (λ word. Gives (string_bytes word) seed)

  -- words each of which is the name of a kind
  abbrev pub AreKinds : List (String A) → Type 0
  AreKinds words = All (λ word. IsTrue (is_kind (string_bytes word))) words

  -- a count, a seed, and kinds
  pub record AreWords (words : List (String A)) : Type 0 where
    pub count : IsSomeAnd (slice_get words 0) (λ word. IsNumber (string_bytes word))
    pub seed : IsSomeAnd (slice_get words 1) (λ word. IsNumber (string_bytes word))
    pub kinds : AreKinds (drop 2 words)
