-- The accesses that a memory offers, byte by byte, and the accesses of several bytes made of them.
use Rattle.std.specs.Prelude.{◌≡◌, ◌⊎◌, ℕ, zero, suc, ◌+◌, ◌%◌, ◌^◌, List, [], ◌∷◌, Option, Some, None, Result, Ok, Err}
use Rattle.guest_arithmetic.specs.Values.{Operations}
use Rattle.guest_operands.specs.declared.space.Size.{Size}
use Rattle.guest_operands.specs.declared.space.Size.TheVariants.{Byte, Long, Quad}

-- why an access fails
pub data Refusal : Type 0 where
  -- the byte does not allow the access
  Refused : Refusal
  -- the byte is one of those that were closed
  Shut : Refusal

-- M: a memory, B: a byte
pub record Accesses (M B : Type 0) : Type 0 where
  -- the byte at a place, if it may be read
  pub byte : M → ℕ → Result B Refusal
  -- whether the byte at a place may be written
  pub writes : M → ℕ → Result (Unit {0}) Refusal
  -- the memory with a byte written
  pub put : M → ℕ → B → M
  -- the byte of code at a place, if it may be run
  pub code : M → ℕ → Option ℕ

-- how many bytes an access of data has
abbrev pub bytes_in : Size → ℕ
bytes_in Byte = 1
bytes_in Long = 4
bytes_in Quad = 8

abbrev pub IsSize : ℕ → Type 0
IsSize size = (size ≡ 1) ⊎ ((size ≡ 4) ⊎ (size ≡ 8))

-- the next place: addresses are taken modulo 2^64
abbrev pub next_place : ℕ → ℕ
next_place place = (place + 1) % 2 ^ 64

abbrev pub reached : {A C : Type 0} → (A → C) → Result A Refusal → Result C Refusal
reached f (Ok a) = Ok (f a)
reached f (Err why) = Err why

-- a byte and those after it: of two refusals, the first is reported
abbrev pub both_reached : {A C D : Type 0} → (A → C → D) → Result A Refusal → Result C Refusal → Result D Refusal
both_reached f (Ok a) rest = reached (f a) rest
both_reached f (Err why) rest = Err why

-- the lowest bytes of a word, from byte k on
abbrev pub bytes_from : {W F B : Type 0} → Operations W F B → W → ℕ → ℕ → List B
bytes_from ops word k zero = []
bytes_from ops word k (suc size) = ops.byte_of word k ∷ bytes_from ops word (k + 1) size

-- a byte of code and those after it
abbrev pub code_then : Option ℕ → List ℕ → List ℕ
code_then None rest = []
code_then (Some byte) rest = byte ∷ rest

module _ {M B : Type 0} (acc : Accesses M B) where
  -- `size` bytes from a place on
  abbrev pub bytes_at : M → ℕ → ℕ → Result (List B) Refusal
  bytes_at memory place zero = Ok []
  bytes_at memory place (suc size) = both_reached ◌∷◌ (acc.byte memory place) (bytes_at memory (next_place place) size)

  -- whether each of these bytes may be written
  abbrev pub all_write : M → ℕ → ℕ → Result (Unit {0}) Refusal
  all_write memory place zero = Ok tt
  all_write memory place (suc size) =
      both_reached (λ a b. tt) (acc.writes memory place) (all_write memory (next_place place) size)

  -- the memory with bytes written from a place on
  abbrev pub put_all : M → ℕ → List B → M
  put_all memory place [] = memory
  put_all memory place (byte ∷ bytes) = put_all (acc.put memory place byte) (next_place place) bytes

  -- the bytes of code from a place on, up to this many or up to the first that may not be run
  abbrev pub code_at : M → ℕ → ℕ → List ℕ
  code_at memory place zero = []
  code_at memory place (suc size) = code_then (acc.code memory place) (code_at memory (next_place place) size)

  -- the bytes that an instruction is read from: no instruction has more than 15
  unfoldable pub fetch_of : M → ℕ → List ℕ
  fetch_of memory place = code_at memory place 15

module _ {W F M B : Type 0} (ops : Operations W F B) (acc : Accesses M B) where
  -- the word of this many bytes at a place
  unfoldable pub load_of : M → ℕ → ℕ → Result W Refusal
  load_of memory place size = reached ops.joined (bytes_at acc memory place size)

  -- the memory with this many lowest bytes of a word written at a place
  unfoldable pub store_of : M → ℕ → ℕ → W → Result M Refusal
  store_of memory place size word =
      reached (λ done. put_all acc memory place (bytes_from ops word 0 size)) (all_write acc memory place size)
