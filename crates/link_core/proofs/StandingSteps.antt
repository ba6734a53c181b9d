-- What steps over a section make of one of its bytes.
use Rattle.std.proofs.Common.{◌≡◌, ◌+◌, ◌-◌, ◌<◌, ◌≤◌, ◌⊎◌, ◌&&◌, ◌∙◌, ℕ, zero, suc, Bool, true, false, List, [], ◌∷◌}
use Rattle.std.proofs.Common.{Option, None, Some, get_or, length, inl, inr, refl, ap, subst, arith}
use Rattle.std.specs.Prelude.{fold, nat_le, nat_lt, slice_get, slice_index_or, if◌then◌else◌}
use Rattle.std.specs.List.{Contains, find}
use Rattle.std.proofs.lemmas.Bool.{cases_lt}
use Rattle.std.proofs.lemmas.Bool.Decides.{nat_tests}
use Rattle.std.proofs.lemmas.Option.{slice_get-get_or}
use Rattle.elf_records.specs.Fields.{splice}
use Rattle.elf_records.specs.Laws.{length-splice}
use Rattle.tls_relocs.specs.Elements.{slice_get-splice_after, slice_get-splice_before, slice_get-splice_within}
use Rattle.link_core.proofs.LengthsKept.{fold_has}

-- n bytes, of which byte q is this
abbrev pub Has : ℕ → ℕ → ℕ → List ℕ → Type 0
Has n q byte now = (length now ≡ n) × (slice_get now q ≡ Some byte)

-- ** tests

pub inside_is : (a e k : ℕ) → (nat_le a k && nat_lt k e) ≡ true → (a ≤ k) × (k < e)
inside_is a e k h = grind (arith, nat_tests)

pub outside_is : (a w len k : ℕ) → len ≤ w → (nat_le a k && nat_lt k (a + w)) ≡ false → (k < a) ⊎ (a + len ≤ k)
outside_is a w len k few h = elim (cases_lt k a) [
  | inl before ↦ inl before
  | inr above ↦ elim (cases_lt k (a + w)) [
    | inl inside ↦ absurd (grind (arith, nat_tests))
    | inr behind ↦ inr (omega arith)
  ]
]

-- where one element alone passes, that one is found
pub one_found : {X : Type 0} (test : X → Bool) (xs : List X) (x : X) → Contains xs x → test x ≡ true
    → ((y : X) → Contains xs y → test y ≡ true → y ≡ x) → find test xs ≡ Some x
one_found test [] x has passes alone = absurd (omega arith)
one_found test (y ∷ ys) x has passes alone =
    of_test (test y) refl has.0 has.1 has.2 (λ among.
    one_found test ys x among passes (λ z there. alone z (suc there.0, omega arith, there.2)))
  where
    of_test : (t : Bool) → test y ≡ t → (i : ℕ) → i < length (y ∷ ys) → get_or (y ∷ ys) i x ≡ x
        → (Contains ys x → find test ys ≡ Some x) → (if t then Some y else find test ys) ≡ Some x
    of_test true e i below is rest = ap Some (alone y (0, omega arith, refl) e)
    of_test false e zero below is rest = let no : test y ≡ true = ap test is ∙ passes in absurd (cc)
    of_test false e (suc i) below is rest = rest (i, omega arith, is)

-- ** one after another

-- the byte of what is found, else the other
abbrev pub byte_of : {X : Type 0} → (X → ℕ) → Option X → ℕ → ℕ
byte_of value None byte = byte
byte_of value (Some x) byte = value x

module _ {X : Type 0} (n q : ℕ) (value : X → ℕ) (test : X → Bool) (f : List ℕ → X → List ℕ) where
  -- a step that passes the test writes its byte, another leaves what is there
  abbrev pub Writes : X → Type 0
  Writes x = (byte : ℕ) (now : List ℕ) → Has n q byte now → Has n q (if test x then value x else byte) (f now x)

  -- no two of these pass the test
  abbrev pub PassAlone : List X → Type 0
  PassAlone xs = (x y : X) → Contains xs x → Contains xs y → test x ≡ true → test y ≡ true → y ≡ x

  -- over a list
  pub one_writes : (xs : List X) → PassAlone xs → ((x : X) → Contains xs x → Writes x) → (byte : ℕ) (now : List ℕ)
      → Has n q byte now → Has n q (byte_of value (find test xs) byte) (fold f now xs)
  one_writes [] alone each byte now has = has
  one_writes (x ∷ xs) alone each byte now has =
      of_test (test x) refl (each x first byte now has)
      (one_writes xs (λ y z one two. alone y z (later y one) (later z two)) (λ y among. each y (later y among)) byte
      (f now x))
    where
      first : Contains (x ∷ xs) x
      first = (0, omega arith, refl)

      later : (y : X) → Contains xs y → Contains (x ∷ xs) y
      later y among = (suc among.0, omega (arith, among.1), among.2)

      -- one more leaves the first one's byte
      again : (y : X) → Contains xs y → test x ≡ true → (next : List ℕ) (t : Bool) → test y ≡ t
          → Has n q (if t then value y else value x) next → Has n q (value x) next
      again y among passes next true e long =
          subst (λ z. Has n q (value z) next) (alone x y first (later y among) passes e) long
      again y among passes next false e long = long

      of_test : (t : Bool) → test x ≡ t → Has n q (if t then value x else byte) (f now x)
          → (Has n q byte (f now x) → Has n q (byte_of value (find test xs) byte) (fold f (f now x) xs))
          → Has n q (byte_of value (if t then Some x else find test xs) byte) (fold f (f now x) xs)
      of_test true e made rest =
          fold_has (Has n q (value x)) f xs (f now x)
          (λ y among next long.
          again y among e (f next y) (test y) refl (each y (later y among) (value x) next long)) made
      of_test false e made rest = rest made

-- ** writing

-- what is written elsewhere
pub splice_leaves : (n q at : ℕ) (new : List ℕ) → at + length new ≤ n → (q < at) ⊎ (at + length new ≤ q)
    → (byte : ℕ) (now : List ℕ) → Has n q byte now → Has n q byte (splice at new now)
splice_leaves n q at new inside away byte now has =
    (length-splice at new now (omega (arith, has.0)) ∙ has.0, of_place away ∙ has.1)
  where
    of_place : (q < at) ⊎ (at + length new ≤ q) → slice_get (splice at new now) q ≡ slice_get now q
    of_place (inl before) = slice_get-splice_before at q new now (omega (arith, has.0)) before
    of_place (inr behind) = slice_get-splice_after at q new now (omega (arith, has.0)) behind

-- what is written there
pub splice_fills : (n q at : ℕ) (new : List ℕ) → at + length new ≤ n → at ≤ q → q < at + length new
    → (now : List ℕ) → length now ≡ n → Has n q (slice_index_or new (q - at) 0) (splice at new now)
splice_fills n q at new inside low high now is = (
  length-splice at new now (omega arith) ∙ is,
  slice_get-splice_within at q new now (omega arith) low high ∙ slice_get-get_or new (q - at) 0 (omega arith),
)
