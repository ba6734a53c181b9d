-- Two lists of bytes that hold the same m bytes from an offset on: what is read inside these bytes is the same.
use Rattle.std.proofs.Common.{◌≡◌, ◌+◌, ◌-◌, ◌<◌, ◌≤◌, ◌∙◌, ℕ, List, sym, ap, arith, length, take, drop, slice_index}
use Rattle.std.proofs.Common.{slice_range, subst}
use Rattle.std.proofs.lemmas.List.{length-drop, length-take}
use Rattle.elf_records.specs.Fields.{number_at, part_at}
use Rattle.elf_records.specs.Records.{symbol_at, rela_at, dynamic_at}
use Rattle.elf_records.specs.Laws.{number_at-own, part_at-own}
use Rattle.elf_records.specs.RecordLaws.{symbol_at-own, rela_at-own, dynamic_at-own}

-- the same m bytes stand at an offset of both
abbrev pub HoldSame : ℕ → ℕ → List ℕ → List ℕ → Type 0
HoldSame m at f b = part_at m at f ≡ part_at m at b

-- n bytes inside them are the same
pub same_part : (m at : ℕ) (f b : List ℕ) → HoldSame m at f b → (n p : ℕ) → at ≤ p → p + n ≤ at + m
    → part_at n p f ≡ part_at n p b
same_part m at f b same n p from to =
    let k : ℕ = p - at in
    let within : k + n ≤ m = omega arith in
    let place : at + k ≡ p = omega arith in
    let inner : part_at n (at + k) f ≡ part_at n (at + k) b =
    sym (part_at-own n k m at f within) ∙ ap (part_at n k) same ∙ part_at-own n k m at b within in
    let P : ℕ → Type 0 = λ q. part_at n q f ≡ part_at n q b in
    subst P place inner

-- a number inside them is the same
pub same_number : (m at : ℕ) (f b : List ℕ) → HoldSame m at f b → (n p : ℕ) → at ≤ p → p + n ≤ at + m
    → number_at n p f ≡ number_at n p b
same_number m at f b same n p from to =
    let k : ℕ = p - at in
    let within : k + n ≤ m = omega arith in
    let place : at + k ≡ p = omega arith in
    let inner : number_at n (at + k) f ≡ number_at n (at + k) b =
    sym (number_at-own n k m at f within) ∙ ap (number_at n k) same ∙ number_at-own n k m at b within in
    let P : ℕ → Type 0 = λ q. number_at n q f ≡ number_at n q b in
    subst P place inner

-- a number of one byte is that byte
number_of_byte : (p : ℕ) (xs : List ℕ) → number_at 1 p xs ≡ slice_index xs p
unfolding number_at
number_of_byte p xs = omega arith

-- a byte inside them is the same
pub same_byte : (m at : ℕ) (f b : List ℕ) → HoldSame m at f b → (p : ℕ) → at ≤ p → p < at + m
    → slice_index f p ≡ slice_index b p
same_byte m at f b same p from to =
    sym (number_of_byte p f) ∙ same_number m at f b same 1 p from (omega arith) ∙ number_of_byte p b

-- an entry of a dynamic array
pub same_dynamic : (m at : ℕ) (f b : List ℕ) → HoldSame m at f b → (p : ℕ) → at ≤ p → p + 16 ≤ at + m
    → dynamic_at p f ≡ dynamic_at p b
same_dynamic m at f b same p from to =
    sym (dynamic_at-own p f) ∙ ap (dynamic_at 0) (same_part m at f b same 16 p from to) ∙ dynamic_at-own p b

-- a symbol
pub same_symbol : (m at : ℕ) (f b : List ℕ) → HoldSame m at f b → (p : ℕ) → at ≤ p → p + 24 ≤ at + m
    → symbol_at p f ≡ symbol_at p b
same_symbol m at f b same p from to =
    sym (symbol_at-own p f) ∙ ap (symbol_at 0) (same_part m at f b same 24 p from to) ∙ symbol_at-own p b

-- a relocation
pub same_rela : (m at : ℕ) (f b : List ℕ) → HoldSame m at f b → (p : ℕ) → at ≤ p → p + 24 ≤ at + m
    → rela_at p f ≡ rela_at p b
same_rela m at f b same p from to =
    sym (rela_at-own p f) ∙ ap (rela_at 0) (same_part m at f b same 24 p from to) ∙ rela_at-own p b

-- n bytes from an offset on, by where they end
pub range_is_part : (n at : ℕ) (xs : List ℕ) → slice_range xs at (at + n) ≡ part_at n at xs
unfolding part_at
range_is_part n at xs =
    let size : at + n - at ≡ n = omega arith in
    ap (λ k. take k (drop at xs)) size

-- a range of bytes inside them
pub same_range : (m at : ℕ) (f b : List ℕ) → HoldSame m at f b → (p n : ℕ) → at ≤ p → p + n ≤ at + m
    → slice_range f p (p + n) ≡ slice_range b p (p + n)
same_range m at f b same p n from to =
    range_is_part n p f ∙ same_part m at f b same n p from to ∙ sym (range_is_part n p b)

-- bytes that are all there lie in the list
pub part_length : (n at : ℕ) (xs : List ℕ) → at + n ≤ length xs → length (part_at n at xs) ≡ n
unfolding part_at
part_length n at xs inside = omega (arith, length-take n (drop at xs), length-drop at xs)

-- and where so many are there, the list is as long
pub part_inside : (n at : ℕ) (xs : List ℕ) → 0 < n → length (part_at n at xs) ≡ n → at + n ≤ length xs
unfolding part_at
part_inside n at xs some long = omega (arith, length-take n (drop at xs), length-drop at xs)
