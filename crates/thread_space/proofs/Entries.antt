-- Functions begin at low addresses, and images are moved by little.
use Rattle.std.proofs.Common.{◌≡◌, ◌∙◌, ◌+◌, ◌-◌, ◌^◌, ◌<◌, ◌≤◌, ◌==◌, ◌&&◌, ℕ, zero, suc, Bool, true, false, List, []}
use Rattle.std.proofs.Common.{◌∷◌, ◌++◌, length, Some, None, refl, sym, ap, subst, inl, inr, arith}
use Rattle.std.specs.Prelude.{if◌then◌else◌, not, slice_range, drop, take}
use Rattle.std.specs.List.{list_any, slice_get}
use Rattle.std.proofs.lemmas.Bool.{cases_Bool, ltb-true}
use Rattle.std.proofs.lemmas.List.{length-take, take_more}
use Rattle.std.proofs.lemmas.Option.{cond_some, get_or_from_slice_get, option_and_then_some, slice_get_within}
use Rattle.elf_records.specs.declared.file_header.TheConstants.{ET_EXEC}
use Rattle.image_rules.specs.declared.rule.Rule.TheVariants.{Segment as SegmentRule}
use Rattle.image_faults.specs.Faults.{Breaks, IsImage}
use Rattle.image_faults.specs.Parts.{base, header, loads, segment}
use Rattle.image_faults.specs.Segments.{IsRightLoad}
use Rattle.image_file.specs.declared.symbol.ImageSymbol.{ImageSymbol}
use Rattle.image_file.specs.Spelled.{Part, Spelled, part, spelled}
use Rattle.image_file.specs.Tabled.{length-tabled, tabled_at}
use Rattle.image_names.specs.Functions.{entry_in, function_place, is_code, runs_at}
use Rattle.elf_records.specs.Symbols.{is_tls}
use Rattle.loaded_modules.specs.Images.{JobImages, image_at}
use Rattle.loaded_modules.proofs.TlsKept.{at_most}
use Rattle.module_data.proofs.Low.{base_low, inside}

-- ** parts

fits : (b : List ℕ) (i : ℕ) → IsRightLoad b i → (segment b i).vaddr + (segment b i).filesz ≤ base b + 2 ^ 26
fits b i right = omega (arith, right.3.1, right.2.0)

load_ends : (b : List ℕ) → IsImage b → (i : ℕ) → i < loads b → (segment b i).vaddr + (segment b i).filesz ≤ 2 ^ 32
unfolding Breaks
load_ends b image i within =
    let low = at_most ((segment b i).vaddr + (segment b i).filesz) (base b + 2 ^ 26)
    (λ no. image SegmentRule i (inl (within, λ right. no (fits b i right)))) in
    omega (arith, low, base_low ((header b).e_type == ET_EXEC))

short : (xs : List ℕ) (from size : ℕ) → length (slice_range xs from (from + size)) ≤ size
short xs from size = omega (arith, length-take (from + size - from) (drop from xs))

part_ends : (b : List ℕ) → IsImage b → (i : ℕ) → i < loads b → (part b i).address + length (part b i).bytes ≤ 2 ^ 32
unfolding part
part_ends b image i within =
    omega (arith, load_ends b image i within, short b (segment b i).offset (segment b i).filesz)

found_ends : (b : List ℕ) → IsImage b → (i : ℕ) (p : Part) → slice_get (spelled b).parts i ≡ Some p
    → p.address + length p.bytes ≤ 2 ^ 32
found_ends b image i p is =
    let within : i < loads b = let lt = slice_get_within (spelled b).parts i p is in
    let long = length-tabled (part b) (loads b) in omega (arith, lt, long) in
    let same = inside (part b i) p (sym (tabled_at (part b) (loads b) i within) ∙ is) in
    subst (λ (q : Part). q.address + length q.bytes ≤ 2 ^ 32) same (part_ends b image i within)

-- ** functions

and_parts : (a b : Bool) → (a && b) ≡ true → (a ≡ true) × (b ≡ true)
and_parts true b both = (refl, both)
and_parts false b both = absurd (cc both)

record Passing {X : Type 0} (p : X → Bool) (xs : List X) : Type 0 where
  at : ℕ
  x : X
  is : slice_get xs at ≡ Some x
  passes : p x ≡ true

passing : {X : Type 0} (p : X → Bool) (xs : List X) → list_any p xs ≡ true → Passing p xs
passing p [] some = absurd (cc some)
passing p (x ∷ xs) some = elim (cases_Bool (p x)) [
  | inl fits ↦ record { at = 0; x = x; is = refl; passes = fits }
  | inr fails ↦ let more = passing p xs (rw fails at some) in
      record { at = suc more.at; x = more.x; is = more.is; passes = more.passes }
]

runs_within : (place : ℕ) (p : Part) → runs_at place p ≡ true → place < p.address + length p.bytes
runs_within place p runs =
    let parts = and_parts (is_code p.class) _ runs in
    ltb-true place (p.address + length p.bytes) (and_parts _ _ parts.1).1

run_low : (b : List ℕ) → IsImage b → (place : ℕ) → list_any (runs_at place) (spelled b).parts ≡ true → place < 2 ^ 32
run_low b image place some =
    let here = passing (runs_at place) (spelled b).parts some in
    omega (arith, runs_within place here.x here.passes, found_ends b image here.at here.x here.is)

place_low : (b : List ℕ) → IsImage b → (symbol : ImageSymbol) (place : ℕ)
    → function_place (spelled b).parts symbol ≡ Some place → place < 2 ^ 32
place_low b image symbol place is =
    let found = cond_some ((symbol.is_defined && not (is_tls symbol.kind))
    && list_any (runs_at symbol.value) (spelled b).parts) symbol.value place is in
    subst (λ n. n < 2 ^ 32) found.1
    (run_low b image symbol.value (and_parts (symbol.is_defined && not (is_tls symbol.kind)) _ found.0).1)

entry_of : (b : List ℕ) → IsImage b → (name : List ℕ) (place : ℕ) → entry_in (spelled b) name ≡ Some place
    → place < 2 ^ 32
unfolding entry_in
entry_of b image name place is =
    option_and_then_some (function_place (spelled b).parts) _ place is
    (λ symbol found says. place_low b image symbol place says)

-- where a function begins, before its image is moved
pub entry_low : (image : Spelled) → (b : List ℕ) × (IsImage b × (image ≡ spelled b)) → (name : List ℕ) (place : ℕ)
    → entry_in image name ≡ Some place → place < 2 ^ 32
entry_low image (b, (is, spells)) name place says =
    entry_of b is name place (ap (λ (s : Spelled). entry_in s name) (sym spells) ∙ says)

-- ** moves

-- ** images one by one

pub one_more : {X : Type 0} (xs : List X) (i : ℕ) (x : X) → slice_get xs i ≡ Some x
    → take (i + 1) xs ≡ take i xs ++ x ∷ []
one_more xs i x is = take_more xs i x (slice_get_within xs i x is)
    ∙ ap (λ y. take i xs ++ y ∷ []) (get_or_from_slice_get xs i x x is)

pub image_after : (m : JobImages) (i : ℕ) → slice_get m.images i ≡ image_at m (i + 1)
unfolding image_at
image_after m i =
    let next : i + 1 ≡ suc i = omega arith in
    rw next refl

pub none_there : {X : Type 0} (xs : List X) (i : ℕ) → slice_get xs i ≡ None → i < length xs → ⊥
none_there [] i none within = omega (arith, within)
none_there (x ∷ xs) zero none within = cc none
none_there (x ∷ xs) (suc i) none within = none_there xs i none (omega (arith, within))
