-- Which program header is the first that is not as it should be: LOADs come first, then DYNAMIC, then the rest.
use Rattle.std.proofs.Common.{◌≡◌, ◌+◌, ◌^◌, ◌<◌, ◌≤◌, ℕ, List, Bool, true, false, refl, sym, subst, inl, inr, arith}
use Rattle.std.proofs.Common.{◌==◌, ◌&&◌, nat_lt, if◌then◌else◌}
use Rattle.std.proofs.lemmas.Bool.Decides.{nat_tests}
use Rattle.std.proofs.lemmas.Bool.{cases_lt}
use Rattle.image_rules.specs.declared.rule.Rule.TheVariants.{Segment}
use Rattle.image_faults.specs.Parts.{count, loads, segment, has_tls, tls_size}
use Rattle.image_faults.specs.Segments.{IsRightLoad, IsRightDynamic, IsRightRest}
use Rattle.image_faults.specs.Faults.{KeepsBelow, IsFirst}
use Rattle.image_faults.proofs.File.{first_segment, kept_segments}

-- all LOADs are right
abbrev pub LoadsRight : List ℕ → ℕ → Type 0
LoadsRight b l = (i : ℕ) → (i < l) × (IsRightLoad b i → ⊥) → ⊥

-- and all headers behind DYNAMIC
abbrev pub RestRight : List ℕ → ℕ → Type 0
RestRight b l = (i : ℕ) → (l < i) × (i < count b) × (IsRightRest b i → ⊥) → ⊥

pub first_load : (b : List ℕ) (e : ℕ) → KeepsBelow 9 b → (e < loads b) × (IsRightLoad b e → ⊥)
    → ((f : ℕ) → f < e → (f < loads b) × (IsRightLoad b f → ⊥) → ⊥) → IsFirst b Segment e
first_load b e below here none =
    first_segment b e below (inl here)
    (λ f lt w. elim w [
      | inl load ↦ none f lt load
      | inr other ↦ elim other
          [ inl dynamic ↦ omega (arith, here.0) | inr rest ↦ omega (arith, here.0, rest.0) ]
    ])

pub first_dynamic : (b : List ℕ) → KeepsBelow 9 b → LoadsRight b (loads b) → (IsRightDynamic b (loads b) → ⊥)
    → IsFirst b Segment (loads b)
first_dynamic b below all wrong =
    first_segment b (loads b) below (inr (inl (refl, wrong)))
    (λ f lt w. elim w [
      | inl load ↦ all f load
      | inr other ↦ elim other
          [ inl dynamic ↦ omega (arith, dynamic.0) | inr rest ↦ omega (arith, rest.0) ]
    ])

dynamic_at : (b : List ℕ) (i : ℕ) → i ≡ loads b → IsRightDynamic b (loads b) → IsRightDynamic b i
dynamic_at b i same right = let P : ℕ → Type 0 = λ j. IsRightDynamic b j in subst P (sym same) right

pub first_rest : (b : List ℕ) (e : ℕ) → KeepsBelow 9 b → LoadsRight b (loads b) → IsRightDynamic b (loads b)
    → (loads b < e) × (e < count b) × (IsRightRest b e → ⊥)
    → ((f : ℕ) → f < e → (loads b < f) × (f < count b) × (IsRightRest b f → ⊥) → ⊥) → IsFirst b Segment e
first_rest b e below all right here none =
    first_segment b e below (inr (inr here))
    (λ f lt w. elim w [
      | inl load ↦ all f load
      | inr other ↦ elim other
          [ inl dynamic ↦ dynamic.1 (dynamic_at b f dynamic.0 right) | inr rest ↦ none f lt rest ]
    ])

pub all_segments : (b : List ℕ) → KeepsBelow 9 b → LoadsRight b (loads b) → IsRightDynamic b (loads b)
    → RestRight b (loads b) → KeepsBelow 10 b
all_segments b below all right none =
    kept_segments b below
    (λ f w. elim w [
      | inl load ↦ all f load
      | inr other ↦ elim other
          [ inl dynamic ↦ dynamic.1 (dynamic_at b f dynamic.0 right) | inr rest ↦ none f rest ]
    ])

-- a TLS segment that is right has at most 2^20 bytes
small_of : (n k m : ℕ) (c : Bool) → 2 ^ 20 < (if c then m else 0) → (c ≡ true) × (2 ^ 20 < m)
small_of n k m true h = (refl, h)
small_of n k m false h = absurd (omega arith)

tls_of : (n k t : ℕ) → (nat_lt n k && (t == 7)) ≡ true → (n < k) × (t ≡ 7)
tls_of n k t h = grind (arith, nat_tests)

pub tls_small : (b : List ℕ) → RestRight b (loads b) → tls_size b ≤ 2 ^ 20
tls_small b none = elim (cases_lt (2 ^ 20) (tls_size b)) [
  | inl large ↦
      let some = small_of 0 0 (segment b (loads b + 1)).memsz (has_tls b) large in
      let tls = tls_of (loads b + 1) (count b) (segment b (loads b + 1)).kind some.0 in
      absurd (none (loads b + 1) (
        omega arith,
        tls.0,
        λ right. elim right [
          | inl t ↦ omega (arith, t.2.3, some.1)
          | inr relro ↦ omega (arith, relro.1, tls.1)
        ],
      ))
  | inr small ↦ small
]

-- the same, where the number of LOADs has been counted
pub load_fault : (b : List ℕ) (l e : ℕ) → l ≡ loads b → KeepsBelow 9 b → (e < l) × (IsRightLoad b e → ⊥)
    → ((f : ℕ) → f < e → (f < l) × (IsRightLoad b f → ⊥) → ⊥) → IsFirst b Segment e
load_fault b l e same below =
    let P : ℕ → Type 0 = λ l. (e < l) × (IsRightLoad b e → ⊥) → ((f : ℕ) → f < e → (f < l) × (IsRightLoad b f → ⊥) → ⊥)
    → IsFirst b Segment e in
    subst P (sym same) (first_load b e below)

pub dynamic_fault : (b : List ℕ) (l : ℕ) → l ≡ loads b → KeepsBelow 9 b → LoadsRight b l → (IsRightDynamic b l → ⊥)
    → IsFirst b Segment l
dynamic_fault b l same below =
    let P : ℕ → Type 0 = λ l. LoadsRight b l → (IsRightDynamic b l → ⊥) → IsFirst b Segment l in
    subst P (sym same) (first_dynamic b below)

pub rest_fault : (b : List ℕ) (l e : ℕ) → l ≡ loads b → KeepsBelow 9 b → LoadsRight b l → IsRightDynamic b l
    → (l < e) × (e < count b) × (IsRightRest b e → ⊥)
    → ((f : ℕ) → f < e → (l < f) × (f < count b) × (IsRightRest b f → ⊥) → ⊥) → IsFirst b Segment e
rest_fault b l e same below =
    let P : ℕ → Type 0 = λ l. LoadsRight b l → IsRightDynamic b l → (l < e) × (e < count b) × (IsRightRest b e → ⊥)
    → ((f : ℕ) → f < e → (l < f) × (f < count b) × (IsRightRest b f → ⊥) → ⊥) → IsFirst b Segment e in
    subst P (sym same) (first_rest b e below)

pub no_fault : (b : List ℕ) (l : ℕ) → l ≡ loads b → KeepsBelow 9 b → LoadsRight b l → IsRightDynamic b l → RestRight b l
    → KeepsBelow 10 b
no_fault b l same below =
    let P : ℕ → Type 0 = λ l. LoadsRight b l → IsRightDynamic b l → RestRight b l → KeepsBelow 10 b in
    subst P (sym same) (all_segments b below)

pub small_tls : (b : List ℕ) (l : ℕ) → l ≡ loads b → RestRight b l → tls_size b ≤ 2 ^ 20
small_tls b l same = let P : ℕ → Type 0 = λ l. RestRight b l → tls_size b ≤ 2 ^ 20 in subst P (sym same) (tls_small b)
