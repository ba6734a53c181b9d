-- The objects that are made, by their names.
use Rattle.std.proofs.Common.{◌≡◌, ◌≢◌, ◌+◌, ◌≤◌, ◌<◌, ℕ, zero, suc, true, false, List, [], ◌∷◌, ◌++◌, map, ◌⊎◌, inl}
use Rattle.std.proofs.Common.{inr, refl, sym, ap, subst, arith}
use Rattle.std.specs.Prelude.{codes, get_or}
use Rattle.std.specs.Fmt.{decimal}
use Rattle.std.specs.List.{range_with_len}
use Rattle.std.specs.Str.{bytes_eq}
use Rattle.std.proofs.lemmas.Bool.{cases_eq, false_from_ne_true}
use Rattle.std.proofs.lemmas.Fmt.{decimal_injective}
use Rattle.std.proofs.lemmas.List.{append_cancel_left, append_cancel_right}
use Rattle.std.proofs.lemmas.Slice.Eq.{bytes_eq-Decides}
use Rattle.generated_job.specs.Generated.{generated_files, module_shape, object_name, shape_of}
use Rattle.generated_job.specs.Shapes.{object_bytes}
use Rattle.generated_laws.specs.Jobs.{generated_parts}
use Rattle.generated_laws.specs.Linked.{program_objects}
use Rattle.generated_laws.specs.Sound.{GeneratedObjectsAreFaultless, IsFaultless}
use Rattle.job_link.specs.Mentions.{Fetched, bytes_in, mentions_of}
use Rattle.commands.proofs.Membership.{In}

-- ** names

abbrev pub late_name : List ℕ
late_name = codes "p.o"

names_apart : (i j : ℕ) → i ≤ 1000 → j ≤ 1000 → object_name i ≡ object_name j → i ≡ j
unfolding object_name
names_apart i j low high e =
    let tails : decimal i ++ codes ".o" ≡ decimal j ++ codes ".o" =
    append_cancel_left (codes "g") (decimal i ++ codes ".o") (decimal j ++ codes ".o") e in
    decimal_injective i j (omega (arith, low)) (omega (arith, high))
    (append_cancel_right (decimal i) (decimal j) (codes ".o") tails)

-- they differ in their first bytes
late_apart : (i : ℕ) → late_name ≢ object_name i
unfolding object_name
late_apart i e = let first : 112 ≡ 103 = ap (λ name. get_or name 0 0) e in omega (arith, first)

differs : (x y : List ℕ) → x ≢ y → bytes_eq x y ≡ false
differs x y other = false_from_ne_true (bytes_eq x y) (λ e. other ((bytes_eq-Decides x y).0 e))

same : (x y : List ℕ) → x ≡ y → bytes_eq x y ≡ true
same x y e = (bytes_eq-Decides x y).1 e

-- ** bytes

module _ (n : ℕ) where
  abbrev file_of : ℕ → List ℕ × List ℕ
  file_of i = (object_name i, object_bytes (shape_of n i))

  -- among files of numbers that follow one another
  program_at : (rest : Fetched) (a k i : ℕ) → a ≤ i → i < a + k → i ≤ 1000
      → bytes_in (map file_of (range_with_len a k) ++ rest) (object_name i) ≡ object_bytes (shape_of n i)
  program_at rest a zero i low high few = absurd (omega (arith, low, high))
  program_at rest a (suc k) i low high few =
      by (cases_eq i a) (λ other. program_at rest (a + 1) k i (omega (arith, low, other)) (omega (arith, high)) few)
    where
      by : (i ≡ a) ⊎ (i ≢ a) →
          (i ≢ a → bytes_in (map file_of (range_with_len (a + 1) k) ++ rest) (object_name i)
          ≡ object_bytes (shape_of n i))
          → bytes_in (file_of a ∷ (map file_of (range_with_len (a + 1) k) ++ rest)) (object_name i)
          ≡ object_bytes (shape_of n i)
      by (inl e) later = rw (same (object_name i) (object_name a) (ap object_name e))
          (ap (λ j. object_bytes (shape_of n j)) (sym e))
      by (inr other) later = rw
          (differs (object_name i) (object_name a) (λ e. other (names_apart i a few (omega (arith, low, few)) e)))
          (later other)

  late_at : (rest : Fetched) (a k : ℕ)
      → bytes_in (map file_of (range_with_len a k) ++ rest) late_name ≡ bytes_in rest late_name
  late_at rest a zero = refl
  late_at rest a (suc k) = rw (differs late_name (object_name a) (late_apart a)) (late_at rest (a + 1) k)

  pub program_bytes : (i : ℕ) → n ≤ 1000 → 1 ≤ i → i ≤ n
      → bytes_in (generated_files n) (object_name i) ≡ object_bytes (shape_of n i)
  unfolding generated_files
  program_bytes i few low high =
      program_at ((late_name, object_bytes module_shape) ∷ []) 1 n i low (omega (arith, high))
      (omega (arith, high, few))

  pub late_bytes : bytes_in (generated_files n) late_name ≡ object_bytes module_shape
  unfolding generated_files
  late_bytes = late_at ((late_name, object_bytes module_shape) ∷ []) 1 n

  -- ** of all names

  mapped : (f : List ℕ → List ℕ) (a k : ℕ)
      → ((i : ℕ) → a ≤ i → i < a + k → f (object_name i) ≡ object_bytes (shape_of n i))
      → map f (map object_name (range_with_len a k)) ≡ map (λ i. object_bytes (shape_of n i)) (range_with_len a k)
  mapped f a zero each = refl
  mapped f a (suc k) each =
      let first = each a (omega arith) (omega arith) in
      let others = mapped f (a + 1) k (λ i low high. each i (omega (arith, low)) (omega (arith, high))) in
      cc

  pub program_mapped : n ≤ 1000
      → map (bytes_in (generated_files n)) (map object_name (range_with_len 1 n)) ≡ program_objects n
  program_mapped few = mapped (bytes_in (generated_files n)) 1 n
      (λ i low high. program_bytes i few low (omega (arith, high)))

-- ** mentions

each_name : (P : List ℕ → Type 0) (rest : List (List ℕ)) (a k : ℕ) → ((i : ℕ) → a ≤ i → i < a + k → P (object_name i))
    → ((name : List ℕ) → In rest name → P name)
    → (name : List ℕ) → In (map object_name (range_with_len a k) ++ rest) name → P name
each_name P rest a zero own others name there = others name there
each_name P rest a (suc k) own others name (inl e) = subst P e (own a (omega arith) (omega arith))
each_name P rest a (suc k) own others name (inr there) =
    each_name P rest (a + 1) k (λ i low high. own i (omega (arith, low)) (omega (arith, high))) others name there

mentions_are : (n : ℕ) → mentions_of (generated_parts n) ≡ map object_name (range_with_len 1 n) ++ late_name ∷ []
unfolding mentions_of generated_parts
mentions_are n = refl

abbrev IsMadeFaultless : ℕ → List ℕ → Type 0
IsMadeFaultless n name = IsFaultless (bytes_in (generated_files n) name)

pub mentioned_faultless : GeneratedObjectsAreFaultless → (n : ℕ) → n ≤ 1000 → (name : List ℕ)
    → In (mentions_of (generated_parts n)) name
    → IsFaultless (bytes_in (generated_files n) name)
mentioned_faultless objects n few name there =
    each_name (IsMadeFaultless n) (late_name ∷ []) 1 n own late name
    (subst (λ names. In names name) (mentions_are n) there)
  where
    own : (i : ℕ) → 1 ≤ i → i < 1 + n → IsMadeFaultless n (object_name i)
    own i low high =
        let below : i ≤ n = omega (arith, high) in
        subst IsFaultless (sym (program_bytes n i few low below)) (objects.program n i few low below)

    late : (other : List ℕ) → In (late_name ∷ []) other → IsMadeFaultless n other
    late other (inl e) = subst (IsMadeFaultless n) e (subst IsFaultless (sym (late_bytes n)) objects.late)
    late other (inr never) = absurd never
