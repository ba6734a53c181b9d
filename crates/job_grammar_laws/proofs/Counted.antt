-- How many images and lines of threads there are, by their groups and by their threads.
use Rattle.std.proofs.Common.{◌≡◌, ◌∙◌, ℕ, zero, suc, ◌+◌, ◌≤◌, Bool, true, false, ◌==◌, cond, List, [], ◌∷◌}
use Rattle.std.proofs.Common.{length, filter, Some, refl, ap, arith, eqb-true, sum_by}
use Rattle.std.specs.Prelude.{nat_lt}
use Rattle.std.proofs.Common.{ltb-false, ltb-true}
use Rattle.std.proofs.Common.{slice_get}
use Rattle.std.proofs.lemmas.List.Sums.{sum_by-cons}
use Rattle.job_text.specs.declared.images.Image.{Image}
use Rattle.job_text.specs.declared.thread_lines.ThreadLine.{ThreadLine}
use Rattle.link_faults.specs.declared.image_kind.ImageKind.{ImageKind}
use Rattle.link_faults.specs.declared.image_kind.ImageKind.TheVariants.{Exe, Pie, Start, Late}
use Rattle.job_grammar_laws.specs.Derived.{of_thread}
use Rattle.job_grammar_laws.specs.Grammar.{Asked, group, of_group}

-- ** images

pub grouped : (images : List Image)
    → length (of_group 0 images) + length (of_group 1 images) + length (of_group 2 images) ≡ length images
grouped [] = refl
grouped (x ∷ xs) = by x.kind (grouped xs)
  where
    by : (k : ImageKind) → length (of_group 0 xs) + length (of_group 1 xs) + length (of_group 2 xs) ≡ length xs
        → length (cond (group k == 0) (x ∷ of_group 0 xs) (of_group 0 xs))
        + length (cond (group k == 1) (x ∷ of_group 1 xs) (of_group 1 xs))
        + length (cond (group k == 2) (x ∷ of_group 2 xs) (of_group 2 xs)) ≡ length (x ∷ xs)
    by Exe rest = omega (arith, rest)
    by Pie rest = omega (arith, rest)
    by Start rest = omega (arith, rest)
    by Late rest = omega (arith, rest)

-- ** lines of threads

-- those of the threads behind this one
abbrev behind : ℕ → List Asked → List Asked
behind thread asked = filter (λ line. nat_lt thread line.thread) asked

thread_and_behind : (thread : ℕ) (asked : List Asked)
    → length (of_thread (thread + 1) asked) + length (behind (thread + 1) asked) ≤ length (behind thread asked)
thread_and_behind thread [] = omega arith
thread_and_behind thread (x ∷ xs) =
    by (x.thread == thread + 1) (nat_lt (thread + 1) x.thread) (nat_lt thread x.thread) refl refl refl
    (thread_and_behind thread xs)
  where
    by : (p q r : Bool) → (x.thread == thread + 1) ≡ p → nat_lt (thread + 1) x.thread ≡ q → nat_lt thread x.thread ≡ r
        → length (of_thread (thread + 1) xs) + length (behind (thread + 1) xs) ≤ length (behind thread xs)
        → length (cond p (x ∷ of_thread (thread + 1) xs) (of_thread (thread + 1) xs))
        + length (cond q (x ∷ behind (thread + 1) xs) (behind (thread + 1) xs))
        ≤ length (cond r (x ∷ behind thread xs) (behind thread xs))
    by true true r is late more rest =
        absurd (omega (arith, eqb-true x.thread (thread + 1) is, ltb-true (thread + 1) x.thread late))
    by true false true is late more rest = omega (arith, rest)
    by true false false is late more rest =
        absurd (omega (arith, eqb-true x.thread (thread + 1) is, ltb-false thread x.thread more))
    by false true true is late more rest = omega (arith, rest)
    by false true false is late more rest =
        absurd (omega (arith, ltb-true (thread + 1) x.thread late, ltb-false thread x.thread more))
    by false false true is late more rest = omega (arith, rest)
    by false false false is late more rest = rest

pub behind_few : (thread : ℕ) (asked : List Asked) → length (behind thread asked) ≤ length asked
behind_few thread [] = omega arith
behind_few thread (x ∷ xs) = by (nat_lt thread x.thread) (behind_few thread xs)
  where
    by : (r : Bool) → length (behind thread xs) ≤ length xs
        → length (cond r (x ∷ behind thread xs) (behind thread xs)) ≤ length (x ∷ xs)
    by true rest = omega (arith, rest)
    by false rest = omega (arith, rest)

pub lines_few : (asked : List Asked) (thread : ℕ) (all : List (List ThreadLine))
    → ((i : ℕ) (lines : List ThreadLine) → slice_get all i ≡ Some lines
    → length lines ≡ length (of_thread (thread + 1 + i) asked))
    → sum_by length all ≤ length (behind thread asked)
lines_few asked thread [] each = omega arith
lines_few asked thread (lines ∷ all) each =
    let first : length lines ≡ length (of_thread (thread + 1) asked) =
    each zero lines refl ∙ ap (λ n. length (of_thread n asked)) (omega arith) in
    let rest = lines_few asked (thread + 1) all (λ i ls is.
    each (suc i) ls is ∙ ap (λ n. length (of_thread n asked)) (omega arith)) in
    omega (
      arith,
      first,
      rest,
      thread_and_behind thread asked,
      sum_by-cons
          (λ (ls : List ThreadLine). length ls) lines all,
    )
