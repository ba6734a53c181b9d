-- A stack of which the highest bytes are kept, the highest first.
use Rattle.std.proofs.Common.{◌≡◌, ◌∙◌, ◌-◌, ◌+◌, ◌++◌, ◌<◌, ◌≤◌, ℕ, zero, suc, List, [], ◌∷◌, length, drop, take}
use Rattle.std.proofs.Common.{get_or, replicate, reverse, Some, None, refl, sym, ap, subst, arith, inl, inr}
use Rattle.std.specs.Prelude.{slice_get, slice_set}
use Rattle.std.proofs.lemmas.Bool.{cases_lt}
use Rattle.std.proofs.lemmas.List.{append_assoc, get_or-reverse, length-append, length-drop, length-replicate}
use Rattle.std.proofs.lemmas.List.{length-reverse, length-set, replicate-append-replicate, reverse-append, same_lists}
use Rattle.std.proofs.lemmas.List.{set-append_left, take-append-drop, take-append-le}
use Rattle.std.proofs.lemmas.Grind.{elements}
use Rattle.std.proofs.lemmas.Option.{none-some, slice_get-get_or, slice_get_past}
use Rattle.std.proofs.Math.Seq.{drop-append_seam}
use Rattle.job_meaning.specs.declared.values.Byte.{Byte}
use Rattle.job_meaning.specs.declared.values.Byte.TheVariants.{Hidden, Value}
use Rattle.job_meaning.specs.Marked.{marked_operations}
use Rattle.thread_blocks.specs.MachineTurns.{fresh_stack, zeros}
use Rattle.whole_meaning.specs.Threads.{hidden_below, ops}
use Rattle.marked_memory.specs.Stacks.{down_from, last_bytes, stack_of}

-- ** lists the other way round

module _ {B : Type 0} where
  get_reverse : (xs : List B) (i : ℕ) → i < length xs → slice_get (reverse xs) i ≡ slice_get xs (length xs - 1 - i)
  get_reverse [] i h = absurd (omega arith)
  get_reverse (x ∷ xs) i h =
      let long = length-reverse (x ∷ xs) in
      slice_get-get_or (reverse (x ∷ xs)) i x (omega (arith, long, h))
      ∙ ap Some (get_or-reverse (x ∷ xs) i x h)
      ∙ sym (slice_get-get_or (x ∷ xs) (length (x ∷ xs) - 1 - i) x (omega (arith, h)))

  set_reverse : (xs : List B) (i j : ℕ) (b : B) → i < length xs → j ≡ length xs - 1 - i
      → slice_set (reverse xs) i b ≡ reverse (slice_set xs j b)
  set_reverse xs i j b h at =
      same_lists (slice_set (reverse xs) i b) (reverse (slice_set xs j b)) (grind (arith, elements))
      (λ k d l. grind (arith, elements, length-reverse xs, length-set (reverse xs) i b, length-set xs j b))

  drop_reverse : (n : ℕ) (xs : List B) → n ≤ length xs → drop n (reverse xs) ≡ reverse (take (length xs - n) xs)
  drop_reverse n xs h =
      let m = length xs - n in
      let split : reverse xs ≡ reverse (drop m xs) ++ reverse (take m xs) =
      ap (λ (ys : List B). reverse ys) (sym (take-append-drop m xs)) ∙ reverse-append (take m xs) (drop m xs) in
      let short = length-drop m xs in
      let turned = length-reverse (drop m xs) in
      let long : length (reverse (drop m xs)) ≡ n = omega (arith, short, turned, h) in
      ap (drop n) split ∙ subst (λ k. drop k (reverse (drop m xs) ++ reverse (take m xs)) ≡ reverse (take m xs)) long
      (drop-append_seam (reverse (drop m xs)) (reverse (take m xs)))

  reverse_replicate : (n : ℕ) (x : B) → reverse (replicate n x) ≡ replicate n x
  reverse_replicate n x =
      same_lists (reverse (replicate n x)) (replicate n x) (length-reverse (replicate n x))
      (λ k d l. grind (arith, elements, length-replicate n x, length-reverse (replicate n x)))

  get_left : (xs ys : List B) (i : ℕ) → i < length xs → slice_get (xs ++ ys) i ≡ slice_get xs i
  get_left [] ys i h = absurd (omega arith)
  get_left (x ∷ xs) ys zero h = refl
  get_left (x ∷ xs) ys (suc i) h = get_left xs ys i (omega arith)

  get_right : (xs ys : List B) (i : ℕ) → slice_get (xs ++ ys) (length xs + i) ≡ slice_get ys i
  get_right [] ys i = ap (slice_get ys) (omega arith)
  get_right (x ∷ xs) ys i =
      let next : suc (length xs) + i ≡ suc (length xs + i) = omega arith in
      ap (slice_get (x ∷ (xs ++ ys))) next ∙ get_right xs ys i

  get_replicate : (n i : ℕ) (x : B) → i < n → slice_get (replicate n x) i ≡ Some x
  get_replicate zero i x h = absurd (omega arith)
  get_replicate (suc n) zero x h = refl
  get_replicate (suc n) (suc i) x h = get_replicate n i x (omega arith)

-- ** stacks

module _ (size : ℕ) (deep : Byte) (top : List Byte) (within : length top ≤ size) where
  long_down : length (down_from size deep top) ≡ size
  unfolding down_from
  long_down =
      let both = length-append top (replicate (size - length top) deep) in
      let rest = length-replicate (size - length top) deep in
      omega (arith, both, rest, within)

  pub long : length (stack_of size deep top) ≡ size
  unfolding stack_of
  long = length-reverse (down_from size deep top) ∙ long_down

  get_is : (i : ℕ) → i < size
      → slice_get (stack_of size deep top) i ≡ slice_get (top ++ replicate (size - length top) deep) (size - 1 - i)
  unfolding stack_of down_from
  get_is i h =
      let low : i < length (down_from size deep top) = subst (λ n. i < n) (sym long_down) h in
      get_reverse (down_from size deep top) i low ∙ ap (λ n. slice_get (down_from size deep top) (n - 1 - i)) long_down

  pub byte_kept : (i : ℕ) (x : Byte) → i < size → slice_get top (size - 1 - i) ≡ Some x
      → slice_get (stack_of size deep top) i ≡ Some x
  byte_kept i x h is = elim (cases_lt (size - 1 - i) (length top)) [
    | inl l ↦ get_is i h ∙ get_left top (replicate (size - length top) deep) (size - 1 - i) l ∙ is
    | inr l ↦ absurd (none-some x (sym (slice_get_past top (size - 1 - i) l) ∙ is))
  ]

  pub byte_deep : (i : ℕ) → i < size → slice_get top (size - 1 - i) ≡ None
      → slice_get (stack_of size deep top) i ≡ Some deep
  byte_deep i h none = elim (cases_lt (size - 1 - i) (length top)) [
    | inl l ↦ absurd (none-some (get_or top (size - 1 - i) deep)
        (sym none ∙ slice_get-get_or top (size - 1 - i) deep l))
    | inr l ↦
        get_is i h
        ∙ ap (slice_get (top ++ replicate (size - length top) deep)) (index l)
        ∙ get_right top (replicate (size - length top) deep) (size - 1 - i - length top)
        ∙ get_replicate (size - length top) (size - 1 - i - length top) deep (omega (arith, l, h, within))
  ]
    where
      index : length top ≤ size - 1 - i → size - 1 - i ≡ length top + (size - 1 - i - length top)
      index l = omega (arith, l)

  pub byte_past : (i : ℕ) → size ≤ i → slice_get (stack_of size deep top) i ≡ None
  byte_past i h = slice_get_past (stack_of size deep top) i (subst (λ n. n ≤ i) (sym long) h)

  -- so many bytes are kept, at least
  pub more_kept : (count : ℕ) → count ≤ size
      → stack_of size deep (top ++ replicate (count - length top) deep) ≡ stack_of size deep top
  unfolding stack_of down_from
  more_kept count few =
      let more = count - length top in
      let longer = length-append top (replicate more deep) in
      let rest = length-replicate more deep in
      let all : more + (size - length (top ++ replicate more deep)) ≡ size - length top =
      omega (arith, longer, rest, within, few) in
      ap (λ (ys : List Byte). reverse ys)
      (append_assoc top (replicate more deep) (replicate (size - length (top ++ replicate more deep)) deep)
      ∙ ap (λ (ys : List Byte). top ++ ys)
      (replicate-append-replicate more (size - length (top ++ replicate more deep)) deep
      ∙ ap (λ n. replicate n deep) all))

  pub byte_set : (i j : ℕ) (b : Byte) → i < size → j ≡ size - 1 - i → j < length top
      → stack_of size deep (slice_set top j b) ≡ slice_set (stack_of size deep top) i b
  unfolding stack_of down_from
  byte_set i j b h at l =
      let low : i < length (down_from size deep top) = subst (λ n. i < n) (sym long_down) h in
      let place : j ≡ length (down_from size deep top) - 1 - i = subst (λ n. j ≡ n - 1 - i) (sym long_down) at in
      let same : slice_set top j b ++ replicate (size - length (slice_set top j b)) deep
      ≡ slice_set (down_from size deep top) j b =
      ap (λ n. slice_set top j b ++ replicate (size - n) deep) (length-set top j b)
      ∙ sym (set-append_left top (replicate (size - length top) deep) j b l) in
      ap (λ (ys : List Byte). reverse ys) same ∙ sym (set_reverse (down_from size deep top) i j b low place)

  -- nothing is known of the lowest bytes
  pub hidden : (count rest : ℕ) → count ≤ size → rest ≡ size - count → rest ≤ length top
      → stack_of size Hidden (take rest top) ≡ hidden_below count (stack_of size deep top)
  unfolding stack_of down_from
  hidden count rest few is kept =
      let ds = top ++ replicate (size - length top) deep in
      let below : count ≤ length (down_from size deep top) = subst (λ n. count ≤ n) (sym long_down) few in
      let cut : length (take rest top) ≡ rest = grind (arith, elements) in
      let hides : size - length (take rest top) ≡ count = omega (arith, cut, few, is) in
      reverse-append (take rest top) (replicate (size - length (take rest top)) Hidden)
      ∙ ap (λ (ys : List Byte). ys ++ reverse (take rest top))
      (ap (λ n. reverse (replicate n Hidden)) hides ∙ reverse_replicate count Hidden)
      ∙ ap (λ (ys : List Byte). replicate count Hidden ++ ys)
      (sym (drop_reverse count (down_from size deep top) below
      ∙ ap (λ n. reverse (take (n - count) (down_from size deep top))) long_down
      ∙ ap (λ n. reverse (take n (down_from size deep top))) (sym is)
      ∙ ap (λ (ys : List Byte). reverse ys) (take-append-le rest top (replicate (size - length top) deep) kept)))

-- the same where as many are kept first as are left
pub hide_is : (size : ℕ) (deep : Byte) (top : List Byte) → length top ≤ size → (count rest : ℕ) → count ≤ size
    → rest ≡ size - count
    → stack_of size Hidden (take rest (top ++ replicate (rest - length top) deep))
    ≡ hidden_below count (stack_of size deep top)
hide_is size deep top within count rest few is =
    let kept = top ++ replicate (rest - length top) deep in
    let longer = length-append top (replicate (rest - length top) deep) in
    let more = length-replicate (rest - length top) deep in
    let low : rest ≤ size = omega (arith, is) in
    let within' : length kept ≤ size = omega (arith, longer, more, within, low) in
    let enough : rest ≤ length kept = omega (arith, longer, more) in
    hidden size deep kept within' count rest few is enough
    ∙ ap (λ (xs : List Byte). hidden_below count xs) (more_kept size deep top within rest low)

pub set_is : (size : ℕ) (deep : Byte) (top : List Byte) → length top ≤ size → (i j : ℕ) (b : Byte) → i < size
    → j ≡ size - 1 - i
    → stack_of size deep (slice_set (top ++ replicate (j + 1 - length top) deep) j b)
    ≡ slice_set (stack_of size deep top) i b
set_is size deep top within i j b h at =
    let kept = top ++ replicate (j + 1 - length top) deep in
    let longer = length-append top (replicate (j + 1 - length top) deep) in
    let more = length-replicate (j + 1 - length top) deep in
    let low : j + 1 ≤ size = omega (arith, at, h) in
    let within' : length kept ≤ size = omega (arith, longer, more, within, low) in
    let enough : j < length kept = omega (arith, longer, more) in
    byte_set size deep kept within' i j b h at enough
    ∙ ap (λ (xs : List Byte). slice_set xs i b) (more_kept size deep top within (j + 1) low)

-- ** before a call

fresh_of : (size n : ℕ) → size ≡ n + 8 → stack_of size (Value 0) last_bytes ≡ zeros (Value 0) n ++ reverse last_bytes
unfolding stack_of down_from zeros
fresh_of size n is =
    let rest : size - length last_bytes ≡ n = omega (arith, is) in
    reverse-append last_bytes (replicate (size - length last_bytes) (Value 0))
    ∙ ap (λ (xs : List Byte). xs ++ reverse last_bytes)
    (reverse_replicate (size - length last_bytes) (Value 0) ∙ ap (λ m. replicate m (Value 0)) rest)

pub fresh : stack_of 65536 (Value 0) last_bytes ≡ fresh_stack ops
unfolding marked_operations
fresh = fresh_of 65536 65528 (omega arith)
