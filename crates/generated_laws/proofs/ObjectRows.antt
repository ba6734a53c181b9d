-- Parts that stand one behind another: what stands where, and that rows of records are read as they were written.
use Rattle.std.proofs.Common.{◌≡◌, ◌+◌, ◌-◌, ◌*◌, ◌<◌, ℕ, zero, suc, List, [], ◌∷◌, ◌++◌, length}
use Rattle.std.proofs.Common.{slice_index_or, slice_range, refl, sym, ap, ◌∙◌, arith, append_assoc}
use Rattle.std.proofs.Common.{append-nil, length-append}
use Rattle.std.proofs.lemmas.List.{drop_at, take_at}
use Rattle.std.specs.List.{All, flat_map}

-- ** one kind of record

-- records of one width, each of which is read again as it was written
pub record IsRecord {R : Type 0} (width : ℕ) (bytes : R → List ℕ) (read : ℕ → List ℕ → R) (Fits : R → Type 0) : Type 0
  where
    pub length_is : (r : R) → length (bytes r) ≡ width
    pub again : (at : ℕ) (r : R) (front back : List ℕ) → length front ≡ at → Fits r
        → read at (front ++ (bytes r ++ back)) ≡ r

-- what holds of all elements holds of all but the first
pub all_but_first : {X : Type 0} (P : X → Type 0) (x : X) (xs : List X) → All P (x ∷ xs) → All P xs
all_but_first P x xs all k d below = all (suc k) d (omega arith)

-- record number k of a row that was written behind `front`
row_again : {R : Type 0} (width : ℕ) (bytes : R → List ℕ) (read : ℕ → List ℕ → R) (Fits : R → Type 0)
    → IsRecord width bytes read Fits → (rs : List R) (k at : ℕ) (front back : List ℕ) (d : R) → length front ≡ at
    → All Fits rs → k < length rs
    → read (at + width * k) (front ++ (flat_map bytes rs ++ back)) ≡ slice_index_or rs k d
row_again width bytes read Fits law [] k at front back d place fit below = absurd (omega arith)
row_again width bytes read Fits law (r ∷ rs) zero at front back d place fit below =
    let here : at + width * 0 ≡ at = omega arith in
    let first : Fits r = fit 0 r (omega arith) in
    rw (here, append_assoc (bytes r) (flat_map bytes rs) back)
    (law.again at r front (flat_map bytes rs ++ back) place first)
row_again width bytes read Fits law (r ∷ rs) (suc k) at front back d place fit below =
    let long = law.length_is r in
    let joined : length (front ++ bytes r) ≡ at + width = omega (arith, length-append front (bytes r)) in
    let further : at + width * suc k ≡ (at + width) + width * k = omega arith in
    rw (
      further,
      append_assoc (bytes r) (flat_map bytes rs) back,
      ← append_assoc front (bytes r) (flat_map bytes rs ++ back),
    )
    (row_again width bytes read Fits law rs k (at + width) (front ++ bytes r) back d joined
    (all_but_first Fits r rs fit) (omega arith))

-- rows of one width take the width times their number
pub length_rows : {R : Type 0} (width : ℕ) (bytes : R → List ℕ) (rs : List R) → ((r : R) → length (bytes r) ≡ width)
    → length (flat_map bytes rs) ≡ width * length rs
length_rows width bytes [] each = omega arith
length_rows width bytes (r ∷ rs) each =
    let here = each r in
    let rest = length_rows width bytes rs each in
    omega (arith, length-append (bytes r) (flat_map bytes rs))

-- ** places

-- from offset `at` on the bytes are these
pub record IsBehind (b rest : List ℕ) (at : ℕ) : Type 0 where
  pub front : List ℕ
  pub whole : b ≡ front ++ rest
  pub long : length front ≡ at

-- behind the first part
pub behind : (b p rest : List ℕ) (at n : ℕ) → IsBehind b (p ++ rest) at → length p ≡ n → IsBehind b rest (at + n)
behind b p rest at n here same = record {
  front = here.front ++ p;
  whole = here.whole ∙ sym (append_assoc here.front p rest);
  long = omega (arith, length-append here.front p, here.long, same);
}

-- the first part
pub part_behind : (b p rest : List ℕ) (at : ℕ) → IsBehind b (p ++ rest) at → slice_range b at (at + length p) ≡ p
part_behind b p rest at here =
    let size : at + length p - at ≡ length p = omega arith in
    rw (size, here.whole, drop_at here.front (p ++ rest) at here.long) (take_at p rest (length p) refl)

-- where nothing follows
pub all_of : {b p : List ℕ} {at : ℕ} → IsBehind b p at → IsBehind b (p ++ []) at
all_of {b} {p} {at} here = record {
  front = here.front;
  whole = here.whole ∙ ap (λ q. here.front ++ q) (sym (append-nil p));
  long = here.long;
}

-- how long the whole is
pub length_behind : (b p : List ℕ) (at : ℕ) → IsBehind b p at → length b ≡ at + length p
length_behind b p at here = omega (arith, ap length here.whole, length-append here.front p, here.long)

-- a row of records
pub row_behind : {R : Type 0} (width : ℕ) (bytes : R → List ℕ) (read : ℕ → List ℕ → R) (Fits : R → Type 0)
    → IsRecord width bytes read Fits → (rs : List R) (k at : ℕ) (b rest : List ℕ) (d : R)
    → IsBehind b (flat_map bytes rs ++ rest) at → All Fits rs → k < length rs
    → read (at + width * k) b ≡ slice_index_or rs k d
row_behind width bytes read Fits law rs k at b rest d here fit below =
    ap (read (at + width * k)) here.whole
    ∙ row_again width bytes read Fits law rs k at here.front rest d here.long fit below
