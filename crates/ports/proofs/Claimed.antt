-- Claims before and after their files are read.
use Rattle.std.proofs.Common.{◌≡◌, ◌∙◌, ◌<◌, ◌+◌, ◌++◌, ℕ, List, [], ◌∷◌, Option, None, Some, Result, Ok, Err, Vec, Bor}
use Rattle.std.proofs.Common.{Global}
use Rattle.std.proofs.Common.{append-nil, arith, ap, drop, get_or, length, refl, subst, suc, sym, take, zero}
use Rattle.std.specs.Prelude.{IfOk, slice_index_or}
use Rattle.std.specs.List.{All, AllZip}
use Rattle.std.proofs.lemmas.List.{drop_all, take_all, take_more}
use Rattle.rayon.proofs.ListFacts.{AllZip-append}
use Rattle.ports.specs.declared.faults.FetchFault.{FetchFault}
use Rattle.ports.specs.declared.claims.Claim.{Claim}
use Rattle.ports.specs.Claims.{HasCome, IsFileOf, IsFor, IsFresh, IsRead, fewer, more}
use Rattle.ports.specs.ClaimLaws.{Reads}
use Rattle.ports.specs.Files.{Fetches, Files, IsFile, with_names}

-- ---- what is asked for, and what is out

-- all names were asked for, whatever came
pub asks_for_all : {T : Type 0} (names : List (List ℕ)) (old new : Option (List (List ℕ)))
    (result : Result T FetchFault)
    → new ≡ with_names names old → Fetches names old new result
asks_for_all names old new (Ok x) h = h
asks_for_all names old new (Err fault) h =
    (length names, h ∙ ap (λ ns. with_names ns old) (sym (take_all (length names) names (omega arith))))

-- no name asked for
pub asked_none : (a : Option (List (List ℕ))) → a ≡ with_names [] a
asked_none None = refl
asked_none (Some names) = ap Some (sym (append-nil names))

-- what went out came back
pub out_again : (n m : ℕ) (out : Option ℕ) → n ≡ m → fewer n (more m out) ≡ out
out_again n m None e = refl
out_again n m (Some k) e = ap Some (omega (arith, e))

-- ---- claims to names

pub as_many_claims : {B : Type 0} (names : List (Bor (List ℕ))) (claims : List (Claim B)) → AllZip IsFor names claims
    → length claims ≡ length names
as_many_claims [] [] h = refl
as_many_claims [] (c ∷ cs) h = absurd h
as_many_claims (n ∷ ns) [] h = absurd h
as_many_claims (n ∷ ns) (c ∷ cs) h = ap suc (as_many_claims ns cs h.1)

pub all_fresh : {B : Type 0} (names : List (Bor (List ℕ))) (claims : List (Claim B)) → AllZip IsFor names claims
    → (k : ℕ) (d : Claim B) → k < length claims → IsFresh (slice_index_or claims k d)
all_fresh [] [] h k d lt = absurd (omega (arith, lt))
all_fresh [] (c ∷ cs) h k d lt = absurd h
all_fresh (n ∷ ns) [] h k d lt = absurd h
all_fresh (n ∷ ns) (c ∷ cs) h zero d lt = h.0.1
all_fresh (n ∷ ns) (c ∷ cs) h (suc k) d lt = all_fresh ns cs h.1 k d (omega (arith, lt))

-- the files of claims are those of their names
pub files_of_names : {A B : Type 0} (told : Option Files) (names : List (Bor (List ℕ))) (before now : List (Claim B))
    (files : List (Vec ℕ A)) → AllZip IsFor names before → length now ≡ length before
    → ((k : ℕ) (d : Claim B) → k < length before → Reads told (slice_index_or before k d) (slice_index_or now k d))
    → AllZip (IsFileOf told) now files
    → AllZip (λ (n : Bor (List ℕ)) (f : Vec ℕ A). IsFile told n.now f.items) names files
files_of_names told [] [] [] [] f l e h = tt
files_of_names told [] [] [] (x ∷ xs) f l e h = absurd h
files_of_names told [] [] (c ∷ cs) files f l e h = absurd (omega (arith, l))
files_of_names told [] (b ∷ bs) now files f l e h = absurd f
files_of_names told (n ∷ ns) [] now files f l e h = absurd f
files_of_names told (n ∷ ns) (b ∷ bs) [] files f l e h = absurd (omega (arith, l))
files_of_names told (n ∷ ns) (b ∷ bs) (c ∷ cs) [] f l e h = absurd h
files_of_names told (n ∷ ns) (b ∷ bs) (c ∷ cs) (x ∷ xs) f l e h = (
  subst (λ (name : List ℕ). IsFile told name x.items) ((e zero b (omega arith)).0 ∙ f.0.0) h.0,
  files_of_names told ns bs cs xs f.1 (omega (arith, l)) (λ k d lt. e (suc k) d (omega (arith, lt))) h.1,
)

-- all were read
pub all_read : {B : Type 0} (told : Option Files) (before now : List (Claim B)) → length now ≡ length before
    → ((k : ℕ) (d : Claim B) → k < length before → Reads told (slice_index_or before k d) (slice_index_or now k d))
    → All (IsRead told) now
all_read told before now l each k d lt = (each k d (omega (arith, l, lt))).1

-- a vector after all of it was written as a slice
pub written : {X : Type 0} (n : ℕ) (new old : List X) → length new ≡ length old → n ≡ length old
    → take n (new ++ drop (length new) old) ≡ new
written n new old e l =
    ap (λ d. take n (new ++ d)) (drop_all (length new) old (omega (arith, e))) ∙ ap (take n) (append-nil new)
    ∙ take_all n new (omega (arith, e, l))

-- ---- claims that are taken back

-- a list beside itself
pub beside : {X : Type 0} (P : X → Type 0) (xs : List X) → All P xs → AllZip (λ (a b : X). P b × (a ≡ b)) xs xs
beside P [] h = tt
beside P (x ∷ xs) h = ((h zero x (omega arith), refl), beside P xs (λ k d lt. h (suc k) d (omega (arith, lt))))

-- one more of each of two lists that go together
pub one_more : {X Y : Type 0} (R : X → Y → Type 0) (xs : List X) (ys more : List Y) (i : ℕ) (x : X) (y : Y)
    → i < length xs → R (get_or xs i x) y → more ≡ ys ++ y ∷ [] → AllZip R (take i xs) ys
    → AllZip R (take (i + 1) xs) more
one_more R xs ys more i x y inside one grew so =
    rw (grew, take_more xs i x inside) (AllZip-append R (take i xs) (get_or xs i x ∷ []) ys (y ∷ []) so (one, tt))

pub was_read : {B : Type 0} (told : Option Files) (claim : Claim B) (read : Result (Vec ℕ Global) FetchFault)
    → claim.came ≡ Some read → IsRead told claim → IfOk read (λ file. IsFile told claim.name.now file.items)
was_read told claim read e h = subst (λ came. HasCome told claim.name.now came) e h
