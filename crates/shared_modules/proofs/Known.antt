-- What a beginning of the history lacks, and lists of threads.
use Rattle.std.proofs.Common.{◌≡◌, ◌≢◌, ℕ, zero, suc, ◌+◌, ◌<◌, ◌≤◌, Bool, true, false, nat_lt, List, [], ◌∷◌, ◌++◌}
use Rattle.std.proofs.Common.{length, sym, refl, ap, ◌∙◌, subst, append_assoc, append-nil, length-append, eq-eqb}
use Rattle.std.proofs.Common.{ne_eqb, arith}
use Rattle.std.specs.Prelude.{if◌then◌else◌, ◌==◌}
use Rattle.std.proofs.lemmas.List.{take-append-drop}
use Rattle.std.proofs.lemmas.Bool.Decides.{nat_tests}
use mathlib.Core.Logic.{dite}
use native.Mathlib.Decide.{ℕ_discrete}
use Rattle.module_table.specs.declared.events.Event.{Event}
use Rattle.shared_modules.specs.Views.{flag, times, rising, all_threads, ByOthers, Knows, StartsWith, longer}
use Rattle.shared_modules.specs.Views.{first_half, second_half, half_of}

-- ---- numbers

pub flag_same : (a b : ℕ) → a ≡ b → flag (a == b) ≡ 1
flag_same a b e = ap flag (eq-eqb a b e)

pub flag_else : (a b : ℕ) → a ≢ b → flag (a == b) ≡ 0
flag_else a b n = ap flag (ne_eqb a b n)

flag_most : (b : Bool) → flag b ≤ 1
flag_most true = omega arith
flag_most false = omega arith

-- ---- threads

pub times-append : (x : ℕ) (ts us : List ℕ) → times x (ts ++ us) ≡ times x ts + times x us
times-append x [] us = omega arith
times-append x (t ∷ ts) us = let h = times-append x ts us in omega arith

pub times-length : (x : ℕ) (ts : List ℕ) → times x ts ≤ length ts
times-length x [] = omega arith
times-length x (t ∷ ts) = let h = times-length x ts in let m = flag_most (t == x) in omega arith

rising_below : (first n x : ℕ) → x < first → times x (rising first n) ≡ 0
rising_below first zero x below = refl
rising_below first (suc n) x below = let h = rising_below (first + 1) n x (omega arith) in
    let z = flag_else first x (λ e. omega arith) in omega arith

rising_once : (first n x : ℕ) → times x (rising first n) ≤ 1
rising_once first zero x = omega arith
rising_once first (suc n) x = dite (ℕ_discrete first x)
    (λ e. let h = rising_below (first + 1) n x (omega arith) in let z = flag_same first x e in omega arith)
    (λ ne. let h = rising_once (first + 1) n x in let z = flag_else first x ne in omega arith)

rising_within : (first n x : ℕ) → 1 ≤ times x (rising first n) → (first ≤ x) × (x < first + n)
rising_within first zero x there = absurd (omega arith)
rising_within first (suc n) x there = dite (ℕ_discrete first x) (λ e. (omega arith, omega arith))
    (λ ne. let z = flag_else first x ne in let h = rising_within (first + 1) n x (omega arith) in
    (omega (arith, h.0), omega (arith, h.1)))

rising_reached : (first n x : ℕ) → first ≤ x → x < first + n → 1 ≤ times x (rising first n)
rising_reached first zero x low high = absurd (omega arith)
rising_reached first (suc n) x low high = dite (ℕ_discrete first x) (λ e. let z = flag_same first x e in omega arith)
    (λ ne. let h = rising_reached (first + 1) n x (omega arith) (omega arith) in omega arith)

pub all_once : (x : ℕ) → times x all_threads ≤ 1
unfolding all_threads
all_once x = rising_once 1 64 x

pub all_within : (x : ℕ) → 1 ≤ times x all_threads → (1 ≤ x) × (x ≤ 64)
unfolding all_threads
all_within x there = let h = rising_within 1 64 x there in (h.0, omega (arith, h.1))

pub all_reached : (x : ℕ) → 1 ≤ x → x ≤ 64 → 1 ≤ times x all_threads
unfolding all_threads
all_reached x low high = rising_reached 1 64 x low (omega arith)

pub all_length : length all_threads ≡ 64
unfolding all_threads
all_length = refl

-- the two halves
pub halves : (ts : List ℕ) → first_half ts ++ second_half ts ≡ ts
halves ts = take-append-drop (half_of ts) ts

pub times_halves : (x : ℕ) (ts : List ℕ) → times x (first_half ts) + times x (second_half ts) ≡ times x ts
times_halves x ts = sym (times-append x (first_half ts) (second_half ts)) ∙ ap (times x) (halves ts)

pub length_halves : (ts : List ℕ) → length (first_half ts) + length (second_half ts) ≡ length ts
length_halves ts = sym (length-append (first_half ts) (second_half ts)) ∙ ap (length {A = ℕ}) (halves ts)

-- ---- events of others

others_append : (ts : List ℕ) (xs ys : List Event) → ByOthers ts xs → ByOthers ts ys → ByOthers ts (xs ++ ys)
others_append ts [] ys a b = b
others_append ts (x ∷ xs) ys a b = (a.0, others_append ts xs ys a.1 b)

others_front : (ts : List ℕ) (xs ys : List Event) → ByOthers ts (xs ++ ys) → ByOthers ts xs
others_front ts [] ys a = tt
others_front ts (x ∷ xs) ys a = (a.0, others_front ts xs ys a.1)

others_back : (ts : List ℕ) (xs ys : List Event) → ByOthers ts (xs ++ ys) → ByOthers ts ys
others_back ts [] ys a = a
others_back ts (x ∷ xs) ys a = others_back ts xs ys a.1

others_fewer : (ts us : List ℕ) (xs : List Event) → ((x : ℕ) → times x us ≤ times x ts) → ByOthers ts xs
    → ByOthers us xs
others_fewer ts us [] fewer a = tt
others_fewer ts us (x ∷ xs) fewer a = let f = fewer x.thread in let h = a.0 in let z = h.0 in
    ((omega arith, h.1, h.2), others_fewer ts us xs fewer a.1)

others_both : (ts us : List ℕ) (xs : List Event) → ByOthers ts xs → ByOthers us xs → ByOthers (ts ++ us) xs
others_both ts us [] a b = tt
others_both ts us (x ∷ xs) a b = let h = a.0 in let y = h.0 in let z = b.0.0 in let s = times-append x.thread ts us in
    ((omega arith, h.1, h.2), others_both ts us xs a.1 b.1)

-- ---- beginnings of the history

pub starts_whole : (h : List Event) → StartsWith h h
starts_whole h = record { rest = []; whole = sym (append-nil h) }

pub starts_more : (h front more : List Event) → StartsWith h front → StartsWith (h ++ more) front
starts_more h front more s =
    record { rest = s.rest ++ more; whole = ap (λ l. l ++ more) s.whole ∙ append_assoc front s.rest more }

pub knows_whole : (h : List Event) (ts : List ℕ) → Knows h ts h
knows_whole h ts = record { rest = []; whole = sym (append-nil h); others = tt }

-- an event of another thread comes
pub knows_more : (h : List Event) (ts : List ℕ) (seen : List Event) (e : Event) → Knows h ts seen
    → times e.thread ts ≡ 0 → 1 ≤ e.thread → e.thread ≤ 64 → Knows (h ++ e ∷ []) ts seen
knows_more h ts seen e k other low high = record {
  rest = k.rest ++ e ∷ [];
  whole = ap (λ l. l ++ e ∷ []) k.whole ∙ append_assoc seen k.rest (e ∷ []);
  others = others_append ts k.rest (e ∷ []) k.others ((other, low, high), tt);
}

pub knows_fewer : (h : List Event) (ts us : List ℕ) (seen : List Event) → ((x : ℕ) → times x us ≤ times x ts)
    → Knows h ts seen → Knows h us seen
knows_fewer h ts us seen fewer k =
    record { rest = k.rest; whole = k.whole; others = others_fewer ts us k.rest fewer k.others }

-- of two beginnings the shorter begins the longer
record Between (xs ys a b : List Event) : Type 0 where
  mid : List Event
  longer_is : ys ≡ xs ++ mid
  rest_is : a ≡ mid ++ b

between : (xs ys a b : List Event) → xs ++ a ≡ ys ++ b → length xs ≤ length ys → Between xs ys a b
between [] ys a b e le = record { mid = ys; longer_is = refl; rest_is = e }
between (x ∷ xs) [] a b e le = absurd (omega arith)
between (x ∷ xs) (y ∷ ys) a b e le =
    let head : x ≡ y = cc in let tail : xs ++ a ≡ ys ++ b = cc in let r = between xs ys a b tail (omega arith) in
    record { mid = r.mid; longer_is = (λ i. sym head i ∷ r.longer_is i); rest_is = r.rest_is }

-- what the longer has more names none of the shorter's threads, and what it lacks neither's
pub knows_between : (h : List Event) (ts us : List ℕ) (xs ys : List Event) → Knows h ts xs → Knows h us ys
    → length xs ≤ length ys → Knows ys ts xs
knows_between h ts us xs ys k m le =
    let r = between xs ys k.rest m.rest (sym k.whole ∙ m.whole) le in
    record {
      rest = r.mid;
      whole = r.longer_is;
      others = others_front ts r.mid m.rest (subst (ByOthers ts) r.rest_is k.others);
    }

lacks_less : (h : List Event) (ts us : List ℕ) (xs ys : List Event) (k : Knows h ts xs) (m : Knows h us ys)
    → length xs ≤ length ys → ByOthers ts m.rest
lacks_less h ts us xs ys k m le =
    let r = between xs ys k.rest m.rest (sym k.whole ∙ m.whole) le in
    others_back ts r.mid m.rest (subst (ByOthers ts) r.rest_is k.others)

-- two seats' threads know the longer of their lists
pub lt_of_true : (a b : ℕ) → nat_lt a b ≡ true → a < b
lt_of_true a b e = grind (arith, nat_tests)

pub le_of_false : (a b : ℕ) → nat_lt a b ≡ false → b ≤ a
le_of_false a b e = grind (arith, nat_tests)

pub knows_both : (h : List Event) (ts us : List ℕ) (xs ys : List Event) → Knows h ts xs → Knows h us ys
    → Knows h (ts ++ us) (longer xs ys)
knows_both h ts us xs ys k m =
    elim (nat_lt (length xs) (length ys)) as
    (λ b. nat_lt (length xs) (length ys) ≡ b → Knows h (ts ++ us) (if b then ys else xs)) [
      | true ↦ λ e. record {
        rest = m.rest;
        whole = m.whole;
        others = others_both ts us m.rest
            (lacks_less h ts us xs ys k m (let l = lt_of_true _ _ e in omega arith)) m.others;
      }
      | false ↦ λ e. record {
        rest = k.rest;
        whole = k.whole;
        others = others_both ts us k.rest k.others (lacks_less h us ts ys xs m k (le_of_false _ _ e));
      }
    ] refl

pub starts_longer : (h xs ys : List Event) → StartsWith h xs → StartsWith h ys → StartsWith h (longer xs ys)
starts_longer h xs ys a b =
    elim (nat_lt (length xs) (length ys)) as (λ c. StartsWith h (if c then ys else xs)) [ true ↦ b | false ↦ a ]

-- ---- all threads

-- who speaks for every thread lacks nothing
pub lacks_nothing : (ts : List ℕ) (xs : List Event) → ((x : ℕ) → 1 ≤ x → x ≤ 64 → 1 ≤ times x ts) → ByOthers ts xs
    → xs ≡ []
lacks_nothing ts [] every a = refl
lacks_nothing ts (x ∷ xs) every a = let h = a.0 in let z = h.0 in let e = every x.thread h.1 h.2 in absurd (omega arith)

pub knows_all : (h : List Event) (ts : List ℕ) (seen : List Event) → ((x : ℕ) → 1 ≤ x → x ≤ 64 → 1 ≤ times x ts)
    → Knows h ts seen → h ≡ seen
knows_all h ts seen every k = k.whole ∙ ap (λ l. seen ++ l) (lacks_nothing ts k.rest every k.others) ∙ append-nil seen
