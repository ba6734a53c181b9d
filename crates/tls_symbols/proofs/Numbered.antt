-- Names keep their numbers where more names come.
use Rattle.std.proofs.Common.{◌≡◌, ◌+◌, ◌<◌, ◌∙◌, ◌++◌, ℕ, Bool, true, cond, List, [], ◌∷◌, Option, Some, None, length}
use Rattle.std.proofs.Common.{map, eqb, inl, inr, refl, sym, ap, subst, Bor, arith}
use Rattle.std.specs.Global.{Vec}
use Rattle.std.specs.Prelude.{slice_index, slice_index_or}
use Rattle.std.specs.Str.{bytes_eq}
use Rattle.std.proofs.lemmas.Bool.{cases_lt}
use Rattle.std.proofs.lemmas.Bool.Decides.{nat_tests}
use Rattle.std.proofs.lemmas.List.{length-append, length-map, map-append, get_or_append_left, get_or_push}
use Rattle.std.proofs.lemmas.List.Folds.{position_or_len_push}
use Rattle.elf_object.specs.Lent.{symbol_name}
use Rattle.tls_symbols.specs.declared.numbers.KnownSymbol.{KnownSymbol}
use Rattle.tls_symbols.specs.Numbers.{Names, number_of, Grows, IsNamed, IsNumbered, AreNumbered, AreListed}

-- a name is equal to itself
pub same_name : (name : List ℕ) → bytes_eq name name ≡ true
same_name [] = refl
same_name (x ∷ xs) = grind (arith, nat_tests, same_name xs)

pub grows_then : (a b c : Names) → Grows a b → Grows b c → Grows a c
grows_then a b c first next = record { keeps = λ name n h. next.keeps name n (first.keeps name n h) }

-- the test by which names are kept apart
abbrev pub same_names : Bor (List ℕ) → Bor (List ℕ) → Bool
same_names x y = bytes_eq x.now y.now

pushed : (m n k : ℕ) → m < n → cond (eqb m n) k m ≡ m
pushed m n k less = grind (arith, nat_tests)

last : (m n : ℕ) → cond (eqb m n) (n + 0) m ≡ m
last m n = grind (arith, nat_tests)

grows_push : (names : Names) (k : Bor (List ℕ)) → Grows names (names ++ k ∷ [])
grows_push names k = record {
  keeps = λ name n h. record {
    number = h.number ∙ sym
        (position_or_len_push (λ x. bytes_eq name x.now) names k
        ∙ pushed (number_of names name) (length names) _ (subst (λ m. m < length names) h.number h.within));
    within = omega (arith, h.within, length-append names (k ∷ []));
  };
}

-- what holds of each entry so far, and of one more
pub each_push : {X : Type 0} (P : ℕ → X → Type 0) (xs : List X) (y d : X) (n : ℕ) → length xs ≡ n
    → ((k : ℕ) → k < n → P k (slice_index_or xs k d)) → P n y → (k : ℕ) → k < n + 1
    → P k (slice_index_or (xs ++ y ∷ []) k d)
each_push P xs y d n len each last k below = elim (cases_lt k n) [
  | inl less ↦ subst (P k) (sym (get_or_append_left xs (y ∷ []) d k (omega (arith, len)))) (each k less)
  | inr most ↦ let at : k ≡ n = omega arith in
      subst (λ m. P m (slice_index_or (xs ++ y ∷ []) m d)) (sym at) (subst (P n) (sym (get_or_push xs y d n len)) last)
]

-- numbers among more names
named_grows : (old new : Names) (b : List ℕ) (e : ℕ) (number : Option ℕ) → Grows old new → IsNamed old b e number
    → IsNamed new b e number
named_grows old new b e (Some n) grows is = (is.0, grows.keeps (symbol_name b e) n is.1)
named_grows old new b e None grows is = is

pub known_grows : (old new : Names) (b : List ℕ) (e : ℕ) (known : KnownSymbol) → Grows old new
    → IsNumbered old b e known → IsNumbered new b e known
known_grows old new b e known grows is =
    record { name = named_grows old new b e known.name grows is.name; is_tls = is.is_tls }

pub numbered_grows : (old new : Names) (b : List ℕ) (known : List KnownSymbol) → Grows old new → AreNumbered old b known
    → AreNumbered new b known
numbered_grows old new b known grows all = record {
  len = all.len;
  each = λ e d below. known_grows old new b e (slice_index_or known e d) grows (all.each e d below);
}

pub listed_grows : (old new : Names) (listed : List (List ℕ)) (numbers : List ℕ) → Grows old new
    → AreListed old listed numbers → AreListed new listed numbers
listed_grows old new listed numbers grows all = record {
  len = all.len;
  each = λ j below. grows.keeps (slice_index_or listed j []) (slice_index numbers j) (all.each j below);
}

-- the same of lists, each of which is held by a `Vec`
pub vecs_push : {X : Type 0} (P : ℕ → List X → Type 0) (old new : List (Vec X)) (own : Vec X) (n : ℕ) → length old ≡ n
    → new ≡ old ++ own ∷ []
    → ((k : ℕ) → k < n → P k (slice_index_or (map (λ v. v.items) old) k [])) → P n own.items → (k : ℕ) → k < n + 1
    → P k (slice_index_or (map (λ v. v.items) new) k [])
vecs_push {X} P old new own n len pushed each last =
    let f : Vec X → List X = λ v. v.items in
    let P' : List (List X) → Type 0 = λ xs. (k : ℕ) → k < n + 1 → P k (slice_index_or xs k []) in
    subst P' (sym (ap (map f) pushed ∙ map-append f old (own ∷ [])))
    (each_push P (map f old) own.items [] n (length-map old f ∙ len) each last)
