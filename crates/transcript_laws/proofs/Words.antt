-- Words, and the lines that they make: what was joined is split again.
use Rattle.std.proofs.Common.{◌≡◌, ◌∙◌, ℕ, ◌<◌, ◌≤◌, true, false, ◌==◌, List, [], ◌∷◌, ◌++◌}
use Rattle.std.proofs.Common.{Option, Some, None, append_assoc, append-nil, refl, sym, ap, arith, leb-true, eq-eqb}
use Rattle.std.proofs.Common.{ne_eqb}
use Rattle.std.proofs.lemmas.Bool.{and_parts}
use Rattle.std.proofs.lemmas.List.Elements.{All-cons, All-nil}
use Rattle.std.proofs.lemmas.List.Splits.{slice_split_at, slice_split_none}
use Rattle.std.specs.List.{All, list_all, slice_split}
use Rattle.std.specs.Option.{option_or}
use Rattle.std.specs.Prelude.{nat_le}
use Rattle.transcript_laws.specs.Reader.{first_said, lines_in, words_in}

-- ** bytes from a number on

abbrev pub From : ℕ → List ℕ → Type 0
From low [] = Unit {0}
From low (x ∷ xs) = (low ≤ x) × From low xs

pub From-append : (low : ℕ) (xs ys : List ℕ) → From low xs → From low ys → From low (xs ++ ys)
From-append low [] ys first second = second
From-append low (x ∷ xs) ys first second = (first.0, From-append low xs ys first.1 second)

pub From-lower : (low high : ℕ) (xs : List ℕ) → low ≤ high → From high xs → From low xs
From-lower low high [] le are = tt
From-lower low high (x ∷ xs) le are = (omega (arith, are.0), From-lower low high xs le are.1)

-- a closed word is tested
pub From-tested : (low : ℕ) (xs : List ℕ) → list_all (λ x. nat_le low x) xs ≡ true → From low xs
From-tested low [] e = tt
From-tested low (x ∷ xs) e =
    let parts = and_parts (nat_le low x) (list_all (λ x. nat_le low x) xs) e in
    (leb-true low x parts.0, From-tested low xs parts.1)

None-is : (c low : ℕ) (xs : List ℕ) → c < low → From low xs → All (λ x. (x == c) ≡ false) xs
None-is c low [] lt are = All-nil (λ x. (x == c) ≡ false)
None-is c low (x ∷ xs) lt are =
    All-cons (λ x. (x == c) ≡ false) x xs (ne_eqb x c (λ e. omega (arith, are.0))) (None-is c low xs lt are.1)

-- what is cut at a byte
pub cut_at : (c low : ℕ) (xs more : List ℕ) → c < low → From low xs
    → slice_split (λ b. b == c) (xs ++ c ∷ more) ≡ xs ∷ slice_split (λ b. b == c) more
cut_at c low xs more lt are = slice_split_at (λ b. b == c) xs c more (None-is c low xs lt are) (eq-eqb c c refl)

pub uncut : (c low : ℕ) (xs : List ℕ) → c < low → From low xs → slice_split (λ b. b == c) xs ≡ xs ∷ []
uncut c low xs lt are = slice_split_none (λ b. b == c) xs (None-is c low xs lt are)

-- ** words of a line

abbrev pub joined : List ℕ → List (List ℕ) → List ℕ
joined first [] = first
joined first (word ∷ more) = first ++ 32 ∷ joined word more

abbrev pub AreWords : List (List ℕ) → Type 0
AreWords [] = Unit {0}
AreWords (word ∷ more) = From 33 word × AreWords more

pub joined-append : (first word : List ℕ) (more : List (List ℕ)) (end : List ℕ)
    → joined first (word ∷ more) ++ end ≡ first ++ 32 ∷ (joined word more ++ end)
joined-append first word more end = append_assoc first (32 ∷ joined word more) end

pub words_joined : (first : List ℕ) (more : List (List ℕ)) → From 33 first → AreWords more
    → words_in (joined first more) ≡ first ∷ more
words_joined first [] is are = uncut 32 33 first (omega arith) is
words_joined first (word ∷ more) is are =
    cut_at 32 33 first (joined word more) (omega arith) is ∙ ap (λ ws. first ∷ ws) (words_joined word more are.0 are.1)

pub joined-From : (first : List ℕ) (more : List (List ℕ)) → From 33 first → AreWords more → From 32 (joined first more)
joined-From first [] is are = From-lower 32 33 first (omega arith) is
joined-From first (word ∷ more) is are =
    From-append 32 first (32 ∷ joined word more) (From-lower 32 33 first (omega arith) is)
    (omega arith, joined-From word more are.0 are.1)

-- ** answers of a text's lines

or_assoc : {Y : Type 0} (a b c : Option Y) → option_or (option_or a b) c ≡ option_or a (option_or b c)
or_assoc None b c = refl
or_assoc (Some x) b c = refl

module _ {Y : Type 0} (f : List (List ℕ) → Option Y) where
  abbrev pub said : List ℕ → Option Y
  said text = first_said (λ line. f (words_in line)) (lines_in text)

  -- the first answer of a text's lines, whatever follows
  abbrev pub Says : List ℕ → Option Y → Type 0
  Says text answer = (rest : List ℕ) → said (text ++ rest) ≡ option_or answer (said rest)

  pub says_nothing : Says [] None
  says_nothing rest = refl

  pub says_both : (a b : List ℕ) (x y : Option Y) → Says a x → Says b y → Says (a ++ b) (option_or x y)
  says_both a b x y first second rest =
      ap said (append_assoc a b rest) ∙ first (b ++ rest) ∙ ap (option_or x) (second rest)
      ∙ sym (or_assoc x y (said rest))

  -- a line says what its words do
  pub says_line : (first : List ℕ) (more : List (List ℕ)) → From 33 first → AreWords more
      → Says (joined first more ++ 10 ∷ []) (f (first ∷ more))
  unfolding first_said
  says_line first more is are rest =
      ap said (append_assoc (joined first more) (10 ∷ []) rest)
      ∙ ap (first_said (λ line. f (words_in line)))
      (cut_at 10 32 (joined first more) rest (omega arith) (joined-From first more is are))
      ∙ ap (λ ws. option_or (f ws) (said rest)) (words_joined first more is are)

  -- the whole text
  pub says_all : (text : List ℕ) (answer : Option Y) → Says text answer → f ([] ∷ []) ≡ None → said text ≡ answer
  unfolding first_said
  says_all text answer says none =
      ap said (sym (append-nil text)) ∙ says [] ∙ ap (λ (o : Option Y). option_or answer (option_or o None)) none
      ∙ or_none answer
    where
      or_none : (o : Option Y) → option_or o None ≡ o
      or_none None = refl
      or_none (Some x) = refl
