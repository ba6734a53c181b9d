-- The kinds of a job's lines. The reader's own type of kinds has no name outside its crate; so a kind is told by words
-- of a line that has it.
use Rattle.std.proofs.Common.{◌≡◌, ℕ, Bool, true, false, cond, List, [], ◌∷◌, length, refl}
use Rattle.std.proofs.lemmas.Bool.{cond_both}
use Rattle.std.proofs.lemmas.Slice.Eq.{bytes_eq-Decides}
use Rattle.std.specs.Prelude.{codes, nat_lt}
use Rattle.std.specs.Str.{bytes_eq}
use Rattle.job_text.specs.Grammar.{begins_with_digit, heading_of, kind_heading, verb_heading}
use Rattle.job_text.specs.Words.{word_at}
use Rattle.link_faults.specs.declared.image_kind.ImageKind.{ImageKind}
use Rattle.link_faults.specs.declared.image_kind.ImageKind.TheVariants as image
use Rattle.job_grammar_laws.specs.Grammar.{kind_word}

-- the kinds; a line that is too short to tell its kind, and one of none
pub data Kind : Type 0 where
  Image : ImageKind → Kind
  Threads : Kind
  Fuel : Kind
  Order : Kind
  Call : Kind
  Open : Kind
  Close : Kind
  Peek : Kind
  Short : Kind
  Other : Kind

-- words of a line of a kind
abbrev pub sample : Kind → List (List ℕ)
sample (Image kind) = codes "image" ∷ [] ∷ kind_word kind ∷ []
sample Threads = codes "threads" ∷ []
sample Fuel = codes "fuel" ∷ []
sample Order = codes "order" ∷ []
sample Call = codes "1" ∷ codes "call" ∷ []
sample Open = codes "1" ∷ codes "open" ∷ []
sample Close = codes "1" ∷ codes "close" ∷ []
sample Peek = codes "1" ∷ codes "peek" ∷ []
sample Short = codes "image" ∷ []
sample Other = codes "image" ∷ [] ∷ [] ∷ []

-- what words of a line of a kind have in common
abbrev pub Begins : Kind → List (List ℕ) → Type 0
Begins (Image kind) words = (word_at 0 words ≡ codes "image") × (word_at 2 words ≡ kind_word kind)
Begins Threads words = word_at 0 words ≡ codes "threads"
Begins Fuel words = word_at 0 words ≡ codes "fuel"
Begins Order words = word_at 0 words ≡ codes "order"
Begins Call words = word_at 1 words ≡ codes "call"
Begins Open words = word_at 1 words ≡ codes "open"
Begins Close words = word_at 1 words ≡ codes "close"
Begins Peek words = word_at 1 words ≡ codes "peek"
Begins Short words = Unit {0}
Begins Other words = Unit {0}

same : (a b : List ℕ) → bytes_eq a b ≡ true → a ≡ b
same a b e = (bytes_eq-Decides a b).0 e

pick : {H : Type 0} (P : H → Type 0) (b : Bool) (x y : H) → (b ≡ true → P x) → (b ≡ false → P y) → P (cond b x y)
pick P b x y = cond_both b x y P

module _ (words : List (List ℕ)) where
  kind_is : word_at 0 words ≡ codes "image"
      → (k : Kind) × (kind_heading (word_at 2 words) ≡ heading_of (sample k)) × Begins k words
  unfolding heading_of kind_heading
  kind_is first =
      pick (λ h. (k : Kind) × (h ≡ heading_of (sample k)) × Begins k words)
      (bytes_eq (word_at 2 words) (codes "exe")) _ _ (λ e. (
        Image image.Exe,
        refl,
        (first, same (word_at 2 words) (codes "exe") e),
      ))
      (λ _. pick (λ h. (k : Kind) × (h ≡ heading_of (sample k)) × Begins k words)
      (bytes_eq (word_at 2 words) (codes "pie")) _ _ (λ e. (
        Image image.Pie,
        refl,
        (first, same (word_at 2 words) (codes "pie") e),
      ))
      (λ _. pick (λ h. (k : Kind) × (h ≡ heading_of (sample k)) × Begins k words)
      (bytes_eq (word_at 2 words) (codes "start")) _ _ (λ e. (
        Image image.Start,
        refl,
        (first, same (word_at 2 words) (codes "start") e),
      ))
      (λ _. pick (λ h. (k : Kind) × (h ≡ heading_of (sample k)) × Begins k words)
      (bytes_eq (word_at 2 words) (codes "late")) _ _ (λ e. (
        Image image.Late,
        refl,
        (first, same (word_at 2 words) (codes "late") e),
      ))
      (λ _. (Other, refl, tt)))))

  verb_is : (k : Kind) × (verb_heading (word_at 1 words) ≡ heading_of (sample k)) × Begins k words
  unfolding heading_of kind_heading verb_heading
  verb_is =
      pick (λ h. (k : Kind) × (h ≡ heading_of (sample k)) × Begins k words)
      (bytes_eq (word_at 1 words) (codes "call")) _ _ (λ e. (Call, refl, same (word_at 1 words) (codes "call") e))
      (λ _. pick (λ h. (k : Kind) × (h ≡ heading_of (sample k)) × Begins k words)
      (bytes_eq (word_at 1 words) (codes "open")) _ _ (λ e. (Open, refl, same (word_at 1 words) (codes "open") e))
      (λ _. pick (λ h. (k : Kind) × (h ≡ heading_of (sample k)) × Begins k words)
      (bytes_eq (word_at 1 words) (codes "close")) _ _ (λ e. (Close, refl, same (word_at 1 words) (codes "close") e))
      (λ _. pick (λ h. (k : Kind) × (h ≡ heading_of (sample k)) × Begins k words)
      (bytes_eq (word_at 1 words) (codes "peek")) _ _ (λ e. (Peek, refl, same (word_at 1 words) (codes "peek") e))
      (λ _. (Other, refl, tt)))))

  -- each line has a kind
  pub headed_as : (k : Kind) × (heading_of words ≡ heading_of (sample k)) × Begins k words
  unfolding heading_of kind_heading
  headed_as =
      pick (λ h. (k : Kind) × (h ≡ heading_of (sample k)) × Begins k words)
      (bytes_eq (word_at 0 words) (codes "image")) _ _
      (λ e. pick (λ h. (k : Kind) × (h ≡ heading_of (sample k)) × Begins k words)
      (nat_lt (length words) 3) _ _ (λ _. (Short, refl, tt)) (λ _. kind_is (same (word_at 0 words) (codes "image") e)))
      (λ _. pick (λ h. (k : Kind) × (h ≡ heading_of (sample k)) × Begins k words)
      (bytes_eq (word_at 0 words) (codes "threads")) _ _ (λ e.
      (Threads, refl, same (word_at 0 words) (codes "threads") e))
      (λ _. pick (λ h. (k : Kind) × (h ≡ heading_of (sample k)) × Begins k words)
      (bytes_eq (word_at 0 words) (codes "fuel")) _ _ (λ e. (Fuel, refl, same (word_at 0 words) (codes "fuel") e))
      (λ _. pick (λ h. (k : Kind) × (h ≡ heading_of (sample k)) × Begins k words)
      (bytes_eq (word_at 0 words) (codes "order")) _ _ (λ e. (Order, refl, same (word_at 0 words) (codes "order") e))
      (λ _. pick (λ h. (k : Kind) × (h ≡ heading_of (sample k)) × Begins k words)
      (begins_with_digit (word_at 0 words)) _ _
      (λ _. pick (λ h. (k : Kind) × (h ≡ heading_of (sample k)) × Begins k words)
      (nat_lt (length words) 2) _ _ (λ _. (Short, refl, tt)) (λ _. verb_is))
      (λ _. (Other, refl, tt))))))
