-- The limits of jobs, in literals. It watches `Grammar`, `LineFaults` and `Jobs` (job_text).
use Rattle.std.specs.Option.{option_map}
use Rattle.std.specs.Prelude.{◌≡◌, ◌↔◌, ◌<◌, ◌≤◌, ℕ, Bool, true, false, List, [], ◌∷◌, Option, Some, codes, length}
use Rattle.std.specs.List.{filter, range_with_len}
use Rattle.job_text.specs.declared.images.Image.{Image as JobImage}
use Rattle.job_text.specs.Drafts.{Declared, image_count, nothing_declared}
use Rattle.job_text.specs.Grammar.{has_name_length, heading_of, is_name_byte, is_short_name}
use Rattle.job_text.specs.Jobs.{job_with}
use Rattle.job_text.specs.LineFaults.{has_bad_number, is_miscounted}
use Rattle.job_text.specs.Numbers.{number}

-- ** jobs

-- whether a line of this number and these words has the fault Count, and whether it has the fault Number
abbrev pub miscounts : Declared → ℕ → List (List ℕ) → Option Bool
miscounts d line words = option_map (λ heading. is_miscounted d line heading (length words)) (heading_of words)

abbrev pub misnumbers : Declared → List (List ℕ) → Option Bool
misnumbers d words = option_map (λ heading. has_bad_number d heading words) (heading_of words)

-- an image's line, one of threads, and one of fuel
abbrev pub image_line : List ℕ → List ℕ → List (List ℕ)
image_line name object = codes "image" ∷ name ∷ codes "late" ∷ object ∷ []

abbrev pub threads_line : List ℕ → List (List ℕ)
threads_line word = codes "threads" ∷ word ∷ []

abbrev pub fuel_line : List ℕ → List (List ℕ)
fuel_line word = codes "fuel" ∷ word ∷ []

abbrev pub peek_line : List ℕ → List ℕ → List ℕ → List (List ℕ)
peek_line image symbol word = codes "1" ∷ codes "peek" ∷ image ∷ symbol ∷ word ∷ []

pub record JobsAreSmall : Type 0 where
  -- a name of an image has 1 to 64 bytes, and these bytes
  pub image_name : (word : List ℕ) → (has_name_length word ≡ true) ↔ ((1 ≤ length word) × (length word ≤ 64))
  pub letters : filter is_name_byte (range_with_len 0 256)
      ≡ codes "-.0123456789ABCDEFGHIJKLMNOPQRSTUVWXYZ_abcdefghijklmnopqrstuvwxyz"
  -- one of an object or a symbol has 255 at most
  pub name : (word : List ℕ) → (is_short_name word ≡ true) ↔ (length word ≤ 255)
  -- no image after the 64th, and no line after the 65,536th
  pub images : (d : Declared) (name object : List ℕ)
      → (miscounts d 1 (image_line name object) ≡ Some true) ↔ (image_count d ≡ 64)
  pub lines : (d : Declared) (line : ℕ) (word : List ℕ)
      → (miscounts d line (threads_line word) ≡ Some true) ↔ (65536 < line)
  -- 1 to 64 threads
  pub threads : (d : Declared) (word : List ℕ) (n : ℕ) → number word ≡ Some n
      → (misnumbers d (threads_line word) ≡ Some false) ↔ ((1 ≤ n) × (n ≤ 64))
  -- 1 to 2^32 - 1 steps of a call; where no line says so 100,000
  pub fuel : (d : Declared) (word : List ℕ) (n : ℕ) → number word ≡ Some n
      → (misnumbers d (fuel_line word) ≡ Some false) ↔ ((1 ≤ n) × (n ≤ 4294967295))
  pub no_fuel : (program : JobImage) → (job_with program nothing_declared).fuel ≡ 100000
  -- a peek shows 4,096 bytes at most
  pub peek : (image symbol word : List ℕ) (n : ℕ) → number word ≡ Some n
      → (misnumbers nothing_declared (peek_line image symbol word) ≡ Some false) ↔ (n ≤ 4096)
