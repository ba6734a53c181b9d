-- What lines can tell, in the order of the text.
use Rattle.std.specs.Prelude.{◌≡◌, ◌≢◌, ◌≤◌, ◌<◌, ◌+◌, ◌^◌, ◌↔◌, ℕ, List, length, Option, Some, None}
use Rattle.std.specs.List.{All, AllPairs, Contains}
use Rattle.job_text.specs.Jobs.{JobParts}
use Rattle.job_text.specs.Threads.{IsThread}
use Rattle.job_text.specs.declared.images.Image.{Image}
use Rattle.job_grammar_laws.specs.Derived.{IsJobOf}
use Rattle.job_grammar_laws.specs.Grammar.{Asked, IsWord, Told, group, names, thread_count}
use Rattle.job_grammar_laws.specs.Images.{IsSpelled}
use Rattle.job_grammar_laws.specs.Spellable.{HasText, IsWritable}

-- a line of a thread that there is, about an image that there is
pub record IsAskable (told : Told) (asked : Asked) : Type 0 where
  pub thread : IsThread (thread_count told) asked.thread
  pub image : Contains (names told.images) asked.image
  pub action : IsWritable asked.action

-- a line, if there is something to tell
abbrev pub line_for : {X : Type 0} → Option X → ℕ
line_for None = 0
line_for (Some x) = 1

-- the lines that tell all this
abbrev pub line_count : Told → ℕ
line_count told =
    length told.images + line_for told.threads + line_for told.fuel + line_for told.order + length told.asked

-- what lines can tell
pub record CanBeTold (told : Told) : Type 0 where
  pub few_images : length told.images ≤ 64
  pub images : All IsSpelled told.images
  pub objects : All (λ image. All IsWord image.objects) told.images
  pub apart : AllPairs (λ (a b : List ℕ). a ≢ b) (names told.images)
  pub one_program : AllPairs (λ (a b : Image). group a.kind ≡ 0 → group b.kind ≢ 0) told.images
  pub threads : (n : ℕ) → told.threads ≡ Some n → (1 ≤ n) × (n ≤ 64)
  pub fuel : (n : ℕ) → told.fuel ≡ Some n → (1 ≤ n) × (n < 2 ^ 32)
  pub order : (threads : List ℕ) → told.order ≡ Some threads
      → (1 ≤ length threads) × All (IsThread (thread_count told)) threads
  pub asked : All (IsAskable told) told.asked
  pub few_lines : line_count told ≤ 65536

-- a job has a text exactly if it is made of that
abbrev pub TextsTellAll : Type 0
TextsTellAll = (job : JobParts) → HasText job ↔ ((told : Told) × CanBeTold told × IsJobOf told job)
