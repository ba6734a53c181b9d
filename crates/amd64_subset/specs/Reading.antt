-- Reading from left to right, and what is missing where the bytes are too few.
use Rattle.std.specs.Prelude.{◌≡◌, ℕ, ◌+◌, ◌-◌, List, length, take, drop, Result, Ok, Err, nat_lt, if◌then◌else◌}
use Rattle.amd64_subset.specs.declared.fault.Fault.{Fault}
use Rattle.amd64_subset.specs.declared.fault.Fault.TheVariants.{Short}
use Rattle.amd64_words.specs.declared.size.Size.{Size}
use Rattle.amd64_subset.specs.declared.numbers.Numbers.{Numbers}
use Rattle.amd64_subset.specs.Number.{count_of, signed_of}

-- what was read, and the bytes after it
abbrev pub Read : Type 0 → Type 0
Read A = Result (A × List ℕ) Fault

infixl 10 ◌>>=◌
-- one thing after another, up to the first error
abbrev pub ◌>>=◌ : {A B E : Type 0} → Result A E → (A → Result B E) → Result B E
(Ok x) >>= f = f x
(Err e) >>= f = Err e

-- What a function returned, mapped by `view`, is what reading gives.
abbrev pub Gives : {X Y : Type 0} → (X → Y) → Result X Fault → Result Y Fault → Type 0
Gives view (Ok x) read = read ≡ Ok (view x)
Gives view (Err e) read = read ≡ Err e

unfoldable pub numbers_at : Size → Size → List ℕ → Read Numbers
numbers_at displacement immediate bytes =
    let first = count_of displacement in
    let size = first + count_of immediate in
    if nat_lt (length bytes) size then Err (Short (size - length bytes)) else
    Ok (
      record {
        displacement = signed_of displacement (take first bytes);
        immediate = signed_of immediate (take (count_of immediate) (drop first bytes));
      },
      drop (count_of immediate) (drop first bytes),
    )
