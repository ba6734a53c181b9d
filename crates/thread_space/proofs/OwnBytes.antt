-- The bytes of one instance: its block, and its data.
use Rattle.std.proofs.Common.{◌≡◌, ◌∙◌, ◌-◌, ◌<◌, ℕ, true, List, [], ◌∷◌, length, Option, Some, None, refl, sym, ap}
use Rattle.std.proofs.Common.{subst}
use Rattle.std.specs.Prelude.{is_some, nat_le, option_and_then, option_map, slice_get}
use Rattle.std.proofs.lemmas.Bool.{false≢true}
use Rattle.std.proofs.lemmas.Option.{cond_some, none-some, same_Some, slice_get_within}
use Rattle.guest_operands.specs.declared.space.Access.TheVariants.{Read, Run, Write}
use Rattle.guest_operands.specs.Ranges.{Range, byte_in}
use Rattle.loaded_modules.specs.declared.instance.Instance.{Instance}
use Rattle.loaded_modules.specs.Images.{JobImages}
use Rattle.module_data.specs.Laws.{byte_read}
use Rattle.module_data.specs.Parts.{data_start, fresh_data}
use Rattle.module_data.specs.Pieces.{Piece, data_of}
use Rattle.thread_blocks.specs.Held.{block_with, data_with, ranges_in}
use Rattle.thread_blocks.specs.Instances.{block_start}
use Rattle.thread_space.specs.Places.{behind, block_ranges, data_ranges, takes}
use Rattle.thread_space.proofs.SharedIs.{shared_is, written_range}
use Rattle.loaded_modules.proofs.Left.{or_none}
use Rattle.thread_space.proofs.Sought.{looked}
use Rattle.thread_vector.specs.Vectors.{Vector, held}

own_read : (start place : ℕ) (bytes : List ℕ)
    → byte_in Read (written_range bytes start ∷ []) place ≡ option_and_then (slice_get bytes) (behind start place)
own_read start place bytes = looked start place bytes None
    ∙ or_none (option_and_then (slice_get bytes) (behind start place))

own_write : (start place : ℕ) (bytes : List ℕ)
    → byte_in Write (written_range bytes start ∷ []) place ≡ option_and_then (slice_get bytes) (behind start place)
own_write start place bytes = looked start place bytes None
    ∙ or_none (option_and_then (slice_get bytes) (behind start place))

-- ** a block

-- the byte at a place in a block with these bytes
abbrev pub block_byte_of : Vector → Instance → ℕ → Option (List ℕ) → Option ℕ
block_byte_of v x place None = None
block_byte_of v x place (Some bytes) = option_and_then (slice_get bytes) (behind (block_start v.thread x) place)

module _ (v : Vector) (x : Instance) (place : ℕ) where
  block_read-of : (bytes : Option (List ℕ))
      → byte_in Read (ranges_in (block_with v.thread x bytes)) place ≡ block_byte_of v x place bytes
  block_read-of None = refl
  block_read-of (Some bytes) = own_read (block_start v.thread x) place bytes

  block_write-of : (bytes : Option (List ℕ))
      → byte_in Write (ranges_in (block_with v.thread x bytes)) place ≡ block_byte_of v x place bytes
  block_write-of None = refl
  block_write-of (Some bytes) = own_write (block_start v.thread x) place bytes

  block_run-of : (bytes : Option (List ℕ)) → byte_in Run (ranges_in (block_with v.thread x bytes)) place ≡ None
  block_run-of None = refl
  block_run-of (Some bytes) = refl

  pub block_read : byte_in Read (block_ranges v x) place ≡ block_byte_of v x place (held v x.number)
  unfolding block_ranges
  block_read = block_read-of (held v x.number)

  pub block_write : byte_in Write (block_ranges v x) place ≡ block_byte_of v x place (held v x.number)
  unfolding block_ranges
  block_write = block_write-of (held v x.number)

  pub block_same : byte_in Read (block_ranges v x) place ≡ byte_in Write (block_ranges v x) place
  block_same = block_read ∙ sym block_write

  pub block_run : byte_in Run (block_ranges v x) place ≡ None
  unfolding block_ranges
  block_run = block_run-of (held v x.number)

  -- where the block takes a byte, there is one, and it lies there
  pub block_is_held : takes (block_ranges v x) place ≡ true → is_some (held v x.number) ≡ true
  block_is_held takes_it = by_bytes (held v x.number) refl
    where
      by_bytes : (bytes : Option (List ℕ)) → held v x.number ≡ bytes → is_some bytes ≡ true
      by_bytes None e = absurd (false≢true (sym (ap is_some (block_write ∙ ap (block_byte_of v x place) e)) ∙ takes_it))
      by_bytes (Some bytes) e = refl

  lies_in : (bytes : List ℕ) (at : Option ℕ) → is_some (option_and_then (slice_get bytes) at) ≡ true
      → (i : ℕ) → at ≡ Some i → i < length bytes
  lies_in bytes None has i e = absurd (none-some i e)
  lies_in bytes (Some j) has i e = by_byte (slice_get bytes j) refl
    where
      same : j ≡ i
      same = same_Some j i e

      by_byte : (o : Option ℕ) → slice_get bytes j ≡ o → i < length bytes
      by_byte None none = absurd (false≢true (sym (ap is_some none) ∙ has))
      by_byte (Some byte) found = subst (λ n. n < length bytes) same (slice_get_within bytes j byte found)

  pub block_has : (bytes : List ℕ) (at : ℕ) → takes (block_ranges v x) place ≡ true → held v x.number ≡ Some bytes
      → behind (block_start v.thread x) place ≡ Some at → at < length bytes
  block_has bytes at takes_it here begins =
      lies_in bytes (behind (block_start v.thread x) place)
      (sym (ap is_some (block_write ∙ ap (block_byte_of v x place) here)) ∙ takes_it) at begins

  pub block_begins : takes (block_ranges v x) place ≡ true → behind (block_start v.thread x) place ≡ None → ⊥
  block_begins takes_it before = by_bytes (held v x.number) refl
    where
      by_bytes : (bytes : Option (List ℕ)) → held v x.number ≡ bytes → ⊥
      by_bytes None e = false≢true (sym (ap is_some (block_write ∙ ap (block_byte_of v x place) e)) ∙ takes_it)
      by_bytes (Some bytes) e =
          false≢true (sym (ap is_some
          (block_write ∙ ap (block_byte_of v x place) e ∙ ap (option_and_then (slice_get bytes)) before))
          ∙ takes_it)

-- how far behind its start a place lies
pub behind_is : (start place at : ℕ) → behind start place ≡ Some at → at ≡ place - start
behind_is start place at begins = sym (cond_some (nat_le start place) (place - start) at begins).1

-- ** data

module _ (m : JobImages) (d : List Piece) (x : Instance) (place : ℕ) where
  -- how far behind the start of the data a place lies
  abbrev pub behind_start : Option ℕ
  behind_start = option_and_then (λ start. behind start place) (data_start m x)

  abbrev made_of : Option ℕ → Option (List ℕ) → List (Range ℕ)
  made_of start bytes = ranges_in (data_with x (option_map (λ start. written_range (fresh_data m x) start) start) bytes)

  abbrev byte_at : Option (List ℕ) → Option ℕ → Option ℕ
  byte_at bytes at = option_and_then (λ at. option_and_then (λ bytes. slice_get bytes at) bytes) at

  none_at : (at : Option ℕ) → None ≡ byte_at None at
  none_at None = refl
  none_at (Some at) = refl

  data_read-of : (start : Option ℕ) (bytes : Option (List ℕ))
      → byte_in Read (made_of start bytes) place ≡ byte_at bytes (option_and_then (λ start. behind start place) start)
  data_read-of None bytes = refl
  data_read-of (Some start) None = none_at (behind start place)
  data_read-of (Some start) (Some bytes) = own_read start place bytes

  data_write-of : (start : Option ℕ) (bytes : Option (List ℕ))
      → byte_in Write (made_of start bytes) place ≡ byte_at bytes (option_and_then (λ start. behind start place) start)
  data_write-of None bytes = refl
  data_write-of (Some start) None = none_at (behind start place)
  data_write-of (Some start) (Some bytes) = own_write start place bytes

  data_run-of : (start : Option ℕ) (bytes : Option (List ℕ)) → byte_in Run (made_of start bytes) place ≡ None
  data_run-of None bytes = refl
  data_run-of (Some start) None = refl
  data_run-of (Some start) (Some bytes) = refl

  pub data_read : byte_in Read (data_ranges m d x) place ≡ option_and_then (byte_read d x.number x.image) behind_start
  unfolding data_ranges byte_read
  data_read = rw (shared_is m x) (data_read-of (data_start m x) (data_of d x.number x.image))

  pub data_write : byte_in Write (data_ranges m d x) place ≡ option_and_then (byte_read d x.number x.image) behind_start
  unfolding data_ranges byte_read
  data_write = rw (shared_is m x) (data_write-of (data_start m x) (data_of d x.number x.image))

  pub data_same : byte_in Read (data_ranges m d x) place ≡ byte_in Write (data_ranges m d x) place
  data_same = data_read ∙ sym data_write

  pub data_run : byte_in Run (data_ranges m d x) place ≡ None
  unfolding data_ranges
  data_run = rw (shared_is m x) (data_run-of (data_start m x) (data_of d x.number x.image))

  -- where the data take a byte, it lies in them
  pub data_has : (at : ℕ) → takes (data_ranges m d x) place ≡ true → behind_start ≡ Some at
      → is_some (byte_read d x.number x.image at) ≡ true
  data_has at takes_it begins =
      sym (ap is_some (data_write ∙ ap (option_and_then (byte_read d x.number x.image)) begins)) ∙ takes_it

  pub data_begin : takes (data_ranges m d x) place ≡ true → behind_start ≡ None → ⊥
  data_begin takes_it before =
      false≢true (sym (ap is_some (data_write ∙ ap (option_and_then (byte_read d x.number x.image)) before)) ∙ takes_it)
