-- A byte that is read or run: the stack first, then blocks, data, the word at the thread pointer, and what is fixed.
use Rattle.std.proofs.Common.{◌≡◌, ◌∙◌, ◌++◌, ◌||◌, ◌-◌, ℕ, true, false, List, [], ◌∷◌, Option, Some, None, refl, sym}
use Rattle.std.proofs.Common.{ap, inl, inr}
use Rattle.std.specs.Prelude.{is_some, not, option_and_then}
use Rattle.std.specs.List.{find, flat_map}
use Rattle.std.specs.Option.{option_or}
use Rattle.std.proofs.lemmas.Bool.{cases_Bool, false≢true}
use Rattle.std.proofs.lemmas.List.{map-append}
use Rattle.address_map.specs.Map.{stack_start}
use Rattle.guest_arithmetic.specs.Plain.{plain_operations}
use Rattle.guest_operands.specs.declared.space.Access.{Access}
use Rattle.guest_operands.specs.declared.space.Access.TheVariants.{Read, Run, Write}
use Rattle.guest_operands.specs.Ranges.{Range, byte_in, grants}
use Rattle.loaded_modules.specs.declared.instance.Instance.{Instance}
use Rattle.thread_blocks.specs.Held.{Owned, ranges_in}
use Rattle.thread_blocks.specs.Instances.{fixed_of}
use Rattle.thread_blocks.specs.JobLoads.{job_loads, loaded_parts}
use Rattle.thread_blocks.specs.MachineTurns.{pointer_word}
use Rattle.thread_blocks.specs.Spaces.{stack_range}
use Rattle.thread_space.specs.Kept.{Kept, blocks_of, fixed_in, live_in, memory_of, shared_of}
use Rattle.thread_space.specs.OfParts.{fixed_ranges}
use Rattle.thread_space.specs.Places.{block_ranges, data_ranges, takes}
use Rattle.thread_space.proofs.OwnBytes.{block_run, block_same, data_run, data_same}
use Rattle.guest_operands.proofs.Sought.{byte_in-append, lies_within}
use Rattle.loaded_modules.proofs.Left.{or_none}
use Rattle.thread_space.proofs.Sought.{byte_in-each, found_passes, has_byte, none_each, same_each}

-- the ranges of each, one after another
pub ranges_each : {X : Type 0} (made : X → List (Owned ℕ)) (xs : List X)
    → ranges_in (flat_map made xs) ≡ flat_map (λ x. ranges_in (made x)) xs
ranges_each made [] = refl
ranges_each made (x ∷ xs) =
    map-append (λ (o : Owned ℕ). o.range) (made x) (flat_map made xs)
    ∙ ap (λ rest. ranges_in (made x) ++ rest) (ranges_each made xs)

module _ (k : Kept) where
  abbrev live : List Instance
  live = live_in k.vector.images k.vector.past

  abbrev pub stack_of : Range ℕ
  stack_of = stack_range (stack_start k.vector.thread) k.stack

  abbrev pub blocks_in : List (Range ℕ)
  blocks_in = flat_map (block_ranges k.vector) (live_in k.vector.images k.vector.past)

  abbrev pub data_among : List (Range ℕ)
  data_among = flat_map (data_ranges k.vector.images k.pieces) (live_in k.vector.images k.vector.past)

  abbrev pub fixed_among : List (Range ℕ)
  fixed_among = fixed_of (job_loads k.vector.images) (live_in k.vector.images k.vector.past)

  abbrev pub pointer_of : Range ℕ
  pointer_of = pointer_word plain_operations k.vector.thread

  -- the ranges of the memory, part by part
  pub memory_is : (memory_of k).ranges ≡ stack_of ∷ ((blocks_in ++ data_among) ++ pointer_of ∷ fixed_among)
  unfolding memory_of blocks_of shared_of fixed_in block_ranges data_ranges
  memory_is =
      ap (λ own. stack_of ∷ (own ++ pointer_of ∷ fixed_among))
      (map-append (λ (o : Owned ℕ). o.range) (blocks_of k.vector) (shared_of k.vector.images k.vector.past k.pieces)
      ∙ ap (λ xs. xs ++ ranges_in (shared_of k.vector.images k.vector.past k.pieces))
      (ranges_each _ (live_in k.vector.images k.vector.past))
      ∙ ap (λ xs. blocks_in ++ xs) (ranges_each _ (live_in k.vector.images k.vector.past)))

  module _ (place : ℕ) where
    -- behind the stack
    pub behind_stack : (access : Access)
        → byte_in access ((blocks_in ++ data_among) ++ pointer_of ∷ fixed_among) place
        ≡ option_or (byte_in access blocks_in place)
        (option_or (byte_in access data_among place) (byte_in access (pointer_of ∷ fixed_among) place))
    behind_stack access =
        byte_in-append access place (blocks_in ++ data_among) (pointer_of ∷ fixed_among)
        ∙ ap (λ o. option_or o (byte_in access (pointer_of ∷ fixed_among) place))
        (byte_in-append access place blocks_in data_among)
        ∙ or_assoc (byte_in access blocks_in place) (byte_in access data_among place)
        (byte_in access (pointer_of ∷ fixed_among) place)
      where
        or_assoc : (a b c : Option ℕ) → option_or (option_or a b) c ≡ option_or a (option_or b c)
        or_assoc None b c = refl
        or_assoc (Some x) b c = refl

    -- ** where nothing is found

    no_write : (ranges : List (Range ℕ)) → byte_in Write (fixed_ranges ranges) place ≡ None
    no_write [] = refl
    no_write (r ∷ rs) = elim (cases_Bool r.writable) [
      | inl t ↦ rw t (no_write rs)
      | inr f ↦ rw f (no_write rs)
    ]

    fixed_no_write : (x : Instance) → byte_in Write ((job_loads k.vector.images).fixed x) place ≡ None
    unfolding job_loads
    fixed_no_write x = no_write (loaded_parts k.vector.images x)

    pub fixed_not_written : byte_in Write (pointer_of ∷ fixed_among) place ≡ None
    fixed_not_written =
        none_each Write place (job_loads k.vector.images).fixed fixed_no_write (live_in k.vector.images k.vector.past)

    pub no_block_run : byte_in Run blocks_in place ≡ None
    no_block_run = none_each Run place (block_ranges k.vector) (λ x. block_run k.vector x place)
        (live_in k.vector.images k.vector.past)

    pub no_data_run : byte_in Run data_among place ≡ None
    no_data_run =
        none_each Run place (data_ranges k.vector.images k.pieces) (λ x. data_run k.vector.images k.pieces x place)
        (live_in k.vector.images k.vector.past)

    -- ** code

    pub run_is : byte_in Run (memory_of k).ranges place ≡ byte_in Run fixed_among place
    run_is =
        ap (λ ranges. byte_in Run ranges place) memory_is ∙ behind_stack Run
        ∙ rw (no_block_run, no_data_run) refl

    -- ** what is read and written alike

    abbrev pub block_found : Option Instance
    block_found = find (λ x. takes (block_ranges k.vector x) place) (live_in k.vector.images k.vector.past)

    abbrev pub data_found : Option Instance
    data_found = find (λ x. takes (data_ranges k.vector.images k.pieces x) place)
        (live_in k.vector.images k.vector.past)

    blocks_written : byte_in Write blocks_in place
        ≡ option_and_then (λ x. byte_in Write (block_ranges k.vector x) place) block_found
    blocks_written = byte_in-each Write place (block_ranges k.vector) (live_in k.vector.images k.vector.past)

    data_written : byte_in Write data_among place
        ≡ option_and_then (λ x. byte_in Write (data_ranges k.vector.images k.pieces x) place) data_found
    data_written = byte_in-each Write place (data_ranges k.vector.images k.pieces)
        (live_in k.vector.images k.vector.past)

    blocks_read : byte_in Read blocks_in place
        ≡ option_and_then (λ x. byte_in Write (block_ranges k.vector x) place) block_found
    blocks_read =
        same_each Read Write place (block_ranges k.vector) (λ x. block_same k.vector x place)
        (live_in k.vector.images k.vector.past)
        ∙ blocks_written

    data_read : byte_in Read data_among place
        ≡ option_and_then (λ x. byte_in Write (data_ranges k.vector.images k.pieces x) place) data_found
    data_read =
        same_each Read Write place (data_ranges k.vector.images k.pieces)
        (λ x. data_same k.vector.images k.pieces x place)
        (live_in k.vector.images k.vector.past)
        ∙ data_written

    -- what is found takes the byte
    found_some : (made : Instance → List (Range ℕ)) (o : Option Instance)
        → find (λ x. takes (made x) place) (live_in k.vector.images k.vector.past) ≡ o
        → is_some (option_and_then (λ x. byte_in Write (made x) place) o) ≡ is_some o
    found_some made None e = refl
    found_some made (Some x) e = found_passes (λ x. takes (made x) place) (live_in k.vector.images k.vector.past) x e

    -- ** whether a byte may be written

    some_or : (a b : Option ℕ) → is_some (option_or a b) ≡ (is_some a || is_some b)
    some_or None b = refl
    some_or (Some x) b = refl

    pub may_write_is : is_some (byte_in Write (memory_of k).ranges place)
        ≡ (grants Write stack_of place || (is_some block_found || is_some data_found))
    may_write_is = elim (cases_Bool (grants Write stack_of place)) [
      | inl t ↦
          ap (λ ranges. takes ranges place) memory_is
          ∙ rw t (has_byte k.stack (place - stack_start k.vector.thread) (lies_within Write stack_of place t))
      | inr f ↦
          ap (λ ranges. takes ranges place) memory_is
          ∙ rw f (ap is_some (behind_stack Write) ∙ some_or _ _
          ∙ ap (λ b. b || is_some
          (option_or (byte_in Write data_among place) (byte_in Write (pointer_of ∷ fixed_among) place)))
          (ap is_some blocks_written ∙ found_some (block_ranges k.vector) block_found refl)
          ∙ ap (λ b. is_some block_found || b)
          (ap (λ o. is_some (option_or (byte_in Write data_among place) o)) fixed_not_written
          ∙ ap is_some (or_none (byte_in Write data_among place))
          ∙ ap is_some data_written ∙ found_some (data_ranges k.vector.images k.pieces) data_found refl))
    ]

    -- ** which part takes a byte

    pub blocks_take : (o : Option Instance) → block_found ≡ o → takes blocks_in place ≡ is_some o
    blocks_take o found = ap is_some blocks_written ∙ found_some (block_ranges k.vector) block_found refl
        ∙ ap is_some found

    pub data_take : (o : Option Instance) → data_found ≡ o → takes data_among place ≡ is_some o
    data_take o found = ap is_some data_written ∙ found_some (data_ranges k.vector.images k.pieces) data_found refl
        ∙ ap is_some found

    -- ** a byte that is read

    or_some : (a b : Option ℕ) → is_some a ≡ true → option_or a b ≡ a
    or_some None b e = absurd (false≢true e)
    or_some (Some x) b e = refl

    abbrev whole : Option ℕ
    whole = byte_in Read (memory_of k).ranges place

    past_stack : grants Read stack_of place ≡ false
        → whole ≡ option_or (byte_in Read blocks_in place)
        (option_or (byte_in Read data_among place) (byte_in Read (pointer_of ∷ fixed_among) place))
    past_stack not = ap (λ ranges. byte_in Read ranges place) memory_is ∙ rw not (behind_stack Read)

    pub read_stack : grants Read stack_of place ≡ true
        → byte_in Read (memory_of k).ranges place ≡ byte_in Read (stack_of ∷ []) place
    read_stack here = ap (λ ranges. byte_in Read ranges place) memory_is ∙ rw here refl

    pub read_block : (x : Instance) → grants Read stack_of place ≡ false → block_found ≡ Some x
        → byte_in Read (memory_of k).ranges place ≡ byte_in Read (block_ranges k.vector x) place
    read_block x not found =
        let here : byte_in Read blocks_in place ≡ byte_in Read (block_ranges k.vector x) place =
        blocks_read ∙ ap (option_and_then (λ x. byte_in Write (block_ranges k.vector x) place)) found
        ∙ sym (block_same k.vector x place)
        in
        let some : is_some (byte_in Read (block_ranges k.vector x) place) ≡ true =
        ap is_some (block_same k.vector x place)
        ∙ found_passes (λ x. takes (block_ranges k.vector x) place) (live_in k.vector.images k.vector.past) x found
        in
        past_stack not
        ∙ ap (λ o. option_or o (option_or (byte_in Read data_among place)
        (byte_in Read (pointer_of ∷ fixed_among) place))) here
        ∙ or_some _ _ some

    past_blocks : grants Read stack_of place ≡ false → block_found ≡ None
        → whole ≡ option_or (byte_in Read data_among place) (byte_in Read (pointer_of ∷ fixed_among) place)
    past_blocks not none =
        past_stack not
        ∙ ap (λ o. option_or o (option_or (byte_in Read data_among place)
        (byte_in Read (pointer_of ∷ fixed_among) place)))
        (blocks_read ∙ ap (option_and_then (λ x. byte_in Write (block_ranges k.vector x) place)) none)

    pub read_data : (x : Instance) → grants Read stack_of place ≡ false → block_found ≡ None → data_found ≡ Some x
        → byte_in Read (memory_of k).ranges place ≡ byte_in Read (data_ranges k.vector.images k.pieces x) place
    read_data x not none found =
        let here : byte_in Read data_among place ≡ byte_in Read (data_ranges k.vector.images k.pieces x) place =
        data_read ∙ ap (option_and_then (λ x. byte_in Write (data_ranges k.vector.images k.pieces x) place)) found
        ∙ sym (data_same k.vector.images k.pieces x place)
        in
        let some : is_some (byte_in Read (data_ranges k.vector.images k.pieces x) place) ≡ true =
        ap is_some (data_same k.vector.images k.pieces x place)
        ∙ found_passes (λ x. takes (data_ranges k.vector.images k.pieces x) place)
        (live_in k.vector.images k.vector.past) x found
        in
        past_blocks not none ∙ ap (λ o. option_or o (byte_in Read (pointer_of ∷ fixed_among) place)) here
        ∙ or_some _ _ some

    pub read_fixed : grants Read stack_of place ≡ false → block_found ≡ None → data_found ≡ None
        → byte_in Read (memory_of k).ranges place ≡ byte_in Read (pointer_of ∷ fixed_among) place
    read_fixed not none no_data =
        past_blocks not none
        ∙ ap (λ o. option_or o (byte_in Read (pointer_of ∷ fixed_among) place))
        (data_read ∙ ap (option_and_then (λ x. byte_in Write (data_ranges k.vector.images k.pieces x) place)) no_data)
