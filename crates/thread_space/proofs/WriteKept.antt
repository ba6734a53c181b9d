-- What a byte that is written leaves of a memory: the first range that takes it changes, and no other.
use Rattle.std.proofs.Common.{◌≡◌, ◌≢◌, ◌∙◌, ◌-◌, ◌<◌, ◌++◌, ◌||◌, ℕ, zero, suc, Bool, true, false, List, [], ◌∷◌}
use Rattle.std.proofs.Common.{Option, Some, None, refl, sym, ap, subst, inl, inr, arith, cond}
use Rattle.std.specs.Prelude.{All, is_some, option_map, option_to_list, slice_set}
use Rattle.std.specs.List.{flat_map}
use Rattle.std.specs.Option.{option_or}
use Rattle.std.proofs.lemmas.Bool.{cases_Bool, false≢true}
use Rattle.std.proofs.lemmas.List.Elements.{All-append, All-cons, All-nil}
use Rattle.std.proofs.lemmas.Option.{cond_some, same_Some}
use Rattle.address_map.specs.Map.{stack_start}
use Rattle.guest_operands.specs.declared.space.Access.TheVariants.{Write}
use Rattle.guest_operands.specs.Ranges.{Range, byte_in, grants, with_byte}
use Rattle.loaded_modules.specs.declared.instance.Instance.{Instance}
use Rattle.loaded_modules.specs.Images.{JobImages, infos}
use Rattle.module_data.specs.Laws.{written}
use Rattle.module_data.specs.Parts.{data_start, fresh_data}
use Rattle.module_data.specs.Pieces.{Piece, data_of, is_of}
use Rattle.module_table.specs.declared.modules.ImageInfo.{ImageInfo}
use Rattle.module_table.specs.declared.modules.Module.{Module}
use Rattle.module_table.specs.Modules.{is_loaded}
use Rattle.module_table.specs.Past.{Past}
use Rattle.thread_blocks.specs.Held.{block_with, data_with, ranges_in}
use Rattle.thread_blocks.specs.Instances.{block_range, block_start, instances_from, instances_in, loaded_instance}
use Rattle.thread_space.specs.Kept.{Kept, live_in, memory_of}
use Rattle.thread_space.specs.Live.{IsLive}
use Rattle.thread_space.specs.Places.{block_ranges, data_ranges, takes}
use Rattle.thread_space.specs.Writing.{WritesBlock, WritesData}
use Rattle.thread_space.proofs.Live.{all_live, among_live, live_is, live_number}
use Rattle.thread_space.proofs.ReadKept.{block_found, blocks_in, blocks_take, data_among, data_found, data_take}
use Rattle.thread_space.proofs.ReadKept.{fixed_among, may_write_is, memory_is, pointer_of, stack_of}
use Rattle.thread_space.proofs.SharedIs.{shared_is, written_range}
use Rattle.guest_operands.proofs.Sought.{byte_in-append}
use Rattle.thread_space.proofs.Sought.{Rising, found_passes, with_byte-behind, with_byte-each, with_byte-here}
use Rattle.thread_space.proofs.Sought.{with_byte-none}
use Rattle.thread_vector.specs.Holding.{IsLeftBy}
use Rattle.thread_vector.specs.Vectors.{held}
use Rattle.thread_vector.proofs.Facts.{facts}

-- ** live instances stand in the order of their images

image_of_loaded : (xs : List ImageInfo) (i : ℕ) (n : Module) (x : Instance) → loaded_instance xs i n ≡ Some x
    → x.image ≡ i
image_of_loaded xs i n x is = sym (ap (λ (y : Instance). y.image) (cond_some (is_loaded n) _ x is).1)

above : (xs : List ImageInfo) (low i : ℕ) (ms : List Module) → low < i
    → All (λ (y : Instance). low < y.image) (instances_from xs i ms)
above xs low i [] less = All-nil (λ (y : Instance). low < y.image)
above xs low i (n ∷ ms) less =
    All-append (λ (y : Instance). low < y.image) (option_to_list (loaded_instance xs i n))
    (instances_from xs (suc i) ms)
    (by_option (loaded_instance xs i n) refl) (above xs low (suc i) ms (omega arith))
  where
    by_option : (o : Option Instance) → loaded_instance xs i n ≡ o
        → All (λ (y : Instance). low < y.image) (option_to_list o)
    by_option None e = All-nil (λ (y : Instance). low < y.image)
    by_option (Some x) e =
        All-cons (λ (y : Instance). low < y.image) x []
        (let at = image_of_loaded xs i n x e in omega (arith, at, less)) (All-nil (λ (y : Instance). low < y.image))

rising_from : (xs : List ImageInfo) (i : ℕ) (ms : List Module)
    → Rising (λ (x : Instance). x.image) (instances_from xs i ms)
rising_from xs i [] = tt
rising_from xs i (n ∷ ms) = by_option (rising_from xs (suc i) ms) (loaded_instance xs i n) refl
  where
    by_option : Rising (λ (x : Instance). x.image) (instances_from xs (suc i) ms) → (o : Option Instance)
        → loaded_instance xs i n ≡ o
        → Rising (λ (x : Instance). x.image) (option_to_list o ++ instances_from xs (suc i) ms)
    by_option rest None e = rest
    by_option rest (Some x) e =
        (above xs x.image (suc i) ms (let at = image_of_loaded xs i n x e in omega (arith, at)), rest)

rising : (m : JobImages) (p : Past) → Rising (λ (x : Instance). x.image) (live_in m p)
unfolding instances_in
rising m p = rising_from (infos m) 0 p.modules

-- two of other images have other numbers
apart : (m : JobImages) (p : Past) (x y : Instance) → IsLeftBy m p → IsLive m p x → IsLive m p y → y.image ≢ x.image
    → y.number ≢ x.number
apart m p x y left one two images same =
    ((facts m p left).own y.image x.image images (live_is m p y two).0 (live_is m p x one).0).0
    (live_number m p y two ∙ same ∙ sym (live_number m p x one))

-- ** one block

with_block_byte : (thread : ℕ) (x : Instance) (place byte : ℕ) (bytes : List ℕ)
    → takes (ranges_in (block_with thread x (Some bytes))) place ≡ true
    → ranges_in (block_with thread x (Some (slice_set bytes (place - block_start thread x) byte)))
    ≡ with_byte (ranges_in (block_with thread x (Some bytes))) place byte
with_block_byte thread x place byte bytes takes_it =
    elim (cases_Bool (grants Write (block_range thread x bytes) place)) [
      | inl t ↦ rw t refl
      | inr f ↦ absurd (false≢true (sym (sym takes_it ∙ rw f refl)))
    ]

block_here : (old new : Kept) (x : Instance) (place byte : ℕ) → WritesBlock old x place byte new
    → takes (block_ranges old.vector x) place ≡ true
    → block_ranges new.vector x ≡ with_byte (block_ranges old.vector x) place byte
unfolding block_ranges held
block_here old new x place byte writes takes_it = by_bytes (held old.vector x.number) refl
  where
    by_bytes : (o : Option (List ℕ)) → held old.vector x.number ≡ o
        → block_ranges new.vector x ≡ with_byte (block_ranges old.vector x) place byte
    by_bytes None e = absurd (false≢true (sym (sym takes_it ∙ rw e refl)))
    by_bytes (Some bytes) e =
        let takes' : takes (ranges_in (block_with old.vector.thread x (Some bytes))) place ≡ true = rw e at takes_it in
        rw (writes.leaves.thread, (writes.block bytes e).here, e)
        (with_block_byte old.vector.thread x place byte bytes takes')

block_elsewhere : (old new : Kept) (x y : Instance) (place byte : ℕ) (bytes : List ℕ) → WritesBlock old x place byte new
    → held old.vector x.number ≡ Some bytes → y.number ≢ x.number
    → block_ranges new.vector y ≡ block_ranges old.vector y
unfolding block_ranges held
block_elsewhere old new x y place byte bytes writes here other =
    rw (writes.leaves.thread, (writes.block bytes here).others y.number other) refl

-- ** one image's data

pub data_written : (d : List Piece) (image n at byte : ℕ)
    → data_of (written image d (record { at = at; byte = byte })) n image
    ≡ option_map (λ bytes. slice_set bytes at byte) (data_of d n image)
unfolding data_of written
data_written [] image n at byte = refl
data_written (q ∷ d) zero n at byte = by_owner (is_of n q) refl
  where
    by_owner : (b : Bool) → is_of n q ≡ b
        → cond b (Some (slice_set q.bytes at byte)) None
        ≡ option_map (λ bytes. slice_set bytes at byte) (cond b (Some q.bytes) None)
    by_owner true e = refl
    by_owner false e = refl
data_written (q ∷ d) (suc image) n at byte = data_written d image n at byte

pub data_other : (d : List Piece) (image n other at byte : ℕ) → other ≢ image
    → data_of (written image d (record { at = at; byte = byte })) n other ≡ data_of d n other
unfolding data_of written
data_other [] image n other at byte ne = refl
data_other (q ∷ d) zero n zero at byte ne = absurd (ne refl)
data_other (q ∷ d) zero n (suc other) at byte ne = refl
data_other (q ∷ d) (suc image) n zero at byte ne = refl
data_other (q ∷ d) (suc image) n (suc other) at byte ne = data_other d image n other at byte (λ e. ne (ap suc e))

with_data_byte : (m : JobImages) (x : Instance) (place at byte : ℕ) (start : Option ℕ) (o : Option (List ℕ))
    → ((s : ℕ) → start ≡ Some s → at ≡ place - s)
    → takes (ranges_in (data_with x (option_map (λ s. written_range (fresh_data m x) s) start) o)) place ≡ true
    → ranges_in (data_with x (option_map (λ s. written_range (fresh_data m x) s) start)
    (option_map (λ bytes. slice_set bytes at byte) o))
    ≡ with_byte (ranges_in (data_with x (option_map (λ s. written_range (fresh_data m x) s) start) o)) place byte
with_data_byte m x place at byte None o begins takes_it = absurd (false≢true takes_it)
with_data_byte m x place at byte (Some s) None begins takes_it = absurd (false≢true takes_it)
with_data_byte m x place at byte (Some s) (Some bytes) begins takes_it =
    elim (cases_Bool (grants Write (written_range bytes s) place)) [
      | inl t ↦ rw (t, begins s refl) refl
      | inr f ↦ absurd (false≢true (sym (sym takes_it ∙ rw f refl)))
    ]

-- the data that are written, at an offset that is told by where they begin
module _ (m : JobImages) (d : List Piece) (x : Instance) (place at byte : ℕ)
    (begins : (s : ℕ) → data_start m x ≡ Some s → at ≡ place - s) where
  abbrev then_data : List Piece
  then_data = written x.image d (record { at = at; byte = byte })

  data_here : takes (data_ranges m d x) place ≡ true
      → data_ranges m then_data x ≡ with_byte (data_ranges m d x) place byte
  unfolding data_ranges
  data_here takes_it =
      let takes' : takes (ranges_in
      (data_with x (option_map (λ s. written_range (fresh_data m x) s) (data_start m x))
      (data_of d x.number x.image))) place ≡ true =
      subst (λ o. takes (ranges_in (data_with x o (data_of d x.number x.image))) place ≡ true) (shared_is m x) takes_it
      in
      rw (shared_is m x, data_written d x.image x.number at byte)
      (with_data_byte m x place at byte (data_start m x) (data_of d x.number x.image) begins takes')

  data_elsewhere : (y : Instance) → y.image ≢ x.image → data_ranges m then_data y ≡ data_ranges m d y
  unfolding data_ranges
  data_elsewhere y other = rw (data_other d x.image y.number y.image at byte other) refl

-- ** all of the memory

as_memory : (k k' : Kept) (place byte : ℕ) → (memory_of k').ranges ≡ with_byte (memory_of k).ranges place byte
    → memory_of k' ≡ record (memory_of k) { ranges = with_byte (memory_of k).ranges place byte }
unfolding memory_of
as_memory k k' place byte same = ap (λ ranges. record { ranges = ranges; fields = [] }) same

some_or : (a b : Option ℕ) → is_some (option_or a b) ≡ (is_some a || is_some b)
some_or None b = refl
some_or (Some x) b = refl

takes_or : (xs ys : List (Range ℕ)) (place : ℕ) → takes (xs ++ ys) place ≡ (takes xs place || takes ys place)
takes_or xs ys place = ap is_some (byte_in-append Write place xs ys)
    ∙ some_or (byte_in Write xs place) (byte_in Write ys place)

module _ (place byte : ℕ) (stack : Range ℕ) (blocks pieces rest : List (Range ℕ))
    (not : grants Write stack place ≡ false) where
  in_blocks : takes blocks place ≡ true
      → stack ∷ ((with_byte blocks place byte ++ pieces) ++ rest)
      ≡ with_byte (stack ∷ ((blocks ++ pieces) ++ rest)) place byte
  in_blocks here =
      let either : takes (blocks ++ pieces) place ≡ true = takes_or blocks pieces place
      ∙ ap (λ b. b || takes pieces place) here in
      rw not (ap (λ own. stack ∷ own) (sym (with_byte-here place byte (blocks ++ pieces) rest either
      ∙ ap (λ own. own ++ rest) (with_byte-here place byte blocks pieces here))))

  in_data : takes blocks place ≡ false → takes pieces place ≡ true
      → stack ∷ ((blocks ++ with_byte pieces place byte) ++ rest)
      ≡ with_byte (stack ∷ ((blocks ++ pieces) ++ rest)) place byte
  in_data none here =
      let either : takes (blocks ++ pieces) place ≡ true =
      takes_or blocks pieces place ∙ ap (λ b. b || takes pieces place) none ∙ here
      in
      rw not (ap (λ own. stack ∷ own) (sym (with_byte-here place byte (blocks ++ pieces) rest either
      ∙ ap (λ own. own ++ rest) (with_byte-behind place byte blocks pieces none))))

module _ (k : Kept) (place byte : ℕ) where
  -- on the stack
  abbrev with_stack : Kept
  with_stack = record k { stack = slice_set k.stack (place - stack_start k.vector.thread) byte }

  pub write_stack : grants Write (stack_of k) place ≡ true
      → memory_of with_stack ≡ record (memory_of k) { ranges = with_byte (memory_of k).ranges place byte }
  unfolding memory_of
  write_stack here = rw here refl

  -- nowhere
  pub write_none : grants Write (stack_of k) place ≡ false → block_found k place ≡ None → data_found k place ≡ None
      → memory_of k ≡ record (memory_of k) { ranges = with_byte (memory_of k).ranges place byte }
  write_none not no_block no_data =
      as_memory k k place byte
      (sym (with_byte-none place byte (memory_of k).ranges (may_write_is k place
      ∙ rw (not, no_block, no_data) refl)))

  module _ (left : IsLeftBy k.vector.images k.vector.past) (not : grants Write (stack_of k) place ≡ false) where
    live_at : Instance → Type 0
    live_at y = IsLive k.vector.images k.vector.past y

    -- in a block
    module _ (k' : Kept) (x : Instance) (found : block_found k place ≡ Some x) (writes : WritesBlock k x place byte k')
      where
        x_takes : takes (block_ranges k.vector x) place ≡ true
        x_takes = found_passes (λ y. takes (block_ranges k.vector y) place)
            (live_in k.vector.images k.vector.past) x found

        x_live : IsLive k.vector.images k.vector.past x
        x_live = among_live k.vector.images k.vector.past (λ y. takes (block_ranges k.vector y) place) x found

        others_kept : (bytes : List ℕ) → held k.vector x.number ≡ Some bytes → (y : Instance)
            → IsLive k.vector.images k.vector.past y
            → y.image ≢ x.image → block_ranges k'.vector y ≡ block_ranges k.vector y
        others_kept bytes here y live other =
            block_elsewhere k k' x y place byte bytes writes here
            (apart k.vector.images k.vector.past x y left x_live live other)

        blocks_changed : (bytes : List ℕ) → held k.vector x.number ≡ Some bytes
            → flat_map (block_ranges k'.vector) (live_in k.vector.images k.vector.past)
            ≡ with_byte (blocks_in k) place byte
        blocks_changed bytes here =
            with_byte-each place byte (λ (y : Instance). y.image) (IsLive k.vector.images k.vector.past)
            (block_ranges k.vector) (block_ranges k'.vector) x (block_here k k' x place byte writes x_takes)
            (others_kept bytes here)
            (live_in k.vector.images k.vector.past) (all_live k.vector.images k.vector.past)
            (rising k.vector.images k.vector.past) found

        live_same : live_in k'.vector.images k'.vector.past ≡ live_in k.vector.images k.vector.past
        live_same = rw (writes.leaves.images, writes.leaves.past) refl

        blocks_then : (bytes : List ℕ) → held k.vector x.number ≡ Some bytes
            → blocks_in k' ≡ with_byte (blocks_in k) place byte
        blocks_then bytes here = ap (flat_map (block_ranges k'.vector)) live_same ∙ blocks_changed bytes here

        pub write_block : (bytes : List ℕ) → held k.vector x.number ≡ Some bytes
            → memory_of k' ≡ record (memory_of k) { ranges = with_byte (memory_of k).ranges place byte }
        write_block bytes here =
            as_memory k k' place byte (memory_is k'
            ∙ rw (
              blocks_then bytes here,
              writes.leaves.thread,
              writes.leaves.images,
              writes.leaves.past,
              writes.pieces,
              writes.stack,
            )
            (in_blocks place byte (stack_of k) (blocks_in k) (data_among k) (pointer_of k ∷ fixed_among k) not
            (blocks_take k place (Some x) found))
            ∙ sym (ap (λ ranges. with_byte ranges place byte) (memory_is k)))

    -- in data
    module _ (k' : Kept) (x : Instance) (start : ℕ) (no_block : block_found k place ≡ None)
        (found : data_found k place ≡ Some x)
        (begins : data_start k.vector.images x ≡ Some start) (writes : WritesData k x place byte k') where
      told : (s : ℕ) → data_start k.vector.images x ≡ Some s → place - start ≡ place - s
      told s is = ap (λ n. place - n) (same_Some start s (sym begins ∙ is))

      d_takes : takes (data_ranges k.vector.images k.pieces x) place ≡ true
      d_takes = found_passes (λ y. takes (data_ranges k.vector.images k.pieces y) place)
          (live_in k.vector.images k.vector.past) x found

      data_changed : flat_map
          (data_ranges k.vector.images (written x.image k.pieces (record { at = place - start; byte = byte })))
          (live_in k.vector.images k.vector.past)
          ≡ with_byte (data_among k) place byte
      data_changed =
          with_byte-each place byte (λ (y : Instance). y.image) (IsLive k.vector.images k.vector.past)
          (data_ranges k.vector.images k.pieces)
          (data_ranges k.vector.images (written x.image k.pieces (record { at = place - start; byte = byte }))) x
          (data_here k.vector.images k.pieces x place (place - start) byte told d_takes)
          (λ y live other. data_elsewhere k.vector.images k.pieces x place (place - start) byte told y other)
          (live_in k.vector.images k.vector.past) (all_live k.vector.images k.vector.past)
          (rising k.vector.images k.vector.past) found

      pub write_data : memory_of k' ≡ record (memory_of k) { ranges = with_byte (memory_of k).ranges place byte }
      write_data =
          as_memory k k' place byte (memory_is k'
          ∙ rw (writes.vector, writes.pieces start begins, writes.stack, data_changed)
          (in_data place byte (stack_of k) (blocks_in k) (data_among k) (pointer_of k ∷ fixed_among k) not
          (blocks_take k place None no_block) (data_take k place (Some x) found))
          ∙ sym (ap (λ ranges. with_byte ranges place byte) (memory_is k)))
