-- What a byte that is written leaves of a thread's memory.
use Rattle.std.proofs.Common.{◌≡◌, ◌∙◌, ◌-◌, ◌++◌, ◌<◌, ◌≤◌, ℕ, zero, suc, Bool, true, false, List, [], ◌∷◌, length}
use Rattle.std.proofs.Common.{get_or, set, Option, Some, None, refl, sym, ap, inl, inr, arith}
use Rattle.std.specs.Prelude.{◌&&◌, if◌then◌else◌, slice_set}
use Rattle.std.specs.Option.{option_or, option_map_or}
use Rattle.std.proofs.lemmas.Bool.{cases_Bool}
use Rattle.address_map.specs.Map.{stack_start}
use Rattle.guest_memory.specs.Writable.{first_writable}
use Rattle.guest_operands.specs.declared.space.Access.{Access}
use Rattle.guest_operands.specs.declared.space.Access.TheVariants.{Write}
use Rattle.guest_operands.specs.Ranges.{Range, byte_in, grants, holds, with_byte}
use Rattle.job_meaning.specs.declared.values.Byte.{Byte}
use Rattle.link_needs.specs.Linking.{Linking}
use Rattle.loaded_modules.specs.declared.instance.Instance.{Instance}
use Rattle.module_table.specs.declared.events.Event.{Event}
use Rattle.thread_blocks.specs.Held.{Owned, owners_of, ranges_in}
use Rattle.thread_blocks.specs.Instances.{fixed_of}
use Rattle.thread_blocks.specs.MachineTurns.{pointer_word}
use Rattle.thread_blocks.specs.Spaces.{stack_range}
use Rattle.thread_blocks.specs.SpaceLaws.{NoneWritable}
use Rattle.thread_blocks.specs.Turns.{at_number}
use Rattle.thread_blocks.proofs.Spaces.{put_is_with_byte}
use Rattle.whole_meaning.specs.Loads.{loads_of, still_ranges}
use Rattle.whole_meaning.specs.Threads.{ops}
use Rattle.marked_memory.specs.Kept.{Kept, fixed_in, memory_of, shape_of, with_lent}
use Rattle.marked_memory.specs.Writing.{written_at, written_in}
use Rattle.guest_operands.proofs.Sought.{byte_in-append}
use Rattle.guest_memory.proofs.Writes.{second}
use Rattle.whole_meaning.specs.Spots.{bias_of}

-- ** ranges with owners

module _ (place : ℕ) (byte : Byte) where
  pub ranges_written : (xs : List (Owned Byte))
      → ranges_in (written_in xs place byte) ≡ with_byte (ranges_in xs) place byte
  ranges_written [] = refl
  ranges_written (x ∷ xs) = elim (cases_Bool (grants Write x.range place)) [
    | inl t ↦ rw t refl
    | inr f ↦ rw f (ap (λ rs. x.range ∷ rs) (ranges_written xs))
  ]

  pub owners_written : (xs : List (Owned Byte)) → owners_of (written_in xs place byte) ≡ owners_of xs
  owners_written [] = refl
  owners_written (x ∷ xs) = elim (cases_Bool (grants Write x.range place)) [
    | inl t ↦ rw t refl
    | inr f ↦ rw f (ap (λ os. x.owner ∷ os) (owners_written xs))
  ]

  -- the range that takes the byte
  written-first : (xs : List (Owned Byte)) (d : Owned Byte) → first_writable (ranges_in xs) place < length xs
      → written_in xs place byte
      ≡ set xs (first_writable (ranges_in xs) place)
      (written_at (get_or xs (first_writable (ranges_in xs) place) d) place byte)
  written-first [] d found = absurd (omega arith)
  written-first (x ∷ xs) d found =
      (elim (grants Write x.range place) as
      (λ here. (if here then zero else suc (first_writable (ranges_in xs) place)) < suc (length xs)
      → (if here then written_at x place byte ∷ xs else x ∷ written_in xs place byte)
      ≡ set (x ∷ xs) (if here then zero else suc (first_writable (ranges_in xs) place))
      (written_at (get_or (x ∷ xs)
      (if here then zero else suc (first_writable (ranges_in xs) place)) d) place byte))
      [ true ↦ λ h. refl | false ↦ λ h. ap (λ rest. x ∷ rest) (written-first xs d (omega arith)) ]) found

  pub written-at : (xs : List (Owned Byte)) (d : Owned Byte) (i : ℕ) → i ≡ first_writable (ranges_in xs) place
      → i < length xs
      → written_in xs place byte ≡ set xs i (written_at (get_or xs i d) place byte)
  written-at xs d i same found =
      let found' : first_writable (ranges_in xs) place < length xs = omega arith in
      rw same (written-first xs d found')

  pub written-none : (xs : List (Owned Byte)) → length xs ≤ first_writable (ranges_in xs) place
      → written_in xs place byte ≡ xs
  written-none [] none = refl
  written-none (x ∷ xs) none =
      (elim (grants Write x.range place) as
      (λ here. suc (length xs) ≤ (if here then zero else suc (first_writable (ranges_in xs) place))
      → (if here then written_at x place byte ∷ xs else x ∷ written_in xs place byte) ≡ x ∷ xs)
      [ true ↦ λ h. absurd (omega arith) | false ↦ λ h. ap (λ rest. x ∷ rest) (written-none xs (omega arith)) ]) none

pub holds-at : (place : ℕ) (xs : List (Owned Byte)) (d : Owned Byte) → first_writable (ranges_in xs) place < length xs
    → holds (get_or xs (first_writable (ranges_in xs) place) d).range place ≡ true
holds-at place [] d found = absurd (omega arith)
holds-at place (x ∷ xs) d found =
    (elim (grants Write x.range place) as
    (λ here. grants Write x.range place ≡ here
    → (if here then zero else suc (first_writable (ranges_in xs) place)) < suc (length xs)
    → holds (get_or (x ∷ xs) (if here then zero else suc (first_writable (ranges_in xs) place)) d).range place ≡ true) [
      | true ↦ λ e h. second x.range.writable (holds x.range place) e
      | false ↦ λ e h. holds-at place xs d
          (omega arith)
    ]) refl found

-- ** what no thread writes

none-both : (xs ys : List (Range Byte)) → NoneWritable xs → NoneWritable ys → NoneWritable (xs ++ ys)
none-both [] ys f g = g
none-both (x ∷ xs) ys f g = (f.0, none-both xs ys f.1 g)

none-image : (number : ℕ) (l : Option Linking)
    → NoneWritable (option_map_or (λ (own : Linking). still_ranges own (bias_of own.kind number)) l [])
none-image number None = tt
none-image number (Some l) = (refl, (refl, (refl, tt)))

none-each : (ls : List Linking) (live : List Instance) → NoneWritable (fixed_of (loads_of ls) live)
unfolding loads_of
none-each ls [] = tt
none-each ls (x ∷ live) =
    none-both (option_map_or (λ (own : Linking). still_ranges own (bias_of own.kind x.number)) (at_number ls x.image)
    []) _ (none-image x.number (at_number ls x.image)) (none-each ls live)

-- the word at the thread pointer, and what is loaded of instances
pub none_fixed : (ls : List Linking) (thread : ℕ) (live : List Instance)
    → NoneWritable (pointer_word ops thread ∷ fixed_of (loads_of ls) live)
none_fixed ls thread live = (refl, none-each ls live)

-- ** a word that is lent

pub lent-append : (lent : Option ℕ) (ranges : List (Range Byte)) → with_lent lent ranges ≡ with_lent lent [] ++ ranges
lent-append None ranges = refl
lent-append (Some number) ranges = refl

pub lent-written : (lent : Option ℕ) (ranges : List (Range Byte)) (place : ℕ) (byte : Byte)
    → with_byte (with_lent lent ranges) place byte ≡ with_lent lent (with_byte ranges place byte)
lent-written None ranges place byte = refl
lent-written (Some number) ranges place byte = refl

-- ** all of the memory

module _ (k : Kept) where
  abbrev pub stack_in : Range Byte
  stack_in = stack_range (stack_start k.thread) k.stack

  -- what is found at a place, part by part
  pub byte_is : (access : Access) (place : ℕ) → byte_in access (memory_of k).ranges place
      ≡ option_or (byte_in access (with_lent k.lent []) place)
      (option_or (byte_in access (stack_in ∷ []) place)
      (option_or (byte_in access (ranges_in k.own) place)
      (option_or (byte_in access (pointer_word ops k.thread ∷ []) place)
      (byte_in access (fixed_of (loads_of k.images) k.live) place))))
  unfolding memory_of
  byte_is access place =
      ap (λ ranges. byte_in access ranges place) (lent-append k.lent _)
      ∙ byte_in-append access place (with_lent k.lent []) _
      ∙ ap (option_or (byte_in access (with_lent k.lent []) place))
      (byte_in-append access place (stack_in ∷ []) _
      ∙ ap (option_or (byte_in access (stack_in ∷ []) place))
      (byte_in-append access place (ranges_in k.own) _
      ∙ ap (option_or (byte_in access (ranges_in k.own) place))
      (byte_in-append access place (pointer_word ops k.thread ∷ []) (fixed_of (loads_of k.images) k.live))))

  module _ (place : ℕ) (byte : Byte) where
    as_memory : (ranges : List (Range Byte)) → with_byte (memory_of k).ranges place byte ≡ ranges
        → record { ranges = ranges; fields = [] }
        ≡ record (memory_of k) { ranges = with_byte (memory_of k).ranges place byte }
    unfolding memory_of
    as_memory ranges same = ap (λ (ranges : List (Range Byte)). record { ranges = ranges; fields = [] }) (sym same)

    pub stack_written : grants Write stack_in place ≡ true
        → memory_of (record k { stack = slice_set k.stack (place - stack_start k.thread) byte })
        ≡ record (memory_of k) { ranges = with_byte (memory_of k).ranges place byte }
    unfolding memory_of
    stack_written here =
        as_memory _ (lent-written k.lent (stack_in ∷ (ranges_in k.own ++ fixed_in k)) place byte
        ∙ ap (with_lent k.lent) on_stack)
      where
        on_stack : with_byte (stack_in ∷ (ranges_in k.own ++ fixed_in k)) place byte
            ≡ stack_range (stack_start k.thread) (slice_set k.stack (place - stack_start k.thread) byte)
            ∷ (ranges_in k.own ++ fixed_in k)
        on_stack = rw here refl

    pub own_written : grants Write stack_in place ≡ false
        → memory_of (record k { own = written_in k.own place byte })
        ≡ record (memory_of k) { ranges = with_byte (memory_of k).ranges place byte }
    unfolding memory_of
    own_written not =
        as_memory _ (lent-written k.lent (stack_in ∷ (ranges_in k.own ++ fixed_in k)) place byte
        ∙ ap (with_lent k.lent) in_own)
      where
        in_own : with_byte (stack_in ∷ (ranges_in k.own ++ fixed_in k)) place byte
            ≡ stack_in ∷ (ranges_in (written_in k.own place byte) ++ fixed_in k)
        in_own =
            put_is_with_byte ops (stack_start k.thread) (λ (seen : List Event). fixed_in k)
            (λ seen. none_fixed k.images k.thread k.live)
            (record { seen = []; stack = k.stack; own = ranges_in k.own }) place byte
            ∙ rw (not, ranges_written place byte k.own) refl

    pub own_shape : shape_of (record k { own = written_in k.own place byte }) ≡ shape_of k
    unfolding shape_of
    own_shape = ap (λ owners. record
        { thread = k.thread; images = k.images; live = k.live; owners = owners; lent = k.lent })
        (owners_written place byte k.own)

    pub stack_shape : (stack : List Byte) → shape_of (record k { stack = stack }) ≡ shape_of k
    unfolding shape_of
    stack_shape stack = refl
