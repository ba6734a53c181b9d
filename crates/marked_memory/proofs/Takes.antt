-- Bytes that are taken out of ranges with owners, and what a thread holds then.
use Rattle.std.proofs.Common.{◌≡◌, ◌∙◌, ◌+◌, ◌++◌, ◌<◌, ◌≤◌, ◌==◌, ℕ, Bool, true, false, List, [], ◌∷◌, length, get_or}
use Rattle.std.proofs.Common.{set, drop, Option, Some, None, refl, sym, ap, subst, arith, add-one, append_assoc}
use Rattle.std.specs.Prelude.{All, if◌then◌else◌, option_map, slice_get}
use Rattle.std.specs.List.{find, flat_map, position_or_len}
use Rattle.std.specs.Option.{option_or, option_map_or}
use Rattle.std.proofs.lemmas.Bool.{eqb-true, false≢true}
use Rattle.std.proofs.lemmas.List.{get_or-drop, length-drop}
use Rattle.std.proofs.lemmas.List.Elements.{All-from_get_or, All-head, All-tail}
use Rattle.std.proofs.lemmas.List.Folds.{find_at, find_past}
use Rattle.std.proofs.lemmas.Option.{none-some, same_Some, slice_get-get_or, slice_get_past}
use Rattle.std.proofs.Math.Seq.{drop-cons}
use Rattle.guest_operands.specs.Ranges.{Range}
use Rattle.job_meaning.specs.declared.values.Byte.{Byte}
use Rattle.link_needs.specs.Linking.{Linking}
use Rattle.loaded_modules.specs.declared.instance.Instance.{Instance}
use Rattle.thread_blocks.specs.Held.{Block, Data, Kind, Owned, Owner, block_after, block_with, data_after, data_bytes}
use Rattle.thread_blocks.specs.Held.{data_with, fresh_data, fresh_if, held_of, is_block_of, is_data_of}
use Rattle.thread_blocks.specs.Instances.{Loads}
use Rattle.thread_blocks.specs.Turns.{at_number}
use Rattle.whole_meaning.specs.Loads.{data_ranges, loads_of}
use Rattle.link_needs.specs.Linking.{has_writable_data}
use Rattle.marked_memory.specs.declared.owned.Written.{Written}
use Rattle.marked_memory.specs.declared.owned.Written.TheVariants as written
use Rattle.marked_memory.specs.declared.space.Wanted.{Wanted}
use Rattle.marked_memory.specs.Kept.{Kept}
use Rattle.marked_memory.specs.Owners.{LeavesOthers, is_owner, kind_of}
use Rattle.marked_memory.specs.Spaces.{HaveOwnNumbers, fills, reaches, with_held}
use Rattle.whole_meaning.specs.Spots.{bias_of}

-- ** the first that passes

module _ {X : Type 0} (p : X → Bool) where
  pub found_none : (xs : List X) (i : ℕ) → i ≡ position_or_len p xs → length xs ≤ i → find p xs ≡ None
  found_none xs i is past = find_at p xs ∙ ap (slice_get xs) (sym is) ∙ slice_get_past xs i past

  pub found_some : (xs : List X) (i : ℕ) (x : X) → i ≡ position_or_len p xs → i < length xs → x ≡ get_or xs i x
      → find p xs ≡ Some x
  found_some xs i x is within at = find_at p xs ∙ ap (slice_get xs) (sym is) ∙ slice_get-get_or xs i x within
      ∙ ap Some (sym at)

  pub found_passes : (xs : List X) (x : X) → find p xs ≡ Some x → p x ≡ true
  found_passes [] x found = absurd (none-some x found)
  found_passes (y ∷ xs) x found =
      (elim (p y) as (λ b. p y ≡ b → (if b then Some y else find p xs) ≡ Some x → p x ≡ true) [
        | true ↦ λ e f. subst (λ z. p z ≡ true) (same_Some y x f) e
        | false ↦ λ e f. found_passes xs x f
      ]) refl found

-- ** owners

abbrev owner : Kind → ℕ → Owner
owner kind instance = record { kind = kind; instance = instance }

of-block : (k : Kind) (i n : ℕ) → is_block_of n (owner k i) ≡ true → owner k i ≡ owner Block n
of-block Block i n e = ap (owner Block) (eqb-true i n e)
of-block Data i n e = absurd (false≢true e)

of-data : (k : Kind) (i n : ℕ) → is_data_of n (owner k i) ≡ true → owner k i ≡ owner Data n
of-data Block i n e = absurd (false≢true e)
of-data Data i n e = ap (owner Data) (eqb-true i n e)

owner-is : (kind : Written) (n : ℕ) (o : Owner) → is_owner kind n o ≡ true → o ≡ owner (kind_of kind) n
owner-is written.Block n o e = of-block o.kind o.instance n e
owner-is written.Data n o e = of-data o.kind o.instance n e

-- the bytes of one owner are taken out
pub leaves_others : (kind : Written) (n : ℕ) (xs : List (Owned Byte)) (i : ℕ) (x y : Owned Byte)
    → i ≡ position_or_len (λ z. is_owner kind n z.owner) xs → i < length xs → x ≡ get_or xs i x → y.owner ≡ x.owner
    → LeavesOthers kind n xs (set xs i y)
leaves_others kind n xs i x y is within at same =
    let p : Owned Byte → Bool = λ z. is_owner kind n z.owner in
    let own : x.owner ≡ owner (kind_of kind) n =
    owner-is kind n x.owner (found_passes p xs x (found_some p xs i x is within at)) in record {
      others = λ test not. ap (option_map (λ z. z.range.bytes))
          (find_past (λ z. test z.owner) xs i y x
          (ap (λ z. test z.owner) (sym at) ∙ ap test own ∙ not)
          (ap test (same ∙ own) ∙ not));
    }

-- ** what is held, instance by instance

apart-behind : (live : List Instance) (i : ℕ) (d : Instance) → HaveOwnNumbers live → i < length live
    → All (λ (y : Instance). ((get_or live i d).number == y.number) ≡ false) (drop (i + 1) live)
apart-behind live i d pairs within =
    All-from_get_or (λ (y : Instance). ((get_or live i d).number == y.number) ≡ false) (drop (i + 1) live) d
    (λ j l. let short = length-drop (i + 1) live in
    subst (λ (y : Instance). ((get_or live i d).number == y.number) ≡ false) (sym (get_or-drop (i + 1) live j d))
    (pairs i (i + 1 + j) d (omega arith) (omega (arith, short, l))))

module _ (made : List (Owned Byte) → Instance → List (Owned Byte)) (kind : Written)
    (same : (old new : List (Owned Byte)) (x y : Instance) → LeavesOthers kind x.number old new
    → (x.number == y.number) ≡ false → made new y ≡ made old y) where
  all-same : (old new : List (Owned Byte)) (x : Instance) (ys : List Instance) → LeavesOthers kind x.number old new
      → All (λ (y : Instance). (x.number == y.number) ≡ false) ys → flat_map (made new) ys ≡ flat_map (made old) ys
  all-same old new x [] leaves apart = refl
  all-same old new x (y ∷ ys) leaves apart =
      rw (
        same old new x y leaves (All-head (λ (y : Instance). (x.number == y.number) ≡ false) y ys apart),
        all-same old new x ys leaves (All-tail (λ (y : Instance). (x.number == y.number) ≡ false) y ys apart),
      ) refl

  one-more : (whole own here : List (Owned Byte)) (old new : List (Owned Byte)) (live : List Instance) (i : ℕ)
      (d : Instance)
      → HaveOwnNumbers live → i < length live → here ≡ made old (get_or live i d)
      → LeavesOthers kind (get_or live i d).number old new
      → whole ≡ own ++ flat_map (made old) (drop i live)
      → whole ≡ (own ++ here) ++ flat_map (made new) (drop (i + 1) live)
  one-more whole own here old new live i d pairs within is leaves so_far =
      let next : drop i live ≡ get_or live i d ∷ drop (i + 1) live = rw (add-one, drop-cons live i d) refl in
      so_far
      ∙ ap (λ xs. own ++ flat_map (made old) xs) next
      ∙ ap (λ xs. own ++ (xs ++ flat_map (made old) (drop (i + 1) live))) (sym is)
      ∙ ap (λ xs. own ++ (here ++ xs))
      (sym (all-same old new (get_or live i d) (drop (i + 1) live) leaves (apart-behind live i d pairs within)))
      ∙ sym (append_assoc own here (flat_map (made new) (drop (i + 1) live)))

block-same : (l : Loads Byte) (thread : ℕ) (wanted : Instance → Bool) (old new : List (Owned Byte)) (x y : Instance)
    → LeavesOthers written.Block x.number old new → (x.number == y.number) ≡ false
    → block_after l thread wanted new y ≡ block_after l thread wanted old y
block-same l thread wanted old new x y leaves apart =
    ap (λ o. block_with thread y (option_or o (fresh_if (wanted y) (l.block y))))
    (leaves.others (is_block_of y.number) apart)

data-same : (l : Loads Byte) (wanted : Instance → Bool) (old new : List (Owned Byte)) (x y : Instance)
    → LeavesOthers written.Data x.number old new → (x.number == y.number) ≡ false
    → data_after l wanted new y ≡ data_after l wanted old y
data-same l wanted old new x y leaves apart =
    ap (λ o. data_with y (l.shared y) (option_or (fresh_data (l.shared y) (wanted y)) o))
    (leaves.others (is_data_of y.number) apart)

pub one_block : (l : Loads Byte) (thread : ℕ) (wanted : Instance → Bool) (whole own here : List (Owned Byte))
    (old new : List (Owned Byte)) (live : List Instance) (i : ℕ) (d : Instance)
    → HaveOwnNumbers live → i < length live → here ≡ block_after l thread wanted old (get_or live i d)
    → LeavesOthers written.Block (get_or live i d).number old new
    → whole ≡ own ++ flat_map (block_after l thread wanted old) (drop i live)
    → whole ≡ (own ++ here) ++ flat_map (block_after l thread wanted new) (drop (i + 1) live)
one_block l thread wanted = one-more (block_after l thread wanted) written.Block (block-same l thread wanted)

pub one_data : (l : Loads Byte) (wanted : Instance → Bool) (whole own here : List (Owned Byte))
    (old new : List (Owned Byte)) (live : List Instance) (i : ℕ) (d : Instance)
    → HaveOwnNumbers live → i < length live → here ≡ data_after l wanted old (get_or live i d)
    → LeavesOthers written.Data (get_or live i d).number old new
    → whole ≡ own ++ flat_map (data_after l wanted old) (drop i live)
    → whole ≡ (own ++ here) ++ flat_map (data_after l wanted new) (drop (i + 1) live)
one_data l wanted = one-more (data_after l wanted) written.Data (data-same l wanted)

-- no block is data
pub data_stays : (n number : ℕ) (old new : List (Owned Byte)) → LeavesOthers written.Block n old new
    → data_bytes number new ≡ data_bytes number old
data_stays n number old new leaves = leaves.others (is_data_of number) refl

pub all_data_same : (l : Loads Byte) (wanted : Instance → Bool) (old new : List (Owned Byte)) (live : List Instance)
    → ((number : ℕ) → data_bytes number new ≡ data_bytes number old)
    → flat_map (data_after l wanted new) live ≡ flat_map (data_after l wanted old) live
all_data_same l wanted old new [] same = refl
all_data_same l wanted old new (x ∷ live) same =
    let first : data_after l wanted new x ≡ data_after l wanted old x =
    ap (λ o. data_with x (l.shared x) (option_or (fresh_data (l.shared x) (wanted x)) o)) (same x.number)
    in
    rw (first, all_data_same l wanted old new live same) refl

-- ** data at their place

module _ (x : Instance) (bytes : List Byte) (start : ℕ) where
  abbrev pub data_there : Owned Byte
  data_there = record {
    owner = record { kind = Data; instance = x.number };
    range = record { start = start; bytes = bytes; readable = true; writable = true; runnable = false };
  }

  by-class : (own : Range Byte) (has : Bool)
      → option_map (λ (r : Range Byte). r.start) (if has then Some own else None) ≡ Some start
      → own.readable ≡ true → own.writable ≡ true → own.runnable ≡ false
      → data_there ∷ [] ≡ data_with x (if has then Some own else None)
      (option_or (fresh_data (if has then Some own else None) false) (Some bytes))
  by-class own false e read write run = absurd (none-some start e)
  by-class own true e read write run = rw (read, write, run, same_Some own.start start e) refl

  by-image : (image : Option Linking)
      → option_map (λ (r : Range Byte). r.start)
      (option_map_or (λ (own : Linking). data_ranges own (bias_of own.kind x.number)) image None) ≡ Some start
      → data_there ∷ [] ≡ data_with x
      (option_map_or (λ (own : Linking). data_ranges own (bias_of own.kind x.number)) image None)
      (option_or (fresh_data (option_map_or
      (λ (own : Linking). data_ranges own (bias_of own.kind x.number)) image None) false) (Some bytes))
  by-image None e = absurd (none-some start e)
  by-image (Some l) e = by-class _ (has_writable_data l) e refl refl refl

  pub data_kept : (ls : List Linking) (wanted : Instance → Bool) (pool : List (Owned Byte)) → wanted x ≡ false
      → data_bytes x.number pool ≡ Some bytes
      → option_map (λ (r : Range Byte). r.start) ((loads_of ls).shared x) ≡ Some start
      → data_there ∷ [] ≡ data_after (loads_of ls) wanted pool x
  unfolding loads_of
  data_kept ls wanted pool not held begins =
      by-image (at_number ls x.image) begins
      ∙ ap (λ b. data_with x (option_map_or (λ (own : Linking). data_ranges own (bias_of own.kind x.number))
      (at_number ls x.image) None)
      (option_or (fresh_data (option_map_or (λ (own : Linking). data_ranges own (bias_of own.kind x.number))
      (at_number ls x.image) None) b) (Some bytes))) (sym not)
      ∙ ap (λ o. data_with x (option_map_or (λ (own : Linking). data_ranges own (bias_of own.kind x.number))
      (at_number ls x.image) None)
      (option_or (fresh_data (option_map_or (λ (own : Linking). data_ranges own (bias_of own.kind x.number))
      (at_number ls x.image) None) (wanted x)) o)) (sym held)

-- ** all of it

pub holds_is : (k : Kept) (live : List Instance) (pool handed : List (Owned Byte)) (wanted : Wanted)
    → pool ≡ k.own ++ handed
    → record k { live = live; own = held_of (loads_of k.images) k.thread (reaches wanted) (fills wanted) live pool }
    ≡ with_held live handed wanted k
unfolding with_held
holds_is k live pool handed wanted is =
    ap (λ (xs : List (Owned Byte)). record k
    { live = live; own = held_of (loads_of k.images) k.thread (reaches wanted) (fills wanted) live xs }) is
