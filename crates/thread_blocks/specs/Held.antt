-- What a thread holds from line to line, and how a look changes it.
use Rattle.std.specs.Prelude.{ℕ, ◌==◌, ◌&&◌, ◌++◌, Bool, true, false, not, List, [], ◌∷◌, Option, Some, None, is_some}
use Rattle.std.specs.Prelude.{map, option_map}
use Rattle.std.specs.List.{find, flat_map}
use Rattle.std.specs.Option.{option_or}
use Rattle.guest_machine.specs.Ranges.{Range}
use Rattle.guest_machine.specs.Use.{After, left}
use Rattle.loaded_modules.specs.declared.instance.Instance.{Instance}
use Rattle.module_table.specs.declared.events.Event.{Event}
use Rattle.thread_blocks.specs.declared.asked.Asked.{Asked}
use Rattle.thread_blocks.specs.Instances.{Loads, instances, block_range}
use Rattle.thread_blocks.specs.Spaces.{Space}

-- the kinds of written ranges: a thread's block of an instance, or an instance's data
pub data Kind : Type 0 where
  Block : Kind
  Data : Kind

pub record Owner : Type 0 where
  pub kind : Kind
  pub instance : ℕ

abbrev pub is_block : Kind → Bool
is_block Block = true
is_block Data = false

-- a written range, and its owner
pub record Owned (B : Type 0) : Type 0 where
  pub owner : Owner
  pub range : Range B

-- what a thread holds: registers and memory, the owners of its written ranges in their order, and the question that it
-- waits with in the middle of a line
pub record Held (W F B : Type 0) : Type 0 where
  pub after : After W F (Space Event B)
  pub owners : List Owner
  pub asked : Option Asked

-- ---- ranges with their owners

abbrev pub owned : {B : Type 0} → List Owner → List (Range B) → List (Owned B)
owned (o ∷ os) (r ∷ rs) = record { owner = o; range = r } ∷ owned os rs
owned owners ranges = []

abbrev pub owners_of : {B : Type 0} → List (Owned B) → List Owner
owners_of xs = map (λ x. x.owner) xs

abbrev pub ranges_in : {B : Type 0} → List (Owned B) → List (Range B)
ranges_in xs = map (λ x. x.range) xs

module _ {W F B : Type 0} where
  abbrev pub owned_by : Held W F B → List (Owned B)
  owned_by h = owned h.owners h.after.memory.own

  -- the same thread with these ranges as its own
  abbrev pub with_owned : Held W F B → List (Owned B) → Held W F B
  with_owned h xs = record {
    after = left h.after.state (record h.after.memory { own = ranges_in xs });
    owners = owners_of xs;
    asked = h.asked;
  }

abbrev pub is_block_of : ℕ → Owner → Bool
is_block_of instance o = is_block o.kind && (o.instance == instance)

abbrev pub is_data_of : ℕ → Owner → Bool
is_data_of instance o = not (is_block o.kind) && (o.instance == instance)

-- the bytes of the block of an instance, and those of its data, if they are held
abbrev pub block_bytes : {B : Type 0} → ℕ → List (Owned B) → Option (List B)
block_bytes instance xs = option_map (λ x. x.range.bytes) (find (λ x. is_block_of instance x.owner) xs)

abbrev pub data_bytes : {B : Type 0} → ℕ → List (Owned B) → Option (List B)
data_bytes instance xs = option_map (λ x. x.range.bytes) (find (λ x. is_data_of instance x.owner) xs)

-- ---- what a thread holds of an instance

-- the instance's block with these bytes, if there is one
abbrev pub block_with : {B : Type 0} → ℕ → Instance → Option (List B) → List (Owned B)
block_with thread x None = []
block_with thread x (Some bytes) =
    record { owner = record { kind = Block; instance = x.number }; range = block_range thread x bytes } ∷ []

-- the instance's data with these bytes, at their address, if there are any
abbrev pub data_with : {B : Type 0} → Instance → Option (Range B) → Option (List B) → List (Owned B)
data_with x (Some range) (Some bytes) =
    record { owner = record { kind = Data; instance = x.number }; range = record range { bytes = bytes } } ∷ []
data_with x range bytes = []

abbrev pub fresh_if : {A : Type 0} → Bool → A → Option A
fresh_if true fresh = Some fresh
fresh_if false fresh = None

abbrev pub fresh_data : {B : Type 0} → Option (Range B) → Bool → Option (List B)
fresh_data None wanted = None
fresh_data (Some range) wanted = fresh_if wanted range.bytes

module _ {B : Type 0} (l : Loads B) where
  -- the data as they were, or as a load fills them
  abbrev pub data_after : (Instance → Bool) → List (Owned B) → Instance → List (Owned B)
  data_after loads xs x = data_with x (l.shared x)
      (option_or (fresh_data (l.shared x) (loads x)) (data_bytes x.number xs))

module _ {B : Type 0} (l : Loads B) (thread : ℕ) where
  -- the block as it was; if there was none, a fresh one if it is wanted
  abbrev pub block_after : (Instance → Bool) → List (Owned B) → Instance → List (Owned B)
  block_after wanted xs x =
      block_with thread x (option_or (block_bytes x.number xs) (fresh_if (wanted x) (l.block x)))

  -- what a thread holds of the live instances, in the order of their images: blocks, and after them data; nothing of
  -- any other instance
  abbrev pub held_of : (Instance → Bool) → (Instance → Bool) → List Instance → List (Owned B) → List (Owned B)
  held_of reaches loads live xs =
      flat_map (block_after reaches xs) live ++ flat_map (data_after l loads xs) live

  -- ---- looks

  -- from a look on, blocks at a fixed distance from the thread pointer are there
  unfoldable pub looked_at : List Event → List (Owned B) → List (Owned B)
  looked_at seen xs = held_of (λ x. is_some x.offset) (λ x. false) (instances l seen) xs

  -- a block that is reached
  unfoldable pub reached_at : List Event → Instance → List (Owned B) → List (Owned B)
  reached_at seen x xs = held_of (λ y. y.number == x.number) (λ y. false) (instances l seen) xs

  -- an instance that was loaded: its data are as the loader left them
  unfoldable pub loaded_at : List Event → Instance → List (Owned B) → List (Owned B)
  loaded_at seen x xs = held_of (λ y. false) (λ y. y.number == x.number) (instances l seen) xs

module _ {W F B : Type 0} (l : Loads B) (thread : ℕ) where
  -- a thread that looks
  abbrev pub looked : List Event → Held W F B → Held W F B
  looked seen h = let h = with_owned h (looked_at l thread seen (owned_by h)) in
      record h { after = left h.after.state (record h.after.memory { seen = seen }) }

  abbrev pub reached : Instance → Held W F B → Held W F B
  reached x h = with_owned h (reached_at l thread h.after.memory.seen x (owned_by h))

  abbrev pub loaded : Instance → Held W F B → Held W F B
  loaded x h = with_owned h (loaded_at l thread h.after.memory.seen x (owned_by h))
