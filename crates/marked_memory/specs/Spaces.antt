-- A thread's memory before and after a call, as clauses speak of it.
use Rattle.std.specs.Prelude.{◌≡◌, ◌==◌, ◌-◌, ◌++◌, ℕ, Bool, false, List, is_some}
use Rattle.std.specs.List.{AllPairs}
use Rattle.address_map.specs.Map.{stack_start}
use Rattle.job_meaning.specs.declared.values.Byte.{Byte}
use Rattle.loaded_modules.specs.declared.instance.Instance.{Instance}
use Rattle.thread_blocks.specs.Held.{Owned, held_of}
use Rattle.whole_meaning.specs.Loads.{loads_of}
use Rattle.whole_meaning.specs.Threads.{hidden_below}
use Rattle.marked_memory.specs.declared.space.Wanted.{Wanted}
use Rattle.marked_memory.specs.declared.space.Wanted.TheVariants.{Fixed, BlockOf, DataOf}
use Rattle.marked_memory.specs.Kept.{Kept}

-- of which instances blocks are made fresh where the thread has none
abbrev pub reaches : Wanted → Instance → Bool
reaches Fixed x = is_some x.offset
reaches (BlockOf number) x = x.number == number
reaches (DataOf number) x = false

-- of which instances data are made fresh
abbrev pub fills : Wanted → Instance → Bool
fills Fixed x = false
fills (BlockOf number) x = false
fills (DataOf number) x = x.number == number

-- no two instances have one number
abbrev pub HaveOwnNumbers : List Instance → Type 0
HaveOwnNumbers live = AllPairs (λ (x y : Instance). (x.number == y.number) ≡ false) live

-- the blocks and data of these instances, held, handed over, or fresh where wanted; those of others are gone
unfoldable pub with_held : List Instance → List (Owned Byte) → Wanted → Kept → Kept
with_held live handed wanted k = record k {
  live = live;
  own = held_of (loads_of k.images) k.thread (reaches wanted) (fills wanted) live (k.own ++ handed);
}

-- the stack below a place is unknown
unfoldable pub with_hidden : ℕ → Kept → Kept
with_hidden place k = record k { stack = hidden_below (place - stack_start k.thread) k.stack }
