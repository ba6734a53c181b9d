-- The instance of a number in a history.
use Rattle.std.specs.Prelude.{◌+◌, ℕ, zero, suc, List, length, take, Option}
use Rattle.std.specs.Option.{option_or}
use Rattle.loaded_modules.specs.declared.instance.Instance.{Instance}
use Rattle.module_table.specs.declared.events.Event.{Event}
use Rattle.thread_blocks.specs.Instances.{Loads, numbered_instance}

-- the live instance with the number in the first front that has one: the front of k events, or one of the next longer
-- ones, this many
abbrev pub known_from : Loads ℕ → List Event → ℕ → ℕ → ℕ → Option Instance
known_from q history number k zero = numbered_instance q (take k history) number
known_from q history number k (suc more) =
    option_or (numbered_instance q (take k history) number) (known_from q history number (k + 1) more)

-- the instance with the number, if there ever is one: in all fronts, from the empty one to the whole history
unfoldable pub known_in : Loads ℕ → List Event → ℕ → Option Instance
known_in q history number = known_from q history number 0 (length history)
