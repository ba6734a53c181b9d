-- What holds of the lists that keep bytes.
use Rattle.std.specs.Prelude.{◌≡◌, ◌<◌, ◌≤◌, ◌^◌, ℕ, suc, List, length, slice_index_or}
use Rattle.std.specs.Vec.{vec_capacity, vec_len}
use Rattle.marked_bytes.specs.declared.marked_bytes.MarkedBytes.TheInside.{Inside}
use Rattle.marked_bytes.specs.Cells.{marked}

-- each mark is of one byte at most, and there are as many marks as bytes that have one
pub record AreSlots (slots : List ℕ) (count : ℕ) : Type 0 where
  pub apart : (k l number : ℕ) → slice_index_or slots k 0 ≡ suc number → slice_index_or slots l 0 ≡ suc number → k ≡ l
  pub within : (k number : ℕ) → slice_index_or slots k 0 ≡ suc number → number < count
  pub each : marked slots ≡ count

-- there is room for a mark of each byte
pub record IsKept (s : Inside) : Type 0 where
  pub slots : AreSlots s.slots.items (length s.marks.items)
  pub wide : length s.slots.items ≤ length s.values.items
  pub few : length s.values.items < 2 ^ 32
  pub slots_kept : vec_len s.slots ≡ length s.slots.items
  pub marks_kept : vec_len s.marks ≡ length s.marks.items
  pub slots_room : length s.values.items ≤ vec_capacity s.slots
  pub marks_room : length s.values.items ≤ vec_capacity s.marks
