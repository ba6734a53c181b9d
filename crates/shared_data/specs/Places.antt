-- Where what is loaded lies: below all that threads have for themselves, data at addresses that tell their instance.
use Rattle.std.specs.Prelude.{◌≡◌, ◌<◌, ◌≤◌, ◌^◌, ℕ, true, List, Some, None}
use Rattle.address_map.specs.Map.{owner_at}
use Rattle.guest_operands.specs.declared.space.Access.{Access}
use Rattle.guest_machine.specs.Ranges.{Range, byte_in, holds}
use Rattle.loaded_modules.specs.declared.instance.Instance.{Instance}
use Rattle.module_table.specs.declared.events.Event.{Event}
use Rattle.module_table.specs.Past.{IsLegal}
use Rattle.thread_blocks.specs.Instances.{Loads, fixed_at, numbered_instance}

-- the data of an instance can be read and written, and each of their addresses has the instance's number in it
pub record IsDataRange {B : Type 0} (x : Instance) (range : Range B) : Type 0 where
  pub readable : range.readable ≡ true
  pub writable : range.writable ≡ true
  pub place : (place : ℕ) → holds range place ≡ true → (owner_at place ≡ x.number) × (place < 2 ^ 39)

-- all that is loaded of instances that are live at some time; the parts of thread 1 begin at 2^40
pub record LiesLow {B : Type 0} (l : Loads B) : Type 0 where
  -- code, constants and tables
  pub fixed : (seen : List Event) → IsLegal l.infos l.last_offset seen → (access : Access) (place : ℕ)
      → 2 ^ 39 ≤ place → byte_in access (fixed_at l seen) place ≡ None
  pub shared : (seen : List Event) → IsLegal l.infos l.last_offset seen → (x : Instance) (range : Range B)
      → numbered_instance l seen x.number ≡ Some x → l.shared x ≡ Some range → IsDataRange x range
