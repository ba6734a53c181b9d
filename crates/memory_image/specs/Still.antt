-- The ranges of an instance that nothing writes: code, constants and the initial image of thread-local storage.
use Rattle.std.specs.Prelude.{ℕ, true, Option, None}
use Rattle.std.specs.Option.{option_or}
use Rattle.guest_operands.specs.declared.space.Access.{Access}
use Rattle.guest_operands.specs.declared.space.Access.TheVariants.{Read, Write, Run}
use Rattle.link_needs.specs.Linking.{Linking}
use Rattle.object_faults.specs.declared.class.SectionClass.TheVariants.{Executable, ReadOnly, Tls}
use Rattle.memory_image.specs.Tables.{ClassTable, IsClass, byte_of_place}

pub record StillTables : Type 0 where
  pub code : ClassTable
  pub constants : ClassTable
  pub initial : ClassTable

-- the tables are those of this image
pub record AreStill (l : Linking) (s : StillTables) : Type 0 where
  pub code_is : IsClass l Executable s.code
  pub constants_are : IsClass l ReadOnly s.constants
  pub initial_is : IsClass l (Tls true) s.initial

-- the byte at a place, if the access is allowed
unfoldable pub still_byte : Access → StillTables → ℕ → ℕ → Option ℕ
still_byte Run s bias place = byte_of_place s.code bias place
still_byte Read s bias place = option_or (byte_of_place s.constants bias place) (byte_of_place s.initial bias place)
still_byte Write s bias place = None
