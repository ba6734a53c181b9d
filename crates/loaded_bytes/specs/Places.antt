-- The addresses of what is loaded of an instance.
use Rattle.std.specs.Prelude.{◌≡◌, ◌+◌, ◌<◌, ◌≤◌, ◌⊎◌, ◌^◌, ℕ, true, false, List, Some, None, IfSome}
use Rattle.std.specs.List.{All}
use Rattle.guest_operands.specs.declared.space.Access.{Access}
use Rattle.guest_operands.specs.declared.space.Access.TheVariants.{Read, Write, Run}
use Rattle.guest_operands.specs.Ranges.{Range, byte_in, holds}
use Rattle.link_faults.specs.ImageKinds.{base_of}
use Rattle.link_needs.specs.Linking.{Linking}
use Rattle.loaded_modules.specs.declared.instance.Instance.{Instance}
use Rattle.object_faults.specs.declared.class.SectionClass.{SectionClass}
use Rattle.object_faults.specs.declared.class.SectionClass.TheVariants.{Executable, ReadOnly, Tls}
use Rattle.thread_blocks.specs.JobLoads.{job_loads}
use Rattle.whole_meaning.specs.Spots.{bias_of, in_room}
use Rattle.loaded_bytes.specs.Laws.{IsIn, IsInstanceOf, images_of}

-- an address of the instance: one of 2^26 from its base on, and no other instance's
abbrev pub IsOwn : Linking → ℕ → ℕ → Type 0
IsOwn l bias place = (base_of l.kind + bias ≤ place) × (place < base_of l.kind + 2 ^ 26 + bias)

-- data that threads write lies apart from all that they do not, and can't be run
pub record IsApart (l : Linking) (bias : ℕ) (fixed : List (Range ℕ)) (range : Range ℕ) : Type 0 where
  pub runnable : range.runnable ≡ false
  pub own : (place : ℕ) → holds range place ≡ true → IsOwn l bias place
  pub apart : (place : ℕ) → holds range place ≡ true → (access : Access) → byte_in access fixed place ≡ None

-- all that is loaded of an instance lies at its own addresses
pub record LiesAtItsPlaces (ls : List Linking) (l : Linking) (x : Instance) : Type 0 where
  pub fixed : (access : Access) (place byte : ℕ)
      → byte_in access ((job_loads (images_of ls)).fixed x) place ≡ Some byte → IsOwn l (bias_of l.kind x.number) place
  pub tables : All
      (λ (range : Range ℕ). (place : ℕ) → holds range place ≡ true → IsOwn l (bias_of l.kind x.number) place)
      ((job_loads (images_of ls)).tables x)
  pub shared : IfSome ((job_loads (images_of ls)).shared x)
      (IsApart l (bias_of l.kind x.number) ((job_loads (images_of ls)).fixed x))

abbrev pub PlacesAreOwn : Type 0
PlacesAreOwn = (ls : List Linking) (l : Linking) (x : Instance) → IsInstanceOf ls l x → LiesAtItsPlaces ls l x

-- ** the addresses of everything else

-- an address of the class's sections, with this load bias
abbrev pub IsInMoved : Linking → ℕ → SectionClass → ℕ → Type 0
IsInMoved l bias class place = (address : ℕ) × (place ≡ address + bias) × IsIn l class address

-- an address that allows an access is one of a class that allows it, or lies in the room, where all lies that a linker
-- adds
pub record IsFoundInItsClass (l : Linking) (bias : ℕ) (fixed : List (Range ℕ)) : Type 0 where
  pub read : (place byte : ℕ) → byte_in Read fixed place ≡ Some byte
      → (in_room l bias place ≡ true) ⊎ (IsInMoved l bias ReadOnly place ⊎ IsInMoved l bias (Tls true) place)
  pub run : (place byte : ℕ) → byte_in Run fixed place ≡ Some byte
      → (in_room l bias place ≡ true) ⊎ IsInMoved l bias Executable place
  pub write : (place : ℕ) → byte_in Write fixed place ≡ None

abbrev pub AllElseIsInTheRoom : Type 0
AllElseIsInTheRoom = (ls : List Linking) (l : Linking) (x : Instance) → IsInstanceOf ls l x
    → IsFoundInItsClass l (bias_of l.kind x.number) ((job_loads (images_of ls)).fixed x)
