-- What is loaded of an instance of a linked image, byte by byte.
use Rattle.std.specs.Prelude.{◌≡◌, ◌≢◌, ◌+◌, ◌<◌, ◌≤◌, ℕ, Bool, true, false, List, Option, Some, None}
use Rattle.std.specs.Prelude.{length, map, slice_get}
use Rattle.guest_operands.specs.declared.space.Access.TheVariants.{Read, Run}
use Rattle.guest_operands.specs.Ranges.{Range, byte_in}
use Rattle.link_core.specs.Faults.{Links}
use Rattle.link_core.specs.Images.{image_of}
use Rattle.link_core.specs.Laws.{HasNoStray}
use Rattle.link_needs.specs.Given.{IsGiven}
use Rattle.link_needs.specs.Linking.{Linking, layout}
use Rattle.loaded_modules.specs.declared.instance.Instance.{Instance}
use Rattle.loaded_modules.specs.Images.{JobImages}
use Rattle.object_faults.specs.declared.class.SectionClass.{SectionClass}
use Rattle.object_faults.specs.declared.class.SectionClass.TheVariants.{Executable, ReadOnly, Tls, Writable}
use Rattle.thread_blocks.specs.JobLoads.{job_loads}
use Rattle.thread_blocks.specs.Turns.{at_number}
use Rattle.tls_layout.specs.Places.{extent_for}
use Rattle.tls_layout.specs.Places.{initial_tls, tls_size}
use Rattle.link_needs.specs.Linking.{has_writable_data}
use Rattle.whole_meaning.specs.Bytes.{byte_of}
use Rattle.whole_meaning.specs.Spots.{bias_of, spot_in}
use Rattle.loaded_bytes.specs.Bytes.{byte_at}

-- the images of links, as they are loaded
abbrev pub images_of : List Linking → JobImages
images_of ls = record { kinds = map (λ l. l.kind) ls; images = map image_of ls }

-- x is an instance of link l of a job's links
pub record IsInstanceOf (ls : List Linking) (l : Linking) (x : Instance) : Type 0 where
  pub image : at_number ls x.image ≡ Some l
  pub given : IsGiven l
  pub links : Links l
  pub stray : HasNoStray l

-- an address of the class's sections, before the image is moved
abbrev pub IsIn : Linking → SectionClass → ℕ → Type 0
IsIn l class address =
    ((extent_for class (layout l)).start ≤ address) × (address < (extent_for class (layout l)).end)

-- ** code

abbrev pub CodeIsLoaded : Type 0
CodeIsLoaded = (ls : List Linking) (l : Linking) (x : Instance) (address : ℕ) → IsInstanceOf ls l x
    → IsIn l Executable address
    → let bias = bias_of l.kind x.number in
    byte_in Run ((job_loads (images_of ls)).fixed x) (address + bias) ≡ Some (byte_at l bias Executable address)

-- ** constants, and the initial image of thread-local storage

abbrev pub ReadsAre : List Linking → Linking → Instance → SectionClass → Type 0
ReadsAre ls l x class = (address : ℕ) → IsIn l class address
    → let bias = bias_of l.kind x.number in
    byte_in Read ((job_loads (images_of ls)).fixed x) (address + bias) ≡ Some (byte_at l bias class address)

abbrev pub ConstantsAreLoaded : Type 0
ConstantsAreLoaded = (ls : List Linking) (l : Linking) (x : Instance) → IsInstanceOf ls l x
    → ReadsAre ls l x ReadOnly × ReadsAre ls l x (Tls true)

-- ** data

-- the range that threads write, as a load fills it
pub record IsDataOf (l : Linking) (bias : ℕ) (range : Range ℕ) : Type 0 where
  pub start_is : range.start ≡ (extent_for (Writable true) (layout l)).start + bias
  pub long : range.start + length range.bytes ≡ (extent_for (Writable true) (layout l)).end + bias
  pub each : (k : ℕ) → k < length range.bytes
      → slice_get range.bytes k
      ≡ Some (byte_at l bias (Writable true) ((extent_for (Writable true) (layout l)).start + k))
  pub readable : range.readable ≡ true
  pub writable : range.writable ≡ true
  pub runnable : range.runnable ≡ false

-- there is one if the image has data
abbrev pub IsData : Linking → ℕ → Bool → Option (Range ℕ) → Type 0
IsData l bias true None = ⊥
IsData l bias true (Some range) = IsDataOf l bias range
IsData l bias false None = Unit {0}
IsData l bias false (Some range) = ⊥

abbrev pub DataIsLoaded : Type 0
DataIsLoaded = (ls : List Linking) (l : Linking) (x : Instance) → IsInstanceOf ls l x
    → IsData l (bias_of l.kind x.number) (has_writable_data l) ((job_loads (images_of ls)).shared x)

-- ** blocks

-- a thread's block before any write: the initial image as the instance has it, and zeros (gABI, "Program Loading":
-- p_filesz and p_memsz)
pub record IsBlockOf (l : Linking) (bias : ℕ) (bytes : List ℕ) : Type 0 where
  pub long : length bytes ≡ tls_size (layout l).sections
  pub initial : (k : ℕ) → k < (initial_tls (layout l).sections).end
      → slice_get bytes k ≡ Some (byte_at l bias (Tls true) ((extent_for (Tls true) (layout l)).start + k))
  pub rest : (k : ℕ) → (initial_tls (layout l).sections).end ≤ k → k < tls_size (layout l).sections
      → slice_get bytes k ≡ Some 0

abbrev pub BlocksAreLoaded : Type 0
BlocksAreLoaded = (ls : List Linking) (l : Linking) (x : Instance) → IsInstanceOf ls l x
    → IsBlockOf l (bias_of l.kind x.number) ((job_loads (images_of ls)).block x)

-- ** the job's meaning

-- at the addresses of a class that is not code the loaded byte is that of the meaning, in which a field holds what its
-- relocation's type says at the instance's address
abbrev pub BytesAreMeant : Type 0
BytesAreMeant = (l : Linking) (number address : ℕ) (class : SectionClass) → IsGiven l → Links l → HasNoStray l
    → class ≢ Executable
    → byte_at l (bias_of l.kind number) class address
    ≡ byte_of l (bias_of l.kind number) (spot_in l class address)
