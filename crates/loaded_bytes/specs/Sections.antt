-- The same section by section.
use Rattle.std.specs.Prelude.{◌≡◌, ◌+◌, ◌<◌, ℕ, Some, length}
use Rattle.memory_image.specs.Laying.{HasRange}
use Rattle.elf_object.specs.Lent.{section_class, section_size}
use Rattle.link_core.specs.Faults.{Links}
use Rattle.link_needs.specs.Given.{IsGiven}
use Rattle.link_needs.specs.Linking.{Linking, layout, object}
use Rattle.object_faults.specs.declared.class.SectionClass.{SectionClass}
use Rattle.tls_layout.specs.Places.{address_of}
use Rattle.loaded_bytes.specs.Bytes.{byte_at, loaded_byte}
use Rattle.loaded_bytes.specs.Laws.{IsIn}

-- section t of object o is one of the class and begins at the address
pub record IsSectionAt (l : Linking) (class : SectionClass) (o t address : ℕ) : Type 0 where
  pub there : o < length l.objects
  pub class_is : section_class (object l o) t ≡ Some class
  pub address_is : address_of (layout l) o t ≡ Some address

-- its byte k is at its address plus k
abbrev pub SectionsStandAsLoaded : Type 0
SectionsStandAsLoaded = (l : Linking) (bias : ℕ) (class : SectionClass) (o t address k : ℕ) → IsGiven l → Links l
    → HasRange class → IsSectionAt l class o t address → k < section_size (object l o) t
    → IsIn l class (address + k) × (byte_at l bias class (address + k) ≡ loaded_byte l bias o t k)
