-- The byte at each address of an image's sections in a loaded instance, by its objects alone: a byte of the sequence
-- in a rewritten site, else of the field that covers it, at the instance's address, else the section's own; between
-- sections zeros.
use Rattle.std.specs.Prelude.{◌+◌, ◌-◌, ◌^◌, ◌+ℤ◌, ℕ, pos, Option, Some, None, slice_index_or, unwrap_or}
use Rattle.std.specs.Prelude.{if◌then◌else◌}
use Rattle.std.specs.List.{find}
use Rattle.elf_object.specs.declared.relocation.Relocation.{Relocation}
use Rattle.elf_object.specs.Lent.{relocations, section_bytes}
use Rattle.link_core.specs.Dynamic.{is_absolute}
use Rattle.link_core.specs.Meant.{is_in_field, is_in_rewritten, site_byte}
use Rattle.link_needs.specs.Linking.{Linking, binding, object, sites_at}
use Rattle.link_needs.specs.Values.{field, own_number}
use Rattle.object_faults.specs.declared.class.SectionClass.{SectionClass}
use Rattle.tls_relocs.specs.declared.fields.Field.{Field}
use Rattle.tls_relocs.specs.declared.fields.Field.TheVariants.{Empty, Word64}
use Rattle.tls_relocs.specs.Fields.{field_bytes}
use Rattle.tls_relocs.specs.Values.{modulo}
use Rattle.whole_meaning.specs.Spots.{Spot, spot_in}

-- bias: the instance's load bias
module _ (l : Linking) (bias : ℕ) where
  -- the field of a relocation of section t of object o: an address of 8 bytes moves with the instance, S + A + bias,
  -- and all others hold what they hold in the file
  abbrev pub loaded_field : ℕ → ℕ → Relocation → Option Field
  loaded_field o t r =
      if is_absolute r.kind
      then Some (Word64 (modulo (2 ^ 64) (pos (own_number l r.kind (binding l o r) + bias) +ℤ r.addend)))
      else field l o t r

  abbrev pub field_byte : ℕ → ℕ → ℕ → Option Relocation → ℕ → ℕ
  field_byte o t k None own = own
  field_byte o t k (Some r) own =
      slice_index_or (field_bytes (unwrap_or (loaded_field o t r) Empty)) (k - r.offset) 0

  -- byte k of section t of object o
  unfoldable pub loaded_byte : ℕ → ℕ → ℕ → ℕ
  loaded_byte o t k =
      site_byte l o k (find (is_in_rewritten l o t k) (sites_at l o))
      (field_byte o t k (find (is_in_field l o k) (relocations (object l o) t))
      (slice_index_or (section_bytes (object l o) t) k 0))

  -- the byte of a spot, if there is one at the address
  abbrev pub byte_of_spot : Option Spot → ℕ
  byte_of_spot None = 0
  byte_of_spot (Some spot) = loaded_byte spot.object spot.section spot.within

  -- the byte at an address of a class
  unfoldable pub byte_at : SectionClass → ℕ → ℕ
  byte_at class address = byte_of_spot (spot_in l class address)
