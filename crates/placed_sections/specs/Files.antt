-- The bytes of sections in an image's file: each section at its place, and zeros between them (gABI, "Program
-- Header": the offset and the address of a segment are congruent).
use Rattle.std.specs.Prelude.{◌≡◌, ◌+◌, ◌-◌, ◌<◌, ◌&&◌, ℕ, true, false, List, [], ◌∷◌, ◌++◌, Option, Some, None}
use Rattle.std.specs.Prelude.{length, nat_lt, slice_index_or, unwrap_or, if◌then◌else◌}
use Rattle.std.specs.List.{flat_map, range_with_len}
use Rattle.object_faults.specs.declared.class.SectionClass.{SectionClass}
use Rattle.object_faults.specs.declared.class.SectionClass.TheVariants.{Executable, ReadOnly, Tls, Writable}
use Rattle.elf_object.specs.Lent.{section_bytes, section_class, section_size}
use Rattle.elf_object.specs.Object.{section_count}
use Rattle.link_faults.specs.ImageKinds.{base_of}
use Rattle.placed_sections.specs.declared.part.SectionRef.{SectionRef}
use Rattle.placed_sections.specs.declared.part.PlacedPart.{PlacedPart}
use Rattle.tls_layout.specs.Places.{extent_for}
use Rattle.tls_layout.specs.Places.{address_of}
use Rattle.tls_layout.specs.Sections.{Layout, is_class}
use Rattle.tls_relocs.specs.Laid.{Placed, laid, zeros}

-- the offset in the file of an address: the first page is that of the headers
abbrev pub offset_of : Layout → ℕ → ℕ
offset_of p address = address + 4096 - base_of p.kind

-- a section's bytes in memory: those in the file, or zeros if it has none there (NOBITS)
abbrev pub memory_bytes : List ℕ → ℕ → List ℕ
memory_bytes b s = section_bytes b s ++ zeros (section_size b s - length (section_bytes b s))

-- ** the order of sections in the file, with what is made of each: its place alone, or its place and bytes

-- section s of object o, if it is of the class and has bytes
abbrev pub placed_section : {X : Type 0} → (PlacedPart → X) → Layout → SectionClass → ℕ → List ℕ → ℕ → List X
placed_section made p class o b s =
    if is_class class (section_class b s) && nat_lt 0 (section_size b s)
    then made (record {
      place = offset_of p (unwrap_or (address_of p o s) 0);
      section = Some (record { object = o; section = s });
    }) ∷ []
    else []

-- the sections of object o
unfoldable pub placed_object : {X : Type 0} → (PlacedPart → X) → Layout → SectionClass → ℕ → List ℕ → List X
placed_object made p class o b = flat_map (placed_section made p class o b) (range_with_len 0 (section_count b))

-- the sections of all objects, from number o on
abbrev pub placed_from : {X : Type 0} → (PlacedPart → X) → Layout → SectionClass → ℕ → List (List ℕ) → List X
placed_from made p class o [] = []
placed_from made p class o (b ∷ more) = placed_object made p class o b ++ placed_from made p class (o + 1) more

-- no section, at the end of a class that has some: its last section may be empty, and its alignment moves the end; a
-- section that programs write is never empty
abbrev pub end_mark : {X : Type 0} → (PlacedPart → X) → Layout → SectionClass → List X
end_mark made p (Writable initial) = []
end_mark made p class =
    let extent = extent_for class p in
    if nat_lt extent.start extent.end
    then made (record { place = offset_of p extent.end; section = None }) ∷ []
    else []

abbrev pub placed_class : {X : Type 0} → (PlacedPart → X) → Layout → List (List ℕ) → SectionClass → List X
placed_class made p objects class = placed_from made p class 0 objects ++ end_mark made p class

-- the classes that have addresses, in address order
abbrev pub classes : List SectionClass
classes = Executable ∷ ReadOnly ∷ Tls true ∷ Writable true ∷ Writable false ∷ []

-- all sections that have an address and bytes, and the ends of classes
unfoldable pub placed : {X : Type 0} → (PlacedPart → X) → Layout → List (List ℕ) → List X
placed made p objects = flat_map (placed_class made p objects) classes

-- ** their bytes

-- what stands in each section: section s of object o
abbrev pub Contents : Type 0
Contents = ℕ → ℕ → List ℕ

-- as many bytes as each section has in memory
abbrev pub AreWhole : Contents → List (List ℕ) → Type 0
AreWhole contents objects =
    (o s : ℕ) → o < length objects → length (contents o s) ≡ section_size (slice_index_or objects o []) s

abbrev pub bytes_in : Contents → Option SectionRef → List ℕ
bytes_in contents None = []
bytes_in contents (Some own) = contents own.object own.section

abbrev pub filled : Contents → PlacedPart → Placed
filled contents part = record { place = part.place; bytes = bytes_in contents part.section }

-- the file: a page of zeros, where headers will stand, and the sections
unfoldable pub sections_file : Layout → Contents → List (List ℕ) → List ℕ
sections_file p contents objects = zeros 4096 ++ laid 4096 (placed (filled contents) p objects)
