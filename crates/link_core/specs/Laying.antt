-- Some parts of the file, from an offset on.
use Rattle.std.specs.Prelude.{◌+◌, ◌-◌, ◌==◌, ◌++◌, ℕ, List, [], ◌∷◌, All, length, map, if◌then◌else◌}
use Rattle.placed_sections.specs.declared.part.PlacedPart.{PlacedPart}
use Rattle.placed_sections.specs.Files.{bytes_in, filled, offset_of}
use Rattle.placed_sections.specs.Laws.{IsNear}
use Rattle.tls_relocs.specs.Laid.{Rising, laid, zeros}
use Rattle.link_needs.specs.Linking.{Linking, layout}
use Rattle.link_needs.specs.Needs.{got_size, got_start, has_stub, stub_start}
use Rattle.link_core.specs.Bytes.{got_bytes, linked_section, stub_bytes}

-- their bytes, each section linked, and zeros between them
abbrev pub laid_parts : Linking → ℕ → List PlacedPart → List ℕ
laid_parts l from parts = laid from (map (filled (linked_section l)) parts)

-- each begins no earlier than the one before it ends, the first no earlier than at the offset
abbrev pub Rise : Linking → ℕ → List PlacedPart → Type 0
Rise l from parts = Rising from (map (filled (linked_section l)) parts)

-- the parts behind the first page
pub record AreParts (l : Linking) (parts : List PlacedPart) : Type 0 where
  pub near : All (IsNear l.objects) parts
  pub rise : Rise l 4096 parts

-- each by itself, with the zeros before it
abbrev pub pieces_of : Linking → ℕ → List PlacedPart → List (List ℕ)
pieces_of l from [] = []
pieces_of l from (part ∷ more) =
    laid_parts l from (part ∷ []) ∷ pieces_of l (part.place + length (bytes_in (linked_section l) part.section)) more

-- ** what stands behind the first n bytes of the file

-- the table, behind zeros
abbrev pub got_behind : Linking → ℕ → List ℕ
got_behind l n = if got_size l == 0 then [] else zeros (offset_of (layout l) (got_start l) - n) ++ got_bytes l

-- the stub
abbrev pub stub_behind : Linking → ℕ → List ℕ
stub_behind l n = if has_stub l then zeros (offset_of (layout l) (stub_start l) - n) ++ stub_bytes l else []

-- both
abbrev pub made_behind : Linking → ℕ → List ℕ
made_behind l n = got_behind l n ++ stub_behind l (n + length (got_behind l n))
