-- The image of objects.
use Rattle.std.specs.Prelude.{◌-◌, ◌==◌, ℕ, List, [], ◌∷◌, ◌++◌, Option, Some, None, length, map, nat_lt, if◌then◌else◌}
use Rattle.image_file.specs.declared.part.PartClass.{PartClass}
use Rattle.image_file.specs.declared.part.PartClass.TheVariants.{Executable, ReadOnly, Writable}
use Rattle.image_file.specs.declared.part.TlsPart.{TlsPart}
use Rattle.image_file.specs.Spelled.{Spelled}
use Rattle.image_rules.specs.declared.places.FileKind.{FileKind}
use Rattle.image_rules.specs.declared.places.FileKind.TheVariants as file_kinds
use Rattle.image_writer.specs.declared.outline.PartPlace.{PartPlace}
use Rattle.image_writer.specs.Contents.{Contents, part_in}
use Rattle.image_writer.specs.Tables.{finished}
use Rattle.link_faults.specs.declared.image_kind.ImageKind.{ImageKind}
use Rattle.link_faults.specs.declared.image_kind.ImageKind.TheVariants.{Exe, Pie, Start, Late}
use Rattle.tls_layout.specs.declared.extent.Extent.{Extent}
use Rattle.tls_layout.specs.Places.{executable, read_only, tls_image, writable, initial_tls, tls_size, tls_alignment}
use Rattle.tls_layout.specs.Sections.{Layout}
use Rattle.relax_sites.specs.declared.choices.Choice.{Choice}
use Rattle.link_needs.specs.Linking.{Linking, choices_from, layout}
use Rattle.link_needs.specs.Needs.{got_size, got_start, has_stub, stub_start}
use Rattle.link_core.specs.Bytes.{file}
use Rattle.link_tables.specs.Dynamic.{image_relocations, is_flagged, names, symbols}

abbrev pub file_kind : ImageKind → FileKind
file_kind Exe = file_kinds.Exe
file_kind Pie = file_kinds.Pie
file_kind Start = file_kinds.Module
file_kind Late = file_kinds.Module

-- ** the parts: classes of sections that have bytes, the table, the stub

abbrev pub filled : PartClass → Extent → List PartPlace
filled class extent =
    if nat_lt extent.start extent.end
    then record { class = class; address = extent.start; size = extent.end - extent.start } ∷ []
    else []

unfoldable pub section_places : Layout → List PartPlace
section_places p =
    filled Executable (executable p.kind p.sections)
    ++ (filled ReadOnly (read_only p.kind p.sections)
    ++ (filled ReadOnly (tls_image p.kind p.sections) ++ filled Writable (writable p.kind p.sections)))

abbrev pub got_places : Linking → List PartPlace
got_places l =
    if got_size l == 0 then [] else record { class = Writable; address = got_start l; size = got_size l } ∷ []

abbrev pub stub_places : Linking → List PartPlace
stub_places l = if has_stub l then record { class = Executable; address = stub_start l; size = 6 } ∷ [] else []

unfoldable pub places : Linking → List PartPlace
places l = section_places (layout l) ++ (got_places l ++ stub_places l)

-- the part that only the loader writes
unfoldable pub got_number : Linking → Option ℕ
got_number l = if got_size l == 0 then None else Some (length (section_places (layout l)))

-- ** the TLS segment

unfoldable pub tls_part : Layout → Option TlsPart
tls_part p =
    if tls_size p.sections == 0 then None else
    Some (record {
      address = (tls_image p.kind p.sections).start;
      initial = (initial_tls p.sections).end;
      size = tls_size p.sections;
      alignment = tls_alignment p.sections;
    })

-- ** the image

unfoldable pub contents : Linking → Contents
contents l = record {
  kind = file_kind l.kind;
  parts = map (part_in (file_kind l.kind) (file l)) (places l);
  got = got_number l;
  tls = tls_part (layout l);
  symbols = symbols l;
  names = names l;
  relocations = image_relocations l;
  is_flagged = is_flagged l;
}

-- the image with its dynamic tables
unfoldable pub image_of : Linking → Spelled
image_of l = finished (contents l)

-- ** the result of linking

-- the image, and the choices of all objects
pub record LinkedImage : Type 0 where
  pub image : Spelled
  pub choices : List (List Choice)

unfoldable pub linked_of : Linking → LinkedImage
linked_of l = record { image = image_of l; choices = choices_from l 0 l.sites }
