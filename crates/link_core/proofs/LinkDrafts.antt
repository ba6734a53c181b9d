-- A draft with what is known of a link becomes its image.
use Rattle.std.proofs.Common.{◌≡◌, ℕ, Bool, List, Option, map}
use Rattle.image_file.specs.declared.part.TlsPart.{TlsPart}
use Rattle.image_file.specs.declared.relocation.ImageRelocation.{ImageRelocation}
use Rattle.image_rules.specs.declared.places.FileKind.{FileKind}
use Rattle.image_writer.specs.declared.draft.NamedSymbol.{NamedSymbol}
use Rattle.image_writer.specs.declared.outline.PartPlace.{PartPlace}
use Rattle.image_writer.specs.Contents.{Contents, part_in}
use Rattle.link_needs.specs.Linking.{Linking, layout}
use Rattle.link_core.specs.Bytes.{file}
use Rattle.link_tables.specs.Dynamic.{image_relocations, is_flagged, names, symbols}
use Rattle.link_tables.specs.FaultLaws.{names_in, symbols_in}
use Rattle.link_core.specs.Images.{contents, file_kind, got_number, places, tls_part}

-- what a draft of these fields makes of a file
abbrev pub drafted_of : FileKind → List ℕ → List PartPlace → Option ℕ → Option TlsPart → List NamedSymbol
    → List ImageRelocation → Bool → Contents
drafted_of kind bytes parts got tls shown placed flag = record {
  kind = kind;
  parts = map (part_in kind bytes) parts;
  got = got;
  tls = tls;
  symbols = symbols_in shown;
  names = names_in shown;
  relocations = placed;
  is_flagged = flag;
}

-- its contents are those of the link
pub drafted : (l : Linking) (kind : FileKind) (parts : List PartPlace) (got : Option ℕ) (tls : Option TlsPart)
    (shown : List NamedSymbol) (placed : List ImageRelocation) (flag : Bool) → kind ≡ file_kind l.kind
    → parts ≡ places l → got ≡ got_number l → tls ≡ tls_part (layout l) → symbols_in shown ≡ symbols l
    → names_in shown ≡ names l → placed ≡ image_relocations l → flag ≡ is_flagged l
    → drafted_of kind (file l) parts got tls shown placed flag ≡ contents l
unfolding contents
drafted l kind parts got tls shown placed flag of_kind of_parts of_got of_tls of_symbols of_names of_placed of_flag =
    λ i. record {
      kind = of_kind i;
      parts = map (part_in (of_kind i) (file l)) (of_parts i);
      got = of_got i;
      tls = of_tls i;
      symbols = of_symbols i;
      names = of_names i;
      relocations = of_placed i;
      is_flagged = of_flag i;
    }
