-- All that an image depends on: its kind, its objects with their sequences, what the startup images export, and whether
-- sequences may be rewritten.
use Rattle.std.specs.Prelude.{◌+◌, ℕ, Bool, true, List, [], ◌∷◌, Option, Some, None, map, nat_lt, slice_index_or}
use Rattle.std.specs.Prelude.{unwrap_or}
use Rattle.std.specs.Global.{Vec}
use Rattle.elf_object.specs.declared.relocation.Relocation.{Relocation}
use Rattle.elf_object.specs.declared.symbol.SymbolPlace.{SymbolPlace}
use Rattle.elf_object.specs.declared.symbol.SymbolPlace.TheVariants.{InSection}
use Rattle.elf_object.specs.Lent.{symbol_place, symbol_value}
use Rattle.object_faults.specs.declared.class.SectionClass.TheVariants.{Writable}
use Rattle.sequence_match.specs.Sites.{first_of}
use Rattle.link_faults.specs.declared.image_kind.ImageKind.{ImageKind}
use Rattle.relax_sites.specs.declared.choices.Choice.{Choice}
use Rattle.relax_sites.specs.declared.choices.Choice.TheVariants.{Keep}
use Rattle.relax_sites.specs.Choices.{choice_of}
use Rattle.sequence_forms.specs.declared.forms.Form.{Form}
use Rattle.sequence_forms.specs.declared.places.Site.{Site}
use Rattle.tls_layout.specs.Places.{extent_for}
use Rattle.tls_layout.specs.Places.{address_of, tls_offset_of, tls_size, tls_alignment}
use Rattle.tls_layout.specs.Rounding.{round_up}
use Rattle.tls_layout.specs.Sections.{Layout, layout_of}
use Rattle.link_faults.specs.declared.binding.Binding.{Binding}
use Rattle.link_faults.specs.declared.symbol_ref.SymbolRef.{SymbolRef}
use Rattle.tls_symbols.specs.Bindings.{binding_of, object_at}

pub record Linking : Type 0 where
  pub kind : ImageKind
  pub objects : List (List ℕ)
  -- the names that each startup image exports
  pub startup : List (List (List ℕ))
  -- the sequences of each object
  pub sites : List (List Site)
  pub relax : Bool

-- the link of objects and their sites, as code holds them
abbrev pub link_of : List (List ℕ) → List (Vec Site) → ImageKind → List (List (List ℕ)) → Bool → Linking
link_of objects sites kind startup relax = record {
  kind = kind;
  objects = objects;
  startup = startup;
  sites = map (λ own. own.items) sites;
  relax = relax;
}

abbrev pub object : Linking → ℕ → List ℕ
object l o = object_at l.objects o

abbrev pub sites_at : Linking → ℕ → List Site
sites_at l o = slice_index_or l.sites o []

-- where the sections of a link go
abbrev pub layout : Linking → Layout
layout l = layout_of l.kind l.objects

-- whether the image's class of sections that programs write has bytes, in the file or in memory
abbrev pub has_writable_data : Linking → Bool
has_writable_data l = let extent = extent_for (Writable true) (layout l) in nat_lt extent.start extent.end

-- how far below the thread pointer the block of a program begins (Drepper, section 3: tlsoffset of module 1)
unfoldable pub block_offset : Linking → ℕ
block_offset l = round_up (tls_size (layout l).sections) (tls_alignment (layout l).sections)

-- ** symbols

-- what the symbol of a relocation of object o is bound to
abbrev pub binding : Linking → ℕ → Relocation → Option Binding
binding l o r = binding_of l.objects l.startup o r

-- a symbol's value counts from where its section begins, if it is in one
abbrev pub placed_value : (ℕ → Option ℕ) → SymbolPlace → ℕ → ℕ
placed_value begins (InSection s) value = unwrap_or (begins s) 0 + value
placed_value begins place value = value

-- the address of a symbol, and its offset in the TLS segment
unfoldable pub address : Linking → SymbolRef → ℕ
address l found =
    placed_value (address_of (layout l) found.object) (symbol_place (object l found.object) found.symbol)
    (symbol_value (object l found.object) found.symbol)

unfoldable pub offset : Linking → SymbolRef → ℕ
offset l found =
    placed_value (tls_offset_of (layout l) found.object) (symbol_place (object l found.object) found.symbol)
    (symbol_value (object l found.object) found.symbol)

-- the address of byte k of section s of object o
abbrev pub place : Linking → ℕ → ℕ → ℕ → ℕ
place l o s k = unwrap_or (address_of (layout l) o s) 0 + k

-- ** sequences

-- which sequence takes the place of a site's; the site is bound as its first relocation is
abbrev pub chosen : Linking → Form → Option Binding → Choice
chosen l form None = Keep
chosen l form (Some bound) = choice_of form bound l.kind l.relax

unfoldable pub choice : Linking → ℕ → Site → Choice
choice l o site = chosen l site.form (binding l o (first_of site))

-- likewise for the sites of all objects from number o on
abbrev pub choices_from : Linking → ℕ → List (List Site) → List (List Choice)
choices_from l o [] = []
choices_from l o (own ∷ more) = map (choice l o) own ∷ choices_from l (o + 1) more
