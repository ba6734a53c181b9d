-- Sites as text: a line for each.
use Rattle.std.specs.Prelude.{ℕ, ◌-◌, List, [], ◌∷◌, ◌++◌, codes}
use Rattle.std.specs.List.{flat_map, zip}
use Rattle.std.specs.Fmt.{decimal}
use Rattle.elf_object.specs.Lent.{symbol_name}
use Rattle.sequence_forms.specs.declared.places.Site.{Site}
use Rattle.relax_sites.specs.declared.choices.Choice.{Choice}
use Rattle.transcript_text.specs.Texts.{hex16}
use Rattle.site_text.specs.Names.{choice_name, form_name}

-- a name as it is printed: `-` for an empty one
abbrev pub shown_name : List ℕ → List ℕ
shown_name [] = codes "-"
shown_name (c ∷ cs) = c ∷ cs

-- the line of a site in an object with this name and these bytes: the name, the site's section and its offset there,
-- its form and its choice, its symbol
unfoldable pub site_line : List ℕ → List ℕ → Site → Choice → List ℕ
site_line name object site choice =
    name ++ (codes " " ++ decimal site.section ++ codes " " ++ hex16 site.start)
    ++ (codes " " ++ form_name site.form ++ codes " " ++ choice_name choice ++ codes " ")
    ++ shown_name (symbol_name object site.symbol) ++ codes "\n"

-- the lines of the sites of an object, each with its choice
abbrev pub site_lines : List ℕ → List ℕ → List Site → List Choice → List ℕ
site_lines name object sites choices = flat_map (λ site. site_line name object site.0 site.1) (zip sites choices)
