-- A section's bytes after one site was rewritten.
use Rattle.std.specs.Prelude.{ℕ, List}
use Rattle.elf_records.specs.Fields.{splice}
use Rattle.sequence_forms.specs.declared.places.Site.{Site}
use Rattle.relax_sites.specs.declared.choices.Choice.{Choice}
use Rattle.relax_sites.specs.declared.choices.Choice.TheVariants.{Keep}
use Rattle.relax_sites.specs.Rows.{new_bytes}

-- a kept site changes nothing; else the row's bytes stand in its place, and the others stay
abbrev pub rewritten : Site → Choice → List ℕ → List ℕ
rewritten site Keep bytes = bytes
rewritten site choice bytes = splice site.start (new_bytes site.form choice site.reg) bytes
