-- A file of an image that was read stands for that very image.
use Rattle.std.proofs.Common.{◌≡◌, ◌<◌, ℕ, List, arith}
use Rattle.image_rules.specs.declared.rule.Rule.{Rule}
use Rattle.image_rules.specs.declared.rule.Rule.TheVariants.{Length, Ident, Field, Extent, Segment, Entry, Table}
use Rattle.image_rules.specs.declared.rule.FieldRule.{FieldRule}
use Rattle.image_rules.specs.declared.rule.FieldRule.TheVariants.{FileType, Machine, Version, TableOffset, EntrySize}
use Rattle.image_rules.specs.declared.rule.FieldRule.TheVariants.{Count}
use Rattle.image_rules.specs.declared.rule.EntryRule.TheVariants.{Hash, Strings, Symbols, Relocations}
use Rattle.image_rules.specs.declared.rule.TableRule.TheVariants.{Symbol, Relocation, TlsSymbol, TlsRelocation}
use Rattle.image_faults.specs.Array.{symbol_count, relocation_count}
use Rattle.image_rules.specs.Rules.{number}
use Rattle.image_faults.specs.Faults.{Breaks, Keeps, KeepsBelow, IsImage}
use Rattle.image_file.specs.Spelled.{spelled}
use Rattle.image_writer.specs.Outlined.{outline_of}
use Rattle.image_writer.specs.Loadable.{HoldsTls}
use Rattle.image_writer.specs.Files.{IsFileOf}
use Rattle.image_writer.proofs.Headed.{IsHeaded}
use Rattle.image_writer.proofs.Positive.{entry_right}
use Rattle.image_writer.proofs.Seen.{seen}
use Rattle.image_writer.proofs.SameArray.{SameHeaders, same_relocation_count}
use Rattle.image_writer.proofs.SameTables.{same_symbol_count}
use Rattle.image_writer.proofs.SameRules.{entry_there, symbol_there, relocation_there, past_back, outside_tls_back}
use Rattle.image_faults.specs.PlaceLaws.{AreRightTables as AreRight}
use Rattle.image_writer.proofs.SameHeaders.{file_headed, same_headers, same_part_bytes, same_tls}
use Rattle.image_writer.proofs.SameSpelled.{same_spelled}

-- the tables of an image are right
tables_right : (b : List ℕ) → IsImage b → AreRight b
tables_right b image = record {
  hash = entry_right b image Hash;
  strings = entry_right b image Strings;
  symbols = entry_right b image Symbols;
  relocations = entry_right b image Relocations;
}

-- the rules of the header come before that of the segments
field_below : (rule : FieldRule) → number (Field rule) < 10
field_below FileType = omega arith
field_below Machine = omega arith
field_below Version = omega arith
field_below TableOffset = omega arith
field_below EntrySize = omega arith
field_below Count = omega arith

-- each rule is kept by a file of the same headers and the same tables
rules_there : (b f : List ℕ) → IsImage b → SameHeaders f b → AreRight b → KeepsBelow 10 f → (rule : Rule) → Keeps rule f
unfolding Breaks
rules_there b f image same tables below Length = below Length (omega arith)
rules_there b f image same tables below Ident = below Ident (omega arith)
rules_there b f image same tables below (Field rule) = below (Field rule) (field_below rule)
rules_there b f image same tables below Extent = below Extent (omega arith)
rules_there b f image same tables below Segment = below Segment (omega arith)
rules_there b f image same tables below (Entry rule) =
    λ e broken. broken.1 (entry_there f b same tables.hash rule (entry_right b image rule))
rules_there b f image same tables below (Table Symbol) =
    λ k broken.
    let within : k < symbol_count b = omega (arith, same_symbol_count f b same tables.hash, broken.0) in
    image (Table Symbol) k (within, λ right. broken.1 (symbol_there f b same tables k within right))
rules_there b f image same tables below (Table Relocation) =
    λ k broken.
    let within : k < relocation_count b = omega (arith, same_relocation_count f b same, broken.0) in
    image (Table Relocation) k (within, λ right. broken.1 (relocation_there f b same tables k within right))
rules_there b f image same tables below (Table TlsSymbol) =
    λ k broken.
    let within : k < symbol_count b = omega (arith, same_symbol_count f b same tables.hash, broken.0) in
    image (Table TlsSymbol) k (within, past_back f b same tables k within broken.1)
rules_there b f image same tables below (Table TlsRelocation) =
    λ k broken.
    let within : k < relocation_count b = omega (arith, same_relocation_count f b same, broken.0) in
    image (Table TlsRelocation) k (within, outside_tls_back f b same tables k within broken.1)

-- a file of an image that was read stands for an image, and for just that one
pub reads_again : (b f : List ℕ) → IsImage b → HoldsTls (outline_of (spelled b)) → IsFileOf f (spelled b)
    → IsImage f × (spelled f ≡ spelled b)
reads_again b f image holds file =
    let leads : IsHeaded f (outline_of (spelled b)) = file_headed b f image holds file in
    let same : SameHeaders f b = same_headers b f image file leads in
    let tables : AreRight b = tables_right b image in (
      rules_there b f image same tables leads.rules,
      same_spelled f b same tables (same_part_bytes b f image file) leads.got_is
          (same_tls b f (outline_of (spelled b)) (seen b image) leads),
    )
