-- A file of finished contents stands for an image, and for just that.
use Rattle.std.proofs.Common.{◌≡◌, ◌<◌, ◌^◌, ℕ, List, All, arith}
use Rattle.std.specs.Int.{w64}
use Rattle.std.specs.Prelude.{FitsSigned}
use Rattle.image_rules.specs.declared.rule.Rule.TheVariants.{Length, Ident, Field, Extent, Segment, Entry, Table}
use Rattle.image_rules.specs.declared.rule.EntryRule.{EntryRule}
use Rattle.image_rules.specs.declared.rule.TableRule.{TableRule}
use Rattle.image_rules.specs.declared.rule.FieldRule.{FieldRule}
use Rattle.image_rules.specs.declared.rule.FieldRule.TheVariants.{FileType, Machine, Version, TableOffset, EntrySize}
use Rattle.image_rules.specs.declared.rule.FieldRule.TheVariants.{Count}
use Rattle.image_rules.specs.Rules.{number}
use Rattle.image_faults.specs.Faults.{IsImage, Keeps, KeepsBelow}
use Rattle.image_file.specs.declared.relocation.ImageRelocation.{ImageRelocation}
use Rattle.image_file.specs.Spelled.{spelled}
use Rattle.image_writer.specs.Contents.{Contents, symbol}
use Rattle.image_writer.specs.Tables.{finished, symbol_total}
use Rattle.image_writer.specs.Linkable.{IsLinkable}
use Rattle.image_writer.specs.Outlined.{outline_of}
use Rattle.image_writer.specs.Files.{IsFileOf}
use Rattle.image_writer.proofs.Headed.{IsHeaded, headed}
use Rattle.image_writer.proofs.TableOutline.{long_enough, seen_is, type_is}
use Rattle.image_writer.proofs.TableEntries.{entries_kept, flagged_is, kind_is}
use Rattle.image_writer.proofs.TableRules.{is_read}
use Rattle.image_writer.proofs.TableTls.{tables_kept}
use Rattle.image_writer.proofs.TableSpelled.{names_are, parts_are, relocations_are, spelled_same, symbols_are}

-- each number lies in the range of its type, as it does in all contents that code holds
pub record AreFitting (c : Contents) : Type 0 where
  pub values : (k : ℕ) → k < symbol_total c → (symbol c k).value < 2 ^ 64
  pub sizes : (k : ℕ) → k < symbol_total c → (symbol c k).size < 2 ^ 64
  pub places : All (λ (r : ImageRelocation). r.place < 2 ^ 64) c.relocations
  pub addends : All (λ (r : ImageRelocation). FitsSigned w64 r.addend) c.relocations

-- the fields' rules are among the first ten
field_below : (rule : FieldRule) → number (Field rule) < 10
field_below FileType = omega arith
field_below Machine = omega arith
field_below Version = omega arith
field_below TableOffset = omega arith
field_below EntrySize = omega arith
field_below Count = omega arith

-- the rules are those of the headers, of the array and of its tables
all_kept : (f : List ℕ) → KeepsBelow 10 f → ((rule : EntryRule) → Keeps (Entry rule) f)
    → ((rule : TableRule) → Keeps (Table rule) f) → IsImage f
all_kept f headers entries tables Length = headers Length (omega arith)
all_kept f headers entries tables Ident = headers Ident (omega arith)
all_kept f headers entries tables (Field rule) = headers (Field rule) (field_below rule)
all_kept f headers entries tables Extent = headers Extent (omega arith)
all_kept f headers entries tables Segment = headers Segment (omega arith)
all_kept f headers entries tables (Entry rule) = entries rule
all_kept f headers entries tables (Table rule) = tables rule

-- the file stands for an image, which is the contents with their tables
pub stands_for : (c : Contents) (f : List ℕ) → IsLinkable c → AreFitting c → IsFileOf f (finished c)
    → IsImage f × (spelled f ≡ finished c)
unfolding finished
stands_for c f linkable fitting file =
    let loadable = linkable.loadable in
    let heads : IsHeaded f (outline_of (finished c)) =
    headed f (outline_of (finished c)) file.page_is loadable linkable.holds_tls (long_enough c f loadable file) in
    let tables = seen_is c f heads loadable file in
    let type = type_is c f heads in
    let read = is_read f c tables linkable.named fitting.values fitting.sizes fitting.places fitting.addends
    linkable.relocations in (
      all_kept f heads.rules (entries_kept f c tables type)
          (tables_kept f c heads read linkable.symbols linkable.relocations linkable.rising),
      spelled_same (spelled f) (finished c) (kind_is f c tables type linkable.flagged)
          (parts_are f (finished c) heads file)
          tables.array_is heads.got_is heads.tls_is (symbols_are f c read) (names_are f c read linkable.symbols)
          (relocations_are f c read) (flagged_is f c tables),
    )
