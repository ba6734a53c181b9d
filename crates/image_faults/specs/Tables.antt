-- How many entries the tables have.
use Rattle.std.specs.Prelude.{ℕ, List}
use Rattle.image_rules.specs.declared.rule.TableRule.{TableRule}
use Rattle.image_rules.specs.declared.rule.TableRule.TheVariants.{Symbol, Relocation, TlsSymbol, TlsRelocation}
use Rattle.image_faults.specs.Array.{symbol_count, relocation_count}

-- how many entries the table of a rule has
abbrev pub table_count : TableRule → List ℕ → ℕ
table_count Symbol b = symbol_count b
table_count Relocation b = relocation_count b
table_count TlsSymbol b = symbol_count b
table_count TlsRelocation b = relocation_count b
