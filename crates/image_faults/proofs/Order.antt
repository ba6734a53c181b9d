-- The order of the rules: what is asked in turn, rule after rule, finds the first fault.
use Rattle.std.proofs.Common.{◌≡◌, ◌+◌, ◌<◌, ◌≤◌, ◌⊎◌, ◌∙◌, ℕ, List, [], ◌∷◌, get_or, inl, inr, refl, sym, ap, subst}
use Rattle.std.proofs.Common.{arith}
use Rattle.image_rules.specs.declared.rule.Rule.{Rule}
use Rattle.image_rules.specs.declared.rule.Rule.TheVariants.{Length, Ident, Field, Extent, Segment, Entry, Table}
use Rattle.image_rules.specs.declared.rule.FieldRule.{FieldRule}
use Rattle.image_rules.specs.declared.rule.FieldRule.TheVariants.{FileType, Machine, Version, TableOffset, EntrySize}
use Rattle.image_rules.specs.declared.rule.FieldRule.TheVariants.{Count}
use Rattle.image_rules.specs.declared.rule.EntryRule.{EntryRule}
use Rattle.image_rules.specs.declared.rule.EntryRule.TheVariants.{Hash, Strings, Symbols, StringsSize, SymbolSize}
use Rattle.image_rules.specs.declared.rule.EntryRule.TheVariants.{Relocations, RelocationsSize, RelocationSize, Flags}
use Rattle.image_rules.specs.declared.rule.EntryRule.TheVariants.{End}
use Rattle.image_rules.specs.declared.rule.TableRule.{TableRule}
use Rattle.image_rules.specs.declared.rule.TableRule.TheVariants.{Symbol, Relocation, TlsSymbol, TlsRelocation}
use Rattle.image_faults.specs.Parts.{header}
use Rattle.image_faults.specs.Fields.{IsRightField}
use Rattle.image_faults.specs.Array.{IsRightEntry, entry_place}
use Rattle.image_rules.specs.Rules.{number}
use Rattle.image_faults.specs.Faults.{Breaks, Keeps, KeepsBelow, IsImage, IsFirst}
use Rattle.image_faults.specs.Tables.{table_count}

-- the rules in their order
abbrev pub rules_in_order : List Rule
rules_in_order =
    Length ∷ Ident ∷ Field FileType ∷ Field Machine ∷ Field Version ∷ Field TableOffset ∷ Field EntrySize
    ∷ Field Count ∷ Extent ∷ Segment ∷ Entry Hash ∷ Entry Strings ∷ Entry Symbols ∷ Entry StringsSize
    ∷ Entry SymbolSize ∷ Entry Relocations ∷ Entry RelocationsSize ∷ Entry RelocationSize ∷ Entry Flags ∷ Entry End
    ∷ Table Symbol ∷ Table Relocation ∷ Table TlsSymbol ∷ Table TlsRelocation ∷ []

pub rule_at_number : (rule : Rule) → get_or rules_in_order (number rule) Length ≡ rule
rule_at_number Length = refl
rule_at_number Ident = refl
rule_at_number (Field FileType) = refl
rule_at_number (Field Machine) = refl
rule_at_number (Field Version) = refl
rule_at_number (Field TableOffset) = refl
rule_at_number (Field EntrySize) = refl
rule_at_number (Field Count) = refl
rule_at_number Extent = refl
rule_at_number Segment = refl
rule_at_number (Entry Hash) = refl
rule_at_number (Entry Strings) = refl
rule_at_number (Entry Symbols) = refl
rule_at_number (Entry StringsSize) = refl
rule_at_number (Entry SymbolSize) = refl
rule_at_number (Entry Relocations) = refl
rule_at_number (Entry RelocationsSize) = refl
rule_at_number (Entry RelocationSize) = refl
rule_at_number (Entry Flags) = refl
rule_at_number (Entry End) = refl
rule_at_number (Table Symbol) = refl
rule_at_number (Table Relocation) = refl
rule_at_number (Table TlsSymbol) = refl
rule_at_number (Table TlsRelocation) = refl

-- a rule's number tells the rule
pub same_rule : (j k : Rule) → number j ≡ number k → j ≡ k
same_rule j k e = sym (rule_at_number j) ∙ ap (λ n. get_or rules_in_order n Length) e ∙ rule_at_number k

-- below number 0 there is no rule
pub none_at_first : (b : List ℕ) → KeepsBelow 0 b
none_at_first b rule h = absurd (omega arith)

-- once a rule is kept, and all before it, all up to it are kept
pub kept_more : (k : Rule) (b : List ℕ) → KeepsBelow (number k) b → Keeps k b → KeepsBelow (number k + 1) b
kept_more k b below here rule h =
    elim (cases_of (number rule) (number k) h) [
      | inl lt ↦ below rule lt
      | inr eq ↦ let P : Rule → Type 0 = λ j. Keeps j b in subst P (sym (same_rule rule k eq)) here
    ]
  where
    cases_of : (m n : ℕ) → m < n + 1 → (m < n) ⊎ (m ≡ n)
    cases_of m n h = grind arith

-- there is no rule behind the last
below_all : (rule : Rule) → number rule < 24
below_all Length = omega arith
below_all Ident = omega arith
below_all (Field FileType) = omega arith
below_all (Field Machine) = omega arith
below_all (Field Version) = omega arith
below_all (Field TableOffset) = omega arith
below_all (Field EntrySize) = omega arith
below_all (Field Count) = omega arith
below_all Extent = omega arith
below_all Segment = omega arith
below_all (Entry Hash) = omega arith
below_all (Entry Strings) = omega arith
below_all (Entry Symbols) = omega arith
below_all (Entry StringsSize) = omega arith
below_all (Entry SymbolSize) = omega arith
below_all (Entry Relocations) = omega arith
below_all (Entry RelocationsSize) = omega arith
below_all (Entry RelocationSize) = omega arith
below_all (Entry Flags) = omega arith
below_all (Entry End) = omega arith
below_all (Table Symbol) = omega arith
below_all (Table Relocation) = omega arith
below_all (Table TlsSymbol) = omega arith
below_all (Table TlsRelocation) = omega arith

-- where all rules are kept, the bytes stand for an image
pub image_of : (b : List ℕ) → KeepsBelow 24 b → IsImage b
image_of b below rule = below rule (below_all rule)

-- a rule of one place that is broken there
pub first_field : (rule : FieldRule) (b : List ℕ) → KeepsBelow (number (Field rule)) b
    → (IsRightField rule (header b) → ⊥) → IsFirst b (Field rule) 0
unfolding Breaks
first_field rule b below wrong = record {
  here = (refl, wrong);
  nowhere_earlier = λ f h w. absurd (omega arith);
  earlier_rules = below;
}

pub kept_field : (rule : FieldRule) (b : List ℕ) → KeepsBelow (number (Field rule)) b → IsRightField rule (header b)
    → KeepsBelow (number (Field rule) + 1) b
unfolding Breaks
kept_field rule b below right = kept_more (Field rule) b below (λ e w. w.1 right)

-- the same of an entry of the dynamic array
pub first_entry : (rule : EntryRule) (b : List ℕ) (place : ℕ) → place ≡ entry_place rule b
    → KeepsBelow (number (Entry rule)) b → (IsRightEntry rule b → ⊥) → IsFirst b (Entry rule) place
unfolding Breaks
first_entry rule b place at below wrong = record {
  here = (at, wrong);
  nowhere_earlier = λ f h w. absurd (omega (arith, w.0, at));
  earlier_rules = below;
}

pub kept_entry : (rule : EntryRule) (b : List ℕ) → KeepsBelow (number (Entry rule)) b → IsRightEntry rule b
    → KeepsBelow (number (Entry rule) + 1) b
unfolding Breaks
kept_entry rule b below right = kept_more (Entry rule) b below (λ e w. w.1 right)

-- the same of the first entry of a table that breaks its rule
pub first_of_table : (rule : TableRule) (b : List ℕ) (e : ℕ) → Breaks (Table rule) b e
    → ((f : ℕ) → f < e → Breaks (Table rule) b f → ⊥) → KeepsBelow (number (Table rule)) b → IsFirst b (Table rule) e
first_of_table rule b e here none below = record { here = here; nowhere_earlier = none; earlier_rules = below }

-- an entry that breaks the rule is one of the table
in_table : (rule : TableRule) (b : List ℕ) (e : ℕ) → Breaks (Table rule) b e → e < table_count rule b
unfolding Breaks
in_table Symbol b e w = w.0
in_table Relocation b e w = w.0
in_table TlsSymbol b e w = w.0
in_table TlsRelocation b e w = w.0

pub kept_table : (rule : TableRule) (b : List ℕ) (n : ℕ) → table_count rule b ≤ n
    → ((f : ℕ) → f < n → Breaks (Table rule) b f → ⊥) → KeepsBelow (number (Table rule)) b
    → KeepsBelow (number (Table rule) + 1) b
kept_table rule b n all none below =
    kept_more (Table rule) b below (λ e w. none e (omega (arith, in_table rule b e w)) w)
