-- The laws: the table's types are those that linking takes, and what is stored is the only field that meets the table.
use Rattle.std.specs.Prelude.{◌≡◌, ◌↔◌, ℕ, ℤ, Option, Some, IsSome}
use Rattle.elf_records.specs.declared.relocation.RelocationKind.{RelocationKind}
use Rattle.elf_records.specs.Relocations.{relocation_kind}
use Rattle.tls_relocs.specs.declared.fields.Field.{Field}
use Rattle.tls_relocs.specs.Values.{stored_field}
use Rattle.field_laws.specs.Table.{Letters, IsAnswer, row_numbered}

-- `relocation_kind` has a type exactly for the numbers of the table
abbrev pub TypesAreListed : Type 0
TypesAreListed = (number : ℕ) (l : Letters) (x : ℤ)
    → IsSome (relocation_kind number) ↔ IsSome (row_numbered number l x)

-- `stored_field` takes S and O as one number, and G, B and D as another
abbrev pub letters_of : ℕ → ℤ → ℕ → ℕ → Letters
letters_of s a p g = record { S = s; A = a; P = p; G = g; O = s; B = g; D = g }

-- `stored_field` is the only answer
abbrev pub FieldsAreStored : Type 0
FieldsAreStored = (number : ℕ) (kind : RelocationKind) → relocation_kind number ≡ Some kind
    → (s : ℕ) (a : ℤ) (p g : ℕ) (answer : Option Field)
    → (stored_field kind s a p g ≡ answer) ↔ IsAnswer number (letters_of s a p g) answer
