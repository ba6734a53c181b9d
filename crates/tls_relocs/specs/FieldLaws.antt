-- A field as what is written in place: its width, its word, its patch.
use Rattle.std.specs.Prelude.{ℕ}
use Rattle.tls_relocs.specs.declared.fields.Field.{Field}
use Rattle.tls_relocs.specs.declared.fields.Field.TheVariants.{Empty, Word32, Word64}
use Rattle.tls_relocs.specs.Patches.{Patch}
use Rattle.tls_relocs.specs.Fields.{field_bytes}

-- how many bytes it has
abbrev pub width_of : Field → ℕ
width_of Empty = 0
width_of (Word32 w) = 4
width_of (Word64 w) = 8

-- the number in them; 0 if there is none
abbrev pub word_of : Field → ℕ
word_of Empty = 0
word_of (Word32 w) = w
word_of (Word64 w) = w

-- the field, written at a place
abbrev pub field_patch : ℕ → Field → Patch
field_patch at f = record { at = at; bytes = field_bytes f }
