-- The table of relocation types once more, by their numbers (psABI for x86-64, version 1.0, section 4.4.1, "Relocation
-- Types"; Drepper, "ELF Handling For Thread-Local Storage", version 0.21, sections 4.1 to 4.4). It watches
-- `relocation_kind` and `row` (elf_records) and `stored_field` (tls_relocs), and shares no name with them.
use Rattle.std.specs.Prelude.{◌+◌, ◌*◌, ◌<◌, ◌≡◌, ◌⊎◌, ◌==◌, ℕ, ℤ, pos, ◌+ℤ◌, ◌≤ℤ◌, List, [], ◌∷◌, Option}
use Rattle.std.specs.Prelude.{Some, None}
use Rattle.std.specs.List.{find}
use Rattle.tls_relocs.specs.declared.fields.Field.{Field}
use Rattle.tls_relocs.specs.declared.fields.Field.TheVariants.{Empty, Word32, Word64}

-- ** the letters

pub record Letters : Type 0 where
  -- the symbol's address; for a function that is called through a table, its entry's
  pub S : ℕ
  -- the addend
  pub A : ℤ
  -- the address of the field
  pub P : ℕ
  -- the address of the entry in the global offset table
  pub G : ℕ
  -- the symbol's offset in its module's TLS block
  pub O : ℕ
  -- how far that block begins below the thread pointer, `tlsoffset`
  pub B : ℕ
  -- how far it begins below the place that local dynamic code finds: 0 if that is the block's start
  pub D : ℕ

-- ** which numbers fit

pub data Range : Type 0 where
  -- each number, cut to the field
  Each : Range
  -- from -2^31 to 2^31 - 1, which 64 bits get back by the sign
  Signed : Range
  -- from 0 to 2^32 - 1, which 64 bits get back by zeros
  Unsigned : Range

abbrev pub IsIn : Range → ℤ → Type 0
IsIn Each x = Unit {0}
IsIn Signed x = (pos 0 ≤ℤ (x +ℤ pos 2147483648)) × (x ≤ℤ pos 2147483647)
IsIn Unsigned x = (pos 0 ≤ℤ x) × (x ≤ℤ pos 4294967295)

-- ** the table

-- a type's number, an equation of its value, how many bytes its field has, and which numbers fit
pub record Row : Type 0 where
  pub number : ℕ
  pub left : ℤ
  pub right : ℤ
  pub bytes : ℕ
  pub range : Range

abbrev stores : ℕ → ℤ → ℤ → ℕ → Range → Row
stores number left right bytes range =
    record { number = number; left = left; right = right; bytes = bytes; range = range }

-- the rows, with X for the value; where nothing is stored it is 0
abbrev pub table : Letters → ℤ → List Row
table l X =
    -- R_X86_64_NONE
    stores 0 X (pos 0) 0 Each
    -- R_X86_64_64
    ∷ stores 1 X (pos l.S +ℤ l.A) 8 Each
    -- R_X86_64_PC32, R_X86_64_PLT32
    ∷ stores 2 (X +ℤ pos l.P) (pos l.S +ℤ l.A) 4 Signed
    ∷ stores 4 (X +ℤ pos l.P) (pos l.S +ℤ l.A) 4 Signed
    -- R_X86_64_GOTPCREL
    ∷ stores 9 (X +ℤ pos l.P) (pos l.G +ℤ l.A) 4 Signed
    -- R_X86_64_32, R_X86_64_32S
    ∷ stores 10 X (pos l.S +ℤ l.A) 4 Unsigned
    ∷ stores 11 X (pos l.S +ℤ l.A) 4 Signed
    -- R_X86_64_TLSGD, R_X86_64_TLSLD
    ∷ stores 19 (X +ℤ pos l.P) (pos l.G +ℤ l.A) 4 Signed
    ∷ stores 20 (X +ℤ pos l.P) (pos l.G +ℤ l.A) 4 Signed
    -- R_X86_64_DTPOFF32
    ∷ stores 21 (X +ℤ pos l.D) (pos l.O +ℤ l.A) 4 Signed
    -- R_X86_64_GOTTPOFF
    ∷ stores 22 (X +ℤ pos l.P) (pos l.G +ℤ l.A) 4 Signed
    -- R_X86_64_TPOFF32
    ∷ stores 23 (X +ℤ pos l.B) (pos l.O +ℤ l.A) 4 Signed
    -- R_X86_64_GOTPC32_TLSDESC, R_X86_64_TLSDESC_CALL
    ∷ stores 34 (X +ℤ pos l.P) (pos l.G +ℤ l.A) 4 Signed
    ∷ stores 35 X (pos 0) 0 Each
    -- R_X86_64_GOTPCRELX, R_X86_64_REX_GOTPCRELX
    ∷ stores 41 (X +ℤ pos l.P) (pos l.G +ℤ l.A) 4 Signed
    ∷ stores 42 (X +ℤ pos l.P) (pos l.G +ℤ l.A) 4 Signed
    ∷ []

abbrev pub row_numbered : ℕ → Letters → ℤ → Option Row
row_numbered number l X = find (λ (r : Row). r.number == number) (table l X)

-- ** what is stored

-- a word below m is the number, but for multiples of m
pub record IsModulo (m : ℕ) (word : ℕ) (x : ℤ) : Type 0 where
  pub below : word < m
  pub times : ℕ
  pub same : (x ≡ pos (word + times * m)) ⊎ (x +ℤ pos (times * m) ≡ pos word)

-- a field of so many bytes has the number, modulo its width
abbrev pub Has : Field → ℕ → ℤ → Type 0
Has Empty bytes x = bytes ≡ 0
Has (Word32 w) bytes x = (bytes ≡ 4) × IsModulo 4294967296 w x
Has (Word64 w) bytes x = (bytes ≡ 8) × IsModulo 18446744073709551616 w x

-- x solves the row's equation, and fits
pub record Solves (r : Row) (x : ℤ) : Type 0 where
  pub equal : r.left ≡ r.right
  pub fits : IsIn r.range x

-- the field has what the type of this number says
pub record IsStored (number : ℕ) (l : Letters) (field : Field) : Type 0 where
  pub value : ℤ
  pub row : Row
  pub is_row : row_numbered number l value ≡ Some row
  pub solved : Solves row value
  pub has : Has field row.bytes value

-- it is the field that is stored, or none, exactly where no number fits
abbrev pub IsAnswer : ℕ → Letters → Option Field → Type 0
IsAnswer number l (Some field) = IsStored number l field
IsAnswer number l None = (x : ℤ) (row : Row) → row_numbered number l x ≡ Some row → Solves row x → ⊥
