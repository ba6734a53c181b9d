-- Which instructions are read at a sequence, kept or rewritten, whatever its fields hold.
use Rattle.std.specs.Prelude.{◌≡◌, ◌≢◌, ◌≤◌, ◌+◌, ℕ, List, [], ◌∷◌, Option, Some, None, IsTrue, length, drop, slice_get}
use Rattle.std.specs.Prelude.{slice_index, sum_by}
use Rattle.elf_records.specs.Fields.{part_at, splice}
use Rattle.amd64_subset.specs.declared.instr.Decoded.{Decoded}
use Rattle.amd64_subset.specs.Decoding.{decoded}
use Rattle.amd64_subset.specs.Spelling.{field_of}
use Rattle.sequence_forms.specs.declared.forms.Form.{Form}
use Rattle.sequence_forms.specs.declared.forms.Cell.{Cell}
use Rattle.sequence_forms.specs.declared.forms.Second.{Second}
use Rattle.sequence_forms.specs.Forms.{fits, register, row}
use Rattle.relax_sites.specs.declared.choices.Choice.{Choice}
use Rattle.relax_sites.specs.declared.choices.Choice.TheVariants.{Keep}
use Rattle.relax_sites.specs.declared.rows.NewField.{NewField}
use Rattle.relax_sites.specs.ChoiceLaws.{IsChoiceOf}
use Rattle.relax_sites.specs.Rows.{form_length, new_bytes, new_field}
use Rattle.sequence_laws.specs.Instructions.{kept_instructions, new_instructions}

-- the bytes are read as these instructions, one after another, and then comes the rest
abbrev pub AreRead : List Decoded → List ℕ → List ℕ → Type 0
AreRead [] rest bytes = bytes ≡ rest
AreRead (d ∷ more) rest bytes = (decoded bytes ≡ Some d) × AreRead more rest (drop d.len bytes)

-- ** a rewritten site

-- a row's bytes with these four in its field, if it has one
abbrev pub filled : Option NewField → List ℕ → List ℕ → List ℕ
filled None four bytes = bytes
filled (Some field) four bytes = splice field.at four bytes

abbrev pub RewrittenSitesAreRead : Type 0
RewrittenSitesAreRead = (form : Form) (choice : Choice) (reg : ℕ) (four code : List ℕ) (start : ℕ)
    → IsChoiceOf form choice → choice ≢ Keep → reg ≤ 15 → length four ≡ 4
    → part_at (form_length form) start code ≡ filled (new_field form choice) four (new_bytes form choice reg)
    → AreRead (new_instructions form choice reg (field_of four)) (drop (start + form_length form) code)
    (drop start code)

-- ** a kept site

-- the number in the four bytes at an offset of a sequence
abbrev pub number_in : List ℕ → ℕ → ℕ → ℕ
number_in code start at = field_of (part_at 4 (start + at) code)

-- the number in the second relocation's field, if there is one
abbrev pub second_in : List ℕ → ℕ → Option Second → ℕ
second_in code start None = 0
second_in code start (Some second) = number_in code start second.at

-- the code has bytes that fit these cells, from start on
pub record HasCells (code : List ℕ) (cells : List Cell) (start : ℕ) : Type 0 where
  pub inside : start + length cells ≤ length code
  pub fit : (k : ℕ) (cell : Cell) → slice_get cells k ≡ Some cell → IsTrue (fits cell (slice_index code (start + k)))

abbrev pub KeptSitesAreRead : Type 0
KeptSitesAreRead = (form : Form) (code : List ℕ) (start : ℕ) → HasCells code (row form).cells start
    → AreRead (kept_instructions form (register form code start) (number_in code start (row form).first_at)
    (second_in code start (row form).second)) (drop (start + form_length form) code) (drop start code)

-- ** lengths

-- how many bytes instructions have together
abbrev pub length_of : List Decoded → ℕ
length_of ds = sum_by (λ d. d.len) ds

abbrev pub KeptSitesAreWhole : Type 0
KeptSitesAreWhole = (form : Form) (reg first second : ℕ)
    → length_of (kept_instructions form reg first second) ≡ form_length form

abbrev pub RewrittenSitesAreWhole : Type 0
RewrittenSitesAreWhole = (form : Form) (choice : Choice) (reg x : ℕ) → IsChoiceOf form choice → choice ≢ Keep
    → length_of (new_instructions form choice reg x) ≡ form_length form
