-- Laws of the two tables, and of rewriting.
use Rattle.std.specs.Prelude.{◌≡◌, ◌≢◌, ◌≤◌, ◌+◌, ◌++◌, ℕ, Bool, List, length, take, drop, Some}
use Rattle.elf_records.specs.Fields.{part_at, splice}
use Rattle.link_faults.specs.declared.image_kind.ImageKind.{ImageKind}
use Rattle.link_faults.specs.declared.binding.Binding.{Binding}
use Rattle.sequence_forms.specs.declared.forms.Form.{Form}
use Rattle.sequence_forms.specs.declared.places.Site.{Site}
use Rattle.relax_sites.specs.declared.choices.Choice.{Choice}
use Rattle.relax_sites.specs.declared.choices.Choice.TheVariants.{Keep}
use Rattle.relax_sites.specs.declared.rows.NewField.{NewField}
use Rattle.relax_sites.specs.Choices.{choice_of}
use Rattle.relax_sites.specs.ChoiceLaws.{IsChoiceOf}
use Rattle.relax_sites.specs.Rows.{field_of_zeros, form_length, new_bytes, new_field}
use Rattle.relax_sites.specs.Rewriting.{rewritten}

-- the choice for a form is one of that form's choices
abbrev pub ChoicesAreOfTheirForms : Type 0
ChoicesAreOfTheirForms = (form : Form) (binding : Binding) (kind : ImageKind) (relax : Bool)
    → IsChoiceOf form (choice_of form binding kind relax)

-- a row has as many bytes as the sequence that it replaces
abbrev pub RowsHaveTheirFormsLength : Type 0
RowsHaveTheirFormsLength = (form : Form) (choice : Choice) (reg : ℕ) → IsChoiceOf form choice → choice ≢ Keep
    → length (new_bytes form choice reg) ≡ form_length form

-- a row's field is its last four bytes, and they are zero
pub record EndsInItsField (form : Form) (choice : Choice) (reg : ℕ) (field : NewField) : Type 0 where
  pub end : field.at + 4 ≡ form_length form
  pub zero : new_bytes form choice reg ≡ take field.at (new_bytes form choice reg) ++ field_of_zeros

abbrev pub RowsEndInTheirFields : Type 0
RowsEndInTheirFields = (form : Form) (choice : Choice) (reg : ℕ) (field : NewField)
    → new_field form choice ≡ Some field → EndsInItsField form choice reg field

-- a site that lies whole in the bytes, with one of its form's choices other than Keep
pub record IsRewrittenIn (bytes : List ℕ) (site : Site) (choice : Choice) : Type 0 where
  pub inside : site.start + site.len ≤ length bytes
  pub whole : site.len ≡ form_length site.form
  pub own : IsChoiceOf site.form choice
  pub changes : choice ≢ Keep

-- the row stands in the site's place, and all bytes before and after it stay
pub record StaysInItsSite (bytes : List ℕ) (site : Site) (choice : Choice) : Type 0 where
  pub length-is : length (rewritten site choice bytes) ≡ length bytes
  pub before : take site.start (rewritten site choice bytes) ≡ take site.start bytes
  pub row-is : part_at site.len site.start (rewritten site choice bytes) ≡ new_bytes site.form choice site.reg
  pub behind : drop (site.start + site.len) (rewritten site choice bytes) ≡ drop (site.start + site.len) bytes

abbrev pub RewritingStaysInTheSite : Type 0
RewritingStaysInTheSite = (bytes : List ℕ) (site : Site) (choice : Choice) → IsRewrittenIn bytes site choice
    → StaysInItsSite bytes site choice

-- four bytes that are written to a row's field, after its site was rewritten, stand in the row
abbrev pub FieldsStandInTheirRows : Type 0
FieldsStandInTheirRows = (bytes four : List ℕ) (site : Site) (choice : Choice) (field : NewField)
    → IsRewrittenIn bytes site choice → new_field site.form choice ≡ Some field → length four ≡ 4
    → part_at site.len site.start (splice (site.start + field.at) four (rewritten site choice bytes))
    ≡ splice field.at four (new_bytes site.form choice site.reg)
