-- What identifies a sequence in code, and the table by which a linker writes another form in its place ("ELF Handling
-- For Thread-Local Storage", section 5, "Linker Relaxations"; psABI, "Thread-Local Storage").
use Rattle.std.specs.Prelude.{◌≡◌, ℕ, true, false, Some}
use Rattle.link_faults.specs.declared.binding.Binding.{Binding}
use Rattle.link_faults.specs.declared.binding.Binding.TheVariants.{Here, Startup}
use Rattle.link_faults.specs.ImageKinds.{is_module}
use Rattle.link_needs.specs.Linking.{Linking, binding, object}
use Rattle.relax_sites.specs.declared.choices.Choice.{Choice}
use Rattle.relax_sites.specs.declared.choices.Choice.TheVariants.{GdLe, GdIe, LdLe, IeLe, DescLe, DescIe}
use Rattle.relax_sites.specs.Rows.{new_bytes}
use Rattle.sequence_forms.specs.declared.forms.Form.{Form}
use Rattle.sequence_forms.specs.declared.forms.Form.TheVariants.{Gd, Ld, IeMov, IeAdd, GdInd, LdInd, DescLea, DescCall}
use Rattle.sequence_forms.specs.declared.places.Site.{Site}
use Rattle.sequence_match.specs.Faults.{IsSite}
use Rattle.sequence_match.specs.Sites.{first_of}

-- section t of object o has this sequence: its bytes spell the form, and relocations of the form's types are at its
-- fields; the second names `__tls_get_addr` (`IsSiteOf` in sequence_match says it byte by byte)
pub record IsSequence (l : Linking) (o t : ℕ) (site : Site) : Type 0 where
  pub section_is : site.section ≡ t
  pub spelled : IsSite (object l o) site

-- the table: the form that replaces a form whose symbol has this binding. `Here` is a variable of the program itself,
-- whose offset from the thread pointer is known (local exec); `Startup` is one of a module that is loaded with the
-- program, whose offset the loader writes into a word (initial exec). Local dynamic code asks for no variable, but
-- for the program's own block.
abbrev pub IsInTable : Form → Binding → Choice → Type 0
IsInTable Gd (Here variable) GdLe = Unit {0}
IsInTable Gd (Startup image) GdIe = Unit {0}
IsInTable GdInd (Here variable) GdLe = Unit {0}
IsInTable GdInd (Startup image) GdIe = Unit {0}
IsInTable Ld bound LdLe = Unit {0}
IsInTable LdInd bound LdLe = Unit {0}
IsInTable IeMov (Here variable) IeLe = Unit {0}
IsInTable IeAdd (Here variable) IeLe = Unit {0}
IsInTable DescLea (Here variable) DescLe = Unit {0}
IsInTable DescLea (Startup image) DescIe = Unit {0}
IsInTable DescCall (Here variable) DescLe = Unit {0}
IsInTable DescCall (Startup image) DescIe = Unit {0}
IsInTable form bound choice = ⊥

-- the table gives a sequence of object o this form: a program is linked, with rewriting, and the row is that of the
-- sequence's form and its symbol's binding; a module may be opened late, and then its block may be anywhere
pub record Matches (l : Linking) (o : ℕ) (site : Site) (choice : Choice) : Type 0 where
  pub asked : l.relax ≡ true
  pub program : is_module l.kind ≡ false
  pub bound : Binding
  pub bound_is : binding l o (first_of site) ≡ Some bound
  pub listed : IsInTable site.form bound choice

-- a form that may replace another, whatever its symbol's binding
abbrev pub MayReplace : Form → Choice → Type 0
MayReplace form choice = (bound : Binding) × IsInTable form bound choice

-- the table gives the sequence exactly these bytes: by this form, or by another with the same row (for the call of a
-- descriptor both are the same two bytes)
abbrev pub IsDue : Linking → ℕ → Site → Choice → Type 0
IsDue l o site choice =
    (due : Choice) × Matches l o site due × (new_bytes site.form due site.reg ≡ new_bytes site.form choice site.reg)
