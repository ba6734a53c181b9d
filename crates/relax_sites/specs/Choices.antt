-- Which sequence stands in a site's place ("ELF Handling For Thread-Local Storage", section 5, "Linker Relaxations";
-- psABI, "Thread-Local Storage").
use Rattle.std.specs.Prelude.{Bool, true, false}
use Rattle.link_faults.specs.declared.image_kind.ImageKind.{ImageKind}
use Rattle.link_faults.specs.declared.image_kind.ImageKind.TheVariants.{Exe, Pie, Start, Late}
use Rattle.link_faults.specs.declared.binding.Binding.{Binding}
use Rattle.link_faults.specs.declared.binding.Binding.TheVariants.{Here, Startup}
use Rattle.sequence_forms.specs.declared.forms.Form.{Form}
use Rattle.sequence_forms.specs.declared.forms.Form.TheVariants.{Gd, Ld, IeMov, IeAdd, GdInd, LdInd, DescLea, DescCall}
use Rattle.relax_sites.specs.declared.choices.Choice.{Choice}
use Rattle.relax_sites.specs.declared.choices.Choice.TheVariants.{Keep, GdLe, GdIe, LdLe, IeLe, DescLe, DescIe}

-- The choices of a program. The offsets of its own variables from the thread pointer are known when it is linked
-- (LE); for those of a module that is loaded with it, the loader stores the offset in a word of the GOT (IE); and the
-- module of local dynamic code is the program itself, whatever the site's symbol. Initial exec code for another
-- module's variable reads such a word already.
abbrev pub program_choice : Form → Binding → Choice
program_choice Gd (Here variable) = GdLe
program_choice Gd (Startup image) = GdIe
program_choice GdInd (Here variable) = GdLe
program_choice GdInd (Startup image) = GdIe
program_choice Ld binding = LdLe
program_choice LdInd binding = LdLe
program_choice IeMov (Here variable) = IeLe
program_choice IeAdd (Here variable) = IeLe
program_choice DescLea (Here variable) = DescLe
program_choice DescLea (Startup image) = DescIe
program_choice DescCall (Here variable) = DescLe
program_choice DescCall (Startup image) = DescIe
program_choice form binding = Keep

-- The whole table. A module keeps its sites: it does not know the offset of its block from the thread pointer, and a
-- thread may open it late. So does every image that is linked without rewriting.
abbrev pub choice_of : Form → Binding → ImageKind → Bool → Choice
choice_of form binding kind false = Keep
choice_of form binding Exe true = program_choice form binding
choice_of form binding Pie true = program_choice form binding
choice_of form binding Start true = Keep
choice_of form binding Late true = Keep
