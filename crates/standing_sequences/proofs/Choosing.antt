-- The table is the one that the linker goes by.
use Rattle.std.proofs.Common.{◌≡◌, ◌≢◌, ◌∙◌, ℕ, Bool, true, false, Option, Some, None, refl, ap, subst}
use Rattle.link_faults.specs.declared.binding.Binding.{Binding}
use Rattle.link_faults.specs.declared.binding.Binding.TheVariants.{Here, Startup}
use Rattle.link_faults.specs.declared.image_kind.ImageKind.{ImageKind}
use Rattle.link_faults.specs.declared.image_kind.ImageKind.TheVariants.{Exe, Pie, Start, Late}
use Rattle.link_faults.specs.ImageKinds.{is_module}
use Rattle.link_needs.specs.Linking.{Linking, binding, choice, chosen}
use Rattle.link_needs.specs.Needs.{is_kept}
use Rattle.relax_sites.specs.declared.choices.Choice.{Choice}
use Rattle.relax_sites.specs.declared.choices.Choice.TheVariants.{Keep, GdLe, GdIe, LdLe, IeLe, DescLe, DescIe}
use Rattle.relax_sites.specs.Choices.{choice_of, program_choice}
use Rattle.relax_sites.specs.ChoiceLaws.{IsChoiceOf}
use Rattle.sequence_forms.specs.declared.forms.Form.{Form}
use Rattle.sequence_forms.specs.declared.forms.Form.TheVariants.{Gd, Ld, IeMov, IeAdd, GdInd, LdInd, DescLea, DescCall}
use Rattle.sequence_forms.specs.declared.places.Site.{Site}
use Rattle.sequence_match.specs.Sites.{first_of}
use Rattle.standing_sequences.specs.Laws.{ChoicesAreTheTables}
use Rattle.standing_sequences.specs.Table.{IsInTable, Matches}

-- ** one row

pub listed_is : (form : Form) (bound : Binding) (c : Choice) → IsInTable form bound c → program_choice form bound ≡ c
listed_is Gd (Here variable) GdLe h = refl
listed_is Gd (Startup image) GdIe h = refl
listed_is GdInd (Here variable) GdLe h = refl
listed_is GdInd (Startup image) GdIe h = refl
listed_is Ld bound LdLe h = refl
listed_is LdInd bound LdLe h = refl
listed_is IeMov (Here variable) IeLe h = refl
listed_is IeAdd (Here variable) IeLe h = refl
listed_is DescLea (Here variable) DescLe h = refl
listed_is DescLea (Startup image) DescIe h = refl
listed_is DescCall (Here variable) DescLe h = refl
listed_is DescCall (Startup image) DescIe h = refl
listed_is form bound c h = absurd h

pub listed_changes : (form : Form) (bound : Binding) (c : Choice) → IsInTable form bound c → is_kept c ≡ false
listed_changes form bound Keep h = absurd (none form bound h)
  where
    none : (form : Form) (bound : Binding) → IsInTable form bound Keep → ⊥
    none Gd (Here variable) h = h
    none Gd (Startup image) h = h
    none GdInd (Here variable) h = h
    none GdInd (Startup image) h = h
    none IeMov (Here variable) h = h
    none IeAdd (Here variable) h = h
    none DescLea (Here variable) h = h
    none DescLea (Startup image) h = h
    none DescCall (Here variable) h = h
    none DescCall (Startup image) h = h
    none form bound h = h
listed_changes form bound c h = refl

pub listed_own : (form : Form) (bound : Binding) (c : Choice) → IsInTable form bound c → IsChoiceOf form c
listed_own Gd (Here variable) GdLe h = tt
listed_own Gd (Startup image) GdIe h = tt
listed_own GdInd (Here variable) GdLe h = tt
listed_own GdInd (Startup image) GdIe h = tt
listed_own Ld bound LdLe h = tt
listed_own LdInd bound LdLe h = tt
listed_own IeMov (Here variable) IeLe h = tt
listed_own IeAdd (Here variable) IeLe h = tt
listed_own DescLea (Here variable) DescLe h = tt
listed_own DescLea (Startup image) DescIe h = tt
listed_own DescCall (Here variable) DescLe h = tt
listed_own DescCall (Startup image) DescIe h = tt
listed_own form bound c h = absurd h

-- what a program takes is in the table
taken_listed : (form : Form) (bound : Binding) → is_kept (program_choice form bound) ≡ false
    → IsInTable form bound (program_choice form bound)
taken_listed Gd (Here variable) e = tt
taken_listed Gd (Startup image) e = tt
taken_listed GdInd (Here variable) e = tt
taken_listed GdInd (Startup image) e = tt
taken_listed Ld bound e = tt
taken_listed LdInd bound e = tt
taken_listed IeMov (Here variable) e = tt
taken_listed IeAdd (Here variable) e = tt
taken_listed DescLea (Here variable) e = tt
taken_listed DescLea (Startup image) e = tt
taken_listed DescCall (Here variable) e = tt
taken_listed DescCall (Startup image) e = tt
taken_listed form bound e = absurd (cc)

-- ** kinds and settings

in_program : (form : Form) (bound : Binding) (kind : ImageKind) → is_module kind ≡ false
    → choice_of form bound kind true ≡ program_choice form bound
in_program form bound Exe h = refl
in_program form bound Pie h = refl
in_program form bound Start h = absurd (cc)
in_program form bound Late h = absurd (cc)

record Asked (form : Form) (bound : Binding) (kind : ImageKind) (relax : Bool) : Type 0 where
  asked : relax ≡ true
  program : is_module kind ≡ false
  listed : IsInTable form bound (choice_of form bound kind relax)

asked_of : (form : Form) (bound : Binding) (kind : ImageKind) (relax : Bool)
    → is_kept (choice_of form bound kind relax) ≡ false → Asked form bound kind relax
asked_of form bound Exe true e = record { asked = refl; program = refl; listed = taken_listed form bound e }
asked_of form bound Pie true e = record { asked = refl; program = refl; listed = taken_listed form bound e }
asked_of form bound kind false e = absurd (cc)
asked_of form bound Start true e = absurd (cc)
asked_of form bound Late true e = absurd (cc)

-- ** one sequence

-- what the table gives is what the linker chooses
pub matched : (l : Linking) (o : ℕ) (site : Site) (c : Choice) → Matches l o site c → choice l o site ≡ c
unfolding choice
matched l o site c m =
    ap (chosen l site.form) m.bound_is
    ∙ ap (choice_of site.form m.bound l.kind) m.asked
    ∙ in_program site.form m.bound l.kind m.program
    ∙ listed_is site.form m.bound c m.listed

-- and a choice that changes the sequence is one that the table gives
pub matches : (l : Linking) (o : ℕ) (site : Site) → is_kept (choice l o site) ≡ false
    → Matches l o site (choice l o site)
unfolding choice
matches l o site e = of_bound (binding l o (first_of site)) refl e
  where
    of_bound : (found : Option Binding) → binding l o (first_of site) ≡ found
        → is_kept (chosen l site.form found) ≡ false → Matches l o site (chosen l site.form found)
    of_bound None is e = absurd (cc)
    of_bound (Some bound) is e =
        let h = asked_of site.form bound l.kind l.relax e in
        record { asked = h.asked; program = h.program; bound = bound; bound_is = is; listed = h.listed }

pub choices_are_the_tables : ChoicesAreTheTables
choices_are_the_tables l o site c changes = (
  λ e. subst (Matches l o site) e (matches l o site (ap is_kept e ∙ not_kept c changes)),
  matched l o site c,
)
  where
    not_kept : (c : Choice) → c ≢ Keep → is_kept c ≡ false
    not_kept Keep changes = absurd (changes refl)
    not_kept c changes = refl
