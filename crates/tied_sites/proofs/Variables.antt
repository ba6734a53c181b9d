-- What a site names is a variable, and a call in it is bound to the run time's function.
use Rattle.std.proofs.Common.{◌≡◌, ◌∙◌, ◌<◌, ◌&&◌, ℕ, true, Option, Some, None, length}
use Rattle.std.proofs.Common.{refl, sym, ap, subst, arith, if◌then◌else◌}
use Rattle.std.specs.Prelude.{is_none}
use Rattle.dynamic_symbols.proofs.Foreign.{bindings_by_use}
use Rattle.elf_object.specs.declared.relocation.Relocation.{Relocation}
use Rattle.link_core.proofs.GotRelocationsSites.{IsHeld, held, passes}
use Rattle.link_core.proofs.TogetherRows.{IsVariable}
use Rattle.link_core.specs.Faults.{Links}
use Rattle.link_faults.specs.declared.binding.Binding.{Binding}
use Rattle.link_faults.specs.declared.binding.Binding.TheVariants.{Here, Startup, Runtime}
use Rattle.link_faults.specs.declared.fault.LinkFaultKind.TheVariants.{NotTls, Undefined}
use Rattle.link_needs.specs.Linking.{Linking, binding, object}
use Rattle.sequence_forms.specs.declared.forms.Form.{Form}
use Rattle.sequence_forms.specs.declared.forms.Form.TheVariants.{Gd, Ld, IeMov, IeAdd, GdInd, LdInd, DescLea, DescCall}
use Rattle.sequence_forms.specs.declared.places.Site.{Site}
use Rattle.sequence_forms.specs.Forms.{row}
use Rattle.sequence_match.specs.Faults.{IsSite}
use Rattle.sequence_match.specs.Sites.{first_of}
use Rattle.tls_symbols.specs.Faults.{Stands, is_faulty, is_mismatched, is_tls_kind, names_symbol}

first_is_tls : (form : Form) → (names_symbol (row form).first ≡ true) × (is_tls_kind (row form).first ≡ true)
unfolding row
first_is_tls Gd = (refl, refl)
first_is_tls Ld = (refl, refl)
first_is_tls IeMov = (refl, refl)
first_is_tls IeAdd = (refl, refl)
first_is_tls GdInd = (refl, refl)
first_is_tls LdInd = (refl, refl)
first_is_tls DescLea = (refl, refl)
first_is_tls DescCall = (refl, refl)

module _ (l : Linking) (links : Links l) (o : ℕ) (there : o < length l.objects) (site : Site)
    (is : IsSite (object l o) site) where
  first : Relocation
  first = is.1.first.0

  held_first : IsHeld (object l o) is.1.first.0
  held_first = held (object l o) site.section is.0 is.1.first.0 is.1.first.1

  pub bound_is : binding l o (first_of site) ≡ binding l o is.1.first.0
  bound_is =
      bindings_by_use l.objects l.startup o (first_of site) is.1.first.0 (sym is.1.first.2.kind_is) is.1.first.3

  names : names_symbol is.1.first.0.kind ≡ true
  names = ap names_symbol is.1.first.2.kind_is ∙ (first_is_tls site.form).0

  tls : is_tls_kind is.1.first.0.kind ≡ true
  tls = ap is_tls_kind is.1.first.2.kind_is ∙ (first_is_tls site.form).1

  not_undefined : is_faulty Undefined l.objects l.startup o is.1.first.0 ≡ true → ⊥
  unfolding Stands
  not_undefined wrong =
      let at = held_first in
      links.sound.resolved Undefined (omega arith) o at.table at.entry
      (there, at.above, at.below, passes (object l o) is.1.first.0 (is_faulty Undefined l.objects l.startup o) at wrong)

  not_mismatched : is_faulty NotTls l.objects l.startup o is.1.first.0 ≡ true → ⊥
  unfolding Stands
  not_mismatched wrong =
      let at = held_first in
      links.sound.resolved NotTls (omega arith) o at.table at.entry
      (there, at.above, at.below, passes (object l o) is.1.first.0 (is_faulty NotTls l.objects l.startup o) at wrong)

  pub site_variable : IsVariable (binding l o (first_of site))
  site_variable = subst IsVariable (sym bound_is) (by_bound (binding l o is.1.first.0) refl)
    where
      by_bound : (bound : Option Binding) → binding l o is.1.first.0 ≡ bound → IsVariable bound
      by_bound None e = absurd (not_undefined (ap (λ t. t && is_none (binding l o is.1.first.0)) names ∙ ap is_none e))
      by_bound (Some (Here found)) e = tt
      by_bound (Some (Startup image)) e = tt
      by_bound (Some Runtime) e =
          absurd (not_mismatched (ap (λ t. t && is_mismatched l.objects is.1.first.0.kind
          (binding l o is.1.first.0)) names
          ∙ ap (is_mismatched l.objects is.1.first.0.kind) e ∙ rw tls refl))

-- ** bindings of relocations that name one symbol
