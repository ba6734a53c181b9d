-- What is chosen for a site, and what the site needs for it.
use Rattle.std.proofs.Common.{◌≡◌, ◌∙◌, ◌<◌, ◌&&◌, ℕ, Bool, true, false, [], ◌∷◌, Option, Some}
use Rattle.std.proofs.Common.{length}
use Rattle.std.proofs.Common.{refl, sym, ap, subst, arith, if◌then◌else◌}
use Rattle.std.specs.Prelude.{option_and_then, option_map}
use Rattle.std.specs.List.{Contains}
use Rattle.std.proofs.lemmas.List.Elements.{Contains-append_left, Contains-append_right}
use Rattle.elf_object.specs.declared.relocation.Relocation.{Relocation}
use Rattle.elf_records.specs.declared.relocation.RelocationKind.{RelocationKind}
use Rattle.elf_records.specs.declared.relocation.RelocationKind.TheVariants.{TlsGd, TlsLd, GotTpOff, GotPc32TlsDesc}
use Rattle.got_pairs.specs.declared.need.Need.{Need}
use Rattle.got_pairs.specs.declared.need.Need.TheVariants.{ModulePair, SymbolPair, Descriptor, SymbolWord, RuntimeWord}
use Rattle.got_pairs.specs.declared.need.Target.{Target}
use Rattle.link_core.proofs.TogetherRows.{chosen_kept, chosen_taken, taken}
use Rattle.link_faults.specs.declared.binding.Binding.{Binding}
use Rattle.link_faults.specs.ImageKinds.{is_module}
use Rattle.link_needs.proofs.Reached.{called_entry, sites_reach_entries}
use Rattle.link_needs.specs.Laws.{HasEntry, ReachesEntries}
use Rattle.link_needs.specs.Given.{IsGiven}
use Rattle.link_needs.specs.Linking.{Linking, binding, choice, sites_at}
use Rattle.link_needs.specs.Needs.{calls, is_kept, need_by, new_relocation, reaching}
use Rattle.link_needs.specs.Needs.{relocation_need, site_needs, target_by}
use Rattle.link_needs.specs.Values.{is_rewriting}
use Rattle.relax_sites.specs.declared.rows.NewField.{NewField}
use Rattle.relax_sites.specs.Rows.{new_field}
use Rattle.sequence_forms.specs.declared.forms.Form.{Form}
use Rattle.sequence_forms.specs.declared.places.Site.{Site}
use Rattle.sequence_forms.specs.Forms.{row}
use Rattle.sequence_match.specs.Sites.{first_of}

-- ** where programs are rewritten

rewrites_program : (l : Linking) → is_rewriting l ≡ true → is_module l.kind ≡ false
rewrites_program l e = of_test (is_module l.kind) e
  where
    of_test : (t : Bool) → (if t then false else l.relax) ≡ true → t ≡ false
    of_test true e = absurd (cc)
    of_test false e = refl

module _ (l : Linking) (o : ℕ) (site : Site) where
  -- a site that is not kept is one of a program that is rewritten
  pub rewriting : is_kept (choice l o site) ≡ false → is_rewriting l ≡ true
  unfolding choice
  rewriting off = of_test (is_rewriting l) refl
    where
      of_test : (t : Bool) → is_rewriting l ≡ t → is_rewriting l ≡ true
      of_test true e = e
      of_test false e =
          let kept = chosen_kept l site.form (binding l o (first_of site)) e in absurd (cc)

  pub in_program : is_kept (choice l o site) ≡ false → is_module l.kind ≡ false
  in_program off = rewrites_program l (rewriting off)

  -- the choice, by what the site is bound to
  pub choice_is : is_kept (choice l o site) ≡ false → (bound : Option Binding) → binding l o (first_of site) ≡ bound
      → (form : Form) → site.form ≡ form → choice l o site ≡ taken form bound
  unfolding choice
  choice_is off bound e form is =
      chosen_taken l site.form (binding l o (first_of site)) (rewriting off)
      ∙ ap (taken site.form) e ∙ ap (λ f. taken f bound) is

  -- ** needs

  module _ (given : IsGiven l) (there : o < length l.objects) (own : Contains (sites_at l o) site) where
    reaches : ReachesEntries l o site
    reaches = sites_reach_entries l o site given there own

    -- of a site that is kept
    pub kept_entry : is_kept (choice l o site) ≡ true → (need : Need) → relocation_need l o (first_of site) ≡ Some need
        → HasEntry l need
    kept_entry = reaches.first

    pub runtime_entry : is_kept (choice l o site) ≡ true → calls site.form ≡ true → HasEntry l RuntimeWord
    runtime_entry = called_entry l given o site there own

    -- of one that is rewritten
    pub new_entry : is_kept (choice l o site) ≡ false → (f : NewField) → new_field site.form (choice l o site) ≡ Some f
        → (need : Need) → relocation_need l o (new_relocation site f) ≡ Some need → HasEntry l need
    new_entry = reaches.new

  -- ** of which sort they are

  needs_by : (kind : RelocationKind) → (row site.form).first ≡ kind
      → relocation_need l o (first_of site) ≡ need_by l o site.symbol (binding l o (first_of site)) kind
  unfolding relocation_need
  needs_by kind e = ap (need_by l o site.symbol (binding l o (first_of site))) e

  module _ (t : Target) (is : target_by l o site.symbol (binding l o (first_of site)) ≡ Some t) where
    pub needs_pair : (row site.form).first ≡ TlsGd → relocation_need l o (first_of site) ≡ Some (SymbolPair t)
    needs_pair e = needs_by TlsGd e ∙ ap (option_map SymbolPair) is

    pub needs_word : (row site.form).first ≡ GotTpOff → relocation_need l o (first_of site) ≡ Some (SymbolWord t)
    needs_word e = needs_by GotTpOff e ∙ ap (option_map SymbolWord) is

    pub needs_descriptor : (row site.form).first ≡ GotPc32TlsDesc
        → relocation_need l o (first_of site) ≡ Some (Descriptor t)
    needs_descriptor e = needs_by GotPc32TlsDesc e ∙ ap (option_map Descriptor) is

  pub needs_module : (row site.form).first ≡ TlsLd → relocation_need l o (first_of site) ≡ Some ModulePair
  needs_module e = needs_by TlsLd e

  -- the word of a new field
  pub new_word : (f : NewField) (t : Target) → f.kind ≡ GotTpOff
      → target_by l o site.symbol (binding l o (new_relocation site f)) ≡ Some t
      → relocation_need l o (new_relocation site f) ≡ Some (SymbolWord t)
  unfolding relocation_need
  new_word f t kind is =
      ap (need_by l o site.symbol (binding l o (new_relocation site f))) kind ∙ ap (option_map SymbolWord) is
