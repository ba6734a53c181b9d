-- Which sequences stand in the place of sites, object by object.
use Rattle.std.proofs.Common.{◌≡◌, ◌∙◌, ◌+◌, ◌<◌, ℕ, zero, suc, false, List, [], ◌∷◌, Option, Some, None}
use Rattle.std.proofs.Common.{length, map, sym, ap, arith, refl}
use Rattle.std.proofs.lemmas.List.{get_or-map, length-map}
use Rattle.std.specs.Global.{Vec}
use Rattle.std.specs.Prelude.{slice_index_or}
use Rattle.link_faults.specs.declared.binding.Binding.{Binding}
use Rattle.link_faults.specs.declared.binding.Binding.TheVariants.{Runtime}
use Rattle.link_faults.specs.declared.image_kind.ImageKind.TheVariants.{Exe}
use Rattle.relax_sites.specs.declared.choices.Choice.{Choice}
use Rattle.relax_sites.specs.ChoiceLaws.{IsChoiceOf}
use Rattle.relax_sites.proofs.Tables.{own_choice}
use Rattle.sequence_forms.specs.declared.forms.Form.{Form}
use Rattle.sequence_forms.specs.declared.places.Site.{Site}
use Rattle.link_needs.specs.Linking.{Linking, binding, choice, choices_from, chosen, sites_at}
use Rattle.sequence_match.specs.Sites.{first_of}

-- ** those of one object among those of all

choices_long : (l : Linking) (n : ℕ) (xs : List (List Site)) → length (choices_from l n xs) ≡ length xs
choices_long l n [] = refl
choices_long l n (own ∷ more) = ap suc (choices_long l (n + 1) more)

choices_here : (l : Linking) (n o : ℕ) (xs : List (List Site)) → o < length xs
    → slice_index_or (choices_from l n xs) o [] ≡ map (choice l (n + o)) (slice_index_or xs o [])
choices_here l n o [] there = absurd (omega (arith, there))
choices_here l n zero (own ∷ more) there =
    let same : n ≡ n + 0 = omega arith in
    ap (λ m. map (choice l m) own) same
choices_here l n (suc o) (own ∷ more) there =
    let same : n + 1 + o ≡ n + suc o = omega arith in
    choices_here l (n + 1) o more (omega (arith, there)) ∙ ap (λ m. map (choice l m) (slice_index_or more o [])) same

module _ (l : Linking) (held : List (Vec Choice)) (o : ℕ)
    (are : map (λ own. own.items) held ≡ choices_from l 0 l.sites) (there : o < length l.sites) where
  pub choices_there : o < length held
  choices_there =
      let long : length held ≡ length l.sites =
      sym (length-map held (λ (own : Vec Choice). own.items)) ∙ ap length are ∙ choices_long l 0 l.sites in
      omega (arith, there, long)

  module _ (own : Vec Choice) (is : own ≡ slice_index_or held o own) where
    pub own_choices : own.items ≡ map (choice l o) (sites_at l o)
    own_choices =
        let same : 0 + o ≡ o = omega arith in
        ap (λ (own : Vec Choice). own.items) is
        ∙ sym (get_or-map (λ (own : Vec Choice). own.items) held o own [] choices_there)
        ∙ ap (λ all. slice_index_or all o []) are
        ∙ choices_here l 0 o l.sites there
        ∙ ap (λ m. map (choice l m) (sites_at l o)) same

    module _ (k : ℕ) (inside : k < length (sites_at l o)) where
      pub choice_there : k < length own.items
      choice_there =
          let long : length own.items ≡ length (sites_at l o) =
          ap length own_choices ∙ length-map (sites_at l o) (choice l o) in
          omega (arith, inside, long)

      pub choice_at : (made : Choice) (site : Site) → made ≡ slice_index_or own.items k made
          → site ≡ slice_index_or (sites_at l o) k site → made ≡ choice l o site
      choice_at made site of_made of_site =
          of_made ∙ ap (λ all. slice_index_or all k made) own_choices
          ∙ get_or-map (choice l o) (sites_at l o) k site made inside
          ∙ ap (choice l o) (sym of_site)

-- ** a choice is one of its form's

chosen_own : (l : Linking) (form : Form) (bound : Option Binding) → IsChoiceOf form (chosen l form bound)
chosen_own l form None = own_choice form Runtime Exe false
chosen_own l form (Some bound) = own_choice form bound l.kind l.relax

pub choice_own : (l : Linking) (o : ℕ) (site : Site) → IsChoiceOf site.form (choice l o site)
unfolding choice
choice_own l o site = chosen_own l site.form (binding l o (first_of site))
