-- The laws, from the site that a sequence of an instance is.
use Rattle.std.proofs.Common.{◌≡◌, ◌∙◌, ◌<◌, ◌^◌, ℕ, true, List, Option, Some, None, length, refl, sym, ap, subst}
use Rattle.std.specs.Prelude.{unwrap_or}
use Rattle.std.specs.List.{All}
use Rattle.link_needs.specs.Linking.{Linking, binding}
use Rattle.loaded_modules.specs.declared.instance.Instance.{Instance}
use Rattle.module_table.specs.declared.events.Event.{Event}
use Rattle.sequence_forms.specs.declared.forms.Form.{Form}
use Rattle.sequence_forms.specs.declared.forms.Form.TheVariants.{Gd, Ld, IeMov, IeAdd, GdInd, LdInd, DescLea, DescCall}
use Rattle.sequence_match.specs.Sites.{first_of}
use Rattle.tied_fields.proofs.OneNumber.{one_for_all}
use Rattle.tied_fields.specs.Laws.{HasItsNumber, is_of_descriptor}
use Rattle.tied_fields.specs.Settings.{setting_of}
use Rattle.whole_meaning.specs.Code.{Variable, no_variable, sequence_of, variable_by, variable_for}
use Rattle.whole_meaning.specs.declared.sequences.Sequence.{Sequence}
use Rattle.whole_meaning.specs.Loads.{meaning_of}
use Rattle.tied_sites.proofs.Described.{asks_by_name, described_stands}
use Rattle.tied_sites.proofs.General.{general_stands}
use Rattle.tied_sites.proofs.Initial.{initial_stands}
use Rattle.tied_sites.proofs.Known.{relied}
use Rattle.tied_sites.proofs.Local.{local_stands}
use Rattle.tied_sites.proofs.Places.{IsOf, site_of}
use Rattle.tied_sites.proofs.Standing.{IsRelied}
use Rattle.tied_sites.specs.Laws.{DescriptorSitesStand, GeneralSitesStand, InitialSitesStand, LocalSitesStand}
use Rattle.tied_sites.specs.Laws.{SitesStand}
use Rattle.tied_sites.specs.Laws.{IsInitial, IsLocal, IsMeant, IsOfDescriptor, StandsInJob}
use Rattle.whole_meaning.specs.Laws.{IsGeneral}
use Rattle.std.specs.Option.{option_map_or}

of_descriptor : (form : Form) → IsOfDescriptor form → is_of_descriptor form ≡ true
of_descriptor DescLea h = refl
of_descriptor DescCall h = refl
of_descriptor form h = absurd h

module _ (ls : List Linking) (history : List Event) (l : Linking) (x : Instance) (place : ℕ) (s : Sequence)
    (is : IsMeant ls history l x place s) where
  found : IsOf ls l x place s
  unfolding meaning_of
  found =
      site_of ls l x place s
      (sym (ap (λ (image : Option Linking).
      option_map_or (λ (own : Linking). sequence_of ls x.image x.number own place) image None) is.of.image) ∙ is.meant)

  rests : IsRelied (setting_of ls history) ls l x
  rests = relied ls history l x is.together is.late_last is.known is.of

  form_is : s.form ≡ found.site.form
  form_is = ap (λ (t : Sequence). t.form) found.is

  general_stand : IsGeneral s.form → StandsInJob ls history x place s
  general_stand form =
      general_stands (setting_of ls history) ls l x rests found.o found.address found.site place found.here
      (subst IsGeneral form_is form) s found.is

  local_stand : IsLocal s.form → StandsInJob ls history x place s
  local_stand form =
      local_stands (setting_of ls history) ls l x rests found.o found.address found.site place found.here
      (subst IsLocal form_is form) s found.is

  initial_stand : IsInitial s.form → StandsInJob ls history x place s
  initial_stand form =
      initial_stands (setting_of ls history) ls l x rests found.o found.address found.site place found.here
      (subst IsInitial form_is form) s found.is

  described_stand : All (λ (m : Linking). length m.objects < 2 ^ 32) ls → IsOfDescriptor s.form
      → StandsInJob ls history x place s
  described_stand few form =
      described_stands (setting_of ls history) ls l x rests found.o found.address found.site place found.here its knows
      s
      found.is
    where
      its : IsOfDescriptor found.site.form
      its = subst IsOfDescriptor form_is form

      knows : (v : Variable)
          → variable_by ls x.image x.number l found.o found.site (binding l found.o (first_of found.site)) ≡ Some v
          → HasItsNumber (setting_of ls history) ls l x found.o found.site v
      knows v named =
          let same : unwrap_or (variable_for ls x.image x.number l found.o found.site found.site.form) no_variable ≡ v =
          ap (λ asked. unwrap_or asked no_variable)
          (asks_by_name ls x.image x.number l found.o found.site found.site.form its ∙ named) in
          subst (HasItsNumber (setting_of ls history) ls l x found.o found.site) same
          (one_for_all ls history l x found.o found.site is.together is.late_last few is.known is.of
          (record {
            there = found.here.at.there;
            own = found.here.own;
            form = of_descriptor found.site.form its;
          }))

  each_stands : All (λ (m : Linking). length m.objects < 2 ^ 32) ls → (form : Form) → s.form ≡ form
      → StandsInJob ls history x place s
  each_stands few Gd e = general_stand (subst IsGeneral (sym e) tt)
  each_stands few GdInd e = general_stand (subst IsGeneral (sym e) tt)
  each_stands few Ld e = local_stand (subst IsLocal (sym e) tt)
  each_stands few LdInd e = local_stand (subst IsLocal (sym e) tt)
  each_stands few IeMov e = initial_stand (subst IsInitial (sym e) tt)
  each_stands few IeAdd e = initial_stand (subst IsInitial (sym e) tt)
  each_stands few DescLea e = described_stand few (subst IsOfDescriptor (sym e) tt)
  each_stands few DescCall e = described_stand few (subst IsOfDescriptor (sym e) tt)

-- ** the laws

pub general_sites : GeneralSitesStand
general_sites ls history l x place s is form = general_stand ls history l x place s is form

pub local_sites : LocalSitesStand
local_sites ls history l x place s is form = local_stand ls history l x place s is form

pub initial_sites : InitialSitesStand
initial_sites ls history l x place s is form = initial_stand ls history l x place s is form

pub descriptor_sites : DescriptorSitesStand
descriptor_sites ls history l x place s few is form = described_stand ls history l x place s is few form

pub all_sites : SitesStand
all_sites ls history l x place s few is = each_stands ls history l x place s is few s.form refl
