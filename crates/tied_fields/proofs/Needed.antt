-- The entry of a descriptor that a kept sequence makes.
use Rattle.std.proofs.Common.{◌≡◌, ◌∙◌, ◌<◌, ℕ, true, Some, length, ap}
use Rattle.std.specs.Prelude.{option_map}
use Rattle.std.specs.List.{Contains}
use Rattle.got_pairs.specs.declared.need.Need.TheVariants.{Descriptor}
use Rattle.got_pairs.specs.declared.need.Target.{Target}
use Rattle.link_needs.proofs.Reached.{sites_reach_entries}
use Rattle.link_needs.specs.Given.{IsGiven}
use Rattle.link_needs.specs.Laws.{HasEntry}
use Rattle.link_needs.specs.Linking.{Linking, binding, choice, sites_at}
use Rattle.link_needs.specs.Needs.{is_kept, need_by, relocation_need, target_by}
use Rattle.sequence_forms.specs.declared.forms.Form.TheVariants.{DescLea}
use Rattle.sequence_forms.specs.declared.places.Site.{Site}
use Rattle.sequence_forms.specs.Forms.{row}
use Rattle.sequence_match.specs.Sites.{first_of}

module _ (l : Linking) (o : ℕ) (site : Site) (t : Target) (own : Contains (sites_at l o) site)
    (form : site.form ≡ DescLea)
    (kept : is_kept (choice l o site) ≡ true) (names : target_by l o site.symbol (binding l o (first_of site)) ≡ Some t)
  where
    need_is : relocation_need l o (first_of site) ≡ Some (Descriptor t)
    unfolding relocation_need row
    need_is =
        ap (λ f. need_by l o site.symbol (binding l o (first_of site)) (row f).first) form
        ∙ ap (option_map Descriptor) names

    pub descriptor_entry : IsGiven l → o < length l.objects → HasEntry l (Descriptor t)
    descriptor_entry given there = (sites_reach_entries l o site given there own).first kept (Descriptor t) need_is
