-- The images of a job are linked together.
use Rattle.std.proofs.Common.{◌≡◌, Bool, true, false, not, List, [], ◌∷◌, filter, map, refl, ap}
use Rattle.std.specs.Prelude.{cond, slice_index_or}
use Rattle.std.specs.List.{All}
use Rattle.std.proofs.lemmas.List.Elements.{All-map}
use Rattle.link_core.specs.Faults.{Links}
use Rattle.link_needs.specs.Given.{IsGiven}
use Rattle.link_needs.specs.Linking.{Linking}
use Rattle.tls_symbols.specs.Bindings.{exported_names}
use Rattle.loaded_modules.specs.Images.{is_late}
use Rattle.job_link.specs.Given.{Given}
use Rattle.job_link.specs.Linked.{AllLink, exports_of, link_in}
use Rattle.linked_modules.specs.Together.{AreTogether, exports_among}

module _ (images : List Given) (relax : Bool) where
  same_from : (gs : List Given)
      → map (λ (g : Given). exported_names g.objects) (filter (λ (g : Given). not (is_late g.kind)) gs)
      ≡ exports_among (map (link_in images relax) gs)
  unfolding link_in
  same_from [] = refl
  same_from (g ∷ gs) = of_late (not (is_late g.kind)) (same_from gs)
    where
      kept : List Given
      kept = filter (λ (x : Given). not (is_late x.kind)) gs

      links : List Linking
      links = filter (λ (l : Linking). not (is_late l.kind)) (map (link_in images relax) gs)

      of_late : (t : Bool) → map (λ (x : Given). exported_names x.objects) kept
          ≡ exports_among (map (link_in images relax) gs)
          → map (λ (x : Given). exported_names x.objects) (cond t (g ∷ kept) kept)
          ≡ map (λ (l : Linking). exported_names l.objects) (cond t (link_in images relax g ∷ links) links)
      of_late true rest = ap (λ names. exported_names g.objects ∷ names) rest
      of_late false rest = rest

  beside : (g : Given) → (link_in images relax g).startup ≡ exports_among (map (link_in images relax) images)
  unfolding link_in exports_of
  beside g = same_from images

  pub together : All (λ g. IsGiven (link_in images relax g)) images → AllLink images relax
      → AreTogether (map (link_in images relax) images)
  together given links = record {
    given = All-map IsGiven (link_in images relax) images given;
    links = All-map Links (link_in images relax) images links;
    beside =
        All-map (λ l. l.startup ≡ exports_among (map (link_in images relax) images)) (link_in images relax) images
        (λ k d below. beside (slice_index_or images k d));
  }
