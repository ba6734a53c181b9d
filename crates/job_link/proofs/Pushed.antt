-- One more object of an image, and its sequences.
use Rattle.std.proofs.Common.{◌≡◌, ◌∙◌, ◌+◌, ◌<◌, ◌⊎◌, inl, inr, ℕ, List, [], ◌∷◌, ◌++◌, map, length, arith}
use Rattle.std.specs.Global.{Vec}
use Rattle.std.proofs.lemmas.List.{get_or_append_left, get_or_push, length_push, map-append}
use Rattle.std.proofs.lemmas.List.Elements.{All-push}
use Rattle.link_faults.specs.declared.image_kind.ImageKind.{ImageKind}
use Rattle.sequence_forms.specs.declared.places.Site.{Site}
use Rattle.sequence_match.specs.Faults.{AreSites}
use Rattle.job_link.specs.Given.{Given, IsGivenImage, IsSoundObject}

-- an image of these objects and sequences
abbrev pub given : ImageKind → List (List ℕ) → List (Vec Site) → Given
given kind objects sites = record { kind = kind; objects = objects; sites = map (λ own. own.items) sites }

-- a number below the next of another
pub below_or_at : (k n : ℕ) → k < n + 1 → (k < n) ⊎ (n ≡ k)
below_or_at k n h = grind arith

-- it still has the sequences of each object
pub pushed : (kind : ImageKind) (objects : List (List ℕ)) (sites : List (Vec Site)) (object : List ℕ) (own : Vec Site)
    → IsGivenImage (given kind objects sites)
    → IsSoundObject object → AreSites object own.items → IsGivenImage
    (given kind (objects ++ object ∷ []) (sites ++ own ∷ []))
pushed kind objects sites object own before sound are = record {
  sound = All-push IsSoundObject objects object before.sound sound;
  each = rw all (omega (arith, length_push all_sites own.items, length_push objects object, before.each));
  own = λ o inside. rw all (elim (below_or_at o (length objects) (omega (arith, length_push objects object))) [
    | inl below ↦
        let few : o < length all_sites = omega (arith, before.each) in
        rw (
          get_or_append_left objects (object ∷ []) [] o below,
          get_or_append_left all_sites (own.items ∷ []) [] o
              few,
        ) (before.own o below)
    | inr at ↦ rw (get_or_push objects object [] o at, get_or_push all_sites own.items [] o (before.each ∙ at)) are
  ]);
}
  where
    all_sites : List (List Site)
    all_sites = map (λ own. own.items) sites

    all : map (λ own. own.items) (sites ++ own ∷ []) ≡ all_sites ++ own.items ∷ []
    all = map-append (λ own. own.items) sites (own ∷ [])
