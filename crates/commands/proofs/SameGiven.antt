-- The images of a job are one list, as the sequences of an object are: each once, in order.
use Rattle.std.proofs.Common.{◌≡◌, ◌∙◌, ◌<◌, ℕ, suc, List, All, [], ◌∷◌, length, map, get_or, inl, inr, refl, sym, ap}
use Rattle.std.proofs.Common.{subst, arith, ext_get_or}
use Rattle.std.specs.List.{AllPairs}
use Rattle.std.proofs.lemmas.List.Elements.{All-head, All-tail}
use Rattle.std.proofs.lemmas.Option.{get_or_from_slice_get, slice_get_within}
use Rattle.job_link.specs.Given.{Given, AreGiven, IsGivenImage}
use Rattle.job_text.specs.Jobs.{JobParts}
use Rattle.link_faults.specs.declared.image_kind.ImageKind.{ImageKind}
use Rattle.sequence_forms.specs.declared.places.Site.{Site}
use Rattle.sequence_match.specs.Faults.{AreSites, Before, IsSite}
use Rattle.commands.proofs.Membership.{In, at_in, in_contains, of_all}

-- ** lists that rise

never_both : (p q : Site) → Before p q → Before q p → ⊥
never_both p q (inl a) (inl b) = omega (arith, a, b)
never_both p q (inl a) (inr (same, b)) = omega (arith, a, same)
never_both p q (inr (same, a)) (inl b) = omega (arith, same, b)
never_both p q (inr (same, a)) (inr (other, b)) = omega (arith, a, b)

first_before : (x : Site) (xs : List Site) → AllPairs Before (x ∷ xs) → (z : Site) → In xs z → Before x z
first_before x xs rising z i =
    let (k, e) = at_in xs z i in
    let within : k < length xs = slice_get_within xs k z e in
    subst (Before x) (get_or_from_slice_get xs k z z e) (rising 0 (suc k) z (omega arith) (omega arith))

later : (x : Site) (xs : List Site) → AllPairs Before (x ∷ xs) → AllPairs Before xs
later x xs rising i j d lt within = rising (suc i) (suc j) d (omega arith) (omega arith)

same_head : (x y : Site) (xs ys : List Site) → AllPairs Before (x ∷ xs) → AllPairs Before (y ∷ ys) → In (y ∷ ys) x
    → In (x ∷ xs) y → x ≡ y
same_head x y xs ys r q (inl e) j = sym e
same_head x y xs ys r q (inr i) (inl e) = e
same_head x y xs ys r q (inr i) (inr j) = absurd (never_both x y (first_before x xs r y j) (first_before y ys q x i))

in_rest : (x y z : Site) (xs ys : List Site) → x ≡ y → AllPairs Before (x ∷ xs) → In xs z → In (y ∷ ys) z → In ys z
in_rest x y z xs ys same r i (inl e) =
    let before : Before z z = subst (λ w. Before w z) (same ∙ e) (first_before x xs r z i) in
    absurd (never_both z z before before)
in_rest x y z xs ys same r i (inr j) = j

same_rising : (xs ys : List Site) → AllPairs Before xs → AllPairs Before ys → ((z : Site) → In xs z → In ys z)
    → ((z : Site) → In ys z → In xs z) → xs ≡ ys
same_rising [] [] r q to from = refl
same_rising [] (y ∷ ys) r q to from = absurd (from y (inl refl))
same_rising (x ∷ xs) [] r q to from = absurd (to x (inl refl))
same_rising (x ∷ xs) (y ∷ ys) r q to from =
    let heads : x ≡ y = same_head x y xs ys r q (to x (inl refl)) (from y (inl refl)) in
    let tails : xs ≡ ys =
    same_rising xs ys (later x xs r) (later y ys q) (λ z i. in_rest x y z xs ys heads r i (to z (inr i)))
    (λ z i. in_rest y x z ys xs (sym heads) q i (from z (inr i)))
    in
    cc

same_sites : (b : List ℕ) (xs ys : List Site) → AreSites b xs → AreSites b ys → xs ≡ ys
same_sites b xs ys own other =
    same_rising xs ys own.rising other.rising
    (λ z i. in_contains ys z (other.every z (of_all (IsSite b) xs z own.only i)))
    (λ z i. in_contains xs z (own.every z (of_all (IsSite b) ys z other.only i)))

-- ** images

module _ (g h : Given) (kinds : g.kind ≡ h.kind) (objects : g.objects ≡ h.objects) (own : IsGivenImage g)
    (other : IsGivenImage h) where
  sites : g.sites ≡ h.sites
  sites =
      let lengths : length g.objects ≡ length h.objects = ap length objects in
      ext_get_or [] g.sites h.sites (own.each ∙ lengths ∙ sym other.each)
      (λ o within. same_sites (get_or g.objects o []) (get_or g.sites o []) (get_or h.sites o [])
      (own.own o (omega (arith, own.each)))
      (subst (λ (all : List (List ℕ)). AreSites (get_or all o []) (get_or h.sites o [])) (sym objects)
      (other.own o (omega (arith, own.each, lengths)))))

  same_image : g ≡ h
  same_image =
      ap (λ (k : ImageKind). record { kind = k; objects = g.objects; sites = g.sites }) kinds
      ∙ ap (λ (bs : List (List ℕ)). record { kind = h.kind; objects = bs; sites = g.sites }) objects
      ∙ ap (λ (all : List (List Site)). record { kind = h.kind; objects = h.objects; sites = all }) sites

same_all : (gs hs : List Given) → map (λ (g : Given). g.kind) gs ≡ map (λ (g : Given). g.kind) hs
    → map (λ (g : Given). g.objects) gs ≡ map (λ (g : Given). g.objects) hs → All IsGivenImage gs → All IsGivenImage hs
    → gs ≡ hs
same_all [] [] kinds objects own other = refl
same_all [] (h ∷ hs) kinds objects own other = cc
same_all (g ∷ gs) [] kinds objects own other = cc
same_all (g ∷ gs) (h ∷ hs) kinds objects own other =
    let kind : g.kind ≡ h.kind = cc in
    let bytes : g.objects ≡ h.objects = cc in
    let more_kinds : map (λ (g : Given). g.kind) gs ≡ map (λ (g : Given). g.kind) hs = cc in
    let more_bytes : map (λ (g : Given). g.objects) gs ≡ map (λ (g : Given). g.objects) hs = cc in
    let heads : g ≡ h = same_image g h kind bytes (All-head IsGivenImage g gs own) (All-head IsGivenImage h hs other) in
    let tails : gs ≡ hs = same_all gs hs more_kinds more_bytes (All-tail IsGivenImage g gs own)
    (All-tail IsGivenImage h hs other) in
    cc

pub same_images : (bytes : List ℕ → List ℕ) (job : JobParts) (gs hs : List Given) → AreGiven bytes job gs
    → AreGiven bytes job hs → gs ≡ hs
same_images bytes job gs hs own other =
    same_all gs hs (own.kinds ∙ sym other.kinds) (own.objects ∙ sym other.objects) own.given other.given
