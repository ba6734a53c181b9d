-- The images in the order of their lines: each of them, and each once.
use Rattle.std.proofs.Common.{◌≡◌, ◌⊎◌, inl, inr, ℕ, ◌+◌, ◌-◌, ◌<◌, List, [], ◌∷◌, ◌++◌, Option, Some, None, length}
use Rattle.std.proofs.Common.{map, get_or, refl, sym, ap, ◌∙◌, subst, arith, length-append, lit≤, Bool, true, false}
use Rattle.std.proofs.Common.{leb}
use Rattle.std.proofs.lemmas.Bool.{leb-true, leb-false}
use Rattle.std.proofs.lemmas.List.{get_or-map, length-map}
use Rattle.std.proofs.lemmas.List.Elements.{All-get_or, All-map, All-nil, All-push, All-weaker, Contains-append_left}
use Rattle.std.proofs.lemmas.List.Elements.{Contains-get_or, Contains-push}
use Rattle.std.proofs.lemmas.List.Quantifiers.{all_pairs_push}
use Rattle.std.specs.List.{Contains}
use Rattle.std.specs.Prelude.{◌≢◌}
use Rattle.job_text.specs.DraftLaws.{IsSlot}
use Rattle.job_text.specs.Images.{IsImageNumber}
use Rattle.job_text.specs.Jobs.{in_image_order, number_of}
use Rattle.job_text.specs.Listings.{IsListOf}
use Rattle.job_text.specs.declared.draft.Slot.{Slot}
use Rattle.job_text.specs.declared.draft.Slot.TheVariants.{Program, Start, Late}
use Rattle.job_text.specs.declared.images.Image.{Image}

-- one more thing, and it joins the end of the list
listed_more : {X : Type 0} (P Q : X → Type 0) (list : List X) (new : X) → ((x : X) → P x → Q x) → Q new → (P new → ⊥)
    → ((x : X) → Q x → P x ⊎ (new ≡ x)) → IsListOf P list
    → IsListOf Q (list ++ new ∷ [])
listed_more P Q list new keep is absent which h = record {
  only = All-push Q list new (All-weaker P Q keep list h.only) is;
  every = λ x q. elim (which x q) [
    | inl old ↦ Contains-append_left list (new ∷ []) x (h.every x old)
    | inr same ↦ subst (Contains (list ++ new ∷ [])) same (Contains-push list new)
  ];
  once = all_pairs_push (λ a b. a ≢ b) list new h.once
      (λ k d l same. absent (subst P same (All-get_or P list k d l h.only)));
}

nothing : IsListOf (IsSlot None [] []) []
nothing = record { only = All-nil (IsSlot None [] []); every = none; once = λ i j d less inside. absurd (omega arith) }
  where
    none : (slot : Slot) → IsSlot None [] [] slot → Contains [] slot
    none Program h = cc
    none (Start k) h = absurd (omega arith)
    none (Late k) h = absurd (omega arith)

-- before the first line there is no image
pub nothing_listed : (starts lates : List Image) (list : List Slot) → starts ≡ [] → lates ≡ [] → list ≡ []
    → IsListOf (IsSlot None starts lates) list
nothing_listed starts lates list s l e = rw (s, l, e) nothing

-- slots stay slots as an image joins its group
pub kept_by_program : (program : Option Image) (starts lates : List Image) (image : Image) (slot : Slot)
    → IsSlot program starts lates slot → IsSlot (Some image) starts lates slot
kept_by_program program starts lates image Program h = refl
kept_by_program program starts lates image (Start k) h = h
kept_by_program program starts lates image (Late k) h = h

pub kept_by_start : (program : Option Image) (starts lates : List Image) (image : Image) (slot : Slot)
    → IsSlot program starts lates slot
    → IsSlot program (starts ++ image ∷ []) lates slot
kept_by_start program starts lates image Program h = h
kept_by_start program starts lates image (Start k) h = omega (arith, h, length-append starts (image ∷ []))
kept_by_start program starts lates image (Late k) h = h

pub kept_by_late : (program : Option Image) (starts lates : List Image) (image : Image) (slot : Slot)
    → IsSlot program starts lates slot
    → IsSlot program starts (lates ++ image ∷ []) slot
kept_by_late program starts lates image Program h = h
kept_by_late program starts lates image (Start k) h = h
kept_by_late program starts lates image (Late k) h = omega (arith, h, length-append lates (image ∷ []))

-- the program is declared
pub listed_program : (program : Option Image) (starts lates : List Image) (image : Image) (list : List Slot)
    → program ≡ None → IsListOf (IsSlot program starts lates) list
    → IsListOf (IsSlot (Some image) starts lates) (list ++ Program ∷ [])
listed_program program starts lates image list e h =
    listed_more (IsSlot None starts lates) (IsSlot (Some image) starts lates) list Program
    (kept_by_program None starts lates image) refl (λ is. cc) which
    (subst (λ (o : Option Image). IsListOf (IsSlot o starts lates) list) e h)
  where
    which : (slot : Slot) → IsSlot (Some image) starts lates slot → IsSlot None starts lates slot ⊎ (Program ≡ slot)
    which Program is = inr refl
    which (Start k) is = inl is
    which (Late k) is = inl is

-- a number below a list's length is below that of the list before the last thing joined, or it is that length
below_or_last : (k n m : ℕ) → m ≡ n + 1 → k < m → (k < n) ⊎ (n ≡ k)
below_or_last k n m more h = grind arith

-- a start image joins
pub listed_start : (program : Option Image) (starts lates : List Image) (image : Image) (list : List Slot)
    → IsListOf (IsSlot program starts lates) list
    → IsListOf (IsSlot program (starts ++ image ∷ []) lates) (list ++ Start (length starts) ∷ [])
listed_start program starts lates image list h =
    listed_more (IsSlot program starts lates) (IsSlot program (starts ++ image ∷ []) lates) list (Start (length starts))
    (kept_by_start program starts lates image)
    (omega (arith, length-append starts (image ∷ []))) (λ is. omega arith) which h
  where
    which : (slot : Slot) → IsSlot program (starts ++ image ∷ []) lates slot
        → IsSlot program starts lates slot ⊎ (Start (length starts) ≡ slot)
    which Program is = inl is
    which (Start k) is = elim (below_or_last k (length starts) _ (length-append starts (image ∷ [])) is)
        [ inl less ↦ inl less | inr last ↦ inr (ap Start last) ]
    which (Late k) is = inl is

-- a late image joins
pub listed_late : (program : Option Image) (starts lates : List Image) (image : Image) (list : List Slot)
    → IsListOf (IsSlot program starts lates) list
    → IsListOf (IsSlot program starts (lates ++ image ∷ [])) (list ++ Late (length lates) ∷ [])
listed_late program starts lates image list h =
    listed_more (IsSlot program starts lates) (IsSlot program starts (lates ++ image ∷ [])) list (Late (length lates))
    (kept_by_late program starts lates image)
    (omega (arith, length-append lates (image ∷ []))) (λ is. omega arith) which h
  where
    which : (slot : Slot) → IsSlot program starts (lates ++ image ∷ []) slot
        → IsSlot program starts lates slot ⊎ (Late (length lates) ≡ slot)
    which Program is = inl is
    which (Start k) is = inl is
    which (Late k) is = elim (below_or_last k (length lates) _ (length-append lates (image ∷ [])) is)
        [ inl less ↦ inl less | inr last ↦ inr (ap Late last) ]

contains_map : {X Y : Type 0} (f : X → Y) (list : List X) (x : X) → Contains list x → Contains (map f list) (f x)
contains_map f list x (k, inside, is) =
    let mapped : k < length (map f list) = omega (arith, length-map list f) in
    subst (Contains (map f list)) (get_or-map f list k x (f x) inside ∙ ap f is)
    (Contains-get_or (map f list) k (f x) mapped)

-- other things in place of these, one for one
listed_by : {X Y : Type 0} (f : X → Y) (P : X → Type 0) (Q : Y → Type 0) (some : X) (list : List X)
    → ((x : X) → P x → Q (f x)) → ((a b : X) → P a → P b → f a ≡ f b → a ≡ b)
    → ((y : Y) → Q y → (x : X) × P x × (f x ≡ y)) → IsListOf P list → IsListOf Q (map f list)
listed_by {X} {Y} f P Q some list keep apart from h = record {
  only = All-map Q f list (All-weaker P (λ x. Q (f x)) keep list h.only);
  every = λ y q. let (x, is, e) = from y q in subst (Contains (map f list)) e (contains_map f list x (h.every x is));
  once = λ i j d less inside same.
      let short : j < length list = omega (arith, length-map list f) in
      let first : i < length list = omega arith in
      h.once i j some less short
      (apart (get_or list i some) (get_or list j some) (All-get_or P list i some first h.only)
      (All-get_or P list j some short h.only)
      (sym (get_or-map f list i some d first) ∙ same ∙ get_or-map f list j some d short));
}

-- an image's number
pub number_within : (p : Image) (starts lates : List Image) (slot : Slot) → IsSlot (Some p) starts lates slot
    → IsImageNumber (in_image_order p starts lates) (number_of (length starts) slot)
number_within p starts lates Program h = (lit≤ tt, omega (arith, length-append starts lates))
number_within p starts lates (Start k) h = (omega arith, omega (arith, length-append starts lates))
number_within p starts lates (Late k) h = (omega arith, omega (arith, length-append starts lates))

-- no two images have one number
one_slot : (p : Image) (starts lates : List Image) (a b : Slot) → IsSlot (Some p) starts lates a
    → IsSlot (Some p) starts lates b
    → number_of (length starts) a ≡ number_of (length starts) b → a ≡ b
one_slot p starts lates Program Program h g e = refl
one_slot p starts lates Program (Start k) h g e = absurd (omega arith)
one_slot p starts lates Program (Late k) h g e = absurd (omega arith)
one_slot p starts lates (Start j) Program h g e = absurd (omega arith)
one_slot p starts lates (Start j) (Start k) h g e = ap Start (omega arith)
one_slot p starts lates (Start j) (Late k) h g e = absurd (omega arith)
one_slot p starts lates (Late j) Program h g e = absurd (omega arith)
one_slot p starts lates (Late j) (Start k) h g e = absurd (omega arith)
one_slot p starts lates (Late j) (Late k) h g e = ap Late (omega arith)

-- each number is an image's
slot_numbered : (p : Image) (starts lates : List Image) (n : ℕ) → IsImageNumber (in_image_order p starts lates) n
    → (slot : Slot) × IsSlot (Some p) starts lates slot × (number_of (length starts) slot ≡ n)
slot_numbered p starts lates n (low, high) = by_group (leb n 1) (leb n (1 + length starts)) refl refl
  where
    by_group : (first second : Bool) → leb n 1 ≡ first → leb n (1 + length starts) ≡ second
        → (slot : Slot) × IsSlot (Some p) starts lates slot × (number_of (length starts) slot ≡ n)
    by_group true second a b = (Program, refl, omega (arith, leb-true n 1 a))
    by_group false true a b = (
      Start (n - 2),
      omega (arith, leb-false n 1 a, leb-true n (1 + length starts) b),
      omega (arith, leb-false n 1 a),
    )
    by_group false false a b = (
      Late (n - 2 - length starts),
      omega (arith, leb-false n (1 + length starts) b, length-append starts lates),
      omega (arith, leb-false n (1 + length starts) b),
    )

-- the numbers of the images of a job
pub mentions_listed : (program : Option Image) (p : Image) (starts lates : List Image) (slots : List Slot)
    → program ≡ Some p → IsListOf (IsSlot program starts lates) slots
    → IsListOf (IsImageNumber (in_image_order p starts lates)) (map (number_of (length starts)) slots)
mentions_listed program p starts lates slots e h =
    listed_by (number_of (length starts)) (IsSlot (Some p) starts lates)
    (IsImageNumber (in_image_order p starts lates)) Program slots (number_within p starts lates)
    (one_slot p starts lates)
    (slot_numbered p starts lates) (subst (λ (o : Option Image). IsListOf (IsSlot o starts lates) slots) e h)
