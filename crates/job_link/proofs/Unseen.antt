-- Names that are taken where they were not seen, and the list that they come to.
use Rattle.std.proofs.Common.{◌≡◌, ◌∙◌, ◌+◌, ◌<◌, ◌||◌, ℕ, Bool, true, false, not, cond, List, [], ◌∷◌}
use Rattle.std.proofs.Common.{◌++◌}
use Rattle.std.proofs.Common.{Option, Some, None, filter, refl, sym, ap, append_assoc}
use Rattle.std.proofs.Common.{append-nil, length, take, drop, get_or, Bor}
use Rattle.std.specs.Prelude.{◌-◌, if◌then◌else◌, slice_get}
use Rattle.std.specs.List.{cons_option, filter_map, flat_map, list_any}
use Rattle.std.specs.Str.{bytes_eq}
use Rattle.std.proofs.lemmas.List.{get_or_default, map-append, take-append-drop}
use Rattle.std.proofs.lemmas.List.{take_more}
use Rattle.job_text.specs.declared.images.Image.{Image}
use Rattle.job_text.specs.Jobs.{JobParts}
use Rattle.indexmap.specs.IndexSet.{insert_key}
use Rattle.job_link.specs.Mentions.{mentions_of, object_names}
use Rattle.dynamic_symbols.specs.Names.{distinct}
use Rattle.job_link.specs.Walks.{is_among, names_in, texts, unseen}
use Rattle.dynamic_symbols.proofs.Adding.{filter_all, filter_twice, new_past, new_unlike_seen as like_seen}

-- ** those that were not seen

-- names before others
pub unseen-append : (s xs ys : List (List ℕ)) → unseen s (xs ++ ys) ≡ unseen s xs ++ unseen (s ++ unseen s xs) ys
unseen-append s [] ys = ap (λ t. unseen t ys) (sym (append-nil s))
unseen-append s (x ∷ xs) ys = by (is_among s x) (λ t. unseen-append t xs ys)
  where
    by : (b : Bool) → ((t : List (List ℕ)) → unseen t (xs ++ ys) ≡ unseen t xs ++ unseen (t ++ unseen t xs) ys)
        → (if b then unseen s (xs ++ ys) else x ∷ unseen (s ++ x ∷ []) (xs ++ ys))
        ≡ (if b then unseen s xs else x ∷ unseen (s ++ x ∷ []) xs)
        ++ unseen (s ++ (if b then unseen s xs else x ∷ unseen (s ++ x ∷ []) xs)) ys
    by true more = more s
    by false more =
        ap (λ r. x ∷ r) (more (s ++ x ∷ []))
        ∙ ap (λ t. x ∷ (unseen (s ++ x ∷ []) xs ++ unseen t ys)) (append_assoc s (x ∷ []) (unseen (s ++ x ∷ []) xs))

-- those that were not seen
abbrev new_in : List (List ℕ) → List (List ℕ) → List (List ℕ)
new_in seen ys = filter (λ y. not (is_among seen y)) ys

-- those that differ from a name
abbrev unlike : List ℕ → List (List ℕ) → List (List ℕ)
unlike x ys = filter (λ y. not (bytes_eq x y)) ys

-- those like a name that was seen do not count
new_in-unlike : (seen : List (List ℕ)) (x : List ℕ) → is_among seen x ≡ true → (ys : List (List ℕ))
    → new_in seen ys ≡ new_in seen (unlike x ys)
new_in-unlike seen x there =
    filter_twice (λ y. not (is_among seen y)) (λ y. not (bytes_eq x y)) (λ y. not (is_among seen y))
    (like_seen seen x there)

-- nor do those like a name that is seen next
new_in-one_more : (seen : List (List ℕ)) (x : List ℕ) (ys : List (List ℕ))
    → new_in (seen ++ x ∷ []) ys ≡ new_in seen (unlike x ys)
new_in-one_more seen x =
    filter_twice (λ y. not (is_among seen y)) (λ y. not (bytes_eq x y)) (λ y. not (is_among (seen ++ x ∷ []) y))
    (new_past seen x)

-- they are those of all, each once, that were not seen
unseen_once : (seen xs : List (List ℕ)) → unseen seen xs ≡ new_in seen (distinct xs)
unseen_once seen [] = refl
unseen_once seen (x ∷ xs) = by (is_among seen x) refl (λ s. unseen_once s xs)
  where
    by : (b : Bool) → is_among seen x ≡ b → ((s : List (List ℕ)) → unseen s xs ≡ new_in s (distinct xs))
        → (if b then unseen seen xs else x ∷ unseen (seen ++ x ∷ []) xs)
        ≡ cond (not b) (x ∷ new_in seen (unlike x (distinct xs))) (new_in seen (unlike x (distinct xs)))
    by true e more = more seen ∙ new_in-unlike seen x e (distinct xs)
    by false e more = ap (λ r. x ∷ r) (more (seen ++ x ∷ []) ∙ new_in-one_more seen x (distinct xs))

-- so where none was seen they are each once
pub all_once : (xs : List (List ℕ)) → unseen [] xs ≡ distinct xs
all_once xs = unseen_once [] xs ∙ filter_all (distinct xs)

-- names that were seen, and more of them that were not
pub seen_next : (s now new xs more : List (List ℕ)) → now ≡ s ++ unseen s xs → new ≡ now ++ unseen now more
    → new ≡ s ++ unseen s (xs ++ more)
seen_next s now new xs more e step =
    step ∙ ap (λ n. n ++ unseen n more) e ∙ append_assoc s (unseen s xs) (unseen (s ++ unseen s xs) more)
    ∙ ap (λ r. s ++ r) (sym (unseen-append s xs more))

-- a name among others that are lent
pub among : (keys : List (Bor (List ℕ))) (name : List ℕ)
    → list_any (λ k. bytes_eq name k.now) keys ≡ is_among (texts keys) name
among [] name = refl
among (k ∷ keys) name = ap (λ b. bytes_eq name k.now || b) (among keys name)

-- a name that is put among them goes last, where it was not there
pub inserted : (keys : List (Bor (List ℕ))) (k : Bor (List ℕ))
    → texts (insert_key (λ (a b : Bor (List ℕ)). bytes_eq a.now b.now) keys k)
    ≡ texts keys ++ unseen (texts keys) (k.now ∷ [])
inserted keys k =
    elim (list_any (λ (o : Bor (List ℕ)). bytes_eq k.now o.now) keys) as (λ b.
    texts (if b then keys else keys ++ k ∷ []) ≡ texts keys ++ (if b then [] else k.now ∷ [])) [
      | true ↦ sym (append-nil (texts keys))
      | false ↦ map-append (λ (name : Bor (List ℕ)). name.now) keys (k ∷ [])
    ]
    ∙ ap (λ b. texts keys ++ (if b then [] else k.now ∷ [])) (among keys k.now)

-- ** images

-- the images of these numbers
abbrev images_of : JobParts → List ℕ → List Image
images_of job numbers = filter_map (λ (number : ℕ). slice_get job.images (number - 1)) numbers

-- the names of images before others
names_in-append : (job : JobParts) (xs ys : List ℕ) → names_in job (xs ++ ys) ≡ names_in job xs ++ names_in job ys
names_in-append job [] ys = refl
names_in-append job (x ∷ xs) ys = by (slice_get job.images (x - 1)) (names_in-append job xs ys)
  where
    by : (image : Option Image) → names_in job (xs ++ ys) ≡ names_in job xs ++ names_in job ys
        → flat_map (λ (i : Image). i.objects) (cons_option image (images_of job (xs ++ ys)))
        ≡ flat_map (λ (i : Image). i.objects) (cons_option image (images_of job xs)) ++ names_in job ys
    by None more = more
    by (Some image) more = ap (λ r. image.objects ++ r) more
        ∙ sym (append_assoc image.objects (names_in job xs) (names_in job ys))

-- the names of one more image
names_in-push : (job : JobParts) (numbers : List ℕ) (number : ℕ) (image : Image)
    → slice_get job.images (number - 1) ≡ Some image
    → names_in job (numbers ++ number ∷ []) ≡ names_in job numbers ++ image.objects
names_in-push job numbers number image e =
    names_in-append job numbers (number ∷ [])
    ∙ ap (λ (o : Option Image). names_in job numbers ++ flat_map (λ (i : Image). i.objects) (cons_option o [])) e
    ∙ ap (λ r. names_in job numbers ++ r) (append-nil image.objects)

-- a list up to an element, that element, and the rest
module _ {X : Type 0} (xs : List X) (i : ℕ) (x : X) (is : x ≡ get_or xs i x) (inside : i < length xs) where
  pub one_more : take (i + 1) xs ≡ take i xs ++ x ∷ []
  one_more = take_more xs i x inside ∙ ap (λ y. take i xs ++ y ∷ []) (sym is)

  pub with_rest : xs ≡ (take i xs ++ x ∷ []) ++ drop (i + 1) xs
  with_rest = sym (take-append-drop (i + 1) xs) ∙ ap (λ r. r ++ drop (i + 1) xs) one_more

-- the names of the images up to one, its names, and those of the rest
module _ (job : JobParts) (numbers : List ℕ) (i : ℕ) (image : Image) (inside : i < length numbers)
    (there : slice_get job.images (get_or numbers i 0 - 1) ≡ Some image) where
  is_next : get_or numbers i 0 ≡ get_or numbers i (get_or numbers i 0)
  is_next = get_or_default numbers i 0 (get_or numbers i 0) inside

  pub numbers_more : take (i + 1) numbers ≡ take i numbers ++ get_or numbers i 0 ∷ []
  numbers_more = one_more numbers i (get_or numbers i 0) is_next inside

  pub names_more : names_in job (take (i + 1) numbers) ≡ names_in job (take i numbers) ++ image.objects
  names_more = ap (names_in job) numbers_more ∙ names_in-push job (take i numbers) (get_or numbers i 0) image there

  pub names_around : names_in job numbers
      ≡ (names_in job (take i numbers) ++ image.objects) ++ names_in job (drop (i + 1) numbers)
  names_around =
      ap (names_in job) (with_rest numbers i (get_or numbers i 0) is_next inside)
      ∙ names_in-append job (take i numbers ++ get_or numbers i 0 ∷ []) (drop (i + 1) numbers)
      ∙ ap (λ r. r ++ names_in job (drop (i + 1) numbers))
      (names_in-push job (take i numbers) (get_or numbers i 0) image there)

-- the names that a job mentions are those of its images as they are mentioned
pub mentions_are : (job : JobParts) → mentions_of job ≡ names_in job job.mentions
unfolding mentions_of
mentions_are job = refl

-- each of them once
pub object_names_are : (job : JobParts) → object_names job ≡ unseen [] (names_in job job.mentions)
unfolding object_names
object_names_are job = ap distinct (mentions_are job) ∙ sym (all_once (names_in job job.mentions))
