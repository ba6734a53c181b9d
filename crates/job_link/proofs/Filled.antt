-- Images that are read one after another.
use Rattle.std.proofs.Common.{◌≡◌, ◌∙◌, ◌+◌, ◌-◌, ◌<◌, ◌≤◌, inl, inr, ℕ, zero, suc, List, [], ◌∷◌, ◌++◌, Some}
use Rattle.std.proofs.Common.{map, sym, ap, subst, append_assoc, length, take, drop, get_or, set, arith}
use Rattle.std.specs.Prelude.{slice_get}
use Rattle.std.specs.List.{All, Contains}
use Rattle.std.proofs.lemmas.Bool.{cases_eq, cases_lt}
use Rattle.std.proofs.lemmas.List.{ext_get_or, get_or-map, get_or-set_other, get_or-set_same, length-map}
use Rattle.std.proofs.lemmas.List.{length-take-le, map-set, set-get_or, take-append-drop}
use Rattle.std.proofs.lemmas.List.Elements.{All-get_or, All-map, All-set, All-weaker, Contains-push_cases}
use Rattle.std.proofs.lemmas.Option.{get_or_from_slice_get, slice_get-get_or, slice_get_within}
use Rattle.job_text.specs.declared.images.Image.{Image}
use Rattle.job_text.specs.Jobs.{JobParts}
use Rattle.link_faults.specs.declared.image_kind.ImageKind.{ImageKind}
use Rattle.job_link.specs.declared.reading.ReadRefusal.{ReadRefusal}
use Rattle.job_link.specs.declared.writable.WritableSections.{WritableSections}
use Rattle.job_link.specs.Given.{Allows, AreGiven, Given, IsFileFault, IsGivenImage, IsTaken}
use Rattle.job_link.specs.Reads.{kinds_of, objects_of, IsReadIn, IsReadRefusal, IsRefusalOf}

-- ** images

-- what the images of a job are linked as
abbrev kinds : JobParts → List ImageKind
kinds job = map (λ (image : Image). image.kind) job.images

-- the objects of images
abbrev objects : List Given → List (List (List ℕ))
objects images = map (λ (g : Given). g.objects) images

-- there are as many images as the job has
same_length : (bytes : List ℕ → List ℕ) (job : JobParts) (numbers : List ℕ) (images : List Given)
    → IsReadIn bytes job numbers images → length images ≡ length job.images
same_length bytes job numbers images h =
    omega (
      arith,
      ap length h.kinds,
      length-map images (λ (g : Given). g.kind),
      length-map job.images
          (λ (image : Image). image.kind),
    )

module _ (bytes : List ℕ
    → List ℕ) (job : JobParts) (numbers : List ℕ) (images : List Given) (number : ℕ) (image : Image) (g : Given)
    (h : IsReadIn bytes job numbers images) (some : 1 ≤ number)
    (there : slice_get job.images (number - 1) ≡ Some image) (kind : g.kind ≡ image.kind)
    (are : g.objects ≡ map bytes image.objects) (given : IsGivenImage g) where
  inside : number - 1 < length job.images
  inside = slice_get_within job.images (number - 1) image there

  is_image : get_or job.images (number - 1) image ≡ image
  is_image = get_or_from_slice_get job.images (number - 1) image image there

  same_kinds : kinds_of (set images (number - 1) g) ≡ kinds job
  same_kinds =
      map-set (λ (g : Given). g.kind) images (number - 1) g
      ∙ ap (λ (ks : List ImageKind). set ks (number - 1) g.kind) h.kinds
      ∙ ap (set (kinds job) (number - 1)) (kind ∙ sym (ap (λ (i : Image). i.kind) is_image)
      ∙ sym (get_or-map (λ (i : Image). i.kind) job.images (number - 1) image image.kind inside))
      ∙ set-get_or (kinds job) (number - 1) image.kind

  same_objects : (k : ℕ) → k < length job.images → Contains (numbers ++ number ∷ []) (k + 1)
      → get_or (objects (set images (number - 1) g)) k [] ≡ get_or (objects_of bytes job) k []
  same_objects k less has =
      ap (λ (os : List (List (List ℕ))). get_or os k []) (map-set (λ (g : Given). g.objects) images (number - 1) g)
      ∙ elim (cases_eq k (number - 1)) [
        | inl here ↦
            let few : number - 1 < length (objects images) =
            omega (
              arith,
              inside,
              same_length bytes job numbers images h,
              length-map images (λ (g : Given).
                  g.objects),
            ) in
            ap (λ n. get_or (set (objects images) (number - 1) g.objects) n []) here
            ∙ get_or-set_same (objects images) (number - 1) g.objects [] few
            ∙ are ∙ ap (λ (i : Image). map bytes i.objects) (sym is_image)
            ∙ sym (get_or-map (λ (i : Image). map bytes i.objects) job.images (number - 1) image [] inside)
            ∙ ap (λ n. get_or (objects_of bytes job) n []) (sym here)
        | inr other ↦
            get_or-set_other (objects images) (number - 1) k g.objects [] other
            ∙ elim (Contains-push_cases numbers number (k + 1) has) [
              | inl before ↦ h.objects k less before
              | inr now ↦ absurd (other (omega arith))
            ]
      ]

  pub read_more : IsReadIn bytes job (numbers ++ number ∷ []) (set images (number - 1) g)
  read_more = record {
    kinds = same_kinds;
    given = All-set IsGivenImage images (number - 1) g given h.given;
    objects =
        same_objects;
  }

-- all are read
pub all_given : (bytes : List ℕ → List ℕ) (job : JobParts) (numbers : List ℕ) (images : List Given)
    → IsReadIn bytes job numbers images
    → ((k : ℕ) → 1 ≤ k → k ≤ length job.images → Contains numbers k) → AreGiven bytes job images
all_given bytes job numbers images h every = record {
  kinds = h.kinds;
  objects =
      let n = same_length bytes job numbers images h in
      let a = length-map images (λ (g : Given). g.objects) in
      let b = length-map job.images (λ (image : Image). map bytes image.objects) in
      ext_get_or [] (objects images) (objects_of bytes job) (a ∙ n ∙ sym b)
      (λ k less.
      let inside : k < length job.images = omega (arith, less, a, n) in
      h.objects k inside (every (k + 1) (omega arith) (omega arith)));
  given = h.given;
}

-- ** the first that is refused

-- an element behind a list
after : (xs ys : List (List ℕ)) (k : ℕ) → slice_get (xs ++ ys) (length xs + k) ≡ slice_get ys k
-- an element behind a list
after [] ys k = let e : 0 + k ≡ k = omega arith in ap (slice_get ys) e
after (x ∷ xs) ys k =
    let e : suc (length xs) + k ≡ suc (length xs + k) = omega arith in
    ap (slice_get (x ∷ (xs ++ ys))) e ∙ after xs ys k

-- an element of a front
within : (xs ys : List (List ℕ)) (k : ℕ) (x : List ℕ) → slice_get xs k ≡ Some x → slice_get (xs ++ ys) k ≡ Some x
within [] ys k x e = cc
within (y ∷ xs) ys zero x e = e
within (y ∷ xs) ys (suc k) x e = within xs ys k x e

-- an element of a front of a list, by its place in the list
front : (xs ys : List (List ℕ)) (k : ℕ) (other : List ℕ) → k < length xs → slice_get (xs ++ ys) k ≡ Some other
    → slice_get xs k ≡ Some other
front xs ys k other less e =
    let own : slice_get xs k ≡ Some (get_or xs k other) = slice_get-get_or xs k other less in
    let all : slice_get (xs ++ ys) k ≡ Some (get_or xs k other) = within xs ys k (get_or xs k other) own in
    let same : get_or xs k other ≡ other = cc in
    own ∙ ap Some same

-- the files of these names have no section that is refused
pub allowed_of : (writable : WritableSections) (bytes : List ℕ → List ℕ) (names : List (List ℕ))
    → All (λ name. IsTaken writable (bytes name)) names → All (Allows writable) (map bytes names)
allowed_of writable bytes names taken =
    All-map (Allows writable) bytes names
    (All-weaker (λ name. IsTaken writable (bytes name)) (λ name. Allows writable (bytes name)) (λ name its. its.allowed)
    names taken)

-- a file among those that are taken
pub taken_before : (writable : WritableSections) (bytes : List ℕ → List ℕ) (xs : List (List ℕ))
    → All (λ name. IsTaken writable (bytes name)) xs
    → (k : ℕ) (other : List ℕ) → slice_get xs k ≡ Some other → IsTaken writable (bytes other)
taken_before writable bytes xs all k other e =
    subst (λ (name : List ℕ). IsTaken writable (bytes name)) (get_or_from_slice_get xs k other other e)
    (All-get_or (λ name. IsTaken writable (bytes name)) xs k other (slice_get_within xs k other e) all)

-- a refusal behind objects that are taken
pub refused_at : (writable : WritableSections) (bytes : List ℕ → List ℕ) (names : List (List ℕ)) (i : ℕ)
    (refusal : ReadRefusal) → i < length names → All (λ name. IsTaken writable (bytes name)) (take i names)
    → IsRefusalOf writable bytes (get_or names i []) refusal → IsReadRefusal writable bytes names refusal
refused_at writable bytes names i refusal inside taken here = inr (record {
  at = i;
  there = slice_get-get_or names i [] inside ∙ ap Some (sym here.0);
  here = subst (λ (n : List ℕ). IsFileFault writable (bytes n) refusal.fault) (sym here.0) here.1;
  before = λ k other less e. taken_before writable bytes (take i names) taken k other (up_to k other less e);
})
  where
    up_to : (k : ℕ) (other : List ℕ) → k < i → slice_get names k ≡ Some other → slice_get (take i names) k ≡ Some other
    up_to k other less e =
        let short : k < length (take i names) = omega (arith, length-take-le i names (omega arith)) in
        front (take i names) (drop i names) k other short
        (ap (λ (xs : List (List ℕ)). slice_get xs k) (take-append-drop i names) ∙ e)

-- an image behind those that are taken
pub refused_in : (writable : WritableSections) (bytes : List ℕ → List ℕ) (all names more rest : List (List ℕ))
    (refusal : ReadRefusal) → all ≡ (names ++ more) ++ rest
    → All (λ name. IsTaken writable (bytes name)) names → IsReadRefusal writable bytes more refusal
    → IsReadRefusal writable bytes all refusal
refused_in writable bytes all names more rest refusal are taken (inl none) = inl none
refused_in writable bytes all names more rest refusal are taken (inr is) = inr (record {
  at = length names + is.at;
  there = ap (λ (xs : List (List ℕ)). slice_get xs (length names + is.at)) are
      ∙ within (names ++ more) rest (length names + is.at) refusal.name.now (after names more is.at ∙ is.there);
  here = is.here;
  before = λ k other less e.
      let e' : slice_get (names ++ (more ++ rest)) k ≡ Some other =
      ap (λ (xs : List (List ℕ)). slice_get xs k) (sym (are ∙ append_assoc names more rest)) ∙ e in
      elim (cases_lt k (length names)) [
        | inl early ↦
            taken_before writable bytes names taken k other (front names (more ++ rest) k other early e')
        | inr late ↦
            let at : length names + (k - length names) ≡ k = omega arith in
            let low : k - length names < is.at = omega arith in
            let below : k - length names < length more =
            omega (arith, slice_get_within more is.at refusal.name.now is.there) in
            let e'' : slice_get (more ++ rest) (k - length names) ≡ Some other =
            sym (after names (more ++ rest) (k - length names)) ∙ ap (slice_get (names ++ (more ++ rest))) at ∙ e' in
            is.before (k - length names) other low (front more rest (k - length names) other below e'')
      ];
})
