-- Images of plain relocations, each of the kind that a job gives it, are those of the job.
use Rattle.std.proofs.Common.{◌≡◌, ◌+◌, ◌<◌, ℕ, zero, suc, List, [], ◌∷◌, length, get_or, map, All, Some, inl, inr, sym}
use Rattle.std.proofs.Common.{subst, refl, ◌∙◌, below_more, arith}
use Rattle.std.specs.Prelude.{slice_get}
use Rattle.std.proofs.lemmas.Option.{get_or_from_slice_get}
use Rattle.image_file.specs.declared.relocation.ImageRelocation.{ImageRelocation}
use Rattle.image_file.specs.Spelled.{Spelled}
use Rattle.job_text.specs.declared.images.Image.{Image}
use Rattle.job_text.specs.Jobs.{JobParts}
use Rattle.job_text.specs.LateImages.{LateLast}
use Rattle.loaded_modules.specs.Given.{AreModules, NamesShared, file_kind_of}
use Rattle.loaded_modules.specs.Loader.{of_job}
use Rattle.loaded_modules.specs.Images.{JobImages}
use Rattle.race_tests.specs.Plain.{IsPlain, IsPlainImage}

-- the first images of two lists, side by side
abbrev pub AreOfKind : ℕ → List Image → List Spelled → Type 0
AreOfKind n asked images = (k : ℕ) → k < n → (a : Image) (b : Spelled) → slice_get asked k ≡ Some a
    → slice_get images k ≡ Some b → b.kind ≡ file_kind_of a.kind

pub one_more : (n : ℕ) (asked : List Image) (images : List Spelled) (a : Image) (b : Spelled) → AreOfKind n asked images
    → slice_get asked n ≡ Some a → slice_get images n ≡ Some b → b.kind ≡ file_kind_of a.kind
    → AreOfKind (n + 1) asked images
one_more n asked images a b before at_a at_b is =
    below_more (λ k. (x : Image) (y : Spelled) → slice_get asked k ≡ Some x → slice_get images k ≡ Some y
    → y.kind ≡ file_kind_of x.kind) n before (λ x y at_x at_y.
    let same_a : Some a ≡ Some x = sym at_a ∙ at_x in
    let same_b : Some b ≡ Some y = sym at_b ∙ at_y in
    let left : a ≡ x = cc in
    let right : b ≡ y = cc in
    subst (λ (z : Image). y.kind ≡ file_kind_of z.kind) left
    (subst (λ (z : Spelled). z.kind ≡ file_kind_of a.kind) right is))

pub within_list : {X : Type 0} (xs : List X) (k : ℕ) (x : X) → slice_get xs k ≡ Some x → k < length xs
within_list [] k x at = absurd cc
within_list (y ∷ xs) zero x at = omega arith
within_list (y ∷ xs) (suc k) x at = let less = within_list xs k x at in omega arith

plain_shared : (m : JobImages) (image : Spelled) (r : ImageRelocation) → IsPlain r → NamesShared m image r
plain_shared m image r plain named other =
    elim plain.0 [ inl none ↦ absurd (named none) | inr slot ↦ absurd (other slot) ]

kinds_are : (images : List Spelled) (asked : List Image) → length images ≡ length asked
    → AreOfKind (length images) asked images
    → map (λ image. image.kind) images ≡ map (λ image. file_kind_of image.kind) asked
kinds_are [] [] long each = refl
kinds_are [] (a ∷ asked) long each = absurd (omega (arith, long))
kinds_are (b ∷ images) [] long each = absurd (omega (arith, long))
kinds_are (b ∷ images) (a ∷ asked) long each =
    let first : b.kind ≡ file_kind_of a.kind = each 0 (omega arith) a b refl refl in
    let rest = kinds_are images asked (omega (arith, long))
    (λ k less x y at_x at_y. each (suc k) (omega (arith, less)) x y at_x at_y) in
    λ i. first i ∷ rest i

pub fitting : (job : JobParts) (images : List Spelled) → LateLast (map (λ image. image.kind) job.images)
    → length images ≡ length job.images → AreOfKind (length images) job.images images → All IsPlainImage images
    → AreModules job images
fitting job images late long kinds plain = record {
  each = long;
  kinds = kinds_are images job.images long kinds;
  late_last = late;
  shared = λ k d below j e within.
      plain_shared (of_job job images) (get_or images k d) (get_or (get_or images k d).relocations j e)
      (plain k d below j e within);
  flagged = λ k kind image at_kind at_image is flagged j e within none.
      let here : IsPlainImage image = subst IsPlainImage (get_or_from_slice_get images k image image at_image)
      (plain k image (within_list images k image at_image)) in
      (here j e within).1;
}
