-- Images that are linked together are images of a job.
use Rattle.std.proofs.Common.{◌≡◌, ◌≢◌, ◌∙◌, ℕ, true, false, List, [], ◌∷◌, Option, Some, None, is_some, length}
use Rattle.std.proofs.Common.{map, refl, sym, ap, subst}
use Rattle.std.specs.Prelude.{option_map, slice_get, slice_index_or}
use Rattle.std.specs.List.{All}
use Rattle.std.proofs.lemmas.List.{length-map}
use Rattle.std.proofs.lemmas.List.Elements.{All-map, All-weaker}
use Rattle.std.proofs.lemmas.Option.{same_Some, slice_get-map}
use Rattle.image_faults.specs.declared.loader_kind.LoaderKind.TheVariants.{ThreadOffset}
use Rattle.image_file.specs.Spelled.{Spelled}
use Rattle.image_writer.specs.Tables.{finished}
use Rattle.job_text.specs.declared.images.Image.{Image}
use Rattle.job_text.specs.Jobs.{JobParts}
use Rattle.link_faults.specs.declared.image_kind.ImageKind.{ImageKind}
use Rattle.link_faults.specs.declared.image_kind.ImageKind.TheVariants.{Exe, Pie, Start, Late}
use Rattle.link_needs.specs.Given.{IsGiven}
use Rattle.link_needs.specs.Linking.{Linking}
use Rattle.link_core.specs.Dynamic.{imports}
use Rattle.link_core.specs.Faults.{Links}
use Rattle.link_core.specs.Images.{contents, file_kind, image_of}
use Rattle.loaded_modules.specs.Given.{IsDynamic, NamesShared, file_kind_of}
use Rattle.loaded_modules.specs.Loader.{of_job}
use Rattle.loaded_modules.specs.Images.{is_late}
use Rattle.loaded_modules.specs.Loader.{export_of, shared_from}
use Rattle.linked_modules.specs.Together.{AreTogether, LinkedImagesAreModules, exports_among}
use Rattle.linked_modules.proofs.Flagged.{late_free}
use Rattle.linked_modules.proofs.Imported.{imports_among}
use Rattle.linked_modules.proofs.Listed.{IsAmong}
use Rattle.linked_modules.proofs.Named.{relocations_named}
use Rattle.linked_modules.proofs.Shared.{export_found}

-- ** kinds

same_kind : (kind : ImageKind) → file_kind kind ≡ file_kind_of kind
same_kind Exe = refl
same_kind Pie = refl
same_kind Start = refl
same_kind Late = refl

image_kinds : (ls : List Linking)
    → map (λ (image : Spelled). image.kind) (map image_of ls) ≡ map file_kind_of (map (λ (l : Linking). l.kind) ls)
unfolding image_of finished contents
image_kinds [] = refl
image_kinds (l ∷ ls) =
    ap (λ kind. kind ∷ map (λ (image : Spelled). image.kind) (map image_of ls)) (same_kind l.kind)
    ∙ ap (λ kinds. file_kind_of l.kind ∷ kinds) (image_kinds ls)

job_kinds : (images : List Image)
    → map file_kind_of (map (λ (image : Image). image.kind) images)
    ≡ map (λ (image : Image). file_kind_of image.kind) images
job_kinds [] = refl
job_kinds (image ∷ images) = ap (λ kinds. file_kind_of image.kind ∷ kinds) (job_kinds images)

module _ (job : JobParts) (ls : List Linking) (together : AreTogether ls)
    (kinds : map (λ (l : Linking). l.kind) ls ≡ map (λ (image : Image). image.kind) job.images) where
  abbrev images : List Spelled
  images = map image_of ls

  each_image : length images ≡ length job.images
  each_image =
      length-map ls image_of ∙ sym (length-map ls (λ (l : Linking). l.kind)) ∙ ap length kinds
      ∙ length-map job.images (λ (image : Image). image.kind)

  file_kinds : map (λ (image : Spelled). image.kind) images
      ≡ map (λ (image : Image). file_kind_of image.kind) job.images
  file_kinds = image_kinds ls ∙ ap (map file_kind_of) kinds ∙ job_kinds job.images

  -- ** names

  -- what a startup image among them exports is found
  found_among : (name : List ℕ) → IsAmong (exports_among ls) name → is_some (export_of (of_job job images) name) ≡ true
  unfolding export_of
  found_among name is =
      subst (λ ks. is_some (shared_from name 1 ks images) ≡ true) kinds (export_found name 1 ls is)

  image_shared : (l : Linking) → IsGiven l → Links l → l.startup ≡ exports_among ls
      → All (NamesShared (of_job job images) (image_of l)) (image_of l).relocations
  image_shared l given links beside =
      relocations_named l (λ name. is_some (export_of (of_job job images) name) ≡ true)
      (All-weaker (IsAmong l.startup) (λ name. is_some (export_of (of_job job images) name) ≡ true)
      (λ name is. found_among name (subst (λ startup. IsAmong startup name) beside is)) (imports l)
      (imports_among l.objects l.startup l.sites))
      given links.sound

  names_shared : All (λ image. All (NamesShared (of_job job images) image) image.relocations) images
  names_shared =
      All-map (λ image. All (NamesShared (of_job job images) image) image.relocations) image_of ls (λ k d below.
      image_shared (slice_index_or ls k d) (together.given k d below) (together.links k d below)
      (together.beside k d below))

  -- ** flags

  link_dynamic : (l : Linking) → is_late l.kind ≡ true → (image_of l).is_flagged ≡ false
      → All IsDynamic (image_of l).relocations
  unfolding image_of finished contents
  link_dynamic l late unflagged =
      All-weaker (λ r. r.kind ≢ ThreadOffset) IsDynamic (λ r free none. free) _ (late_free l late unflagged)

  late_dynamic : (index : ℕ) (kind : ImageKind) (image : Spelled)
      → slice_get (map (λ (image : Image). image.kind) job.images) index ≡ Some kind
      → slice_get images index ≡ Some image → is_late kind ≡ true → image.is_flagged ≡ false
      → All IsDynamic image.relocations
  late_dynamic index kind image kind_is image_is late unflagged =
      of_link (slice_get ls index)
      (sym (slice_get-map (λ (l : Linking). l.kind) ls index) ∙ ap (λ ks. slice_get ks index) kinds ∙ kind_is)
      (sym (slice_get-map image_of ls index) ∙ image_is)
    where
      of_link : (link : Option Linking) → option_map (λ (l : Linking). l.kind) link ≡ Some kind
          → option_map image_of link ≡ Some image → All IsDynamic image.relocations
      of_link None kind_is image_is = absurd (cc)
      of_link (Some l) kind_is image_is =
          let same = same_Some (image_of l) image image_is in
          subst (λ (x : Spelled). All IsDynamic x.relocations) same
          (link_dynamic l (ap is_late (same_Some l.kind kind kind_is) ∙ late)
          (ap (λ (x : Spelled). x.is_flagged) same ∙ unflagged))

-- the law
pub are_modules : LinkedImagesAreModules
are_modules job ls together kinds late_last = record {
  each = each_image job ls together kinds;
  kinds = file_kinds job ls together kinds;
  late_last = late_last;
  shared = names_shared job ls together kinds;
  flagged = late_dynamic job ls together kinds;
}
