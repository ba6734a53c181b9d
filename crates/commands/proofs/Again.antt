-- Linked images can be written, and those that are read back are images of the job.
use Rattle.std.proofs.Common.{◌≡◌, List, All, Result, Ok, Err, IfOk, get_or, map, sym, subst}
use Rattle.std.proofs.lemmas.List.Elements.{All-map, All-same}
use Rattle.image_file.specs.Spelled.{Spelled}
use Rattle.image_writer.specs.Loadable.{HoldsTls}
use Rattle.image_writer.specs.Outlined.{outline_of}
use Rattle.job_text.specs.Jobs.{JobParts}
use Rattle.link_core.specs.Faults.{Links}
use Rattle.link_core.specs.Images.{LinkedImage, image_of, linked_of}
use Rattle.link_needs.specs.Given.{IsGiven}
use Rattle.link_needs.specs.Linking.{Linking}
use Rattle.linked_modules.specs.Together.{LinkedImagesAreModules}
use Rattle.link_faults.specs.declared.image_kind.ImageKind.{ImageKind}
use Rattle.loaded_modules.specs.Given.{AreModules, LateLast}
use Rattle.loaded_modules.specs.Loader.{of_job}
use Rattle.loaded_modules.specs.Images.{JobImages}
use Rattle.commands.specs.InOrder.{AreLinks}
use Rattle.commands.specs.Runs.{AreBack, AreModulesBack}
use Rattle.commands.proofs.Transcribed.{images_are}

module _ (job : JobParts) (ls : List Linking) (links : AreLinks job ls) (all : List LinkedImage)
    (all_is : all ≡ map linked_of ls) where
  pub all_hold : ((l : Linking) → IsGiven l → Links l → HoldsTls (outline_of (image_of l)))
      → All (λ linked. HoldsTls (outline_of linked.image)) all
  unfolding linked_of
  all_hold tls =
      All-same (λ (linked : LinkedImage). HoldsTls (outline_of linked.image)) all (map linked_of ls) all_is
      (All-map (λ (linked : LinkedImage). HoldsTls (outline_of linked.image)) linked_of ls
      (λ k d below. tls (get_or ls k d) (links.links.ready.together.given k d below)
      (links.links.ready.together.links k d below)))

  pub are_modules : LinkedImagesAreModules → (images : List Spelled) → AreBack job all images → AreModules job images
  are_modules are images back =
      let late = subst (λ (kinds : List ImageKind). LateLast kinds) links.kinds links.links.ready.late in
      subst (AreModules job) (sym (images_are job ls links all all_is images back))
      (are job ls links.links.ready.together links.kinds late)

-- and so are the modules that are made of them
pub modules_back : {E : Type 0} (job : JobParts) (all : List LinkedImage) (images : List Spelled)
    → AreBack job all images → (r : Result JobImages E)
    → IfOk r (λ modules. modules ≡ of_job job images) → IfOk r (AreModulesBack job all)
modules_back job all images back (Ok modules) is = record { images = images; back = back; modules_are = is }
modules_back job all images back (Err e) is = tt
