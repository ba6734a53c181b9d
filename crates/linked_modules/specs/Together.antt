-- Images that are linked together are images of a job.
use Rattle.std.specs.Prelude.{◌≡◌, ℕ, List, filter, map, not}
use Rattle.std.specs.List.{All}
use Rattle.job_text.specs.Jobs.{JobParts}
use Rattle.link_core.specs.Faults.{Links}
use Rattle.link_core.specs.Images.{image_of}
use Rattle.link_needs.specs.Given.{IsGiven}
use Rattle.link_needs.specs.Linking.{Linking}
use Rattle.loaded_modules.specs.Given.{AreModules, LateLast}
use Rattle.loaded_modules.specs.Images.{is_late}
use Rattle.tls_symbols.specs.Bindings.{exported_names}

-- what each startup image among these links exports
abbrev pub exports_among : List Linking → List (List (List ℕ))
exports_among ls = map (λ l. exported_names l.objects) (filter (λ l. not (is_late l.kind)) ls)

-- links of images that are linked together: each links, given the exports of the startup images among them
pub record AreTogether (ls : List Linking) : Type 0 where
  pub given : All IsGiven ls
  pub links : All Links ls
  pub beside : All (λ l. l.startup ≡ exports_among ls) ls

-- the images of these links are images of a job with the same kinds
abbrev pub LinkedImagesAreModules : Type 0
LinkedImagesAreModules = (job : JobParts) (ls : List Linking) → AreTogether ls
    → map (λ l. l.kind) ls ≡ map (λ image. image.kind) job.images
    → LateLast (map (λ image. image.kind) job.images) → AreModules job (map image_of ls)
