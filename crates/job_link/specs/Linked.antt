-- The images of a job, linked in image order, and the first that does not link.
use Rattle.std.specs.Prelude.{◌≡◌, ◌<◌, ℕ, Bool, not, List, Some, filter, map, slice_get}
use Rattle.std.specs.List.{All}
use Rattle.link_core.specs.Faults.{IsLinkFault, Links}
use Rattle.link_needs.specs.Linking.{Linking}
use Rattle.link_faults.specs.declared.fault.LinkFault.{LinkFault}
use Rattle.link_faults.specs.ImageKinds.{is_late}
use Rattle.tls_symbols.specs.Bindings.{exported_names}
use Rattle.job_link.specs.Given.{Given}

-- what each startup image exports: the program, and the modules that start with it
unfoldable pub exports_of : List Given → List (List (List ℕ))
exports_of images =
    map (λ (g : Given). exported_names g.objects) (filter (λ (g : Given). not (is_late g.kind)) images)

-- the link of an image of the job
unfoldable pub link_in : List Given → Bool → Given → Linking
link_in images relax g = record {
  kind = g.kind;
  objects = g.objects;
  startup = exports_of images;
  sites = g.sites;
  relax = relax;
}

-- all images link
abbrev pub AllLink : List Given → Bool → Type 0
AllLink images relax = All (λ g. Links (link_in images relax g)) images

-- the images before image `number`, counted from 0, link; this is its first fault, or memory ran out for it
pub record IsFirstUnlinked (images : List Given) (relax : Bool) (number : ℕ) (fault : LinkFault) : Type 0 where
  pub image : Given
  pub there : slice_get images number ≡ Some image
  pub here : IsLinkFault (link_in images relax image) fault
  pub before : (k : ℕ) (g : Given) → k < number → slice_get images k ≡ Some g → Links (link_in images relax g)
