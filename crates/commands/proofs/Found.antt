-- The image that a command names, and the place where it is found.
use Rattle.std.proofs.Common.{◌≡◌, ℕ, true, List, Option, Some, refl, ap, subst}
use Rattle.std.specs.Prelude.{is_some}
use Rattle.job_text.specs.Jobs.{JobParts}
use Rattle.link_needs.specs.Linking.{Linking}
use Rattle.commands.specs.declared.purpose.Ending.{Ending}
use Rattle.commands.specs.declared.purpose.Ending.TheVariants as found
use Rattle.commands.specs.declared.purpose.Purpose.{Purpose}
use Rattle.commands.specs.declared.purpose.Purpose.TheVariants.{Run, Check, File, Sites}
use Rattle.commands.specs.Jobs.{has}
use Rattle.ports.specs.Files.{Files}
use Rattle.commands.specs.declared.purpose.Put.{Put}
use Rattle.commands.specs.Links.{IsPut, OfLink}
use Rattle.commands.specs.Purposes.{Finds, Makes, Tells, put_by, puts, wanted_by}

pub has_found : (purpose : Purpose) (job : JobParts) (ending : Ending) → Finds purpose job ending
    → has job (wanted_by purpose) ≡ true
has_found (Run telling) job ending is = refl
has_found Check job ending is = refl
has_found (File put) job (found.File place own) is = ap is_some is.1
has_found (File put) job ending never = absurd never
has_found (Sites image) job (found.Sites place) is = ap is_some is
has_found (Sites image) job ending never = absurd never

pub puts_found : (purpose : Purpose) (job : JobParts) (ending : Ending) → Finds purpose job ending
    → puts ending ≡ put_by purpose
puts_found (Run telling) job ending is = ap puts is
puts_found Check job ending is = ap puts is
puts_found (File put) job (found.File place own) is = ap (λ (p : Put). Some p.out.now) is.0
puts_found (File put) job ending never = absurd never
puts_found (Sites image) job (found.Sites place) is = refl
puts_found (Sites image) job ending never = absurd never

module _ (before after : Option Files) where
  pub tells_found : (purpose : Purpose) (job : JobParts) (ending : Ending) → Finds purpose job ending
      → (ls : List Linking) (status : ℕ) (text : List ℕ) → Makes ending before after job ls status text
      → Tells purpose before after job ls status text
  tells_found (Run telling) job ending is ls status text made =
      subst (λ (e : Ending). Makes e before after job ls status text) is made
  tells_found Check job ending is ls status text made =
      subst (λ (e : Ending). Makes e before after job ls status text) is made
  tells_found (File put) job (found.File place own) is ls status text made =
      record {
        number = place;
        named = is.1;
        says = subst (λ (p : Put). OfLink place (IsPut before after p.image.now p.out.now) ls status text) is.0 made;
      }
  tells_found (File put) job ending never ls status text made = absurd never
  tells_found (Sites image) job (found.Sites place) is ls status text made =
      record { number = place; named = is; says = made }
  tells_found (Sites image) job ending never ls status text made = absurd never
