-- The library that both jobs have is linked to one image.
use Rattle.std.proofs.Common.{◌≡◌, Bool, true, false, refl}
use Rattle.link_core.proofs.Computed.{linked}
use Rattle.closed_forms.specs.Library.{library, library_object}
use Rattle.closed_forms.proofs.LibraryImage.{library_image}

pub linked_library : (relax : Bool) → linked (library relax) ≡ library_image
unfolding linked library library_object library_image
linked_library true = refl
linked_library false = refl
