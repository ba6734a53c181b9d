-- What `show FILE` says of the bytes of its file: the image that they spell, or their first fault.
use Rattle.std.specs.Prelude.{◌≡◌, ◌⊎◌, ℕ, List}
use Rattle.command_replies.specs.Says.{IsImageLine}
use Rattle.image_rules.specs.declared.fault.ImageFault.{ImageFault}
use Rattle.image_faults.specs.Faults.{IsImage, IsFault}
use Rattle.image_file.specs.Spelled.{spelled}
use Rattle.image_text.specs.Shown.{shown}

-- the bytes are an image: 0, and its text
pub record IsListed (b : List ℕ) (status : ℕ) (text : List ℕ) : Type 0 where
  pub image : IsImage b
  pub status_is : status ≡ 0
  pub text_is : text ≡ shown (spelled b)

-- the bytes have a fault: 8, and the first fault
pub record IsNoImage (b : List ℕ) (status : ℕ) (text : List ℕ) : Type 0 where
  pub fault : ImageFault
  pub first : IsFault b fault
  pub status_is : status ≡ 8
  pub line : IsImageLine fault text

abbrev pub ListingSays : List ℕ → ℕ → List ℕ → Type 0
ListingSays b status text = IsListed b status text ⊎ IsNoImage b status text
