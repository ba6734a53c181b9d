-- Whose an address is, and what a fresh block holds (address_map, Map; loaded_modules, Loader), with one word changed.
-- Each makes a law of address_map false, or `fresh_blocks_are_filled` (tls_map_laws).
use Rattle.std.specs.Prelude.{◌≡◌, ◌+◌, ◌-◌, ◌*◌, ◌/◌, ◌^◌, ◌<◌, ◌≤◌, ◌++◌, ℕ, Bool, nat_le, nat_lt, List, [], length}
use Rattle.std.specs.Prelude.{replicate}
use Rattle.std.specs.Prelude.{Option, Some, None, if◌then◌else◌}
use Rattle.std.specs.List.{find}
use Rattle.address_map.specs.Map.{moved_bias, owner_at}
use Rattle.image_file.specs.declared.part.TlsPart.{TlsPart}
use Rattle.image_file.specs.Spelled.{Spelled}
use Rattle.loaded_modules.specs.declared.instance.Instance.{Instance}
use Rattle.loaded_modules.specs.Images.{JobImages, image_at}
use Rattle.loaded_modules.specs.Loader.{filled, holds, initial_bytes}

-- ** the statements, of any definition

-- `moved_addresses_tell`
abbrev pub MovedAddressesBy : (ℕ → ℕ) → (ℕ → ℕ) → Type 0
MovedAddressesBy moved_bias owner_at = (number place : ℕ) → moved_bias number ≤ place
    → place < moved_bias number + 2 ^ 26
    → owner_at place ≡ number

abbrev pub FreshBlocksBy : (JobImages → Instance → List ℕ) → Type 0
FreshBlocksBy fresh_block = (m : JobImages) (x : Instance) (image : Spelled) (tls : TlsPart)
    → image_at m x.image ≡ Some image
    → image.tls ≡ Some tls
    → let initial = initial_bytes m image x tls (find (holds tls) image.parts) in
    fresh_block m x ≡ initial ++ replicate (tls.size - length initial) 0

-- ** addresses

-- `owner_at`, over any test of an address and any size of an instance
abbrev pub owner_by : (ℕ → ℕ → Bool) → ℕ → ℕ → ℕ
owner_by below size place = if below place (2 ^ 32) then 1 else (place - 2 ^ 32) / size

-- `moved_bias`: 2^31 for 2^32
abbrev pub lower_bias : ℕ → ℕ
lower_bias number = 2 ^ 31 + number * 2 ^ 26

-- ** blocks

-- `fresh_block`, over what is behind an initial image, and how many bytes a block has
module _ (filled : ℕ → List ℕ → List ℕ) (size_of : TlsPart → ℕ) where
  abbrev pub block_of : JobImages → Spelled → Instance → Option TlsPart → List ℕ
  block_of m image x None = []
  block_of m image x (Some tls) = filled (size_of tls) (initial_bytes m image x tls (find (holds tls) image.parts))

  abbrev pub block_of_image : JobImages → Instance → Option Spelled → List ℕ
  block_of_image m x None = []
  block_of_image m x (Some image) = block_of m image x image.tls

  abbrev pub block_by : JobImages → Instance → List ℕ
  block_by m x = block_of_image m x (image_at m x.image)

-- `filled`: ones for zeros
abbrev pub filled_with_ones : ℕ → List ℕ → List ℕ
filled_with_ones size initial = initial ++ replicate (size - length initial) 1

-- `block_of`: as long as its initial image, p_filesz for p_memsz
abbrev pub initial_size : TlsPart → ℕ
initial_size tls = tls.initial

abbrev pub whole_size : TlsPart → ℕ
whole_size tls = tls.size

pub record PlacesAreRefuted : Type 0 where
  -- with no word changed it is the definition
  pub copy : (place : ℕ) → owner_by nat_lt (2 ^ 26) place ≡ owner_at place
  pub instances_have_half_the_room : MovedAddressesBy moved_bias (owner_by nat_lt (2 ^ 25)) → ⊥
  -- `≤` for `<`
  pub first_address_is_the_programs : MovedAddressesBy moved_bias (owner_by nat_le (2 ^ 26)) → ⊥
  pub instances_lie_lower : MovedAddressesBy lower_bias owner_at → ⊥
  pub blocks_end_in_ones : FreshBlocksBy (block_by filled_with_ones whole_size) → ⊥
  pub blocks_end_early : FreshBlocksBy (block_by filled initial_size) → ⊥
