-- A law over a wrong definition says what is not so of one address, or of one block.
use Rattle.std.proofs.Common.{◌≡◌, ◌^◌, ℕ, List, [], ◌∷◌, Some, None, refl, ap, arith, true, false}
use Rattle.std.specs.Prelude.{nat_le, nat_lt, slice_index_or, ◌==◌}
use Rattle.address_map.specs.Laws.{moved_addresses_tell}
use Rattle.address_map.specs.Map.{moved_bias, owner_at}
use Rattle.image_file.specs.declared.part.TlsPart.{TlsPart}
use Rattle.image_file.specs.Spelled.{Spelled}
use Rattle.image_rules.specs.declared.places.FileKind.TheVariants.{Exe}
use Rattle.link_faults.specs.declared.image_kind.ImageKind.TheVariants.{Exe as Program}
use Rattle.loaded_modules.specs.declared.instance.Instance.{Instance}
use Rattle.loaded_modules.specs.Images.{JobImages, image_at}
use Rattle.loaded_modules.specs.Loader.{filled}
use Rattle.refuted_definitions.specs.Places.{FreshBlocksBy, MovedAddressesBy, PlacesAreRefuted, block_by}
use Rattle.refuted_definitions.specs.Places.{filled_with_ones, initial_size, lower_bias, owner_by, whole_size}

-- a block of one byte, which is not in the initial image
abbrev tls : TlsPart
tls = record { address = 0; initial = 0; size = 1; alignment = 1 }

abbrev image : Spelled
image = record {
  kind = Exe;
  parts = [];
  array_size = 0;
  got = None;
  tls = Some tls;
  symbols = [];
  names = [];
  relocations = [];
  is_flagged = false;
}

abbrev job : JobImages
job = record { kinds = Program ∷ []; images = image ∷ [] }

abbrev program : Instance
program = record { image = 1; number = 1; id = 1; offset = Some 1 }

abbrev first : List ℕ → ℕ
first bytes = slice_index_or bytes 0 2

no_ones : FreshBlocksBy (block_by filled_with_ones whole_size) → ⊥
unfolding image_at
no_ones wrong = let e : false ≡ true = ap (λ (n : ℕ). n == 0) (ap first (wrong job program image tls refl refl)) in cc

no_early_end : FreshBlocksBy (block_by filled initial_size) → ⊥
unfolding image_at
no_early_end wrong =
    let e : false ≡ true = ap (λ (n : ℕ). n == 0) (ap first (wrong job program image tls refl refl)) in cc

-- the statement is the law's
right_addresses : MovedAddressesBy moved_bias owner_at
right_addresses = moved_addresses_tell

no_half : MovedAddressesBy moved_bias (owner_by nat_lt (2 ^ 25)) → ⊥
no_half wrong = let e : false ≡ true = ap (λ (n : ℕ). n == 1) (wrong 1 4362076160 (omega arith) (omega arith)) in cc

no_first : MovedAddressesBy moved_bias (owner_by nat_le (2 ^ 26)) → ⊥
no_first wrong = let e : false ≡ true = ap (λ (n : ℕ). n == 0) (wrong 0 4294967296 (omega arith) (omega arith)) in cc

no_lower : MovedAddressesBy lower_bias owner_at → ⊥
unfolding owner_at
no_lower wrong = let e : false ≡ true = ap (λ (n : ℕ). n == 0) (wrong 0 2147483648 (omega arith) (omega arith)) in cc

owner_copy : (place : ℕ) → owner_by nat_lt (2 ^ 26) place ≡ owner_at place
unfolding owner_at
owner_copy place = refl

pub places_refuted : PlacesAreRefuted
places_refuted = record {
  copy = owner_copy;
  instances_have_half_the_room = no_half;
  first_address_is_the_programs = no_first;
  instances_lie_lower = no_lower;
  blocks_end_in_ones = no_ones;
  blocks_end_early = no_early_end;
}
