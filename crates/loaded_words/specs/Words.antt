-- The words of the global offset table of a loaded instance, a line for each kind of entry (Drepper, "ELF Handling For
-- Thread-Local Storage", sections 3 and 4; psABI, "Relocation Types").
use Rattle.std.specs.Prelude.{◌+◌, ◌*◌, ◌^◌, ℕ, List, [], ◌∷◌, Option, Some, None, unwrap_or}
use Rattle.address_map.specs.Map.{descriptor_place, getter_place}
use Rattle.got_pairs.specs.declared.need.Need.{Need}
use Rattle.got_pairs.specs.declared.need.Need.TheVariants.{ModulePair, SymbolPair, Descriptor, SymbolWord}
use Rattle.got_pairs.specs.declared.need.Need.TheVariants.{AddressWord, RuntimeWord}
use Rattle.got_pairs.specs.declared.need.Target.{Target}
use Rattle.got_pairs.specs.declared.need.Target.TheVariants.{Here, Import}
use Rattle.got_pairs.specs.Entries.{less}
use Rattle.link_faults.specs.declared.image_kind.ImageKind.{ImageKind}
use Rattle.loaded_modules.specs.declared.exports.Export.{Export}
use Rattle.loaded_modules.specs.declared.instance.Instance.{Instance}
use Rattle.loaded_modules.specs.Images.{JobImages, static_offset}
use Rattle.loaded_modules.specs.Loader.{export_of}
use Rattle.whole_meaning.specs.Spots.{bias_of}

-- ** variables

-- the id of the module that has a variable, its offset in each block of that module, and the distance from the block
-- up to the thread pointer, if it is fixed
pub record Variable : Type 0 where
  pub id : ℕ
  pub offset : ℕ
  pub distance : ℕ

-- the variable of a name, by the first startup image that exports it: such an image's id is its number
abbrev pub exported : JobImages → Option Export → Variable
exported m None = record { id = 0; offset = 0; distance = 0 }
exported m (Some e) = record { id = e.image; offset = e.offset; distance = static_offset m e.image }

-- m: the images of the job; kind: the kind of image; x: an instance of it
module _ (m : JobImages) (kind : ImageKind) (x : Instance) where
  -- a variable of the image belongs to the instance itself
  abbrev pub variable_of : Target → Variable
  variable_of (Here s o) = record { id = x.id; offset = o; distance = unwrap_or x.offset 0 }
  variable_of (Import n) = exported m (export_of m n)

  -- ** the words of an entry

  -- the argument of `__tls_get_addr`
  abbrev pub pair_of : Variable → List ℕ
  pair_of v = v.id ∷ v.offset ∷ []

  -- the address of the run time's function for descriptors, and both numbers in one word
  abbrev pub descriptor_of : Variable → List ℕ
  descriptor_of v = descriptor_place ∷ (v.id * 2 ^ 32 + v.offset) ∷ []

  -- the distance of the variable from the thread pointer, modulo 2^64
  abbrev pub distance_of : Variable → List ℕ
  distance_of v = less v.offset v.distance ∷ []

  abbrev pub loaded_words : Need → List ℕ
  loaded_words ModulePair = x.id ∷ 0 ∷ []
  loaded_words (SymbolPair t) = pair_of (variable_of t)
  loaded_words (Descriptor t) = descriptor_of (variable_of t)
  loaded_words (SymbolWord t) = distance_of (variable_of t)
  loaded_words (AddressWord s p) = (p + bias_of kind x.number) ∷ []
  loaded_words RuntimeWord = getter_place ∷ []
