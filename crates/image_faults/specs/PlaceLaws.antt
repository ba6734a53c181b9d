-- What a read keeps of an image is what its bytes say.
use Rattle.std.specs.Prelude.{◌≡◌, ◌+◌, ◌*◌, ◌^◌, ◌<◌, ◌≤◌, ℕ, List, Some, length}
use Rattle.image_rules.specs.declared.places.Places.{Places}
use Rattle.image_faults.specs.Parts.{count, segment, loads, has_tls, tls_size}
use Rattle.image_faults.specs.Array.{strings_place, strings_size, symbols_place, symbol_count, relocations_place}
use Rattle.image_faults.specs.Array.{relocation_count, IsRightEntry}
use Rattle.image_rules.specs.declared.rule.EntryRule.TheVariants.{Hash, Strings, Symbols, Relocations}
use Rattle.elf_records.specs.Strings.{IsNamesEnd}
use Rattle.image_faults.specs.Places.{file_kind, is_flagged, got}

-- what the array says of the tables, once its entries are right
pub record AreRightTables (b : List ℕ) : Type 0 where
  pub hash : IsRightEntry Hash b
  pub strings : IsRightEntry Strings b
  pub symbols : IsRightEntry Symbols b
  pub relocations : IsRightEntry Relocations b

-- the relocations, if there are any, begin here, and lie in the file
pub record AreRelocationsAt (b : List ℕ) (at : ℕ) : Type 0 where
  pub here : 0 < relocation_count b → at ≡ relocations_place b
  pub inside : at + 24 * relocation_count b ≤ length b

-- the numbers are those of the image, and the tables lie in the file
pub record ArePlaces (b : List ℕ) (places : Places) : Type 0 where
  pub kind_is : places.kind ≡ file_kind b
  pub flagged_is : places.is_flagged ≡ is_flagged b
  pub got_is : places.got ≡ got b
  pub got_in : (n : ℕ) → places.got ≡ Some n → n < loads b
  pub loads_are : places.loads ≡ loads b
  pub headers_inside : 64 + 56 * count b ≤ length b
  pub few : count b ≤ 10
  pub loads_in : loads b < count b
  pub loads_inside : (i : ℕ) → i < count b → (segment b i).offset + (segment b i).filesz ≤ length b
  pub tls_is : places.has_tls ≡ has_tls b
  pub tls_size_is : places.tls_size ≡ tls_size b
  pub tls_small : tls_size b ≤ 2 ^ 20
  pub strings_are : places.strings ≡ strings_place b
  pub strings_size_is : places.strings_size ≡ strings_size b
  pub strings_inside : strings_place b + strings_size b ≤ length b
  pub names_end_is : IsNamesEnd b (strings_place b) (strings_size b) places.names_end
  pub symbols_are : places.symbols ≡ symbols_place b
  pub symbol_count_is : places.symbol_count ≡ symbol_count b
  pub symbols_inside : symbols_place b + 24 * symbol_count b ≤ length b
  pub relocation_count_is : places.relocation_count ≡ relocation_count b
  pub relocations_are : AreRelocationsAt b places.relocations
