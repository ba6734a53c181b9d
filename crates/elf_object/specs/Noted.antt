-- What is known of an object's relocations without a look at each: in which roles they name a symbol, and what they
-- have among them.
use Rattle.std.specs.Prelude.{◌≡◌, ◌-◌, ◌<◌, ◌^◌, ◌==◌, ◌&&◌, ◌||◌, ℕ, ℤ, pos, negsuc, Bool, true, false, not, nat_lt}
use Rattle.std.specs.Prelude.{List, length, slice_index_or}
use Rattle.std.specs.List.{flat_map, list_any, range_with_len}
use Rattle.elf_records.specs.declared.relocation_row.FieldForm.{FieldForm}
use Rattle.elf_records.specs.declared.relocation_row.FieldForm.TheVariants.{Signed32, Unsigned32}
use Rattle.elf_records.specs.declared.relocation_row.Refused.{Refused}
use Rattle.elf_records.specs.declared.relocation_row.Refused.TheVariants.{InModule, WhereMoved}
use Rattle.elf_records.specs.declared.relocation_row.SymbolRole.{SymbolRole}
use Rattle.elf_records.specs.declared.relocation_row.SymbolRole.TheVariants.{Ordinary, OwnVariable, AnyVariable}
use Rattle.elf_records.specs.declared.relocation_row.TableEntry.{TableEntry}
use Rattle.elf_records.specs.declared.relocation_row.TableEntry.TheVariants.{ModulePair, SymbolPair, SymbolWord}
use Rattle.elf_records.specs.declared.relocation_row.TableEntry.TheVariants.{Descriptor}
use Rattle.elf_records.specs.RelocationRows.{row}
use Rattle.elf_object.specs.declared.relocation.Relocation.{Relocation}
use Rattle.elf_object.specs.declared.noted.Roles.{Roles}
use Rattle.elf_object.specs.declared.noted.Traits.{Traits}
use Rattle.elf_object.specs.Lent.{relocations}
use Rattle.elf_object.specs.Object.{section_count}

-- the relocations of the sections that linking keeps
unfoldable pub all_relocations : List ℕ → List Relocation
all_relocations b = flat_map (relocations b) (range_with_len 1 (section_count b - 1))

-- ** the roles of a symbol

abbrev pub is_ordinary : SymbolRole → Bool
is_ordinary Ordinary = true
is_ordinary role = false

abbrev pub is_own_variable : SymbolRole → Bool
is_own_variable OwnVariable = true
is_own_variable role = false

abbrev pub is_any_variable : SymbolRole → Bool
is_any_variable AnyVariable = true
is_any_variable role = false

-- whether one of the relocations names symbol e in such a role
abbrev pub is_named : (SymbolRole → Bool) → ℕ → List Relocation → Bool
is_named is_role e all = list_any (λ (r : Relocation). (r.symbol == e) && is_role (row r.kind).symbol) all

unfoldable pub roles_of : List Relocation → ℕ → Roles
roles_of all e = record {
  ordinary = is_named is_ordinary e all;
  own_variable = is_named is_own_variable e all;
  any_variable = is_named is_any_variable e all;
}

-- ** what relocations have among them

-- whether an addend may be too far from zero for a field of this form, wherever its symbol and its field are
abbrev pub is_far : FieldForm → ℤ → Bool
is_far Signed32 (pos n) = not (nat_lt n (2 ^ 30))
is_far Signed32 (negsuc n) = not (nat_lt n (2 ^ 30))
is_far Unsigned32 (pos n) = not (nat_lt n (2 ^ 30))
is_far Unsigned32 (negsuc n) = true
is_far form a = false

abbrev pub has_far_addend : Relocation → Bool
has_far_addend r = is_far (row r.kind).form r.addend

abbrev pub is_in_module : Refused → Bool
is_in_module InModule = true
is_in_module refused = false

abbrev pub is_where_moved : Refused → Bool
is_where_moved WhereMoved = true
is_where_moved refused = false

-- whether an entry of the global offset table is for thread-local storage
abbrev pub reaches_storage : TableEntry → Bool
reaches_storage ModulePair = true
reaches_storage SymbolPair = true
reaches_storage SymbolWord = true
reaches_storage Descriptor = true
reaches_storage entry = false

unfoldable pub traits_of : List Relocation → Traits
traits_of all = record {
  in_module = list_any (λ (r : Relocation). is_in_module (row r.kind).refused) all;
  where_moved = list_any (λ (r : Relocation). is_where_moved (row r.kind).refused) all;
  reaches_storage = list_any (λ (r : Relocation). reaches_storage (row r.kind).entry) all;
  is_wide = list_any has_far_addend all;
}

-- ** one relocation more

abbrev pub with_role : Roles → SymbolRole → Roles
with_role roles role = record {
  ordinary = roles.ordinary || is_ordinary role;
  own_variable = roles.own_variable || is_own_variable role;
  any_variable = roles.any_variable || is_any_variable role;
}

abbrev pub with_traits : Traits → Relocation → Traits
with_traits traits r = record {
  in_module = traits.in_module || is_in_module (row r.kind).refused;
  where_moved = traits.where_moved || is_where_moved (row r.kind).refused;
  reaches_storage = traits.reaches_storage || reaches_storage (row r.kind).entry;
  is_wide = traits.is_wide || has_far_addend r;
}

-- ** what the reader keeps

-- these are the roles of the first symbols
abbrev pub AreRoles : List Relocation → List Roles → Type 0
AreRoles all roles = (e : ℕ) (d : Roles) → e < length roles → slice_index_or roles e d ≡ roles_of all e

-- the notes are of these relocations, and have a place for each of the symbols
pub record AreNoted (symbols : ℕ) (all : List Relocation) (roles : List Roles) (traits : Traits) : Type 0 where
  pub len : length roles ≡ symbols
  pub roles_are : AreRoles all roles
  pub traits_are : traits ≡ traits_of all
