-- What a link keeps of its table, what each symbol of a relocation is bound to, what a relocation's field takes from
-- that, and what must hold of one site.
use Rattle.std.specs.Prelude.{◌≡◌, ℕ, Bool, List, true, false, Option, Some, length, map, if◌then◌else◌, ◌+◌, ◌<◌, ◌≤◌}
use Rattle.std.specs.Prelude.{◌^◌}
use Rattle.got_pairs.specs.Plans.{Table}
use Rattle.relax_sites.specs.declared.choices.Choice.{Choice}
use Rattle.link_needs.specs.declared.needs.AbsoluteField.{AbsoluteField}
use Rattle.link_needs.specs.declared.needs.OwnWanted.{OwnWanted}
use Rattle.link_needs.specs.Given.{FitsTable, IsGiven}
use Rattle.link_needs.specs.Linking.{Linking, choices_from, address, object, offset, sites_at}
use Rattle.link_needs.specs.Needs.{got_start, has_stub, object_needs, site_needs, stub_start}
use Rattle.link_needs.specs.NeedLaws.{absolutes, object_absolutes}
use Rattle.link_needs.specs.NeedLaws.{table}
use Rattle.link_needs.specs.declared.symbol_values.SymbolValue.{SymbolValue}
use Rattle.link_needs.specs.Values.{counts_from_thread_pointer, is_rewriting, goes_where}
use Rattle.std.specs.List.{flat_map, range_with_len}
use Rattle.elf_records.specs.declared.relocation.RelocationKind.{RelocationKind}
use Rattle.elf_records.specs.RelocationRows.{row, is_offset}
pub use Rattle.elf_records.specs.RowLaws.{reaches_entry}
use Rattle.elf_object.specs.Parts.{symbol_count}
use Rattle.link_faults.specs.declared.binding.Binding.{Binding}
use Rattle.link_faults.specs.declared.binding.Binding.TheVariants as bound
use Rattle.tls_symbols.specs.Bindings.{bound_to}
use Rattle.link_needs.specs.declared.symbol_values.SymbolValue.TheVariants.{Here, Runtime, Elsewhere}
use Rattle.elf_object.specs.Lent.{section_size}
use Rattle.relax_sites.specs.Rows.{form_length}
use Rattle.sequence_forms.specs.declared.places.Site.{Site}
use Rattle.link_needs.specs.Linking.{choice}

-- a site is in its section, its symbol is one of its object, and it has the bytes and a register of its form
pub record IsUsable (b : List ℕ) (site : Site) : Type 0 where
  pub symbol : site.symbol < symbol_count b
  pub inside : site.start + site.len ≤ section_size b site.section
  pub small : site.start + site.len ≤ 2 ^ 20
  pub whole : site.len ≡ form_length site.form
  pub register : site.reg ≤ 15

-- ** what one object needs

-- these belong to object o: what its sites need, what its address fields need, its absolute fields, and which sequences
-- take the places of its sites'
pub record AreOwn (l : Linking) (o : ℕ) (own : OwnWanted) : Type 0 where
  pub sites_are : own.sites.items ≡ flat_map (site_needs l o) (sites_at l o)
  pub fields_are : own.fields.items ≡ object_needs l o (object l o)
  pub absolutes_are : own.absolutes.items ≡ object_absolutes l o (object l o)
  pub choices_are : own.choices.items ≡ map (choice l o) (sites_at l o)

-- ** what a symbol is bound to

abbrev pub value_by : Linking → Option Binding → SymbolValue
value_by l (Some (bound.Here found)) = Here (address l found) (offset l found)
value_by l (Some bound.Runtime) = Runtime
value_by l other = Elsewhere

-- symbol e of object o, where it may not be another image's
unfoldable pub value_of : Linking → ℕ → ℕ → SymbolValue
value_of l o e = value_by l (bound_to l.objects l.startup o e false)

-- the symbols of object o, and those of all objects
abbrev pub values_of : Linking → ℕ → List SymbolValue
values_of l o = map (value_of l o) (range_with_len 0 (symbol_count (object l o)))

abbrev pub all_values : Linking → List (List SymbolValue)
all_values l = map (values_of l) (range_with_len 0 (length l.objects))

-- ** what a field takes from it

-- S, its address, or O, its offset in the TLS segment
abbrev pub number_by : Linking → RelocationKind → SymbolValue → ℕ
number_by l kind (Here place within) = if is_offset kind then within else place
number_by l kind Runtime = stub_start l
number_by l kind Elsewhere = 0

abbrev pub is_own : SymbolValue → Bool
is_own (Here place within) = true
is_own value = false

abbrev pub is_run_time : SymbolValue → Bool
is_run_time Runtime = true
is_run_time value = false

-- whether a relocation has no field once its sequence is rewritten, by its type and what its symbol is bound to
abbrev pub goes_by : SymbolValue → RelocationKind → Bool
goes_by value kind = goes_where (is_own value) (is_run_time value) (row kind).replaced

-- ** what is kept

-- these belong to the link: what its symbols are bound to, which sequences take the places of its sites, its absolute
-- fields, its table, where the table and the stub begin, whether there is a stub, whether sequences are rewritten, and
-- whether offsets count from the thread pointer
pub record IsPlan (l : Linking) (values : List (List SymbolValue)) (choices : List (List Choice))
    (fields : List AbsoluteField) (got : Table) (start stub : ℕ) (stubbed rewriting counting : Bool) : Type 0 where
  pub given : IsGiven l
  pub limits : FitsTable l
  pub values_are : values ≡ all_values l
  pub choices_are : choices ≡ choices_from l 0 l.sites
  pub absolutes_are : fields ≡ absolutes l
  pub got_is : got ≡ table l
  pub start_is : start ≡ got_start l
  pub stub_is : stub ≡ stub_start l
  pub stubbed_is : stubbed ≡ has_stub l
  pub rewriting_is : rewriting ≡ is_rewriting l
  pub counting_is : counting ≡ counts_from_thread_pointer l
