-- What code needs of the global offset table, where the table, the stub and each entry are (Drepper, "ELF Handling For
-- Thread-Local Storage", section 4; psABI, "Thread-Local Storage"), and which fields a loader fills in.
use Rattle.std.specs.Prelude.{◌+◌, ◌&&◌, ◌++◌, ℕ, Bool, true, false, List, [], ◌∷◌, Option, Some, None, filter}
use Rattle.std.specs.Prelude.{option_and_then, option_map, is_some, if◌then◌else◌, nat_le}
use Rattle.std.specs.List.{flat_map, list_any, range_with_len}
use Rattle.elf_records.specs.declared.relocation.RelocationKind.{RelocationKind}
use Rattle.elf_records.specs.declared.relocation_row.TableEntry.{TableEntry}
use Rattle.elf_records.specs.declared.relocation_row.TableEntry.TheVariants as entry
use Rattle.elf_records.specs.RelocationRows.{row}
pub use Rattle.elf_records.specs.RelocationRows.{is_address_kind}
use Rattle.elf_object.specs.declared.relocation.Relocation.{Relocation}
use Rattle.elf_object.specs.Lent.{relocations, symbol_name}
use Rattle.elf_object.specs.Object.{section_count}
use Rattle.sequence_match.specs.Sites.{first_of}
use Rattle.got_pairs.specs.declared.need.Need.{Need}
use Rattle.got_pairs.specs.declared.need.Need.TheVariants.{ModulePair, SymbolPair, Descriptor, SymbolWord, AddressWord}
use Rattle.got_pairs.specs.declared.need.Need.TheVariants.{RuntimeWord}
use Rattle.got_pairs.specs.declared.need.Target.{Target}
use Rattle.got_pairs.specs.declared.need.Target.TheVariants as target
use Rattle.got_pairs.specs.Needs.{entries as entries_of, start_of, total_size}
use Rattle.relax_sites.specs.declared.choices.Choice.{Choice}
use Rattle.relax_sites.specs.declared.choices.Choice.TheVariants.{Keep}
use Rattle.relax_sites.specs.declared.rows.NewField.{NewField}
use Rattle.relax_sites.specs.Rows.{new_field}
use Rattle.sequence_forms.specs.declared.forms.Form.{Form}
use Rattle.sequence_forms.specs.declared.forms.Form.TheVariants.{Gd, Ld, GdInd, LdInd}
use Rattle.sequence_forms.specs.declared.places.Site.{Site}
use Rattle.tls_layout.specs.Places.{room}
use Rattle.tls_layout.specs.Rounding.{page_up}
use Rattle.link_faults.specs.declared.binding.Binding.{Binding}
use Rattle.tls_symbols.specs.Definitions.{flat_map_from}
use Rattle.link_faults.specs.declared.binding.Binding.TheVariants.{Here, Startup, Runtime}
use Rattle.link_needs.specs.Linking.{Linking, address, binding, choice, layout, object, offset}
use Rattle.std.specs.Prelude.{option_to_list}

-- ** what a relocation reaches

-- the variable that a relocation of object o names
abbrev pub target_by : Linking → ℕ → ℕ → Option Binding → Option Target
target_by l o e (Some (Here found)) = Some (target.Here found (offset l found))
target_by l o e (Some (Startup image)) = Some (target.Import (symbol_name (object l o) e))
target_by l o e bound = None

-- the word with the address of a symbol of the image, or of the run time's function
abbrev pub address_need : Linking → Option Binding → Option Need
address_need l (Some (Here found)) = Some (AddressWord found (address l found))
address_need l (Some Runtime) = Some RuntimeWord
address_need l bound = None

-- the entry that a relocation's field reaches, by its type, and by the number and the binding of its symbol in object o
abbrev pub entry_need : Linking → ℕ → ℕ → Option Binding → TableEntry → Option Need
entry_need l o e bound entry.NoEntry = None
entry_need l o e bound entry.ModulePair = Some ModulePair
entry_need l o e bound entry.SymbolPair = option_map SymbolPair (target_by l o e bound)
entry_need l o e bound entry.Descriptor = option_map Descriptor (target_by l o e bound)
entry_need l o e bound entry.SymbolWord = option_map SymbolWord (target_by l o e bound)
entry_need l o e bound entry.AddressWord = address_need l bound

abbrev pub need_by : Linking → ℕ → ℕ → Option Binding → RelocationKind → Option Need
need_by l o e bound kind = entry_need l o e bound (row kind).entry

unfoldable pub relocation_need : Linking → ℕ → Relocation → Option Need
relocation_need l o r = need_by l o r.symbol (binding l o r) r.kind

-- ** what a sequence needs

-- the relocation of a field in the sequence that takes a site's place; its symbol is the site's
abbrev pub new_relocation : Site → NewField → Relocation
new_relocation site f =
    record { offset = site.start + f.at; kind = f.kind; symbol = site.symbol; addend = f.addend }

-- the relocation with which a site reaches its entry: its first one if it is kept, else that of the new field
abbrev pub reaching : Site → Choice → Option Relocation
reaching site Keep = Some (first_of site)
reaching site choice = option_map (new_relocation site) (new_field site.form choice)

-- a sequence of the forms that call the run time, directly or through its word
abbrev pub calls : Form → Bool
calls Gd = true
calls Ld = true
calls GdInd = true
calls LdInd = true
calls form = false

-- directly: through the stub
abbrev pub calls_stub : Form → Bool
calls_stub Gd = true
calls_stub Ld = true
calls_stub form = false

abbrev pub is_kept : Choice → Bool
is_kept Keep = true
is_kept choice = false

-- what a site of object o needs: its variable's entry, and the run time's word if it is kept and calls through it
unfoldable pub site_needs : Linking → ℕ → Site → List Need
site_needs l o site =
    option_to_list (option_and_then (relocation_need l o) (reaching site (choice l o site)))
    ++ (if is_kept (choice l o site) && calls site.form then RuntimeWord ∷ [] else [])

-- ** what other code needs: the addresses of symbols of the image

-- only of the image's own symbols: a call of the run time belongs to a site
abbrev pub own_word : Linking → Option Binding → List Need
own_word l (Some (Here found)) = AddressWord found (address l found) ∷ []
own_word l bound = []

abbrev pub address_needs : Linking → ℕ → Relocation → List Need
address_needs l o r = own_word l (binding l o r)

-- x, before the first element with at least its number
abbrev pub inserted : {X : Type 0} → (X → ℕ) → X → List X → List X
inserted number x [] = x ∷ []
inserted number x (y ∷ more) =
    if nat_le (number x) (number y) then x ∷ (y ∷ more) else y ∷ inserted number x more

-- the elements in the order of their numbers; those with one number keep their order
abbrev pub sorted_by : {X : Type 0} → (X → ℕ) → List X → List X
sorted_by number [] = []
sorted_by number (x ∷ more) = inserted number x (sorted_by number more)

-- the address fields of section t, in the order of their places
abbrev pub address_fields : List ℕ → ℕ → List Relocation
address_fields b t = sorted_by (λ r. r.offset) (filter (λ r. is_address_kind r.kind) (relocations b t))

abbrev pub section_needs : Linking → ℕ → List ℕ → ℕ → List Need
section_needs l o b t = flat_map (address_needs l o) (address_fields b t)

unfoldable pub object_needs : Linking → ℕ → List ℕ → List Need
object_needs l o b = flat_map (section_needs l o b) (range_with_len 0 (section_count b))

-- ** the table

-- the sites of each object, and then its other code
unfoldable pub needs : Linking → List Need
needs l = flat_map_from (λ o. flat_map (site_needs l o)) 0 l.sites ++ flat_map_from (object_needs l) 0 l.objects

-- the entries of the table
unfoldable pub entries : Linking → List Need
entries l = entries_of (needs l)

-- the table begins after all sections of objects, on a page of its own
abbrev pub got_start : Linking → ℕ
got_start l = room (layout l).kind (layout l).sections

abbrev pub got_size : Linking → ℕ
got_size l = total_size (entries l)

-- the address of the entry for a need; 0 if there is none
abbrev pub entry_by : Linking → Option ℕ → ℕ
entry_by l None = 0
entry_by l (Some at) = got_start l + at

abbrev pub need_address : Linking → Option Need → ℕ
need_address l need = entry_by l (option_and_then (start_of (entries l)) need)

-- whether the run time's function is called through its word
abbrev pub uses_runtime : Linking → Bool
uses_runtime l = is_some (start_of (entries l) RuntimeWord)

-- ** the stub: a jump through the run time's word, for direct calls

abbrev pub is_stub_call : Linking → ℕ → Site → Bool
is_stub_call l o site = is_kept (choice l o site) && calls_stub site.form

abbrev pub any_stub_call : Linking → ℕ → List (List Site) → Bool
any_stub_call l o [] = false
any_stub_call l o (own ∷ more) = if list_any (is_stub_call l o) own then true else any_stub_call l (o + 1) more

unfoldable pub has_stub : Linking → Bool
has_stub l = any_stub_call l 0 l.sites

-- the stub is on the page after the table
abbrev pub stub_start : Linking → ℕ
stub_start l = page_up (got_start l + got_size l)
