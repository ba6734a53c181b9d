-- What code reaches through the global offset table has an entry there.
use Rattle.std.specs.Prelude.{◌≡◌, ◌<◌, ℕ, true, false, Some, length}
use Rattle.std.specs.List.{Contains}
use Rattle.elf_object.specs.declared.relocation.Relocation.{Relocation}
use Rattle.elf_object.specs.Lent.{relocations}
use Rattle.elf_object.specs.Object.{section_count}
use Rattle.got_pairs.specs.declared.need.Need.{Need}
use Rattle.got_pairs.specs.declared.need.Need.TheVariants.{AddressWord, RuntimeWord}
use Rattle.got_pairs.specs.Needs.{start_of}
use Rattle.link_faults.specs.declared.binding.Binding.TheVariants.{Here}
use Rattle.link_faults.specs.declared.symbol_ref.SymbolRef.{SymbolRef}
use Rattle.relax_sites.specs.declared.rows.NewField.{NewField}
use Rattle.relax_sites.specs.Rows.{new_field}
use Rattle.sequence_forms.specs.declared.forms.Call.TheVariants.{Direct}
use Rattle.sequence_forms.specs.declared.forms.Second.{Second}
use Rattle.sequence_forms.specs.declared.places.Site.{Site}
use Rattle.sequence_forms.specs.Forms.{row}
use Rattle.sequence_match.specs.Sites.{first_of}
use Rattle.link_needs.specs.Given.{IsGiven}
use Rattle.link_needs.specs.Linking.{Linking, address, binding, choice, object, sites_at}
use Rattle.link_needs.specs.Needs.{entries, has_stub, is_address_kind, is_kept, needs, new_relocation}
use Rattle.link_needs.specs.Needs.{relocation_need}

-- an entry of the table serves the need, and begins this many bytes after the table's start
pub record HasEntry (l : Linking) (need : Need) : Type 0 where
  pub at : ℕ
  pub starts : start_of (entries l) need ≡ Some at

abbrev pub NeedsHaveEntries : Type 0
NeedsHaveEntries = (l : Linking) (need : Need) → Contains (needs l) need → HasEntry l need

-- what a sequence of object o reaches: if it is kept, with its first relocation; if it is rewritten, with the
-- relocation of its new field; and the run time's function, if a call of it is kept, through its word or through the
-- stub
pub record ReachesEntries (l : Linking) (o : ℕ) (site : Site) : Type 0 where
  pub first : is_kept (choice l o site) ≡ true → (need : Need) → relocation_need l o (first_of site) ≡ Some need
      → HasEntry l need
  pub new : is_kept (choice l o site) ≡ false → (f : NewField) → new_field site.form (choice l o site) ≡ Some f
      → (need : Need) → relocation_need l o (new_relocation site f) ≡ Some need → HasEntry l need
  pub word : is_kept (choice l o site) ≡ true → (call : Second) → (row site.form).second ≡ Some call
      → HasEntry l RuntimeWord
  pub stub : is_kept (choice l o site) ≡ true → (call : Second) → (row site.form).second ≡ Some call
      → call.call ≡ Direct → has_stub l ≡ true

abbrev pub SitesReachEntries : Type 0
SitesReachEntries = (l : Linking) (o : ℕ) (site : Site) → IsGiven l → o < length l.objects
    → Contains (sites_at l o) site → ReachesEntries l o site

-- what an address field of section t reaches
abbrev pub FieldsReachEntries : Type 0
FieldsReachEntries = (l : Linking) (o t : ℕ) (r : Relocation) (found : SymbolRef) → o < length l.objects
    → t < section_count (object l o) → Contains (relocations (object l o) t) r → is_address_kind r.kind ≡ true
    → binding l o r ≡ Some (Here found) → HasEntry l (AddressWord found (address l found))

-- if there is a stub, there is the word that it jumps through
abbrev pub StubsHaveTheirWord : Type 0
StubsHaveTheirWord = (l : Linking) → has_stub l ≡ true → HasEntry l RuntimeWord
