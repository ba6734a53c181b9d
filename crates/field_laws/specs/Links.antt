-- The letters of a relocation in a link. It watches `own_number`, `number_beside`, `counts_from_thread_pointer` and
-- `field` (link_needs), and shares no name with them.
use Rattle.std.specs.Prelude.{◌≡◌, ◌⊎◌, ◌↔◌, ◌<◌, ℕ, true, Option, Some, length}
use Rattle.std.specs.List.{Any, Contains}
use Rattle.elf_object.specs.declared.relocation.Relocation.{Relocation}
use Rattle.elf_object.specs.Lent.{relocations}
use Rattle.elf_records.specs.Relocations.{relocation_kind}
use Rattle.link_faults.specs.declared.binding.Binding.{Binding}
use Rattle.link_faults.specs.declared.binding.Binding.TheVariants.{Here, Runtime}
use Rattle.link_faults.specs.declared.image_kind.ImageKind.TheVariants.{Exe, Pie}
use Rattle.link_faults.specs.declared.symbol_ref.SymbolRef.{SymbolRef}
use Rattle.link_needs.specs.Linking.{Linking, address, binding, block_offset, object, offset, place}
use Rattle.link_needs.specs.Needs.{need_address, relocation_need, stub_start}
use Rattle.link_needs.specs.Values.{field}
use Rattle.sequence_forms.specs.declared.forms.Form.TheVariants.{Ld, LdInd}
use Rattle.sequence_forms.specs.declared.places.Site.{Site}
use Rattle.tls_relocs.specs.declared.fields.Field.{Field}
use Rattle.tls_symbols.specs.Faults.{AreResolved}
use Rattle.field_laws.specs.Table.{Letters, IsAnswer}

-- local dynamic code asks for the start of the module's block
abbrev pub IsLocalDynamic : Site → Type 0
IsLocalDynamic site = (site.form ≡ Ld) ⊎ (site.form ≡ LdInd)

-- some of it becomes local exec, which finds the thread pointer instead (Drepper, section 5.3): in a program, where
-- rewriting is asked for
pub record LosesLocalDynamic (l : Linking) : Type 0 where
  pub program : (l.kind ≡ Exe) ⊎ (l.kind ≡ Pie)
  pub relax : l.relax ≡ true
  pub some : Any (λ own. Any IsLocalDynamic own) l.sites

-- the letters of a relocation of section t of object o
pub record AreLetters (l : Linking) (o t : ℕ) (r : Relocation) (letters : Letters) : Type 0 where
  pub addend : letters.A ≡ r.addend
  pub field : letters.P ≡ place l o t r.offset
  pub entry : letters.G ≡ need_address l (relocation_need l o r)
  -- a symbol of the image
  pub own : (found : SymbolRef) → binding l o r ≡ Some (Here found)
      → (letters.S ≡ address l found) × (letters.O ≡ offset l found)
  -- the run time's function is called through a stub
  pub runtime : binding l o r ≡ Some Runtime → letters.S ≡ stub_start l
  pub block : letters.B ≡ block_offset l
  pub moved : LosesLocalDynamic l → letters.D ≡ block_offset l
  pub unmoved : (LosesLocalDynamic l → ⊥) → letters.D ≡ 0

-- the types that take S, and those that take O
abbrev pub TakesAddress : ℕ → Type 0
TakesAddress number = (number ≡ 1) ⊎ (number ≡ 2) ⊎ (number ≡ 4) ⊎ (number ≡ 10) ⊎ (number ≡ 11)

abbrev pub TakesOffset : ℕ → Type 0
TakesOffset number = (number ≡ 21) ⊎ (number ≡ 23)

-- what the symbol is bound to has the letters that the type takes
abbrev pub HasLetters : ℕ → Option Binding → Type 0
HasLetters number (Some (Here found)) = Unit {0}
HasLetters number (Some Runtime) = TakesOffset number → ⊥
HasLetters number bound = TakesAddress number ⊎ TakesOffset number → ⊥

-- what a link stores in a field is the only answer for these letters
abbrev pub LinksStoreFields : Type 0
LinksStoreFields = (l : Linking) (o t : ℕ) (r : Relocation) (number : ℕ) (letters : Letters) (answer : Option Field)
    → relocation_kind number ≡ Some r.kind → AreLetters l o t r letters → HasLetters number (binding l o r)
    → (field l o t r ≡ answer) ↔ IsAnswer number letters answer

-- each relocation has its letters
abbrev pub LettersAreThere : Type 0
LettersAreThere = (l : Linking) (o t : ℕ) (r : Relocation) → (letters : Letters) × AreLetters l o t r letters

-- so for each relocation of a section that linking keeps, if the names of the link have no fault
abbrev pub ResolvedLinksStoreFields : Type 0
ResolvedLinksStoreFields = (l : Linking) (o t : ℕ) (r : Relocation) (number : ℕ) (letters : Letters)
    (answer : Option Field)
    → AreResolved l.objects l.startup → o < length l.objects → Contains (relocations (object l o) t) r
    → relocation_kind number ≡ Some r.kind → AreLetters l o t r letters
    → (field l o t r ≡ answer) ↔ IsAnswer number letters answer
