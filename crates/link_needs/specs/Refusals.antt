-- Which relocations are refused: those that no linker of static thread-local storage can fill in (psABI, "Relocation
-- Types"; Drepper, "ELF Handling For Thread-Local Storage", section 4).
use Rattle.std.specs.Prelude.{◌==◌, ◌&&◌, ℕ, Bool, true, false, Option, List}
use Rattle.elf_records.specs.declared.relocation.RelocationKind.{RelocationKind}
use Rattle.elf_records.specs.declared.relocation_row.Refused.{Refused}
use Rattle.elf_records.specs.declared.relocation_row.Refused.TheVariants.{InModule, WhereMoved}
use Rattle.elf_records.specs.declared.relocation_row.TableEntry.{TableEntry}
use Rattle.elf_records.specs.declared.relocation_row.TableEntry.TheVariants.{ModulePair, SymbolPair, Descriptor}
use Rattle.elf_records.specs.declared.relocation_row.TableEntry.TheVariants.{SymbolWord}
use Rattle.elf_records.specs.RelocationRows.{row}
use Rattle.link_faults.specs.declared.image_kind.ImageKind.{ImageKind}
use Rattle.link_faults.specs.declared.fault.LinkFaultKind.{LinkFaultKind}
use Rattle.link_faults.specs.declared.fault.LinkFaultKind.TheVariants.{LocalExecInModule, NarrowInModule}
use Rattle.link_faults.specs.declared.binding.Binding.{Binding}
use Rattle.link_faults.specs.Bindings.{is_here}
use Rattle.link_faults.specs.ImageKinds.{is_module, is_moved}
use Rattle.tls_symbols.specs.Bindings.{binding_of}
use Rattle.tls_symbols.specs.Faults.{Test, NoneCharged}

-- whether a type of relocation is refused, whatever its symbol is bound to: an offset from the thread pointer, which a
-- module's code can't know, and an address in 32 bits, which can't hold the address of an image that is moved
abbrev pub is_refused_by : LinkFaultKind → ImageKind → Refused → Bool
is_refused_by LocalExecInModule image InModule = is_module image
is_refused_by NarrowInModule image WhereMoved = is_moved image
is_refused_by fault image refused = false

abbrev pub is_refused : LinkFaultKind → ImageKind → RelocationKind → Bool
is_refused fault image type = is_refused_by fault image (row type).refused

-- whether a relocation asks for storage of the image itself, by its type and its binding: for the image's block
-- (TLSLD), for the descriptor of a variable in it, and in a module for a variable's pair of words or its offset
abbrev pub entry_asks_storage : ImageKind → TableEntry → Option Binding → Bool
entry_asks_storage image ModulePair bound = true
entry_asks_storage image SymbolPair bound = is_module image && is_here bound
entry_asks_storage image SymbolWord bound = is_module image && is_here bound
entry_asks_storage image Descriptor bound = is_here bound
entry_asks_storage image entry bound = false

abbrev pub asks_storage : ImageKind → RelocationKind → Option Binding → Bool
asks_storage image type bound = entry_asks_storage image (row type).entry bound

-- ** which fault is reported

-- the relocations that the image's kind refuses
abbrev pub by_type : LinkFaultKind → ImageKind → Test
by_type fault image o r = is_refused fault image r.kind

-- those that ask for storage of an image that has none; startup is what the startup images export
abbrev pub by_storage : List (List ℕ) → List (List (List ℕ)) → ImageKind → ℕ → Test
by_storage objects startup image size o r = (size == 0) && asks_storage image r.kind (binding_of objects startup o r)

-- ** the kind of the image

-- an image of this kind refuses no relocation
pub record FitsKind (objects : List (List ℕ)) (image : ImageKind) : Type 0 where
  pub no_local_exec : NoneCharged (by_type LocalExecInModule image) objects
  pub no_narrow : NoneCharged (by_type NarrowInModule image) objects

-- ** its thread-local storage

-- an image with this much storage refuses no relocation
abbrev pub FitsStorage : List (List ℕ) → List (List (List ℕ)) → ImageKind → ℕ → Type 0
FitsStorage objects startup image size = NoneCharged (by_storage objects startup image size) objects
