-- Functions and variables by name, and the blocks, of a loaded image are what its objects say.
use Rattle.std.specs.Prelude.{◌≡◌, ◌+◌, ℕ, false, List, Some, map, option_map}
use Rattle.std.specs.List.{All}
use Rattle.elf_object.specs.declared.relocation.Relocation.{Relocation}
use Rattle.elf_object.specs.Lent.{symbol_name}
use Rattle.job_text.specs.LateImages.{LateLast, is_late}
use Rattle.link_faults.specs.declared.binding.Binding.TheVariants.{Startup}
use Rattle.link_faults.specs.declared.symbol_ref.SymbolRef.{SymbolRef}
use Rattle.link_needs.specs.Given.{IsGiven}
use Rattle.link_needs.specs.Linking.{Linking, binding, object, offset}
use Rattle.linked_modules.specs.Together.{AreTogether}
use Rattle.loaded_bytes.specs.Laws.{IsInstanceOf, images_of}
use Rattle.loaded_modules.specs.declared.instance.Instance.{Instance}
use Rattle.loaded_modules.specs.Loader.{export_of}
use Rattle.module_table.specs.Modules.{startup_end}
use Rattle.thread_blocks.specs.JobLoads.{job_loads}
use Rattle.thread_blocks.specs.Turns.{at_number}
use Rattle.tls_symbols.specs.Definitions.{definition_of}
use Rattle.whole_meaning.specs.Bytes.{function_of, variable_of}
use Rattle.whole_meaning.specs.Loads.{info_of, loads_of}
use Rattle.whole_meaning.specs.Spots.{bias_of}

-- ** blocks

-- sizes and alignments of blocks, and the images that need the surplus; with them, where the last startup image's
-- block begins
abbrev pub InfosAreLoaded : Type 0
InfosAreLoaded = (ls : List Linking) → ((job_loads (images_of ls)).infos ≡ map info_of ls)
    × ((job_loads (images_of ls)).last_offset ≡ startup_end (map info_of ls) 0)

-- ** functions

-- the address of a function is its definition's, plus the load bias
abbrev pub FunctionsAreLoaded : Type 0
FunctionsAreLoaded = (ls : List Linking) (l : Linking) (x : Instance) (name : List ℕ) → IsInstanceOf ls l x
    → (job_loads (images_of ls)).function x name
    ≡ option_map (λ at. at + bias_of l.kind x.number) (function_of l name)

-- ** variables

-- the offset of a variable in a block is its definition's in the TLS segment; the argument is an image's number
abbrev pub VariablesAreLoaded : Type 0
VariablesAreLoaded = (ls : List Linking) (l : Linking) (image : ℕ) (name : List ℕ)
    → at_number ls image ≡ Some l → IsGiven l
    → (job_loads (images_of ls)).variable image name ≡ variable_of l name

-- ** imports

-- image k is a startup image, and has a definition of the name; a loader finds that definition by the name, at the
-- same offset in a block of image k as in its TLS segment
pub record IsFoundIn (ls : List Linking) (name : List ℕ) (k : ℕ) : Type 0 where
  pub image : Linking
  pub at : at_number ls k ≡ Some image
  pub early : is_late image.kind ≡ false
  pub found : SymbolRef
  pub defined : definition_of image.objects name ≡ Some found
  pub shared : export_of (images_of ls) name ≡ Some (record { image = k; offset = offset image found })

-- a symbol that is bound to another image is found in that image
abbrev pub ImportsAreFound : Type 0
ImportsAreFound = (ls : List Linking) (l : Linking) (number o k : ℕ) (r : Relocation) → AreTogether ls
    → LateLast (map (λ l. l.kind) ls) → at_number ls number ≡ Some l → binding l o r ≡ Some (Startup k)
    → IsFoundIn ls (symbol_name (object l o) r.symbol) k

-- ** the job's meaning

-- for each instance
abbrev pub FunctionsAreMeant : Type 0
FunctionsAreMeant = (ls : List Linking) (l : Linking) (x : Instance) (name : List ℕ) → IsInstanceOf ls l x
    → (job_loads (images_of ls)).function x name ≡ (loads_of ls).function x name

-- for each number, also those that no image has
abbrev pub VariablesAreMeant : Type 0
VariablesAreMeant = (ls : List Linking) (image : ℕ) (name : List ℕ) → All IsGiven ls
    → (job_loads (images_of ls)).variable image name ≡ (loads_of ls).variable image name

-- for each job, whatever it links
abbrev pub InfosAreMeant : Type 0
InfosAreMeant = (ls : List Linking) → ((job_loads (images_of ls)).infos ≡ (loads_of ls).infos)
    × ((job_loads (images_of ls)).last_offset ≡ (loads_of ls).last_offset)
