-- A definition is a variable of the image where it stands in a section of thread-local storage, and else none.
use Rattle.std.proofs.Common.{◌≡◌, ◌∙◌, ℕ, Bool, true, false, List, Option, Some, None, refl, ap}
use Rattle.std.specs.Prelude.{option_and_then, option_map, if◌then◌else◌}
use Rattle.dynamic_symbols.specs.Laws.{IsShared}
use Rattle.elf_object.specs.Lent.{symbol_type}
use Rattle.elf_records.specs.declared.symbol.SymbolType.TheVariants.{Tls}
use Rattle.image_file.specs.Spelled.{Spelled}
use Rattle.image_names.specs.declared.variable.Variable.{Variable}
use Rattle.elf_records.specs.Symbols.{is_tls}
use Rattle.image_names.specs.Variables.{variable_in, variable_place}
use Rattle.link_core.specs.Dynamic.{defined}
use Rattle.link_core.specs.Images.{image_of}
use Rattle.link_faults.specs.declared.symbol_ref.SymbolRef.{SymbolRef}
use Rattle.link_needs.specs.Given.{IsGiven}
use Rattle.link_needs.specs.Linking.{Linking, address, object, offset}
use Rattle.loaded_names.proofs.Images.{image_is}
use Rattle.thread_blocks.specs.JobLoads.{job_loads}
use Rattle.tls_symbols.specs.Bindings.{is_tls_symbol}
use Rattle.tls_symbols.specs.Definitions.{definition_of}
use Rattle.whole_meaning.specs.Bytes.{variable_at, variable_of}
use Rattle.loaded_names.specs.Laws.{VariablesAreLoaded}
use Rattle.loaded_names.proofs.Defined.{definition_shared}
use Rattle.loaded_names.proofs.Named.{Reads, read_named}
use Rattle.loaded_names.proofs.Symbols.{placed_in}

foreign_none : Reads variable_place
foreign_none symbol undefined = rw undefined refl

abbrev offset_in : Option Variable → Option ℕ
offset_in found = option_map (λ (v : Variable). v.offset) found

module _ (l : Linking) (given : IsGiven l) where
  variable_alike : (found : SymbolRef) → IsShared l.objects found
      → offset_in (variable_place (defined l found)) ≡ variable_at l found
  unfolding defined
  variable_alike found shares = of_test (is_tls_symbol (object l found.object) found.symbol) refl
    where
      of_test : (t : Bool) → is_tls_symbol (object l found.object) found.symbol ≡ t
          → offset_in (if is_tls
          (if t then Tls else symbol_type (object l found.object) found.symbol)
          then Some (record { offset = (if t then offset l found else address l found) })
          else None)
          ≡ (if t then Some (offset l found) else None)
      of_test true is = refl
      of_test false other = rw ((placed_in l given found shares).not_tls other) refl

  variable_is : (name : List ℕ) → offset_in (variable_in (image_of l) name) ≡ variable_of l name
  unfolding variable_in variable_of
  variable_is name =
      ap offset_in (read_named l name variable_place foreign_none) ∙ of_definition (definition_of l.objects name) refl
    where
      of_definition : (found : Option SymbolRef) → definition_of l.objects name ≡ found
          → offset_in (option_and_then variable_place (option_map (defined l) found))
          ≡ option_and_then (variable_at l) found
      of_definition None is = refl
      of_definition (Some found) is = variable_alike found (definition_shared l.objects name found is)

-- the law
pub variables_loaded : VariablesAreLoaded
unfolding job_loads
variables_loaded ls l image name is given =
    ap (λ found. offset_in (option_and_then (λ (image : Spelled). variable_in image name) found))
    (image_is ls l image is)
    ∙ variable_is l given name
