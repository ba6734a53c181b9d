-- A thread-local symbol of an image that the image does not define has the name of an import.
use Rattle.std.proofs.Common.{◌≡◌, ◌≢◌, ◌<◌, ℕ, zero, suc, Bool, true, false, List, [], ◌∷◌, ◌++◌}
use Rattle.std.proofs.Common.{inl, inr, length, map, unwrap_or, refl, arith}
use Rattle.std.specs.Prelude.{slice_get, slice_index_or}
use Rattle.std.specs.List.{All, AllZip}
use Rattle.std.proofs.lemmas.List.Elements.{All-head, All-tail, All-weaker}
use Rattle.image_faults.specs.declared.loader_kind.LoaderKind.{LoaderKind}
use Rattle.image_faults.specs.declared.loader_kind.LoaderKind.TheVariants as loader
use Rattle.image_file.specs.declared.relocation.ImageRelocation.{ImageRelocation}
use Rattle.image_file.specs.declared.symbol.ImageSymbol.{ImageSymbol}
use Rattle.elf_records.specs.declared.symbol.SymbolType.TheVariants.{Tls}
use Rattle.image_writer.specs.Contents.{Contents, null_symbol}
use Rattle.image_writer.specs.Linkable.{IsImport, IsRightRelocation, MayName}
use Rattle.image_writer.specs.Tables.{finished}
use Rattle.link_faults.specs.declared.symbol_ref.SymbolRef.{SymbolRef}
use Rattle.dynamic_symbols.specs.Names.{name_of as name_in}
use Rattle.link_needs.specs.Given.{IsGiven}
use Rattle.link_needs.specs.Linking.{Linking}
use Rattle.link_needs.specs.Needs.{uses_runtime}
use Rattle.link_core.specs.Dynamic.{defined, foreign, imports, names, own_symbols, runtime_names, runtime_symbols}
use Rattle.link_core.specs.Dynamic.{symbols}
use Rattle.link_core.specs.Faults.{IsSound}
use Rattle.link_core.specs.Images.{contents, image_of}
use Rattle.link_core.proofs.Linkable.{linkable}
use Rattle.loaded_modules.specs.Loader.{name_of}

-- a relocation with a symbol names an import, or the function of the run time
import_of : (c : Contents) (kind : LoaderKind) (k : ℕ) → MayName c kind k → k ≢ 0 → kind ≢ loader.JumpSlot
    → IsImport c k
import_of c loader.JumpSlot k names some other = absurd (other refl)
import_of c loader.Relative k names some other = absurd (some names)
import_of c loader.Module k (inl none) some other = absurd (some none)
import_of c loader.Module k (inr import) some other = import
import_of c loader.ModuleOffset k names some other = names
import_of c loader.ThreadOffset k (inl none) some other = absurd (some none)
import_of c loader.ThreadOffset k (inr import) some other = import
import_of c loader.Descriptor k (inl none) some other = absurd (some none)
import_of c loader.Descriptor k (inr import) some other = import

module _ (l : Linking) (P : List ℕ → Type 0) (all : All P (imports l)) where
  -- the name of a thread-local symbol that is not defined
  abbrev IsKnown : ImageSymbol → List ℕ → Type 0
  IsKnown s name = s.is_defined ≡ false → s.kind ≡ Tls → P name

  own_known : (own : List SymbolRef) (more : List ImageSymbol) (others : List (List ℕ)) → AllZip IsKnown more others
      → AllZip IsKnown (map (defined l) own ++ more) (map (name_in l.objects) own ++ others)
  unfolding defined
  own_known [] more others rest = rest
  own_known (found ∷ own) more others rest = (λ none tls. absurd (cc), own_known own more others rest)

  imports_known : (given : List (List ℕ)) (more : List ImageSymbol) (others : List (List ℕ)) → All P given
      → AllZip IsKnown more others
      → AllZip IsKnown (map (λ (name : List ℕ). foreign Tls) given ++ more) (given ++ others)
  imports_known [] more others are rest = rest
  imports_known (name ∷ given) more others are rest =
      (λ none tls. All-head P name given are, imports_known given more others (All-tail P name given are) rest)

  runtime_known : (uses : Bool) → AllZip IsKnown (runtime_symbols uses) (runtime_names uses)
  runtime_known true = (λ none tls. absurd (cc), tt)
  runtime_known false = tt

  all_known : AllZip IsKnown (null_symbol ∷ symbols l) ([] ∷ names l)
  unfolding symbols names
  all_known = (
    λ none tls. absurd (cc),
    own_known (own_symbols l) _ _ (imports_known (imports l) _ _ all (runtime_known (uses_runtime l))),
  )

  known_at : (ss : List ImageSymbol) (ns : List (List ℕ)) → AllZip IsKnown ss ns → (k : ℕ) (d : ImageSymbol)
      → k < length ss → (slice_index_or ss k d).is_defined ≡ false → (slice_index_or ss k d).kind ≡ Tls
      → P (unwrap_or (slice_get ns k) [])
  known_at [] ns are k d below none tls = absurd (omega (arith, below))
  known_at (s ∷ ss) [] are k d below none tls = absurd are
  known_at (s ∷ ss) (n ∷ ns) are zero d below none tls = are.0 none tls
  known_at (s ∷ ss) (n ∷ ns) are (suc k) d below none tls = known_at ss ns are.1 k d (omega (arith, below)) none tls

  -- what holds of all imports holds of what a relocation names
  abbrev pub Names : ImageRelocation → Type 0
  Names r = r.symbol ≢ 0 → r.kind ≢ loader.JumpSlot → P (name_of (image_of l) r.symbol)

  right_named : (r : ImageRelocation) → IsRightRelocation (contents l) r → Names r
  unfolding image_of finished contents
  right_named r right some other =
      let import = import_of (contents l) r.kind r.symbol right.names some other in
      known_at (null_symbol ∷ symbols l) ([] ∷ names l) all_known r.symbol null_symbol (omega (arith, right.symbol_in))
      import.1 import.2

  pub relocations_named : IsGiven l → IsSound l → All Names (image_of l).relocations
  unfolding image_of finished
  relocations_named given sound =
      All-weaker (IsRightRelocation (contents l)) Names right_named (contents l).relocations
      (linkable l given sound).relocations
