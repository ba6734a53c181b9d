-- The results of the table of shared symbols.
use Rattle.std.specs.Borrow.{Bor}
use Rattle.std.specs.HashMap.{HashMap, get_by}
use Rattle.std.specs.Prelude.{◌&&◌, ℕ, List, Option, Some, None, if◌then◌else◌}
use Rattle.std.specs.Str.{bytes_eq}
use Rattle.image_file.specs.declared.symbol.ImageSymbol.{ImageSymbol}
use Rattle.loaded_modules.specs.declared.exports.Export.{Export}
use Rattle.loaded_modules.specs.Loader.{is_shared}

-- the place of the symbol of this name
abbrev pub found : {S : Type 0} → HashMap (Bor (List ℕ)) Export S → List ℕ → Option Export
found by_name name = get_by (λ key. bytes_eq name key.now) by_name

-- what one symbol shares under a name
abbrev pub shared_at : List ℕ → Option ImageSymbol → Option (List ℕ) → Option ℕ
shared_at name None own = None
shared_at name (Some symbol) None = None
shared_at name (Some symbol) (Some own) = if is_shared symbol && bytes_eq name own then Some symbol.value else None
