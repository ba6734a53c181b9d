-- The names of an image, as code holds them.
use Rattle.std.proofs.Common.{◌≡◌, ◌∙◌, ℕ, List, map, Bor, ap}
use Rattle.dynamic_symbols.specs.Names.{imports as imports_of, name_size}
use Rattle.link_faults.specs.declared.symbol_ref.SymbolRef.{SymbolRef}
use Rattle.link_needs.specs.Linking.{Linking}
use Rattle.link_tables.specs.Dynamic.{imports, own_symbols}

pub names_are : (l : Linking) (startup : List (List (List ℕ))) (slice keys : List (Bor (List ℕ))) → slice ≡ keys
    → map (λ name. name.now) keys ≡ imports_of l.objects startup l.sites → startup ≡ l.startup
    → map (λ name. name.now) slice ≡ imports l
names_are l startup slice keys same are beside =
    ap (map (λ (name : Bor (List ℕ)). name.now)) same
    ∙ (are ∙ ap (λ names. imports_of l.objects names l.sites) beside)

-- how much room they take
pub size_is : (l : Linking) (own : List SymbolRef) (names : List (List ℕ)) → own ≡ own_symbols l → names ≡ imports l
    → name_size l.objects own names ≡ name_size l.objects (own_symbols l) (imports l)
size_is l own names own_are names_are =
    ap (λ xs. name_size l.objects xs names) own_are ∙ ap (λ ys. name_size l.objects (own_symbols l) ys) names_are
