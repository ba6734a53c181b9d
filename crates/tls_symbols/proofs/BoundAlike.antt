-- A binding asks of a relocation its symbol, and of its type whether it may import.
use Rattle.std.proofs.Common.{◌≡◌, ℕ, List, refl}
use Rattle.elf_object.specs.declared.relocation.Relocation.{Relocation}
use Rattle.tls_symbols.specs.Bindings.{binding_of, may_import}

pub bound_alike : (objects : List (List ℕ)) (startup : List (List (List ℕ))) (o : ℕ) (r s : Relocation)
    → r.symbol ≡ s.symbol → may_import r.kind ≡ may_import s.kind
    → binding_of objects startup o r ≡ binding_of objects startup o s
bound_alike objects startup o r s symbol may = rw (symbol, may) refl
