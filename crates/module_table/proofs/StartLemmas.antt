-- The steps of the loops that make the tables.
use Rattle.std.proofs.Common.{◌≡◌, ℕ, suc, ◌+◌, ◌<◌, List, [], ◌∷◌, ◌++◌, length, get_or, take, sym, refl, ap, ◌∙◌}
use Rattle.std.proofs.Common.{arith}
use Rattle.std.proofs.lemmas.List.{take_more, length-take-le}
use Rattle.module_table.specs.declared.modules.ImageInfo.{ImageInfo}
use Rattle.module_table.specs.declared.modules.Module.{Module}
use Rattle.module_table.specs.Modules.{no_module}
use Rattle.module_table.specs.Past.{first_module, first_modules}

first_modules-push : (infos : List ImageInfo) (info : ImageInfo) (image : ℕ)
    → first_modules (infos ++ info ∷ []) image ≡ first_modules infos image ++ first_module info (image + length infos)
    ∷ []
first_modules-push [] info image = ap (λ (n : ℕ). first_module info n ∷ []) (omega arith)
first_modules-push (x ∷ infos) info image =
    ap (λ (ms : List Module). first_module x image ∷ ms)
    (first_modules-push infos info (image + 1)
    ∙ ap (λ (n : ℕ). first_modules infos (image + 1) ++ first_module info n ∷ []) (omega arith))

pub length-first_modules : (infos : List ImageInfo) (image : ℕ) → length (first_modules infos image) ≡ length infos
length-first_modules [] image = refl
length-first_modules (x ∷ infos) image = ap (λ (n : ℕ). suc n) (length-first_modules infos (image + 1))

-- the next image
pub first_modules_more : (infos : List ImageInfo) (i : ℕ) (d : ImageInfo) (modules : List Module) → i < length infos
    → modules ≡ no_module ∷ first_modules (take i infos) 1
    → modules ++ first_module (get_or infos i d) (i + 1) ∷ [] ≡ no_module ∷ first_modules (take (i + 1) infos) 1
first_modules_more infos i d modules l so_far =
    let at : i + 1 ≡ 1 + length (take i infos) = omega (arith, length-take-le i infos (omega arith)) in
    rw (so_far, take_more infos i d l)
    (ap (λ (ms : List Module). no_module ∷ ms)
    (ap (λ (n : ℕ). first_modules (take i infos) 1 ++ first_module (get_or infos i d) n ∷ []) at
    ∙ sym (first_modules-push (take i infos) (get_or infos i d) 1)))
