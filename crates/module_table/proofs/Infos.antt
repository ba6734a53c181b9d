-- What the infos bound.
use Rattle.std.proofs.Common.{ℕ, length, sym, subst, arith, inl, inr}
use Rattle.std.proofs.lemmas.Bool.{cases_lt}
use Rattle.std.proofs.lemmas.List.{get_or_past}
use Rattle.module_table.specs.declared.modules.Module.{Module}
use Rattle.module_table.specs.Modules.{no_module, IsInfo}
use Rattle.module_table.specs.Past.{Past, module_of}
use Rattle.module_table.specs.Tables.{IsPast}

pub info_of : (p : Past) (image : ℕ) → IsPast p → IsInfo (module_of p image).info
info_of p image is = elim (cases_lt image (length p.modules)) [
  | inl l ↦ is.infos image no_module l
  | inr past ↦ subst (λ (m : Module). IsInfo m.info) (sym (get_or_past p.modules image no_module past))
      (record { small = omega arith; aligned = omega arith; page = omega arith })
]
