use Rattle.std.proofs.Common.{◌<◌, ℕ}
use Rattle.elf_object.specs.Noted.{all_relocations, roles_of}
use Rattle.tls_symbols.specs.Charges.{IsClear}
use Rattle.tls_symbols.proofs.charges.NameQuestionQuestion.may_be_in.Given as goal

-- no symbol so far has the fault
abbrev pub invariant-loop-symbol : goal.invariant-loop-symbol
invariant-loop-symbol l = (e : ℕ) → e < l.symbol → IsClear l.self l.number e (roles_of (all_relocations l.object) e)
