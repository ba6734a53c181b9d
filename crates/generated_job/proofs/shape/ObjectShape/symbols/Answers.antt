use Rattle.std.proofs.Common.{Vec, Global, ap, ◌∙◌}
use Rattle.elf_records.specs.declared.symbol.SymbolEntry.{SymbolEntry}
use Rattle.generated_job.specs.Drafts.{shape_held}
use Rattle.generated_job.proofs.Parts.{symbols_calling, symbols_plain}
use Rattle.generated_job.proofs.shape.ObjectShape.symbols.Goals as goal
use Rattle.generated_job.proofs.shape.ObjectShape.symbols.Goals.{then-self+in_ok-push, else-self}

pub returns : goal.returns
returns c = elim c.if-self.branch [
  | then-self+in_ok-push w ↦ ap (λ (v : Vec SymbolEntry Global). v.items) w.symbols-is
      ∙ symbols_calling (shape_held c.args.self.now) _ _ _ _ _ _ c.in_ok-symbols.ensures.items w.in_ok-push.ensures.items
      c.symbol_of.ensures c.symbol_of-2.ensures c.symbol_of-3.ensures w.symbol_of-then-self.ensures w.if-self.true
  | else-self w ↦ ap (λ (v : Vec SymbolEntry Global). v.items) w.symbols-is
      ∙ symbols_plain (shape_held c.args.self.now) _ _ _ _ c.in_ok-symbols.ensures.items
      c.symbol_of.ensures c.symbol_of-2.ensures c.symbol_of-3.ensures w.if-self.false
]
