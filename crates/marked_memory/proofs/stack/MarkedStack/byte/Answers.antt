-- A byte that is kept, or one of those that are all alike.
use Rattle.std.proofs.Common.{◌∙◌, List, ap, sym, slice_get}
use Rattle.job_meaning.specs.declared.values.Byte.{Byte}
use Rattle.marked_memory.proofs.Stacks.{byte_deep, byte_kept, byte_past}
use Rattle.marked_memory.proofs.stack.MarkedStack.byte.Goals as goal

pub returns-then-within-self : goal.returns-then-within-self
returns-then-within-self c =
    sym (byte_past c.self.inside.size c.self.inside.deep c.self.inside.top.items c.self.invariant.within c.args.within c.if-within-self.true)
    ∙ ap (λ (xs : List Byte). slice_get xs c.args.within) c.self.view_is

pub returns-in-Some : goal.returns-in-Some
returns-in-Some c =
    sym (byte_kept c.self.inside.size c.self.inside.deep c.self.inside.top.items c.self.invariant.within c.args.within c.in-Some.byte
    c.if-within-self.false (sym c.kept_byte.ensures ∙ c.in-Some.is))
    ∙ ap (λ (xs : List Byte). slice_get xs c.args.within) c.self.view_is

pub returns-in-None : goal.returns-in-None
returns-in-None c =
    sym (byte_deep c.self.inside.size c.self.inside.deep c.self.inside.top.items c.self.invariant.within c.args.within
    c.if-within-self.false (sym c.kept_byte.ensures ∙ c.in-None.is))
    ∙ ap (λ (xs : List Byte). slice_get xs c.args.within) c.self.view_is
