-- What is kept is cut, and nothing is known below.
use Rattle.std.proofs.Common.{◌∙◌, ◌≤◌, ◌-◌, List, length, take, ap, sym, subst, refl}
use Rattle.job_meaning.specs.declared.values.Byte.{Byte}
use Rattle.job_meaning.specs.declared.values.Byte.TheVariants.{Hidden}
use Rattle.whole_meaning.specs.Threads.{hidden_below}
use Rattle.marked_memory.specs.Stacks.{stack_of}
use Rattle.marked_memory.proofs.Stacks.{hide_is, long}
use Rattle.marked_memory.proofs.stack.MarkedStack.hide.Goals as goal

pub overflow_sub-rest : goal.overflow_sub-rest
overflow_sub-rest c =
    subst (λ n. c.args.count ≤ n)
    (ap (λ (xs : List Byte). length xs) (sym c.self.view_is)
    ∙ long c.self.inside.size c.self.inside.deep c.self.inside.top.items c.self.invariant.within)
    c.requires

pub returns : goal.returns
returns c =
    let low : c.args.count ≤ c.self.inside.size =
    subst (λ n. c.args.count ≤ n)
    (ap (λ (xs : List Byte). length xs) (sym c.self.view_is)
    ∙ long c.self.inside.size c.self.inside.deep c.self.inside.top.items c.self.invariant.within)
    c.requires
    in
    ap (λ (xs : List Byte). stack_of c.self.inside.size Hidden xs)
    (c.truncate.ensures.items
    ∙ ap (λ (xs : List Byte). take (c.self.inside.size - c.args.count) xs) c.keep.ensures.items)
    ∙ hide_is c.self.inside.size c.self.inside.deep c.self.inside.top.items c.self.invariant.within c.args.count
    (c.self.inside.size - c.args.count) low refl
    ∙ ap (λ (xs : List Byte). hidden_below c.args.count xs) c.self.view_is
