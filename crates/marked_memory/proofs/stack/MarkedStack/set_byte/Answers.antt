-- The byte is kept, and then written.
use Rattle.std.proofs.Common.{◌≡◌, ◌∙◌, ◌<◌, ◌+◌, ◌-◌, List, length, replicate, ap, sym, arith, subst, refl, slice_set}
use Rattle.std.proofs.lemmas.List.{length-append, length-replicate, length-set}
use Rattle.job_meaning.specs.declared.values.Byte.{Byte}
use Rattle.marked_memory.specs.Stacks.{stack_of}
use Rattle.marked_memory.proofs.Stacks.{long, set_is}
use Rattle.marked_memory.proofs.stack.MarkedStack.set_byte.Goals as goal

pub overflow_sub-depth : goal.overflow_sub-depth
overflow_sub-depth c =
    let low : c.args.within < c.self.inside.size =
    subst (λ n. c.args.within < n)
    (ap (λ (xs : List Byte). length xs) (sym c.self.view_is)
    ∙ long c.self.inside.size c.self.inside.deep c.self.inside.top.items c.self.invariant.within)
    c.requires
    in
    omega (arith, low)

pub overflow_sub-depth-2 : goal.overflow_sub-depth-2
overflow_sub-depth-2 c =
    let low : c.args.within < c.self.inside.size =
    subst (λ n. c.args.within < n)
    (ap (λ (xs : List Byte). length xs) (sym c.self.view_is)
    ∙ long c.self.inside.size c.self.inside.deep c.self.inside.top.items c.self.invariant.within)
    c.requires
    in
    omega (arith, low)

pub keep-requires-clause-room : goal.keep-requires-clause-room
keep-requires-clause-room c =
    let low : c.args.within < c.self.inside.size =
    subst (λ n. c.args.within < n)
    (ap (λ (xs : List Byte). length xs) (sym c.self.view_is)
    ∙ long c.self.inside.size c.self.inside.deep c.self.inside.top.items c.self.invariant.within)
    c.requires
    in
    omega (arith, low, c.self.invariant.room)

pub invariant_of-self : goal.invariant_of-self
invariant_of-self c =
    let low : c.args.within < c.self.inside.size =
    subst (λ n. c.args.within < n)
    (ap (λ (xs : List Byte). length xs) (sym c.self.view_is)
    ∙ long c.self.inside.size c.self.inside.deep c.self.inside.top.items c.self.invariant.within)
    c.requires
    in
    let depth = c.self.inside.size - 1 - c.args.within in
    let put : length c.put.new.top.items ≡ length c.keep.new.top.items =
    ap (λ (xs : List Byte). length xs) c.put.ensures.items ∙ length-set c.keep.new.top.items depth c.args.byte in
    let kept : length c.keep.new.top.items
    ≡ length c.self.inside.top.items + (depth + 1 - length c.self.inside.top.items) =
    ap (λ (xs : List Byte). length xs) c.keep.ensures.items
    ∙ length-append c.self.inside.top.items (replicate (depth + 1 - length c.self.inside.top.items) c.self.inside.deep)
    ∙ ap (λ n. length c.self.inside.top.items + n)
    (length-replicate (depth + 1 - length c.self.inside.top.items) c.self.inside.deep) in record {
      within = omega (arith, put, kept, low, c.self.invariant.within);
      few = c.self.invariant.few;
      kept = c.put.ensures.len ∙ c.keep.ensures.kept ∙ sym put;
      room = omega (arith, c.put.ensures.capacity, c.keep.ensures.capacity, c.self.invariant.room);
    }

pub returns : goal.returns
returns c =
    let low : c.args.within < c.self.inside.size =
    subst (λ n. c.args.within < n)
    (ap (λ (xs : List Byte). length xs) (sym c.self.view_is)
    ∙ long c.self.inside.size c.self.inside.deep c.self.inside.top.items c.self.invariant.within)
    c.requires
    in
    ap (λ (xs : List Byte). stack_of c.self.inside.size c.self.inside.deep xs)
    (c.put.ensures.items ∙ ap
    (λ (xs : List Byte). slice_set xs (c.self.inside.size - 1 - c.args.within) c.args.byte) c.keep.ensures.items)
    ∙ set_is c.self.inside.size c.self.inside.deep c.self.inside.top.items c.self.invariant.within c.args.within
    (c.self.inside.size - 1 - c.args.within) c.args.byte low refl
    ∙ ap (λ (xs : List Byte). slice_set xs c.args.within c.args.byte) c.self.view_is
