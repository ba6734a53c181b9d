use Rattle.std.proofs.Common.{inl, inr, refl, sym, ap, ◌∙◌, ℕ}
use Rattle.job_meaning.specs.declared.values.Word.{Word}
use Rattle.job_meaning.specs.declared.values.Word.TheVariants.{Number}
use Rattle.sequence_forms.specs.declared.forms.Form.TheVariants.{Gd, Ld, IeAdd, GdInd, LdInd, DescCall}
use Rattle.whole_meaning.specs.declared.sequences.Sequence.{Sequence}
use Rattle.whole_meaning.specs.Sequences.{called_with}
use Rattle.meant_steps.specs.Stacks.{stack_from}
use Rattle.meant_steps.proofs.Forms.{by-form}
use Rattle.meant_steps.proofs.sequence.does.Goals as goal

pub returns-in-Gd-clause-does : goal.returns-in-Gd-clause-does
returns-in-Gd-clause-does g c =
    let stack = stack_from (g.S.CallStack.start c.args.stack.now) in
    let s = c.args.sequence.now in
    let memory = g.S.CallStack.memory c.args.stack.now in
    let leaves = c.called_with.ensures.does c.args.thread c.args.start in
    let is = ap (λ (n : ℕ). called_with stack s c.args.thread c.args.start
    (Number n) c.args.state.now memory) c.variable_address-address.ensures in
    elim c.in-Gd.is [
      | inl i ↦ by-form stack s c.args.thread c.args.start c.args.state.now memory Gd _ _ _ _ i is leaves
      | inr i ↦ by-form stack s c.args.thread c.args.start c.args.state.now memory GdInd _ _ _ _ i is leaves
    ]

pub returns-in-Ld-clause-does : goal.returns-in-Ld-clause-does
returns-in-Ld-clause-does g c =
    let stack = stack_from (g.S.CallStack.start c.args.stack.now) in
    let s = c.args.sequence.now in
    let memory = g.S.CallStack.memory c.args.stack.now in
    let leaves = c.called_with-in-Ld.ensures.does c.args.thread c.args.start in
    let is = ap (λ (w : Word). called_with stack s c.args.thread c.args.start w c.args.state.now memory) c.own_base-base.ensures in
    elim c.in-Ld.is [
      | inl i ↦ by-form stack s c.args.thread c.args.start c.args.state.now memory Ld _ _ _ _ i is leaves
      | inr i ↦ by-form stack s c.args.thread c.args.start c.args.state.now memory LdInd _ _ _ _ i is leaves
    ]

pub returns-in-IeAdd-clause-does : goal.returns-in-IeAdd-clause-does
returns-in-IeAdd-clause-does g c =
    by-form (stack_from (g.S.CallStack.start c.args.stack.now)) c.args.sequence.now c.args.thread c.args.start c.args.state.now
    (g.S.CallStack.memory c.args.stack.now) IeAdd _ _ _ _ c.in-IeAdd.is refl (c.add_distance.ensures c.args.thread)

pub returns-in-DescCall-clause-does : goal.returns-in-DescCall-clause-does
returns-in-DescCall-clause-does g c =
    by-form (stack_from (g.S.CallStack.start c.args.stack.now)) c.args.sequence.now c.args.thread c.args.start c.args.state.now
    (g.S.CallStack.memory c.args.stack.now) DescCall _ _ _ _ c.in-DescCall.is refl
    (c.descriptor_called.ensures.does c.args.thread)
