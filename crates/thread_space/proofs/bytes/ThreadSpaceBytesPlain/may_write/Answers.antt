-- The stack, a block and data can be written.
use Rattle.std.proofs.Common.{◌≡◌, ◌∙◌, true, false, ap, refl, sym}
use Rattle.std.specs.Prelude.{is_some}
use Rattle.guest_operands.specs.declared.space.Access.TheVariants.{Write}
use Rattle.guest_operands.specs.Ranges.{grants}
use Rattle.thread_space.proofs.ReadKept.{block_found, may_write_is, stack_of}
use Rattle.thread_space.proofs.bytes.ThreadSpaceBytesPlain.may_write.Goals as goal

pub returns-then-is_on_stack : goal.returns-then-is_on_stack
returns-then-is_on_stack c =
    let here : grants Write (stack_of c.args.self.now) c.args.place ≡ true = sym c.is_on_stack.ensures
    ∙ c.if-is_on_stack.true in
    sym (may_write_is c.args.self.now c.args.place ∙ rw here refl)

pub returns-then-is_some : goal.returns-then-is_some
returns-then-is_some c =
    let not : grants Write (stack_of c.args.self.now) c.args.place ≡ false = sym c.is_on_stack.ensures
    ∙ c.if-is_on_stack.false in
    let found : is_some (block_found c.args.self.now c.args.place) ≡ true = ap is_some (sym c.block_at.ensures)
    ∙ sym c.is_some.ensures ∙ c.if-is_some.true in
    sym (may_write_is c.args.self.now c.args.place ∙ rw (not, found) refl)

pub returns : goal.returns
returns c =
    let not : grants Write (stack_of c.args.self.now) c.args.place ≡ false = sym c.is_on_stack.ensures
    ∙ c.if-is_on_stack.false in
    let none : is_some (block_found c.args.self.now c.args.place) ≡ false = ap is_some (sym c.block_at.ensures)
    ∙ sym c.is_some.ensures ∙ c.if-is_some.false in
    c.is_some-2.ensures ∙ ap is_some c.data_at.ensures
    ∙ sym (may_write_is c.args.self.now c.args.place ∙ rw (not, none) refl)
