-- The first part of the memory that has the place.
use Rattle.std.proofs.Common.{◌≡◌, ◌∙◌, true, false, refl, sym}
use Rattle.guest_operands.specs.declared.space.Access.TheVariants.{Read}
use Rattle.guest_operands.specs.Ranges.{grants}
use Rattle.thread_space.proofs.ReadKept.{pointer_of, read_block, read_data, read_fixed, read_stack, stack_of}
use Rattle.thread_space.proofs.bytes.ThreadSpaceBytesPlain.read.Goals as goal

pub returns-then-is_on_stack : goal.returns-then-is_on_stack
returns-then-is_on_stack c =
    let here : grants Read (stack_of c.args.self.now) c.args.place ≡ true = sym c.is_on_stack.ensures
    ∙ c.if-is_on_stack.true in
    c.stack_byte.ensures ∙ sym (read_stack c.args.self.now c.args.place here ∙ rw here refl)

pub returns-in-Some : goal.returns-in-Some
returns-in-Some c =
    let not : grants Read (stack_of c.args.self.now) c.args.place ≡ false = sym c.is_on_stack.ensures
    ∙ c.if-is_on_stack.false in
    c.block_byte.ensures.read
    ∙ sym (read_block c.args.self.now c.args.place c.in-Some.instance not (sym c.block_at.ensures ∙ c.in-Some.is))

pub returns-in-Some-data_at : goal.returns-in-Some-data_at
returns-in-Some-data_at c =
    let not : grants Read (stack_of c.args.self.now) c.args.place ≡ false = sym c.is_on_stack.ensures
    ∙ c.if-is_on_stack.false in
    c.data_byte.ensures.read
    ∙ sym (read_data c.args.self.now c.args.place c.in-Some-data_at.instance not
    (sym c.block_at.ensures ∙ c.in_default.is)
    (sym c.data_at.ensures ∙ c.in-Some-data_at.is))

pub returns-then-is_at_pointer : goal.returns-then-is_at_pointer
returns-then-is_at_pointer c =
    let not : grants Read (stack_of c.args.self.now) c.args.place ≡ false = sym c.is_on_stack.ensures
    ∙ c.if-is_on_stack.false in
    let here : grants Read (pointer_of c.args.self.now) c.args.place ≡ true = sym c.is_at_pointer.ensures
    ∙ c.if-is_at_pointer.true in
    c.pointer_byte.ensures
    ∙ sym (read_fixed c.args.self.now c.args.place not (sym c.block_at.ensures ∙ c.in_default.is)
    (sym c.data_at.ensures ∙ c.in_default-data_at.is)
    ∙ rw here refl)

pub returns : goal.returns
returns c =
    let not : grants Read (stack_of c.args.self.now) c.args.place ≡ false = sym c.is_on_stack.ensures
    ∙ c.if-is_on_stack.false in
    let past : grants Read (pointer_of c.args.self.now) c.args.place ≡ false = sym c.is_at_pointer.ensures
    ∙ c.if-is_at_pointer.false in
    c.fixed_byte.ensures
    ∙ sym (read_fixed c.args.self.now c.args.place not (sym c.block_at.ensures ∙ c.in_default.is)
    (sym c.data_at.ensures ∙ c.in_default-data_at.is)
    ∙ rw past refl)
