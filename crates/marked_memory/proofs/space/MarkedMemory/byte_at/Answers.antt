-- The first part of the memory that has the place.
use Rattle.std.proofs.Common.{◌∙◌, ap, refl, sym}
use Rattle.guest_operands.specs.Ranges.{byte_in}
use Rattle.thread_blocks.specs.Held.{ranges_in}
use Rattle.marked_memory.specs.Kept.{Kept}
use Rattle.marked_memory.proofs.Writes.{byte_is}
use Rattle.marked_memory.proofs.space.MarkedMemory.byte_at.Goals as goal

pub returns-in-Some : goal.returns-in-Some
returns-in-Some c =
    sym (byte_is c.args.self.now c.args.access c.args.place ∙ rw (sym c.lent_byte.ensures ∙ c.in-Some.is) refl)

pub returns-in-Some-stack_byte : goal.returns-in-Some-stack_byte
returns-in-Some-stack_byte c =
    sym (byte_is c.args.self.now c.args.access c.args.place
    ∙ rw (sym c.lent_byte.ensures ∙ c.in_default.is, sym c.stack_byte.ensures ∙ c.in-Some-stack_byte.is) refl)

pub returns-in-Some-byte_in : goal.returns-in-Some-byte_in
returns-in-Some-byte_in c =
    let own = ap (λ (k : Kept). byte_in c.args.access (ranges_in k.own) c.args.place) (sym c.self.view_is)
    ∙ ap (λ xs. byte_in c.args.access (ranges_in xs) c.args.place) (sym c.deref.ensures.value) ∙ sym c.byte_in.ensures
    in
    sym (byte_is c.args.self.now c.args.access c.args.place
    ∙ rw (
      sym c.lent_byte.ensures ∙ c.in_default.is,
      sym c.stack_byte.ensures ∙ c.in_default-stack_byte.is,
      own
          ∙ c.in-Some-byte_in.is,
    ) refl)

pub returns-in-Some-pointer_byte : goal.returns-in-Some-pointer_byte
returns-in-Some-pointer_byte c =
    let own = ap (λ (k : Kept). byte_in c.args.access (ranges_in k.own) c.args.place) (sym c.self.view_is)
    ∙ ap (λ xs. byte_in c.args.access (ranges_in xs) c.args.place) (sym c.deref.ensures.value) ∙ sym c.byte_in.ensures
    in
    sym (byte_is c.args.self.now c.args.access c.args.place
    ∙ rw (
      sym c.lent_byte.ensures ∙ c.in_default.is,
      sym c.stack_byte.ensures ∙ c.in_default-stack_byte.is,
      own ∙ c.in_default-byte_in.is,
      sym c.pointer_byte.ensures ∙ c.in-Some-pointer_byte.is,
    ) refl)

pub returns : goal.returns
returns c =
    let own = ap (λ (k : Kept). byte_in c.args.access (ranges_in k.own) c.args.place) (sym c.self.view_is)
    ∙ ap (λ xs. byte_in c.args.access (ranges_in xs) c.args.place) (sym c.deref.ensures.value) ∙ sym c.byte_in.ensures
    in
    c.fixed_byte.ensures
    ∙ sym (byte_is c.args.self.now c.args.access c.args.place
    ∙ rw (
      sym c.lent_byte.ensures ∙ c.in_default.is,
      sym c.stack_byte.ensures ∙ c.in_default-stack_byte.is,
      own ∙ c.in_default-byte_in.is,
      sym c.pointer_byte.ensures ∙ c.in_default-pointer_byte.is,
    ) refl)
