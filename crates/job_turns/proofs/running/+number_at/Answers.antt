use Rattle.std.proofs.Common.{◌≡◌, ◌+◌, ◌-◌, ◌*◌, ◌<◌, Ok, suc, sym, ap, ◌∙◌, arith}
use Rattle.std.specs.Prelude.{ok_or}
use Rattle.guest_operands.specs.Access.{Refused}
use Rattle.job_turns.proofs.Numbers.{all_read, all_small, byte_refused, others_refused, small_behind}
use Rattle.job_turns.proofs.running.+number_at.Goals as goal

pub returns-in_err-byte-clause-value : goal.returns-in_err-byte-clause-value
returns-in_err-byte-clause-value t c =
    let some = c.if-count-eq0.false in
    let more : c.args.count ≡ suc (c.args.count - 1) = omega arith in
    ap (λ r. ok_or r Refused) c.from_residual.ensures
    ∙ sym (byte_refused c.args.space.now c.args.address c.args.count (c.args.count - 1) more
    (sym c.read.ensures ∙ c.in_err-byte.was))

pub returns-in_err-rest-clause-value : goal.returns-in_err-rest-clause-value
returns-in_err-rest-clause-value t c =
    let some = c.if-count-eq0.false in
    let more : c.args.count ≡ suc (c.args.count - 1) = omega arith in
    ap (λ r. ok_or r Refused) c.from_residual-in_err-rest.ensures
    ∙ sym (others_refused c.args.space.now c.args.address c.args.count (c.args.count - 1) more c.in_ok-byte.byte
    (sym c.read.ensures ∙ c.in_ok-byte.was) (sym c.in_err-rest.ensures.value))

pub overflow_mul-result : goal.overflow_mul-result
overflow_mul-result t c =
    let h = small_behind (c.args.count - 1) c.in_ok-rest.rest (omega arith) c.in_ok-rest.ensures.small in omega arith

pub overflow_add-result : goal.overflow_add-result
overflow_add-result t c =
    let h = small_behind (c.args.count - 1) c.in_ok-rest.rest (omega arith) c.in_ok-rest.ensures.small in
    let low : c.in_ok-byte.byte < 256 = omega arith in omega arith

pub returns-clause-value : goal.returns-clause-value
returns-clause-value t c =
    let some = c.if-count-eq0.false in
    let more : c.args.count ≡ suc (c.args.count - 1) = omega arith in
    ap (λ b. Ok (b + 256 * c.in_ok-rest.rest)) c.from.ensures
    ∙ sym (all_read c.args.space.now c.args.address c.args.count
    (c.args.count - 1) more c.in_ok-byte.byte c.in_ok-rest.rest
    (sym c.read.ensures ∙ c.in_ok-byte.was) (sym c.in_ok-rest.ensures.value))

pub returns-clause-small : goal.returns-clause-small
returns-clause-small t c =
    let some = c.if-count-eq0.false in
    let more : c.args.count ≡ suc (c.args.count - 1) = omega arith in
    let low : c.in_ok-byte.byte < 256 = omega arith in
    let small = all_small c.args.space.now c.args.address c.args.count
    (c.args.count - 1) more c.in_ok-byte.byte c.in_ok-rest.rest low c.in_ok-rest.ensures.small in
    rw c.from.ensures small
