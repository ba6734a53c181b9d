use Rattle.guest_arithmetic.specs.Plain.{plain_operations}
use Rattle.guest_operands.specs.RangeLaws.{range_accesses}
use Rattle.guest_machine.proofs.Touching.{step-open}
use Rattle.guest_machine.proofs.laws.reaches_what_it_touches.Goals as goal

pub returns : goal.returns
returns c = λ shut is_field state memory free. step-open plain_operations
    (range_accesses plain_operations) shut memory is_field state free
