-- The laws: of any memories and relations of them, and so of threads' memories and relations that tests decide.
use Rattle.std.proofs.Common.{refl}
use Rattle.guest_arithmetic.specs.Plain.{plain_operations}
use Rattle.tied_meaning.specs.Numbers.{alike}
use Rattle.tied_meaning.proofs.Values.{values_follow}
use Rattle.whole_meaning.specs.Threads.{ops}
use Rattle.marked_code.specs.Laws.{MarkedStepsFollow, ReadsAlike, ReadsFollow, StepsFollow, TestedAlike}
use Rattle.marked_code.proofs.Rows.{read_follows}
use Rattle.marked_code.proofs.Step.{marked_follows}

module _ {M M' : Type 0} (Same : M → M' → Type 0) where
  pub marked_step_follows : StepsFollow Same
  unfolding alike
  marked_step_follows g acc acc' shut mark kept s s' m m' h k low code =
      marked_follows (alike g) ops plain_operations (values_follow g) acc acc' Same shut kept (λ n. (refl, refl))
      (mark m)
      s s' m m' h k code low

  pub read_alike : ReadsAlike Same
  unfolding alike
  read_alike g acc acc' f f' next immediate s s' h m m' k stores operand a a' at at' reads operation e =
      read_follows (alike g) ops plain_operations
      (values_follow g) acc acc' Same f f' next immediate s s' h m m' k stores
      operand a a' at at' reads operation e

pub steps_follow : MarkedStepsFollow
steps_follow test = marked_step_follows (TestedAlike test)

pub reads_follow : ReadsFollow
reads_follow test = read_alike (TestedAlike test)
