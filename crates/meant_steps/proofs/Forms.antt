-- A sequence's step by its form.
use Rattle.std.proofs.Common.{◌≡◌, ℕ, Result, ap, subst, sym, ◌∙◌}
use Rattle.guest_operands.specs.declared.state.State.{State}
use Rattle.guest_operands.specs.declared.stop.Stop.{Stop}
use Rattle.guest_operands.specs.Use.{After}
use Rattle.guest_operands.specs.UseLaws.{Leaves}
use Rattle.job_meaning.specs.declared.values.Flag.{Flag}
use Rattle.job_meaning.specs.declared.values.Word.{Word}
use Rattle.sequence_forms.specs.declared.forms.Form.{Form}
use Rattle.whole_meaning.specs.declared.sequences.Sequence.{Sequence}
use Rattle.whole_meaning.specs.Sequences.{Stack, does, sequence_result}

-- what is left by the form's step is left by the sequence's
pub by-form : {M : Type 0} (stack : Stack M) (s : Sequence) (thread start : ℕ) (state : State Word Flag) (memory : M)
    (form : Form)
    (next : Result (After Word Flag M) Stop) (result : Result (Unit {0}) Stop) (old new : After Word Flag M)
    → s.form ≡ form → next ≡ does stack s thread start form state memory → Leaves result old new next
    → Leaves result old new (sequence_result stack s thread start state memory)
unfolding sequence_result
by-form stack s thread start state memory form next result old new is next-is leaves =
    subst (λ (n : Result (After Word Flag _) Stop). Leaves result old new n)
    (next-is ∙ ap (λ (f : Form). does stack s thread start f state memory) (sym is)) leaves
