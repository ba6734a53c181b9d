-- The kept call of a descriptor: what it means is what the machine does, at once or up to a look.
use Rattle.std.proofs.Common.{◌≡◌, ◌∙◌, ◌+◌, ◌%◌, ◌^◌, ◌<◌, ◌≤◌, ◌&&◌, ℕ, true, List, Some, Result, Ok, Err, refl, sym}
use Rattle.std.proofs.Common.{ap, subst, arith, inr}
use Rattle.guest_arithmetic.specs.declared.cause.Cause.{Cause}
use Rattle.guest_operands.specs.declared.stop.Stop.TheVariants.{Unclean}
use Rattle.amd64_words.specs.declared.register.Register.TheVariants.{Rax}
use Rattle.guest_arithmetic.specs.Cause.{both}
use Rattle.sequence_laws.specs.Instructions.{call_through, of_register, plain}
use Rattle.site_steps.proofs.Asking.{descriptor_asked}
use Rattle.site_steps.proofs.Answers.{AsksFromStart}
use Rattle.site_steps.proofs.Calls.{HasUse, has_called, run_in_place, run_state}
use Rattle.site_steps.proofs.Looks.{asks_goes, unclean_answers}
use Rattle.site_steps.proofs.Callers.{by_descriptor}
use Rattle.site_steps.proofs.Single.{descriptor_is}
use Rattle.tied_meaning.specs.Sites.{HasDescriptor, HasInstruction}
use Rattle.guest_machine.specs.Follow.{SameState}
use Rattle.guest_machine.specs.State.{at_place}
use Rattle.job_meaning.specs.declared.values.Word.TheVariants.{Undefined}
use Rattle.module_table.specs.declared.events.Event.{Event}
use Rattle.sequence_forms.specs.declared.forms.Form.{Form}
use Rattle.sequence_forms.specs.declared.forms.Form.TheVariants.{DescCall}
use Rattle.thread_blocks.specs.Instances.{Loads, block_start}
use Rattle.thread_blocks.specs.RunTime.{Runs}
use Rattle.whole_meaning.specs.declared.sequences.Sequence.{Sequence}
use Rattle.whole_meaning.specs.Meanings.{Meaning}
use Rattle.whole_meaning.specs.Sequences.{asks, descriptor_use, does, looks_first, stack_use}
use Rattle.whole_meaning.specs.Threads.{Meant, came_late, meant_stack, sequence_at}
use Rattle.tied_meaning.specs.Numbers.{Setting, alike}
use Rattle.tied_meaning.specs.Ties.{AreTied}
use Rattle.tied_meaning.specs.Threads.{InCall, called_state, is_descriptor_call}
use Rattle.site_steps.proofs.Owners.{Begins}
use Rattle.site_steps.proofs.Called.{AdvancesTo, described_same, stack_room}

module _ {g : Setting} {m : Meaning} {q : Loads ℕ} {history : List Event} {thread : ℕ} (tied : AreTied g m q history)
    (low : 1 ≤ thread) (high : thread ≤ 64) {h : Meant} {h' : Runs} (call : InCall g m q history thread h h')
    {s : Sequence} (b : Begins g m q h h' s) where
  abbrev here : ℕ
  here = h'.after.state.place

  abbrev use_is : Type 0
  use_is = HasUse m thread h h'

  abbrev start : ℕ
  start = block_start thread b.y

  abbrev answer_goal : Form → Type 0
  answer_goal form = AdvancesTo g m q history thread h h'
      (looks_first (asks form && came_late m thread s.target) h.after
      (does (meant_stack m thread) s thread start form h.after.state h.after.memory))

  desc_err : (d : Result (Unit {0}) Cause) (r : Result ℕ Cause) → descriptor_use s h.after.state.registers.rax ≡ d
      → stack_use (meant_stack m thread) h.after.state h.after.memory ≡ r → (why : Cause) → both d r ≡ Err why
      → does (meant_stack m thread) s thread start DescCall h.after.state h.after.memory
      ≡ Err (Unclean h.after.state.place why)
  desc_err d r e f why none = rw (e, f, none) refl

  pub descriptor_goes : s.form ≡ DescCall → sequence_at m thread h.after.memory.seen h.after.state.place ≡ Some s
      → s.next < 2 ^ 64
      → HasInstruction q b.x here (plain 2 (call_through (of_register Rax))) → s.next ≡ here + 2
      → s.instance ≡ b.x.number
      → g.descriptor b.x.number s.symbol < 2 ^ 64
      → (g.makes_descriptor b.x.number s.symbol ≡ true → HasDescriptor q b.x s (g.descriptor b.x.number s.symbol))
      → answer_goal DescCall
  unfolding alike
  descriptor_goes f begins small has ends own few there =
      of_uses (descriptor_use s h.after.state.registers.rax)
      (stack_use (meant_stack m thread) h.after.state h.after.memory) refl refl
    where
      of_uses : (d : Result (Unit {0}) Cause) (r : Result ℕ Cause) → descriptor_use s h.after.state.registers.rax ≡ d
          → stack_use (meant_stack m thread) h.after.state h.after.memory ≡ r → answer_goal DescCall
      of_uses (Err why) (Ok stack) d r =
          unclean_answers call (asks DescCall && came_late m thread s.target) _ _ (desc_err _ _ d r why refl) tt
      of_uses (Err why) (Err other) d r =
          unclean_answers call (asks DescCall && came_late m thread s.target) _ _ (desc_err _ _ d r _ refl) tt
      of_uses (Ok done) (Err why) d r =
          unclean_answers call (asks DescCall && came_late m thread s.target) _ _ (desc_err _ _ d r why refl) tt
      of_uses (Ok done) (Ok stack) d r =
          let used : use_is = r ∙ ap (λ (n : ℕ). Ok n) (stack_room call low high r).same in
          let is = descriptor_is g s h.after.state.registers.rax h'.after.state.registers.rax d call.state.registers.rax in
          let made = there (ap (λ (n : ℕ). g.makes_descriptor n s.symbol) (sym own) ∙ is.1) in
          let rax : h'.after.state.registers.rax ≡ g.descriptor b.x.number s.symbol =
          is.0 ∙ (ap (λ (n : ℕ). g.descriptor n s.symbol % 2 ^ 64) own
          ∙ small_again (g.descriptor b.x.number s.symbol) few) in
          let found : HasDescriptor q b.x s h'.after.state.registers.rax =
          subst (λ (n : ℕ). HasDescriptor q b.x s n) (sym rax) made in
          subst answer_goal f
          (asks_goes tied low high call b begins h'.after.state.registers.rdi 0x1800 (inr refl) 1 (omega arith)
          (by_descriptor tied low high call b has ends (omega (arith, rax, few)) found.first used) used
          (has_called call low high used s (λ e. d) small h'.after.state.registers.rdi 0x1800
          (subst (λ (form : Form). SameState (alike g) (called_state form h.after.state s.next)
          (at_place h'.after.state s.next)) (sym f)
          (described_same g h.after.state h'.after.state call.state Undefined h'.after.state.registers.rax
          h'.after.state.flags tt s.next s.next refl))) _
          (descriptor_asked tied low b.it (run_in_place call s) b.live s
          (run_state h' h'.after.state.registers.rdi 0x1800) found)
          (sym own) found.names (omega (arith, found.small.1)) (ap is_descriptor_call (sym f))
          (subst (AsksFromStart g s b.y) (sym f) tt) (ap asks f))
        where
          small_again : (n : ℕ) → n < 2 ^ 64 → n % 2 ^ 64 ≡ n
          small_again n few = omega (arith, few)
