-- A law over a wrong definition says what is not so of one line.
use Rattle.std.proofs.Common.{◌≡◌, ℕ, zero, suc, Bool, true, false, List, [], ◌∷◌, Option, Some, None, refl, ap, inr}
use Rattle.std.proofs.Common.{arith}
use Rattle.std.specs.Prelude.{AllPairs, codes, nat_le, nat_lt}
use Rattle.std.proofs.lemmas.List.Elements.{All-cons, All-nil}
use Rattle.guest_arithmetic.specs.Plain.{plain_operations}
use Rattle.guest_operands.specs.declared.stop.Stop.{Stop}
use Rattle.guest_operands.specs.declared.stop.Stop.TheVariants.{Steps}
use Rattle.guest_operands.specs.State.{start_of}
use Rattle.guest_operands.specs.Use.{left}
use Rattle.guest_operands.specs.Access.{fetch_of}
use Rattle.guest_machine.specs.Run.{machine}
use Rattle.guest_machine.specs.Step.{step_of}
use Rattle.amd64_subset.specs.Decoding.{decoded, end_branch_at, escaped_at, instruction_at, row_at}
use Rattle.amd64_subset.specs.Prefix.{prefixes_at, rex_at}
use Rattle.job_text.specs.declared.thread_lines.Action.{Action}
use Rattle.job_text.specs.declared.thread_lines.Action.TheVariants.{Call, Peek}
use Rattle.loaded_modules.specs.declared.instance.Instance.{Instance}
use Rattle.module_table.specs.declared.modules.ImageInfo.{ImageInfo}
use Rattle.module_table.specs.Past.{IsLegal}
use Rattle.module_table.specs.Modules.{IsInfo}
use Rattle.module_table.specs.Past.{is_legal, past, start}
use Rattle.transcript_text.specs.declared.outcomes.LineRefusal.TheVariants.{NotOpen, Symbol}
use Rattle.transcript_text.specs.declared.outcomes.Outcome.TheVariants.{Bytes, Refused}
use Rattle.thread_blocks.specs.Held.{looked, looked_at, reached_at}
use Rattle.thread_blocks.specs.Instances.{Loads, fixed_at, instance_at, instances_in}
use Rattle.thread_blocks.specs.Lines.{Line, begin_line}
use Rattle.thread_blocks.specs.RunTime.{Runs, shows, thread_accesses, thread_steps, thread_turns}
use Rattle.thread_blocks.specs.Spaces.{space_accesses}
use Rattle.thread_blocks.specs.Turns.{Answered, Begun, Calls, Ending, Said, Says, Stopped}
use Rattle.whole_meaning.specs.Meanings.{Meaning}
use Rattle.line_laws.specs.Counted.{MachineStepsAreCounted}
use Rattle.line_laws.specs.Printed.{FirstLooksAreRuled}
use Rattle.refuted_definitions.specs.Lines.{FirstLooksBy, LinesAreRefuted, MachineStepsBy, begin_by, turns_of_sum}

-- ** one program, in whose blocks a variable has its only byte; one function, where there is no code

abbrev info : ImageInfo
info = record { late = false; statics = false; size = 1; align = 1 }

abbrev late_info : ImageInfo
late_info = record { late = true; statics = false; size = 1; align = 1 }

unfoldable loads : Option ℕ → Loads ℕ
loads function = record {
  infos = info ∷ late_info ∷ [];
  last_offset = 1;
  function = λ x name. function;
  variable = λ image name. Some 0;
  fixed = λ x. [];
  tables = λ x. [];
  shared = λ x. None;
  block = λ x. 7 ∷ [];
}

unfoldable held : Runs
held = record {
  after = left (start_of plain_operations 0 0 0 0 0) (record { seen = []; stack = []; own = [] });
  owners = [];
  asked = None;
}

abbrev line_of : ℕ → Action → Line
line_of image action = record { number = 1; told = record { image = image; action = action } }

abbrev program : Instance
program = record { image = 1; number = 1; id = 1; offset = Some 1 }

legal : (function : Option ℕ) → IsLegal (loads function).infos (loads function).last_offset []
unfolding loads is_legal
legal function = record {
  images = record {
    some = omega arith;
    few = omega arith;
    late_last = late_last;
    each = All-cons IsInfo info (late_info ∷ []) is_info (All-cons IsInfo late_info [] is_late (All-nil IsInfo));
  };
  low = omega arith;
  each = refl;
}
  where
    is_info : IsInfo info
    is_info = record { small = omega arith; aligned = omega arith; page = omega arith }

    is_late : IsInfo late_info
    is_late = record { small = omega arith; aligned = omega arith; page = omega arith }

    late_last : AllPairs (λ (a b : ImageInfo). a.late ≡ true → b.late ≡ true) (info ∷ late_info ∷ [])
    late_last zero j d lt within late = absurd cc
    late_last (suc zero) j d lt within late = absurd (omega (arith, lt, within))
    late_last (suc (suc i)) j d lt within late = absurd (omega (arith, lt, within))

-- ** the statements are the laws'

right_looks : FirstLooksAreRuled → Meaning
    → FirstLooksBy (λ l thread line seen h. begin_line plain_operations l (shows l thread) thread line seen h)
unfolding thread_turns
right_looks law m l thread line seen legal h = (law l m thread 0 line seen).0 legal h

right_steps : MachineStepsAreCounted → MachineStepsBy thread_turns
right_steps law l thread fuel line todo h earlier seen first more =
    let it = law l thread fuel line todo h earlier seen first more in record { taken = it.taken; said = it.said }

-- ** what a first look says

abbrev is_shown : Ending → Bool
is_shown (Answered (Bytes bytes)) = true
is_shown ending = false

abbrev is_symbol : Ending → Bool
is_symbol (Answered (Refused Symbol)) = true
is_symbol ending = false

abbrev tested : (Ending → Bool) → Begun Runs → Bool
tested test (Says ending s) = test ending
tested test (Calls s) = false

no_last_byte : FirstLooksBy (begin_by nat_lt Symbol NotOpen) → ⊥
unfolding loads held start_of plain_operations instance_at instances_in past start looked_at reached_at
no_last_byte wrong =
    let look = wrong (loads None) 1 (line_of 1 (Peek (codes "x") 1)) [] (legal None) held in
    let peek = look.peeks (codes "x") 1 refl in
    let shown = peek.shown program 0 (7 ∷ []) (record { current = refl; found = refl; block = inr (refl, refl) })
    (omega arith) in
    let e : false ≡ true = ap (tested is_shown) shown.1 in cc

no_not_open : FirstLooksBy (begin_by nat_le NotOpen NotOpen) → ⊥
unfolding loads held start_of plain_operations instance_at instances_in past start looked_at reached_at
no_not_open wrong =
    let look = wrong (loads None) 1 (line_of 1 (Call (codes "f") 0 0 0)) [] (legal None) held in
    let call = look.calls (codes "f") 0 0 0 refl in
    let said = call.no_symbol.1 (program, (refl, refl)) in
    let e : false ≡ true = ap (tested is_symbol) said.1 in cc

no_symbol : FirstLooksBy (begin_by nat_le Symbol Symbol) → ⊥
unfolding loads held start_of plain_operations instance_at instances_in past start looked_at reached_at
no_symbol wrong =
    let look = wrong (loads None) 1 (line_of 2 (Call (codes "f") 0 0 0)) [] (legal None) held in
    let call = look.calls (codes "f") 0 0 0 refl in
    let found = call.no_symbol.0 (looked (loads None) 1 [] held, refl) in
    let e : None ≡ Some found.0 = found.1.0 in cc

abbrev is_steps : Stop → Bool
is_steps (Steps place) = true
is_steps stop = false

abbrev stopped : Ending → Bool
stopped (Answered answer) = false
stopped (Stopped stop) = is_steps stop

abbrev all_stopped : List Said → Bool
all_stopped [] = true
all_stopped (said ∷ more) = stopped said.ending

abbrev state_in : Begun Runs → Runs
state_in (Says ending s) = s
state_in (Calls s) = s

-- a call of no step, which may not take one
no_sum : MachineStepsBy turns_of_sum → ⊥
unfolding loads held start_of plain_operations instance_at instances_in past start looked_at thread_turns thread_steps
    begin_line machine step_of fetch_of decoded instruction_at end_branch_at prefixes_at rex_at row_at escaped_at
    thread_accesses space_accesses fixed_at
no_sum wrong =
    let x = turns_of_sum (loads (Some 0)) 1 0 in
    let line = line_of 1 (Call (codes "f") 0 0 0) in
    let t = state_in (x.begin line [] held) in
    let counted = wrong (loads (Some 0)) 1 0 line [] held [] [] [] [] in
    let said = counted.said t (record { start = t; begins = refl; leads = (refl, refl); goes_on = refl }) in
    let e : false ≡ true = ap all_stopped said.says in cc

pub lines_refuted : LinesAreRefuted
lines_refuted = record {
  last_byte_is_not_shown = no_last_byte;
  missing_function_is_not_open = no_not_open;
  closed_image_lacks_the_symbol = no_symbol;
  fuel_is_added = no_sum;
}
