-- How a run begins: each way in which it can.
use Rattle.std.proofs.Common.{◌≡◌, ℕ, zero, suc, ◌+◌, ◌-◌, true, false, Some, None, Ok, Err, refl}
use Rattle.std.specs.Prelude.{◌==◌}
use Rattle.guest_operands.specs.declared.stop.Stop.{Stop}
use Rattle.guest_operands.specs.declared.stop.Stop.TheVariants.{Steps, Look}
use Rattle.guest_operands.specs.declared.state.State.{State}
use Rattle.guest_arithmetic.specs.Values.{Operations}
use Rattle.guest_operands.specs.Ranges.{AddressSpace}
use Rattle.guest_operands.specs.RangeLaws.{range_accesses, is_field_of}
use Rattle.guest_machine.specs.Machine.{Standing}
use Rattle.guest_machine.specs.Run.{Goes, Ends, Looks, Ended, Waits, Stepping, run, machine, is_look, returned}
use Rattle.guest_machine.specs.RunLaws.{machine_of, Runs}
use Rattle.guest_machine.specs.Step.{step_of}
use Rattle.guest_operands.specs.Use.{After, left}

module _ {S : Type 0} (x : Stepping S) where
  pub run-over : (n : ℕ) (s : S) (stop : Stop) → x.over s ≡ Some stop → run x n s ≡ Ended stop n s
  run-over zero s stop over = rw over refl
  run-over (suc n) s stop over = rw over refl

  pub run-spent : (s : S) → x.over s ≡ None → run x zero s ≡ Ended (x.spent s) zero s
  run-spent s on = rw on refl

  pub run-looks : (n : ℕ) (s t : S) → x.over s ≡ None → x.step s ≡ Looks t → run x (suc n) s ≡ Waits (suc n) t
  run-looks n s t on step = rw (on, step) refl

  pub run-ends : (n : ℕ) (s : S) (stop : Stop) → x.over s ≡ None → x.step s ≡ Ends stop
      → run x (suc n) s ≡ Ended stop (suc n) s
  run-ends n s stop on step = rw (on, step) refl

  pub run-goes : (n : ℕ) (s t : S) → x.over s ≡ None → x.step s ≡ Goes t → run x (suc n) s ≡ run x n t
  run-goes n s t on step = rw (on, step) refl

module _ {W F B : Type 0} (ops : Operations W F B) (state : State W F) (memory : AddressSpace B) where
  pub machine-over : (n : ℕ) → (state.place == 0x2000) ≡ true
      → run (machine_of ops) n (left state memory)
      ≡ Ended (returned (ops.number_of state.registers.rax) state.place) n (left state memory)
  unfolding machine
  machine-over n here = run-over (machine_of ops) n (left state memory) _ (rw here refl)

  pub machine-spent : (state.place == 0x2000) ≡ false
      → run (machine_of ops) zero (left state memory) ≡ Ended (Steps state.place) zero (left state memory)
  unfolding machine
  machine-spent elsewhere = run-spent (machine_of ops) (left state memory) (rw elsewhere refl)

  pub machine-looks : (n : ℕ) → (state.place == 0x2000) ≡ false → is_look state.place ≡ true
      → run (machine_of ops) (suc n) (left state memory) ≡ Waits (suc n) (left state memory)
  unfolding machine
  machine-looks n elsewhere looks =
      run-looks (machine_of ops) n (left state memory) _ (rw elsewhere refl) (rw looks refl)

  pub machine-ends : (n : ℕ) (stop : Stop) → (state.place == 0x2000) ≡ false → is_look state.place ≡ false
      → step_of ops (range_accesses ops) (is_field_of memory) state memory ≡ Err stop
      → run (machine_of ops) (suc n) (left state memory) ≡ Ended stop (suc n) (left state memory)
  unfolding machine
  machine-ends n stop elsewhere alone step =
      run-ends (machine_of ops) n (left state memory) stop (rw elsewhere refl) (rw (alone, step) refl)

  pub machine-goes : (n : ℕ) (after : After W F (AddressSpace B)) → (state.place == 0x2000) ≡ false
      → is_look state.place ≡ false
      → step_of ops (range_accesses ops) (is_field_of memory) state memory ≡ Ok after
      → run (machine_of ops) (suc n) (left state memory) ≡ run (machine_of ops) n after
  unfolding machine
  machine-goes n after elsewhere alone step =
      run-goes (machine_of ops) n (left state memory) after (rw elsewhere refl) (rw (alone, step) refl)

-- from what is left to run here, and how it ends, to the whole run
module _ {W F B : Type 0} (ops : Operations W F B) (limit : ℕ) (old : Standing W F) (memory : AddressSpace B)
    (new : Standing W F) (memory' : AddressSpace B)
    (same : run (machine_of ops) (limit - new.taken) (left new.state memory')
    ≡ run (machine_of ops) (limit - old.taken) (left old.state memory))
    (counted : new.taken + (limit - new.taken) ≡ old.taken + (limit - old.taken)) where
  pub runs-ended : (stop : Stop)
      → run (machine_of ops) (limit - new.taken) (left new.state memory')
      ≡ Ended stop (limit - new.taken) (left new.state memory')
      → Runs ops limit stop old memory new memory'
  runs-ended stop ended = record {
    stop = rw (← same, ended) refl;
    after = rw (← same, ended) refl;
    steps = rw (← same, ended) counted;
  }

  pub runs-waits : run (machine_of ops) (limit - new.taken) (left new.state memory')
      ≡ Waits (limit - new.taken) (left new.state memory')
      → Runs ops limit (Look new.state.place) old memory new memory'
  runs-waits waits = record {
    stop = rw (← same, waits) refl;
    after = rw (← same, waits) refl;
    steps = rw (← same, waits) counted;
  }
