-- General and local dynamic sequences that were rewritten: the machine does in one or two steps what they mean.
use Rattle.std.proofs.Common.{◌≡◌, ◌∙◌, ◌+◌, ◌-◌, ◌^◌, ◌<◌, ◌≤◌, ℕ, suc, Bool, true, List, Some, Result, Ok, Err, refl}
use Rattle.std.proofs.Common.{sym, ap, subst, arith, inl}
use Rattle.std.proofs.lemmas.Bool.{eq-eqb}
use Rattle.address_map.specs.Map.{pointer_of}
use Rattle.amd64_words.specs.declared.register.Register.TheVariants.{Rax}
use Rattle.amd64_subset.specs.declared.instr.Decoded.{Decoded}
use Rattle.amd64_subset.specs.declared.instr.Operation.TheVariants.{LoadAddress}
use Rattle.amd64_subset.specs.declared.instr.Width.TheVariants.{Quad}
use Rattle.guest_arithmetic.specs.declared.cause.Cause.{Cause}
use Rattle.guest_arithmetic.specs.declared.flags.Flags.{Flags}
use Rattle.guest_arithmetic.specs.Plain.{plain_operations}
use Rattle.guest_machine.specs.Access.{load_of}
use Rattle.guest_machine.specs.Run.{Next, next_of}
use Rattle.guest_machine.specs.Simulate.{Moves}
use Rattle.guest_machine.specs.State.{at_place, register_of, with_register, with_word}
use Rattle.guest_machine.specs.Use.{◌>>=◌, After, clean, left, plus}
use Rattle.job_meaning.specs.declared.values.Flag.{Flag}
use Rattle.job_meaning.specs.declared.values.Word.{Word}
use Rattle.job_meaning.specs.declared.values.Word.TheVariants.{Number, Marked}
use Rattle.job_meaning.specs.declared.values.Token.TheVariants.{Base}
use Rattle.module_table.specs.declared.events.Event.{Event}
use Rattle.sequence_laws.specs.Instructions.{add, displaced, load, of_next, of_register, of_thread}
use Rattle.thread_blocks.specs.Instances.{Loads, block_start}
use Rattle.thread_blocks.specs.RunTime.{Runs, thread_accesses, thread_steps}
use Rattle.whole_meaning.specs.declared.sequences.Sequence.{Sequence}
use Rattle.whole_meaning.specs.Meanings.{Meaning}
use Rattle.whole_meaning.specs.Sequences.{after_call, called_with, own_base, stack_use, variable_address}
use Rattle.whole_meaning.specs.Sequences.{variable_distance}
use Rattle.whole_meaning.specs.Threads.{Meant, Memory, meant_stack}
use Rattle.tied_meaning.specs.Numbers.{Setting, SameWord}
use Rattle.tied_meaning.specs.Sites.{HasInstruction, HasWord, IsDistance}
use Rattle.tied_meaning.specs.Ties.{AreTied}
use Rattle.tied_meaning.specs.Threads.{InCall}
use Rattle.site_steps.proofs.Acts.{adds_next, leas_register, loads_pointer}
use Rattle.site_steps.proofs.Owners.{Begins}
use Rattle.site_steps.proofs.Called.{AdvancesTo, called_same, goes_to, hidden_call, stack_room}
use Rattle.site_steps.proofs.Steps.{StepsTo, in_place, one_move, small_place, stepped, sum_small, then_moves}
use Rattle.tied_memory.proofs.Pointer.{pointer_read}
use Rattle.tied_memory.proofs.Standing.{word_read}
use Rattle.guest_machine.specs.Machine.{with_answer}

module _ {g : Setting} {m : Meaning} {q : Loads ℕ} {history : List Event} {thread : ℕ} (tied : AreTied g m q history)
    (low : 1 ≤ thread) (high : thread ≤ 64) {h : Meant} {h' : Runs} (call : InCall g m q history thread h h')
    {s : Sequence} (b : Begins g m q h h' s) where
  abbrev Goal : Next (After Word Flag Memory) → Type 0
  Goal = AdvancesTo g m q history thread h h'

  abbrev pub start : ℕ
  start = block_start thread b.y

  abbrev pub here : ℕ
  here = h'.after.state.place

  pub pointer_is : h'.after.state.thread_pointer ≡ pointer_of thread
  pointer_is = sym call.state.thread_pointer ∙ call.pointer

  -- mov %fs:0, %rax
  pub pointer_steps : (len at : ℕ) → HasInstruction q b.x here (displaced len at (load Rax of_thread) 0)
      → StepsTo q thread h'
      (record h' {
        after = left
            (at_place (with_word h'.after.state Rax (pointer_of thread)) (plus here len)) h'.after.memory;
      })
  pointer_steps len at has =
      let sound = in_place call in
      stepped tied low h' sound b.it b.live has
      (loads_pointer (thread_accesses q thread) h'.after.memory h'.after.state len at Rax (pointer_of thread)
      (omega (arith, pointer_is, high))
      (ap (λ (place : ℕ). load_of plain_operations (thread_accesses q thread) h'.after.memory place 8) pointer_is
      ∙ pointer_read tied low high sound))

  pointer_step : (len at : ℕ) → HasInstruction q b.x here (displaced len at (load Rax of_thread) 0)
      → Moves (thread_steps q thread) 1 h'
      (record h' {
        after = left
            (at_place (with_word h'.after.state Rax (pointer_of thread)) (plus here len)) h'.after.memory;
      })
  pointer_step len at has = one_move (pointer_steps len at has)

  -- the next instruction's place
  pub next_place_is : (d : Decoded) → HasInstruction q b.x here d → (len : ℕ) → len ≤ 15 → here + len ≡ plus here len
  next_place_is d has len short = sum_small len short here (small_place b.it has)

  -- ** local dynamic

  -- the base of the program's own block is the thread pointer
  base_is : (instance start : ℕ) → g.counts_from_pointer ≡ true → instance ≡ 1 → g.known instance ≡ Some b.y
      → start ≡ block_start thread b.y
      → SameWord g (Marked (Base (record { thread = thread; instance = instance; start = start }))) (pointer_of thread)
  base_is instance start counts program known e =
      rw (counts, eq-eqb instance 1 program) (omega (arith, high), (b.y, (known, e)))

  -- where the meaning is a call, and the machine has the answer after one or more steps
  -- that change %rax and flags alone
  pub call_goes : (word : Word) (w : ℕ) (flags : Flags Bool) (p k : ℕ) → k ≤ 3
      → Moves (thread_steps q thread) (suc k) h' (record h' {
        after = left (record h'.after.state {
          registers = record h'.after.state.registers { rax = w };
          flags = flags;
          place = p;
        }) h'.after.memory;
      })
      → SameWord g word w → s.next ≡ p
      → Goal (next_of (called_with (meant_stack m thread) s thread start word h.after.state h.after.memory))
  call_goes word w flags p k few moves same ends =
      of_use (stack_use (meant_stack m thread) h.after.state h.after.memory) refl
    where
      of_use : (r : Result ℕ Cause) → stack_use (meant_stack m thread) h.after.state h.after.memory ≡ r
          → Goal (next_of ((clean h.after.state.place r) >>= (λ (below : ℕ).
          Ok (left (at_place (with_answer (after_call h.after.state) word) s.next)
          ((meant_stack m thread).forget h.after.memory below)))))
      of_use (Err why) e = inl tt
      of_use (Ok stack) e =
          let room = stack_room call low high e in
          goes_to call _ _ k few moves
          (hidden_call call room _ _
          (called_same g h.after.state h'.after.state call.state word w h'.after.state.registers.rdi flags same s.next p ends)
          call.pointer)

  pub ld_written : (len at : ℕ) → HasInstruction q b.x here (displaced len at (load Rax of_thread) 0)
      → s.next ≡ here + len → len ≤ 15
      → g.counts_from_pointer ≡ true → b.x.number ≡ 1 → s.target ≡ b.x.number → s.instance ≡ b.x.number
      → Goal (next_of (called_with (meant_stack m thread) s thread start
      (own_base (meant_stack m thread) s thread start) h.after.state h.after.memory))
  unfolding with_register
  ld_written len at has ends short counts program base own =
      call_goes (own_base (meant_stack m thread) s thread start) (pointer_of thread) h'.after.state.flags
      (plus here len) 0 (omega arith)
      (pointer_step len at has)
      (base_is s.instance start counts (own ∙ program) (ap g.known (own ∙ sym base) ∙ b.known_target) refl)
      (ends ∙ next_place_is _ has len short)

  -- ** general dynamic

  -- behind mov %fs:0, %rax
  abbrev pub pointed : ℕ → Runs
  pointed len =
      record h' {
        after = left (at_place (with_word h'.after.state Rax (pointer_of thread)) (plus here len))
            h'.after.memory;
      }

  pub address_word : (n : ℕ) → IsDistance g s n
      → SameWord g (Number (variable_address s start)) (plus (pointer_of thread) n)
  address_word n distance = (
    sums (pointer_of thread) start s.offset n (omega (arith, high)) (distance thread b.y high b.known_target),
    omega arith,
  )
    where
      sums : (pointer start offset n : ℕ) → pointer < 2 ^ 64 → n ≡ plus (plus start offset) (2 ^ 64 - pointer)
          → plus pointer n ≡ plus start offset
      sums pointer start offset n small e = rw e (omega (arith, small))

  second_place : (here : ℕ) → here < 2 ^ 39 → plus (plus here 9) 7 ≡ here + 16
  second_place here low = omega (arith, low)

  behind : (d : Decoded) → HasInstruction q b.x (here + 9) d → here < 2 ^ 39
      → HasInstruction q b.x (pointed 9).after.state.place d
  behind d has small = subst (λ (place : ℕ). HasInstruction q b.x place d) (sum_small 9 (omega arith) here small) has

  pub gd_le : (n : ℕ) → HasInstruction q b.x here (displaced 9 5 (load Rax of_thread) 0)
      → HasInstruction q b.x (here + 9) (displaced 7 3 (LoadAddress Quad Rax (of_register Rax)) n) → s.next
      ≡ here + 16 → IsDistance g s n
      → Goal (next_of (called_with (meant_stack m thread) s thread start (Number (variable_address s start))
      h.after.state h.after.memory))
  unfolding with_register register_of
  gd_le n first second ends distance =
      let small = small_place b.it first in
      let sound = in_place call in
      call_goes (Number (variable_address s start)) (plus (pointer_of thread) n) h'.after.state.flags
      (plus (plus here 9) 7) 1 (omega arith)
      (then_moves 1 _ (pointer_steps 9 5 first)
      (one_move (stepped tied low (pointed 9) sound b.it b.live (behind _ second small)
      (leas_register (thread_accesses q thread) h'.after.memory (pointed 9).after.state 7 3 n Rax))))
      (address_word n distance) (ends ∙ sym (second_place here small))

  pub gd_ie : (n word : ℕ) → HasInstruction q b.x here (displaced 9 5 (load Rax of_thread) 0)
      → HasInstruction q b.x (here + 9) (displaced 7 3 (add Rax of_next) n) → s.next ≡ here + 16
      → HasWord q b.x (plus s.next n) word
      → IsDistance g s word
      → Goal (next_of (called_with (meant_stack m thread) s thread start (Number (variable_address s start))
      h.after.state h.after.memory))
  unfolding with_register register_of
  gd_ie n word first second ends there distance =
      let small = small_place b.it first in
      let sound = in_place call in
      let same : word ≡ variable_distance s start (pointer_of thread) = distance thread b.y high b.known_target in
      let next : s.next ≡ plus (plus here 9) 7 = ends ∙ sym (second_place here small) in
      let adds = adds_next (thread_accesses q thread) h'.after.memory (pointed 9).after.state 7 3 n Rax word
      (ap (λ (p : ℕ). load_of plain_operations (thread_accesses q thread) h'.after.memory (plus p n) 8) (sym next)
      ∙ word_read tied low sound b.it b.live (plus s.next n) word there (omega (arith, same))) in
      call_goes (Number (variable_address s start)) (plus (pointer_of thread) word) adds.0 (plus (plus here 9) 7) 1
      (omega arith)
      (then_moves 1 _ (pointer_steps 9 5 first)
      (one_move (stepped tied low (pointed 9) sound b.it b.live (behind _ second small) adds.1)))
      (address_word word distance) next
