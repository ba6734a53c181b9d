-- Sequences of one instruction that calls nothing, kept and rewritten: initial exec, descriptors, and what stands for
-- a descriptor's call.
use Rattle.std.proofs.Common.{if◌then◌else◌, ◌≡◌, ◌∙◌, ◌+◌, ◌%◌, ◌^◌, ◌<◌, ◌≤◌, ◌&&◌, ◌==◌, ℕ, Bool, true, false, List}
use Rattle.std.proofs.Common.{None, Result, Ok, Err, refl, sym, ap, subst, arith, inl}
use Rattle.std.proofs.lemmas.Bool.{and_parts, eqb-true}
use Rattle.address_map.specs.Map.{pointer_of}
use Rattle.amd64_words.specs.declared.register.Register.{Register}
use Rattle.amd64_words.specs.declared.register.Register.TheVariants.{Rax}
use Rattle.amd64_subset.specs.declared.instr.Decoded.{Decoded}
use Rattle.amd64_subset.specs.Register.{register_of as register_named}
use Rattle.amd64_subset.specs.declared.instr.Operation.TheVariants.{LoadAddress, Nop}
use Rattle.amd64_subset.specs.declared.instr.Width.TheVariants.{Quad}
use Rattle.guest_arithmetic.specs.declared.cause.Cause.{Cause}
use Rattle.guest_arithmetic.specs.declared.cause.Cause.TheVariants as cause
use Rattle.guest_arithmetic.specs.declared.flags.Flags.{Flags}
use Rattle.guest_operands.specs.declared.state.State.{State}
use Rattle.guest_arithmetic.specs.Plain.{plain_operations}
use Rattle.guest_machine.specs.Access.{load_of}
use Rattle.guest_machine.specs.Follow.{SameState}
use Rattle.guest_machine.proofs.Follow.{same_place, same_register, same_word}
use Rattle.guest_arithmetic.specs.Cause.{both}
use Rattle.job_meaning.specs.Marked.{used_number}
use Rattle.guest_machine.specs.Run.{Next, next_of}
use Rattle.guest_machine.specs.State.{at_place, register_of, with_register, with_word}
use Rattle.guest_machine.specs.Use.{◌>>=◌, After, clean, left, plus}
use Rattle.job_meaning.specs.declared.values.Flag.{Flag}
use Rattle.job_meaning.specs.declared.values.Word.{Word}
use Rattle.job_meaning.specs.declared.values.Word.TheVariants.{Number, Undefined, Marked}
use Rattle.job_meaning.specs.declared.values.Token.TheVariants.{Base, Descriptor}
use Rattle.module_table.specs.declared.events.Event.{Event}
use Rattle.sequence_laws.specs.Instructions.{add, add_number, added as added_code, displaced, immediate, load, of_next}
use Rattle.sequence_laws.specs.Instructions.{of_register, plain, set}
use Rattle.thread_blocks.specs.Instances.{Loads, block_start}
use Rattle.thread_blocks.specs.RunTime.{Runs, thread_accesses}
use Rattle.whole_meaning.specs.declared.sequences.Sequence.{Sequence}
use Rattle.whole_meaning.specs.Meanings.{Meaning}
use Rattle.whole_meaning.specs.Sequences.{added, described, descriptor_called, descriptor_use, loaded, stack_use}
use Rattle.whole_meaning.specs.Sequences.{without_flags, variable_distance, with_sum}
use Rattle.whole_meaning.specs.Threads.{Meant, Memory, meant_stack}
use Rattle.tied_meaning.specs.Numbers.{Setting, SameWord, alike}
use Rattle.tied_meaning.specs.Sites.{HasInstruction, HasWord, IsDistance}
use Rattle.tied_meaning.specs.Ties.{AreTied}
use Rattle.tied_meaning.specs.Threads.{InCall}
use Rattle.site_steps.proofs.Acts.{adds_next, adds_number, does_here, leas_next, leas_register, loads_next, passes}
use Rattle.site_steps.proofs.Acts.{sets}
use Rattle.site_steps.proofs.Owners.{Begins}
use Rattle.site_steps.proofs.Called.{AdvancesTo, described_same, goes_to, hidden_call, stack_room}
use Rattle.site_steps.proofs.Steps.{in_place, one_move, small_place, stepped, still_in_call, sum_small}
use Rattle.tied_memory.proofs.Standing.{word_read}
use Rattle.guest_machine.specs.Machine.{with_answer}

-- a descriptor that %rax holds
pub descriptor_is : (g : Setting) (s : Sequence) (w : Word) (n : ℕ) → descriptor_use s w ≡ Ok tt → SameWord g w n
    → (n ≡ g.descriptor s.instance s.symbol % 2 ^ 64) × (g.makes_descriptor s.instance s.symbol ≡ true)
descriptor_is g s (Number number) n e same = absurd cc
descriptor_is g s Undefined n e same = absurd cc
descriptor_is g s (Marked (Base block)) n e same = absurd cc
descriptor_is g s (Marked (Descriptor instance symbol)) n e same =
    of_test ((instance == s.instance) && (symbol == s.symbol)) refl e
  where
    of_test : (t : Bool) → ((instance == s.instance) && (symbol == s.symbol)) ≡ t
        → (if t then Ok (tt {0}) else Err cause.Descriptor) ≡ Ok (tt {0})
        → (n ≡ g.descriptor s.instance s.symbol % 2 ^ 64) × (g.makes_descriptor s.instance s.symbol ≡ true)
    of_test false f e = absurd cc
    of_test true f e =
        let parts = and_parts (instance == s.instance) (symbol == s.symbol) f in
        let i = eqb-true instance s.instance parts.0 in
        let j = eqb-true symbol s.symbol parts.1 in
        rw (sym i, sym j) same

module _ {g : Setting} {m : Meaning} {q : Loads ℕ} {history : List Event} {thread : ℕ} (tied : AreTied g m q history)
    (low : 1 ≤ thread) (high : thread ≤ 64) {h : Meant} {h' : Runs} (call : InCall g m q history thread h h')
    {s : Sequence} (b : Begins g m q h h' s) where
  abbrev here : ℕ
  here = h'.after.state.place

  abbrev Goal : Next (After Word Flag Memory) → Type 0
  Goal = AdvancesTo g m q history thread h h'

  abbrev begin : ℕ
  begin = block_start thread b.y

  -- one step of the machine that leaves memory as it is
  one_goes : (d : Decoded) (a : State Word Flag) (st : State ℕ Bool) → HasInstruction q b.x here d
      → does_here (thread_accesses q thread) h'.after.memory h'.after.state d ≡ Ok (left st h'.after.memory)
      → SameState (alike g) a st → a.thread_pointer ≡ pointer_of thread
      → Goal (next_of (Ok (left a h.after.memory)))
  one_goes d a st has does same pointer =
      goes_to call _ _ 0 (omega arith)
      (one_move (stepped tied low h' (in_place call) b.it b.live has does))
      (still_in_call call a st h.after.memory.stack h'.after.memory.stack same pointer call.memory.space.stack
      call.memory.deep)

  -- the word that the code loads
  read_at : (len n word : ℕ) → s.next ≡ plus here len → HasWord q b.x (plus s.next n) word → word < 2 ^ 64
      → load_of plain_operations (thread_accesses q thread) h'.after.memory (plus (plus here len) n) 8 ≡ Ok word
  read_at len n word next there small =
      ap (λ (p : ℕ). load_of plain_operations (thread_accesses q thread) h'.after.memory (plus p n) 8) (sym next)
      ∙ word_read tied low (in_place call) b.it b.live (plus s.next n) word there small

  -- the distance is the number in a word or in a field
  distance_is : (n : ℕ) → IsDistance g s n → n ≡ variable_distance s begin h.after.state.thread_pointer
  distance_is n distance =
      distance thread b.y high b.known_target ∙ ap (variable_distance s (block_start thread b.y)) (sym call.pointer)

  next_is : (d : Decoded) → HasInstruction q b.x here d → (len : ℕ) → len ≤ 15 → s.next ≡ here + len
      → s.next ≡ plus here len
  next_is d has len short ends = ends ∙ sum_small len short here (small_place b.it has)

  -- ** initial exec

  distance_word : (n : ℕ) → IsDistance g s n
      → SameWord g (Number (variable_distance s begin h.after.state.thread_pointer)) n
  distance_word n distance = (distance_is n distance, omega arith)

  -- a register holds the distance
  mov_goes : (d : Decoded) (r : Register) (n : ℕ) (len : ℕ) → HasInstruction q b.x here d → r ≡ s.register
      → IsDistance g s n → s.next ≡ plus here len
      → does_here (thread_accesses q thread) h'.after.memory h'.after.state d
      ≡ Ok (left (at_place (with_word h'.after.state r n) (plus here len)) h'.after.memory)
      → Goal
      (next_of (loaded (meant_stack m thread) s thread begin h.after.state h.after.memory))
  unfolding alike
  mov_goes d r n len has register distance next does =
      one_goes d _ _ has does
      (same_place (alike g) _ _ (subst (λ (r' : Register). SameState (alike g)
      (with_word h.after.state s.register (Number (variable_distance s begin h.after.state.thread_pointer)))
      (with_word h'.after.state r' n)) (sym register)
      (same_word (alike g) h.after.state h'.after.state call.state s.register _ n (distance_word n distance))) s.next
      (plus here len) next)
      call.pointer

  pub ie_mov : (r : Register) (first word : ℕ) → HasInstruction q b.x here (displaced 7 3 (load r of_next) first)
      → s.next ≡ here + 7 → r ≡ s.register
      → HasWord q b.x (plus s.next first) word → IsDistance g s word
      → Goal
      (next_of (loaded (meant_stack m thread) s thread begin h.after.state h.after.memory))
  ie_mov r first word has ends register there distance =
      let next = next_is _ has 7 (omega arith) ends in
      mov_goes _ r word 7 has register distance next
      (loads_next (thread_accesses q thread) h'.after.memory h'.after.state 7 3 first r word
      (read_at 7 first word next there (omega (arith, distance_is word distance))))

  pub ie_mov_le : (r : Register) (n : ℕ) → HasInstruction q b.x here (immediate 7 3 (set r) n) → s.next ≡ here + 7
      → r ≡ s.register → IsDistance g s n
      → Goal
      (next_of (loaded (meant_stack m thread) s thread begin h.after.state h.after.memory))
  ie_mov_le r n has ends register distance =
      let next = next_is _ has 7 (omega arith) ends in
      mov_goes _ r n 7 has register distance next
      (sets (thread_accesses q thread) h'.after.memory h'.after.state 7 3 n r
      ∙ ap (λ (w : ℕ). Ok (left (at_place (with_word h'.after.state r w) (plus here 7)) h'.after.memory))
      (omega (arith, distance_is n distance)))

  -- the distance is added to a register
  pub add_goes : (d : Decoded) (r : Register) (n : ℕ) (flags : Flags Bool) → HasInstruction q b.x here d
      → r ≡ s.register → IsDistance g s n → s.next ≡ plus here 7
      → does_here (thread_accesses q thread) h'.after.memory h'.after.state d
      ≡ Ok (left (record (with_word h'.after.state r (plus (register_of h'.after.state.registers r) n))
      { flags = flags; place = plus here 7 }) h'.after.memory)
      → Goal
      (next_of (added (meant_stack m thread) s thread begin h.after.state h.after.memory))
  unfolding alike
  add_goes d r n flags has register distance next does =
      of_use (register_of h.after.state.registers s.register)
      (subst (λ (r' : Register). SameWord g (register_of h.after.state.registers s.register)
      (register_of h'.after.state.registers r')) (sym register)
      (same_register (alike g) h.after.state.registers h'.after.state.registers call.state.registers s.register))
    where
      sum_word : (number reg : ℕ) → reg ≡ number
          → SameWord g (Number (plus number (variable_distance s begin h.after.state.thread_pointer))) (plus reg n)
      sum_word number reg e = (rw (e, distance_is n distance) refl, omega arith)

      of_use : (w : Word) → SameWord g w (register_of h'.after.state.registers r)
          → Goal (next_of ((clean h.after.state.place (used_number w)) >>= (λ (number : ℕ).
          Ok (left (at_place (with_sum (meant_stack m thread) s thread begin
          (plus number (variable_distance s begin h.after.state.thread_pointer)) h.after.state) s.next)
          h.after.memory))))
      of_use (Number number) same =
          let sum = same_word (alike g) h.after.state h'.after.state call.state s.register
          (Number (plus number (variable_distance s begin h.after.state.thread_pointer)))
          (plus (register_of h'.after.state.registers r) n)
          (sum_word number (register_of h'.after.state.registers r) same.0) in
          let sum_at = subst (λ (r' : Register). SameState (alike g)
          (with_word h.after.state s.register
          (Number (plus number (variable_distance s begin h.after.state.thread_pointer))))
          (with_word h'.after.state r' (plus (register_of h'.after.state.registers r) n))) (sym register) sum in
          one_goes d _ _ has does (record {
            registers = sum_at.registers;
            flags = record { zero = tt; sign = tt; carry = tt; overflow = tt };
            place = next;
            thread_pointer = call.state.thread_pointer;
          }) call.pointer
      of_use Undefined same = inl tt
      of_use (Marked token) same = inl tt

  pub ie_add : (r : Register) (first word : ℕ) → HasInstruction q b.x here (displaced 7 3 (add r of_next) first)
      → s.next ≡ here + 7 → r ≡ s.register
      → HasWord q b.x (plus s.next first) word → IsDistance g s word
      → Goal (next_of (added (meant_stack m thread) s thread begin h.after.state h.after.memory))
  ie_add r first word has ends register there distance =
      let next = next_is _ has 7 (omega arith) ends in
      let adds = adds_next (thread_accesses q thread) h'.after.memory h'.after.state 7 3 first r word
      (read_at 7 first word next there (omega (arith, distance_is word distance))) in
      add_goes _ r word adds.0 has register distance next adds.1

  -- in the place of an add: lea, or of %rsp and %r12 add
  pub ie_add_le : (reg n : ℕ) → HasInstruction q b.x here (added_code reg n) → s.next ≡ here + 7
      → register_named reg ≡ s.register → IsDistance g s n
      → Goal (next_of (added (meant_stack m thread) s thread begin h.after.state h.after.memory))
  ie_add_le reg n has ends register distance = of_test (reg % 8 == 4) has
    where
      of_test : (t : Bool) → HasInstruction q b.x here (if t then immediate 7 3 (add_number (register_named reg)) n
          else displaced 7 3 (LoadAddress Quad (register_named reg) (of_register (register_named reg))) n)
          → Goal (next_of (added (meant_stack m thread) s thread begin h.after.state h.after.memory))
      of_test true has =
          let adds = adds_number (thread_accesses q thread) h'.after.memory h'.after.state 7 3 n (register_named reg) in
          add_goes _ (register_named reg) n adds.0 has register distance (next_is _ has 7 (omega arith) ends) adds.1
      of_test false has =
          add_goes _ (register_named reg) n h'.after.state.flags has register distance
          (next_is _ has 7 (omega arith) ends)
          (leas_register (thread_accesses q thread) h'.after.memory h'.after.state 7 3 n (register_named reg))

  -- ** descriptors

  -- %rax holds the descriptor's number
  lea_goes : (d : Decoded) (w : ℕ) → HasInstruction q b.x here d → s.instance ≡ b.x.number
      → g.makes_descriptor b.x.number s.symbol ≡ true
      → w ≡ g.descriptor b.x.number s.symbol % 2 ^ 64 → s.next ≡ plus here 7
      → does_here (thread_accesses q thread) h'.after.memory h'.after.state d
      ≡ Ok (left (at_place (with_word h'.after.state Rax w) (plus here 7)) h'.after.memory)
      → Goal (next_of (described (meant_stack m thread) s thread begin h.after.state h.after.memory))
  unfolding with_register alike
  lea_goes d w has own made number next does =
      one_goes d _ _ has does
      (same_place (alike g) _ _
      (same_word (alike g) h.after.state h'.after.state call.state Rax (Marked (Descriptor s.instance s.symbol)) w
      (rw own (number, made))) s.next (plus here 7) next)
      call.pointer

  pub desc_lea : (first : ℕ) → HasInstruction q b.x here (displaced 7 3 (LoadAddress Quad Rax of_next) first)
      → s.next ≡ here + 7
      → s.instance ≡ b.x.number → g.makes_descriptor b.x.number s.symbol ≡ true → plus s.next first
      ≡ g.descriptor b.x.number s.symbol % 2 ^ 64
      → Goal (next_of (described (meant_stack m thread) s thread begin h.after.state h.after.memory))
  desc_lea first has ends own made number =
      let next = next_is _ has 7 (omega arith) ends in
      lea_goes _ (plus (plus here 7) first) has own made (ap (λ (p : ℕ). plus p first) (sym next) ∙ number) next
      (leas_next (thread_accesses q thread) h'.after.memory h'.after.state 7 3 first Rax)

  pub desc_le : (n : ℕ) → HasInstruction q b.x here (immediate 7 3 (set Rax) n) → s.next ≡ here + 7
      → s.instance ≡ b.x.number → g.makes_descriptor b.x.number s.symbol ≡ true
      → n ≡ g.descriptor b.x.number s.symbol % 2 ^ 64
      → Goal (next_of (described (meant_stack m thread) s thread begin h.after.state h.after.memory))
  desc_le n has ends own made number =
      lea_goes _ (n % 2 ^ 64) has own made (omega (arith, number)) (next_is _ has 7 (omega arith) ends)
      (sets (thread_accesses q thread) h'.after.memory h'.after.state 7 3 n Rax)

  pub desc_ie : (n : ℕ) → HasInstruction q b.x here (displaced 7 3 (load Rax of_next) n) → s.next ≡ here + 7
      → s.instance ≡ b.x.number → g.makes_descriptor b.x.number s.symbol ≡ true
      → HasWord q b.x (plus s.next n) (g.descriptor b.x.number s.symbol % 2 ^ 64)
      → Goal (next_of (described (meant_stack m thread) s thread begin h.after.state h.after.memory))
  desc_ie n has ends own made there =
      let next = next_is _ has 7 (omega arith) ends in
      lea_goes _ (g.descriptor b.x.number s.symbol % 2 ^ 64) has own made refl next
      (loads_next (thread_accesses q thread) h'.after.memory h'.after.state 7 3 n Rax _
      (read_at 7 n (g.descriptor b.x.number s.symbol % 2 ^ 64) next there (omega arith)))

  -- the call of a descriptor that holds the distance itself
  pub desc_nop : HasInstruction q b.x here (plain 2 (Nop None)) → s.next ≡ here + 2 → s.instance ≡ b.x.number
      → (g.makes_descriptor b.x.number s.symbol ≡ true → IsDistance g s (g.descriptor b.x.number s.symbol % 2 ^ 64))
      → Goal (next_of (descriptor_called (meant_stack m thread) s thread begin h.after.state h.after.memory))
  unfolding alike
  desc_nop has ends own distance =
      of_uses (descriptor_use s h.after.state.registers.rax)
      (stack_use (meant_stack m thread) h.after.state h.after.memory) refl refl
    where
      of_uses : (d : Result (Unit {0}) Cause) (r : Result ℕ Cause) → descriptor_use s h.after.state.registers.rax ≡ d
          → stack_use (meant_stack m thread) h.after.state h.after.memory ≡ r
          → Goal (next_of ((clean h.after.state.place (both d r)) >>= (λ (uses : Unit {0} × ℕ).
          Ok (left (at_place (without_flags
          (with_answer h.after.state (Number (variable_distance s begin h.after.state.thread_pointer)))) s.next)
          ((meant_stack m thread).forget h.after.memory uses.1)))))
      of_uses (Err why) (Ok stack) e f = inl tt
      of_uses (Err why) (Err other) e f = inl tt
      of_uses (Ok done) (Err why) e f = inl tt
      of_uses (Ok done) (Ok stack) e f =
          let there = descriptor_is g s h.after.state.registers.rax h'.after.state.registers.rax e call.state.registers.rax in
          let number = distance_is (g.descriptor b.x.number s.symbol % 2 ^ 64)
          (distance (ap (λ (n : ℕ). g.makes_descriptor n s.symbol) (sym own) ∙ there.1)) in
          let rax = there.0 ∙ ap (λ (n : ℕ). g.descriptor n s.symbol % 2 ^ 64) own ∙ number in
          let room = stack_room call low high f in
          goes_to call _ _ 0 (omega arith)
          (one_move (stepped tied low h' (in_place call) b.it b.live has
          (passes (thread_accesses q thread) h'.after.memory h'.after.state 2)))
          (hidden_call call room _ _
          (described_same g h.after.state h'.after.state call.state
          (Number (variable_distance s begin h.after.state.thread_pointer)) h'.after.state.registers.rax
          h'.after.state.flags (rax, omega arith) s.next (plus here 2) (next_is _ has 2 (omega arith) ends))
          call.pointer)
