-- Once the run time is asked the machine does what the sequence means: it is answered at once, or after a look.
use Rattle.std.proofs.Common.{if◌then◌else◌, ◌≡◌, ◌∙◌, ◌⊎◌, ◌-◌, ◌%◌, ◌^◌, ◌<◌, ◌≤◌, ◌&&◌, ◌==◌, ℕ, Bool, true, false}
use Rattle.std.proofs.Common.{List, Option, Some, None, Result, Ok, Err, refl, sym, ap, subst, arith, inl, inr}
use Rattle.std.specs.Prelude.{nat_le}
use Rattle.std.proofs.lemmas.Bool.{ne_eqb, le-leb, le-ltb, lt-ltb}
use Rattle.address_map.specs.Map.{stack_start}
use Rattle.guest_operands.specs.declared.stop.Stop.{Stop}
use Rattle.guest_machine.specs.Run.{Goes, Looks, is_look as is_look_place, machine, next_of}
use Rattle.guest_machine.specs.Simulate.{IsUnclean, Moves}
use Rattle.guest_machine.specs.Use.{After, left}
use Rattle.job_meaning.specs.declared.values.Flag.{Flag}
use Rattle.job_meaning.specs.declared.values.Word.{Word}
use Rattle.loaded_modules.specs.declared.instance.Instance.{Instance}
use Rattle.module_table.specs.declared.events.Event.{Event}
use Rattle.module_table.specs.Past.{startup_count}
use Rattle.thread_blocks.specs.declared.asked.Asked.{Asked}
use Rattle.thread_blocks.specs.Instances.{Loads, block_start, instance_with_id, is_startup_id, numbered_instance}
use Rattle.thread_blocks.specs.RunTime.{Runs, answer_word, answered, asked_at, asked_next, thread_steps}
use Rattle.thread_blocks.specs.Spaces.{Space}
use Rattle.thread_blocks.specs.Turns.{IsFront}
use Rattle.whole_meaning.specs.declared.sequences.Sequence.{Sequence}
use Rattle.whole_meaning.specs.Meanings.{Meaning}
use Rattle.whole_meaning.specs.Sequences.{asks, does, looks_first}
use Rattle.whole_meaning.specs.Threads.{Meant, Memory, came_late, hidden_below, meant_stack, sequence_at}
use Rattle.tied_meaning.specs.Numbers.{Setting}
use Rattle.tied_meaning.specs.Sites.{IsIdFor}
use Rattle.tied_meaning.specs.Ties.{AreTied}
use Rattle.tied_meaning.specs.Threads.{HasCalled, InCall, Waiting, called_state, is_descriptor_call}
use Rattle.site_steps.proofs.Answers.{AsksFromStart, answer_for, answered_state, does_answer, pointer_stays, popped}
use Rattle.site_steps.proofs.Answers.{with_rax, word_alike}
use Rattle.site_steps.proofs.Called.{AdvancesTo, goes_to}
use Rattle.site_steps.proofs.Calls.{HasUse, hidden_fits, run_at, run_memory, run_state, sp}
use Rattle.site_steps.proofs.Owners.{Begins}
use Rattle.site_steps.proofs.Stack.{hidden_length}
use Rattle.site_steps.proofs.Steps.{in_place, moves_then, still_in_call}

-- what the meaning comes to: a look first, where the variable's instance came late
abbrev pub AnswersTo : Setting → Meaning → Loads ℕ → List Event → ℕ → Meant → Runs → Sequence
    → Result (After Word Flag Memory) Stop → Type 0
AnswersTo g m q history thread h h' s r =
    AdvancesTo g m q history thread h h' (looks_first (asks s.form && came_late m thread s.target) h.after r)

-- a stop that is unclean says nothing of the machine
pub unclean_answers : {g : Setting} {m : Meaning} {q : Loads ℕ} {history : List Event} {thread : ℕ} {h : Meant}
    {h' : Runs} → InCall g m q history thread h h'
    → (late : Bool) (stop : Stop) (r : Result (After Word Flag Memory) Stop) → r ≡ Err stop → IsUnclean stop
    → AdvancesTo g m q history thread h h' (looks_first late h.after r)
unclean_answers call true stop r e unclean = rw e (inl unclean)
unclean_answers call false stop r e unclean = rw e (inl unclean)

module _ {g : Setting} {m : Meaning} {q : Loads ℕ} {history : List Event} {thread : ℕ} (tied : AreTied g m q history)
    (low : 1 ≤ thread) (high : thread ≤ 64) {h : Meant} {h' : Runs} (call : InCall g m q history thread h h')
    {s : Sequence} (b : Begins g m q h h' s)
    (begins : sequence_at m thread h.after.memory.seen h.after.state.place ≡ Some s)
    (rdi place : ℕ) (is_look : (place ≡ 0x1000) ⊎ (place ≡ 0x1800)) (k : ℕ) (few : k ≤ 3)
    (moves : Moves (thread_steps q thread) k h' (run_at thread h' s rdi place h'.asked)) (used : HasUse m thread h h')
    (called : (o : Option Asked) → HasCalled g m q history thread s (sp h') h (run_at thread h' s rdi place o))
    (asked : Asked) (asked_is : asked_at q thread (left (run_state h' rdi place) (run_memory thread h' s)) ≡ Some asked)
    (asking : asked.asking ≡ s.instance) (names : IsIdFor q b.x s asked.id) (offset : asked.offset ≡ s.offset % 2 ^ 64)
    (kind : asked.is_descriptor ≡ is_descriptor_call s.form) (from : AsksFromStart g s b.y s.form)
    (yes : asks s.form ≡ true) where
  abbrev start : ℕ
  start = block_start thread b.y

  -- the machine has asked
  abbrev c : Runs
  c = run_at thread h' s rdi place h'.asked

  abbrev meant_by : Result (After Word Flag Memory) Stop
  meant_by = does (meant_stack m thread) s thread start s.form h.after.state h.after.memory

  abbrev goal : Type 0
  goal = AnswersTo g m q history thread h h' s meant_by

  not_end : ((place == 0x2000) ≡ false) × (is_look_place place ≡ true)
  not_end = of_place is_look
    where
      of_place : (place ≡ 0x1000) ⊎ (place ≡ 0x1800) → ((place == 0x2000) ≡ false) × (is_look_place place ≡ true)
      of_place (inl e) = rw e (refl, refl)
      of_place (inr e) = rw e (refl, refl)

  run_over : (thread_steps q thread).over c ≡ None
  unfolding thread_steps machine
  run_over = rw not_end.0 refl

  run_step : (thread_steps q thread).step c ≡ asked_next q thread c (Some asked)
  unfolding thread_steps machine
  run_step = rw (not_end.1, asked_is) refl

  -- ** what both come to

  abbrev meant_after : After Word Flag Memory
  meant_after = left (with_rax (called_state s.form h.after.state s.next) (answer_for m thread s start s.form))
      ((meant_stack m thread).forget h.after.memory (sp h'))

  meant_does : meant_by ≡ Ok meant_after
  meant_does =
      does_answer m thread s start (sp h') h.after.state h.after.memory call.pointer used s.form
      (called h'.asked).descriptor yes

  abbrev run_after : After ℕ Bool (Space Event ℕ)
  run_after = left (record (run_state h' rdi place) {
    registers = record (run_state h' rdi place).registers { rax = answer_word q thread asked b.y; rsp = sp h' };
    place = s.next;
  }) (run_memory thread h' s)

  after_in_call : InCall g m q history thread (record h { after = meant_after }) (record h' { after = run_after })
  after_in_call =
      still_in_call call _ _ (hidden_below (sp h' - stack_start thread) h.after.memory.stack)
      (run_memory thread h' s).stack
      (answered_state g (called_state s.form h.after.state s.next) _ (answer_for m thread s start s.form)
      (answer_word q thread asked b.y) (called h'.asked).state
      (word_alike g m q thread s b.y asked offset s.form kind yes from))
      (pointer_stays s.form h.after.state s.next ∙ call.pointer)
      (called h'.asked).bytes
      (hidden_length (sp h' - stack_start thread) h.after.memory.stack (hidden_fits call low high used)
      ∙ call.memory.deep)

  run_answers : answered q thread asked b.y c ≡ Ok run_after
  run_answers = popped (called h'.asked) (run_memory thread h' s) refl (answer_word q thread asked b.y)

  -- ** at once: the instance started with the program

  at_once : (0 < s.target) × ((s.target ≤ startup_count q.infos) × (asked.id ≡ s.target)) → goal
  at_once early =
      let front : IsFront h'.after.memory.seen history = (in_place call).front in
      let there = tied.startup h'.after.memory.seen s.target front early.0 early.1.0 in
      let same : there.0 ≡ b.y = let one = there.1.0 in let other = b.target in cc in
      let id : b.y.id ≡ asked.id = ap (λ (z : Instance). z.id) (sym same) ∙ (there.1.1 ∙ sym early.1.1) in
      let number : b.y.number ≡ s.target = (tied.known s.target b.y b.known_target).1 in
      let found : instance_with_id q h'.after.memory.seen asked.id ≡ Some b.y =
      ap (instance_with_id q h'.after.memory.seen) (sym id)
      ∙ tied.ids h'.after.memory.seen b.y front (ap (numbered_instance q h'.after.memory.seen) number ∙ b.target) in
      let startup : is_startup_id q asked.id ≡ true =
      startup_id asked.id (startup_count q.infos) (omega (arith, early.0, early.1.1))
      (omega (arith, early.1.0, early.1.1))
      in
      let late : came_late m thread s.target ≡ false =
      le-ltb (startup_count m.loads.infos) s.target
      (subst (λ infos. s.target ≤ startup_count infos) tied.infos early.1.0) in
      let steps : (thread_steps q thread).step c ≡ Goes (record h' { after = run_after }) =
      run_step ∙ rw (startup, found, run_answers) refl in
      subst (AdvancesTo g m q history thread h h')
      (sym (of_tests (asks s.form) (came_late m thread s.target) h.after _ yes late))
      (subst (λ (r : Result (After Word Flag Memory) Stop). AdvancesTo g m q history thread h h' (next_of r))
      (sym meant_does)
      (goes_to call _ meant_after k few
      (moves_then k h' moves (record { over = run_over; step = steps })) after_in_call))
    where
      startup_id : (id count : ℕ) → 0 < id → id ≤ count → (if id == 0 then false else nat_le id count) ≡ true
      startup_id id count some below =
          rw (ne_eqb id 0 (λ e. absurd (omega (arith, e, some))), le-leb id count below) refl

      of_tests : (a l : Bool) (at : After Word Flag Memory) (r : Result (After Word Flag Memory) Stop) → a ≡ true
          → l ≡ false → looks_first (a && l) at r ≡ next_of r
      of_tests a l at r e f = rw (e, f) refl

  -- ** after a look: the code's own instance came late

  at_look : (s.target ≡ b.x.number) × ((asked.id ≡ b.x.id) × (startup_count q.infos < b.x.number)) → goal
  at_look own =
      let sound = in_place call in
      let startup : is_startup_id q asked.id ≡ false =
      ap (is_startup_id q) own.1.0 ∙ tied.late_ids h'.after.memory.seen b.x sound.front b.live own.1.1 in
      let late : came_late m thread s.target ≡ true =
      lt-ltb (startup_count m.loads.infos) s.target
      (subst (λ infos. startup_count infos < s.target) tied.infos (omega (arith, own.0, own.1.1))) in
      let both : (asks s.form && came_late m thread s.target) ≡ true = rw (yes, late) refl in
      let steps : (thread_steps q thread).step c ≡ Looks (run_at thread h' s rdi place (Some asked)) =
      run_step ∙ rw startup refl in
      let waits : Waiting g m q history thread h (run_at thread h' s rdi place (Some asked)) = record {
        owners = call.owners;
        own = call.memory.space.own;
        placed = sound.placed;
        paired = sound.paired;
        seen = call.memory.space.seen;
        front = call.front;
        s = s;
        begins = begins;
        late = both;
        stack = sp h';
        called = called (Some asked);
        asked = asked;
        is = refl;
        asks_for = record {
          asking = asking;
          id = λ z known. subst (λ (y : Instance). IsIdFor q y s asked.id) (one z known) (inr own);
          offset = offset;
          kind = kind;
        };
      } in
      subst (AdvancesTo g m q history thread h h')
      (sym (of_tests (asks s.form && came_late m thread s.target) h.after _ both))
      (subst (λ (r : Result (After Word Flag Memory) Stop).
      AdvancesTo g m q history thread h h' (looks_first true h.after r)) (sym meant_does)
      (k, (c, (run_at thread h' s rdi place (Some asked), (few, moves, run_over, steps, waits)))))
    where
      one : (z : Instance) → g.known s.instance ≡ Some z → b.x ≡ z
      one z known = let mine : g.known s.instance ≡ Some b.x = ap g.known b.stands.own ∙ b.it.known in cc

      of_tests : (a : Bool) (at : After Word Flag Memory) (r : Result (After Word Flag Memory) Stop) → a ≡ true
          → looks_first a at r ≡ looks_first true at r
      of_tests a at r e = rw e refl

  pub asks_goes : goal
  asks_goes = of_names names
    where
      of_names : IsIdFor q b.x s asked.id → goal
      of_names (inl early) = at_once early
      of_names (inr own) = at_look own
