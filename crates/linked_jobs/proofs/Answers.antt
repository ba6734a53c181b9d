-- What general dynamic sequences and calls of descriptors leave in %rax, by meaning and by machine.
use Rattle.std.proofs.Common.{◌≡◌, ◌∙◌, ◌⊎◌, ◌-◌, ◌^◌, ◌<◌, ◌≤◌, ℕ, zero, suc, Bool, true, false, List, Option, Some}
use Rattle.std.proofs.Common.{None, Result, Ok, Err, refl, sym, ap, subst, inl, inr, arith}
use Rattle.std.specs.Prelude.{◌&&◌, option_and_then}
use Rattle.address_map.specs.Map.{owner_at, pointer_of}
use Rattle.guest_arithmetic.specs.declared.cause.Cause.{Cause}
use Rattle.guest_operands.specs.declared.state.State.{State}
use Rattle.guest_operands.specs.declared.stop.Stop.{Stop}
use Rattle.guest_operands.specs.State.{at_place}
use Rattle.guest_operands.specs.Use.{◌>>=◌, After, clean, left, plus}
use Rattle.guest_machine.specs.Run.{Goes, Looks, Stepping}
use Rattle.guest_machine.specs.Simulate.{Advances, Moves}
use Rattle.job_meaning.specs.declared.values.Flag.{Flag}
use Rattle.job_meaning.specs.declared.values.Word.{Word}
use Rattle.job_meaning.specs.declared.values.Word.TheVariants.{Number}
use Rattle.loaded_modules.specs.declared.instance.Instance.{Instance}
use Rattle.module_table.specs.declared.events.Event.{Event}
use Rattle.module_table.specs.Past.{startup_count}
use Rattle.sequence_forms.specs.declared.forms.Form.{Form}
use Rattle.sequence_forms.specs.declared.forms.Form.TheVariants.{Gd, GdInd, Ld, LdInd, IeMov, IeAdd, DescLea, DescCall}
use Rattle.thread_blocks.specs.Held.{looked, reached}
use Rattle.thread_blocks.specs.Instances.{Loads, block_start, numbered_instance}
use Rattle.thread_blocks.specs.RunTime.{Runs, resume_line, thread_steps, resumed}
use Rattle.thread_blocks.specs.Turns.{Answered, Begun, Calls, Says}
use Rattle.thread_blocks.specs.TurnsAlike.{SameBegun}
use Rattle.thread_blocks.specs.Turns.{IsFront}
use Rattle.transcript_text.specs.declared.outcomes.LineFault.TheVariants.{Unloaded}
use Rattle.transcript_text.specs.declared.outcomes.Outcome.TheVariants.{Fault}
use Rattle.whole_meaning.specs.declared.sequences.Sequence.{Sequence}
use Rattle.whole_meaning.specs.Laws.{IsGeneral}
use Rattle.whole_meaning.specs.Meanings.{Meaning}
use Rattle.whole_meaning.specs.Running.{meaning}
use Rattle.whole_meaning.specs.Sequences.{after_call, asks, descriptor_calls, does, looks_first, sequence_result}
use Rattle.whole_meaning.specs.Sequences.{stack_use, variable_address, variable_distance, without_flags}
use Rattle.whole_meaning.specs.Threads.{Meant, Memory, came_late, code_owner, held_next, meant_stack, meant_steps}
use Rattle.whole_meaning.specs.Threads.{resume_meant, resumed_at, resumed_by, resumed_for, sequence_at, sequence_does}
use Rattle.whole_meaning.specs.Threads.{sequence_next}
use Rattle.tied_meaning.specs.Numbers.{Setting, SameWord, alike}
use Rattle.tied_meaning.specs.Ties.{AreTied, IsTied}
use Rattle.tied_meaning.specs.Threads.{AtRest, InCall, Waiting}
use Rattle.tied_memory.proofs.Live.{one_owner, tied_at}
use Rattle.site_steps.proofs.Owners.{HasOwner, numbered_same, owner_is}
use Rattle.call_alike.proofs.Simulated.{calls_alike}
use Rattle.linked_jobs.specs.Answers.{Finds, TakesFew, TakesStep}
use Rattle.guest_machine.specs.Machine.{with_answer}
use Rattle.std.specs.Option.{option_map_or}

-- ** the machine follows

-- steps of which the last goes
last_step : {S : Type 0} (y : Stepping S) (resume : List Event → S → Begun S) (seen : List Event) (k : ℕ) (s t : S)
    → Moves y (suc k) s t → (u : S) × (Moves y k s u × TakesStep y resume seen u t)
last_step y resume seen zero s t (over, (u, (step, e))) =
    (s, (refl, (over, inl (subst (λ v. y.step s ≡ Goes v) e step))))
last_step y resume seen (suc k) s t (over, (u, (step, moves))) =
    let more = last_step y resume seen k u t moves in (more.0, ((over, (u, (step, more.1.0))), more.1.1))

module _ {g : Setting} {m : Meaning} {q : Loads ℕ} {history : List Event} {thread : ℕ} (tied : AreTied g m q history)
    (low : 1 ≤ thread) (high : thread ≤ 64) where
  abbrev Call : Meant → Runs → Type 0
  Call = InCall g m q history thread

  abbrev Steps : List Event → Meant → Meant → Type 0
  Steps = TakesStep (meant_steps m thread) (resume_meant m thread)

  abbrev Follows : List Event → Meant → Runs → Type 0
  Follows seen t h' = (t' : Runs) × (TakesFew (thread_steps q thread) (resume_line q thread) seen h' t' × Call t t')

  advances : (h : Meant) (h' : Runs) → Call h h' → (meant_steps m thread).over h ≡ None
      → Advances (thread_steps q thread) Call (Waiting g m q history thread) (AtRest g m q history thread) h
      ((meant_steps m thread).step h) h'
  advances h h' call over = ((calls_alike g m q history tied).steps thread low high).step h h' call over

  resumes : (seen : List Event) (t : Meant) (b : Begun Runs)
      → SameBegun (λ (e : List Event). Call) (λ (e : List Event). AtRest g m q history thread) seen (Calls t) b
      → (t' : Runs) × ((b ≡ Calls t') × Call t t')
  resumes seen t (Says ending s) same = absurd same
  resumes seen t (Calls t') same = (t', (refl, same))

  follows : (seen : List Event) → IsFront seen history → (h : Meant) (h' : Runs) → Call h h' → (t : Meant)
      → Steps seen h t → Follows seen t h'
  follows seen front h h' call t (over, inl goes) =
      let one : Advances (thread_steps q thread) Call (Waiting g m q history thread) (AtRest g m q history thread) h
      (Goes t) h' =
      subst (λ next. Advances (thread_steps q thread) Call (Waiting g m q history thread)
      (AtRest g m q history thread) h next h') goes (advances h h' call over) in
      let last = last_step (thread_steps q thread) (resume_line q thread) seen one.0 h' one.1.0 one.1.1.1 in
      (one.1.0, ((one.0, (last.0, (one.1.1.0, last.1.0, last.1.1))), one.1.1.2))
  follows seen front h h' call t (over, inr (u, (looks, calls))) =
      let one : Advances (thread_steps q thread) Call (Waiting g m q history thread) (AtRest g m q history thread) h
      (Looks u) h' =
      subst (λ next. Advances (thread_steps q thread) Call (Waiting g m q history thread)
      (AtRest g m q history thread) h next h') looks (advances h h' call over) in
      let b' = one.1.1.0 in
      let facts = one.1.1.1 in
      let same = subst (λ b. SameBegun (λ (e : List Event). Call) (λ (e : List Event). AtRest g m q history thread) seen
      b (resume_line q thread seen b')) calls
      ((calls_alike g m q history tied).resume thread low high seen front u b' facts.4) in
      let on = resumes seen t (resume_line q thread seen b') same in
      (on.0, ((one.0, (one.1.0, (facts.0, facts.1, (facts.2, inr (b', (facts.3, on.1.0)))))), on.1.1))

  -- ** whose variable it is

  abbrev Target : List Event → Sequence → Type 0
  Target seen s = (y : Instance) × ((numbered_instance m.loads seen s.target ≡ Some y) × (g.known s.target ≡ Some y))

  target_at : (seen : List Event) → IsFront seen history → (x : Instance) (s : Sequence) → IsTied g m q x
      → numbered_instance q seen x.number ≡ Some x
      → (s.target ≡ x.number) ⊎ ((0 < s.target) × (s.target ≤ startup_count q.infos)) → Target seen s
  target_at seen front x s it live (inl own) = (
    x,
    (numbered_same tied seen s.target ∙ (ap (numbered_instance q seen) own ∙ live), ap g.known own ∙ it.known),
  )
  target_at seen front x s it live (inr early) =
      let there = tied.startup seen s.target front early.0 early.1 in
      let t = tied_at tied seen front s.target there.0 there.1.0 in
      (there.0, (numbered_same tied seen s.target ∙ there.1.0, ap g.known (sym t.1) ∙ t.0.known))

  -- ** what the meaning leaves

  -- a sequence was done, in some state of the thread with this thread pointer
  record Done (s : Sequence) (t : Meant) : Type 0 where
    pub y : Instance
    pub known : g.known s.target ≡ Some y
    pub state : State Word Flag
    pub memory : Memory
    pub pointer : state.thread_pointer ≡ pointer_of thread
    pub ok : does (meant_stack m thread) s thread (block_start thread y) s.form state memory ≡ Ok t.after

  -- what a step and a look come to
  ok_goes : (h t : Meant) (late : Bool) (r : Result (After Word Flag Memory) Stop)
      → held_next m thread h (looks_first late h.after r) ≡ Goes t → r ≡ Ok t.after
  ok_goes h t false (Ok after) e = let same : record h { after = after } ≡ t = cc in ap (λ (w : Meant). Ok w.after) same
  ok_goes h t false (Err stop) e = absurd cc
  ok_goes h t true (Ok after) e = absurd cc
  ok_goes h t true (Err stop) e = absurd cc

  ok_looks : (h u : Meant) (late : Bool) (r : Result (After Word Flag Memory) Stop)
      → held_next m thread h (looks_first late h.after r) ≡ Looks u → h ≡ u
  ok_looks h u false (Ok after) e = absurd cc
  ok_looks h u false (Err stop) e = absurd cc
  ok_looks h u true (Ok after) e = let same : record h { after = h.after } ≡ u = cc in same
  ok_looks h u true (Err stop) e = absurd cc

  ok_calls : (h t : Meant) (r : Result (After Word Flag Memory) Stop) → resumed h r ≡ Calls t → r ≡ Ok t.after
  ok_calls h t (Ok after) e = let same : record h { after = after } ≡ t = cc in ap (λ (w : Meant). Ok w.after) same
  ok_calls h t (Err stop) e = absurd cc

  -- where a sequence begins a step is its own
  step_is : (h : Meant) (s : Sequence) → sequence_at m thread h.after.memory.seen h.after.state.place ≡ Some s
      → (meant_steps m thread).step h ≡ held_next m thread h (sequence_next m thread h.after s)
  unfolding meant_steps meaning
  step_is h s here = rw here refl

  done_at : (at : After Word Flag Memory) (s : Sequence) (y : Instance) (t : Meant)
      → numbered_instance m.loads at.memory.seen s.target ≡ Some y → sequence_does m thread s at ≡ Ok t.after
      → does (meant_stack m thread) s thread (block_start thread y) s.form at.state at.memory ≡ Ok t.after
  unfolding sequence_result
  done_at at s y t target e = subst (λ (o : Option Instance).
      does (meant_stack m thread) s thread (option_map_or (block_start thread) o 0) s.form at.state at.memory
      ≡ Ok t.after) target e

  module _ (seen : List Event) (front : IsFront seen history) (h : Meant) (h' : Runs) (call : Call h h') (s : Sequence)
      (here : sequence_at m thread h.after.memory.seen h.after.state.place ≡ Some s) (t : Meant) where
    abbrev place : ℕ
    place = h.after.state.place

    abbrev owner : HasOwner g m q h s
    owner = owner_is tied thread h s call.front here

    abbrev late : Bool
    late = asks s.form && came_late m thread s.target

    done_goes : (meant_steps m thread).step h ≡ Goes t → Done s t
    done_goes goes =
        let y = target_at h.after.memory.seen call.front owner.x s owner.it owner.live owner.stands.asked in
        record {
          y = y.0;
          known = y.1.1;
          state = h.after.state;
          memory = h.after.memory;
          pointer = call.pointer;
          ok = done_at h.after s y.0 t y.1.0
              (ok_goes h t late (sequence_does m thread s h.after) (sym (step_is h s here) ∙ goes));
        }

    -- after the look; the code's instance is live still
    abbrev now : Meant
    now = looked m.loads thread seen h

    looked_for : (o : Option Instance) → code_owner m thread seen place ≡ o
        → resumed_for m thread now (code_owner m thread seen place) ≡ Calls t → Done s t
    looked_for None e calls =
        let gone : Says (Answered (Fault Unloaded)) now ≡ Calls t = sym (ap (resumed_for m thread now) e) ∙ calls in
        absurd cc
    looked_for (Some x) e calls =
        let there : numbered_instance q seen (owner_at place) ≡ Some x =
        sym (numbered_same tied seen (owner_at place)) ∙ e in
        let it = tied_at tied seen front (owner_at place) x there in
        let one : x ≡ owner.x = one_owner g x owner.x it.0.known owner.it.known (it.1 ∙ sym owner.number) in
        let sequence_now : sequence_at m thread seen place ≡ Some s =
        ap (option_and_then (λ (z : Instance). m.sequence z place)) e
        ∙ (ap (λ (z : Instance). m.sequence z place) one ∙ owner.sequence) in
        let live : numbered_instance q seen owner.x.number ≡ Some owner.x =
        ap (numbered_instance q seen) owner.number ∙ (there ∙ ap (λ (z : Instance). Some z) one) in
        let y = target_at seen front owner.x s owner.it live owner.stands.asked in
        let reaches : Meant = reached m.loads thread y.0 now in
        let begun : resumed_for m thread now (code_owner m thread seen place)
        ≡ resumed reaches (sequence_does m thread s reaches.after) =
        ap (resumed_for m thread now) e ∙ (ap (resumed_at m thread now) sequence_now
        ∙ ap (resumed_by m thread now s) y.1.0) in
        record {
          y = y.0;
          known = y.1.1;
          state = h.after.state;
          memory = reaches.after.memory;
          pointer = call.pointer;
          ok = done_at reaches.after s y.0 t y.1.0
              (ok_calls reaches t (sequence_does m thread s reaches.after) (sym begun ∙ calls));
        }

    done_looks : (u : Meant) → (meant_steps m thread).step h ≡ Looks u → resume_meant m thread seen u ≡ Calls t
        → Done s t
    unfolding resume_meant
    done_looks u looks calls =
        let same : h ≡ u = ok_looks h u late (sequence_does m thread s h.after) (sym (step_is h s here) ∙ looks) in
        looked_for (code_owner m thread seen place) refl
        (ap (λ (w : Meant). resume_meant m thread seen w) same ∙ calls)

    done : Steps seen h t → Done s t
    done (over, inl goes) = done_goes goes
    done (over, inr (u, (looks, calls))) = done_looks u looks calls

  -- ** %rax and the place behind

  -- a step that was done left its state
  left_state : {A : Type 0} (place : ℕ) (wanted : Result A Cause) (state : State Word Flag) (memory : A → Memory)
      (after : After Word Flag Memory) → (clean place wanted >>= (λ u. Ok (left state (memory u)))) ≡ Ok after
      → after.state ≡ state
  left_state place (Ok u) state memory after e = cc
  left_state place (Err why) state memory after e = cc

  -- what is in %rax behind a sequence
  record Leaves (s : Sequence) (t : Meant) (number : ℕ) : Type 0 where
    pub rax : t.after.state.registers.rax ≡ Number number
    pub place : t.after.state.place ≡ s.next

  leaves_state : (s : Sequence) (t : Meant) (number : ℕ) (state : State Word Flag) → t.after.state ≡ state
      → state.registers.rax ≡ Number number → state.place ≡ s.next → Leaves s t number
  leaves_state s t number state e rax place = record {
    rax = ap (λ (w : State Word Flag). w.registers.rax) e ∙ rax;
    place = ap (λ (w : State Word Flag). w.place) e ∙ place;
  }

  general_leaves : (s : Sequence) (t : Meant) (d : Done s t) (form : Form) → IsGeneral form
      → does (meant_stack m thread) s thread (block_start thread d.y) form d.state d.memory ≡ Ok t.after
      → Leaves s t (variable_address s (block_start thread d.y))
  general_leaves s t d Gd is e =
      let number = variable_address s (block_start thread d.y) in
      let state = at_place (with_answer (after_call d.state) (Number number)) s.next in
      leaves_state s t number state (left_state d.state.place (stack_use (meant_stack m thread) d.state d.memory) state
      ((meant_stack m thread).forget d.memory) t.after e) refl refl
  general_leaves s t d GdInd is e =
      let number = variable_address s (block_start thread d.y) in
      let state = at_place (with_answer (after_call d.state) (Number number)) s.next in
      leaves_state s t number state (left_state d.state.place (stack_use (meant_stack m thread) d.state d.memory) state
      ((meant_stack m thread).forget d.memory) t.after e) refl refl
  general_leaves s t d Ld is e = absurd is
  general_leaves s t d LdInd is e = absurd is
  general_leaves s t d IeMov is e = absurd is
  general_leaves s t d IeAdd is e = absurd is
  general_leaves s t d DescLea is e = absurd is
  general_leaves s t d DescCall is e = absurd is

  descriptor_leaves : (s : Sequence) (t : Meant) (d : Done s t) → s.form ≡ DescCall
      → Leaves s t (variable_distance s (block_start thread d.y) (pointer_of thread))
  descriptor_leaves s t d is =
      let stack = meant_stack m thread in
      let start = block_start thread d.y in
      let number = variable_distance s start d.state.thread_pointer in
      let state = at_place (without_flags (with_answer d.state (Number number))) s.next in
      let e = subst (λ (form : Form). does stack s thread start form d.state d.memory ≡ Ok t.after) is d.ok in
      subst (λ (pointer : ℕ). Leaves s t (variable_distance s start pointer)) d.pointer
      (leaves_state s t number state (left_state d.state.place (descriptor_calls stack s thread start d.state d.memory)
      state (λ uses. stack.forget d.memory uses.1) t.after e) refl refl)

  -- ** and so the machine

  same_number : (w : Word) (number word : ℕ) → w ≡ Number number → SameWord g w word → word ≡ number
  same_number w number word e same = (subst (λ (v : Word). SameWord g v word) e same).0

  found : (s : Sequence) (seen : List Event) (h' : Runs) (t : Meant) (number : ℕ) → Follows seen t h'
      → Leaves s t number
      → Finds q thread s seen h' number
  unfolding alike
  found s seen h' t number f leaves = record {
    after = f.0;
    takes = f.1.0;
    place = sym f.1.1.state.place ∙ leaves.place;
    rax = same_number t.after.state.registers.rax number f.0.after.state.registers.rax leaves.rax
        f.1.1.state.registers.rax;
  }

  -- of any sequence
  pub finds : (s : Sequence) (seen : List Event) → IsFront seen history → (h : Meant) (h' : Runs) → Call h h'
      → sequence_at m thread h.after.memory.seen h.after.state.place ≡ Some s → (t : Meant) → Steps seen h t
      → (y : Instance) × ((g.known s.target ≡ Some y)
      × (IsGeneral s.form → Finds q thread s seen h' (variable_address s (block_start thread y)))
      × (s.form ≡ DescCall → Finds q thread s seen h' (variable_distance s (block_start thread y) (pointer_of thread))))
  finds s seen front h h' call here t steps =
      let one = done seen front h h' call s here t steps in
      let on = follows seen front h h' call t steps in (
        one.y,
        (
          one.known,
          λ is. found s seen h' t (variable_address s (block_start thread one.y)) on
              (general_leaves s t one s.form is one.ok),
          λ is. found s seen h' t (variable_distance s (block_start thread one.y) (pointer_of thread)) on
              (descriptor_leaves s t one is),
        ),
      )

  -- ** two of one variable: the address is the distance and the thread pointer

  apart : (offset offset' start : ℕ) → offset ≡ offset'
      → plus start offset ≡ plus (plus (plus start offset') (2 ^ 64 - pointer_of thread)) (pointer_of thread)
  apart offset offset' start same = omega (arith, same, high)

  pub agree : (s d : Sequence) → IsGeneral s.form → d.form ≡ DescCall → s.target ≡ d.target → s.offset ≡ d.offset
      → (seen : List Event) → IsFront seen history → (h : Meant) (h' : Runs) → Call h h'
      → sequence_at m thread h.after.memory.seen h.after.state.place ≡ Some s → (t : Meant) → Steps seen h t
      → (seen' : List Event) → IsFront seen' history → (k : Meant) (k' : Runs) → Call k k'
      → sequence_at m thread k.after.memory.seen k.after.state.place ≡ Some d → (u : Meant) → Steps seen' k u
      → (distance : ℕ) × (Finds q thread d seen' k' distance
      × Finds q thread s seen h' (plus distance (pointer_of thread)))
  agree s d general is target offset seen front h h' call here t steps seen' front' k k' call' here' u steps' =
      let one = finds s seen front h h' call here t steps in
      let two = finds d seen' front' k k' call' here' u steps' in
      let same : one.0 ≡ two.0 =
      let a = one.1.0 in let b = two.1.0 in let c : g.known s.target ≡ g.known d.target = ap g.known target in cc in
      let start = block_start thread two.0 in
      let distance = variable_distance d start (pointer_of thread) in
      let address : variable_address s (block_start thread one.0) ≡ plus distance (pointer_of thread) =
      ap (λ (y : Instance). variable_address s (block_start thread y)) same ∙ apart s.offset d.offset start offset in (
        distance,
        (two.1.2 is, subst (λ (number : ℕ). Finds q thread s seen h' number) address (one.1.1 general)),
      )
