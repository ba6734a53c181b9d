-- What a sequence that calls the run time is answered, and where the machine goes on then.
use Rattle.std.proofs.Common.{◌≡◌, ◌∙◌, ◌+◌, ◌-◌, ◌%◌, ◌^◌, ◌<◌, ◌&&◌, ◌==◌, ℕ, Bool, true, false, List, Some, Ok, refl}
use Rattle.std.proofs.Common.{ap, subst, arith}
use Rattle.address_map.specs.Map.{pointer_of}
use Rattle.guest_arithmetic.specs.Plain.{plain_operations}
use Rattle.guest_operands.specs.declared.state.State.{State}
use Rattle.guest_machine.specs.Access.{load_of}
use Rattle.guest_machine.specs.Follow.{SameState}
use Rattle.guest_machine.specs.Machine.{answer_of}
use Rattle.guest_machine.specs.Step.{return_of}
use Rattle.guest_machine.specs.Use.{left, plus}
use Rattle.job_meaning.specs.declared.values.Byte.{Byte}
use Rattle.job_meaning.specs.declared.values.Flag.{Flag}
use Rattle.job_meaning.specs.declared.values.Word.{Word}
use Rattle.job_meaning.specs.declared.values.Word.TheVariants.{Number, Undefined, Marked}
use Rattle.job_meaning.specs.Marked.{used_number}
use Rattle.loaded_modules.specs.declared.instance.Instance.{Instance}
use Rattle.module_table.specs.declared.events.Event.{Event}
use Rattle.sequence_forms.specs.declared.forms.Form.{Form}
use Rattle.sequence_forms.specs.declared.forms.Form.TheVariants.{Gd, Ld, IeMov, IeAdd, GdInd, LdInd, DescLea, DescCall}
use Rattle.thread_blocks.specs.declared.asked.Asked.{Asked}
use Rattle.thread_blocks.specs.Instances.{Loads, block_start}
use Rattle.thread_blocks.specs.RunTime.{Runs, answer_word, thread_accesses}
use Rattle.thread_blocks.specs.Spaces.{Space}
use Rattle.whole_meaning.specs.declared.sequences.Sequence.{Sequence}
use Rattle.whole_meaning.specs.Meanings.{Meaning}
use Rattle.whole_meaning.specs.Sequences.{asks, descriptor_use, does, own_base, room_below, stack_use, variable_address}
use Rattle.whole_meaning.specs.Sequences.{variable_distance}
use Rattle.whole_meaning.specs.Threads.{Meant, meant_stack}
use Rattle.tied_meaning.specs.Numbers.{Setting, SameWord, alike}
use Rattle.tied_meaning.specs.Sites.{AsksForOwnBlock, KeptAs}
use Rattle.tied_meaning.specs.Threads.{HasCalled, called_state, is_descriptor_call}

-- ** an answer in %rax

abbrev pub with_rax : State Word Flag → Word → State Word Flag
with_rax st a = record st { registers = record st.registers { rax = a } }

pub answered_state : (g : Setting) (st : State Word Flag) (st' : State ℕ Bool) (a : Word) (w : ℕ)
    → SameState (alike g) st st' → SameWord g a w
    → SameState (alike g) (with_rax st a) (record st' { registers = record st'.registers { rax = w } })
unfolding alike
answered_state g st st' a w h k = record {
  registers = record {
    rax = k;
    rcx = h.registers.rcx;
    rdx = h.registers.rdx;
    rbx = h.registers.rbx;
    rsp = h.registers.rsp;
    rbp = h.registers.rbp;
    rsi = h.registers.rsi;
    rdi = h.registers.rdi;
    r8 = h.registers.r8;
    r9 = h.registers.r9;
    r10 = h.registers.r10;
    r11 = h.registers.r11;
    r12 = h.registers.r12;
    r13 = h.registers.r13;
    r14 = h.registers.r14;
    r15 = h.registers.r15;
  };
  flags = h.flags;
  place = h.place;
  thread_pointer = h.thread_pointer;
}

-- a call changes neither the stack pointer, once it has returned, nor the thread pointer
pub rsp_stays : (form : Form) (st : State Word Flag) (next : ℕ)
    → (called_state form st next).registers.rsp ≡ st.registers.rsp
rsp_stays Gd st next = refl
rsp_stays Ld st next = refl
rsp_stays GdInd st next = refl
rsp_stays LdInd st next = refl
rsp_stays IeMov st next = refl
rsp_stays IeAdd st next = refl
rsp_stays DescLea st next = refl
rsp_stays DescCall st next = refl

pub pointer_stays : (form : Form) (st : State Word Flag) (next : ℕ)
    → (called_state form st next).thread_pointer ≡ st.thread_pointer
pointer_stays Gd st next = refl
pointer_stays Ld st next = refl
pointer_stays GdInd st next = refl
pointer_stays LdInd st next = refl
pointer_stays IeMov st next = refl
pointer_stays IeAdd st next = refl
pointer_stays DescLea st next = refl
pointer_stays DescCall st next = refl

-- ** the machine pops its return address, with any blocks and data

up_again : (stack below : ℕ) → stack < 2 ^ 64 → below ≡ plus stack (2 ^ 64 - 8) → plus below 8 % 2 ^ 64 ≡ stack
up_again stack below small e = rw e (sums stack small)
  where
    sums : (stack : ℕ) → stack < 2 ^ 64 → plus (plus stack (2 ^ 64 - 8)) 8 % 2 ^ 64 ≡ stack
    sums stack small = omega arith

small_word : (g : Setting) (m : Meaning) (thread : ℕ) (memory : Space Event Byte) (w : Word) (stack : ℕ)
    → room_below (meant_stack m thread) memory (used_number w) ≡ Ok stack → SameWord g w stack → stack < 2 ^ 64
small_word g m thread memory (Number n) stack room h = omega (arith, h.0, h.1)
small_word g m thread memory Undefined stack room h = absurd cc
small_word g m thread memory (Marked token) stack room h = absurd cc

module _ {g : Setting} {m : Meaning} {q : Loads ℕ} {history : List Event} {thread : ℕ} {s : Sequence} {stack : ℕ}
    {h : Meant} {h' : Runs} (called : HasCalled g m q history thread s stack h h') where
  pub stack_small : stack < 2 ^ 64
  unfolding alike
  stack_small =
      small_word g m thread h.after.memory h.after.state.registers.rsp stack called.room
      (subst (λ (w : Word). SameWord g w stack) (rsp_stays s.form h.after.state s.next) called.state.registers.rsp)

  pub popped : (memory : Space Event ℕ) → memory.stack ≡ h'.after.memory.stack → (w : ℕ)
      → answer_of plain_operations (thread_accesses q thread) w h'.after.state memory
      ≡ Ok (left (record h'.after.state {
        registers = record h'.after.state.registers { rax = w; rsp = stack };
        place = s.next;
      }) memory)
  unfolding return_of plain_operations
  popped memory same w =
      let loads : load_of plain_operations (thread_accesses q thread) memory h'.after.state.registers.rsp 8
      ≡ Ok s.next =
      ap (λ (place : ℕ). load_of plain_operations (thread_accesses q thread) memory place 8) called.below
      ∙ called.back memory same in
      rw (loads, up_again stack h'.after.state.registers.rsp stack_small called.below) refl

-- ** what the sequence means

module _ (m : Meaning) (thread : ℕ) (s : Sequence) (start : ℕ) where
  abbrev pub answer_for : Form → Word
  answer_for Ld = own_base (meant_stack m thread) s thread start
  answer_for LdInd = own_base (meant_stack m thread) s thread start
  answer_for DescCall = Number (variable_distance s start (pointer_of thread))
  answer_for form = Number (variable_address s start)

  pub does_answer : (stack : ℕ) (st : State Word Flag) (memory : Space Event Byte)
      → st.thread_pointer ≡ pointer_of thread → stack_use (meant_stack m thread) st memory ≡ Ok stack
      → (form : Form) → (form ≡ DescCall → descriptor_use s st.registers.rax ≡ Ok tt) → asks form ≡ true
      → does (meant_stack m thread) s thread start form st memory
      ≡ Ok (left (with_rax (called_state form st s.next) (answer_for form))
      ((meant_stack m thread).forget memory stack))
  does_answer stack st memory pointer room Gd d e = rw room refl
  does_answer stack st memory pointer room Ld d e = rw room refl
  does_answer stack st memory pointer room GdInd d e = rw room refl
  does_answer stack st memory pointer room LdInd d e = rw room refl
  does_answer stack st memory pointer room IeMov d e = absurd cc
  does_answer stack st memory pointer room IeAdd d e = absurd cc
  does_answer stack st memory pointer room DescLea d e = absurd cc
  does_answer stack st memory pointer room DescCall d e = rw (d refl, room, pointer) refl

-- ** the run time answers just that

sum_word : (start offset asked : ℕ) → asked ≡ offset % 2 ^ 64 → (start + asked) % 2 ^ 64 ≡ (start + offset) % 2 ^ 64
sum_word start offset asked e = rw e (omega arith)

distance_word : (start offset asked pointer : ℕ) → asked ≡ offset % 2 ^ 64
    → (start + asked + (2 ^ 64 - pointer)) % 2 ^ 64 ≡ ((start + offset) % 2 ^ 64 + (2 ^ 64 - pointer)) % 2 ^ 64
distance_word start offset asked pointer e = rw e (omega arith)

base_word : (start offset asked : ℕ) → asked ≡ offset % 2 ^ 64 → offset ≡ 0 → (start + asked) % 2 ^ 64 ≡ start % 2 ^ 64
base_word start offset asked e f = rw (e, f) (omega arith)

-- a kept local dynamic sequence asks for its own block, from where that begins
abbrev pub AsksFromStart : Setting → Sequence → Instance → Form → Type 0
AsksFromStart g s x Ld =
    (g.known s.instance ≡ Some x) × ((s.offset ≡ 0) × ((g.counts_from_pointer && (s.instance == 1)) ≡ false))
AsksFromStart g s x LdInd =
    (g.known s.instance ≡ Some x) × ((s.offset ≡ 0) × ((g.counts_from_pointer && (s.instance == 1)) ≡ false))
AsksFromStart g s x form = Unit {0}

pub kept_from_start : (g : Setting) (q : Loads ℕ) (x y : Instance) (place : ℕ) (s : Sequence) → s.instance ≡ x.number
    → (s.target ≡ x.number → g.known s.instance ≡ Some y) → (form : Form) → AsksForOwnBlock g q x place s form
    → KeptAs g q x place s form → AsksFromStart g s y form
kept_from_start g q x y place s own known Ld base kept =
    (known base.0, (base.1, ap (λ (n : ℕ). g.counts_from_pointer && (n == 1)) own ∙ kept.0))
kept_from_start g q x y place s own known LdInd base kept =
    (known base.0, (base.1, ap (λ (n : ℕ). g.counts_from_pointer && (n == 1)) own ∙ kept.0))
kept_from_start g q x y place s own known Gd base kept = tt
kept_from_start g q x y place s own known GdInd base kept = tt
kept_from_start g q x y place s own known IeMov base kept = tt
kept_from_start g q x y place s own known IeAdd base kept = tt
kept_from_start g q x y place s own known DescLea base kept = tt
kept_from_start g q x y place s own known DescCall base kept = tt

module _ (g : Setting) (m : Meaning) (q : Loads ℕ) (thread : ℕ) (s : Sequence) (x : Instance) (asked : Asked)
    (e : asked.offset ≡ s.offset % 2 ^ 64) where
  pub word_alike : (form : Form) → asked.is_descriptor ≡ is_descriptor_call form → asks form ≡ true
      → AsksFromStart g s x form
      → SameWord g (answer_for m thread s (block_start thread x) form) (answer_word q thread asked x)
  word_alike Gd kind a from = rw kind (sum_word (block_start thread x) s.offset asked.offset e, omega arith)
  word_alike GdInd kind a from = rw kind (sum_word (block_start thread x) s.offset asked.offset e, omega arith)
  word_alike Ld kind a from =
      rw (kind, from.1.1) (base_word (block_start thread x) s.offset asked.offset e from.1.0, (x, (from.0, refl)))
  word_alike LdInd kind a from =
      rw (kind, from.1.1) (base_word (block_start thread x) s.offset asked.offset e from.1.0, (x, (from.0, refl)))
  word_alike DescCall kind a from =
      rw kind (distance_word (block_start thread x) s.offset asked.offset (pointer_of thread) e, omega arith)
  word_alike IeMov kind a from = absurd cc
  word_alike IeAdd kind a from = absurd cc
  word_alike DescLea kind a from = absurd cc
