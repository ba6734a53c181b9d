-- What an instruction leaves, on both sides: registers and flags.
use Rattle.std.proofs.Common.{◌≡◌, inl, inr, ℕ, zero, suc, ◌%◌, Bool, true, false, Result, Ok, Err, refl, sym, ap, ◌∙◌}
use Rattle.std.proofs.Common.{arith}
use Rattle.std.specs.Prelude.{if◌then◌else◌, nat_lt}
use Rattle.std.proofs.lemmas.Bool.{lt-ltb, ne_eqb}
use Rattle.amd64_words.specs.declared.register.Register.{Register}
use Rattle.amd64_words.specs.declared.register.Register.TheVariants.{Rax, Rcx, Rdx, Rbx, Rsp, Rbp, Rsi, Rdi, R8, R9}
use Rattle.amd64_words.specs.declared.register.Register.TheVariants.{R10, R11, R12, R13, R14, R15}
use Rattle.amd64_subset.specs.declared.instr.Arithmetic.{Arithmetic}
use Rattle.amd64_subset.specs.declared.instr.Arithmetic.TheVariants.{Add, Or, And, Sub, Xor, Compare}
use Rattle.amd64_subset.specs.declared.instr.Operation.TheVariants.{Multiply, Shift as ShiftBy}
use Rattle.amd64_subset.specs.declared.instr.Shift.{Shift}
use Rattle.amd64_subset.specs.declared.instr.Width.{Width}
use Rattle.amd64_subset.specs.declared.operand.Operand.{Operand}
use Rattle.guest_arithmetic.specs.declared.effect.Change.{Change}
use Rattle.guest_arithmetic.specs.declared.effect.Change.TheVariants.{Set, Unsettled, Kept}
use Rattle.guest_arithmetic.specs.declared.effect.Changes.{Changes}
use Rattle.guest_arithmetic.specs.declared.flags.Flags.{Flags}
use Rattle.guest_arithmetic.specs.Arithmetic.{bits_of, compute_effect, difference_effect, logic_effect, product_effect}
use Rattle.guest_arithmetic.specs.Arithmetic.{shift_effect, sum_effect}
use Rattle.guest_arithmetic.specs.Flags.{changed, with_changes}
use Rattle.guest_arithmetic.specs.Plain.{plain_operations}
use Rattle.guest_operands.specs.declared.frame.Frame.{Frame}
use Rattle.guest_operands.specs.declared.state.Registers.{Registers}
use Rattle.guest_operands.specs.declared.state.State.{State}
use Rattle.guest_operands.specs.declared.stop.Stop.{Stop}
use Rattle.guest_operands.specs.declared.stop.Stop.TheVariants.{Address}
use Rattle.guest_operands.specs.Access.{Refusal, Refused, Shut}
use Rattle.guest_operands.specs.State.{at_place, register_of, with_register, with_stack, with_word}
use Rattle.guest_operands.specs.Use.{◌>>=◌, there}
use Rattle.guest_machine.specs.Clean.{IsClean}
use Rattle.guest_machine.specs.Step.{settled}
use Rattle.job_meaning.specs.declared.values.Flag.{Flag}
use Rattle.job_meaning.specs.declared.values.Word.{Word}
use Rattle.job_meaning.specs.declared.values.Word.TheVariants.{Number}
use Rattle.job_meaning.specs.Marked.{marked_operations}
use Rattle.step_laws.specs.Plain.{FlagAfter, IsAfter, WordAfter}
use Rattle.step_laws.specs.Reads.{left_undefined}
use Rattle.step_laws.proofs.Numbers.{SameAccess, marked}

-- ** the two sides of a part of an instruction

-- both go on, or both stop alike, and without a cause
abbrev pub Same : {A A' : Type 0} → (A → A' → Type 0) → Result A Stop → Result A' Stop → Type 0
Same R (Ok a) (Ok a') = R a a'
Same R (Ok a) (Err stop) = ⊥
Same R (Err stop) (Ok a') = ⊥
Same R (Err stop) (Err stop') = IsClean stop × (stop' ≡ stop)

pub same-then : {A A' C C' : Type 0} (R : A → A' → Type 0) (Q : C → C' → Type 0) (r : Result A Stop)
    (r' : Result A' Stop) (f : A → Result C Stop) (g : A' → Result C' Stop)
    → Same R r r' → ((a : A) (a' : A') → R a a' → Same Q (f a) (g a')) → Same Q (r >>= f) (r' >>= g)
same-then R Q (Ok a) (Ok a') f g h k = k a a' h
same-then R Q (Ok a) (Err stop) f g h k = absurd h
same-then R Q (Err stop) (Ok a') f g h k = absurd h
same-then R Q (Err stop) (Err stop') f g h k = h

pub same-there : {A A' : Type 0} (R : A → A' → Type 0) (here here' : ℕ) (r : Result A Refusal) (r' : Result A' Refusal)
    → here' ≡ here → SameAccess R r r'
    → Same R (there here r) (there here' r')
same-there R here here' (Ok a) (Ok a') e h = h
same-there R here here' (Ok a) (Err why) e h = absurd h
same-there R here here' (Err Refused) (Ok a') e h = absurd h
same-there R here here' (Err Refused) (Err Refused) e h = (tt, ap Address e)
same-there R here here' (Err Refused) (Err Shut) e h = absurd h
same-there R here here' (Err Shut) r' e h = absurd h

pub same-if : {A A' : Type 0} (R : A → A' → Type 0) (b : Bool) (x y : Result A Stop) (x' y' : Result A' Stop)
    → (b ≡ true → Same R x x') → (b ≡ false → Same R y y')
    → Same R (if b then x else y) (if b then x' else y')
same-if R true x y x' y' h k = h refl
same-if R false x y x' y' h k = k refl

-- ** registers

-- before, before': the registers of the instruction's start
module _ (before : Registers Word) (before' : Registers ℕ) where
  abbrev pub RegistersAfter : Registers Word → Registers ℕ → Type 0
  RegistersAfter r r' = (name : Register) → WordAfter (register_of before name) (register_of before' name)
      (register_of r name) (register_of r' name)

  pub after-with : (r : Registers Word) (r' : Registers ℕ) → RegistersAfter r r' → (name : Register) (w : Word) (n : ℕ)
      → w ≡ Number n
      → RegistersAfter (with_register r name w) (with_register r' name n)
  unfolding register_of with_register
  after-with r r' h Rax w n e Rax = inl e
  after-with r r' h Rax w n e other = h other
  after-with r r' h Rcx w n e Rcx = inl e
  after-with r r' h Rcx w n e other = h other
  after-with r r' h Rdx w n e Rdx = inl e
  after-with r r' h Rdx w n e other = h other
  after-with r r' h Rbx w n e Rbx = inl e
  after-with r r' h Rbx w n e other = h other
  after-with r r' h Rsp w n e Rsp = inl e
  after-with r r' h Rsp w n e other = h other
  after-with r r' h Rbp w n e Rbp = inl e
  after-with r r' h Rbp w n e other = h other
  after-with r r' h Rsi w n e Rsi = inl e
  after-with r r' h Rsi w n e other = h other
  after-with r r' h Rdi w n e Rdi = inl e
  after-with r r' h Rdi w n e other = h other
  after-with r r' h R8 w n e R8 = inl e
  after-with r r' h R8 w n e other = h other
  after-with r r' h R9 w n e R9 = inl e
  after-with r r' h R9 w n e other = h other
  after-with r r' h R10 w n e R10 = inl e
  after-with r r' h R10 w n e other = h other
  after-with r r' h R11 w n e R11 = inl e
  after-with r r' h R11 w n e other = h other
  after-with r r' h R12 w n e R12 = inl e
  after-with r r' h R12 w n e other = h other
  after-with r r' h R13 w n e R13 = inl e
  after-with r r' h R13 w n e other = h other
  after-with r r' h R14 w n e R14 = inl e
  after-with r r' h R14 w n e other = h other
  after-with r r' h R15 w n e R15 = inl e
  after-with r r' h R15 w n e other = h other

-- ** flags

abbrev pub is_unsettled : Change → Bool
is_unsettled (Set truth) = false
is_unsettled Unsettled = true
is_unsettled Kept = false

abbrev pub unsettled_by : Changes → Flags Bool
unsettled_by changes = record {
  zero = is_unsettled changes.zero;
  sign = is_unsettled changes.sign;
  carry = is_unsettled changes.carry;
  overflow = is_unsettled changes.overflow;
}

abbrev pub none_undefined : Flags Bool
none_undefined = record { zero = false; sign = false; carry = false; overflow = false }

pub computed-settled : (arithmetic : Arithmetic) (width : Width) (a b : ℕ)
    → unsettled_by (compute_effect arithmetic width a b).changes ≡ none_undefined
unfolding compute_effect sum_effect difference_effect logic_effect
computed-settled Add width a b = refl
computed-settled Or width a b = refl
computed-settled And width a b = refl
computed-settled Sub width a b = refl
computed-settled Xor width a b = refl
computed-settled Compare width a b = refl

pub product-settled : (width : Width) (to : Register) (from : Operand) (a b : ℕ)
    → unsettled_by (product_effect width a b).changes ≡ left_undefined (Multiply width to from)
unfolding product_effect left_undefined
product-settled width to from a b = refl

pub shift-settled : (shift : Shift) (width : Width) (to : Operand) (number count : ℕ)
    → unsettled_by (shift_effect shift width number (count % bits_of width)).changes
    ≡ left_undefined (ShiftBy shift width to count)
unfolding shift_effect left_undefined
shift-settled shift width to number count = by (count % bits_of width)
  where
    by : (n : ℕ) → unsettled_by (shift_effect shift width number n).changes
        ≡ record { zero = false; sign = false; carry = false; overflow = nat_lt 1 n }
    by zero = refl
    by (suc zero) = refl
    by (suc (suc n)) = rw (
      ne_eqb (suc (suc n)) 0 (λ e. omega arith),
      ne_eqb (suc (suc n)) 1
          (λ e. omega arith),
      lt-ltb 1 (suc (suc n)) (omega arith),
    ) refl

-- ** states

module _ (before : State Word Flag) (before' : State ℕ Bool)
    (pointers : before'.thread_pointer ≡ before.thread_pointer) where
  -- in an instruction, before its flags and its place are changed
  pub record SoFar (state : State Word Flag) (state' : State ℕ Bool) : Type 0 where
    pub registers : RegistersAfter before.registers before'.registers state.registers state'.registers
    pub flags : state.flags ≡ before.flags
    pub flags' : state'.flags ≡ before'.flags
    pub pointer : state.thread_pointer ≡ before.thread_pointer
    pub pointer' : state'.thread_pointer ≡ before'.thread_pointer

  pub at-first : SoFar before before'
  at-first = record {
    registers = λ name. inr (refl, refl);
    flags = refl;
    flags' = refl;
    pointer = refl;
    pointer' =
        refl;
  }

  pub far-word : (state : State Word Flag) (state' : State ℕ Bool) → SoFar state state'
      → (name : Register) (w : Word) (n : ℕ) → w ≡ Number n
      → SoFar (with_word state name w) (with_word state' name n)
  far-word state state' far name w n e = record {
    registers = after-with before.registers before'.registers state.registers state'.registers far.registers name w n e;
    flags = far.flags;
    flags' = far.flags';
    pointer = far.pointer;
    pointer' = far.pointer';
  }

  pub far-stack : (state : State Word Flag) (state' : State ℕ Bool) → SoFar state state' → (w : Word) (n : ℕ)
      → w ≡ Number n
      → SoFar (with_stack state w) (with_stack state' n)
  unfolding with_register
  far-stack state state' far w n e = record {
    registers = after-with before.registers before'.registers state.registers state'.registers far.registers Rsp w n e;
    flags = far.flags;
    flags' = far.flags';
    pointer = far.pointer;
    pointer' = far.pointer';
  }

  flag : {F : Type 0} (a b : Flags F) → a ≡ b → (a.zero ≡ b.zero) × (a.sign ≡ b.sign) × (a.carry ≡ b.carry)
      × (a.overflow ≡ b.overflow)
  flag {F = F} a b e = (
    ap (λ (f : Flags F). f.zero) e,
    ap (λ (f : Flags F). f.sign) e,
    ap
        (λ (f : Flags F). f.carry) e,
    ap (λ (f : Flags F). f.overflow) e,
  )

  -- at the next place, with its flags
  pub at-last : (state : State Word Flag) (state' : State ℕ Bool) → SoFar state state' → (place place' : ℕ)
      → place ≡ place'
      → IsAfter none_undefined before before' (at_place state place) (at_place state' place')
  at-last state state' far place place' e =
      let f = flag state.flags before.flags far.flags in
      let f' = flag state'.flags before'.flags far.flags' in
      record {
        register = far.registers;
        zero = inr (f.0, f'.0);
        sign = inr (f.1, f'.1);
        carry = inr (f.2, f'.2);
        overflow = inr (f.3, f'.3);
        place = e;
        thread_pointer = far.pointer ∙ (sym pointers ∙ sym far.pointer');
      }

  module _ (owner : ℕ → ℕ) where
    changed-after : (change : Change) (b f : Flag) (b' f' : Bool) → f ≡ b → f' ≡ b'
        → FlagAfter (is_unsettled change) b b' (changed (marked owner) change f) (changed plain_operations change f')
    unfolding marked_operations plain_operations
    changed-after (Set truth) b f b' f' e e' = inl refl
    changed-after Unsettled b f b' f' e e' = (refl, e')
    changed-after Kept b f b' f' e e' = inr (e, e')

    -- with other flags
    pub settled-last : (state : State Word Flag) (state' : State ℕ Bool) → SoFar state state'
        → (changes : Changes) (frame frame' : Frame) → frame.next ≡ frame'.next
        → IsAfter (unsettled_by changes) before before' (settled (marked owner) changes frame state)
        (settled plain_operations changes frame' state')
    unfolding with_changes
    settled-last state state' far changes frame frame' e =
        let f = flag state.flags before.flags far.flags in
        let f' = flag state'.flags before'.flags far.flags' in
        record {
          register = far.registers;
          zero = changed-after changes.zero before.flags.zero state.flags.zero before'.flags.zero state'.flags.zero f.0
              f'.0;
          sign = changed-after changes.sign before.flags.sign state.flags.sign before'.flags.sign state'.flags.sign f.1
              f'.1;
          carry = changed-after changes.carry before.flags.carry state.flags.carry before'.flags.carry
              state'.flags.carry f.2 f'.2;
          overflow = changed-after changes.overflow before.flags.overflow state.flags.overflow before'.flags.overflow
              state'.flags.overflow f.3 f'.3;
          place = e;
          thread_pointer = far.pointer ∙ (sym pointers ∙ sym far.pointer');
        }
