-- One instruction from related states: what the first machine does the second does too.
use Rattle.std.proofs.Common.{◌≡◌, ℕ, ◌+◌, ◌-◌, ◌%◌, ◌^◌, Bool, not, ◌||◌, Option, Some, None, Result, Ok, Err, refl}
use Rattle.std.proofs.Common.{sym, ap, subst, ◌∙◌, inl, inr, arith}
use Rattle.std.specs.Prelude.{if◌then◌else◌}
use Rattle.amd64_words.specs.declared.register.Register.{Register}
use Rattle.amd64_subset.specs.declared.instr.Width.{Width}
use Rattle.amd64_subset.specs.declared.instr.Width.TheVariants.{Long, Quad}
use Rattle.amd64_subset.specs.declared.instr.Arithmetic.{Arithmetic}
use Rattle.amd64_subset.specs.declared.instr.Arithmetic.TheVariants.{Add, Or, And, Sub, Xor, Compare}
use Rattle.amd64_subset.specs.declared.instr.Shift.{Shift}
use Rattle.amd64_subset.specs.declared.instr.Condition.{Condition}
use Rattle.amd64_subset.specs.declared.instr.Condition.TheVariants.{Overflow, NotOverflow, Below, NotBelow, Equal}
use Rattle.amd64_subset.specs.declared.instr.Condition.TheVariants.{NotEqual, BelowOrEqual, Above, Sign, NotSign, Less}
use Rattle.amd64_subset.specs.declared.instr.Condition.TheVariants.{NotLess, LessOrEqual, Greater}
use Rattle.amd64_subset.specs.declared.instr.Target.{Target}
use Rattle.amd64_subset.specs.declared.instr.Target.TheVariants.{Relative, Indirect}
use Rattle.amd64_subset.specs.declared.instr.Operation.{Operation}
use Rattle.amd64_subset.specs.declared.instr.Operation.TheVariants.{Move, StoreByte, ExtendByte, ExtendLong}
use Rattle.amd64_subset.specs.declared.instr.Operation.TheVariants.{LoadAddress, Compute, Test, Multiply}
use Rattle.amd64_subset.specs.declared.instr.Operation.TheVariants.{Shift as ShiftBy, Push, Pop, Leave, Call, Jump}
use Rattle.amd64_subset.specs.declared.instr.Operation.TheVariants.{JumpIf, Return, Nop, Undefined}
use Rattle.amd64_subset.specs.declared.operand.Memory.{Memory}
use Rattle.amd64_subset.specs.declared.operand.Operand.{Operand}
use Rattle.amd64_subset.specs.declared.operand.Operand.TheVariants.{InMemory, Register as InRegister}
use Rattle.amd64_subset.specs.declared.operand.Operands.{Operands}
use Rattle.amd64_subset.specs.declared.operand.Operands.TheVariants.{IntoRegister, IntoMemory, Immediate}
use Rattle.guest_arithmetic.specs.declared.cause.Cause.{Cause}
use Rattle.guest_arithmetic.specs.declared.effect.Change.{Change}
use Rattle.guest_arithmetic.specs.declared.effect.Change.TheVariants.{Set, Unsettled, Kept}
use Rattle.guest_arithmetic.specs.declared.effect.Changes.{Changes}
use Rattle.guest_arithmetic.specs.declared.effect.Effect.{Effect}
use Rattle.guest_operands.specs.declared.frame.Frame.{Frame}
use Rattle.guest_operands.specs.declared.slot.Slot.{Slot}
use Rattle.guest_operands.specs.declared.slot.Slot.TheVariants.{Place, Register as OfSlot}
use Rattle.guest_operands.specs.declared.slot.Taken.{Taken}
use Rattle.guest_arithmetic.specs.declared.flags.Flags.{Flags}
use Rattle.guest_operands.specs.declared.state.State.{State}
use Rattle.guest_operands.specs.declared.stop.Stop.TheVariants.{Address, Code}
use Rattle.guest_operands.specs.Access.{Refusal, Refused, Shut, Accesses, IsSize, load_of}
use Rattle.guest_arithmetic.specs.Arithmetic.{low, differ, bits_of, sum_effect, compute_effect, product_effect}
use Rattle.guest_arithmetic.specs.Arithmetic.{shift_effect, each_flag}
use Rattle.guest_arithmetic.specs.Flags.{changed, with_changes, is_less, is_less_or_equal, is_below_or_equal}
use Rattle.guest_arithmetic.specs.Flags.{condition_of}
use Rattle.guest_machine.specs.Follow.{Uses, Reaches, Follows, Alike, IsFollowed, StayRelated, SameFlags, SameState}
use Rattle.guest_machine.specs.Follow.{SameFrame, SameAfter}
use Rattle.guest_arithmetic.specs.Cause.{used, both}
use Rattle.guest_operands.specs.Operand.{size_of, charged, address_of, number_at, carried, weighed, taken_at, taken}
use Rattle.guest_operands.specs.Operand.{put}
use Rattle.guest_operands.specs.State.{register_of}
use Rattle.guest_machine.specs.Step.{immediate_of, is_cleared, settled, nop_use, finished, concluded, move_in, stored}
use Rattle.guest_machine.specs.Step.{store_byte, move_number, move_of, extend_byte}
use Rattle.guest_machine.specs.Step.{extend_long, load_address, compute_in, add_field, compute_plain, compute_number}
use Rattle.guest_machine.specs.Step.{compute_of, test_of, multiply_of, shift_of, pushed, push_of, pop_of}
use Rattle.guest_machine.specs.Step.{leave_of, return_of, call_of, jump_of, jump_if, nop_of, act}
use Rattle.guest_operands.specs.Use.{◌>>=◌, plus, clean, there, After, left}
use Rattle.guest_arithmetic.specs.Values.{Operations}
use Rattle.guest_machine.proofs.Follow.{all_registers, follows-then, follows-same, follows-clean, follows-there}
use Rattle.guest_machine.proofs.Follow.{follows-if, uses-used, uses-same, uses-both, uses-charged, same_register}
use Rattle.guest_machine.proofs.Follow.{same_with, same_word}
use Rattle.guest_machine.proofs.Follow.{same_stack, same_place, carried-same, kept-same, kept_byte-same, number_at-uses}
use Rattle.guest_machine.proofs.Follow.{address-uses, unmoved-uses}
use Rattle.guest_machine.proofs.FollowMemory.{load-reach, store-reach}
use Rattle.amd64_subset.specs.Number.{signed_long_of}

size_of-is : (width : Width) → IsSize (size_of width)
size_of-is Long = inr (inl refl)
size_of-is Quad = inr (inr refl)

same_taken : (slot : Slot) (a b c d : ℕ) → a ≡ b → c ≡ d
    → ◌≡◌ {A = Taken} (record { slot = slot; number = a; other = c }) (record { slot = slot; number = b; other = d })
same_taken slot a b c d e f = cc

abbrev as_taken : Register → ℕ → ℕ → Taken
as_taken to number other = record { slot = OfSlot to; number = number; other = other }

uses-any : {A A' : Type 0} (r : Result A Cause) (a' : A') → Uses (λ (a : A) (b : A'). Unit {0}) r (Ok a')
uses-any (Ok a) a' = tt
uses-any (Err cause) a' = tt

uses-weaker : {A A' : Type 0} (R : A → A' → Type 0) (r : Result A Cause) (r' : Result A' Cause) → Uses R r r'
    → Uses (λ (a : A) (b : A'). Unit {0}) r r'
uses-weaker R (Ok a) (Ok a') h = tt
uses-weaker R (Ok a) (Err cause) h = absurd h
uses-weaker R (Err cause) r' h = tt

-- the sum of two numbers modulo 2^64, as the machine makes it of two halves
same_sum : (p n x : ℕ) → p ≡ (n + x) % 2 ^ 64 → p ≡ (x % 2 ^ 64 + n % 2 ^ 64) % 2 ^ 64
same_sum p n x e = omega arith

module _ {W F B W' F' B' : Type 0} (same : Alike W F B W' F' B') (ops : Operations W F B) (ops' : Operations W' F' B')
    (followed : IsFollowed same ops ops') where
  changed-same : (change : Change) (f : F) (f' : F') → same.flag f f'
      → same.flag (changed ops change f) (changed ops' change f')
  changed-same (Set truth) f f' h = followed.flag truth
  changed-same Unsettled f f' h = followed.unsettled f f' h
  changed-same Kept f f' h = h

  changes-same : (changes : Changes) (f : Flags F) (f' : Flags F') → SameFlags same f f'
      → SameFlags same (with_changes ops changes f) (with_changes ops' changes f')
  unfolding with_changes
  changes-same changes f f' h = record {
    zero = changed-same changes.zero f.zero f'.zero h.zero;
    sign = changed-same changes.sign f.sign f'.sign h.sign;
    carry = changed-same changes.carry f.carry f'.carry h.carry;
    overflow = changed-same changes.overflow f.overflow f'.overflow h.overflow;
  }

  pub settled-same : (changes : Changes) (f f' : Frame) (s : State W F) (s' : State W' F') → f.next ≡ f'.next
      → SameState same s s' → SameState same (settled ops changes f s) (settled ops' changes f' s')
  settled-same changes f f' s s' e h = record {
    registers = h.registers;
    flags = changes-same changes s.flags s'.flags h.flags;
    place = e;
    thread_pointer = h.thread_pointer;
  }

  two-flags : (f : Bool → Bool → Bool) (a b : F) (a' b' : F') → same.flag a a' → same.flag b b'
      → Uses (λ x y. x ≡ y) (used (λ parts. f parts.0 parts.1) (both (ops.truth_of a) (ops.truth_of b)))
      (used (λ parts. f parts.0 parts.1) (both (ops'.truth_of a') (ops'.truth_of b')))
  two-flags f a b a' b' h k =
      uses-used (λ p q. (p.0 ≡ q.0) × (p.1 ≡ q.1)) (λ x y. x ≡ y) _ _ _ _
      (uses-both (λ x y. x ≡ y) (λ x y. x ≡ y) _ _ _ _ (followed.truth_of a a' h) (followed.truth_of b b' k))
      (λ p q e. ap (λ x. f x p.1) e.0 ∙ ap (f q.0) e.1)

  negated : (r r' : Result Bool Cause) → Uses (λ x y. x ≡ y) r r' → Uses (λ x y. x ≡ y) (used not r) (used not r')
  negated r r' h = uses-used (λ x y. x ≡ y) (λ x y. x ≡ y) not not r r' h (λ x y e. ap not e)

  is_less-uses : (f : Flags F) (f' : Flags F') → SameFlags same f f'
      → Uses (λ x y. x ≡ y) (is_less ops f) (is_less ops' f')
  unfolding is_less
  is_less-uses f f' h = two-flags differ f.sign f.overflow f'.sign f'.overflow h.sign h.overflow

  is_below_or_equal-uses : (f : Flags F) (f' : Flags F') → SameFlags same f f'
      → Uses (λ x y. x ≡ y) (is_below_or_equal ops f) (is_below_or_equal ops' f')
  unfolding is_below_or_equal
  is_below_or_equal-uses f f' h = two-flags (λ x y. x || y) f.carry f.zero f'.carry f'.zero h.carry h.zero

  is_less_or_equal-uses : (f : Flags F) (f' : Flags F') → SameFlags same f f'
      → Uses (λ x y. x ≡ y) (is_less_or_equal ops f) (is_less_or_equal ops' f')
  unfolding is_less_or_equal
  is_less_or_equal-uses f f' h =
      uses-used (λ p q. (p.0 ≡ q.0) × (p.1 ≡ q.1)) (λ x y. x ≡ y) _ _ _ _
      (uses-both (λ x y. x ≡ y) (λ x y. x ≡ y) _ _ _ _ (followed.truth_of f.zero f'.zero h.zero) (is_less-uses f f' h))
      (λ p q e. ap (λ x. x || p.1) e.0 ∙ ap (λ y. q.0 || y) e.1)

  condition-uses : (condition : Condition) (f : Flags F) (f' : Flags F') → SameFlags same f f'
      → Uses (λ x y. x ≡ y) (condition_of ops condition f) (condition_of ops' condition f')
  unfolding condition_of
  condition-uses Overflow f f' h = followed.truth_of f.overflow f'.overflow h.overflow
  condition-uses NotOverflow f f' h = negated _ _ (followed.truth_of f.overflow f'.overflow h.overflow)
  condition-uses Below f f' h = followed.truth_of f.carry f'.carry h.carry
  condition-uses NotBelow f f' h = negated _ _ (followed.truth_of f.carry f'.carry h.carry)
  condition-uses Equal f f' h = followed.truth_of f.zero f'.zero h.zero
  condition-uses NotEqual f f' h = negated _ _ (followed.truth_of f.zero f'.zero h.zero)
  condition-uses BelowOrEqual f f' h = is_below_or_equal-uses f f' h
  condition-uses Above f f' h = negated _ _ (is_below_or_equal-uses f f' h)
  condition-uses Sign f f' h = followed.truth_of f.sign f'.sign h.sign
  condition-uses NotSign f f' h = negated _ _ (followed.truth_of f.sign f'.sign h.sign)
  condition-uses Less f f' h = is_less-uses f f' h
  condition-uses NotLess f f' h = negated _ _ (is_less-uses f f' h)
  condition-uses LessOrEqual f f' h = is_less_or_equal-uses f f' h
  condition-uses Greater f f' h = negated _ _ (is_less_or_equal-uses f f' h)

  immediate-uses : (width : Width) (field field' : Option ℕ) (n n' : ℕ) → same.field field field' n n'
      → Uses (λ p q. p ≡ q) (immediate_of ops width field n) (immediate_of ops' width field' n')
  unfolding immediate_of
  immediate-uses width field field' n n' f =
      uses-same (low width) _ _ (unmoved-uses same ops ops' followed field field' n n' f)

  nop-uses : (f f' : Frame) (s : State W F) (s' : State W' F') (field field' : Option ℕ) (operand : Option Operand)
      → (field ≡ None → field' ≡ None) → SameFrame same f f' → SameState same s s'
      → Uses (λ (a : ℕ) (b : ℕ). Unit {0}) (nop_use ops f s field operand) (nop_use ops' f' s' field' operand)
  nop-uses f f' s s' (Some at) (Some at') (Some (InMemory memory)) none g h =
      uses-weaker (λ p q. p ≡ q) _ _ (address-uses same ops ops' followed f f' s s' memory g h)
  nop-uses f f' s s' (Some at) None (Some (InMemory memory)) none g h = uses-any (address_of ops f s memory) 0
  nop-uses f f' s s' None (Some at') (Some (InMemory memory)) none g h = cc (none refl)
  nop-uses f f' s s' None None (Some (InMemory memory)) none g h = tt
  nop-uses f f' s s' (Some at) (Some at') (Some (InRegister name)) none g h = tt
  nop-uses f f' s s' (Some at) None (Some (InRegister name)) none g h = tt
  nop-uses f f' s s' None (Some at') (Some (InRegister name)) none g h = tt
  nop-uses f f' s s' None None (Some (InRegister name)) none g h = tt
  nop-uses f f' s s' (Some at) (Some at') None none g h = tt
  nop-uses f f' s s' (Some at) None None none g h = tt
  nop-uses f f' s s' None (Some at') None none g h = tt
  nop-uses f f' s s' None None None none g h = tt

module _ {W F B W' F' B' : Type 0} (same : Alike W F B W' F' B') (ops : Operations W F B) (ops' : Operations W' F' B')
    (followed : IsFollowed same ops ops')
    {M M' : Type 0} (acc : Accesses M B) (acc' : Accesses M' B') (Same : M → M' → Type 0)
    (kept : StayRelated same acc acc' Same) where
  abbrev Then : After W F M → After W' F' M' → Type 0
  Then = SameAfter same Same

  carried-follows : (width : Width) (f f' : Frame) (s : State W F) (s' : State W' F') (m : M) (m' : M')
      (operand : Operand) → SameFrame same f f' → SameState same s s' → Same m m'
      → Follows same.word (carried ops acc width f s m operand) (carried ops' acc' width f' s' m' operand)
  unfolding carried
  carried-follows width f f' s s' m m' (InRegister name) g h k =
      kept-same same ops ops' followed width _ _ (same_register same s.registers s'.registers h.registers name)
  carried-follows width f f' s s' m m' (InMemory operand) g h k =
      follows-same same.word _ _ _ _
      (follows-clean (λ p q. p ≡ q) s.place s'.place _ _
      (address-uses same ops ops' followed f f' s s' operand g h))
      (λ place. follows-there same.word s.place s'.place _ _ h.place
      (load-reach same acc acc' Same kept ops ops' followed m m' k place (size_of width) (size_of-is width)))

  weighed-follows : (width : Width) (here here' : ℕ) → here ≡ here' → (r : Result W Refusal) (r' : Result W' Refusal)
      → Reaches same.word r r' → (other other' : Result ℕ Cause)
      → Uses (λ a b. a ≡ b) other other'
      → Follows (λ p q. (p.0 ≡ q.0) × (p.1 ≡ q.1)) (weighed ops acc width here r other)
      (weighed ops' acc' width here' r' other')
  weighed-follows width here here' e (Ok w) (Ok w') h other other' k =
      follows-clean (λ p q. (p.0 ≡ q.0) × (p.1 ≡ q.1)) here here' _ _
      (uses-both (λ a b. a ≡ b) (λ a b. a ≡ b) _ _ _ _ (number_at-uses same ops ops' followed width w w' h) k)
  weighed-follows width here here' e (Ok w) (Err why) h other other' k = absurd h
  weighed-follows width here here' e (Err Refused) (Ok w') h other other' k = absurd h
  weighed-follows width here here' e (Err Refused) (Err Refused) h (Ok x) (Ok y) k =
      ap (λ place. Err (Address place)) (sym e)
  weighed-follows width here here' e (Err Refused) (Err Refused) h (Ok x) (Err cause) k = absurd k
  weighed-follows width here here' e (Err Refused) (Err Refused) h (Err cause) other' k = tt
  weighed-follows width here here' e (Err Refused) (Err Shut) h other other' k = absurd h
  weighed-follows width here here' e (Err Shut) r' h other other' k = tt

  taken_at-follows : (width : Width) (here here' : ℕ) → here ≡ here' → (m : M) (m' : M') → Same m m'
      → (address address' other other' : Result ℕ Cause)
      → Uses (λ a b. a ≡ b) address address' → Uses (λ a b. a ≡ b) other other'
      → Follows (λ a b. a ≡ b) (taken_at ops acc width here m address other)
      (taken_at ops' acc' width here' m' address' other')
  unfolding taken_at
  taken_at-follows width here here' e m m' k (Ok place) (Ok place') other other' a o =
      subst (λ p. Follows (λ a b. a ≡ b) (taken_at ops acc width here m (Ok place) other)
      (taken_at ops' acc' width here' m' (Ok p) other')) a
      (follows-then (λ p q. (p.0 ≡ q.0) × (p.1 ≡ q.1)) (λ a b. a ≡ b) _ _ _ _
      (weighed-follows width here here' e _ _
      (load-reach same acc acc' Same kept ops ops' followed m m' k place (size_of width)
      (size_of-is width)) other other' o)
      (λ p q x. same_taken (Place place) p.0 q.0 p.1 q.1 x.0 x.1))
  taken_at-follows width here here' e m m' k (Ok place) (Err cause) other other' a o = absurd a
  taken_at-follows width here here' e m m' k (Err cause) address' other other' a o = tt

  taken-follows : (width : Width) (f f' : Frame) (s : State W F) (s' : State W' F') (m : M) (m' : M')
      (operand : Operand) (other other' : Result ℕ Cause)
      → SameFrame same f f' → SameState same s s' → Same m m' → Uses (λ a b. a ≡ b) other other'
      → Follows (λ a b. a ≡ b) (taken ops acc width f s m operand other) (taken ops' acc' width f' s' m' operand other')
  unfolding taken
  taken-follows width f f' s s' m m' (InRegister name) other other' g h k o =
      follows-then (λ p q. (p.0 ≡ q.0) × (p.1 ≡ q.1)) (λ a b. a ≡ b) _ _ _ _
      (follows-clean (λ p q. (p.0 ≡ q.0) × (p.1 ≡ q.1)) s.place s'.place _ _
      (uses-both (λ a b. a ≡ b) (λ a b. a ≡ b) _ _ _ _
      (number_at-uses same ops ops' followed width _ _
      (same_register same s.registers s'.registers h.registers name)) o))
      (λ p q x. same_taken (OfSlot name) p.0 q.0 p.1 q.1 x.0 x.1)
  taken-follows width f f' s s' m m' (InMemory operand) other other' g h k o =
      taken_at-follows width s.place s'.place h.place m m' k _ _ other other'
      (address-uses same ops ops' followed f f' s s' operand g h) o

  put-follows : (width : Width) (slot : Slot) (w : W) (w' : W') → same.word w w'
      → (s : State W F) (s' : State W' F') (m : M) (m' : M') → SameState same s s' → Same m m'
      → Follows Then (put ops acc width slot w s m) (put ops' acc' width slot w' s' m')
  unfolding put
  put-follows width (OfSlot name) w w' x s s' m m' h k =
      record { state = same_word same s s' h name w w' x; memory = k }
  put-follows width (Place place) w w' x s s' m m' h k =
      follows-then Same Then _ _ _ _
      (follows-there Same s.place s'.place _ _ h.place
      (store-reach same acc acc' Same kept ops ops' followed m m' k place (size_of width)
      (size_of-is width) w w' x))
      (λ a a' y. record { state = h; memory = y })

  finished-follows : (width : Width) (slot : Slot) (effect : Effect) (f f' : Frame) (s : State W F) (s' : State W' F')
      (m : M) (m' : M') → SameFrame same f f' → SameState same s s' → Same m m'
      → Follows Then (finished ops acc width slot effect f s m) (finished ops' acc' width slot effect f' s' m')
  unfolding finished
  finished-follows width slot effect f f' s s' m m' g h k =
      follows-then Then Then _ _ _ _ (put-follows width slot _ _ (followed.word effect.number) s s' m m' h k)
      (λ a a' x. record {
        state =
            settled-same same ops ops' followed effect.changes f f' a.state a'.state g.next x.state;
        memory = x.memory;
      })

  dropped-follows : (changes : Changes) (f f' : Frame) (s : State W F) (s' : State W' F') (m : M) (m' : M')
      → SameFrame same f f' → SameState same s s' → Same m m'
      → Then (left (settled ops changes f s) m) (left (settled ops' changes f' s') m')
  dropped-follows changes f f' s s' m m' g h k =
      record { state = settled-same same ops ops' followed changes f f' s s' g.next h; memory = k }

  concluded-follows : (arithmetic : Arithmetic) (width : Width) (slot : Slot) (effect : Effect) (f f' : Frame)
      (s : State W F) (s' : State W' F') (m : M) (m' : M')
      → SameFrame same f f' → SameState same s s' → Same m m'
      → Follows Then (concluded ops acc arithmetic width slot effect f s m)
      (concluded ops' acc' arithmetic width slot effect f' s' m')
  unfolding concluded
  concluded-follows Compare width slot effect f f' s s' m m' g h k = dropped-follows effect.changes f f' s s' m m' g h k
  concluded-follows Add width slot effect f f' s s' m m' g h k = finished-follows width slot effect f f' s s' m m' g h k
  concluded-follows Or width slot effect f f' s s' m m' g h k = finished-follows width slot effect f f' s s' m m' g h k
  concluded-follows And width slot effect f f' s s' m m' g h k = finished-follows width slot effect f f' s s' m m' g h k
  concluded-follows Sub width slot effect f f' s s' m m' g h k = finished-follows width slot effect f f' s s' m m' g h k
  concluded-follows Xor width slot effect f f' s s' m m' g h k = finished-follows width slot effect f f' s s' m m' g h k

  move_in-follows : (width : Width) (f f' : Frame) (s : State W F) (s' : State W' F') (m : M) (m' : M') (to : Register)
      (from : Operand) → SameFrame same f f' → SameState same s s' → Same m m'
      → Follows Then (move_in ops acc width f s m to from) (move_in ops' acc' width f' s' m' to from)
  unfolding move_in
  move_in-follows width f f' s s' m m' to from g h k =
      follows-then same.word Then _ _ _ _ (carried-follows width f f' s s' m m' from g h k)
      (λ w w' x. record {
        state = same_place same _ _ (same_word same s s' h to w w' x) f.next f'.next g.next;
        memory = k;
      })

  stored-follows : (size : ℕ) → IsSize size
      → (f f' : Frame) (s : State W F) (s' : State W' F') (m : M) (m' : M') (to : Memory) (w : W) (w' : W')
      → same.word w w'
      → SameFrame same f f' → SameState same s s' → Same m m'
      → Follows Then (stored ops acc size f s m to w) (stored ops' acc' size f' s' m' to w')
  unfolding stored
  stored-follows size some f f' s s' m m' to w w' x g h k =
      follows-same Then _ _ _ _
      (follows-clean (λ p q. p ≡ q) s.place s'.place _ _ (address-uses same ops ops' followed f f' s s' to g h))
      (λ place. follows-then Same Then _ _ _ _
      (follows-there Same s.place s'.place _ _ h.place
      (store-reach same acc acc' Same kept ops ops' followed m m' k place size some w w' x))
      (λ a a' y. record { state = same_place same s s' h f.next f'.next g.next; memory = y }))

  move_number-follows : (width : Width) (f f' : Frame) (s : State W F) (s' : State W' F') (m : M) (m' : M')
      (to : Operand) → SameFrame same f f' → SameState same s s' → Same m m'
      → Follows Then (move_number ops acc width f s m to) (move_number ops' acc' width f' s' m' to)
  unfolding move_number
  move_number-follows width f f' s s' m m' (InRegister to) g h k =
      follows-same Then _ _ _ _
      (follows-clean (λ p q. p ≡ q) s.place s'.place _ _
      (immediate-uses same ops ops' followed width f.immediate_field f'.immediate_field f.immediate f'.immediate g.immediate))
      (λ number. record {
        state =
            same_place same _ _ (same_word same s s' h to _ _ (followed.word number)) f.next f'.next g.next;
        memory = k;
      })
  move_number-follows width f f' s s' m m' (InMemory to) g h k =
      follows-same Then _ _ _ _
      (follows-clean (λ p q. p ≡ q) s.place s'.place _ _
      (immediate-uses same ops ops' followed width f.immediate_field f'.immediate_field f.immediate f'.immediate g.immediate))
      (λ number. stored-follows (size_of width) (size_of-is width) f f' s s' m m' to _ _ (followed.word number) g h k)

  move_of-follows : (width : Width) (f f' : Frame) (s : State W F) (s' : State W' F') (m : M) (m' : M')
      (operands : Operands) → SameFrame same f f' → SameState same s s' → Same m m'
      → Follows Then (move_of ops acc width f s m operands) (move_of ops' acc' width f' s' m' operands)
  unfolding move_of
  move_of-follows width f f' s s' m m' (IntoRegister to from) g h k = move_in-follows width f f' s s' m m' to from g h k
  move_of-follows width f f' s s' m m' (IntoMemory to from) g h k =
      stored-follows (size_of width) (size_of-is width) f f' s s' m m' to _ _
      (kept-same same ops ops' followed width _ _
      (same_register same s.registers s'.registers h.registers from)) g h k
  move_of-follows width f f' s s' m m' (Immediate to) g h k = move_number-follows width f f' s s' m m' to g h k

  extend_byte-follows : (f f' : Frame) (s : State W F) (s' : State W' F') (m : M) (m' : M') (to : Register)
      (from : Operand) → SameFrame same f f' → SameState same s s' → Same m m'
      → Follows Then (extend_byte ops acc f s m to from) (extend_byte ops' acc' f' s' m' to from)
  unfolding extend_byte
  extend_byte-follows f f' s s' m m' to (InRegister from) g h k = record {
    state = same_place same _ _
        (same_word same s s' h to _ _
        (kept_byte-same same ops ops' followed _ _
        (same_register same s.registers s'.registers h.registers from))) f.next f'.next g.next;
    memory = k;
  }
  extend_byte-follows f f' s s' m m' to (InMemory from) g h k =
      follows-same Then _ _ _ _
      (follows-clean (λ p q. p ≡ q) s.place s'.place _ _ (address-uses same ops ops' followed f f' s s' from g h))
      (λ place. follows-then same.word Then _ _ _ _
      (follows-there same.word s.place s'.place _ _ h.place
      (load-reach same acc acc' Same kept ops ops' followed m m' k place 1 (inl refl)))
      (λ w w' x. record {
        state = same_place same _ _ (same_word same s s' h to w w' x) f.next f'.next g.next;
        memory = k;
      }))

  extend_long-follows : (f f' : Frame) (s : State W F) (s' : State W' F') (m : M) (m' : M') (to : Register)
      (from : Operand) → SameFrame same f f' → SameState same s s' → Same m m'
      → Follows Then (extend_long ops acc f s m to from) (extend_long ops' acc' f' s' m' to from)
  unfolding extend_long
  extend_long-follows f f' s s' m m' to from g h k =
      follows-then same.word Then _ _ _ _ (carried-follows Long f f' s s' m m' from g h k)
      (λ w w' x. record {
        state = same_place same _ _
            (same_word same s s' h to _ _
            (carried-same same ops ops' followed (λ n. signed_long_of (low Long n)) (ops.number_of w)
            (ops'.number_of w') (followed.number_of w w' x))) f.next f'.next
            g.next;
        memory = k;
      })

  load_address-follows : (width : Width) (f f' : Frame) (s : State W F) (s' : State W' F') (m : M) (m' : M')
      (to : Register) (from : Memory) → SameFrame same f f' → SameState same s s' → Same m m'
      → Follows Then (load_address ops acc width f s m to from) (load_address ops' acc' width f' s' m' to from)
  unfolding load_address
  load_address-follows width f f' s s' m m' to from g h k =
      follows-same Then _ _ _ _
      (follows-clean (λ p q. p ≡ q) s.place s'.place _ _ (address-uses same ops ops' followed f f' s s' from g h))
      (λ place. record {
        state =
            same_place same _ _ (same_word same s s' h to _ _ (followed.word (low width place))) f.next f'.next g.next;
        memory = k;
      })

  compute_in-follows : (arithmetic : Arithmetic) (width : Width) (f f' : Frame) (s : State W F) (s' : State W' F')
      (m : M) (m' : M') (to : Register) (from : Operand)
      → SameFrame same f f' → SameState same s s' → Same m m'
      → Follows Then (compute_in ops acc arithmetic width f s m to from)
      (compute_in ops' acc' arithmetic width f' s' m' to from)
  unfolding compute_in
  compute_in-follows arithmetic width f f' s s' m m' to from g h k =
      follows-if Then (is_cleared arithmetic to from) _ _ _ _
      (finished-follows width (OfSlot to) (compute_effect arithmetic width 0 0) f f' s s' m m' g h k)
      (follows-same Then _ _ _ _
      (taken-follows width f f' s s' m m' from _ _ g h k
      (number_at-uses same ops ops' followed width _ _
      (same_register same s.registers s'.registers h.registers to)))
      (λ it. concluded-follows arithmetic width (OfSlot to)
      (compute_effect arithmetic width it.other it.number) f f' s s' m m' g h k))

  compute_memory-follows : (arithmetic : Arithmetic) (width : Width) (f f' : Frame) (s : State W F) (s' : State W' F')
      (m : M) (m' : M') (to : Memory) (from : Register)
      → SameFrame same f f' → SameState same s s' → Same m m'
      → Follows Then (compute_of ops acc arithmetic width f s m (IntoMemory to from))
      (compute_of ops' acc' arithmetic width f' s' m' (IntoMemory to from))
  unfolding compute_of
  compute_memory-follows arithmetic width f f' s s' m m' to from g h k =
      follows-same Then _ _ _ _
      (taken-follows width f f' s s' m m' (InMemory to) _ _ g h k
      (number_at-uses same ops ops' followed width _ _
      (same_register same s.registers s'.registers h.registers from)))
      (λ it. concluded-follows arithmetic width it.slot
      (compute_effect arithmetic width it.number it.other) f f' s s' m m' g h k)

  -- a field that is added to a base, where the second machine adds a number
  field_added : (at n' : ℕ) → ((f : F) (f' : F') → same.flag (ops.unsettled f) f')
      → (to : Register) (f f' : Frame) (s : State W F) (s' : State W' F') (m : M) (m' : M')
      → SameFrame same f f' → SameState same s s' → Same m m' → (r r' : Result ℕ Cause)
      → Uses (λ p q. p ≡ q) r (used (plus n') r')
      → Follows Then (clean s.place (charged (Some at) r) >>=
      (λ number. finished ops acc Quad (OfSlot to) (record { number = number; changes = each_flag Unsettled }) f s m))
      ((clean s'.place (both (used (low Quad) r') (Ok (low Quad n'))) >>= (λ parts. Ok (as_taken to parts.0 parts.1)))
      >>= (λ it. concluded ops' acc' Add Quad it.slot (compute_effect Add Quad it.number it.other) f' s' m'))
  unfolding finished concluded put compute_effect sum_effect with_changes
  field_added at n' free to f f' s s' m m' g h k (Ok p) (Ok x) e = record {
    state = record {
      registers = same_with same s.registers s'.registers h.registers to _ _
          (subst (λ number. same.word (ops.word p) (ops'.word number)) (same_sum p n' x e) (followed.word p));
      flags = record { zero = free _ _; sign = free _ _; carry = free _ _; overflow = free _ _ };
      place = g.next;
      thread_pointer = h.thread_pointer;
    };
    memory = k;
  }
  field_added at n' free to f f' s s' m m' g h k (Ok p) (Err cause) e = absurd e
  field_added at n' free to f f' s s' m m' g h k (Err cause) r' e = tt

  add_field-follows : (at : ℕ) (field' : Option ℕ) (to : Register) (f f' : Frame) (s : State W F) (s' : State W' F')
      (m : M) (m' : M')
      → same.field (Some at) field' f.immediate f'.immediate → SameFrame same f f' → SameState same s s' → Same m m'
      → Follows Then (add_field ops acc f s m to at) (compute_number ops' acc' Add Quad field' f' s' m' (InRegister to))
  unfolding add_field compute_number compute_plain immediate_of taken number_at
  add_field-follows at (Some at') to f f' s s' m m' x g h k =
      follows-same Then _ _ _ _ (follows-clean (λ p q. p ≡ q) s.place s'.place _ _
      (uses-charged (λ p q. p ≡ q) (Some at) (Some at') _ _
      (followed.moved at (Some at') f.immediate f'.immediate x (register_of s.registers to)
      (register_of s'.registers to) (same_register same s.registers s'.registers h.registers to))))
      (λ number. finished-follows Quad (OfSlot to)
      (record { number = number; changes = each_flag Unsettled }) f f' s s' m m' g h k)
  add_field-follows at None to f f' s s' m m' x g h k =
      field_added at f'.immediate (followed.free at f.immediate f'.immediate x) to f f' s s' m m' g h k _ _
      (followed.moved at None f.immediate f'.immediate x (register_of s.registers to) (register_of s'.registers to)
      (same_register same s.registers s'.registers h.registers to))

  compute_plain-follows : (arithmetic : Arithmetic) (width : Width) (field field' : Option ℕ) (f f' : Frame)
      (s : State W F) (s' : State W' F') (m : M) (m' : M') (to : Operand)
      → same.field field field' f.immediate f'.immediate → SameFrame same f f' → SameState same s s' → Same m m'
      → Follows Then (compute_plain ops acc arithmetic width field f s m to)
      (compute_plain ops' acc' arithmetic width field' f' s' m' to)
  unfolding compute_plain
  compute_plain-follows arithmetic width field field' f f' s s' m m' to x g h k =
      follows-same Then _ _ _ _
      (taken-follows width f f' s s' m m' to _ _ g h k
      (immediate-uses same ops ops' followed width field field' f.immediate f'.immediate x))
      (λ it. concluded-follows arithmetic width it.slot
      (compute_effect arithmetic width it.number it.other) f f' s s' m m' g h k)

  compute_number-follows : (arithmetic : Arithmetic) (width : Width) (field field' : Option ℕ) (f f' : Frame)
      (s : State W F) (s' : State W' F') (m : M) (m' : M') (to : Operand)
      → same.field field field' f.immediate f'.immediate → SameFrame same f f' → SameState same s s' → Same m m'
      → Follows Then (compute_number ops acc arithmetic width field f s m to)
      (compute_number ops' acc' arithmetic width field' f' s' m' to)
  unfolding compute_number
  compute_number-follows Add Quad (Some at) field' f f' s s' m m' (InRegister to) x g h k =
      add_field-follows at field' to f f' s s' m m' x g h k
  compute_number-follows Add Quad None field' f f' s s' m m' (InRegister to) x g h k =
      rw (followed.plain field' f.immediate f'.immediate x).0
      (compute_plain-follows Add Quad None None f f' s s' m m' (InRegister to)
      (subst (λ field. same.field None field f.immediate f'.immediate)
      (followed.plain field' f.immediate f'.immediate x).0 x) g h k)
  compute_number-follows Add Quad None None f f' s s' m m' (InMemory to) x g h k =
      compute_plain-follows Add Quad None None f f' s s' m m' (InMemory to) x g h k
  compute_number-follows Add Quad None (Some at') f f' s s' m m' (InMemory to) x g h k =
      compute_plain-follows Add Quad None (Some at') f f' s s' m m' (InMemory to) x g h k
  compute_number-follows Add Quad (Some at) None f f' s s' m m' (InMemory to) x g h k =
      compute_plain-follows Add Quad (Some at) None f f' s s' m m' (InMemory to) x g h k
  compute_number-follows Add Quad (Some at) (Some at') f f' s s' m m' (InMemory to) x g h k =
      compute_plain-follows Add Quad (Some at) (Some at') f f' s s' m m' (InMemory to) x g h k
  compute_number-follows Add Long field field' f f' s s' m m' to x g h k =
      compute_plain-follows Add Long field field' f f' s s' m m' to x g h k
  compute_number-follows Or width field field' f f' s s' m m' to x g h k =
      compute_plain-follows Or width field field' f f' s s' m m' to x g h k
  compute_number-follows And width field field' f f' s s' m m' to x g h k =
      compute_plain-follows And width field field' f f' s s' m m' to x g h k
  compute_number-follows Sub width field field' f f' s s' m m' to x g h k =
      compute_plain-follows Sub width field field' f f' s s' m m' to x g h k
  compute_number-follows Xor width field field' f f' s s' m m' to x g h k =
      compute_plain-follows Xor width field field' f f' s s' m m' to x g h k
  compute_number-follows Compare width field field' f f' s s' m m' to x g h k =
      compute_plain-follows Compare width field field' f f' s s' m m' to x g h k

  compute_of-follows : (arithmetic : Arithmetic) (width : Width) (f f' : Frame) (s : State W F) (s' : State W' F')
      (m : M) (m' : M') (operands : Operands)
      → SameFrame same f f' → SameState same s s' → Same m m'
      → Follows Then (compute_of ops acc arithmetic width f s m operands)
      (compute_of ops' acc' arithmetic width f' s' m' operands)
  unfolding compute_of
  compute_of-follows arithmetic width f f' s s' m m' (IntoRegister to from) g h k =
      compute_in-follows arithmetic width f f' s s' m m' to from g h k
  compute_of-follows arithmetic width f f' s s' m m' (IntoMemory to from) g h k =
      compute_memory-follows arithmetic width f f' s s' m m' to from g h k
  compute_of-follows arithmetic width f f' s s' m m' (Immediate to) g h k =
      compute_number-follows arithmetic width f.immediate_field f'.immediate_field f f' s s' m m' to g.immediate g h k

  test_of-follows : (width : Width) (f f' : Frame) (s : State W F) (s' : State W' F') (m : M) (m' : M') (from : Operand)
      (right : Register) → SameFrame same f f' → SameState same s s' → Same m m'
      → Follows Then (test_of ops acc width f s m from right) (test_of ops' acc' width f' s' m' from right)
  unfolding test_of
  test_of-follows width f f' s s' m m' from right g h k =
      follows-same Then _ _ _ _
      (taken-follows width f f' s s' m m' from _ _ g h k
      (number_at-uses same ops ops' followed width _ _
      (same_register same s.registers s'.registers h.registers right)))
      (λ it. dropped-follows (compute_effect And width it.number it.other).changes f f' s s' m m' g h k)

  multiply_of-follows : (width : Width) (f f' : Frame) (s : State W F) (s' : State W' F') (m : M) (m' : M')
      (to : Register) (from : Operand) → SameFrame same f f' → SameState same s s' → Same m m'
      → Follows Then (multiply_of ops acc width f s m to from) (multiply_of ops' acc' width f' s' m' to from)
  unfolding multiply_of
  multiply_of-follows width f f' s s' m m' to from g h k =
      follows-same Then _ _ _ _
      (taken-follows width f f' s s' m m' from _ _ g h k
      (number_at-uses same ops ops' followed width _ _
      (same_register same s.registers s'.registers h.registers to)))
      (λ it. finished-follows width (OfSlot to) (product_effect width it.other it.number) f f' s s' m m' g h k)

  shift_of-follows : (shift : Shift) (width : Width) (f f' : Frame) (s : State W F) (s' : State W' F') (m : M) (m' : M')
      (to : Operand) (count : ℕ) → SameFrame same f f' → SameState same s s'
      → Same m m'
      → Follows Then (shift_of ops acc shift width f s m to count) (shift_of ops' acc' shift width f' s' m' to count)
  unfolding shift_of
  shift_of-follows shift width f f' s s' m m' to count g h k =
      follows-same Then _ _ _ _ (taken-follows width f f' s s' m m' to (Ok 0) (Ok 0) g h k refl)
      (λ it. finished-follows width it.slot
      (shift_effect shift width it.number (count % bits_of width)) f f' s s' m m' g h k)

  pushed-follows : (stack : ℕ) (w : W) (w' : W') → same.word w w' → (s : State W F) (s' : State W' F') (m : M) (m' : M')
      → SameState same s s' → Same m m'
      → Follows Then (pushed ops acc stack w s m) (pushed ops' acc' stack w' s' m')
  unfolding pushed
  pushed-follows stack w w' x s s' m m' h k =
      follows-then Same Then _ _ _ _
      (follows-there Same s.place s'.place _ _ h.place
      (store-reach same acc acc' Same kept ops ops' followed m m' k (plus stack (2 ^ 64 - 8)) 8
      (inr (inr refl)) w w' x))
      (λ a a' y. record { state = same_stack same s s' h _ _ (followed.word (plus stack (2 ^ 64 - 8))); memory = y })

  -- %rsp as a number
  stack-follows : (s : State W F) (s' : State W' F') → SameState same s s'
      → Follows (λ p q. p ≡ q) (clean s.place (ops.number_of s.registers.rsp))
      (clean s'.place (ops'.number_of s'.registers.rsp))
  stack-follows s s' h = follows-clean (λ p q. p ≡ q) s.place s'.place _ _
      (followed.number_of s.registers.rsp s'.registers.rsp h.registers.rsp)

  word-follows : (s : State W F) (s' : State W' F') (m : M) (m' : M') → SameState same s s' → Same m m' → (place : ℕ)
      → Follows same.word (there s.place (load_of ops acc m place 8)) (there s'.place (load_of ops' acc' m' place 8))
  word-follows s s' m m' h k place =
      follows-there same.word s.place s'.place _ _ h.place
      (load-reach same acc acc' Same kept ops ops' followed m m' k place 8 (inr (inr refl)))

  push_of-follows : (f f' : Frame) (s : State W F) (s' : State W' F') (m : M) (m' : M') (from : Register)
      → SameFrame same f f' → SameState same s s' → Same m m'
      → Follows Then (push_of ops acc f s m from) (push_of ops' acc' f' s' m' from)
  unfolding push_of
  push_of-follows f f' s s' m m' from g h k =
      follows-same Then _ _ _ _ (stack-follows s s' h)
      (λ stack. follows-then Then Then _ _ _ _
      (pushed-follows stack _ _ (same_register same s.registers s'.registers h.registers from) s s' m m' h k)
      (λ a a' x. record { state = same_place same a.state a'.state x.state f.next f'.next g.next; memory = x.memory }))

  pop_of-follows : (f f' : Frame) (s : State W F) (s' : State W' F') (m : M) (m' : M') (to : Register)
      → SameFrame same f f' → SameState same s s' → Same m m'
      → Follows Then (pop_of ops acc f s m to) (pop_of ops' acc' f' s' m' to)
  unfolding pop_of
  pop_of-follows f f' s s' m m' to g h k =
      follows-same Then _ _ _ _ (stack-follows s s' h)
      (λ stack. follows-then same.word Then _ _ _ _ (word-follows s s' m m' h k stack)
      (λ w w' x. record {
        state =
            same_place same _ _ (same_word same _ _
            (same_stack same s s' h _ _ (followed.word (plus stack 8))) to w w' x) f.next f'.next g.next;
        memory = k;
      }))

  same_framed : (s : State W F) (s' : State W' F') → SameState same s s' → (w : W) (w' : W') → same.word w w'
      → (v : W) (v' : W') → same.word v v' → (p p' : ℕ) → p ≡ p'
      → SameState same (record s { registers = record s.registers { rsp = w; rbp = v }; place = p })
      (record s' { registers = record s'.registers { rsp = w'; rbp = v' }; place = p' })
  same_framed s s' h w w' x v v' y p p' e = record {
    registers = let k = h.registers in
        all_registers same _ _ k.rax k.rcx k.rdx k.rbx x y k.rsi k.rdi k.r8 k.r9 k.r10 k.r11 k.r12 k.r13 k.r14 k.r15;
    flags = h.flags;
    place = e;
    thread_pointer = h.thread_pointer;
  }

  leave_of-follows : (f f' : Frame) (s : State W F) (s' : State W' F') (m : M) (m' : M') → SameFrame same f f'
      → SameState same s s' → Same m m'
      → Follows Then (leave_of ops acc f s m) (leave_of ops' acc' f' s' m')
  unfolding leave_of
  leave_of-follows f f' s s' m m' g h k =
      follows-same Then _ _ _ _
      (follows-clean (λ p q. p ≡ q) s.place s'.place _ _
      (followed.number_of s.registers.rbp s'.registers.rbp h.registers.rbp))
      (λ base. follows-then same.word Then _ _ _ _ (word-follows s s' m m' h k base)
      (λ w w' x. record {
        state = same_framed s s' h _ _ (followed.word (plus base 8)) w w' x f.next f'.next g.next;
        memory = k;
      }))

  return_of-follows : (s : State W F) (s' : State W' F') (m : M) (m' : M') → SameState same s s' → Same m m'
      → Follows Then (return_of ops acc s m) (return_of ops' acc' s' m')
  unfolding return_of
  return_of-follows s s' m m' h k =
      follows-same Then _ _ _ _ (stack-follows s s' h)
      (λ stack. follows-then same.word Then _ _ _ _ (word-follows s s' m m' h k stack)
      (λ w w' x. follows-same Then _ _ _ _
      (follows-clean (λ p q. p ≡ q) s.place s'.place _ _ (followed.number_of w w' x))
      (λ place. record {
        state =
            same_place same _ _ (same_stack same s s' h _ _ (followed.word (plus stack 8))) place place refl;
        memory = k;
      })))

  next_word : (f f' : Frame) → SameFrame same f f' → same.word (ops.word f.next) (ops'.word f'.next)
  next_word f f' g = subst (λ next. same.word (ops.word f.next) (ops'.word next)) g.next (followed.word f.next)

  call_of-follows : (f f' : Frame) (s : State W F) (s' : State W' F') (m : M) (m' : M') (target : Target)
      → SameFrame same f f' → SameState same s s' → Same m m'
      → Follows Then (call_of ops acc f s m target) (call_of ops' acc' f' s' m' target)
  unfolding call_of
  call_of-follows f f' s s' m m' (Relative distance) g h k =
      follows-same Then _ _ _ _ (stack-follows s s' h)
      (λ stack. follows-then Then Then _ _ _ _ (pushed-follows stack _ _ (next_word f f' g) s s' m m' h k)
      (λ a a' x. record {
        state = same_place same a.state a'.state x.state _ _ (ap (λ next. plus next distance) g.next);
        memory = x.memory;
      }))
  call_of-follows f f' s s' m m' (Indirect operand) g h k =
      follows-same Then _ _ _ _
      (taken-follows Quad f f' s s' m m' operand _ _ g h k
      (followed.number_of s.registers.rsp s'.registers.rsp h.registers.rsp))
      (λ it. follows-then Then Then _ _ _ _ (pushed-follows it.other _ _ (next_word f f' g) s s' m m' h k)
      (λ a a' x. record {
        state = same_place same a.state a'.state x.state it.number it.number refl;
        memory = x.memory;
      }))

  jump_of-follows : (f f' : Frame) (s : State W F) (s' : State W' F') (m : M) (m' : M') (target : Target)
      → SameFrame same f f' → SameState same s s' → Same m m'
      → Follows Then (jump_of ops acc f s m target) (jump_of ops' acc' f' s' m' target)
  unfolding jump_of
  jump_of-follows f f' s s' m m' (Relative distance) g h k =
      record { state = same_place same s s' h _ _ (ap (λ next. plus next distance) g.next); memory = k }
  jump_of-follows f f' s s' m m' (Indirect operand) g h k =
      follows-same Then _ _ _ _ (taken-follows Quad f f' s s' m m' operand (Ok 0) (Ok 0) g h k refl)
      (λ it. record { state = same_place same s s' h it.number it.number refl; memory = k })

  jump_if-follows : (f f' : Frame) (s : State W F) (s' : State W' F') (m : M) (m' : M') (condition : Condition)
      (distance : ℕ) → SameFrame same f f' → SameState same s s' → Same m m'
      → Follows Then (jump_if ops acc f s m condition distance) (jump_if ops' acc' f' s' m' condition distance)
  unfolding jump_if
  jump_if-follows f f' s s' m m' condition distance g h k =
      follows-same Then _ _ _ _
      (follows-clean (λ p q. p ≡ q) s.place s'.place _ _
      (condition-uses same ops ops' followed condition s.flags s'.flags h.flags))
      (λ holds. record {
        state =
            same_place same s s' h _ _ (ap (λ next. if holds then plus next distance else next) g.next);
        memory = k;
      })

  none_of : (f f' : Frame) → SameFrame same f f' → f.displacement_field ≡ None → f'.displacement_field ≡ None
  none_of f f' g none =
      (followed.plain f'.displacement_field f.displacement f'.displacement
      (subst (λ field. same.field field f'.displacement_field f.displacement f'.displacement) none g.displacement)).0

  nop_of-follows : (f f' : Frame) (s : State W F) (s' : State W' F') (m : M) (m' : M') (operand : Option Operand)
      → SameFrame same f f' → SameState same s s' → Same m m'
      → Follows Then (nop_of ops acc f s m operand) (nop_of ops' acc' f' s' m' operand)
  unfolding nop_of
  nop_of-follows f f' s s' m m' operand g h k =
      follows-then (λ (a : ℕ) (b : ℕ). Unit {0}) Then _ _ _ _
      (follows-clean (λ (a : ℕ) (b : ℕ). Unit {0}) s.place s'.place _ _
      (nop-uses same ops ops' followed f f' s s' f.displacement_field f'.displacement_field operand
      (none_of f f' g) g h))
      (λ a b x. record { state = same_place same s s' h f.next f'.next g.next; memory = k })

  store_byte-follows : (f f' : Frame) (s : State W F) (s' : State W' F') (m : M) (m' : M') (to : Memory)
      (from : Register) → SameFrame same f f' → SameState same s s' → Same m m'
      → Follows Then (store_byte ops acc f s m to from) (store_byte ops' acc' f' s' m' to from)
  unfolding store_byte
  store_byte-follows f f' s s' m m' to from g h k =
      stored-follows 1 (inl refl) f f' s s' m m' to _ _
      (kept_byte-same same ops ops' followed _ _
      (same_register same s.registers s'.registers h.registers from)) g h k

  -- the law: operations and memories that are related keep related states related through one instruction
  pub act_follows : (f f' : Frame) → SameFrame same f f'
      → (operation : Operation) (s : State W F) (s' : State W' F') (m : M) (m' : M') → SameState same s s' → Same m m'
      → Follows Then (act ops acc f operation s m) (act ops' acc' f' operation s' m')
  unfolding act
  act_follows f f' g (Move width operands) s s' m m' h k = move_of-follows width f f' s s' m m' operands g h k
  act_follows f f' g (StoreByte to from) s s' m m' h k = store_byte-follows f f' s s' m m' to from g h k
  act_follows f f' g (ExtendByte width to from) s s' m m' h k = extend_byte-follows f f' s s' m m' to from g h k
  act_follows f f' g (ExtendLong to from) s s' m m' h k = extend_long-follows f f' s s' m m' to from g h k
  act_follows f f' g (LoadAddress width to from) s s' m m' h k = load_address-follows width f f' s s' m m' to from g h k
  act_follows f f' g (Compute arithmetic width operands) s s' m m' h k =
      compute_of-follows arithmetic width f f' s s' m m' operands g h k
  act_follows f f' g (Test width from right) s s' m m' h k = test_of-follows width f f' s s' m m' from right g h k
  act_follows f f' g (Multiply width to from) s s' m m' h k = multiply_of-follows width f f' s s' m m' to from g h k
  act_follows f f' g (ShiftBy shift width to count) s s' m m' h k =
      shift_of-follows shift width f f' s s' m m' to count g h k
  act_follows f f' g (Push from) s s' m m' h k = push_of-follows f f' s s' m m' from g h k
  act_follows f f' g (Pop to) s s' m m' h k = pop_of-follows f f' s s' m m' to g h k
  act_follows f f' g Leave s s' m m' h k = leave_of-follows f f' s s' m m' g h k
  act_follows f f' g (Call target) s s' m m' h k = call_of-follows f f' s s' m m' target g h k
  act_follows f f' g (Jump target) s s' m m' h k = jump_of-follows f f' s s' m m' target g h k
  act_follows f f' g (JumpIf condition distance) s s' m m' h k = jump_if-follows f f' s s' m m' condition distance g h k
  act_follows f f' g Return s s' m m' h k = return_of-follows s s' m m' h k
  act_follows f f' g (Nop operand) s s' m m' h k = nop_of-follows f f' s s' m m' operand g h k
  act_follows f f' g Undefined s s' m m' h k = ap (λ place. Err (Code place)) (sym h.place)
