-- No step stops for want of steps: of a machine with any values, none stops with `steps`, and none is unclean for it.
use Rattle.std.proofs.Common.{ℕ, Bool, true, false, not, Option, Some, None, Result, Ok, Err}
use Rattle.std.specs.Prelude.{◌-◌, ◌^◌, nat_le, if◌then◌else◌}
use Rattle.amd64_words.specs.declared.register.Register.{Register}
use Rattle.amd64_subset.specs.declared.instr.Width.{Width}
use Rattle.amd64_subset.specs.declared.instr.Width.TheVariants.{Long, Quad}
use Rattle.amd64_subset.specs.declared.instr.Arithmetic.{Arithmetic}
use Rattle.amd64_subset.specs.declared.instr.Arithmetic.TheVariants.{Add, Or, And, Sub, Xor, Compare}
use Rattle.amd64_subset.specs.declared.instr.Condition.{Condition}
use Rattle.amd64_subset.specs.declared.instr.Condition.TheVariants.{Overflow, NotOverflow, Below, NotBelow, Equal}
use Rattle.amd64_subset.specs.declared.instr.Condition.TheVariants.{NotEqual, BelowOrEqual, Above, Sign, NotSign, Less}
use Rattle.amd64_subset.specs.declared.instr.Condition.TheVariants.{NotLess, LessOrEqual, Greater}
use Rattle.amd64_subset.specs.declared.instr.Decoded.{Decoded}
use Rattle.amd64_subset.specs.declared.instr.Target.{Target}
use Rattle.amd64_subset.specs.declared.instr.Target.TheVariants.{Relative, Indirect}
use Rattle.amd64_subset.specs.declared.instr.Operation.{Operation}
use Rattle.amd64_subset.specs.declared.instr.Operation.TheVariants.{Move, StoreByte, ExtendByte, ExtendLong}
use Rattle.amd64_subset.specs.declared.instr.Operation.TheVariants.{LoadAddress, Compute, Test, Multiply}
use Rattle.amd64_subset.specs.declared.instr.Operation.TheVariants.{Shift as ShiftBy, Push, Pop, Leave, Call, Jump}
use Rattle.amd64_subset.specs.declared.instr.Operation.TheVariants.{JumpIf, Return, Nop, Undefined}
use Rattle.amd64_subset.specs.declared.operand.Base.{Base}
use Rattle.amd64_subset.specs.declared.operand.Base.TheVariants.{Absolute, NextInstruction, Register as OfRegister}
use Rattle.amd64_subset.specs.declared.operand.Index.{Index}
use Rattle.amd64_subset.specs.declared.operand.Memory.{Memory}
use Rattle.amd64_subset.specs.declared.operand.Operand.{Operand}
use Rattle.amd64_subset.specs.declared.operand.Operand.TheVariants.{InMemory, Register as InRegister}
use Rattle.amd64_subset.specs.declared.operand.Operands.{Operands}
use Rattle.amd64_subset.specs.declared.operand.Operands.TheVariants.{IntoRegister, IntoMemory, Immediate}
use Rattle.amd64_subset.specs.Decoding.{decoded}
use Rattle.guest_arithmetic.specs.declared.cause.Cause.{Cause}
use Rattle.guest_arithmetic.specs.declared.cause.Cause.TheVariants as cause
use Rattle.guest_arithmetic.specs.declared.effect.Effect.{Effect}
use Rattle.guest_operands.specs.declared.frame.Frame.{Frame}
use Rattle.guest_operands.specs.declared.slot.Slot.{Slot}
use Rattle.guest_operands.specs.declared.slot.Slot.TheVariants.{Place, Register as OfSlot}
use Rattle.guest_arithmetic.specs.declared.flags.Flags.{Flags}
use Rattle.guest_operands.specs.declared.state.Registers.{Registers}
use Rattle.guest_operands.specs.declared.state.State.{State}
use Rattle.guest_operands.specs.declared.stop.Stop.{Stop}
use Rattle.guest_operands.specs.declared.stop.Stop.TheVariants.{Returned, Look, Address, Code, Unclean, Steps}
use Rattle.guest_operands.specs.Access.{Refusal, Refused, Shut, Accesses, load_of, store_of, fetch_of}
use Rattle.guest_arithmetic.specs.Flags.{is_less, is_less_or_equal, is_below_or_equal, condition_of}
use Rattle.guest_arithmetic.specs.Cause.{both, cause_with, first_cause, rank_of, used}
use Rattle.guest_operands.specs.Operand.{size_of, charged, unmoved, moved_by, base_of, index_of, address_of, number_at}
use Rattle.guest_operands.specs.Operand.{carried, weighed, taken_at, taken, put}
use Rattle.guest_operands.specs.Frame.{frame_of}
use Rattle.guest_machine.specs.Step.{immediate_of, is_cleared, nop_use, finished, concluded, move_in, stored}
use Rattle.guest_machine.specs.Step.{store_byte, move_number, move_of, extend_byte, extend_long, load_address}
use Rattle.guest_machine.specs.Step.{compute_in}
use Rattle.guest_machine.specs.Step.{add_field, compute_plain, compute_number, compute_of, test_of, multiply_of}
use Rattle.guest_machine.specs.Step.{shift_of, pushed, push_of, pop_of, leave_of, return_of, call_of, jump_of}
use Rattle.guest_machine.specs.Step.{jump_if, nop_of, act, act_if, step_of}
use Rattle.guest_operands.specs.Use.{◌>>=◌, clean, there, plus}
use Rattle.guest_arithmetic.specs.Values.{Operations}

-- a cause that a step may have by itself
abbrev pub IsOwnCause : Cause → Type 0
IsOwnCause cause.Inside = Unit {0}
IsOwnCause cause.Field = Unit {0}
IsOwnCause cause.Linker = Unit {0}
IsOwnCause cause.Undefined = Unit {0}
IsOwnCause cause.Flags = Unit {0}
IsOwnCause cause.Base = Unit {0}
IsOwnCause cause.Descriptor = Unit {0}
IsOwnCause cause.Answer = Unit {0}
IsOwnCause cause.Steps = ⊥

-- a stop that is not for want of steps
abbrev pub IsOwnStop : Stop → Type 0
IsOwnStop (Returned number) = Unit {0}
IsOwnStop (Look place) = Unit {0}
IsOwnStop (Address place) = Unit {0}
IsOwnStop (Code place) = Unit {0}
IsOwnStop (Unclean place why) = IsOwnCause why
IsOwnStop (Steps place) = ⊥

abbrev pub IsUsed : {A : Type 0} → Result A Cause → Type 0
IsUsed (Ok x) = Unit {0}
IsUsed (Err why) = IsOwnCause why

abbrev pub Stays : {A : Type 0} → Result A Stop → Type 0
Stays (Ok x) = Unit {0}
Stays (Err stop) = IsOwnStop stop

first-if : (b : Bool) (a c : Cause) → IsOwnCause a → IsOwnCause c → IsOwnCause (if b then a else c)
first-if true a c h k = h
first-if false a c h k = k

pub first-own : (a c : Cause) → IsOwnCause a → IsOwnCause c → IsOwnCause (first_cause a c)
first-own a c h k = first-if (nat_le (rank_of a) (rank_of c)) a c h k

pub with-own : {A : Type 0} (why : Cause) (r : Result A Cause) → IsOwnCause why → IsUsed r
    → IsOwnCause (cause_with why r)
with-own why (Ok x) h k = h
with-own why (Err other) h k = first-own why other h k

stays-then : {A C : Type 0} (r : Result A Stop) (f : A → Result C Stop) → Stays r → ((x : A) → Stays (f x))
    → Stays (r >>= f)
stays-then (Ok x) f h k = k x
stays-then (Err stop) f h k = h

pub stays-clean : {A : Type 0} (here : ℕ) (r : Result A Cause) → IsUsed r → Stays (clean here r)
stays-clean here (Ok x) h = tt
stays-clean here (Err why) h = h

stays-there : {A : Type 0} (here : ℕ) (r : Result A Refusal) → Stays (there here r)
stays-there here (Ok x) = tt
stays-there here (Err Refused) = tt
stays-there here (Err Shut) = tt

pub stays-if : {A : Type 0} (b : Bool) (x y : Result A Stop) → Stays x → Stays y → Stays (if b then x else y)
stays-if true x y h k = h
stays-if false x y h k = k

used-is : {A C : Type 0} (f : A → C) (r : Result A Cause) → IsUsed r → IsUsed (used f r)
used-is f (Ok x) h = tt
used-is f (Err why) h = h

pub both-are : {A C : Type 0} (a : Result A Cause) (c : Result C Cause) → IsUsed a → IsUsed c → IsUsed (both a c)
both-are (Ok x) (Ok y) h k = tt
both-are (Ok x) (Err why) h k = k
both-are (Err why) (Ok y) h k = h
both-are (Err why) (Err other) h k = first-own why other h k

charged-is : {A : Type 0} (field : Option ℕ) (r : Result A Cause) → IsUsed r → IsUsed (charged field r)
charged-is None r h = h
charged-is (Some at) (Ok x) h = tt
charged-is (Some at) (Err why) h = tt

-- values whose uses have no other causes
pub record HasOwnCauses {W F B : Type 0} (ops : Operations W F B) : Type 0 where
  pub number_of : (w : W) → IsUsed (ops.number_of w)
  pub truth_of : (f : F) → IsUsed (ops.truth_of f)
  pub moved : (w : W) (n at : ℕ) → IsUsed (ops.moved w n at)
  pub misused : (n : ℕ) → IsUsed (ops.misused n)

module _ {W F B M : Type 0} (ops : Operations W F B) (acc : Accesses M B) (always : HasOwnCauses ops) where
  unmoved-is : (field : Option ℕ) (n : ℕ) → IsUsed (unmoved ops field n)
  unmoved-is None n = tt
  unmoved-is (Some at) n = always.misused n

  moved-is : (field : Option ℕ) (n : ℕ) (w : W) → IsUsed (moved_by ops field n w)
  moved-is None n w = used-is _ _ (always.number_of w)
  moved-is (Some at) n w = always.moved w n at

  base-is : (field : Option ℕ) (n next : ℕ) (r : Registers W) (base : Base) → IsUsed (base_of ops field n next r base)
  unfolding base_of
  base-is field n next r Absolute = unmoved-is field n
  base-is field n next r (OfRegister name) = moved-is field n _
  base-is field n next r NextInstruction = used-is _ _ (unmoved-is field n)

  index-is : (r : Registers W) (index : Option Index) → IsUsed (index_of ops r index)
  unfolding index_of
  index-is r None = tt
  index-is r (Some index) = used-is _ _ (always.number_of _)

  address-is : (f : Frame) (s : State W F) (memory : Memory) → IsUsed (address_of ops f s memory)
  unfolding address_of
  address-is f s memory =
      used-is _ _ (charged-is f.displacement_field _
      (both-are _ _ (base-is f.displacement_field f.displacement f.next s.registers memory.base)
      (index-is s.registers memory.index)))

  number-is : (width : Width) (w : W) → IsUsed (number_at ops width w)
  unfolding number_at
  number-is width w = used-is _ _ (always.number_of w)

  two-are : (f : Bool → Bool → Bool) (a b : F)
      → IsUsed (used (λ parts. f parts.0 parts.1) (both (ops.truth_of a) (ops.truth_of b)))
  two-are f a b = used-is _ _ (both-are _ _ (always.truth_of a) (always.truth_of b))

  less-is : (f : Flags F) → IsUsed (is_less ops f)
  unfolding is_less
  less-is f = used-is _ _ (both-are _ _ (always.truth_of f.sign) (always.truth_of f.overflow))

  below-is : (f : Flags F) → IsUsed (is_below_or_equal ops f)
  unfolding is_below_or_equal
  below-is f = used-is _ _ (both-are _ _ (always.truth_of f.carry) (always.truth_of f.zero))

  less_or-is : (f : Flags F) → IsUsed (is_less_or_equal ops f)
  unfolding is_less_or_equal
  less_or-is f = used-is _ _ (both-are _ _ (always.truth_of f.zero) (less-is f))

  condition-is : (condition : Condition) (f : Flags F) → IsUsed (condition_of ops condition f)
  unfolding condition_of
  condition-is Overflow f = always.truth_of f.overflow
  condition-is NotOverflow f = used-is not _ (always.truth_of f.overflow)
  condition-is Below f = always.truth_of f.carry
  condition-is NotBelow f = used-is not _ (always.truth_of f.carry)
  condition-is Equal f = always.truth_of f.zero
  condition-is NotEqual f = used-is not _ (always.truth_of f.zero)
  condition-is BelowOrEqual f = below-is f
  condition-is Above f = used-is not _ (below-is f)
  condition-is Sign f = always.truth_of f.sign
  condition-is NotSign f = used-is not _ (always.truth_of f.sign)
  condition-is Less f = less-is f
  condition-is NotLess f = used-is not _ (less-is f)
  condition-is LessOrEqual f = less_or-is f
  condition-is Greater f = used-is not _ (less_or-is f)

  weighed-stays : (width : Width) (here : ℕ) (r : Result W Refusal) (other : Result ℕ Cause) → IsUsed other
      → Stays (weighed ops acc width here r other)
  weighed-stays width here (Ok w) other k = stays-clean here _ (both-are _ other (number-is width w) k)
  weighed-stays width here (Err Refused) (Ok x) k = tt
  weighed-stays width here (Err Refused) (Err why) k = k
  weighed-stays width here (Err Shut) other k = with-own cause.Linker other tt k

  taken_at-stays : (width : Width) (here : ℕ) (m : M) (address other : Result ℕ Cause) → IsUsed address → IsUsed other
      → Stays (taken_at ops acc width here m address other)
  unfolding taken_at
  taken_at-stays width here m (Ok place) other h k =
      stays-then _ _ (weighed-stays width here (load_of ops acc m place (size_of width)) other k) (λ parts. tt)
  taken_at-stays width here m (Err why) other h k = with-own why other h k

  taken-stays : (width : Width) (f : Frame) (s : State W F) (m : M) (operand : Operand) (other : Result ℕ Cause)
      → IsUsed other → Stays (taken ops acc width f s m operand other)
  unfolding taken
  taken-stays width f s m (InRegister name) other k =
      stays-then _ _ (stays-clean s.place _ (both-are _ other (number-is width _) k)) (λ parts. tt)
  taken-stays width f s m (InMemory operand) other k = taken_at-stays width s.place m _ other (address-is f s operand) k

  carried-stays : (width : Width) (f : Frame) (s : State W F) (m : M) (operand : Operand)
      → Stays (carried ops acc width f s m operand)
  unfolding carried
  carried-stays width f s m (InRegister name) = tt
  carried-stays width f s m (InMemory operand) =
      stays-then _ _ (stays-clean s.place _ (address-is f s operand))
      (λ place. stays-there s.place (load_of ops acc m place (size_of width)))

  put-stays : (width : Width) (slot : Slot) (w : W) (s : State W F) (m : M) → Stays (put ops acc width slot w s m)
  unfolding put
  put-stays width (OfSlot name) w s m = tt
  put-stays width (Place place) w s m =
      stays-then _ _ (stays-there s.place (store_of ops acc m place (size_of width) w)) (λ after. tt)

  finished-stays : (width : Width) (slot : Slot) (effect : Effect) (f : Frame) (s : State W F) (m : M)
      → Stays (finished ops acc width slot effect f s m)
  unfolding finished
  finished-stays width slot effect f s m = stays-then _ _ (put-stays width slot _ s m) (λ after. tt)

  concluded-stays : (arithmetic : Arithmetic) (width : Width) (slot : Slot) (effect : Effect) (f : Frame)
      (s : State W F) (m : M) → Stays (concluded ops acc arithmetic width slot effect f s m)
  unfolding concluded
  concluded-stays Compare width slot effect f s m = tt
  concluded-stays Add width slot effect f s m = finished-stays width slot effect f s m
  concluded-stays Or width slot effect f s m = finished-stays width slot effect f s m
  concluded-stays And width slot effect f s m = finished-stays width slot effect f s m
  concluded-stays Sub width slot effect f s m = finished-stays width slot effect f s m
  concluded-stays Xor width slot effect f s m = finished-stays width slot effect f s m

  stored-stays : (size : ℕ) (f : Frame) (s : State W F) (m : M) (to : Memory) (w : W)
      → Stays (stored ops acc size f s m to w)
  unfolding stored
  stored-stays size f s m to w =
      stays-then _ _ (stays-clean s.place _ (address-is f s to))
      (λ place. stays-then _ _ (stays-there s.place (store_of ops acc m place size w)) (λ after. tt))

  immediate-is : (width : Width) (field : Option ℕ) (n : ℕ) → IsUsed (immediate_of ops width field n)
  unfolding immediate_of
  immediate-is width field n = used-is _ _ (unmoved-is field n)

  move-stays : (width : Width) (f : Frame) (s : State W F) (m : M) (operands : Operands)
      → Stays (move_of ops acc width f s m operands)
  unfolding move_of move_in move_number
  move-stays width f s m (IntoRegister to from) = stays-then _ _ (carried-stays width f s m from) (λ word. tt)
  move-stays width f s m (IntoMemory to from) = stored-stays _ f s m to _
  move-stays width f s m (Immediate (InRegister to)) =
      stays-then _ _ (stays-clean s.place _ (immediate-is width f.immediate_field f.immediate)) (λ number. tt)
  move-stays width f s m (Immediate (InMemory to)) =
      stays-then _ _ (stays-clean s.place _ (immediate-is width f.immediate_field f.immediate))
      (λ number. stored-stays _ f s m to _)

  extend_byte-stays : (f : Frame) (s : State W F) (m : M) (to : Register) (from : Operand)
      → Stays (extend_byte ops acc f s m to from)
  unfolding extend_byte
  extend_byte-stays f s m to (InRegister from) = tt
  extend_byte-stays f s m to (InMemory from) =
      stays-then _ _ (stays-clean s.place _ (address-is f s from))
      (λ place. stays-then _ _ (stays-there s.place (load_of ops acc m place 1)) (λ word. tt))

  plain-stays : (arithmetic : Arithmetic) (width : Width) (field : Option ℕ) (f : Frame) (s : State W F) (m : M)
      (to : Operand) → Stays (compute_plain ops acc arithmetic width field f s m to)
  unfolding compute_plain
  plain-stays arithmetic width field f s m to =
      stays-then _ _ (taken-stays width f s m to _ (immediate-is width field f.immediate))
      (λ it. concluded-stays arithmetic width it.slot _ f s m)

  number-stays : (arithmetic : Arithmetic) (width : Width) (field : Option ℕ) (f : Frame) (s : State W F) (m : M)
      (to : Operand) → Stays (compute_number ops acc arithmetic width field f s m to)
  unfolding compute_number add_field
  number-stays Add Quad (Some at) f s m (InRegister to) =
      stays-then _ _ (stays-clean s.place _ (charged-is (Some at) _ (always.moved _ f.immediate at)))
      (λ number. finished-stays Quad (OfSlot to) _ f s m)
  number-stays Add Quad None f s m (InRegister to) = plain-stays Add Quad None f s m (InRegister to)
  number-stays Add Quad None f s m (InMemory to) = plain-stays Add Quad None f s m (InMemory to)
  number-stays Add Quad (Some at) f s m (InMemory to) = plain-stays Add Quad (Some at) f s m (InMemory to)
  number-stays Add Long field f s m to = plain-stays Add Long field f s m to
  number-stays Or width field f s m to = plain-stays Or width field f s m to
  number-stays And width field f s m to = plain-stays And width field f s m to
  number-stays Sub width field f s m to = plain-stays Sub width field f s m to
  number-stays Xor width field f s m to = plain-stays Xor width field f s m to
  number-stays Compare width field f s m to = plain-stays Compare width field f s m to

  compute-stays : (arithmetic : Arithmetic) (width : Width) (f : Frame) (s : State W F) (m : M) (operands : Operands)
      → Stays (compute_of ops acc arithmetic width f s m operands)
  unfolding compute_of compute_in
  compute-stays arithmetic width f s m (IntoRegister to from) =
      stays-if (is_cleared arithmetic to from) _ _ (finished-stays width (OfSlot to) _ f s m)
      (stays-then _ _ (taken-stays width f s m from _ (number-is width _))
      (λ it. concluded-stays arithmetic width (OfSlot to) _ f s m))
  compute-stays arithmetic width f s m (IntoMemory to from) =
      stays-then _ _ (taken-stays width f s m (InMemory to) _ (number-is width _))
      (λ it. concluded-stays arithmetic width it.slot _ f s m)
  compute-stays arithmetic width f s m (Immediate to) = number-stays arithmetic width f.immediate_field f s m to

  -- %rsp as a number, and the word that stands at a place
  stack-stays : (s : State W F) → Stays (clean s.place (ops.number_of s.registers.rsp))
  stack-stays s = stays-clean s.place _ (always.number_of s.registers.rsp)

  word-stays : (s : State W F) (m : M) (place : ℕ) → Stays (there s.place (load_of ops acc m place 8))
  word-stays s m place = stays-there s.place (load_of ops acc m place 8)

  pushed-stays : (stack : ℕ) (w : W) (s : State W F) (m : M) → Stays (pushed ops acc stack w s m)
  unfolding pushed
  pushed-stays stack w s m =
      stays-then _ _ (stays-there s.place (store_of ops acc m (plus stack (2 ^ 64 - 8)) 8 w)) (λ after. tt)

  call-stays : (f : Frame) (s : State W F) (m : M) (target : Target) → Stays (call_of ops acc f s m target)
  unfolding call_of
  call-stays f s m (Relative distance) =
      stays-then _ _ (stack-stays s) (λ stack. stays-then _ _ (pushed-stays stack _ s m) (λ after. tt))
  call-stays f s m (Indirect operand) =
      stays-then _ _ (taken-stays Quad f s m operand _ (always.number_of s.registers.rsp))
      (λ it. stays-then _ _ (pushed-stays it.other _ s m) (λ after. tt))

  nop_use-is : (f : Frame) (s : State W F) (field : Option ℕ) (operand : Option Operand)
      → IsUsed (nop_use ops f s field operand)
  nop_use-is f s (Some at) (Some (InMemory operand)) = address-is f s operand
  nop_use-is f s (Some at) (Some (InRegister name)) = tt
  nop_use-is f s (Some at) None = tt
  nop_use-is f s None (Some (InMemory operand)) = tt
  nop_use-is f s None (Some (InRegister name)) = tt
  nop_use-is f s None None = tt

  pub act-stays : (f : Frame) (operation : Operation) (s : State W F) (m : M) → Stays (act ops acc f operation s m)
  unfolding act store_byte extend_long load_address test_of multiply_of shift_of push_of pop_of leave_of return_of jump_of jump_if nop_of
  act-stays f (Move width operands) s m = move-stays width f s m operands
  act-stays f (StoreByte to from) s m = stored-stays 1 f s m to _
  act-stays f (ExtendByte width to from) s m = extend_byte-stays f s m to from
  act-stays f (ExtendLong to from) s m = stays-then _ _ (carried-stays Long f s m from) (λ word. tt)
  act-stays f (LoadAddress width to from) s m =
      stays-then _ _ (stays-clean s.place _ (address-is f s from)) (λ place. tt)
  act-stays f (Compute arithmetic width operands) s m = compute-stays arithmetic width f s m operands
  act-stays f (Test width from right) s m =
      stays-then _ _ (taken-stays width f s m from _ (number-is width _)) (λ it. tt)
  act-stays f (Multiply width to from) s m =
      stays-then _ _ (taken-stays width f s m from _ (number-is width _))
      (λ it. finished-stays width (OfSlot to) _ f s m)
  act-stays f (ShiftBy shift width to count) s m =
      stays-then _ _ (taken-stays width f s m to (Ok 0) tt) (λ it. finished-stays width it.slot _ f s m)
  act-stays f (Push from) s m =
      stays-then _ _ (stack-stays s) (λ stack. stays-then _ _ (pushed-stays stack _ s m) (λ after. tt))
  act-stays f (Pop to) s m =
      stays-then _ _ (stack-stays s) (λ stack. stays-then _ _ (word-stays s m stack) (λ word. tt))
  act-stays f Leave s m =
      stays-then _ _ (stays-clean s.place _ (always.number_of s.registers.rbp))
      (λ base. stays-then _ _ (word-stays s m base) (λ word. tt))
  act-stays f (Call target) s m = call-stays f s m target
  act-stays f (Jump (Relative distance)) s m = tt
  act-stays f (Jump (Indirect operand)) s m = stays-then _ _ (taken-stays Quad f s m operand (Ok 0) tt) (λ it. tt)
  act-stays f (JumpIf condition distance) s m =
      stays-then _ _ (stays-clean s.place _ (condition-is condition s.flags)) (λ holds. tt)
  act-stays f Return s m =
      stays-then _ _ (stack-stays s)
      (λ stack. stays-then _ _ (word-stays s m stack)
      (λ word. stays-then _ _ (stays-clean s.place _ (always.number_of word)) (λ place. tt)))
  act-stays f (Nop operand) s m =
      stays-then _ _ (stays-clean s.place _ (nop_use-is f s f.displacement_field operand)) (λ unused. tt)
  act-stays f Undefined s m = tt

  act_if-stays : (is_field : ℕ → Bool) (it : Option Decoded) (s : State W F) (m : M)
      → Stays (act_if ops acc is_field it s m)
  act_if-stays is_field None s m = tt
  act_if-stays is_field (Some it) s m = act-stays (frame_of is_field s.place it) it.instr.operation s m

  pub step-stays : (is_field : ℕ → Bool) (s : State W F) (m : M) → Stays (step_of ops acc is_field s m)
  unfolding step_of
  step-stays is_field s m = act_if-stays is_field (decoded (fetch_of acc m s.place)) s m

  pub return-stays : (s : State W F) (m : M) → Stays (return_of ops acc s m)
  unfolding return_of
  return-stays s m =
      stays-then _ _ (stack-stays s)
      (λ stack. stays-then _ _ (word-stays s m stack)
      (λ word. stays-then _ _ (stays-clean s.place _ (always.number_of word)) (λ place. tt)))
