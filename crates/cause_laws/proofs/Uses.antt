-- The cause of an instruction is the first one of the words and flags that it computes with.
use Rattle.std.proofs.Common.{◌≡◌, ℕ, Bool, true, false, List, [], ◌∷◌, ◌++◌, map, Option, Some, None, Result, Ok, Err}
use Rattle.std.proofs.Common.{refl, sym, ap, subst, ◌∙◌, append-nil}
use Rattle.std.specs.Prelude.{if◌then◌else◌, ◌||◌}
use Rattle.std.specs.List.{list_any}
use Rattle.std.proofs.lemmas.List.Folds.{list_any-append}
use Rattle.amd64_words.specs.declared.register.Register.{Register}
use Rattle.amd64_subset.specs.declared.instr.Arithmetic.{Arithmetic}
use Rattle.amd64_subset.specs.declared.instr.Arithmetic.TheVariants.{Add, Or, And, Sub, Xor, Compare}
use Rattle.amd64_subset.specs.declared.instr.Condition.{Condition}
use Rattle.amd64_subset.specs.declared.instr.Condition.TheVariants as condition
use Rattle.amd64_subset.specs.declared.instr.Operation.{Operation}
use Rattle.amd64_subset.specs.declared.instr.Operation.TheVariants.{Move, StoreByte, ExtendByte, ExtendLong}
use Rattle.amd64_subset.specs.declared.instr.Operation.TheVariants.{LoadAddress, Compute, Test, Multiply}
use Rattle.amd64_subset.specs.declared.instr.Operation.TheVariants.{Shift as ShiftBy, Push, Pop, Leave, Call, Jump}
use Rattle.amd64_subset.specs.declared.instr.Operation.TheVariants.{JumpIf, Return, Nop, Undefined}
use Rattle.amd64_subset.specs.declared.instr.Target.TheVariants.{Relative, Indirect}
use Rattle.amd64_subset.specs.declared.instr.Width.{Width}
use Rattle.amd64_subset.specs.declared.instr.Width.TheVariants.{Long as LongWidth, Quad as QuadWidth}
use Rattle.amd64_subset.specs.declared.operand.Memory.{Memory}
use Rattle.amd64_subset.specs.declared.operand.Operand.{Operand}
use Rattle.amd64_subset.specs.declared.operand.Operand.TheVariants.{InMemory, Register as InRegister}
use Rattle.amd64_subset.specs.declared.operand.Operands.TheVariants.{IntoRegister, IntoMemory, Immediate}
use Rattle.guest_arithmetic.specs.declared.cause.Cause.{Cause}
use Rattle.guest_arithmetic.specs.declared.effect.Effect.{Effect}
use Rattle.guest_arithmetic.specs.declared.flags.Flags.{Flags}
use Rattle.guest_arithmetic.specs.Cause.{both, cause_with, used}
use Rattle.guest_arithmetic.specs.Flags.{condition_of, is_below_or_equal, is_less, is_less_or_equal}
use Rattle.guest_operands.specs.declared.frame.Frame.{Frame}
use Rattle.guest_operands.specs.declared.slot.Slot.{Slot}
use Rattle.guest_operands.specs.declared.slot.Slot.TheVariants.{Place, Register as OfSlot}
use Rattle.guest_operands.specs.declared.state.State.{State}
use Rattle.guest_operands.specs.declared.stop.Stop.{Stop}
use Rattle.guest_operands.specs.declared.stop.Stop.TheVariants.{Returned, Look, Address, Code, Unclean, Steps}
use Rattle.guest_operands.specs.Access.{Accesses, Refusal, Refused, Shut, load_of, store_of}
use Rattle.guest_operands.specs.Operand.{address_of, carried, number_at, put, size_of, taken, taken_at, weighed}
use Rattle.guest_operands.specs.State.{at_place, register_of, with_stack}
use Rattle.guest_operands.specs.Use.{◌>>=◌, clean, left, plus, refused_with, there}
use Rattle.guest_machine.specs.Step.{immediate_of, finished, concluded, move_in, stored, store_byte, move_number}
use Rattle.guest_machine.specs.Step.{move_of, extend_byte, extend_long, load_address, is_cleared}
use Rattle.guest_machine.specs.Step.{compute_in, compute_plain, compute_number, compute_of, test_of, multiply_of}
use Rattle.guest_machine.specs.Step.{shift_of, pushed, push_of, pop_of, leave_of, return_of, call_of, jump_of, jump_if}
use Rattle.guest_machine.specs.Step.{nop_of, nop_use, act}
use Rattle.job_meaning.specs.declared.values.Byte.{Byte}
use Rattle.job_meaning.specs.declared.values.Flag.{Flag}
use Rattle.job_meaning.specs.declared.values.Flag.TheVariants.{Truth, Unsettled}
use Rattle.job_meaning.specs.declared.values.Token.TheVariants.{Base as BaseOf, Descriptor}
use Rattle.job_meaning.specs.declared.values.Word.{Word}
use Rattle.job_meaning.specs.declared.values.Word.TheVariants.{Number, Undefined as UndefinedWord, Marked}
use Rattle.job_meaning.specs.Marked.{marked_operations, used_number, used_truth}
use Rattle.whole_meaning.specs.Threads.{ops}
use Rattle.step_laws.specs.Reads.{flags_read, in_condition}
use Rattle.cause_laws.specs.Instructions.{is_nop, is_zeroing, memory_if, memory_of, operand_of, registers_in}
use Rattle.cause_laws.specs.Instructions.{registers_used}
use Rattle.cause_laws.specs.Rows.{is_base, is_descriptor, is_undefined}
use Rattle.cause_laws.specs.Steps.{word_in}
use Rattle.cause_laws.proofs.Picks.{earlier, earlier-none, pick, pick-append, word_cause}
use Rattle.amd64_words.specs.RegisterLaws.{told_by_number}

-- ** causes of uses

abbrev pub cause_of : {A : Type 0} → Result A Cause → Option Cause
cause_of (Ok x) = None
cause_of (Err why) = Some why

both-cause : {A C : Type 0} (a : Result A Cause) (c : Result C Cause)
    → cause_of (both a c) ≡ earlier (cause_of a) (cause_of c)
both-cause (Ok a) (Ok c) = refl
both-cause (Ok a) (Err why) = refl
both-cause (Err why) (Ok c) = refl
both-cause (Err why) (Err other) = refl

used-cause : {A C : Type 0} (f : A → C) (r : Result A Cause) → cause_of (used f r) ≡ cause_of r
used-cause f (Ok x) = refl
used-cause f (Err why) = refl

number-cause : (w : Word) → cause_of (used_number w) ≡ word_cause (w ∷ [])
number-cause (Number n) = refl
number-cause UndefinedWord = refl
number-cause (Marked (BaseOf block)) = refl
number-cause (Marked (Descriptor instance symbol)) = refl

register-cause : (width : Width) (w : Word) → cause_of (number_at ops width w) ≡ word_cause (w ∷ [])
unfolding number_at marked_operations
register-cause width w = used-cause _ (used_number w) ∙ number-cause w

or-swapped : (a b : Bool) → (a || b) ≡ (b || a)
or-swapped true true = refl
or-swapped true false = refl
or-swapped false true = refl
or-swapped false false = refl

pub swapped : (ws ws' : List Word) → word_cause (ws ++ ws') ≡ word_cause (ws' ++ ws)
swapped ws ws' = rw (
  list_any-append is_undefined ws ws',
  list_any-append is_base ws ws',
  list_any-append is_descriptor ws ws',
  list_any-append is_undefined ws' ws,
  list_any-append is_base ws' ws,
  list_any-append is_descriptor ws' ws,
  or-swapped (list_any is_undefined ws) (list_any is_undefined ws'),
  or-swapped (list_any is_base ws) (list_any is_base ws'),
  or-swapped (list_any is_descriptor ws) (list_any is_descriptor ws'),
) refl

-- ** conditions

two-flags : (f g : Flag) → cause_of (both (used_truth f) (used_truth g)) ≡ pick [] (f ∷ g ∷ [])
two-flags (Truth a) (Truth b) = refl
two-flags (Truth a) Unsettled = refl
two-flags Unsettled (Truth b) = refl
two-flags Unsettled Unsettled = refl

one-flag : (f : Flag) → cause_of (used_truth f) ≡ pick [] (f ∷ [])
one-flag (Truth a) = refl
one-flag Unsettled = refl

three-flags : (f g h : Flag) (join : Bool × Bool → Bool)
    → cause_of (both (used_truth f) (used join (both (used_truth g) (used_truth h)))) ≡ pick [] (f ∷ g ∷ h ∷ [])
three-flags (Truth a) (Truth b) (Truth c) join = refl
three-flags (Truth a) (Truth b) Unsettled join = refl
three-flags (Truth a) Unsettled (Truth c) join = refl
three-flags (Truth a) Unsettled Unsettled join = refl
three-flags Unsettled (Truth b) (Truth c) join = refl
three-flags Unsettled (Truth b) Unsettled join = refl
three-flags Unsettled Unsettled (Truth c) join = refl
three-flags Unsettled Unsettled Unsettled join = refl

condition-cause : (c : Condition) (flags : Flags Flag)
    → cause_of (condition_of ops c flags) ≡ pick [] (in_condition c flags)
unfolding condition_of is_less is_less_or_equal is_below_or_equal marked_operations
condition-cause condition.Overflow flags = one-flag flags.overflow
condition-cause condition.NotOverflow flags = used-cause _ (used_truth flags.overflow) ∙ one-flag flags.overflow
condition-cause condition.Below flags = one-flag flags.carry
condition-cause condition.NotBelow flags = used-cause _ (used_truth flags.carry) ∙ one-flag flags.carry
condition-cause condition.Equal flags = one-flag flags.zero
condition-cause condition.NotEqual flags = used-cause _ (used_truth flags.zero) ∙ one-flag flags.zero
condition-cause condition.BelowOrEqual flags = used-cause _ _ ∙ two-flags flags.carry flags.zero
condition-cause condition.Above flags = used-cause _ _ ∙ (used-cause _ _ ∙ two-flags flags.carry flags.zero)
condition-cause condition.Sign flags = one-flag flags.sign
condition-cause condition.NotSign flags = used-cause _ (used_truth flags.sign) ∙ one-flag flags.sign
condition-cause condition.Less flags = used-cause _ _ ∙ two-flags flags.sign flags.overflow
condition-cause condition.NotLess flags = used-cause _ _ ∙ (used-cause _ _ ∙ two-flags flags.sign flags.overflow)
condition-cause condition.LessOrEqual flags = used-cause _ _ ∙ three-flags flags.zero flags.sign flags.overflow _
condition-cause condition.Greater flags = used-cause _ _
    ∙ (used-cause _ _ ∙ three-flags flags.zero flags.sign flags.overflow _)

-- ** what a step tells

-- a step by the instruction at a place is unclean for this cause, or it is not
abbrev pub TellsStop : ℕ → Stop → Option Cause → Type 0
TellsStop here (Returned number) c = c ≡ None
TellsStop here (Look place) c = c ≡ None
TellsStop here (Address place) c = c ≡ None
TellsStop here (Code place) c = c ≡ None
TellsStop here (Unclean at why) c = (at ≡ here) × (c ≡ Some why)
TellsStop here (Steps place) c = c ≡ None

abbrev pub Tells : {A : Type 0} → ℕ → Result A Stop → Option Cause → Type 0
Tells here (Ok x) c = c ≡ None
Tells here (Err stop) c = TellsStop here stop c

abbrev pub NotShut : {A : Type 0} → Result A Refusal → Type 0
NotShut (Ok x) = Unit {0}
NotShut (Err Refused) = Unit {0}
NotShut (Err Shut) = ⊥

clean-tells : {A : Type 0} (here : ℕ) (r : Result A Cause) (c : Option Cause) → cause_of r ≡ c
    → Tells here (clean here r) c
clean-tells here (Ok x) c e = sym e
clean-tells here (Err why) c e = (refl, sym e)

there-tells : {A : Type 0} (here : ℕ) (r : Result A Refusal) → NotShut r → Tells here (there here r) None
there-tells here (Ok x) h = refl
there-tells here (Err Refused) h = refl
there-tells here (Err Shut) h = absurd h

then-tells : {A C : Type 0} (here : ℕ) (r : Result A Stop) (c : Option Cause) (k : A → Result C Stop) → Tells here r c
    → ((x : A) → Tells here (k x) None) → Tells here (r >>= k) c
then-tells here (Ok x) c k h g = subst (λ (o : Option Cause). Tells here (k x) o) (sym h) (g x)
then-tells here (Err stop) c k h g = h

-- a load, and then a use of its word
pub loaded-tells : {C : Type 0} (here : ℕ) (r : Result Word Refusal) (k : Word → Result C Stop) → NotShut r
    → ((w : Word) → Tells here (k w) (word_cause (w ∷ []))) → Tells here (there here r >>= k) (word_cause (word_in r))
loaded-tells here (Ok w) k h g = g w
loaded-tells here (Err Refused) k h g = refl
loaded-tells here (Err Shut) k h g = absurd h

module _ {M : Type 0} (acc : Accesses M Byte) (f : Frame) (state : State Word Flag) (m : M) (aw : Memory → List Word)
    (no-field : f.immediate_field ≡ None)
    (open_load : (place size : ℕ) → NotShut (load_of ops acc m place size))
    (open_store : (place size : ℕ) (word : Word) → NotShut (store_of ops acc m place size word)) where
  abbrev value : Register → Word
  value register = register_of state.registers register

  abbrev Stepped : {A : Type 0} → Result A Stop → Option Cause → Type 0
  Stepped r c = Tells state.place r c

  -- ** an operand

  abbrev Fits : Memory → Type 0
  Fits memory = cause_of (address_of ops f state memory) ≡ word_cause (aw memory)

  abbrev FitsOperand : Operand → Type 0
  FitsOperand operand = (memory : Memory) → memory_of operand ≡ Some memory → Fits memory

  -- the word at an address, if there is one
  abbrev pub at_address : ℕ → Result ℕ Cause → List Word
  at_address size (Ok place) = word_in (load_of ops acc m place size)
  at_address size (Err why) = []

  abbrev pub loaded_of : ℕ → Operand → List Word
  loaded_of size (InRegister register) = []
  loaded_of size (InMemory memory) = at_address size (address_of ops f state memory)

  abbrev pub words_in : Operand → List Word
  words_in (InRegister register) = []
  words_in (InMemory memory) = aw memory

  -- all words of an operand that is computed with
  abbrev pub all_of : ℕ → Operand → List Word
  all_of size operand = map value (registers_in operand) ++ (words_in operand ++ loaded_of size operand)

  carried-tells : (width : Width) (operand : Operand) → FitsOperand operand
      → Stepped (carried ops acc width f state m operand) (word_cause (words_in operand))
  unfolding carried
  carried-tells width (InRegister register) fits = refl
  carried-tells width (InMemory memory) fits =
      then-tells state.place _ _ _ (clean-tells state.place _ _ (fits memory refl))
      (λ place. there-tells state.place _ (open_load place (size_of width)))

  refused-tells : {A : Type 0} (other : Result A Cause) (ws : List Word) → cause_of other ≡ word_cause ws
      → TellsStop state.place (refused_with state.place Refused other) (word_cause ws)
  refused-tells (Ok x) ws e = sym e
  refused-tells (Err why) ws e = (refl, sym e)

  with-cause : {A : Type 0} (why : Cause) (other : Result A Cause) (ws ws' : List Word) → Some why ≡ word_cause ws
      → cause_of other ≡ word_cause ws' → Some (cause_with why other) ≡ word_cause (ws ++ ws')
  with-cause why (Ok x) ws ws' e g = e
      ∙ (sym (earlier-none (word_cause ws)) ∙ (ap (earlier (word_cause ws)) g ∙ sym (pick-append ws ws')))
  with-cause why (Err other) ws ws' e g =
      ap (λ (o : Option Cause). earlier o (Some other)) e ∙ (ap (earlier (word_cause ws)) g ∙ sym (pick-append ws ws'))

  both-list : {A C : Type 0} (a : Result A Cause) (c : Result C Cause) (ws ws' : List Word) → cause_of a ≡ word_cause ws
      → cause_of c ≡ word_cause ws' → cause_of (both a c) ≡ word_cause (ws' ++ ws)
  both-list a c ws ws' e g =
      both-cause a c ∙ (ap (λ (o : Option Cause). earlier o (cause_of c)) e ∙ (ap (earlier (word_cause ws)) g
      ∙ (sym (pick-append ws ws') ∙ swapped ws ws')))

  -- where the address has no cause
  without : (ws A bs : List Word) → word_cause A ≡ None → word_cause (ws ++ (A ++ bs)) ≡ word_cause (ws ++ bs)
  without ws A bs e = pick-append ws (A ++ bs) ∙ (ap (earlier (word_cause ws)) (pick-append A bs
      ∙ ap (λ (o : Option Cause). earlier o (word_cause bs)) e) ∙ sym (pick-append ws bs))

  told : {A : Type 0} (r : Result A Stop) (c c' : Option Cause) → c ≡ c' → Stepped r c → Stepped r c'
  told r c c' e h = subst (λ (o : Option Cause). Stepped r o) e h

  weighed-tells : (width : Width) (place : ℕ) (r : Result Word Refusal) (other : Result ℕ Cause) (ws A : List Word)
      → NotShut r
      → word_cause A ≡ None → cause_of other ≡ word_cause ws
      → Stepped (weighed ops acc width state.place r other) (word_cause (ws ++ (A ++ word_in r)))
  weighed-tells width place (Ok w) other ws A h none e =
      told _ _ _ (sym (without ws A (w ∷ []) none))
      (clean-tells state.place _ _ (both-list _ other (w ∷ []) ws (register-cause width w) e))
  weighed-tells width place (Err Refused) other ws A h none e =
      told {A = ℕ × ℕ} (Err (refused_with state.place Refused other)) _ _
      (sym (without ws A [] none ∙ ap word_cause (append-nil ws))) (refused-tells other ws e)
  weighed-tells width place (Err Shut) other ws A h none e = absurd h

  at-tells : (width : Width) (r : Result ℕ Cause) (other : Result ℕ Cause) (ws A : List Word)
      → cause_of r ≡ word_cause A
      → cause_of other ≡ word_cause ws
      → Stepped (taken_at ops acc width state.place m r other) (word_cause (ws ++ (A ++ at_address (size_of width) r)))
  unfolding taken_at
  at-tells width (Ok place) other ws A fits e =
      then-tells state.place _ _ _
      (weighed-tells width place _ other ws A (open_load place (size_of width)) (sym fits) e)
      (λ parts. refl)
  at-tells width (Err why) other ws A fits e = (
    refl,
    sym (with-cause why other A ws fits e
        ∙ (swapped A ws ∙ ap (λ (l : List Word). word_cause (ws ++ l)) (sym (append-nil A)))),
  )

  taken-tells : (width : Width) (operand : Operand) (other : Result ℕ Cause) (ws : List Word) → FitsOperand operand
      → cause_of other ≡ word_cause ws
      → Stepped (taken ops acc width f state m operand other) (word_cause (ws ++ all_of (size_of width) operand))
  unfolding taken
  taken-tells width (InRegister register) other ws fits e =
      then-tells state.place _ _ _ (clean-tells state.place _ _
      (both-list _ other (value register ∷ []) ws (register-cause width (value register)) e)) (λ parts. refl)
  taken-tells width (InMemory memory) other ws fits e =
      at-tells width (address_of ops f state memory) other ws (aw memory) (fits memory refl) e

  -- ** what is written

  put-tells : (width : Width) (slot : Slot) (word : Word) → Stepped (put ops acc width slot word state m) None
  unfolding put
  put-tells width (OfSlot register) word = refl
  put-tells width (Place place) word =
      then-tells state.place _ _ _ (there-tells state.place _ (open_store place (size_of width) word)) (λ after. refl)

  finished-tells : (width : Width) (slot : Slot) (effect : Effect)
      → Stepped (finished ops acc width slot effect f state m) None
  unfolding finished
  finished-tells width slot effect = then-tells state.place _ _ _ (put-tells width slot _) (λ after. refl)

  concluded-tells : (arithmetic : Arithmetic) (width : Width) (slot : Slot) (effect : Effect)
      → Stepped (concluded ops acc arithmetic width slot effect f state m) None
  unfolding concluded
  concluded-tells Compare width slot effect = refl
  concluded-tells Add width slot effect = finished-tells width slot effect
  concluded-tells Or width slot effect = finished-tells width slot effect
  concluded-tells And width slot effect = finished-tells width slot effect
  concluded-tells Sub width slot effect = finished-tells width slot effect
  concluded-tells Xor width slot effect = finished-tells width slot effect

  stored-tells : (size : ℕ) (to : Memory) (word : Word) → Fits to
      → Stepped (stored ops acc size f state m to word) (word_cause (aw to))
  unfolding stored
  stored-tells size to word fits =
      then-tells state.place _ _ _ (clean-tells state.place _ _ fits)
      (λ place. then-tells state.place _ _ _ (there-tells state.place _ (open_store place size word)) (λ after. refl))

  pushed-tells : (stack : ℕ) (word : Word) → Stepped (pushed ops acc stack word state m) None
  unfolding pushed
  pushed-tells stack word =
      then-tells state.place _ _ _ (there-tells state.place _ (open_store _ 8 word)) (λ after. refl)

  immediate-cause : (width : Width) (o : Option ℕ) → o ≡ None → cause_of (immediate_of ops width o f.immediate) ≡ None
  unfolding immediate_of
  immediate-cause width None e = refl
  immediate-cause width (Some at) e = absurd cc

  -- ** each instruction

  abbrev pub loaded_by : Operation → List Word
  loaded_by (Compute arithmetic width (IntoRegister to from)) = loaded_of (size_of width) from
  loaded_by (Compute arithmetic width (IntoMemory to from)) = loaded_of (size_of width) (InMemory to)
  loaded_by (Compute arithmetic width (Immediate to)) = loaded_of (size_of width) to
  loaded_by (Test width left right) = loaded_of (size_of width) left
  loaded_by (Multiply width to from) = loaded_of (size_of width) from
  loaded_by (ShiftBy shift width to count) = loaded_of (size_of width) to
  loaded_by (Call (Indirect operand)) = loaded_of 8 operand
  loaded_by (Jump (Indirect operand)) = loaded_of 8 operand
  loaded_by Return = at_address 8 (used_number state.registers.rsp)
  loaded_by operation = []

  abbrev pub aw_if : Bool → Option Memory → List Word
  aw_if nop None = []
  aw_if true (Some memory) = []
  aw_if false (Some memory) = aw memory

  abbrev pub FitsAll : Operation → Type 0
  FitsAll op = (memory : Memory) → operand_of op ≡ Some memory → Fits memory

  abbrev pub all_words : Operation → List Word
  all_words op = map value (registers_used op) ++ (aw_if (is_nop op) (operand_of op) ++ loaded_by op)

  abbrev Told : Operation → Type 0
  Told op = Stepped (act ops acc f op state m) (word_cause (all_words op))

  -- the words of an operand that is moved
  moved-is : (operand : Operand) → words_in operand ≡ aw_if false (memory_of operand) ++ []
  moved-is (InRegister register) = refl
  moved-is (InMemory memory) = sym (append-nil (aw memory))

  all-is : (size : ℕ) (operand : Operand)
      → all_of size operand
      ≡ map value (registers_in operand) ++ (aw_if false (memory_of operand) ++ loaded_of size operand)
  all-is size (InRegister register) = refl
  all-is size (InMemory memory) = refl

  move-into : (width : Width) (to : Register) (from : Operand) → FitsOperand from
      → Stepped (move_in ops acc width f state m to from)
      (word_cause (aw_if false (memory_of from) ++ []))
  unfolding move_in
  move-into width to from fits = told _ _ _ (ap word_cause (moved-is from))
      (then-tells state.place _ _ _ (carried-tells width from fits) (λ word. refl))

  move-number-tells : (width : Width) (to : Operand) → FitsOperand to
      → Stepped (move_number ops acc width f state m to) (word_cause (aw_if false (memory_of to) ++ []))
  unfolding move_number
  move-number-tells width (InRegister to) fits =
      then-tells state.place _ _ _ (clean-tells state.place _ _ (immediate-cause width f.immediate_field no-field))
      (λ number. refl)
  move-number-tells width (InMemory to) fits =
      first-clean (immediate_of ops width f.immediate_field f.immediate)
      (immediate-cause width f.immediate_field no-field)
    where
      first-clean : (r : Result ℕ Cause) → cause_of r ≡ None
          → Stepped (clean state.place r >>= (λ number. stored ops acc (size_of width) f state m to (ops.word number)))
          (word_cause (aw to ++ []))
      first-clean (Ok number) e =
          told _ _ _ (ap word_cause (sym (append-nil (aw to))))
          (stored-tells (size_of width) to (ops.word number) (fits to refl))
      first-clean (Err why) e = absurd cc

  zeroing-is : (arithmetic : Arithmetic) (to : Register) (from : Operand)
      → is_cleared arithmetic to from ≡ is_zeroing arithmetic to from
  unfolding is_cleared
  zeroing-is Sub to (InRegister from) = told_by_number to from
  zeroing-is Sub to (InMemory from) = refl
  zeroing-is Xor to (InRegister from) = told_by_number to from
  zeroing-is Xor to (InMemory from) = refl
  zeroing-is Add to from = refl
  zeroing-is Or to from = refl
  zeroing-is And to from = refl
  zeroing-is Compare to from = refl

  into-register : (arithmetic : Arithmetic) (width : Width) (to : Register) (from : Operand) → FitsOperand from
      → (b : Bool)
      → is_zeroing arithmetic to from ≡ b
      → Stepped (compute_in ops acc arithmetic width f state m to from)
      (word_cause (map value (if b then [] else to ∷ registers_in from) ++
      (aw_if false (memory_of from) ++ loaded_of (size_of width) from)))
  unfolding compute_in
  into-register arithmetic width to (InRegister from) fits true e =
      rw (zeroing-is arithmetic to (InRegister from), e) (finished-tells width (OfSlot to) _)
  into-register arithmetic width to (InMemory from) fits true e = absurd (never arithmetic e)
    where
      never : (arithmetic : Arithmetic) → is_zeroing arithmetic to (InMemory from) ≡ true → ⊥
      never Sub e = absurd cc
      never Xor e = absurd cc
      never Add e = absurd cc
      never Or e = absurd cc
      never And e = absurd cc
      never Compare e = absurd cc
  into-register arithmetic width to from fits false e =
      rw (zeroing-is arithmetic to from, e)
      (then-tells state.place _ _ _
      (told _ _ _ (ap (λ (l : List Word). word_cause (value to ∷ l)) (all-is (size_of width) from))
      (taken-tells width from _ (value to ∷ []) fits (register-cause width (value to))))
      (λ it. concluded-tells arithmetic width (OfSlot to) _))

  into-memory : (arithmetic : Arithmetic) (width : Width) (to : Memory) (from : Register) → Fits to
      → Stepped (compute_of ops acc arithmetic width f state m (IntoMemory to from))
      (word_cause (value from ∷ (aw to ++ loaded_of (size_of width) (InMemory to))))
  unfolding compute_of
  into-memory arithmetic width to from fits =
      then-tells state.place _ _ _ (taken-tells width (InMemory to) _ (value from ∷ [])
      (λ memory e. let is : to ≡ memory = cc in subst Fits is fits) (register-cause width (value from)))
      (λ it. concluded-tells arithmetic width it.slot _)

  with-number : (arithmetic : Arithmetic) (width : Width) (to : Operand) → FitsOperand to
      → Stepped (compute_plain ops acc arithmetic width None f state m to) (word_cause (all_of (size_of width) to))
  unfolding compute_plain
  with-number arithmetic width to fits =
      then-tells state.place _ _ _ (taken-tells width to _ [] fits (immediate-cause width None refl))
      (λ it. concluded-tells arithmetic width it.slot _)

  number-plain : (arithmetic : Arithmetic) (width : Width) (o : Option ℕ) (to : Operand) → o ≡ None
      → compute_number ops acc arithmetic width o f state m to
      ≡ compute_plain ops acc arithmetic width None f state m to
  unfolding compute_number
  number-plain Add LongWidth None to e = refl
  number-plain Add QuadWidth None to e = refl
  number-plain Or width None to e = refl
  number-plain And width None to e = refl
  number-plain Sub width None to e = refl
  number-plain Xor width None to e = refl
  number-plain Compare width None to e = refl
  number-plain arithmetic width (Some at) to e = absurd cc

  number-tells : (arithmetic : Arithmetic) (width : Width) (to : Operand) → FitsOperand to
      → Stepped (compute_number ops acc arithmetic width f.immediate_field f state m to)
      (word_cause (map value (registers_in to) ++ (aw_if false (memory_of to) ++ loaded_of (size_of width) to)))
  number-tells arithmetic width to fits =
      rw (number-plain arithmetic width f.immediate_field to no-field)
      (told _ _ _ (ap word_cause (all-is (size_of width) to)) (with-number arithmetic width to fits))

  byte-tells : (to : Memory) (from : Register) → Fits to
      → Stepped (store_byte ops acc f state m to from) (word_cause (aw to ++ []))
  unfolding store_byte
  byte-tells to from fits = told _ _ _ (ap word_cause (sym (append-nil (aw to)))) (stored-tells 1 to _ fits)

  extend-byte-tells : (to : Register) (from : Operand) → FitsOperand from
      → Stepped (extend_byte ops acc f state m to from)
      (word_cause (aw_if false (memory_of from) ++ []))
  unfolding extend_byte
  extend-byte-tells to (InRegister from) fits = refl
  extend-byte-tells to (InMemory from) fits = told _ _ _ (ap word_cause (sym (append-nil (aw from))))
      (then-tells state.place _ _ _ (clean-tells state.place _ _ (fits from refl))
      (λ place. then-tells state.place _ _ _ (there-tells state.place _ (open_load place 1)) (λ word. refl)))

  extend-long-tells : (to : Register) (from : Operand) → FitsOperand from
      → Stepped (extend_long ops acc f state m to from)
      (word_cause (aw_if false (memory_of from) ++ []))
  unfolding extend_long
  extend-long-tells to from fits = told _ _ _ (ap word_cause (moved-is from))
      (then-tells state.place _ _ _ (carried-tells LongWidth from fits) (λ word. refl))

  address-tells : (width : Width) (to : Register) (from : Memory) → Fits from
      → Stepped (load_address ops acc width f state m to from)
      (word_cause (aw from ++ []))
  unfolding load_address
  address-tells width to from fits = told _ _ _ (ap word_cause (sym (append-nil (aw from))))
      (then-tells state.place _ _ _ (clean-tells state.place _ _ fits) (λ place. refl))

  test-tells : (width : Width) (left : Operand) (right : Register) → FitsOperand left
      → Stepped (test_of ops acc width f state m left right)
      (word_cause (value right ∷
      (map value (registers_in left) ++ (aw_if false (memory_of left) ++ loaded_of (size_of width) left))))
  unfolding test_of
  test-tells width left right fits =
      then-tells state.place _ _ _
      (told _ _ _ (ap (λ (l : List Word). word_cause (value right ∷ l)) (all-is (size_of width) left))
      (taken-tells width left _ (value right ∷ []) fits (register-cause width (value right)))) (λ it. refl)

  multiply-tells : (width : Width) (to : Register) (from : Operand) → FitsOperand from
      → Stepped (multiply_of ops acc width f state m to from)
      (word_cause (value to ∷
      (map value (registers_in from) ++ (aw_if false (memory_of from) ++ loaded_of (size_of width) from))))
  unfolding multiply_of
  multiply-tells width to from fits =
      then-tells state.place _ _ _
      (told _ _ _ (ap (λ (l : List Word). word_cause (value to ∷ l)) (all-is (size_of width) from))
      (taken-tells width from _ (value to ∷ []) fits (register-cause width (value to))))
      (λ it. finished-tells width (OfSlot to) _)

  shift-tells : (shift : _) (width : Width) (to : Operand) (count : ℕ) → FitsOperand to
      → Stepped (shift_of ops acc shift width f state m to count)
      (word_cause (map value (registers_in to) ++ (aw_if false (memory_of to) ++ loaded_of (size_of width) to)))
  unfolding shift_of
  shift-tells shift width to count fits =
      then-tells state.place _ _ _ (told _ _ _ (ap word_cause (all-is (size_of width) to))
      (taken-tells width to (Ok 0) [] fits refl)) (λ it. finished-tells width it.slot _)

  stack-cause : cause_of (ops.number_of state.registers.rsp) ≡ word_cause (state.registers.rsp ∷ [])
  unfolding marked_operations
  stack-cause = number-cause state.registers.rsp

  push-tells : (from : Register) → Stepped (push_of ops acc f state m from) (word_cause (state.registers.rsp ∷ []))
  unfolding push_of
  push-tells from = then-tells state.place _ _ _ (clean-tells state.place _ _ stack-cause)
      (λ stack. then-tells state.place _ _ _ (pushed-tells stack _) (λ after. refl))

  pop-tells : (to : Register) → Stepped (pop_of ops acc f state m to) (word_cause (state.registers.rsp ∷ []))
  unfolding pop_of
  pop-tells to = then-tells state.place _ _ _ (clean-tells state.place _ _ stack-cause)
      (λ stack. then-tells state.place _ _ _ (there-tells state.place _ (open_load stack 8)) (λ word. refl))

  leave-tells : Stepped (leave_of ops acc f state m) (word_cause (state.registers.rbp ∷ []))
  unfolding leave_of marked_operations
  leave-tells = then-tells state.place _ _ _ (clean-tells state.place _ _ (number-cause state.registers.rbp))
      (λ base. then-tells state.place _ _ _ (there-tells state.place _ (open_load base 8)) (λ word. refl))

  return-tells : Stepped (return_of ops acc state m)
      (word_cause (state.registers.rsp ∷ at_address 8 (used_number state.registers.rsp)))
  unfolding return_of marked_operations
  return-tells = by_stack (used_number state.registers.rsp) (number-cause state.registers.rsp)
    where
      by_stack : (r : Result ℕ Cause) → cause_of r ≡ word_cause (state.registers.rsp ∷ [])
          → Stepped (clean state.place r >>= (λ stack. there state.place (load_of ops acc m stack 8) >>= (λ word.
          clean state.place (used_number word) >>=
          (λ place. Ok (left (at_place (with_stack state (ops.word (plus stack 8))) place) m)))))
          (word_cause (state.registers.rsp ∷ at_address 8 r))
      by_stack (Ok stack) e =
          told (there state.place (load_of ops acc m stack 8) >>=
          (λ word. clean state.place (used_number word) >>= (λ place.
          Ok (left (at_place (with_stack state (ops.word (plus stack 8))) place) m))))
          (word_cause (at_address 8 (Ok stack)))
          (word_cause (state.registers.rsp ∷ at_address 8 (Ok stack)))
          (sym (without [] (state.registers.rsp ∷ []) (at_address 8 (Ok stack)) (sym e)))
          (loaded-tells state.place (load_of ops acc m stack 8)
          (λ word. clean state.place (used_number word) >>= (λ place.
          Ok (left (at_place (with_stack state (ops.word (plus stack 8))) place) m))) (open_load stack 8) (λ w.
          then-tells state.place (clean state.place (used_number w)) (word_cause (w ∷ []))
          (λ place. Ok (left (at_place (with_stack state (ops.word (plus stack 8))) place) m))
          (clean-tells state.place (used_number w) (word_cause (w ∷ [])) (number-cause w)) (λ place. refl)))
      by_stack (Err why) e = (refl, sym e)

  call-tells : (distance : ℕ)
      → Stepped (call_of ops acc f state m (Relative distance)) (word_cause (state.registers.rsp ∷ []))
  unfolding call_of
  call-tells distance = then-tells state.place _ _ _ (clean-tells state.place _ _ stack-cause)
      (λ stack. then-tells state.place _ _ _ (pushed-tells stack _) (λ after. refl))

  call-at-tells : (operand : Operand) → FitsOperand operand → Stepped (call_of ops acc f state m (Indirect operand))
      (word_cause (state.registers.rsp ∷
      (map value (registers_in operand) ++ (aw_if false (memory_of operand) ++ loaded_of 8 operand))))
  unfolding call_of
  call-at-tells operand fits =
      then-tells state.place _ _ _
      (told _ _ _ (ap (λ (l : List Word). word_cause (state.registers.rsp ∷ l)) (all-is 8 operand))
      (taken-tells QuadWidth operand _ (state.registers.rsp ∷ []) fits stack-cause))
      (λ it. then-tells state.place _ _ _ (pushed-tells it.other _) (λ after. refl))

  jump-at-tells : (operand : Operand) → FitsOperand operand → Stepped (jump_of ops acc f state m (Indirect operand))
      (word_cause (map value (registers_in operand) ++ (aw_if false (memory_of operand) ++ loaded_of 8 operand)))
  unfolding jump_of
  jump-at-tells operand fits =
      then-tells state.place _ _ _
      (told _ _ _ (ap word_cause (all-is 8 operand)) (taken-tells QuadWidth operand (Ok 0) [] fits refl))
      (λ it. refl)

  jump-if-tells : (c : Condition) (distance : ℕ)
      → Stepped (jump_if ops acc f state m c distance) (pick [] (in_condition c state.flags))
  unfolding jump_if
  jump-if-tells c distance =
      then-tells state.place _ _ _ (clean-tells state.place _ _ (condition-cause c state.flags)) (λ holds. refl)

  nop-tells : (o : Option Operand) → cause_of (nop_use ops f state f.displacement_field o) ≡ None
      → Stepped (nop_of ops acc f state m o) None
  unfolding nop_of
  nop-tells o e = then-tells state.place _ _ _ (clean-tells state.place _ _ e) (λ unused. refl)

  abbrev pub FitsNop : Operation → Type 0
  FitsNop op = (o : Option Operand) → op ≡ Nop o → cause_of (nop_use ops f state f.displacement_field o) ≡ None

  -- the law of an instruction
  pub act-tells : (op : Operation) → FitsAll op → FitsNop op
      → Stepped (act ops acc f op state m) (pick (all_words op) (flags_read op state.flags))
  unfolding act move_of compute_of operand_of registers_used flags_read register_of jump_of
  act-tells (Move width (IntoRegister to from)) fits nop = move-into width to from fits
  act-tells (Move width (IntoMemory to from)) fits nop =
      told _ _ _ (ap word_cause (sym (append-nil (aw to)))) (stored-tells (size_of width) to _ (fits to refl))
  act-tells (Move width (Immediate to)) fits nop = move-number-tells width to fits
  act-tells (StoreByte to from) fits nop = byte-tells to from (fits to refl)
  act-tells (ExtendByte width to from) fits nop = extend-byte-tells to from fits
  act-tells (ExtendLong to from) fits nop = extend-long-tells to from fits
  act-tells (LoadAddress width to from) fits nop = address-tells width to from (fits from refl)
  act-tells (Compute arithmetic width (IntoRegister to from)) fits nop =
      into-register arithmetic width to from fits (is_zeroing arithmetic to from) refl
  act-tells (Compute arithmetic width (IntoMemory to from)) fits nop =
      into-memory arithmetic width to from (fits to refl)
  act-tells (Compute arithmetic width (Immediate to)) fits nop = number-tells arithmetic width to fits
  act-tells (Test width operand right) fits nop = test-tells width operand right fits
  act-tells (Multiply width to from) fits nop = multiply-tells width to from fits
  act-tells (ShiftBy shift width to count) fits nop = shift-tells shift width to count fits
  act-tells (Push from) fits nop = push-tells from
  act-tells (Pop to) fits nop = pop-tells to
  act-tells Leave fits nop = leave-tells
  act-tells (Call (Relative distance)) fits nop = call-tells distance
  act-tells (Call (Indirect operand)) fits nop = call-at-tells operand fits
  act-tells (Jump (Relative distance)) fits nop = refl
  act-tells (Jump (Indirect operand)) fits nop = jump-at-tells operand fits
  act-tells (JumpIf c distance) fits nop = jump-if-tells c distance
  act-tells Return fits nop = return-tells
  act-tells (Nop o) fits nop = nothing o (nop o refl)
    where
      nothing : (o : Option Operand) → cause_of (nop_use ops f state f.displacement_field o) ≡ None
          → Stepped (nop_of ops acc f state m o) (word_cause (aw_if true (memory_if o) ++ []))
      nothing None e = nop-tells None e
      nothing (Some (InRegister r)) e = nop-tells (Some (InRegister r)) e
      nothing (Some (InMemory x)) e = nop-tells (Some (InMemory x)) e
  act-tells Undefined fits nop = refl
