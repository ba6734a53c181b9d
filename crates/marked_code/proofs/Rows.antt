-- One instruction that reads a word from memory: it is the same word, read at another address.
use Rattle.std.proofs.Common.{◌≡◌, ℕ, ◌-◌, ◌^◌, Some, Result, Ok, Err, refl, sym, ap, subst}
use Rattle.amd64_words.specs.declared.register.Register.{Register}
use Rattle.amd64_subset.specs.declared.instr.Width.TheVariants.{Long, Quad}
use Rattle.amd64_subset.specs.declared.instr.Arithmetic.{Arithmetic}
use Rattle.amd64_subset.specs.declared.instr.Arithmetic.TheVariants.{Add, Or, And, Sub, Xor, Compare}
use Rattle.amd64_subset.specs.declared.instr.Target.TheVariants.{Relative, Indirect}
use Rattle.amd64_subset.specs.declared.instr.Operation.{Operation}
use Rattle.amd64_subset.specs.declared.instr.Operation.TheVariants.{Move, StoreByte, ExtendByte, ExtendLong}
use Rattle.amd64_subset.specs.declared.instr.Operation.TheVariants.{LoadAddress, Compute, Test, Multiply}
use Rattle.amd64_subset.specs.declared.instr.Operation.TheVariants.{Shift as ShiftBy, Push, Pop, Leave, Call, Jump}
use Rattle.amd64_subset.specs.declared.instr.Operation.TheVariants.{JumpIf, Return, Nop, Undefined}
use Rattle.amd64_subset.specs.declared.operand.Memory.{Memory}
use Rattle.amd64_subset.specs.declared.operand.Operand.{Operand}
use Rattle.amd64_subset.specs.declared.operand.Operand.TheVariants.{InMemory, Register as InRegister}
use Rattle.amd64_subset.specs.declared.operand.Operands.TheVariants.{IntoRegister, IntoMemory, Immediate}
use Rattle.guest_arithmetic.specs.declared.cause.Cause.{Cause}
use Rattle.guest_arithmetic.specs.declared.effect.Changes.{Changes}
use Rattle.guest_arithmetic.specs.declared.effect.Effect.{Effect}
use Rattle.guest_arithmetic.specs.Arithmetic.{low, compute_effect, product_effect}
use Rattle.guest_arithmetic.specs.Values.{Operations}
use Rattle.guest_operands.specs.declared.frame.Frame.{Frame}
use Rattle.guest_operands.specs.declared.slot.Slot.TheVariants.{Register as OfSlot}
use Rattle.guest_operands.specs.declared.slot.Taken.{Taken}
use Rattle.guest_operands.specs.declared.state.State.{State}
use Rattle.guest_operands.specs.declared.stop.Stop.TheVariants.{Address}
use Rattle.guest_operands.specs.Access.{Refusal, Refused, Shut, Accesses, load_of, store_of}
use Rattle.guest_operands.specs.Operand.{address_of, number_at, carried, weighed, taken_at, taken, put}
use Rattle.guest_operands.specs.State.{register_of}
use Rattle.guest_operands.specs.Use.{◌>>=◌, plus, After, left}
use Rattle.guest_machine.specs.Follow.{Uses, Reaches, Follows, Alike, IsFollowed, SameState, SameAfter}
use Rattle.guest_machine.specs.Step.{immediate_of, is_cleared, settled, finished, concluded, move_in, move_of}
use Rattle.guest_machine.specs.Step.{compute_in, compute_plain, compute_number, compute_of, test_of, multiply_of}
use Rattle.guest_machine.specs.Step.{pushed, call_of, jump_of, act}
use Rattle.guest_machine.proofs.FollowRows.{settled-same}
use Rattle.guest_machine.proofs.Follow.{follows-then, follows-clean, follows-there, uses-same, uses-both, same_register}
use Rattle.guest_machine.proofs.Follow.{same_word, same_stack, same_place, number_at-uses, unmoved-uses}
use Rattle.whole_meaning.specs.Fields.{operand_in, read_in}

module _ {W F B W' F' B' : Type 0} (same : Alike W F B W' F' B') (ops : Operations W F B) (ops' : Operations W' F' B')
    (followed : IsFollowed same ops ops') where
  -- two uses of what was taken
  abbrev TakenAlike : Taken → Taken → Type 0
  TakenAlike p q = (p.number ≡ q.number) × (p.other ≡ q.other)

  module _ {M M' : Type 0} (acc : Accesses M B) (acc' : Accesses M' B') (Same : M → M' → Type 0) where
    abbrev Then : After W F M → After W' F' M' → Type 0
    Then = SameAfter same Same

    weighed-follows : (here here' : ℕ) → here ≡ here' → (r : Result W Refusal) (r' : Result W' Refusal)
        → Reaches same.word r r' → (other other' : Result ℕ Cause)
        → Uses (λ a b. a ≡ b) other other'
        → Follows (λ p q. (p.0 ≡ q.0) × (p.1 ≡ q.1)) (weighed ops acc Quad here r other)
        (weighed ops' acc' Quad here' r' other')
    weighed-follows here here' e (Ok w) (Ok w') h other other' k =
        follows-clean (λ p q. (p.0 ≡ q.0) × (p.1 ≡ q.1)) here here' _ _
        (uses-both (λ a b. a ≡ b) (λ a b. a ≡ b) _ _ _ _ (number_at-uses same ops ops' followed Quad w w' h) k)
    weighed-follows here here' e (Ok w) (Err why) h other other' k = absurd h
    weighed-follows here here' e (Err Refused) (Ok w') h other other' k = absurd h
    weighed-follows here here' e (Err Refused) (Err Refused) h (Ok x) (Ok y) k =
        ap (λ place. Err (Address place)) (sym e)
    weighed-follows here here' e (Err Refused) (Err Refused) h (Ok x) (Err cause) k = absurd k
    weighed-follows here here' e (Err Refused) (Err Refused) h (Err cause) other' k = tt
    weighed-follows here here' e (Err Refused) (Err Shut) h other other' k = absurd h
    weighed-follows here here' e (Err Shut) r' h other other' k = tt

    module _ (f f' : Frame) (next : f.next ≡ f'.next)
        (immediate : same.field f.immediate_field f'.immediate_field f.immediate f'.immediate)
        (s : State W F) (s' : State W' F') (h : SameState same s s') (m : M) (m' : M') (k : Same m m') where
      -- ** results in registers

      dropped : (changes changes' : Changes) → changes ≡ changes'
          → Then (left (settled ops changes f s) m) (left (settled ops' changes' f' s') m')
      dropped changes changes' e =
          rw (← e) (record { state = settled-same same ops ops' followed changes f f' s s' next h; memory = k })

      finished-same : (to : Register) (effect effect' : Effect) → effect ≡ effect'
          → Follows Then (finished ops acc Quad (OfSlot to) effect f s m)
          (finished ops' acc' Quad (OfSlot to) effect' f' s' m')
      unfolding finished put
      finished-same to effect effect' e = rw (← e)
          (record {
            state = settled-same same ops ops' followed effect.changes f f' _ _ next
                (same_word same s s' h to _ _ (followed.word effect.number));
            memory = k;
          })

      concluded-same : (arithmetic : Arithmetic) (to : Register) (effect effect' : Effect) → effect ≡ effect'
          → Follows Then (concluded ops acc arithmetic Quad (OfSlot to) effect f s m)
          (concluded ops' acc' arithmetic Quad (OfSlot to) effect' f' s' m')
      unfolding concluded
      concluded-same Compare to effect effect' e =
          dropped effect.changes effect'.changes (ap (λ (x : Effect). x.changes) e)
      concluded-same Add to effect effect' e = finished-same to effect effect' e
      concluded-same Or to effect effect' e = finished-same to effect effect' e
      concluded-same And to effect effect' e = finished-same to effect effect' e
      concluded-same Sub to effect effect' e = finished-same to effect effect' e
      concluded-same Xor to effect effect' e = finished-same to effect effect' e

      -- ** the one load

      module _ (stores : (place : ℕ) (w : W) (w' : W') → same.word w w'
          → Reaches Same (store_of ops acc m place 8 w) (store_of ops' acc' m' place 8 w'))
          (memory : Memory) (a a' : ℕ) (at : address_of ops f s memory ≡ Ok a)
          (at' : address_of ops' f' s' memory ≡ Ok a')
          (reads : Reaches same.word (load_of ops acc m a 8) (load_of ops' acc' m' a' 8)) where
        carried-read : Follows same.word (carried ops acc Quad f s m (InMemory memory))
            (carried ops' acc' Quad f' s' m' (InMemory memory))
        unfolding carried
        carried-read = rw (at, at') (follows-there same.word s.place s'.place _ _ h.place reads)

        taken-read : (other other' : Result ℕ Cause) → Uses (λ a b. a ≡ b) other other'
            → Follows TakenAlike (taken ops acc Quad f s m (InMemory memory) other)
            (taken ops' acc' Quad f' s' m' (InMemory memory) other')
        unfolding taken taken_at
        taken-read other other' o = rw (at, at')
            (follows-then (λ p q. (p.0 ≡ q.0) × (p.1 ≡ q.1)) TakenAlike _ _ _ _
            (weighed-follows s.place s'.place h.place _ _ reads other other' o) (λ p q x. x))

        moved : (to : Register) → Follows Then (move_in ops acc Quad f s m to (InMemory memory))
            (move_in ops' acc' Quad f' s' m' to (InMemory memory))
        unfolding move_in
        moved to = follows-then same.word Then _ _ _ _ carried-read
            (λ w w' x. record {
              state = same_place same _ _ (same_word same s s' h to w w' x) f.next f'.next next;
              memory =
                  k;
            })

        -- a register's number beside the word
        taken-beside : (name : Register)
            → Follows TakenAlike (taken ops acc Quad f s m (InMemory memory)
            (number_at ops Quad (register_of s.registers name)))
            (taken ops' acc' Quad f' s' m' (InMemory memory) (number_at ops' Quad (register_of s'.registers name)))
        taken-beside name = taken-read _ _
            (number_at-uses same ops ops' followed Quad _ _
            (same_register same s.registers s'.registers h.registers name))

        effects : (arithmetic : Arithmetic) (a b c d : ℕ) → a ≡ b → c ≡ d
            → compute_effect arithmetic Quad a c ≡ compute_effect arithmetic Quad b d
        effects arithmetic a b c d e g = rw (e, g) refl

        products : (a b c d : ℕ) → a ≡ b → c ≡ d → product_effect Quad a c ≡ product_effect Quad b d
        products a b c d e g = rw (e, g) refl

        computed-with : (arithmetic : Arithmetic) (to : Register)
            → Follows Then (taken ops acc Quad f s m (InMemory memory) (number_at ops Quad (register_of s.registers to))
            >>= (λ it. concluded ops acc arithmetic Quad (OfSlot to)
            (compute_effect arithmetic Quad it.other it.number) f s m))
            (taken ops' acc' Quad f' s' m' (InMemory memory) (number_at ops' Quad (register_of s'.registers to))
            >>= (λ it. concluded ops' acc' arithmetic Quad (OfSlot to)
            (compute_effect arithmetic Quad it.other it.number) f' s' m'))
        computed-with arithmetic to = follows-then TakenAlike Then _ _ _ _ (taken-beside to)
            (λ p q x. concluded-same arithmetic to _ _ (effects arithmetic p.other q.other p.number q.number x.1 x.0))

        computed-in : (arithmetic : Arithmetic) (to : Register)
            → Follows Then (compute_in ops acc arithmetic Quad f s m to (InMemory memory))
            (compute_in ops' acc' arithmetic Quad f' s' m' to (InMemory memory))
        unfolding compute_in is_cleared
        computed-in Add to = computed-with Add to
        computed-in Or to = computed-with Or to
        computed-in And to = computed-with And to
        computed-in Sub to = computed-with Sub to
        computed-in Xor to = computed-with Xor to
        computed-in Compare to = computed-with Compare to

        compared-out : (from : Register)
            → Follows Then (compute_of ops acc Compare Quad f s m (IntoMemory memory from))
            (compute_of ops' acc' Compare Quad f' s' m' (IntoMemory memory from))
        unfolding compute_of concluded
        compared-out from = follows-then TakenAlike Then _ _ _ _ (taken-beside from)
            (λ p q x. dropped _ _ (ap (λ (t : Effect). t.changes)
            (effects Compare p.number q.number p.other q.other x.0 x.1)))

        compared-number : Follows Then (compute_number ops acc Compare Quad f.immediate_field f s m (InMemory memory))
            (compute_number ops' acc' Compare Quad f'.immediate_field f' s' m' (InMemory memory))
        unfolding compute_number compute_plain concluded immediate_of
        compared-number = follows-then TakenAlike Then _ _ _ _
            (taken-read _ _ (uses-same (low Quad) _ _
            (unmoved-uses same ops ops' followed f.immediate_field f'.immediate_field f.immediate f'.immediate
            immediate)))
            (λ p q x. dropped _ _ (ap (λ (t : Effect). t.changes)
            (effects Compare p.number q.number p.other q.other x.0 x.1)))

        tested : (right : Register) → Follows Then (test_of ops acc Quad f s m (InMemory memory) right)
            (test_of ops' acc' Quad f' s' m' (InMemory memory) right)
        unfolding test_of
        tested right = follows-then TakenAlike Then _ _ _ _ (taken-beside right)
            (λ p q x. dropped _ _ (ap (λ (t : Effect). t.changes)
            (effects And p.number q.number p.other q.other x.0 x.1)))

        multiplied : (to : Register) → Follows Then (multiply_of ops acc Quad f s m to (InMemory memory))
            (multiply_of ops' acc' Quad f' s' m' to (InMemory memory))
        unfolding multiply_of
        multiplied to = follows-then TakenAlike Then _ _ _ _ (taken-beside to)
            (λ p q x. finished-same to _ _ (products p.other q.other p.number q.number x.1 x.0))

        jumped : Follows Then (jump_of ops acc f s m (Indirect (InMemory memory)))
            (jump_of ops' acc' f' s' m' (Indirect (InMemory memory)))
        unfolding jump_of
        jumped = follows-then TakenAlike Then _ _ _ _ (taken-read (Ok 0) (Ok 0) refl)
            (λ p q x. record { state = same_place same s s' h p.number q.number x.0; memory = k })

        next_word : same.word (ops.word f.next) (ops'.word f'.next)
        next_word = subst (λ place. same.word (ops.word f.next) (ops'.word place)) next (followed.word f.next)

        pushed-next : (stack stack' : ℕ) → stack ≡ stack'
            → Follows Then (pushed ops acc stack (ops.word f.next) s m)
            (pushed ops' acc' stack' (ops'.word f'.next) s' m')
        unfolding pushed
        pushed-next stack stack' e = rw (← e)
            (follows-then Same Then _ _ _ _
            (follows-there Same s.place s'.place _ _ h.place (stores (plus stack (2 ^ 64 - 8)) _ _ next_word))
            (λ b b' y. record {
              state = same_stack same s s' h _ _ (followed.word (plus stack (2 ^ 64 - 8)));
              memory = y;
            }))

        called : Follows Then (call_of ops acc f s m (Indirect (InMemory memory)))
            (call_of ops' acc' f' s' m' (Indirect (InMemory memory)))
        unfolding call_of
        called = follows-then TakenAlike Then _ _ _ _
            (taken-read _ _ (followed.number_of s.registers.rsp s'.registers.rsp h.registers.rsp))
            (λ p q x. follows-then Then Then _ _ _ _ (pushed-next p.other q.other x.1)
            (λ b b' y. record {
              state = same_place same b.state b'.state y.state p.number q.number x.0;
              memory =
                  y.memory;
            }))

        -- ** the law: what reads the one operand does the same with it

        is_memory : (operand : Operand) → operand_in operand ≡ Some memory → operand ≡ InMemory memory
        is_memory (InRegister name) e = absurd cc
        is_memory (InMemory other) e = cc

        pub read_follows : (operation : Operation) → read_in operation ≡ Some memory
            → Follows Then (act ops acc f operation s m) (act ops' acc' f' operation s' m')
        unfolding read_in act move_of compute_of
        read_follows (Move Quad (IntoRegister to from)) e = rw (is_memory from e) (moved to)
        read_follows (Move Quad (IntoMemory to from)) e = absurd cc
        read_follows (Move Quad (Immediate to)) e = absurd cc
        read_follows (Move Long operands) e = absurd cc
        read_follows (StoreByte to from) e = absurd cc
        read_follows (ExtendByte width to from) e = absurd cc
        read_follows (ExtendLong to from) e = absurd cc
        read_follows (LoadAddress width to from) e = absurd cc
        read_follows (Compute arithmetic Quad (IntoRegister to from)) e =
            rw (is_memory from e) (computed-in arithmetic to)
        read_follows (Compute Compare Quad (IntoMemory to from)) e = let same_memory : to ≡ memory = cc in
            rw same_memory (compared-out from)
        read_follows (Compute Add Quad (IntoMemory to from)) e = absurd cc
        read_follows (Compute Or Quad (IntoMemory to from)) e = absurd cc
        read_follows (Compute And Quad (IntoMemory to from)) e = absurd cc
        read_follows (Compute Sub Quad (IntoMemory to from)) e = absurd cc
        read_follows (Compute Xor Quad (IntoMemory to from)) e = absurd cc
        read_follows (Compute Compare Quad (Immediate to)) e = rw (is_memory to e) compared-number
        read_follows (Compute Add Quad (Immediate to)) e = absurd cc
        read_follows (Compute Or Quad (Immediate to)) e = absurd cc
        read_follows (Compute And Quad (Immediate to)) e = absurd cc
        read_follows (Compute Sub Quad (Immediate to)) e = absurd cc
        read_follows (Compute Xor Quad (Immediate to)) e = absurd cc
        read_follows (Compute Add Long operands) e = absurd cc
        read_follows (Compute Or Long operands) e = absurd cc
        read_follows (Compute And Long operands) e = absurd cc
        read_follows (Compute Sub Long operands) e = absurd cc
        read_follows (Compute Xor Long operands) e = absurd cc
        read_follows (Compute Compare Long operands) e = absurd cc
        read_follows (Test Quad from right) e = rw (is_memory from e) (tested right)
        read_follows (Test Long from right) e = absurd cc
        read_follows (Multiply Quad to from) e = rw (is_memory from e) (multiplied to)
        read_follows (Multiply Long to from) e = absurd cc
        read_follows (ShiftBy shift width to count) e = absurd cc
        read_follows (Push from) e = absurd cc
        read_follows (Pop to) e = absurd cc
        read_follows Leave e = absurd cc
        read_follows (Call (Relative distance)) e = absurd cc
        read_follows (Call (Indirect operand)) e = rw (is_memory operand e) called
        read_follows (Jump (Relative distance)) e = absurd cc
        read_follows (Jump (Indirect operand)) e = rw (is_memory operand e) jumped
        read_follows (JumpIf condition distance) e = absurd cc
        read_follows Return e = absurd cc
        read_follows (Nop operand) e = absurd cc
        read_follows Undefined e = absurd cc
