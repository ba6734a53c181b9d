-- The parts of a step, over related operations and memories: uses, accesses, registers.
use Rattle.std.proofs.Common.{◌≡◌, ℕ, ◌*◌, ◌%◌, ◌^◌, Bool, true, false, Option, Some, None, Result, Ok, Err, refl, sym}
use Rattle.std.proofs.Common.{ap, subst}
use Rattle.std.specs.Prelude.{if◌then◌else◌}
use Rattle.amd64_words.specs.declared.register.Register.{Register}
use Rattle.amd64_words.specs.declared.register.Register.TheVariants.{Rax, Rcx, Rdx, Rbx, Rsp, Rbp, Rsi, Rdi, R8, R9}
use Rattle.amd64_words.specs.declared.register.Register.TheVariants.{R10, R11, R12, R13, R14, R15}
use Rattle.amd64_subset.specs.declared.instr.Width.{Width}
use Rattle.amd64_subset.specs.declared.instr.Width.TheVariants.{Long, Quad}
use Rattle.amd64_subset.specs.declared.operand.Base.{Base}
use Rattle.amd64_subset.specs.declared.operand.Base.TheVariants.{Absolute, NextInstruction, Register as OfRegister}
use Rattle.amd64_subset.specs.declared.operand.Index.{Index}
use Rattle.amd64_subset.specs.declared.operand.Memory.{Memory}
use Rattle.guest_arithmetic.specs.declared.cause.Cause.{Cause}
use Rattle.guest_operands.specs.declared.frame.Frame.{Frame}
use Rattle.guest_operands.specs.declared.state.Registers.{Registers}
use Rattle.guest_operands.specs.declared.state.State.{State}
use Rattle.guest_operands.specs.declared.stop.Stop.{Stop}
use Rattle.guest_operands.specs.declared.stop.Stop.TheVariants.{Returned, Look, Address, Code, Unclean, Steps}
use Rattle.guest_operands.specs.Access.{Refusal, Refused, Shut}
use Rattle.guest_arithmetic.specs.Arithmetic.{low}
use Rattle.guest_machine.specs.Follow.{Uses, Reaches, Follows, Alike, IsFollowed, SameRegisters, SameState, SameFrame}
use Rattle.guest_arithmetic.specs.Cause.{used, both}
use Rattle.guest_operands.specs.Operand.{factor_of, charged, carried_as, unmoved, moved_by, base_of, index_of}
use Rattle.guest_operands.specs.Operand.{address_of, kept, kept_byte, number_at}
use Rattle.guest_operands.specs.State.{register_of, with_register, with_word, with_stack, at_place}
use Rattle.guest_operands.specs.Use.{◌>>=◌, plus, clean, there}
use Rattle.guest_arithmetic.specs.Values.{Operations}

-- ** stops

pub follows-then : {A A' C C' : Type 0} (R : A → A' → Type 0) (Q : C → C' → Type 0) (r : Result A Stop)
    (r' : Result A' Stop) (f : A → Result C Stop) (g : A' → Result C' Stop)
    → Follows R r r' → ((a : A) (a' : A') → R a a' → Follows Q (f a) (g a')) → Follows Q (r >>= f) (r' >>= g)
follows-then R Q (Ok a) (Ok a') f g h k = k a a' h
follows-then R Q (Ok a) (Err stop) f g h k = absurd h
follows-then R Q (Err (Returned number)) r' f g h k = rw h refl
follows-then R Q (Err (Look place)) r' f g h k = rw h refl
follows-then R Q (Err (Address place)) r' f g h k = rw h refl
follows-then R Q (Err (Code place)) r' f g h k = rw h refl
follows-then R Q (Err (Unclean place cause)) r' f g h k = tt
follows-then R Q (Err (Steps place)) r' f g h k = rw h refl

-- the same where both give one thing
pub follows-same : {A C C' : Type 0} (Q : C → C' → Type 0) (r r' : Result A Stop) (f : A → Result C Stop)
    (g : A → Result C' Stop)
    → Follows (λ a b. a ≡ b) r r' → ((a : A) → Follows Q (f a) (g a)) → Follows Q (r >>= f) (r' >>= g)
follows-same Q r r' f g h k =
    follows-then (λ a b. a ≡ b) Q r r' f g h (λ a a' e. subst (λ b. Follows Q (f a) (g b)) e (k a))

pub follows-clean : {A A' : Type 0} (R : A → A' → Type 0) (here here' : ℕ) (r : Result A Cause) (r' : Result A' Cause)
    → Uses R r r' → Follows R (clean here r) (clean here' r')
follows-clean R here here' (Ok a) (Ok a') h = h
follows-clean R here here' (Ok a) (Err cause) h = absurd h
follows-clean R here here' (Err cause) r' h = tt

pub follows-there : {A A' : Type 0} (R : A → A' → Type 0) (here here' : ℕ) (r : Result A Refusal)
    (r' : Result A' Refusal) → here ≡ here' → Reaches R r r'
    → Follows R (there here r) (there here' r')
follows-there R here here' (Ok a) (Ok a') e h = h
follows-there R here here' (Ok a) (Err why) e h = absurd h
follows-there R here here' (Err Refused) (Ok a') e h = absurd h
follows-there R here here' (Err Refused) (Err Refused) e h = ap (λ place. Err (Address place)) (sym e)
follows-there R here here' (Err Refused) (Err Shut) e h = absurd h
follows-there R here here' (Err Shut) r' e h = tt

pub follows-if : {A A' : Type 0} (R : A → A' → Type 0) (b : Bool) (x y : Result A Stop) (x' y' : Result A' Stop)
    → Follows R x x' → Follows R y y'
    → Follows R (if b then x else y) (if b then x' else y')
follows-if R true x y x' y' h k = h
follows-if R false x y x' y' h k = k

-- ** uses

pub uses-used : {A A' C C' : Type 0} (R : A → A' → Type 0) (Q : C → C' → Type 0) (f : A → C) (g : A' → C')
    (r : Result A Cause) (r' : Result A' Cause)
    → Uses R r r' → ((a : A) (a' : A') → R a a' → Q (f a) (g a')) → Uses Q (used f r) (used g r')
uses-used R Q f g (Ok a) (Ok a') h k = k a a' h
uses-used R Q f g (Ok a) (Err cause) h k = absurd h
uses-used R Q f g (Err cause) r' h k = tt

-- one function of one number
pub uses-same : {C : Type 0} (f : ℕ → C) (r r' : Result ℕ Cause) → Uses (λ m n. m ≡ n) r r'
    → Uses (λ a b. a ≡ b) (used f r) (used f r')
uses-same f r r' h = uses-used (λ m n. m ≡ n) (λ a b. a ≡ b) f f r r' h (λ m n e. ap f e)

pub uses-both : {A A' C C' : Type 0} (R : A → A' → Type 0) (Q : C → C' → Type 0) (a : Result A Cause)
    (a' : Result A' Cause) (b : Result C Cause) (b' : Result C' Cause)
    → Uses R a a' → Uses Q b b' → Uses (λ p q. R p.0 q.0 × Q p.1 q.1) (both a b) (both a' b')
uses-both R Q (Ok x) (Ok x') (Ok y) (Ok y') h k = (h, k)
uses-both R Q (Ok x) (Ok x') (Ok y) (Err cause) h k = absurd k
uses-both R Q (Ok x) (Err cause) (Ok y) b' h k = absurd h
uses-both R Q (Ok x) a' (Err cause) b' h k = tt
uses-both R Q (Err cause) a' (Ok y) b' h k = tt
uses-both R Q (Err cause) a' (Err other) b' h k = tt

pub uses-charged : {A A' : Type 0} (R : A → A' → Type 0) (field field' : Option ℕ) (r : Result A Cause)
    (r' : Result A' Cause) → Uses R r r' → Uses R (charged field r) (charged field' r')
uses-charged R None None (Ok a) (Ok a') h = h
uses-charged R None (Some at) (Ok a) (Ok a') h = h
uses-charged R (Some at) None (Ok a) (Ok a') h = h
uses-charged R (Some at) (Some at') (Ok a) (Ok a') h = h
uses-charged R None field' (Ok a) (Err cause) h = absurd h
uses-charged R (Some at) field' (Ok a) (Err cause) h = absurd h
uses-charged R None field' (Err cause) r' h = tt
uses-charged R (Some at) field' (Err cause) r' h = tt

both_sums : (a b c d : ℕ) → a ≡ b → c ≡ d → plus a c ≡ plus b d
both_sums a b c d e f = cc

sums : (a a' b b' c c' : ℕ) → a ≡ a' → b ≡ b' → c ≡ c' → plus (plus a b) c ≡ plus (plus a' b') c'
sums a a' b b' c c' d e f = cc

same_segment : (b : Bool) (p p' : ℕ) → p ≡ p' → (if b then p else 0) ≡ (if b then p' else 0)
same_segment true p p' e = e
same_segment false p p' e = refl

module _ {W F B W' F' B' : Type 0} (same : Alike W F B W' F' B') where
  -- ** registers

  pub same_register : (r : Registers W) (r' : Registers W') → SameRegisters same r r' → (name : Register)
      → same.word (register_of r name) (register_of r' name)
  unfolding register_of
  same_register r r' h Rax = h.rax
  same_register r r' h Rcx = h.rcx
  same_register r r' h Rdx = h.rdx
  same_register r r' h Rbx = h.rbx
  same_register r r' h Rsp = h.rsp
  same_register r r' h Rbp = h.rbp
  same_register r r' h Rsi = h.rsi
  same_register r r' h Rdi = h.rdi
  same_register r r' h R8 = h.r8
  same_register r r' h R9 = h.r9
  same_register r r' h R10 = h.r10
  same_register r r' h R11 = h.r11
  same_register r r' h R12 = h.r12
  same_register r r' h R13 = h.r13
  same_register r r' h R14 = h.r14
  same_register r r' h R15 = h.r15

  -- each register of the one is related to that of the other
  pub all_registers : (r : Registers W) (r' : Registers W')
      → same.word r.rax r'.rax → same.word r.rcx r'.rcx → same.word r.rdx r'.rdx → same.word r.rbx r'.rbx
      → same.word r.rsp r'.rsp → same.word r.rbp r'.rbp
      → same.word r.rsi r'.rsi → same.word r.rdi r'.rdi → same.word r.r8 r'.r8 → same.word r.r9 r'.r9
      → same.word r.r10 r'.r10
      → same.word r.r11 r'.r11 → same.word r.r12 r'.r12 → same.word r.r13 r'.r13 → same.word r.r14 r'.r14
      → same.word r.r15 r'.r15
      → SameRegisters same r r'
  all_registers r r' x0 x1 x2 x3 x4 x5 x6 x7 x8 x9 x10 x11 x12 x13 x14 x15 = record {
    rax = x0;
    rcx = x1;
    rdx = x2;
    rbx = x3;
    rsp = x4;
    rbp = x5;
    rsi = x6;
    rdi = x7;
    r8 = x8;
    r9 = x9;
    r10 = x10;
    r11 = x11;
    r12 = x12;
    r13 = x13;
    r14 = x14;
    r15 = x15;
  }

  pub same_with : (r : Registers W) (r' : Registers W') → SameRegisters same r r' → (name : Register) (w : W) (w' : W')
      → same.word w w'
      → SameRegisters same (with_register r name w) (with_register r' name w')
  unfolding with_register
  same_with r r' h Rax w w' x =
      all_registers _ _ x h.rcx h.rdx h.rbx h.rsp h.rbp h.rsi h.rdi h.r8 h.r9 h.r10 h.r11 h.r12 h.r13 h.r14 h.r15
  same_with r r' h Rcx w w' x =
      all_registers _ _ h.rax x h.rdx h.rbx h.rsp h.rbp h.rsi h.rdi h.r8 h.r9 h.r10 h.r11 h.r12 h.r13 h.r14 h.r15
  same_with r r' h Rdx w w' x =
      all_registers _ _ h.rax h.rcx x h.rbx h.rsp h.rbp h.rsi h.rdi h.r8 h.r9 h.r10 h.r11 h.r12 h.r13 h.r14 h.r15
  same_with r r' h Rbx w w' x =
      all_registers _ _ h.rax h.rcx h.rdx x h.rsp h.rbp h.rsi h.rdi h.r8 h.r9 h.r10 h.r11 h.r12 h.r13 h.r14 h.r15
  same_with r r' h Rsp w w' x =
      all_registers _ _ h.rax h.rcx h.rdx h.rbx x h.rbp h.rsi h.rdi h.r8 h.r9 h.r10 h.r11 h.r12 h.r13 h.r14 h.r15
  same_with r r' h Rbp w w' x =
      all_registers _ _ h.rax h.rcx h.rdx h.rbx h.rsp x h.rsi h.rdi h.r8 h.r9 h.r10 h.r11 h.r12 h.r13 h.r14 h.r15
  same_with r r' h Rsi w w' x =
      all_registers _ _ h.rax h.rcx h.rdx h.rbx h.rsp h.rbp x h.rdi h.r8 h.r9 h.r10 h.r11 h.r12 h.r13 h.r14 h.r15
  same_with r r' h Rdi w w' x =
      all_registers _ _ h.rax h.rcx h.rdx h.rbx h.rsp h.rbp h.rsi x h.r8 h.r9 h.r10 h.r11 h.r12 h.r13 h.r14 h.r15
  same_with r r' h R8 w w' x =
      all_registers _ _ h.rax h.rcx h.rdx h.rbx h.rsp h.rbp h.rsi h.rdi x h.r9 h.r10 h.r11 h.r12 h.r13 h.r14 h.r15
  same_with r r' h R9 w w' x =
      all_registers _ _ h.rax h.rcx h.rdx h.rbx h.rsp h.rbp h.rsi h.rdi h.r8 x h.r10 h.r11 h.r12 h.r13 h.r14 h.r15
  same_with r r' h R10 w w' x =
      all_registers _ _ h.rax h.rcx h.rdx h.rbx h.rsp h.rbp h.rsi h.rdi h.r8 h.r9 x h.r11 h.r12 h.r13 h.r14 h.r15
  same_with r r' h R11 w w' x =
      all_registers _ _ h.rax h.rcx h.rdx h.rbx h.rsp h.rbp h.rsi h.rdi h.r8 h.r9 h.r10 x h.r12 h.r13 h.r14 h.r15
  same_with r r' h R12 w w' x =
      all_registers _ _ h.rax h.rcx h.rdx h.rbx h.rsp h.rbp h.rsi h.rdi h.r8 h.r9 h.r10 h.r11 x h.r13 h.r14 h.r15
  same_with r r' h R13 w w' x =
      all_registers _ _ h.rax h.rcx h.rdx h.rbx h.rsp h.rbp h.rsi h.rdi h.r8 h.r9 h.r10 h.r11 h.r12 x h.r14 h.r15
  same_with r r' h R14 w w' x =
      all_registers _ _ h.rax h.rcx h.rdx h.rbx h.rsp h.rbp h.rsi h.rdi h.r8 h.r9 h.r10 h.r11 h.r12 h.r13 x h.r15
  same_with r r' h R15 w w' x =
      all_registers _ _ h.rax h.rcx h.rdx h.rbx h.rsp h.rbp h.rsi h.rdi h.r8 h.r9 h.r10 h.r11 h.r12 h.r13 h.r14 x

  pub same_word : (s : State W F) (s' : State W' F') → SameState same s s' → (name : Register) (w : W) (w' : W')
      → same.word w w'
      → SameState same (with_word s name w) (with_word s' name w')
  same_word s s' h name w w' x = record {
    registers = same_with s.registers s'.registers h.registers name w w' x;
    flags = h.flags;
    place = h.place;
    thread_pointer = h.thread_pointer;
  }

  pub same_stack : (s : State W F) (s' : State W' F') → SameState same s s' → (w : W) (w' : W') → same.word w w'
      → SameState same (with_stack s w) (with_stack s' w')
  same_stack s s' h w w' x = record {
    registers = let k = h.registers in
        all_registers _ _ k.rax k.rcx k.rdx k.rbx x k.rbp k.rsi k.rdi k.r8 k.r9 k.r10 k.r11 k.r12 k.r13 k.r14 k.r15;
    flags = h.flags;
    place = h.place;
    thread_pointer = h.thread_pointer;
  }

  pub same_place : (s : State W F) (s' : State W' F') → SameState same s s' → (p p' : ℕ) → p ≡ p'
      → SameState same (at_place s p) (at_place s' p')
  same_place s s' h p p' e =
      record { registers = h.registers; flags = h.flags; place = e; thread_pointer = h.thread_pointer }

module _ {W F B W' F' B' : Type 0} (same : Alike W F B W' F' B') (ops : Operations W F B) (ops' : Operations W' F' B')
    (followed : IsFollowed same ops ops') where
  -- ** words and addresses

  pub carried-same : (f : ℕ → ℕ) (r r' : Result ℕ Cause) → Uses (λ m n. m ≡ n) r r'
      → same.word (carried_as ops f r) (carried_as ops' f r')
  carried-same f (Ok m) (Ok n) h = subst (λ x. same.word (ops.word (f m)) (ops'.word (f x))) h (followed.word (f m))
  carried-same f (Ok m) (Err cause) h = absurd h
  carried-same f (Err cause) r' h = followed.unknown (carried_as ops' f r')

  pub kept-same : (width : Width) (w : W) (w' : W') → same.word w w' → same.word (kept ops width w) (kept ops' width w')
  unfolding kept
  kept-same Quad w w' h = h
  kept-same Long w w' h =
      carried-same (λ number. number % 2 ^ 32) (ops.number_of w) (ops'.number_of w') (followed.number_of w w' h)

  pub kept_byte-same : (w : W) (w' : W') → same.word w w' → same.word (kept_byte ops w) (kept_byte ops' w')
  unfolding kept_byte
  kept_byte-same w w' h =
      carried-same (λ number. number % 256) (ops.number_of w) (ops'.number_of w') (followed.number_of w w' h)

  pub number_at-uses : (width : Width) (w : W) (w' : W') → same.word w w'
      → Uses (λ m n. m ≡ n) (number_at ops width w) (number_at ops' width w')
  unfolding number_at
  number_at-uses width w w' h = uses-same (low width) (ops.number_of w) (ops'.number_of w') (followed.number_of w w' h)

  pub unmoved-uses : (field field' : Option ℕ) (n n' : ℕ) → same.field field field' n n'
      → Uses (λ p q. p ≡ q) (unmoved ops field n) (unmoved ops' field' n')
  unmoved-uses None field' n n' f = let p = followed.plain field' n n' f in rw (p.0, p.1) refl
  unmoved-uses (Some at) field' n n' f = followed.misused at field' n n' f

  pub moved_by-uses : (field field' : Option ℕ) (n n' : ℕ) → same.field field field' n n' → (w : W) (w' : W')
      → same.word w w'
      → Uses (λ p q. p ≡ q) (moved_by ops field n w) (moved_by ops' field' n' w')
  moved_by-uses None field' n n' f w w' h =
      let p = followed.plain field' n n' f in
      rw (p.0, p.1) (uses-same (plus n) (ops.number_of w) (ops'.number_of w') (followed.number_of w w' h))
  moved_by-uses (Some at) field' n n' f w w' h = followed.moved at field' n n' f w w' h

  base-uses : (field field' : Option ℕ) (n n' next next' : ℕ) (r : Registers W) (r' : Registers W') (base : Base)
      → same.field field field' n n' → next ≡ next' → SameRegisters same r r'
      → Uses (λ p q. p ≡ q) (base_of ops field n next r base) (base_of ops' field' n' next' r' base)
  unfolding base_of
  base-uses field field' n n' next next' r r' Absolute f e h = unmoved-uses field field' n n' f
  base-uses field field' n n' next next' r r' (OfRegister name) f e h =
      moved_by-uses field field' n n' f _ _ (same_register same r r' h name)
  base-uses field field' n n' next next' r r' NextInstruction f e h =
      uses-used (λ p q. p ≡ q) (λ p q. p ≡ q) (λ number. plus number next) (λ number. plus number next') _ _
      (unmoved-uses field field' n n' f) (λ p q g. both_sums p q next next' g e)

  index-uses : (r : Registers W) (r' : Registers W') (index : Option Index) → SameRegisters same r r'
      → Uses (λ p q. p ≡ q) (index_of ops r index) (index_of ops' r' index)
  unfolding index_of
  index-uses r r' None h = refl
  index-uses r r' (Some index) h =
      uses-same (λ number. number * factor_of index.scale % 2 ^ 64) (ops.number_of (register_of r index.register))
      (ops'.number_of (register_of r' index.register))
      (followed.number_of (register_of r index.register) (register_of r' index.register)
      (same_register same r r' h index.register))

  pub address-uses : (f f' : Frame) (s : State W F) (s' : State W' F') (memory : Memory) → SameFrame same f f'
      → SameState same s s'
      → Uses (λ p q. p ≡ q) (address_of ops f s memory) (address_of ops' f' s' memory)
  unfolding address_of
  address-uses f f' s s' memory g h =
      uses-used (λ p q. (p.0 ≡ q.0) × (p.1 ≡ q.1)) (λ p q. p ≡ q) _ _ _ _
      (uses-charged (λ p q. (p.0 ≡ q.0) × (p.1 ≡ q.1)) f.displacement_field f'.displacement_field _ _
      (uses-both (λ p q. p ≡ q) (λ p q. p ≡ q) _ _ _ _
      (base-uses f.displacement_field f'.displacement_field f.displacement f'.displacement f.next f'.next s.registers s'.registers memory.base g.displacement g.next h.registers)
      (index-uses s.registers s'.registers memory.index h.registers)))
      (λ p q e. sums p.0 q.0 p.1 q.1 _ _ e.0 e.1
      (same_segment memory.from_thread_pointer s.thread_pointer s'.thread_pointer h.thread_pointer))
