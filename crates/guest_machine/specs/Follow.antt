-- When one machine follows another: what the first does from related states, the second does too, but an unclean stop
-- of the first allows anything. The relation between their words, flags, bytes and offset fields is a parameter.
use Rattle.std.specs.Prelude.{◌≡◌, ℕ, ◌<◌, Bool, List, [], ◌∷◌, length, Option, Some, None, Result, Ok, Err}
use Rattle.guest_arithmetic.specs.declared.cause.Cause.{Cause}
use Rattle.guest_operands.specs.declared.frame.Frame.{Frame}
use Rattle.guest_operands.specs.declared.state.Registers.{Registers}
use Rattle.guest_arithmetic.specs.declared.flags.Flags.{Flags}
use Rattle.guest_operands.specs.declared.state.State.{State}
use Rattle.guest_operands.specs.declared.stop.Stop.{Stop}
use Rattle.guest_operands.specs.declared.stop.Stop.TheVariants.{Returned, Look, Address, Code, Unclean, Steps}
use Rattle.guest_operands.specs.Access.{Refusal, Refused, Shut, Accesses, IsSize}
use Rattle.guest_operands.specs.Operand.{unmoved, moved_by}
use Rattle.guest_operands.specs.Use.{After}
use Rattle.guest_arithmetic.specs.Values.{Operations}

-- what the first uses, the second uses; if the first may not, the second may have anything
abbrev pub Uses : {A A' : Type 0} → (A → A' → Type 0) → Result A Cause → Result A' Cause → Type 0
Uses R (Ok a) (Ok a') = R a a'
Uses R (Ok a) (Err cause) = ⊥
Uses R (Err cause) r = Unit {0}

-- what the first accesses, the second accesses; what is refused to the first is refused to the second
abbrev pub Reaches : {A A' : Type 0} → (A → A' → Type 0) → Result A Refusal → Result A' Refusal → Type 0
Reaches R (Ok a) (Ok a') = R a a'
Reaches R (Ok a) (Err why) = ⊥
Reaches R (Err Refused) (Ok a') = ⊥
Reaches R (Err Refused) (Err Refused) = Unit {0}
Reaches R (Err Refused) (Err Shut) = ⊥
Reaches R (Err Shut) r = Unit {0}

-- the second stops as the first does
abbrev pub StopsAlike : {A : Type 0} → Stop → Result A Stop → Type 0
StopsAlike (Returned number) r = r ≡ Err (Returned number)
StopsAlike (Look place) r = r ≡ Err (Look place)
StopsAlike (Address place) r = r ≡ Err (Address place)
StopsAlike (Code place) r = r ≡ Err (Code place)
StopsAlike (Unclean place cause) r = Unit {0}
StopsAlike (Steps place) r = r ≡ Err (Steps place)

abbrev pub Follows : {A A' : Type 0} → (A → A' → Type 0) → Result A Stop → Result A' Stop → Type 0
Follows R (Ok a) (Ok a') = R a a'
Follows R (Ok a) (Err stop) = ⊥
Follows R (Err stop) r = StopsAlike stop r

-- two lists, element by element
abbrev pub All2 : {A A' : Type 0} → (A → A' → Type 0) → List A → List A' → Type 0
All2 R [] [] = Unit {0}
All2 R [] (y ∷ ys) = ⊥
All2 R (x ∷ xs) [] = ⊥
All2 R (x ∷ xs) (y ∷ ys) = R x y × All2 R xs ys

-- the relation between words, flags, bytes and fields of two machines
pub record Alike (W F B W' F' B' : Type 0) : Type 1 where
  pub word : W → W' → Type 0
  pub flag : F → F' → Type 0
  pub byte : B → B' → Type 0
  -- the addresses of an offset field in the one and in the other, if there is one, and the numbers there
  pub field : Option ℕ → Option ℕ → ℕ → ℕ → Type 0

module _ {W F B W' F' B' : Type 0} (same : Alike W F B W' F' B') where
  -- operations of the first, and those of the second on related values
  pub record IsFollowed (ops : Operations W F B) (ops' : Operations W' F' B') : Type 0 where
    pub word : (n : ℕ) → same.word (ops.word n) (ops'.word n)
    pub number_of : (w : W) (w' : W') → same.word w w' → Uses (λ m n. m ≡ n) (ops.number_of w) (ops'.number_of w')
    -- anything is related to an unknown word
    pub unknown : (w' : W') → same.word ops.unknown w'
    pub flag : (b : Bool) → same.flag (ops.flag b) (ops'.flag b)
    pub truth_of : (f : F) (f' : F') → same.flag f f' → Uses (λ a b. a ≡ b) (ops.truth_of f) (ops'.truth_of f')
    pub unsettled : (f : F) (f' : F') → same.flag f f' → same.flag (ops.unsettled f) (ops'.unsettled f')
    -- a number that is not a field for the first is that number for the second
    pub plain : (field' : Option ℕ) (n n' : ℕ) → same.field None field' n n' → (field' ≡ None) × (n' ≡ n)
    pub moved : (at : ℕ) (field' : Option ℕ) (n n' : ℕ) → same.field (Some at) field' n n' → (w : W) (w' : W')
        → same.word w w'
        → Uses (λ p q. p ≡ q) (ops.moved w n at) (moved_by ops' field' n' w')
    pub misused : (at : ℕ) (field' : Option ℕ) (n n' : ℕ) → same.field (Some at) field' n n'
        → Uses (λ p q. p ≡ q) (ops.misused n) (unmoved ops' field' n')
    -- if a field of the first is added that is not a field for the second, the first's undefined flags are related to
    -- any
    pub free : (at n n' : ℕ) → same.field (Some at) None n n' → (f : F) (f' : F') → same.flag (ops.unsettled f) f'
    pub joined : (bs : List B) (bs' : List B') → All2 same.byte bs bs' → IsSize (length bs)
        → same.word (ops.joined bs) (ops'.joined bs')
    pub byte_of : (w : W) (w' : W') → same.word w w' → (k : ℕ) → k < 8 → same.byte (ops.byte_of w k) (ops'.byte_of w' k)

  -- two memories, related byte by byte, stay so under writes
  pub record StayRelated {M M' : Type 0} (acc : Accesses M B) (acc' : Accesses M' B') (Same : M → M' → Type 0) : Type 0
    where
      pub byte : (m : M) (m' : M') → Same m m' → (place : ℕ) → Reaches same.byte (acc.byte m place) (acc'.byte m' place)
      pub writes : (m : M) (m' : M') → Same m m' → (place : ℕ)
          → Reaches (λ a b. Unit {0}) (acc.writes m place) (acc'.writes m' place)
      pub put : (m : M) (m' : M') → Same m m' → (place : ℕ) (b : B) (b' : B') → same.byte b b'
          → acc.writes m place ≡ Ok tt
          → Same (acc.put m place b) (acc'.put m' place b')
      -- a write changes no right to write
      pub still : (m : M) (place at : ℕ) (b : B) → acc.writes (acc.put m place b) at ≡ acc.writes m at

  pub record SameRegisters (r : Registers W) (r' : Registers W') : Type 0 where
    pub rax : same.word r.rax r'.rax
    pub rcx : same.word r.rcx r'.rcx
    pub rdx : same.word r.rdx r'.rdx
    pub rbx : same.word r.rbx r'.rbx
    pub rsp : same.word r.rsp r'.rsp
    pub rbp : same.word r.rbp r'.rbp
    pub rsi : same.word r.rsi r'.rsi
    pub rdi : same.word r.rdi r'.rdi
    pub r8 : same.word r.r8 r'.r8
    pub r9 : same.word r.r9 r'.r9
    pub r10 : same.word r.r10 r'.r10
    pub r11 : same.word r.r11 r'.r11
    pub r12 : same.word r.r12 r'.r12
    pub r13 : same.word r.r13 r'.r13
    pub r14 : same.word r.r14 r'.r14
    pub r15 : same.word r.r15 r'.r15

  pub record SameFlags (f : Flags F) (f' : Flags F') : Type 0 where
    pub zero : same.flag f.zero f'.zero
    pub sign : same.flag f.sign f'.sign
    pub carry : same.flag f.carry f'.carry
    pub overflow : same.flag f.overflow f'.overflow

  pub record SameState (s : State W F) (s' : State W' F') : Type 0 where
    pub registers : SameRegisters s.registers s'.registers
    pub flags : SameFlags s.flags s'.flags
    pub place : s.place ≡ s'.place
    pub thread_pointer : s.thread_pointer ≡ s'.thread_pointer

  -- the frame of an instruction; only offset fields may be other numbers
  pub record SameFrame (f f' : Frame) : Type 0 where
    pub next : f.next ≡ f'.next
    pub displacement : same.field f.displacement_field f'.displacement_field f.displacement f'.displacement
    pub immediate : same.field f.immediate_field f'.immediate_field f.immediate f'.immediate

  pub record SameAfter {M M' : Type 0} (Same : M → M' → Type 0) (a : After W F M) (a' : After W' F' M') : Type 0 where
    pub state : SameState a.state a'.state
    pub memory : Same a.memory a'.memory
