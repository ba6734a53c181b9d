-- A word that is lent at address 0: the load of it, and what else an instruction that reads it touches.
use Rattle.std.proofs.Common.{◌≡◌, ℕ, zero, suc, ◌+◌, ◌-◌, ◌%◌, ◌^◌, ◌<◌, Bool, true, false, List, [], ◌∷◌, ◌++◌}
use Rattle.std.proofs.Common.{Option, Some, None, Ok, refl, sym, ap, subst, ◌∙◌, arith}
use Rattle.std.specs.Prelude.{if◌then◌else◌, nat_lt, not, ◌&&◌}
use Rattle.std.specs.List.{list_any}
use Rattle.std.proofs.lemmas.Bool.{lt-ltb, or_parts}
use Rattle.std.proofs.lemmas.List.Folds.{list_any-append}
use Rattle.amd64_subset.specs.declared.instr.Arithmetic.TheVariants.{Add, Or, And, Sub, Xor, Compare}
use Rattle.amd64_subset.specs.declared.instr.Operation.{Operation}
use Rattle.amd64_subset.specs.declared.instr.Operation.TheVariants.{Move, StoreByte, ExtendByte, ExtendLong}
use Rattle.amd64_subset.specs.declared.instr.Operation.TheVariants.{LoadAddress, Compute, Test, Multiply, Shift, Push}
use Rattle.amd64_subset.specs.declared.instr.Operation.TheVariants.{Pop, Leave, Call, Jump}
use Rattle.amd64_subset.specs.declared.instr.Operation.TheVariants.{JumpIf, Return, Nop, Undefined}
use Rattle.amd64_subset.specs.declared.instr.Target.TheVariants.{Relative, Indirect}
use Rattle.amd64_subset.specs.declared.instr.Width.TheVariants.{Long as LongWidth, Quad as QuadWidth}
use Rattle.amd64_subset.specs.declared.operand.Base.{Base}
use Rattle.amd64_subset.specs.declared.operand.Base.TheVariants.{Absolute, NextInstruction, Register as OfRegister}
use Rattle.amd64_subset.specs.declared.operand.Index.{Index}
use Rattle.amd64_subset.specs.declared.operand.Memory.{Memory}
use Rattle.amd64_subset.specs.declared.operand.Operand.{Operand}
use Rattle.amd64_subset.specs.declared.operand.Operand.TheVariants.{InMemory, Register as InRegister}
use Rattle.amd64_subset.specs.declared.operand.Operands.TheVariants.{IntoRegister, IntoMemory, Immediate}
use Rattle.guest_arithmetic.specs.Cause.{used, both}
use Rattle.guest_arithmetic.specs.Values.{Operations}
use Rattle.guest_operands.specs.declared.frame.Frame.{Frame}
use Rattle.guest_operands.specs.declared.space.Size.TheVariants.{Quad}
use Rattle.guest_operands.specs.declared.state.Registers.{Registers}
use Rattle.guest_operands.specs.declared.state.State.{State}
use Rattle.guest_operands.specs.Access.{Accesses, next_place, both_reached, reached, bytes_in, bytes_from, bytes_at}
use Rattle.guest_operands.specs.Access.{all_write, put_all, load_of, store_of}
use Rattle.guest_operands.specs.Closed.{closed, unless_shut}
use Rattle.guest_operands.specs.Operand.{charged, base_of, index_of, address_of}
use Rattle.guest_operands.specs.Use.{plus}
use Rattle.guest_machine.specs.declared.touch.Direction.TheVariants.{Load}
use Rattle.guest_machine.specs.declared.touch.Touch.{Touch}
use Rattle.guest_machine.specs.declared.touch.Touches.{Touches}
use Rattle.guest_machine.specs.Step.{act}
use Rattle.guest_machine.specs.Touch.{paired, push_touch, places_from, refuses, touch_at, touched, touched_then}
use Rattle.guest_machine.specs.Touch.{touches_of}
use Rattle.guest_machine.proofs.Touching.{Free, act-open}
use Rattle.whole_meaning.specs.Fields.{is_from_next, lent_at, lent_frame, operand_in, read_in, without_operand}

module _ {W F B M : Type 0} (ops : Operations W F B) (acc : Accesses M B) (shut : M → ℕ → Bool) (m : M) (number : ℕ)
    (low : (k : ℕ) → k < 8 → shut m k ≡ false) where
  -- ** loads and stores

  -- the word is read, whatever is closed elsewhere
  lent-bytes : (size k : ℕ) → k + size ≡ 8
      → bytes_at (closed shut (lent_at ops acc number)) m k size ≡ Ok (bytes_from ops (ops.word number) k size)
  lent-bytes zero k fits = refl
  lent-bytes (suc size) k fits =
      let open_there : shut m k ≡ false = low k (omega arith) in
      let within : nat_lt k 8 ≡ true = lt-ltb k 8 (omega arith) in
      let next : next_place k ≡ k + 1 = omega arith in
      rw (open_there, within, next, lent-bytes size (k + 1) (omega arith)) refl

  pub lent-load : load_of ops (closed shut (lent_at ops acc number)) m 0 8 ≡ Ok
      (ops.joined (bytes_from ops (ops.word number) 0 8))
  unfolding load_of
  lent-load = ap (reached ops.joined) (lent-bytes 8 0 refl)

  lent-writes : (size place : ℕ)
      → all_write (closed shut (lent_at ops acc number)) m place size ≡ all_write (closed shut acc) m place size
  lent-writes zero place = refl
  lent-writes (suc size) place =
      ap (both_reached (λ (x : Unit {0}) (y : Unit {0}). tt {0}) (unless_shut (shut m place) (acc.writes m place)))
      (lent-writes size (next_place place))

  lent-put : (bytes : List B) (memory : M) (place : ℕ)
      → put_all (closed shut (lent_at ops acc number)) memory place bytes ≡ put_all (closed shut acc) memory place bytes
  lent-put [] memory place = refl
  lent-put (byte ∷ bytes) memory place = lent-put bytes (acc.put memory place byte) (next_place place)

  pub lent-store : (place size : ℕ) (word : W)
      → store_of ops (closed shut (lent_at ops acc number)) m place size word ≡ store_of ops
      (closed shut acc) m place size word
  unfolding store_of
  lent-store place size word = rw (lent-writes size place, lent-put (bytes_from ops word 0 size) m place) refl

-- ** the address of an operand relative to the next instruction

module _ {W F B : Type 0} (ops : Operations W F B) where
  next-parts : (field : Option ℕ) (displacement next : ℕ) (registers : Registers W) (i : Option Index) → field ≡ None
      → i ≡ None
      → used (λ parts. plus (plus parts.0 parts.1) 0)
      (charged field (both (base_of ops field displacement next registers NextInstruction) (index_of ops registers i)))
      ≡ Ok (plus (plus (plus displacement next) 0) 0)
  unfolding base_of index_of
  next-parts None displacement next registers None e g = refl
  next-parts None displacement next registers (Some i) e g = absurd cc
  next-parts (Some at) displacement next registers i e g = absurd cc

  address-with : (f : Frame) (s : State W F) (t : Bool) (b : Base) (i : Option Index) → f.displacement_field ≡ None
      → (is_from_next b && not t) ≡ true → i ≡ None
      → address_of ops f s (record { from_thread_pointer = t; base = b; index = i }) ≡ Ok
      (plus (plus (plus f.displacement f.next) 0) 0)
  unfolding address_of
  address-with f s t Absolute i n e g = absurd cc
  address-with f s t (OfRegister name) i n e g = absurd cc
  address-with f s true NextInstruction i n e g = absurd cc
  address-with f s false NextInstruction i n e g =
      next-parts f.displacement_field f.displacement f.next s.registers i n g

  pub next-address : (f : Frame) (s : State W F) (memory : Memory) (a : ℕ) → f.displacement_field ≡ None
      → (is_from_next memory.base && not memory.from_thread_pointer) ≡ true
      → memory.index ≡ None → plus (plus (plus f.displacement f.next) 0) 0 ≡ a → address_of ops f s memory ≡ Ok a
  next-address f s memory a n e g sum =
      address-with f s memory.from_thread_pointer memory.base memory.index n e g ∙ ap (λ (x : ℕ). Ok x) sum

  -- the word that is lent stands at address 0
  pub lent-address : (f : Frame) (s : State W F) (memory : Memory) (number : ℕ) → f.displacement_field ≡ None
      → f.next < 2 ^ 64
      → (is_from_next memory.base && not memory.from_thread_pointer) ≡ true → memory.index ≡ None
      → address_of ops (lent_frame (Some number) f) s memory ≡ Ok 0
  lent-address f s memory number n below e g =
      next-address (lent_frame (Some number) f) s memory 0 n e g (zero-sum f.next below)
    where
      zero-sum : (next : ℕ) → next < 2 ^ 64 → plus (plus (plus ((2 ^ 64 - next) % 2 ^ 64) next) 0) 0 ≡ 0
      zero-sum next below = omega arith

-- ** what is touched

module _ {W F B : Type 0} (ops : Operations W F B) (s : State W F) where
  -- behind the operand
  abbrev behind : Operation → Option Touch
  behind (Call target) = push_touch ops s
  behind operation = None

  is_memory : (operand : Operand) (memory : Memory) → operand_in operand ≡ Some memory → operand ≡ InMemory memory
  is_memory (InRegister name) memory e = absurd cc
  is_memory (InMemory other) memory e = cc

  pub read-touches : (f : Frame) (operation : Operation) (memory : Memory) → read_in operation ≡ Some memory
      → touches_of ops f s operation ≡ paired (touch_at Load Quad (address_of ops f s memory)) (behind operation)
  unfolding read_in touches_of
  read-touches f (Move QuadWidth (IntoRegister to from)) memory e = rw (is_memory from memory e) refl
  read-touches f (Move QuadWidth (IntoMemory to from)) memory e = absurd cc
  read-touches f (Move QuadWidth (Immediate to)) memory e = absurd cc
  read-touches f (Move LongWidth operands) memory e = absurd cc
  read-touches f (StoreByte to from) memory e = absurd cc
  read-touches f (ExtendByte width to from) memory e = absurd cc
  read-touches f (ExtendLong to from) memory e = absurd cc
  read-touches f (LoadAddress width to from) memory e = absurd cc
  read-touches f (Compute arithmetic QuadWidth (IntoRegister to from)) memory e = rw (is_memory from memory e) refl
  read-touches f (Compute Compare QuadWidth (IntoMemory to from)) memory e = let same_memory : to ≡ memory = cc in
      rw same_memory refl
  read-touches f (Compute Add QuadWidth (IntoMemory to from)) memory e = absurd cc
  read-touches f (Compute Or QuadWidth (IntoMemory to from)) memory e = absurd cc
  read-touches f (Compute And QuadWidth (IntoMemory to from)) memory e = absurd cc
  read-touches f (Compute Sub QuadWidth (IntoMemory to from)) memory e = absurd cc
  read-touches f (Compute Xor QuadWidth (IntoMemory to from)) memory e = absurd cc
  read-touches f (Compute Compare QuadWidth (Immediate to)) memory e = rw (is_memory to memory e) refl
  read-touches f (Compute Add QuadWidth (Immediate to)) memory e = absurd cc
  read-touches f (Compute Or QuadWidth (Immediate to)) memory e = absurd cc
  read-touches f (Compute And QuadWidth (Immediate to)) memory e = absurd cc
  read-touches f (Compute Sub QuadWidth (Immediate to)) memory e = absurd cc
  read-touches f (Compute Xor QuadWidth (Immediate to)) memory e = absurd cc
  read-touches f (Compute Add LongWidth operands) memory e = absurd cc
  read-touches f (Compute Or LongWidth operands) memory e = absurd cc
  read-touches f (Compute And LongWidth operands) memory e = absurd cc
  read-touches f (Compute Sub LongWidth operands) memory e = absurd cc
  read-touches f (Compute Xor LongWidth operands) memory e = absurd cc
  read-touches f (Compute Compare LongWidth operands) memory e = absurd cc
  read-touches f (Test QuadWidth from right) memory e = rw (is_memory from memory e) refl
  read-touches f (Test LongWidth from right) memory e = absurd cc
  read-touches f (Multiply QuadWidth to from) memory e = rw (is_memory from memory e) refl
  read-touches f (Multiply LongWidth to from) memory e = absurd cc
  read-touches f (Shift shift width to count) memory e = absurd cc
  read-touches f (Push from) memory e = absurd cc
  read-touches f (Pop to) memory e = absurd cc
  read-touches f Leave memory e = absurd cc
  read-touches f (Call (Relative distance)) memory e = absurd cc
  read-touches f (Call (Indirect operand)) memory e = rw (is_memory operand memory e) refl
  read-touches f (Jump (Relative distance)) memory e = absurd cc
  read-touches f (Jump (Indirect operand)) memory e = rw (is_memory operand memory e) refl
  read-touches f (JumpIf condition distance) memory e = absurd cc
  read-touches f Return memory e = absurd cc
  read-touches f (Nop operand) memory e = absurd cc
  read-touches f Undefined memory e = absurd cc

module _ {W F B M : Type 0} (ops : Operations W F B) (acc : Accesses M B) (shut : M → ℕ → Bool) (m : M) (number : ℕ)
    (low : (k : ℕ) → k < 8 → shut m k ≡ false) where
  none-in : (b : Bool) (xs : List ℕ) → list_any (shut m) xs ≡ false → list_any (shut m) (if b then [] else xs) ≡ false
  none-in true xs e = refl
  none-in false xs e = e

  places-low : (size k : ℕ) → k + size ≡ 8 → list_any (shut m) (places_from k size) ≡ false
  places-low zero k fits = refl
  places-low (suc size) k fits =
      let open_there : shut m k ≡ false = low k (omega arith) in
      let next : next_place k ≡ k + 1 = omega arith in
      rw (open_there, next) (places-low size (k + 1) (omega arith))

  both-none : (xs ys : List ℕ) → list_any (shut m) xs ≡ false → list_any (shut m) ys ≡ false
      → list_any (shut m) (xs ++ ys) ≡ false
  both-none xs ys e g = list_any-append (shut m) xs ys ∙ rw (e, g) refl

  -- the last access is the same whatever is lent
  last-free : (second : Option Touch) → list_any (shut m) (touched_then acc m second []) ≡ false
      → list_any (shut m) (touched_then (lent_at ops acc number) m second []) ≡ false
  last-free None e = refl
  last-free (Some touch) e =
      let places = places_from touch.address (bytes_in touch.size) in
      let first : list_any (shut m) places ≡ false =
      (or_parts (list_any (shut m) places)
      (list_any (shut m) (if refuses acc m touch.direction touch.address (bytes_in touch.size) then [] else []))
      (sym (list_any-append (shut m) places
      (if refuses acc m touch.direction touch.address (bytes_in touch.size) then [] else [])) ∙ e)).0 in
      both-none places (if refuses (lent_at ops acc number) m touch.direction touch.address
      (bytes_in touch.size) then [] else []) first
      (none-in (refuses (lent_at ops acc number) m touch.direction touch.address (bytes_in touch.size)) [] refl)

  lent-free : (second : Option Touch) → Free acc shut m (paired None second)
      → Free (lent_at ops acc number) shut m (paired (touch_at Load Quad (Ok 0)) second)
  unfolding touched
  lent-free second e =
      let more = touched_then (lent_at ops acc number) m second [] in
      both-none (places_from 0 8) (if refuses (lent_at ops acc number) m Load 0 8 then [] else more)
      (places-low 8 0 refl)
      (none-in (refuses (lent_at ops acc number) m Load 0 8) more (last-free second e))

  -- the law: an instruction that reads the word that is lent does the same where the linker's places are closed
  pub lent_open : (f : Frame) (s : State W F) (operation : Operation) (memory : Memory)
      → read_in operation ≡ Some memory
      → address_of ops (lent_frame (Some number) f) s memory ≡ Ok 0
      → Free acc shut m (without_operand (Some number) (touches_of ops f s operation))
      → act ops (closed shut (lent_at ops acc number)) (lent_frame (Some number) f) operation s m
      ≡ act ops (lent_at ops acc number) (lent_frame (Some number) f) operation s m
  lent_open f s operation memory read at free =
      let touches : touches_of ops (lent_frame (Some number) f) s operation ≡ paired (touch_at Load Quad (Ok 0))
      (behind ops s operation) =
      read-touches ops s (lent_frame (Some number) f) operation memory read
      ∙ ap (λ r. paired (touch_at Load Quad r) (behind ops s operation)) at in
      let rest : Free acc shut m (paired None (behind ops s operation)) =
      subst (λ (t : Touches). Free acc shut m (without_operand (Some number) t))
      (read-touches ops s f operation memory read) free in
      act-open ops (lent_at ops acc number) shut m (lent_frame (Some number) f) s operation
      (subst (λ (t : Touches). Free (lent_at ops acc number) shut m t) (sym touches)
      (lent-free (behind ops s operation) rest))
