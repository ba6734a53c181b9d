-- The rows that there are: what each asks of REX, by the length of its opcode.
use Rattle.std.proofs.Common.{◌≡◌, ℕ, ◌/◌, ◌%◌, ◌<◌, Bool, true, false, cond, eqb, List, [], ◌∷◌, length, Option, Some}
use Rattle.std.proofs.Common.{None, refl, subst, arith, inl, inr, ◌⊎◌}
use Rattle.std.specs.Prelude.{not, ◌&&◌, ◌||◌}
use Rattle.std.specs.Option.{option_map}
use Rattle.amd64_words.specs.declared.register.Register.{Register}
use Rattle.amd64_subset.specs.declared.instr.Condition.{Condition}
use Rattle.amd64_subset.specs.declared.instr.Operation.TheVariants as operation
use Rattle.amd64_subset.specs.declared.prefix.Rex.{Rex}
use Rattle.amd64_words.specs.declared.size.Size.TheVariants as size
use Rattle.amd64_subset.specs.declared.row.Row.{Row}
use Rattle.amd64_subset.specs.declared.row.Row.TheVariants as row
use Rattle.amd64_subset.specs.declared.row.Numbered.TheVariants as numbered
use Rattle.amd64_subset.specs.declared.row.Group.TheVariants as group
use Rattle.amd64_subset.specs.declared.row.Action.TheVariants as action
use Rattle.amd64_subset.specs.Register.{extended}
use Rattle.amd64_subset.specs.Row.{condition_of, row_of, fixed_row_of, escaped_row_of}
use Rattle.amd64_subset.specs.Spelling.{named}
use Rattle.amd64_encoder.specs.Writing.{is_high}
use Rattle.amd64_encoder.proofs.Digits.{extended-number}
use Rattle.amd64_subset.proofs.Steps.{chosen}

-- REX.B stands there for a register from 8 to 15
abbrev pub reaches : Rex → Register → Bool
reaches rex register = not (is_high register) || rex.base

-- the rows of one byte
abbrev pub is_short : Rex → Row → Bool
is_short rex (row.Alone (operation.Push register)) = reaches rex register
is_short rex (row.Alone (operation.Pop register)) = reaches rex register
is_short rex (row.Alone operation.Leave) = true
is_short rex (row.Alone operation.Return) = true
is_short rex (row.Alone other) = false
is_short rex row.Nop = true
is_short rex row.EndBranch = false
is_short rex (row.Number (numbered.Move register) size.Eight) = rex.wide && reaches rex register
is_short rex (row.Number (numbered.Move register) size.Four) = not rex.wide && reaches rex register
is_short rex (row.Number (numbered.Compute arithmetic) size.Four) = true
is_short rex (row.Number numbered.Call size.Four) = true
is_short rex (row.Number numbered.Jump size.Four) = true
is_short rex (row.Number numbered.Jump size.One) = true
is_short rex (row.Number (numbered.JumpIf condition) size.One) = true
is_short rex (row.Number a size) = false
is_short rex (row.Register action.ExtendByte) = false
is_short rex (row.Register action.MultiplyBy) = false
is_short rex (row.Register action.ExtendLong) = rex.wide
is_short rex (row.Register action.StoreByte) = true
is_short rex (row.Register action.Store) = true
is_short rex (row.Register action.Load) = true
is_short rex (row.Register action.LoadAddress) = true
is_short rex (row.Register (action.ComputeInto arithmetic)) = true
is_short rex (row.Register (action.ComputeFrom arithmetic)) = true
is_short rex (row.Register action.TestWith) = true
is_short rex (row.Register a) = false
is_short rex (row.Group group.Move size.Four) = true
is_short rex (row.Group group.Arithmetic size.Four) = true
is_short rex (row.Group group.Arithmetic size.One) = true
is_short rex (row.Group group.Shift size.One) = true
is_short rex (row.Group group.ShiftOnce size.Zero) = true
is_short rex (row.Group group.Target size.Zero) = true
is_short rex (row.Group g size) = false

-- the rows behind 0f
abbrev pub is_long : Row → Bool
is_long (row.Number (numbered.JumpIf condition) size.Four) = true
is_long (row.Register action.ExtendByte) = true
is_long (row.Register action.MultiplyBy) = true
is_long (row.Group group.Nop size.Zero) = true
is_long (row.Alone operation.Undefined) = true
is_long r = false

abbrev if_some : (Row → Bool) → Option Row → Bool
if_some test None = true
if_some test (Some r) = test r

either : (test : Row → Bool) (b : Bool) (x y : Option Row) → if_some test x ≡ true → if_some test y ≡ true
    → if_some test (cond b x y) ≡ true
either test true x y p q = p
either test false x y p q = q

mapped : (test : Row → Bool) (f : Condition → Row) (o : Option Condition) → ((c : Condition) → test (f c) ≡ true)
    → if_some test (option_map f o) ≡ true
mapped test f None h = refl
mapped test f (Some c) h = h c

wide_only : (w r x b : Bool)
    → if_some (is_short (record { wide = w; register = r; index = x; base = b }))
    (cond w (Some (row.Register action.ExtendLong)) None) ≡ true
wide_only true r x b = refl
wide_only false r x b = refl

low_reaches : (low : ℕ) (w r x b : Bool) → low < 8
    → reaches (record { wide = w; register = r; index = x; base = b }) (extended low b) ≡ true
low_reaches low w r x true h = or_true (not (is_high (extended low true)))
  where
    or_true : (a : Bool) → (a || true) ≡ true
    or_true true = refl
    or_true false = refl
low_reaches low w r x false h =
    let n = extended-number low false h in
    let t : is_high (extended low false) ≡ false = grind arith in
    rw (t) refl

move_size : (w : Bool) (r x b : Bool) (register : Register)
    → reaches (record { wide = w; register = r; index = x; base = b }) register ≡ true
    → is_short (record { wide = w; register = r; index = x; base = b })
    (row.Number (numbered.Move register) (cond w size.Eight size.Four)) ≡ true
move_size true r x b register h = h
move_size false r x b register h = h

fixed_short : (w r x b : Bool) (opcode : ℕ)
    → if_some (is_short (record { wide = w; register = r; index = x; base = b })) (fixed_row_of w opcode) ≡ true
unfolding fixed_row_of
fixed_short w r x b opcode =
    let t : Row → Bool = is_short (record { wide = w; register = r; index = x; base = b }) in
    (either t (eqb opcode 0x88) _ _ refl
    (either t (eqb opcode 0x89) _ _ refl
    (either t (eqb opcode 0x8b) _ _ refl
    (either t (eqb opcode 0xc7) _ _ refl
    (either t (eqb opcode 0x63) _ _ (wide_only w r x b)
    (either t (eqb opcode 0x8d) _ _ refl
    (either t (eqb opcode 0x01) _ _ refl
    (either t (eqb opcode 0x03) _ _ refl
    (either t (eqb opcode 0x09) _ _ refl
    (either t (eqb opcode 0x0b) _ _ refl
    (either t (eqb opcode 0x21) _ _ refl
    (either t (eqb opcode 0x23) _ _ refl
    (either t (eqb opcode 0x29) _ _ refl
    (either t (eqb opcode 0x2b) _ _ refl
    (either t (eqb opcode 0x31) _ _ refl
    (either t (eqb opcode 0x33) _ _ refl
    (either t (eqb opcode 0x39) _ _ refl
    (either t (eqb opcode 0x3b) _ _ refl
    (either t (eqb opcode 0x81) _ _ refl
    (either t (eqb opcode 0x83) _ _ refl
    (either t (eqb opcode 0x05) _ _ refl
    (either t (eqb opcode 0x0d) _ _ refl
    (either t (eqb opcode 0x25) _ _ refl
    (either t (eqb opcode 0x2d) _ _ refl
    (either t (eqb opcode 0x35) _ _ refl
    (either t (eqb opcode 0x3d) _ _ refl
    (either t (eqb opcode 0x85) _ _ refl
    (either t (eqb opcode 0xc1) _ _ refl
    (either t (eqb opcode 0xd1) _ _ refl
    (either t (eqb opcode 0xc9) _ _ refl
    (either t (eqb opcode 0xe8) _ _ refl
    (either t (eqb opcode 0xff) _ _ refl
    (either t (eqb opcode 0xe9) _ _ refl
    (either t (eqb opcode 0xeb) _ _ refl
    (either t (eqb opcode 0xc3) _ _ refl
    (either t (eqb opcode 0x90) _ _ refl
    refl))))))))))))))))))))))))))))))))))))

short_row : (rex : Rex) (opcode : ℕ) → if_some (is_short rex) (row_of rex opcode) ≡ true
unfolding row_of
short_row rex opcode =
    let l : opcode % 8 < 8 = omega arith in
    let reach = low_reaches (opcode % 8) rex.wide rex.register rex.index rex.base l in
    either (is_short rex) (eqb (opcode / 16) 0x4) _ _ refl
    (either (is_short rex) (eqb (opcode / 8) 0xa) _ _ reach
    (either (is_short rex) (eqb (opcode / 8) 0xb) _ _ reach
    (either (is_short rex) (eqb (opcode / 8) 0x17) _ _
    (move_size rex.wide rex.register rex.index rex.base (extended (opcode % 8) rex.base) reach)
    (either (is_short rex) (eqb (opcode / 16) 0x7) _ _
    (mapped (is_short rex) (λ condition. row.Number (numbered.JumpIf condition) size.One)
    (condition_of (opcode % 16)) (λ c. refl))
    (fixed_short rex.wide rex.register rex.index rex.base opcode)))))

long_row : (opcode : ℕ) → if_some is_long (escaped_row_of opcode) ≡ true
unfolding escaped_row_of
long_row opcode =
    either is_long (eqb (opcode / 16) 0x8) _ _
    (mapped is_long (λ condition. row.Number (numbered.JumpIf condition) size.Four) (condition_of (opcode % 16))
    (λ c. refl))
    (either is_long (eqb opcode 0xb6) _ _ refl
    (either is_long (eqb opcode 0xaf) _ _ refl
    (either is_long (eqb opcode 0x1f) _ _ refl
    (either is_long (eqb opcode 0x0b) _ _ refl refl))))

found : (test : Row → Bool) (o : Option Row) (r : Row) → o ≡ Some r → if_some test o ≡ true → test r ≡ true
found test None r e h = absurd cc
found test (Some x) r e h = let same : x ≡ r = cc in subst (λ (y : Row). test y ≡ true) same h

-- which rows an opcode names, by its length
pub listed : (rex : Rex) (opcode : List ℕ) (r : Row) → named rex opcode ≡ Some r
    → ((is_short rex r ≡ true) × (length opcode ≡ 1))
    ⊎ (((is_long r ≡ true) × (length opcode ≡ 2)) ⊎ ((r ≡ row.EndBranch) × (length opcode ≡ 4)))
unfolding named
listed rex [] r e = absurd cc
listed rex (a ∷ []) r e = inl (found (is_short rex) (row_of rex a) r e (short_row rex a), refl)
listed rex (a ∷ b ∷ []) r e =
    elim (chosen (eqb a 0x0f) _ _ _ e) [
      | inl h ↦ inr (inl (found is_long (escaped_row_of b) r h.1 (long_row b), refl))
      | inr h ↦ absurd (let n = h.1 in cc)
    ]
listed rex (a ∷ b ∷ c ∷ []) r e = absurd cc
listed rex (a ∷ b ∷ c ∷ d ∷ []) r e =
    elim (chosen ((((eqb a 0xf3) && (eqb b 0x0f)) && (eqb c 0x1e)) && (eqb d 0xfa)) _ _ _ e) [
      | inl h ↦ inr (inr (let s = h.1 in cc, refl))
      | inr h ↦ absurd (let n = h.1 in cc)
    ]
listed rex (a ∷ b ∷ c ∷ d ∷ x ∷ more) r e = absurd cc
