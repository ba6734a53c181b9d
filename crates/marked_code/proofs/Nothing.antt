-- A step where the meaning has no code: there the machine has none.
use Rattle.std.proofs.Common.{◌≡◌, ℕ, Bool, true, false, List, [], length, take, Option, Some, None, Err, refl, sym, ap}
use Rattle.std.proofs.Common.{subst, ◌∙◌, arith}
use Rattle.std.specs.Prelude.{if◌then◌else◌}
use Rattle.amd64_subset.specs.declared.instr.Decoded.{Decoded}
use Rattle.amd64_subset.specs.Beginning.{begins_of}
use Rattle.amd64_subset.specs.Decoding.{decoded}
use Rattle.guest_arithmetic.specs.declared.cause.Cause.{Cause}
use Rattle.guest_arithmetic.specs.Values.{Operations}
use Rattle.guest_operands.specs.declared.state.State.{State}
use Rattle.guest_operands.specs.declared.stop.Stop.TheVariants.{Code}
use Rattle.guest_operands.specs.Access.{Accesses, code_at, fetch_of}
use Rattle.guest_operands.specs.Use.{After}
use Rattle.guest_machine.specs.Follow.{Follows, Alike, SameState, SameAfter}
use Rattle.guest_machine.specs.Step.{step_of}
use Rattle.job_meaning.specs.Reading.{completed}
use Rattle.job_meaning.proofs.Reading.{placed_of, length_of}
use Rattle.tied_meaning.specs.Codes.{SameCode, SameCodeByte}
use Rattle.whole_meaning.specs.declared.marks.Mark.{Mark}
use Rattle.whole_meaning.specs.declared.marks.Mark.TheVariants.{Usual, Offset, Address, Inside}
use Rattle.whole_meaning.specs.Reading.{hindrance, hindrance_of, plain_step}
use Rattle.marked_code.proofs.Fetched.{code-none}

module _ {W F B W' F' B' : Type 0} (same : Alike W F B W' F' B') (ops : Operations W F B) (ops' : Operations W' F' B')
    {M M' : Type 0} (acc : Accesses M B) (acc' : Accesses M' B') (Same : M → M' → Type 0) (shut : M → ℕ → Bool)
    (mark : ℕ → Mark) (s : State W F) (s' : State W' F') (m : M) (m' : M') (h : SameState same s s')
    (code : SameCode same ops ops' mark (shut m) acc acc' m m') (outside : shut m s.place ≡ false) where
  abbrev Then : After W F M → After W' F' M' → Type 0
  Then = SameAfter same Same

  nothing-byte : (μ : Mark) (a' : Option ℕ) → SameCodeByte μ None a' → (μ ≡ Usual) × (a' ≡ None)
  nothing-byte Usual a' e = (refl, e)
  nothing-byte (Offset number byte) a' e = absurd e.1
  nothing-byte (Address number addend byte) a' e = absurd e.1
  nothing-byte Inside a' e = absurd e

  no-hindrance : (b : Bool) (it : Option Decoded) (μ : Mark) → μ ≡ Usual
      → ◌≡◌ {A = Option Cause} (if b then hindrance_of ops mark s it 0 μ else None) None
  no-hindrance false it μ e = refl
  no-hindrance true None μ e = rw e refl
  no-hindrance true (Some d) μ e = rw e refl

  nothing-hinders : (xs : List ℕ) → xs ≡ [] → mark s.place ≡ Usual → hindrance ops mark s xs ≡ None
  unfolding hindrance
  nothing-hinders xs e usual_there =
      rw e (no-hindrance (begins_of (take 0 [])) (completed []) (mark s.place) usual_there)

  nothing-read : (xs : List ℕ) → xs ≡ [] → (o : Option Decoded) → decoded xs ≡ o → decoded xs ≡ None
  nothing-read xs e None f = f
  nothing-read xs e (Some d) f = absurd (omega (arith, (placed_of xs d f).some, length_of xs d f, ap length e))

  pub nothing_follows : acc.code m s.place ≡ None
      → Follows Then (plain_step ops acc mark s m) (step_of ops' acc' (λ place. false) s' m')
  unfolding plain_step step_of fetch_of
  nothing_follows none =
      let both = nothing-byte (mark s.place) (acc'.code m' s.place)
      (subst (λ (o : Option ℕ). SameCodeByte (mark s.place) o (acc'.code m' s.place)) none
      (code.first s.place outside)) in
      let mine : code_at acc m s.place 15 ≡ [] = code-none acc m 14 s.place none in
      let theirs : code_at acc' m' s'.place 15 ≡ [] =
      code-none acc' m' 14 s'.place (ap (λ p. acc'.code m' p) (sym h.place) ∙ both.1) in
      rw (
        nothing-hinders (code_at acc m s.place 15) mine both.0,
        nothing-read (code_at acc m s.place 15) mine _ refl,
        nothing-read (code_at acc' m' s'.place 15) theirs _ refl,
      )
      (ap (λ place. Err (Code place)) (sym h.place))
