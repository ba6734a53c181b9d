-- The first cause in the order whose row holds, where each row is decided by a test.
use Rattle.std.proofs.Common.{◌≡◌, ◌⊎◌, inl, inr, ℕ, Bool, true, false, List, [], ◌∷◌, Option, Some, None, Result, Ok}
use Rattle.std.proofs.Common.{Err, refl, sym, ap, subst, ◌∙◌}
use Rattle.std.specs.Prelude.{if◌then◌else◌, not}
use Rattle.std.specs.Option.{option_or}
use Rattle.guest_arithmetic.specs.declared.cause.Cause.{Cause}
use Rattle.guest_arithmetic.specs.declared.cause.Cause.TheVariants as cause
use Rattle.guest_arithmetic.specs.Cause.{first_cause}
use Rattle.guest_operands.specs.declared.stop.Stop.{Stop}
use Rattle.guest_operands.specs.declared.stop.Stop.TheVariants.{Returned, Look, Address, Code, Unclean, Steps}
use Rattle.guest_machine.specs.Run.{Next, Goes, Ends, Looks, next_of}
use Rattle.guest_machine.specs.Use.{After}
use Rattle.job_meaning.specs.Reading.{linker_with}
use Rattle.whole_meaning.specs.Running.{asked}
use Rattle.cause_laws.specs.Rows.{IsFirst, order}
use Rattle.cause_laws.proofs.Picks.{pick4}
use Rattle.cause_laws.proofs.Uses.{Tells, TellsStop}

-- ** tests

pub record Decides (Row : Cause → Type 0) (test : Cause → Bool) : Type 0 where
  pub yes : (why : Cause) → test why ≡ true → Row why
  pub no : (why : Cause) → test why ≡ false → Row why → ⊥

abbrev pub first_by : (Cause → Bool) → List Cause → Option Cause
first_by test [] = None
first_by test (why ∷ more) = if test why then Some why else first_by test more

module _ (Row : Cause → Type 0) (test : Cause → Bool) (decides : Decides Row test) where
  pub first-found : (causes : List Cause) (why : Cause) → first_by test causes ≡ Some why → IsFirst Row causes why
  first-found [] why e = absurd cc
  first-found (first ∷ more) why e = by_test (test first) refl e (first-found more why)
    where
      by_test : (b : Bool) → test first ≡ b → (if b then Some first else first_by test more) ≡ Some why
          → (first_by test more ≡ Some why → IsFirst Row more why)
          → (Row first × (first ≡ why)) ⊎ ((Row first → ⊥) × IsFirst Row more why)
      by_test true is e rest = let same : first ≡ why = cc in inl (decides.yes first is, same)
      by_test false is e rest = inr (decides.no first is, rest e)

  pub first-only : (causes : List Cause) (why : Cause) → IsFirst Row causes why → first_by test causes ≡ Some why
  first-only [] why h = absurd h
  first-only (first ∷ more) why (inl h) = by_test (test first) refl
    where
      by_test : (b : Bool) → test first ≡ b → (if b then Some first else first_by test more) ≡ Some why
      by_test true is = ap (λ (c : Cause). Some c) h.1
      by_test false is = absurd (decides.no first is h.0)
  first-only (first ∷ more) why (inr h) = by_test (test first) refl (first-only more why h.1)
    where
      by_test : (b : Bool) → test first ≡ b → first_by test more ≡ Some why
          → (if b then Some first else first_by test more) ≡ Some why
      by_test true is rest = absurd (h.0 (decides.yes first is))
      by_test false is rest = rest

-- ** what is next

abbrev pub TellsNext : {S : Type 0} → ℕ → Next S → Option Cause → Type 0
TellsNext here (Goes s) c = c ≡ None
TellsNext here (Ends stop) c = TellsStop here stop c
TellsNext here (Looks s) c = c ≡ None

pub next-tells : {W F M : Type 0} (here : ℕ) (r : Result (After W F M) Stop) (c : Option Cause) → Tells here r c
    → TellsNext here (next_of r) c
next-tells here (Ok x) c h = h
next-tells here (Err stop) c h = h

stop-answers : (here : ℕ) (stop : Stop) (c : Option Cause) (why : Cause) → TellsStop here stop c → c ≡ Some why
    → stop ≡ Unclean here why
stop-answers here (Returned n) c why h e = let no : None ≡ Some why = sym h ∙ e in absurd cc
stop-answers here (Look n) c why h e = let no : None ≡ Some why = sym h ∙ e in absurd cc
stop-answers here (Address n) c why h e = let no : None ≡ Some why = sym h ∙ e in absurd cc
stop-answers here (Code n) c why h e = let no : None ≡ Some why = sym h ∙ e in absurd cc
stop-answers here (Unclean at other) c why h e =
    let both : Some other ≡ Some why = sym h.1 ∙ e in let same : other ≡ why = cc in rw (h.0, same) refl
stop-answers here (Steps n) c why h e = let no : None ≡ Some why = sym h ∙ e in absurd cc

pub next-answers : {S : Type 0} (here : ℕ) (next : Next S) (c : Option Cause) (why : Cause) → TellsNext here next c
    → c ≡ Some why
    → next ≡ Ends (Unclean here why)
next-answers here (Goes s) c why h e = let no : None ≡ Some why = sym h ∙ e in absurd cc
next-answers here (Looks s) c why h e = let no : None ≡ Some why = sym h ∙ e in absurd cc
next-answers here (Ends stop) c why h e = ap (λ (x : Stop). Ends x) (stop-answers here stop c why h e)

pub next-told : {S : Type 0} (here : ℕ) (next : Next S) (c : Option Cause) (at : ℕ) (why : Cause)
    → TellsNext here next c
    → next ≡ Ends (Unclean at why) → (at ≡ here) × (c ≡ Some why)
next-told here next c at why h e = subst (λ n. TellsNext here n c) e h

-- a step past the limit
pub asked-tells : {S : Type 0} (here : ℕ) (next : Next S) (c : Option Cause) → TellsNext here next c
    → TellsStop here (asked here next) (option_or c (Some cause.Steps))
asked-tells here (Goes s) c h = (refl, rw h refl)
asked-tells here (Looks s) c h = (refl, rw h refl)
asked-tells here (Ends (Returned n)) c h = (refl, rw h refl)
asked-tells here (Ends (Look n)) c h = (refl, rw h refl)
asked-tells here (Ends (Address n)) c h = (refl, rw h refl)
asked-tells here (Ends (Code n)) c h = (refl, rw h refl)
asked-tells here (Ends (Unclean at why)) c h = (h.0, rw (h.1) refl)
asked-tells here (Ends (Steps n)) c h = (refl, rw h refl)

-- ** what is the linker's comes before the uses

linker-first : (u f b d : Bool) (why : Cause) → pick4 u f b d ≡ Some why → first_cause why cause.Linker ≡ cause.Linker
linker-first true f b d why e = let is : cause.Undefined ≡ why = cc in rw (← is) refl
linker-first false true b d why e = let is : cause.Flags ≡ why = cc in rw (← is) refl
linker-first false false true d why e = let is : cause.Base ≡ why = cc in rw (← is) refl
linker-first false false false true why e = let is : cause.Descriptor ≡ why = cc in rw (← is) refl
linker-first false false false false why e = absurd cc

pub beside-linker : {A : Type 0} (here : ℕ) (r : Result A Stop) (u f b d : Bool) → Tells here r (pick4 u f b d)
    → linker_with r ≡ cause.Linker
beside-linker here (Ok x) u f b d h = refl
beside-linker here (Err (Returned n)) u f b d h = refl
beside-linker here (Err (Look n)) u f b d h = refl
beside-linker here (Err (Address n)) u f b d h = refl
beside-linker here (Err (Code n)) u f b d h = refl
beside-linker here (Err (Unclean at why)) u f b d h = linker-first u f b d why h.1
beside-linker here (Err (Steps n)) u f b d h = refl

-- ** the tests of a step, in the order

-- r: what stops the reading; l: whether something of the linker's is reached; u, f, b, d: whether an undefined word, an
-- undefined flag, a base, a descriptor is used
abbrev pub is_inside : Option Cause → Bool
is_inside (Some cause.Inside) = true
is_inside r = false

abbrev pub is_field : Option Cause → Bool
is_field (Some cause.Field) = true
is_field r = false

abbrev pub test_of : Option Cause → Bool → Bool → Bool → Bool → Bool → Bool → Cause → Bool
test_of r l u f b d left cause.Inside = is_inside r
test_of r l u f b d left cause.Field = is_field r
test_of r l u f b d left cause.Linker = l
test_of r l u f b d left cause.Undefined = u
test_of r l u f b d left cause.Flags = f
test_of r l u f b d left cause.Base = b
test_of r l u f b d left cause.Descriptor = d
test_of r l u f b d left cause.Answer = false
test_of r l u f b d left cause.Steps = not left

-- with a step left, and without one
abbrev pub unless_left : Bool → Option Cause → Option Cause
unless_left true c = c
unless_left false c = option_or c (Some cause.Steps)

pub inside-first : (l u f b d left : Bool)
    → first_by (test_of (Some cause.Inside) l u f b d left) order ≡ unless_left left (Some cause.Inside)
inside-first l u f b d true = refl
inside-first l u f b d false = refl

pub field-first : (l u f b d left : Bool)
    → first_by (test_of (Some cause.Field) l u f b d left) order ≡ unless_left left (Some cause.Field)
field-first l u f b d true = refl
field-first l u f b d false = refl

pub linker-then : (u f b d left : Bool)
    → first_by (test_of None true u f b d left) order ≡ unless_left left (Some cause.Linker)
linker-then u f b d true = refl
linker-then u f b d false = refl

pub uses-then : (u f b d left : Bool)
    → first_by (test_of None false u f b d left) order ≡ unless_left left (pick4 u f b d)
uses-then true f b d true = refl
uses-then true f b d false = refl
uses-then false true b d true = refl
uses-then false true b d false = refl
uses-then false false true d true = refl
uses-then false false true d false = refl
uses-then false false false true true = refl
uses-then false false false true false = refl
uses-then false false false false true = refl
uses-then false false false false false = refl
