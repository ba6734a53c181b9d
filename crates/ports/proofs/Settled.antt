-- Claims that are taken back, one by one.
use Rattle.std.proofs.Common.{◌≡◌, ◌∙◌, ap, ◌≢◌, ◌-◌, ℕ, List, ◌∷◌, Some, Result, Ok, Err, Vec, Global, inl, inr, refl}
use Rattle.std.proofs.Common.{subst, suc, sym, zero}
use Rattle.std.proofs.Common.{arith}
use Rattle.std.specs.Prelude.{IsErrOf}
use Rattle.std.proofs.lemmas.Result.{IfErr-at_err}
use Rattle.ports.specs.declared.faults.FetchFault.{FetchFault}
use Rattle.ports.specs.declared.faults.FetchFault.TheVariants as fetch
use Rattle.ports.specs.declared.claims.Claim.{Claim}
use Rattle.ports.specs.ClaimLaws.{Goes, Settles}

ok_is_no_refusal : {T E : Type 0} (x : T) (e : E) → IsErrOf (Ok x) e → ⊥
ok_is_no_refusal x e same = IfErr-at_err (λ _. ⊥) {r = Ok x} same tt

-- a call that gave a file was not set to fail
pub not_due : {T : Type 0} (due : ℕ) (file : T) → (due ≡ 1 → IsErrOf (Ok file) fetch.Failed) → due ≢ 1
not_due due file fails e = ok_is_no_refusal file fetch.Failed (fails e)

-- a file came, and the rest are settled
pub settles_more : {B T : Type 0} (due after now : ℕ) (claim : Claim B) (claims : List (Claim B)) (file : Vec ℕ Global)
    (result : Result T FetchFault) → claim.came ≡ Some (Ok file) → due ≢ 1 → after ≡ due - 1
    → Settles after now claims result
    → Settles due now (claim ∷ claims) result
settles_more due after now claim claims file result came late next rest =
    inr (
      late,
      subst (λ c. Goes c result (now ≡ due - 1) (Settles (due - 1) now claims result)) (sym came)
          (inl (subst (λ (n : ℕ). Settles n now claims result) next rest)),
    )

-- a file came, and there is no memory for it
pub settles_short : {B T : Type 0} (due after : ℕ) (claim : Claim B) (claims : List (Claim B)) (file : Vec ℕ Global)
    → claim.came ≡ Some (Ok file) → due ≢ 1 → after ≡ due - 1
    → Settles {B = B} {T = T} due after (claim ∷ claims) (Err fetch.OutOfMemory)
settles_short {B} {T} due after claim claims file came late next =
    inr (
      late,
      subst (λ c. Goes {T = T} c (Err fetch.OutOfMemory) (after ≡ due - 1)
          (Settles {B = B} {T = T} (due - 1) after claims (Err fetch.OutOfMemory)))
          (sym came) (inr (refl, next)),
    )

-- the call was set to fail, or a refusal came
pub settles_refused : {B T : Type 0} (due after : ℕ) (claim : Claim B) (claims : List (Claim B))
    (read : Result (Vec ℕ Global) FetchFault) (fault : FetchFault) → claim.came ≡ Some read
    → (due ≡ 1 → IsErrOf {T = Vec ℕ Global} (Err fault) fetch.Failed) → (due ≢ 1 → Err fault ≡ read) → after ≡ due - 1
    → Settles {B = B} {T = T} due after (claim ∷ claims) (Err fault)
settles_refused {B} {T} zero after claim claims read fault came fails given next =
    let late : zero ≢ 1 = λ e. absurd (omega (arith, e)) in
    inr (
      late,
      subst (λ c. Goes {T = T} c (Err fault) (after ≡ 0 - 1) (Settles {B = B} {T = T} (0 - 1) after claims (Err fault)))
          (sym (came ∙ ap Some (sym (given late)))) (refl, next),
    )
settles_refused (suc zero) after claim claims read fault came fails given next =
    inl (refl, ap Err (IfErr-at_err (λ f. fault ≡ f) {r = Err fault} (fails refl) refl), next)
settles_refused {B} {T} (suc (suc n)) after claim claims read fault came fails given next =
    let late : suc (suc n) ≢ 1 = λ e. absurd (omega (arith, e)) in
    inr (
      late,
      subst (λ c. Goes {T = T} c (Err fault) (after ≡ suc (suc n) - 1)
          (Settles {B = B} {T = T} (suc (suc n) - 1) after claims (Err fault)))
          (sym (came ∙ ap Some (sym (given late)))) (refl, next),
    )
