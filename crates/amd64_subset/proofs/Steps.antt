-- Steps of reading: what did not fail.
use Rattle.std.proofs.Common.{◌≡◌, ℕ, Bool, true, false, cond, Option, Some, None, Result, Ok, Err, refl, inl, inr, ◌⊎◌}
use Rattle.std.specs.Prelude.{ok_or}
use Rattle.amd64_subset.specs.declared.fault.Fault.{Fault}
use Rattle.amd64_subset.specs.declared.fault.Fault.TheVariants.{Short, Wrong}
use Rattle.amd64_subset.specs.Reading.{◌>>=◌}

-- the value of a step that did not fail
pub bind_ok : {A B : Type 0} (r : Result A Fault) (f : A → Result B Fault) (y : B) → (r >>= f) ≡ Ok y
    → (x : A) × (r ≡ Ok x) × (f x ≡ Ok y)
bind_ok (Ok x) f y e = (x, refl, e)
bind_ok (Err d) f y e = absurd cc

-- which way a test went
pub chosen : {A : Type 0} (b : Bool) (x y z : A) → cond b x y ≡ z → ((b ≡ true) × (x ≡ z)) ⊎ ((b ≡ false) × (y ≡ z))
chosen true x y z e = inl (refl, e)
chosen false x y z e = inr (refl, e)

-- a test that did not refuse
pub kept : {A : Type 0} (b : Bool) (d : Fault) (x : Result A Fault) (y : A) → cond b (Err d) x ≡ Ok y
    → (b ≡ false) × (x ≡ Ok y)
kept true d x y e = absurd cc
kept false d x y e = (refl, e)

pub kept_if : {A : Type 0} (b : Bool) (d : Fault) (x : Result A Fault) (y : A) → cond b x (Err d) ≡ Ok y
    → (b ≡ true) × (x ≡ Ok y)
kept_if true d x y e = (refl, e)
kept_if false d x y e = absurd cc

pub ok_or_ok : {A : Type 0} (o : Option A) (x : A) → ok_or o Wrong ≡ Ok x → o ≡ Some x
ok_or_ok (Some y) x e = cc
ok_or_ok None x e = absurd cc

abbrev done : {A : Type 0} → A → Result A Fault
done x = Ok x

pub ok_is : {A : Type 0} (x y : A) → done x ≡ done y → x ≡ y
ok_is x y e = cc

-- a reading that lacks bytes lacks them in one of its steps
pub bind_short : {A B : Type 0} (r : Result A Fault) (f : A → Result B Fault) (n : ℕ) → (r >>= f) ≡ Err (Short n)
    → (r ≡ Err (Short n)) ⊎ ((x : A) × (r ≡ Ok x) × (f x ≡ Err (Short n)))
bind_short (Ok x) f n e = inr (x, refl, e)
bind_short (Err d) f n e = inl cc

-- a test that did not refuse a reading which lacks bytes
pub kept_short : {A : Type 0} (b : Bool) (x : Result A Fault) (n : ℕ) → cond b (Err Wrong) x ≡ Err (Short n)
    → (b ≡ false) × (x ≡ Err (Short n))
kept_short true x n e = absurd cc
kept_short false x n e = (refl, e)

pub kept_if_short : {A : Type 0} (b : Bool) (x : Result A Fault) (n : ℕ) → cond b x (Err Wrong) ≡ Err (Short n)
    → (b ≡ true) × (x ≡ Err (Short n))
kept_if_short true x n e = (refl, e)
kept_if_short false x n e = absurd cc

pub ok_or_short : {A : Type 0} (o : Option A) (n : ℕ) → ok_or o Wrong ≡ Err (Short n) → ⊥
ok_or_short None n e = cc
ok_or_short (Some x) n e = cc
