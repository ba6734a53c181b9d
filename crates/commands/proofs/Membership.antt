-- What stands in a list.
use Rattle.std.proofs.Common.{◌≡◌, ◌∙◌, ℕ, zero, suc, Bool, true, false, cond, List, All, [], ◌∷◌, ◌++◌, map, Option}
use Rattle.std.proofs.Common.{Some, None, ◌⊎◌, inl, inr, refl, sym, ap, subst, arith}
use Rattle.std.specs.Prelude.{slice_get}
use Rattle.std.proofs.lemmas.List.Elements.{All-head, All-tail}
use Rattle.std.specs.List.{Contains, filter, filter_map, flat_map, cons_option}

abbrev pub In : {X : Type 0} → List X → X → Type 0
In [] x = ⊥
In (y ∷ ys) x = (y ≡ x) ⊎ In ys x

pub in_at : {X : Type 0} (xs : List X) (k : ℕ) (x : X) → slice_get xs k ≡ Some x → In xs x
in_at [] k x e = cc
in_at (y ∷ ys) zero x e = inl cc
in_at (y ∷ ys) (suc k) x e = inr (in_at ys k x e)

pub at_in : {X : Type 0} (xs : List X) (x : X) → In xs x → (k : ℕ) × (slice_get xs k ≡ Some x)
at_in [] x i = absurd i
at_in {X} (y ∷ ys) x (inl e) = (0, ap (λ (v : X). Some v) e)
at_in (y ∷ ys) x (inr i) = let (k, e) = at_in ys x i in (suc k, e)

pub in_contains : {X : Type 0} (xs : List X) (x : X) → Contains xs x → In xs x
in_contains [] x (k, h, e) = absurd (omega arith)
in_contains (y ∷ ys) x (zero, h, e) = inl e
in_contains (y ∷ ys) x (suc k, h, e) = inr (in_contains ys x (k, omega arith, e))

pub of_all : {X : Type 0} (P : X → Type 0) (xs : List X) (x : X) → All P xs → In xs x → P x
of_all P [] x all i = absurd i
of_all P (y ∷ ys) x all (inl e) = subst P e (All-head P y ys all)
of_all P (y ∷ ys) x all (inr i) = of_all P ys x (All-tail P y ys all) i

in_left : {X : Type 0} (xs ys : List X) (x : X) → In xs x → In (xs ++ ys) x
in_left [] ys x i = absurd i
in_left (z ∷ zs) ys x (inl e) = inl e
in_left (z ∷ zs) ys x (inr i) = inr (in_left zs ys x i)

in_right : {X : Type 0} (xs ys : List X) (x : X) → In ys x → In (xs ++ ys) x
in_right [] ys x i = i
in_right (z ∷ zs) ys x i = inr (in_right zs ys x i)

pub in_flat : {X Y : Type 0} (f : X → List Y) (xs : List X) (x : X) (y : Y) → In xs x → In (f x) y
    → In (flat_map f xs) y
in_flat f [] x y i h = absurd i
in_flat f (z ∷ zs) x y (inl e) h = in_left (f z) (flat_map f zs) y (subst (λ v. In (f v) y) (sym e) h)
in_flat f (z ∷ zs) x y (inr i) h = in_right (f z) (flat_map f zs) y (in_flat f zs x y i h)

in_cons : {X : Type 0} (o : Option X) (xs : List X) (x : X) → In xs x → In (cons_option o xs) x
in_cons None xs x i = i
in_cons (Some y) xs x i = inr i

pub in_filter_map : {X Y : Type 0} (h : X → Option Y) (xs : List X) (x : X) (y : Y) → In xs x → h x ≡ Some y
    → In (filter_map h xs) y
in_filter_map h [] x y i s = absurd i
in_filter_map h (z ∷ zs) x y (inl e) s =
    subst (λ o. In (cons_option o (filter_map h zs)) y) (sym (ap h e ∙ s)) (inl refl)
in_filter_map h (z ∷ zs) x y (inr i) s = in_cons (h z) (filter_map h zs) y (in_filter_map h zs x y i s)

skip : {X : Type 0} (b : Bool) (z : X) (zs : List X) (x : X) → In zs x → In (cond b (z ∷ zs) zs) x
skip true z zs x i = inr i
skip false z zs x i = i

pub in_filter : {X : Type 0} (t : X → Bool) (xs : List X) (x : X) → In xs x → t x ≡ true → In (filter t xs) x
in_filter t [] x i h = absurd i
in_filter t (z ∷ zs) x (inl e) h = subst (λ b. In (cond b (z ∷ filter t zs) (filter t zs)) x) (sym (ap t e ∙ h)) (inl e)
in_filter t (z ∷ zs) x (inr i) h = skip (t z) z (filter t zs) x (in_filter t zs x i h)

-- what is the same at each element gives the same list
pub map_same : {X Y : Type 0} (f g : X → Y) (xs : List X) → ((x : X) → In xs x → f x ≡ g x) → map f xs ≡ map g xs
map_same f g [] h = refl
map_same f g (x ∷ xs) h = let e = h x (inl refl) in let es = map_same f g xs (λ y i. h y (inr i)) in cc
