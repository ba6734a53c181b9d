-- What is ready of an instance is what the meaning loads of it.
use Rattle.std.proofs.Common.{◌≡◌, ◌∙◌, ℕ, zero, suc, List, [], ◌∷◌, ◌++◌, All, length, map, Option, Some, Result, Ok}
use Rattle.std.proofs.Common.{Err, IfSome, refl, sym, ap, subst}
use Rattle.std.specs.Prelude.{IfOk, option_map, slice_get}
use Rattle.std.proofs.lemmas.Option.{get_or_from_slice_get, slice_get_within}
use Rattle.memory_image.specs.Tables.{Keeps}
use Rattle.job_meaning.specs.declared.values.Byte.TheVariants.{Value}
use Rattle.link_core.specs.Faults.{IsSound}
use Rattle.link_core.specs.Laws.{HasNoStray}
use Rattle.link_needs.specs.Given.{IsGiven}
use Rattle.link_needs.specs.Linking.{Linking}
use Rattle.loaded_modules.specs.declared.instance.Instance.{Instance}
use Rattle.thread_blocks.specs.Turns.{at_number}
use Rattle.whole_meaning.specs.Bytes.{block_bytes}
use Rattle.whole_meaning.specs.Loads.{data_ranges, loads_of, still_ranges}
use Rattle.whole_meaning.specs.Spots.{bias_of}
use Rattle.meant_images.specs.Images.{AreSound}

pub found_at : {X Y : Type 0} (f : X → Y) (r : Option X) (o : Option Y) (x : X) → option_map f r ≡ o → r ≡ Some x
    → o ≡ Some (f x)
found_at f r o x e is = sym e ∙ ap (option_map f) is

pub some_of : {X : Type 0} (P : X → Type 0) (r : Option X) (x : X) → r ≡ Some x → IfSome r P → P x
some_of P r x is h = subst (λ o. IfSome o P) is h

pub ok_as : {X E : Type 0} (P Q : X → Type 0) (r : Result X E) → ((x : X) → P x → Q x) → IfOk r P → IfOk r Q
ok_as P Q (Ok x) more h = more x h
ok_as P Q (Err e) more h = tt

-- what all images have, each has
of_all : (P : Linking → Type 0) (ls : List Linking) (n : ℕ) (l : Linking) → All P ls → at_number ls n ≡ Some l → P l
of_all P ls zero l all at = cc
of_all P ls (suc i) l all at = subst P (get_or_from_slice_get ls i l l at) (all i l (slice_get_within ls i l at))

module _ (ls : List Linking) (x : Instance) (l : Linking) (at : at_number ls x.image ≡ Some l) where
  pub keeps_at : ((l : Linking) (number : ℕ) → IsGiven l → IsSound l → HasNoStray l → Keeps l (bias_of l.kind number))
      → AreSound ls
      → Keeps l (bias_of l.kind x.number)
  keeps_at law sound =
      law l x.number (of_all IsGiven ls x.image l sound.given at) (of_all IsSound ls x.image l sound.sound at)
      (of_all HasNoStray ls x.image l sound.stray at)

  pub fixed_is : still_ranges l (bias_of l.kind x.number) ≡ (loads_of ls).fixed x
  unfolding loads_of
  fixed_is = rw at refl

  pub shared_is : data_ranges l (bias_of l.kind x.number) ≡ (loads_of ls).shared x
  unfolding loads_of
  shared_is = rw at refl

  pub block_is : map Value (block_bytes l (bias_of l.kind x.number)) ≡ (loads_of ls).block x
  unfolding loads_of
  block_is = rw at refl

-- one more, at the end of both lists
pub pushed : {X Y : Type 0} (P : X → Y → Type 0) (xs : List X) (ys : List Y) (x : X) (y : Y)
    → slice_get xs (length ys) ≡ Some x → P x y
    → ((i : ℕ) (a : X) (b : Y) → slice_get xs i ≡ Some a → slice_get ys i ≡ Some b → P a b)
    → (i : ℕ) (a : X) (b : Y) → slice_get xs i ≡ Some a → slice_get (ys ++ y ∷ []) i ≡ Some b → P a b
pushed P xs [] x y at p old zero a b xa yb =
    let left : x ≡ a = cc in
    let right : y ≡ b = cc in
    subst (λ z. P a z) right (subst (λ z. P z y) left p)
pushed P xs [] x y at p old (suc i) a b xa yb = cc
pushed P [] (z ∷ ys) x y at p old i a b xa yb = cc
pushed P (w ∷ xs) (z ∷ ys) x y at p old zero a b xa yb = old zero a b xa yb
pushed P (w ∷ xs) (z ∷ ys) x y at p old (suc i) a b xa yb =
    pushed P xs ys x y at p (λ j a b. old (suc j) a b) i a b xa yb
