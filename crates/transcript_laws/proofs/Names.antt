-- The names of the images of a job that a text spells: no two are one, and each is a word.
use Rattle.std.proofs.Common.{◌≡◌, ◌∙◌, ℕ, zero, suc, ◌+◌, ◌-◌, ◌<◌, ◌≤◌, Bool, true, false, ◌&&◌, ◌||◌, ◌==◌}
use Rattle.std.proofs.Common.{List, [], ◌∷◌, length, Option, Some, Ok}
use Rattle.std.proofs.Common.{refl, sym, ap}
use Rattle.std.proofs.Common.{subst, arith, leb-true, eqb-true}
use Rattle.std.proofs.lemmas.Bool.{and_parts}
use Rattle.std.proofs.lemmas.Iterator.Adapters.{position_from-zero}
use Rattle.std.proofs.lemmas.Option.{same_Some}
use Rattle.std.proofs.lemmas.Slice.Eq.{bytes_eq-Decides}
use Rattle.std.specs.List.{position_from}
use Rattle.std.specs.Option.{option_map, option_map_or}
use Rattle.std.specs.Prelude.{nat_le, slice_get}
use Rattle.job_text.specs.Grammar.{has_name_bytes}
use Rattle.job_text.specs.Grammar.{is_name_byte}
use Rattle.job_text.specs.Images.{image_name, image_number, is_named}
use Rattle.job_text.specs.Jobs.{JobParts, job_of}
use Rattle.job_text.specs.declared.images.Image.{Image}
use Rattle.job_grammar_laws.proofs.Apart.{AreApart, Differs, flipped, images_kept}
use Rattle.transcript_laws.proofs.Found.{AreTold}
use Rattle.transcript_laws.proofs.Words.{From}

-- ** an image is found by its name

position_past : (name : List ℕ) (i k : ℕ) (xs : List Image) (x : Image) → AreApart xs → slice_get xs k ≡ Some x
    → position_from (is_named x.name) i xs ≡ Some (i + k)
position_past name i k [] x are is = absurd (cc is)
position_past name i zero (y ∷ xs) x are is =
    let same : y ≡ x = same_Some y x is in
    let named : is_named x.name y ≡ true = (bytes_eq-Decides x.name y.name).1 (ap (λ (z : Image). z.name) (sym same)) in
    rw named (ap Some (omega arith))
position_past name i (suc k) (y ∷ xs) x are is =
    rw (flipped y.name x.name (differs_at y.name k xs x are.1 is))
    (position_past name (i + 1) k xs x are.2 is ∙ ap Some (omega arith))
  where
    differs_at : (name : List ℕ) (k : ℕ) (xs : List Image) (x : Image) → Differs name xs → slice_get xs k ≡ Some x
        → is_named name x ≡ false
    differs_at name k [] x are is = absurd (cc is)
    differs_at name zero (z ∷ xs) x are is = subst (λ (y : Image). is_named name y ≡ false) (same_Some z x is) are.0
    differs_at name (suc k) (z ∷ xs) x are is = differs_at name k xs x are.1 is

solid : (b : ℕ) → is_name_byte b ≡ true → 33 ≤ b
solid b e = by (nat_le 65 b) (nat_le 97 b) (nat_le 48 b) refl refl refl e
  where
    by : (upper lower digit : Bool) → nat_le 65 b ≡ upper → nat_le 97 b ≡ lower → nat_le 48 b ≡ digit
        → ((upper && nat_le b 90) || (lower && nat_le b 122) || (digit && nat_le b 57) || (b == 95) || (b == 46)
        || (b == 45)) ≡ true → 33 ≤ b
    by true lower digit u l d is = omega (arith, leb-true 65 b u)
    by false true digit u l d is = omega (arith, leb-true 97 b l)
    by false false true u l d is = omega (arith, leb-true 48 b d)
    by false false false u l d is = last (b == 95) (b == 46) refl refl is
      where
        last : (x y : Bool) → (b == 95) ≡ x → (b == 46) ≡ y → (x || y || (b == 45)) ≡ true → 33 ≤ b
        last true y p q is = omega (arith, eqb-true b 95 p)
        last false true p q is = omega (arith, eqb-true b 46 q)
        last false false p q is = omega (arith, eqb-true b 45 is)

name_From : (name : List ℕ) → has_name_bytes name ≡ true → From 33 name
name_From [] e = tt
name_From (b ∷ name) e =
    let parts = and_parts (is_name_byte b) (has_name_bytes name) e in
    (solid b parts.0, name_From name parts.1)

name_at : (xs : List Image) (k : ℕ) (x : Image) → AreApart xs → slice_get xs k ≡ Some x → From 33 x.name
name_at [] k x are is = absurd (cc is)
name_at (y ∷ xs) zero x are is =
    subst (λ (z : Image). From 33 z.name) (same_Some y x is)
    (name_From y.name (and_parts _ (has_name_bytes y.name) are.0.name).1)
name_at (y ∷ xs) (suc k) x are is = name_at xs k x are.2 is

there : {X : Type 0} (xs : List X) (k : ℕ) → k < length xs → (x : X) × (slice_get xs k ≡ Some x)
there [] k lt = absurd (omega arith)
there (x ∷ xs) zero lt = (x, refl)
there (x ∷ xs) (suc k) lt = there xs k (omega arith)

pub told : (images : List Image) → AreApart images → AreTold images
told images are n is =
    let found = there images (n - 1) (omega (arith, is.0, is.1)) in
    let name : image_name images n ≡ found.0.name =
    ap (λ (o : Option Image). option_map_or (λ image. image.name) o []) found.1 in
    let back : n - 1 + 1 ≡ n = omega (arith, is.0) in (
      subst (From 33) (sym name) (name_at images (n - 1) found.0 are found.1),
      ap (image_number images) name
          ∙ ap (option_map (λ index. index + 1)) (position_from-zero (is_named found.0.name) images
          ∙ position_past found.0.name 0 (n - 1) images found.0 are found.1)
          ∙ ap Some (omega arith),
    )

pub names_told : (text : List ℕ) (job : JobParts) → job_of text ≡ Ok job → AreTold job.images
names_told text job is = told job.images (images_kept text job is).0
