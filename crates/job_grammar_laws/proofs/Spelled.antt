-- The laws.
use Rattle.std.proofs.Common.{◌≡◌, ◌∙◌, ℕ, zero, suc, ◌≤◌, ◌<◌, Bool, true, false, not, ◌&&◌, ◌||◌, ◌==◌, List, []}
use Rattle.std.proofs.Common.{◌∷◌, length, Ok}
use Rattle.std.proofs.Common.{refl, sym, arith, leb-true, eqb-true}
use Rattle.std.proofs.Common.{inl, inr}
use Rattle.std.proofs.lemmas.Bool.{and_parts, cases_lt, false≢true}
use Rattle.std.proofs.lemmas.List.Elements.{All-cons, All-nil}
use Rattle.std.proofs.lemmas.Slice.Eq.{bytes_eq-Decides}
use Rattle.std.specs.List.{All, AllPairs, Contains, list_any}
use Rattle.std.specs.Prelude.{nat_le}
use Rattle.job_text.specs.Grammar.{has_name_bytes, has_name_length, is_image_name, is_name_byte, is_short_name}
use Rattle.job_text.specs.Groups.{of_text}
use Rattle.job_text.specs.Images.{IsImageNumber}
use Rattle.job_text.specs.Jobs.{JobParts, job_of}
use Rattle.job_text.specs.JobLaws.{IsJob, IsLineOf}
use Rattle.job_text.specs.Threads.{IsThread}
use Rattle.job_text.specs.declared.images.Image.{Image}
use Rattle.link_faults.specs.ImageKinds.{is_module}
use Rattle.link_faults.specs.declared.image_kind.ImageKind.{ImageKind}
use Rattle.link_faults.specs.declared.image_kind.ImageKind.TheVariants.{Exe, Pie, Start, Late}
use Rattle.job_grammar_laws.proofs.Apart.{AreApart, Differs, IsTold, images_kept}
use Rattle.job_grammar_laws.specs.Images.{InOrder, IsName, IsSpelled, letters}
use Rattle.job_grammar_laws.specs.Laws.{HasNoText, ImagesAreSpelled, SomeHaveNoText, no_objects, two_of_one_name}

-- ** names

-- each byte of a name stands in the table
abbrev stands : ℕ → Bool
stands b = list_any (λ letter. letter == b) letters

abbrev all_stand : ℕ → Bool
all_stand zero = true
all_stand (suc n) = (not (is_name_byte n) || stands n) && all_stand n

all_stand-at : (n b : ℕ) → all_stand n ≡ true → b < n → (not (is_name_byte b) || stands b) ≡ true
all_stand-at zero b e lt = absurd (omega arith)
all_stand-at (suc n) b e lt =
    let parts = and_parts (not (is_name_byte n) || stands n) (all_stand n) e in
    elim (cases_lt b n) [
      | inl below ↦ all_stand-at n b parts.1 below
      | inr top ↦ let same : b ≡ n = omega arith in rw same parts.0
    ]

-- the bytes of a name are ASCII
small : (b : ℕ) → is_name_byte b ≡ true → b < 128
small b e = by (nat_le b 90) (nat_le b 122) (nat_le b 57) refl refl refl e
  where
    by : (upper lower digit : Bool) → nat_le b 90 ≡ upper → nat_le b 122 ≡ lower → nat_le b 57 ≡ digit
        → ((nat_le 65 b && upper) || (nat_le 97 b && lower) || (nat_le 48 b && digit) || (b == 95) || (b == 46)
        || (b == 45)) ≡ true → b < 128
    by true lower digit u l d is = omega (arith, leb-true b 90 u)
    by false true digit u l d is = omega (arith, leb-true b 122 l)
    by false false true u l d is = omega (arith, leb-true b 57 d)
    by false false false u l d is =
        last (nat_le 65 b) (nat_le 97 b) (nat_le 48 b) (b == 95) (b == 46) refl refl is
      where
        last : (p q r x y : Bool) → (b == 95) ≡ x → (b == 46) ≡ y
            → ((p && false) || (q && false) || (r && false) || x || y || (b == 45)) ≡ true → b < 128
        last p q r true y e f is = omega (arith, eqb-true b 95 e)
        last p q r false true e f is = omega (arith, eqb-true b 46 f)
        last true true true false false e f is = omega (arith, eqb-true b 45 is)
        last true true false false false e f is = omega (arith, eqb-true b 45 is)
        last true false true false false e f is = omega (arith, eqb-true b 45 is)
        last true false false false false e f is = omega (arith, eqb-true b 45 is)
        last false true true false false e f is = omega (arith, eqb-true b 45 is)
        last false true false false false e f is = omega (arith, eqb-true b 45 is)
        last false false true false false e f is = omega (arith, eqb-true b 45 is)
        last false false false false false e f is = omega (arith, eqb-true b 45 is)

either : (a b : Bool) → (not a || b) ≡ true → a ≡ true → b ≡ true
either true b e is = e
either false b e is = absurd (false≢true is)

found : (table : List ℕ) (b : ℕ) → list_any (λ letter. letter == b) table ≡ true → Contains table b
found [] b e = absurd (false≢true e)
found (x ∷ xs) b e = by (x == b) refl (found xs b) e
  where
    by : (is : Bool) → (x == b) ≡ is → (list_any (λ letter. letter == b) xs ≡ true → Contains xs b)
        → (is || list_any (λ letter. letter == b) xs) ≡ true → Contains (x ∷ xs) b
    by true h later e = (0, omega arith, eqb-true x b h)
    by false h later e = let rest = later e in (suc rest.0, omega (arith, rest.1), rest.2)

bytes_spelled : (name : List ℕ) → has_name_bytes name ≡ true → All (Contains letters) name
bytes_spelled [] e = All-nil (Contains letters)
bytes_spelled (b ∷ more) e =
    let parts = and_parts (is_name_byte b) (has_name_bytes more) e in
    All-cons (Contains letters) b more
    (found letters b (either (is_name_byte b) (stands b) (all_stand-at 128 b refl (small b parts.0)) parts.0))
    (bytes_spelled more parts.1)

name_spelled : (name : List ℕ) → is_image_name name ≡ true → IsName name
name_spelled name is =
    let parts = and_parts (has_name_length name) (has_name_bytes name) is in
    let long = and_parts (nat_le 1 (length name)) (nat_le (length name) 64) parts.0 in
    record {
      some = leb-true 1 (length name) long.0;
      short = leb-true (length name) 64 long.1;
      bytes = bytes_spelled name parts.1;
    }

-- ** objects

objects_short : (objects : List (List ℕ)) → list_any (λ object. not (is_short_name object)) objects ≡ false
    → All (λ object. length object ≤ 255) objects
objects_short [] e = All-nil (λ (object : List ℕ). length object ≤ 255)
objects_short (object ∷ more) e = by (is_short_name object) refl (objects_short more) e
  where
    by : (short : Bool) → nat_le (length object) 255 ≡ short
        → (list_any (λ object. not (is_short_name object)) more ≡ false → All (λ object. length object ≤ 255) more)
        → (not short || list_any (λ object. not (is_short_name object)) more) ≡ false
        → All (λ object. length object ≤ 255) (object ∷ more)
    by true h later e =
        All-cons (λ (object : List ℕ). length object ≤ 255) object more (leb-true (length object) 255 h) (later e)
    by false h later e = absurd (false≢true (sym e))

pub spelled : (image : Image) → IsTold image → IsSpelled image
spelled image told = record {
  name = name_spelled image.name told.name;
  objects = told.objects;
  short = objects_short image.objects told.short;
}

all_spelled : (images : List Image) → AreApart images → All IsSpelled images
all_spelled [] are = All-nil IsSpelled
all_spelled (x ∷ xs) are = All-cons IsSpelled x xs (spelled x are.0) (all_spelled xs are.2)

-- ** names apart

abbrev NotNamed : Image → Image → Type 0
NotNamed a b = a.name ≡ b.name → ⊥

differ : (x : Image) (xs : List Image) → Differs x.name xs → All (NotNamed x) xs
differ x [] are = All-nil (NotNamed x)
differ x (y ∷ ys) are = All-cons (NotNamed x) y ys
    (λ e. false≢true (sym are.0 ∙ (bytes_eq-Decides x.name y.name).1 e)) (differ x ys are.1)

apart : (xs : List Image) → AreApart xs → AllPairs NotNamed xs
apart [] are i j d lt within = absurd (omega arith)
apart (x ∷ xs) are i zero d lt within = absurd (omega arith)
apart (x ∷ xs) are zero (suc j) d lt within = differ x xs are.1 j d (omega arith)
apart (x ∷ xs) are (suc i) (suc j) d lt within = apart xs are.2 i j d (omega arith) (omega arith)

-- ** the order

program_is : (kind : ImageKind) → is_module kind ≡ false → (kind ≡ Start → ⊥) × (kind ≡ Late → ⊥)
program_is Exe is = (λ e. cc e, λ e. cc e)
program_is Pie is = (λ e. cc e, λ e. cc e)
program_is Start is = absurd (false≢true (sym is))
program_is Late is = absurd (false≢true (sym is))

in_order : (text : List ℕ) (job : JobParts) → job_of text ≡ Ok job → InOrder job.images
in_order = of_text (λ job. InOrder job.images) (λ program d is are. record {
  program = program;
  starts = d.starts;
  lates = d.lates;
  all = refl;
  is_program = program_is program.kind is;
  are_starts = are.starts;
  are_lates = are.lates;
})

pub images_spelled : ImagesAreSpelled
images_spelled text job is =
    let kept = images_kept text job is in
    record {
      few = kept.1;
      each = all_spelled job.images kept.0;
      apart = apart job.images kept.0;
      order = in_order text job is;
    }

-- ** jobs without a text

twice_no_text : HasNoText two_of_one_name
twice_no_text text is = false≢true (sym (images_kept text two_of_one_name is).0.1.0)

none_no_text : HasNoText no_objects
none_no_text text is = absurd (omega (arith, (images_kept text no_objects is).0.0.objects))

first_of_two : (n : ℕ) → 1 ≤ n → n ≤ 2 → Contains (1 ∷ 2 ∷ []) n
first_of_two n low high = elim (cases_lt n 2) [
  | inl one ↦ (0, omega arith, omega arith)
  | inr two ↦ (1, omega arith, omega arith)
]

-- the numbers 1 and 2, each once
two_apart : AllPairs (λ (a b : ℕ). a ≡ b → ⊥) (1 ∷ 2 ∷ [])
two_apart zero zero d lt within e = omega arith
two_apart zero (suc zero) d lt within e = omega arith
two_apart zero (suc (suc j)) d lt within e = omega arith
two_apart (suc i) j d lt within e = omega arith

one_apart : AllPairs (λ (a b : ℕ). a ≡ b → ⊥) (1 ∷ [])
one_apart i j d lt within e = omega arith

no_lines : (images : List Image) → All (All (IsLineOf images)) ([] ∷ [])
no_lines images = All-cons (All (IsLineOf images)) [] [] (All-nil (IsLineOf images)) (All-nil (All (IsLineOf images)))

twice_is_job : IsJob two_of_one_name
twice_is_job = record {
  some_image = omega arith;
  few_images = omega arith;
  mentioned = record {
    only = All-cons (IsImageNumber two_of_one_name.images) 1 (2 ∷ []) (omega arith, omega arith)
        (All-cons (IsImageNumber two_of_one_name.images) 2 [] (omega arith, omega arith)
        (All-nil (IsImageNumber two_of_one_name.images)));
    every = λ n is. first_of_two n is.0 (omega (arith, is.1));
    once = two_apart;
  };
  some_thread = omega arith;
  few_threads = omega arith;
  some_fuel = omega arith;
  little_fuel = omega arith;
  order_named = All-nil (IsThread 1);
  lines_placed = no_lines two_of_one_name.images;
}

none_is_job : IsJob no_objects
none_is_job = record {
  some_image = omega arith;
  few_images = omega arith;
  mentioned = record {
    only = All-cons (IsImageNumber no_objects.images) 1 [] (omega arith, omega arith)
        (All-nil (IsImageNumber no_objects.images));
    every = λ n is. (0, omega arith, omega (arith, is.0, is.1));
    once = one_apart;
  };
  some_thread = omega arith;
  few_threads = omega arith;
  some_fuel = omega arith;
  little_fuel = omega arith;
  order_named = All-nil (IsThread 1);
  lines_placed = no_lines no_objects.images;
}

pub some_without_text : SomeHaveNoText
some_without_text = ((twice_is_job, twice_no_text), (none_is_job, none_no_text))
