-- The job that lines declare is the one that the grammar makes of them, and the only one.
use Rattle.std.proofs.Common.{◌≡◌, ◌∙◌, ℕ, zero, suc, ◌+◌, ◌≤◌, Bool, true, false, cond, List, [], ◌∷◌, ◌++◌}
use Rattle.std.proofs.Common.{length, map, get_or, slice_get, Option, Some, None, Result, Ok, option_map}
use Rattle.std.proofs.Common.{option_to_list, position, unwrap_or, refl, sym, ap, subst, arith}
use Rattle.std.specs.List.{AllZip, position_from}
use Rattle.std.specs.Option.{option_or}
use Rattle.std.specs.Str.{bytes_eq}
use Rattle.std.proofs.lemmas.Iterator.Adapters.{position_from-zero}
use Rattle.std.proofs.lemmas.List.{length-map}
use Rattle.std.proofs.lemmas.Option.{same_Some}
use Rattle.std.proofs.lemmas.Slice.Eq.{bytes_eq-Decides}
use Rattle.job_text.specs.Drafts.{Declared, nothing_declared, slot_among, slot_of}
use Rattle.job_text.specs.Images.{image_number, is_named}
use Rattle.job_text.specs.Jobs.{JobParts, in_image_order, job_of, job_of_program, job_with}
use Rattle.job_text.specs.Jobs.{number_of, numbered_line}
use Rattle.job_text.specs.Numbering.{at_number}
use Rattle.job_text.specs.declared.fault.JobFault.{JobFault}
use Rattle.job_text.specs.declared.images.Image.{Image}
use Rattle.job_text.specs.declared.thread_lines.ThreadLine.{ThreadLine}
use Rattle.job_grammar_laws.specs.Derived.{DerivedTextsAreJobs, HasName, IsAsked, IsJobOf, JobsAreDerived}
use Rattle.job_grammar_laws.specs.Derived.{TextsDeriveOneJob, of_thread}
use Rattle.job_grammar_laws.specs.Grammar.{Asked, Told, names, nothing_told, of_group}
use Rattle.job_grammar_laws.proofs.Apart.{AreApart, Differs, flipped, images_kept}
use Rattle.job_grammar_laws.proofs.Lines.{text_read, text_told}
use Rattle.job_grammar_laws.proofs.Pairs.{AllZip-map, AllZip-only, AllZip-weaker}
use Rattle.job_grammar_laws.proofs.Tied.{Tied, nothing_tied}

-- ** places

module _ {X : Type 0} (t : X → Bool) where
  position_append : (i : ℕ) (xs ys : List X)
      → position_from t i (xs ++ ys) ≡ option_or (position_from t i xs) (position_from t (i + length xs) ys)
  position_append i [] ys = ap (λ k. position_from t k ys) (omega arith)
  position_append i (x ∷ xs) ys = by (t x) (position_append (i + 1) xs ys)
    where
      by : (b : Bool) → position_from t (i + 1) (xs ++ ys)
          ≡ option_or (position_from t (i + 1) xs) (position_from t (i + 1 + length xs) ys)
          → cond b (Some i) (position_from t (i + 1) (xs ++ ys))
          ≡ option_or (cond b (Some i) (position_from t (i + 1) xs)) (position_from t (i + length (x ∷ xs)) ys)
      by true later = refl
      by false later = later
          ∙ ap (λ k. option_or (position_from t (i + 1) xs) (position_from t k ys)) (omega arith)

  position_shift : (k i : ℕ) (xs : List X) → position_from t (i + k) xs ≡ option_map (λ j. j + k) (position_from t i xs)
  position_shift k i [] = refl
  position_shift k i (x ∷ xs) = by (t x) (position_shift k (i + 1) xs)
    where
      by : (b : Bool) → position_from t (i + 1 + k) xs ≡ option_map (λ j. j + k) (position_from t (i + 1) xs)
          → cond b (Some (i + k)) (position_from t (i + k + 1) xs)
          ≡ option_map (λ j. j + k) (cond b (Some i) (position_from t (i + 1) xs))
      by true later = refl
      by false later = ap (λ m. position_from t m xs) (omega arith) ∙ later

  found : (i k : ℕ) (xs : List X) → position_from t i xs ≡ Some k
      → (j : ℕ) × (x : X) × (k ≡ i + j) × (slice_get xs j ≡ Some x) × (t x ≡ true)
  found i k [] e = absurd (cc e)
  found i k (x ∷ xs) e = by (t x) refl e (found (i + 1) k xs)
    where
      by : (b : Bool) → t x ≡ b → cond b (Some i) (position_from t (i + 1) xs) ≡ Some k
          → (position_from t (i + 1) xs ≡ Some k
          → (j : ℕ) × (x : X) × (k ≡ i + 1 + j) × (slice_get xs j ≡ Some x) × (t x ≡ true))
          → (j : ℕ) × (y : X) × (k ≡ i + j) × (slice_get (x ∷ xs) j ≡ Some y) × (t y ≡ true)
      by true h e later = (zero, x, omega (arith, same_Some i k e), refl, h)
      by false h e later =
          let rest = later e in (suc rest.0, rest.1, omega (arith, rest.2), rest.3, rest.4)

place : (t : Image → Bool) (images : List Image) → position t images ≡ position_from t 0 images
place t images = position_from-zero t images

-- ** names and numbers

named_number : (images : List Image) (n : ℕ) (name : List ℕ) → image_number images name ≡ Some n → HasName images n name
named_number images n name e =
    by (position_from (is_named name) 0 images) refl
    (ap (option_map (λ k. k + 1)) (sym (place (is_named name) images)) ∙ e)
  where
    by : (o : Option ℕ) → position_from (is_named name) 0 images ≡ o → option_map (λ k. k + 1) o ≡ Some n
        → HasName images n name
    by None is e = absurd (cc e)
    by (Some k) is e =
        let at = found (is_named name) 0 k images is in
        let next : n ≡ suc at.0 = omega (arith, same_Some (k + 1) n e, at.2) in
        record {
          image = at.1;
          stands = subst (λ (m : ℕ). at_number images m ≡ Some at.1) (sym next) at.3;
          named = sym ((bytes_eq-Decides name at.1.name).0 at.4);
        }

differs_at : (name : List ℕ) (images : List Image) (j : ℕ) (image : Image) → Differs name images
    → slice_get images j ≡ Some image → is_named name image ≡ false
differs_at name [] j image are e = absurd (cc e)
differs_at name (x ∷ xs) zero image are e =
    subst (λ (y : Image). is_named name y ≡ false) (same_Some x image e) are.0
differs_at name (x ∷ xs) (suc j) image are e = differs_at name xs j image are.1 e

only_place : (images : List Image) (i j : ℕ) (image : Image) → AreApart images → slice_get images j ≡ Some image
    → position_from (is_named image.name) i images ≡ Some (i + j)
only_place [] i j image are e = absurd (cc e)
only_place (x ∷ xs) i zero image are e =
    let same : bytes_eq image.name x.name ≡ true =
    (bytes_eq-Decides image.name x.name).1 (ap (λ (y : Image). y.name) (sym (same_Some x image e))) in
    ap (λ b. cond b (Some i) (position_from (is_named image.name) (i + 1) xs)) same ∙ ap Some (omega arith)
only_place (x ∷ xs) i (suc j) image are e =
    ap (λ b. cond b (Some i) (position_from (is_named image.name) (i + 1) xs))
    (flipped x.name image.name (differs_at x.name xs j image are.1 e))
    ∙ only_place xs (i + 1) j image are.2 e ∙ ap Some (omega arith)

number_named : (images : List Image) (n : ℕ) (name : List ℕ) → AreApart images → HasName images n name
    → image_number images name ≡ Some n
number_named images zero name are has = absurd (cc has.stands)
number_named images (suc j) name are has =
    subst (λ (q : List ℕ). image_number images q ≡ Some (suc j)) has.named
    (ap (option_map (λ k. k + 1)) (place (is_named has.image.name) images
    ∙ only_place images 0 j has.image are has.stands)
    ∙ ap Some (omega arith))

-- the number of a slot is that of the name; S is the type of slots, which has no name here
module _ {S : Type 0} (number : S → ℕ) (program : S) (start late : ℕ → S) (t : Image → Bool)
    (starts lates : List Image) (first : number program ≡ 1) (second : (k : ℕ) → number (start k) ≡ 2 + k)
    (third : (k : ℕ) → number (late k) ≡ 2 + length starts + k) where
  among_lates : (o : Option ℕ) → option_map (λ k. k + 1) (option_map (λ j. j + (1 + length starts)) o)
      ≡ option_map number (option_map late o)
  among_lates None = refl
  among_lates (Some k) = ap Some (omega (arith, third k))

  among_starts : (o : Option ℕ)
      → option_map (λ k. k + 1) (option_or (option_map (λ j. j + 1) o) (position_from t (1 + length starts) lates))
      ≡ option_map number (option_or (option_map start o) (option_map late (position_from t 0 lates)))
  among_starts None = ap (option_map (λ k. k + 1))
      (ap (λ m. position_from t m lates) (omega arith) ∙ position_shift t (1 + length starts) 0 lates)
      ∙ among_lates (position_from t 0 lates)
  among_starts (Some k) = ap Some (omega (arith, second k))

  among_all : (b : Bool)
      → option_map (λ k. k + 1) (cond b (Some 0) (position_from t (0 + 1) (starts ++ lates)))
      ≡ option_map number (option_or (cond b (Some program) None)
      (option_or (option_map start (position_from t 0 starts)) (option_map late (position_from t 0 lates))))
  among_all true = ap Some (omega (arith, first))
  among_all false =
      ap (option_map (λ k. k + 1)) (position_append t 1 starts lates
      ∙ ap (λ o. option_or o (position_from t (1 + length starts) lates))
      (ap (λ m. position_from t m starts) (omega arith) ∙ position_shift t 1 0 starts))
      ∙ among_starts (position_from t 0 starts)

slot_numbered : (p : Image) (starts lates : List Image) (name : List ℕ)
    → option_map (λ k. k + 1) (position_from (is_named name) 0 (in_image_order p starts lates))
    ≡ option_map (number_of (length starts)) (slot_among (Some p) starts lates name)
unfolding slot_among
slot_numbered p starts lates name =
    among_all (number_of (length starts)) _ _ _ (is_named name) starts lates refl (λ k. refl) (λ k. refl)
    (is_named name p)

slot_has_name : (p : Image) (d : Declared) (name : List ℕ) (slot : _) → d.program ≡ Some p → slot_of d name ≡ Some slot
    → HasName (in_image_order p d.starts d.lates) (number_of (length d.starts) slot) name
slot_has_name p d name slot is stands =
    named_number (in_image_order p d.starts d.lates) (number_of (length d.starts) slot) name
    (ap (option_map (λ k. k + 1)) (place (is_named name) (in_image_order p d.starts d.lates))
    ∙ slot_numbered p d.starts d.lates name
    ∙ ap (λ o. option_map (number_of (length d.starts)) (slot_among o d.starts d.lates name)) (sym is)
    ∙ ap (option_map (number_of (length d.starts))) stands)

-- ** the job

mapped_at : {X Y : Type 0} (f : X → Y) (xs : List X) (i : ℕ) (d : X) (y : Y) → slice_get (map f xs) i ≡ Some y
    → f (get_or xs i d) ≡ y
mapped_at f [] i d y e = absurd (cc e)
mapped_at f (x ∷ xs) zero d y e = same_Some (f x) y e
mapped_at f (x ∷ xs) (suc i) d y e = mapped_at f xs i d y e

module _ (told : Told) (d : Declared) (p : Image) (tied : Tied told d) (is : d.program ≡ Some p) where
  thread_lines : (thread : ℕ) (lines : List ThreadLine) → at_number (job_with p d).lines thread ≡ Some lines
      → AllZip (IsAsked (job_with p d).images) lines (of_thread thread told.asked)
  thread_lines zero lines e = absurd (cc e)
  thread_lines (suc i) lines e =
      let next : i + 1 ≡ suc i = omega arith in
      subst (λ (ls : List ThreadLine). AllZip (IsAsked (job_with p d).images) ls (of_thread (suc i) told.asked))
      (mapped_at (map (numbered_line (length d.starts))) d.lines i [] lines e)
      (AllZip-map (IsAsked (job_with p d).images) (numbered_line (length d.starts)) (get_or d.lines i [])
      (of_thread (suc i) told.asked)
      (AllZip-weaker (λ plan asked. (slot_of d asked.image ≡ Some plan.slot) × (plan.action ≡ asked.action))
      (λ plan asked. IsAsked (job_with p d).images (numbered_line (length d.starts) plan) asked)
      (λ plan asked h. record { image = slot_has_name p d asked.image plan.slot is h.0; action = h.1 })
      (get_or d.lines i []) (of_thread (suc i) told.asked)
      (subst (λ (n : ℕ). AllZip (λ plan asked. (slot_of d asked.image ≡ Some plan.slot) × (plan.action ≡ asked.action))
      (get_or d.lines i []) (of_thread n told.asked)) next (tied.lines i))))

  declared_images : in_image_order p d.starts d.lates
      ≡ of_group 0 told.images ++ of_group 1 told.images ++ of_group 2 told.images
  declared_images =
      let grouped : option_to_list d.program ++ d.starts ++ d.lates
      ≡ of_group 0 told.images ++ of_group 1 told.images ++ of_group 2 told.images =
      λ i. tied.program i ++ tied.starts i ++ tied.lates i in
      ap (λ o. option_to_list o ++ d.starts ++ d.lates) (sym is) ∙ grouped

  pub declared_made : IsJobOf told (job_with p d)
  declared_made = record {
    images = declared_images;
    program = subst (λ (ps : List Image). 1 ≤ length ps) (ap option_to_list (sym is) ∙ tied.program) (omega arith);
    mentions = AllZip-map (HasName (job_with p d).images) (number_of (length d.starts)) d.mentions (names told.images)
        (AllZip-weaker (λ slot name. slot_of d name ≡ Some slot)
        (λ slot name. HasName (job_with p d).images (number_of (length d.starts) slot) name)
        (λ slot name h. slot_has_name p d name slot is h) d.mentions (names told.images) tied.mentions);
    fuel = ap (λ o. unwrap_or o 100000) tied.fuel;
    order = ap (λ o. unwrap_or o []) tied.order;
    threads = length-map d.lines (map (numbered_line (length d.starts))) ∙ tied.threads;
    lines = thread_lines;
  }

-- ** and no other

same_lists : {X : Type 0} (xs ys : List X) → length xs ≡ length ys
    → ((i : ℕ) (x y : X) → slice_get xs i ≡ Some x → slice_get ys i ≡ Some y → x ≡ y) → xs ≡ ys
same_lists [] [] long each = refl
same_lists [] (y ∷ ys) long each = absurd (omega (arith, long))
same_lists (x ∷ xs) [] long each = absurd (omega (arith, long))
same_lists (x ∷ xs) (y ∷ ys) long each =
    let head : x ≡ y = each zero x y refl refl in
    let tail : xs ≡ ys = same_lists xs ys (omega (arith, long)) (λ i. each (suc i)) in
    λ i. head i ∷ tail i

pub one_number : (images : List Image) → AreApart images → (n m : ℕ) (name : List ℕ) → HasName images n name
    → HasName images m name → n ≡ m
one_number images are n m name one other =
    same_Some n m (sym (number_named images n name are one) ∙ number_named images m name are other)

one_line : (images : List Image) → AreApart images → (x y : ThreadLine) (asked : Asked) → IsAsked images x asked
    → IsAsked images y asked → x ≡ y
one_line images are x y asked one other =
    let number : x.image ≡ y.image = one_number images are x.image y.image asked.image one.image other.image in
    let action : x.action ≡ y.action = one.action ∙ sym other.action in
    λ i. record { image = number i; action = action i }

one_job : (told : Told) (one other : JobParts) → AreApart one.images → IsJobOf told one → IsJobOf told other
    → one ≡ other
one_job told one other are is also =
    let images : one.images ≡ other.images = is.images ∙ sym also.images in
    let mentions : one.mentions ≡ other.mentions =
    AllZip-only (HasName one.images) (one_number one.images are) one.mentions other.mentions (names told.images)
    is.mentions
    (subst (λ (xs : List Image). AllZip (HasName xs) other.mentions (names told.images)) (sym images) also.mentions) in
    let fuel : one.fuel ≡ other.fuel = is.fuel ∙ sym also.fuel in
    let order : one.order ≡ other.order = is.order ∙ sym also.order in
    let lines : one.lines ≡ other.lines =
    same_lists one.lines other.lines (is.threads ∙ sym also.threads) (λ i xs ys x y.
    AllZip-only (IsAsked one.images) (one_line one.images are) xs ys (of_thread (suc i) told.asked)
    (is.lines (suc i) xs x)
    (subst (λ (all : List Image). AllZip (IsAsked all) ys (of_thread (suc i) told.asked)) (sym images)
    (also.lines (suc i) ys y))) in
    λ i. record { images = images i; mentions = mentions i; fuel = fuel i; order = order i; lines = lines i }

-- ** the laws

declared_by : (told : Told) (d : Declared) (job : JobParts) (o : Option Image) → Tied told d → d.program ≡ o
    → job_of_program o d ≡ Ok job → IsJobOf told job
declared_by told d job None tied is e = absurd (cc e)
declared_by told d job (Some p) tied is e =
    subst (IsJobOf told) (same_job (job_with p d) job e) (declared_made told d p tied is)
  where
    same_job : (x y : JobParts) → ◌≡◌ {A = Result JobParts JobFault} (Ok x) (Ok y) → x ≡ y
    same_job x y e = cc

pub jobs_derived : JobsAreDerived
unfolding job_of
jobs_derived text job is =
    let derived = text_told 1 nothing_told text nothing_declared job nothing_tied is in
    record {
      told = derived.0;
      lines = derived.2;
      makes = declared_by derived.0 derived.1 job derived.1.program derived.3 refl derived.4;
    }

made_by : (text : List ℕ) (told : Told) (d : Declared) (job : JobParts) (o : Option Image) → Tied told d
    → d.program ≡ o → job_of text ≡ job_of_program o d → IsJobOf told job → job_of text ≡ Ok job
made_by text told d job None tied is e made =
    absurd (omega (arith, made.program, ap length (ap option_to_list (sym is) ∙ tied.program)))
made_by text told d job (Some p) tied is e made =
    e ∙ ap Ok (one_job told (job_with p d) job (images_kept text (job_with p d) e).0
    (declared_made told d p tied is) made)

pub derived_are_jobs : DerivedTextsAreJobs
unfolding job_of
derived_are_jobs text job derives =
    let read = text_read 1 nothing_told text derives.told derives.lines nothing_declared nothing_tied in
    made_by text derives.told read.0 job read.0.program read.1 refl read.2 derives.makes

pub one_derived : TextsDeriveOneJob
one_derived text one other derives also =
    same_job (sym (derived_are_jobs text one derives) ∙ derived_are_jobs text other also)
  where
    same_job : ◌≡◌ {A = Result JobParts JobFault} (Ok one) (Ok other) → one ≡ other
    same_job e = cc
