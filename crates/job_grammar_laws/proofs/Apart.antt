-- Through all lines no two images have one name, and each has a name and objects.
use Rattle.std.proofs.Common.{◌≡◌, ◌∙◌, ℕ, ◌+◌, ◌≤◌, Bool, true, false, not, ◌&&◌, ◌||◌, ◌==◌}
use Rattle.std.proofs.Common.{cond}
use Rattle.std.proofs.Common.{List, [], ◌∷◌, ◌++◌, length, drop, Option, Some, None, Result, Ok, is_some, append_assoc}
use Rattle.std.proofs.Common.{append-nil, refl, sym, ap}
use Rattle.std.proofs.Common.{subst, arith, leb-true, length-append, length-drop}
use Rattle.std.proofs.lemmas.Bool.{eqb-false}
use Rattle.std.specs.List.{list_any}
use Rattle.std.proofs.lemmas.Bool.{false≢true}
use Rattle.std.proofs.lemmas.Slice.Eq.{bytes_eq-Decides}
use Rattle.std.specs.List.{position_from}
use Rattle.std.specs.Option.{option_map, option_or}
use Rattle.std.specs.Prelude.{nat_le, nat_lt}
use Rattle.std.specs.Str.{bytes_eq}
use Rattle.job_text.specs.Drafts.{Declared, image_count, nothing_declared, program_slot, slot_among, slot_of}
use Rattle.job_text.specs.Grammar.{heading_of, is_short_name, kind_heading, verb_heading, is_image_name}
use Rattle.job_text.specs.Images.{is_named}
use Rattle.job_text.specs.Jobs.{JobParts, fault_or, job_from, job_of, job_of_program, job_with}
use Rattle.job_text.specs.LineEffects.{with_heading, with_image, with_text}
use Rattle.job_text.specs.LineFaults.{fault_of, fault_under}
use Rattle.job_text.specs.LineFaults.{has_long_object}
use Rattle.job_text.specs.LineFaults.{is_program}
use Rattle.job_text.specs.Words.{is_skipped, is_text, lines_of, word_at, words_of}
use Rattle.job_text.specs.declared.fault.JobFault.{JobFault}
use Rattle.job_text.specs.declared.fault.JobFaultKind.TheVariants as kind
use Rattle.job_text.specs.declared.fault.JobFaultKind.{JobFaultKind}
use Rattle.job_text.specs.declared.images.Image.{Image}
use Rattle.link_faults.specs.declared.image_kind.ImageKind.{ImageKind}
use Rattle.link_faults.specs.declared.image_kind.ImageKind.TheVariants.{Exe, Pie, Start, Late}
use Rattle.job_grammar_laws.proofs.LineKinds.{Kind, Image as ImageLine, Threads, Fuel, Order, Call, Open, Close, Peek}
use Rattle.job_grammar_laws.proofs.LineKinds.{Short}
use Rattle.job_grammar_laws.proofs.LineKinds.{Other, headed_as, sample}

-- ** names that differ

-- none of the images has the name
abbrev pub Differs : List ℕ → List Image → Type 0
Differs name [] = Unit {0}
Differs name (x ∷ xs) = (is_named name x ≡ false) × Differs name xs

-- a name that is an image's, and objects
pub record IsTold (image : Image) : Type 0 where
  pub name : is_image_name image.name ≡ true
  pub objects : 1 ≤ length image.objects
  pub short : list_any (λ object. not (is_short_name object)) image.objects ≡ false

-- no two have one name
abbrev pub AreApart : List Image → Type 0
AreApart [] = Unit {0}
AreApart (x ∷ xs) = IsTold x × Differs x.name xs × AreApart xs

pub flipped : (a b : List ℕ) → bytes_eq a b ≡ false → bytes_eq b a ≡ false
flipped a b e = by (bytes_eq b a) refl
  where
    by : (is : Bool) → bytes_eq b a ≡ is → is ≡ false
    by true h = absurd (false≢true (sym e ∙ (bytes_eq-Decides a b).1 (sym ((bytes_eq-Decides b a).0 h))))
    by false h = refl

Differs-parts : (name : List ℕ) (xs ys : List Image) → Differs name xs → Differs name ys → Differs name (xs ++ ys)
Differs-parts name [] ys first second = second
Differs-parts name (x ∷ xs) ys first second = (first.0, Differs-parts name xs ys first.1 second)

-- one image more, among others
Differs-more : (name : List ℕ) (xs ys : List Image) (one : Image) → is_named name one ≡ false
    → Differs name (xs ++ ys) → Differs name (xs ++ one ∷ ys)
Differs-more name [] ys one is are = (is, are)
Differs-more name (x ∷ xs) ys one is are = (are.0, Differs-more name xs ys one is are.1)

apart_more : (xs ys : List Image) (one : Image) → IsTold one → Differs one.name (xs ++ ys)
    → AreApart (xs ++ ys) → AreApart (xs ++ one ∷ ys)
apart_more [] ys one is new are = (is, new, are)
apart_more (x ∷ xs) ys one is new are =
    (are.0, Differs-more x.name xs ys one (flipped one.name x.name new.0) are.1, apart_more xs ys one is new.1 are.2)

-- ** what a line without a fault is

pub neither : (a b : Bool) → (a || b) ≡ false → (a ≡ false) × (b ≡ false)
neither true b e = absurd (false≢true (sym e))
neither false b e = (refl, e)

pub unless_not : (a : Bool) → not a ≡ false → a ≡ true
unless_not true e = refl
unless_not false e = absurd (false≢true (sym e))

-- ** the images that are declared

abbrev of_program : Option Image → List Image
of_program None = []
of_program (Some image) = image ∷ []

abbrev images_of : Declared → List Image
images_of d = of_program d.program ++ (d.starts ++ d.lates)

missed : (name : List ℕ) (i : ℕ) (xs : List Image) → position_from (is_named name) i xs ≡ None → Differs name xs
missed name i [] e = tt
missed name i (x ∷ xs) e =
    by (is_named name x) refl (missed name (i + 1) xs)
  where
    by : (is : Bool) → is_named name x ≡ is
        → (position_from (is_named name) (i + 1) xs ≡ None → Differs name xs) → Differs name (x ∷ xs)
    by true h later =
        absurd (cc (sym (ap (λ b. cond b (Some i) (position_from (is_named name) (i + 1) xs)) h) ∙ e))
    by false h later =
        (h, later (sym (ap (λ b. cond b (Some i) (position_from (is_named name) (i + 1) xs)) h) ∙ e))

-- slots are no names here
both_none : {S : Type 0} (a b : Option S) → option_or a b ≡ None → (a ≡ None) × (b ≡ None)
both_none None b e = (refl, e)
both_none (Some x) b e = absurd (cc e)

unmapped : {S : Type 0} (f : ℕ → S) (o : Option ℕ) → option_map f o ≡ None → o ≡ None
unmapped f None e = refl
unmapped f (Some k) e = absurd (cc e)

unless_some : {S : Type 0} (b : Bool) (x : S) → cond b (Some x) None ≡ None → b ≡ false
unless_some true x e = absurd (cc e)
unless_some false x e = refl

no_program : (name : List ℕ) (program : Option Image) → program_slot name program ≡ None
    → Differs name (of_program program)
no_program name None e = tt
no_program name (Some image) e = (unless_some (is_named name image) _ e, tt)

pub is_none_is : {X : Type 0} (o : Option X) → is_some o ≡ false → o ≡ None
is_none_is None e = refl
is_none_is (Some x) e = absurd (false≢true (sym e))

new_name : (d : Declared) (name : List ℕ) → slot_of d name ≡ None → Differs name (images_of d)
unfolding slot_among
new_name d name e =
    let first = both_none (program_slot name d.program) _ e in
    let second = both_none _ _ first.1 in
    Differs-parts name (of_program d.program) (d.starts ++ d.lates) (no_program name d.program first.0)
    (Differs-parts name d.starts d.lates
    (missed name 0 d.starts (unmapped _ (position_from (is_named name) 0 d.starts) second.0))
    (missed name 0 d.lates (unmapped _ (position_from (is_named name) 0 d.lates) second.1)))

-- ** each line keeps the names apart

program_joins : (one : Image) (d : Declared) → (is_some d.program ≡ false) → IsTold one
    → Differs one.name (images_of d) → AreApart (images_of d) → AreApart (one ∷ (d.starts ++ d.lates))
program_joins one d none is new are =
    let e : images_of d ≡ d.starts ++ d.lates =
    ap (λ p. of_program p ++ (d.starts ++ d.lates)) (is_none_is d.program none) in
    (is, subst (Differs one.name) e new, subst AreApart e are)

with_one : (k : ImageKind) (one : Image) (d : Declared) → (is_program k && is_some d.program) ≡ false
    → IsTold one → Differs one.name (images_of d) → AreApart (images_of d)
    → AreApart (images_of (with_image one k d))
with_one Exe one d none is new are = program_joins one d none is new are
with_one Pie one d none is new are = program_joins one d none is new are
with_one Start one d none is new are =
    let front : images_of d ≡ (of_program d.program ++ d.starts) ++ d.lates =
    sym (append_assoc (of_program d.program) d.starts d.lates) in
    let end : (of_program d.program ++ d.starts) ++ one ∷ d.lates ≡ images_of (with_image one Start d) =
    append_assoc (of_program d.program) d.starts (one ∷ d.lates)
    ∙ ap (λ xs. of_program d.program ++ xs) (sym (append_assoc d.starts (one ∷ []) d.lates)) in
    subst AreApart end (apart_more (of_program d.program ++ d.starts) d.lates one is
    (subst (Differs one.name) front new) (subst AreApart front are))
with_one Late one d none is new are =
    let all : List Image = of_program d.program ++ (d.starts ++ d.lates) in
    let front : all ≡ all ++ [] = sym (append-nil all) in
    let end : all ++ one ∷ [] ≡ images_of (with_image one Late d) =
    append_assoc (of_program d.program) (d.starts ++ d.lates) (one ∷ [])
    ∙ ap (λ xs. of_program d.program ++ xs) (append_assoc d.starts d.lates (one ∷ [])) in
    subst AreApart end (apart_more all [] one is (subst (Differs one.name) front new) (subst AreApart front are))

pub counted : (k : ImageKind) (one : Image) (d : Declared) → (is_program k && is_some d.program) ≡ false
    → image_count (with_image one k d) ≡ image_count d + 1
counted Exe one d none = rw none (omega arith)
counted Pie one d none = rw none (omega arith)
counted Start one d none = omega (arith, length-append d.starts (one ∷ []))
counted Late one d none = omega (arith, length-append d.lates (one ∷ []))

-- what holds after each line
pub record Kept (d : Declared) : Type 0 where
  pub apart : AreApart (images_of d)
  pub few : image_count d ≤ 64

abbrev is_crowded : Declared → ℕ → List (List ℕ) → Bool
is_crowded d number words = not (nat_le 4 (length words)) || (image_count d == 64) || nat_lt 65536 number

abbrev has_bad_image_name : List (List ℕ) → Bool
has_bad_image_name words = not (is_image_name (word_at 1 words)) || has_long_object words

abbrev is_second_image : Declared → ImageKind → List (List ℕ) → Bool
is_second_image d k words = is_some (slot_of d (word_at 1 words)) || (is_program k && is_some d.program)

under : (crowded name once : Bool) → cond crowded (Some kind.Count) (cond name (Some kind.Name)
    (cond once (Some kind.Twice) None)) ≡ None → (crowded ≡ false) × (name ≡ false) × (once ≡ false)
under true name once e = absurd (cc e)
under false true once e = absurd (cc e)
under false false true e = absurd (cc e)
under false false false e = (refl, refl, refl)

keeps_image : (k : ImageKind) (number : ℕ) (words : List (List ℕ)) (d : Declared)
    → (is_crowded d number words ≡ false) × (has_bad_image_name words ≡ false) × (is_second_image d k words ≡ false)
    → Kept d → Kept (with_image (record { name = word_at 1 words; kind = k; objects = drop 3 words }) k d)
keeps_image k number words d good kept =
    let room = neither (not (nat_le 4 (length words)) || (image_count d == 64)) (nat_lt 65536 number) good.0 in
    let space = neither (not (nat_le 4 (length words))) (image_count d == 64) room.0 in
    let long = leb-true 4 (length words) (unless_not (nat_le 4 (length words)) space.0) in
    let free = eqb-false (image_count d) 64 space.1 in
    let named = neither (not (is_image_name (word_at 1 words))) (has_long_object words) good.1 in
    let new = neither (is_some (slot_of d (word_at 1 words))) (is_program k && is_some d.program) good.2 in
    let one : Image = record { name = word_at 1 words; kind = k; objects = drop 3 words } in
    record {
      apart = with_one k one d new.1
          (record {
            name = unless_not (is_image_name (word_at 1 words)) named.0;
            objects = omega (arith, length-drop 3 words);
            short = named.1;
          })
          (new_name d (word_at 1 words) (is_none_is (slot_of d (word_at 1 words)) new.0)) kept.apart;
      few = rw (counted k one d new.1) (omega (arith, kept.few, free));
    }

image_keeps : (k : ImageKind) (number : ℕ) (words : List (List ℕ)) (d : Declared)
    → fault_under d number (heading_of (sample (ImageLine k))) words ≡ None → Kept d
    → Kept (with_heading (heading_of (sample (ImageLine k))) words d)
unfolding heading_of kind_heading
image_keeps Exe number words d none kept = keeps_image Exe number words d
    (under (is_crowded d number words) (has_bad_image_name words) (is_second_image d Exe words) none) kept
image_keeps Pie number words d none kept = keeps_image Pie number words d
    (under (is_crowded d number words) (has_bad_image_name words) (is_second_image d Pie words) none) kept
image_keeps Start number words d none kept = keeps_image Start number words d
    (under (is_crowded d number words) (has_bad_image_name words) (is_second_image d Start words) none) kept
image_keeps Late number words d none kept = keeps_image Late number words d
    (under (is_crowded d number words) (has_bad_image_name words) (is_second_image d Late words) none) kept

by_kind : (k : Kind) (number : ℕ) (words : List (List ℕ)) (d : Declared)
    → fault_under d number (heading_of (sample k)) words ≡ None → Kept d
    → Kept (with_heading (heading_of (sample k)) words d)
unfolding heading_of kind_heading verb_heading
by_kind (ImageLine k) number words d none kept = image_keeps k number words d none kept
by_kind Threads number words d none kept = record { apart = kept.apart; few = kept.few }
by_kind Fuel number words d none kept = record { apart = kept.apart; few = kept.few }
by_kind Order number words d none kept = record { apart = kept.apart; few = kept.few }
by_kind Call number words d none kept = record { apart = kept.apart; few = kept.few }
by_kind Open number words d none kept = record { apart = kept.apart; few = kept.few }
by_kind Close number words d none kept = record { apart = kept.apart; few = kept.few }
by_kind Peek number words d none kept = record { apart = kept.apart; few = kept.few }
by_kind Short number words d none kept = kept
by_kind Other number words d none kept = kept

headed : (number : ℕ) (words : List (List ℕ)) (d : Declared) → fault_under d number (heading_of words) words ≡ None
    → Kept d → Kept (with_heading (heading_of words) words d)
headed number words d none kept =
    let kind = headed_as words in
    subst (λ h. Kept (with_heading h words d)) (sym kind.1)
    (by_kind kind.0 number words d (subst (λ h. fault_under d number h words ≡ None) kind.1 none) kept)

line_keeps : (number : ℕ) (line : List ℕ) (d : Declared) → fault_of d number line ≡ None → Kept d
    → Kept (with_text line d)
unfolding fault_of with_text
line_keeps number line d none kept = by (is_skipped line) (is_text line) none
  where
    by : (skipped text : Bool)
        → cond skipped None (cond text (fault_under d number (heading_of (words_of line)) (words_of line))
        (Some kind.NotText)) ≡ None
        → Kept (cond skipped d (with_heading (heading_of (words_of line)) (words_of line) d))
    by true text e = kept
    by false true e = headed number (words_of line) d e kept
    by false false e = absurd (cc e)

-- ** so do all lines

-- the images of a job: apart, and few
abbrev pub AreKept : List Image → Type 0
AreKept images = AreApart images × (length images ≤ 64)

of_declared : (p : Option Image) (d : Declared) (job : JobParts) → job_of_program p d ≡ Ok job
    → AreApart (of_program p ++ (d.starts ++ d.lates))
    → cond (is_some p) 1 0 + length d.starts + length d.lates ≤ 64 → AreKept job.images
of_declared None d job e are few = absurd (cc e)
of_declared (Some program) d job e are few =
    subst (λ (x : JobParts). AreKept x.images) (same (job_with program d) job e)
    (are, omega (arith, few, length-append d.starts d.lates))
  where
    same : (x y : JobParts) → ◌≡◌ {A = Result JobParts JobFault} (Ok x) (Ok y) → x ≡ y
    same x y e = cc

pub past_fault : (number : ℕ) (fault : Option JobFaultKind) (rest : Result JobParts JobFault) (job : JobParts)
    → fault_or number fault rest ≡ Ok job → (fault ≡ None) × (rest ≡ Ok job)
past_fault number None rest job is = (refl, is)
past_fault number (Some kind) rest job is = absurd (cc is)

of_lines : (lines : List (List ℕ)) (number : ℕ) (d : Declared) (job : JobParts) → Kept d
    → job_from d number lines ≡ Ok job → AreKept job.images
unfolding job_from
of_lines [] number d job kept is = of_declared d.program d job is kept.apart kept.few
of_lines (line ∷ more) number d job kept is =
    let parts = past_fault number (fault_of d number line) _ job is in
    of_lines more (number + 1) (with_text line d) job (line_keeps number line d parts.0 kept) parts.1

pub images_kept : (text : List ℕ) (job : JobParts) → job_of text ≡ Ok job → AreKept job.images
unfolding job_of
images_kept text job is =
    of_lines (lines_of text) 1 nothing_declared job (record { apart = tt; few = omega arith }) is
