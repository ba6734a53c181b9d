-- Which jobs have a text, part by part: what is told of a job, and what is made of it.
use Rattle.std.proofs.Common.{◌≡◌, ◌≢◌, ◌∙◌, ℕ, zero, suc, ◌+◌, ◌<◌, ◌≤◌, ◌^◌, Bool, true, false, ◌==◌, cond, List, []}
use Rattle.std.proofs.Common.{◌∷◌, ◌++◌, length, map, slice_get, Option, Some, None}
use Rattle.std.proofs.Common.{refl}
use Rattle.std.proofs.Common.{sym, ap, subst, arith, append-nil, eq-eqb, eqb-true, length-append, ne_eqb, sum_by}
use Rattle.std.proofs.Common.{unwrap_or}
use Rattle.std.specs.List.{All, AllZip, Contains}
use Rattle.std.proofs.lemmas.Bool.{eqb-false}
use Rattle.std.proofs.lemmas.List.{length-map}
use Rattle.std.proofs.lemmas.List.Elements.{All-append, All-cons, All-filter, All-head, All-nil, All-tail}
use Rattle.std.proofs.lemmas.List.Elements.{filter-append}
use Rattle.std.proofs.lemmas.List.Sums.{sum_by-cons}
use Rattle.std.proofs.lemmas.Option.{same_Some}
use Rattle.job_text.specs.Images.{IsImageNumber}
use Rattle.job_text.specs.Jobs.{JobParts}
use Rattle.job_text.specs.Numbering.{at_number}
use Rattle.job_text.specs.Threads.{IsThread}
use Rattle.job_text.specs.declared.images.Image.{Image}
use Rattle.job_text.specs.declared.thread_lines.ThreadLine.{ThreadLine}
use Rattle.job_grammar_laws.specs.Derived.{HasName, IsAsked, IsJobOf, of_thread}
use Rattle.job_grammar_laws.specs.Grammar.{Asked, Told, names, of_group, thread_count}
use Rattle.job_grammar_laws.specs.Spellable.{AreNameable, IsSpellable, IsSpellableLine, TextsAreSpelled}
use Rattle.job_grammar_laws.specs.Spellable.{mentioned}
use Rattle.job_grammar_laws.proofs.Apart.{AreApart, images_kept}
use Rattle.job_grammar_laws.proofs.Counted.{behind_few, grouped, lines_few}
use Rattle.job_grammar_laws.proofs.Jobs.{jobs_derived}
use Rattle.job_grammar_laws.proofs.Limits.{all_within}
use Rattle.job_grammar_laws.proofs.Listed.{mentioned_told, mentions_named, name_at, name_mentioned, named_at, number_is}
use Rattle.job_grammar_laws.proofs.Pairs.{AllZip-length}
use Rattle.job_grammar_laws.proofs.Written.{told_written}
use Rattle.job_grammar_laws.specs.Spellable.{IsWritable}
use Rattle.job_grammar_laws.proofs.Tellable.{CanBeTold, IsAskable, line_for}

-- ** lines of threads, one thread after the other

module _ (images : List Image) where
  abbrev ask : ℕ → ThreadLine → Asked
  ask thread line = record { thread = thread; image = name_at images line.image; action = line.action }

  abbrev ask_from : ℕ → List (List ThreadLine) → List Asked
  ask_from thread [] = []
  ask_from thread (lines ∷ all) = map (ask thread) lines ++ ask_from (thread + 1) all

  own_lines : (thread : ℕ) (lines : List ThreadLine) → of_thread thread (map (ask thread) lines) ≡ map
      (ask thread) lines
  own_lines thread [] = refl
  own_lines thread (line ∷ lines) =
      ap (λ t. cond t (ask thread line ∷ of_thread thread (map (ask thread) lines))
      (of_thread thread (map (ask thread) lines))) (eq-eqb thread thread refl)
      ∙ ap (λ rest. ask thread line ∷ rest) (own_lines thread lines)

  other_lines : (t thread : ℕ) (lines : List ThreadLine) → thread ≢ t → of_thread t (map (ask thread) lines) ≡ []
  other_lines t thread [] differs = refl
  other_lines t thread (line ∷ lines) differs =
      ap (λ b. cond b (ask thread line ∷ of_thread t (map (ask thread) lines)) (of_thread t (map (ask thread) lines)))
      (ne_eqb thread t differs)
      ∙ other_lines t thread lines differs

  later_lines : (t thread : ℕ) (all : List (List ThreadLine)) → t < thread → of_thread t (ask_from thread all) ≡ []
  later_lines t thread [] less = refl
  later_lines t thread (lines ∷ all) less =
      filter-append (λ (line : Asked). line.thread == t) (map (ask thread) lines) (ask_from (thread + 1) all)
      ∙ ap (λ xs. xs ++ of_thread t (ask_from (thread + 1) all))
      (other_lines t thread lines (λ e. omega (arith, less, e)))
      ∙ later_lines t (thread + 1) all (omega (arith, less))

  lines_at : (all : List (List ThreadLine)) (i thread t : ℕ) (lines : List ThreadLine) → t ≡ thread + i
      → slice_get all i ≡ Some lines → of_thread t (ask_from thread all) ≡ map (ask t) lines
  lines_at [] i thread t lines at e = absurd (cc e)
  lines_at (own ∷ all) zero thread t lines at e =
      let here : t ≡ thread = omega (arith, at) in
      filter-append (λ (line : Asked). line.thread == t) (map (ask thread) own) (ask_from (thread + 1) all)
      ∙ ap (λ xs. of_thread t (map (ask thread) own) ++ xs)
      (later_lines t (thread + 1) all (omega (arith, here)))
      ∙ append-nil (of_thread t (map (ask thread) own))
      ∙ ap (λ n. of_thread t (map (ask n) own)) (sym here)
      ∙ own_lines t own
      ∙ ap (map (ask t)) (same_Some own lines e)
  lines_at (own ∷ all) (suc i) thread t lines at e =
      filter-append (λ (line : Asked). line.thread == t) (map (ask thread) own) (ask_from (thread + 1) all)
      ∙ ap (λ xs. xs ++ of_thread t (ask_from (thread + 1) all))
      (other_lines t thread own (λ same. omega (arith, at, same)))
      ∙ lines_at all i (thread + 1) t lines (omega (arith, at)) e

  asked_length : (thread : ℕ) (all : List (List ThreadLine)) → length (ask_from thread all) ≡ sum_by length all
  asked_length thread [] = refl
  asked_length thread (lines ∷ all) =
      let here = length-append (map (ask thread) lines) (ask_from (thread + 1) all) in
      omega (
        arith,
        here,
        length-map lines (ask thread),
        asked_length (thread + 1) all,
        sum_by-cons (λ (ls : List ThreadLine). length ls) lines all,
      )

  -- the lines are asked
  lines_asked : (thread : ℕ) (lines : List ThreadLine) → All (IsSpellableLine images) lines
      → AllZip (IsAsked images) lines (map (ask thread) lines)
  lines_asked thread [] are = tt
  lines_asked thread (line ∷ lines) are =
      let is = All-head (IsSpellableLine images) line lines are in (
        record { image = named_at images line.image is.image; action = refl },
        lines_asked thread lines (All-tail (IsSpellableLine images) line lines are),
      )

  module _ (told : Told)
      (stand : (n : ℕ) → IsImageNumber images n → Contains (names told.images) (name_at images n)) where
    lines_askable : (thread : ℕ) (lines : List ThreadLine) → IsThread (thread_count told) thread
        → All (IsSpellableLine images) lines → All (IsAskable told) (map (ask thread) lines)
    lines_askable thread [] is are = All-nil (IsAskable told)
    lines_askable thread (line ∷ lines) is are =
        let own = All-head (IsSpellableLine images) line lines are in
        All-cons (IsAskable told) (ask thread line) (map (ask thread) lines)
        (record { thread = is; image = stand line.image own.image; action = own.action })
        (lines_askable thread lines is (All-tail (IsSpellableLine images) line lines are))

    all_askable : (thread : ℕ) (all : List (List ThreadLine)) → 1 ≤ thread
        → thread + length all ≤ thread_count told + 1 → All (All (IsSpellableLine images)) all
        → All (IsAskable told) (ask_from thread all)
    all_askable thread [] some most are = All-nil (IsAskable told)
    all_askable thread (lines ∷ all) some most are =
        All-append (IsAskable told) (map (ask thread) lines) (ask_from (thread + 1) all)
        (lines_askable thread lines (some, omega (arith, most))
        (All-head (All (IsSpellableLine images)) lines all are))
        (all_askable (thread + 1) all (omega arith) (omega (arith, most))
        (All-tail (All (IsSpellableLine images)) lines all are))

-- ** a line where it is needed

abbrev unless : {X : Type 0} → Bool → X → Option X
unless true x = None
unless false x = Some x

unless_line : {X : Type 0} (b : Bool) (x : X) → line_for (unless b x) ≡ cond b 0 1
unless_line true x = refl
unless_line false x = refl

unless_some : {X : Type 0} (b : Bool) (x y : X) → unless b x ≡ Some y → (b ≡ false) × (x ≡ y)
unless_some true x y e = absurd (cc e)
unless_some false x y e = (refl, same_Some x y e)

or_else : (n d : ℕ) (b : Bool) → (n == d) ≡ b → n ≡ unwrap_or (unless b n) d
or_else n d true e = eqb-true n d e
or_else n d false e = refl

or_nothing : (xs : List ℕ) → xs ≡ unwrap_or (unless (length xs == 0) xs) []
or_nothing xs = by xs (length xs == 0) refl
  where
    by : (xs : List ℕ) (b : Bool) → (length xs == 0) ≡ b → xs ≡ unwrap_or (unless b xs) []
    by [] true e = refl
    by (x ∷ xs) true e = absurd (omega (arith, eqb-true (length (x ∷ xs)) 0 e))
    by xs false e = refl

-- ** what is told of a job

module _ (job : JobParts) (is : IsSpellable job) where
  abbrev tell : Told
  tell = record {
    images = mentioned job;
    threads = unless (length job.lines == 1) (length job.lines);
    fuel = unless (job.fuel == 100000) job.fuel;
    order = unless (length job.order == 0) job.order;
    asked = ask_from job.images 1 job.lines;
  }

  count : length job.lines ≡ thread_count tell
  count = or_else (length job.lines) 1 (length job.lines == 1) refl

  images_long : length (mentioned job) ≡ length job.images
  images_long =
      sym (ap length is.images
      ∙ length-append (of_group 0 (mentioned job) ++ of_group 1 (mentioned job)) (of_group 2 (mentioned job))
      ∙ ap (λ n. n + length (of_group 2 (mentioned job)))
      (length-append (of_group 0 (mentioned job)) (of_group 1 (mentioned job)))
      ∙ grouped (mentioned job))

  can_tell : CanBeTold tell
  can_tell = record {
    few_images = is.named.few;
    images = is.named.each;
    objects = is.named.objects;
    apart = is.named.apart;
    one_program = is.named.one_program;
    threads = λ n e.
        let some = unless_some (length job.lines == 1) (length job.lines) n e in
        (omega (arith, some.1, is.some_thread), omega (arith, some.1, is.few_threads));
    fuel = λ n e.
        let some = unless_some (job.fuel == 100000) job.fuel n e in
        subst (λ (k : ℕ). (1 ≤ k) × (k < 2 ^ 32)) some.1 (is.some_fuel, is.little_fuel);
    order = λ threads e.
        let some = unless_some (length job.order == 0) job.order threads e in
        subst (λ (ts : List ℕ). (1 ≤ length ts) × All (IsThread (thread_count tell)) ts) some.1 (
          omega (arith, eqb-false (length job.order) 0 some.0),
          subst (λ (n : ℕ). All (IsThread n) job.order) count is.order_named,
        );
    asked = all_askable job.images tell
        (λ n there. name_mentioned job.images (mentioned job) n is.images there) 1 job.lines (omega arith)
        (omega (arith, count)) is.lines;
    few_lines = omega (
      arith,
      is.few_lines,
      images_long,
      asked_length job.images 1 job.lines,
      unless_line (length job.lines == 1) (length job.lines),
      unless_line (job.fuel == 100000) job.fuel,
      unless_line (length job.order == 0) job.order,
    );
  }

  lines_of : (thread : ℕ) (lines : List ThreadLine) → at_number job.lines thread ≡ Some lines
      → AllZip (IsAsked job.images) lines (of_thread thread (ask_from job.images 1 job.lines))
  lines_of zero lines e = absurd (cc e)
  lines_of (suc i) lines e =
      subst (AllZip (IsAsked job.images) lines) (sym (lines_at job.images job.lines i 1 (suc i) lines (omega arith) e))
      (lines_asked job.images (suc i) lines (held job.lines i is.lines e))
    where
      held : (all : List (List ThreadLine)) (i : ℕ) → All (All (IsSpellableLine job.images)) all
          → slice_get all i ≡ Some lines → All (IsSpellableLine job.images) lines
      held [] i are e = absurd (cc e)
      held (own ∷ all) zero are e =
          subst (All (IsSpellableLine job.images)) (same_Some own lines e)
          (All-head (All (IsSpellableLine job.images)) own all are)
      held (own ∷ all) (suc i) are e = held all i (All-tail (All (IsSpellableLine job.images)) own all are) e

  told_job : IsJobOf tell job
  told_job = record {
    images = is.images;
    program = is.named.some_program;
    mentions = mentions_named job.images job.mentions is.numbers;
    fuel = or_else job.fuel 100000 (job.fuel == 100000) refl;
    order = or_nothing job.order;
    threads = count;
    lines = lines_of;
  }

-- ** what is made of what was told

least_number : (n d : ℕ) (o : Option ℕ) → n ≡ unwrap_or o d → cond (n == d) 0 1 ≤ line_for o
least_number n d None e = omega (arith, ap {B = ℕ} (λ t. cond t 0 1) (eq-eqb n d e))
least_number n d (Some m) e = by (n == d)
  where
    by : (t : Bool) → cond t 0 1 ≤ 1
    by true = omega arith
    by false = omega arith

least_order : (xs : List ℕ) (o : Option (List ℕ)) → xs ≡ unwrap_or o [] → cond (length xs == 0) 0 1 ≤ line_for o
least_order xs None e = omega (arith, ap {B = ℕ} (λ t. cond t 0 1) (eq-eqb (length xs) 0 (ap length e)))
least_order xs (Some ts) e = by (length xs == 0)
  where
    by : (t : Bool) → cond t 0 1 ≤ 1
    by true = omega arith
    by false = omega arith

module _ (told : Told) (can : CanBeTold told) (job : JobParts) (makes : IsJobOf told job)
    (are : AreApart job.images) where
  same_images : mentioned job ≡ told.images
  same_images = mentioned_told job.images told.images job.mentions are makes.images makes.mentions

  numbered : (ns : List ℕ) (xs : List (List ℕ)) → AllZip (HasName job.images) ns xs → All (IsImageNumber job.images) ns
  numbered [] [] zip = All-nil (IsImageNumber job.images)
  numbered [] (x ∷ xs) zip = absurd zip
  numbered (n ∷ ns) [] zip = absurd zip
  numbered (n ∷ ns) (x ∷ xs) zip =
      All-cons (IsImageNumber job.images) n ns (number_is job.images n x zip.0) (numbered ns xs zip.1)

  nameable : AreNameable told.images
  nameable = record {
    few = can.few_images;
    each = can.images;
    objects = can.objects;
    apart = can.apart;
    one_program = can.one_program;
    some_program = makes.program;
  }

  spelled_lines : (lines : List ThreadLine) (asked : List Asked) → AllZip (IsAsked job.images) lines asked
      → All (IsAskable told) asked → All (IsSpellableLine job.images) lines
  spelled_lines [] [] zip ok = All-nil (IsSpellableLine job.images)
  spelled_lines [] (x ∷ xs) zip ok = absurd zip
  spelled_lines (line ∷ lines) [] zip ok = absurd zip
  spelled_lines (line ∷ lines) (x ∷ xs) zip ok =
      let own = All-head (IsAskable told) x xs ok in
      All-cons (IsSpellableLine job.images) line lines
      (record {
        image = number_is job.images line.image x.image zip.0.image;
        action = subst IsWritable (sym zip.0.action) own.action;
      })
      (spelled_lines lines xs zip.1 (All-tail (IsAskable told) x xs ok))

  each_thread : (k : ℕ) (all : List (List ThreadLine))
      → ((i : ℕ) (lines : List ThreadLine) → slice_get all i ≡ Some lines
      → AllZip (IsAsked job.images) lines (of_thread (k + i) told.asked))
      → All (All (IsSpellableLine job.images)) all
  each_thread k [] zips = All-nil (All (IsSpellableLine job.images))
  each_thread k (lines ∷ all) zips =
      All-cons (All (IsSpellableLine job.images)) lines all
      (spelled_lines lines (of_thread (k + 0) told.asked) (zips zero lines refl)
      (All-filter (λ (line : Asked). line.thread == k + 0) (IsAskable told) told.asked can.asked))
      (each_thread (k + 1) all (λ i ls e.
      subst (λ (n : ℕ). AllZip (IsAsked job.images) ls (of_thread n told.asked)) (omega arith) (zips (suc i) ls e)))

  threads_within : (1 ≤ thread_count told) × (thread_count told ≤ 64)
  threads_within = by told.threads refl
    where
      by : (o : Option ℕ) → told.threads ≡ o → (1 ≤ thread_count told) × (thread_count told ≤ 64)
      by None e =
          let one : thread_count told ≡ 1 = ap (λ t. unwrap_or t 1) e in
          (omega (arith, one), omega (arith, one))
      by (Some n) e =
          let same : thread_count told ≡ n = ap (λ t. unwrap_or t 1) e in
          let bounds = can.threads n e in
          (omega (arith, same, bounds.0), omega (arith, same, bounds.1))

  fuel_within : (1 ≤ job.fuel) × (job.fuel < 2 ^ 32)
  fuel_within = by told.fuel refl
    where
      by : (o : Option ℕ) → told.fuel ≡ o → (1 ≤ job.fuel) × (job.fuel < 2 ^ 32)
      by None e =
          let same : job.fuel ≡ 100000 = makes.fuel ∙ ap (λ t. unwrap_or t 100000) e in
          (omega (arith, same), omega (arith, same))
      by (Some n) e =
          let same : job.fuel ≡ n = makes.fuel ∙ ap (λ t. unwrap_or t 100000) e in
          subst (λ (k : ℕ). (1 ≤ k) × (k < 2 ^ 32)) (sym same) (can.fuel n e)

  order_within : All (IsThread (length job.lines)) job.order
  order_within = by told.order refl
    where
      by : (o : Option (List ℕ)) → told.order ≡ o → All (IsThread (length job.lines)) job.order
      by None e =
          subst (All (IsThread (length job.lines))) (sym (makes.order ∙ ap (λ t. unwrap_or t []) e))
          (All-nil (IsThread (length job.lines)))
      by (Some ts) e =
          subst (All (IsThread (length job.lines))) (sym (makes.order ∙ ap (λ t. unwrap_or t []) e))
          (subst (λ (n : ℕ). All (IsThread n) ts) (sym makes.threads) (can.order ts e).1)

  lines_long : sum_by length job.lines ≤ length told.asked
  lines_long =
      let some = lines_few told.asked 0 job.lines (λ i ls e.
      AllZip-length (IsAsked job.images) ls (of_thread (suc i) told.asked) (makes.lines (suc i) ls e)
      ∙ ap (λ n. length (of_thread n told.asked)) (omega arith)) in
      omega (arith, some, behind_few 0 told.asked)

  few_images : length job.images ≡ length told.images
  few_images =
      ap length makes.images
      ∙ length-append (of_group 0 told.images ++ of_group 1 told.images) (of_group 2 told.images)
      ∙ ap (λ n. n + length (of_group 2 told.images)) (length-append (of_group 0 told.images) (of_group 1 told.images))
      ∙ grouped told.images

  spellable : IsSpellable job
  spellable = record {
    numbers = numbered job.mentions (names told.images) makes.mentions;
    named = subst AreNameable (sym same_images) nameable;
    images = subst (λ (ys : List Image). job.images ≡ of_group 0 ys ++ of_group 1 ys ++ of_group 2 ys) (sym same_images)
        makes.images;
    some_thread = omega (arith, makes.threads, threads_within.0);
    few_threads = omega (arith, makes.threads, threads_within.1);
    some_fuel = fuel_within.0;
    little_fuel = fuel_within.1;
    order_named = order_within;
    lines = each_thread 1 job.lines (λ i ls e.
        subst (λ (n : ℕ). AllZip (IsAsked job.images) ls (of_thread n told.asked)) (omega arith)
        (makes.lines (suc i) ls e));
    few_lines = omega (
      arith,
      can.few_lines,
      few_images,
      lines_long,
      least_number (length job.lines) 1 told.threads makes.threads,
      least_number job.fuel 100000 told.fuel makes.fuel,
      least_order job.order told.order makes.order,
    );
  }

-- ** the law

pub texts_spelled : TextsAreSpelled
texts_spelled job = (
  λ has. let derived = jobs_derived has.0 job has.1 in
      spellable derived.told (all_within has.0 derived.told derived.lines) job derived.makes
      (images_kept has.0 job has.1).0,
  λ is. (told_written job).1 (tell job is, can_tell job is, told_job job is),
)
