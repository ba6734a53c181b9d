-- What is found in a text: line k of a thread where the transcript has it, and no event among lines.
use Rattle.std.proofs.Common.{◌≡◌, ◌∙◌, ℕ, zero, suc, ◌+◌, ◌-◌, ◌^◌, ◌<◌, ◌≤◌, Bool, true, false, ◌&&◌, ◌==◌, cond}
use Rattle.std.proofs.Common.{List, []}
use Rattle.std.proofs.Common.{◌∷◌, ◌++◌, length, get_or, Option, Some, None, refl, sym, ap, subst, arith, eq-eqb}
use Rattle.std.proofs.Common.{lt-ltb, ne_eqb}
use Rattle.std.proofs.lemmas.List.Elements.{All-head, All-tail}
use Rattle.std.specs.List.{All}
use Rattle.std.specs.Option.{option_or}
use Rattle.std.specs.Prelude.{slice_get}
use Rattle.job_text.specs.Images.{IsImageNumber, image_name, image_number}
use Rattle.job_text.specs.Numbering.{at_number}
use Rattle.job_text.specs.Threads.{of_thread}
use Rattle.job_text.specs.declared.images.Image.{Image}
use Rattle.module_table.specs.declared.events.Event.{Event}
use Rattle.transcript_text.specs.Texts.{Shown, event_text, events_text, line_text, lines_text, threads_text}
use Rattle.transcript_text.specs.Texts.{transcript_text}
use Rattle.transcript_text.specs.declared.outcomes.Line.{Line}
use Rattle.transcript_laws.proofs.Lines.{event_says, event_says_no_line, line_says, line_says_no_event, outcome_spoken}
use Rattle.transcript_laws.proofs.Words.{From, Says, says_all, says_both, says_nothing}
use Rattle.transcript_laws.specs.Laws.{FitsEvent, FitsLine, FitsThread, IsReadBack}
use Rattle.transcript_laws.specs.Reader.{event_said, line_said}

-- ** what is numbered

-- the element with a number, where the first has number j
numbered : {X : Type 0} → ℕ → List X → ℕ → Option X
numbered j [] k = None
numbered j (x ∷ xs) k = option_or (cond (j == k) (Some x) None) (numbered (j + 1) xs k)

pub or_none : {X : Type 0} (o : Option X) → option_or o None ≡ o
or_none None = refl
or_none (Some x) = refl

numbered_below : {X : Type 0} (j k : ℕ) (xs : List X) → k < j → numbered j xs k ≡ None
unfolding numbered
numbered_below j k [] lt = refl
numbered_below j k (x ∷ xs) lt =
    rw (ne_eqb j k (λ e. omega arith), numbered_below (j + 1) k xs (omega arith)) refl

numbered_at : {X : Type 0} (j i : ℕ) (xs : List X) → numbered j xs (j + i) ≡ slice_get xs i
unfolding numbered
numbered_at j i [] = refl
numbered_at j zero (x ∷ xs) = rw (eq-eqb j (j + 0) (omega arith)) refl
numbered_at j (suc i) (x ∷ xs) =
    let later : j + suc i ≡ j + 1 + i = omega arith in
    rw (ne_eqb j (j + suc i) (λ e. omega arith)) (ap (numbered (j + 1) xs) later ∙ numbered_at (j + 1) i xs)

numbered_is : {X : Type 0} (xs : List X) (k : ℕ) → numbered 1 xs k ≡ at_number xs k
numbered_is xs zero = numbered_below 1 0 xs (omega arith)
numbered_is xs (suc i) = ap (numbered 1 xs) {x = suc i} {y = 1 + i} (omega arith) ∙ numbered_at 1 i xs

-- ** the lines of one thread

spread : {X : Type 0} (b c : Bool) (x y : Option X)
    → option_or (cond (b && c) x None) (cond b y None) ≡ cond b (option_or (cond c x None) y) None
spread true c x y = refl
spread false c x y = refl

unless : {X : Type 0} (b : Bool) (o : Option X) → o ≡ None → cond b o None ≡ None
unless true o none = none
unless false o none = refl

lines_say : (thread j : ℕ) (lines : List Line) → All FitsLine lines → thread < 2 ^ 64 → j + length lines ≤ 2 ^ 64
    → (t k : ℕ) → Says (line_said t k) (lines_text thread j lines) (cond (thread == t) (numbered j lines k) None)
unfolding lines_text numbered
lines_say thread j [] fit small few t k = subst (λ (o : Option Line). Says (line_said t k) [] o)
    (sym (unless (thread == t) None refl)) (says_nothing (line_said t k))
lines_say thread j (line ∷ more) fit small few t k =
    let own = All-head FitsLine line more fit in
    subst (λ (o : Option Line). Says (line_said t k) (lines_text thread j (line ∷ more)) o)
    (spread (thread == t) (j == k) (Some line) (numbered (j + 1) more k))
    (says_both (line_said t k) (line_text thread j line) (lines_text thread (j + 1) more)
    (cond ((thread == t) && (j == k)) (Some line) None) (cond (thread == t) (numbered (j + 1) more k) None)
    (line_says thread j line own (outcome_spoken line.outcome own.outcome) t k small (omega arith))
    (lines_say thread (j + 1) more (All-tail FitsLine line more fit) small (omega arith) t k))

lines_say_no_event : (images : List Image) (n thread j : ℕ) (lines : List Line) → All FitsLine lines
    → Says (event_said images n) (lines_text thread j lines) None
unfolding lines_text
lines_say_no_event images n thread j [] fit = says_nothing (event_said images n)
lines_say_no_event images n thread j (line ∷ more) fit =
    let own = All-head FitsLine line more fit in
    says_both (event_said images n) (line_text thread j line) (lines_text thread (j + 1) more) None None
    (line_says_no_event thread j line own (outcome_spoken line.outcome own.outcome) images n)
    (lines_say_no_event images n thread (j + 1) more (All-tail FitsLine line more fit))

-- ** all threads

of_threads : ℕ → List (List Line) → ℕ → ℕ → Option Line
of_threads thread [] t k = None
of_threads thread (lines ∷ more) t k =
    option_or (cond (thread == t) (numbered 1 lines k) None) (of_threads (thread + 1) more t k)

threads_say : (thread : ℕ) (all : List (List Line)) → All FitsThread all → thread + length all ≤ 2 ^ 64
    → (t k : ℕ) → Says (line_said t k) (threads_text thread all) (of_threads thread all t k)
unfolding threads_text of_threads
threads_say thread [] fit few t k = says_nothing (line_said t k)
threads_say thread (lines ∷ more) fit few t k =
    let own = All-head FitsThread lines more fit in
    says_both (line_said t k) (lines_text thread 1 lines) (threads_text (thread + 1) more)
    (cond (thread == t) (numbered 1 lines k) None) (of_threads (thread + 1) more t k)
    (lines_say thread 1 lines own.each (omega arith) (omega (arith, own.few)) t k)
    (threads_say (thread + 1) more (All-tail FitsThread lines more fit) (omega arith) t k)

threads_say_no_event : (images : List Image) (n thread : ℕ) (all : List (List Line)) → All FitsThread all
    → Says (event_said images n) (threads_text thread all) None
unfolding threads_text
threads_say_no_event images n thread [] fit = says_nothing (event_said images n)
threads_say_no_event images n thread (lines ∷ more) fit =
    let own = All-head FitsThread lines more fit in
    says_both (event_said images n) (lines_text thread 1 lines) (threads_text (thread + 1) more) None None
    (lines_say_no_event images n thread 1 lines own.each)
    (threads_say_no_event images n (thread + 1) more (All-tail FitsThread lines more fit))

threads_below : (thread t k : ℕ) (all : List (List Line)) → t < thread → of_threads thread all t k ≡ None
unfolding of_threads
threads_below thread t k [] lt = refl
threads_below thread t k (lines ∷ more) lt =
    rw (ne_eqb thread t (λ e. omega arith), threads_below (thread + 1) t k more (omega arith)) refl

threads_at : (thread i k : ℕ) (all : List (List Line))
    → of_threads thread all (thread + i) k ≡ numbered 1 (get_or all i []) k
unfolding of_threads numbered
threads_at thread i k [] = refl
threads_at thread zero k (lines ∷ more) =
    rw (eq-eqb thread (thread + 0) (omega arith), threads_below (thread + 1) (thread + 0) k more (omega arith))
    (or_none (numbered 1 lines k))
threads_at thread (suc i) k (lines ∷ more) =
    let later : thread + suc i ≡ thread + 1 + i = omega arith in
    rw (ne_eqb thread (thread + suc i) (λ e. omega arith))
    (ap (λ (t : ℕ). of_threads (thread + 1) more t k) later ∙ threads_at (thread + 1) i k more)

at_nothing : {X : Type 0} (k : ℕ) → at_number (let none : List X = [] in none) k ≡ None
at_nothing zero = refl
at_nothing (suc i) = refl

threads_are : (all : List (List Line)) (t k : ℕ) → of_threads 1 all t k ≡ at_number (of_thread all t) k
threads_are all zero k = threads_below 1 0 k all (omega arith) ∙ sym (at_nothing k)
threads_are all (suc i) k =
    let here : suc i - 1 ≡ i = omega arith in
    ap (λ (t : ℕ). of_threads 1 all t k) {x = suc i} {y = 1 + i} (omega arith) ∙ threads_at 1 i k all
    ∙ numbered_is (get_or all i []) k
    ∙ ap (λ (j : ℕ). at_number (get_or all j []) k) (sym here)
    ∙ ap (λ (b : Bool). at_number (cond b (get_or all (suc i - 1) []) []) k) (sym (lt-ltb 0 (suc i) (omega arith)))

-- ** events

-- names are words, and each tells its image
abbrev pub AreTold : List Image → Type 0
AreTold images = (n : ℕ) → IsImageNumber images n
    → From 33 (image_name images n) × (image_number images (image_name images n) ≡ Some n)

module _ (images : List Image) (told : AreTold images) where
  events_say : (n : ℕ) (events : List Event) → All (FitsEvent images) events → n + length events ≤ 2 ^ 64
      → (m : ℕ) → Says (event_said images m) (events_text images n events) (numbered n events m)
  unfolding events_text numbered
  events_say n [] fit few m = says_nothing (event_said images m)
  events_say n (event ∷ more) fit few m =
      let own = All-head (FitsEvent images) event more fit in
      let name = told event.image own.image in
      says_both (event_said images m) (event_text images n event) (events_text images (n + 1) more)
      (cond (n == m) (Some event) None) (numbered (n + 1) more m)
      (event_says images n event name.0 m (omega arith) (omega (arith, own.thread)) (omega (arith, own.line)) name.1)
      (events_say (n + 1) more (All-tail (FitsEvent images) event more fit) (omega arith) m)

  events_say_no_line : (n : ℕ) (events : List Event) → All (FitsEvent images) events
      → (t k : ℕ) → Says (line_said t k) (events_text images n events) None
  unfolding events_text
  events_say_no_line n [] fit t k = says_nothing (line_said t k)
  events_say_no_line n (event ∷ more) fit t k =
      let own = All-head (FitsEvent images) event more fit in
      says_both (line_said t k) (event_text images n event) (events_text images (n + 1) more) None None
      (event_says_no_line images n event (told event.image own.image).0 t k)
      (events_say_no_line (n + 1) more (All-tail (FitsEvent images) event more fit) t k)

  -- ** the whole text

  module _ (shown : Shown) (fit : All FitsThread shown.threads) (few : length shown.threads < 2 ^ 32)
      (fits : All (FitsEvent images) shown.events) (events_few : length shown.events < 2 ^ 64) where
    nothing_said : (t k : ℕ) → line_said t k ([] ∷ []) ≡ None
    unfolding line_said
    nothing_said t k = refl

    no_event_said : (m : ℕ) → event_said images m ([] ∷ []) ≡ None
    unfolding event_said
    no_event_said m = refl

    abbrev threads : List ℕ
    threads = threads_text 1 shown.threads

    abbrev events : List ℕ
    events = events_text images 0 shown.events

    pub read_back : IsReadBack images shown (transcript_text images shown)
    unfolding transcript_text
    read_back = record {
      lines = λ t k. says_all (line_said t k) (threads ++ events) (option_or (of_threads 1 shown.threads t k) None)
          (says_both (line_said t k) threads events (of_threads 1 shown.threads t k) None
          (threads_say 1 shown.threads fit (omega arith) t k)
          (events_say_no_line 0 shown.events fits t k)) (nothing_said t k)
          ∙ or_none (of_threads 1 shown.threads t k) ∙ threads_are shown.threads t k;
      events = λ m. says_all (event_said images m) (threads ++ events) (numbered 0 shown.events m)
          (says_both (event_said images m) threads events None (numbered 0 shown.events m)
          (threads_say_no_event images m 1 shown.threads fit)
          (events_say 0 shown.events fits (omega arith) m)) (no_event_said m)
          ∙ ap (numbered 0 shown.events) {x = m} {y = 0 + m} (omega arith) ∙ numbered_at 0 m shown.events;
    }
