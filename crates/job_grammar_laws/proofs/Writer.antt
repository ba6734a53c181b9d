-- What lines can tell is told by a text: a line for each thing, images first and lines of threads last.
use Rattle.std.proofs.Common.{◌≡◌, ◌≢◌, ◌∙◌, ℕ, zero, suc, ◌+◌, ◌<◌, ◌≤◌, ◌^◌, Bool, true, ◌&&◌, List, [], ◌∷◌}
use Rattle.std.proofs.Common.{◌++◌, length, map, get_or, Option, Some, None, inl, refl, sym, ap, subst, arith}
use Rattle.std.proofs.Common.{append_assoc, unwrap_or}
use Rattle.std.proofs.Common.{append-nil, leb-true, length-append}
use Rattle.std.specs.Prelude.{codes, nat_le}
use Rattle.std.specs.Fmt.{decimal}
use Rattle.std.specs.List.{All, AllPairs, AllZip, Contains, list_all}
use Rattle.std.specs.Str.Parse.{AllDigits}
use Rattle.std.proofs.lemmas.Bool.{and_parts}
use Rattle.std.proofs.lemmas.Fmt.{decimal_is_IsNumeral}
use Rattle.std.proofs.lemmas.List.{map-append}
use Rattle.std.proofs.lemmas.List.Elements.{All-append, All-cons, All-contains, All-head, All-nil, All-tail, All-weaker}
use Rattle.job_text.specs.Threads.{IsThread}
use Rattle.job_text.specs.declared.images.Image.{Image}
use Rattle.job_text.specs.declared.thread_lines.Action.{Action}
use Rattle.job_text.specs.declared.thread_lines.Action.TheVariants as action
use Rattle.link_faults.specs.declared.image_kind.ImageKind.{ImageKind}
use Rattle.link_faults.specs.declared.image_kind.ImageKind.TheVariants.{Exe, Pie, Start, Late}
use Rattle.job_grammar_laws.specs.Grammar.{Asked, IsMark, IsWord, Spaced, Last, Word, MayAsk, MayJoin, Told, Tells}
use Rattle.job_grammar_laws.specs.Grammar.{OfImage}
use Rattle.job_grammar_laws.specs.Grammar.{OfThreads, OfFuel, OfOrder, OfCall, OfOpen, OfClose, OfPeek, Blank}
use Rattle.job_grammar_laws.specs.Grammar.{Line}
use Rattle.job_grammar_laws.specs.Grammar.{Text, LastLine, NextLine, group, kind_word, names, nothing_told}
use Rattle.job_grammar_laws.specs.Grammar.{thread_count}
use Rattle.job_grammar_laws.specs.Images.{IsName, IsSpelled, letters}
use Rattle.job_grammar_laws.specs.Numbers.{Writes}
use Rattle.job_grammar_laws.proofs.Tests.{digit_first}
use Rattle.job_grammar_laws.specs.Spellable.{IsWritable}
use Rattle.job_grammar_laws.proofs.Tellable.{CanBeTold, IsAskable, line_for}

-- ** words

abbrev is_mark : ℕ → Bool
is_mark b = nat_le 33 b && nat_le b 126

marks_tested : (bytes : List ℕ) → list_all is_mark bytes ≡ true → All IsMark bytes
marks_tested [] e = All-nil IsMark
marks_tested (b ∷ bytes) e =
    let parts = and_parts (is_mark b) (list_all is_mark bytes) e in
    let ends = and_parts (nat_le 33 b) (nat_le b 126) parts.0 in
    All-cons IsMark b bytes (leb-true 33 b ends.0, leb-true b 126 ends.1) (marks_tested bytes parts.1)

-- a word that is written out
pub fixed : (word : List ℕ) → 1 ≤ length word → list_all is_mark word ≡ true → IsWord word
fixed word some e = record { some = some; marks = marks_tested word e }

kind_is_word : (kind : ImageKind) → IsWord (kind_word kind)
kind_is_word Exe = fixed (codes "exe") (omega arith) refl
kind_is_word Pie = fixed (codes "pie") (omega arith) refl
kind_is_word Start = fixed (codes "start") (omega arith) refl
kind_is_word Late = fixed (codes "late") (omega arith) refl

name_is_word : (name : List ℕ) → IsName name → IsWord name
name_is_word name is = record {
  some = is.some;
  marks = All-weaker (Contains letters) IsMark
      (λ b there. All-contains IsMark letters b (marks_tested letters refl) there) name is.bytes;
}

digit_marks : (ds : List ℕ) → AllDigits 10 ds → All IsMark ds
digit_marks [] are = All-nil IsMark
digit_marks (c ∷ cs) are =
    let ends = and_parts (nat_le 48 c) (nat_le c 57) (digit_first c are.0) in
    All-cons IsMark c cs (omega (arith, leb-true 48 c ends.0), omega (arith, leb-true c 57 ends.1))
    (digit_marks cs are.1)

number_is_word : (n : ℕ) → n < 2 ^ 64 → IsWord (decimal n)
number_is_word n small = record {
  some = (decimal_is_IsNumeral n small).0.0;
  marks = digit_marks (decimal n) (decimal_is_IsNumeral n small).0.1;
}

number_written : (n : ℕ) → n < 2 ^ 64 → Writes (decimal n) n
number_written n small = record { small = small; form = inl refl }

small_number : (n : ℕ) → n < 2 ^ 32 → n < 2 ^ 64
small_number n small = omega (arith, small)

-- ** a line

-- words, with a space between each two
abbrev pub spell : List ℕ → List (List ℕ) → List ℕ
spell first [] = first
spell first (word ∷ words) = first ++ 32 ∷ spell word words

pub spelled : (first : List ℕ) (words : List (List ℕ)) → All IsWord (first ∷ words) → Spaced (spell first words)
    (first ∷ words)
spelled first [] are = Last first (All-head IsWord first [] are)
spelled first (word ∷ words) are =
    Word first (spell word words) (word ∷ words) (All-head IsWord first (word ∷ words) are)
    (spelled word words (All-tail IsWord first (word ∷ words) are))

no_feeds : (word : List ℕ) → IsWord word → All (λ b. b ≢ 10) word
no_feeds word is = All-weaker IsMark (λ b. b ≢ 10) (λ b mark e. omega (arith, mark.0, e)) word is.marks

pub one_line : (first : List ℕ) (words : List (List ℕ)) → All IsWord (first ∷ words)
    → All (λ b. b ≢ 10) (spell first words)
one_line first [] are = no_feeds first (All-head IsWord first [] are)
one_line first (word ∷ words) are =
    All-append (λ (b : ℕ). b ≢ 10) first (32 ∷ spell word words)
    (no_feeds first (All-head IsWord first (word ∷ words) are))
    (All-cons (λ (b : ℕ). b ≢ 10) 32 (spell word words) (λ e. omega (arith, e))
    (one_line word words (All-tail IsWord first (word ∷ words) are)))

-- ** lines

-- a text tells what is told in the end, from what was told before its line of this number
abbrev pub Goes : ℕ → Told → Told → Type 0
Goes number told after = (text : List ℕ) × Text number told text after

abbrev pub ends : (number : ℕ) (told : Told) → Goes number told told
ends number told = (
  [],
  LastLine number told [] told (All-nil (λ (b : ℕ). b ≢ 10))
      (Blank (All-nil (λ (b : ℕ). b ≡ 32))),
)

abbrev pub next : (number : ℕ) (told between after : Told) (first : List ℕ) (words : List (List ℕ)) → number ≤ 65536
    → All IsWord (first ∷ words) → Tells told (first ∷ words) between → Goes (number + 1) between after
    → Goes number told after
next number told between after first words few are tells rest = (
  spell first words ++ 10 ∷ rest.0,
  NextLine number told (spell first words) between rest.0 after (one_line first words are)
      (Line (first ∷ words) between (spelled first words are) few tells) rest.1,
)

pair : (a b : List ℕ) → IsWord a → IsWord b → All IsWord (a ∷ b ∷ [])
pair a b is also = All-cons IsWord a (b ∷ []) is (All-cons IsWord b [] also (All-nil IsWord))

-- ** an element in the middle

at_middle : {X : Type 0} (xs : List X) (y : X) (ys : List X) (d : X) → get_or (xs ++ y ∷ ys) (length xs) d ≡ y
at_middle [] y ys d = refl
at_middle (x ∷ xs) y ys d = at_middle xs y ys d

All-at : {X : Type 0} (P : X → Type 0) (xs ys : List X) (y : X) → All P (xs ++ y ∷ ys) → P y
All-at P xs ys y are =
    subst P (at_middle xs y ys y) (are (length xs) y (omega (arith, length-append xs (y ∷ ys))))

earlier : {X : Type 0} (R : X → X → Type 0) (xs : List X) (y : X) (ys : List X) → AllPairs R (xs ++ y ∷ ys)
    → All (λ x. R x y) xs
earlier R [] y ys pairs = All-nil (λ x. R x y)
earlier R (x ∷ xs) y ys pairs =
    All-cons (λ z. R z y) x xs
    (subst (R x) (at_middle xs y ys y)
    (pairs zero (suc (length xs)) y (omega arith) (omega (arith, length-append xs (y ∷ ys)))))
    (earlier R xs y ys (λ i j d lt inside. pairs (suc i) (suc j) d (omega (arith, lt)) (omega (arith, inside))))

module _ (told : Told) (can : CanBeTold told) where
  -- what is told after some images, and after some lines of threads
  abbrev with_images : List Image → Told
  with_images done = record { images = done; threads = None; fuel = None; order = None; asked = [] }

  abbrev with_asked : List Asked → Told
  with_asked done =
      record { images = told.images; threads = told.threads; fuel = told.fuel; order = told.order; asked = done }

  -- how many lines stand before those of threads
  abbrev before_asked : ℕ
  before_asked = length told.images + line_for told.threads + line_for told.fuel + line_for told.order

  name_word : (name : List ℕ) → Contains (names told.images) name → IsWord name
  name_word name there =
      All-contains IsWord (names told.images) name (each told.images can.images) there
    where
      each : (images : List Image) → All IsSpelled images → All IsWord (names images)
      each [] are = All-nil IsWord
      each (x ∷ xs) are =
          All-cons IsWord x.name (names xs) (name_is_word x.name (All-head IsSpelled x xs are).name)
          (each xs (All-tail IsSpelled x xs are))

  -- ** lines of threads

  module _ (done more : List Asked) (asked : Asked) (all : done ++ asked ∷ more ≡ told.asked) (number : ℕ)
      (few : number ≤ 65536) where
    askable : IsAskable told asked
    askable = All-at (IsAskable told) done more asked (subst (All (IsAskable told)) (sym all) can.asked)

    small_thread : asked.thread < 2 ^ 64
    small_thread = by told.threads refl askable.thread.1
      where
        by : (o : Option ℕ) → told.threads ≡ o → asked.thread ≤ thread_count told → asked.thread < 2 ^ 64
        by None e most =
            let one : thread_count told ≡ 1 = ap (λ t. unwrap_or t 1) e in omega (arith, one, most)
        by (Some n) e most =
            let count : thread_count told ≡ n = ap (λ t. unwrap_or t 1) e in
            omega (arith, count, most, (can.threads n e).1)

    may : MayAsk (with_asked done) (decimal asked.thread) asked
    may = record {
      written = number_written asked.thread small_thread;
      thread = askable.thread;
      image = askable.image;
    }

    first_words : (verb : List ℕ) (words : List (List ℕ)) → IsWord verb → All IsWord words
        → All IsWord (decimal asked.thread ∷ verb ∷ asked.image ∷ words)
    first_words verb words is are =
        All-cons IsWord (decimal asked.thread) (verb ∷ asked.image ∷ words) (number_is_word asked.thread small_thread)
        (All-cons IsWord verb (asked.image ∷ words) is
        (All-cons IsWord asked.image words (name_word asked.image askable.image) are))

    ask : (done_to : Action) → asked.action ≡ done_to → IsWritable done_to
        → Goes (number + 1) (with_asked (done ++ asked ∷ [])) told → Goes number (with_asked done) told
    ask (action.Call symbol a b c) e is rest =
        next number (with_asked done) (with_asked (done ++ asked ∷ [])) told (decimal asked.thread)
        (codes "call" ∷ asked.image ∷ symbol ∷ decimal a ∷ decimal b ∷ decimal c ∷ []) few
        (first_words (codes "call") (symbol ∷ decimal a ∷ decimal b ∷ decimal c ∷ [])
        (fixed (codes "call") (omega arith) refl)
        (All-cons IsWord symbol (decimal a ∷ decimal b ∷ decimal c ∷ []) is.0.0
        (All-cons IsWord (decimal a) (decimal b ∷ decimal c ∷ []) (number_is_word a is.1)
        (pair (decimal b) (decimal c) (number_is_word b is.2) (number_is_word c is.3)))))
        (OfCall asked (decimal asked.thread) symbol (decimal a) (decimal b) (decimal c) a b c refl e may is.0.1
        (number_written a is.1) (number_written b is.2) (number_written c is.3)) rest
    ask action.Open e is rest =
        next number (with_asked done) (with_asked (done ++ asked ∷ [])) told (decimal asked.thread)
        (codes "open" ∷ asked.image ∷ []) few
        (first_words (codes "open") [] (fixed (codes "open") (omega arith) refl) (All-nil IsWord))
        (OfOpen asked (decimal asked.thread) refl e may) rest
    ask action.Close e is rest =
        next number (with_asked done) (with_asked (done ++ asked ∷ [])) told (decimal asked.thread)
        (codes "close" ∷ asked.image ∷ []) few
        (first_words (codes "close") [] (fixed (codes "close") (omega arith) refl) (All-nil IsWord))
        (OfClose asked (decimal asked.thread) refl e may) rest
    ask (action.Peek symbol n) e is rest =
        next number (with_asked done) (with_asked (done ++ asked ∷ [])) told (decimal asked.thread)
        (codes "peek" ∷ asked.image ∷ symbol ∷ decimal n ∷ []) few
        (first_words (codes "peek") (symbol ∷ decimal n ∷ []) (fixed (codes "peek") (omega arith) refl)
        (pair symbol (decimal n) is.0.0 (number_is_word n (omega (arith, is.1)))))
        (OfPeek asked (decimal asked.thread) symbol (decimal n) n refl e may is.0.1
        (number_written n (omega (arith, is.1))) is.1) rest

    ask_it : Goes (number + 1) (with_asked (done ++ asked ∷ [])) told → Goes number (with_asked done) told
    ask_it rest = ask asked.action refl askable.action rest

  ask_all : (done more : List Asked) → done ++ more ≡ told.asked
      → Goes (before_asked + length done + 1) (with_asked done) told
  ask_all done [] all =
      let e : done ≡ told.asked = sym (append-nil done) ∙ all in
      subst (λ (xs : List Asked). Goes (before_asked + length done + 1) (with_asked xs) told) (sym e)
      (ends (before_asked + length done + 1) told)
  ask_all done (asked ∷ more) all =
      let whole : (done ++ asked ∷ []) ++ more ≡ told.asked = append_assoc done (asked ∷ []) more ∙ all in
      ask_it done more asked all (before_asked + length done + 1)
      (omega (arith, can.few_lines, ap length all, length-append done (asked ∷ more)))
      (subst (λ (n : ℕ). Goes n (with_asked (done ++ asked ∷ [])) told)
      (omega (arith, length-append done (asked ∷ [])))
      (ask_all (done ++ asked ∷ []) more whole))

  -- ** the other lines

  abbrev state : Option ℕ → Option ℕ → Option (List ℕ) → Told
  state threads fuel order =
      record { images = told.images; threads = threads; fuel = fuel; order = order; asked = [] }

  few_threads : thread_count told < 2 ^ 64
  few_threads = by told.threads refl
    where
      by : (o : Option ℕ) → told.threads ≡ o → thread_count told < 2 ^ 64
      by None e = let one : thread_count told ≡ 1 = ap (λ t. unwrap_or t 1) e in omega (arith, one)
      by (Some n) e =
          let count : thread_count told ≡ n = ap (λ t. unwrap_or t 1) e in omega (arith, count, (can.threads n e).1)

  threads_words : (ts : List ℕ) → All (IsThread (thread_count told)) ts
      → All IsWord (map decimal ts) × AllZip Writes (map decimal ts) ts
  threads_words [] are = (All-nil IsWord, tt)
  threads_words (t ∷ ts) are =
      let small : t < 2 ^ 64 =
      omega (arith, (All-head (IsThread (thread_count told)) t ts are).1, few_threads) in
      let rest = threads_words ts (All-tail (IsThread (thread_count told)) t ts are) in (
        All-cons IsWord (decimal t) (map decimal ts) (number_is_word t small) rest.0,
        (number_written t small, rest.1),
      )

  go_order : (b : ℕ) → b + line_for told.order + length told.asked ≤ 65536 → (o : Option (List ℕ)) → told.order ≡ o
      → Goes (b + line_for o + 1) (state told.threads told.fuel o) told
      → Goes (b + 1) (state told.threads told.fuel None) told
  go_order b few None e rest =
      subst (λ (n : ℕ). Goes n (state told.threads told.fuel None) told) (omega arith) rest
  go_order b few (Some ts) e rest =
      let named = can.order ts e in
      let words = threads_words ts named.1 in
      next (b + 1) (state told.threads told.fuel None) (state told.threads told.fuel (Some ts)) told (codes "order")
      (map decimal ts) (omega (arith, few, ap line_for e))
      (All-cons IsWord (codes "order") (map decimal ts) (fixed (codes "order") (omega arith) refl) words.0)
      (OfOrder (map decimal ts) ts refl named.0 words.1 named.1 refl)
      (subst (λ (n : ℕ). Goes n (state told.threads told.fuel (Some ts)) told) (omega arith) rest)

  go_fuel : (b : ℕ) → b + line_for told.fuel ≤ 65536 → (o : Option ℕ) → told.fuel ≡ o
      → Goes (b + line_for o + 1) (state told.threads o None) told → Goes (b + 1) (state told.threads None None) told
  go_fuel b few None e rest = subst (λ (n : ℕ). Goes n (state told.threads None None) told) (omega arith) rest
  go_fuel b few (Some n) e rest =
      let bounds = can.fuel n e in
      let small = small_number n bounds.1 in
      next (b + 1) (state told.threads None None) (state told.threads (Some n) None) told (codes "fuel")
      (decimal n ∷ []) (omega (arith, few, ap line_for e))
      (pair (codes "fuel") (decimal n) (fixed (codes "fuel") (omega arith) refl) (number_is_word n small))
      (OfFuel (decimal n) n refl (number_written n small) bounds.0 bounds.1 refl)
      (subst (λ (k : ℕ). Goes k (state told.threads (Some n) None) told) (omega arith) rest)

  go_threads : (b : ℕ) → b + line_for told.threads ≤ 65536 → (o : Option ℕ) → told.threads ≡ o
      → Goes (b + line_for o + 1) (state o None None) told → Goes (b + 1) (state None None None) told
  go_threads b few None e rest = subst (λ (n : ℕ). Goes n (state None None None) told) (omega arith) rest
  go_threads b few (Some n) e rest =
      let bounds = can.threads n e in
      let small : n < 2 ^ 64 = omega (arith, bounds.1) in
      next (b + 1) (state None None None) (state (Some n) None None) told (codes "threads")
      (decimal n ∷ []) (omega (arith, few, ap line_for e))
      (pair (codes "threads") (decimal n) (fixed (codes "threads") (omega arith) refl) (number_is_word n small))
      (OfThreads (decimal n) n refl (number_written n small) bounds.0 bounds.1 refl)
      (subst (λ (k : ℕ). Goes k (state (Some n) None None) told) (omega arith) rest)

  -- ** images

  may_join : (done more : List Image) (one : Image) → done ++ one ∷ more ≡ told.images → MayJoin done one
  may_join done more one all = record {
    room = omega (arith, can.few_images, ap length all, length-append done (one ∷ more));
    new = earlier (λ (a b : List ℕ). a ≢ b) (names done) one.name (names more)
        (subst (AllPairs (λ (a b : List ℕ). a ≢ b))
        (ap names (sym all) ∙ map-append (λ (i : Image). i.name) done (one ∷ more)) can.apart);
    one_program = λ first. All-weaker (λ (a : Image). group a.kind ≡ 0 → group one.kind ≢ 0)
        (λ (a : Image). group a.kind ≢ 0) (λ a never is. never is first) done
        (earlier (λ (a b : Image). group a.kind ≡ 0 → group b.kind ≢ 0) done one more
        (subst (AllPairs (λ (a b : Image). group a.kind ≡ 0 → group b.kind ≢ 0)) (sym all) can.one_program));
  }

  go_images : (done more : List Image) → done ++ more ≡ told.images
      → Goes (length told.images + 1) (with_images told.images) told → Goes (length done + 1) (with_images done) told
  go_images done [] all rest =
      subst (λ (xs : List Image). Goes (length xs + 1) (with_images xs) told) (sym (sym (append-nil done) ∙ all)) rest
  go_images done (one ∷ more) all rest =
      let is = All-at IsSpelled done more one (subst (All IsSpelled) (sym all) can.images) in
      let objects = All-at (λ (i : Image). All IsWord i.objects) done more one
      (subst (All (λ (i : Image). All IsWord i.objects)) (sym all) can.objects) in
      next (length done + 1) (with_images done) (with_images (done ++ one ∷ [])) told (codes "image")
      (one.name ∷ kind_word one.kind ∷ one.objects)
      (omega (arith, can.few_images, ap length all, length-append done (one ∷ more)))
      (All-cons IsWord (codes "image") (one.name ∷ kind_word one.kind ∷ one.objects)
      (fixed (codes "image") (omega arith) refl)
      (All-cons IsWord one.name (kind_word one.kind ∷ one.objects) (name_is_word one.name is.name)
      (All-cons IsWord (kind_word one.kind) one.objects (kind_is_word one.kind) objects)))
      (OfImage one refl is (may_join done more one all))
      (subst (λ (n : ℕ). Goes n (with_images (done ++ one ∷ [])) told) (omega (arith, length-append done (one ∷ [])))
      (go_images (done ++ one ∷ []) more (append_assoc done (one ∷ []) more ∙ all) rest))

  -- all of it
  pub goes : Goes 1 nothing_told told
  goes =
      go_images [] told.images refl
      (go_threads (length told.images) (omega (arith, can.few_lines)) told.threads refl
      (go_fuel (length told.images + line_for told.threads) (omega (arith, can.few_lines)) told.fuel refl
      (go_order (length told.images + line_for told.threads + line_for told.fuel) (omega (arith, can.few_lines))
      told.order refl
      (subst (λ (n : ℕ). Goes n (with_asked []) told) (omega arith) (ask_all [] told.asked refl)))))
