-- What lines tell stays within the limits.
use Rattle.std.proofs.Common.{◌≡◌, ◌≢◌, ℕ, ◌+◌, ◌<◌, ◌≤◌, ◌^◌, List, [], ◌∷◌, ◌++◌, length}
use Rattle.std.proofs.Common.{Some, None, sym, ap, subst, arith, length-append, unwrap_or}
use Rattle.std.specs.Prelude.{codes}
use Rattle.std.specs.List.{All, AllPairs, Contains}
use Rattle.std.proofs.lemmas.List.{map-append}
use Rattle.std.proofs.lemmas.List.Elements.{All-head, All-nil, All-push, All-tail, All-weaker}
use Rattle.std.proofs.lemmas.List.Elements.{Contains-append_left}
use Rattle.std.proofs.lemmas.List.Quantifiers.{all_pairs_push}
use Rattle.std.proofs.lemmas.Option.{same_Some}
use Rattle.job_text.specs.Threads.{IsThread}
use Rattle.job_text.specs.declared.images.Image.{Image}
use Rattle.job_grammar_laws.specs.Grammar.{Asked, IsWord, MayAsk, MayJoin, Told, Tells, OfImage, OfThreads, OfFuel}
use Rattle.job_grammar_laws.specs.Grammar.{OfOrder, OfCall, OfOpen, OfClose, OfPeek, Says, Comment, Blank, Line, Text}
use Rattle.job_grammar_laws.specs.Grammar.{LastLine, NextLine, group, kind_word, names, nothing_told, thread_count}
use Rattle.job_grammar_laws.specs.Images.{IsSpelled}
use Rattle.job_grammar_laws.proofs.Spacing.{spaced_words}
use Rattle.job_grammar_laws.specs.Spellable.{IsWritable}
use Rattle.job_grammar_laws.proofs.Tellable.{CanBeTold, IsAskable, line_count, line_for}

one_more : {X : Type 0} (xs : List X) (x : X) → length (xs ++ x ∷ []) ≡ length xs + 1
one_more xs x = length-append xs (x ∷ [])

-- the words of a line after its first ones
words_from : (first : List ℕ) (more : List (List ℕ)) → All IsWord (first ∷ more) → All IsWord more
words_from first more are = All-tail IsWord first more are

module _ (told : Told) (can : CanBeTold told) where
  -- an image more
  image_told : (image : Image) → IsSpelled image → All IsWord image.objects → MayJoin told.images image
      → line_count told + 1 ≤ 65536 → CanBeTold (record told { images = told.images ++ image ∷ [] })
  image_told image is objects may few = record {
    few_images = omega (arith, may.room, one_more told.images image);
    images = All-push IsSpelled told.images image can.images is;
    objects = All-push (λ (i : Image). All IsWord i.objects) told.images image can.objects objects;
    apart = subst (AllPairs (λ (a b : List ℕ). a ≢ b))
        (sym (map-append (λ (i : Image). i.name) told.images (image ∷ [])))
        (all_pairs_push (λ (a b : List ℕ). a ≢ b) (names told.images) image.name can.apart may.new);
    one_program = all_pairs_push (λ (a b : Image). group a.kind ≡ 0 → group b.kind ≢ 0) told.images image
        can.one_program (λ k d inside first second. may.one_program second k d inside first);
    threads = can.threads;
    fuel = can.fuel;
    order = can.order;
    asked = All-weaker (IsAskable told) (IsAskable (record told { images = told.images ++ image ∷ [] }))
        (λ asked is. record {
          thread = is.thread;
          image = subst (λ (all : List (List ℕ)). Contains all asked.image)
              (sym (map-append (λ (i : Image). i.name) told.images (image ∷ [])))
              (Contains-append_left (names told.images) (image.name ∷ []) asked.image is.image);
          action = is.action;
        }) told.asked can.asked;
    few_lines = omega (arith, few, one_more told.images image);
  }

  more_threads : (n : ℕ) → told.threads ≡ None → 1 ≤ n → (thread : ℕ) → IsThread (thread_count told) thread
      → IsThread n thread
  more_threads n none some thread is =
      let one : thread_count told ≡ 1 = ap (λ o. unwrap_or o 1) none in
      (is.0, omega (arith, is.1, one, some))

  threads_told : (n : ℕ) → told.threads ≡ None → 1 ≤ n → n ≤ 64 → line_count told + 1 ≤ 65536
      → CanBeTold (record told { threads = Some n })
  threads_told n none some most few = record {
    few_images = can.few_images;
    images = can.images;
    objects = can.objects;
    apart = can.apart;
    one_program = can.one_program;
    threads = λ m e. let same : n ≡ m = same_Some n m e in (omega (arith, same, some), omega (arith, same, most));
    fuel = can.fuel;
    order = λ threads e. (
      (can.order threads e).0,
      All-weaker (IsThread (thread_count told)) (IsThread n) (more_threads n none some) threads (can.order threads e).1,
    );
    asked = All-weaker (IsAskable told) (IsAskable (record told { threads = Some n }))
        (λ asked is. record {
          thread = more_threads n none some asked.thread is.thread;
          image = is.image;
          action = is.action;
        }) told.asked can.asked;
    few_lines = omega (arith, few, ap line_for none);
  }

  fuel_told : (n : ℕ) → told.fuel ≡ None → 1 ≤ n → n < 2 ^ 32 → line_count told + 1 ≤ 65536
      → CanBeTold (record told { fuel = Some n })
  fuel_told n none some most few = record {
    few_images = can.few_images;
    images = can.images;
    objects = can.objects;
    apart = can.apart;
    one_program = can.one_program;
    threads = can.threads;
    fuel = λ m e. subst (λ (k : ℕ). (1 ≤ k) × (k < 2 ^ 32)) (same_Some n m e) (some, most);
    order = can.order;
    asked = All-weaker (IsAskable told) (IsAskable (record told { fuel = Some n }))
        (λ asked is. record { thread = is.thread; image = is.image; action = is.action }) told.asked can.asked;
    few_lines = omega (arith, few, ap line_for none);
  }

  order_told : (threads : List ℕ) → told.order ≡ None → 1 ≤ length threads → All (IsThread (thread_count told)) threads
      → line_count told + 1 ≤ 65536 → CanBeTold (record told { order = Some threads })
  order_told threads none some named few = record {
    few_images = can.few_images;
    images = can.images;
    objects = can.objects;
    apart = can.apart;
    one_program = can.one_program;
    threads = can.threads;
    fuel = can.fuel;
    order = λ ts e. subst (λ (xs : List ℕ). (1 ≤ length xs) × All (IsThread (thread_count told)) xs)
        (same_Some threads ts e) (some, named);
    asked = All-weaker (IsAskable told) (IsAskable (record told { order = Some threads }))
        (λ asked is. record { thread = is.thread; image = is.image; action = is.action }) told.asked can.asked;
    few_lines = omega (arith, few, ap line_for none);
  }

  asked_told : (asked : Asked) (word : List ℕ) → MayAsk told word asked → IsWritable asked.action
      → line_count told + 1 ≤ 65536 → CanBeTold (record told { asked = told.asked ++ asked ∷ [] })
  asked_told asked word may is few = record {
    few_images = can.few_images;
    images = can.images;
    objects = can.objects;
    apart = can.apart;
    one_program = can.one_program;
    threads = can.threads;
    fuel = can.fuel;
    order = can.order;
    asked = All-weaker (IsAskable told) (IsAskable (record told { asked = told.asked ++ asked ∷ [] }))
        (λ other is. record { thread = is.thread; image = is.image; action = is.action }) (told.asked ++ asked ∷ [])
        (All-push (IsAskable told) told.asked asked can.asked
        (record { thread = may.thread; image = may.image; action = is }));
    few_lines = omega (arith, few, one_more told.asked asked);
  }

  -- the symbol of a line is its word 3
  symbol_word : (a b c symbol : List ℕ) (more : List (List ℕ)) → All IsWord (a ∷ b ∷ c ∷ symbol ∷ more) → IsWord symbol
  symbol_word a b c symbol more are =
      All-head IsWord symbol more (words_from c (symbol ∷ more) (words_from b (c ∷ symbol ∷ more)
      (words_from a (b ∷ c ∷ symbol ∷ more) are)))

  can_tell : (words : List (List ℕ)) (after : Told) → All IsWord words → line_count told + 1 ≤ 65536
      → Tells told words after → CanBeTold after
  can_tell words after are few (OfImage image e is may) =
      let own = subst (All IsWord) e are in
      image_told image is (words_from (kind_word image.kind) image.objects
      (words_from image.name (kind_word image.kind ∷ image.objects)
      (words_from (codes "image") (image.name ∷ kind_word image.kind ∷ image.objects) own))) may few
  can_tell words after are few (OfThreads word n e is some most none) = threads_told n none some most few
  can_tell words after are few (OfFuel word n e is some most none) = fuel_told n none some most few
  can_tell words after are few (OfOrder ws threads e some zip named none) = order_told threads none some named few
  can_tell words after are few (OfCall asked word symbol first second third a b c e does may short p q r) =
      let own = subst (All IsWord) e are in
      asked_told asked word may (subst IsWritable (sym does) (
        (symbol_word word (codes "call") asked.image symbol (first ∷ second ∷ third ∷ []) own, short),
        p.small,
        q.small,
        r.small,
      )) few
  can_tell words after are few (OfOpen asked word e does may) =
      asked_told asked word may (subst IsWritable (sym does) tt) few
  can_tell words after are few (OfClose asked word e does may) =
      asked_told asked word may (subst IsWritable (sym does) tt) few
  can_tell words after are few (OfPeek asked word symbol size n e does may short is most) =
      let own = subst (All IsWord) e are in
      asked_told asked word may (subst IsWritable (sym does)
      ((symbol_word word (codes "peek") asked.image symbol (size ∷ []) own, short), most)) few

-- each line that tells something adds a line
counted : (told : Told) (words : List (List ℕ)) (after : Told) → Tells told words after
    → line_count after ≡ line_count told + 1
counted told words after (OfImage image e is may) = omega (arith, one_more told.images image)
counted told words after (OfThreads word n e is some most none) = omega (arith, ap line_for none)
counted told words after (OfFuel word n e is some most none) = omega (arith, ap line_for none)
counted told words after (OfOrder ws threads e some are named none) = omega (arith, ap line_for none)
counted told words after (OfCall asked word symbol first second third a b c e does may short p q r) =
    omega (arith, one_more told.asked asked)
counted told words after (OfOpen asked word e does may) = omega (arith, one_more told.asked asked)
counted told words after (OfClose asked word e does may) = omega (arith, one_more told.asked asked)
counted told words after (OfPeek asked word symbol size n e does may short is most) =
    omega (arith, one_more told.asked asked)

-- the lines so far are fewer than the number of the next
abbrev Within : ℕ → Told → Type 0
Within number told = CanBeTold told × (line_count told < number)

said_within : (number : ℕ) (told : Told) (line : List ℕ) (after : Told) → Says number told line after
    → Within number told → Within (number + 1) after
said_within number told line after (Comment rest e) within = (within.0, omega (arith, within.1))
said_within number told line after (Blank are) within = (within.0, omega (arith, within.1))
said_within number told line after (Line words u are limit tells) within =
    let more = counted told words u tells in (
      can_tell told within.0 words u (spaced_words line words are) (omega (arith, within.1, limit)) tells,
      omega (arith, within.1, more),
    )

text_within : (number : ℕ) (told : Told) (text : List ℕ) (after : Told) → Text number told text after
    → Within number told → CanBeTold after
text_within number told text after (LastLine n t line u plain says) within = (said_within n t line u says within).0
text_within number told text after (NextLine n t line between rest u plain says more) within =
    text_within (n + 1) between rest u more (said_within n t line between says within)

nothing_within : CanBeTold nothing_told
nothing_within = record {
  few_images = omega arith;
  images = All-nil IsSpelled;
  objects = All-nil (λ (i : Image). All IsWord i.objects);
  apart = λ i j d lt within. absurd (omega arith);
  one_program = λ i j d lt within. absurd (omega arith);
  threads = λ n e. absurd (cc e);
  fuel = λ n e. absurd (cc e);
  order = λ threads e. absurd (cc e);
  asked = All-nil (IsAskable nothing_told);
  few_lines = omega arith;
}

pub all_within : (text : List ℕ) (told : Told) → Text 1 nothing_told text told → CanBeTold told
all_within text told lines = text_within 1 nothing_told text told lines (nothing_within, omega arith)
