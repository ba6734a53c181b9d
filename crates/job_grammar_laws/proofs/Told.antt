-- What the grammar lets a line tell has no fault, and the reader keeps it.
use Rattle.std.proofs.Common.{◌≡◌, ◌≢◌, ◌∙◌, ℕ, ◌<◌, ◌≤◌, ◌^◌, Bool, true, false, not, ◌&&◌, ◌||◌, ◌==◌}
use Rattle.std.proofs.Common.{cond, List, [], ◌∷◌, ◌++◌, length, drop, filter_map, Option, Some, None, is_none, is_some}
use Rattle.std.proofs.Common.{option_to_list, unwrap_or, refl, sym, ap, subst, arith, le-leb, le-ltb, ne_eqb}
use Rattle.std.specs.Prelude.{codes, nat_le, nat_lt}
use Rattle.std.specs.List.{All, AllZip, Contains, list_any}
use Rattle.std.proofs.lemmas.Bool.{or_from}
use Rattle.std.proofs.lemmas.List.Elements.{All-contains, All-head, All-tail}
use Rattle.job_text.specs.Drafts.{Declared, image_count, slot_of}
use Rattle.job_text.specs.Grammar.{heading_of, is_image_name, is_short_name, kind_heading, verb_heading}
use Rattle.job_text.specs.LineEffects.{with_heading, with_image}
use Rattle.job_text.specs.LineFaults.{fault_under, has_long_object, is_program}
use Rattle.job_text.specs.Numbers.{number as number_of, number_within}
use Rattle.job_text.specs.Threads.{IsThread}
use Rattle.job_text.specs.Words.{word_at}
use Rattle.job_text.specs.declared.images.Image.{Image}
use Rattle.job_text.specs.declared.thread_lines.Action.TheVariants as action
use Rattle.link_faults.specs.declared.image_kind.ImageKind.{ImageKind}
use Rattle.link_faults.specs.declared.image_kind.ImageKind.TheVariants.{Exe, Pie, Start, Late}
use Rattle.job_grammar_laws.specs.Grammar.{Asked, Told, MayAsk, MayJoin, Tells, OfImage, OfThreads, OfFuel, OfOrder}
use Rattle.job_grammar_laws.specs.Grammar.{OfCall, OfOpen, OfClose, OfPeek, group, kind_word, names, of_group}
use Rattle.job_grammar_laws.specs.Images.{IsSpelled}
use Rattle.job_grammar_laws.specs.Numbers.{Writes}
use Rattle.job_grammar_laws.proofs.LineKinds.{Image as ImageLine}
use Rattle.job_grammar_laws.proofs.LineKinds.{Short, sample}
use Rattle.job_grammar_laws.proofs.Numbers.{writes_read}
use Rattle.job_grammar_laws.proofs.Pairs.{AllZip-length}
use Rattle.job_grammar_laws.proofs.Tests.{few_lines, name_tested, over, short_read, shorts_read, thread_headed}
use Rattle.job_grammar_laws.proofs.Tests.{told_apart}
use Rattle.job_grammar_laws.proofs.Tests.{within_read, written}
use Rattle.job_grammar_laws.proofs.Tied.{Tied, asked_tied, fuel_tied, joins, new_slotless, order_tied, slotless_new}
use Rattle.job_grammar_laws.proofs.Tied.{threads_tied}

-- ** an order

threads_named : (count : ℕ) (words : List (List ℕ)) (threads : List ℕ) → AllZip Writes words threads
    → All (IsThread count) threads
    → (list_any (λ word. is_none (number_within 1 count word)) words ≡ false) × (filter_map number_of words ≡ threads)
threads_named count [] [] are named = (refl, refl)
threads_named count [] (t ∷ threads) are named = absurd are
threads_named count (word ∷ words) [] are named = absurd are
threads_named count (word ∷ words) (t ∷ threads) are named =
    let is = All-head (IsThread count) t threads named in
    let rest = threads_named count words threads are.1 (All-tail (IsThread count) t threads named) in
    let e = (writes_read word t).1 are.0 in (
      rw (within_read 1 count word t are.0 is.0 is.1, rest.0) refl,
      rw e (ap (λ ts. t ∷ ts) rest.1),
    )

-- ** groups

no_group : (n : ℕ) (images : List Image) → All (λ other. group other.kind ≢ n) images → of_group n images ≡ []
no_group n [] are = refl
no_group n (x ∷ xs) are =
    rw (ne_eqb (group x.kind) n (All-head (λ (other : Image). group other.kind ≢ n) x xs are))
    (no_group n xs (All-tail (λ (other : Image). group other.kind ≢ n) x xs are))

no_program : (o : Option Image) → option_to_list o ≡ [] → o ≡ None
no_program None e = refl
no_program (Some image) e = absurd (cc e)

none_is : {X : Type 0} (o : Option X) → is_none o ≡ true → o ≡ None
none_is None e = refl
none_is (Some x) e = absurd (cc e)

-- ** a line

module _ (number : ℕ) (told : Told) (d : Declared) (tied : Tied told d) (few : number ≤ 65536) where
  -- the line has no fault, and after it what is told is what the reader has
  abbrev IsRead : List (List ℕ) → Told → Type 0
  IsRead words after =
      (fault_under d number (heading_of words) words ≡ None) × Tied after (with_heading (heading_of words) words d)

  threads_read : (word : List ℕ) (n : ℕ) → Writes word n → 1 ≤ n → n ≤ 64 → told.threads ≡ None
      → IsRead (codes "threads" ∷ word ∷ []) (record told { threads = Some n })
  unfolding heading_of
  threads_read word n is some most none = (
    over (nat_lt 65536 number) (is_none (number_within 1 64 word)) false d.has_threads (few_lines number few)
        (ap is_none (within_read 1 64 word n is some most)) refl (tied.has_threads ∙ ap is_some none),
    threads_tied told d n (unwrap_or (number_of word) 0) tied none some (written word n is),
  )

  fuel_read : (word : List ℕ) (n : ℕ) → Writes word n → 1 ≤ n → n < 2 ^ 32 → told.fuel ≡ None
      → IsRead (codes "fuel" ∷ word ∷ []) (record told { fuel = Some n })
  unfolding heading_of
  fuel_read word n is some most none = (
    over (nat_lt 65536 number) (is_none (number_within 1 4294967295 word)) false (is_some d.fuel) (few_lines number few)
        (ap is_none (within_read 1 4294967295 word n is some (omega (arith, most)))) refl
        (ap is_some (tied.fuel ∙ none)),
    fuel_tied told d n (number_of word) tied ((writes_read word n).1 is),
  )

  order_read : (words : List (List ℕ)) (threads : List ℕ) → 1 ≤ length threads → 1 ≤ length words
      → AllZip Writes words threads → All (IsThread (length d.lines)) threads → told.order ≡ None
      → IsRead (codes "order" ∷ words) (record told { order = Some threads })
  unfolding heading_of
  order_read words threads some long are named none =
      let read = threads_named (length d.lines) words threads are named in (
        over (not (nat_le 2 (length (codes "order" ∷ words))) || false || nat_lt 65536 number)
            (list_any (λ word. is_none (number_within 1 (length d.lines) word)) words) false (is_some d.order)
            (or_from (not (nat_le 2 (length (codes "order" ∷ words))) || false) (nat_lt 65536 number)
            (or_from (not (nat_le 2 (length (codes "order" ∷ words)))) false
            (ap not (le-leb 2 (length (codes "order" ∷ words)) (omega (arith, long)))) refl) (few_lines number few))
            read.0 refl (ap is_some (tied.order ∙ none)),
        order_tied told d threads (filter_map number_of words) tied read.1,
      )

  image_over : (k : ImageKind) (words : List (List ℕ))
      → (not (nat_le 4 (length words)) || (image_count d == 64) || nat_lt 65536 number) ≡ false
      → (not (is_image_name (word_at 1 words)) || has_long_object words) ≡ false
      → (is_some (slot_of d (word_at 1 words)) || (is_program k && is_some d.program)) ≡ false
      → fault_under d number (heading_of (sample (ImageLine k))) words ≡ None
  unfolding heading_of kind_heading
  image_over Exe words m n s = over _ false _ _ m refl n s
  image_over Pie words m n s = over _ false _ _ m refl n s
  image_over Start words m n s = over _ false _ _ m refl n s
  image_over Late words m n s = over _ false _ _ m refl n s

  image_added : (k : ImageKind) (words : List (List ℕ)) → with_heading (heading_of (sample (ImageLine k))) words d
      ≡ with_image (record { name = word_at 1 words; kind = k; objects = drop 3 words }) k d
  unfolding heading_of kind_heading
  image_added Exe words = refl
  image_added Pie words = refl
  image_added Start words = refl
  image_added Late words = refl

  image_headed : (k : ImageKind) (name : List ℕ) (objects : List (List ℕ))
      → heading_of (codes "image" ∷ name ∷ kind_word k ∷ objects) ≡ heading_of (sample (ImageLine k))
  unfolding heading_of
  image_headed k name objects =
      ap (λ t. cond t (heading_of (sample Short)) (kind_heading (kind_word k)))
      (le-ltb (length (codes "image" ∷ name ∷ kind_word k ∷ objects)) 3 (omega arith))

  one_program : (k : ImageKind) → (group k ≡ 0 → d.program ≡ None) → (is_program k && is_some d.program) ≡ false
  one_program Exe only = ap is_some (only refl)
  one_program Pie only = ap is_some (only refl)
  one_program Start only = refl
  one_program Late only = refl

  image_read : (image : Image) → IsSpelled image → MayJoin told.images image
      → IsRead (codes "image" ∷ image.name ∷ kind_word image.kind ∷ image.objects)
      (record told { images = told.images ++ image ∷ [] })
  image_read image is may =
      let words : List (List ℕ) = codes "image" ∷ image.name ∷ kind_word image.kind ∷ image.objects in
      let none : slot_of d image.name ≡ None = new_slotless told d image.name tied may.new in
      let only : group image.kind ≡ 0 → d.program ≡ None = λ first. no_program d.program
      (tied.program ∙ no_group 0 told.images (may.one_program first)) in
      subst (λ h. (fault_under d number h words ≡ None)
      × Tied (record told { images = told.images ++ image ∷ [] }) (with_heading h words d))
      (sym (image_headed image.kind image.name image.objects)) (
        image_over image.kind words
            (or_from (not (nat_le 4 (length words)) || (image_count d == 64)) (nat_lt 65536 number)
            (or_from (not (nat_le 4 (length words))) (image_count d == 64)
            (ap not (le-leb 4 (length words) (omega (arith, is.objects))))
            (ne_eqb (image_count d) 64 (λ e. omega (arith, e, tied.count, may.room)))) (few_lines number few))
            (or_from (not (is_image_name image.name)) (has_long_object words) (ap not (name_tested image.name is.name))
            (shorts_read image.objects is.short))
            (or_from (is_some (slot_of d image.name)) (is_program image.kind && is_some d.program) (ap is_some none)
            (one_program image.kind only)),
        subst (Tied (record told { images = told.images ++ image ∷ [] })) (sym (image_added image.kind words))
            (joins told d image tied may.room none image.kind refl only),
      )

  -- ** a line of a thread

  there : (name : List ℕ) → Contains (names told.images) name → is_none (slot_of d name) ≡ false
  there name stands = by (is_none (slot_of d name)) refl
    where
      by : (t : Bool) → is_none (slot_of d name) ≡ t → t ≡ false
      by true e = absurd (All-contains (λ (other : List ℕ). other ≢ name) (names told.images) name
          (slotless_new told d name tied (none_is (slot_of d name) e)) stands refl)
      by false e = refl

  module _ (word : List ℕ) (asked : Asked) (may : MayAsk told word asked) where
    thread_read : is_none (number_within 1 (length d.lines) word) ≡ false
    thread_read = ap is_none (within_read 1 (length d.lines) word asked.thread may.written may.thread.0
        (omega (arith, may.thread.1, tied.threads)))

    call_read : (symbol first second third : List ℕ) (a b c : ℕ) → asked.action ≡ action.Call symbol a b c
        → length symbol ≤ 255 → Writes first a → Writes second b → Writes third c
        → IsRead (word ∷ codes "call" ∷ asked.image ∷ symbol ∷ first ∷ second ∷ third ∷ [])
        (record told { asked = told.asked ++ asked ∷ [] })
    unfolding heading_of verb_heading
    call_read symbol first second third a b c does short p q r =
        let acted : action.Call symbol (unwrap_or (number_of first) 0) (unwrap_or (number_of second) 0)
        (unwrap_or (number_of third) 0) ≡ action.Call symbol a b c =
        λ i. action.Call symbol (written first a p i) (written second b q i) (written third c r i) in
        let words : List (List ℕ) =
        word ∷ codes "call" ∷ asked.image ∷ symbol ∷ first ∷ second ∷ third ∷ [] in
        subst (λ h. (fault_under d number h words ≡ None)
        × Tied (record told { asked = told.asked ++ asked ∷ [] }) (with_heading h words d))
        (sym (thread_headed word (codes "call") (drop 2 words) asked.thread may.written)) (
          over (nat_lt 65536 number)
              (is_none (number_within 1 (length d.lines) word)
              || (is_none (number_of first) || is_none (number_of second) || is_none (number_of third)))
              (not (is_short_name symbol) || is_none (slot_of d asked.image)) false (few_lines number few)
              (or_from (is_none (number_within 1 (length d.lines) word))
              (is_none (number_of first) || is_none (number_of second) || is_none (number_of third)) thread_read
              (or_from (is_none (number_of first) || is_none (number_of second)) (is_none (number_of third))
              (or_from (is_none (number_of first)) (is_none (number_of second))
              (ap is_none ((writes_read first a).1 p)) (ap is_none ((writes_read second b).1 q)))
              (ap is_none ((writes_read third c).1 r))))
              (or_from (not (is_short_name symbol)) (is_none (slot_of d asked.image)) (short_read symbol short)
              (there asked.image may.image)) refl,
          asked_tied told d asked _ (unwrap_or (number_of word) 0) _ refl tied (written word asked.thread may.written)
              may.thread.0 (omega (arith, may.thread.1, tied.threads))
              (told_apart (slot_of d asked.image) _ (there asked.image may.image))
              (acted ∙ sym does),
        )

    open_read : asked.action ≡ action.Open
        → IsRead (word ∷ codes "open" ∷ asked.image ∷ []) (record told { asked = told.asked ++ asked ∷ [] })
    unfolding heading_of verb_heading
    open_read does =
        let words : List (List ℕ) = word ∷ codes "open" ∷ asked.image ∷ [] in
        subst (λ h. (fault_under d number h words ≡ None)
        × Tied (record told { asked = told.asked ++ asked ∷ [] }) (with_heading h words d))
        (sym (thread_headed word (codes "open") (drop 2 words) asked.thread may.written)) (
          over (nat_lt 65536 number) (is_none (number_within 1 (length d.lines) word) || false)
              (is_none (slot_of d asked.image)) false (few_lines number few)
              (or_from (is_none (number_within 1 (length d.lines) word)) false thread_read refl)
              (there asked.image may.image) refl,
          asked_tied told d asked _ (unwrap_or (number_of word) 0) _ refl tied (written word asked.thread may.written)
              may.thread.0 (omega (arith, may.thread.1, tied.threads))
              (told_apart (slot_of d asked.image) _ (there asked.image may.image)) (sym does),
        )

    close_read : asked.action ≡ action.Close
        → IsRead (word ∷ codes "close" ∷ asked.image ∷ []) (record told { asked = told.asked ++ asked ∷ [] })
    unfolding heading_of verb_heading
    close_read does =
        let words : List (List ℕ) = word ∷ codes "close" ∷ asked.image ∷ [] in
        subst (λ h. (fault_under d number h words ≡ None)
        × Tied (record told { asked = told.asked ++ asked ∷ [] }) (with_heading h words d))
        (sym (thread_headed word (codes "close") (drop 2 words) asked.thread may.written)) (
          over (nat_lt 65536 number) (is_none (number_within 1 (length d.lines) word) || false)
              (is_none (slot_of d asked.image)) false (few_lines number few)
              (or_from (is_none (number_within 1 (length d.lines) word)) false thread_read refl)
              (there asked.image may.image) refl,
          asked_tied told d asked _ (unwrap_or (number_of word) 0) _ refl tied (written word asked.thread may.written)
              may.thread.0 (omega (arith, may.thread.1, tied.threads))
              (told_apart (slot_of d asked.image) _ (there asked.image may.image)) (sym does),
        )

    peek_read : (symbol size : List ℕ) (n : ℕ) → asked.action ≡ action.Peek symbol n → length symbol ≤ 255
        → Writes size n → n ≤ 4096
        → IsRead (word ∷ codes "peek" ∷ asked.image ∷ symbol ∷ size ∷ [])
        (record told { asked = told.asked ++ asked ∷ [] })
    unfolding heading_of verb_heading
    peek_read symbol size n does short is most =
        let words : List (List ℕ) = word ∷ codes "peek" ∷ asked.image ∷ symbol ∷ size ∷ [] in
        subst (λ h. (fault_under d number h words ≡ None)
        × Tied (record told { asked = told.asked ++ asked ∷ [] }) (with_heading h words d))
        (sym (thread_headed word (codes "peek") (drop 2 words) asked.thread may.written)) (
          over (nat_lt 65536 number)
              (is_none (number_within 1 (length d.lines) word) || is_none (number_within 0 4096 size))
              (not (is_short_name symbol) || is_none (slot_of d asked.image)) false (few_lines number few)
              (or_from (is_none (number_within 1 (length d.lines) word))
              (is_none (number_within 0 4096 size)) thread_read
              (ap is_none (within_read 0 4096 size n is (omega arith) most)))
              (or_from (not (is_short_name symbol)) (is_none (slot_of d asked.image)) (short_read symbol short)
              (there asked.image may.image)) refl,
          asked_tied told d asked _ (unwrap_or (number_of word) 0) _ refl tied (written word asked.thread may.written)
              may.thread.0 (omega (arith, may.thread.1, tied.threads))
              (told_apart (slot_of d asked.image) _ (there asked.image may.image))
              (ap (action.Peek symbol) (written size n is) ∙ sym does),
        )

  -- what words tell is read
  pub tells_read : (words : List (List ℕ)) (after : Told) → Tells told words after → IsRead words after
  tells_read words after (OfImage image e is may) =
      subst (λ ws. IsRead ws (record told { images = told.images ++ image ∷ [] })) (sym e) (image_read image is may)
  tells_read words after (OfThreads word n e is some most none) =
      subst (λ ws. IsRead ws (record told { threads = Some n })) (sym e) (threads_read word n is some most none)
  tells_read words after (OfFuel word n e is some most none) =
      subst (λ ws. IsRead ws (record told { fuel = Some n })) (sym e) (fuel_read word n is some most none)
  tells_read words after (OfOrder ws threads e some are named none) =
      subst (λ ws. IsRead ws (record told { order = Some threads })) (sym e)
      (order_read ws threads some (omega (arith, some, AllZip-length Writes ws threads are)) are
      (subst (λ (n : ℕ). All (IsThread n) threads) (sym tied.threads) named) none)
  tells_read words after (OfCall asked word symbol first second third a b c e does may short p q r) =
      subst (λ ws. IsRead ws (record told { asked = told.asked ++ asked ∷ [] })) (sym e)
      (call_read word asked may symbol first second third a b c does short p q r)
  tells_read words after (OfOpen asked word e does may) =
      subst (λ ws. IsRead ws (record told { asked = told.asked ++ asked ∷ [] })) (sym e) (open_read word asked may does)
  tells_read words after (OfClose asked word e does may) =
      subst (λ ws. IsRead ws (record told { asked = told.asked ++ asked ∷ [] })) (sym e)
      (close_read word asked may does)
  tells_read words after (OfPeek asked word symbol size n e does may short is most) =
      subst (λ ws. IsRead ws (record told { asked = told.asked ++ asked ∷ [] })) (sym e)
      (peek_read word asked may symbol size n does short is most)
