-- A line without a fault tells what the grammar says.
use Rattle.std.proofs.Common.{◌≡◌, ◌≢◌, ◌∙◌, ℕ, suc, ◌≤◌, Bool, true, false, not, ◌&&◌, ◌||◌, ◌==◌}
use Rattle.std.proofs.Common.{cond, List, [], ◌∷◌, ◌++◌, length, drop, Some, None, is_none, is_some, inl, inr}
use Rattle.std.proofs.Common.{option_to_list, refl, sym, ap, subst, arith, eqb-true, leb-true, length-drop}
use Rattle.std.specs.Prelude.{codes, nat_le, nat_lt}
use Rattle.std.specs.List.{All, AllZip, list_any}
use Rattle.std.proofs.lemmas.Bool.{eqb-false, false≢true}
use Rattle.std.proofs.lemmas.List.Elements.{All-cons, All-nil}
use Rattle.job_text.specs.Drafts.{Declared, image_count, slot_of}
use Rattle.job_text.specs.Grammar.{heading_of, is_image_name, is_short_name, kind_heading, verb_heading}
use Rattle.job_text.specs.LineFaults.{fault_under, has_long_object, is_program}
use Rattle.job_text.specs.Numbers.{number as number_of, number_within}
use Rattle.job_text.specs.Threads.{IsThread}
use Rattle.job_text.specs.Words.{word_at}
use Rattle.job_text.specs.declared.images.Image.{Image}
use Rattle.job_text.specs.declared.thread_lines.Action.{Action}
use Rattle.job_text.specs.declared.thread_lines.Action.TheVariants as action
use Rattle.link_faults.specs.declared.image_kind.ImageKind.{ImageKind}
use Rattle.link_faults.specs.declared.image_kind.ImageKind.TheVariants.{Exe, Pie, Start, Late}
use Rattle.job_grammar_laws.specs.Grammar.{Told, MayAsk, Tells, OfImage, OfThreads, OfFuel, OfOrder, OfCall, OfOpen}
use Rattle.job_grammar_laws.specs.Grammar.{OfClose, OfPeek, group, kind_word, names, of_group}
use Rattle.job_grammar_laws.specs.Numbers.{Writes}
use Rattle.job_grammar_laws.proofs.Apart.{is_none_is, neither, unless_not}
use Rattle.job_grammar_laws.proofs.LineKinds.{Begins, Kind, Image as ImageLine, Threads, Fuel, Order, Call, Open, Close}
use Rattle.job_grammar_laws.proofs.LineKinds.{Peek, Short, Other, headed_as, sample}
use Rattle.job_grammar_laws.proofs.Spelled.{spelled}
use Rattle.job_grammar_laws.proofs.Tests.{has_words, in_or_new, next_word, no_word_more, number_writes, short_is, under}
use Rattle.job_grammar_laws.proofs.Tests.{within_writes}
use Rattle.job_grammar_laws.proofs.Tied.{Tied, new_slotless, slotless_new}

-- ** lines of so many words

two : (words : List (List ℕ)) (first : List ℕ) → length words ≡ 2 → word_at 0 words ≡ first
    → words ≡ first ∷ word_at 1 words ∷ []
two words first long is =
    next_word 0 words (omega (arith, long))
    ∙ ap (λ ws. word_at 0 words ∷ ws) (next_word 1 words (omega (arith, long)))
    ∙ ap (λ ws. word_at 0 words ∷ word_at 1 words ∷ ws) (no_word_more 2 words (omega (arith, long)))
    ∙ ap (λ w. w ∷ word_at 1 words ∷ []) is

image_words : (words : List (List ℕ)) (first kind : List ℕ) → 4 ≤ length words → word_at 0 words ≡ first
    → word_at 2 words ≡ kind → words ≡ first ∷ word_at 1 words ∷ kind ∷ drop 3 words
image_words words first kind long is of =
    next_word 0 words (omega (arith, long))
    ∙ ap (λ ws. word_at 0 words ∷ ws) (next_word 1 words (omega (arith, long)))
    ∙ ap (λ ws. word_at 0 words ∷ word_at 1 words ∷ ws) (next_word 2 words (omega (arith, long)))
    ∙ ap (λ w. w ∷ word_at 1 words ∷ word_at 2 words ∷ drop 3 words) is
    ∙ ap (λ w. first ∷ word_at 1 words ∷ w ∷ drop 3 words) of

order_words : (words : List (List ℕ)) (first : List ℕ) → 2 ≤ length words → word_at 0 words ≡ first
    → words ≡ first ∷ drop 1 words
order_words words first long is =
    next_word 0 words (omega (arith, long)) ∙ ap (λ w. w ∷ drop 1 words) is

-- a thread's line begins with three words
module _ (words : List (List ℕ)) (verb : List ℕ) (is : word_at 1 words ≡ verb) where
  asked_words : 3 ≤ length words → words ≡ word_at 0 words ∷ verb ∷ word_at 2 words ∷ drop 3 words
  asked_words long =
      next_word 0 words (omega (arith, long))
      ∙ ap (λ ws. word_at 0 words ∷ ws) (next_word 1 words (omega (arith, long)))
      ∙ ap (λ ws. word_at 0 words ∷ word_at 1 words ∷ ws) (next_word 2 words (omega (arith, long)))
      ∙ ap (λ w. word_at 0 words ∷ w ∷ word_at 2 words ∷ drop 3 words) is

  three : length words ≡ 3 → words ≡ word_at 0 words ∷ verb ∷ word_at 2 words ∷ []
  three long =
      asked_words (omega (arith, long))
      ∙ ap (λ ws. word_at 0 words ∷ verb ∷ word_at 2 words ∷ ws) (no_word_more 3 words (omega (arith, long)))

  five : length words ≡ 5
      → words ≡ word_at 0 words ∷ verb ∷ word_at 2 words ∷ word_at 3 words ∷ word_at 4 words ∷ []
  five long =
      asked_words (omega (arith, long))
      ∙ ap (λ ws. word_at 0 words ∷ verb ∷ word_at 2 words ∷ ws)
      (next_word 3 words (omega (arith, long))
      ∙ ap (λ ws. word_at 3 words ∷ ws) (next_word 4 words (omega (arith, long)))
      ∙ ap (λ ws. word_at 3 words ∷ word_at 4 words ∷ ws) (no_word_more 5 words (omega (arith, long))))

  seven : length words ≡ 7
      → words ≡ word_at 0 words ∷ verb ∷ word_at 2 words ∷ word_at 3 words ∷ word_at 4 words ∷ word_at 5 words
      ∷ word_at 6 words ∷ []
  seven long =
      asked_words (omega (arith, long))
      ∙ ap (λ ws. word_at 0 words ∷ verb ∷ word_at 2 words ∷ ws)
      (next_word 3 words (omega (arith, long))
      ∙ ap (λ ws. word_at 3 words ∷ ws) (next_word 4 words (omega (arith, long)))
      ∙ ap (λ ws. word_at 3 words ∷ word_at 4 words ∷ ws) (next_word 5 words (omega (arith, long)))
      ∙ ap (λ ws. word_at 3 words ∷ word_at 4 words ∷ word_at 5 words ∷ ws) (next_word 6 words (omega (arith, long)))
      ∙ ap (λ ws. word_at 3 words ∷ word_at 4 words ∷ word_at 5 words ∷ word_at 6 words ∷ ws)
      (no_word_more 7 words (omega (arith, long))))

-- ** an order

threads_written : (count : ℕ) (words : List (List ℕ))
    → list_any (λ word. is_none (number_within 1 count word)) words ≡ false
    → (threads : List ℕ) × AllZip Writes words threads × All (IsThread count) threads × (length threads ≡ length words)
threads_written count [] e = ([], tt, All-nil (IsThread count), refl)
threads_written count (word ∷ words) e =
    let parts = neither (is_none (number_within 1 count word))
    (list_any (λ word. is_none (number_within 1 count word)) words) e in
    let n = within_writes 1 count word parts.0 in
    let rest = threads_written count words parts.1 in
    (n.0 ∷ rest.0, (n.1, rest.1), All-cons (IsThread count) n.0 rest.0 (n.2, n.3) rest.2, ap suc rest.3)

-- ** groups

none_of_group : (n : ℕ) (images : List Image) → of_group n images ≡ [] → All (λ other. group other.kind ≢ n) images
none_of_group n [] e = All-nil (λ (other : Image). group other.kind ≢ n)
none_of_group n (x ∷ xs) e = by (group x.kind == n) refl e (none_of_group n xs)
  where
    by : (is : Bool) → (group x.kind == n) ≡ is → cond is (x ∷ of_group n xs) (of_group n xs) ≡ []
        → (of_group n xs ≡ [] → All (λ other. group other.kind ≢ n) xs)
        → All (λ other. group other.kind ≢ n) (x ∷ xs)
    by true is e later = absurd (cc e)
    by false is e later =
        All-cons (λ (other : Image). group other.kind ≢ n) x xs (eqb-false (group x.kind) n is) (later e)

only_program : (told : Told) (d : Declared) (k : ImageKind) → Tied told d → (is_program k && is_some d.program) ≡ false
    → group k ≡ 0 → All (λ other. group other.kind ≢ 0) told.images
only_program told d Exe tied e first = none_of_group 0 told.images
    (sym tied.program ∙ ap option_to_list (is_none_is d.program e))
only_program told d Pie tied e first = none_of_group 0 told.images
    (sym tied.program ∙ ap option_to_list (is_none_is d.program e))
only_program told d Start tied e first = absurd (omega (arith, first))
only_program told d Late tied e first = absurd (omega (arith, first))

-- ** a line

module _ (number : ℕ) (told : Told) (d : Declared) (words : List (List ℕ)) (tied : Tied told d) where
  abbrev Read : Type 0
  Read = (after : Told) × Tells told words after × (number ≤ 65536)

  threads_told : word_at 0 words ≡ codes "threads" → fault_under d number (heading_of (sample Threads)) words ≡ None
      → Read
  unfolding heading_of
  threads_told first none =
      let parts = under (not (length words == 2) || false || nat_lt 65536 number)
      (is_none (number_within 1 64 (word_at 1 words))) false d.has_threads none in
      let has = has_words (length words == 2) number parts.0 in
      let n = within_writes 1 64 (word_at 1 words) parts.1 in (
        record told { threads = Some n.0 },
        OfThreads (word_at 1 words) n.0 (two words (codes "threads")
            (eqb-true (length words) 2 has.0) first) n.1 n.2 n.3
            (is_none_is told.threads (sym tied.has_threads ∙ parts.3)),
        has.1,
      )

  fuel_told : word_at 0 words ≡ codes "fuel" → fault_under d number (heading_of (sample Fuel)) words ≡ None → Read
  unfolding heading_of
  fuel_told first none =
      let parts = under (not (length words == 2) || false || nat_lt 65536 number)
      (is_none (number_within 1 4294967295 (word_at 1 words))) false (is_some d.fuel) none in
      let has = has_words (length words == 2) number parts.0 in
      let n = within_writes 1 4294967295 (word_at 1 words) parts.1 in (
        record told { fuel = Some n.0 },
        OfFuel (word_at 1 words) n.0 (two words (codes "fuel") (eqb-true (length words) 2 has.0) first) n.1 n.2
            (omega (arith, n.3)) (is_none_is told.fuel (ap is_some (sym tied.fuel) ∙ parts.3)),
        has.1,
      )

  order_told : word_at 0 words ≡ codes "order" → fault_under d number (heading_of (sample Order)) words ≡ None → Read
  unfolding heading_of
  order_told first none =
      let parts = under (not (nat_le 2 (length words)) || false || nat_lt 65536 number)
      (list_any (λ word. is_none (number_within 1 (length d.lines) word)) (drop 1 words)) false
      (is_some d.order) none in
      let has = has_words (nat_le 2 (length words)) number parts.0 in
      let long = leb-true 2 (length words) has.0 in
      let ts = threads_written (length d.lines) (drop 1 words) parts.1 in (
        record told { order = Some ts.0 },
        OfOrder (drop 1 words) ts.0 (order_words words (codes "order") long first)
            (omega (arith, long, ts.3, length-drop 1 words)) ts.1
            (subst (λ (n : ℕ). All (IsThread n) ts.0) tied.threads ts.2)
            (is_none_is told.order (ap is_some (sym tied.order) ∙ parts.3)),
        has.1,
      )

  image_by : (k : ImageKind) → Begins (ImageLine k) words
      → (not (nat_le 4 (length words)) || (image_count d == 64) || nat_lt 65536 number) ≡ false
      → (not (is_image_name (word_at 1 words)) || has_long_object words) ≡ false
      → (is_some (slot_of d (word_at 1 words)) || (is_program k && is_some d.program)) ≡ false → Read
  image_by k first m n s =
      let room = neither (not (nat_le 4 (length words)) || (image_count d == 64)) (nat_lt 65536 number) m in
      let space = neither (not (nat_le 4 (length words))) (image_count d == 64) room.0 in
      let long = leb-true 4 (length words) (unless_not (nat_le 4 (length words)) space.0) in
      let named = neither (not (is_image_name (word_at 1 words))) (has_long_object words) n in
      let new = neither (is_some (slot_of d (word_at 1 words))) (is_program k && is_some d.program) s in
      let one : Image = record { name = word_at 1 words; kind = k; objects = drop 3 words } in (
        record told { images = told.images ++ one ∷ [] },
        OfImage one (image_words words (codes "image") (kind_word k) long first.0 first.1)
            (spelled one (record {
              name = unless_not (is_image_name (word_at 1 words)) named.0;
              objects = omega (arith, long, length-drop 3 words);
              short = named.1;
            }))
            (record {
              room = omega (arith, eqb-false (image_count d) 64 space.1, tied.count, tied.few);
              new = slotless_new told d (word_at 1 words) tied (is_none_is (slot_of d (word_at 1 words)) new.0);
              one_program = only_program told d k tied new.1;
            }),
        ltb_few room.1,
      )
    where
      ltb_few : nat_lt 65536 number ≡ false → number ≤ 65536
      ltb_few e = (has_words true number e).1

  image_told : (k : ImageKind) → Begins (ImageLine k) words
      → fault_under d number (heading_of (sample (ImageLine k))) words ≡ None → Read
  unfolding heading_of kind_heading
  image_told Exe first none =
      let parts = under (not (nat_le 4 (length words)) || (image_count d == 64) || nat_lt 65536 number) false
      (not (is_image_name (word_at 1 words)) || has_long_object words)
      (is_some (slot_of d (word_at 1 words)) || (is_program Exe && is_some d.program)) none in
      image_by Exe first parts.0 parts.2 parts.3
  image_told Pie first none =
      let parts = under (not (nat_le 4 (length words)) || (image_count d == 64) || nat_lt 65536 number) false
      (not (is_image_name (word_at 1 words)) || has_long_object words)
      (is_some (slot_of d (word_at 1 words)) || (is_program Pie && is_some d.program)) none in
      image_by Pie first parts.0 parts.2 parts.3
  image_told Start first none =
      let parts = under (not (nat_le 4 (length words)) || (image_count d == 64) || nat_lt 65536 number) false
      (not (is_image_name (word_at 1 words)) || has_long_object words)
      (is_some (slot_of d (word_at 1 words)) || (is_program Start && is_some d.program)) none in
      image_by Start first parts.0 parts.2 parts.3
  image_told Late first none =
      let parts = under (not (nat_le 4 (length words)) || (image_count d == 64) || nat_lt 65536 number) false
      (not (is_image_name (word_at 1 words)) || has_long_object words)
      (is_some (slot_of d (word_at 1 words)) || (is_program Late && is_some d.program)) none in
      image_by Late first parts.0 parts.2 parts.3

  -- a thread may ask this
  asks : (n : ℕ) (done : Action) → Writes (word_at 0 words) n → 1 ≤ n → n ≤ length d.lines
      → is_none (slot_of d (word_at 2 words)) ≡ false
      → MayAsk told (word_at 0 words) (record { thread = n; image = word_at 2 words; action = done })
  asks n done is some few there = record {
    written = is;
    thread = (some, omega (arith, few, tied.threads));
    image = elim (in_or_new (word_at 2 words) (names told.images)) [
      | inl stands ↦ stands
      | inr new ↦ absurd (false≢true (sym there ∙ ap is_none (new_slotless told d (word_at 2 words) tied new)))
    ];
  }

  call_told : word_at 1 words ≡ codes "call" → fault_under d number (heading_of (sample Call)) words ≡ None → Read
  unfolding heading_of verb_heading
  call_told verb none =
      let parts = under (not (length words == 7) || false || nat_lt 65536 number)
      (is_none (number_within 1 (length d.lines) (word_at 0 words))
      || (is_none (number_of (word_at 4 words)) || is_none (number_of (word_at 5 words))
      || is_none (number_of (word_at 6 words))))
      (not (is_short_name (word_at 3 words)) || is_none (slot_of d (word_at 2 words))) false none in
      let has = has_words (length words == 7) number parts.0 in
      let numbers = neither (is_none (number_within 1 (length d.lines) (word_at 0 words)))
      (is_none (number_of (word_at 4 words)) || is_none (number_of (word_at 5 words))
      || is_none (number_of (word_at 6 words))) parts.1 in
      let bc = neither (is_none (number_of (word_at 4 words)) || is_none (number_of (word_at 5 words)))
      (is_none (number_of (word_at 6 words))) numbers.1 in
      let ab = neither (is_none (number_of (word_at 4 words))) (is_none (number_of (word_at 5 words))) bc.0 in
      let named = neither (not (is_short_name (word_at 3 words))) (is_none (slot_of d (word_at 2 words))) parts.2 in
      let n = within_writes 1 (length d.lines) (word_at 0 words) numbers.0 in
      let a = number_writes (word_at 4 words) ab.0 in
      let b = number_writes (word_at 5 words) ab.1 in
      let c = number_writes (word_at 6 words) bc.1 in
      let done : Action = action.Call (word_at 3 words) a.0 b.0 c.0 in (
        record told { asked = told.asked ++ record { thread = n.0; image = word_at 2 words; action = done } ∷ [] },
        OfCall (record { thread = n.0; image = word_at 2 words; action = done }) (word_at 0 words) (word_at 3 words)
            (word_at 4 words) (word_at 5 words) (word_at 6 words) a.0 b.0 c.0
            (seven words (codes "call") verb (eqb-true (length words) 7 has.0)) (refl {a = done})
            (asks n.0 done n.1 n.2 n.3 named.1) (short_is (word_at 3 words) named.0) a.1 b.1 c.1,
        has.1,
      )

  open_told : word_at 1 words ≡ codes "open" → fault_under d number (heading_of (sample Open)) words ≡ None → Read
  unfolding heading_of verb_heading
  open_told verb none =
      let parts = under (not (length words == 3) || false || nat_lt 65536 number)
      (is_none (number_within 1 (length d.lines) (word_at 0 words)) || false)
      (is_none (slot_of d (word_at 2 words))) false none in
      let has = has_words (length words == 3) number parts.0 in
      let numbers = neither (is_none (number_within 1 (length d.lines) (word_at 0 words))) false parts.1 in
      let n = within_writes 1 (length d.lines) (word_at 0 words) numbers.0 in
      let done : Action = action.Open in (
        record told { asked = told.asked ++ record { thread = n.0; image = word_at 2 words; action = done } ∷ [] },
        OfOpen (record { thread = n.0; image = word_at 2 words; action = done }) (word_at 0 words)
            (three words (codes "open") verb (eqb-true (length words) 3 has.0)) refl
            (asks n.0 done n.1 n.2 n.3 parts.2),
        has.1,
      )

  close_told : word_at 1 words ≡ codes "close" → fault_under d number (heading_of (sample Close)) words ≡ None → Read
  unfolding heading_of verb_heading
  close_told verb none =
      let parts = under (not (length words == 3) || false || nat_lt 65536 number)
      (is_none (number_within 1 (length d.lines) (word_at 0 words)) || false)
      (is_none (slot_of d (word_at 2 words))) false none in
      let has = has_words (length words == 3) number parts.0 in
      let numbers = neither (is_none (number_within 1 (length d.lines) (word_at 0 words))) false parts.1 in
      let n = within_writes 1 (length d.lines) (word_at 0 words) numbers.0 in
      let done : Action = action.Close in (
        record told { asked = told.asked ++ record { thread = n.0; image = word_at 2 words; action = done } ∷ [] },
        OfClose (record { thread = n.0; image = word_at 2 words; action = done }) (word_at 0 words)
            (three words (codes "close") verb (eqb-true (length words) 3 has.0)) refl
            (asks n.0 done n.1 n.2 n.3 parts.2),
        has.1,
      )

  peek_told : word_at 1 words ≡ codes "peek" → fault_under d number (heading_of (sample Peek)) words ≡ None → Read
  unfolding heading_of verb_heading
  peek_told verb none =
      let parts = under (not (length words == 5) || false || nat_lt 65536 number)
      (is_none (number_within 1 (length d.lines) (word_at 0 words)) || is_none (number_within 0 4096 (word_at 4 words)))
      (not (is_short_name (word_at 3 words)) || is_none (slot_of d (word_at 2 words))) false none in
      let has = has_words (length words == 5) number parts.0 in
      let numbers = neither (is_none (number_within 1 (length d.lines) (word_at 0 words)))
      (is_none (number_within 0 4096 (word_at 4 words))) parts.1 in
      let named = neither (not (is_short_name (word_at 3 words))) (is_none (slot_of d (word_at 2 words))) parts.2 in
      let n = within_writes 1 (length d.lines) (word_at 0 words) numbers.0 in
      let size = within_writes 0 4096 (word_at 4 words) numbers.1 in
      let done : Action = action.Peek (word_at 3 words) size.0 in (
        record told { asked = told.asked ++ record { thread = n.0; image = word_at 2 words; action = done } ∷ [] },
        OfPeek (record { thread = n.0; image = word_at 2 words; action = done }) (word_at 0 words) (word_at 3 words)
            (word_at 4 words) size.0 (five words (codes "peek") verb (eqb-true (length words) 5 has.0)) refl
            (asks n.0 done n.1 n.2 n.3 named.1) (short_is (word_at 3 words) named.0) size.1 size.3,
        has.1,
      )

  short_faulty : fault_under d number (heading_of (sample Short)) words ≡ None → Read
  unfolding heading_of
  short_faulty none = absurd (cc none)

  other_faulty : fault_under d number (heading_of (sample Other)) words ≡ None → Read
  unfolding heading_of kind_heading
  other_faulty none = absurd (cc none)

  by_kind : (k : Kind) → Begins k words → fault_under d number (heading_of (sample k)) words ≡ None → Read
  by_kind (ImageLine k) first none = image_told k first none
  by_kind Threads first none = threads_told first none
  by_kind Fuel first none = fuel_told first none
  by_kind Order first none = order_told first none
  by_kind Call first none = call_told first none
  by_kind Open first none = open_told first none
  by_kind Close first none = close_told first none
  by_kind Peek first none = peek_told first none
  by_kind Short first none = short_faulty none
  by_kind Other first none = other_faulty none

  -- words without a fault tell something
  pub words_tell : fault_under d number (heading_of words) words ≡ None → Read
  words_tell none =
      let kind = headed_as words in
      by_kind kind.0 kind.2 (subst (λ h. fault_under d number h words ≡ None) kind.1 none)
