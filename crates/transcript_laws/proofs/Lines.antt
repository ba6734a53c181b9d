-- The words of a line and of an event, and what is read of them.
use Rattle.std.proofs.Common.{◌≡◌, ◌∙◌, ℕ, zero, suc, ◌+◌, ◌-◌, ◌/◌, ◌%◌, ◌<◌, ◌≤◌, Bool, true, false, ◌&&◌, ◌==◌}
use Rattle.std.proofs.Common.{cond, eqb, ltb}
use Rattle.std.proofs.Common.{List, [], ◌∷◌, ◌++◌, length, map, replicate, get_or, Option, Some, None, append-nil}
use Rattle.std.proofs.Common.{append_assoc, refl, sym, ap, subst}
use Rattle.std.proofs.Common.{arith, length-append, ne_eqb}
use Rattle.std.proofs.lemmas.Fmt.{decimal_nonempty}
use Rattle.std.proofs.lemmas.List.Elements.{All-head, All-tail}
use Rattle.std.specs.Fmt.{decimal, digit_glyph, digits, digits_onto}
use Rattle.std.specs.List.{All, flat_map, slice_split}
use Rattle.std.specs.Option.{option_map}
use Rattle.std.specs.Prelude.{codes}
use Rattle.hex.specs.Hex.{encode_lower, encode_with, lower_digits}
use Rattle.job_text.specs.Images.{image_name, image_number}
use Rattle.job_text.specs.declared.images.Image.{Image}
use Rattle.module_table.specs.declared.events.Event.{Event}
use Rattle.transcript_text.specs.OutcomeWords.{fault_text, refusal_text}
use Rattle.transcript_text.specs.Texts.{bytes_text, event_text, event_word, hex16, line_text, outcome_text, points_text}
use Rattle.transcript_text.specs.declared.outcomes.Line.{Line}
use Rattle.transcript_text.specs.declared.outcomes.LineFault.{LineFault}
use Rattle.transcript_text.specs.declared.outcomes.LineFault.TheVariants.{Address, Code, Unloaded, Steps}
use Rattle.transcript_text.specs.declared.outcomes.LineRefusal.{LineRefusal}
use Rattle.transcript_text.specs.declared.outcomes.LineRefusal.TheVariants.{Unknown, Full, StaticFull, Permanent}
use Rattle.transcript_text.specs.declared.outcomes.LineRefusal.TheVariants.{NotOpen, Symbol, Length}
use Rattle.transcript_text.specs.declared.outcomes.Outcome.{Outcome}
use Rattle.transcript_text.specs.declared.outcomes.Outcome.TheVariants.{Returned, Opened, Closed, Bytes, Refused}
use Rattle.transcript_text.specs.declared.outcomes.Outcome.TheVariants.{Fault}
use Rattle.transcript_laws.proofs.Numerals.{bytes_read, decimal_read, hex16_is, onto_nothing, word_read}
use Rattle.transcript_laws.proofs.Words.{AreWords, From, From-append, From-lower, From-tested, Says, cut_at, joined}
use Rattle.transcript_laws.proofs.Words.{joined-append, says_line, uncut}
use Rattle.transcript_laws.specs.Laws.{FitsLine, FitsOutcome, IsByte, IsWord}
use Rattle.transcript_laws.specs.Reader.{both, bytes_in, event_said, event_with, fault_in, is_number, line_said}
use Rattle.transcript_laws.specs.Reader.{line_with, listed, numbers_in, opens_in, outcome_in}
use Rattle.transcript_laws.specs.Reader.{outcome_of_one, outcome_of_two, refusal_in}

-- ** numerals have digits alone

glyph_from : (d : ℕ) → 48 ≤ digit_glyph false d
glyph_from d = by (ltb d 10)
  where
    by : (b : Bool) → 48 ≤ cond b (48 + d) (87 + d)
    by true = omega arith
    by false = omega arith

either : (b : Bool) (xs ys : List ℕ) → From 48 xs → From 48 ys → From 48 (cond b xs ys)
either true xs ys first second = first
either false xs ys first second = second

onto_From : (k base n : ℕ) (acc : List ℕ) → From 48 acc → From 48 (digits_onto k base false n acc)
onto_From zero base n acc are = are
onto_From (suc k) base n acc are =
    let more : From 48 (digit_glyph false (n % base) ∷ acc) = (glyph_from (n % base), are) in
    either (eqb (n / base) 0) _ _ more (onto_From k base (n / base) _ more)

digits_From : (base n : ℕ) → From 48 (digits base false n)
digits_From base n = rw (onto_nothing base n) (onto_From 64 base n [] tt)

decimal_From : (n : ℕ) → From 48 (decimal n)
decimal_From n = digits_From 10 n

zeros_From : (k : ℕ) → From 48 (replicate k 48)
zeros_From zero = tt
zeros_From (suc k) = (omega arith, zeros_From k)

hex16_From : (n : ℕ) → From 48 (hex16 n)
hex16_From n = rw (hex16_is n) (From-append 48 (replicate (16 - length (digits 16 false n)) 48) (digits 16 false n)
    (zeros_From (16 - length (digits 16 false n))) (digits_From 16 n))

From-at : (low : ℕ) (xs : List ℕ) (k : ℕ) → From low xs → k < length xs → low ≤ get_or xs k 0
From-at low [] k are lt = absurd (omega arith)
From-at low (x ∷ xs) zero are lt = are.0
From-at low (x ∷ xs) (suc k) are lt = From-at low xs k are.1 (omega arith)

encode_From : (bytes : List ℕ) → All IsByte bytes → From 48 (encode_lower bytes)
unfolding encode_with
encode_From [] fit = tt
encode_From (b ∷ more) fit =
    let fits : b < 256 = All-head IsByte b more fit in (
      From-at 48 lower_digits (b / 16) (From-tested 48 lower_digits refl) (omega arith),
      (
        From-at 48 lower_digits (b % 16) (From-tested 48 lower_digits refl) (omega arith),
        encode_From more (All-tail IsByte b more fit),
      ),
    )

word_From : (xs : List ℕ) → From 48 xs → From 33 xs
word_From xs are = From-lower 33 48 xs (omega arith) are

-- ** points

abbrev behind_commas : List ℕ → List ℕ
behind_commas ps = flat_map (λ q. codes "," ++ decimal q) ps

cut_points : (p : ℕ) (ps : List ℕ)
    → slice_split (λ b. b == 44) (decimal p ++ behind_commas ps) ≡ decimal p ∷ map decimal ps
cut_points p [] =
    ap (slice_split (λ b. b == 44)) (append-nil (decimal p))
    ∙ uncut 44 48 (decimal p) (omega arith) (decimal_From p)
cut_points p (q ∷ qs) =
    cut_at 44 48 (decimal p) (decimal q ++ behind_commas qs) (omega arith) (decimal_From p)
    ∙ ap (λ ws. decimal p ∷ ws) (cut_points q qs)

numbers_read : (ps : List ℕ) → All IsWord ps → numbers_in (map decimal ps) ≡ Some ps
unfolding numbers_in
numbers_read [] fit = refl
numbers_read (p ∷ ps) fit = λ i. both ◌∷◌ (decimal_read p (All-head IsWord p ps fit) i)
    (numbers_read ps (All-tail IsWord p ps fit) i)

listed_read : (ps : List ℕ) → All IsWord ps → listed (points_text ps) ≡ Some ps
unfolding points_text
listed_read [] fit = refl
listed_read (p ∷ ps) fit =
    let some : 0 < length (decimal p) = decimal_nonempty p (All-head IsWord p ps fit) in
    let long : length (decimal p ++ behind_commas ps) ≡ 0 → ⊥ =
    λ none. omega (arith, length-append (decimal p) (behind_commas ps)) in
    ap (λ b. cond b (Some []) (numbers_in (slice_split (λ b. b == 44) (decimal p ++ behind_commas ps))))
    (ne_eqb (length (decimal p ++ behind_commas ps)) 0 long)
    ∙ ap numbers_in (cut_points p ps) ∙ numbers_read (p ∷ ps) fit

commas_From : (ps : List ℕ) → From 33 (behind_commas ps)
commas_From [] = tt
commas_From (p ∷ ps) = (
  omega arith,
  From-append 33 (decimal p) (behind_commas ps) (word_From (decimal p) (decimal_From p)) (commas_From ps),
)

points_From : (ps : List ℕ) → From 33 (points_text ps)
unfolding points_text
points_From [] = tt
points_From (p ∷ ps) =
    From-append 33 (decimal p) (behind_commas ps) (word_From (decimal p) (decimal_From p)) (commas_From ps)

-- ** outcomes

-- the words of an outcome, and what they are read as
pub record Spoken (o : Outcome) : Type 0 where
  pub first : List ℕ
  pub more : List (List ℕ)
  pub text : outcome_text o ≡ joined first more
  pub word : From 33 first
  pub words : AreWords more
  pub read : outcome_in (first ∷ more) ≡ Some o

refusal_read : (r : LineRefusal) → (refusal_in (refusal_text r) ≡ Some r) × From 33 (refusal_text r)
unfolding refusal_in
refusal_read Unknown = (refl, From-tested 33 (codes "unknown") refl)
refusal_read Full = (refl, From-tested 33 (codes "full") refl)
refusal_read StaticFull = (refl, From-tested 33 (codes "static-full") refl)
refusal_read Permanent = (refl, From-tested 33 (codes "permanent") refl)
refusal_read NotOpen = (refl, From-tested 33 (codes "not-open") refl)
refusal_read Symbol = (refl, From-tested 33 (codes "symbol") refl)
refusal_read Length = (refl, From-tested 33 (codes "length") refl)

fault_read : (f : LineFault) → (fault_in (fault_text f) ≡ Some f) × From 33 (fault_text f)
unfolding fault_in
fault_read Address = (refl, From-tested 33 (codes "address") refl)
fault_read Code = (refl, From-tested 33 (codes "code") refl)
fault_read Unloaded = (refl, From-tested 33 (codes "unloaded") refl)
fault_read Steps = (refl, From-tested 33 (codes "steps") refl)

one_word : (o : Outcome) (first : List ℕ) → outcome_text o ≡ first → From 33 first
    → outcome_of_one first ≡ Some o → Spoken o
one_word o first is word read =
    record { first = first; more = []; text = is; word = word; words = tt; read = read }

two_words : (o : Outcome) (first second : List ℕ) → outcome_text o ≡ joined first (second ∷ []) → From 33 first
    → From 33 second → outcome_of_two first second ≡ Some o → Spoken o
two_words o first second is word other read =
    record { first = first; more = second ∷ []; text = is; word = word; words = (other, tt); read = read }

pub outcome_spoken : (o : Outcome) → FitsOutcome o → Spoken o
unfolding outcome_text bytes_text outcome_of_one outcome_of_two bytes_in encode_with
outcome_spoken (Returned v) fit = two_words (Returned v) (codes "=") (hex16 v) refl (From-tested 33 (codes "=") refl)
    (word_From (hex16 v) (hex16_From v)) (ap (λ o. option_map Returned o) (word_read v fit))
outcome_spoken (Opened n) fit = two_words (Opened n) (codes "opened") (decimal n) refl
    (From-tested 33 (codes "opened") refl) (word_From (decimal n) (decimal_From n))
    (ap (λ o. option_map Opened o) (decimal_read n (omega (arith, fit))))
outcome_spoken Closed fit = one_word Closed (codes "closed") refl (From-tested 33 (codes "closed") refl) refl
outcome_spoken (Bytes []) fit = one_word (Bytes []) (codes "bytes") refl (From-tested 33 (codes "bytes") refl) refl
outcome_spoken (Bytes (b ∷ bs)) fit = two_words (Bytes (b ∷ bs)) (codes "bytes") (encode_lower (b ∷ bs)) refl
    (From-tested 33 (codes "bytes") refl) (word_From (encode_lower (b ∷ bs)) (encode_From (b ∷ bs) fit))
    (ap (λ o. option_map Bytes o) (bytes_read (b ∷ bs) fit))
outcome_spoken (Refused r) fit = two_words (Refused r) (codes "refused") (refusal_text r) refl
    (From-tested 33 (codes "refused") refl) (refusal_read r).1 (ap (λ o. option_map Refused o) (refusal_read r).0)
outcome_spoken (Fault f) fit = two_words (Fault f) (codes "fault") (fault_text f) refl
    (From-tested 33 (codes "fault") refl) (fault_read f).1 (ap (λ o. option_map Fault o) (fault_read f).0)

-- ** a line

nine : (a b c d e f g h i : List ℕ) → a ++ b ++ c ++ d ++ e ++ f ++ g ++ h ++ i
    ≡ a ++ (b ++ (c ++ (d ++ (e ++ (f ++ (g ++ (h ++ i)))))))
nine a b c d e f g h i = simp append_assoc refl

tagged : (letter n : ℕ) → 33 ≤ letter → From 33 (letter ∷ decimal n)
tagged letter n le = (le, word_From (decimal n) (decimal_From n))

module _ (thread k : ℕ) (line : Line) (fits : FitsLine line) (spoken : Spoken line.outcome) where
  abbrev points : List ℕ
  points = codes "g" ++ points_text line.points

  abbrev behind_thread : List (List ℕ)
  behind_thread = (codes "l" ++ decimal k) ∷ points ∷ spoken.first ∷ spoken.more

  line_is : line_text thread k line ≡ joined (codes "t" ++ decimal thread) behind_thread ++ 10 ∷ []
  unfolding line_text
  line_is =
      nine (codes "t") (decimal thread) (codes " l") (decimal k) (codes " g") (points_text line.points) (codes " ")
      (outcome_text line.outcome) (codes "\n")
      ∙ ap (λ (o : List ℕ). (codes "t" ++ decimal thread) ++ 32 ∷ ((codes "l" ++ decimal k)
      ++ 32 ∷ (points ++ 32 ∷ (o ++ 10 ∷ [])))) spoken.text
      ∙ sym (joined-append (codes "t" ++ decimal thread) (codes "l" ++ decimal k) (points ∷ spoken.first ∷ spoken.more)
      (10 ∷ [])
      ∙ ap (λ (x : List ℕ). (codes "t" ++ decimal thread) ++ 32 ∷ x)
      (joined-append (codes "l" ++ decimal k) points (spoken.first ∷ spoken.more) (10 ∷ [])
      ∙ ap (λ (x : List ℕ). (codes "l" ++ decimal k) ++ 32 ∷ x)
      (joined-append points spoken.first spoken.more (10 ∷ []))))

  are_words : AreWords behind_thread
  are_words = (tagged 108 k (omega arith), ((omega arith, points_From line.points), (spoken.word, spoken.words)))

  line_is_said : (t j : ℕ) → IsWord thread → IsWord k → line_said t j ((codes "t" ++ decimal thread) ∷ behind_thread)
      ≡ cond ((thread == t) && (k == j)) (Some line) None
  unfolding line_said
  line_is_said t j small few = λ i.
      cond (is_number t (decimal_read thread small i) && is_number j (decimal_read k few i))
      (both line_with (listed_read line.points fits.points i) (spoken.read i)) None

  pub line_says : (t j : ℕ) → IsWord thread → IsWord k
      → Says (line_said t j) (line_text thread k line) (cond ((thread == t) && (k == j)) (Some line) None)
  line_says t j small few =
      rw (line_is, sym (line_is_said t j small few))
      (says_line (line_said t j) (codes "t" ++ decimal thread) behind_thread (tagged 116 thread (omega arith))
      are_words)

  -- a line is no event
  no_event : (images : List Image) (n : ℕ) (second third fourth : List ℕ) (more : List (List ℕ))
      → event_said images n ((codes "t" ++ decimal thread) ∷ second ∷ third ∷ fourth ∷ more) ≡ None
  unfolding event_said
  no_event images n second third fourth [] = refl
  no_event images n second third fourth (fifth ∷ []) = refl
  no_event images n second third fourth (fifth ∷ sixth ∷ more) = refl

  pub line_says_no_event : (images : List Image) (n : ℕ) → Says (event_said images n) (line_text thread k line) None
  line_says_no_event images n =
      subst (λ (o : Option Event). Says (event_said images n) (line_text thread k line) o)
      (no_event images n (codes "l" ++ decimal k) points spoken.first spoken.more) (rw line_is
      (says_line (event_said images n) (codes "t" ++ decimal thread) behind_thread
      (tagged 116 thread (omega arith)) are_words))

-- ** an event

eleven : (a b c d e f g h i j k : List ℕ) → a ++ b ++ c ++ d ++ e ++ f ++ g ++ h ++ i ++ j ++ k
    ≡ a ++ (b ++ (c ++ (d ++ (e ++ (f ++ (g ++ (h ++ (i ++ (j ++ k)))))))))
eleven a b c d e f g h i j k = simp append_assoc refl

event_words_read : (opens : Bool) → (opens_in (event_word opens) ≡ Some opens) × From 33 (event_word opens)
unfolding opens_in
event_words_read true = (refl, From-tested 33 (codes "open") refl)
event_words_read false = (refl, From-tested 33 (codes "close") refl)

module _ (images : List Image) (n : ℕ) (event : Event) (name : From 33 (image_name images event.image)) where
  abbrev event_head : List ℕ
  event_head = codes "e" ++ decimal n

  abbrev behind_number : List (List ℕ)
  behind_number = (codes "t" ++ decimal event.thread) ∷ (codes "l" ++ decimal event.line) ∷ event_word event.opens
      ∷ image_name images event.image ∷ []

  event_is : event_text images n event ≡ joined event_head behind_number ++ 10 ∷ []
  unfolding event_text
  event_is =
      eleven (codes "e") (decimal n) (codes " t") (decimal event.thread) (codes " l") (decimal event.line) (codes " ")
      (event_word event.opens) (codes " ") (image_name images event.image) (codes "\n")
      ∙ sym (append_assoc event_head (32 ∷ ((codes "t" ++ decimal event.thread)
      ++ 32 ∷ ((codes "l" ++ decimal event.line)
      ++ 32 ∷ (event_word event.opens ++ 32 ∷ image_name images event.image)))) (10 ∷ [])
      ∙ ap (λ (x : List ℕ). event_head ++ 32 ∷ x) (append_assoc (codes "t" ++ decimal event.thread)
      (32 ∷ ((codes "l" ++ decimal event.line) ++ 32 ∷ (event_word event.opens ++ 32 ∷ image_name images event.image)))
      (10 ∷ [])
      ∙ ap (λ (x : List ℕ). (codes "t" ++ decimal event.thread) ++ 32 ∷ x) (append_assoc
      (codes "l" ++ decimal event.line) (32 ∷ (event_word event.opens ++ 32 ∷ image_name images event.image)) (10 ∷ [])
      ∙ ap (λ (x : List ℕ). (codes "l" ++ decimal event.line) ++ 32 ∷ x)
      (append_assoc (event_word event.opens) (32 ∷ image_name images event.image) (10 ∷ [])))))

  words_are : AreWords behind_number
  words_are = (
    tagged 116 event.thread (omega arith),
    (
      tagged 108 event.line (omega arith),
      ((event_words_read event.opens).1, (name, tt)),
    ),
  )

  event_is_said : (m : ℕ) → IsWord n → IsWord event.thread → IsWord event.line
      → image_number images (image_name images event.image) ≡ Some event.image
      → event_said images m (event_head ∷ behind_number) ≡ cond (n == m) (Some event) None
  unfolding event_said
  event_is_said m few small little known = λ i. cond (is_number m (decimal_read n few i))
      (both event_with (both (λ a b. (a, b)) (decimal_read event.thread small i) (decimal_read event.line little i))
      (both (λ a b. (a, b)) ((event_words_read event.opens).0 i) (known i))) None

  pub event_says : (m : ℕ) → IsWord n → IsWord event.thread → IsWord event.line
      → image_number images (image_name images event.image) ≡ Some event.image
      → Says (event_said images m) (event_text images n event) (cond (n == m) (Some event) None)
  event_says m few small little known =
      rw (event_is, sym (event_is_said m few small little known))
      (says_line (event_said images m) event_head behind_number (tagged 101 n (omega arith)) words_are)

  event_no_line : (t j : ℕ) → line_said t j (event_head ∷ behind_number) ≡ None
  unfolding line_said
  event_no_line t j = refl

  pub event_says_no_line : (t j : ℕ) → Says (line_said t j) (event_text images n event) None
  event_says_no_line t j = subst (λ (o : Option Line). Says (line_said t j) (event_text images n event) o)
      (event_no_line t j) (rw event_is
      (says_line (line_said t j) event_head behind_number (tagged 101 n (omega arith)) words_are))
