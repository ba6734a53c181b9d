-- The lines of a text: those that have no fault are those that the grammar has.
use Rattle.std.proofs.Common.{◌≡◌, ◌≢◌, ◌∙◌, ℕ, zero, suc, ◌+◌, ◌<◌, ◌≤◌, Bool, true, false, ◌&&◌, ◌||◌, ◌==◌, cond}
use Rattle.std.proofs.Common.{List, [], ◌∷◌, ◌++◌, length, slice_index, Some, None, Ok, refl, sym, ap}
use Rattle.std.proofs.Common.{subst}
use Rattle.std.proofs.Common.{arith, eq-eqb, eqb-true, ne_eqb, length-append}
use Rattle.std.specs.Prelude.{codes}
use Rattle.std.specs.List.{All}
use Rattle.std.proofs.lemmas.Bool.{and_from, and_parts, or_from, or_right, false≢true}
use Rattle.std.proofs.lemmas.List.Elements.{All-cons, All-head, All-nil, All-tail}
use Rattle.std.proofs.lemmas.List.Splits.{slice_split_at, slice_split_none}
use Rattle.job_text.specs.Drafts.{Declared}
use Rattle.job_text.specs.Grammar.{begins_with_digit, heading_of, is_digit_byte}
use Rattle.job_text.specs.Jobs.{JobParts, fault_or, job_declared, job_from}
use Rattle.job_text.specs.LineEffects.{with_heading, with_text}
use Rattle.job_text.specs.LineFaults.{fault_of, fault_under}
use Rattle.job_text.specs.Words.{is_blank, is_skipped, is_text, lines_of, word_at, words_of}
use Rattle.job_text.specs.declared.fault.JobFaultKind.TheVariants as kind
use Rattle.job_grammar_laws.specs.Grammar.{IsWord, Spaced, End, Space, Last, Word, Told, Tells, OfImage, OfThreads}
use Rattle.job_grammar_laws.specs.Grammar.{OfFuel}
use Rattle.job_grammar_laws.specs.Grammar.{OfOrder, OfCall, OfOpen, OfClose, OfPeek, Says, Comment, Blank, Line, Text}
use Rattle.job_grammar_laws.specs.Grammar.{LastLine, NextLine}
use Rattle.job_grammar_laws.specs.Numbers.{Writes}
use Rattle.job_grammar_laws.proofs.Apart.{past_fault}
use Rattle.job_grammar_laws.proofs.Read.{words_tell}
use Rattle.job_grammar_laws.proofs.Spacing.{Cut, Whole, At, cut, no_others, others, spaced, spaced_read}
use Rattle.job_grammar_laws.proofs.Tests.{begins}
use Rattle.job_grammar_laws.proofs.Tied.{Tied}
use Rattle.job_grammar_laws.proofs.Told.{tells_read}

-- ** which lines are skipped

-- the words of a line that tells something begin with no `#`
abbrev Begun : List (List ℕ) → Type 0
Begun words = (1 ≤ length words) × (slice_index (word_at 0 words) 0 ≢ 35)

no_digit : (word : List ℕ) → begins_with_digit word ≡ true → slice_index word 0 ≢ 35
no_digit word digit same = false≢true (ap is_digit_byte (sym same) ∙ digit)

number_begins : (word : List ℕ) (n : ℕ) (more : List (List ℕ)) → Writes word n → Begun (word ∷ more)
number_begins word n more is = (omega arith, no_digit word (begins word n is))

begun : (told : Told) (words : List (List ℕ)) (after : Told) → Tells told words after → Begun words
begun told words after (OfImage image e is may) =
    subst Begun (sym e) (omega arith, λ same. false≢true (eq-eqb 105 35 same))
begun told words after (OfThreads word n e is some most none) =
    subst Begun (sym e) (omega arith, λ same. false≢true (eq-eqb 116 35 same))
begun told words after (OfFuel word n e is some most none) =
    subst Begun (sym e) (omega arith, λ same. false≢true (eq-eqb 102 35 same))
begun told words after (OfOrder ws threads e some are named none) =
    subst Begun (sym e) (omega arith, λ same. false≢true (eq-eqb 111 35 same))
begun told words after (OfCall asked word symbol first second third a b c e does may short p q r) =
    subst Begun (sym e) (number_begins word asked.thread (codes "call" ∷ asked.image ∷ symbol ∷ first ∷ second ∷
    third ∷ []) may.written)
begun told words after (OfOpen asked word e does may) =
    subst Begun (sym e) (number_begins word asked.thread (codes "open" ∷ asked.image ∷ []) may.written)
begun told words after (OfClose asked word e does may) =
    subst Begun (sym e) (number_begins word asked.thread (codes "close" ∷ asked.image ∷ []) may.written)
begun told words after (OfPeek asked word symbol size n e does may short is most) =
    subst Begun (sym e) (number_begins word asked.thread (codes "peek" ∷ asked.image ∷ symbol ∷ size ∷ []) may.written)

word_stands : (word back : List ℕ) → IsWord word → slice_index word 0 ≢ 35 → is_skipped (word ++ back) ≡ false
word_stands [] back is differs = absurd (omega (arith, is.some))
word_stands (b ∷ word) back is differs =
    or_from (b == 35) (is_blank ((b ∷ word) ++ back)) (ne_eqb b 35 differs)
    (ap (λ t. t && is_blank (word ++ back))
    (ne_eqb b 32 (λ e. omega (arith, e, (All-head (λ x. (33 ≤ x) × (x ≤ 126)) b word is.marks).0))))

not_blank : (line : List ℕ) (words : List (List ℕ)) → Spaced line words → Begun words → is_blank line ≡ false
not_blank line words End begun = absurd (omega (arith, begun.0))
not_blank line words (Space more rest is) begun = not_blank more rest is begun
not_blank line words (Last [] is) begun = absurd (omega (arith, is.some))
not_blank line words (Last (b ∷ word) is) begun =
    ap (λ t. t && is_blank word)
    (ne_eqb b 32 (λ e. omega (arith, e, (All-head (λ x. (33 ≤ x) × (x ≤ 126)) b word is.marks).0)))
not_blank line words (Word [] more rest is are) begun = absurd (omega (arith, is.some))
not_blank line words (Word (b ∷ word) more rest is are) begun =
    ap (λ t. t && is_blank (word ++ 32 ∷ more))
    (ne_eqb b 32 (λ e. omega (arith, e, (All-head (λ x. (33 ≤ x) × (x ≤ 126)) b word is.marks).0)))

not_skipped : (line : List ℕ) (words : List (List ℕ)) → Spaced line words → Begun words → is_skipped line ≡ false
not_skipped line words End begun = absurd (omega (arith, begun.0))
not_skipped line words (Space more rest is) begun = not_blank more rest is begun
not_skipped line words (Last word is) begun = whole word is begun.1
  where
    whole : (word : List ℕ) → IsWord word → slice_index word 0 ≢ 35 → is_skipped word ≡ false
    whole [] is differs = absurd (omega (arith, is.some))
    whole (b ∷ word) is differs =
        or_from (b == 35) (is_blank (b ∷ word)) (ne_eqb b 35 differs)
        (ap (λ t. t && is_blank word)
        (ne_eqb b 32 (λ e. omega (arith, e, (All-head (λ x. (33 ≤ x) × (x ≤ 126)) b word is.marks).0))))
not_skipped line words (Word word more rest is are) begun = word_stands word (32 ∷ more) is begun.1

blank_tested : (line : List ℕ) → All (λ b. b ≡ 32) line → is_blank line ≡ true
blank_tested [] are = refl
blank_tested (b ∷ line) are =
    and_from (b == 32) (is_blank line) (eq-eqb b 32 (All-head (λ (x : ℕ). x ≡ 32) b line are))
    (blank_tested line (All-tail (λ (x : ℕ). x ≡ 32) b line are))

blank_is : (line : List ℕ) → is_blank line ≡ true → All (λ b. b ≡ 32) line
blank_is [] e = All-nil (λ (x : ℕ). x ≡ 32)
blank_is (b ∷ line) e =
    let parts = and_parts (b == 32) (is_blank line) e in
    All-cons (λ (x : ℕ). x ≡ 32) b line (eqb-true b 32 parts.0) (blank_is line parts.1)

-- ** a line

module _ (number : ℕ) (told : Told) (d : Declared) (line : List ℕ) (tied : Tied told d) where
  skipped_read : is_skipped line ≡ true → (fault_of d number line ≡ None) × Tied told (with_text line d)
  unfolding fault_of with_text
  skipped_read is = (
    ap (λ t. cond t None (cond (is_text line) (fault_under d number (heading_of (words_of line)) (words_of line))
        (Some kind.NotText))) is,
    subst (λ t. Tied told (cond t d (with_heading (heading_of (words_of line)) (words_of line) d))) (sym is) tied,
  )

  line_read : (words : List (List ℕ)) (after : Told) → is_skipped line ≡ false → is_text line ≡ true
      → words_of line ≡ words
      → (fault_under d number (heading_of words) words ≡ None) × Tied after (with_heading (heading_of words) words d)
      → (fault_of d number line ≡ None) × Tied after (with_text line d)
  unfolding fault_of with_text
  line_read words after skipped text is read =
      let own = subst (λ ws. (fault_under d number (heading_of ws) ws ≡ None)
      × Tied after (with_heading (heading_of ws) ws d)) (sym is) read in (
        ap (λ t. cond t None (cond (is_text line) (fault_under d number (heading_of (words_of line)) (words_of line))
            (Some kind.NotText))) skipped
            ∙ ap (λ t. cond t (fault_under d number (heading_of (words_of line)) (words_of line))
            (Some kind.NotText)) text
            ∙ own.0,
        subst (λ t. Tied after (cond t d (with_heading (heading_of (words_of line)) (words_of line) d))) (sym skipped)
            own.1,
      )

  pub says_read : (after : Told) → Says number told line after
      → (fault_of d number line ≡ None) × Tied after (with_text line d)
  says_read after (Comment rest e) = skipped_read (subst (λ (l : List ℕ). is_skipped l ≡ true) (sym e) refl)
  says_read after (Blank are) = skipped_read (or_right (slice_index line 0 == 35) (is_blank line)
      (blank_tested line are))
  says_read after (Line words told' are few tells) =
      let read = spaced_read line words are in
      line_read words after (not_skipped line words are (begun told words after tells)) read.0 read.1
      (tells_read number told d tied few words after tells)

  hash : (bytes : List ℕ) → (slice_index bytes 0 == 35) ≡ true → (rest : List ℕ) × (bytes ≡ codes "#" ++ rest)
  hash [] e = absurd (false≢true e)
  hash (b ∷ rest) e = (rest, ap (λ x. x ∷ rest) (eqb-true b 35 e))

  skipped_says : is_skipped line ≡ true → Says number told line told
  skipped_says is = by (slice_index line 0 == 35) refl is
    where
      by : (t : Bool) → (slice_index line 0 == 35) ≡ t → (t || is_blank line) ≡ true → Says number told line told
      by true e is = let found = hash line e in Comment found.0 found.1
      by false e is = Blank (blank_is line is)

  pub line_says : fault_of d number line ≡ None → (after : Told) × Says number told line after
  unfolding fault_of
  line_says none = by (is_skipped line) (is_text line) refl refl none
    where
      by : (skipped text : Bool) → is_skipped line ≡ skipped → is_text line ≡ text
          → cond skipped None (cond text (fault_under d number (heading_of (words_of line)) (words_of line))
          (Some kind.NotText)) ≡ None
          → (after : Told) × Says number told line after
      by true text is printed e = (told, skipped_says is)
      by false true is printed e =
          let tells = words_tell number told d (words_of line) tied e in
          (tells.0, Line (words_of line) tells.0 (spaced line printed) tells.2 tells.1)
      by false false is printed e = absurd (cc e)

-- ** lines

lines_whole : (text : List ℕ) → All (λ b. (b == 10) ≡ false) text → lines_of text ≡ text ∷ []
lines_whole text none = slice_split_none (λ b. b == 10) text none

lines_cut : (front back : List ℕ) → All (λ b. (b == 10) ≡ false) front
    → lines_of (front ++ 10 ∷ back) ≡ front ∷ lines_of back
lines_cut front back none = slice_split_at (λ b. b == 10) front 10 back none refl

job_more : (d : Declared) (number : ℕ) (line : List ℕ) (more : List (List ℕ)) → fault_of d number line ≡ None
    → job_from d number (line ∷ more) ≡ job_from (with_text line d) (number + 1) more
unfolding job_from
job_more d number line more none =
    ap (λ f. fault_or number f (job_from (with_text line d) (number + 1) more)) none

job_end : (d : Declared) (number : ℕ) → job_from d number [] ≡ job_declared d
unfolding job_from
job_end d number = refl

-- the reader goes through the lines of the grammar
pub text_read : (number : ℕ) (told : Told) (text : List ℕ) (after : Told) → Text number told text after
    → (d : Declared) → Tied told d
    → (last : Declared) × Tied after last × (job_from d number (lines_of text) ≡ job_declared last)
text_read number told text after (LastLine n t line u plain says) d tied =
    let read = says_read number told d text tied after says in (
      with_text text d,
      read.1,
      ap (job_from d number) (lines_whole text (others 10 text plain)) ∙ job_more d number text [] read.0
          ∙ job_end (with_text text d) (number + 1),
    )
text_read number told text after (NextLine n t line between rest u plain says more) d tied =
    let read = says_read number told d line tied between says in
    let later = text_read (number + 1) between rest after more (with_text line d) read.1 in (
      later.0,
      later.1,
      ap (job_from d number) (lines_cut line rest (others 10 line plain))
          ∙ job_more d number line (lines_of rest) read.0 ∙ later.2,
    )

-- and the grammar through those of the reader
abbrev Derived : ℕ → Told → List ℕ → JobParts → Type 0
Derived number told text job =
    (after : Told) × (last : Declared) × Text number told text after × Tied after last × (job_declared last ≡ Ok job)

job_past : (d : Declared) (number : ℕ) (line : List ℕ) (more : List (List ℕ)) (job : JobParts)
    → job_from d number (line ∷ more) ≡ Ok job
    → (fault_of d number line ≡ None) × (job_from (with_text line d) (number + 1) more ≡ Ok job)
unfolding job_from
job_past d number line more job is = past_fault number (fault_of d number line) _ job is

text_told_by : (n : ℕ) (number : ℕ) (told : Told) (text : List ℕ) (d : Declared) (job : JobParts) → length text < n
    → Tied told d → job_from d number (lines_of text) ≡ Ok job → Cut 10 text → Derived number told text job
text_told_by zero number told text d job short tied is found = absurd (omega (arith, short))
text_told_by (suc n) number told text d job short tied is (Whole none) =
    let past = job_past d number text [] job (subst (λ lines. job_from d number lines ≡ Ok job)
    (lines_whole text none) is) in
    let says = line_says number told d text tied past.0 in (
      says.0,
      with_text text d,
      LastLine number told text says.0 (no_others 10 text none) says.1,
      (says_read number told d text tied says.0 says.1).1,
      sym (job_end (with_text text d) (number + 1)) ∙ past.1,
    )
text_told_by (suc n) number told text d job short tied is (At front back none e) =
    let past = job_past d number front (lines_of back) job
    (subst (λ lines. job_from d number lines ≡ Ok job) (ap lines_of e ∙ lines_cut front back none) is) in
    let says = line_says number told d front tied past.0 in
    let shorter : length back < n = omega (arith, short, ap length e, length-append front (10 ∷ back)) in
    let later = text_told_by n (number + 1) says.0 back (with_text front d) job shorter
    (says_read number told d front tied says.0 says.1).1 past.1 (cut 10 back) in (
      later.0,
      later.1,
      subst (λ (t : List ℕ). Text number told t later.0) (sym e)
          (NextLine number told front says.0 back later.0 (no_others 10 front none) says.1 later.2),
      later.3,
      later.4,
    )

pub text_told : (number : ℕ) (told : Told) (text : List ℕ) (d : Declared) (job : JobParts) → Tied told d
    → job_from d number (lines_of text) ≡ Ok job → Derived number told text job
text_told number told text d job tied is =
    text_told_by (suc (length text)) number told text d job (omega arith) tied is (cut 10 text)
