-- The generated text spells the generated job.
use Rattle.std.proofs.Common.{◌≡◌, ◌∙◌, ℕ, zero, suc, ◌+◌, ◌≤◌, true, false, nat_lt, List, [], ◌∷◌, ◌++◌}
use Rattle.std.proofs.Common.{Result, Ok, codes, map, flat_map, refl, sym, ap, arith, decimal}
use Rattle.std.proofs.Common.{append_assoc, append-nil}
use Rattle.std.specs.List.{list_all, range_with_len}
use Rattle.std.proofs.lemmas.Bool.{and_from, le-ltb}
use Rattle.std.proofs.lemmas.Fmt.{decimal_nonempty}
use Rattle.std.proofs.lemmas.List.{length-map}
use Rattle.std.proofs.lemmas.List.FromFn.{length-range_with_len}
use Rattle.generated_job.specs.Generated.{function_name, generated_text, module_call, object_name, program_call}
use Rattle.generated_job.specs.Generated.{program_line}
use Rattle.job_text.specs.Drafts.{Declared, nothing_declared}
use Rattle.job_text.specs.Jobs.{JobParts, job_declared, job_from, job_of}
use Rattle.job_text.specs.Words.{is_skipped, lines_of}
use Rattle.job_text.specs.declared.fault.JobFault.{JobFault}
use Rattle.job_text.specs.declared.thread_lines.Action.TheVariants.{Close, Peek}
use Rattle.job_text.specs.declared.thread_lines.ThreadLine.{ThreadLine}
use Rattle.generated_laws.specs.Jobs.{closer_lines, generated_parts, module_call_line, opener_lines, program_call_line}
use Rattle.generated_laws.proofs.TextLines.{is_word, line_adds, nothing_left, spelled}
use Rattle.generated_laws.proofs.TextNames.{function_short, function_word, is_word_by, names_spaced, object_words}
use Rattle.generated_laws.proofs.TextNames.{objects_short}
use Rattle.generated_laws.proofs.TextNumbers.{decimal_number, decimal_word}
use Rattle.generated_laws.proofs.TextSteps.{Plan, Slot, Tells, close_tells, close_words, module_adds, module_call_tells}
use Rattle.generated_laws.proofs.TextSteps.{module_call_words, module_words, open_tells, open_words, peek_tells}
use Rattle.generated_laws.proofs.TextSteps.{peek_words, program_adds, program_call_tells, program_call_words}
use Rattle.generated_laws.proofs.TextSteps.{program_words, shown, state, threads_add, threads_words, with_module}
use Rattle.generated_laws.proofs.TextSteps.{with_program}

-- what a text comes to
abbrev Answer : Type 0
Answer = Result JobParts JobFault

-- a line of a thread, and what the text behind it comes to
line_told : (d : Declared) (place : ℕ) (word : List ℕ) (words : List (List ℕ)) (rest : List ℕ)
    (with_plans : List Plan → Declared) (old : List Plan) (line : ThreadLine) (answer : Answer)
    → list_all is_word (word ∷ words) ≡ true → is_skipped (spelled (word ∷ words)) ≡ false
    → Tells d place (word ∷ words) with_plans old line
    → ((now : List Plan) → shown now ≡ shown old ++ line ∷ []
    → job_from (with_plans now) (place + 1) (lines_of rest) ≡ answer)
    → job_from d place (lines_of (spelled (word ∷ words) ++ 10 ∷ rest)) ≡ answer
line_told d place word words rest with_plans old line answer are read tells next =
    line_adds d (with_plans tells.now) place word words rest are read tells.adds ∙ next tells.now tells.told

-- a place that a line may have
early : (place : ℕ) → place ≤ 65536 → nat_lt 65536 place ≡ false
early place within = le-ltb 65536 place within

-- ** calls

program_call_text : (i : ℕ) (rest : List ℕ)
    → program_call i ++ rest
    ≡ spelled (program_call_words (function_name i)) ++ 10 ∷ rest
unfolding program_call
program_call_text i rest = simp append_assoc

module_call_text : (i : ℕ) (rest : List ℕ)
    → module_call i ++ rest
    ≡ spelled (module_call_words (decimal i)) ++ 10 ∷ rest
unfolding module_call
module_call_text i rest = simp append_assoc

decimal_is_word : (i : ℕ) → i ≤ 1000 → is_word (decimal i) ≡ true
decimal_is_word i small =
    is_word_by (decimal i) (decimal_nonempty i (omega arith)) (decimal_word i (omega arith))

module _ (objects : List (List ℕ)) (mentions : List Slot) (answer : Answer) where
  -- from number i on, k of them
  program_calls : (k i place : ℕ) (first second : List Plan) (lines : List ThreadLine) (rest : List ℕ)
      → shown first ≡ lines → i + k ≤ 1001 → place + k ≤ 65536
      → ((now : List Plan) (last : ℕ) → shown now ≡ lines ++ map program_call_line (range_with_len i k)
      → last ≡ place + k → job_from (state objects mentions now second) last (lines_of rest) ≡ answer)
      → job_from (state objects mentions first second) place
      (lines_of (flat_map program_call (range_with_len i k) ++ rest)) ≡ answer
  program_calls zero i place first second lines rest is low high next =
      next first place (is ∙ sym (append-nil lines)) (omega arith)
  program_calls (suc k) i place first second lines rest is low high next =
      let more : List ℕ = flat_map program_call (range_with_len (i + 1) k) in
      ap (λ text. job_from (state objects mentions first second) place (lines_of text))
      (append_assoc (program_call i) more rest ∙ program_call_text i (more ++ rest))
      ∙ line_told (state objects mentions first second) place _ _ (more ++ rest) _ first
      (program_call_line i) answer (and_from (is_word (function_name i)) true (function_word i (omega arith)) refl) refl
      (program_call_tells objects mentions first second place (early place (omega arith)) (function_name i)
      (function_short i (omega arith)))
      (λ now told. program_calls k (i + 1) (place + 1) now second (lines ++ program_call_line i ∷ []) rest
      (told ∙ ap (λ ls. ls ++ program_call_line i ∷ []) is) (omega arith) (omega arith)
      (λ after last shows at. next after last
      (shows ∙ append_assoc lines (program_call_line i ∷ []) (map program_call_line (range_with_len (i + 1) k)))
      (omega arith)))

  module_calls : (k i place : ℕ) (first second : List Plan) (lines : List ThreadLine) (rest : List ℕ)
      → shown second ≡ lines → 1 ≤ i → i + k ≤ 1001 → place + k ≤ 65536
      → ((now : List Plan) (last : ℕ) → shown now ≡ lines ++ map module_call_line (range_with_len i k)
      → last ≡ place + k → job_from (state objects mentions first now) last (lines_of rest) ≡ answer)
      → job_from (state objects mentions first second) place
      (lines_of (flat_map module_call (range_with_len i k) ++ rest)) ≡ answer
  module_calls zero i place first second lines rest is some low high next =
      next second place (is ∙ sym (append-nil lines)) (omega arith)
  module_calls (suc k) i place first second lines rest is some low high next =
      let more : List ℕ = flat_map module_call (range_with_len (i + 1) k) in
      ap (λ text. job_from (state objects mentions first second) place (lines_of text))
      (append_assoc (module_call i) more rest ∙ module_call_text i (more ++ rest))
      ∙ line_told (state objects mentions first second) place _ _ (more ++ rest) _ second
      (module_call_line i) answer (and_from (is_word (decimal i)) true (decimal_is_word i (omega arith)) refl) refl
      (module_call_tells objects mentions first second place (early place (omega arith)) (decimal i) i
      (decimal_number i (omega arith) (omega arith)))
      (λ now told. module_calls k (i + 1) (place + 1) first now (lines ++ module_call_line i ∷ []) rest
      (told ∙ ap (λ ls. ls ++ module_call_line i ∷ []) is) (omega arith) (omega arith) (omega arith)
      (λ after last shows at. next after last
      (shows ∙ append_assoc lines (module_call_line i ∷ []) (map module_call_line (range_with_len (i + 1) k)))
      (omega arith)))

-- ** the whole text

-- from its last line to its first
abbrev close_text : List ℕ
close_text = spelled close_words ++ 10 ∷ []

abbrev peek_text : List ℕ
peek_text = spelled peek_words ++ 10 ∷ close_text

abbrev closer_text : ℕ → List ℕ
closer_text n = flat_map module_call (range_with_len 1 n) ++ peek_text

abbrev call_text : ℕ → List ℕ
call_text n = flat_map program_call (range_with_len 1 n) ++ closer_text n

thread_text : ℕ → List ℕ
thread_text n = spelled open_words ++ 10 ∷ call_text n

abbrev threads_text : ℕ → List ℕ
threads_text n = spelled threads_words ++ 10 ∷ thread_text n

module_text : ℕ → List ℕ
module_text n = spelled module_words ++ 10 ∷ threads_text n

objects : ℕ → List (List ℕ)
objects n = map object_name (range_with_len 1 n)

whole_text : (n : ℕ) → generated_text n ≡ spelled (program_words (objects n)) ++ 10 ∷ module_text n
unfolding generated_text program_line module_text thread_text objects
whole_text n =
    ap (λ names. (codes "image app exe" ++ names) ++ 10 ∷ module_text n) (names_spaced (range_with_len 1 n))

-- ** the whole job

-- the slots of the two images
abbrev slots : ℕ → List Slot
slots n = (with_module (objects n)).mentions

job_is : (n : ℕ) (first second : List Plan) → shown first ≡ opener_lines n → shown second ≡ closer_lines n
    → job_declared (state (objects n) (slots n) first second) ≡ Ok (generated_parts n)
unfolding generated_parts objects
job_is n first second opens closes = rw (opens, closes) refl

-- what the second thread is told at last
abbrev peek_line : ThreadLine
peek_line = record { image = 2; action = Peek (codes "v") 4 }

abbrev close_line : ThreadLine
close_line = record { image = 2; action = Close }

last_lines : (n : ℕ) (called peeked closed : List Plan) → shown called ≡ map module_call_line (range_with_len 1 n)
    → shown peeked ≡ shown called ++ peek_line ∷ [] → shown closed ≡ shown peeked ++ close_line ∷ []
    → shown closed ≡ closer_lines n
unfolding closer_lines
last_lines n called peeked closed calls peeks closes =
    closes ∙ ap (λ ls. ls ++ close_line ∷ []) peeks ∙ append_assoc (shown called) (peek_line ∷ []) (close_line ∷ [])
    ∙ ap (λ ls. ls ++ (peek_line ∷ close_line ∷ [])) calls

-- behind the calls of the program's functions
closer_is : (n : ℕ) (first : List Plan) (place : ℕ) → n ≤ 1000 → shown first ≡ opener_lines n → place ≤ 2000
    → job_from (state (objects n) (slots n) first []) place (lines_of (closer_text n)) ≡ Ok (generated_parts n)
closer_is n first place small opens early_on =
    let named : List (List ℕ) = objects n in
    let answer : Answer = Ok (generated_parts n) in
    module_calls named (slots n) answer n 1 place first [] [] peek_text refl (omega arith) (omega arith) (omega arith)
    (λ called last calls at. line_told (state named (slots n) first called) last _ _ close_text _ called _ answer
    refl refl (peek_tells named (slots n) first called last (early last (omega arith)))
    (λ peeked peeks. line_told (state named (slots n) first peeked) (last + 1) _ _ [] _ peeked _ answer
    refl refl (close_tells named (slots n) first peeked (last + 1) (early (last + 1) (omega arith)))
    (λ closed closes. nothing_left (state named (slots n) first closed) (last + 1 + 1)
    ∙ job_is n first closed opens (last_lines n called peeked closed calls peeks closes))))

threads_are : (n : ℕ) → n ≤ 1000
    → job_from (state (objects n) (slots n) [] []) 4 (lines_of (thread_text n)) ≡ Ok (generated_parts n)
unfolding thread_text opener_lines
threads_are n small =
    let named : List (List ℕ) = objects n in
    let answer : Answer = Ok (generated_parts n) in
    line_told (state named (slots n) [] []) 4 _ _ (call_text n) _ [] _ answer refl refl
    (open_tells named (slots n) [] [] 4 refl)
    (λ opened told. program_calls named (slots n) answer n 1 5 opened [] _ (closer_text n) told (omega arith)
    (omega arith) (λ first last calls at. closer_is n first last small calls (omega arith)))

pub texts_are_jobs : (n : ℕ) → 1 ≤ n → n ≤ 1000 → job_of (generated_text n) ≡ Ok (generated_parts n)
unfolding job_of objects module_text
texts_are_jobs n some small =
    let named : List (List ℕ) = objects n in
    ap (λ text. job_from nothing_declared 1 (lines_of text)) (whole_text n)
    ∙ (line_adds nothing_declared (with_program named) 1 _ _ (module_text n)
    (object_words n 1 (omega arith)) refl
    (program_adds named (omega (arith, length-map (range_with_len 1 n) object_name, length-range_with_len 1 n))
    (objects_short n 1 (omega arith)))
    ∙ (line_adds (with_program named) (with_module named) 2 _ _ (threads_text n) refl refl (module_adds named)
    ∙ (line_adds (with_module named) _ 3 _ _ (thread_text n) refl refl (threads_add named)
    ∙ threads_are n small)))
