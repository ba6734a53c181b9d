-- The job that a draft declares, part by part.
use Rattle.std.proofs.Common.{◌≡◌, ℕ, Bool, ltb, nat_lt, slice_index_or, ◌-◌, ◌+◌, ◌<◌, ◌≤◌, ◌^◌, List, [], Option}
use Rattle.std.proofs.Common.{Some, None, Result, Ok, Err, is_some, get_or, drop, length, map, refl, sym, ap}
use Rattle.std.proofs.Common.{◌∙◌, subst, arith, lit<, lit≤, length-append, unwrap_or, cond, true, false}
use Rattle.std.proofs.lemmas.Bool.{ltb-true, ltb-false}
use Rattle.std.proofs.lemmas.List.{at_drop_more, at_drop_all, get_or_past, length-map}
use Rattle.std.proofs.lemmas.List.FromFn.{length-enumerate_from, get_or-enumerate_from}
use Rattle.std.proofs.lemmas.List.Elements.{All-get_or, All-map, All-nil, All-weaker}
use Rattle.std.specs.Borrow.{Bor}
use Rattle.std.specs.HashMap.{HashMap}
use Rattle.std.specs.List.{All, enumerate_from}
use Rattle.job_text.specs.Threads.{IsThread}
use Rattle.job_text.specs.Drafts.{Declared}
use Rattle.job_text.specs.DraftLaws.{IsDraft, IsSlot, IsPlan}
use Rattle.job_text.specs.LineAnswers.{IsLineAnswer}
use Rattle.job_text.specs.LineEffects.{with_text}
use Rattle.job_text.specs.LineFaults.{fault_of}
use Rattle.job_text.specs.Flaws.{fault_at}
use Rattle.job_text.specs.Images.{IsImageNumber}
use Rattle.job_text.specs.Listings.{IsListOf}
use Rattle.job_text.proofs.MentionLemmas.{mentions_listed, number_within}
use Rattle.job_text.specs.Jobs.{JobParts, fault_or, in_image_order, job_declared, job_from, number_of, numbered_line}
use Rattle.job_text.specs.JobLaws.{IsAnswer, IsJob, IsLineOf, job_parts, lines_of_thread}
use Rattle.job_text.specs.declared.draft.Slot.{Slot}
use Rattle.job_text.specs.declared.draft.Plan.{Plan}
use Rattle.job_text.specs.declared.fault.Flaw.{Flaw}
use Rattle.job_text.specs.declared.fault.Flaw.TheVariants as flaw
use Rattle.job_text.specs.declared.fault.JobFault.{JobFault}
use Rattle.job_text.specs.declared.fault.JobFaultKind.{JobFaultKind}
use Rattle.job_text.specs.declared.images.Image.{Image}
use Rattle.job_text.specs.declared.thread_lines.ThreadLine.{ThreadLine}

-- a job with these parts is the one that is declared
pub made_job : (d : Declared) (program : Image) (images : List Image) (mentions : List ℕ) (fuel : ℕ) (order : List ℕ)
    (lines : List (List ThreadLine))
    → d.program ≡ Some program → images ≡ in_image_order program d.starts d.lates
    → mentions ≡ map (number_of (length d.starts)) d.mentions → fuel ≡ unwrap_or d.fuel 100000
    → order ≡ unwrap_or d.order []
    → lines ≡ map (map (numbered_line (length d.starts))) d.lines
    → job_declared d ≡ Ok (job_parts images mentions fuel order lines)
made_job d program images mentions fuel order lines p i m f o l = rw (p, i, m, f, o, l) refl

fuel_given : (told : Option ℕ) (fuel : ℕ) → fuel ≡ unwrap_or told 100000
    → ((steps : ℕ) → told ≡ Some steps → (1 ≤ steps) × (steps < 2 ^ 32)) → (1 ≤ fuel) × (fuel < 2 ^ 32)
fuel_given None fuel e h = rw e (lit≤ tt, lit< tt)
fuel_given (Some steps) fuel e h = rw e (h steps refl)

line_of : (program : Option Image) (p : Image) (starts lates : List Image) (plan : Plan) → program ≡ Some p
    → IsPlan program starts lates plan
    → IsLineOf (in_image_order p starts lates) (numbered_line (length starts) plan)
line_of program p starts lates plan e h =
    record {
      image = number_within p starts lates plan.slot
          (subst (λ (o : Option Image). IsSlot o starts lates plan.slot) e h.placed);
      shown = h.shown;
    }

lines_of : (program : Option Image) (p : Image) (starts lates : List Image) (lines : List (List Plan))
    → program ≡ Some p → All (All (IsPlan program starts lates)) lines
    → All (All (IsLineOf (in_image_order p starts lates))) (map (map (numbered_line (length starts))) lines)
lines_of program p starts lates lines e all =
    All-map (All (IsLineOf (in_image_order p starts lates))) (map (numbered_line (length starts))) lines
    (All-weaker (All (IsPlan program starts lates))
    (λ plans. All (IsLineOf (in_image_order p starts lates)) (map (numbered_line (length starts)) plans))
    (λ plans h. All-map (IsLineOf (in_image_order p starts lates)) (numbered_line (length starts)) plans
    (All-weaker (IsPlan program starts lates)
    (λ plan. IsLineOf (in_image_order p starts lates) (numbered_line (length starts) plan))
    (λ plan q. line_of program p starts lates plan e q) plans h))
    lines all)

order_given : (threads : ℕ) (told : Option (List ℕ)) (order : List ℕ) → order ≡ unwrap_or told []
    → ((o : List ℕ) → told ≡ Some o → All (IsThread threads) o) → All (IsThread threads) order
order_given threads None order e h = subst (All (IsThread threads)) (sym e) (All-nil (IsThread threads))
order_given threads (Some o) order e h = subst (All (IsThread threads)) (sym e) (h o refl)

-- it is a job
pub is_job : {S : Type 0} (names : HashMap (Bor (List ℕ)) Slot S) (d : Declared) (program : Image) (images : List Image)
    (mentions : List ℕ) (fuel : ℕ) (order : List ℕ) (lines : List (List ThreadLine))
    → IsDraft names d → d.program ≡ Some program → images ≡ in_image_order program d.starts d.lates
    → mentions ≡ map (number_of (length d.starts)) d.mentions → fuel ≡ unwrap_or d.fuel 100000
    → order ≡ unwrap_or d.order []
    → lines ≡ map (map (numbered_line (length d.starts))) d.lines
    → IsJob (job_parts images mentions fuel order lines)
is_job names d program images mentions fuel order lines draft p i m f o l =
    let count : length images ≡ 1 + length d.starts + length d.lates =
    rw i (omega (arith, length-append d.starts d.lates)) in
    let limit : 1 + length d.starts + length d.lates ≤ 64 =
    subst (λ (o : Option Image). cond (is_some o) 1 0 + length d.starts
    + length d.lates ≤ 64) p draft.within.few_images in
    let fuels : (1 ≤ fuel) × (fuel < 2 ^ 32) = fuel_given d.fuel fuel f draft.within.fuel_within in
    let threads : length lines ≡ length d.lines = rw l (length-map d.lines (map (numbered_line (length d.starts)))) in
    record {
      some_image = omega arith;
      few_images = omega arith;
      mentioned = subst (λ (is : List Image). IsListOf (IsImageNumber is) mentions) (sym i)
          (subst (IsListOf (IsImageNumber (in_image_order program d.starts d.lates))) (sym m)
          (mentions_listed d.program program d.starts d.lates d.mentions p draft.mentioned));
      some_thread = rw threads draft.within.some_thread;
      few_threads = rw threads draft.within.few_threads;
      some_fuel = fuels.0;
      little_fuel = fuels.1;
      order_named = subst (λ (n : ℕ). All (IsThread n) order) (sym threads)
          (order_given (length d.lines) d.order order o draft.order_named);
      lines_placed = subst (λ (is : List Image). All (All (IsLineOf is)) lines) (sym i)
          (subst (All (All (IsLineOf (in_image_order program d.starts d.lates)))) (sym l)
          (lines_of d.program program d.starts d.lates d.lines p draft.plans));
    }

-- the line of a turn of the loop over numbered lines
pub turn_line : (lines : List (List ℕ)) (k index : ℕ) (line : List ℕ)
    → (k < length (enumerate_from 0 lines)) × ((index, line) ≡ get_or (enumerate_from 0 lines) k (index, line))
    → (k < length lines) × (index ≡ k) × (line ≡ get_or lines k line)
turn_line lines k index line (h, e) =
    let inside : k < length lines = subst (λ (n : ℕ). k < n) (length-enumerate_from 0 lines) h in
    let both = e ∙ get_or-enumerate_from 0 lines k (index, line) inside in
    (inside, ap (λ p. p.0) both ∙ omega arith, ap (λ p. p.1) both)

job_from-drop : (d : Declared) (n k : ℕ) (lines : List (List ℕ)) (line : List ℕ) → k < length lines
    → line ≡ get_or lines k line
    → job_from d n (drop k lines)
    ≡ fault_or n (fault_of d n line) (job_from (with_text line d) (n + 1) (drop (k + 1) lines))
unfolding job_from
job_from-drop d n k lines line h is =
    at_drop_more (job_from d n) lines k line h
    ∙ ap (λ x. fault_or n (fault_of d n x) (job_from (with_text x d) (n + 1) (drop (k + 1) lines))) (sym is)

-- a line without fault is taken, and the rest makes the job
pub job_more : (d new : Declared) (k index : ℕ) (lines : List (List ℕ)) (line : List ℕ)
    (right : Result JobParts JobFault)
    → (k < length lines) × (index ≡ k) × (line ≡ get_or lines k line)
    → job_from d (k + 1) (drop k lines) ≡ right → fault_of d (index + 1) line ≡ None → new ≡ with_text line d
    → job_from new (k + 1 + 1) (drop (k + 1) lines) ≡ right
job_more d new k index lines line right (h, at, is) inv none e =
    rw e (ap (λ f. fault_or (k + 1) f (job_from (with_text line d) (k + 1 + 1) (drop (k + 1) lines)))
    (sym (subst (λ (n : ℕ). fault_of d (n + 1) line ≡ None) at none))
    ∙ sym (job_from-drop d (k + 1) k lines line h is) ∙ inv)

refused_with : (right : Result JobParts JobFault) (number : ℕ) (fault : Option JobFaultKind)
    (rest : Result JobParts JobFault) (after new : Declared) (flaw : Flaw)
    → fault_or number fault rest ≡ right → IsLineAnswer fault after new (Err flaw)
    → IsAnswer right (Err (fault_at number flaw))
refused_with right number fault rest after new flaw.OutOfMemory e h = tt
refused_with right number fault rest after new (flaw.Kind kind) e h = sym e ∙ ap (λ f. fault_or number f rest) h

-- a faulty line is the first one
pub job_refused : (d after new : Declared) (k index : ℕ) (lines : List (List ℕ)) (line : List ℕ) (flaw : Flaw)
    (right : Result JobParts JobFault)
    → (k < length lines) × (index ≡ k) × (line ≡ get_or lines k line)
    → job_from d (k + 1) (drop k lines) ≡ right → IsLineAnswer (fault_of d (index + 1) line) after new (Err flaw)
    → IsAnswer right (Err (fault_at (index + 1) flaw))
job_refused d after new k index lines line flaw right (h, at, is) inv answer =
    let at_k = subst (λ (n : ℕ). IsLineAnswer (fault_of d (n + 1) line) after new (Err flaw)) at answer in
    subst (λ (n : ℕ). IsAnswer right (Err (fault_at (n + 1) flaw))) (sym at)
    (refused_with right (k + 1) (fault_of d (k + 1) line) _ after new flaw
    (sym (job_from-drop d (k + 1) k lines line h is) ∙ inv) at_k)

-- after the last line
pub job_end : (d : Declared) (n k : ℕ) (lines : List (List ℕ)) (right : Result JobParts JobFault) → length lines ≤ k
    → job_from d n (drop k lines) ≡ right → job_declared d ≡ right
unfolding job_from
job_end d n k lines right h inv = sym (at_drop_all (job_from d n) lines k h) ∙ inv

-- the lines of a thread are about images of the job
pub thread_placed : (job : JobParts) (thread : ℕ) → IsJob job → All (IsLineOf job.images) (lines_of_thread job thread)
thread_placed job thread h = by_test (nat_lt 0 thread)
  where
    by_slot : (t : Bool) → ltb (thread - 1) (length job.lines) ≡ t
        → All (IsLineOf job.images) (slice_index_or job.lines (thread - 1) [])
    by_slot true e = All-get_or (All (IsLineOf job.images)) job.lines (thread - 1) []
        (ltb-true (thread - 1) (length job.lines) e) h.lines_placed
    by_slot false e = subst (All (IsLineOf job.images))
        (sym (get_or_past job.lines (thread - 1) [] (ltb-false (thread - 1) (length job.lines) e)))
        (All-nil (IsLineOf job.images))

    by_test : (t : Bool) → All (IsLineOf job.images) (cond t (slice_index_or job.lines (thread - 1) []) [])
    by_test true = by_slot (ltb (thread - 1) (length job.lines)) refl
    by_test false = All-nil (IsLineOf job.images)
