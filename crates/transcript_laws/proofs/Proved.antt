-- The laws.
use Rattle.std.proofs.Common.{◌≡◌, ◌∙◌, ℕ, suc, ◌-◌, Bool, cond, lt-ltb, List, [], ◌∷◌, length, get_or}
use Rattle.std.proofs.Common.{refl, sym, ap, arith}
use Rattle.std.proofs.lemmas.Option.{same_Some}
use Rattle.std.specs.Prelude.{slice_get}
use Rattle.job_text.specs.Threads.{of_thread}
use Rattle.transcript_text.specs.declared.outcomes.Line.{Line}
use Rattle.transcript_laws.proofs.Found.{read_back}
use Rattle.transcript_laws.proofs.Names.{names_told}
use Rattle.transcript_laws.specs.Laws.{TextsDetermineTranscripts, TranscriptsAreRead}
use Rattle.transcript_laws.specs.Reader.{event_read, line_read}

pub transcripts_read : TranscriptsAreRead
transcripts_read text job is shown over =
    read_back job.images (names_told text job is) shown over.lines over.few_threads over.events over.few_events

-- lists that have the same elements are one
same_elements : {X : Type 0} (xs ys : List X) → ((n : ℕ) → slice_get xs n ≡ slice_get ys n) → xs ≡ ys
same_elements [] [] same = refl
same_elements [] (y ∷ ys) same = absurd (cc (same 0))
same_elements (x ∷ xs) [] same = absurd (cc (same 0))
same_elements (x ∷ xs) (y ∷ ys) same =
    λ i. same_Some x y (same 0) i ∷ same_elements xs ys (λ n. same (suc n)) i

same_threads : (xs ys : List (List Line)) → length xs ≡ length ys → ((i : ℕ) → get_or xs i [] ≡ get_or ys i [])
    → xs ≡ ys
same_threads [] [] long same = refl
same_threads [] (y ∷ ys) long same = absurd (omega arith)
same_threads (x ∷ xs) [] long same = absurd (omega arith)
same_threads (x ∷ xs) (y ∷ ys) long same =
    λ i. same 0 i ∷ same_threads xs ys (omega arith) (λ n. same (suc n)) i

numbered_from_one : (all : List (List Line)) (i : ℕ) → of_thread all (suc i) ≡ get_or all i []
numbered_from_one all i =
    ap (λ (b : Bool). cond b (get_or all (suc i - 1) []) []) (lt-ltb 0 (suc i) (omega arith))
    ∙ ap (λ (j : ℕ). get_or all j []) {x = suc i - 1} {y = i} (omega arith)

pub texts_determine : TextsDetermineTranscripts
texts_determine text job is a b over_a over_b same =
    let of_a = transcripts_read text job is a over_a in
    let of_b = transcripts_read text job is b over_b in
    let threads = same_threads a.threads b.threads (over_a.threads ∙ sym over_b.threads)
    (λ i. sym (numbered_from_one a.threads i)
    ∙ same_elements (of_thread a.threads (suc i)) (of_thread b.threads (suc i))
    (λ n. sym (of_a.lines (suc i) (suc n)) ∙ ap (λ (t : List ℕ). line_read t (suc i) (suc n)) same
    ∙ of_b.lines (suc i) (suc n))
    ∙ numbered_from_one b.threads i) in
    let events = same_elements a.events b.events (λ n. sym (of_a.events n)
    ∙ ap (λ (t : List ℕ). event_read job.images t n) same ∙ of_b.events n) in
    λ i. record { threads = threads i; events = events i }
