-- Names asked for, one after another.
use Rattle.std.proofs.Common.{◌≡◌, ◌∙◌, ℕ, suc, List, [], ◌∷◌, length, take, Option, Some, None, IfSome, Result, Ok}
use Rattle.std.proofs.Common.{Err, ◌⊎◌, inl, inr, ◌≤◌, refl, sym, ap, subst, append-nil, append_assoc, arith, cond}
use Rattle.command_line.specs.declared.tasks.Command.{Command}
use Rattle.command_replies.specs.Replies.{IsDelivered}
use Rattle.command_replies.specs.Statuses.{IsLate}
use Rattle.commands.specs.Replies.{Asked}
use Rattle.commands.specs.Untold.{Over}
use Rattle.command_replies.specs.Faults.{IsFetchFault}
use Rattle.std.specs.Cmp.{eq_by_cmp_equiv}
use Rattle.std.specs.FinMap as map
use Rattle.std.specs.FinMap.{get-insert}
use Rattle.std.proofs.lemmas.Cmp.{nat_list_cmp_total}
use Rattle.commands.specs.Commands.{command_names}
use Rattle.std.proofs.Math.Seq.{take-length}
use Rattle.command_replies.specs.Steps.{Asks, AsksFront, with_names}
use Rattle.command_replies.specs.declared.fault.CommandFault.{CommandFault}
use Rattle.command_replies.specs.declared.fault.CommandFault.TheVariants as fault
use Rattle.job_text.specs.Jobs.{job_of}
use Rattle.ports.specs.Files.{Files, file_at}
use Rattle.commands.specs.Jobs.{asked_names, job_names}

abbrev Names : Type 0
Names = List (List ℕ)

one_more : (name : List ℕ) (names : Names) (old : Option Names)
    → with_names names (with_names (name ∷ []) old) ≡ with_names (name ∷ names) old
one_more name names None = refl
one_more name names (Some before) = ap (λ (ns : Names). Some ns) (append_assoc before (name ∷ []) names)

-- all names are a front of them
pub asks_all : (names : Names) (old new : Option Names) → new ≡ with_names names old → AsksFront names old new
asks_all names old new e = (length names, e ∙ ap (λ ns. with_names ns old) (sym (take-length names)))

more_front : (name : List ℕ) (names : Names) (old mid new : Option Names) → mid ≡ with_names (name ∷ []) old
    → AsksFront names mid new → AsksFront (name ∷ names) old new
more_front name names old mid new first (k, e) =
    (suc k, e ∙ ap (with_names (take k names)) first ∙ one_more name (take k names) old)

more : {T : Type 0} (name : List ℕ) (names : Names) (old mid new : Option Names) (r : Result T CommandFault)
    → mid ≡ with_names (name ∷ []) old → Asks names mid new r → Asks (name ∷ names) old new r
more name names old mid new (Ok x) first e = e ∙ ap (with_names names) first ∙ one_more name names old
more name names old mid new (Err fault.Store) first h = more_front name names old mid new first h
more name names old mid new (Err fault.OutOfMemory) first h = more_front name names old mid new first h
more name names old mid new (Err (fault.Refused refusal)) first e = e ∙ ap (with_names names) first
    ∙ one_more name names old

-- ** whatever the files

-- one file and no other
only : List ℕ → List ℕ → Files
only name text = map.insert map.empty name text

only_is_there : (name text : List ℕ) → file_at (only name text) name ≡ Some text
unfolding only
only_is_there name text =
    get-insert nat_list_cmp_total map.empty name text name
    ∙ ap (λ same. cond same (Some text) (file_at map.empty name)) ((eq_by_cmp_equiv nat_list_cmp_total).refl name)

-- the same names over any files
pub asks_any : {T : Type 0} (files : Option Files) (names : Names) (old new : Option Names) (r : Result T CommandFault)
    → Asks names old new r → Over files (λ fs. Asks names old new r)
asks_any None names old new r h = (map.empty, h)
asks_any (Some fs) names old new r h = h

first_alone : (T : Type 0) (name : List ℕ) (names : Names) (old new : Option Names) (f : CommandFault) → IsFetchFault f
    → new ≡ with_names (name ∷ []) old → Asks {T = T} (name ∷ names) old new (Err f)
first_alone T name names old new fault.Store is e = (1, e)
first_alone T name names old new fault.OutOfMemory is e = (1, e)
first_alone T name names old new (fault.Refused reply) is e = absurd is

-- the job, which could not be fetched
pub asks_job : (T : Type 0) (files : Option Files) (name : List ℕ) (image : Option (List ℕ)) (old new : Option Names)
    (f : CommandFault) → IsFetchFault f → new ≡ with_names (name ∷ []) old
    → Over files (λ fs. Asks {T = T} (asked_names fs name image) old new (Err f))
asks_job T None name image old new f is e = (map.empty, first_alone T name _ old new f is e)
asks_job T (Some fs) name image old new f is e = first_alone T name _ old new f is e

-- the job, and then what it asks for
pub asks_after : {T : Type 0} (files : Option Files) (name text seen : List ℕ) (image : Option (List ℕ))
    (old mid new : Option Names) (r : Result T CommandFault) → mid ≡ with_names (name ∷ []) old
    → IfSome files (λ fs. file_at fs name ≡ Some text) → seen ≡ text → Asks (job_names image (job_of seen)) mid new r
    → Over files (λ fs. Asks (asked_names fs name image) old new r)
asks_after None name text seen image old mid new r first there same h = (
  only name text,
  rw (only_is_there name text)
      (more name (job_names image (job_of text)) old mid new r first
      (subst (λ (s : List ℕ). Asks (job_names image (job_of s)) mid new r) same h)),
)
asks_after (Some fs) name text seen image old mid new r first there same h =
    rw there (more name (job_names image (job_of text)) old mid new r first
    (subst (λ (s : List ℕ). Asks (job_names image (job_of s)) mid new r) same h))

-- all names were asked for
pub asks_whole : {T : Type 0} (names : Names) (old new : Option Names) (r : Result T CommandFault)
    → new ≡ with_names names old → Asks names old new r
asks_whole names old new (Ok x) e = e
asks_whole names old new (Err fault.Store) e = asks_all names old new e
asks_whole names old new (Err fault.OutOfMemory) e = asks_all names old new e
asks_whole names old new (Err (fault.Refused refusal)) e = e

-- and none
pub asked_none : (old : Option Names) → old ≡ with_names [] old
asked_none None = refl
asked_none (Some names) = ap (λ (ns : Names). Some ns) (sym (append-nil names))

pub asks_none : {T : Type 0} (files : Option Files) (old new : Option Names) (r : Result T CommandFault) → new ≡ old
    → Over files (λ fs. Asks [] old new r)
asks_none files old new r same = asks_any files [] old new r (asks_whole [] old new r (same ∙ asked_none old))

-- ** the whole command

pub answered : (code : ℕ) → (code ≡ 3) ⊎ IsLate code → (code ≡ 0) ⊎ (5 ≤ code) → ⊥
answered code (inl three) (inl zero) = omega arith
answered code (inl three) (inr five) = omega arith
answered code (inr (inl one)) (inl zero) = omega arith
answered code (inr (inl one)) (inr five) = omega arith
answered code (inr (inr four)) (inl zero) = omega arith
answered code (inr (inr four)) (inr five) = omega arith

pub asked_of : {T : Type 0} (fs : Files) (asked : Command) (r : Result T CommandFault) (old new : Option Names)
    (code : ℕ) → Asks (command_names fs asked) old new r → IsDelivered r code → Asked fs asked old new code
asked_of fs asked (Ok x) old new code e delivered =
    record { front = asks_all (command_names fs asked) old new e; all = λ own. e }
asked_of fs asked (Err fault.Store) old new code front delivered =
    record { front = front; all = λ own. absurd (answered code delivered own) }
asked_of fs asked (Err fault.OutOfMemory) old new code front delivered =
    record { front = front; all = λ own. absurd (answered code (inr delivered) own) }
asked_of fs asked (Err (fault.Refused reply)) old new code e delivered =
    record { front = asks_all (command_names fs asked) old new e; all = λ own. e }

pub asked_by : {T : Type 0} (files : Option Files) (asked : Command) (r : Result T CommandFault)
    (old new : Option Names) (code : ℕ) → Over files (λ fs. Asks (command_names fs asked) old new r)
    → IsDelivered r code
    → Over files (λ fs. Asked fs asked old new code)
asked_by None asked r old new code (fs, asks) delivered = (fs, asked_of fs asked r old new code asks delivered)
asked_by (Some fs) asked r old new code asks delivered = asked_of fs asked r old new code asks delivered
