-- What is said in worlds that are related is the same where no line is unclean; and a verdict tells that none is.
use Rattle.std.proofs.Common.{◌≡◌, ◌+◌, ℕ, zero, suc, List, [], ◌∷◌, map, Option, Some, None, refl, inl, inr, subst}
use Rattle.std.specs.Prelude.{slice_get}
use Rattle.std.specs.Option.{option_or}
use Rattle.guest_operands.specs.declared.stop.Stop.TheVariants.{Returned, Look, Address, Code, Unclean, Steps}
use Rattle.module_table.specs.declared.events.Event.{Event}
use Rattle.thread_blocks.specs.SpaceLaws.{FoundAlike}
use Rattle.thread_blocks.specs.Turns.{Answered, Ending, Said, Stopped, Thread}
use Rattle.thread_blocks.specs.TurnsAlike.{HasUnclean, IsUncleanEnding}
use Rattle.whole_meaning.specs.Jobs.{first_from, first_in, unclean_ending, verdict_of}
use Rattle.whole_meaning.specs.declared.unclean.UncleanStep.{UncleanStep}
use Rattle.order_laws.specs.Alike.{SameOne}

-- ** related threads say the same, up to the first unclean line

abbrev said_in : {S L : Type 0} → List (Thread S L Event) → List (List Said)
said_in threads = map (λ t. t.said) threads

-- no thread has an unclean line
abbrev pub AreClean : {S L : Type 0} → List (Thread S L Event) → Type 0
AreClean {S} {L} threads =
    (i : ℕ) (t : Thread S L Event) → slice_get threads i ≡ Some t → HasUnclean t.said → ⊥

pub lines_same : {S S' L : Type 0} (Wait Rest : ℕ → S → S' → Type 0) (xs : List (Thread S L Event))
    (ys : List (Thread S' L Event))
    → ((i : ℕ) → FoundAlike (SameOne (Wait (suc i)) (Rest (suc i))) (slice_get xs i) (slice_get ys i))
    → AreClean xs → said_in ys ≡ said_in xs
lines_same Wait Rest [] [] all clean = refl
lines_same Wait Rest [] (y ∷ ys) all clean = absurd (all zero)
lines_same Wait Rest (x ∷ xs) [] all clean = absurd (all zero)
lines_same Wait Rest (x ∷ xs) (y ∷ ys) all clean =
    of_first (all zero)
    (lines_same (λ i. Wait (suc i)) (λ i. Rest (suc i)) xs ys (λ i. all (suc i)) (λ i. clean (suc i)))
  where
    of_first : SameOne (Wait (suc zero)) (Rest (suc zero)) x y → said_in ys ≡ said_in xs
        → said_in (y ∷ ys) ≡ said_in (x ∷ xs)
    of_first (inl h) rest = absurd (clean zero x refl h)
    of_first (inr h) rest = let said = h.said in cc

-- ** the verdict: none is found, so there is none

module _ (thread line : ℕ) where
  ending_clean : (ending : Ending) → unclean_ending thread line ending ≡ None → IsUncleanEnding ending → ⊥
  ending_clean (Answered answer) e h = h
  ending_clean (Stopped (Returned number)) e h = h
  ending_clean (Stopped (Look at)) e h = h
  ending_clean (Stopped (Address at)) e h = h
  ending_clean (Stopped (Code at)) e h = h
  ending_clean (Stopped (Unclean at why)) e h = cc
  ending_clean (Stopped (Steps at)) e h = h

-- of two of which neither is there
neither : (a b : Option UncleanStep) → option_or a b ≡ None → (a ≡ None) × (b ≡ None)
neither None b e = (refl, e)
neither (Some step) b e = absurd cc

said_clean : (thread line : ℕ) (said : List Said) → first_in thread line said ≡ None → HasUnclean said → ⊥
said_clean thread line [] e h = h
said_clean thread line (one ∷ said) e (inl h) =
    ending_clean thread line one.ending (neither (unclean_ending thread line one.ending) _ e).0 h
said_clean thread line (one ∷ said) e (inr h) =
    said_clean thread (line + 1) said (neither (unclean_ending thread line one.ending) _ e).1 h

threads_clean : {S L : Type 0} (thread : ℕ) (threads : List (Thread S L Event))
    → first_from thread (said_in threads) ≡ None → AreClean threads
threads_clean thread [] e zero t there h = absurd cc
threads_clean thread [] e (suc i) t there h = absurd cc
threads_clean thread (u ∷ threads) e zero t there h =
    let same : t ≡ u = cc in
    said_clean thread 1 u.said (neither (first_in thread 1 u.said) _ e).0
    (subst (λ (v : Thread _ _ Event). HasUnclean v.said) same h)
threads_clean thread (u ∷ threads) e (suc i) t there h =
    threads_clean (thread + 1) threads (neither (first_in thread 1 u.said) _ e).1 i t there h

pub verdict_clean : {S L : Type 0} (threads : List (Thread S L Event)) → verdict_of (said_in threads) ≡ None
    → AreClean threads
unfolding verdict_of
verdict_clean threads e = threads_clean 1 threads e
