-- The program with local dynamic code and a descriptor, computed.
use Rattle.std.proofs.Common.{◌≡◌, Bool, true, false, [], ◌∷◌, refl}
use Rattle.link_faults.specs.declared.image_kind.ImageKind.TheVariants.{Exe}
use Rattle.closed_jobs.specs.Laws.{LocalCodeSaysTheSame}
use Rattle.closed_jobs.specs.Worlds.{file, said_in}
use Rattle.closed_jobs.specs.LocalCode.{object, program, links, lines, says}
use Rattle.closed_jobs.proofs.Joined.{both-say, one-linked}
use Rattle.link_core.proofs.Computed.{linked}
use Rattle.closed_jobs.proofs.Opened.{meant}
use Rattle.closed_jobs.proofs.Ran.{ran}

meant_says : (relax : Bool) → said_in (meant (links relax) 4 lines []) ≡ says
unfolding meant program object file
meant_says true = refl
meant_says false = refl

-- each by itself: both are more than the checker computes for one lemma
run_rewritten : said_in (ran (Exe ∷ []) (linked (program true) ∷ []) 4 lines []) ≡ says
unfolding ran linked program object file
run_rewritten = refl

run_kept : said_in (ran (Exe ∷ []) (linked (program false) ∷ []) 4 lines []) ≡ says
unfolding ran linked program object file
run_kept = refl

run_says : (relax : Bool) → said_in (ran (Exe ∷ []) (linked (program relax) ∷ []) 4 lines []) ≡ says
run_says true = run_rewritten
run_says false = run_kept

pub says_the_same : LocalCodeSaysTheSame
unfolding program
says_the_same relax = both-say (links relax) (linked (program relax) ∷ []) 4 lines [] says
    (one-linked (program relax) (linked (program relax)) [] [] refl refl) (meant_says relax) (run_says relax)
