-- The program and the late module that another thread closes, computed.
use Rattle.std.proofs.Common.{◌≡◌, Bool, true, false, [], ◌∷◌, refl}
use Rattle.image_file.specs.Spelled.{Spelled}
use Rattle.link_faults.specs.declared.image_kind.ImageKind.TheVariants.{Exe, Late}
use Rattle.closed_jobs.specs.Laws.{ReopenedSaysTheSame}
use Rattle.closed_jobs.specs.Worlds.{said_in}
use Rattle.closed_jobs.specs.Reopened.{program_object, module_object, program, late, links, lines, order, says}
use Rattle.closed_jobs.proofs.ReopenedImages.{late_image, program_kept, program_rewritten}
use Rattle.closed_jobs.proofs.Joined.{both-say, one-linked}
use Rattle.link_core.proofs.Computed.{linked}
use Rattle.closed_jobs.proofs.Opened.{meant}
use Rattle.closed_jobs.proofs.Ran.{ran}

abbrev program_image : Bool → Spelled
program_image true = program_rewritten
program_image false = program_kept

linked_program : (relax : Bool) → linked (program relax) ≡ program_image relax
unfolding linked program program_object program_rewritten program_kept
linked_program true = refl
linked_program false = refl

linked_late : (relax : Bool) → linked (late relax) ≡ late_image
unfolding linked late module_object late_image
linked_late true = refl
linked_late false = refl

meant_says : (relax : Bool) → said_in (meant (links relax) 4 lines order) ≡ says
unfolding meant program late program_object module_object
meant_says true = refl
meant_says false = refl

run_rewritten : said_in (ran (Exe ∷ Late ∷ []) (program_rewritten ∷ late_image ∷ []) 4 lines order) ≡ says
unfolding ran program_rewritten late_image
run_rewritten = refl

run_kept : said_in (ran (Exe ∷ Late ∷ []) (program_kept ∷ late_image ∷ []) 4 lines order) ≡ says
unfolding ran program_kept late_image
run_kept = refl

run_says : (relax : Bool)
    → said_in (ran (Exe ∷ Late ∷ []) (program_image relax ∷ late_image ∷ []) 4 lines order) ≡ says
run_says true = run_rewritten
run_says false = run_kept

pub says_the_same : ReopenedSaysTheSame
unfolding program late
says_the_same relax = both-say (links relax) (program_image relax ∷ late_image ∷ []) 4 lines order says
    (one-linked (program relax) (program_image relax) (late relax ∷ []) (late_image ∷ []) (linked_program relax)
    (one-linked (late relax) late_image [] [] (linked_late relax) refl)) (meant_says relax) (run_says relax)
