-- The program and the late module that has data, computed.
use Rattle.std.proofs.Common.{◌≡◌, Bool, true, false, [], ◌∷◌, refl}
use Rattle.link_faults.specs.declared.image_kind.ImageKind.TheVariants.{Exe, Late}
use Rattle.closed_jobs.specs.Worlds.{said_in}
use Rattle.closed_jobs.proofs.Joined.{both-say, one-linked}
use Rattle.link_core.proofs.Computed.{linked}
use Rattle.closed_jobs.proofs.Opened.{meant}
use Rattle.closed_jobs.proofs.Ran.{ran}
use Rattle.closed_forms.specs.LateData.{late, lines, links, module_object, order, program, program_object, says}
use Rattle.closed_forms.specs.Laws.{LateDataSaysTheSame}
use Rattle.closed_forms.proofs.LateDataImages.{late_image, program_image}

linked_program : (relax : Bool) → linked (program relax) ≡ program_image
unfolding linked program program_object program_image
linked_program true = refl
linked_program false = refl

linked_late : (relax : Bool) → linked (late relax) ≡ late_image
unfolding linked late module_object late_image
linked_late true = refl
linked_late false = refl

meant_says : (relax : Bool) → said_in (meant (links relax) 3 lines order) ≡ says
unfolding meant program late program_object module_object
meant_says relax = refl

run_says : said_in (ran (Exe ∷ Late ∷ []) (program_image ∷ late_image ∷ []) 3 lines order) ≡ says
unfolding ran program_image late_image
run_says = refl

pub says_the_same : LateDataSaysTheSame
unfolding program late
says_the_same relax = both-say (links relax) (program_image ∷ late_image ∷ []) 3 lines order says
    (one-linked (program relax) program_image (late relax ∷ []) (late_image ∷ []) (linked_program relax)
    (one-linked (late relax) late_image [] [] (linked_late relax) refl)) (meant_says relax) run_says
