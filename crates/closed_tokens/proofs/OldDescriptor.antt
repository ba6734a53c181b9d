-- The program that keeps a descriptor over a reload of the module that made it, computed.
use Rattle.std.proofs.Common.{◌≡◌, Bool, true, false, [], ◌∷◌, Some, map, refl}
use Rattle.link_core.specs.Images.{image_of}
use Rattle.link_faults.specs.declared.image_kind.ImageKind.TheVariants.{Exe, Late}
use Rattle.whole_meaning.specs.Jobs.{verdict_of}
use Rattle.closed_jobs.specs.Worlds.{said_in}
use Rattle.closed_jobs.proofs.Joined.{both-say, one-linked}
use Rattle.link_core.proofs.Computed.{linked}
use Rattle.closed_jobs.proofs.Opened.{meant}
use Rattle.closed_jobs.proofs.Ran.{ran}
use Rattle.closed_tokens.specs.Laws.{NewDescriptorSaysTheSame, OldDescriptorIsUnclean}
use Rattle.closed_tokens.specs.OldDescriptor.{does, first, late, lines, lines_with_old, links, means, module_object}
use Rattle.closed_tokens.specs.OldDescriptor.{order, program, program_object, says}
use Rattle.closed_tokens.proofs.OldDescriptorImages.{late_image, program_image}
use Rattle.closed_tokens.proofs.Unclean.{is-unclean}

linked_program : (relax : Bool) → linked (program relax) ≡ program_image
unfolding linked program program_object program_image
linked_program true = refl
linked_program false = refl

linked_late : (relax : Bool) → linked (late relax) ≡ late_image
unfolding linked late module_object late_image
linked_late true = refl
linked_late false = refl

linked_all : (relax : Bool) → map image_of (links relax) ≡ program_image ∷ late_image ∷ []
linked_all relax = one-linked (program relax) program_image (late relax ∷ []) (late_image ∷ [])
    (linked_program relax) (one-linked (late relax) late_image [] [] (linked_late relax) refl)

-- the new one

meant_says : (relax : Bool) → said_in (meant (links relax) 4 lines order) ≡ says
unfolding meant program late program_object module_object
meant_says relax = refl

run_says : said_in (ran (Exe ∷ Late ∷ []) (program_image ∷ late_image ∷ []) 4 lines order) ≡ says
unfolding ran program_image late_image
run_says = refl

pub says_the_same : NewDescriptorSaysTheSame
unfolding program late
says_the_same relax = both-say (links relax) (program_image ∷ late_image ∷ []) 4 lines order says (linked_all relax)
    (meant_says relax) run_says

-- the old one

old_meant : (relax : Bool) → said_in (meant (links relax) 4 lines_with_old order) ≡ means
unfolding meant program late program_object module_object
old_meant relax = refl

old_runs : said_in (ran (Exe ∷ Late ∷ []) (program_image ∷ late_image ∷ []) 4 lines_with_old order) ≡ does
unfolding ran program_image late_image
old_runs = refl

found : verdict_of means.0 ≡ Some first
unfolding verdict_of
found = refl

pub unclean : OldDescriptorIsUnclean
unfolding program late
unclean relax = is-unclean (links relax) (program_image ∷ late_image ∷ []) 4 lines_with_old order means first does
    (linked_all relax) (old_meant relax) found old_runs
