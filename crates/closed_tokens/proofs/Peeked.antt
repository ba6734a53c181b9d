-- The program whose variables lines show, computed.
use Rattle.std.proofs.Common.{◌≡◌, Bool, true, false, [], ◌∷◌, Some, map, refl}
use Rattle.image_file.specs.Spelled.{Spelled}
use Rattle.link_core.specs.Images.{image_of}
use Rattle.link_faults.specs.declared.image_kind.ImageKind.TheVariants.{Exe}
use Rattle.whole_meaning.specs.Jobs.{verdict_of}
use Rattle.closed_jobs.specs.Worlds.{said_in}
use Rattle.closed_jobs.proofs.Joined.{both-say, one-linked}
use Rattle.link_core.proofs.Computed.{linked}
use Rattle.closed_jobs.proofs.Opened.{meant}
use Rattle.closed_jobs.proofs.Ran.{ran}
use Rattle.closed_tokens.specs.Laws.{PeekSaysTheSame, PeekIsUnclean}
use Rattle.closed_tokens.specs.Peeked.{does, first, lines, links, marked, means, program, program_object, says}
use Rattle.closed_tokens.proofs.PeekedImages.{program_kept, program_rewritten}
use Rattle.closed_tokens.proofs.Unclean.{is-unclean}

abbrev program_image : Bool → Spelled
program_image true = program_rewritten
program_image false = program_kept

linked_program : (relax : Bool) → linked (program relax) ≡ program_image relax
unfolding linked program program_object program_rewritten program_kept
linked_program true = refl
linked_program false = refl

linked_all : (relax : Bool) → map image_of (links relax) ≡ program_image relax ∷ []
linked_all relax = one-linked (program relax) (program_image relax) [] [] (linked_program relax) refl

-- numbers

meant_says : (relax : Bool) → said_in (meant (links relax) 3 lines []) ≡ says
unfolding meant program program_object
meant_says relax = refl

run_rewritten : said_in (ran (Exe ∷ []) (program_rewritten ∷ []) 3 lines []) ≡ says
unfolding ran program_rewritten
run_rewritten = refl

run_kept : said_in (ran (Exe ∷ []) (program_kept ∷ []) 3 lines []) ≡ says
unfolding ran program_kept
run_kept = refl

run_says : (relax : Bool) → said_in (ran (Exe ∷ []) (program_image relax ∷ []) 3 lines []) ≡ says
run_says true = run_rewritten
run_says false = run_kept

pub says_the_same : PeekSaysTheSame
unfolding program
says_the_same relax = both-say (links relax) (program_image relax ∷ []) 3 lines [] says (linked_all relax)
    (meant_says relax) (run_says relax)

-- a descriptor and a base

marked_meant : (relax : Bool) → said_in (meant (links relax) 7 marked []) ≡ means
unfolding meant program program_object
marked_meant relax = refl

marked_rewritten : said_in (ran (Exe ∷ []) (program_rewritten ∷ []) 7 marked []) ≡ does true
unfolding ran program_rewritten
marked_rewritten = refl

marked_kept : said_in (ran (Exe ∷ []) (program_kept ∷ []) 7 marked []) ≡ does false
unfolding ran program_kept
marked_kept = refl

marked_runs : (relax : Bool) → said_in (ran (Exe ∷ []) (program_image relax ∷ []) 7 marked []) ≡ does relax
marked_runs true = marked_rewritten
marked_runs false = marked_kept

found : verdict_of means.0 ≡ Some first
unfolding verdict_of
found = refl

pub unclean : PeekIsUnclean
unfolding program
unclean relax = is-unclean (links relax) (program_image relax ∷ []) 7 marked [] means first (does relax)
    (linked_all relax) (marked_meant relax) found (marked_runs relax)
