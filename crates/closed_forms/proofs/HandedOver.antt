-- The program of three threads, computed.
use Rattle.std.proofs.Common.{◌≡◌, Bool, true, false, [], ◌∷◌, map, refl}
use Rattle.image_file.specs.Spelled.{Spelled}
use Rattle.link_core.specs.Images.{image_of}
use Rattle.link_faults.specs.declared.image_kind.ImageKind.TheVariants.{Pie, Start}
use Rattle.closed_jobs.specs.Worlds.{said_in}
use Rattle.closed_jobs.proofs.Joined.{both-say, one-linked}
use Rattle.link_core.proofs.Computed.{linked}
use Rattle.closed_jobs.proofs.Opened.{meant}
use Rattle.closed_jobs.proofs.Ran.{ran}
use Rattle.closed_forms.specs.HandedOver.{lines, links, order, program, program_object, reading, says, says_of_reading}
use Rattle.closed_forms.specs.Laws.{HandedOverSaysTheSame}
use Rattle.closed_forms.specs.Library.{library, library_object}
use Rattle.closed_forms.proofs.HandedOverImages.{program_kept, program_rewritten}
use Rattle.closed_forms.proofs.Library.{linked_library}
use Rattle.closed_forms.proofs.LibraryImage.{library_image}

abbrev program_image : Bool → Spelled
program_image true = program_rewritten
program_image false = program_kept

linked_program : (relax : Bool) → linked (program relax) ≡ program_image relax
unfolding linked program program_object program_rewritten program_kept
linked_program true = refl
linked_program false = refl

-- the images of both
linked_all : (relax : Bool) → map image_of (links relax) ≡ program_image relax ∷ library_image ∷ []
linked_all relax = one-linked (program relax) (program_image relax) (library relax ∷ []) (library_image ∷ [])
    (linked_program relax) (one-linked (library relax) library_image [] [] (linked_library relax) refl)

-- three threads

meant_says : (relax : Bool) → said_in (meant (links relax) 6 lines order) ≡ says
unfolding meant program library program_object library_object
meant_says relax = refl

run_rewritten : said_in (ran (Pie ∷ Start ∷ []) (program_rewritten ∷ library_image ∷ []) 6 lines order)
    ≡ says
unfolding ran program_rewritten library_image
run_rewritten = refl

run_kept : said_in (ran (Pie ∷ Start ∷ []) (program_kept ∷ library_image ∷ []) 6 lines order)
    ≡ says
unfolding ran program_kept library_image
run_kept = refl

run_says : (relax : Bool)
    → said_in (ran (Pie ∷ Start ∷ []) (program_image relax ∷ library_image ∷ []) 6 lines order) ≡ says
run_says true = run_rewritten
run_says false = run_kept

-- and one that reads

reading_meant : (relax : Bool) → said_in (meant (links relax) 7 reading []) ≡ says_of_reading
unfolding meant program library program_object library_object
reading_meant relax = refl

reading_rewritten : said_in (ran (Pie ∷ Start ∷ []) (program_rewritten ∷ library_image ∷ []) 7 reading [])
    ≡ says_of_reading
unfolding ran program_rewritten library_image
reading_rewritten = refl

reading_kept : said_in (ran (Pie ∷ Start ∷ []) (program_kept ∷ library_image ∷ []) 7 reading [])
    ≡ says_of_reading
unfolding ran program_kept library_image
reading_kept = refl

reading_runs : (relax : Bool)
    → said_in (ran (Pie ∷ Start ∷ []) (program_image relax ∷ library_image ∷ []) 7 reading []) ≡ says_of_reading
reading_runs true = reading_rewritten
reading_runs false = reading_kept

pub says_the_same : HandedOverSaysTheSame
unfolding program library
says_the_same relax = let images = program_image relax ∷ library_image ∷ [] in (
  both-say (links relax) images 6 lines order says (linked_all relax) (meant_says relax) (run_says relax),
  both-say (links relax) images 7 reading [] says_of_reading (linked_all relax) (reading_meant relax)
      (reading_runs relax),
)
