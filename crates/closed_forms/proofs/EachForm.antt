-- The program that reaches a variable in each way, computed.
use Rattle.std.proofs.Common.{◌≡◌, ℕ, Bool, true, false, List, [], ◌∷◌, map, refl}
use Rattle.std.specs.Prelude.{codes}
use Rattle.image_file.specs.Spelled.{Spelled}
use Rattle.link_core.specs.Images.{image_of}
use Rattle.link_faults.specs.declared.image_kind.ImageKind.TheVariants.{Exe, Start}
use Rattle.closed_jobs.specs.Worlds.{said_in}
use Rattle.closed_jobs.proofs.Joined.{both-say, one-linked}
use Rattle.link_core.proofs.Computed.{linked}
use Rattle.closed_jobs.proofs.Opened.{meant}
use Rattle.closed_jobs.proofs.Ran.{ran}
use Rattle.closed_forms.specs.EachForm.{Loads, answers, calls, links, program, program_object}
use Rattle.closed_forms.specs.Laws.{EachFormSaysTheSame}
use Rattle.closed_forms.specs.Library.{library, library_object}
use Rattle.closed_forms.proofs.EachFormImages.{program_kept, program_rewritten}
use Rattle.closed_forms.proofs.Library.{linked_library}
use Rattle.closed_forms.proofs.LibraryImage.{library_image}

abbrev program_image : Bool → Spelled
program_image true = program_rewritten
program_image false = program_kept

linked_program : (relax : Bool) → linked (program relax) ≡ program_image relax
unfolding linked program program_object program_rewritten program_kept
linked_program true = refl
linked_program false = refl

-- the images of both
linked_all : (relax : Bool) → map image_of (links relax) ≡ program_image relax ∷ library_image ∷ []
linked_all relax = one-linked (program relax) (program_image relax) (library relax ∷ []) (library_image ∷ [])
    (linked_program relax) (one-linked (library relax) library_image [] [] (linked_library relax) refl)

-- what is meant, in any setting, and what the images do, one call after the other

abbrev Meant : Bool → List ℕ → ℕ → Type 0
Meant relax name number = said_in (meant (links relax) 8 (calls name) []) ≡ answers number

abbrev Does : Spelled → List ℕ → ℕ → Type 0
Does image name number =
    said_in (ran (Exe ∷ Start ∷ []) (image ∷ library_image ∷ []) 8 (calls name) []) ≡ answers number

does : (relax : Bool) (name : List ℕ) (number : ℕ) → Does program_rewritten name number
    → Does program_kept name number → Does (program_image relax) name number
does true name number rewritten kept = rewritten
does false name number rewritten kept = kept

loads : (relax : Bool) (name : List ℕ) (number : ℕ) → Meant relax name number → Does program_rewritten name number
    → Does program_kept name number → Loads relax name number
unfolding program library
loads relax name number m r k = both-say (links relax) (program_image relax ∷ library_image ∷ []) 8 (calls name) []
    (answers number) (linked_all relax) m (does relax name number r k)

general_meant : (relax : Bool) → Meant relax (codes "a") 13
unfolding meant program library program_object library_object
general_meant relax = refl

general_rewritten : Does program_rewritten (codes "a") 13
unfolding ran program_rewritten library_image
general_rewritten = refl

general_kept : Does program_kept (codes "a") 13
unfolding ran program_kept library_image
general_kept = refl

local_meant : (relax : Bool) → Meant relax (codes "b") 12
unfolding meant program library program_object library_object
local_meant relax = refl

local_rewritten : Does program_rewritten (codes "b") 12
unfolding ran program_rewritten library_image
local_rewritten = refl

local_kept : Does program_kept (codes "b") 12
unfolding ran program_kept library_image
local_kept = refl

described_meant : (relax : Bool) → Meant relax (codes "c") 13
unfolding meant program library program_object library_object
described_meant relax = refl

described_rewritten : Does program_rewritten (codes "c") 13
unfolding ran program_rewritten library_image
described_rewritten = refl

described_kept : Does program_kept (codes "c") 13
unfolding ran program_kept library_image
described_kept = refl

pub says_the_same : EachFormSaysTheSame
says_the_same relax = record {
  general = loads relax (codes "a") 13 (general_meant relax) general_rewritten general_kept;
  local = loads relax (codes "b") 12 (local_meant relax) local_rewritten local_kept;
  described = loads relax (codes "c") 13 (described_meant relax) described_rewritten described_kept;
}
