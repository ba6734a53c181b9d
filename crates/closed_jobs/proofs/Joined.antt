-- Both worlds of a job, from what is computed with everything open.
use Rattle.std.proofs.Common.{◌≡◌, ◌∙◌, ℕ, List, ◌∷◌, map, refl, ap}
use Rattle.image_file.specs.Spelled.{Spelled}
use Rattle.job_text.specs.declared.thread_lines.ThreadLine.{ThreadLine}
use Rattle.link_core.specs.Images.{image_of}
use Rattle.link_faults.specs.declared.image_kind.ImageKind.{ImageKind}
use Rattle.link_needs.specs.Linking.{Linking}
use Rattle.thread_blocks.specs.JobLoads.{job_loads}
use Rattle.thread_blocks.specs.JobWorlds.{job_world}
use Rattle.whole_meaning.specs.Jobs.{meant_world}
use Rattle.whole_meaning.specs.Loads.{meaning_of}
use Rattle.closed_jobs.specs.Worlds.{BothSay, Says, said_in}
use Rattle.link_core.proofs.Computed.{linked}
use Rattle.closed_jobs.proofs.Opened.{meant}
use Rattle.closed_jobs.proofs.Ran.{ran}

pub ran-is : (kinds : List ImageKind) (images : List Spelled) (fuel : ℕ) (lines : List (List ThreadLine))
    (order : List ℕ)
    → job_world (job_loads (record { kinds = kinds; images = images })) fuel lines order
    ≡ ran kinds images fuel lines order
unfolding ran
ran-is kinds images fuel lines order = refl

pub meant-is : (ls : List Linking) (fuel : ℕ) (lines : List (List ThreadLine)) (order : List ℕ)
    → meant_world (meaning_of ls) fuel lines order ≡ meant ls fuel lines order
unfolding meant
meant-is ls fuel lines order = refl

-- the image of one more link
pub one-linked : (l : Linking) (image : Spelled) (ls : List Linking) (images : List Spelled) → linked l ≡ image
    → map image_of ls ≡ images → map image_of (l ∷ ls) ≡ image ∷ images
unfolding linked
one-linked l image ls images e f = ap (λ x. x ∷ map image_of ls) e ∙ ap (λ xs. image ∷ xs) f

pub both-say : (ls : List Linking) (images : List Spelled) (fuel : ℕ) (lines : List (List ThreadLine)) (order : List ℕ)
    (says : Says) → map image_of ls ≡ images
    → said_in (meant ls fuel lines order) ≡ says
    → said_in (ran (map (λ (l : Linking). l.kind) ls) images fuel lines order) ≡ says
    → BothSay ls fuel lines order says
both-say ls images fuel lines order says e f g = let kinds = map (λ (l : Linking). l.kind) ls in record {
  meant = ap said_in (meant-is ls fuel lines order) ∙ f;
  run = ap (λ xs. said_in (job_world (job_loads (record { kinds = kinds; images = xs })) fuel lines order)) e
      ∙ (ap said_in (ran-is kinds images fuel lines order) ∙ g);
}
