-- An unclean job, from what is computed with everything open.
use Rattle.std.proofs.Common.{◌≡◌, ◌∙◌, ℕ, List, Some, map, ap}
use Rattle.image_file.specs.Spelled.{Spelled}
use Rattle.job_text.specs.declared.thread_lines.ThreadLine.{ThreadLine}
use Rattle.link_core.specs.Images.{image_of}
use Rattle.link_needs.specs.Linking.{Linking}
use Rattle.thread_blocks.specs.JobLoads.{job_loads}
use Rattle.thread_blocks.specs.JobWorlds.{job_world}
use Rattle.whole_meaning.specs.declared.unclean.UncleanStep.{UncleanStep}
use Rattle.whole_meaning.specs.Jobs.{meant_world, verdict_of}
use Rattle.whole_meaning.specs.Loads.{meaning_of}
use Rattle.closed_jobs.specs.Worlds.{Says, said_in}
use Rattle.closed_jobs.proofs.Opened.{meant}
use Rattle.closed_jobs.proofs.Ran.{ran}
use Rattle.closed_tokens.specs.Unclean.{IsUnclean}
use Rattle.closed_jobs.proofs.Joined.{meant-is, ran-is}

pub is-unclean : (ls : List Linking) (images : List Spelled) (fuel : ℕ) (lines : List (List ThreadLine))
    (order : List ℕ) (means : Says) (first : UncleanStep) (does : Says) → map image_of ls ≡ images
    → said_in (meant ls fuel lines order) ≡ means → verdict_of means.0 ≡ Some first
    → said_in (ran (map (λ (l : Linking). l.kind) ls) images fuel lines order) ≡ does
    → IsUnclean ls fuel lines order means first does
is-unclean ls images fuel lines order means first does e f v g =
    let kinds = map (λ (l : Linking). l.kind) ls in
    let says : said_in (meant_world (meaning_of ls) fuel lines order) ≡ means =
    ap said_in (meant-is ls fuel lines order) ∙ f in
    record {
      meant = says;
      found = ap (λ (s : Says). verdict_of s.0) says ∙ v;
      run = ap (λ xs. said_in (job_world (job_loads (record { kinds = kinds; images = xs })) fuel lines order)) e
          ∙ (ap said_in (ran-is kinds images fuel lines order) ∙ g);
    }
