-- An unclean job in both worlds.
use Rattle.std.specs.Prelude.{◌≡◌, ℕ, List, Some}
use Rattle.job_text.specs.declared.thread_lines.ThreadLine.{ThreadLine}
use Rattle.link_needs.specs.Linking.{Linking}
use Rattle.thread_blocks.specs.JobWorlds.{job_world}
use Rattle.whole_meaning.specs.declared.unclean.UncleanStep.{UncleanStep}
use Rattle.whole_meaning.specs.Jobs.{lines_of, meant_world, verdict_of}
use Rattle.whole_meaning.specs.Loads.{meaning_of}
use Rattle.closed_jobs.specs.Worlds.{Says, loads_of_links, said_in}

-- a job: steps of a call, lines of each thread, order of their turns; and its meaning's lines, its first unclean step,
-- and what its linked images print
pub record IsUnclean (ls : List Linking) (fuel : ℕ) (lines : List (List ThreadLine)) (order : List ℕ) (means : Says)
    (first : UncleanStep) (does : Says) : Type 0 where
  pub meant : said_in (meant_world (meaning_of ls) fuel lines order) ≡ means
  pub found : verdict_of (lines_of (meant_world (meaning_of ls) fuel lines order)) ≡ Some first
  pub run : said_in (job_world (loads_of_links ls) fuel lines order) ≡ does
