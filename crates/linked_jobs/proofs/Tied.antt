-- All sequences stand, so that all that is loaded is tied.
use Rattle.tied_fields.proofs.Jobs.{jobs_tied}
use Rattle.tied_sites.proofs.AllSites.{all_sites}
use Rattle.linked_jobs.specs.Laws.{LinksAreTied}

pub links_tied : LinksAreTied
links_tied ls history ready legal =
    jobs_tied ls history (record {
      together = ready.together;
      stray = ready.stray;
      bytes = ready.bytes;
      program = ready.program;
      legal = legal;
    }) (λ l x known is place s meant. all_sites ls history l x place s ready.few (record {
      together = ready.together;
      late_last = ready.late;
      known = known;
      of = is;
      meant = meant;
    }))
