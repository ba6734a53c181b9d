-- The threads of linked images share data, for what is loaded of them is in order, and lies low.
use Rattle.std.proofs.Common.{◌≡◌, ℕ, true, List, [], refl, subst}
use Rattle.known_instances.proofs.Legal.{job_legal}
use Rattle.link_needs.specs.Linking.{Linking}
use Rattle.loaded_bytes.specs.Laws.{images_of}
use Rattle.loaded_names.proofs.Meant.{infos_meant}
use Rattle.module_table.specs.declared.events.Event.{Event}
use Rattle.module_table.specs.declared.modules.ImageInfo.{ImageInfo}
use Rattle.module_table.specs.Past.{IsLegal}
use Rattle.module_table.specs.Past.{is_legal, start}
use Rattle.shared_data.proofs.Jobs.{machine_data_last, machine_reads_last, machine_there, meant_data_last}
use Rattle.shared_data.proofs.Jobs.{meant_reads_last, meant_there}
use Rattle.shared_data.specs.Laws.{IsInOrder}
use Rattle.thread_blocks.specs.JobLoads.{job_loads}
use Rattle.tied_fields.specs.Settings.{setting_of}
use Rattle.tied_meaning.specs.Ties.{AreTied}
use Rattle.whole_meaning.specs.Loads.{meaning_of}
use Rattle.linked_jobs.specs.Data.{LinkedThreadsShareData}
use Rattle.linked_jobs.specs.Ready.{AreJob}
use Rattle.linked_jobs.proofs.Infos.{are_infos}
use Rattle.linked_jobs.proofs.Low.{machine_low, meant_low}
use Rattle.linked_jobs.proofs.Tied.{links_tied}

module _ (ls : List Linking) (job : AreJob ls) where
  tied : (seen : List Event) → IsLegal (job_loads (images_of ls)).infos (job_loads (images_of ls)).last_offset seen
      → AreTied (setting_of ls seen) (meaning_of ls) (job_loads (images_of ls)) seen
  tied seen legal = links_tied ls seen job.ready legal

  none_refused : is_legal (start (job_loads (images_of ls)).infos (job_loads (images_of ls)).last_offset) [] ≡ true
  unfolding is_legal
  none_refused = refl

  in_order : IsInOrder (job_loads (images_of ls))
  in_order = job_legal (images_of ls) [] (are_infos ls job) none_refused

  meant_in_order : IsInOrder (meaning_of ls).loads
  unfolding meaning_of
  meant_in_order =
      let same = infos_meant ls in
      subst (λ (infos : List ImageInfo). IsLegal infos (meaning_of ls).loads.last_offset []) same.0
      (subst (λ (last : ℕ). IsLegal (job_loads (images_of ls)).infos last []) same.1 in_order)

pub share_data : LinkedThreadsShareData
share_data ls fuel lines job = (
  record {
    last = machine_data_last (job_loads (images_of ls)) fuel lines (in_order ls job);
    reads = machine_reads_last (job_loads (images_of ls)) fuel lines (in_order ls job);
    there =
        machine_there.0 (job_loads (images_of ls)) fuel lines (in_order ls job)
        (machine_low ls (setting_of ls) (tied ls job));
  },
  record {
    last = meant_data_last (meaning_of ls) fuel lines (meant_in_order ls job);
    reads = meant_reads_last (meaning_of ls) fuel lines (meant_in_order ls job);
    there =
        meant_there.0 (meaning_of ls) fuel lines (meant_in_order ls job) (meant_low ls (setting_of ls) (tied ls job));
  },
)
