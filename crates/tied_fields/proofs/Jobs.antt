-- All instances of a job are tied, where the sequences of each stand.
use Rattle.std.proofs.Common.{◌≡◌, ◌∙◌, ◌<◌, ℕ, zero, suc, List, [], ◌∷◌, Some, length, refl}
use Rattle.std.proofs.Common.{ap, arith}
use Rattle.std.specs.Prelude.{slice_get}
use Rattle.std.specs.List.{All}
use Rattle.std.proofs.lemmas.List.{length-map}
use Rattle.known_instances.proofs.Known.{ids_own, known_is, known_live}
use Rattle.known_instances.proofs.Live.{all_live, late_late, startup_stays}
use Rattle.known_instances.proofs.Placed.{placed_in}
use Rattle.known_instances.proofs.StartupNumbers.{known_given}
use Rattle.known_instances.specs.Known.{known_in}
use Rattle.link_core.specs.Faults.{Links}
use Rattle.link_core.specs.Laws.{HasNoStray}
use Rattle.link_needs.specs.Given.{IsGiven}
use Rattle.link_needs.specs.Linking.{Linking}
use Rattle.loaded_bytes.specs.Laws.{IsInstanceOf, images_of}
use Rattle.elf_records.specs.FieldLaws.{AreBytes}
use Rattle.loaded_modules.specs.declared.instance.Instance.{Instance}
use Rattle.loaded_names.proofs.Infos.{infos_loaded}
use Rattle.loaded_names.proofs.Meant.{infos_meant, variables_meant}
use Rattle.loaded_words.specs.Laws.{IsKnown}
use Rattle.module_table.specs.declared.events.Event.{Event}
use Rattle.module_table.specs.declared.modules.ImageInfo.{ImageInfo}
use Rattle.thread_blocks.specs.JobLoads.{job_loads}
use Rattle.thread_blocks.specs.Turns.{at_number}
use Rattle.tied_meaning.specs.Ties.{IsTied}
use Rattle.whole_meaning.specs.Loads.{info_of, meaning_of}
use Rattle.tied_fields.specs.Jobs.{IsReady, JobsAreTied, SequencesStand}
use Rattle.tied_fields.specs.Settings.{setting_of}
use Rattle.tied_fields.proofs.OneNumber.{each_at}
use Rattle.tied_fields.proofs.Tied.{instances_tied}

-- an element that is there
found_at : {X : Type 0} (xs : List X) (i : ℕ) → i < length xs → (x : X) × (slice_get xs i ≡ Some x)
found_at [] i below = absurd (omega (arith, below))
found_at (x ∷ xs) zero below = (x, refl)
found_at (x ∷ xs) (suc i) below = found_at xs i (omega (arith, below))

module _ (ls : List Linking) (history : List Event) (ready : IsReady ls history) (stand : SequencesStand ls history)
  where
    -- an instance that a number was given to
    module _ (x : Instance) (e : known_in (job_loads (images_of ls)) history x.number ≡ Some x) where
      known : IsKnown ls history x
      known = record { program = ready.program; legal = ready.legal; known = e }

      link : (l : Linking) × (at_number ls x.image ≡ Some l)
      link =
          let live = known_live (job_loads (images_of ls)) history x.number x e in
          let placed = placed_in (job_loads
          (images_of ls)) history ready.legal live.seen x.number x live.front live.live in
          let many : length (job_loads (images_of ls)).infos ≡ length ls =
          ap (λ (infos : List ImageInfo). length infos) (infos_loaded ls).0 ∙ length-map ls info_of in
          let found = found_at ls placed.index (let within = placed.within in omega (arith, within, many)) in
          (found.0, ap (at_number ls) placed.image ∙ found.1)

      is : IsInstanceOf ls link.0 x
      is = record {
        image = link.1;
        given = each_at IsGiven ls x.image link.0 ready.together.given link.1;
        links = each_at Links ls x.image link.0 ready.together.links link.1;
        stray = each_at HasNoStray ls x.image link.0 ready.stray link.1;
      }

      tied : IsTied (setting_of ls history) (meaning_of ls) (job_loads (images_of ls)) x
      tied =
          instances_tied ls history link.0 x
          (each_at (λ (l : Linking). All AreBytes l.objects) ls x.image link.0 ready.bytes link.1) known is
          (stand link.0 x known is)

    tied_number : (number : ℕ) (x : Instance) → known_in (job_loads (images_of ls)) history number ≡ Some x
        → IsTied (setting_of ls history) (meaning_of ls) (job_loads (images_of ls)) x × (x.number ≡ number)
    tied_number number x e =
        let own = (known_given (job_loads (images_of ls)) history ready.legal number x e).number in
        (tied x (ap (known_in (job_loads (images_of ls)) history) own ∙ e), own)

-- the law
pub jobs_tied : JobsAreTied
unfolding meaning_of
jobs_tied ls history ready stand = record {
  infos = (infos_meant ls).0;
  last = (infos_meant ls).1;
  variable = λ image name. variables_meant ls image name ready.together.given;
  each = λ seen front. all_live (job_loads (images_of ls)) history ready.legal
      (IsTied (setting_of ls history) (meaning_of ls) (job_loads (images_of ls))) seen front
      (λ x e. tied ls history ready stand x
      (known_is (job_loads (images_of ls)) history ready.legal seen x.number x front e));
  known = λ number x e. tied_number ls history ready stand number x e;
  ids = λ seen x front e. ids_own (job_loads (images_of ls)) history ready.legal seen x front e;
  startup = λ seen number front some low.
      startup_stays (job_loads (images_of ls)) history ready.legal seen number front some low;
  late_ids = λ seen x front e late. late_late (job_loads (images_of ls)) history ready.legal seen x front e late;
}
