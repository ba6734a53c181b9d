-- Transcripts: the machine's, and where a job or a thread is clean what it means.
use Rattle.std.proofs.Common.{◌≡◌, ◌∙◌, ◌≤◌, ℕ, true, List, All, Vec, Global, [], ◌∷◌, get_or, length, map, Result, Ok}
use Rattle.std.proofs.Common.{Err, IfOk, refl, sym, ap, subst}
use Rattle.std.proofs.lemmas.List.Elements.{All-cons, All-nil}
use Rattle.image_file.specs.Spelled.{Spelled}
use Rattle.job_text.specs.Jobs.{JobParts}
use Rattle.link_core.specs.Images.{LinkedImage, image_of, linked_of}
use Rattle.link_faults.specs.declared.image_kind.ImageKind.{ImageKind}
use Rattle.link_needs.specs.Linking.{Linking}
use Rattle.linked_jobs.specs.Laws.{LinkedJobsPrint, TranscriptsTellTheirThreads}
use Rattle.loaded_bytes.specs.Laws.{images_of}
use Rattle.loaded_modules.specs.Loader.{of_job}
use Rattle.loaded_modules.specs.Images.{JobImages}
use Rattle.meaning_laws.specs.Laws.{VerdictKnowsNoSetting}
use Rattle.module_table.specs.declared.events.Event.{Event}
use Rattle.run_summary.specs.Summaries.{counts_of}
use Rattle.run_summary.specs.declared.sites.SiteCounts.{SiteCounts}
use Rattle.standing_sequences.specs.Images.{HoldsTheTable}
use Rattle.standing_sequences.specs.Laws.{LinkedImagesHoldTheTable}
use Rattle.thread_blocks.specs.JobWorlds.{Tells}
use Rattle.thread_blocks.specs.MachineTurns.{shown}
use Rattle.thread_blocks.specs.Turns.{Thread}
use Rattle.transcript_text.specs.Texts.{Shown}
use Rattle.commands.specs.InOrder.{AreLinks}
use Rattle.commands.specs.declared.telling.Telling.{Telling}
use Rattle.commands.specs.RunJobs.{IsTold, told}
use Rattle.commands.specs.Runs.{AreBack, AreModulesBack, HasRun, ImagesHoldTheTable, loaded_image, modules_of}
use Rattle.commands.specs.Runs.{read_back, world_of}

-- ** the images

preparing : (ls : List Linking) → map (λ (linked : LinkedImage). linked.image) (map linked_of ls) ≡ map image_of ls
unfolding linked_of
preparing [] = refl
preparing (l ∷ ls) = ap (λ more. image_of l ∷ more) (preparing ls)

images_back : (ls : List Linking) → map read_back (map linked_of ls) ≡ map loaded_image ls
images_back [] = refl
images_back (l ∷ ls) = ap (λ more. loaded_image l ∷ more) (images_back ls)

-- each by itself
abbrev IsBack : Linking → Type 0
IsBack l = loaded_image l ≡ image_of l

each_back : (ls : List Linking) → map loaded_image ls ≡ map image_of ls → All IsBack ls
each_back [] same = All-nil IsBack
each_back (l ∷ ls) same =
    let head : loaded_image l ≡ image_of l = cc in
    let tail : map loaded_image ls ≡ map image_of ls = cc in
    All-cons IsBack l ls head (each_back ls tail)

module _ (job : JobParts) (ls : List Linking) (links : AreLinks job ls) (all : List LinkedImage)
    (all_is : all ≡ map linked_of ls)
    (images : List Spelled) (back : AreBack job all images) where
  pub images_are : images ≡ map image_of ls
  images_are = back.again ∙ ap (map (λ (linked : LinkedImage). linked.image)) all_is ∙ preparing ls

  loaded_are : images ≡ map loaded_image ls
  loaded_are = back.read ∙ ap (map read_back) all_is ∙ images_back ls

  pub modules_are : of_job job images ≡ modules_of job ls
  unfolding modules_of
  modules_are = ap (of_job job) loaded_are

  -- as they are loaded, they hold the table
  pub images_hold : LinkedImagesHoldTheTable → ImagesHoldTheTable ls
  images_hold hold = λ k d below.
      let l = get_or ls k d in
      let ready = links.links.ready in
      let back_is = each_back ls (sym loaded_are ∙ images_are) k d below in
      subst (HoldsTheTable l) (sym back_is)
      (hold l (record {
        given = ready.together.given k d below;
        links = ready.together.links k d below;
        stray = ready.stray k d below;
      }))

  -- they are those of which the laws speak
  pub modules_linked : of_job job images ≡ images_of ls
  modules_linked =
      ap (λ (ks : List ImageKind). record { kinds = ks; images = images }) (sym links.kinds)
      ∙ ap (λ (is : List Spelled). record { kinds = map (λ (l : Linking). l.kind) ls; images = is }) images_are

-- ** the lines

shown_each : {S L : Type 0} (threads : List (Thread S L Event))
    → map (λ t. map shown t.said) threads ≡ map (map shown) (map (λ t. t.said) threads)
shown_each [] = refl
shown_each (t ∷ threads) = ap (λ rest. map shown t.said ∷ rest) (shown_each threads)

module _ (job : JobParts) (ls : List Linking) (links : AreLinks job ls) (few : length job.lines ≤ 64)
    (all : List LinkedImage) (all_is : all ≡ map linked_of ls) (images : List Spelled) (back : AreBack job all images)
    (m : JobImages) (m_is : m ≡ of_job job images) (transcript : Shown) (printed : Tells (world_of job m) transcript)
  where
    -- the transcript is that of the images of which the laws speak
    of_links : Tells (world_of job (images_of ls)) transcript
    of_links =
        subst (λ (n : JobImages). Tells (world_of job n) transcript)
        (m_is ∙ modules_linked job ls links all all_is images back) printed

    has_run : LinkedJobsPrint → TranscriptsTellTheirThreads → VerdictKnowsNoSetting → LinkedImagesHoldTheTable
        → HasRun job ls transcript
    has_run jobs threads settings hold = record {
      printed_is =
          subst (λ (n : JobImages). Tells (world_of job n) transcript)
          (m_is ∙ modules_are job ls links all all_is images back) printed;
      meant_is = λ clean.
          let own = sym (settings ls true job.fuel job.lines job.order) ∙ clean in
          let same = jobs ls job.fuel job.lines job.order links.links few own in
          record {
            events = of_links.events ∙ same.0;
            lines =
                of_links.lines ∙ shown_each (world_of job (images_of ls)).threads ∙ ap (map (map shown)) same.1
                ∙ sym (shown_each _);
          };
      thread_is = λ none thread own said is_own is_said clean.
          threads ls job.fuel job.lines job.order transcript links.links few none
          (record { events = of_links.events; lines = of_links.lines }) thread own said is_own is_said clean;
      images_hold = images_hold job ls links all all_is images back hold;
    }

-- what a run answers
pub ran : {E : Type 0} → LinkedJobsPrint → TranscriptsTellTheirThreads → VerdictKnowsNoSetting
    → LinkedImagesHoldTheTable → (job : JobParts) → length job.lines ≤ 64
    → (all : List LinkedImage) (m : JobImages) → AreModulesBack job all m → (r : Result Shown E)
    → IfOk r (λ transcript. Tells (world_of job m) transcript)
    → IfOk r (λ transcript. (ls : List Linking) → AreLinks job ls → all ≡ map linked_of ls → HasRun job ls transcript)
ran jobs threads settings hold job few all m made (Ok transcript) printed =
    λ ls links all_is.
    has_run job ls links few all all_is made.images made.back m made.modules_are transcript printed jobs threads settings hold
ran jobs threads settings hold job few all m made (Err e) printed = tt

-- what is told of it
pub is_told : {E : Type 0} (telling : Telling) (job : JobParts) (ls : List Linking) (all : List LinkedImage)
    → all ≡ map linked_of ls
    → (counts : SiteCounts) → counts ≡ counts_of all → (transcript : Shown) → HasRun job ls transcript
    → (r : Result (Vec ℕ Global) E)
    → IfOk r (λ text. text.items ≡ told telling job.images counts transcript)
    → IfOk r (λ text. IsTold HasRun telling job ls text.items)
is_told telling job ls all all_is counts counts_are transcript ran (Ok text) text_is = record {
  transcript = transcript;
  ran = ran;
  told_is = text_is ∙ ap (λ own. told telling job.images own transcript) (counts_are ∙ ap counts_of all_is);
}
is_told telling job ls all all_is counts counts_are transcript ran (Err e) text_is = tt
