-- The links of a job whose images all link, as the endings want them.
use Rattle.std.proofs.Common.{◌≡◌, ◌∙◌, ◌≤◌, ◌<◌, ◌^◌, ℕ, Bool, true, List, All, [], ◌∷◌, get_or, length, map, refl}
use Rattle.std.proofs.Common.{sym, ap, subst, arith}
use Rattle.std.proofs.lemmas.List.{length-map}
use Rattle.std.proofs.lemmas.List.Elements.{All-cons, All-map, All-nil, All-same, All-weaker}
use Rattle.job_link.specs.declared.writable.WritableSections.TheVariants.{Refused}
use Rattle.job_link.specs.Given.{Allows, Given, IsGivenImage}
use Rattle.job_link.specs.Linked.{link_in}
use Rattle.job_link.specs.LinkLaws.{is_given, kinds_linked}
use Rattle.job_text.specs.declared.images.Image.{Image}
use Rattle.job_text.specs.Jobs.{JobParts}
use Rattle.job_text.specs.LateImages.{LateLast}
use Rattle.job_text.specs.ProgramFirst.{ProgramFirst}
use Rattle.link_core.specs.Faults.{IsSound, Links}
use Rattle.link_core.specs.Laws.{HasNoStray}
use Rattle.link_faults.specs.declared.image_kind.ImageKind.{ImageKind}
use Rattle.link_needs.specs.Given.{IsGiven}
use Rattle.link_needs.specs.Linking.{Linking}
use Rattle.linked_modules.specs.Dataless.{IsOfDataless}
use Rattle.linked_modules.specs.Together.{AreTogether}
use Rattle.elf_records.specs.FieldLaws.{AreBytes}
use Rattle.meant_images.specs.Images.{AreSound}
use Rattle.standing_sequences.specs.Laws.{IsLinked}
use Rattle.commands.specs.InOrder.{AreLinked, AreLinks, IsOfFew}
use Rattle.commands.specs.Jobs.{links_of}
use Rattle.commands.specs.RunJobs.{CheckedLinksAreRun}
use Rattle.commands.specs.Runs.{as_checked}
use Rattle.commands.proofs.Fetched.{count_is}
use Rattle.commands.proofs.Together.{together}

-- an image whose accesses of thread-local storage are sequences
none_stray : (images : List Given) (relax : Bool) (g : Given) → IsGivenImage g → HasNoStray (link_in images relax g)
unfolding link_in
none_stray images relax g given o below = let sound = given.sound o [] below in (sound.no_loose, sound.no_stray)

-- what all objects of a list of images have, where each list is that of names
of_names : (bytes : List ℕ → List ℕ) → ((name : List ℕ) → AreBytes (bytes name)) → (gs : List Given) (is : List Image)
    → map (λ (g : Given). g.objects) gs ≡ map (λ (i : Image). map bytes i.objects) is
    → All (λ g. All AreBytes g.objects) gs
of_names bytes small [] is same = All-nil (λ g. All AreBytes g.objects)
of_names bytes small (g ∷ gs) [] same = cc
of_names bytes small (g ∷ gs) (i ∷ is) same =
    let heads : g.objects ≡ map bytes i.objects = cc in
    let tails : map (λ (g : Given). g.objects) gs ≡ map (λ (i : Image). map bytes i.objects) is = cc in
    All-cons (λ g. All AreBytes g.objects) g gs
    (All-same AreBytes g.objects (map bytes i.objects) heads
    (All-map AreBytes bytes i.objects (λ k d below. small (get_or i.objects k d))))
    (of_names bytes small gs is tails)

module _ (job : JobParts) (images : List Given) (ls : List Linking) (are : AreLinked job images ls) where
  pub count : length images ≡ length job.images
  count = count_is are.bytes job images are.given

  pub count_linked : length ls ≡ length job.images
  count_linked = ap length are.links_are ∙ length-map images (link_in images are.relax) ∙ count

  -- what each image's link is, all links are
  each : (P : Linking → Type 0) → All (λ g. P (link_in images are.relax g)) images → All P ls
  each P all = All-same P ls (links_of images are.relax) are.links_are (All-map P (link_in images are.relax) images all)

  given : All (λ g. IsGiven (link_in images are.relax g)) images
  given =
      let few : length images ≤ 64 = omega (arith, count, are.few) in
      All-weaker IsGivenImage (λ g. IsGiven (link_in images are.relax g))
      (λ g own. is_given images are.relax g few own) images are.given.given

  all_given : All IsGiven ls
  all_given = each IsGiven given

  all_link : All Links ls
  all_link = each Links are.links

  stray : All HasNoStray ls
  stray = each HasNoStray
      (All-weaker IsGivenImage (λ g. HasNoStray (link_in images are.relax g))
      (none_stray images are.relax) images are.given.given)

  pub are_linked : All IsLinked ls
  are_linked = λ k d below. record { given = all_given k d below; links = all_link k d below; stray = stray k d below }

  small : All (λ (l : Linking). All AreBytes l.objects) ls
  unfolding link_in
  small = each (λ (l : Linking). All AreBytes l.objects)
      (of_names are.bytes are.small images job.images are.given.objects)

  few : All IsOfFew images → All (λ (l : Linking). length l.objects < 2 ^ 32) ls
  unfolding link_in
  few all = each (λ (l : Linking). length l.objects < 2 ^ 32) all

  -- no object has data for programs to write
  pub dataless : All (λ g. All (Allows Refused) g.objects) images → All IsOfDataless ls
  unfolding link_in
  dataless all = each IsOfDataless all

  kinds_are : map (λ (l : Linking). l.kind) ls ≡ map (λ (image : Image). image.kind) job.images
  kinds_are = ap (map (λ (l : Linking). l.kind)) are.links_are ∙ kinds_linked images are.relax images ∙ are.given.kinds

  pub some_linked : 1 ≤ length ls
  some_linked = omega (arith, count_linked, are.some)

  pub few_linked : length ls ≤ 64
  few_linked = omega (arith, count_linked, are.few)

  pub late : LateLast (map (λ (l : Linking). l.kind) ls)
  late = subst (λ (kinds : List ImageKind). LateLast kinds) (sym kinds_are) are.order.late

  pub are_sound : AreSound ls
  are_sound = record {
    given = all_given;
    sound = All-weaker Links IsSound (λ l own. own.sound) ls all_link;
    stray = stray;
  }

  pub are_links : All IsOfFew images → AreLinks job ls
  are_links of_few = record {
    links = record {
      ready = record {
        together = subst (λ (all : List Linking). AreTogether all) (sym are.links_are)
            (together images are.relax given are.links);
        bytes = small;
        stray = stray;
        few = few of_few;
        program = subst (λ (kinds : List ImageKind). ProgramFirst kinds) (sym kinds_are) are.order.program;
        late = late;
      };
      few = few_linked;
    };
    kinds = kinds_are;
  }

-- with sequences rewritten they are those that `check` judges
checked_from : (images : List Given) (relax : Bool) (gs : List Given)
    → as_checked (map (link_in images relax) gs) ≡ map (link_in images true) gs
unfolding link_in
checked_from images relax [] = refl
checked_from images relax (g ∷ gs) = ap (λ more. link_in images true g ∷ more) (checked_from images relax gs)

pub checked_links : CheckedLinksAreRun
checked_links images relax = checked_from images relax images
