-- What is said over the files that were fetched, and of images that do not link.
use Rattle.std.proofs.Common.{◌≡◌, ◌∙◌, ◌<◌, ◌≤◌, ℕ, Bool, length, Option, Some, None, IfSome, List, Result, inl, inr}
use Rattle.std.proofs.Common.{sym, ap, subst, arith}
use Rattle.std.specs.List.{Contains}
use Rattle.std.proofs.lemmas.List.{length-map}
use Rattle.std.proofs.lemmas.Option.{slice_get_within}
use Rattle.command_replies.specs.declared.fault.CommandFault.{CommandFault}
use Rattle.command_replies.specs.Steps.{Comes}
use Rattle.job_link.specs.declared.preparing.ImageRefusal.{ImageRefusal}
use Rattle.job_link.specs.declared.writable.WritableSections.{WritableSections}
use Rattle.job_link.specs.Given.{Given, AreGiven}
use Rattle.job_link.specs.Linked.{AllLink, IsFirstUnlinked}
use Rattle.job_link.specs.Mentions.{AreFilesOf, Fetched, bytes_at, bytes_in, object_names}
use Rattle.job_text.specs.declared.images.Image.{Image}
use Rattle.job_text.specs.Jobs.{JobParts}
use Rattle.link_needs.specs.Linking.{Linking}
use Rattle.ports.specs.Files.{Files}
use Rattle.commands.specs.Jobs.{BytesSay, Ending, ImagesSay, ObjectsSay, links_of}
use Rattle.commands.proofs.Mentioned.{given_at, unread_at}
use Rattle.commands.proofs.Saying.{Text, comes_by, items}

-- ** files

module _ (E : Ending) (relax : Bool) (w : WritableSections) (fs : Files) (job : JobParts) (files : Fetched)
    (are : AreFilesOf fs (object_names job) files)
    (every : (k : ℕ) → 1 ≤ k → k ≤ length job.images → Contains job.mentions k) where
  at_files : (status : ℕ) (text : List ℕ) → BytesSay E relax w (bytes_in files) job status text
      → BytesSay E relax w (bytes_at fs) job status text
  at_files status text (inl read) =
      inl (record {
        images = read.images;
        given = given_at fs job files are every read.images read.given;
        says = read.says;
      })
  at_files status text (inr un) = inr (unread_at fs job files are every w status text un)

  pub objects_say : (status : ℕ) (text : List ℕ) → BytesSay E relax w (bytes_in files) job status text
      → ObjectsSay E relax w fs job status text
  objects_say status text says = record { there = are.there; says = at_files status text says }

-- E: by the files before the last step, which are those that were fetched from
pub files_say : (E : Option Files → Ending) (relax : Bool) (w : WritableSections) (old mid : Option Files) → mid ≡ old
    → (job : JobParts) (files : Fetched) → IfSome old (λ fs. AreFilesOf fs (object_names job) files)
    → ((k : ℕ) → 1 ≤ k → k ≤ length job.images → Contains job.mentions k) → (r : Result Text CommandFault)
    → Comes items (BytesSay (E mid) relax w (bytes_in files) job) r
    → IfSome old (λ fs. Comes items (ObjectsSay (E (Some fs)) relax w fs job) r)
files_say E relax w None mid same job files are every r says = tt
files_say E relax w (Some fs) mid same job files are every r says =
    comes_by (BytesSay (E (Some fs)) relax w (bytes_in files) job) (ObjectsSay (E (Some fs)) relax w fs job) r
    (objects_say (E (Some fs)) relax w fs job files are every)
    (subst (λ (m : Option Files). Comes items (BytesSay (E m) relax w (bytes_in files) job) r) same says)

-- ** images

pub count_is : (bytes : List ℕ → List ℕ) (job : JobParts) (images : List Given) → AreGiven bytes job images
    → length images ≡ length job.images
count_is bytes job images are =
    sym (length-map images (λ (g : Given). g.kind)) ∙ ap length are.kinds
    ∙ length-map job.images (λ (image : Image). image.kind)

pub names_image : (job : JobParts) (images : List Given) (relax : Bool) → length images ≡ length job.images
    → (r : ImageRefusal) → IsFirstUnlinked images relax r.number r.fault
    → r.number < length job.images
names_image job images relax count r is = omega (arith, count, slice_get_within images r.number is.image is.there)

-- own: the setting, as the command has it
module _ (E : Ending) (relax own : Bool) (same : relax ≡ own) (job : JobParts) (images : List Given) where
  in_own : (r : Result Text CommandFault) → Comes items (ImagesSay E relax job images) r
      → Comes items (ImagesSay E own job images) r
  in_own r = subst (λ (b : Bool). Comes items (ImagesSay E b job images) r) same

  pub linked_say : (ls : List Linking) → AllLink images relax → ls ≡ links_of images relax
      → (r : Result Text CommandFault)
      → Comes items (E job ls) r → Comes items (ImagesSay E own job images) r
  linked_say ls links are r says =
      in_own r (comes_by (E job ls) (ImagesSay E relax job images) r
      (λ status text ends. inl
      (record { links = links; says = subst (λ (all : List Linking). E job all status text) are ends })) says)
