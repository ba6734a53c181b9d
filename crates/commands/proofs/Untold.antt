-- Own statuses, whatever the files.
use Rattle.std.proofs.Common.{◌≡◌, ◌≤◌, ◌⊎◌, ℕ, Bool, List, Option, Result, inl, inr, arith, subst}
use Rattle.command_replies.specs.declared.fault.CommandFault.{CommandFault}
use Rattle.command_replies.specs.Steps.{Comes}
use Rattle.job_link.specs.declared.writable.WritableSections.{WritableSections}
use Rattle.job_link.specs.Given.{Given}
use Rattle.job_text.specs.Jobs.{JobParts}
use Rattle.link_needs.specs.Linking.{Linking}
use Rattle.ports.specs.Files.{Files}
use Rattle.commands.specs.declared.purpose.Ending.{Ending as Placed}
use Rattle.commands.specs.declared.purpose.Ending.TheVariants as found
use Rattle.commands.specs.declared.purpose.Purpose.{Purpose}
use Rattle.commands.specs.declared.purpose.Purpose.TheVariants.{Run, Check, File, Sites}
use Rattle.commands.specs.Checks.{verdict}
use Rattle.commands.specs.Jobs.{BytesSay, Ending, ImagesSay, links_of}
use Rattle.commands.specs.Listings.{ListingSays}
use Rattle.commands.specs.Purposes.{Finds, Judges, JudgesAt, Makes}
use Rattle.commands.specs.Untold.{HasImageStatus, HasJobStatus}
use Rattle.commands.proofs.Completing.{verdict_done}
use Rattle.commands.proofs.Saying.{Text, comes_by, items}

done : (Judged : Type 0) (own : ℕ) → own ≡ 0 → HasJobStatus Judged own
done Judged own is = inl (inl is)

-- a refusal
pub refused : (Judged : Type 0) (own : ℕ) → 5 ≤ own → own ≤ 7 → HasJobStatus Judged own
refused Judged own low high = inl (inr (low, high))

more : (P Q : Type 0) (own : ℕ) → (P → Q) → HasJobStatus P own → HasJobStatus Q own
more P Q own weaker (inl is) = inl is
more P Q own weaker (inr is) = inr (weaker is.0, is.1)

-- what a command says of the bytes of its objects
module _ (E : Ending) (relax : Bool) (w : WritableSections) (Judged : Type 0) (own : ℕ) (text : List ℕ) (job : JobParts)
    (ends : (ls : List Linking) → E job ls own text → HasJobStatus Judged own) where
  of_images : (images : List Given) → ImagesSay E relax job images own text → HasJobStatus Judged own
  of_images images (inl linked) = ends (links_of images relax) linked.says
  of_images images (inr un) = refused Judged own (omega (arith, un.says.0)) (omega (arith, un.says.0))

  pub of_bytes : (bytes : List ℕ → List ℕ) → BytesSay E relax w bytes job own text → HasJobStatus Judged own
  of_bytes bytes (inl read) = of_images read.images read.says
  of_bytes bytes (inr un) = refused Judged own (omega (arith, un.says.0)) (omega (arith, un.says.0))

of_verdict : (own : ℕ) → (own ≡ 0) ⊎ (own ≡ 9) → HasJobStatus (Unit {0}) own
of_verdict own (inl is) = inl (inl is)
of_verdict own (inr is) = inr (tt, is)

of_ending : (ending : Placed) (before after : Option Files) (job : JobParts) (ls : List Linking) (own : ℕ)
    (text : List ℕ)
    → Makes ending before after job ls own text → HasJobStatus (JudgesAt ending) own
of_ending (found.Run telling) before after job ls own text made = done _ own made.0
of_ending found.Check before after job ls own text made = of_verdict own (verdict_done (verdict job ls) own text made)
of_ending (found.File place put) before after job ls own text made = done _ own made.says.says.0
of_ending (found.Sites place) before after job ls own text made = done _ own made.says.0

-- a result over the bytes of the objects
pub comes_of_bytes : (E : Ending) (relax : Bool) (w : WritableSections) (Judged : Type 0) (bytes : List ℕ → List ℕ)
    (job : JobParts)
    → ((ls : List Linking) (own : ℕ) (text : List ℕ) → E job ls own text → HasJobStatus Judged own)
    → (r : Result Text CommandFault)
    → Comes items (BytesSay E relax w bytes job) r → Comes items (λ own text. HasJobStatus Judged own) r
comes_of_bytes E relax w Judged bytes job ends r says =
    comes_by (BytesSay E relax w bytes job) (λ own text. HasJobStatus Judged own) r
    (λ own text said. of_bytes E relax w Judged own text job (λ ls. ends ls own text) bytes said) says

pub comes_of_ending : (ending : Placed) (before after : Option Files) (relax : Bool) (w : WritableSections)
    (bytes : List ℕ → List ℕ) (job : JobParts)
    (r : Result Text CommandFault) → Comes items (BytesSay (Makes ending before after) relax w bytes job) r
    → Comes items (λ own text. HasJobStatus (JudgesAt ending) own) r
comes_of_ending ending before after relax w bytes job =
    comes_of_bytes (Makes ending before after) relax w (JudgesAt ending) bytes job
    (λ ls own text made. of_ending ending before after job ls own text made)

-- the purpose judges where the ending does
judges_found : (purpose : Purpose) (job : JobParts) (ending : Placed) → Finds purpose job ending → JudgesAt ending
    → Judges purpose
judges_found (Run telling) job ending is judges = subst JudgesAt is judges
judges_found Check job ending is judges = tt
judges_found (File put) job (found.File place own) is judges = judges
judges_found (File put) job ending never judges = absurd never
judges_found (Sites image) job (found.Sites place) is judges = judges
judges_found (Sites image) job ending never judges = absurd never

pub comes_of_purpose : (purpose : Purpose) (job : JobParts) (ending : Placed) → Finds purpose job ending
    → (r : Result Text CommandFault)
    → Comes items (λ own text. HasJobStatus (JudgesAt ending) own) r
    → Comes items (λ own text. HasJobStatus (Judges purpose) own) r
comes_of_purpose purpose job ending is r =
    comes_by (λ own text. HasJobStatus (JudgesAt ending) own) (λ own text. HasJobStatus (Judges purpose) own) r
    (λ own text. more (JudgesAt ending) (Judges purpose) own (judges_found purpose job ending is))

-- of the bytes of an image
image_status : (b : List ℕ) (own : ℕ) (text : List ℕ) → ListingSays b own text → HasImageStatus own
image_status b own text (inl listed) = inl listed.status_is
image_status b own text (inr none) = inr none.status_is

pub comes_of_listing : (b : List ℕ) (r : Result Text CommandFault) → Comes items (ListingSays b) r
    → Comes items (λ own text. HasImageStatus own) r
comes_of_listing b r = comes_by (ListingSays b) (λ own text. HasImageStatus own) r (image_status b)
