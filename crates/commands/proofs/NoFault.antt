-- What has no fault is refused with none: bytes, the link of an image, and a job.
use Rattle.std.proofs.Common.{ℕ, Bool, List, Option, Some, None, inl, inr, subst}
use Rattle.std.specs.Prelude.{slice_get}
use Rattle.std.proofs.lemmas.Option.{get_or_from_slice_get, slice_get_within}
use Rattle.command_replies.specs.Says.{IsLinkLine, IsObjectLine}
use Rattle.generated_laws.specs.Sound.{IsFaultless}
use Rattle.job_link.specs.declared.writable.WritableSections.{WritableSections}
use Rattle.job_link.specs.declared.writable.WritableSections.TheVariants.{Kept, Refused}
use Rattle.job_link.specs.Given.{Allows, Given, AreGiven, IsDataFault, IsFileFault}
use Rattle.job_link.specs.Linked.{AllLink, IsFirstUnlinked, link_in}
use Rattle.job_link.specs.Mentions.{mentions_of}
use Rattle.job_link.specs.NoFault.{no_link_fault}
use Rattle.job_text.specs.declared.images.Image.{Image}
use Rattle.job_text.specs.Jobs.{JobParts}
use Rattle.link_core.specs.Faults.{Links}
use Rattle.link_faults.specs.declared.fault.LinkFault.{LinkFault}
use Rattle.link_faults.specs.declared.fault.LinkFault.TheVariants as link_fault
use Rattle.object_rules.specs.declared.fault.FaultKind.{FaultKind}
use Rattle.object_rules.specs.declared.fault.FaultKind.TheVariants.{Sequence, StrayCall}
use Rattle.object_rules.specs.declared.fault.ObjectFault.{ObjectFault}
use Rattle.object_rules.specs.declared.fault.ObjectFault.TheVariants as object_fault
use Rattle.sequence_match.specs.Faults.{Stands}
use Rattle.commands.specs.Jobs.{BytesSay, DoLink, Ending, ImagesSay}
use Rattle.commands.proofs.Membership.{In, in_at}

-- ** bytes

no_sequence_fault : (kind : FaultKind) (b : List ℕ) (r e : ℕ) → IsFaultless b → Stands kind b r e → ⊥
no_sequence_fault Sequence b r e fine here = fine.no_loose r e here
no_sequence_fault StrayCall b r e fine here = fine.no_stray r e here
no_sequence_fault kind b r e fine (above, (s, kept, never)) = never

no_data_fault : (w : WritableSections) (b : List ℕ) (section entry : ℕ) (kind : FaultKind) → Allows w b
    → IsDataFault w b section entry kind → ⊥
no_data_fault Kept b section entry kind allowed never = never
no_data_fault Refused b section entry kind none first = none section first.0.0

no_file_fault : (w : WritableSections) (b name : List ℕ) (fault : ObjectFault) (text : List ℕ) → IsFaultless b
    → Allows w b
    → IsFileFault w b fault → IsObjectLine name fault text → ⊥
no_file_fault w b name object_fault.OutOfMemory text fine none first never = never
no_file_fault w b name (object_fault.At section entry kind) text fine none (inl first) line =
    fine.object kind section entry first.here
no_file_fault w b name (object_fault.At section entry kind) text fine none (inr (is, inl writable)) line =
    no_data_fault w b section entry kind none writable
no_file_fault w b name (object_fault.At section entry kind) text fine none (inr (is, inr (allowed, first))) line =
    no_sequence_fault kind b section entry fine first.here

-- ** links

no_first : (images : List Given) (relax : Bool) (number : ℕ) (own : Option Image) (fault : LinkFault) (text : List ℕ)
    → AllLink images relax
    → IsFirstUnlinked images relax number fault → IsLinkLine own fault text → ⊥
no_first images relax number None fault text all first never = never
no_first images relax number (Some own) link_fault.OutOfMemory text all first never = never
no_first images relax number (Some own) (link_fault.At kind object section entry) text all first line =
    let within = slice_get_within images number first.image first.there in
    let is = get_or_from_slice_get images number first.image first.image first.there in
    let its : Links (link_in images relax first.image) =
    subst (λ (g : Given). Links (link_in images relax g)) is (all number first.image within) in
    no_link_fault (link_in images relax first.image) kind object section entry its first.here

-- ** jobs: what is left is that all images link

pub record DoesLink (E : Ending) (relax : Bool) (bytes : List ℕ → List ℕ) (job : JobParts) (status : ℕ)
    (text : List ℕ) : Type 0 where
  pub images : List Given
  pub given : AreGiven bytes job images
  pub linked : DoLink E relax job images status text

module _ (E : Ending) (relax : Bool) (w : WritableSections) (bytes : List ℕ → List ℕ) (job : JobParts) (status : ℕ)
    (text : List ℕ)
    (fine : (name : List ℕ) → In (mentions_of job) name → IsFaultless (bytes name))
    (allowed : (name : List ℕ) → In (mentions_of job) name → Allows w (bytes name))
    (link : (images : List Given) → AreGiven bytes job images → AllLink images relax) where
  of_images : (images : List Given) → AreGiven bytes job images → ImagesSay E relax job images status text
      → DoesLink E relax bytes job status text
  of_images images given (inl linked) = record { images = images; given = given; linked = linked }
  of_images images given (inr un) =
      absurd (no_first images relax un.number (slice_get job.images un.number) un.fault text
      (link images given) un.first un.says.1)

  pub never_refused : BytesSay E relax w bytes job status text → DoesLink E relax bytes job status text
  never_refused (inl read) = of_images read.images read.given read.says
  never_refused (inr un) =
      let there = in_at (mentions_of job) un.first.at un.name un.first.there in
      absurd (no_file_fault w (bytes un.name) un.name un.fault text (fine un.name there)
      (allowed un.name there) un.first.here un.says.1)
