-- What says more says as much, from the ending of a command on.
use Rattle.std.proofs.Common.{◌≡◌, ◌≤◌, ℕ, Bool, true, false, List, Vec, Global, Option, Some, None, IfSome, Result, Ok}
use Rattle.std.proofs.Common.{Err, inl, inr, refl, sym, subst, arith}
use Rattle.command_replies.specs.declared.fault.CommandFault.{CommandFault}
use Rattle.command_replies.specs.declared.fault.CommandFault.TheVariants as fault
use Rattle.command_replies.specs.Says.{HasFile, JobFaultSays}
use Rattle.command_replies.specs.Steps.{Comes}
use Rattle.job_link.specs.declared.writable.WritableSections.{WritableSections}
use Rattle.job_link.specs.Given.{Given}
use Rattle.job_text.specs.declared.fault.JobFault.{JobFault}
use Rattle.job_text.specs.Jobs.{JobParts, job_of}
use Rattle.link_needs.specs.Linking.{Linking}
use Rattle.ports.specs.Files.{Files}
use Rattle.commands.specs.Jobs.{BytesSay, Ending, ImagesSay, IsUnlinked, IsUnread, JobSays, NamedSays, ObjectsSay, has}
use Rattle.commands.specs.Jobs.{links_of}

abbrev pub Text : Type 0
Text = Vec ℕ Global

abbrev pub Said : Type 1
Said = ℕ → List ℕ → Type 0

abbrev pub items : Text → List ℕ
items text = text.items

pub comes_by : (P Q : Said) (r : Result Text CommandFault)
    → ((status : ℕ) (text : List ℕ) → P status text → Q status text) → Comes items P r → Comes items Q r
comes_by P Q (Ok text) more says = more 0 text.items says
comes_by P Q (Err fault.Store) more says = tt
comes_by P Q (Err fault.OutOfMemory) more says = tt
comes_by P Q (Err (fault.Refused reply)) more says = more _ _ says

pub says_by : (old : Option Files) (P Q : Files → Said) (r : Result Text CommandFault)
    → ((fs : Files) → old ≡ Some fs → (status : ℕ) (text : List ℕ) → P fs status text → Q fs status text)
    → IfSome old (λ fs. Comes items (P fs) r) → IfSome old (λ fs. Comes items (Q fs) r)
says_by None P Q r more says = tt
says_by (Some fs) P Q r more says = comes_by (P fs) (Q fs) r (more fs refl) says

-- ** an ending in another's place: what it says, and what refusals say

module _ (E F : Ending) (relax : Bool) (w : WritableSections) (s s' : ℕ) (t t' : List ℕ)
    (refuses : (P : Said) → (P s t → 5 ≤ s) → P s t → P s' t') where
  module _ (job : JobParts) (ends : (ls : List Linking) → E job ls s t → F job ls s' t') where
    images_more : (images : List Given) → ImagesSay E relax job images s t → ImagesSay F relax job images s' t'
    images_more images (inl linked) =
        inl (record { links = linked.links; says = ends (links_of images relax) linked.says })
    images_more images (inr un) = inr (refuses (IsUnlinked relax job images) (λ own. omega (arith, own.says.0)) un)

    bytes_more : (bytes : List ℕ → List ℕ) → BytesSay E relax w bytes job s t → BytesSay F relax w bytes job s' t'
    bytes_more bytes (inl read) =
        inl (record { images = read.images; given = read.given; says = images_more read.images read.says })
    bytes_more bytes (inr un) = inr (refuses (IsUnread w bytes job) (λ own. omega (arith, own.says.0)) un)

    named_more : (fs : Files) (b : Bool) → NamedSays E relax w fs job b s t → NamedSays F relax w fs job b s' t'
    named_more fs true says = record { there = says.there; says = bytes_more _ says.says }
    named_more fs false says = refuses (NamedSays E relax w fs job false) (λ own. omega (arith, own.0)) says

  pub file_more : (image : Option (List ℕ)) (fs : Files)
      → ((job : JobParts) (ls : List Linking) → E job ls s t → F job ls s' t')
      → (o : Option (List ℕ)) → HasFile o (λ bytes. JobSays image E relax w fs (job_of bytes) s t)
      → HasFile o (λ bytes. JobSays image F relax w fs (job_of bytes) s' t')
  file_more image fs ends None says = absurd says
  file_more image fs ends (Some bytes) says = of_job (job_of bytes) says
    where
      of_job : (r : Result JobParts JobFault) → JobSays image E relax w fs r s t → JobSays image F relax w fs r s' t'
      of_job (Ok job) own = named_more job (ends job) fs (has job image) own
      of_job (Err fault) own = refuses (JobFaultSays fault) (λ is. omega (arith, is.0)) own

-- of one job that has its image
pub objects_named : (E F : Ending) (relax : Bool) (w : WritableSections) (fs : Files) (job : JobParts) (b : Bool)
    → b ≡ true
    → ((ls : List Linking) (status : ℕ) (text : List ℕ) → E job ls status text → F job ls status text)
    → (status : ℕ) (text : List ℕ) → ObjectsSay E relax w fs job status text → NamedSays F relax w fs job b status text
objects_named E F relax w fs job b is ends status text says =
    subst (λ (named : Bool). NamedSays F relax w fs job named status text) (sym is)
    (named_more E F relax w status status text text (λ P high own. own) job (λ ls. ends ls status text) fs true says)
