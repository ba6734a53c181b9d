-- What a command about a job says over the files of a store: how the job is refused, in which order; and, if all its
-- images link, what the command's own last step says.
use Rattle.std.specs.Prelude.{◌≡◌, ◌⊎◌, ℕ, Bool, true, false, List, [], ◌∷◌, map, slice_get}
use Rattle.std.specs.Prelude.{Option, Some, None, IsSome, Result, Ok, Err, is_some, if◌then◌else◌}
use Rattle.std.specs.List.{All}
use Rattle.std.specs.Option.{option_map_or}
use Rattle.command_replies.specs.Says.{HasFile, IsLinkLine, IsObjectLine, JobFaultSays}
use Rattle.job_link.specs.declared.writable.WritableSections.{WritableSections}
use Rattle.job_link.specs.Given.{Given, AreGiven, IsFirstFaulty}
use Rattle.job_link.specs.Linked.{AllLink, IsFirstUnlinked, link_in}
use Rattle.job_link.specs.Mentions.{bytes_at, mentions_of, object_names}
use Rattle.job_text.specs.declared.fault.JobFault.{JobFault}
use Rattle.job_text.specs.declared.fault.JobFault.TheVariants.{At}
use Rattle.job_text.specs.declared.fault.JobFaultKind.TheVariants.{Name}
use Rattle.job_text.specs.Images.{image_number}
use Rattle.job_text.specs.Jobs.{JobParts, job_of}
use Rattle.link_faults.specs.declared.fault.LinkFault.{LinkFault}
use Rattle.link_needs.specs.Linking.{Linking}
use Rattle.object_rules.specs.declared.fault.ObjectFault.{ObjectFault}
use Rattle.ports.specs.Files.{Files, file_at}

-- ---- the refusals

-- the names of the objects of an image of the job, by its number from 0
abbrev pub objects_of : JobParts → ℕ → List (List ℕ)
objects_of job number = option_map_or (λ image. image.objects) (slice_get job.images number) []

-- an object has a fault: 6, and the first fault; w: whether data that programs write is kept, or is a fault
pub record IsUnread (w : WritableSections) (bytes : List ℕ → List ℕ) (job : JobParts)
    (status : ℕ) (text : List ℕ) : Type 0 where
  pub name : List ℕ
  pub fault : ObjectFault
  pub first : IsFirstFaulty w bytes (mentions_of job) name fault
  pub says : (status ≡ 6) × IsObjectLine name fault text

-- an image does not link: 7, and the first fault
pub record IsUnlinked (relax : Bool) (job : JobParts) (images : List Given) (status : ℕ) (text : List ℕ) : Type 0 where
  pub number : ℕ
  pub fault : LinkFault
  pub first : IsFirstUnlinked images relax number fault
  pub says : (status ≡ 7) × IsLinkLine (slice_get job.images number) fault text

-- ---- a job whose images all link

-- the links of its images, in image order
abbrev pub links_of : List Given → Bool → List Linking
links_of images relax = map (link_in images relax) images

-- what is said of a job and of these links: a status and a text
abbrev pub Ending : Type 1
Ending = JobParts → List Linking → ℕ → List ℕ → Type 0

-- ---- the command

-- E: what is said if all images link; relax: whether sequences may be rewritten
module _ (E : Ending) (relax : Bool) where
  -- all images link
  pub record DoLink (job : JobParts) (images : List Given) (status : ℕ) (text : List ℕ) : Type 0 where
    pub links : AllLink images relax
    pub says : E job (links_of images relax) status text

  abbrev pub ImagesSay : JobParts → List Given → ℕ → List ℕ → Type 0
  ImagesSay job images status text = DoLink job images status text ⊎ IsUnlinked relax job images status text

  -- each object is in order
  pub record AreRead (bytes : List ℕ → List ℕ) (job : JobParts) (status : ℕ) (text : List ℕ) : Type 0 where
    pub images : List Given
    pub given : AreGiven bytes job images
    pub says : ImagesSay job images status text

  -- w: whether sections that programs write are kept, or are a fault
  module _ (w : WritableSections) where
    abbrev pub BytesSay : (List ℕ → List ℕ) → JobParts → ℕ → List ℕ → Type 0
    BytesSay bytes job status text = AreRead bytes job status text ⊎ IsUnread w bytes job status text

    -- fs: the files; each object exists
    pub record ObjectsSay (fs : Files) (job : JobParts) (status : ℕ) (text : List ℕ) : Type 0 where
      pub there : All (λ name. IsSome (file_at fs name)) (object_names job)
      pub says : BytesSay (bytes_at fs) job status text

    -- the job has the image that the command names, or not
    abbrev pub NamedSays : Files → JobParts → Bool → ℕ → List ℕ → Type 0
    NamedSays fs job true status text = ObjectsSay fs job status text
    NamedSays fs job false status text = JobFaultSays (At 0 Name) status text

-- the job has an image of that name, if the command names one
abbrev pub has : JobParts → Option (List ℕ) → Bool
has job None = true
has job (Some name) = is_some (image_number job.images name)

-- image: the name of the image that the command is about; none if it is about all
module _ (image : Option (List ℕ)) where
  module _ (E : Ending) (relax : Bool) (w : WritableSections) (fs : Files) where
    abbrev pub JobSays : Result JobParts JobFault → ℕ → List ℕ → Type 0
    JobSays (Ok job) status text = NamedSays E relax w fs job (has job image) status text
    JobSays (Err fault) status text = JobFaultSays fault status text

    -- for the job in the file of that name
    abbrev pub FileSays : List ℕ → ℕ → List ℕ → Type 0
    FileSays name status text = HasFile (file_at fs name) (λ bytes. JobSays (job_of bytes) status text)

-- ---- the names asked for

-- the objects of all images of the job, if it has the image
abbrev pub job_names : Option (List ℕ) → Result JobParts JobFault → List (List ℕ)
job_names image (Ok job) = if has job image then object_names job else []
job_names image (Err fault) = []

-- the job, and then its objects
abbrev pub asked_names : Files → List ℕ → Option (List ℕ) → List (List ℕ)
asked_names fs name image = name ∷ option_map_or (λ bytes. job_names image (job_of bytes)) (file_at fs name) []
