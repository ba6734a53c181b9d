-- What a command says, a status and a text: the lines of refusals.
use Rattle.std.specs.Prelude.{◌≡◌, ℕ, List, ◌++◌, codes, slice_get, unwrap_or, Option, Some, None}
use Rattle.std.specs.Fmt.{decimal}
use Rattle.image_rules.specs.declared.fault.ImageFault.{ImageFault}
use Rattle.image_rules.specs.declared.fault.ImageFault.TheVariants as image
use Rattle.image_rules.specs.FaultNames.{kind_name as image_kind_name}
use Rattle.job_text.specs.declared.fault.JobFault.{JobFault}
use Rattle.job_text.specs.declared.fault.JobFault.TheVariants as job
use Rattle.job_text.specs.declared.images.Image.{Image}
use Rattle.job_text.specs.Kinds.{kind_text}
use Rattle.link_faults.specs.declared.fault.LinkFault.{LinkFault}
use Rattle.link_faults.specs.declared.fault.LinkFault.TheVariants as link
use Rattle.link_faults.specs.FaultNames.{kind_name as link_kind_name}
use Rattle.object_rules.specs.declared.fault.FaultKind.{FaultKind as ObjectFaultKind}
use Rattle.object_rules.specs.declared.fault.ObjectFault.{ObjectFault}
use Rattle.object_rules.specs.declared.fault.ObjectFault.TheVariants as object
use Rattle.object_rules.specs.FaultNames.{kind_name as object_kind_name}

-- ---- the lines

-- an object with a fault, by its name in the job
abbrev pub fault_text : List ℕ → ℕ → ℕ → ObjectFaultKind → List ℕ
fault_text name section entry kind =
    codes "object " ++ name ++ codes " section " ++ decimal section
    ++ codes " entry " ++ decimal entry ++ codes " " ++ object_kind_name kind ++ codes "\n"

-- ---- a status and a text

-- the file is there, and its bytes are so
abbrev pub HasFile : Option (List ℕ) → (List ℕ → Type 0) → Type 0
HasFile None P = ⊥
HasFile (Some bytes) P = P bytes

-- a status and a text
abbrev pub Is : ℕ → List ℕ → ℕ → List ℕ → Type 0
Is own words status text = (status ≡ own) × (text ≡ words)

-- ---- the line of a first fault; out of memory has none, since it is no refusal

-- of a job
abbrev pub IsJobLine : JobFault → List ℕ → Type 0
IsJobLine job.OutOfMemory text = ⊥
IsJobLine (job.At line kind) text = text ≡ codes "job " ++ decimal line ++ codes " " ++ kind_text kind ++ codes "\n"

-- of an object, by its name in the job
abbrev pub IsObjectLine : List ℕ → ObjectFault → List ℕ → Type 0
IsObjectLine name object.OutOfMemory text = ⊥
IsObjectLine name (object.At section entry kind) text = text ≡ fault_text name section entry kind

-- the object of a linking fault: `-` if the fault is at none
abbrev pub shown_object : List (List ℕ) → Option ℕ → List ℕ
shown_object names None = codes "-"
shown_object names (Some o) = unwrap_or (slice_get names o) (codes "-")

-- of an image of the job that does not link, by its name in the job
abbrev pub IsLinkLine : Option Image → LinkFault → List ℕ → Type 0
IsLinkLine None fault text = ⊥
IsLinkLine (Some own) link.OutOfMemory text = ⊥
IsLinkLine (Some own) (link.At kind object section entry) text =
    text ≡ codes "link " ++ own.name ++ codes " " ++ link_kind_name kind ++ codes " "
    ++ shown_object own.objects object ++ codes " section " ++ decimal section
    ++ codes " entry " ++ decimal entry ++ codes "\n"

-- of the bytes of an image, by an offset in its file
abbrev pub IsImageLine : ImageFault → List ℕ → Type 0
IsImageLine image.OutOfMemory text = ⊥
IsImageLine (image.At offset kind) text =
    text ≡ codes "image " ++ decimal offset ++ codes " " ++ image_kind_name kind ++ codes "\n"

-- the refusal of a job with a fault
abbrev pub JobFaultSays : JobFault → ℕ → List ℕ → Type 0
JobFaultSays fault status text = (status ≡ 5) × IsJobLine fault text
