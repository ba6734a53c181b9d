-- What `link` and `sites` say over the files of a store.
use Rattle.std.specs.Prelude.{◌≡◌, ◌+◌, ◌<◌, ◌⊎◌, ℕ, true, List, [], ◌++◌, codes, length, slice_get, slice_index_or}
use Rattle.std.specs.Prelude.{Option, Some, None, Result, Ok, Err}
use Rattle.std.specs.Fmt.{decimal}
use Rattle.std.specs.List.{flat_map, range_with_len}
use Rattle.command_line.specs.declared.tasks.Rewriting.{Rewriting}
use Rattle.command_line.specs.Rewritings.{is_allowed}
use Rattle.command_replies.specs.declared.fault.CommandFault.{CommandFault}
use Rattle.command_replies.specs.Says.{Is}
use Rattle.image_file.specs.Spelled.{spelled}
use Rattle.image_writer.specs.Written.{written}
use Rattle.job_link.specs.declared.writable.WritableSections.TheVariants.{Kept}
use Rattle.job_link.specs.Given.{Given}
use Rattle.job_text.specs.Images.{image_number}
use Rattle.job_text.specs.Jobs.{JobParts}
use Rattle.link_core.specs.Images.{image_of}
use Rattle.link_needs.specs.Linking.{Linking, choices_from}
use Rattle.ports.specs.Files.{Files, with_file}
use Rattle.relax_sites.specs.declared.choices.Choice.{Choice}
use Rattle.sequence_forms.specs.declared.places.Site.{Site}
use Rattle.sequence_match.specs.Sites.{HaveSymbols}
use Rattle.site_text.specs.Lines.{site_lines}
use Rattle.standing_sequences.specs.Images.{HoldsTheTable}
use Rattle.commands.specs.Jobs.{FileSays, objects_of}

-- ---- the texts

-- an image that was put, and how many bytes it has
abbrev pub linked_text : List ℕ → ℕ → List ℕ
linked_text image size = codes "linked " ++ image ++ codes " " ++ decimal size ++ codes "\n"

-- the lines of the sites of an image, object by object
abbrev pub lines_at : List (List ℕ) → List (List ℕ) → List (List Site) → List (List Choice) → ℕ → List ℕ
lines_at names objects sites choices o =
    site_lines (slice_index_or names o []) (slice_index_or objects o []) (slice_index_or sites o [])
    (slice_index_or choices o [])

unfoldable pub lines_of : List (List ℕ) → List (List ℕ) → List (List Site) → List (List Choice) → List ℕ
lines_of names objects sites choices =
    flat_map (lines_at names objects sites choices) (range_with_len 0 (length names))

-- ---- what is said of an image that links

abbrev pub Output : Type 1
Output = Linking → ℕ → List ℕ → Type 0

-- `link`: the file holds the whole written image, and the other files are as before
pub record IsPut (before after : Option Files) (image out : List ℕ) (l : Linking)
    (status : ℕ) (text : List ℕ) : Type 0 where
  pub files_are : after ≡ with_file out (written (image_of l)) before
  -- the image that these bytes spell has rewritten forms of sequences exactly where the table gives them, and else the
  -- objects' own bytes, fields aside
  pub holds : HoldsTheTable l (spelled (written (image_of l)))
  pub says : Is 0 (linked_text image (length (written (image_of l)))) status text

-- `sites`: the lines of the sites of its objects, which have these names
abbrev pub AreLines : List (List ℕ) → Output
AreLines names l status text = Is 0 (lines_of names l.objects l.sites (choices_from l 0 l.sites)) status text

-- ---- for an image of a job

-- by its number, counted from 0
pub record OfLink (number : ℕ) (O : Output) (ls : List Linking) (status : ℕ) (text : List ℕ) : Type 0 where
  pub link : Linking
  pub there : slice_get ls number ≡ Some link
  pub says : O link status text

-- by its name; the output is that of its number
pub record OfImage (name : List ℕ) (O : JobParts → ℕ → Output) (job : JobParts) (ls : List Linking)
    (status : ℕ) (text : List ℕ) : Type 0 where
  pub number : ℕ
  pub named : image_number job.images name ≡ Some (number + 1)
  pub says : OfLink number (O job number) ls status text

-- `link JOB IMAGE OUT [--no-relax]`; the second files are those after it
abbrev pub LinkSays : Files → Option Files → List ℕ → List ℕ → List ℕ → Rewriting → ℕ → List ℕ → Type 0
LinkSays fs after job image out rewriting status text =
    FileSays (Some image) (OfImage image (λ own number. IsPut (Some fs) after image out))
    (is_allowed rewriting) Kept fs job status text

-- `sites JOB IMAGE`
abbrev pub SitesSays : Files → List ℕ → List ℕ → ℕ → List ℕ → Type 0
SitesSays fs job image status text =
    FileSays (Some image) (OfImage image (λ own number. AreLines (objects_of own number))) true Kept fs job status text

-- ---- the files after a command that may put: those before, or those that its output asks for
abbrev pub Leaves : Option Files → Option Files → (Files → ℕ → List ℕ → Type 0) → Type 0
Leaves None after Says = after ≡ None
Leaves (Some fs) after Says = (after ≡ Some fs) ⊎ ((text : List ℕ) × Says fs 0 text)

-- the files after a step of a command that puts a file of that name, or none: as before, but where it is put
abbrev pub FilesAfter : {T : Type 0} → Option (List ℕ) → Option Files → Option Files → Result T CommandFault → Type 0
FilesAfter None before after result = after ≡ before
FilesAfter (Some out) before after (Ok x) = (bytes : List ℕ) × (after ≡ with_file out bytes before)
FilesAfter (Some out) before after (Err fault) = after ≡ before

-- ** on the way

-- each object of an image has a name, sites and their choices
pub record HaveLines (names : List (List ℕ)) (g : Given) (choices : List (List Choice)) : Type 0 where
  pub all_named : length names ≡ length g.objects
  pub all_sites : length g.sites ≡ length g.objects
  pub all_choices : length choices ≡ length g.objects
  pub each : (o : ℕ) → length (slice_index_or choices o []) ≡ length (slice_index_or g.sites o [])
  pub symbols : (o : ℕ) → o < length g.objects
      → HaveSymbols (slice_index_or g.objects o []) (slice_index_or g.sites o [])
