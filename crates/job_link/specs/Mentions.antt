-- The objects that a job names, in the order in which its lines mention them, and their bytes.
use Rattle.std.specs.Prelude.{◌≡◌, ◌-◌, ℕ, List, [], map, slice_get, unwrap_or}
use Rattle.std.specs.Prelude.{IsSome}
use Rattle.std.specs.List.{All, filter_map, find, flat_map}
use Rattle.std.specs.Option.{option_map}
use Rattle.std.specs.Str.{bytes_eq}
use Rattle.job_text.specs.declared.images.Image.{Image}
use Rattle.job_text.specs.Jobs.{JobParts}
use Rattle.ports.specs.Files.{Files, file_at}
use Rattle.dynamic_symbols.specs.Names.{distinct}

-- the images in the order of their lines
abbrev pub mentioned : JobParts → List Image
mentioned job = filter_map (λ (number : ℕ). slice_get job.images (number - 1)) job.mentions

-- the names of their objects, in that order
unfoldable pub mentions_of : JobParts → List (List ℕ)
mentions_of job = flat_map (λ (image : Image). image.objects) (mentioned job)

-- the names of a job's objects, each once, in the order of their first mentions
unfoldable pub object_names : JobParts → List (List ℕ)
object_names job = distinct (mentions_of job)

-- ** their bytes

-- the bytes of a file of the store; none if it is not there
abbrev pub bytes_at : Files → List ℕ → List ℕ
bytes_at fs name = unwrap_or (file_at fs name) []

-- files that were fetched: a name and the bytes, for each
abbrev pub Fetched : Type 0
Fetched = List (List ℕ × List ℕ)

-- the bytes of a name among them
abbrev pub bytes_in : Fetched → List ℕ → List ℕ
bytes_in files name =
    unwrap_or (option_map (λ (file : List ℕ × List ℕ). file.1) (find (λ file. bytes_eq name file.0) files)) []

-- they are the files of these names
pub record AreFilesOf (fs : Files) (names : List (List ℕ)) (files : Fetched) : Type 0 where
  pub there : All (λ name. IsSome (file_at fs name)) names
  pub files_are : files ≡ map (λ name. (name, bytes_at fs name)) names
