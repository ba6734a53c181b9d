-- The names of files that are fetched one after another, and the files so far.
use Rattle.std.specs.Prelude.{◌-◌, ◌++◌, ℕ, Bool, List, [], ◌∷◌, map, slice_get, Vec}
use Rattle.std.specs.Prelude.{if◌then◌else◌}
use Rattle.std.specs.List.{filter_map, flat_map, list_any}
use Rattle.std.specs.Borrow.{Bor}
use Rattle.std.specs.Str.{bytes_eq}
use Rattle.job_text.specs.declared.images.Image.{Image}
use Rattle.job_text.specs.Jobs.{JobParts}
pub use Rattle.ports.specs.Claims.{texts}
use Rattle.job_link.specs.Mentions.{Fetched}

-- the names of files
abbrev pub names_of : Fetched → List (List ℕ)
names_of files = map (λ (file : List ℕ × List ℕ). file.0) files

-- borrowed names, each with its file
abbrev pub files_in : {A : Type 0} → List (Bor (List ℕ)) → List (Vec ℕ A) → Fetched
files_in [] files = []
files_in (name ∷ names) [] = []
files_in (name ∷ names) (file ∷ files) = (name.now, file.items) ∷ files_in names files

abbrev pub is_among : List (List ℕ) → List ℕ → Bool
is_among names name = list_any (bytes_eq name) names

-- these files and one more, unless its name is among them
abbrev pub with_unseen : Fetched → List ℕ → List ℕ → Fetched
with_unseen files name bytes = if is_among (names_of files) name then files else files ++ (name, bytes) ∷ []

-- those of some names that were not seen yet, each once
abbrev pub unseen : List (List ℕ) → List (List ℕ) → List (List ℕ)
unseen seen [] = []
unseen seen (name ∷ names) =
    if is_among seen name then unseen seen names else name ∷ unseen (seen ++ name ∷ []) names

-- the names of the objects of these images
abbrev pub names_in : JobParts → List ℕ → List (List ℕ)
names_in job numbers =
    flat_map (λ (image : Image). image.objects)
    (filter_map (λ (number : ℕ). slice_get job.images (number - 1)) numbers)
