-- A job in both worlds, from one list of links: what its linked images print, and what its objects mean.
use Rattle.std.specs.Prelude.{◌≡◌, ℕ, Bool, List, [], ◌∷◌, map}
use Rattle.std.specs.List.{flat_map}
use Rattle.job_text.specs.declared.thread_lines.ThreadLine.{ThreadLine}
use Rattle.elf_records.specs.Digits.{bytes_of_digits}
use Rattle.link_core.specs.Images.{image_of}
use Rattle.link_faults.specs.declared.image_kind.ImageKind.{ImageKind}
use Rattle.link_needs.specs.Linking.{Linking}
use Rattle.loaded_modules.specs.Images.{JobImages}
use Rattle.module_table.specs.declared.events.Event.{Event}
use Rattle.sequence_forms.specs.declared.places.Site.{Site}
use Rattle.thread_blocks.specs.Instances.{Loads}
use Rattle.thread_blocks.specs.JobLoads.{job_loads}
use Rattle.thread_blocks.specs.JobWorlds.{Shared, job_world}
use Rattle.thread_blocks.specs.Turns.{Said}
use Rattle.whole_meaning.specs.Jobs.{meant_world}
use Rattle.whole_meaning.specs.Loads.{meaning_of}

-- ** an object's file, as hexadecimal digits

unfoldable pub file : List (List ℕ) → List ℕ
file lines = flat_map bytes_of_digits lines

-- the link of one object, after the names that startup images export; whether its sequences may be rewritten, and these
abbrev pub link_of_object : ImageKind → List ℕ → List (List (List ℕ)) → Bool → List Site → Linking
link_of_object kind object startup relax sites =
    record { kind = kind; objects = object ∷ []; startup = startup; sites = sites ∷ []; relax = relax }

-- ** the two worlds

-- the images of links, as they are loaded
abbrev pub images_of : List Linking → JobImages
images_of ls = record { kinds = map (λ (l : Linking). l.kind) ls; images = map image_of ls }

abbrev pub loads_of_links : List Linking → Loads ℕ
loads_of_links ls = job_loads (images_of ls)

-- the lines of each thread, and the history
abbrev pub Says : Type 0
Says = List (List Said) × List Event

abbrev pub said_in : {W F B L : Type 0} → Shared W F B L → Says
said_in w = (map (λ t. t.said) w.threads, w.events)

-- a job: steps of a call, lines of each thread, order of their turns; and what both worlds print
pub record BothSay (ls : List Linking) (fuel : ℕ) (lines : List (List ThreadLine)) (order : List ℕ) (says : Says)
    : Type 0 where
  pub meant : said_in (meant_world (meaning_of ls) fuel lines order) ≡ says
  pub run : said_in (job_world (loads_of_links ls) fuel lines order) ≡ says
