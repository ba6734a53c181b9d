-- A whole job, whose images are linked together.
use Rattle.std.specs.Prelude.{◌≡◌, ℕ, List, Some, map}
use Rattle.std.specs.List.{All}
use Rattle.link_core.specs.Laws.{HasNoStray}
use Rattle.link_needs.specs.Linking.{Linking}
use Rattle.linked_modules.specs.Together.{AreTogether}
use Rattle.loaded_bytes.specs.Laws.{IsInstanceOf, images_of}
use Rattle.elf_records.specs.FieldLaws.{AreBytes}
use Rattle.loaded_modules.specs.declared.instance.Instance.{Instance}
use Rattle.loaded_words.specs.Laws.{IsKnown}
use Rattle.job_text.specs.ProgramFirst.{ProgramFirst}
use Rattle.module_table.specs.declared.events.Event.{Event}
use Rattle.module_table.specs.Past.{IsLegal}
use Rattle.thread_blocks.specs.JobLoads.{job_loads}
use Rattle.tied_meaning.specs.Sites.{Stands}
use Rattle.tied_meaning.specs.Ties.{AreTied}
use Rattle.whole_meaning.specs.declared.sequences.Sequence.{Sequence}
use Rattle.whole_meaning.specs.Loads.{meaning_of}
use Rattle.tied_fields.specs.Settings.{setting_of}

-- the images link together, and have no stray call of the run time; their objects are lists of bytes; the program is
-- the first of them; each event of the history was accepted
pub record IsReady (ls : List Linking) (history : List Event) : Type 0 where
  pub together : AreTogether ls
  pub stray : All HasNoStray ls
  pub bytes : All (λ (l : Linking). All AreBytes l.objects) ls
  pub program : ProgramFirst (map (λ l. l.kind) ls)
  pub legal : IsLegal (job_loads (images_of ls)).infos (job_loads (images_of ls)).last_offset history

-- in each instance that has a number, the code in place of a sequence does what the sequence means
abbrev pub SequencesStand : List Linking → List Event → Type 0
SequencesStand ls history = (l : Linking) (x : Instance) → IsKnown ls history x → IsInstanceOf ls l x
    → (place : ℕ) (s : Sequence) → (meaning_of ls).sequence x place ≡ Some s
    → Stands (setting_of ls history) (job_loads (images_of ls)) x place s

-- if they do, all that is loaded in the job is tied
abbrev pub JobsAreTied : Type 0
JobsAreTied = (ls : List Linking) (history : List Event) → IsReady ls history → SequencesStand ls history
    → AreTied (setting_of ls history) (meaning_of ls) (job_loads (images_of ls)) history
