-- The loaded code in place of a sequence of the meaning.
use Rattle.std.specs.Prelude.{◌≡◌, ◌<◌, ◌^◌, ℕ, List, Some, length, map}
use Rattle.std.specs.List.{All}
use Rattle.job_text.specs.LateImages.{LateLast}
use Rattle.link_needs.specs.Linking.{Linking}
use Rattle.linked_modules.specs.Together.{AreTogether}
use Rattle.loaded_bytes.specs.Laws.{IsInstanceOf, images_of}
use Rattle.loaded_modules.specs.declared.instance.Instance.{Instance}
use Rattle.loaded_words.specs.Laws.{IsKnown}
use Rattle.module_table.specs.declared.events.Event.{Event}
use Rattle.sequence_forms.specs.declared.forms.Form.{Form}
use Rattle.sequence_forms.specs.declared.forms.Form.TheVariants.{Ld, IeMov, IeAdd, LdInd, DescLea, DescCall}
use Rattle.thread_blocks.specs.JobLoads.{job_loads}
use Rattle.tied_fields.specs.Settings.{setting_of}
use Rattle.tied_meaning.specs.Sites.{Stands}
use Rattle.whole_meaning.specs.declared.sequences.Sequence.{Sequence}
use Rattle.whole_meaning.specs.Loads.{meaning_of}
use Rattle.whole_meaning.specs.Laws.{IsGeneral}

-- ** forms

-- local dynamic
abbrev pub IsLocal : Form → Type 0
IsLocal Ld = Unit {0}
IsLocal LdInd = Unit {0}
IsLocal form = ⊥

-- initial exec
abbrev pub IsInitial : Form → Type 0
IsInitial IeMov = Unit {0}
IsInitial IeAdd = Unit {0}
IsInitial form = ⊥

-- descriptors
abbrev pub IsOfDescriptor : Form → Type 0
IsOfDescriptor DescLea = Unit {0}
IsOfDescriptor DescCall = Unit {0}
IsOfDescriptor form = ⊥

-- ** laws

-- in a job whose links are linked together, the meaning has the sequence at this address of an instance that the job's
-- history made
pub record IsMeant (ls : List Linking) (history : List Event) (l : Linking) (x : Instance) (place : ℕ) (s : Sequence) :
    Type 0 where
  pub together : AreTogether ls
  pub late_last : LateLast (map (λ l. l.kind) ls)
  pub known : IsKnown ls history x
  pub of : IsInstanceOf ls l x
  pub meant : (meaning_of ls).sequence x place ≡ Some s

-- the code there does what the sequence means
abbrev pub StandsInJob : List Linking → List Event → Instance → ℕ → Sequence → Type 0
StandsInJob ls history x place s = Stands (setting_of ls history) (job_loads (images_of ls)) x place s

abbrev pub GeneralSitesStand : Type 0
GeneralSitesStand = (ls : List Linking) (history : List Event) (l : Linking) (x : Instance) (place : ℕ) (s : Sequence)
    → IsMeant ls history l x place s → IsGeneral s.form → StandsInJob ls history x place s

abbrev pub LocalSitesStand : Type 0
LocalSitesStand = (ls : List Linking) (history : List Event) (l : Linking) (x : Instance) (place : ℕ) (s : Sequence)
    → IsMeant ls history l x place s → IsLocal s.form → StandsInJob ls history x place s

abbrev pub InitialSitesStand : Type 0
InitialSitesStand = (ls : List Linking) (history : List Event) (l : Linking) (x : Instance) (place : ℕ) (s : Sequence)
    → IsMeant ls history l x place s → IsInitial s.form → StandsInJob ls history x place s

-- for descriptors this holds if no image has 2^32 objects: then no two symbols have the same number
abbrev pub DescriptorSitesStand : Type 0
DescriptorSitesStand = (ls : List Linking) (history : List Event) (l : Linking) (x : Instance) (place : ℕ)
    (s : Sequence)
    → All (λ l. length l.objects < 2 ^ 32) ls → IsMeant ls history l x place s → IsOfDescriptor s.form
    → StandsInJob ls history x place s

-- each form of sequence does what it means
abbrev pub SitesStand : Type 0
SitesStand = (ls : List Linking) (history : List Event) (l : Linking) (x : Instance) (place : ℕ) (s : Sequence)
    → All (λ l. length l.objects < 2 ^ 32) ls → IsMeant ls history l x place s → StandsInJob ls history x place s
