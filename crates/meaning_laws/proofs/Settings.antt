-- A job's meaning is one thing whether sequences may be rewritten or not: nothing that it is made of asks for that.
use Rattle.std.proofs.Common.{◌≡◌, ◌+◌, ℕ, zero, suc, Bool, false, List, [], ◌∷◌, Option, Some, None, map, refl, ap}
use Rattle.std.specs.Prelude.{option_and_then, option_map, slice_get, unwrap_or}
use Rattle.std.specs.List.{find}
use Rattle.job_meaning.specs.declared.values.Byte.{Byte}
use Rattle.job_meaning.specs.declared.values.Byte.TheVariants.{Value}
use Rattle.link_faults.specs.declared.binding.Binding.{Binding}
use Rattle.link_faults.specs.declared.binding.Binding.TheVariants.{Here, Startup, Runtime}
use Rattle.link_needs.specs.Linking.{Linking, address, block_offset, offset, sites_at}
use Rattle.module_table.specs.declared.modules.ImageInfo.{ImageInfo}
use Rattle.module_table.specs.Modules.{startup_end}
use Rattle.object_faults.specs.declared.class.SectionClass.TheVariants.{Executable}
use Rattle.sequence_forms.specs.declared.forms.Form.{Form}
use Rattle.sequence_forms.specs.declared.forms.Form.TheVariants.{Ld, LdInd}
use Rattle.sequence_forms.specs.declared.places.Site.{Site}
use Rattle.thread_blocks.specs.Turns.{at_number}
use Rattle.whole_meaning.specs.declared.marks.Mark.{Mark}
use Rattle.whole_meaning.specs.declared.marks.Mark.TheVariants.{Usual}
use Rattle.whole_meaning.specs.declared.sequences.Sequence.{Sequence}
use Rattle.whole_meaning.specs.Bytes.{block_bytes, class_bytes, function_of, value_of, variable_of}
use Rattle.whole_meaning.specs.Code.{mark_of, no_variable, sequence_of, sequence_with, shared_by, starts_at}
use Rattle.whole_meaning.specs.Code.{variable_by, variable_for}
use Rattle.whole_meaning.specs.Jobs.{lines_of, meant_world, verdict_of}
use Rattle.whole_meaning.specs.Loads.{data_ranges, info_of, loads_of, meaning_of, still_ranges, wants_surplus}
use Rattle.whole_meaning.specs.Meanings.{Meaning}
use Rattle.whole_meaning.specs.Spots.{Spot, bias_of, in_room, moved_spot, spot_in}
use Rattle.meaning_laws.specs.Laws.{MeaningKnowsNoSetting, VerdictKnowsNoSetting}
use Rattle.std.specs.Option.{option_map_or}

module _ (relax : Bool) where
  -- a link, where sequences may be rewritten or not
  abbrev set : Linking → Linking
  set l = record l { relax = relax }

  -- ** of an image by its number

  found_at : {A : Type 0} (f g : Linking → Option A) → ((l : Linking) → f (set l) ≡ g l) → (ls : List Linking) (i : ℕ)
      → option_and_then f (slice_get (map set ls) i) ≡ option_and_then g (slice_get ls i)
  found_at f g same [] i = refl
  found_at f g same (l ∷ ls) zero = same l
  found_at f g same (l ∷ ls) (suc i) = found_at f g same ls i

  found : {A : Type 0} (f g : Linking → Option A) → ((l : Linking) → f (set l) ≡ g l) → (ls : List Linking)
      → (image : ℕ) → option_and_then f (at_number (map set ls) image) ≡ option_and_then g (at_number ls image)
  found f g same ls zero = refl
  found f g same ls (suc i) = found_at f g same ls i

  -- ** of an instance

  image_at : {A : Type 0} (none : A) (f g : Linking → ℕ → A)
      → ((l : Linking) (bias : ℕ) → f (set l) bias ≡ g l bias) → (ls : List Linking) (i number : ℕ)
      → option_map_or (λ (own : Linking). f own (bias_of own.kind number)) (slice_get (map set ls) i) none
      ≡ option_map_or (λ (own : Linking). g own (bias_of own.kind number)) (slice_get ls i) none
  image_at none f g same [] i number = refl
  image_at none f g same (l ∷ ls) zero number = same l (bias_of l.kind number)
  image_at none f g same (l ∷ ls) (suc i) number = image_at none f g same ls i number

  image : {A : Type 0} (none : A) (f g : Linking → ℕ → A) → ((l : Linking) (bias : ℕ) → f (set l) bias ≡ g l bias)
      → (ls : List Linking) (image number : ℕ)
      → option_map_or (λ (own : Linking). f own (bias_of own.kind number)) (at_number (map set ls) image) none
      ≡ option_map_or (λ (own : Linking). g own (bias_of own.kind number)) (at_number ls image) none
  image none f g same ls zero number = refl
  image none f g same ls (suc i) number = image_at none f g same ls i number

  -- ** what is made of one image

  infos_same : (ls : List Linking) → map info_of (map set ls) ≡ map info_of ls
  unfolding info_of wants_surplus
  infos_same [] = refl
  infos_same (l ∷ ls) = ap (λ (more : List ImageInfo). info_of l ∷ more) (infos_same ls)

  abbrev moved_function : List ℕ → Linking → ℕ → Option ℕ
  moved_function name l bias = option_map (λ at. at + bias) (function_of l name)

  function_same : (name : List ℕ) (l : Linking) (bias : ℕ)
      → moved_function name (set l) bias ≡ moved_function name l bias
  unfolding function_of address
  function_same name l bias = refl

  variable_same : (name : List ℕ) (l : Linking) → variable_of (set l) name ≡ variable_of l name
  unfolding variable_of offset
  variable_same name l = refl

  fixed_same : (l : Linking) (bias : ℕ) → still_ranges (set l) bias ≡ still_ranges l bias
  unfolding class_bytes spot_in value_of address offset block_offset
  fixed_same l bias = refl

  shared_same : (l : Linking) (bias : ℕ) → data_ranges (set l) bias ≡ data_ranges l bias
  unfolding class_bytes spot_in value_of address offset block_offset
  shared_same l bias = refl

  abbrev block_values : Linking → ℕ → List Byte
  block_values l bias = map Value (block_bytes l bias)

  block_same : (l : Linking) (bias : ℕ) → block_values (set l) bias ≡ block_values l bias
  unfolding class_bytes spot_in value_of address offset block_offset
  block_same l bias = refl

  mark_same : (place : ℕ) (l : Linking) (bias : ℕ) → mark_of (set l) bias place ≡ mark_of l bias place
  unfolding mark_of spot_in address offset
  mark_same place l bias = refl

  room_same : (place : ℕ) (l : Linking) (bias : ℕ) → in_room (set l) bias place ≡ in_room l bias place
  unfolding in_room
  room_same place l bias = refl

  -- ** sequences, which find variables of other images

  shared_found : (name : List ℕ) (k : ℕ) (l : Linking) → shared_by name k (set l) ≡ shared_by name k l
  unfolding offset
  shared_found name k l = refl

  module _ (ls : List Linking) (image number : ℕ) (l : Linking) where
    bound_same : (o : ℕ) (site : Site) (bound : Option Binding)
        → variable_by (map set ls) image number (set l) o site bound ≡ variable_by ls image number l o site bound
    unfolding offset
    bound_same o site None = refl
    bound_same o site (Some (Here at)) = refl
    bound_same o site (Some (Startup k)) = found (shared_by _ k) (shared_by _ k) (shared_found _ k) ls k
    bound_same o site (Some Runtime) = refl

    asked_same : (o : ℕ) (site : Site) (form : Form)
        → variable_for (map set ls) image number (set l) o site form ≡ variable_for ls image number l o site form
    asked_same o site Ld = refl
    asked_same o site LdInd = refl
    asked_same o site form = bound_same o site _

    sequence_same : (place : ℕ)
        → sequence_of (map set ls) image number (set l) place ≡ sequence_of ls image number l place
    unfolding sequence_of spot_in
    sequence_same place = λ i.
        option_and_then (λ (spot : Spot). option_map
        (λ (site : Site). sequence_with ls image number place site
        (unwrap_or (asked_same spot.object site site.form i) no_variable))
        (find (starts_at spot.section spot.within) (sites_at l spot.object)))
        (moved_spot l Executable (bias_of l.kind number) place)

  -- ** all of it

  loads_same : (ls : List Linking) → loads_of (map set ls) ≡ loads_of ls
  unfolding loads_of
  loads_same ls = λ i. record {
    infos = infos_same ls i;
    last_offset = startup_end (infos_same ls i) 0;
    function = λ x name.
        let f = moved_function name in image None f f (function_same name) ls x.image x.number i;
    variable = λ k name.
        let f : Linking → Option ℕ = λ l. variable_of l name in found f f (variable_same name) ls k i;
    fixed = λ x. image [] still_ranges still_ranges fixed_same ls x.image x.number i;
    tables = λ x. [];
    shared = λ x. image None data_ranges data_ranges shared_same ls x.image x.number i;
    block = λ x. image [] block_values block_values block_same ls x.image x.number i;
  }

  meaning_same : (ls : List Linking) → meaning_of (map set ls) ≡ meaning_of ls
  unfolding meaning_of
  meaning_same ls = λ i. record {
    loads = loads_same ls i;
    mark = λ x place.
        let f : Linking → ℕ → Mark = λ l bias. mark_of l bias place in
        image Usual f f (mark_same place) ls x.image x.number i;
    sequence = λ x place.
        let f : List Linking → Linking → ℕ → Option Sequence = λ ls l bias. sequence_of ls x.image x.number l place in
        image None (f (map set ls)) (f ls) (λ l bias. sequence_same ls x.image x.number l place) ls x.image x.number i;
    room = λ x place.
        let f : Linking → ℕ → Bool = λ l bias. in_room l bias place in
        image false f f (room_same place) ls x.image x.number i;
  }

-- the laws
pub no_setting : MeaningKnowsNoSetting
no_setting ls relax = meaning_same relax ls

pub same_verdict : VerdictKnowsNoSetting
same_verdict ls relax fuel lines order =
    ap (λ (m : Meaning). verdict_of (lines_of (meant_world m fuel lines order))) (meaning_same relax ls)
