-- The setting of a link: the numbers that a linker chose for the tokens of a job's meaning.
use Rattle.std.specs.Prelude.{◌+◌, ◌&&◌, ◌==◌, ℕ, Bool, true, false, List, [], ◌∷◌, Option, Some, None, is_some}
use Rattle.std.specs.Prelude.{option_and_then, option_map, unwrap_or, if◌then◌else◌}
use Rattle.std.specs.List.{find}
use Rattle.std.specs.Option.{option_or}
use Rattle.got_pairs.specs.declared.need.Need.TheVariants.{Descriptor}
use Rattle.got_pairs.specs.declared.need.Target.{Target}
use Rattle.got_pairs.specs.Entries.{less}
use Rattle.known_instances.specs.Known.{known_in}
use Rattle.link_needs.specs.Linking.{Linking, binding, choice}
use Rattle.link_needs.specs.Needs.{is_kept, need_address, target_by}
use Rattle.link_needs.specs.Values.{counts_from_thread_pointer}
use Rattle.loaded_bytes.specs.Laws.{images_of}
use Rattle.loaded_modules.specs.declared.instance.Instance.{Instance}
use Rattle.module_table.specs.declared.events.Event.{Event}
use Rattle.sequence_forms.specs.declared.forms.Form.{Form}
use Rattle.sequence_forms.specs.declared.forms.Form.TheVariants.{DescLea}
use Rattle.sequence_forms.specs.declared.places.Site.{Site}
use Rattle.sequence_match.specs.Sites.{first_of}
use Rattle.thread_blocks.specs.JobLoads.{job_loads}
use Rattle.thread_blocks.specs.Turns.{at_number}
use Rattle.tied_meaning.specs.Numbers.{Setting}
use Rattle.whole_meaning.specs.Code.{Variable, no_variable, variable_for}
use Rattle.whole_meaning.specs.Spots.{bias_of}

-- ** the descriptor of a sequence

-- the form that makes a descriptor; the form that calls one gets it in %rax
abbrev pub makes : Form → Bool
makes DescLea = true
makes form = false

-- a sequence of an image, with the number of its object
pub record ObjectSite : Type 0 where
  pub object : ℕ
  pub site : Site

-- ls: the links of a job; known: the instance of each number; x: an instance, and l the link of its image
module _ (ls : List Linking) (known : ℕ → Option Instance) (x : Instance) (l : Linking) where
  -- the meaning's variable for a sequence of object o
  abbrev pub variable_at : ℕ → Site → Variable
  variable_at o site = unwrap_or (variable_for ls x.image x.number l o site site.form) no_variable

  -- the variable as the table of entries names it
  abbrev pub target_at : ℕ → Site → Option Target
  target_at o site = target_by l o site.symbol (binding l o (first_of site))

  -- the distance from the blocks of an instance up to the thread pointer, if it is fixed
  abbrev pub distance_below : Option Instance → ℕ
  distance_below y = unwrap_or (option_and_then (λ (z : Instance). z.offset) y) 0

  -- the distance of a variable from the thread pointer, modulo 2^64
  abbrev pub distance_to : Variable → ℕ
  distance_to v = less v.offset (distance_below (known v.target))

  -- a descriptor's number: if the sequence is kept, the address of its entry, and if it is rewritten, the variable's
  -- distance itself ("ELF Handling For Thread-Local Storage", section 5; psABI, "Thread-Local Storage")
  abbrev pub number_for : ℕ → Site → ℕ
  number_for o site = if is_kept (choice l o site)
      then need_address l (option_map Descriptor (target_at o site)) + bias_of l.kind x.number
      else distance_to (variable_at o site)

  -- ** the descriptor of a symbol

  -- the sequence makes a descriptor of the symbol
  abbrev pub makes_of : ℕ → ℕ → Site → Bool
  makes_of symbol o site = makes site.form && ((variable_at o site).symbol == symbol)

  -- the first sequence in the objects from number o on that does
  abbrev pub first_from : ℕ → ℕ → List (List Site) → Option ObjectSite
  first_from symbol o [] = None
  first_from symbol o (own ∷ more) =
      option_or (option_map (λ site. record { object = o; site = site }) (find (makes_of symbol o) own))
      (first_from symbol (o + 1) more)

  -- the first one of the image
  unfoldable pub maker_of : ℕ → Option ObjectSite
  maker_of symbol = first_from symbol 0 l.sites

  -- one number for all sequences with this symbol, and 0 if none makes a descriptor of it
  abbrev pub number_by : Option ObjectSite → ℕ
  number_by None = 0
  number_by (Some maker) = number_for maker.object maker.site

-- ** all of it

module _ (ls : List Linking) (known : ℕ → Option Instance) where
  -- the number for an instance, by its image's link
  abbrev pub descriptor_by : ℕ → Instance → Option Linking → ℕ
  descriptor_by symbol x None = 0
  descriptor_by symbol x (Some l) = number_by ls known x l (maker_of ls known x l symbol)

  abbrev pub makes_by : ℕ → Instance → Option Linking → Bool
  makes_by symbol x None = false
  makes_by symbol x (Some l) = is_some (maker_of ls known x l symbol)

  -- the number for an instance's number
  abbrev pub descriptor_for : ℕ → Option Instance → ℕ
  descriptor_for symbol None = 0
  descriptor_for symbol (Some x) = descriptor_by symbol x (at_number ls x.image)

  abbrev pub makes_for : ℕ → Option Instance → Bool
  makes_for symbol None = false
  makes_for symbol (Some x) = makes_by symbol x (at_number ls x.image)

abbrev pub counts : Option Linking → Bool
counts None = false
counts (Some l) = counts_from_thread_pointer l

-- the setting of a job's links and the history that it ends with; the program is image 1
abbrev pub setting_of : List Linking → List Event → Setting
setting_of ls history = let known = known_in (job_loads (images_of ls)) history in record {
  known = known;
  descriptor = λ number symbol. descriptor_for ls known symbol (known number);
  makes_descriptor = λ number symbol. makes_for ls known symbol (known number);
  counts_from_pointer = counts (at_number ls 1);
}
