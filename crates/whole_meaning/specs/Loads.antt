-- What is loaded of a job's images in the meaning, made of their objects: each section of a live instance at its
-- address. There is no table that a linker makes, no module id, and nothing that a loader would write.
use Rattle.std.specs.Prelude.{ℕ, ◌+◌, ◌&&◌, Bool, true, false, not, List, [], ◌∷◌, Option, Some, None, map}
use Rattle.std.specs.Prelude.{option_and_then, option_map, if◌then◌else◌}
use Rattle.std.specs.List.{list_any}
use Rattle.guest_machine.specs.Ranges.{Range}
use Rattle.job_meaning.specs.declared.values.Byte.{Byte}
use Rattle.job_meaning.specs.declared.values.Byte.TheVariants.{Value}
use Rattle.link_faults.specs.ImageKinds.{is_module}
use Rattle.link_faults.specs.ImageKinds.{is_late}
use Rattle.link_needs.specs.Linking.{Linking, has_writable_data, layout}
use Rattle.loaded_modules.specs.declared.instance.Instance.{Instance}
use Rattle.module_table.specs.declared.modules.ImageInfo.{ImageInfo}
use Rattle.module_table.specs.Modules.{startup_end}
use Rattle.object_faults.specs.declared.class.SectionClass.{SectionClass}
use Rattle.object_faults.specs.declared.class.SectionClass.TheVariants.{Executable, ReadOnly, Tls, Writable}
use Rattle.sequence_forms.specs.declared.places.Site.{Site}
use Rattle.sequence_forms.specs.Forms.{is_initial}
use Rattle.thread_blocks.specs.Instances.{Loads}
use Rattle.thread_blocks.specs.Turns.{at_number}
use Rattle.tls_layout.specs.Places.{extent_for}
use Rattle.tls_layout.specs.Places.{tls_alignment, tls_size}
use Rattle.tls_layout.specs.Sections.{same_class}
use Rattle.whole_meaning.specs.declared.marks.Mark.TheVariants.{Usual}
use Rattle.whole_meaning.specs.Bytes.{block_bytes, class_bytes, function_of, variable_of}
use Rattle.whole_meaning.specs.Code.{mark_of, sequence_of}
use Rattle.whole_meaning.specs.Meanings.{Meaning}
use Rattle.whole_meaning.specs.Spots.{bias_of, in_room}
use Rattle.std.specs.Option.{option_map_or}

-- ** what is known of an image from the start

-- a module whose code finds a variable at a fixed distance from the thread pointer needs its blocks below it
unfoldable pub wants_surplus : Linking → Bool
wants_surplus l = is_module l.kind && list_any (λ own. list_any (λ (site : Site). is_initial site.form) own) l.sites

unfoldable pub info_of : Linking → ImageInfo
info_of l = record {
  late = is_late l.kind;
  statics = wants_surplus l;
  size = tls_size (layout l).sections;
  align = tls_alignment (layout l).sections;
}

-- ** what is loaded of an instance

-- the bytes of a class at an instance's address: code can be fetched, and not be read; all others can be read, and
-- data also written
abbrev pub class_range : Linking → ℕ → SectionClass → Range Byte
class_range l bias class = record {
  start = (extent_for class (layout l)).start + bias;
  bytes = map Value (class_bytes l bias class);
  readable = not (same_class Executable class);
  writable = same_class (Writable true) class;
  runnable = same_class Executable class;
}

-- code, constants and the initial image
abbrev pub still_ranges : Linking → ℕ → List (Range Byte)
still_ranges l bias =
    class_range l bias Executable ∷ class_range l bias ReadOnly ∷ class_range l bias (Tls true) ∷ []

abbrev pub data_ranges : Linking → ℕ → Option (Range Byte)
data_ranges l bias = if has_writable_data l then Some (class_range l bias (Writable true)) else None

-- for an instance's image, if there is one
abbrev pub of_image : {A : Type 0} → List Linking → A → (Linking → ℕ → A) → Instance → A
of_image ls none f x = option_map_or (λ l. f l (bias_of l.kind x.number)) (at_number ls x.image) none

-- ** all of it

-- ls: the images of a job in their order, the program first
unfoldable pub loads_of : List Linking → Loads Byte
loads_of ls = record {
  infos = map info_of ls;
  last_offset = startup_end (map info_of ls) 0;
  function = λ x name. of_image ls None (λ l bias. option_map (λ at. at + bias) (function_of l name)) x;
  variable = λ image name. option_and_then (λ l. variable_of l name) (at_number ls image);
  fixed = λ x. of_image ls [] still_ranges x;
  tables = λ x. [];
  shared = λ x. of_image ls None data_ranges x;
  block = λ x. of_image ls [] (λ l bias. map Value (block_bytes l bias)) x;
}

unfoldable pub meaning_of : List Linking → Meaning
meaning_of ls = record {
  loads = loads_of ls;
  mark = λ x place. of_image ls Usual (λ l bias. mark_of l bias place) x;
  sequence = λ x place. of_image ls None (λ l bias. sequence_of ls x.image x.number l place) x;
  room = λ x place. of_image ls false (λ l bias. in_room l bias place) x;
}
