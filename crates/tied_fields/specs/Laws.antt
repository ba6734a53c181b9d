-- The code of an instance, at fields that a job's meaning marks and elsewhere.
use Rattle.std.specs.Prelude.{◌≡◌, ◌≤◌, ◌<◌, ◌+◌, ◌-◌, ◌%◌, ◌^◌, ℕ, ℤ, Bool, true, false, List, Some, None, IfSome}
use Rattle.std.specs.Prelude.{length, map}
use Rattle.std.specs.Prelude.{option_and_then}
use Rattle.std.specs.List.{All, Contains}
use Rattle.address_map.specs.Map.{owner_at}
use Rattle.amd64_subset.specs.Spelling.{field_of}
use Rattle.got_pairs.specs.declared.need.Need.TheVariants.{Descriptor}
use Rattle.got_pairs.specs.declared.need.Target.{Target}
use Rattle.got_pairs.specs.Entries.{less}
use Rattle.got_pairs.specs.Needs.{start_of}
use Rattle.guest_operands.specs.declared.space.Access.{Access}
use Rattle.guest_operands.specs.declared.space.Access.TheVariants.{Run}
use Rattle.guest_operands.specs.Ranges.{Range, byte_in, holds}
use Rattle.guest_operands.specs.Use.{plus}
use Rattle.job_meaning.specs.declared.values.Block.{Block}
use Rattle.job_meaning.specs.declared.values.Byte.{Byte}
use Rattle.job_meaning.specs.declared.values.Token.TheVariants.{Base}
use Rattle.job_meaning.specs.Marked.{code_byte}
use Rattle.job_text.specs.LateImages.{LateLast}
use Rattle.known_instances.specs.Known.{known_in}
use Rattle.link_needs.specs.Linking.{Linking, binding, choice, sites_at}
use Rattle.link_needs.specs.Needs.{entries, got_start, is_kept, target_by}
use Rattle.linked_modules.specs.Together.{AreTogether}
use Rattle.loaded_bytes.specs.Laws.{IsInstanceOf, images_of}
use Rattle.elf_records.specs.FieldLaws.{AreBytes}
use Rattle.loaded_modules.specs.declared.instance.Instance.{Instance}
use Rattle.module_table.specs.declared.events.Event.{Event}
use Rattle.sequence_forms.specs.declared.forms.Form.{Form}
use Rattle.sequence_forms.specs.declared.forms.Form.TheVariants.{DescLea, DescCall}
use Rattle.sequence_forms.specs.declared.places.Site.{Site}
use Rattle.sequence_match.specs.Sites.{first_of}
use Rattle.thread_blocks.specs.JobLoads.{job_loads}
use Rattle.loaded_words.specs.Laws.{IsKnown}
use Rattle.tied_fields.specs.Settings.{makes, setting_of, variable_at}
use Rattle.tied_meaning.specs.Codes.{SameCodeByte}
use Rattle.tied_meaning.specs.Numbers.{IsMade, Setting, base_number}
use Rattle.tied_meaning.specs.Sites.{HasWord, Stands}
use Rattle.tied_meaning.specs.Ties.{HasFourBytes, IsPlaceOf, IsTied}
use Rattle.whole_meaning.specs.declared.marks.Mark.TheVariants.{Usual, Offset, Address}
use Rattle.whole_meaning.specs.declared.sequences.Sequence.{Sequence}
use Rattle.whole_meaning.specs.Code.{Variable}
use Rattle.whole_meaning.specs.Fields.{is_minus}
use Rattle.whole_meaning.specs.Loads.{meaning_of}
use Rattle.whole_meaning.specs.Spots.{bias_of}

-- ** marks

-- a byte that is marked as one of a field has the field's first byte before it, with the same number
pub record HasItsBeginning (ls : List Linking) (x : Instance) (place : ℕ) : Type 0 where
  pub offset : (number byte : ℕ) → (meaning_of ls).mark x place ≡ Offset number byte
      → (byte ≤ place) × ((meaning_of ls).mark x (place - byte) ≡ Offset number 0)
  pub address : (number byte : ℕ) (addend : ℤ) → (meaning_of ls).mark x place ≡ Address number addend byte
      → (byte ≤ place) × ((meaning_of ls).mark x (place - byte) ≡ Address number addend 0)

abbrev pub FieldsHaveTheirBeginning : Type 0
FieldsHaveTheirBeginning = (ls : List Linking) (l : Linking) (x : Instance) (place : ℕ) → IsInstanceOf ls l x
    → HasItsBeginning ls x place

-- a usual address outside the room has the meaning's byte, and fields and sequences have some byte on both sides; a
-- field has four bytes
abbrev pub CodeIsTied : Type 0
CodeIsTied = (ls : List Linking) (l : Linking) (x : Instance) (place : ℕ) → IsInstanceOf ls l x
    → (meaning_of ls).room x place ≡ false
    → SameCodeByte ((meaning_of ls).mark x place)
    (option_and_then code_byte (byte_in Run ((meaning_of ls).loads.fixed x) place))
    (byte_in Run ((job_loads (images_of ls)).fixed x) place)

-- in the room the meaning has no code, and marks nothing
abbrev pub RoomsHaveNoCode : Type 0
RoomsHaveNoCode = (ls : List Linking) (l : Linking) (x : Instance) (place : ℕ) → IsInstanceOf ls l x
    → (meaning_of ls).room x place ≡ true
    → (byte_in Run ((meaning_of ls).loads.fixed x) place ≡ None) × ((meaning_of ls).mark x place ≡ Usual)

-- ** addresses

-- all that is loaded of an instance, on both sides, lies at addresses with its number in them; its data lie apart from
-- what no thread writes. No instruction runs on into the room, and four bytes that begin in code end at addresses of
-- the instance
pub record LiesAtItsPlaces (ls : List Linking) (x : Instance) : Type 0 where
  pub there : (access : Access) (place byte : ℕ)
      → byte_in access ((job_loads (images_of ls)).fixed x) place ≡ Some byte → IsPlaceOf x place
  pub meant_there : (access : Access) (place : ℕ) (byte : Byte)
      → byte_in access ((meaning_of ls).loads.fixed x) place ≡ Some byte → IsPlaceOf x place
  pub rooms : (place : ℕ) → (meaning_of ls).room x place ≡ true → IsPlaceOf x place
  pub tables : All (λ (range : Range ℕ). (place : ℕ) → holds range place ≡ true → IsPlaceOf x place)
      ((job_loads (images_of ls)).tables x)
  pub data_there : IfSome ((job_loads (images_of ls)).shared x) (λ (range : Range ℕ). (range.runnable ≡ false)
      × ((place : ℕ) → holds range place ≡ true
      → IsPlaceOf x place × ((access : Access) → byte_in access ((job_loads (images_of ls)).fixed x) place ≡ None)))
  pub run_on : (here k : ℕ) → k < 15 → (meaning_of ls).room x here ≡ false → (meaning_of ls).room x (here + k) ≡ true
      → byte_in Run ((job_loads (images_of ls)).fixed x) (here + k) ≡ None
  pub ends : (place k byte : ℕ) → k < 4 → byte_in Run ((job_loads (images_of ls)).fixed x) place ≡ Some byte
      → owner_at (place + k) ≡ x.number

abbrev pub PlacesAreTied : Type 0
PlacesAreTied = (ls : List Linking) (history : List Event) (l : Linking) (x : Instance) → IsKnown ls history x
    → IsInstanceOf ls l x → LiesAtItsPlaces ls x

-- ** offset fields

-- the four bytes of an offset field move the base of each thread's block as the meaning's number does, to one address
abbrev pub OffsetFieldsAreTied : Type 0
OffsetFieldsAreTied = (ls : List Linking) (history : List Event) (l : Linking) (x : Instance) (place number : ℕ)
    (four : List ℕ) → IsKnown ls history x → IsInstanceOf ls l x
    → (meaning_of ls).mark x place ≡ Offset number 0 → HasFourBytes (job_loads (images_of ls)) x place four
    → (block : Block) → IsMade (setting_of ls history) (Base block) → block.instance ≡ x.number
    → (block.start + number) % 2 ^ 64 ≡ (base_number (setting_of ls history) block + field_of four) % 2 ^ 64

-- ** address fields

-- the four bytes of an address field lead, from the end of the instruction, to a word with the mark's number
abbrev pub AddressFieldsAreTied : Type 0
AddressFieldsAreTied = (ls : List Linking) (history : List Event) (l : Linking) (x : Instance) (place number size : ℕ)
    (addend : ℤ) (four : List ℕ) → IsKnown ls history x → IsInstanceOf ls l x
    → (meaning_of ls).mark x place ≡ Address number addend 0 → HasFourBytes (job_loads (images_of ls)) x place four
    → is_minus addend size ≡ true
    → (number < 2 ^ 64) × HasWord (job_loads (images_of ls)) x (plus (plus place size) (field_of four)) number

-- ** descriptors

-- the forms that make a descriptor, or call one
abbrev pub is_of_descriptor : Form → Bool
is_of_descriptor DescLea = true
is_of_descriptor DescCall = true
is_of_descriptor form = false

-- such a sequence of object o
pub record IsDescriptorSite (l : Linking) (o : ℕ) (site : Site) : Type 0 where
  pub there : o < length l.objects
  pub own : Contains (sites_at l o) site
  pub form : is_of_descriptor site.form ≡ true

-- the setting's number for the descriptor that it makes or calls. There is one if the sequence makes it. Its number is
-- the address of the sequence's entry, if the sequence is kept, and the variable's distance from the thread pointer,
-- if it is rewritten
pub record HasItsNumber (g : Setting) (ls : List Linking) (l : Linking) (x : Instance) (o : ℕ) (site : Site)
    (v : Variable) : Type 0 where
  pub made : makes site.form ≡ true → g.makes_descriptor x.number v.symbol ≡ true
  pub low : g.descriptor x.number v.symbol < 2 ^ 64
  pub kept : g.makes_descriptor x.number v.symbol ≡ true → is_kept (choice l o site) ≡ true
      → (t : Target) → target_by l o site.symbol (binding l o (first_of site)) ≡ Some t
      → (at : ℕ) × (start_of (entries l) (Descriptor t) ≡ Some at)
      × (g.descriptor x.number v.symbol ≡ got_start l + at + bias_of l.kind x.number)
  pub written : g.makes_descriptor x.number v.symbol ≡ true → is_kept (choice l o site) ≡ false
      → (y : Instance) (below : ℕ) → g.known v.target ≡ Some y → y.offset ≡ Some below
      → g.descriptor x.number v.symbol ≡ less v.offset below

-- each image has fewer than 2^32 objects, so no two symbols have the same number
abbrev pub DescriptorsHaveOneNumber : Type 0
DescriptorsHaveOneNumber = (ls : List Linking) (history : List Event) (l : Linking) (x : Instance) (o : ℕ) (site : Site)
    → AreTogether ls → LateLast (map (λ l. l.kind) ls) → All (λ (l : Linking). length l.objects < 2 ^ 32) ls
    → IsKnown ls history x → IsInstanceOf ls l x → IsDescriptorSite l o site
    → HasItsNumber (setting_of ls history) ls l x o site
    (variable_at ls (known_in (job_loads (images_of ls)) history) x l o site)

-- ** all of it

-- an instance is tied, if the code in place of each of its sequences does what it means, and its objects are lists of
-- bytes
abbrev pub InstancesAreTied : Type 0
InstancesAreTied = (ls : List Linking) (history : List Event) (l : Linking) (x : Instance) → All AreBytes l.objects
    → IsKnown ls history x → IsInstanceOf ls l x
    → ((place : ℕ) (s : Sequence) → (meaning_of ls).sequence x place ≡ Some s
    → Stands (setting_of ls history) (job_loads (images_of ls)) x place s)
    → IsTied (setting_of ls history) (meaning_of ls) (job_loads (images_of ls)) x
