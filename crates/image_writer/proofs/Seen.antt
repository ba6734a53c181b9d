-- What the outline of an image that was read says, by the headers of its file.
use Rattle.std.proofs.Common.{◌≡◌, ◌+◌, ◌<◌, ◌≤◌, ◌⊎◌, ◌∙◌, ℕ, Bool, true, false, List, length, map, get_or, option_map}
use Rattle.std.proofs.Common.{length-take, length-drop, refl, ap, inl, inr, arith, ◌==◌, if◌then◌else◌}
use Rattle.std.proofs.lemmas.List.{length-map}
use Rattle.std.proofs.lemmas.Option.{get_or_from_slice_get, slice_get-map}
use Rattle.std.specs.List.{slice_range}
use Rattle.image_rules.specs.declared.rule.FieldRule.TheVariants.{FileType}
use Rattle.image_rules.specs.declared.places.FileKind.TheVariants.{Exe, Pie, Module}
use Rattle.image_faults.specs.Parts.{header, segment, loads, base, tls}
use Rattle.elf_records.specs.declared.dynamic.TheConstants.{DT_FLAGS_1}
use Rattle.image_faults.specs.Array.{array_size, has_tag, flags_entry}
use Rattle.image_faults.specs.Places.{got}
use Rattle.image_faults.specs.Faults.{IsImage}
use Rattle.image_file.specs.Spelled.{part as part_read, class_numbered, tls_part, spelled}
use Rattle.image_file.specs.Tabled.{tabled, length-tabled, tabled_at}
use Rattle.image_writer.specs.declared.outline.PartPlace.{PartPlace}
use Rattle.image_writer.specs.Outlined.{Outlined, outline_of, place_of, part, no_part}
use Rattle.image_writer.specs.Page.{base_of}
use Rattle.image_writer.proofs.Positive.{field_right, segment_in, dynamic_right}

-- where LOAD i lies
unfoldable pub place : List ℕ → ℕ → PartPlace
place b i = record {
  class = class_numbered (segment b i).flags;
  address = (segment b i).vaddr;
  size = (segment b i).filesz;
}

-- an outline says what these bytes do
pub record IsSeen (b : List ℕ) (o : Outlined) : Type 0 where
  pub base_is : base_of o.kind ≡ base b
  pub parts_are : length o.parts ≡ loads b
  pub part_is : (i : ℕ) → i < loads b → part o i ≡ place b i
  pub array_is : o.array_size ≡ array_size b
  pub got_is : o.got ≡ got b
  pub tls_is : o.tls ≡ option_map tls_part (tls b)

-- the base by the type of the file
base_of_type : (n : ℕ) (c : Bool) → (n ≡ 2) ⊎ (n ≡ 3)
    → base_of (if n == 3 then (if c then Pie else Module) else Exe) ≡ (if n == 2 then 0x400000 else 0)
base_of_type n c kind = elim kind [
  | inl exe ↦ rw exe refl
  | inr dyn ↦ rw dyn (by_flag c)
]
  where
    by_flag : (c : Bool) → base_of (if c then Pie else Module) ≡ 0
    by_flag true = refl
    by_flag false = refl

-- what stands at a number of a list of things seen in turn
seen_at : {X Y : Type 0} (f : ℕ → X) (g : X → Y) (n i : ℕ) (e : Y) → i < n → get_or (map g (tabled f n)) i e ≡ g (f i)
seen_at f g n i e h =
    get_or_from_slice_get (map g (tabled f n)) i (g (f i)) e
    (slice_get-map g (tabled f n) i ∙ ap (option_map g) (tabled_at f n i h))

-- how many bytes stand between two offsets
pub length_between : (b : List ℕ) (from n : ℕ) → from + n ≤ length b → length (slice_range b from (from + n)) ≡ n
length_between b from n h = simp (length-take, length-drop) (omega arith)

-- where LOAD i lies, by what is read of it
place_read : (b : List ℕ) (i : ℕ) → (segment b i).offset + (segment b i).filesz ≤ length b
    → place_of (part_read b i) ≡ place b i
unfolding place part_read
place_read b i h =
    let long = length_between b (segment b i).offset (segment b i).filesz h in
    rw long refl

-- the outline of an image that was read
pub seen : (b : List ℕ) → IsImage b → IsSeen b (outline_of (spelled b))
seen b image = record {
  base_is = base_of_type (header b).e_type (has_tag b (flags_entry b) DT_FLAGS_1) (field_right b image FileType);
  parts_are = length-map (spelled b).parts place_of ∙ length-tabled (part_read b) (loads b);
  part_is = λ i h.
      seen_at (part_read b) place_of (loads b) i no_part h
      ∙ place_read b i (segment_in b image i (omega (arith, h, (dynamic_right b image).1)));
  array_is = refl;
  got_is = refl;
  tls_is = refl;
}
