-- Each class of sections is one part of the image, and the image has the file's bytes at its addresses.
use Rattle.std.proofs.Common.{◌≡◌, ◌+◌, ◌-◌, ◌<◌, ◌≤◌, ◌&&◌, ◌∙◌, ℕ, Bool, true, false, List, [], ◌∷◌, ◌++◌, Some}
use Rattle.std.proofs.Common.{length, map, drop, refl, ap, arith, if◌then◌else◌}
use Rattle.std.specs.Prelude.{nat_le, nat_lt, option_and_then, Option, slice_get}
use Rattle.std.specs.List.{find}
use Rattle.std.proofs.lemmas.Bool.{lt-ltb}
use Rattle.std.proofs.lemmas.Bool.Decides.{nat_tests}
use Rattle.std.proofs.lemmas.List.{length-take}
use Rattle.std.proofs.lemmas.Option.{slice_get_within}
use Rattle.elf_records.specs.Fields.{part_at}
use Rattle.image_file.specs.declared.part.PartClass.{PartClass}
use Rattle.image_file.specs.declared.part.PartClass.TheVariants as part_class
use Rattle.image_file.specs.Spelled.{Part}
use Rattle.image_writer.specs.declared.outline.PartPlace.{PartPlace}
use Rattle.image_writer.specs.Contents.{part_in}
use Rattle.image_writer.specs.Page.{file_offset}
use Rattle.image_writer.specs.Tables.{finished, tables_part}
use Rattle.link_core.proofs.LoadsTls.{same_base}
use Rattle.link_core.specs.Bytes.{file}
use Rattle.link_core.specs.Images.{contents, file_kind, filled, got_places, image_of, places, section_places}
use Rattle.link_core.specs.Images.{stub_places}
use Rattle.link_faults.specs.ImageKinds.{base_of}
use Rattle.link_needs.specs.Linking.{Linking, layout}
use Rattle.object_faults.specs.declared.class.SectionClass.{SectionClass}
use Rattle.object_faults.specs.declared.class.SectionClass.TheVariants.{Executable, ReadOnly, Tls, Writable}
use Rattle.placed_sections.specs.Files.{offset_of}
use Rattle.tls_layout.proofs.LawsOfPlaces.{classes_follow}
use Rattle.tls_layout.specs.declared.extent.Extent.{Extent}
use Rattle.tls_layout.specs.Laws.{ClassesFollow}
use Rattle.tls_layout.specs.Places.{extent_for}
use Rattle.tls_layout.specs.Places.{executable, read_only, tls_image, writable}
use Rattle.tls_relocs.specs.Elements.{slice_get-drop, slice_get-take}
use Rattle.standing_sequences.specs.Bytes.{byte_at, holds}

-- the byte of the part that was found
abbrev byte_of : ℕ → Option Part → Option ℕ
byte_of address = option_and_then (λ (part : Part). slice_get part.bytes (address - part.address))

within : (start n a : ℕ) → start ≤ a → a < start + n → (nat_le start a && nat_lt a (start + n)) ≡ true
within start n a low high = grind (arith, nat_tests)

behind : (start n a : ℕ) → start + n ≤ a → (nat_le start a && nat_lt a (start + n)) ≡ false
behind start n a past = grind (arith, nat_tests)

no_longer : (n at : ℕ) (xs : List ℕ) → length (part_at n at xs) ≤ n
unfolding part_at
no_longer n at xs = omega (arith, length-take n (drop at xs))

module _ (l : Linking) (a : ℕ) where
  abbrev part : PartPlace → Part
  part = part_in (file_kind l.kind) (file l)

  abbrev place : PartClass → Extent → PartPlace
  place class x = record { class = class; address = x.start; size = x.end - x.start }

  -- ** one part

  module _ (class : PartClass) (x : Extent) (built : List PartPlace → List Part)
      (step : (q : PartPlace) → built (q ∷ []) ≡ part q ∷ built []) where
    -- it ends before the address
    skip : x.start ≤ x.end → x.end ≤ a → find (holds a) (built (filled class x)) ≡ find (holds a) (built [])
    skip up past = of_test (nat_lt x.start x.end)
      where
        off : holds a (part (place class x)) ≡ false
        off =
            let n = x.end - x.start in
            let at = file_offset (file_kind l.kind) x.start in
            behind x.start (length (part_at n at (file l))) a (omega (arith, no_longer n at (file l), up, past))

        of_test : (t : Bool)
            → find (holds a) (built (if t then place class x ∷ [] else [])) ≡ find (holds a) (built [])
        of_test false = refl
        of_test true = ap (find (holds a)) (step (place class x)) ∙ rw off refl

    -- it has the address
    hit : (byte : ℕ) → x.start ≤ a → a < x.end → slice_get (part (place class x)).bytes (a - x.start) ≡ Some byte
        → find (holds a) (built (filled class x)) ≡ Some (part (place class x))
    hit byte low high is = rw (lt-ltb x.start x.end (omega (arith, low, high))) (
        ap (find (holds a)) (step (place class x)) ∙ rw on refl)
      where
        on : holds a (part (place class x)) ≡ true
        on =
            let inside = slice_get_within (part (place class x)).bytes (a - x.start) byte is in
            within x.start (length (part (place class x)).bytes) a low (omega (arith, inside, low))

  -- its bytes are those of the file
  from_file : (x : Extent) → base_of l.kind ≤ x.start → x.start ≤ a → a < x.end
      → slice_get (part_at (x.end - x.start) (file_offset (file_kind l.kind) x.start) (file l)) (a - x.start)
      ≡ slice_get (file l) (offset_of (layout l) a)
  unfolding part_at
  from_file x above low high =
      let at = file_offset (file_kind l.kind) x.start in
      let same : at + (a - x.start) ≡ offset_of (layout l) a = omega (arith, same_base l.kind, above, low) in
      slice_get-take (x.end - x.start) (a - x.start) (drop at (file l)) (omega (arith, low, high))
      ∙ slice_get-drop at (a - x.start) (file l)
      ∙ ap (slice_get (file l)) same

  -- ** the part of each class

  abbrev xs : List PartPlace
  xs = filled part_class.Executable (executable (layout l).kind (layout l).sections)

  abbrev rs : List PartPlace
  rs = filled part_class.ReadOnly (read_only (layout l).kind (layout l).sections)

  abbrev ts : List PartPlace
  ts = filled part_class.ReadOnly (tls_image (layout l).kind (layout l).sections)

  abbrev ws : List PartPlace
  ws = filled part_class.Writable (writable (layout l).kind (layout l).sections)

  abbrev rest : List PartPlace
  rest = got_places l ++ stub_places l

  abbrev tail : List Part
  tail = tables_part (contents l) ∷ []

  -- what is built of the parts from a class on, where those before it are gone
  abbrev from_code : List PartPlace → List Part
  from_code front = map part ((front ++ (rs ++ (ts ++ ws))) ++ rest) ++ tail

  abbrev from_constants : List PartPlace → List Part
  from_constants front = map part ((front ++ (ts ++ ws)) ++ rest) ++ tail

  abbrev from_image : List PartPlace → List Part
  from_image front = map part ((front ++ ws) ++ rest) ++ tail

  abbrev from_data : List PartPlace → List Part
  from_data front = map part (front ++ rest) ++ tail

  follow : ClassesFollow (layout l)
  follow = classes_follow (layout l)

  abbrev extent : SectionClass → Extent
  extent c = extent_for c (layout l)

  -- classes rise
  above : (c : SectionClass) → base_of l.kind ≤ (extent c).start
  above c = of_class c
    where
      one : (extent Executable).start ≤ (extent Executable).end
      one = follow.rise Executable

      two : (extent ReadOnly).start ≤ (extent ReadOnly).end
      two = follow.rise ReadOnly

      three : (extent (Tls true)).start ≤ (extent (Tls true)).end
      three = follow.rise (Tls true)

      of_class : (c : SectionClass) → base_of l.kind ≤ (extent c).start
      of_class Executable = omega (arith, follow.first)
      of_class ReadOnly = omega (arith, follow.first, one, follow.second)
      of_class (Tls initial) = omega (arith, follow.first, one, follow.second, two, follow.third)
      of_class (Writable initial) =
          omega (arith, follow.first, one, follow.second, two, follow.third, three, follow.fourth)

  -- a byte of the file at an address of a class is the image's
  pub part_byte : (c : SectionClass) (byte : ℕ) → (extent_for c (layout l)).start ≤ a
      → a < (extent_for c (layout l)).end → slice_get (file l) (offset_of (layout l) a) ≡ Some byte
      → byte_at (image_of l) a ≡ Some byte
  unfolding byte_at image_of finished contents places section_places
  part_byte c byte low high is = of_class c low high
    where
      x_up : (extent Executable).start ≤ (extent Executable).end
      x_up = follow.rise Executable

      r_up : (extent ReadOnly).start ≤ (extent ReadOnly).end
      r_up = follow.rise ReadOnly

      t_up : (extent (Tls true)).start ≤ (extent (Tls true)).end
      t_up = follow.rise (Tls true)

      own : (c : SectionClass) → (extent c).start ≤ a → a < (extent c).end
          → slice_get (part_at ((extent c).end - (extent c).start) (file_offset (file_kind l.kind) (extent c).start)
          (file l)) (a - (extent c).start)
          ≡ Some byte
      own c low high = from_file (extent c) (above c) low high ∙ is

      of_class : (c : SectionClass) → (extent c).start ≤ a → a < (extent c).end
          → byte_of a (find (holds a) (from_code xs)) ≡ Some byte
      of_class Executable low high =
          ap (byte_of a) (hit part_class.Executable (extent Executable) from_code (λ q. refl) byte low high
          (own Executable low high))
          ∙ own Executable low high
      of_class ReadOnly low high =
          ap (byte_of a) (skip part_class.Executable (extent Executable) from_code (λ q. refl) x_up
          (omega (arith, follow.second, low))
          ∙ hit part_class.ReadOnly (extent ReadOnly) from_constants (λ q. refl) byte low high (own ReadOnly low high))
          ∙ own ReadOnly low high
      of_class (Tls initial) low high =
          ap (byte_of a) (skip part_class.Executable (extent Executable) from_code (λ q. refl) x_up
          (omega (arith, follow.second, r_up, follow.third, low))
          ∙ skip part_class.ReadOnly (extent ReadOnly) from_constants (λ q. refl) r_up
          (omega (arith, follow.third, low))
          ∙ hit part_class.ReadOnly (extent (Tls initial)) from_image (λ q. refl) byte low high
          (own (Tls initial) low high))
          ∙ own (Tls initial) low high
      of_class (Writable initial) low high =
          ap (byte_of a) (skip part_class.Executable (extent Executable) from_code (λ q. refl) x_up
          (omega (arith, follow.second, r_up, follow.third, t_up, follow.fourth, low))
          ∙ skip part_class.ReadOnly (extent ReadOnly) from_constants (λ q. refl) r_up
          (omega (arith, follow.third, t_up, follow.fourth, low))
          ∙ skip part_class.ReadOnly (extent (Tls true)) from_image (λ q. refl) t_up
          (omega (arith, follow.fourth, low))
          ∙ hit part_class.Writable (extent (Writable initial)) from_data (λ q. refl) byte low high
          (own (Writable initial) low high))
          ∙ own (Writable initial) low high
