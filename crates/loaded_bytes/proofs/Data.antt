-- The data that threads write is found as it is loaded: of an image's parts it is the one that is written, but for the
-- table, which the loader alone writes.
use Rattle.std.proofs.Common.{◌≡◌, ◌+◌, ◌-◌, ◌<◌, ◌==◌, ◌∙◌, ℕ, suc, Bool, true, false, List, [], ◌∷◌, ◌++◌}
use Rattle.std.proofs.Common.{Option, Some, None, length, map, refl, sym}
use Rattle.std.proofs.Common.{ap, subst, arith, if◌then◌else◌, length-append, append_assoc}
use Rattle.std.specs.Prelude.{nat_lt}
use Rattle.std.specs.List.{find}
use Rattle.std.specs.Option.{option_or, option_map_or}
use Rattle.std.proofs.lemmas.Bool.Decides.{nat_tests}
use Rattle.std.proofs.lemmas.List.{length-map, map-append}
use Rattle.std.proofs.lemmas.List.Folds.{find-append}
use Rattle.guest_operands.specs.Ranges.{Range}
use Rattle.image_file.specs.declared.part.PartClass.{PartClass}
use Rattle.image_file.specs.declared.part.PartClass.TheVariants.{Executable, ReadOnly, Writable}
use Rattle.image_file.specs.Spelled.{Part, is_writable, Spelled}
use Rattle.image_writer.specs.declared.outline.PartPlace.{PartPlace}
use Rattle.image_writer.specs.Contents.{part_in}
use Rattle.image_writer.specs.Tables.{finished, tables_part}
use Rattle.link_core.specs.Bytes.{file}
use Rattle.link_core.specs.Images.{contents, file_kind, filled, got_number, got_places}
use Rattle.link_core.specs.Images.{image_of, places, section_places, stub_places}
use Rattle.link_needs.specs.Linking.{Linking, layout}
use Rattle.link_needs.specs.Needs.{got_size, got_start, has_stub, stub_start}
use Rattle.loaded_modules.specs.declared.instance.Instance.{Instance}
use Rattle.object_faults.specs.declared.class.SectionClass.TheVariants as class
use Rattle.relocated_parts.proofs.Fold.{left_long}
use Rattle.thread_blocks.specs.JobLoads.{instance_part, job_loads, parts_from}
use Rattle.tls_layout.specs.declared.extent.Extent.{Extent}
use Rattle.tls_layout.specs.Places.{extent_for}
use Rattle.tls_layout.specs.Places.{executable, read_only, tls_image, writable}
use Rattle.link_needs.specs.Linking.{has_writable_data}
use Rattle.whole_meaning.specs.Spots.{bias_of}
use Rattle.loaded_bytes.specs.Laws.{DataIsLoaded, IsData, IsDataOf, IsInstanceOf, images_of}
use Rattle.loaded_bytes.proofs.Biases.{image_bias}
use Rattle.loaded_bytes.proofs.ClassParts.{class_part, part_loaded, part_long}
use Rattle.loaded_bytes.proofs.Still.{image_is, not_table}

module _ (ls : List Linking) (l : Linking) (x : Instance) where
  -- the first of some parts, of which the first has number n, that threads write
  abbrev Found : ℕ → List Part → Option (Range ℕ)
  Found n parts = find (λ (range : Range ℕ). range.writable) (parts_from (images_of ls) (image_of l) x n parts)

  pub from-append : (n : ℕ) (ps qs : List Part)
      → parts_from (images_of ls) (image_of l) x n (ps ++ qs)
      ≡ parts_from (images_of ls) (image_of l) x n ps ++ parts_from (images_of ls) (image_of l) x (n + length ps) qs
  from-append n [] qs =
      let same : n ≡ n + 0 = omega arith in ap (λ i. parts_from (images_of ls) (image_of l) x i qs) same
  from-append n (p ∷ ps) qs =
      let same : suc n + length ps ≡ n + suc (length ps) = omega arith in
      ap (λ rest. instance_part (images_of ls) (image_of l) x n p ∷ rest)
      (from-append (suc n) ps qs
      ∙ ap
      (λ i. parts_from (images_of ls) (image_of l) x (suc n) ps ++ parts_from (images_of ls) (image_of l) x i qs) same)

  -- behind parts that no thread writes
  past : (n : ℕ) (ps qs : List Part) → Found n ps ≡ None → Found n (ps ++ qs) ≡ Found (n + length ps) qs
  past n ps qs none =
      ap (find (λ (range : Range ℕ). range.writable)) (from-append n ps qs)
      ∙ find-append (λ (range : Range ℕ). range.writable) (parts_from (images_of ls) (image_of l) x n ps)
      (parts_from (images_of ls) (image_of l) x (n + length ps) qs)
      ∙ ap
      (λ found. option_or found (Found (n + length ps) qs)) none

  -- a part that comes first is the one
  front : (n : ℕ) (p : Part) (qs : List Part) → (instance_part (images_of ls) (image_of l) x n p).writable ≡ true
      → Found n (p ∷ qs) ≡ Some (instance_part (images_of ls) (image_of l) x n p)
  front n p qs e = rw e refl

  none_one : (n : ℕ) (p : Part) → (instance_part (images_of ls) (image_of l) x n p).writable ≡ false
      → Found n (p ∷ []) ≡ None
  none_one n p e = rw e refl

  made : PartPlace → Part
  made = part_in (file_kind l.kind) (file l)

  -- a class that is not written
  none_filled : (n : ℕ) (kind : PartClass) (extent : Extent) → is_writable kind ≡ false
      → Found n (map (part_in (file_kind l.kind) (file l)) (filled kind extent)) ≡ None
  none_filled n kind extent still = of_test (nat_lt extent.start extent.end)
    where
      whole : PartPlace
      whole = record { class = kind; address = extent.start; size = extent.end - extent.start }

      of_test : (t : Bool)
          → Found n (map (part_in (file_kind l.kind) (file l))
          (if t
          then record { class = kind; address = extent.start; size = extent.end - extent.start } ∷ []
          else []))
          ≡ None
      of_test true =
          none_one n (part_in (file_kind l.kind) (file l)
          (record { class = kind; address = extent.start; size = extent.end - extent.start })) (rw still refl)
      of_test false = refl

  -- nor are the table, which is the loader's, the stub and the dynamic tables
  none_got : Found (length (section_places (layout l))) (map (part_in (file_kind l.kind) (file l)) (got_places l))
      ≡ None
  unfolding image_of finished contents got_number
  none_got = of_test (got_size l == 0) refl
    where
      same : (n : ℕ) → (n == n) ≡ true
      same n = grind (arith, nat_tests)

      of_test : (t : Bool) → (got_size l == 0) ≡ t
          → Found (length (section_places (layout l))) (map (part_in (file_kind l.kind) (file l))
          (if t then [] else record { class = Writable; address = got_start l; size = got_size l } ∷ []))
          ≡ None
      of_test true e = refl
      of_test false e =
          none_one (length (section_places (layout l)))
          (part_in (file_kind l.kind) (file l) (record { class = Writable; address = got_start l; size = got_size l }))
          (rw (e, same (length (section_places (layout l)))) refl)

  none_stub : (n : ℕ) → Found n (map (part_in (file_kind l.kind) (file l)) (stub_places l)) ≡ None
  none_stub n = of_test (has_stub l)
    where
      of_test : (t : Bool)
          → Found n (map (part_in (file_kind l.kind) (file l))
          (if t then record { class = Executable; address = stub_start l; size = 6 } ∷ [] else []))
          ≡ None
      of_test true = refl
      of_test false = refl

  none_tables : (n : ℕ) → Found n (tables_part (contents l) ∷ []) ≡ None
  unfolding tables_part
  none_tables n = refl

  -- ** all parts

  abbrev pub f : PartPlace → Part
  f = part_in (file_kind l.kind) (file l)

  abbrev pub code : List PartPlace
  code = filled Executable (executable (layout l).kind (layout l).sections)

  abbrev pub constants : List PartPlace
  constants = filled ReadOnly (read_only (layout l).kind (layout l).sections)

  abbrev pub initial : List PartPlace
  initial = filled ReadOnly (tls_image (layout l).kind (layout l).sections)

  abbrev pub written : List PartPlace
  written = filled Writable (writable (layout l).kind (layout l).sections)

  abbrev pub rest : List Part
  rest = map (part_in (file_kind l.kind) (file l)) (got_places l ++ stub_places l) ++ (tables_part (contents l) ∷ [])

  -- how many parts lie before the data
  abbrev pub front_parts : ℕ
  front_parts = length code + (length constants + length initial)

  pub parts_are : (image_of l).parts
      ≡ map f code ++ (map f constants ++ (map f initial ++ (map f written ++ rest)))
  unfolding image_of finished contents places section_places
  parts_are =
      let added = got_places l ++ stub_places l in
      let all = code ++ (constants ++ (initial ++ written)) in
      let split : map f (all ++ added) ≡ map f all ++ map f added = map-append f all added in
      let sections : map f all ≡ map f code ++ (map f constants ++ (map f initial ++ map f written)) =
      map-append f code (constants ++ (initial ++ written))
      ∙ ap (λ xs. map f code ++ xs) (map-append f constants (initial ++ written)
      ∙ ap (λ xs. map f constants ++ xs) (map-append f initial written)) in
      ap (λ xs. xs ++ (tables_part (contents l) ∷ [])) (split ∙ ap (λ xs. xs ++ map f added) sections)
      ∙ joined (map f code) (map f constants) (map f initial) (map f written) (map f added)
      (tables_part (contents l) ∷ [])
    where
      joined : (a b c d e g : List Part) → ((a ++ (b ++ (c ++ d))) ++ e) ++ g ≡ a ++ (b ++ (c ++ (d ++ (e ++ g))))
      joined a b c d e g = simp append_assoc

  pub places_long : length (section_places (layout l)) ≡ front_parts + length written
  unfolding section_places
  places_long =
      let one = length-append code (constants ++ (initial ++ written)) in
      let two = length-append constants (initial ++ written) in
      let three = length-append initial written in
      omega (arith, one, two, three)

  none_rest : Found (length (section_places (layout l))) rest ≡ None
  none_rest =
      let got = map f (got_places l) in
      let stub = map f (stub_places l) in
      let n = length (section_places (layout l)) in
      ap (λ xs. Found n (xs ++ (tables_part (contents l) ∷ []))) (map-append f (got_places l) (stub_places l))
      ∙ ap (Found n) (append_assoc got stub (tables_part (contents l) ∷ []))
      ∙ past n got (stub ++ (tables_part (contents l) ∷ [])) none_got
      ∙ past (n + length got) stub (tables_part (contents l) ∷ []) (none_stub (n + length got))
      ∙ none_tables (n + length got + length stub)

  behind : Found 0 (image_of l).parts ≡ Found front_parts (map f written ++ rest)
  behind =
      let more = map f written ++ rest in
      let long : 0 + length (map f code) + length (map f constants) + length (map f initial) ≡ front_parts =
      omega (arith, length-map code f, length-map constants f, length-map initial f) in
      ap (Found 0) parts_are
      ∙ past 0 (map f code) (map f constants ++ (map f initial ++ more))
      (none_filled 0 Executable (executable (layout l).kind (layout l).sections) refl)
      ∙ past (0 + length (map f code)) (map f constants) (map f initial ++ more)
      (none_filled (0 + length (map f code)) ReadOnly (read_only (layout l).kind (layout l).sections) refl)
      ∙ past (0 + length (map f code) + length (map f constants)) (map f initial) more
      (none_filled (0 + length (map f code) + length (map f constants)) ReadOnly
      (tls_image (layout l).kind (layout l).sections) refl)
      ∙ ap (λ n. Found n more) long

  -- ** the data

  module _ (is : IsInstanceOf ls l x) where
    abbrev extent : Extent
    extent = extent_for (class.Writable true) (layout l)

    range_is : (n : ℕ) → option_map_or (λ (own : ℕ). own == n) (image_of l).got false ≡ false
        → (extent_for (class.Writable true) (layout l)).start
        < (extent_for (class.Writable true) (layout l)).end
        → IsDataOf l (bias_of l.kind x.number)
        (instance_part (images_of ls) (image_of l) x n (class_part l (class.Writable true)))
    range_is n other some =
        let part = class_part l (class.Writable true) in
        let left = left_long (images_of ls) (image_of l) x part in
        let long = part_long l is.given is.links (class.Writable true) some in
        let moved = image_bias l x.number in
        record {
          start_is = ap (λ b. (extent_for (class.Writable true) (layout l)).start + b) moved;
          long = omega (arith, left, long, moved, some);
          each = λ k below.
              part_loaded l is.given is.links (class.Writable true) tt is.stray (images_of ls) x
              (image_is ls l x is.image) k
              (omega (arith, left, long, below));
          readable = refl;
          writable = rw other refl;
          runnable = refl;
        }

    data_is : IsData l (bias_of l.kind x.number) (has_writable_data l) (Found 0 (image_of l).parts)
    data_is =
        subst (IsData l (bias_of l.kind x.number) (has_writable_data l)) (sym behind)
        (of_test (nat_lt (extent_for (class.Writable true) (layout l)).start
        (extent_for (class.Writable true) (layout l)).end) refl
        places_long)
      where
        less : (a b : ℕ) → nat_lt a b ≡ true → a < b
        less a b e = grind (arith, nat_tests)

        of_test : (t : Bool)
            → nat_lt (extent_for (class.Writable true) (layout l)).start
            (extent_for (class.Writable true) (layout l)).end ≡ t
            → length (section_places (layout l))
            ≡ front_parts + length {A = PartPlace} (if t
            then record {
              class = Writable;
              address = (writable (layout l).kind (layout l).sections).start;
              size = (writable (layout l).kind (layout l).sections).end
                  - (writable (layout l).kind (layout l).sections).start;
            } ∷ []
            else [])
            → IsData l (bias_of l.kind x.number) t (Found front_parts (map f (if t
            then record {
              class = Writable;
              address = (writable (layout l).kind (layout l).sections).start;
              size = (writable (layout l).kind (layout l).sections).end
                  - (writable (layout l).kind (layout l).sections).start;
            } ∷ []
            else [])
            ++ rest))
        of_test true e long =
            let some = less (extent_for (class.Writable true) (layout l)).start
            (extent_for (class.Writable true) (layout l)).end e in
            let other = not_table l front_parts (omega (arith, long)) in
            subst (IsData l (bias_of l.kind x.number) true)
            (sym (front front_parts (class_part l (class.Writable true)) rest (rw other refl)))
            (range_is front_parts other some)
        of_test false e long =
            let same : front_parts ≡ length (section_places (layout l)) = omega (arith, long) in
            subst (IsData l (bias_of l.kind x.number) false) (sym (ap (λ n. Found n rest) same ∙ none_rest)) tt

-- the law
pub data_loaded : DataIsLoaded
unfolding job_loads
data_loaded ls l x is =
    subst (IsData l (bias_of l.kind x.number) (has_writable_data l))
    (sym (ap (λ image. find (λ (range : Range ℕ). range.writable)
    (option_map_or (λ (own : Spelled). parts_from (images_of ls) own x 0 own.parts) image []))
    (image_is ls l x is.image)))
    (data_is ls l x is)
