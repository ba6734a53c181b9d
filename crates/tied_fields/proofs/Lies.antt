-- All that is loaded of an instance, on both sides, lies at places that have its number.
use Rattle.std.proofs.Common.{◌≡◌, ◌∙◌, ◌+◌, ◌-◌, ◌*◌, ◌<◌, ◌≤◌, ◌^◌, ◌&&◌, ◌==◌, ◌⊎◌, ℕ, suc, Bool, true, false}
use Rattle.std.proofs.Common.{List, [], ◌∷◌, ◌++◌}
use Rattle.std.proofs.Common.{Option, Some, None, IfSome, length, map, inl, inr, refl, sym, ap, arith, if◌then◌else◌}
use Rattle.std.specs.Prelude.{drop, nat_le, nat_lt, slice_get}
use Rattle.std.specs.List.{All}
use Rattle.std.proofs.lemmas.Bool.Decides.{nat_tests}
use Rattle.std.proofs.lemmas.List.{length-take}
use Rattle.std.proofs.lemmas.List.Elements.{All-append, All-cons, All-nil}
use Rattle.address_map.specs.Laws.{fixed_addresses_tell, moved_addresses_tell}
use Rattle.memory_image.proofs.Laid.{extent_low}
use Rattle.elf_records.specs.Fields.{part_at}
use Rattle.guest_operands.specs.declared.space.Access.{Access}
use Rattle.guest_operands.specs.declared.space.Access.TheVariants.{Run}
use Rattle.guest_operands.specs.Ranges.{Range, allows, byte_in, grants, holds}
use Rattle.image_file.specs.declared.part.PartClass.TheVariants as part_class
use Rattle.image_file.specs.Spelled.{Part}
use Rattle.image_writer.specs.declared.outline.PartPlace.{PartPlace}
use Rattle.image_writer.specs.Contents.{part_in}
use Rattle.image_writer.specs.Page.{file_offset}
use Rattle.image_writer.specs.Tables.{tables_part}
use Rattle.job_meaning.specs.declared.values.Byte.{Byte}
use Rattle.known_instances.proofs.StartupNumbers.{known_given}
use Rattle.link_core.proofs.Few.{table_fits}
use Rattle.link_core.specs.Bytes.{file}
use Rattle.link_core.specs.Images.{contents, file_kind, got_places, image_of, stub_places}
use Rattle.link_faults.specs.declared.image_kind.ImageKind.{ImageKind}
use Rattle.link_faults.specs.declared.image_kind.ImageKind.TheVariants.{Exe, Pie, Start, Late}
use Rattle.link_faults.specs.ImageKinds.{base_of, is_module}
use Rattle.link_needs.specs.Given.{FitsTable}
use Rattle.link_needs.specs.Linking.{Linking, layout}
use Rattle.link_needs.specs.Needs.{got_size, got_start, has_stub, stub_start}
use Rattle.loaded_bytes.proofs.Classes.{class_above, class_below}
use Rattle.loaded_bytes.proofs.Data.{rest}
use Rattle.loaded_bytes.proofs.Elsewhere.{Found, bounds, one, split, where_found}
use Rattle.loaded_bytes.proofs.Meant.{in_range}
use Rattle.loaded_bytes.proofs.Places.{places_own}
use Rattle.loaded_bytes.proofs.RunsOn.{none_runs_on}
use Rattle.loaded_bytes.proofs.Still.{fixed_is}
use Rattle.loaded_bytes.specs.Laws.{IsInstanceOf, images_of}
use Rattle.loaded_bytes.specs.Places.{IsApart, IsInMoved, IsOwn}
use Rattle.loaded_modules.specs.declared.instance.Instance.{Instance}
use Rattle.loaded_words.proofs.Placed.{placed}
use Rattle.loaded_words.specs.Laws.{IsKnown}
use Rattle.module_table.specs.declared.events.Event.{Event}
use Rattle.object_faults.specs.declared.class.SectionClass.{SectionClass}
use Rattle.object_faults.specs.declared.class.SectionClass.TheVariants.{Executable, ReadOnly, Tls}
use Rattle.thread_blocks.specs.JobLoads.{job_loads}
use Rattle.tied_meaning.specs.Ties.{IsPlaceOf}
use Rattle.tls_layout.proofs.LawsOfPlaces.{classes_follow}
use Rattle.tls_layout.specs.Places.{room, zero_data}
use Rattle.tls_layout.specs.Rounding.{page_up, round_up}
use Rattle.whole_meaning.specs.Loads.{still_ranges, class_range}
use Rattle.whole_meaning.specs.Spots.{bias_of, in_room}
use Rattle.tied_fields.specs.Laws.{PlacesAreTied}
use Rattle.tied_fields.proofs.CodeBytes.{fixed_meant, room_is}
use Rattle.image_names.specs.Functions.{is_code}

-- ** a place of its own

module _ (ls : List Linking) (history : List Event) (l : Linking) (x : Instance) (known : IsKnown ls history x)
    (is : IsInstanceOf ls l x) where
  -- the number is in the address of what is moved
  moved : (place : ℕ) → 0 + (2 ^ 32 + x.number * 2 ^ 26) ≤ place → place < 0 + 2 ^ 26 + (2 ^ 32 + x.number * 2 ^ 26)
      → IsPlaceOf x place
  moved place low high =
      let given = known_given (job_loads (images_of ls)) history known.legal x.number x known.known in (
        moved_addresses_tell x.number place (omega (arith, low)) (omega (arith, high)),
        (omega (arith, low), omega (arith, high, given.low)),
      )

  -- and a program that is not is instance 1
  own_place : (kind : ImageKind) → l.kind ≡ kind → (place : ℕ) → base_of kind + bias_of kind x.number ≤ place
      → place < base_of kind + 2 ^ 26 + bias_of kind x.number → IsPlaceOf x place
  own_place Exe e place low high =
      let one : x.number ≡ 1 = (placed ls l x history known is.image).number (ap is_module e) in
      (fixed_addresses_tell place (omega (arith, high)) ∙ sym one, (omega (arith, low), omega (arith, high)))
  own_place Pie e place low high = moved place low high
  own_place Start e place low high = moved place low high
  own_place Late e place low high = moved place low high

  pub own : (place : ℕ) → IsOwn l (bias_of l.kind x.number) place → IsPlaceOf x place
  own place at = own_place l.kind refl place at.0 at.1

  -- ** what the meaning has

  of_class : (class : SectionClass) (place : ℕ) → IsInMoved l (bias_of l.kind x.number) class place → IsPlaceOf x place
  of_class class place here =
      let above = class_above (layout l) class in
      let below = extent_low class (layout l) is.links.sound.limits.lawful in
      own place (omega (arith, here.1, here.2.0, above), omega (arith, here.1, here.2.1, below))

  second : (a b : Bool) → (a && b) ≡ true → b ≡ true
  second true b e = e
  second false b e = absurd (cc)

  -- what is found in ranges is in the first or in the others
  first_or : (access : Access) (r : Range Byte) (more : List (Range Byte)) (place : ℕ) (byte : Byte)
      → byte_in access (r ∷ more) place ≡ Some byte
      → (holds r place ≡ true) ⊎ (byte_in access more place ≡ Some byte)
  first_or access r more place byte e = of_test (grants access r place) refl e
    where
      of_test : (t : Bool) → grants access r place ≡ t
          → (if t then slice_get r.bytes (place - r.start) else byte_in access more place) ≡ Some byte
          → (holds r place ≡ true) ⊎ (byte_in access more place ≡ Some byte)
      of_test true h e = inl (second (allows access r) (holds r place) h)
      of_test false h e = inr e

  meant : (access : Access) (place : ℕ) (byte : Byte)
      → byte_in access (still_ranges l (bias_of l.kind x.number)) place ≡ Some byte → IsPlaceOf x place
  meant access place byte e =
      let bias = bias_of l.kind x.number in
      let constants = class_range l (bias_of l.kind x.number) ReadOnly in
      let initial = class_range l (bias_of l.kind x.number) (Tls true) in
      elim (first_or access (class_range l (bias_of l.kind x.number) Executable)
      (constants ∷ initial ∷ []) place byte e) [
        | inl code ↦ of_class Executable place (in_range ls l x is Executable place code)
        | inr past ↦ elim (first_or access constants (initial ∷ []) place byte past) [
          | inl constant ↦ of_class ReadOnly place (in_range ls l x is ReadOnly place constant)
          | inr past ↦ elim (first_or access initial [] place byte past) [
            | inl image ↦ of_class (Tls true) place (in_range ls l x is (Tls true) place image)
            | inr none ↦ absurd (cc)
          ]
        ]
      ]

  in_the_room : (place : ℕ) → in_room l (bias_of l.kind x.number) place ≡ true → IsPlaceOf x place
  unfolding in_room
  in_the_room place e =
      let at = bounds_of (room (layout l).kind (layout l).sections + bias_of l.kind x.number) place
      (base_of l.kind + 2 ^ 26 + bias_of l.kind x.number) e in
      let above = class_above (layout l) Executable in
      let rise = (classes_follow (layout l)).rise Executable in
      let below = class_below (layout l) Executable in
      own place (omega (arith, at.0, above, rise, below), at.1)
    where
      bounds_of : (a b c : ℕ) → (nat_le a b && nat_lt b c) ≡ true → (a ≤ b) × (b < c)
      bounds_of a b c e = grind (arith, nat_tests)

-- ** what is run ends early

module _ (l : Linking) (fits : FitsTable l) where
  small_page : (n : ℕ) → page_up n ≤ n + 4096
  unfolding page_up round_up
  small_page n = omega arith

  room_low : room (layout l).kind (layout l).sections ≤ base_of l.kind + 2 ^ 24 + 4096
  unfolding room
  room_low =
      let span = fits.lawful.small_span in
      let end : ℕ = (zero_data (layout l).kind (layout l).sections).end in
      omega (arith, span, small_page (zero_data (layout l).kind (layout l).sections).end)

  stub_low : stub_start l + 10 ≤ base_of l.kind + 2 ^ 26
  stub_low = omega (arith, room_low, fits.got, small_page (got_start l + got_size l))

  -- what is code of some parts
  abbrev IsEarly : PartPlace → Type 0
  IsEarly p = is_code p.class ≡ true → p.address + p.size + 4 ≤ base_of l.kind + 2 ^ 26

  abbrev IsPartEarly : Part → Type 0
  IsPartEarly p = is_code p.class ≡ true → p.address + length p.bytes + 4 ≤ base_of l.kind + 2 ^ 26

  got_early : All IsEarly (got_places l)
  got_early = of_test (got_size l == 0)
    where
      of_test : (t : Bool)
          → All IsEarly (if t then []
          else record { class = part_class.Writable; address = got_start l; size = got_size l } ∷ [])
      of_test true = All-nil IsEarly
      of_test false =
          All-cons IsEarly (record { class = part_class.Writable; address = got_start l; size = got_size l }) []
          (λ e. absurd (cc)) (All-nil IsEarly)

  stub_early : All IsEarly (stub_places l)
  stub_early = of_test (has_stub l)
    where
      of_test : (t : Bool)
          → All IsEarly (if t then record { class = part_class.Executable; address = stub_start l; size = 6 } ∷ []
          else [])
      of_test true =
          All-cons IsEarly (record { class = part_class.Executable; address = stub_start l; size = 6 }) []
          (λ e. omega (arith, stub_low)) (All-nil IsEarly)
      of_test false = All-nil IsEarly

  long : (p : PartPlace) → length (part_in (file_kind l.kind) (file l) p).bytes ≤ p.size
  unfolding part_at
  long p =
      omega (arith, length-take p.size (drop (file_offset (file_kind l.kind) p.address) (file l)))

  mapped : (ps : List PartPlace) → All IsEarly ps → All IsPartEarly (map (part_in (file_kind l.kind) (file l)) ps)
  mapped [] all = All-nil IsPartEarly
  mapped (p ∷ ps) all =
      All-cons IsPartEarly (part_in (file_kind l.kind) (file l) p) (map (part_in (file_kind l.kind) (file l)) ps)
      (λ e. let at = all 0 p (omega arith) e in omega (arith, at, long p))
      (mapped ps (λ k d below. all (suc k) d (omega (arith, below))))

  tables_early : IsPartEarly (tables_part (contents l))
  unfolding tables_part
  tables_early e = absurd (cc)

  pub rest_early : All IsPartEarly (map (part_in (file_kind l.kind) (file l)) (got_places l ++ stub_places l)
      ++ (tables_part (contents l) ∷ []))
  rest_early =
      All-append IsPartEarly (map (part_in (file_kind l.kind) (file l)) (got_places l ++ stub_places l))
      (tables_part (contents l) ∷ [])
      (mapped (got_places l ++ stub_places l) (All-append IsEarly (got_places l) (stub_places l) got_early stub_early))
      (All-cons IsPartEarly (tables_part (contents l)) [] tables_early (All-nil IsPartEarly))

module _ (ls : List Linking) (l : Linking) (x : Instance) (is : IsInstanceOf ls l x) (place byte : ℕ) where
  fits : FitsTable l
  fits = table_fits l is.given is.links.sound.limits

  early : (n : ℕ) (ps : List Part) → All (IsPartEarly l fits) ps → Found ls l x is Run place byte n ps
      → place + 4 ≤ base_of l.kind + 2 ^ 26 + bias_of l.kind x.number
  early n [] all e = absurd (cc)
  early n (p ∷ ps) all e = elim (split ls l x is Run place byte n (p ∷ []) ps e) [
    | inl here ↦
        let found = one ls l x is Run place byte n p here in
        let at = bounds ls l x is Run place byte n p found in
        let low : p.address + length p.bytes + 4 ≤ base_of l.kind + 2 ^ 26 = all 0 p (omega arith) found.allowed in
        omega (arith, at.1, low)
    | inr there ↦ early (n + 1) ps (λ k d below. all (suc k) d (omega (arith, below))) there
  ]

  run_early : Found ls l x is Run place byte 0 (image_of l).parts
      → place + 4 ≤ base_of l.kind + 2 ^ 26 + bias_of l.kind x.number
  run_early e = elim (where_found ls l x is Run place byte e) [
    | inl here ↦
        let below = class_below (layout l) Executable in
        let low = room_low l fits in
        (let at = here.2.1 in let high = here.2.2.1 in omega (arith, below, at, high, low))
    | inr past ↦ elim past [
      | inl here ↦ let no = here.1.allowed in absurd (cc)
      | inr past ↦ elim past [
        | inl here ↦ let no = here.1.allowed in absurd (cc)
        | inr here ↦ early here.0 (rest ls l x) (rest_early l fits) here.1
      ]
    ]
  ]

  pub ends_early : byte_in Run ((job_loads (images_of ls)).fixed x) place ≡ Some byte
      → place + 4 ≤ base_of l.kind + 2 ^ 26 + bias_of l.kind x.number
  ends_early e =
      run_early (sym (ap (λ (ranges : List (Range ℕ)). byte_in Run ranges place) (fixed_is ls l x is.image)) ∙ e)

-- ** the law

mapped_all : {X : Type 0} (P Q : X → Type 0) (xs : List X) → ((x : X) → P x → Q x) → All P xs → All Q xs
mapped_all P Q xs f all = λ k d below. f _ (all k d below)

pub lies_there : PlacesAreTied
lies_there ls history l x known is = record {
  there = λ access place byte e. own ls history l x known is place ((places_own ls l x is).fixed access place byte e);
  meant_there = λ access place byte e. meant ls history l x known is access place byte
      (sym (ap (λ ranges. byte_in access ranges place) (fixed_meant ls l x is.image)) ∙ e);
  rooms = λ place e. in_the_room ls history l x known is place (sym (room_is ls l x place is.image) ∙ e);
  tables = mapped_all
      (λ (range : Range ℕ). (place : ℕ) → holds range place ≡ true → IsOwn l (bias_of l.kind x.number) place)
      (λ (range : Range ℕ). (place : ℕ) → holds range place ≡ true → IsPlaceOf x place)
      ((job_loads (images_of ls)).tables x) (λ range all place h. own ls history l x known is place (all place h))
      (places_own ls l x is).tables;
  data_there = of_data ((job_loads (images_of ls)).shared x) (places_own ls l x is).shared;
  run_on = λ here k few out inside.
      none_runs_on ls l x here k is few (sym (room_is ls l x here is.image) ∙ out)
      (sym (room_is ls l x (here + k) is.image) ∙ inside);
  ends = λ place k byte few e.
      let low = ((places_own ls l x is).fixed Run place byte e).0 in
      let high = ends_early ls l x is place byte e in
      (own ls history l x known is (place + k) (omega (arith, low), omega (arith, few, high))).0;
}
  where
    of_data : (found : Option (Range ℕ))
        → IfSome found (IsApart l (bias_of l.kind x.number) ((job_loads (images_of ls)).fixed x))
        → IfSome found (λ (range : Range ℕ). (range.runnable ≡ false)
        × ((place : ℕ) → holds range place ≡ true
        → IsPlaceOf x place × ((access : Access) → byte_in access ((job_loads (images_of ls)).fixed x) place ≡ None)))
    of_data None apart = tt
    of_data (Some range) apart = (
      apart.runnable,
      λ place h. (own ls history l x known is place (apart.own place h), apart.apart place h),
    )
