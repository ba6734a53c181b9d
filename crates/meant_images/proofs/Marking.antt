-- The table of an image's code says what stands at each address.
use Rattle.std.proofs.Common.{◌≡◌, ◌≢◌, ◌∙◌, ◌+◌, ◌-◌, ◌<◌, ◌≤◌, ◌^◌, ℕ, Bool, true, false, List, [], Option, None}
use Rattle.std.proofs.Common.{Some, length, get_or, inl, inr, refl, sym, ap, subst, arith}
use Rattle.std.specs.Prelude.{◌&&◌, IsSome, if◌then◌else◌, nat_le, nat_lt, slice_get, slice_index_or, unwrap_or}
use Rattle.std.proofs.lemmas.Bool.{cases_lt}
use Rattle.std.proofs.lemmas.Bool.Decides.{nat_tests}
use Rattle.std.proofs.lemmas.List.FromFn.{get_or-map-range_with_len, length-map-range_with_len}
use Rattle.std.proofs.lemmas.Option.{get_or_from_slice_get, slice_get-get_or, slice_get_past, slice_get_within}
use Rattle.elf_object.specs.Lent.{section_class, section_size}
use Rattle.elf_object.specs.Object.{section_count}
use Rattle.link_needs.specs.Given.{IsGiven}
use Rattle.link_needs.specs.Linking.{Linking, layout, object}
use Rattle.meant_images.specs.declared.entries.Entry.{Entry}
use Rattle.meant_images.specs.declared.entries.Entry.TheVariants.{Usual}
use Rattle.meant_images.specs.declared.kept.KeptObject.{KeptObject}
use Rattle.meant_images.specs.declared.painting.Cell.{Cell}
use Rattle.meant_images.specs.CodeCells.{Shows, code_cell, no_cell}
use Rattle.meant_images.specs.Entries.{mark_by, sequence_by}
use Rattle.meant_images.specs.Kept.{AreEntries, KeepAll}
use Rattle.memory_image.specs.Laying.{IsOfClass, cell_of, cells_from, class_cells}
use Rattle.meant_images.specs.Marked.{AreMarks, Says, cell_at, moved_cell}
use Rattle.memory_image.proofs.Founds.{spot_is}
use Rattle.memory_image.proofs.Laid.{extent_low, extent_rises}
use Rattle.meant_images.proofs.Shown.{code_shows}
use Rattle.object_faults.specs.declared.class.SectionClass.{SectionClass}
use Rattle.object_faults.specs.declared.class.SectionClass.TheVariants.{Executable, ReadOnly, Tls, Writable}
use Rattle.tls_layout.proofs.LawsOfPlaces.{have_addresses, lie_in_classes}
use Rattle.tls_layout.proofs.LawsOfSections.{finds_sections}
use Rattle.tls_layout.specs.Places.{IsLawful, address_of, class_of, executable, section_named}
use Rattle.tls_layout.specs.Sections.{is_class}
use Rattle.whole_meaning.specs.declared.marks.Mark.TheVariants as mark
use Rattle.whole_meaning.specs.Code.{mark_of, sequence_of}
use Rattle.whole_meaning.specs.Spots.{Spot, begin_of, bias_of, moved_spot, spot_in, stands_at}

-- ** what stands in code stands where code lies

is_code : (class : Option SectionClass) → is_class Executable class ≡ true → class ≡ Some Executable
is_code (Some Executable) h = refl
is_code None h = absurd (cc h)
is_code (Some ReadOnly) h = absurd (cc h)
is_code (Some (Tls initial)) h = absurd (cc h)
is_code (Some (Writable initial)) h = absurd (cc h)

both_true : (a b : Bool) → (a && b) ≡ true → (a ≡ true) × (b ≡ true)
both_true true b h = (refl, h)
both_true false b h = absurd (cc h)

in_range : (begin size a : ℕ) → (nat_le begin a && nat_lt a (begin + size)) ≡ true → (begin ≤ a) × (a < begin + size)
in_range begin size a h = (grind (arith, nat_tests), grind (arith, nat_tests))

pub record IsInCode (l : Linking) (a : ℕ) (spot : Spot) : Type 0 where
  pub of_class : IsOfClass l Executable spot.object spot.section
  pub from : (executable (layout l).kind (layout l).sections).start ≤ a
  pub to : a < (executable (layout l).kind (layout l).sections).end

some_of : (x : Option ℕ) → IsSome x → (n : ℕ) × (x ≡ Some n)
some_of None h = absurd (cc h)
some_of (Some n) h = (n, refl)

not_zero : Executable ≢ Tls false
not_zero e = cc

pub in_code : (l : Linking) (a : ℕ) (spot : Spot) → IsLawful (layout l) → spot_in l Executable a ≡ Some spot
    → IsInCode l a spot
unfolding spot_in
in_code l a spot lawful e =
    let p = layout l in
    let x = spot_is p Executable a 0 l.objects spot e in
    let o = spot.object in
    let s = spot.section in
    let at : x.at ≡ o = omega (arith, x.number) in
    let there : o < length l.objects = omega (arith, x.there, x.number) in
    let stands = subst (λ (n : ℕ). stands_at p Executable o (slice_index_or l.objects n []) a s ≡ true) at x.stands in
    let tests = both_true (is_class Executable (section_class (object l o) s)) _ stands in
    let code : section_class (object l o) s ≡ Some Executable = is_code (section_class (object l o) s) tests.0 in
    let range = in_range (begin_of p o s) (section_size (object l o) s) a tests.1 in
    let found = finds_sections l.kind l.objects o s there in
    let class : class_of p o s ≡ Some Executable = found.class_is ∙ code in
    let size : (section_named p o s).size ≡ section_size (object l o) s =
    found.size_is (subst (λ (c : Option SectionClass). IsSome c) (sym code) refl) in
    let address = some_of (address_of p o s) (have_addresses p o s Executable class not_zero) in
    let begin : begin_of p o s ≡ address.0 = ap (λ (n : Option ℕ). unwrap_or n 0) address.1 in
    let lies = lie_in_classes p lawful o s address.0 Executable class address.1 in
    let low = lies.begins in
    let high = lies.ends in
    record {
      of_class = record {
        object_there = there;
        section_there = subst (λ (n : ℕ). s < section_count (slice_index_or l.objects n [])) at x.within;
        class_is = code;
      };
      from = omega (arith, range.0, begin, low);
      to = omega (arith, range.1, begin, high, size);
    }

-- ** the table

module _ (ls : List Linking) (l : Linking) (entries : List Entry) (kept : List KeptObject) (given : IsGiven l)
    (lawful : IsLawful (layout l))
    (are : AreEntries entries) (keep : KeepAll ls l entries kept (length l.objects)) where
  abbrev start : ℕ
  start = (executable (layout l).kind (layout l).sections).start

  abbrev end : ℕ
  end = (executable (layout l).kind (layout l).sections).end

  -- where no code lies nothing stands
  none_outside : (a : ℕ) → (start ≤ a → a < end → ⊥) → spot_in l Executable a ≡ None
  none_outside a outside = by_spot (spot_in l Executable a) refl
    where
      by_spot : (spot : Option Spot) → spot_in l Executable a ≡ spot → spot ≡ None
      by_spot None e = refl
      by_spot (Some spot) e = let x = in_code l a spot lawful e in absurd (outside x.from x.to)

  gap_shows : Shows ls l entries None no_cell
  gap_shows =
      let got : slice_index_or entries 0 Usual ≡ Usual = get_or_from_slice_get entries 0 Usual Usual are.first in
      record {
        there = slice_get_within entries 0 Usual are.first;
        marked = λ bias. rw got refl;
        begins = λ image number place. rw got refl;
      }

  address_shows : (a : ℕ)
      → Shows ls l entries (spot_in l Executable a) (cell_of (code_cell kept l) no_cell (spot_in l Executable a))
  address_shows a = by_spot (spot_in l Executable a) refl
    where
      by_spot : (spot : Option Spot) → spot_in l Executable a ≡ spot
          → Shows ls l entries spot (cell_of (code_cell kept l) no_cell spot)
      by_spot None e = gap_shows
      by_spot (Some spot) e =
          let x = (in_code l a spot lawful e).of_class in
          code_shows ls l entries kept spot.object spot.section spot.within given are keep x.object_there x.section_there x.class_is

  module _ (cells : List Cell) (table : cells ≡ class_cells (code_cell kept l) l Executable no_cell) where
    long : length cells ≡ end - start
    unfolding cells_from
    long = ap length table ∙ length-map-range_with_len
        (λ a. cell_of (code_cell kept l) no_cell (spot_in l Executable a)) start (end - start)

    in_table : (a : ℕ) → start ≤ a → a - start < end - start
        → slice_get cells (a - start) ≡ Some (cell_of (code_cell kept l) no_cell (spot_in l Executable a))
    unfolding cells_from
    in_table a from to =
        let f : ℕ → Cell = λ n. cell_of (code_cell kept l) no_cell (spot_in l Executable n) in
        let one : get_or cells (a - start) no_cell ≡ f a =
        ap (λ (xs : List Cell). get_or xs (a - start) no_cell) table
        ∙ get_or-map-range_with_len f start (end - start) (a - start) a no_cell to (omega (arith, from)) in
        let inside : a - start < length cells = omega (arith, to, long) in
        slice_get-get_or cells (a - start) no_cell inside ∙ ap (λ (x : Cell). Some x) one

    abbrev said : ℕ → Option Cell → Type 0
    said a found = Says ls l entries (spot_in l Executable a) found

    from_start : (a : ℕ) → start ≤ a → said a (slice_get cells (a - start))
    from_start a from = elim (cases_lt (a - start) (end - start)) [
      | inl to ↦ subst (said a) (sym (in_table a from to)) (address_shows a)
      | inr past ↦
          let none : slice_get cells (a - start) ≡ None =
          slice_get_past cells (a - start) (omega (arith, past, long)) in
          subst (said a) (sym none) (none_outside a (λ low high. omega (arith, past, low, high)))
    ]

    all_said : (a : ℕ) → said a (cell_at start cells a)
    all_said a = elim (cases_lt a start) [
      | inl below ↦
          let no : nat_le start a ≡ false = grind (arith, nat_tests) in
          let none : cell_at start cells a ≡ None =
          ap (λ (t : Bool). if t then slice_get cells (a - start) else None) no in
          subst (said a) (sym none) (none_outside a (λ low high. omega (arith, below, low)))
      | inr from ↦
          let yes : nat_le start a ≡ true = grind (arith, nat_tests) in
          let some : cell_at start cells a ≡ slice_get cells (a - start) =
          ap (λ (t : Bool). if t then slice_get cells (a - start) else None) yes in
          subst (said a) (sym some) (from_start a from)
    ]

    pub are_marks : AreMarks ls l start cells entries
    are_marks = record {
      low = let rises = extent_rises Executable (layout l) in let most = extent_low Executable (layout l) lawful in
          omega (arith, rises, most, long);
      numbered = are.numbered;
      say = all_said;
    }

-- ** what is read from it

module _ (ls : List Linking) (l : Linking) (first : ℕ) (cells : List Cell) (entries : List Entry)
    (marks : AreMarks ls l first cells entries) where
  says_where : (address : ℕ) (is_below : Bool) → Says ls l entries
      (if is_below then None else spot_in l Executable address) (if is_below then None else cell_at first cells address)
  says_where address true = refl
  says_where address false = marks.say address

  moved : (bias place : ℕ) → Says ls l entries (moved_spot l Executable bias place) (moved_cell first cells bias place)
  moved bias place = says_where (place - bias) (nat_lt place bias)

  pub shown_at : (bias place : ℕ) (cell : Cell) → moved_cell first cells bias place ≡ Some cell
      → Shows ls l entries (moved_spot l Executable bias place) cell
  shown_at bias place cell is =
      subst (λ (found : Option Cell). Says ls l entries (moved_spot l Executable bias place) found) is
      (moved bias place)

  none_at : (bias place : ℕ) → moved_cell first cells bias place ≡ None → moved_spot l Executable bias place ≡ None
  none_at bias place is =
      subst (λ (found : Option Cell). Says ls l entries (moved_spot l Executable bias place) found) is
      (moved bias place)

  pub mark_some : (bias place : ℕ) (cell : Cell) → moved_cell first cells bias place ≡ Some cell
      → mark_by bias (slice_index_or entries cell.entry Usual) cell.byte ≡ mark_of l bias place
  unfolding mark_of
  mark_some bias place cell is = (shown_at bias place cell is).marked bias

  pub mark_none : (bias place : ℕ) → moved_cell first cells bias place ≡ None → mark.Usual ≡ mark_of l bias place
  unfolding mark_of
  mark_none bias place is = rw (none_at bias place is) refl

  pub sequence_some : (image number place : ℕ) (cell : Cell)
      → moved_cell first cells (bias_of l.kind number) place ≡ Some cell
      → sequence_by image number place (slice_index_or entries cell.entry Usual) cell.byte
      ≡ sequence_of ls image number l place
  unfolding sequence_of
  sequence_some image number place cell is = (shown_at (bias_of l.kind number) place cell is).begins image number place

  pub sequence_none : (image number place : ℕ) → moved_cell first cells (bias_of l.kind number) place ≡ None
      → None ≡ sequence_of ls image number l place
  unfolding sequence_of
  sequence_none image number place is = rw (none_at (bias_of l.kind number) place is) refl

  low_above : (bias place : ℕ) (cell : Cell) → bias ≤ 2 ^ 60 → cell_at first cells (place - bias) ≡ Some cell
      → place < 2 ^ 63
  low_above bias place cell few is = elim (cases_lt (place - bias) first) [
    | inl below ↦ let low = marks.low in omega (arith, below, low)
    | inr from ↦
        let yes : nat_le first (place - bias) ≡ true = grind (arith, nat_tests) in
        let some : slice_get cells (place - bias - first) ≡ Some cell =
        sym (ap (λ (t : Bool). if t then slice_get cells (place - bias - first) else None) yes) ∙ is in
        let within = slice_get_within cells (place - bias - first) cell some in
        let low = marks.low in
        omega (arith, within, low, from)
  ]

  -- a place that has a cell is low
  pub low_at : (bias place : ℕ) (cell : Cell) → bias ≤ 2 ^ 60 → moved_cell first cells bias place ≡ Some cell
      → place < 2 ^ 63
  low_at bias place cell few is = elim (cases_lt place bias) [
    | inl below ↦ omega (arith, below, few)
    | inr above ↦
        let no : nat_lt place bias ≡ false = grind (arith, nat_tests) in
        low_above bias place cell few
        (sym (ap (λ (t : Bool). if t then None else cell_at first cells (place - bias)) no) ∙ is)
  ]
