-- The TLS segment of an image is as a page of headers wants it.
use Rattle.std.proofs.Common.{◌≡◌, ◌+◌, ◌-◌, ◌*◌, ◌%◌, ◌<◌, ◌==◌, ◌∙◌, ℕ, Bool, true, false, List, [], ◌∷◌, ◌++◌, Some}
use Rattle.std.proofs.Common.{None, length, get_or, refl, ap, arith, inl, inr, length-append, mul_assoc}
use Rattle.std.specs.Prelude.{fold, if◌then◌else◌}
use Rattle.std.specs.List.{All}
use Rattle.std.specs.Option.{IfSome}
use Rattle.std.proofs.Math.Nat.{mul-mod_right}
use Rattle.std.proofs.lemmas.Bool.{cases_lt, lt-ltb}
use Rattle.std.proofs.lemmas.Bool.Decides.{nat_tests}
use Rattle.std.proofs.lemmas.List.{get_or_append_left, get_or-append-add}
use Rattle.std.proofs.lemmas.List.Elements.{All-head, All-tail}
use Rattle.elf_records.specs.Alignments.{IsAlignment}
use Rattle.object_faults.specs.declared.class.SectionClass.TheVariants as class
use Rattle.image_file.specs.declared.part.PartClass.TheVariants.{Executable, ReadOnly, Writable}
use Rattle.image_file.specs.declared.part.TlsPart.{TlsPart}
use Rattle.image_writer.specs.declared.outline.PartPlace.{PartPlace}
use Rattle.image_writer.specs.Loadable.{HoldsInitial, IsRightTlsPart}
use Rattle.image_writer.specs.Outlined.{Outlined, no_part}
use Rattle.tls_layout.specs.declared.extent.Extent.{Extent}
use Rattle.tls_layout.specs.declared.sections.Section.{Section}
use Rattle.tls_layout.specs.Places.{executable, greatest_alignment, initial_tls, next_alignment, read_only}
use Rattle.tls_layout.specs.Places.{tls_alignment, tls_image, tls_size, writable, IsLawful}
use Rattle.tls_layout.specs.Rounding.{IsMultiple}
use Rattle.tls_layout.specs.Sections.{Layout, IsOrdinary}
use Rattle.tls_layout.proofs.LawsOfPlaces.{classes_follow}
use Rattle.tls_layout.proofs.LawsOfTls.{front_of_segment}
use Rattle.tls_layout.proofs.Rounds.{power_divides}
use Rattle.tls_layout.proofs.Together.{ascend, power_more, rise}
use Rattle.link_needs.specs.Linking.{Linking, layout}
use Rattle.link_core.specs.Images.{file_kind, filled, got_number, got_places, places, section_places, stub_places}
use Rattle.link_core.specs.Images.{tls_part}
pub use Rattle.link_core.proofs.LengthsPlaces.{same_base}

-- ** its alignment

-- the greatest alignment is a power of two
greatest_power : (greatest : ℕ) (xs : List Section) → IsAlignment greatest → All IsOrdinary xs
    → IsAlignment (fold next_alignment greatest xs)
greatest_power greatest [] power ordinary = power
greatest_power greatest (x ∷ xs) power ordinary =
    greatest_power (next_alignment greatest x) xs (power_more greatest x power (All-head IsOrdinary x xs ordinary))
    (All-tail IsOrdinary x xs ordinary)

-- that of the segment
pub alignment_power : (sections : List Section) → All IsOrdinary sections → IsAlignment (tls_alignment sections)
unfolding tls_alignment greatest_alignment
alignment_power sections ordinary = of_test (tls_size sections == 0)
  where
    one : IsAlignment 1
    one = (0, omega arith, refl)

    of_test : (t : Bool) → IsAlignment (if t then 1 else fold next_alignment 1 sections)
    of_test true = one
    of_test false = greatest_power 1 sections one ordinary

-- a page is aligned as any section
page_aligned : (n a : ℕ) → IsMultiple n 4096 → IsAlignment a → n % a ≡ 0
page_aligned n a page power =
    let divides = power_divides a power in
    let e : n ≡ a * (divides.0 * page.0) = page.1 ∙ (ap (λ m. m * page.0) divides.1 ∙ mul_assoc a divides.0 page.0) in
    rw e (mul-mod_right a (divides.0 * page.0))

-- ** its initial image

-- a class with bytes is found behind the parts before it
found_behind : (front more : List PartPlace) (x : Extent) → x.start < x.end
    → get_or (front ++ (filled ReadOnly x ++ more)) (length front) no_part
    ≡ record { class = ReadOnly; address = x.start; size = x.end - x.start }
found_behind front more x some =
    let here : length front ≡ length front + 0 = omega arith in
    let moved = get_or-append-add front (filled ReadOnly x ++ more) 0 no_part in
    ap (λ n. get_or (front ++ (filled ReadOnly x ++ more)) n no_part) here
    ∙ (moved ∙ rw (lt-ltb x.start x.end some) refl)

-- the initial image is one of the sections' parts
record IsFound (p : Layout) : Type 0 where
  number : ℕ
  inside : number < length (section_places p)
  is : get_or (section_places p) number no_part
      ≡ record {
        class = ReadOnly;
        address = (tls_image p.kind p.sections).start;
        size = (tls_image p.kind p.sections).end - (tls_image p.kind p.sections).start;
      }

-- it is found where it has bytes
image_found : (p : Layout) → (tls_image p.kind p.sections).start < (tls_image p.kind p.sections).end → IsFound p
unfolding section_places
image_found p some =
    let first = filled Executable (executable p.kind p.sections) in
    let second = filled ReadOnly (read_only p.kind p.sections) in
    let image = tls_image p.kind p.sections in
    let back = filled Writable (writable p.kind p.sections) in
    let one : length (filled ReadOnly image) ≡ 1 = rw (lt-ltb image.start image.end some) refl in
    record {
      number = length first + length second;
      inside = omega (
        arith,
        one,
        length-append first (second ++ (filled ReadOnly image ++ back)),
        length-append second (filled ReadOnly image ++ back),
        length-append (filled ReadOnly image) back,
      );
      is = get_or-append-add first (second ++ (filled ReadOnly image ++ back)) (length second) no_part
          ∙ found_behind second back image some;
    }

-- ** an outline of the parts, with the tables behind them

-- what a page of headers says of the image
abbrev pub outline : Linking → PartPlace → ℕ → Outlined
outline l tables size = record {
  kind = file_kind l.kind;
  parts = places l ++ (tables ∷ []);
  array_size = size;
  got = got_number l;
  tls = tls_part (layout l);
}

-- the segment as its part says
abbrev pub segment : Layout → TlsPart
segment p = record {
  address = (tls_image p.kind p.sections).start;
  initial = (initial_tls p.sections).end;
  size = tls_size p.sections;
  alignment = tls_alignment p.sections;
}

-- a part holds the initial image
initial_held : (l : Linking) (tables : PartPlace) (size : ℕ) → IsLawful (layout l)
    → 0 < (initial_tls (layout l).sections).end
    → (i : ℕ) × HoldsInitial (outline l tables size) (segment (layout l)) i
unfolding places
initial_held l tables size lawful some =
    let p = layout l in
    let front = front_of_segment p lawful in
    let len = front.len in
    let found = image_found p (omega arith) in
    let rest = got_places l ++ stub_places l in
    let inside = found.inside in
    let first = length-append (section_places p) rest in
    let second = length-append (section_places p ++ rest) (tables ∷ []) in
    let part : get_or ((section_places p ++ rest) ++ (tables ∷ [])) found.number no_part
    ≡ record {
      class = ReadOnly;
      address = (tls_image p.kind p.sections).start;
      size = (tls_image p.kind p.sections).end - (tls_image p.kind p.sections).start;
    } =
    get_or_append_left (section_places p ++ rest) (tables ∷ []) no_part found.number (omega arith)
    ∙ (get_or_append_left (section_places p) rest no_part found.number inside ∙ found.is) in (
      found.number,
      (
        omega arith,
        ap (λ (x : PartPlace). x.class) part,
        ap (λ (x : PartPlace). x.address) part,
        ap (λ (x : PartPlace). x.size) part ∙ omega arith,
      ),
    )

-- the segment is as it ought to be
right_segment : (l : Linking) (tables : PartPlace) (size : ℕ) → IsLawful (layout l) → 0 < tls_size (layout l).sections
    → IsRightTlsPart (outline l tables size) (segment (layout l))
right_segment l tables size lawful some =
    let p = layout l in
    let f = classes_follow p in
    let w = ascend p.kind p.sections in
    let r = rise p.kind p.sections in
    let power = alignment_power p.sections lawful.ordinary in
    record {
      placed = omega (arith, same_base l.kind, w.first, w.second, r.read_only_up, w.third);
      initial_in = (front_of_segment p lawful).inside;
      filled = some;
      small = lawful.small_tls;
      alignment = power;
      aligned = page_aligned (tls_image p.kind p.sections).start (tls_alignment p.sections)
          (f.pages (class.Tls true)) power;
      held = elim (cases_lt 0 (initial_tls p.sections).end) [
        | inl there ↦ inr (initial_held l tables size lawful there)
        | inr none ↦ inl (omega arith)
      ];
    }

-- where there is one
pub right_tls : (l : Linking) (tables : PartPlace) (size : ℕ) → IsLawful (layout l)
    → IfSome (tls_part (layout l)) (IsRightTlsPart (outline l tables size))
unfolding tls_part
right_tls l tables size lawful = of_test (tls_size (layout l).sections == 0) refl
  where
    some_if : (n : ℕ) → (n == 0) ≡ false → 0 < n
    some_if n h = grind (arith, nat_tests)

    of_test : (t : Bool) → (tls_size (layout l).sections == 0) ≡ t
        → IfSome (if t then None else Some (segment (layout l))) (IsRightTlsPart (outline l tables size))
    of_test true is = tt
    of_test false is = right_segment l tables size lawful (some_if (tls_size (layout l).sections) is)
