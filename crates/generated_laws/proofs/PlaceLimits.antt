-- Sections of at most 1,000 tiny objects are within the limits of a layout.
use Rattle.std.proofs.Common.{◌+◌, ◌*◌, ◌<◌, ◌≤◌, ◌^◌, ◌++◌, ℕ, suc, List, [], ◌∷◌, length}
use Rattle.std.proofs.Common.{true, false, arith}
use Rattle.std.specs.Prelude.{fold, slice_index_or}
use Rattle.std.specs.List.{All, flat_map}
use Rattle.std.proofs.lemmas.List.Elements.{All-append, All-nil}
use Rattle.std.proofs.lemmas.List.Sums.{fold-append}
use Rattle.object_faults.specs.declared.class.SectionClass.{SectionClass}
use Rattle.object_faults.specs.declared.class.SectionClass.TheVariants.{Executable, ReadOnly, Tls, Writable}
use Rattle.generated_job.specs.Shapes.{Shape}
use Rattle.link_faults.specs.declared.image_kind.ImageKind.{ImageKind}
use Rattle.link_faults.specs.ImageKinds.{base_of}
use Rattle.tls_layout.specs.Places.{IsLawful, end_of, executable, initial_data, initial_tls, next_end, read_only, span}
use Rattle.tls_layout.specs.Places.{tls_image, tls_size, zero_data, zero_tls}
use Rattle.tls_layout.specs.Rounding.{page_up}
use Rattle.tls_layout.specs.Sections.{IsOrdinary, all_sections, layout_of, sections_of}
use Rattle.tls_layout.proofs.Ends.{end_of-rises}
use Rattle.tls_layout.proofs.Rounds.{round_up-near}
use Rattle.generated_laws.proofs.PlaceSections.{ReadsTiny, eight_end, eight_initial, eight_ordinary}
use Rattle.generated_laws.proofs.PlaceSections.{sections_are}

-- each of these objects reads as some tiny shape
abbrev pub AreTiny : List (List ℕ) → Type 0
AreTiny objects = (o : ℕ) → o < length objects → (s : Shape) × ReadsTiny (slice_index_or objects o []) s

rest_tiny : (b : List ℕ) (objects : List (List ℕ)) → AreTiny (b ∷ objects) → AreTiny objects
rest_tiny b objects tiny = λ o h. tiny (suc o) (omega arith)

-- ** one object

one_ordinary : (b : List ℕ) (s : Shape) → ReadsTiny b s → All IsOrdinary (sections_of b)
one_ordinary b s is =
    rw (sections_are b s is.reads)
    (eight_ordinary (length s.code) (length s.initial) s.zeros is.tiny.code is.tiny.initial is.tiny.zeros)

one_end : (class : SectionClass) (end : ℕ) (b : List ℕ) (s : Shape) → ReadsTiny b s
    → fold (next_end class) end (sections_of b) ≤ end + 64
one_end class end b s is =
    rw (sections_are b s is.reads)
    (eight_end class end (length s.code) (length s.initial) s.zeros is.tiny.code is.tiny.initial is.tiny.zeros)

one_initial : (end : ℕ) (b : List ℕ) (s : Shape) → ReadsTiny b s → end < fold (next_end (Tls true)) end (sections_of b)
one_initial end b s is =
    let some = is.tiny.some_initial in
    rw (sections_are b s is.reads)
    (omega (arith, eight_initial end (length s.code) (length s.initial) s.zeros))

-- ** all objects

all_ordinary : (objects : List (List ℕ)) → AreTiny objects → All IsOrdinary (flat_map sections_of objects)
all_ordinary [] tiny = All-nil IsOrdinary
all_ordinary (b ∷ objects) tiny =
    let first = tiny 0 (omega arith) in
    All-append IsOrdinary (sections_of b) (flat_map sections_of objects) (one_ordinary b first.0 first.1)
    (all_ordinary objects (rest_tiny b objects tiny))

-- each class ends 64 bytes for each object behind its start, at most
all_end : (class : SectionClass) (from : ℕ) (objects : List (List ℕ)) → AreTiny objects
    → fold (next_end class) from (flat_map sections_of objects) ≤ from + 64 * length objects
all_end class from [] tiny = omega arith
all_end class from (b ∷ objects) tiny =
    let first = tiny 0 (omega arith) in
    let end = fold (next_end class) from (sections_of b) in
    let once = one_end class from b first.0 first.1 in
    let later = all_end class end objects (rest_tiny b objects tiny) in
    omega (arith, once, later, fold-append (next_end class) from (sections_of b) (flat_map sections_of objects))

class_end : (class : SectionClass) (from : ℕ) (objects : List (List ℕ)) → AreTiny objects
    → end_of class from (all_sections objects) ≤ from + 64 * length objects
unfolding end_of all_sections
class_end class from objects tiny = all_end class from objects tiny

-- ** the limits

page_near : (n : ℕ) → page_up n < n + 4096
unfolding page_up
page_near n = round_up-near n 4096 (omega arith)

-- a layout of at most 1,000 objects
module _ (kind : ImageKind) (objects : List (List ℕ)) (tiny : AreTiny objects) (few : length objects ≤ 1000) where
  -- thread-local storage has less than 2^17 bytes
  pub tls_small : tls_size (all_sections objects) ≤ 2 ^ 17
  unfolding zero_tls initial_tls
  tls_small =
      let sections = all_sections objects in
      let front = class_end (Tls true) 0 objects tiny in
      let back = class_end (Tls false) (end_of (Tls true) 0 sections) objects tiny in
      omega arith

  pub span_small : span kind (all_sections objects) ≤ 2 ^ 19
  unfolding zero_data initial_data tls_image read_only executable
  span_small =
      let sections = all_sections objects in
      let e = end_of Executable (base_of kind) sections in
      let r = end_of ReadOnly (page_up e) sections in
      let t = end_of (Tls true) (page_up r) sections in
      let w = end_of (Writable true) (page_up t) sections in
      omega (
        arith,
        few,
        class_end Executable (base_of kind) objects tiny,
        page_near e,
        class_end ReadOnly (page_up e) objects tiny,
        page_near r,
        class_end (Tls true) (page_up r) objects tiny,
        page_near t,
        class_end (Writable true) (page_up t) objects tiny,
        class_end (Writable false) w objects tiny,
      )

  pub lawful : IsLawful (layout_of kind objects)
  unfolding all_sections
  lawful = record {
    ordinary = all_ordinary objects tiny;
    small_tls = omega (arith, tls_small);
    small_span = omega (arith, span_small);
  }

-- there is some thread-local storage, where there is an object
pub tls_some : (objects : List (List ℕ)) → AreTiny objects → 0 < length objects → 0 < tls_size (all_sections objects)
unfolding zero_tls initial_tls end_of all_sections
tls_some [] tiny some = absurd (omega arith)
tls_some (b ∷ objects) tiny some =
    let first = tiny 0 (omega arith) in
    let end = fold (next_end (Tls true)) 0 (sections_of b) in
    let rest = flat_map sections_of objects in
    let front = fold (next_end (Tls true)) 0 (sections_of b ++ rest) in
    let begins = one_initial 0 b first.0 first.1 in
    let goes = end_of-rises (Tls true) end rest in
    let ends = end_of-rises (Tls false) front (sections_of b ++ rest) in
    omega (arith, begins, goes, ends, fold-append (next_end (Tls true)) 0 (sections_of b) rest)
