-- The sections of one small object, as a layout sees them, and how far they move the end of each class.
use Rattle.std.proofs.Common.{◌≡◌, ◌≢◌, ◌+◌, ◌<◌, ◌≤◌, ◌==◌, ℕ, Bool, true, false, List, [], ◌∷◌}
use Rattle.std.proofs.Common.{length, map, Some, None, refl, ap, ◌∙◌, arith}
use Rattle.std.specs.Prelude.{fold, if◌then◌else◌}
use Rattle.std.specs.List.{All, range_with_len}
use Rattle.std.proofs.lemmas.List.Elements.{All-from_recursion}
use Rattle.elf_records.specs.Alignments.{IsAlignment}
use Rattle.elf_object.specs.Lent.{section_class}
use Rattle.object_faults.specs.declared.class.SectionClass.{SectionClass}
use Rattle.object_faults.specs.declared.class.SectionClass.TheVariants.{Executable, ReadOnly, Tls, Writable}
use Rattle.generated_job.specs.Shapes.{Shape, zeros_alignment}
use Rattle.tls_layout.specs.declared.sections.Section.{Section}
use Rattle.tls_layout.specs.Places.{next_end}
use Rattle.tls_layout.specs.Rounding.{round_up}
use Rattle.tls_layout.specs.Sections.{IsOrdinary, dropped, section_of, sections_of}
use Rattle.tls_layout.proofs.Rounds.{round_up-above, round_up-near}
use Rattle.generated_laws.specs.Reading.{ReadsAs}

-- code of 32 bytes at most, a variable of four at most with some initial bytes, and four zeros at most
pub record IsTiny (s : Shape) : Type 0 where
  pub code : length s.code ≤ 32
  pub some_initial : 0 < length s.initial
  pub initial : length s.initial ≤ 4
  pub zeros : s.zeros ≤ 4

-- bytes that read as a tiny shape
pub record ReadsTiny (b : List ℕ) (s : Shape) : Type 0 where
  pub reads : ReadsAs b s
  pub tiny : IsTiny s

-- ** the eight sections

abbrev pub kept : SectionClass → ℕ → ℕ → Section
kept class size alignment = record { class = Some class; size = size; alignment = alignment }

abbrev pub eight : ℕ → ℕ → ℕ → List Section
eight code initial blank =
    dropped ∷ kept Executable code 16 ∷ dropped ∷ kept (Tls true) initial 4
    ∷ kept (Tls false) blank (zeros_alignment blank) ∷ dropped ∷ dropped ∷ dropped ∷ []

module _ (b : List ℕ) (s : Shape) (reads : ReadsAs b s) where
  dropped_is : (k : ℕ) → section_class b k ≡ None → section_of b k ≡ dropped
  unfolding section_of
  dropped_is k none = rw none refl

  code_is : section_of b 1 ≡ kept Executable (length s.code) 16
  unfolding section_of
  code_is = rw (reads.code_class, reads.code_size, reads.code_alignment) refl

  initial_is : section_of b 3 ≡ kept (Tls true) (length s.initial) 4
  unfolding section_of
  initial_is = rw (reads.initial_class, reads.initial_size, reads.initial_alignment) refl

  zeros_is : section_of b 4 ≡ kept (Tls false) s.zeros (zeros_alignment s.zeros)
  unfolding section_of
  zeros_is = rw (reads.zeros_class, reads.zeros_size, reads.zeros_alignment_is) refl

  other : (k : ℕ) → k ≢ 1 → k ≢ 3 → k ≢ 4 → section_of b k ≡ dropped
  other k first second third = dropped_is k (reads.other_class k first second third)

  -- what a layout sees of the object
  pub sections_are : sections_of b ≡ eight (length s.code) (length s.initial) s.zeros
  unfolding sections_of
  sections_are =
      ap (λ n. map (section_of b) (range_with_len 0 n)) reads.sections
      ∙ rw (
        other 0 (omega arith) (omega arith) (omega arith),
        code_is,
        other 2 (omega arith) (omega arith) (omega arith),
        initial_is,
        zeros_is,
        other 5 (omega arith) (omega arith) (omega arith),
        other 6 (omega arith) (omega arith) (omega arith),
        other 7 (omega arith) (omega arith) (omega arith),
      ) refl

-- ** ordinary

zeros_power : (n : ℕ) → IsAlignment (zeros_alignment n)
zeros_power n = by_test (n == 0)
  where
    by_test : (t : Bool) → IsAlignment (if t then 1 else 4)
    by_test true = (0, omega arith, refl)
    by_test false = (2, omega arith, refl)

pub eight_ordinary : (code initial blank : ℕ) → code ≤ 32 → initial ≤ 4 → blank ≤ 4
    → All IsOrdinary (eight code initial blank)
eight_ordinary code initial blank few some none =
    let one : IsAlignment 1 = (0, omega arith, refl) in
    let empty : IsOrdinary dropped = (omega arith, one) in
    let text : IsOrdinary (kept Executable code 16) = (omega arith, (4, omega arith, refl)) in
    let front : IsOrdinary (kept (Tls true) initial 4) = (omega arith, (2, omega arith, refl)) in
    let back : IsOrdinary (kept (Tls false) blank (zeros_alignment blank)) = (omega arith, zeros_power blank) in
    All-from_recursion IsOrdinary (eight code initial blank)
    (empty, (text, (empty, (front, (back, (empty, (empty, (empty, tt))))))))

-- ** ends

zeros_end : (end n : ℕ) → n ≤ 4 → round_up end (zeros_alignment n) + n ≤ end + 64
zeros_end end n few = by_test (n == 0)
  where
    by_test : (t : Bool) → round_up end (if t then 1 else 4) + n ≤ end + 64
    by_test true = omega (arith, round_up-near end 1 (omega arith))
    by_test false = omega (arith, round_up-near end 4 (omega arith))

-- each class ends 64 bytes further at most
pub eight_end : (class : SectionClass) (end code initial blank : ℕ) → code ≤ 32 → initial ≤ 4 → blank ≤ 4
    → fold (next_end class) end (eight code initial blank) ≤ end + 64
eight_end Executable end code initial blank few some none = omega (arith, round_up-near end 16 (omega arith))
eight_end ReadOnly end code initial blank few some none = omega arith
eight_end (Tls true) end code initial blank few some none = omega (arith, round_up-near end 4 (omega arith))
eight_end (Tls false) end code initial blank few some none = zeros_end end blank none
eight_end (Writable true) end code initial blank few some none = omega arith
eight_end (Writable false) end code initial blank few some none = omega arith

-- and the initial image ends behind its bytes
pub eight_initial : (end code initial blank : ℕ)
    → end + initial ≤ fold (next_end (Tls true)) end (eight code initial blank)
eight_initial end code initial blank = omega (arith, round_up-above end 4)
