-- What callers may rely on in the sections that an object lends.
use Rattle.std.proofs.Common.{◌≡◌, ◌≢◌, ◌+◌, ◌<◌, ◌≤◌, ◌^◌, ◌⊎◌, ◌∙◌, ◌==◌, ◌&&◌, ◌||◌, ℕ, zero, suc, Bool, true}
use Rattle.std.proofs.Common.{false, not, List, length, slice_range, Option, Some, None, nat_lt, bit_and}
use Rattle.std.proofs.Common.{if◌then◌else◌, inl, inr, refl, sym, ap, arith, length-take, length-drop}
use Rattle.std.proofs.lemmas.Bool.{cases_lt}
use Rattle.std.proofs.lemmas.Bool.Decides.{nat_tests}
use Rattle.elf_records.specs.declared.section_header.SectionHeader.{SectionHeader}
use Rattle.object_rules.specs.declared.fault.FaultKind.TheVariants.{Truncated, NotElf, NotRelocatable, SectionAlign}
use Rattle.object_faults.specs.declared.class.SectionClass.{SectionClass}
use Rattle.object_faults.specs.declared.class.SectionClass.TheVariants.{Executable, ReadOnly, Tls, Writable}
use Rattle.object_faults.specs.declared.class.TheConstants.{CLASS_FLAGS}
use Rattle.elf_records.specs.declared.section_header.TheConstants.{SHF_ALLOC}
use Rattle.elf_object.specs.Parts.{header, section, is_section, HasBytes, IsSection}
use Rattle.elf_object.specs.Classes.{class_of, class_row, kept_of, kept_class, IsKeptSection}
use Rattle.elf_object.specs.Lent.{section_class, section_size, section_alignment, section_bytes}
use Rattle.elf_records.specs.Alignments.{IsAlignment}
use Rattle.elf_object.specs.Lawful.{IsKeptAs, has_initial}
use Rattle.elf_object.specs.Faults.{Stands, IsObject}
use Rattle.elf_object.specs.Laws.{kept_small, class_in_table}
use Rattle.elf_object.specs.LawsOfParts.{class_of_section, size_of_section}

-- the bytes of a section are in the file
pub part_in_file : (b : List ℕ) → IsObject b → (s : ℕ) → IsSection b s → HasBytes (section b s)
    → (section b s).offset + (section b s).size ≤ length b
unfolding Stands
part_in_file b object s within some =
    elim (cases_lt (length b) ((section b s).offset + (section b s).size)) [
      | inr inside ↦ inside
      | inl past ↦ absurd (elim (cases_lt (length b) 64) [
        | inl short ↦ object Truncated 0 0 (refl, inl (refl, short))
        | inr long ↦
            object NotElf 0 0 (
              refl,
              refl,
              long,
              λ elf.
                  object NotRelocatable 0 0 (
                    refl,
                    refl,
                    long,
                    λ relocatable.
                        object Truncated s 0 (refl, inr (long, elf, relocatable, inr (within, some, past))),
                  ),
            )
      ])
    ]

-- a kind by its row in the table of classes
abbrev row_of : (f4 f0 ft f1 p n u z : Bool) → Option SectionClass
row_of f4 f0 ft f1 p n u z =
    if f4 then (if p then Some Executable else None) else
    if f0 then (if (p || n) || u then Some ReadOnly else None) else
    if ft then (if p then Some (Tls true) else if z then Some (Tls false) else None) else
    if f1 then (if p then Some (Writable true) else if z then Some (Writable false) else None) else
    None

initial_of : (c class : SectionClass) → Some c ≡ Some class → has_initial c ≡ has_initial class
initial_of c class h = let same : c ≡ class = cc in ap has_initial same

row_initial : (f4 f0 ft f1 p n u z : Bool) (class : SectionClass) → row_of f4 f0 ft f1 p n u z ≡ Some class
    → (has_initial class ≡ true → (p ≡ true) ⊎ ((n ≡ true) ⊎ (u ≡ true))) × (has_initial class ≡ false → z ≡ true)
row_initial true f0 ft f1 true n u z class h = (λ w. inl refl, λ w. absurd (cc (initial_of Executable class h)))
row_initial true f0 ft f1 false n u z class h = absurd (cc)
row_initial false true ft f1 true n u z class h = (λ w. inl refl, λ w. absurd (cc (initial_of ReadOnly class h)))
row_initial false true ft f1 false true u z class h = (
  λ w. inr (inl refl),
  λ w. absurd
      (cc (initial_of ReadOnly class h)),
)
row_initial false true ft f1 false false true z class h = (
  λ w. inr (inr refl),
  λ w. absurd
      (cc (initial_of ReadOnly class h)),
)
row_initial false true ft f1 false false false z class h = absurd (cc)
row_initial false false true f1 true n u z class h = (λ w. inl refl, λ w. absurd (cc (initial_of (Tls true) class h)))
row_initial false false true f1 false n u true class h = (λ w. absurd (cc (initial_of (Tls false) class h)), λ w. refl)
row_initial false false true f1 false n u false class h = absurd (cc)
row_initial false false false true true n u z class h = (
  λ w. inl refl,
  λ w. absurd
      (cc (initial_of (Writable true) class h)),
)
row_initial false false false true false n u true class h = (
  λ w. absurd
      (cc (initial_of (Writable false) class h)),
  λ w. refl,
)
row_initial false false false true false n u false class h = absurd (cc)
row_initial false false false false p n u z class h = absurd (cc)

-- a section has bytes in the file exactly if its class says so
pub class_holds : (h : SectionHeader) (class : SectionClass) → kept_class h ≡ Some class
    → (has_initial class ≡ true → HasBytes h) × (has_initial class ≡ false → h.kind ≡ 8)
unfolding kept_class class_of
class_holds h class e =
    let given = of_kept (if bit_and h.flags SHF_ALLOC == 0 then None else class_row (bit_and h.flags CLASS_FLAGS)
    h.kind) h.size class e in
    let row = of_alloc (bit_and h.flags SHF_ALLOC == 0) (class_row (bit_and h.flags CLASS_FLAGS) h.kind) class given in
    let flags = bit_and h.flags CLASS_FLAGS in
    let known = row_initial (flags == 4) (flags == 0) ((flags == 0x400) || (flags == 0x401)) (flags == 1)
    (h.kind == 1) (h.kind == 7) (h.kind == 0x7000_0001) (h.kind == 8) class row in
    (λ initial. held h.kind (known.0 initial), λ empty. eight h.kind (known.1 empty))
  where
    of_kept : (given : Option SectionClass) (size : ℕ) (class : SectionClass) → kept_of given size ≡ Some class
        → given ≡ Some class
    of_kept None size class e = e
    of_kept (Some Executable) size class e = e
    of_kept (Some ReadOnly) size class e = e
    of_kept (Some (Tls initial)) size class e = e
    of_kept (Some (Writable initial)) size class e = of_size (size == 0) initial class e
      where
        of_size : (t : Bool) (initial : Bool) (class : SectionClass)
            → (if t then None else Some (Writable initial)) ≡ Some class → Some (Writable initial) ≡ Some class
        of_size true initial class e = absurd (cc)
        of_size false initial class e = e

    of_alloc : (t : Bool) (row : Option SectionClass) (class : SectionClass)
        → (if t then None else row) ≡ Some class → row ≡ Some class
    of_alloc true row class e = absurd (cc)
    of_alloc false row class e = e

    held : (n : ℕ) → ((n == 1) ≡ true) ⊎ (((n == 7) ≡ true) ⊎ ((n == 0x7000_0001) ≡ true)) → (n ≢ 0) × (n ≢ 8)
    held n h = grind (arith, nat_tests)

    eight : (n : ℕ) → (n == 8) ≡ true → n ≡ 8
    eight n h = grind (arith, nat_tests)

-- an alignment, if there is one
alignment_or_not : (n : ℕ) → ((n ≡ 0) ⊎ IsAlignment n) ⊎ ((n ≡ 0) ⊎ IsAlignment n → ⊥)
alignment_or_not n = elim (zero_or_not n) [
  | inl null ↦ inl (inl null)
  | inr some ↦ elim (power_below n 13) [
    | inl power ↦ inl (inr (power.0, omega (arith, power.1), power.2))
    | inr other ↦ inr (λ h. elim h [
      | inl null ↦ some null
      | inr power ↦ other
          (power.0, omega (arith, power.1), power.2)
    ])
  ]
]
  where
    zero_or_not : (n : ℕ) → (n ≡ 0) ⊎ (n ≡ 0 → ⊥)
    zero_or_not n = grind arith

    same_or_not : (m n : ℕ) → (m ≡ n) ⊎ (m ≡ n → ⊥)
    same_or_not m n = grind arith

    power_below : (n m : ℕ) → ((k : ℕ) × (k < m) × (n ≡ 2 ^ k)) ⊎ ((k : ℕ) × (k < m) × (n ≡ 2 ^ k) → ⊥)
    power_below n zero = inr (λ h. omega (arith, h.1))
    power_below n (suc m) = elim (power_below n m) [
      | inl found ↦ inl (found.0, omega (arith, found.1), found.2)
      | inr none ↦ elim (same_or_not n (2 ^ m)) [
        | inl same ↦ inl (m, omega arith, same)
        | inr other ↦ inr (λ h. elim (cases_lt h.0 m) [
          | inl less ↦ none (h.0, less, h.2)
          | inr most ↦ let at : h.0 ≡ m = omega (arith, h.1) in other (h.2 ∙ ap (λ k. 2 ^ k) at)
        ])
      ]
    ]

-- the alignment of a kept section
aligned_at : (b : List ℕ) → IsObject b → (s : ℕ) → IsKeptSection b s → IsAlignment (section_alignment b s)
unfolding Stands section_alignment
aligned_at b object s kept =
    rw (below s (header b).e_shnum kept.0)
    (elim (alignment_or_not (section b s).addralign) [
      | inl alignment ↦ power_of (section b s).addralign alignment
      | inr other ↦ absurd (object SectionAlign s 0 (refl, kept, other))
    ])
  where
    below : (s c : ℕ) → (0 < s) × (s < c) → (nat_lt 0 s && nat_lt s c) ≡ true
    below s c h = grind (arith, nat_tests)

    zero_test : (n : ℕ) → n ≡ 0 → not (n == 0) ≡ false
    zero_test n h = grind (arith, nat_tests)

    power_of : (n : ℕ) → (n ≡ 0) ⊎ IsAlignment n → IsAlignment (if not (n == 0) then n else 1)
    power_of n (inl null) = rw (zero_test n null) (0, omega arith, refl)
    power_of n (inr power) = of_test (not (n == 0)) n power
      where
        of_test : (t : Bool) (n : ℕ) → IsAlignment n → IsAlignment (if t then n else 1)
        of_test true n power = power
        of_test false n power = (0, omega arith, refl)

-- the number of bytes that a section has in the file
length_held : (b : List ℕ) → IsObject b → (s : ℕ) → IsSection b s → HasBytes (section b s)
    → length (section_bytes b s) ≡ (section b s).size
unfolding section_bytes
length_held b object s within some =
    rw (tests s (header b).e_shnum (section b s).kind within some)
    (length_part b (section b s).offset (section b s).size (part_in_file b object s within some))
  where
    tests : (s c k : ℕ) → (0 < s) × (s < c) → (k ≢ 0) × (k ≢ 8)
        → ((nat_lt 0 s && nat_lt s c) && (not (k == 0) && not (k == 8))) ≡ true
    tests s c k h some = grind (arith, nat_tests)

    length_part : (b : List ℕ) (o n : ℕ) → o + n ≤ length b → length (slice_range b o (o + n)) ≡ n
    length_part b o n h = simp (length-take, length-drop) (omega arith)

length_empty : (b : List ℕ) (s : ℕ) → (section b s).kind ≡ 8 → length (section_bytes b s) ≡ 0
unfolding section_bytes
length_empty b s empty = rw (tests (is_section b s) (section b s).kind empty) refl
  where
    tests : (t : Bool) (k : ℕ) → k ≡ 8 → (t && (not (k == 0) && not (k == 8))) ≡ false
    tests t k h = grind (arith, nat_tests)

-- all of its bytes are in the file
filled_at : (b : List ℕ) → IsObject b → (s : ℕ) (class : SectionClass) → IsSection b s
    → kept_class (section b s) ≡ Some class
    → length (section_bytes b s) ≡ (if has_initial class then section_size b s else 0)
filled_at b object s class within e = of_initial (has_initial class) refl
  where
    of_initial : (t : Bool) → has_initial class ≡ t → length (section_bytes b s) ≡ (if t then section_size b s else 0)
    of_initial true initial = rw (size_of_section b s within)
        (length_held b object s within ((class_holds (section b s) class e).0 initial))
    of_initial false initial = length_empty b s ((class_holds (section b s) class e).1 initial)

-- what callers may rely on in a section that linking keeps
pub kept_as : (b : List ℕ) → IsObject b → (s : ℕ) (class : SectionClass) → section_class b s ≡ Some class
    → IsKeptAs b s class
kept_as b object s class e =
    let within = class_in_table b s (rw e refl) in
    let known = sym (class_of_section b s within) ∙ e in
    let kept : IsKeptSection b s = (within, rw known refl) in
    record {
      small = rw (size_of_section b s within) (kept_small b object s kept);
      aligned = aligned_at b object s kept;
      filled = filled_at b object s class within known;
    }
