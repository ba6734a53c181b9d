-- The sections of an object that is laid as a shape says.
use Rattle.std.proofs.Common.{◌≡◌, ◌≢◌, ◌<◌, ◌≤◌, ◌==◌, ◌&&◌, ℕ, zero, suc, Bool, true, false, List, []}
use Rattle.std.proofs.Common.{Some, None, length, is_some, nat_lt, not, refl, ap, arith}
use Rattle.std.proofs.Common.{if◌then◌else◌}
use Rattle.std.proofs.lemmas.Bool.Decides.{nat_tests}
use Rattle.elf_object.specs.Classes.{kept_class, class_of}
use Rattle.elf_object.specs.FirstLaws.{first_found}
use Rattle.elf_object.specs.Firsts.{first_below}
use Rattle.elf_object.specs.Lent.{section_bytes, section_class, section_size, section_alignment}
use Rattle.elf_object.specs.Lent.{kept_relocation_table, relocation_target}
use Rattle.elf_object.specs.Object.{section_count}
use Rattle.elf_object.specs.Parts.{is_section, is_table, symbol_table, relocates, relocation_table}
use Rattle.object_faults.specs.declared.class.SectionClass.TheVariants.{Executable, Tls}
use Rattle.generated_job.specs.Shapes.{Shape, file_header, sections_of, names_of, zeros_alignment}
use Rattle.generated_laws.proofs.ObjectLaid.{IsLaid}

-- ** one section after another

-- what holds of each of the eight sections and of each number past them holds of all numbers
pub by_section : (P : ℕ → Type 0) → P 0 → P 1 → P 2 → P 3 → P 4 → P 5 → P 6 → P 7 → ((k : ℕ) → 8 ≤ k → P k)
    → (k : ℕ) → P k
by_section P p0 p1 p2 p3 p4 p5 p6 p7 past zero = p0
by_section P p0 p1 p2 p3 p4 p5 p6 p7 past (suc zero) = p1
by_section P p0 p1 p2 p3 p4 p5 p6 p7 past (suc (suc zero)) = p2
by_section P p0 p1 p2 p3 p4 p5 p6 p7 past (suc (suc (suc zero))) = p3
by_section P p0 p1 p2 p3 p4 p5 p6 p7 past (suc (suc (suc (suc zero)))) = p4
by_section P p0 p1 p2 p3 p4 p5 p6 p7 past (suc (suc (suc (suc (suc zero))))) = p5
by_section P p0 p1 p2 p3 p4 p5 p6 p7 past (suc (suc (suc (suc (suc (suc zero)))))) = p6
by_section P p0 p1 p2 p3 p4 p5 p6 p7 past (suc (suc (suc (suc (suc (suc (suc zero))))))) = p7
by_section P p0 p1 p2 p3 p4 p5 p6 p7 past (suc (suc (suc (suc (suc (suc (suc (suc k)))))))) =
    past (suc (suc (suc (suc (suc (suc (suc (suc k)))))))) (omega arith)

pub count_is : (b : List ℕ) (s : Shape) → IsLaid b s → section_count b ≡ 8
unfolding file_header
count_is b s laid = ap (λ h. h.e_shnum) laid.header_is

-- a number past them is that of no section
pub past_all : (b : List ℕ) (s : Shape) → IsLaid b s → (k : ℕ) → 8 ≤ k → is_section b k ≡ false
past_all b s laid k past = rw (count_is b s laid) (test k past)
  where
    test : (k : ℕ) → 8 ≤ k → (nat_lt 0 k && nat_lt k 8) ≡ false
    test k past = grind (arith, nat_tests)

-- ** classes

pub code_class : (b : List ℕ) (s : Shape) → IsLaid b s → section_class b 1 ≡ Some Executable
unfolding section_class kept_class class_of sections_of
code_class b s laid = rw (count_is b s laid, laid.sections_are 1 (omega arith)) refl

pub initial_class : (b : List ℕ) (s : Shape) → IsLaid b s → section_class b 3 ≡ Some (Tls true)
unfolding section_class kept_class class_of sections_of
initial_class b s laid = rw (count_is b s laid, laid.sections_are 3 (omega arith)) refl

pub zeros_class : (b : List ℕ) (s : Shape) → IsLaid b s → section_class b 4 ≡ Some (Tls false)
unfolding section_class kept_class class_of sections_of
zeros_class b s laid = rw (count_is b s laid, laid.sections_are 4 (omega arith)) refl

pub other_class : (b : List ℕ) (s : Shape) → IsLaid b s → (k : ℕ) → k ≢ 1 → k ≢ 3 → k ≢ 4
    → section_class b k ≡ None
unfolding section_class kept_class class_of sections_of
other_class b s laid = by_section (λ k. k ≢ 1 → k ≢ 3 → k ≢ 4 → section_class b k ≡ None)
    (λ one three four. refl)
    (λ one three four. absurd (one refl))
    (λ one three four. rw (count_is b s laid, laid.sections_are 2 (omega arith)) refl)
    (λ one three four. absurd (three refl))
    (λ one three four. absurd (four refl))
    (λ one three four. rw (count_is b s laid, laid.sections_are 5 (omega arith)) refl)
    (λ one three four. rw (count_is b s laid, laid.sections_are 6 (omega arith)) refl)
    (λ one three four. rw (count_is b s laid, laid.sections_are 7 (omega arith)) refl)
    (λ k past one three four. rw (past_all b s laid k past) refl)

-- ** sizes, alignments and bytes

pub code_size : (b : List ℕ) (s : Shape) → IsLaid b s → section_size b 1 ≡ length s.code
unfolding section_size sections_of
code_size b s laid = rw (count_is b s laid, laid.sections_are 1 (omega arith)) refl

pub initial_size : (b : List ℕ) (s : Shape) → IsLaid b s → section_size b 3 ≡ length s.initial
unfolding section_size sections_of
initial_size b s laid = rw (count_is b s laid, laid.sections_are 3 (omega arith)) refl

pub zeros_size : (b : List ℕ) (s : Shape) → IsLaid b s → section_size b 4 ≡ s.zeros
unfolding section_size sections_of
zeros_size b s laid = rw (count_is b s laid, laid.sections_are 4 (omega arith)) refl

pub code_alignment : (b : List ℕ) (s : Shape) → IsLaid b s → section_alignment b 1 ≡ 16
unfolding section_alignment sections_of
code_alignment b s laid = rw (count_is b s laid, laid.sections_are 1 (omega arith)) refl

pub initial_alignment : (b : List ℕ) (s : Shape) → IsLaid b s → section_alignment b 3 ≡ 4
unfolding section_alignment sections_of
initial_alignment b s laid = rw (count_is b s laid, laid.sections_are 3 (omega arith)) refl

some_alignment : (n : ℕ) → (if not (zeros_alignment n == 0) then zeros_alignment n else 1) ≡ zeros_alignment n
some_alignment n = grind (arith, nat_tests)

pub zeros_alignment_is : (b : List ℕ) (s : Shape) → IsLaid b s → section_alignment b 4 ≡ zeros_alignment s.zeros
unfolding section_alignment sections_of
zeros_alignment_is b s laid =
    rw (count_is b s laid, laid.sections_are 4 (omega arith)) (some_alignment s.zeros)

pub code_bytes : (b : List ℕ) (s : Shape) → IsLaid b s → section_bytes b 1 ≡ s.code
unfolding section_bytes sections_of
code_bytes b s laid = rw (count_is b s laid, laid.sections_are 1 (omega arith)) laid.code_is

pub initial_bytes : (b : List ℕ) (s : Shape) → IsLaid b s → section_bytes b 3 ≡ s.initial
unfolding section_bytes sections_of
initial_bytes b s laid = rw (count_is b s laid, laid.sections_are 3 (omega arith)) laid.initial_is

pub zeros_bytes : (b : List ℕ) (s : Shape) → IsLaid b s → section_bytes b 4 ≡ []
unfolding section_bytes sections_of
zeros_bytes b s laid = rw (count_is b s laid, laid.sections_are 4 (omega arith)) refl

pub names_bytes : (b : List ℕ) (s : Shape) → IsLaid b s → section_bytes b 6 ≡ names_of s
unfolding section_bytes sections_of
names_bytes b s laid = rw (count_is b s laid, laid.sections_are 6 (omega arith)) laid.names_are

-- ** tables

-- where none of the first n passes, nothing is found
none_of : (p : ℕ → Bool) (n : ℕ) → ((m : ℕ) → m < n → p m ≡ false) → first_below p n ≡ 0
unfolding first_below
none_of p zero none = refl
none_of p (suc n) none = rw (none_of p n (λ m below. none m (omega arith)), none n (omega arith)) refl

pub symbol_table_is : (b : List ℕ) (s : Shape) → IsLaid b s → symbol_table b ≡ 5
unfolding symbol_table sections_of first_below
symbol_table_is b s laid =
    let passes : is_table b 5 ≡ true = rw (laid.sections_are 5 (omega arith)) refl in
    let none : first_below (is_table b) 5 ≡ 0 = rw (
      laid.sections_are 1 (omega arith),
      laid.sections_are 2 (omega arith),
      laid.sections_are 3 (omega arith),
      laid.sections_are 4 (omega arith),
    ) refl in
    rw (count_is b s laid) (first_found (is_table b) 5 8 (omega arith) none passes (omega arith))

pub table_of_code : (b : List ℕ) (s : Shape) → IsLaid b s → relocation_table b 1 ≡ 2
unfolding relocation_table sections_of first_below
table_of_code b s laid =
    let passes : relocates b 1 2 ≡ true = rw (laid.sections_are 2 (omega arith)) refl in
    let none : first_below (relocates b 1) 2 ≡ 0 = rw (laid.sections_are 1 (omega arith)) refl in
    rw (count_is b s laid) (first_found (relocates b 1) 2 8 (omega arith) none passes (omega arith))

pub no_table : (b : List ℕ) (s : Shape) → IsLaid b s → (k : ℕ) → k ≢ 1 → relocation_table b k ≡ 0
unfolding relocation_table sections_of
no_table b s laid k other =
    rw (count_is b s laid) (none_of (relocates b k) 8 (by_section (λ r. r < 8 → relocates b k r ≡ false)
    (λ below. refl)
    (λ below. rw (laid.sections_are 1 below) refl)
    (λ below. rw (laid.sections_are 2 below) (fails k other))
    (λ below. rw (laid.sections_are 3 below) refl)
    (λ below. rw (laid.sections_are 4 below) refl)
    (λ below. rw (laid.sections_are 5 below) refl)
    (λ below. rw (laid.sections_are 6 below) refl)
    (λ below. rw (laid.sections_are 7 below) refl)
    (λ r past below. absurd (omega arith))))
  where
    fails : (k : ℕ) → k ≢ 1 → (1 == k) ≡ false
    fails k other = grind (arith, nat_tests)

pub kept_table : (b : List ℕ) (s : Shape) → IsLaid b s → kept_relocation_table b 1 ≡ 2
unfolding kept_relocation_table
kept_table b s laid = rw (code_class b s laid, table_of_code b s laid) refl

pub other_table : (b : List ℕ) (s : Shape) → IsLaid b s → (k : ℕ) → k ≢ 1 → kept_relocation_table b k ≡ 0
unfolding kept_relocation_table
other_table b s laid k other = rw (no_table b s laid k other) (same (is_some (section_class b k)) 0)
  where
    same : (t : Bool) (n : ℕ) → (if t then n else n) ≡ n
    same true n = refl
    same false n = refl

pub target_is : (b : List ℕ) (s : Shape) → IsLaid b s → relocation_target b 2 ≡ 1
unfolding relocation_target sections_of
target_is b s laid =
    rw (count_is b s laid, laid.sections_are 2 (omega arith), code_class b s laid) refl

pub other_target : (b : List ℕ) (s : Shape) → IsLaid b s → (k : ℕ) → k ≢ 2 → relocation_target b k ≡ 0
unfolding relocation_target sections_of
other_target b s laid = by_section (λ k. k ≢ 2 → relocation_target b k ≡ 0)
    (λ other. refl)
    (λ other. rw (count_is b s laid, laid.sections_are 1 (omega arith)) refl)
    (λ other. absurd (other refl))
    (λ other. rw (count_is b s laid, laid.sections_are 3 (omega arith)) refl)
    (λ other. rw (count_is b s laid, laid.sections_are 4 (omega arith)) refl)
    (λ other. rw (count_is b s laid, laid.sections_are 5 (omega arith)) refl)
    (λ other. rw (count_is b s laid, laid.sections_are 6 (omega arith)) refl)
    (λ other. rw (count_is b s laid, laid.sections_are 7 (omega arith)) refl)
    (λ k past other. rw (past_all b s laid k past) refl)
