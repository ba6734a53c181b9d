-- What holds of the sections, the symbols and the relocations of a shape holds of all that an object of it has.
use Rattle.std.proofs.Common.{◌≡◌, ◌+◌, ◌/◌, ◌<◌, ℕ, zero, suc, Bool, true, false, List, length}
use Rattle.std.proofs.Common.{slice_index, slice_index_or, slice_range, take, drop, refl, sym, ap, subst, ◌∙◌, arith}
use Rattle.std.proofs.Common.{◌-◌}
use Rattle.std.proofs.lemmas.List.{get_or-take, get_or-drop}
use Rattle.elf_records.specs.declared.relocation.Rela.{Rela}
use Rattle.elf_records.specs.declared.section_header.SectionHeader.{SectionHeader}
use Rattle.elf_records.specs.declared.symbol.SymbolEntry.{SymbolEntry}
use Rattle.elf_object.specs.Parts.{section, symbol, symbol_count, rela, IsSection, IsTable, IsRela}
use Rattle.object_faults.specs.Relocations.{IsReloc}
use Rattle.generated_job.specs.Shapes.{Shape, sections_of, symbols_of, symbol_of, getter_name_at}
use Rattle.generated_laws.proofs.ObjectLaid.{IsLaid, few_symbols, no_section}
use Rattle.generated_laws.proofs.ObjectSections as sections
use Rattle.generated_laws.proofs.ObjectSections.{by_section}
use Rattle.generated_laws.proofs.ObjectReads.{count_is, same_count, symbol_read}

-- ** sections

-- section k of the shape
abbrev pub row : Shape → ℕ → SectionHeader
row s k = slice_index_or (sections_of s) k no_section

pub below_eight : (b : List ℕ) (s : Shape) → IsLaid b s → (k : ℕ) → IsSection b k → k < 8
below_eight b s laid k is = omega (arith, sections.count_is b s laid, is.1)

pub within_eight : (b : List ℕ) (s : Shape) → IsLaid b s → (k : ℕ) → 0 < k → k < 8 → IsSection b k
within_eight b s laid k above below = (above, omega (arith, sections.count_is b s laid))

pub each_section : (b : List ℕ) (s : Shape) → IsLaid b s → (P : ℕ → SectionHeader → Type 0)
    → P 1 (row s 1) → P 2 (row s 2) → P 3 (row s 3) → P 4 (row s 4) → P 5 (row s 5) → P 6 (row s 6) → P 7 (row s 7)
    → (k : ℕ) → IsSection b k → P k (section b k)
each_section b s laid P p1 p2 p3 p4 p5 p6 p7 k is =
    let below = below_eight b s laid k is in
    subst (P k) (sym (laid.sections_are k below))
    (by_section (λ j. 0 < j → j < 8 → P j (row s j))
    (λ above low. absurd (omega arith))
    (λ above low. p1)
    (λ above low. p2)
    (λ above low. p3)
    (λ above low. p4)
    (λ above low. p5)
    (λ above low. p6)
    (λ above low. p7)
    (λ j past above low. absurd (omega arith)) k is.0 below)

-- the fifth alone holds symbols, and the second alone relocations
pub is_table : (b : List ℕ) (s : Shape) → IsLaid b s → (k : ℕ) → IsTable b k → k ≡ 5
unfolding sections_of
is_table b s laid k is = each_section b s laid (λ j h. h.kind ≡ 2 → j ≡ 5)
    (λ kind. omega arith) (λ kind. omega arith) (λ kind. omega arith) (λ kind. omega arith)
    (λ kind. refl) (λ kind. omega arith) (λ kind. omega arith) k is.0 is.1

pub is_rela : (b : List ℕ) (s : Shape) → IsLaid b s → (k : ℕ) → IsRela b k → k ≡ 2
unfolding sections_of
is_rela b s laid k is = each_section b s laid (λ j h. h.kind ≡ 4 → j ≡ 2)
    (λ kind. omega arith) (λ kind. refl) (λ kind. omega arith) (λ kind. omega arith)
    (λ kind. omega arith) (λ kind. omega arith) (λ kind. omega arith) k is.0 is.1

-- ** symbols

-- symbol e of the shape
abbrev pub entry : Shape → ℕ → SymbolEntry
entry s e = slice_index_or (symbols_of s) e (symbol_of 0 0 0 0)

-- what is called
abbrev pub getter_of : Shape → SymbolEntry
getter_of s = symbol_of (getter_name_at s) 0x10 0 0

calls_of : (s : Shape) (calls : Bool) → 3 < length (symbols_of (record s { calls = calls })) → calls ≡ true
unfolding symbols_of
calls_of s true below = refl
calls_of s false below = absurd (omega arith)

getter_is : (s : Shape) (calls : Bool) → calls ≡ true → entry (record s { calls = calls }) 3 ≡ getter_of s
unfolding symbols_of
getter_is s true is = refl
getter_is s false is = absurd (cc)

entries : (s : Shape) (P : ℕ → SymbolEntry → Type 0) → P 1 (entry s 1) → P 2 (entry s 2)
    → (s.calls ≡ true → P 3 (getter_of s)) → (e : ℕ) → 0 < e → e < length (symbols_of s) → P e (entry s e)
entries s P p1 p2 p3 zero above below = absurd (omega arith)
entries s P p1 p2 p3 (suc zero) above below = p1
entries s P p1 p2 p3 (suc (suc zero)) above below = p2
entries s P p1 p2 p3 (suc (suc (suc zero))) above below =
    let calls = calls_of s s.calls below in
    subst (P 3) (sym (getter_is s s.calls calls)) (p3 calls)
entries s P p1 p2 p3 (suc (suc (suc (suc e)))) above below = absurd (omega (arith, few_symbols s))

pub each_symbol : (b : List ℕ) (s : Shape) → IsLaid b s → (P : ℕ → SymbolEntry → Type 0) → P 1 (entry s 1)
    → P 2 (entry s 2) → (s.calls ≡ true → P 3 (getter_of s)) → (e : ℕ) → 0 < e → e < symbol_count b
    → P e (symbol b e)
each_symbol b s laid P p1 p2 p3 e above below =
    let few : e < length (symbols_of s) = omega (arith, count_is b s laid, same_count s) in
    subst (P e) (sym (symbol_read b s laid e few)) (entries s P p1 p2 p3 e above few)

-- ** relocations

pub rela_read : (b : List ℕ) (s : Shape) → IsLaid b s → (e : ℕ) (d : Rela) → e < length s.relocations
    → rela b 2 e ≡ slice_index_or s.relocations e d
unfolding rela sections_of
rela_read b s laid e d below = rw (laid.sections_are 2 (omega arith)) (laid.relas_are e d below)

-- a relocation of any section is one of the shape's
pub is_reloc : (b : List ℕ) (s : Shape) → IsLaid b s → (r e : ℕ) → IsReloc b r e → (r ≡ 2) × (e < length s.relocations)
unfolding sections_of
is_reloc b s laid r e is =
    let second = is_rela b s laid r is.0 in
    let own : section b r ≡ row s 2 = ap (section b) second ∙ laid.sections_are 2 (omega arith) in
    let below : e < (row s 2).size / 24 = subst (λ (h : SectionHeader). e < h.size / 24) own is.2 in
    (second, omega arith)

-- ** bytes

-- byte k of a part
pub byte_of_part : (b p : List ℕ) (at n k : ℕ) → slice_range b at (at + n) ≡ p → k < n
    → slice_index b (at + k) ≡ slice_index p k
byte_of_part b p at n k is below =
    let size : at + n - at ≡ n = omega arith in
    sym (get_or-drop at b k 0) ∙ sym (get_or-take n (drop at b) k 0 below)
    ∙ ap (λ m. slice_index (take m (drop at b)) k) (sym size) ∙ ap (λ l. slice_index l k) is
