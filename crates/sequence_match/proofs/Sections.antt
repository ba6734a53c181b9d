-- The sections of an object, their code and their relocations.
use Rattle.std.proofs.Common.{◌≡◌, ◌+◌, ◌*◌, ◌<◌, ◌≤◌, ◌==◌, ◌&&◌, ◌∙◌, ℕ, zero, suc, Bool, true, false, List}
use Rattle.std.proofs.Common.{[], Option, Some, None, IsSome, is_some, nat_lt, if◌then◌else◌, refl, sym, ap, subst}
use Rattle.std.proofs.Common.{arith}
use Rattle.std.specs.Prelude.{unwrap_or}
use Rattle.std.specs.List.{slice_get}
use Rattle.std.proofs.lemmas.Option.{same_Some}
use Rattle.std.proofs.lemmas.Bool.Decides.{nat_tests}
use Rattle.object_faults.specs.declared.class.SectionClass.{SectionClass}
use Rattle.object_rules.specs.declared.fault.FaultKind.TheVariants.{RelocOverlap}
use Rattle.elf_records.specs.Records.{rela_kind}
use Rattle.elf_object.specs.declared.relocation.Relocation.{Relocation}
use Rattle.elf_records.specs.declared.relocation.RelocationKind.{RelocationKind}
use Rattle.elf_records.specs.declared.relocation.RelocationKind.TheVariants.{Nothing}
use Rattle.elf_object.specs.Classes.{kept_class, IsKeptSection}
use Rattle.elf_object.specs.Faults.{Stands, IsObject}
use Rattle.elf_object.specs.Laws.{table_of_kept}
use Rattle.elf_object.specs.LawsOfParts.{class_of_section}
use Rattle.elf_object.specs.Lent.{section_class, section_bytes, relocation_target, kept_relocation_table, relocations}
use Rattle.elf_object.specs.Lent.{relocations_in, relocations_from, relocation_at}
use Rattle.elf_object.specs.Parts.{header, section, rela, entry_count, IsRela}
use Rattle.elf_object.specs.Relocations.{relocation_kind, field_width, width_of, Covers as CoversAt}
use Rattle.sequence_match.specs.Code.{AreApart}
use Rattle.sequence_match.specs.Faults.{code_of, bytes_of_code}
use Rattle.sequence_match.specs.Sites.{Covers}
use Rattle.elf_object.specs.LawsOfRelocations.{width_is}

-- past the table there is no code
pub class_past : (b : List ℕ) (s : ℕ) → (header b).e_shnum ≤ s → section_class b s ≡ None
unfolding section_class
class_past b s past = rw (not_one s (header b).e_shnum past) refl
  where
    not_one : (s n : ℕ) → n ≤ s → (nat_lt 0 s && nat_lt s n) ≡ false
    not_one s n h = grind (arith, nat_tests)

pub code_past : (b : List ℕ) (s : ℕ) → (header b).e_shnum ≤ s → code_of b s ≡ []
unfolding code_of
code_past b s past = ap (λ class. bytes_of_code class (section_bytes b s)) (class_past b s past)

-- the relocations that a section's table holds are that section's
pub target_of_table : (b : List ℕ) (s : ℕ) → 0 < kept_relocation_table b s
    → relocation_target b (kept_relocation_table b s) ≡ s
unfolding relocation_target
target_of_table b s some =
    let table = table_of_kept b s some in
    let r = kept_relocation_table b s in
    let P : ℕ → Type 0 = λ t. IsKeptSection b t in
    let kept : IsKeptSection b (section b r).info = subst P (sym table.2) table.0 in
    all_true r (header b).e_shnum (section b r).kind (section b r).info s
    (is_some (section_class b (section b r).info)) table.1.0 table.1.1 table.2
    (some_is (section_class b (section b r).info) (kept_class (section b (section b r).info))
    (class_of_section b (section b r).info kept.0) kept.1)
  where
    all_true : (r n k t s : ℕ) (kept : Bool) → (0 < r) × (r < n) → k ≡ 4 → t ≡ s → kept ≡ true
        → (if ((nat_lt 0 r && nat_lt r n) && (k == 4)) && kept then t else 0) ≡ s
    all_true r n k t s kept within kind same some = grind (arith, nat_tests)

    some_is : (c d : Option SectionClass) → c ≡ d → IsSome d → is_some c ≡ true
    some_is None None same h = absurd (cc)
    some_is None (Some d) same h = absurd (cc)
    some_is (Some c) d same h = refl

-- the fields of a section's relocations share no byte
entry_at : List ℕ → ℕ → ℕ → Relocation
entry_at b r e = relocation_at ((section b r).offset + 24 * e) b

covered : (b : List ℕ) (r e k : ℕ) → Covers (entry_at b r e) k → CoversAt b r e k
unfolding entry_at relocation_at rela
covered b r e k inside =
    let width = width_is (relocation_kind (rela_kind (rela b r e))) in
    (inside.0, subst (λ w. k < (rela b r e).offset + w) width inside.1)

-- entry number e of those that begin with number n
entry_from : (b : List ℕ) (r e n count : ℕ) (x : Relocation)
    → slice_get (relocations_from b (section b r).offset n count) e ≡ Some x
    → (e < count) × (entry_at b r (n + e) ≡ x)
unfolding relocations_from entry_at
entry_from b r e n zero x h = absurd (cc)
entry_from b r zero n (suc count) x h =
    (omega arith, ap (λ k. relocation_at ((section b r).offset + 24 * k) b) (plus_zero n) ∙ same_Some _ x h)
  where
    plus_zero : (n : ℕ) → n + 0 ≡ n
    plus_zero n = omega arith
entry_from b r (suc e) n (suc count) x h =
    let rest = entry_from b r e (n + 1) count x h in
    (omega (arith, rest.0), ap (λ k. relocation_at ((section b r).offset + 24 * k) b) (shifted n e) ∙ rest.1)
  where
    shifted : (n e : ℕ) → n + suc e ≡ (n + 1) + e
    shifted n e = omega arith

apart_in : (b : List ℕ) → IsObject b → (r : ℕ) → IsRela b r → IsKeptSection b (section b r).info
    → AreApart (relocations_from b (section b r).offset 0 (entry_count (section b r)))
unfolding Stands
apart_in b object r rela kept e f k x y first second less covers again =
    let n = entry_count (section b r) in
    let a = entry_from b r e 0 n x first in
    let c = entry_from b r f 0 n y second in
    let C : Relocation → Type 0 = λ z. Covers z k in
    let at_e : CoversAt b r (0 + e) k = covered b r (0 + e) k (subst C (sym a.1) covers) in
    let at_f : CoversAt b r (0 + f) k = covered b r (0 + f) k (subst C (sym c.1) again) in
    let D : ℕ → Type 0 = λ i. CoversAt b r i k in
    object RelocOverlap r f ((rela, kept, c.0), (e, less, (k, subst D (from_zero e) at_e, subst D (from_zero f) at_f)))
  where
    from_zero : (n : ℕ) → 0 + n ≡ n
    from_zero n = omega arith

apart_if : (t : Bool) (xs : List Relocation) → (t ≡ true → AreApart xs) → AreApart (if t then xs else [])
apart_if true xs h = h refl
apart_if false xs h = λ e f k x y a b less c d. absurd (cc)

above_zero : (r : ℕ) → nat_lt 0 r ≡ true → 0 < r
above_zero r h = grind (arith, nat_tests)

pub fields_apart : (b : List ℕ) → IsObject b → (t : ℕ) → AreApart (relocations b t)
unfolding relocations_in
fields_apart b object t =
    let r = kept_relocation_table b t in
    apart_if (nat_lt 0 r) (relocations_from b (section b r).offset 0 (entry_count (section b r))) (λ some.
    (let table = table_of_kept b t (above_zero r some) in
    let K : ℕ → Type 0 = λ x. IsKeptSection b x in
    apart_in b object r table.1 (subst K (sym table.2) table.0)))

pub code_zero : (b : List ℕ) → code_of b 0 ≡ []
unfolding code_of section_class
code_zero b = refl
