-- Tables of the last LOAD lie in the file.
use Rattle.std.proofs.Common.{◌≡◌, ◌+◌, ◌*◌, ◌/◌, ◌≤◌, ◌∙◌, ℕ, List, false, refl, ap, arith, length, nat_le, ◌==◌, ◌&&◌}
use Rattle.std.proofs.lemmas.Bool.Decides.{nat_tests}
use Rattle.elf_records.specs.declared.program_header.Segment.{Segment}
use Rattle.elf_records.specs.declared.dynamic.DynamicEntry.{DynamicEntry}
use Rattle.elf_records.specs.declared.dynamic.TheConstants.{DT_RELA}
use Rattle.image_faults.specs.Parts.{last}
use Rattle.image_faults.specs.Array.{HasTag, HoldsTable, place, entry, has_tag, relocations_size, relocation_count}
use Rattle.image_faults.specs.PlaceLaws.{AreRelocationsAt}

table_inside : (b : List ℕ) (s : Segment) (address n : ℕ) → s ≡ last b → s.offset + s.filesz ≤ length b
    → HoldsTable b address n → place b address + n ≤ length b
table_inside b s address n same inside holds =
    omega (arith, ap (λ x. x.offset) same, ap (λ x. x.filesz) same, inside, holds.0, holds.2)

none_of : (n m t k : ℕ) → ((n ≤ m) × (t ≡ k) → ⊥) → (nat_le n m && (t == k)) ≡ false
none_of n m t k other = grind (arith, nat_tests)

count_of_none : (b : List ℕ) → has_tag b 5 DT_RELA ≡ false → relocation_count b ≡ 0
unfolding relocation_count
count_of_none b none = rw none refl

pub no_relocations : (b : List ℕ) → (HasTag b 5 7 → ⊥) → AreRelocationsAt b 0
no_relocations b other =
    let none = count_of_none b (none_of _ _ _ _ other) in
    record {
      here = λ some. absurd (omega arith);
      inside = omega arith;
    }

pub count_of_size : (b : List ℕ) → 24 * relocation_count b ≤ relocations_size b
unfolding relocation_count
count_of_size b = whole (relocations_size b)
  where
    whole : (n : ℕ) → 24 * (n / 24) ≤ n
    whole n = omega arith

pub relocations_at : (b : List ℕ) (s : Segment) (e : DynamicEntry) (at : ℕ) → s ≡ last b
    → s.offset + s.filesz ≤ length b → e ≡ entry b 5
    → at ≡ place b e.value → HoldsTable b (entry b 5).value (relocations_size b) → AreRelocationsAt b at
relocations_at b s e at same inside five here holds =
    let place_is : at ≡ place b (entry b 5).value = here ∙ ap (λ x. place b x.value) five in
    record {
      here = λ some. place_is;
      inside =
          let within = table_inside b s (entry b 5).value (relocations_size b) same inside holds in
          let few = count_of_size b in
          more at (place b (entry b 5).value) (relocation_count b) (relocations_size b) (length b) place_is few within;
    }
  where
    more : (at p n m len : ℕ) → at ≡ p → 24 * n ≤ m → p + m ≤ len → at + 24 * n ≤ len
    more at p n m len same few within = omega arith
