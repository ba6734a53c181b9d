-- The faults of the file as a whole: its length, its header, the table of section headers, the bytes of sections.
use Rattle.std.proofs.Common.{◌+◌, ◌*◌, ◌<◌, ◌≤◌, ℕ, List, length, inl, inr, refl, arith}
use Rattle.object_rules.specs.declared.fault.FaultKind.TheVariants.{Truncated, NotElf, NotRelocatable}
use Rattle.object_faults.specs.Parts.{header}
use Rattle.object_faults.specs.Faults.{IsElf, IsRelocatable, HasPartPastEnd, Stands, NoneBelow, IsFirst}
use Rattle.object_faults.proofs.Order.{none_at_first, none_more}

-- a file shorter than its header
pub truncated_short : (b : List ℕ) → length b < 64 → IsFirst Stands b 0 0 Truncated
unfolding Stands
truncated_short b short = record {
  here = (refl, inl (refl, short));
  nowhere_earlier = λ t f h _. absurd (omega arith);
  earlier_kinds = none_at_first b;
}

-- a file that is long enough, but is not ELF, is not found too short
none_below_elf : (b : List ℕ) → 64 ≤ length b → (IsElf (header b) → ⊥) → NoneBelow 1 b
unfolding Stands
none_below_elf b long other =
    none_more Truncated b (none_at_first b) (λ s e h. elim h.1 [ inl short ↦ absurd (omega arith) | inr w ↦ other w.1 ])

-- a file that is not ELF
pub not_elf : (b : List ℕ) → 64 ≤ length b → (IsElf (header b) → ⊥) → IsFirst Stands b 0 0 NotElf
unfolding Stands
not_elf b long other = record {
  here = (refl, refl, long, other);
  nowhere_earlier = λ t f h _. absurd (omega arith);
  earlier_kinds = none_below_elf b long other;
}

-- a file of ELF that is no object
pub not_relocatable : (b : List ℕ) → 64 ≤ length b → IsElf (header b) → (IsRelocatable (header b) → ⊥)
    → IsFirst Stands b 0 0 NotRelocatable
unfolding Stands
not_relocatable b long elf other = record {
  here = (refl, refl, long, other);
  nowhere_earlier = λ t f h _. absurd (omega arith);
  earlier_kinds =
      let first = none_more Truncated b (none_at_first b)
      (λ s e h. elim h.1 [ inl short ↦ absurd (omega arith) | inr w ↦ other w.2 ]) in
      none_more NotElf b first (λ s e h. h.3 elf);
}

-- an object whose table of section headers passes the end
pub table_passes : (b : List ℕ) → 64 ≤ length b → IsElf (header b) → IsRelocatable (header b)
    → length b < (header b).e_shoff + 64 * (header b).e_shnum → IsFirst Stands b 0 0 Truncated
unfolding Stands
table_passes b long elf object past = record {
  here = (refl, inr (long, elf, object, inl (refl, past)));
  nowhere_earlier = λ t f h _. absurd (omega arith);
  earlier_kinds = none_at_first b;
}

-- an object with a table, in which section s is the first one whose bytes pass the end
pub section_passes : (b : List ℕ) (s : ℕ) → 64 ≤ length b → IsElf (header b) → IsRelocatable (header b)
    → (header b).e_shoff + 64 * (header b).e_shnum ≤ length b
    → HasPartPastEnd b s → ((t : ℕ) → t < s → HasPartPastEnd b t → ⊥) → IsFirst Stands b s 0 Truncated
unfolding Stands
section_passes b s long elf object inside past none = record {
  here = (refl, inr (long, elf, object, inr past));
  nowhere_earlier = λ t f h w. elim h [
    | inl lt ↦ elim w.1 [
      | inl short ↦ omega arith
      | inr v ↦ elim v.3
          [ inl table ↦ omega arith | inr part ↦ none t lt part ]
    ]
    | inr same ↦ omega arith
  ];
  earlier_kinds = none_at_first b;
}

-- an object with a table, whose sections' bytes lie in the file
pub none_passes : (b : List ℕ) → 64 ≤ length b → IsElf (header b) → IsRelocatable (header b)
    → (header b).e_shoff + 64 * (header b).e_shnum ≤ length b
    → ((t : ℕ) → HasPartPastEnd b t → ⊥) → NoneBelow 3 b
unfolding Stands
none_passes b long elf object inside none =
    let whole : NoneBelow 1 b =
    none_more Truncated b (none_at_first b)
    (λ s e h. elim h.1 [
      | inl short ↦ omega arith
      | inr v ↦ elim v.3
          [ inl table ↦ omega arith | inr part ↦ none s part ]
    ]) in
    let known : NoneBelow 2 b = none_more NotElf b whole (λ s e h. h.3 elf) in
    none_more NotRelocatable b known (λ s e h. h.3 object)
