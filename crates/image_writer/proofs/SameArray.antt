-- Two files whose program headers say the same, and whose last LOAD holds the same bytes, have the same dynamic array.
use Rattle.std.proofs.Common.{◌≡◌, ◌+◌, ◌-◌, ◌*◌, ◌/◌, ◌<◌, ◌≤◌, ◌∙◌, ℕ, List, Bool, true, false, refl, inl, inr, sym}
use Rattle.std.proofs.Common.{ap, arith, nat_le, ◌==◌, ◌&&◌}
use Rattle.std.proofs.Common.{if◌then◌else◌}
use Rattle.std.proofs.lemmas.Bool.{cases_lt, and_parts}
use Rattle.std.proofs.lemmas.Bool.Decides.{nat_tests}
use Rattle.elf_records.specs.Records.{dynamic_at}
use Rattle.elf_records.specs.declared.dynamic.TheConstants.{DT_RELA, DT_RELASZ, DT_STRSZ}
use Rattle.image_faults.specs.Parts.{header, segment, loads, last, has_tls, tls_size}
use Rattle.image_faults.specs.Array.{array_size, entry, HasTag, has_tag, place, HoldsTable, relocations_size}
use Rattle.image_faults.specs.Array.{relocation_count, flags_entry}
use Rattle.image_faults.specs.Array.{strings_size}
use Rattle.image_writer.proofs.SameBytes.{HoldSame, same_dynamic}

-- what the headers of two files say alike; the last LOAD of both holds the same bytes, and the array lies in it
pub record SameHeaders (f b : List ℕ) : Type 0 where
  pub file_type : (header f).e_type ≡ (header b).e_type
  pub loads_are : loads f ≡ loads b
  pub flags_are : (i : ℕ) → i < loads b → (segment f i).flags ≡ (segment b i).flags
  pub offset_is : (i : ℕ) → i < loads b → (segment f i).offset ≡ (segment b i).offset
  pub vaddr_is : (i : ℕ) → i < loads b → (segment f i).vaddr ≡ (segment b i).vaddr
  pub filesz_is : (i : ℕ) → i < loads b → (segment f i).filesz ≡ (segment b i).filesz
  pub memsz_is : (i : ℕ) → i < loads b → (segment f i).memsz ≡ (segment b i).memsz
  pub array_size_is : array_size f ≡ array_size b
  pub has_tls_is : has_tls f ≡ has_tls b
  pub tls_size_is : tls_size f ≡ tls_size b
  pub some : 0 < loads b
  pub array_in : array_size b ≤ (last b).filesz
  pub last_bytes : HoldSame (last b).filesz (last b).offset f b

-- the last LOAD stands at the same place in both
pub last_offset : (f b : List ℕ) → SameHeaders f b → (last f).offset ≡ (last b).offset
last_offset f b same =
    ap (λ n. (segment f (n - 1)).offset) same.loads_are ∙ same.offset_is (loads b - 1) (omega (arith, same.some))

-- at the same address
pub last_vaddr : (f b : List ℕ) → SameHeaders f b → (last f).vaddr ≡ (last b).vaddr
last_vaddr f b same =
    ap (λ n. (segment f (n - 1)).vaddr) same.loads_are ∙ same.vaddr_is (loads b - 1) (omega (arith, same.some))

-- and has the same size
pub last_filesz : (f b : List ℕ) → SameHeaders f b → (last f).filesz ≡ (last b).filesz
last_filesz f b same =
    ap (λ n. (segment f (n - 1)).filesz) same.loads_are ∙ same.filesz_is (loads b - 1) (omega (arith, same.some))

-- an entry that the array has is the same
pub same_entry : (f b : List ℕ) → SameHeaders f b → (j : ℕ) → 16 * (j + 1) ≤ array_size b → entry f j ≡ entry b j
unfolding entry
same_entry f b same j within =
    ap (λ at. dynamic_at (at + 16 * j) f) (last_offset f b same)
    ∙ same_dynamic (last b).filesz (last b).offset f b same.last_bytes ((last b).offset + 16 * j) (omega arith)
    (omega (arith, same.array_in))

-- tests of sizes and of tags that are the same where the size allows it
same_test : (n a c s t k : ℕ) → a ≡ c → (n ≤ c → s ≡ t) → (nat_le n a && (s == k)) ≡ (nat_le n c && (t == k))
same_test n a c s t k sizes tags = elim (cases_lt c n) [
  | inl short ↦ neither n a c s t k sizes short
  | inr within ↦ rw (sizes, tags within) refl
]
  where
    neither : (n a c s t k : ℕ) → a ≡ c → c < n → (nat_le n a && (s == k)) ≡ (nat_le n c && (t == k))
    neither n a c s t k sizes short = grind (arith, nat_tests)

-- the array has an entry of this tag in both or in neither
pub same_has_tag : (f b : List ℕ) → SameHeaders f b → (j tag : ℕ) → has_tag f j tag ≡ has_tag b j tag
same_has_tag f b same j tag =
    same_test (16 * (j + 1)) (array_size f) (array_size b) (entry f j).tag (entry b j).tag tag same.array_size_is
    (λ within. ap (λ e. e.tag) (same_entry f b same j within))

-- the same of the fact
pub tag_there : (f b : List ℕ) → SameHeaders f b → (j tag : ℕ) → HasTag b j tag → HasTag f j tag
tag_there f b same j tag has =
    (omega (arith, same.array_size_is, has.0), ap (λ e. e.tag) (same_entry f b same j has.0) ∙ has.1)

-- and the other way round
pub tag_back : (f b : List ℕ) → SameHeaders f b → (j tag : ℕ) → HasTag f j tag → HasTag b j tag
tag_back f b same j tag has =
    let within : 16 * (j + 1) ≤ array_size b = omega (arith, same.array_size_is, has.0) in
    (within, sym (ap (λ e. e.tag) (same_entry f b same j within)) ∙ has.1)

-- a test that passes says that the array is long enough
pub tagged_within : (b : List ℕ) (j tag : ℕ) → has_tag b j tag ≡ true → 16 * (j + 1) ≤ array_size b
tagged_within b j tag passes = long_enough (16 * (j + 1)) (array_size b) (entry b j).tag tag passes
  where
    long_enough : (n a t k : ℕ) → (nat_le n a && (t == k)) ≡ true → n ≤ a
    long_enough n a t k passes = grind (arith, nat_tests)

-- the value of an entry that is there
pub same_value : (f b : List ℕ) → SameHeaders f b → (j : ℕ) → 16 * (j + 1) ≤ array_size b
    → (entry f j).value ≡ (entry b j).value
same_value f b same j within = ap (λ e. e.value) (same_entry f b same j within)

-- a number that is taken where a test passes
same_if : (p q : Bool) (m n d : ℕ) → p ≡ q → (q ≡ true → m ≡ n) → (if p then m else d) ≡ (if q then n else d)
same_if p true m n d tests same = rw (tests, same refl) refl
same_if p false m n d tests same = rw tests refl

-- the size of the names is the same
pub same_strings_size : (f b : List ℕ) → SameHeaders f b → strings_size f ≡ strings_size b
same_strings_size f b same =
    same_if (has_tag f 3 DT_STRSZ) (has_tag b 3 DT_STRSZ) (entry f 3).value (entry b 3).value 0
    (same_has_tag f b same 3 DT_STRSZ)
    (λ passes. same_value f b same 3 (tagged_within b 3 DT_STRSZ passes))

-- that of the relocations
pub same_relocations_size : (f b : List ℕ) → SameHeaders f b → relocations_size f ≡ relocations_size b
same_relocations_size f b same =
    same_if (has_tag f 5 DT_RELA && has_tag f 6 DT_RELASZ) (has_tag b 5 DT_RELA && has_tag b 6 DT_RELASZ)
    (entry f 6).value (entry b 6).value 0
    (rw (same_has_tag f b same 5 DT_RELA, same_has_tag f b same 6 DT_RELASZ) refl)
    (λ passes. same_value f b same 6
    (tagged_within b 6 DT_RELASZ (and_parts (has_tag b 5 DT_RELA) (has_tag b 6 DT_RELASZ) passes).1))

-- and how many there are
pub same_relocation_count : (f b : List ℕ) → SameHeaders f b → relocation_count f ≡ relocation_count b
unfolding relocation_count
same_relocation_count f b same = ap (λ n. n / 24) (same_relocations_size f b same)

-- the flags stand at the same entry
pub same_flags_entry : (f b : List ℕ) → SameHeaders f b → flags_entry f ≡ flags_entry b
same_flags_entry f b same = ap (λ (c : Bool). if c then 8 else 5) (same_has_tag f b same 5 DT_RELA)

-- an address of the last LOAD stands at the same place in the file
pub same_place : (f b : List ℕ) → SameHeaders f b → (address : ℕ) → place f address ≡ place b address
same_place f b same address = omega (arith, last_offset f b same, last_vaddr f b same)

-- a table of the last LOAD of one lies in that of the other
pub table_there : (f b : List ℕ) → SameHeaders f b → (address n : ℕ) → HoldsTable b address n → HoldsTable f address n
table_there f b same address n holds =
    let vaddr = last_vaddr f b same in
    let filesz = last_filesz f b same in
    (omega (arith, holds.0), rw vaddr holds.1, omega (arith, holds.2))
