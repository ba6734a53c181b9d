-- What an image keeps, said of each place: the rules say only that nothing breaks them.
use Rattle.std.proofs.Common.{◌≡◌, ◌+◌, ◌^◌, ◌<◌, ◌≤◌, ℕ, List, length, inl, inr, refl, arith}
use Rattle.elf_records.specs.declared.program_header.Segment.{Segment as Header}
use Rattle.image_rules.specs.declared.rule.Rule.TheVariants.{Length, Field, Extent, Segment, Entry}
use Rattle.image_rules.specs.declared.rule.FieldRule.{FieldRule}
use Rattle.image_rules.specs.declared.rule.FieldRule.TheVariants.{FileType, Machine, Version, TableOffset, EntrySize}
use Rattle.image_rules.specs.declared.rule.FieldRule.TheVariants.{Count}
use Rattle.image_rules.specs.declared.rule.EntryRule.{EntryRule}
use Rattle.image_rules.specs.declared.rule.EntryRule.TheVariants.{Hash, Strings, Symbols, StringsSize, SymbolSize}
use Rattle.image_rules.specs.declared.rule.EntryRule.TheVariants.{Relocations, RelocationsSize, RelocationSize, Flags}
use Rattle.image_rules.specs.declared.rule.EntryRule.TheVariants.{End}
use Rattle.image_faults.specs.Parts.{header, count, segment, loads}
use Rattle.image_faults.specs.Fields.{IsRightField}
use Rattle.image_faults.specs.Segments.{IsRightLoad, IsRightDynamic, HoldsInitialImage, IsAlignment, IsRightTls}
use Rattle.image_faults.specs.Segments.{IsRightRelro, IsRightRest}
use Rattle.image_faults.specs.Array.{HasTag, HoldsTable, IsRightEntry, entry_place}
use Rattle.image_faults.specs.Faults.{Breaks, IsImage}
use Rattle.image_writer.proofs.Decided.{Dec, stable, dec_eq, dec_lt, dec_le, dec_map, dec_not, dec_differ, dec_or}
use Rattle.image_writer.proofs.Decided.{dec_both, dec_three, dec_four, dec_five, dec_six, dec_seven, dec_below}
use Rattle.image_writer.proofs.Decided.{dec_some}

-- an alignment is one of thirteen numbers
known_alignment : (n : ℕ) → Dec (IsAlignment n)
known_alignment n =
    let P : ℕ → Type 0 = λ k. n ≡ 2 ^ k in
    dec_map {P = (k : ℕ) × (k < 13) × P k} (λ found. (found.0, omega (arith, found.1), found.2))
    (λ found. (found.0, omega (arith, found.1), found.2))
    (dec_below P 13 (λ k. dec_eq n (2 ^ k)))

-- what each LOAD says
known_load : (b : List ℕ) (i : ℕ) → Dec (IsRightLoad b i)
known_load b i =
    dec_six
    (dec_eq _ _)
    (dec_or (dec_eq _ _) (dec_or (dec_eq _ _) (dec_eq _ _)))
    (dec_three (dec_eq _ _) (dec_lt _ _) (dec_eq _ _))
    (dec_three (dec_le _ _) (dec_le _ _) (dec_or (dec_eq _ _) (dec_le _ _)))
    (dec_or (dec_differ _ _) (dec_lt _ _))
    (dec_or (dec_differ _ _) (dec_eq _ _))

-- what DYNAMIC says
known_dynamic : (b : List ℕ) (i : ℕ) → Dec (IsRightDynamic b i)
known_dynamic b i = dec_six (dec_lt _ _) (dec_lt _ _) (dec_eq _ _) (dec_eq _ _) (dec_eq _ _) (dec_le _ _)

-- a LOAD holds the initial image
known_initial : (b : List ℕ) (s : Header) → Dec ((i : ℕ) × HoldsInitialImage b s i)
known_initial b s =
    dec_some (HoldsInitialImage b s) (loads b) (λ i holds. omega (arith, holds.0))
    (λ i. dec_four (dec_lt _ _) (dec_eq _ _) (dec_eq _ _) (dec_eq _ _))

-- what the TLS segment says
known_tls : (b : List ℕ) (s : Header) → Dec (IsRightTls b s)
known_tls b s =
    dec_seven (dec_eq _ _) (dec_le _ _) (dec_lt _ _) (dec_le _ _) (known_alignment s.align) (dec_eq _ _)
    (dec_or (dec_eq _ _) (known_initial b s))

-- what GNU_RELRO says
known_relro : (b : List ℕ) (s : Header) → Dec (IsRightRelro b s)
known_relro b s = dec_five (dec_eq _ _) (dec_lt _ _) (dec_eq _ _) (dec_eq _ _) (dec_eq _ _)

-- what a header behind DYNAMIC says
known_rest : (b : List ℕ) (i : ℕ) → Dec (IsRightRest b i)
known_rest b i =
    dec_or (dec_three (dec_eq _ _) (dec_eq _ _) (known_tls b (segment b i)))
    (dec_three (dec_eq _ _) (dec_eq _ _) (known_relro b (segment b i)))

-- the array has an entry
known_tag : (b : List ℕ) (j tag : ℕ) → Dec (HasTag b j tag)
known_tag b j tag = dec_both (dec_le _ _) (dec_eq _ _)

-- a table lies in the last LOAD
known_table : (b : List ℕ) (address n : ℕ) → Dec (HoldsTable b address n)
known_table b address n = dec_three (dec_le _ _) (dec_eq _ _) (dec_le _ _)

-- what each entry of the array says
known_entry : (rule : EntryRule) (b : List ℕ) → Dec (IsRightEntry rule b)
known_entry Hash b = dec_three (known_tag b _ _) (known_table b _ _) (dec_eq _ _)
known_entry Strings b = dec_both (known_tag b _ _) (known_table b _ _)
known_entry Symbols b = dec_both (known_tag b _ _) (known_table b _ _)
known_entry StringsSize b = known_tag b _ _
known_entry SymbolSize b = dec_both (known_tag b _ _) (dec_eq _ _)
known_entry Relocations b = dec_or (dec_not (known_tag b _ _)) (dec_both (known_tag b _ _) (known_table b _ _))
known_entry RelocationsSize b = dec_or (dec_not (known_tag b _ _)) (dec_both (known_tag b _ _) (dec_eq _ _))
known_entry RelocationSize b = dec_or (dec_not (known_tag b _ _)) (dec_both (known_tag b _ _) (dec_eq _ _))
known_entry Flags b =
    dec_or (known_tag b _ _)
    (dec_or (dec_both (known_tag b _ _) (dec_eq _ _)) (dec_three (known_tag b _ _) (dec_eq _ _) (dec_eq _ _)))
known_entry End b = dec_or (known_tag b _ _) (known_tag b _ _)

-- what a field of the header says
known_field : (rule : FieldRule) (b : List ℕ) → Dec (IsRightField rule (header b))
known_field FileType b = dec_or (dec_eq _ _) (dec_eq _ _)
known_field Machine b = dec_eq _ _
known_field Version b = dec_eq _ _
known_field TableOffset b = dec_eq _ _
known_field EntrySize b = dec_eq _ _
known_field Count b = dec_both (dec_lt _ _) (dec_le _ _)

-- each field of the header is right
pub field_right : (b : List ℕ) → IsImage b → (rule : FieldRule) → IsRightField rule (header b)
unfolding Breaks
field_right b image rule =
    stable (IsRightField rule (header b)) (known_field rule b) (λ wrong. image (Field rule) 0 (refl, wrong))

-- the file holds the header
pub header_in : (b : List ℕ) → IsImage b → 64 ≤ length b
unfolding Breaks
header_in b image = stable (64 ≤ length b) (dec_le _ _) (λ short. image Length 0 (refl, omega (arith, short)))

-- the file holds the bytes of each segment
pub segment_in : (b : List ℕ) → IsImage b → (i : ℕ) → i < count b
    → (segment b i).offset + (segment b i).filesz ≤ length b
unfolding Breaks
segment_in b image i h =
    stable ((segment b i).offset + (segment b i).filesz ≤ length b) (dec_le _ _)
    (λ short. image Extent 0 (refl, inr (i, (h, omega (arith, short)))))

-- each LOAD is right
pub load_right : (b : List ℕ) → IsImage b → (i : ℕ) → i < loads b → IsRightLoad b i
unfolding Breaks
load_right b image i h = stable (IsRightLoad b i) (known_load b i) (λ wrong. image Segment i (inl (h, wrong)))

-- DYNAMIC is right
pub dynamic_right : (b : List ℕ) → IsImage b → IsRightDynamic b (loads b)
unfolding Breaks
dynamic_right b image =
    stable (IsRightDynamic b (loads b)) (known_dynamic b (loads b))
    (λ wrong. image Segment (loads b) (inr (inl (refl, wrong))))

-- each header behind DYNAMIC is right
pub rest_right : (b : List ℕ) → IsImage b → (i : ℕ) → loads b < i → i < count b → IsRightRest b i
unfolding Breaks
rest_right b image i above below =
    stable (IsRightRest b i) (known_rest b i) (λ wrong. image Segment i (inr (inr (above, below, wrong))))

-- each entry of the array is right
pub entry_right : (b : List ℕ) → IsImage b → (rule : EntryRule) → IsRightEntry rule b
unfolding Breaks
entry_right b image rule =
    stable (IsRightEntry rule b) (known_entry rule b) (λ wrong. image (Entry rule) (entry_place rule b) (refl, wrong))
