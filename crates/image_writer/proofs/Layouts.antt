-- Where the dynamic tables lie, how many bytes each has, and what putting them one behind the other leaves.
use Rattle.std.proofs.Common.{ℕ, ◌+◌, ◌-◌, ◌*◌, ◌≤◌, ◌≡◌, Bool, true, false, List, [], ◌∷◌, ◌++◌, length, replicate}
use Rattle.std.proofs.Common.{refl, subst, sym, ap, ◌∙◌, arith, length-append}
use Rattle.std.specs.Prelude.{if◌then◌else◌}
use Rattle.std.specs.Int.{next_multiple_of}
use Rattle.std.specs.List.{flat_map}
use Rattle.std.proofs.lemmas.List.{append-nil, length-map, length-replicate}
use Rattle.std.proofs.lemmas.List.Concat.{flat_map-append}
use Rattle.elf_records.specs.Fields.{bytes_of, splice}
use Rattle.elf_records.specs.Records.{dynamic_bytes, symbol_bytes, rela_bytes}
use Rattle.elf_records.specs.RecordLaws.{length-dynamic_bytes, length-rela_bytes}
use Rattle.elf_records.specs.declared.dynamic.DynamicEntry.{DynamicEntry}
use Rattle.image_file.specs.declared.relocation.ImageRelocation.{ImageRelocation}
use Rattle.image_writer.specs.declared.draft.NamedSymbol.{NamedSymbol}
use Rattle.image_writer.specs.declared.draft.Draft.{Draft}
use Rattle.image_writer.specs.declared.layout.Layout.{Layout}
use Rattle.image_writer.specs.Contents.{Contents}
use Rattle.image_writer.specs.Tables.{array_size, hash_size, symbols_start, relocations_start, strings}
use Rattle.elf_records.specs.declared.dynamic.TheConstants.{DT_NULL}
use Rattle.image_writer.specs.Tables.{array_entry, flags_entries, has_relocations, hash_words, relocation_entry}
use Rattle.image_writer.specs.Tables.{symbol_rows, symbol_total}
use Rattle.image_writer.specs.Told.{told, layout_of, tables_size, place_entries, leading_entries, array_at, tables_at}
use Rattle.image_writer.proofs.Hashes.{length-words_below, words_below-all}
use Rattle.image_writer.proofs.Puts.{length-items, put_next}
use Rattle.image_writer.proofs.SymbolRows.{length-rows_below, rows_below-all}

-- a multiple is not below
pub next_multiple_of-le : (x : ℕ) → x ≤ next_multiple_of x 8
next_multiple_of-le x = omega arith

-- what a layout keeps, in its own numbers
pub record IsLaidOut (d : Draft) (l : Layout) : Type 0 where
  pub hash : l.array_size + (12 + 4 * (length d.symbols.now + 1)) ≤ l.symbols_start
  pub relocations : l.relocations_start ≡ l.symbols_start + 24 * (length d.symbols.now + 1)
  pub strings_behind : l.strings_start ≡ l.relocations_start + 24 * length d.relocations.now
  pub strings_are : l.strings_size ≡ length (strings (told d))
  pub array_is : l.array_size ≡ array_size (told d)
  pub symbols_are : l.symbols_start ≡ symbols_start (told d)
  pub relocations_are : l.relocations_start ≡ relocations_start (told d)
  pub size_is : l.strings_start + l.strings_size ≡ tables_size (told d)

-- that of a draft, whatever number its array's size is
pub laid_out : (d : Draft) → IsLaidOut d (layout_of (told d))
unfolding layout_of
laid_out d =
    let count = length-map d.symbols.now (λ (s : NamedSymbol). s.symbol) in
    let behind = next_multiple_of-le (array_size (told d) + hash_size (told d)) in
    record {
      hash = rw (sym count) behind;
      relocations = ap (λ n. symbols_start (told d) + 24 * (n + 1)) count;
      strings_behind = refl;
      strings_are = refl;
      array_is = refl;
      symbols_are = refl;
      relocations_are = refl;
      size_is = refl;
    }

pub layout_facts : (d : Draft) (l : Layout) → l ≡ layout_of (told d) → IsLaidOut d l
layout_facts d l is = let P = λ (m : Layout). IsLaidOut d m in subst P (sym is) (laid_out d)

-- how many entries there are
pub leading-count : (b : Bool) (place n : ℕ) → length (leading_entries b place n) ≡ (if b then 3 else 0)
leading-count true place n = refl
leading-count false place n = refl

-- entries have sixteen bytes each
pub length-entries : (entries : List DynamicEntry) → length (flat_map dynamic_bytes entries) ≡ 16 * length entries
length-entries entries = length-items dynamic_bytes 16 entries length-dynamic_bytes

-- how many entries the array has, by the numbers of those that are not in each
pub array-count : (address : ℕ) (c : Contents) (leading flags : ℕ)
    → length (leading_entries (has_relocations c) (address + relocations_start c) (length c.relocations)) ≡ leading
    → length (flags_entries c.is_flagged c.kind) ≡ flags
    → length (array_at address c) ≡ 6 + leading + flags
array-count address c leading flags first second =
    let L = leading_entries (has_relocations c) (address + relocations_start c) (length c.relocations) in
    let F = flags_entries c.is_flagged c.kind in
    let inner = length-append F (array_entry DT_NULL 0 ∷ []) in
    let middle = length-append L (F ++ (array_entry DT_NULL 0 ∷ [])) in
    let outer = length-append (place_entries (layout_of c) address) (L ++ (F ++ (array_entry DT_NULL 0 ∷ []))) in
    omega arith

-- the array's size
pub length-array_at : (address : ℕ) (c : Contents) → length (flat_map dynamic_bytes (array_at address c)) ≡ array_size c
length-array_at address c =
    length-entries (array_at address c)
    ∙ ap (λ n. 16 * n) (array-count address c _ _
    (leading-count (has_relocations c) (address + relocations_start c) (length c.relocations)) refl)

-- the array's entries have room in what a layout tells of it
pub entries-fit : (d : Draft) (l : Layout) → l ≡ layout_of (told d) → (place : ℕ)
    → 16 * (6 + length (leading_entries (has_relocations (told d)) place (length d.relocations.now))
    + length (flags_entries d.is_flagged d.kind)) ≡ l.array_size
entries-fit d l is place =
    let facts = layout_facts d l is in
    let leading = leading-count (has_relocations (told d)) place (length d.relocations.now) in
    rw leading (sym facts.array_is)

-- the sizes of the other tables
pub length-hash : (n : ℕ) → length (flat_map (bytes_of 4) (hash_words n)) ≡ 12 + 4 * n
length-hash n = ap length (sym (words_below-all n)) ∙ length-words_below n n

pub length-rows : (c : Contents) → length (flat_map symbol_bytes (symbol_rows c)) ≡ 24 * symbol_total c
length-rows c = ap length (sym (rows_below-all c)) ∙ length-rows_below c (symbol_total c)

pub length-relocations : (rs : List ImageRelocation)
    → length (flat_map (λ r. rela_bytes (relocation_entry r)) rs) ≡ 24 * length rs
length-relocations rs =
    length-items (λ (r : ImageRelocation). rela_bytes (relocation_entry r)) 24 rs
    (λ r. length-rela_bytes (relocation_entry r))

-- four groups of entries put one behind the other
pub put_groups : (P L F : List DynamicEntry) (e : DynamicEntry) (at next after last : ℕ)
    (bytes one two three four : List ℕ)
    → length P ≡ 5 → next ≡ at + 80 → after ≡ next + 16 * length L → last ≡ after + 16 * length F
    → at ≤ length bytes → next ≤ length one → after ≤ length two
    → one ≡ splice at (flat_map dynamic_bytes P) bytes → two ≡ splice next (flat_map dynamic_bytes L) one
    → three ≡ splice after (flat_map dynamic_bytes F) two → four ≡ splice last (dynamic_bytes e) three
    → four ≡ splice at (flat_map dynamic_bytes (P ++ (L ++ (F ++ (e ∷ []))))) bytes
put_groups P L F e at next after last bytes one two three four five next-is after-is last-is in-0 in-1 in-2 first second third
    fourth =
    let A = flat_map dynamic_bytes P in
    let B = flat_map dynamic_bytes L in
    let C = flat_map dynamic_bytes F in
    let D = flat_map dynamic_bytes (e ∷ []) in
    let long-a : length A ≡ 16 * length P = length-entries P in
    let long-b : length B ≡ 16 * length L = length-entries L in
    let long-c : length C ≡ 16 * length F = length-entries F in
    let fourth-is : four ≡ splice last D three =
    fourth ∙ ap (λ ys. splice last ys three) (sym (append-nil (dynamic_bytes e))) in
    let back = put_next after last C D two three four (omega arith) in-2 third fourth-is in
    let more = put_next next after B (C ++ D) one two four (omega arith) in-1 second back in
    let all = put_next at next A (B ++ (C ++ D)) bytes one four (omega arith) in-0 first more in
    all
    ∙ ap (λ ys. splice at ys bytes) (
    ap (λ ys. A ++ (B ++ ys)) (sym (flat_map-append dynamic_bytes F (e ∷ [])))
    ∙ ap (λ ys. A ++ ys) (sym (flat_map-append dynamic_bytes L (F ++ (e ∷ []))))
    ∙ sym (flat_map-append dynamic_bytes P (L ++ (F ++ (e ∷ []))))
    )

-- six lists of bytes put one behind the other
pub put_six : (A B C D E F : List ℕ) (at n1 n2 n3 n4 n5 : ℕ) (bytes o1 o2 o3 o4 o5 o6 : List ℕ)
    → n1 ≡ at + length A → n2 ≡ n1 + length B → n3 ≡ n2 + length C → n4 ≡ n3 + length D → n5 ≡ n4 + length E
    → at ≤ length bytes → n1 ≤ length o1 → n2 ≤ length o2 → n3 ≤ length o3 → n4 ≤ length o4
    → o1 ≡ splice at A bytes → o2 ≡ splice n1 B o1 → o3 ≡ splice n2 C o2 → o4 ≡ splice n3 D o3
    → o5 ≡ splice n4 E o4 → o6 ≡ splice n5 F o5
    → o6 ≡ splice at (A ++ (B ++ (C ++ (D ++ (E ++ F))))) bytes
put_six A B C D E F at n1 n2 n3 n4 n5 bytes o1 o2 o3 o4 o5 o6 e1 e2 e3 e4 e5 i0 i1 i2 i3 i4 p1 p2 p3 p4 p5 p6 =
    let q5 = put_next n4 n5 E F o4 o5 o6 e5 i4 p5 p6 in
    let q4 = put_next n3 n4 D (E ++ F) o3 o4 o6 e4 i3 p4 q5 in
    let q3 = put_next n2 n3 C (D ++ (E ++ F)) o2 o3 o6 e3 i2 p3 q4 in
    let q2 = put_next n1 n2 B (C ++ (D ++ (E ++ F))) o1 o2 o6 e2 i1 p2 q3 in
    put_next at n1 A (B ++ (C ++ (D ++ (E ++ F)))) bytes o1 o6 e1 i0 p1 q2

-- how many symbols there are
pub total-told : (d : Draft) → symbol_total (told d) ≡ length d.symbols.now + 1
total-told d = ap (λ n. n + 1) (length-map d.symbols.now (λ (s : NamedSymbol). s.symbol))

-- the zeros behind the hash table
pub gap-is : (at a s t b u v : ℕ) → a ≡ b → s ≡ u → v ≡ t
    → at + s - (at + a + 4 * (3 + t)) ≡ u - (b + (12 + 4 * v))
gap-is at a s t b u v first second third = omega arith

-- where each table ends, in plain numbers
pub hash_ends : (at a n long : ℕ) → long ≡ 12 + 4 * n → at + a + 4 * (3 + n) ≡ at + a + long
hash_ends at a n long is = omega arith

pub hash_before : (at a n s : ℕ) → a + (12 + 4 * n) ≤ s → at + a + 4 * (3 + n) ≤ at + s
hash_before at a n s below = omega arith

pub gap_ends : (from to long : ℕ) → from ≤ to → long ≡ to - from → to ≡ from + long
gap_ends from to long below is = omega arith

pub next_starts : (at s t size long : ℕ) → t ≡ s + size → long ≡ size → at + t ≡ at + s + long
next_starts at s t size long is sized = omega arith

pub all_inside : (at a n s r t z k long : ℕ) → a + (12 + 4 * n) ≤ s → r ≡ s + 24 * n → t ≡ r + k → at + (t + z) ≤ long
    → (at ≤ long) × (at + a ≤ long) × (at + a + 4 * (3 + n) ≤ long) × (at + s ≤ long) × (at + r ≤ long)
all_inside at a n s r t z k long e1 e2 e3 room = (omega arith, omega arith, omega arith, omega arith, omega arith)

-- the tables put one behind the other
pub put_all : (d : Draft) (l : Layout) (address at : ℕ) (bytes o1 o2 o3 o4 o5 o6 : List ℕ) → l ≡ layout_of (told d)
    → at + (l.strings_start + l.strings_size) ≤ length bytes
    → length o1 ≡ length bytes → length o2 ≡ length bytes → length o3 ≡ length bytes → length o4 ≡ length bytes
    → o1 ≡ splice at (flat_map dynamic_bytes (array_at address (told d))) bytes
    → o2 ≡ splice (at + l.array_size) (flat_map (bytes_of 4) (hash_words (length d.symbols.now + 1))) o1
    → o3 ≡ splice (at + l.array_size + 4 * (3 + (length d.symbols.now + 1)))
    (replicate (at + l.symbols_start - (at + l.array_size + 4 * (3 + (length d.symbols.now + 1)))) 0) o2
    → o4 ≡ splice (at + l.symbols_start) (flat_map symbol_bytes (symbol_rows (told d))) o3
    → o5 ≡ splice (at + l.relocations_start) (flat_map (λ r. rela_bytes (relocation_entry r)) d.relocations.now) o4
    → o6 ≡ splice (at + l.strings_start) (strings (told d)) o5
    → o6 ≡ splice at (tables_at address (told d)) bytes
unfolding tables_at
put_all d l address at bytes o1 o2 o3 o4 o5 o6 is room s1 s2 s3 s4 p1 p2 p3 p4 p5 p6 =
    let facts = layout_facts d l is in
    let n = length d.symbols.now + 1 in
    let total = total-told d in
    let hash_end = at + l.array_size + 4 * (3 + n) in
    let A : List ℕ = flat_map dynamic_bytes (array_at address (told d)) in
    let B : List ℕ = flat_map (bytes_of 4) (hash_words (symbol_total (told d))) in
    let C : List ℕ = replicate (symbols_start (told d) - (array_size (told d) + hash_size (told d))) 0 in
    let D : List ℕ = flat_map symbol_bytes (symbol_rows (told d)) in
    let E : List ℕ = flat_map (λ r. rela_bytes (relocation_entry r)) d.relocations.now in
    let gap = gap-is at l.array_size l.symbols_start n (array_size (told d)) (symbols_start (told d))
    (symbol_total (told d))
    facts.array_is facts.symbols_are total in
    let long-a : length A ≡ l.array_size = length-array_at address (told d) ∙ sym facts.array_is in
    let long-b : length B ≡ 12 + 4 * n = length-hash (symbol_total (told d)) ∙ ap (λ k. 12 + 4 * k) total in
    let long-c : length C ≡ at + l.symbols_start - hash_end =
    length-replicate (symbols_start (told d) - (array_size (told d) + hash_size (told d))) 0 ∙ sym gap in
    let long-d : length D ≡ 24 * n = length-rows (told d) ∙ ap (λ k. 24 * k) total in
    let long-e : length E ≡ 24 * length d.relocations.now = length-relocations d.relocations.now in
    let e2 : hash_end ≡ at + l.array_size + length B = hash_ends at l.array_size n (length B) long-b in
    let before : hash_end ≤ at + l.symbols_start = hash_before at l.array_size n l.symbols_start facts.hash in
    let e3 : at + l.symbols_start ≡ hash_end + length C =
    gap_ends hash_end (at + l.symbols_start) (length C) before long-c in
    let e4 : at + l.relocations_start ≡ at + l.symbols_start + length D =
    next_starts at l.symbols_start l.relocations_start (24 * n) (length D) facts.relocations long-d in
    let e5 : at + l.strings_start ≡ at + l.relocations_start + length E =
    next_starts at l.relocations_start l.strings_start (24 * length d.relocations.now)
    (length E) facts.strings_behind long-e in
    let inside = all_inside at l.array_size n l.symbols_start l.relocations_start l.strings_start l.strings_size
    (24 * length d.relocations.now) (length bytes) facts.hash facts.relocations facts.strings_behind room in
    put_six A B C D E (strings (told d)) at (at + l.array_size) hash_end (at + l.symbols_start)
    (at + l.relocations_start)
    (at + l.strings_start) bytes o1 o2 o3 o4 o5 o6 (ap (λ k. at + k) (sym long-a)) e2 e3 e4 e5 inside.0
    (rw s1 inside.1) (rw s2 inside.2) (rw s3 inside.3) (rw s4 inside.4) p1
    (p2 ∙ ap (λ k. splice (at + l.array_size) (flat_map (bytes_of 4) (hash_words k)) o1) (sym total))
    (p3 ∙ ap (λ k. splice hash_end (replicate k 0) o2) gap) p4 p5 p6
