-- The entries of the table and the stub stand at their places.
use Rattle.std.proofs.Common.{◌≡◌, ◌+◌, ◌-◌, ◌^◌, ◌<◌, ◌≤◌, ◌∙◌, ◌++◌, ℕ, suc, ℤ, Bool, true, false, List, [], ◌∷◌, ◌%◌}
use Rattle.std.proofs.Common.{inl, inr, Some, FitsSigned, length, take, refl, sym, ap, subst, arith}
use Rattle.std.specs.Prelude.{pos, negsuc, ◌+ℤ◌, ◌-ℤ◌, if◌then◌else◌, unwrap_or}
use Rattle.std.specs.Int.{w32, cast_unsigned}
use Rattle.std.specs.List.{flat_map}
use Rattle.std.specs.Option.{IfSome}
use Rattle.std.proofs.Math.Nat.{mod-eq_of_lt}
use Rattle.std.proofs.lemmas.Bool.{cases_lt, le-ltb, lt-ltb}
use Rattle.std.proofs.lemmas.List.{append-nil, length-replicate, take_at}
use Rattle.std.proofs.lemmas.Option.{same_Some}
use Rattle.elf_records.specs.Fields.{bytes_of, part_at}
use Rattle.elf_records.specs.Laws.{length-bytes_of, part_again, part_at-append, part_at-behind}
use Rattle.got_pairs.specs.declared.need.Need.{Need}
use Rattle.got_pairs.specs.declared.need.Need.TheVariants.{RuntimeWord}
use Rattle.got_pairs.specs.Needs.{same_need, size_of, start_from, start_of}
use Rattle.got_pairs.proofs.Equal.{need_is, size_some}
use Rattle.got_pairs.proofs.Served.{within}
use Rattle.placed_sections.specs.Files.{offset_of, sections_file}
use Rattle.placed_sections.proofs.Told.{files_end}
use Rattle.tls_layout.proofs.Together.{page_up-above}
use Rattle.tls_relocs.specs.declared.fields.Field.TheVariants.{Empty, Word32}
use Rattle.tls_relocs.specs.Fields.{field_bytes}
use Rattle.tls_relocs.specs.Laid.{zeros}
use Rattle.tls_relocs.specs.Values.{signed_field}
use Rattle.link_needs.specs.Linking.{Linking, layout}
use Rattle.link_needs.specs.Needs.{entries, got_size, got_start, has_stub, need_address, stub_start}
use Rattle.link_core.specs.Bytes.{file, got_bytes, linked_section, need_bytes, stub_bytes, with_got, with_part}
use Rattle.link_core.specs.Bytes.{with_stub}
use Rattle.link_needs.specs.Given.{FitsTable, IsGiven}
use Rattle.link_core.proofs.LengthsKept.{are_laid}
use Rattle.link_core.proofs.LengthsPlaces.{base_before, got_end, got_end-before, got_start-after}
use Rattle.link_core.proofs.LengthsRaw.{back_fits, got_length, need_length, stub_length, stub_small}
use Rattle.link_core.proofs.LengthsRaw.{with_got_length, word_before}
use Rattle.link_core.proofs.GotRelocationsSites.{not_zero}

-- ** an entry in the bytes of the table

module _ (l : Linking) (need : Need) where
  -- the entry of a need, where the first begins at `from`
  pub entry_in : (from at : ℕ) (ks : List Need) → start_from from ks need ≡ Some at
      → (from ≤ at)
      × (part_at (length (need_bytes l need)) (at - from) (flat_map (need_bytes l) ks) ≡ need_bytes l need)
  entry_in from at [] e = absurd (cc)
  entry_in from at (k ∷ ks) e =
      of_test (same_need need k) refl e (entry_in (from + size_of k) at ks)
    where
      of_test : (t : Bool) → same_need need k ≡ t
          → (if t then Some from else start_from (from + size_of k) ks need) ≡ Some at
          → (start_from (from + size_of k) ks need ≡ Some at → (from + size_of k ≤ at)
          × (part_at (length (need_bytes l need)) (at - (from + size_of k)) (flat_map (need_bytes l) ks)
          ≡ need_bytes l need))
          → (from ≤ at)
          × (part_at (length (need_bytes l need)) (at - from) (flat_map (need_bytes l) (k ∷ ks)) ≡ need_bytes l need)
      of_test true same e rest =
          let here : from ≡ at = same_Some from at e in
          let start : at - from ≡ 0 = omega arith in
          let N : ℕ → Type 0 = λ i.
          part_at (length (need_bytes l need)) i (flat_map (need_bytes l) (k ∷ ks)) ≡ need_bytes l need in
          let K : Need → Type 0 = λ x.
          part_at (length (need_bytes l need)) 0 (need_bytes l x ++ flat_map (need_bytes l) ks) ≡ need_bytes l need in (
            omega arith,
            subst N (sym start) (subst K (need_is need k same)
                (part_again 0 [] (need_bytes l need) (flat_map (need_bytes l) ks) refl)),
          )
      of_test false same e rest =
          let r = rest e in
          let long = need_length l k in
          let further : at - from ≡ length (need_bytes l k) + (at - (from + size_of k)) = omega (arith, r.0) in (
            omega (arith, r.0),
            ap (λ i. part_at (length (need_bytes l need)) i (flat_map (need_bytes l) (k ∷ ks))) further
                ∙ part_at-behind (length (need_bytes l need)) (at - (from + size_of k)) (need_bytes l k)
                (flat_map (need_bytes l) ks) ∙ r.1,
          )

-- ** a part behind a file

part_in : (l : Linking) (n at address : ℕ) (bytes file : List ℕ) → length file ≤ offset_of (layout l) address
    → part_at n (offset_of (layout l) address + at) (with_part l address bytes file) ≡ part_at n at bytes
part_in l n at address bytes file behind =
    let gap = offset_of (layout l) address - length file in
    let long = length-replicate {A = ℕ} gap 0 in
    let whole : offset_of (layout l) address + at ≡ length file + (gap + at) = omega arith in
    ap (λ i. part_at n i (with_part l address bytes file)) whole
    ∙ part_at-behind n (gap + at) file (zeros gap ++ bytes)
    ∙ ap (λ g. part_at n (g + at) (zeros gap ++ bytes)) (sym long)
    ∙ part_at-behind n at (zeros gap) bytes

stub_behind : (l : Linking) (n at : ℕ) (file : List ℕ) → at + n ≤ length file
    → part_at n at (with_stub l file) ≡ part_at n at file
stub_behind l n at file inside = of_test (has_stub l)
  where
    of_test : (t : Bool) → part_at n at (if t then with_part l (stub_start l) (stub_bytes l) file else file)
        ≡ part_at n at file
    of_test true = part_at-append n at file _ inside
    of_test false = refl

-- ** the table

-- a table that has bytes is one
pub got_there : (l : Linking) (file : List ℕ) → 0 < got_size l
    → (with_got l file ≡ with_part l (got_start l) (got_bytes l) file) × (got_end l ≡ got_start l + got_size l)
got_there l file some = rw (not_zero (got_size l) some) (refl, refl)

-- bytes of it
in_table : (l : Linking) → IsGiven l → FitsTable l → (n at : ℕ) → at + n ≤ got_size l → 0 < got_size l
    → part_at n (offset_of (layout l) (got_start l) + at) (file l) ≡ part_at n at (got_bytes l)
unfolding file
in_table l given limits n at inside some =
    let sections = sections_file (layout l) (linked_section l) l.objects in
    let there = got_there l sections some in
    let above = base_before l in
    let low = files_end l.kind (linked_section l) l.objects (are_laid l given limits) in
    let long = with_got_length l sections low in
    stub_behind l n (offset_of (layout l) (got_start l) + at) (with_got l sections) (omega (arith, there.1, long))
    ∙ ap (part_at n (offset_of (layout l) (got_start l) + at)) there.0
    ∙ part_in l n at (got_start l) (got_bytes l) sections (omega (arith, low, got_start-after l))

-- each entry, with the words of its need
pub entry_stands : (l : Linking) → IsGiven l → FitsTable l → (need : Need) (at : ℕ)
    → start_of (entries l) need ≡ Some at
    → part_at (length (need_bytes l need)) (offset_of (layout l) (got_start l + at)) (file l) ≡ need_bytes l need
unfolding got_bytes
entry_stands l given limits need at e =
    let n = length (need_bytes l need) in
    let size = need_length l need in
    let inside : at + size_of need ≤ got_size l = subst (λ o. IfSome o (λ s. s + size_of need ≤ got_size l)) e
    (within (entries l) need (start_of (entries l) need) refl) in
    let above = base_before l in
    let whole : offset_of (layout l) (got_start l + at) ≡ offset_of (layout l) (got_start l) + at = omega arith in
    let first : at ≡ at - 0 = omega arith in
    ap (λ i. part_at n i (file l)) whole
    ∙ in_table l given limits n at (omega arith) (omega (arith, size_some need))
    ∙ ap (λ i. part_at n i (flat_map (need_bytes l) (entries l))) first
    ∙ (entry_in l need 0 at (entries l) e).1

whole_part : (n : ℕ) (xs : List ℕ) → length xs ≡ n → part_at n 0 xs ≡ xs
unfolding part_at
whole_part n xs e = ap (take n) (sym (append-nil xs)) ∙ take_at xs [] n e

-- the whole of it
pub table_at : (l : Linking) → IsGiven l → FitsTable l → 0 < got_size l
    → part_at (got_size l) (offset_of (layout l) (got_start l)) (file l) ≡ got_bytes l
table_at l given limits some =
    let whole : offset_of (layout l) (got_start l) ≡ offset_of (layout l) (got_start l) + 0 = omega arith in
    ap (λ i. part_at (got_size l) i (file l)) whole
    ∙ in_table l given limits (got_size l) 0 (omega arith) some
    ∙ whole_part (got_size l) (got_bytes l) (got_length l)

-- ** the stub

stub_there : (l : Linking) (file : List ℕ) → has_stub l ≡ true
    → with_stub l file ≡ with_part l (stub_start l) (stub_bytes l) file
stub_there l file e = rw e refl

-- the stub stands at its place
pub stub_at : (l : Linking) → IsGiven l → FitsTable l → has_stub l ≡ true
    → part_at 6 (offset_of (layout l) (stub_start l)) (file l) ≡ stub_bytes l
unfolding file
stub_at l given limits e =
    let sections = sections_file (layout l) (linked_section l) l.objects in
    let low = files_end l.kind (linked_section l) l.objects (are_laid l given limits) in
    let long = with_got_length l sections low in
    let before = got_end-before l in
    let above = base_before l in
    let page = page_up-above (got_start l + got_size l) in
    let whole : offset_of (layout l) (stub_start l) ≡ offset_of (layout l) (stub_start l) + 0 = omega arith in
    ap (part_at 6 (offset_of (layout l) (stub_start l))) (stub_there l (with_got l sections) e)
    ∙ ap (λ i. part_at 6 i (with_part l (stub_start l) (stub_bytes l) (with_got l sections))) whole
    ∙ part_in l 6 0 (stub_start l) (stub_bytes l) (with_got l sections) (omega (arith, long))
    ∙ whole_part 6 (stub_bytes l) (stub_length l given limits)

-- ** how far it jumps

-- numbers below zero
back : (g m : ℕ) → g ≤ m → pos g +ℤ negsuc m ≡ negsuc (m - g)
back g m below =
    let yes = lt-ltb g (suc m) (omega arith) in
    let same : suc m - suc g ≡ m - g = omega arith in
    rw yes (ap negsuc same)

forth : (g m : ℕ) → m < g → pos g +ℤ negsuc m ≡ pos (g - suc m)
forth g m above = let no = le-ltb g (suc m) (omega arith) in rw no refl

distance : (g m : ℕ) → g ≤ suc m → (pos g +ℤ negsuc 3) +ℤ negsuc m ≡ negsuc (m + 4 - g)
distance g m below = elim (cases_lt g 4) [
  | inl near ↦
      let same : suc ((3 - g) + m) ≡ m + 4 - g = omega arith in
      ap (λ z. z +ℤ negsuc m) (back g 3 (omega arith)) ∙ ap negsuc same
  | inr far ↦
      let same : m - (g - 4) ≡ m + 4 - g = omega arith in
      ap (λ z. z +ℤ negsuc m) (forth g 3 (omega arith)) ∙ back (g - 4) m (omega arith) ∙ ap negsuc same
]

-- a number that fits its field stands there in two's complement
in_field : (z : ℤ) → FitsSigned w32 z → signed_field z ≡ Some (Word32 (cast_unsigned w32 z))
in_field (pos n) fits =
    let small : n < 2 ^ 31 = fits.sfits in
    let yes = lt-ltb n (2 ^ 31) small in
    let whole : n % 2 ^ 32 ≡ n = mod-eq_of_lt (omega arith) in
    rw yes (ap (λ w. Some (Word32 w)) whole)
in_field (negsuc n) fits =
    let small : n < 2 ^ 31 = fits.sfits in
    let yes = lt-ltb n (2 ^ 31) small in
    let whole : n % 2 ^ 32 ≡ n = mod-eq_of_lt (omega arith) in
    let bits : 2 ^ 32 - 1 - n % 2 ^ 32 ≡ 2 ^ 32 - suc n = omega arith in
    rw yes (ap (λ w. Some (Word32 w)) bits)

-- from the field's end to the word that the stub jumps through
jump_is : (g p : ℕ) → g ≤ p → (pos g +ℤ negsuc 3) -ℤ pos (p + 2) ≡ pos g -ℤ pos (p + 6)
jump_is g p below =
    let near : p + 2 ≡ suc (p + 1) = omega arith in
    let far : p + 6 ≡ suc (p + 5) = omega arith in
    let same : p + 1 + 4 - g ≡ p + 5 - g = omega arith in
    ap (λ n. (pos g +ℤ negsuc 3) -ℤ pos n) near ∙ distance g (p + 1) (omega arith) ∙ ap negsuc same
    ∙ sym (back g (p + 5) (omega arith)) ∙ ap (λ n. pos g -ℤ pos n) (sym far)

-- its field holds how far the word lies behind the field's end
pub stub_jumps : (l : Linking) → IsGiven l → FitsTable l → part_at 4 2 (stub_bytes l)
    ≡ bytes_of 4 (cast_unsigned w32 (pos (need_address l (Some RuntimeWord)) -ℤ pos (stub_start l + 6)))
unfolding stub_bytes
stub_jumps l given limits =
    let g = need_address l (Some RuntimeWord) in
    let before = word_before l in
    let small = stub_small l given limits in
    let z = (pos g +ℤ negsuc 3) -ℤ pos (stub_start l + 2) in
    let field = in_field z (back_fits g (stub_start l + 2) (omega arith) small) in
    ap (λ f. part_at 4 2 (0xff ∷ 0x25 ∷ field_bytes (unwrap_or f Empty))) field
    ∙ part_at-behind 4 0 (0xff ∷ 0x25 ∷ []) (bytes_of 4 (cast_unsigned w32 z))
    ∙ whole_part 4 (bytes_of 4 (cast_unsigned w32 z)) (length-bytes_of 4 (cast_unsigned w32 z))
    ∙ ap (λ x. bytes_of 4 (cast_unsigned w32 x)) (jump_is g (stub_start l) before)
