-- The pieces of a file are the parts laid one after another.
use Rattle.std.proofs.Common.{◌≡◌, ◌+◌, ◌-◌, ◌∙◌, ◌++◌, ℕ, zero, suc, List, [], ◌∷◌, drop, length, map, take}
use Rattle.std.proofs.Common.{length-append, refl, sym, ap, subst, arith}
use Rattle.std.specs.Prelude.{slice_range}
use Rattle.std.proofs.lemmas.List.{take-append-drop}
use Rattle.std.proofs.Math.Seq.{take-length}
use Rattle.placed_sections.specs.declared.part.PlacedPart.{PlacedPart}
use Rattle.placed_sections.specs.Files.{bytes_in, filled}
use Rattle.placed_sections.proofs.Chains.{laid-append}
use Rattle.file_bytes.specs.Pieces.{joined}
use Rattle.tls_relocs.specs.Laid.{end_of}
use Rattle.link_needs.specs.Linking.{Linking}
use Rattle.link_core.specs.Bytes.{linked_section}
use Rattle.link_core.specs.Laying.{Rise, laid_parts, pieces_of}
use Rattle.link_core.proofs.Laying.{cut}

module _ (l : Linking) where
  -- where parts end
  abbrev ends : ℕ → List PlacedPart → ℕ
  ends from parts = end_of from (map (filled (linked_section l)) parts)

  abbrev after : PlacedPart → ℕ
  after part = part.place + length (bytes_in (linked_section l) part.section)

  pub pieces_count : (from : ℕ) (parts : List PlacedPart) → length (pieces_of l from parts) ≡ length parts
  pieces_count from [] = refl
  pieces_count from (part ∷ more) = ap suc (pieces_count (after part) more)

  pub pieces_joined : (from : ℕ) (parts : List PlacedPart) → joined (pieces_of l from parts) ≡ laid_parts l from parts
  pieces_joined from [] = refl
  pieces_joined from (part ∷ more) =
      ap (λ xs. laid_parts l from (part ∷ []) ++ xs) (pieces_joined (after part) more)
      ∙ sym (laid-append from (filled (linked_section l) part ∷ []) (map (filled (linked_section l)) more))

  pub pieces_take : (n from : ℕ) (parts : List PlacedPart)
      → take n (pieces_of l from parts) ≡ pieces_of l from (take n parts)
  pieces_take zero from parts = refl
  pieces_take (suc n) from [] = refl
  pieces_take (suc n) from (part ∷ more) =
      ap (λ xs. laid_parts l from (part ∷ []) ∷ xs) (pieces_take n (after part) more)

  pub pieces_drop : (n from : ℕ) (parts : List PlacedPart)
      → drop n (pieces_of l from parts) ≡ pieces_of l (ends from (take n parts)) (drop n parts)
  pieces_drop zero from parts = refl
  pieces_drop (suc n) from [] = refl
  pieces_drop (suc n) from (part ∷ more) = pieces_drop n (after part) more

  -- some of the parts, from where the one before them ends, are some of the pieces
  pub record IsRun (start from to : ℕ) (parts : List PlacedPart) (pieces : List (List ℕ)) : Type 0 where
    pub rise : Rise l start (slice_range parts from to)
    pub made : laid_parts l start (slice_range parts from to) ≡ joined (slice_range pieces from to)

  pub run_of : (start from to : ℕ) (parts : List PlacedPart) (pieces : List (List ℕ)) → Rise l 4096 parts
      → start ≡ 4096 + length (laid_parts l 4096 (take from parts)) → pieces_of l 4096 parts ≡ pieces
      → IsRun start from to parts pieces
  run_of start from to parts pieces rise is are =
      let front = take from parts in
      let back = drop from parts in
      let own = take (to - from) back in
      let whole = cut l 4096 front back (subst (λ xs. Rise l 4096 xs) (sym (take-append-drop from parts)) rise) in
      let at : start ≡ ends 4096 front = is ∙ whole.length_is in
      let rises = subst (λ n. Rise l n back) (sym at) whole.back_rise in
      record {
        rise = (cut l start own (drop (to - from) back)
            (subst (λ xs. Rise l start xs) (sym (take-append-drop (to - from) back)) rises)).front_rise;
        made =
            ap (λ n. laid_parts l n own) at
            ∙ sym (pieces_joined (ends 4096 front) own)
            ∙ ap joined (sym (pieces_take (to - from) (ends 4096 front) back))
            ∙ ap (λ ps. joined (take (to - from) ps)) (sym (pieces_drop from 4096 parts))
            ∙ ap (λ ps. joined (slice_range ps from to)) are;
      }

-- a part is a piece
pub as_many : (l : Linking) (parts items : List PlacedPart) (pieces : List (List ℕ)) → parts ≡ items
    → pieces_of l 4096 items ≡ pieces → length parts ≡ length pieces
as_many l parts items pieces same are = ap length same ∙ sym (pieces_count l 4096 items) ∙ ap length are

-- how many bytes the first pieces have
pub front_size : (l : Linking) (n : ℕ) (parts : List PlacedPart)
    → length (joined (take n (pieces_of l 4096 parts))) ≡ length (laid_parts l 4096 (take n parts))
front_size l n parts = ap length (ap joined (pieces_take l n 4096 parts) ∙ pieces_joined l 4096 (take n parts))

-- and the whole file, whose first page is that of the headers
pub whole_size : (l : Linking) (parts : List PlacedPart) (front back : List ℕ) (end : ℕ) → length front ≡ 4096
    → end ≡ 4096 + length (laid_parts l 4096 (take (length parts) parts))
    → end + length back ≡ length (front ++ (joined (pieces_of l 4096 parts) ++ back))
whole_size l parts front back end page is =
    let made = joined (pieces_of l 4096 parts) in
    let all = ap (λ xs. length (laid_parts l 4096 xs)) (take-length parts) in
    omega (
      arith,
      is,
      page,
      all,
      ap length (pieces_joined l 4096 parts),
      length-append front (made ++ back),
      length-append made back,
    )
