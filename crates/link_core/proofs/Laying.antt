-- Pieces of the file, one after another.
use Rattle.std.proofs.Common.{◌≡◌, ◌+◌, ◌-◌, ◌<◌, ◌≤◌, ◌∙◌, ◌++◌, ℕ, zero, suc, List, [], ◌∷◌, drop, get_or, length}
use Rattle.std.proofs.Common.{map, take}
use Rattle.std.proofs.Common.{append_assoc, length-append, refl, sym, ap, subst, arith}
use Rattle.std.specs.List.{All}
use Rattle.std.proofs.lemmas.List.{drop-replicate, get_or-take, length-replicate, length-take-le, map-append}
use Rattle.std.proofs.lemmas.List.{take-append-drop, take-replicate}
use Rattle.std.proofs.Math.Seq.{drop-append_seam}
use Rattle.placed_sections.specs.declared.part.PlacedPart.{PlacedPart}
use Rattle.placed_sections.specs.Files.{bytes_in, filled, placed, sections_file}
use Rattle.placed_sections.specs.Laws.{IsNear}
use Rattle.placed_sections.proofs.Chains.{laid-append, laid-length, rising-split}
use Rattle.placed_sections.proofs.Laid.{placed_map}
use Rattle.placed_sections.proofs.Whole.{all_rise}
use Rattle.tls_relocs.specs.Laid.{Placed, Rising, end_of, laid, zeros}
use Rattle.link_needs.specs.Given.{IsGiven}
use Rattle.link_needs.specs.Linking.{Linking, layout}
use Rattle.link_core.specs.Bytes.{file, linked_section}
use Rattle.link_core.specs.Laying.{AreParts, Rise, laid_parts, made_behind}
use Rattle.link_core.proofs.LengthsKept.{linked_whole}
use Rattle.link_core.proofs.WritingParts.{made_is}

-- ** bytes

-- zeros that are cut
pub zeros_in_front : (m k : ℕ) (front now : List ℕ) → front ≡ take m now → now ≡ zeros k → m ≤ k → front ≡ zeros m
zeros_in_front m k front now is zero_is low = is ∙ ap (take m) zero_is ∙ take-replicate m k 0 low

pub zeros_behind : (m n k : ℕ) (back now : List ℕ) → back ≡ drop m now → now ≡ zeros k → k ≡ m + n → back ≡ zeros n
zeros_behind m n k back now is zero_is sum =
    let left : k - m ≡ n = omega arith in is ∙ ap (drop m) zero_is ∙ drop-replicate m k 0 ∙ ap zeros left

-- ** parts

module _ (l : Linking) where
  abbrev laid_as : PlacedPart → Placed
  laid_as = filled (linked_section l)

  -- parts that are cut: those in front, and those behind, from where the front ends
  pub record IsCut (from : ℕ) (front back : List PlacedPart) : Type 0 where
    pub front_rise : Rise l from front
    pub back_rise : Rise l (end_of from (map laid_as front)) back
    pub laid : laid_parts l from (front ++ back)
        ≡ laid_parts l from front ++ laid_parts l (end_of from (map laid_as front)) back
    pub length_is : from + length (laid_parts l from front) ≡ end_of from (map laid_as front)

  pub cut : (from : ℕ) (front back : List PlacedPart) → Rise l from (front ++ back) → IsCut from front back
  cut from front back rise =
      let both = map-append laid_as front back in
      let split = rising-split from (map laid_as front) (map laid_as back)
      (subst (λ xs. Rising from xs) both rise) in
      record {
        front_rise = split.0;
        back_rise = split.1;
        laid = ap (laid from) both ∙ laid-append from (map laid_as front) (map laid_as back);
        length_is = laid-length from (map laid_as front) split.0;
      }

  -- where parts end: where the last does
  pub last_ends : (from : ℕ) (parts : List PlacedPart) (n : ℕ) (d : PlacedPart) → length parts ≡ n + 1
      → end_of from (map laid_as parts)
      ≡ (get_or parts n d).place + length (bytes_in (linked_section l) (get_or parts n d).section)
  last_ends from [] n d e = absurd (omega arith)
  last_ends from (x ∷ []) zero d e = refl
  last_ends from (x ∷ []) (suc n) d e = absurd (omega arith)
  last_ends from (x ∷ y ∷ more) zero d e = absurd (omega arith)
  last_ends from (x ∷ y ∷ more) (suc n) d e =
      last_ends (x.place + length (bytes_in (linked_section l) x.section)) (y ∷ more) n d (omega arith)

-- how long the bytes are
pub one_length : (l : Linking) (from : ℕ) (part : PlacedPart) → length (laid_parts l from (part ∷ []))
    ≡ part.place - from + length (bytes_in (linked_section l) part.section)
one_length l from part =
    let own = bytes_in (linked_section l) part.section in
    omega (
      arith,
      length-append (zeros (part.place - from)) (own ++ []),
      length-append own [],
      length-replicate {A = ℕ} (part.place - from) 0,
    )

pub all_length : (l : Linking) (from : ℕ) (parts : List PlacedPart) (n : ℕ) (d : PlacedPart) → length parts ≡ n + 1
    → Rise l from parts → from + length (laid_parts l from parts)
    ≡ (get_or parts n d).place + length (bytes_in (linked_section l) (get_or parts n d).section)
all_length l from parts n d count rise =
    laid-length from (map (filled (linked_section l)) parts) rise ∙ last_ends l from parts n d count

-- where the first parts end: where the last of them does
pub front_ends : (l : Linking) (parts : List PlacedPart) (n : ℕ) (d : PlacedPart) → Rise l 4096 parts → 0 < n
    → n ≤ length parts
    → (get_or parts (n - 1) d).place + length (bytes_in (linked_section l) (get_or parts (n - 1) d).section)
    ≡ 4096 + length (laid_parts l 4096 (take n parts))
front_ends l parts n d rise some inside =
    let front = take n parts in
    let parted = cut l 4096 front (drop n parts) (subst (λ xs. Rise l 4096 xs) (sym (take-append-drop n parts)) rise) in
    ap (λ (p : PlacedPart). p.place + length (bytes_in (linked_section l) p.section))
    (sym (get_or-take n parts (n - 1) d (omega arith)))
    ∙ sym (all_length l 4096 front (n - 1) d (omega (arith, length-take-le n parts inside)) parted.front_rise)

-- that of two halves
pub both_length : (from middle : ℕ) (all front back : List ℕ) → all ≡ front ++ back → from + length front ≡ middle
    → (length all ≡ middle - from + length back) × (length front ≡ middle - from)
both_length from middle all front back is ends =
    let long = ap length is in let sum = length-append front back in (omega arith, omega arith)

-- ** the file

-- the parts as code has them, with their bytes
parts_filled : (l : Linking) (parts : List PlacedPart) → parts ≡ placed (λ part. part) (layout l) l.objects
    → map (filled (linked_section l)) parts ≡ placed (filled (linked_section l)) (layout l) l.objects
parts_filled l parts are =
    ap (map (filled (linked_section l))) are
    ∙ placed_map (filled (linked_section l)) (λ part. part) (layout l) l.objects

pub parts_are : (l : Linking) → IsGiven l → (parts : List PlacedPart)
    → parts ≡ placed (λ part. part) (layout l) l.objects → All (IsNear l.objects) parts → AreParts l parts
parts_are l given parts are near = record {
  near = near;
  rise =
      subst (λ xs. Rising 4096 xs) (sym (parts_filled l parts are))
      (all_rise l.kind (linked_section l) l.objects (linked_whole l given));
}

-- the file behind its first page
pub file_behind : (l : Linking) (parts : List PlacedPart) (n : ℕ) (last : List ℕ)
    → parts ≡ placed (λ part. part) (layout l) l.objects → n ≡ 4096
    → drop n (file l) ++ last ≡ laid_parts l n parts ++ (made_behind l (n + length (laid_parts l n parts)) ++ last)
unfolding file sections_file
file_behind l parts n last are is =
    let page = zeros n in
    let sections = sections_file (layout l) (linked_section l) l.objects in
    let own = laid_parts l n parts in
    let len : length page ≡ n = length-replicate {A = ℕ} n 0 in
    let whole : sections ≡ page ++ own =
    ap (λ m. zeros m ++ laid m (placed (filled (linked_section l)) (layout l) l.objects)) (sym is)
    ∙ ap (λ xs. page ++ laid n xs) (sym (parts_filled l parts are)) in
    let long : length sections ≡ n + length own = omega (arith, ap length whole, length-append page own, len) in
    let made = made_behind l (n + length own) in
    let all : file l ≡ page ++ (own ++ made) =
    sym (made_is l sections)
    ∙ ap (λ m. sections ++ made_behind l m) long
    ∙ ap (λ xs. xs ++ made) whole
    ∙ append_assoc page own made in
    ap (λ xs. drop n xs ++ last) all
    ∙ ap (λ m. drop m (page ++ (own ++ made)) ++ last) (sym len)
    ∙ ap (λ xs. xs ++ last) (drop-append_seam page (own ++ made))
    ∙ append_assoc own made last
