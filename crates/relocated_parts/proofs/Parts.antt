-- The parts of an image lie behind each other, so that each relocation lies whole in one of them.
use Rattle.std.proofs.Common.{◌≡◌, ◌∙◌, ◌+◌, ◌-◌, ◌<◌, ◌≤◌, ℕ, zero, suc, [], ◌∷◌, ◌++◌, Some, length, map}
use Rattle.std.proofs.Common.{inl, inr, refl, ap, subst, arith, length-append}
use Rattle.std.specs.Prelude.{slice_get}
use Rattle.std.specs.List.{All}
use Rattle.std.proofs.lemmas.Bool.{cases_lt}
use Rattle.std.proofs.lemmas.List.{length-map}
use Rattle.std.proofs.lemmas.List.Elements.{All-weaker}
use Rattle.std.proofs.lemmas.Option.{get_or_from_slice_get, slice_get-map, slice_get_within}
use Rattle.image_file.specs.declared.relocation.ImageRelocation.{ImageRelocation}
use Rattle.image_file.specs.Spelled.{Part}
use Rattle.image_writer.specs.declared.outline.PartPlace.{PartPlace}
use Rattle.image_writer.specs.Contents.{Contents}
use Rattle.image_writer.specs.Linkable.{IsLinkable, IsRightRelocation}
use Rattle.image_writer.specs.Outlined.{Outlined, no_part, outline_of, part, place_of}
use Rattle.image_writer.specs.Outlined as outlined
use Rattle.image_writer.specs.Tables.{finished, tables_part}
use Rattle.relocated_parts.specs.Laws.{LiesWhole, end_of}

module _ (c : Contents) (linkable : IsLinkable c) where
  abbrev o : Outlined
  o = outline_of (finished c)

  previous : (i j : ℕ) → j < length (outline_of (finished c)).parts → i + 1 ≡ j
      → outlined.end_of (part (outline_of (finished c)) i) ≤ (part (outline_of (finished c)) j).address
  previous i j inside next = elim (linkable.loadable.parts j inside).rising [
    | inl first ↦ absurd (omega (arith, first, next))
    | inr rises ↦
        let same : j - 1 ≡ i = omega (arith, next) in
        subst (λ n. outlined.end_of (part (outline_of (finished c)) n) ≤
        (part (outline_of (finished c)) j).address) same rises
  ]

  follows : (d i j : ℕ) → i + suc d ≡ j → j < length (outline_of (finished c)).parts
      → outlined.end_of (part (outline_of (finished c)) i) ≤ (part (outline_of (finished c)) j).address
  follows zero i j far inside = previous i j inside (omega (arith, far))
  follows (suc d) i j far inside =
      let one = follows d i (j - 1) (omega (arith, far)) (omega (arith, inside)) in
      let two = previous (j - 1) j inside (omega (arith, far)) in
      omega (arith, one, two)

  -- a part before another
  before : (i j : ℕ) → i < j → j < length (outline_of (finished c)).parts
      → outlined.end_of (part (outline_of (finished c)) i) ≤ (part (outline_of (finished c)) j).address
  before i j lt inside = follows (j - i - 1) i j (omega (arith, lt)) inside

  -- where a part lies
  pub lies_at : (i : ℕ) (p : Part) → slice_get (finished c).parts i ≡ Some p
      → part (outline_of (finished c)) i ≡ place_of p
  lies_at i p is =
      get_or_from_slice_get (map place_of (finished c).parts) i (place_of p) no_part
      (slice_get-map place_of (finished c).parts i ∙ rw is refl)

  pub part_within : (i : ℕ) (p : Part) → slice_get (finished c).parts i ≡ Some p
      → i < length (outline_of (finished c)).parts
  part_within i p is =
      let lt = slice_get_within (finished c).parts i p is in
      let long = length-map (finished c).parts place_of in
      omega (arith, lt, long)

  -- a part ends before one with a higher number begins
  pub parts_follow : (i j : ℕ) (p q : Part) → slice_get (finished c).parts i ≡ Some p
      → slice_get (finished c).parts j ≡ Some q → i < j → end_of p ≤ q.address
  parts_follow i j p q at_i at_j lt =
      let rise = before i j lt (part_within j q at_j) in
      let one = ap outlined.end_of (lies_at i p at_i) in
      let two = ap (λ (place : PartPlace). place.address) (lies_at j q at_j) in
      omega (arith, rise, one, two)

  -- an address lies in one part
  pub one_part : (i j address : ℕ) (p q : Part) → slice_get (finished c).parts i ≡ Some p
      → slice_get (finished c).parts j ≡ Some q → p.address ≤ address → address < end_of p → q.address ≤ address
      → address < end_of q → i ≡ j
  one_part i j address p q at_i at_j p_low p_high q_low q_high = elim (cases_lt i j) [
    | inl lt ↦ absurd (let rise = parts_follow i j p q at_i at_j lt in omega (arith, rise, p_high, q_low))
    | inr ge ↦ elim (cases_lt j i) [
      | inl lt ↦ absurd (let rise = parts_follow j i q p at_j at_i lt in omega (arith, rise, q_high, p_low))
      | inr le ↦ omega (arith, ge, le)
    ]
  ]

  more_parts : length (outline_of (finished c)).parts ≡ length c.parts + 1
  unfolding finished
  more_parts =
      let mapped = length-map (c.parts ++ (tables_part c ∷ [])) place_of in
      let joined = length-append c.parts (tables_part c ∷ []) in
      omega (arith, mapped, joined)

  -- each relocation lies in one or outside it
  whole_in : (i : ℕ) (p : Part) → slice_get (finished c).parts i ≡ Some p → (r : ImageRelocation)
      → IsRightRelocation c r → LiesWhole p r
  whole_in i p is r right =
      let j = right.held.0 in
      let held = right.held.1 in
      let here = lies_at i p is in
      let address = ap (λ (place : PartPlace). place.address) here in
      let end = ap outlined.end_of here in
      elim (cases_lt j i) [
        | inl lt ↦
            let rise = before j i lt (part_within i p is) in
            inr (inl (omega (arith, rise, held.2, address)))
        | inr ge ↦ elim (cases_lt i j) [
          | inl lt ↦
              let rise = before i j lt (omega (arith, held.0, more_parts)) in
              inr (inr (omega (arith, rise, held.1, end)))
          | inr le ↦
              let same : j ≡ i = omega (arith, ge, le) in
              let place = ap (part (outline_of (finished c))) same ∙ here in
              let from = ap (λ (q : PartPlace). q.address) place in
              let to = ap outlined.end_of place in
              inl (omega (arith, held.1, from), omega (arith, held.2, to))
        ]
      ]

  pub all_whole : (i : ℕ) (p : Part) → slice_get (finished c).parts i ≡ Some p → All (LiesWhole p) c.relocations
  all_whole i p is = All-weaker (IsRightRelocation c) (LiesWhole p) (whole_in i p is) c.relocations linkable.relocations
