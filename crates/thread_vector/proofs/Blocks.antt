-- What a write of one block does to the others.
use Rattle.std.proofs.Common.{◌≡◌, ◌≢◌, ℕ, ◌+◌, ◌-◌, ◌<◌, ◌≤◌, true, List, [], length, Option, Some, None, sym, refl}
use Rattle.std.proofs.Common.{ap, ◌∙◌, arith, inl, inr}
use Rattle.std.specs.Prelude.{slice_range}
use Rattle.std.proofs.lemmas.Bool.{cases_lt, eq-eqb}
use Rattle.std.proofs.lemmas.List.{get_or-set_same, get_or-set_other, nil_from_length}
use Rattle.module_table.specs.declared.TheConstants.{SURPLUS}
use Rattle.module_table.specs.Modules.{is_loaded}
use Rattle.module_table.specs.Past.{Past, module_of}
use Rattle.module_table.specs.Laws.{AreApart}
use Rattle.module_table.proofs.Steps.{numbered_at}
use Rattle.loaded_modules.specs.Images.{JobImages, last_offset}
use Rattle.thread_vector.specs.Vectors.{Piece, no_piece, slot_of, block_at, block_in, over, written}
use Rattle.thread_vector.specs.Holding.{IsLeftBy}
use Rattle.thread_vector.proofs.Facts.{Facts, facts}
use Rattle.thread_vector.proofs.Ranges.{range_same, range_below, range_above, over_none}

-- slots as a vector has them
pub record AreSlots (slots : List Piece) : Type 0 where
  pub long : length slots ≡ 65
  pub surplus : length (slot_of slots 0).bytes ≡ SURPLUS

-- where a block of the surplus lies
record Lies (limit size offset : ℕ) : Type 0 where
  pub inside : limit - offset + size ≤ SURPLUS
  pub whole : offset ≤ limit
  pub fits : size ≤ offset

lies : (images : JobImages) (p : Past) (a x : ℕ) → Facts images p → (module_of p a).offset ≡ Some x
    → Lies p.limit (module_of p a).info.size x
lies images p a x f e =
    let above : last_offset images + (module_of p a).info.size ≤ x = f.apart.above a x e in
    let below : x ≤ last_offset images + SURPLUS = f.apart.below a x e in
    record { inside = omega (arith, f.limit); whole = omega (arith, f.limit); fits = omega arith }

pub surplus_place : (images : JobImages) (p : Past) (image offset : ℕ) → IsLeftBy images p
    → (module_of p image).offset ≡ Some offset
    → (p.limit ≡ last_offset images + SURPLUS) × (offset ≤ last_offset images + SURPLUS)
    × (last_offset images + SURPLUS - offset + (module_of p image).info.size ≤ SURPLUS)
surplus_place images p image offset left at =
    let f = facts images p left in
    let l = lies images p image offset f at in
    (f.limit, omega (arith, l.whole, f.limit), omega (arith, l.inside, f.limit))

-- a block just written
pub reads_written : (images : JobImages) (p : Past) (slots : List Piece) (a : ℕ) (w : List ℕ) → Facts images p
    → AreSlots slots → is_loaded (module_of p a) ≡ true → length w ≡ (module_of p a).info.size
    → block_in (written slots p.limit (module_of p a) (module_of p a).offset w) p a ≡ Some w
reads_written images p slots a w f are loaded long = by_offset (module_of p a).offset refl
  where
    high : (module_of p a).id < length slots
    high = let h : (module_of p a).id ≤ 64 = (numbered_at p a f.is).id.high loaded in omega (arith, are.long)

    by_offset : (o : Option ℕ) → (module_of p a).offset ≡ o
        → block_at (written slots p.limit (module_of p a) o w) p.limit (module_of p a) o ≡ Some w
    by_offset None e =
        rw (
          get_or-set_same slots (module_of p a).id
              (record { instance = Some (module_of p a).instance; bytes = w }) no_piece high,
          eq-eqb (module_of p a).instance (module_of p a).instance refl,
        ) refl
    by_offset (Some x) e =
        let l = lies images p a x f e in
        let room : p.limit - x + (module_of p a).info.size ≤ length (slot_of slots 0).bytes =
        omega (arith, l.inside, are.surplus) in
        rw (get_or-set_same slots 0
        (record {
          instance = (slot_of slots 0).instance;
          bytes = over (p.limit - x) (module_of p a).info.size (slot_of slots 0).bytes w;
        }) no_piece
        (omega (arith, are.long)))
        (ap Some (range_same (p.limit - x) (module_of p a).info.size (slot_of slots 0).bytes w room long))

-- bytes of another place stay: of two places that share no byte, one ends before the other begins, or one has none
other_range : (limit x y m n : ℕ) (bytes w : List ℕ) → Lies limit m x → Lies limit n y → length bytes ≡ SURPLUS
    → length w ≡ m
    → AreApart (record { offset = x; size = m }) (record { offset = y; size = n })
    → slice_range (over (limit - x) m bytes w) (limit - y) (limit - y + n)
    ≡ slice_range bytes (limit - y) (limit - y + n)
other_range limit x y m n bytes w one two long size apart = elim (cases_lt 0 m) [
  | inr none ↦ ap (λ (t : List ℕ). slice_range t (limit - y) (limit - y + n)) (nothing (omega arith))
  | inl some ↦ elim (cases_lt 0 n) [
    | inr none ↦ empty (omega arith)
    | inl more ↦ elim (cases_lt x (y + 1)) [
      | inl h ↦
          let next : x + n ≤ y = elim (cases_lt y (x + n))
          [ inl bad ↦ absurd (apart x (omega arith, omega arith) (omega arith, bad)) | inr good ↦ good ] in
          range_below (limit - x) m bytes w (limit - y) (limit - y + n) (omega (arith, one.inside, long))
          (omega (arith, one.whole, two.whole))
      | inr h ↦
          let next : y + m ≤ x = elim (cases_lt x (y + m))
          [ inl bad ↦ absurd (apart y (omega arith, bad) (omega arith, omega arith)) | inr good ↦ good ] in
          range_above (limit - x) m bytes w (limit - y) (limit - y + n) (omega (arith, one.inside, long)) size
          (omega (arith, one.whole, two.whole))
    ]
  ]
]
  where
    nothing : m ≡ 0 → over (limit - x) m bytes w ≡ bytes
    nothing e = let empty : w ≡ [] = nil_from_length w (size ∙ e) in rw (e, empty) (over_none (limit - x) bytes)

    empty : n ≡ 0 → slice_range (over (limit - x) m bytes w) (limit - y) (limit - y + n)
        ≡ slice_range bytes (limit - y) (limit - y + n)
    empty e = let same : limit - y + n - (limit - y) ≡ 0 = omega (arith, e) in rw same refl

-- the other blocks
pub reads_others : (images : JobImages) (p : Past) (slots : List Piece) (a b : ℕ) (w : List ℕ) → Facts images p
    → AreSlots slots → a ≢ b → is_loaded (module_of p a) ≡ true
    → is_loaded (module_of p b) ≡ true → length w ≡ (module_of p a).info.size
    → block_in (written slots p.limit (module_of p a) (module_of p a).offset w) p b ≡ block_in slots p b
reads_others images p slots a b w f are ne one two long =
    by_offsets (module_of p a).offset (module_of p b).offset refl refl
  where
    low : (k : ℕ) → is_loaded (module_of p k) ≡ true → 1 ≤ (module_of p k).id
    low k loaded = (numbered_at p k f.is).id.low loaded

    by_offsets : (o r : Option ℕ) → (module_of p a).offset ≡ o → (module_of p b).offset ≡ r
        → block_at (written slots p.limit (module_of p a) o w) p.limit (module_of p b) r
        ≡ block_at slots p.limit (module_of p b) r
    by_offsets None None e h =
        rw (get_or-set_other slots (module_of p a).id (module_of p b).id
        (record { instance = Some (module_of p a).instance; bytes = w }) no_piece
        (λ same. (f.own a b ne one two).1 (sym same))) refl
    by_offsets None (Some y) e h =
        rw (get_or-set_other slots (module_of p a).id 0
        (record { instance = Some (module_of p a).instance; bytes = w }) no_piece
        (λ same. absurd (let l : 1 ≤ (module_of p a).id = low a one in omega arith))) refl
    by_offsets (Some x) None e h =
        rw (get_or-set_other slots 0 (module_of p b).id
        (record {
          instance = (slot_of slots 0).instance;
          bytes = over (p.limit - x) (module_of p a).info.size (slot_of slots 0).bytes w;
        }) no_piece
        (λ same. absurd (let l : 1 ≤ (module_of p b).id = low b two in omega arith))) refl
    by_offsets (Some x) (Some y) e h =
        rw (get_or-set_same slots 0
        (record {
          instance = (slot_of slots 0).instance;
          bytes = over (p.limit - x) (module_of p a).info.size (slot_of slots 0).bytes w;
        }) no_piece
        (omega (arith, are.long)))
        (ap Some (other_range p.limit x y (module_of p a).info.size (module_of p b).info.size (slot_of slots 0).bytes w
        (lies images p a x f e) (lies images p b y f h) are.surplus long (f.apart.apart a b x y ne e h)))
