-- Parts of an image laid at their addresses.
use Rattle.std.proofs.Common.{ℕ, zero, suc, ◌+◌, ◌-◌, ◌<◌, ◌≤◌, ◌≡◌, ◌⊎◌, inl, inr, Some, None, List, [], ◌∷◌, ◌++◌}
use Rattle.std.proofs.Common.{length, map, take, drop, get_or, replicate, refl, subst, sym, ap, ◌∙◌, arith}
use Rattle.std.proofs.Common.{append_assoc, length-append}
use Rattle.std.specs.List.{slice_get}
use Rattle.std.proofs.lemmas.List.{append-nil, length-map, length-replicate, get_or-map, map-append, take_more}
use Rattle.std.proofs.lemmas.Option.{get_or_from_slice_get}
use Rattle.std.proofs.lemmas.Option.{slice_get_within}
use Rattle.image_writer.specs.declared.outline.PartPlace.{PartPlace}
use Rattle.image_writer.proofs.Places.{base_low, part_ends}
use Rattle.image_writer.proofs.Puts.{put_next}
use Rattle.elf_records.specs.Fields.{splice}
use Rattle.image_file.specs.Spelled.{Part, Spelled}
use Rattle.image_file.specs.declared.part.PartClass.TheVariants.{ReadOnly}
use Rattle.image_writer.specs.Loadable.{IsLoadable}
use Rattle.image_writer.specs.Outlined.{end_of, outline_of, no_part, part, place_of}
use Rattle.image_writer.specs.Page.{base_of}
use Rattle.image_writer.specs.Written.{laid}

-- the address behind a part, and a part past the last
abbrev pub part_end : Part → ℕ
part_end p = p.address + length p.bytes

abbrev pub past : Part
past = record { class = ReadOnly; address = 0; bytes = [] }

-- the address that laying comes to
abbrev pub reach : ℕ → List Part → ℕ
reach at [] = at
reach at (p ∷ more) = reach (part_end p) more

-- each part begins no earlier than the one before it ends
abbrev pub Rise : ℕ → List Part → Type 0
Rise at [] = Unit {0}
Rise at (p ∷ more) = (at ≤ p.address) × Rise (part_end p) more

-- parts laid behind others
pub laid-append : (at : ℕ) (xs ys : List Part) → laid at (xs ++ ys) ≡ laid at xs ++ laid (reach at xs) ys
laid-append at [] ys = refl
laid-append at (p ∷ more) ys =
    let gap = replicate (p.address - at) 0 in
    let rest = laid-append (part_end p) more ys in
    ap (λ zs. gap ++ (p.bytes ++ zs)) rest
    ∙ ap (λ zs. gap ++ zs) (sym (append_assoc p.bytes (laid (part_end p) more) (laid (reach (part_end p) more) ys)))
    ∙ sym (append_assoc gap (p.bytes ++ laid (part_end p) more) (laid (reach (part_end p) more) ys))

pub reach-append : (at : ℕ) (xs ys : List Part) → reach at (xs ++ ys) ≡ reach (reach at xs) ys
reach-append at [] ys = refl
reach-append at (p ∷ more) ys = reach-append (part_end p) more ys

-- parts that rise lie behind each other, with nothing lost
pub reach-laid : (at : ℕ) (xs : List Part) → Rise at xs → at + length (laid at xs) ≡ reach at xs
reach-laid at [] rise = omega arith
reach-laid at (p ∷ more) rise =
    let rest = reach-laid (part_end p) more rise.1 in
    let gap : List ℕ = replicate (p.address - at) 0 in
    let size : length gap ≡ p.address - at = length-replicate (p.address - at) 0 in
    let outer = length-append gap (p.bytes ++ laid (part_end p) more) in
    let inner = length-append p.bytes (laid (part_end p) more) in
    let begins = rise.0 in
    omega arith

-- the first of them rise, and the next begins behind them
pub rise-front : (at : ℕ) (xs ys : List Part) → Rise at (xs ++ ys) → Rise at xs
rise-front at [] ys rise = tt
rise-front at (p ∷ more) ys rise = (rise.0, rise-front (part_end p) more ys rise.1)

pub rise-back : (at : ℕ) (xs ys : List Part) → Rise at (xs ++ ys) → Rise (reach at xs) ys
rise-back at [] ys rise = rise
rise-back at (p ∷ more) ys rise = rise-back (part_end p) more ys rise.1

-- parts rise where each begins behind the one before it
pub rise_of : (at : ℕ) (ps : List Part) → (0 < length ps → at ≤ (get_or ps 0 past).address)
    → ((i : ℕ) → suc i < length ps → part_end (get_or ps i past) ≤ (get_or ps (suc i) past).address) → Rise at ps
rise_of at [] first next = tt
rise_of at (p ∷ more) first next = (
  first (omega arith),
  rise_of (part_end p) more (λ some. next 0 (omega arith)) (λ i below. next (suc i) (omega arith)),
)

-- a list around one of its items
pub around : (ps : List Part) (i : ℕ) (p : Part) → slice_get ps i ≡ Some p → ps ≡ take i ps ++ (p ∷ drop (suc i) ps)
around [] i p is = absurd (cc)
around (q ∷ more) zero p is = let same : q ≡ p = cc in ap (λ r. r ∷ more) same
around (q ∷ more) (suc i) p is = ap (λ ys. q ∷ ys) (around more i p is)

-- the items up to one
pub up_to : (ps : List Part) (i : ℕ) (p : Part) → slice_get ps i ≡ Some p → i < length ps
    → take (i + 1) ps ≡ take i ps ++ (p ∷ [])
up_to ps i p is below =
    take_more ps i p below ∙ ap (λ q. take i ps ++ (q ∷ [])) (get_or_from_slice_get ps i p p is)

-- what a part keeps of those before it, in parts that rise
pub rise_at : (at : ℕ) (ps : List Part) (i : ℕ) (p : Part) → slice_get ps i ≡ Some p → Rise at ps
    → Rise at (take i ps) × (reach at (take i ps) ≤ p.address)
rise_at at ps i p is rise =
    let P = λ (xs : List Part). Rise at xs in
    let both = subst P (around ps i p is) rise in
    (rise-front at (take i ps) (p ∷ drop (suc i) ps) both, (rise-back at (take i ps) (p ∷ drop (suc i) ps) both).0)

-- the parts up to one, and it, take no more bytes than all
pub laid-room : (at : ℕ) (ps : List Part) (i : ℕ) (p : Part) → slice_get ps i ≡ Some p
    → length (laid at (take i ps)) + (p.address - reach at (take i ps) + length p.bytes) ≤ length (laid at ps)
laid-room at ps i p is =
    let front = take i ps in
    let back = drop (suc i) ps in
    let from = reach at front in
    let all : length (laid at ps) ≡ length (laid at (front ++ (p ∷ back))) =
    ap (λ xs. length (laid at xs)) (around ps i p is) in
    let split : length (laid at (front ++ (p ∷ back))) ≡ length (laid at front ++ laid from (p ∷ back)) =
    ap length (laid-append at front (p ∷ back)) in
    let outer = length-append (laid at front) (laid from (p ∷ back)) in
    let gap : List ℕ = replicate (p.address - from) 0 in
    let size : length gap ≡ p.address - from = length-replicate (p.address - from) 0 in
    let middle : length (laid from (p ∷ back)) ≡ length gap + length (p.bytes ++ laid (part_end p) back) =
    length-append gap (p.bytes ++ laid (part_end p) back) in
    let inner = length-append p.bytes (laid (part_end p) back) in
    omega arith

-- one more part, put behind those before it
pub put_next_part : (base at : ℕ) (ps : List Part) (i : ℕ) (p : Part) (bytes out new : List ℕ) → slice_get ps i ≡ Some p
    → i < length ps → Rise base ps → at ≤ length bytes → out ≡ splice at (laid base (take i ps)) bytes
    → new ≡ splice (at + (reach base (take i ps) - base))
    (replicate (p.address - reach base (take i ps)) 0 ++ p.bytes) out
    → new ≡ splice at (laid base (take (i + 1) ps)) bytes
put_next_part base at ps i p bytes out new is below rise inside was wrote =
    let front = take i ps in
    let before = rise_at base ps i p is rise in
    let come : base + length (laid base front) ≡ reach base front = reach-laid base front before.0 in
    let place : at + (reach base front - base) ≡ at + length (laid base front) = omega (arith, come) in
    let one : laid (reach base front) (p ∷ []) ≡ replicate (p.address - reach base front) 0 ++ p.bytes =
    ap (λ ys. replicate (p.address - reach base front) 0 ++ ys) (append-nil p.bytes) in
    put_next at (at + (reach base front - base)) (laid base front)
    (replicate (p.address - reach base front) 0 ++ p.bytes)
    bytes out new place inside was wrote
    ∙ ap (λ ys. splice at ys bytes) (
    ap (λ ys. laid base front ++ ys) (sym one)
    ∙ sym (laid-append base front (p ∷ []))
    ∙ ap (laid base) (sym (up_to ps i p is below))
    )

-- where laying comes to with one more
pub reach-next : (base : ℕ) (ps : List Part) (i : ℕ) (p : Part) → slice_get ps i ≡ Some p → i < length ps
    → part_end p ≡ reach base (take (i + 1) ps)
reach-next base ps i p is below = sym (ap (reach base) (up_to ps i p is below) ∙ reach-append base (take i ps) (p ∷ []))

-- the parts of an image that can be loaded rise
pub parts_rise : (s : Spelled) → IsLoadable (outline_of s) → Rise (base_of s.kind) s.parts
parts_rise s loadable =
    let count = length-map s.parts place_of in
    rise_of (base_of s.kind) s.parts
    (λ some.
    let right = loadable.parts 0 (omega (arith, count)) in
    let here = get_or-map place_of s.parts 0 past no_part some in
    let above : base_of s.kind ≤ (get_or (map place_of s.parts) 0 no_part).address = right.above in
    omega (arith, above, ap (λ p. p.address) here))
    (λ i below.
    let right = loadable.parts (suc i) (omega (arith, count)) in
    let here = get_or-map place_of s.parts (suc i) past no_part below in
    let inside : i < length s.parts = omega arith in
    let before = get_or-map place_of s.parts i past no_part inside in
    let behind : suc i - 1 ≡ i = omega arith in
    let o = outline_of s in
    let P = λ (k : ℕ). (suc i ≡ 0) ⊎ (end_of (part o k) ≤ (part o (suc i)).address) in
    let rises : (suc i ≡ 0) ⊎ (end_of (part o i) ≤ (part o (suc i)).address) = subst P behind right.rising in
    elim rises [
      | inl none ↦ absurd (omega arith)
      | inr apart ↦ omega (arith, apart, ap (λ p. p.address) here, ap end_of before)
    ])

-- nothing is lent past the last part alone
pub none-past : (ps : List Part) (i : ℕ) → slice_get ps i ≡ None → length ps ≤ i
none-past [] i is = omega arith
none-past (p ∷ more) zero is = absurd (cc)
none-past (p ∷ more) (suc i) is = let rest = none-past more i is in omega arith

-- where the parts lie, one more
pub placed : (ps : List Part) (i : ℕ) (p : Part) (items new : List PartPlace) (place : PartPlace)
    → slice_get ps i ≡ Some p
    → i < length ps → items ≡ map place_of (take i ps) → place ≡ place_of p → new ≡ items ++ (place ∷ [])
    → new ≡ map place_of (take (i + 1) ps)
placed ps i p items new place is below was here pushed =
    pushed ∙ ap (λ xs. xs ++ (place ∷ [])) was ∙ ap (λ q. map place_of (take i ps) ++ (q ∷ [])) here
    ∙ sym (map-append place_of (take i ps) (p ∷ [])) ∙ ap (map place_of) (sym (up_to ps i p is below))

-- what a part of an image that can be loaded keeps, where laying has come to it
pub part_place : (s : Spelled) (i : ℕ) (p : Part) (base end : ℕ) → IsLoadable (outline_of s)
    → slice_get s.parts i ≡ Some p
    → base ≡ base_of s.kind → end ≡ reach (base_of s.kind) (take i s.parts)
    → (base ≤ end) × (end ≤ p.address) × (part_end p ≤ 71303168)
    × (end - base + (p.address - end + length p.bytes) ≤ length (laid (base_of s.kind) s.parts))
part_place s i p base end loadable is base-is end-is =
    let low = base_of s.kind in
    let front = take i s.parts in
    let before = rise_at low s.parts i p is (parts_rise s loadable) in
    let come : low + length (laid low front) ≡ reach low front = reach-laid low front before.0 in
    let room = laid-room low s.parts i p is in
    let below : i < length s.parts = slice_get_within s.parts i p is in
    let count = length-map s.parts place_of in
    let ends = part_ends (outline_of s) i loadable (omega (arith, below, count)) in
    let here : part (outline_of s) i ≡ place_of p =
    get_or-map place_of s.parts i past no_part below ∙ ap place_of (get_or_from_slice_get s.parts i p past is) in
    let end-here = ap end_of here in
    let small = base_low s.kind in
    let begins = before.1 in (
      omega (arith, come, base-is, end-is),
      omega (arith, begins, end-is),
      omega (arith, ends.1, end-here, small),
      omega (arith, come, room, begins, base-is, end-is),
    )
