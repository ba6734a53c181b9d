-- What the outline of an image keeps of its addresses.
use Rattle.std.proofs.Common.{ℕ, zero, suc, Bool, true, false, Some, ◌∷◌, [], ◌+◌, ◌-◌, ◌<◌, ◌≤◌, ◌≡◌, List, length}
use Rattle.std.proofs.Common.{get_or, ap, subst, arith}
use Rattle.std.proofs.lemmas.List.{get_or_default}
use Rattle.std.specs.List.{slice_get}
use Rattle.std.specs.Prelude.{if◌then◌else◌}
use Rattle.image_faults.specs.Counts.{behind_last}
use Rattle.image_rules.specs.declared.places.FileKind.{FileKind}
use Rattle.image_rules.specs.declared.places.FileKind.TheVariants.{Exe, Pie, Module}
use Rattle.image_writer.specs.declared.outline.PartPlace.{PartPlace}
use Rattle.image_writer.specs.Headers.{IsNear}
use Rattle.image_writer.specs.Loadable.{IsLoadable, is_written}
use Rattle.image_writer.specs.Outlined.{Outlined, end_of, no_part, part}
use Rattle.image_writer.specs.Page.{base_of}
use Rattle.image_writer.specs.Told.{places_end}

-- an image begins low
pub base_low : (kind : FileKind) → base_of kind ≤ 4194304
base_low Exe = omega arith
base_low Pie = omega arith
base_low Module = omega arith

-- a part ends near its base
pub part_ends : (o : Outlined) (i : ℕ) → IsLoadable o → i < length o.parts
    → (base_of o.kind ≤ (part o i).address) × (end_of (part o i) ≤ base_of o.kind + 67108864)
part_ends o i loadable below =
    let right = loadable.parts i below in
    (right.above, right.below)

-- a part has an offset in the file
pub part_near : (o : Outlined) (i : ℕ) (d : PartPlace) → IsLoadable o → i < length o.parts
    → IsNear o.kind (get_or o.parts i d).address
part_near o i d loadable below =
    let ends = part_ends o i loadable below in
    let low = base_low o.kind in
    let near : IsNear o.kind (part o i).address =
    (omega (arith, ends.0, ends.1, low), omega (arith, ends.0, ends.1, low)) in
    let P : PartPlace → Type 0 = λ p. IsNear o.kind p.address in
    subst P (get_or_default o.parts i no_part d below) near

-- the number behind the last that passes is no larger than the numbers go
pub behind_last-le : (p : ℕ → Bool) (n : ℕ) → behind_last p n ≤ n
unfolding behind_last
behind_last-le p zero = omega arith
behind_last-le p (suc n) =
    let before = behind_last-le p n in
    elim (p n) as (λ b. (if b then suc n else behind_last p n) ≤ suc n) [ true ↦ omega arith | false ↦ omega arith ]

-- the part that the loader alone writes is one of the parts
pub got_below : (o : Outlined) (g : ℕ) → IsLoadable o → o.got ≡ Some g → g < length o.parts
got_below o g loadable is =
    let last = loadable.got_is g is in
    let within = behind_last-le (is_written o) (length o.parts) in
    omega arith

-- where the last part ends
pub places_end-last : (kind : FileKind) (places : List PartPlace) (p : PartPlace)
    → slice_get places (length places - 1) ≡ Some p → places_end kind places ≡ p.address + p.size
places_end-last kind [] p is = absurd (cc)
places_end-last kind (q ∷ []) p is = let same : q ≡ p = cc in ap (λ r. end_of r) same
places_end-last kind (q ∷ (r ∷ more)) p is =
    let rest : length (r ∷ more) - 1 ≡ length more = omega arith in
    let all : length (q ∷ (r ∷ more)) - 1 ≡ suc (length more) = omega arith in
    places_end-last kind (r ∷ more) p (rw rest (rw all at is))
