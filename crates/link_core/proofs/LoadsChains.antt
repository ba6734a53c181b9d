-- Parts one behind another.
use Rattle.std.proofs.Common.{◌≡◌, ◌+◌, ◌-◌, ◌%◌, ◌^◌, ◌<◌, ◌≤◌, ◌⊎◌, ℕ, zero, suc, List, [], ◌∷◌, ◌++◌, length}
use Rattle.std.proofs.Common.{get_or, map, refl, arith, inl, inr}
use Rattle.image_rules.specs.declared.places.FileKind.{FileKind}
use Rattle.image_file.specs.Spelled.{Part}
use Rattle.image_writer.specs.declared.outline.PartPlace.{PartPlace}
use Rattle.image_writer.specs.Contents.{parts_end}
use Rattle.image_writer.specs.Loadable.{IsRightPart}
use Rattle.image_writer.specs.Outlined.{Outlined, end_of, no_part, part, place_of}
use Rattle.image_writer.specs.Page.{base_of}
pub use Rattle.link_core.proofs.LengthsPlaces.{end_from as last_end, end_from-append as last_end-append}

-- a part has bytes, begins at a page, and lies in the range of the image
pub record IsGood (base : ℕ) (p : PartPlace) : Type 0 where
  pub filled : 0 < p.size
  pub paged : p.address % 4096 ≡ 0
  pub above : base ≤ p.address
  pub below : end_of p ≤ base + 2 ^ 26

-- good parts begin at or behind a place, each at or behind the end of the one before
abbrev pub Chain : ℕ → ℕ → List PartPlace → Type 0
Chain base at [] = Unit {0}
Chain base at (p ∷ more) = IsGood base p × (at ≤ p.address) × Chain base (end_of p) more

-- good parts between two places
pub record Lies (base at : ℕ) (xs : List PartPlace) (next : ℕ) : Type 0 where
  pub chain : Chain base at xs
  pub ends : last_end at xs ≤ next

-- parts behind others
pub chain-append : (base at : ℕ) (xs ys : List PartPlace) → Chain base at xs → Chain base (last_end at xs) ys
    → Chain base at (xs ++ ys)
chain-append base at [] ys front back = back
chain-append base at (p ∷ xs) ys front back =
    (front.0, front.1, chain-append base (end_of p) xs ys front.2 back)

-- they begin behind lower places too
pub chain_lower : (base low at : ℕ) (xs : List PartPlace) → low ≤ at → Chain base at xs → Chain base low xs
chain_lower base low at [] le chain = tt
chain_lower base low at (p ∷ xs) le chain = let front = chain.1 in (chain.0, omega arith, chain.2)

-- they never go back
pub chain_rises : (base at : ℕ) (xs : List PartPlace) → Chain base at xs → at ≤ last_end at xs
chain_rises base at [] chain = omega arith
chain_rises base at (p ∷ xs) chain =
    let front = chain.1 in let rest = chain_rises base (end_of p) xs chain.2 in omega arith

-- from a lower place on they end no higher
pub last_end_lower : (low at : ℕ) (xs : List PartPlace) → low ≤ at → last_end low xs ≤ last_end at xs
last_end_lower low at [] le = le
last_end_lower low at (p ∷ xs) le = omega arith

-- parts behind others lie between the outer places
pub lies-append : (base at mid next : ℕ) (xs ys : List PartPlace) → Lies base at xs mid → Lies base mid ys next
    → Lies base at (xs ++ ys) next
lies-append base at mid next xs ys front back = record {
  chain = chain-append base at xs ys front.chain (chain_lower base (last_end at xs) mid ys front.ends back.chain);
  ends = (let whole = last_end-append at xs ys in
      let low = last_end_lower (last_end at xs) mid ys front.ends in
      let ends = back.ends in
      omega arith);
}

-- and below a higher place
pub lies_longer : (base at next late : ℕ) (xs : List PartPlace) → Lies base at xs next → next ≤ late
    → Lies base at xs late
lies_longer base at next late xs lies le = record { chain = lies.chain; ends = omega (arith, lies.ends) }

-- no parts lie anywhere
pub lies_none : (base at next : ℕ) → at ≤ next → Lies base at [] next
lies_none base at next le = record { chain = tt; ends = le }

-- one part lies where it begins and ends
pub lies_one : (base at : ℕ) (p : PartPlace) → IsGood base p → at ≤ p.address → Lies base at (p ∷ []) (end_of p)
lies_one base at p good le = record { chain = (good, le, tt); ends = omega arith }

-- each of them is good
pub chain_good : (base at : ℕ) (xs : List PartPlace) (i : ℕ) → Chain base at xs → i < length xs
    → IsGood base (get_or xs i no_part)
chain_good base at [] i chain below = absurd (omega arith)
chain_good base at (p ∷ xs) zero chain below = chain.0
chain_good base at (p ∷ xs) (suc i) chain below = chain_good base (end_of p) xs i chain.2 (omega arith)

-- and begins at or behind the end of the one before
pub chain_behind : (base at : ℕ) (xs : List PartPlace) (i : ℕ) → Chain base at xs → suc i < length xs
    → end_of (get_or xs i no_part) ≤ (get_or xs (suc i) no_part).address
chain_behind base at [] i chain below = absurd (omega arith)
chain_behind base at (p ∷ []) i chain below = absurd (omega arith)
chain_behind base at (p ∷ (q ∷ xs)) zero chain below = chain.2.1
chain_behind base at (p ∷ (q ∷ xs)) (suc i) chain below =
    chain_behind base (end_of p) (q ∷ xs) i chain.2 (omega arith)

-- they are as a page of headers wants them
pub chain_right : (o : Outlined) (i : ℕ) → Chain (base_of o.kind) (base_of o.kind) o.parts → i < length o.parts
    → IsRightPart o i
chain_right o i chain below =
    let good = chain_good (base_of o.kind) (base_of o.kind) o.parts i chain below in
    record {
      filled = good.filled;
      paged = good.paged;
      above = good.above;
      below = good.below;
      rising = rises i below;
    }
  where
    rises : (i : ℕ) → i < length o.parts → (i ≡ 0) ⊎ (end_of (part o (i - 1)) ≤ (part o i).address)
    rises zero below = inl refl
    rises (suc i) below =
        let before : suc i - 1 ≡ i = omega arith in
        let behind = chain_behind (base_of o.kind) (base_of o.kind) o.parts i chain below in
        inr (rw before behind)

-- the parts of contents end where the last one does
pub parts_end-is : (kind : FileKind) (parts : List Part)
    → parts_end kind parts ≡ last_end (base_of kind) (map place_of parts)
parts_end-is kind [] = refl
parts_end-is kind (p ∷ []) = refl
parts_end-is kind (p ∷ (q ∷ more)) = parts_end-is kind (q ∷ more)
