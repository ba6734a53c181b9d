-- Relocations that rise: neighbours tell which field covers a byte.
use Rattle.std.proofs.Common.{◌≡◌, ◌+◌, ◌-◌, ◌<◌, ◌≤◌, ◌⊎◌, ℕ, List, length, get_or, sym, ap, subst, inl, inr, arith}
use Rattle.std.specs.List.{AllWithin}
use Rattle.std.proofs.lemmas.Option.{slice_get_within, get_or_from_slice_get}
use Rattle.elf_records.specs.declared.relocation.RelocationKind.{RelocationKind}
use Rattle.elf_records.specs.declared.relocation.RelocationKind.TheVariants.{Nothing}
use Rattle.elf_object.specs.declared.relocation.Relocation.{Relocation}
use Rattle.elf_object.specs.Relocations.{field_width}
use Rattle.sequence_match.specs.declared.index.Reach.TheVariants.{OfField}
use Rattle.sequence_match.specs.Code.{AreApart, CoversIn, IsEarliest, IsLastField, ReachesAt, Rise}
use Rattle.sequence_match.specs.Sites.{Covers, IsEntry}
use Rattle.sequence_match.proofs.Entries.{same_entry}
use Rattle.sequence_match.proofs.Found.{below_or_at}

-- ** whether they rise

-- the first n do
abbrev pub RiseUpTo : List Relocation → ℕ → Type 0
RiseUpTo xs n = (i j : ℕ) (d : Relocation) → i < j → j < n → j < length xs
    → (get_or xs i d).offset < (get_or xs j d).offset

before_or_at : (i n : ℕ) → i < n → (i + 1 ≡ n) ⊎ (i + 1 < n)
before_or_at i n h = grind arith

pub up_more : (xs : List Relocation) (n : ℕ) (x y : Relocation) → RiseUpTo xs n → 1 ≤ n → IsEntry xs (n - 1) x
    → IsEntry xs n y → x.offset < y.offset
    → RiseUpTo xs (n + 1)
up_more xs n x y rise some before entry next i j e less below inside =
    elim (below_or_at j n below) [
      | inl earlier ↦ rise i j e less earlier inside
      | inr at ↦
          let here = ap (λ z. z.offset) (get_or_from_slice_get xs n y e entry) in
          let there = ap (λ z. z.offset) (get_or_from_slice_get xs (n - 1) x e before) in
          let P : ℕ → Type 0 = λ m. (get_or xs i e).offset < (get_or xs m e).offset in
          subst P (sym at)
          (elim (before_or_at i n (omega (arith, at, less))) [
            | inl last ↦
                let Q : ℕ → Type 0 = λ m. (get_or xs m e).offset < (get_or xs n e).offset in
                let eq : n - 1 ≡ i = omega (arith, last) in
                subst Q eq (omega (arith, next, here, there))
            | inr lower ↦
                let under = rise i (n - 1) e (omega arith) (omega arith) (omega (arith, at, inside)) in
                omega (arith, under, next, here, there)
          ])
    ]

-- ** where they stand

module _ (xs : List Relocation) (rise : Rise xs) where
  -- of two, the later one stands above
  pub later_above : (e f : ℕ) (x y : Relocation) → e < f → IsEntry xs e x → IsEntry xs f y → x.offset < y.offset
  later_above e f x y less at there =
      let inside = slice_get_within xs f y there in
      let own = ap (λ z. z.offset) (get_or_from_slice_get xs e x x at) in
      let other = ap (λ z. z.offset) (get_or_from_slice_get xs f y x there) in
      omega (arith, rise e f x less inside, own, other)

  -- so each is the first at its place
  pub rises_earliest : (e : ℕ) (x : Relocation) → IsEntry xs e x → IsEarliest xs e x
  rises_earliest e x entry f y less at kind offset = omega (arith, later_above f e y x less at entry, offset)

  at_or_later : (n k : ℕ) → n ≤ k → (n ≡ k) ⊎ (n < k)
  at_or_later n k h = grind arith

  -- from one that stands above a place on, all do
  pub above_from : (place n : ℕ) (x : Relocation) → IsEntry xs n x → place < x.offset
      → AllWithin (λ x. place < x.offset) xs n (length xs)
  above_from place n x entry above k e from inside =
      let same = ap (λ z. z.offset) (get_or_from_slice_get xs n x e entry) in
      elim (at_or_later n k from) [
        | inl at ↦ let P : ℕ → Type 0 = λ m. place < (get_or xs m e).offset in subst P at (omega (arith, same, above))
        | inr later ↦ omega (arith, rise n k e later inside, same, above)
      ]

-- ** which covers a place

width_most : (kind : RelocationKind) → field_width kind ≤ 8
width_most Nothing = omega arith
width_most kind = omega arith

seen_or_here : (end f step : ℕ) → end ≤ f + (step + 1) → (end ≤ f + step) ⊎ (f + (step + 1) ≡ end)
seen_or_here end f step h = grind arith

here_or_below : (e f : ℕ) → (e < f) ⊎ ((f ≡ e) ⊎ (f < e))
here_or_below e f = grind arith

-- what does not hold of those that were looked at, from the last one down
module _ (xs : List Relocation) (P : Relocation → Type 0) (end : ℕ) where
  -- of those that stand above a place
  pub none_seen : (place : ℕ) → AllWithin (λ x. place < x.offset) xs end (length xs)
      → ((x : Relocation) → place < x.offset → P x → ⊥)
      → (f : ℕ) (y : Relocation) → end ≤ f + 0 → IsEntry xs f y → P y → ⊥
  none_seen place above never f y from at p =
      let inside = slice_get_within xs f y at in
      let same = ap (λ x. x.offset) (get_or_from_slice_get xs f y y at) in
      never y (omega (arith, above f y (omega arith) inside, same)) p

  -- one more
  pub one_seen : (step : ℕ) (x : Relocation) → step < end → IsEntry xs (end - 1 - step) x
      → ((f : ℕ) (y : Relocation) → end ≤ f + step → IsEntry xs f y → P y → ⊥) → (P x → ⊥)
      → (f : ℕ) (y : Relocation) → end ≤ f + (step + 1) → IsEntry xs f y → P y → ⊥
  one_seen step x less entry seen never f y from at p =
      elim (seen_or_here end f step from) [
        | inl before ↦ seen f y before at p
        | inr here ↦
            let I : ℕ → Type 0 = λ n. IsEntry xs n y in
            let same : f ≡ end - 1 - step = omega (arith, here, less) in
            never (subst P (same_entry xs (end - 1 - step) y x (subst I same at) entry) p)
      ]

  -- and of none below one under which it holds of none
  pub none_left : (step : ℕ) (x : Relocation) → step < end → IsEntry xs (end - 1 - step) x
      → ((f : ℕ) (y : Relocation) → end ≤ f + step → IsEntry xs f y → P y → ⊥) → (P x → ⊥)
      → ((f : ℕ) (y : Relocation) → f < end - 1 - step → IsEntry xs f y → P y → ⊥) → (f : ℕ) (y : Relocation)
      → IsEntry xs f y → P y → ⊥
  none_left step x less entry seen here lower f y at p =
      elim (here_or_below (end - 1 - step) f) [
        | inl above ↦ seen f y (omega (arith, above, less)) at p
        | inr (inl same) ↦
            let I : ℕ → Type 0 = λ n. IsEntry xs n y in
            here (subst P (same_entry xs (end - 1 - step) y x (subst I same at) entry) p)
        | inr (inr below) ↦ lower f y below at p
      ]

pub above_not : (place : ℕ) (x : Relocation) → place < x.offset → Covers x place → ⊥
above_not place x above covers = omega (arith, above, covers.0)

pub above_not_any : (from to : ℕ) (x : Relocation) → to - 1 < x.offset → CoversIn x from to → ⊥
above_not_any from to x above h = omega (arith, above, h.3.0, h.2)

-- no field below one that stands below a place reaches it
pub none_lower : (xs : List Relocation) (place n k : ℕ) (x : Relocation) → Rise xs → AreApart xs → IsEntry xs n x
    → IsLastField x place → place ≤ k
    → (f : ℕ) (y : Relocation) → f < n → IsEntry xs f y → Covers y k → ⊥
none_lower xs place n k x rise apart entry last above f y less at covers =
    let lower = later_above xs rise f n y x less at entry in
    elim last.1 [
      | inl field ↦ apart f n x.offset y x at entry less (omega (arith, lower), omega (arith, last.0, above, covers.1))
          (omega arith, omega (arith, field))
      | inr far ↦ omega (arith, lower, far, above, covers.1, width_most y.kind)
    ]

-- of two whose fields cover a place, none is before the other
pub first_over : (xs : List Relocation) (place e : ℕ) (x : Relocation) → AreApart xs → IsEntry xs e x → Covers x place
    → ReachesAt OfField xs place e × ((f : ℕ) → f < e → ReachesAt OfField xs place f → ⊥)
first_over xs place e x apart entry covers =
    ((x, entry, covers), λ f less h. apart f e place h.0 x h.1 entry less h.2 covers)
