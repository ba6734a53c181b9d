-- Cells as they are written, the last field or sequence first.
use Rattle.std.proofs.Common.{◌≡◌, ◌∙◌, ◌+◌, ◌-◌, ◌<◌, ◌≤◌, ℕ, suc, Bool, true, false, List, [], ◌∷◌, ◌++◌, length}
use Rattle.std.proofs.Common.{take, drop, get_or, set, inl, inr, refl, sym, ap, subst, arith, get_or-set_same}
use Rattle.std.proofs.Common.{get_or-set_other}
use Rattle.std.proofs.lemmas.Bool.{cases_eq}
use Rattle.std.proofs.lemmas.Bool.Decides.{nat_tests}
use Rattle.std.proofs.lemmas.List.{get_or-drop, get_or-take, length-take, take-append-drop}
use Rattle.std.proofs.Common.{length-drop}
use Rattle.std.specs.Prelude.{if◌then◌else◌}
use Rattle.std.specs.List.{All, AllWithin}
use Rattle.sequence_forms.specs.declared.places.Site.{Site}
use Rattle.meant_images.specs.declared.painting.Cell.{Cell}
use Rattle.meant_images.specs.CodeCells.{cell_from, is_within, no_cell, site_cell, IsSplit}
use Rattle.whole_meaning.specs.Code.{is_in_site}

-- ** one byte more

within_last : (start byte : ℕ) → is_within start (byte + 1) (start + byte) ≡ true
within_last start byte = grind (arith, nat_tests)

within_more : (start byte k : ℕ) → (k ≡ start + byte → ⊥) → is_within start (byte + 1) k ≡ is_within start byte k
within_more start byte k other = grind (arith, nat_tests)

within_none : (start k : ℕ) → is_within start 0 k ≡ false
within_none start k = grind (arith, nat_tests)

pub painted_none : (entry start k : ℕ) (first : List Cell) → get_or first k no_cell
    ≡ (if is_within start 0 k then cell_from entry start k else get_or first k no_cell)
painted_none entry start k first = rw (within_none start k) refl

same_byte : (entry start byte : ℕ) → (record { entry = entry; byte = byte }) ≡ cell_from entry start (start + byte)
same_byte entry start byte =
    let less : byte ≡ (start + byte) - start = omega arith in
    ap (λ (b : ℕ). let cell : Cell = record { entry = entry; byte = b } in cell) less

pub painted_more : (entry start byte k : ℕ) (old first : List Cell) → start + byte < length old
    → get_or old k no_cell ≡ (if is_within start byte k then cell_from entry start k else get_or first k no_cell)
    → get_or (set old (start + byte) (record { entry = entry; byte = byte })) k no_cell
    ≡ (if is_within start (byte + 1) k then cell_from entry start k else get_or first k no_cell)
painted_more entry start byte k old first there so_far = elim (cases_eq k (start + byte)) [
  | inl here ↦
      let P : ℕ → Type 0 = λ n. get_or (set old (start + byte) (record { entry = entry; byte = byte })) n no_cell
      ≡ (if is_within start (byte + 1) n then cell_from entry start n else get_or first n no_cell) in
      subst P (sym here) (rw (get_or-set_same, within_last start byte) (same_byte entry start byte))
  | inr other ↦ rw (get_or-set_other, within_more start byte k other) so_far
]

next_if : (b : Bool) (x : Cell) (y z : Cell) → y ≡ z → (if b then x else y) ≡ (if b then x else z)
next_if b x y z e = ap (λ (w : Cell). if b then x else w) e

-- ** the sequences of one section

elsewhere : (s k : ℕ) (site : Site) → (site.section ≡ s → ⊥) → is_in_site s k site ≡ false
elsewhere s k site other = grind (arith, nat_tests)

none_of : (first s k : ℕ) (sites : List Site) (other : Cell)
    → ((i : ℕ) (d : Site) → i < length sites → (get_or sites i d).section ≡ s → ⊥)
    → site_cell first sites s k other ≡ other
none_of first s k [] other not = refl
none_of first s k (site ∷ more) other not =
    rw (elsewhere s k site (not 0 site (omega arith)))
    (none_of (first + 1) s k more other (λ i d h. not (suc i) d (omega (arith, h))))

both : (first s k : ℕ) (xs ys : List Site) (other : Cell)
    → site_cell first (xs ++ ys) s k other ≡ site_cell first xs s k (site_cell (first + length xs) ys s k other)
both first s k [] ys other = ap (λ n. site_cell n ys s k other) (omega arith)
both first s k (x ∷ xs) ys other =
    next_if (is_in_site s k x) (cell_from first x.start k) _ _
    (both (first + 1) s k xs ys other
    ∙ ap (λ n. site_cell (first + 1) xs s k (site_cell n ys s k other)) (omega arith))

taken : (n : ℕ) (sites : List Site) → n ≤ length sites → length (take n sites) ≡ n
taken n sites few = omega (arith, length-take n sites)

below_not : (s : ℕ) (sites : List Site) (n i : ℕ) (d : Site) → AllWithin (λ (site : Site). site.section < s) sites 0 n
    → n ≤ length sites
    → i < length (take n sites) → (get_or (take n sites) i d).section ≡ s → ⊥
below_not s sites n i d below few inside own =
    let short : i < n = omega (arith, inside, taken n sites few) in
    let less : (get_or sites i d).section < s = below i d (omega arith) short in
    let same : (get_or (take n sites) i d).section ≡ (get_or sites i d).section =
    ap (λ (site : Site). site.section) (get_or-take n sites i d short) in
    omega (arith, less, same, own)

above_not : (s : ℕ) (sites : List Site) (n i : ℕ) (d : Site)
    → AllWithin (λ (site : Site). s + 1 ≤ site.section) sites n (length sites)
    → n ≤ length sites → i < length (drop n sites) → (get_or (drop n sites) i d).section ≡ s → ⊥
above_not s sites n i d above few inside own =
    let there : n + i < length sites = omega (arith, inside, length-drop n sites) in
    let more : s + 1 ≤ (get_or sites (n + i) d).section = above (n + i) d (omega arith) there in
    let same : (get_or (drop n sites) i d).section ≡ (get_or sites (n + i) d).section =
    ap (λ (site : Site). site.section) (get_or-drop n sites i d) in
    omega (arith, more, same, own)

-- those of a section: they stand behind the ones of lower sections, before those of higher ones
pub own_part : (first s k begin count : ℕ) (sites : List Site) (other : Cell) → IsSplit sites s begin
    → IsSplit (drop begin sites) (s + 1) count
    → site_cell first sites s k other ≡ site_cell (first + begin) (take count (drop begin sites)) s k other
own_part first s k begin count sites other low high =
    let front = take begin sites in
    let rest = drop begin sites in
    let parts : sites ≡ front ++ (take count rest ++ drop count rest) =
    sym (ap (λ ys. front ++ ys) (take-append-drop count rest) ∙ take-append-drop begin sites) in
    let all : site_cell first sites s k other
    ≡ site_cell first (front ++ (take count rest ++ drop count rest)) s k other =
    ap (λ xs. site_cell first xs s k other) parts in
    all
    ∙ both first s k front (take count rest ++ drop count rest) other
    ∙ none_of first s k front _ (λ i d. below_not s sites begin i d low.below low.few)
    ∙ ap (λ n. site_cell (first + n) (take count rest ++ drop count rest) s k other) (taken begin sites low.few)
    ∙ both (first + begin) s k (take count rest) (drop count rest) other
    ∙ ap (λ c. site_cell (first + begin) (take count rest) s k c)
    (none_of _ s k (drop count rest) other (λ i d. above_not s rest count i d high.above high.few))

-- what holds of all sequences holds of these
pub of_part : (P : Site → Type 0) (begin count : ℕ) (sites : List Site) → All P sites
    → count ≤ length (drop begin sites)
    → All P (take count (drop begin sites))
of_part P begin count sites all few i d inside =
    let rest = drop begin sites in
    let short : i < count = omega (arith, inside, taken count rest few) in
    let there : begin + i < length sites = omega (arith, short, few, length-drop begin sites) in
    subst P (sym (get_or-take count rest i d short ∙ get_or-drop begin sites i d)) (all (begin + i) d there)

-- and they are of the section
pub own_ones : (s begin count : ℕ) (sites : List Site) → IsSplit sites s begin
    → IsSplit (drop begin sites) (s + 1) count
    → All (λ (site : Site). site.section ≡ s) (take count (drop begin sites))
own_ones s begin count sites low high i d inside =
    let rest = drop begin sites in
    let few = high.few in
    let short : i < count = omega (arith, inside, taken count rest few) in
    let there : begin + i < length sites = omega (arith, short, few, length-drop begin sites) in
    let over : s ≤ (get_or sites (begin + i) d).section = low.above (begin + i) d (omega arith) there in
    let under : (get_or rest i d).section < s + 1 = high.below i d (omega arith) short in
    let same : (get_or rest i d).section ≡ (get_or sites (begin + i) d).section =
    ap (λ (site : Site). site.section) (get_or-drop begin sites i d) in
    let first : (get_or (take count rest) i d).section ≡ (get_or rest i d).section =
    ap (λ (site : Site). site.section) (get_or-take count rest i d short) in
    omega (arith, over, under, same, first)

-- such that lie inside do so
pub inside_ones : (s size begin count : ℕ) (sites : List Site) → IsSplit sites s begin
    → IsSplit (drop begin sites) (s + 1) count
    → All (λ (site : Site). site.section ≡ s → site.start + site.len ≤ size) sites
    → All (λ (site : Site). site.start + site.len ≤ size) (take count (drop begin sites))
inside_ones s size begin count sites low high all i d inside =
    of_part (λ (site : Site). site.section ≡ s → site.start + site.len ≤ size) begin count sites all high.few i d inside
    (own_ones s begin count sites low high i d inside)
