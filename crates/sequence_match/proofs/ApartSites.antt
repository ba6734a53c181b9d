-- Sites that share a byte are one.
use Rattle.std.proofs.Common.{◌≡◌, ◌+◌, ◌<◌, ◌≤◌, ◌⊎◌, ◌==◌, ◌||◌, ◌&&◌, ◌∙◌, ℕ, zero, suc, Bool, true, false, not}
use Rattle.std.proofs.Common.{List, [], ◌∷◌, Option, Some, None, length, slice_index, nat_lt, refl, sym, ap, subst, inl}
use Rattle.std.proofs.Common.{inr, arith}
use Rattle.std.specs.Prelude.{nat_le}
use Rattle.std.specs.List.{slice_get}
use Rattle.std.proofs.lemmas.Bool.Decides.{nat_tests}
use Rattle.elf_object.specs.declared.relocation.Relocation.{Relocation}
use Rattle.elf_object.specs.Relocations.{field_width}
use Rattle.elf_object.specs.Lent.{relocations}
use Rattle.sequence_forms.specs.declared.forms.Form.{Form}
use Rattle.sequence_forms.specs.declared.forms.Form.TheVariants.{Gd, IeMov, IeAdd, GdInd, DescCall}
use Rattle.sequence_forms.specs.declared.forms.Cell.{Cell}
use Rattle.sequence_forms.specs.declared.forms.Cell.TheVariants.{Is, Rex}
use Rattle.sequence_forms.specs.declared.forms.Second.{Second}
use Rattle.sequence_forms.specs.declared.places.Site.{Site}
use Rattle.sequence_match.specs.Faults.{code_of, IsGetter}
use Rattle.sequence_forms.specs.Forms.{row, fits, Sequence}
use Rattle.sequence_match.specs.Laws.{SitesAreApart}
use Rattle.sequence_match.specs.Sites.{Covers, HasSecond, IsEntry, IsLiteral, IsSiteOf}
use Rattle.sequence_match.proofs.Clashes.{all_clash, behind_first, clash, is_field, tails_clash}
use Rattle.sequence_match.proofs.Found.{one_site, other_start}
use Rattle.sequence_match.proofs.Literals.{both_of as both}
use Rattle.sequence_match.proofs.OneForm.{cells_clash, either}
use Rattle.sequence_match.proofs.Rows.{call_width_is}

-- the cells stand in the code at a place
abbrev StandAt : List Cell → List ℕ → ℕ → Type 0
StandAt cells code at = (k : ℕ) (c : Cell) → slice_get cells k ≡ Some c → fits c (slice_index code (at + k)) ≡ true

moved : (cells : List Cell) (code : List ℕ) (m n : ℕ) → m ≡ n → StandAt cells code m → StandAt cells code n
moved cells code m n same h = let P : ℕ → Type 0 = λ at. StandAt cells code at in subst P same h

-- where other cells start d bytes on, a field stands there
starts_in_field : (cells other : List Cell) (code : List ℕ) (at d : ℕ) → all_clash cells other ≡ true
    → StandAt cells code at
    → StandAt other code (at + d) → d < length cells → (c : Cell) × (slice_get cells d ≡ Some c) × (is_field c ≡ true)
starts_in_field [] other code at d h here there inside = absurd (omega arith)
starts_in_field (c ∷ cells) other code at zero h here there inside =
    elim (either (is_field c) (clash (c ∷ cells) other) (both _ _ h).0) [
      | inl field ↦ (c, refl, field)
      | inr wrong ↦ absurd (cells_clash (c ∷ cells) other code at wrong here
          (moved other code (at + 0) at (omega arith) there))
    ]
starts_in_field (c ∷ cells) other code at (suc d) h here there inside =
    starts_in_field cells other code (at + 1) d
    (both (is_field c || clash (c ∷ cells) other) (all_clash cells other) h).1
    (λ k x e. let P : ℕ → Type 0 = λ n. fits x (slice_index code n) ≡ true in
    let same : at + suc k ≡ (at + 1) + k = omega arith in subst P same (here (suc k) x e))
    (moved other code (at + suc d) ((at + 1) + d) (omega arith) there) (omega arith)

-- whether place n lies in the field of the first relocation, or of the second
abbrev in_four : ℕ → ℕ → Bool
in_four at n = nat_le at n && nat_lt n (at + 4)

abbrev in_second : Option Second → ℕ → Bool
in_second None n = false
in_second (Some second) n = in_four second.at n

abbrev in_fields : Sequence → ℕ → Bool
in_fields s n = ((field_width s.first == 4) && in_four s.first_at n) || in_second s.second n

abbrev all_fields : Sequence → List Cell → ℕ → Bool
all_fields s [] n = true
all_fields s (c ∷ cs) n = (not (is_field c) || in_fields s n) && all_fields s cs (n + 1)

row_fields : (form : Form) → all_fields (row form) (row form).cells 0 ≡ true
unfolding row
row_fields Gd = refl
row_fields form = refl

not_field : (a : Bool) → not a ≡ true → a ≡ true → ⊥
not_field true h k = absurd (cc)
not_field false h k = absurd (cc)

field_of : (s : Sequence) (cells : List Cell) (n d : ℕ) (c : Cell) → all_fields s cells n ≡ true
    → slice_get cells d ≡ Some c → is_field c ≡ true
    → in_fields s (n + d) ≡ true
field_of s [] n d c h at field = absurd (cc)
field_of s (x ∷ cells) n zero c h at field =
    let same : x ≡ c = cc in
    elim (either (not (is_field x)) (in_fields s n) (both _ _ h).0) [
      | inl off ↦ absurd (not_field (is_field c) (ap (λ y. not (is_field y)) (sym same) ∙ off) field)
      | inr there ↦ let P : ℕ → Type 0 = λ k. in_fields s k ≡ true in let eq : n ≡ n + 0 = omega arith in
          subst P eq there
    ]
field_of s (x ∷ cells) n (suc d) c h at field =
    let P : ℕ → Type 0 = λ k. in_fields s k ≡ true in
    let eq : (n + 1) + d ≡ n + suc d = omega arith in
    subst P eq (field_of s cells (n + 1) d c
    (both (not (is_field x) || in_fields s n) (all_fields s cells (n + 1)) h).1 at field)

four_of : (at n : ℕ) → in_four at n ≡ true → (at ≤ n) × (n < at + 4)
four_of at n h = grind (arith, nat_tests)

width_of : (w : ℕ) → (w == 4) ≡ true → w ≡ 4
width_of w h = grind (arith, nat_tests)

covers_four : (o w start at n : ℕ) → o ≡ start + at → w ≡ 4 → (at ≤ n) × (n < at + 4)
    → (o ≤ start + n) × (start + n < o + w)
covers_four o w start at n offset four inside = (omega (arith, inside.0), omega (arith, inside.1))

-- a byte of a site's field is covered by one of its relocations
covered_second : (second : Option Second) (getter : ℕ → Type 0) (xs : List Relocation) (start n : ℕ)
    → HasSecond second getter xs start
    → in_second second n ≡ true → (f : ℕ) × ((x : Relocation) × IsEntry xs f x × Covers x (start + n))
covered_second None getter xs start n h inside = absurd (cc)
covered_second (Some second) getter xs start n h inside = (
  h.0,
  (
    h.1.0,
    h.1.1,
    covers_four h.1.0.offset (field_width h.1.0.kind) start second.at n h.1.2.offset_is
        (call_width_is second.call h.1.0.kind h.1.2.kind_is)
        (four_of second.at n inside),
  ),
)

covered : (code : List ℕ) (xs : List Relocation) (getter : ℕ → Type 0) (e n : ℕ) (site : Site)
    → IsSiteOf code xs getter e site
    → in_fields (row site.form) n ≡ true → (f : ℕ) × ((x : Relocation) × IsEntry xs f x × Covers x (site.start + n))
covered code xs getter e n site is inside =
    let s = row site.form in
    elim (either ((field_width s.first == 4) && in_four s.first_at n) (in_second s.second n) inside) [
      | inl first ↦
          let parts = both (field_width s.first == 4) (in_four s.first_at n) first in
          let x = is.first.0 in (
            e,
            (
              x,
              is.first.1,
              covers_four x.offset (field_width x.kind) site.start s.first_at n is.first.2.offset_is
                  (ap field_width is.first.2.kind_is ∙ width_of (field_width s.first) parts.0)
                  (four_of s.first_at n parts.1),
            ),
          )
      | inr second ↦ covered_second s.second getter xs site.start n is.second second
    ]

-- each row starts with a literal byte
first_literal : (form : Form) → (c : Cell) × (slice_get (row form).cells 0 ≡ Some c) × IsLiteral c
unfolding row
first_literal Gd = (Is 0x66, refl, tt)
first_literal GdInd = (Is 0x66, refl, tt)
first_literal IeMov = (Rex, refl, tt)
first_literal IeAdd = (Rex, refl, tt)
first_literal DescCall = (Is 0xff, refl, tt)
first_literal form = (Is 0x48, refl, tt)

-- behind the first byte
tail_get : (cells : List Cell) (d : ℕ) (c : Cell) → slice_get (behind_first cells) d ≡ Some c
    → slice_get cells (suc d) ≡ Some c
tail_get [] d c h = absurd (cc)
tail_get (x ∷ cells) d c h = h

tail_length : (cells : List Cell) (d : ℕ) → suc d < length cells → d < length (behind_first cells)
tail_length [] d h = absurd (omega arith)
tail_length (x ∷ cells) d h = omega arith

module _ (code : List ℕ) (xs : List Relocation) (getter : ℕ → Type 0) where
  -- no site starts behind the first byte of another
  not_inside : (d e : ℕ) (p q : Site) (n : ℕ) → IsSiteOf code xs getter d p → IsSiteOf code xs getter e q
      → p.start + suc n ≡ q.start
      → suc n < length (row p.form).cells → ⊥
  not_inside d e p q n a b at inside =
      let found = starts_in_field (behind_first (row p.form).cells) (row q.form).cells code (p.start + 1) n
      (tails_clash p.form q.form)
      (λ k c has. let P : ℕ → Type 0 = λ i. fits c (slice_index code i) ≡ true in
      let same : p.start + suc k ≡ (p.start + 1) + k = omega arith in
      subst P same (a.spelled.stands (suc k) c (tail_get (row p.form).cells k c has)).0)
      (moved (row q.form).cells code q.start ((p.start + 1) + n) (omega arith)
      (λ k c has. (b.spelled.stands k c has).0))
      (tail_length (row p.form).cells n inside) in
      let field = field_of (row p.form) (row p.form).cells 0 (suc n) found.0 (row_fields p.form)
      (tail_get (row p.form).cells n found.0 found.1) found.2 in
      let N : ℕ → Type 0 = λ i. in_fields (row p.form) i ≡ true in
      let there : 0 + suc n ≡ suc n = omega arith in
      let by = covered code xs getter d (suc n) p a (subst N there field) in
      let first = first_literal q.form in
      let C : ℕ → Type 0 = λ i. Covers by.1.0 i in
      let start : p.start + suc n ≡ q.start + 0 = omega arith in
      (b.spelled.stands 0 first.0 first.1).1 first.2 by.0 by.1.0 by.1.1 (subst C start by.1.2)

  compare : (m n : ℕ) → (m ≡ n) ⊎ (((k : ℕ) × (m + suc k ≡ n)) ⊎ ((k : ℕ) × (n + suc k ≡ m)))
  compare zero zero = inl refl
  compare zero (suc n) = inr (inl (n, omega arith))
  compare (suc m) zero = inr (inr (m, omega arith))
  compare (suc m) (suc n) = elim (compare m n) [
    | inl same ↦ inl (ap suc same)
    | inr (inl less) ↦ inr (inl (less.0, omega (arith, less.1)))
    | inr (inr more) ↦ inr (inr (more.0, omega (arith, more.1)))
  ]

  pub one_where_shared : (d e : ℕ) (p q : Site) (k : ℕ) → p.section ≡ q.section → IsSiteOf code xs getter d p
      → IsSiteOf code xs getter e q
      → p.start ≤ k → k < p.start + p.len → q.start ≤ k → k < q.start + q.len → p ≡ q
  one_where_shared d e p q k section a b plow phigh qlow qhigh =
      elim (compare p.start q.start) [
        | inl start ↦ elim (compare d e) [
          | inl same ↦ let P : ℕ → Type 0 = λ i. IsSiteOf code xs getter i p in
              one_site code xs getter e p q section (subst P same a) b
          | inr (inl less) ↦ absurd (other_start code xs getter d e p q (omega (arith, less.1)) a b start)
          | inr (inr more) ↦ absurd (other_start code xs getter e d q p (omega (arith, more.1)) b a (sym start))
        ]
        | inr (inl less) ↦ absurd (not_inside d e p q less.0 a b less.1 (omega (arith, less.1, a.len_is)))
        | inr (inr more) ↦ absurd (not_inside e d q p more.0 b a more.1 (omega (arith, more.1, b.len_is)))
      ]

pub sites_apart : SitesAreApart
sites_apart b p q k a c section plow phigh qlow qhigh =
    let S : ℕ → Type 0 = λ s. IsSiteOf (code_of b s) (relocations b s) (IsGetter b) c.0 q in
    one_where_shared (code_of b p.section) (relocations b p.section) (IsGetter b) a.0 c.0 p q k section a.1
    (subst S (sym section) c.1) plow phigh qlow qhigh
