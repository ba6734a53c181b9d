-- Which bytes of a row are spelled: those before its first field, and those behind it up to its second one.
use Rattle.std.proofs.Common.{◌≡◌, ◌+◌, ◌-◌, ◌<◌, ◌≤◌, ◌⊎◌, ◌&&◌, ◌||◌, ◌↔◌, ◌∙◌, ℕ, zero, suc, Bool, true, false, not}
use Rattle.std.proofs.Common.{List, [], ◌∷◌, Some, IsTrue, length, nat_lt, get_or, refl, sym, ap, subst, inl, inr}
use Rattle.std.proofs.Common.{arith}
use Rattle.std.specs.List.{slice_get}
use Rattle.std.proofs.lemmas.Bool.Decides.{nat_tests}
use Rattle.std.proofs.lemmas.Option.{slice_get-get_or}
use Rattle.elf_records.specs.declared.relocation.RelocationKind.{RelocationKind}
use Rattle.elf_records.specs.declared.relocation.RelocationKind.TheVariants.{Nothing, TlsDescCall}
use Rattle.elf_object.specs.declared.relocation.Relocation.{Relocation}
use Rattle.elf_object.specs.Relocations.{field_width}
use Rattle.sequence_forms.specs.declared.forms.Cell.{Cell}
use Rattle.sequence_forms.specs.declared.forms.Cell.TheVariants.{Field}
use Rattle.sequence_forms.specs.declared.forms.Form.{Form}
use Rattle.sequence_forms.specs.declared.forms.Form.TheVariants.{Gd}
use Rattle.sequence_forms.specs.Forms.{row}
use Rattle.sequence_match.specs.Code.{AreBare, AreBytes, behind_at, behind_end}
use Rattle.sequence_match.specs.Sites.{IsBare, IsLiteral, IsSpelled}
use Rattle.sequence_match.proofs.Clashes.{is_field}

-- ** the rows

-- byte k lies before the first field, or behind it
abbrev pub lies : ℕ → ℕ → ℕ → ℕ → Bool
lies first at end k = nat_lt k first || (not (nat_lt k at) && nat_lt k end)

abbrev same_bool : Bool → Bool → Bool
same_bool true b = b
same_bool false b = not b

-- the cells are literal just where a byte lies so
abbrev agree : List Cell → ℕ → ℕ → ℕ → ℕ → Bool
agree [] i first at end = true
agree (c ∷ cs) i first at end = same_bool (not (is_field c)) (lies first at end i) && agree cs (i + 1) first at end

rows_agree : (form : Form)
    → agree (row form).cells 0 (row form).first_at (behind_at (row form)) (behind_end (row form)) ≡ true
unfolding row
rows_agree Gd = refl
rows_agree form = refl

pub both_of : (a b : Bool) → (a && b) ≡ true → (a ≡ true) × (b ≡ true)
both_of true b h = (refl, h)
both_of false b h = absurd (cc)

same_of : (a b : Bool) → same_bool a b ≡ true → a ≡ b
same_of true b h = sym h
same_of false true h = absurd (cc)
same_of false false h = refl

agree_at : (cs : List Cell) (i first at end k : ℕ) (cell : Cell) → agree cs i first at end ≡ true
    → slice_get cs k ≡ Some cell
    → not (is_field cell) ≡ lies first at end (i + k)
agree_at [] i first at end k cell h is = absurd (cc)
agree_at (c ∷ cs) i first at end zero cell h is =
    let same : c ≡ cell = cc in
    let P : Cell → Type 0 = λ x. not (is_field x) ≡ lies first at end (i + 0) in
    let zero_more : i ≡ i + 0 = omega arith in
    subst P same (same_of _ _ (both_of _ _ h).0 ∙ ap (lies first at end) zero_more)
agree_at (c ∷ cs) i first at end (suc k) cell h is =
    let moved : (i + 1) + k ≡ i + suc k = omega arith in
    agree_at cs (i + 1) first at end k cell (both_of _ _ h).1 is ∙ ap (lies first at end) moved

row_agrees : (form : Form) (k : ℕ) (cell : Cell) → slice_get (row form).cells k ≡ Some cell
    → not (is_field cell) ≡ lies (row form).first_at (behind_at (row form)) (behind_end (row form)) k
row_agrees form k cell is =
    let none : 0 + k ≡ k = omega arith in
    agree_at (row form).cells 0 (row form).first_at (behind_at (row form)) (behind_end (row form)) k cell
    (rows_agree form) is
    ∙ ap (lies (row form).first_at (behind_at (row form)) (behind_end (row form))) none

-- a row spells few bytes before its first field, and few behind it
pub ranges_short : (form : Form)
    → ((row form).first_at ≤ 5) × (behind_end (row form) ≤ behind_at (row form) + 5)
    × ((row form).first_at ≤ length (row form).cells) × (behind_end (row form) ≤ length (row form).cells)
unfolding row
ranges_short Gd = (omega arith, omega arith, omega arith, omega arith)
ranges_short form = (omega arith, omega arith, omega arith, omega arith)

-- ** literal cells

literal_of : (cell : Cell) → IsLiteral cell → not (is_field cell) ≡ true
literal_of Field h = absurd h
literal_of cell h = refl

of_literal : (cell : Cell) → not (is_field cell) ≡ true → IsLiteral cell
of_literal Field h = absurd (cc)
of_literal cell h = tt

lies_where : (first at end k : ℕ) → lies first at end k ≡ true → (k < first) ⊎ ((at ≤ k) × (k < end))
lies_where first at end k h = grind (arith, nat_tests)

before_lies : (first at end k : ℕ) → k < first → lies first at end k ≡ true
before_lies first at end k h = grind (arith, nat_tests)

behind_lies : (first at end k : ℕ) → at ≤ k → k < end → lies first at end k ≡ true
behind_lies first at end k low high = grind (arith, nat_tests)

-- ** fields of four bytes or more

none_or_wide : (kind : RelocationKind) → (field_width kind ≡ 0) ⊎ (4 ≤ field_width kind)
none_or_wide Nothing = inl refl
none_or_wide TlsDescCall = inl refl
none_or_wide _ = inr (omega arith)

most_or_above : (m n : ℕ) → (m ≤ n) ⊎ (n < m)
most_or_above m n = grind arith

touches : (o w k from to : ℕ) → 4 ≤ w → from ≤ k → k < to → to ≤ from + 5 → o ≤ k → k < o + w
    → ((o ≤ from) × (from < o + w)) ⊎ ((o ≤ to - 1) × (to - 1 < o + w))
touches o w k from to wide low high short a b = elim (most_or_above o from) [
  | inl most ↦ inl (most, omega (arith, low, b))
  | inr above ↦ inr (omega (arith, a, high), omega (arith, above, wide, short))
]

-- where the last byte and the first are bare, all are
pub ends_bare : (xs : List Relocation) (from to : ℕ) → to ≤ from + 5 → IsBare xs (to - 1) → IsBare xs from
    → AreBare xs from to
ends_bare xs from to short last first k low high f x entry covers =
    elim (none_or_wide x.kind) [
      | inl none ↦ omega (arith, none, covers.0, covers.1)
      | inr wide ↦ elim (touches x.offset (field_width x.kind) k from to wide low high short covers.0 covers.1) [
        | inl here ↦ first f x entry here
        | inr there ↦ last f x entry there
      ]
    ]

pub bare_moved : (xs : List Relocation) (a b c d : ℕ) → a ≡ c → b ≡ d → AreBare xs a b → AreBare xs c d
bare_moved xs a b c d e f bare k low high = bare k (omega (arith, low, e)) (omega (arith, high, f))

-- ** so a row is spelled where its bytes stand, and no field covers a byte before its first field or behind it

module _ (code : List ℕ) (xs : List Relocation) (form : Form) (start : ℕ) where
  bare_at : (m k : ℕ) → m ≡ k → IsBare xs m → IsBare xs k
  bare_at m k same h = let P : ℕ → Type 0 = λ n. IsBare xs n in subst P same h

  -- a byte that lies so is bare
  lies_bare : IsSpelled code xs (row form).cells start → (k : ℕ) → k < length (row form).cells
      → lies (row form).first_at (behind_at (row form)) (behind_end (row form)) k ≡ true → IsBare xs (start + k)
  lies_bare spelled k inside h =
      let cell = get_or (row form).cells k Field in
      let at = slice_get-get_or (row form).cells k Field inside in
      let same = row_agrees form k cell at in
      (spelled.stands k cell at).1 (of_literal cell (same ∙ h))

  pub spelled_by : (r : Bool) → start + length (row form).cells ≤ length code
      → (IsTrue r ↔ (AreBytes code (row form).cells start × AreBare xs start (start + (row form).first_at)
      × AreBare xs (start + behind_at (row form)) (start + behind_end (row form))))
      → IsTrue r ↔ IsSpelled code xs (row form).cells start
  spelled_by r inside is = (
    λ t.
        let h = is.0 t in
        record {
          inside = inside;
          stands = λ k cell at. (
            h.0 k cell at,
            λ literal.
                let same = row_agrees form k cell at in
                elim (lies_where (row form).first_at (behind_at (row form)) (behind_end (row form)) k
                (sym same ∙ literal_of cell literal)) [
                  | inl before ↦ h.1 (start + k) (omega arith) (omega (arith, before))
                  | inr behind ↦ h.2 (start + k) (omega (arith, behind.0)) (omega (arith, behind.1))
                ],
          );
        },
    λ spelled.
        let short = ranges_short form in
        is.1 (
          λ k cell at. (spelled.stands k cell at).0,
          λ k low high.
              let there : start + (k - start) ≡ k = omega (arith, low) in
              bare_at (start + (k - start)) k there
              (lies_bare spelled (k - start) (omega (arith, low, high, short.2))
              (before_lies (row form).first_at (behind_at (row form)) (behind_end (row form)) (k - start)
              (omega (arith, low, high)))),
          λ k low high.
              let there : start + (k - start) ≡ k = omega (arith, low) in
              bare_at (start + (k - start)) k there
              (lies_bare spelled (k - start) (omega (arith, low, high, short.3))
              (behind_lies (row form).first_at (behind_at (row form)) (behind_end (row form)) (k - start)
              (omega (arith, low)) (omega (arith, low, high)))),
        ),
  )
