-- Two sequences that start at one place are of one form.
use Rattle.std.proofs.Common.{◌≡◌, ◌+◌, ◌==◌, ◌||◌, ◌⊎◌, ℕ, suc, Bool, true, false, not, List, [], ◌∷◌, Some}
use Rattle.std.proofs.Common.{slice_index, refl, subst, inl, inr, arith}
use Rattle.std.specs.List.{slice_get}
use Rattle.elf_object.specs.declared.relocation.Relocation.{Relocation}
use Rattle.sequence_forms.specs.declared.forms.Form.{Form}
use Rattle.sequence_forms.specs.declared.forms.Cell.{Cell}
use Rattle.sequence_forms.specs.declared.forms.Cell.TheVariants.{Is, Rex, ModRm}
use Rattle.sequence_forms.specs.Forms.{row, fits}
use Rattle.sequence_match.specs.Sites.{IsSpelled}
use Rattle.sequence_match.proofs.Clashes.{disjoint, clash, same_or_clash, same_byte, rex_modrm}

not_both : (a : Bool) → not a ≡ true → a ≡ true → ⊥
not_both true h k = absurd (cc)
not_both false h k = absurd (cc)

literal_byte : (n b : ℕ) (c : Cell) → not (fits c n) ≡ true → (b == n) ≡ true → fits c b ≡ true → ⊥
literal_byte n b c apart is fit =
    let same = same_byte b n is in
    let P : ℕ → Type 0 = λ x. fits c x ≡ true in
    not_both (fits c n) apart (subst P same fit)

-- a byte stands in one of two disjoint cells at most
disjoint_cells : (a b : Cell) (byte : ℕ) → disjoint a b ≡ true → fits a byte ≡ true → fits b byte ≡ true → ⊥
disjoint_cells (Is n) b byte h f g = literal_byte n byte b h f g
disjoint_cells Rex (Is n) byte h f g = literal_byte n byte Rex h g f
disjoint_cells Rex ModRm byte h f g = rex_modrm byte f g
disjoint_cells ModRm (Is n) byte h f g = literal_byte n byte ModRm h g f
disjoint_cells ModRm Rex byte h f g = rex_modrm byte g f
disjoint_cells a b byte h f g = absurd (cc)

pub either : (a b : Bool) → (a || b) ≡ true → (a ≡ true) ⊎ (b ≡ true)
either true b h = inl refl
either false b h = inr h

-- cells that clash don't stand at one place
pub cells_clash : (cs ds : List Cell) (code : List ℕ) (at : ℕ) → clash cs ds ≡ true
    → ((k : ℕ) (c : Cell) → slice_get cs k ≡ Some c → fits c (slice_index code (at + k)) ≡ true)
    → ((k : ℕ) (c : Cell) → slice_get ds k ≡ Some c → fits c (slice_index code (at + k)) ≡ true) → ⊥
cells_clash [] ds code at h f g = absurd (cc)
cells_clash (a ∷ cs) [] code at h f g = absurd (cc)
cells_clash (a ∷ cs) (b ∷ ds) code at h f g =
    elim (either (disjoint a b) (clash cs ds) h) [
      | inl here ↦ disjoint_cells a b (slice_index code (at + 0)) here (f 0 a refl) (g 0 b refl)
      | inr later ↦ cells_clash cs ds code (at + 1) later (λ k c e. moved k c (f (suc k) c e))
          (λ k c e. moved k c (g (suc k) c e))
    ]
  where
    moved : (k : ℕ) (c : Cell) → fits c (slice_index code (at + suc k)) ≡ true
        → fits c (slice_index code ((at + 1) + k)) ≡ true
    moved k c h = let same : at + suc k ≡ (at + 1) + k = omega arith in let P : ℕ
        → Type 0 = λ n. fits c (slice_index code n) ≡ true in subst P same h

-- so two forms that are spelled at one place are one
pub one_form : (f g : Form) (code : List ℕ) (xs : List Relocation) (at : ℕ) → IsSpelled code xs (row f).cells at
    → IsSpelled code xs (row g).cells at → f ≡ g
one_form f g code xs at a b =
    elim (same_or_clash f g) [
      | inl same ↦ same
      | inr wrong ↦ absurd (cells_clash (row f).cells (row g).cells code at wrong (λ k c e. (a.stands k c e).0)
          (λ k c e. (b.stands k c e).0))
    ]
