-- No two sequences overlap: where one would start inside another, or another where it starts, some byte is literal in
-- both and another one, or the second starts in a field of the first.
use Rattle.std.proofs.Common.{◌≡◌, ◌==◌, ◌||◌, ◌&&◌, ◌%◌, ◌⊎◌, ℕ, Bool, true, false, not, List, [], ◌∷◌, refl, inl, inr}
use Rattle.std.proofs.Common.{arith, nat_lt}
use Rattle.std.proofs.lemmas.Bool.Decides.{nat_tests}
use Rattle.sequence_forms.specs.declared.forms.Form.{Form}
use Rattle.sequence_forms.specs.declared.forms.Form.TheVariants.{Gd, Ld, IeMov, IeAdd, GdInd, LdInd, DescLea, DescCall}
use Rattle.sequence_forms.specs.declared.forms.Cell.{Cell}
use Rattle.sequence_forms.specs.declared.forms.Cell.TheVariants.{Is, Rex, ModRm, Field}
use Rattle.sequence_forms.specs.Forms.{row, fits}

-- no byte may stand in both cells
abbrev pub disjoint : Cell → Cell → Bool
disjoint (Is a) b = not (fits b a)
disjoint Rex (Is b) = not (fits Rex b)
disjoint Rex ModRm = true
disjoint ModRm (Is b) = not (fits ModRm b)
disjoint ModRm Rex = true
disjoint _ _ = false

-- at some place no byte may stand in both
abbrev pub clash : List Cell → List Cell → Bool
clash (a ∷ cs) (b ∷ ds) = disjoint a b || clash cs ds
clash _ _ = false

abbrev pub is_field : Cell → Bool
is_field Field = true
is_field _ = false

-- wherever other starts in these cells, it starts in a field, or they clash
abbrev pub all_clash : List Cell → List Cell → Bool
all_clash [] other = true
all_clash (c ∷ cs) other = (is_field c || clash (c ∷ cs) other) && all_clash cs other

abbrev pub behind_first : List Cell → List Cell
behind_first [] = []
behind_first (c ∷ cs) = cs

pub tails_clash : (f g : Form) → all_clash (behind_first (row f).cells) (row g).cells ≡ true
unfolding row
tails_clash Gd Gd = refl
tails_clash Gd g = refl
tails_clash Ld Gd = refl
tails_clash Ld g = refl
tails_clash IeMov Gd = refl
tails_clash IeMov g = refl
tails_clash IeAdd Gd = refl
tails_clash IeAdd g = refl
tails_clash GdInd Gd = refl
tails_clash GdInd g = refl
tails_clash LdInd Gd = refl
tails_clash LdInd g = refl
tails_clash DescLea Gd = refl
tails_clash DescLea g = refl
tails_clash DescCall Gd = refl
tails_clash DescCall g = refl

pub same_or_clash : (f g : Form) → (f ≡ g) ⊎ (clash (row f).cells (row g).cells ≡ true)
unfolding row
same_or_clash Gd Gd = inl refl
same_or_clash Gd g = inr refl
same_or_clash Ld Ld = inl refl
same_or_clash Ld g = inr refl
same_or_clash IeMov IeMov = inl refl
same_or_clash IeMov g = inr refl
same_or_clash IeAdd IeAdd = inl refl
same_or_clash IeAdd g = inr refl
same_or_clash GdInd GdInd = inl refl
same_or_clash GdInd g = inr refl
same_or_clash LdInd LdInd = inl refl
same_or_clash LdInd g = inr refl
same_or_clash DescLea DescLea = inl refl
same_or_clash DescLea g = inr refl
same_or_clash DescCall DescCall = inl refl
same_or_clash DescCall g = inr refl

pub same_byte : (a b : ℕ) → (a == b) ≡ true → a ≡ b
same_byte a b h = grind (arith, nat_tests)

pub rex_modrm : (n : ℕ) → ((n == 0x48) || (n == 0x4c)) ≡ true → ((n % 8 == 5) && nat_lt n 64) ≡ true → ⊥
rex_modrm n a b = grind (arith, nat_tests)
