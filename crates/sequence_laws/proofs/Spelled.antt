-- Bytes that fit a form's cells are its literal bytes with others between them.
use Rattle.std.proofs.Common.{◌≡◌, ℕ, suc, ◌≤◌, List, [], ◌∷◌, ◌++◌, length, drop, Some, refl, sym, ap, ◌∙◌, arith}
use Rattle.std.proofs.Common.{rules}
use Rattle.std.specs.Prelude.{IsTrue, slice_get, slice_index, ◌==◌}
use Rattle.sequence_forms.specs.declared.forms.Cell.{Cell}
use Rattle.sequence_forms.specs.declared.forms.Cell.TheVariants.{Is, Rex, ModRm, Field}
use Rattle.sequence_forms.specs.Forms.{fits}

-- the bytes that cells leave open
abbrev pub open_in : List Cell → List ℕ → List ℕ
open_in [] xs = []
open_in (cell ∷ cells) [] = []
open_in (Is literal ∷ cells) (x ∷ xs) = open_in cells xs
open_in (Rex ∷ cells) (x ∷ xs) = x ∷ open_in cells xs
open_in (ModRm ∷ cells) (x ∷ xs) = x ∷ open_in cells xs
open_in (Field ∷ cells) (x ∷ xs) = x ∷ open_in cells xs

-- how many these are
abbrev pub open_count : List Cell → ℕ
open_count [] = 0
open_count (Is literal ∷ cells) = open_count cells
open_count (Rex ∷ cells) = suc (open_count cells)
open_count (ModRm ∷ cells) = suc (open_count cells)
open_count (Field ∷ cells) = suc (open_count cells)

-- cells with these in the open ones
abbrev pub spelled : List Cell → List ℕ → List ℕ
spelled [] xs = []
spelled (Is literal ∷ cells) xs = literal ∷ spelled cells xs
spelled (Rex ∷ cells) [] = []
spelled (Rex ∷ cells) (x ∷ xs) = x ∷ spelled cells xs
spelled (ModRm ∷ cells) [] = []
spelled (ModRm ∷ cells) (x ∷ xs) = x ∷ spelled cells xs
spelled (Field ∷ cells) [] = []
spelled (Field ∷ cells) (x ∷ xs) = x ∷ spelled cells xs

-- each cell fits the byte at its place
abbrev pub Fit : List Cell → List ℕ → Type 0
Fit cells xs = (k : ℕ) (cell : Cell) → slice_get cells k ≡ Some cell → IsTrue (fits cell (slice_index xs k))

behind : (cell : Cell) (cells : List Cell) (x : ℕ) (xs : List ℕ) → Fit (cell ∷ cells) (x ∷ xs) → Fit cells xs
behind cell cells x xs fit = λ k other e. fit (suc k) other e

literal_is : (literal x : ℕ) → IsTrue (x == literal) → x ≡ literal
literal_is literal x e = search rules

pub open_length : (cells : List Cell) (xs : List ℕ) → length cells ≤ length xs
    → length (open_in cells xs) ≡ open_count cells
open_length [] xs room = refl
open_length (cell ∷ cells) [] room = absurd (omega arith)
open_length (Is literal ∷ cells) (x ∷ xs) room = open_length cells xs (omega arith)
open_length (Rex ∷ cells) (x ∷ xs) room = ap suc (open_length cells xs (omega arith))
open_length (ModRm ∷ cells) (x ∷ xs) room = ap suc (open_length cells xs (omega arith))
open_length (Field ∷ cells) (x ∷ xs) room = ap suc (open_length cells xs (omega arith))

pub spelled_again : (cells : List Cell) (xs : List ℕ) → length cells ≤ length xs → Fit cells xs
    → spelled cells (open_in cells xs) ++ drop (length cells) xs ≡ xs
spelled_again [] xs room fit = refl
spelled_again (cell ∷ cells) [] room fit = absurd (omega arith)
spelled_again (Is literal ∷ cells) (x ∷ xs) room fit =
    let same : x ≡ literal = literal_is literal x (fit 0 (Is literal) refl) in
    let rest = spelled_again cells xs (omega arith) (behind (Is literal) cells x xs fit) in
    ap (λ front. literal ∷ front) rest ∙ ap (λ front. front ∷ xs) (sym same)
spelled_again (Rex ∷ cells) (x ∷ xs) room fit =
    ap (λ front. x ∷ front) (spelled_again cells xs (omega arith) (behind Rex cells x xs fit))
spelled_again (ModRm ∷ cells) (x ∷ xs) room fit =
    ap (λ front. x ∷ front) (spelled_again cells xs (omega arith) (behind ModRm cells x xs fit))
spelled_again (Field ∷ cells) (x ∷ xs) room fit =
    ap (λ front. x ∷ front) (spelled_again cells xs (omega arith) (behind Field cells x xs fit))
