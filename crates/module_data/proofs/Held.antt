-- Data that an image has of an instance.
use Rattle.std.proofs.Common.{◌≡◌, ◌∙◌, ◌<◌, ℕ, zero, suc, Bool, true, false, List, [], ◌∷◌, length, Option, Some, None}
use Rattle.std.proofs.Common.{refl, sym, ap, arith}
use Rattle.std.specs.Prelude.{is_some, if◌then◌else◌, option_and_then, slice_get, slice_set}
use Rattle.std.proofs.lemmas.List.{length-set}
use Rattle.module_data.specs.Laws.{byte_read, written}
use Rattle.module_data.specs.Pieces.{Piece, data_of, is_of}
use Rattle.module_data.specs.Lending.{piece_of, refilled, with_bytes}
use Rattle.module_data.proofs.Refilled.{refilled_same}

some_of : (b : Bool) (bytes : List ℕ) → is_some (if b then Some bytes else None) ≡ true
    → (if b then Some bytes else None) ≡ Some bytes
some_of true bytes h = refl
some_of false bytes h = cc

pub held_within : (d : List Piece) (instance image : ℕ) → is_some (data_of d instance image) ≡ true → image < length d
unfolding data_of
held_within [] instance image h = cc
held_within (p ∷ d) instance zero h = omega arith
held_within (p ∷ d) instance (suc image) h = omega (arith, held_within d instance image h)

pub held_bytes : (d : List Piece) (instance image : ℕ) → is_some (data_of d instance image) ≡ true
    → data_of d instance image ≡ Some (piece_of d image).bytes
unfolding data_of
held_bytes [] instance image h = cc
held_bytes (p ∷ d) instance zero h = some_of (is_of instance p) p.bytes h
held_bytes (p ∷ d) instance (suc image) h = held_bytes d instance image h

-- ** one byte of them

some_inside : (o : Option (List ℕ)) (at : ℕ) → is_some (option_and_then (λ bytes. slice_get bytes at) o) ≡ true
    → is_some o ≡ true
some_inside None at h = cc
some_inside (Some bytes) at h = refl

some_within : (bytes : List ℕ) (at : ℕ) → is_some (slice_get bytes at) ≡ true → at < length bytes
some_within [] at h = cc
some_within (b ∷ bytes) zero h = omega arith
some_within (b ∷ bytes) (suc at) h = omega (arith, some_within bytes at h)

pub byte_held : (d : List Piece) (instance image at : ℕ) → is_some (byte_read d instance image at) ≡ true
    → is_some (data_of d instance image) ≡ true
unfolding byte_read
byte_held d instance image at h = some_inside (data_of d instance image) at h

pub byte_within : (d : List Piece) (instance image at : ℕ) (bytes : List ℕ) → data_of d instance image ≡ Some bytes
    → is_some (byte_read d instance image at) ≡ true → at < length bytes
unfolding byte_read
byte_within d instance image at bytes is h =
    some_within bytes at (ap (λ o. is_some (option_and_then (λ bytes. slice_get bytes at) o)) (sym is) ∙ h)

-- one byte of what is lent is written
pub lent_written : (d : List Piece) (image at byte : ℕ) (bytes : List ℕ) → (piece_of d image).bytes ≡ bytes
    → slice_set d image (with_bytes (piece_of d image) (slice_set bytes at byte))
    ≡ written image d (record { at = at; byte = byte })
unfolding refilled written
lent_written d image at byte bytes is =
    let piece = piece_of d image in
    ap (λ bytes. slice_set d image (record { instance = piece.instance; bytes = bytes }))
    (rw (← is) (refilled_same piece.bytes (slice_set piece.bytes at byte) (length-set piece.bytes at byte)))
