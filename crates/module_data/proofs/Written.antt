-- Loads and writes, one image's data at a time.
use Rattle.std.proofs.Common.{◌≡◌, ◌∙◌, ◌<◌, ◌≤◌, ◌==◌, ◌&&◌, ℕ, zero, suc, Bool, true, false, List, [], ◌∷◌, length}
use Rattle.std.proofs.Common.{Some, None, refl, sym, ap, arith, ◌+◌, map}
use Rattle.std.specs.Prelude.{nat_lt, option_and_then, slice_get, slice_set}
use Rattle.std.proofs.lemmas.Bool.{eq-eqb, ne_eqb}
use Rattle.std.proofs.lemmas.Bool.Decides.{nat_tests}
use Rattle.std.specs.List.{range_with_len}
use Rattle.std.proofs.lemmas.List.FromFn.{get_or-map-range_with_len, length-map-range_with_len}
use Rattle.std.proofs.lemmas.Option.{get_or_from_slice_get, slice_get-get_or, slice_get_within}
use Rattle.loaded_modules.specs.declared.instance.Instance.{Instance}
use Rattle.loaded_modules.specs.Images.{JobImages}
use Rattle.module_data.specs.Parts.{fresh_data}
use Rattle.module_data.specs.Pieces.{Piece, bytes_of_instance, data_of, first_data, first_instance, first_piece}
use Rattle.module_data.specs.Pieces.{fresh_piece, loaded, no_piece, starts_at}
use Rattle.module_data.specs.Lending.{piece_of}
use Rattle.module_data.specs.Laws.{Write, ReadsLast, after_writes, byte_read, written}
use Rattle.module_data.proofs.LastBytes.{all_put, put, last_byte}

-- ** one piece

pub get_same : (d : List Piece) (i : ℕ) (p : Piece) → i < length d → slice_get (slice_set d i p) i ≡ Some p
get_same [] i p h = absurd (omega (arith, h))
get_same (q ∷ d) zero p h = refl
get_same (q ∷ d) (suc i) p h = get_same d i p (omega (arith, h))

pub get_other : (d : List Piece) (i j : ℕ) (p : Piece) → (j ≡ i → ⊥) → slice_get (slice_set d i p) j ≡ slice_get d j
get_other [] i j p apart = refl
get_other (q ∷ d) zero zero p apart = absurd (apart refl)
get_other (q ∷ d) zero (suc j) p apart = refl
get_other (q ∷ d) (suc i) zero p apart = refl
get_other (q ∷ d) (suc i) (suc j) p apart = get_other d i j p (λ e. apart (ap suc e))

not_both : (b : Bool) → (b && false) ≡ false
not_both true = refl
not_both false = refl

-- the piece is the instance's, or another's
pub own : (n : ℕ) (bytes : List ℕ) → 1 ≤ n → bytes_of_instance n (record { instance = n; bytes = bytes }) ≡ Some bytes
own n bytes low =
    let more : nat_lt 0 n ≡ true = grind (arith, nat_tests) in
    let same : (n == n) ≡ true = eq-eqb n n refl in
    rw (more, same) refl

others : (n instance : ℕ) (bytes : List ℕ) → (instance ≡ n → ⊥)
    → bytes_of_instance instance (record { instance = n; bytes = bytes }) ≡ None
others n instance bytes apart =
    let no : (n == instance) ≡ false = ne_eqb n instance (λ e. apart (sym e)) in
    rw (no, not_both (nat_lt 0 instance)) refl

-- ** a program that begins

pub first_at : (m : JobImages) (number : ℕ) → number ≤ length m.images
    → slice_get (first_data m) number ≡ Some (first_piece m number)
unfolding first_data
first_at m number within =
    let n = length m.images + 1 in
    let f = first_piece m in
    let long = length-map-range_with_len f 0 n in
    slice_get-get_or (map f (range_with_len 0 n)) number no_piece (omega (arith, within, long))
    ∙ ap Some (get_or-map-range_with_len f 0 n number number no_piece (omega (arith, within)) (omega arith))

from_one : (m : JobImages) (number : ℕ) → starts_at m number ≡ true → 1 ≤ number
from_one m zero is = cc
from_one m (suc number) is = omega arith

of_none : (instance : ℕ) → bytes_of_instance instance no_piece ≡ None
unfolding no_piece
of_none zero = refl
of_none (suc n) = rw (ne_eqb 0 (suc n) (λ e. omega (arith, e)), not_both (nat_lt 0 (suc n))) refl

pub begins_fresh : (m : JobImages) (number : ℕ) → number ≤ length m.images → starts_at m number ≡ true
    → data_of (first_data m) number number ≡ Some (fresh_data m (first_instance m number))
unfolding data_of
begins_fresh m number within is =
    ap (option_and_then (bytes_of_instance number)) (first_at m number within)
    ∙ rw is (own number (fresh_data m (first_instance m number)) (from_one m number is))

pub begins_without : (m : JobImages) (instance number : ℕ) → number ≤ length m.images → starts_at m number ≡ false
    → data_of (first_data m) instance number ≡ None
unfolding data_of
begins_without m instance number within is =
    ap (option_and_then (bytes_of_instance instance)) (first_at m number within) ∙ rw is (of_none instance)

-- ** loads

pub loads_leave_others : (m : JobImages) (x : Instance) (d : List Piece) (instance image : ℕ) → (image ≡ x.image → ⊥)
    → data_of (loaded m x d) instance image ≡ data_of d instance image
unfolding data_of loaded
loads_leave_others m x d instance image apart =
    ap (option_and_then (bytes_of_instance instance)) (get_other d x.image image (fresh_piece m x) apart)

pub loads_end_others : (m : JobImages) (x : Instance) (d : List Piece) (instance : ℕ) → (instance ≡ x.number → ⊥)
    → x.image < length d → data_of (loaded m x d) instance x.image ≡ None
unfolding data_of loaded
loads_end_others m x d instance apart within =
    ap (option_and_then (bytes_of_instance instance)) (get_same d x.image (fresh_piece m x) within)
    ∙ others x.number instance (fresh_data m x) apart

-- ** writes

write_leaves_others : (d : List Piece) (w : Write) (instance image other : ℕ) → (other ≡ image → ⊥)
    → data_of (written image d w) instance other ≡ data_of d instance other
unfolding data_of written
write_leaves_others d w instance image other apart =
    ap (option_and_then (bytes_of_instance instance)) (get_other d image other _ apart)

pub writes_leave_others : (d : List Piece) (writes : List Write) (instance image other : ℕ) → (other ≡ image → ⊥)
    → data_of (after_writes image d writes) instance other ≡ data_of d instance other
writes_leave_others d [] instance image other apart = refl
writes_leave_others d (w ∷ ws) instance image other apart =
    writes_leave_others (written image d w) ws instance image other apart
    ∙ write_leaves_others d w instance image other apart

-- a write is one to the bytes of the piece
write_puts : (d : List Piece) (w : Write) (image n : ℕ) (bytes : List ℕ)
    → slice_get d image ≡ Some (record { instance = n; bytes = bytes })
    → slice_get (written image d w) image ≡ Some (record { instance = n; bytes = put bytes w })
unfolding written
write_puts d w image n bytes is =
    let piece : piece_of d image ≡ record { instance = n; bytes = bytes } =
    get_or_from_slice_get d image _ no_piece is in
    get_same d image _ (slice_get_within d image _ is)
    ∙ ap (λ p. Some (record { instance = p.instance; bytes = slice_set p.bytes w.at w.byte })) piece

writes_put : (ws : List Write) (d : List Piece) (image n : ℕ) (bytes : List ℕ)
    → slice_get d image ≡ Some (record { instance = n; bytes = bytes })
    → slice_get (after_writes image d ws) image ≡ Some (record { instance = n; bytes = all_put bytes ws })
writes_put [] d image n bytes is = is
writes_put (w ∷ ws) d image n bytes is =
    writes_put ws (written image d w) image n (put bytes w) (write_puts d w image n bytes is)

pub reads_last : (m : JobImages) (x : Instance) (d : List Piece) (writes : List Write) (at : ℕ) → 1 ≤ x.number
    → x.image < length d → at < length (fresh_data m x) → ReadsLast m x d writes at
unfolding byte_read data_of loaded
reads_last m x d writes at low within inside =
    let fresh = fresh_data m x in
    let there = writes_put writes (loaded m x d) x.image x.number fresh (get_same d x.image (fresh_piece m x) within) in
    record {
      last =
          ap (λ p. option_and_then (λ bytes. slice_get bytes at) (option_and_then (bytes_of_instance x.number) p)) there
          ∙ ap (option_and_then (λ bytes. slice_get bytes at)) (own x.number (all_put fresh writes) low)
          ∙ last_byte writes fresh at inside;
    }
