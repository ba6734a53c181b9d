-- Bytes that move in several steps.
use Rattle.std.proofs.Common.{◌≡◌, ℕ, ◌+◌, ◌-◌, ◌≤◌, List, ◌++◌, arith, length, min, take, drop, Option, Result, Ok}
use Rattle.std.proofs.Common.{Err, OnErr, sym, ap, subst, ◌∙◌, le_refl, drop_at, length-take-le, append_assoc}
use Rattle.std.proofs.Common.{take-take, take_all, take_at}
use Rattle.std.proofs.Math.Seq.{take-add, take-length, take-append-le, take-append-add, take-append_seam}
use Rattle.std.proofs.lemmas.Slice.{take-put_mid_below}
use borrow.Rule.Slice.PartMut.{put_mid, post_of}
use Rattle.std.proofs.lemmas.List.{take_min, take_rest}
use Rattle.std.specs.Io.KnownBytes.{Appends, Keeps}
use Rattle.std.proofs.KnownBytes.{Appends-trans, Appends-kept}
use Rattle.file_bytes.specs.Streams.{AppendsFront}

-- the first bytes, and then a front of the rest
pub Appends-more : (a b c : Option (List ℕ)) (bytes : List ℕ) (written count : ℕ) → Appends a b (take written bytes)
    → Appends b c (take count (take (length bytes - written) (drop written bytes)))
    → Appends a c (take (written + count) bytes)
Appends-more a b c bytes written count first second =
    let split = take-add written count bytes
    ∙ ap (λ rest. take written bytes ++ take count rest) (sym (take_rest bytes written)) in
    subst (Appends a c) (sym split) (Appends-trans a b c _ _ first second)

-- a writer that has taken a whole piece, and then kept it, has taken a front of the piece
pub AppendsFront-whole : (a b c : Option (List ℕ)) (piece : List ℕ) → Appends a b piece → Keeps b c
    → AppendsFront a c piece
AppendsFront-whole a b c piece taken kept =
    (length piece, subst (Appends a c) (sym (take-length piece)) (Appends-kept a b c piece taken kept))

-- a whole piece, and then a front of the next
pub AppendsFront-next : (a b c : Option (List ℕ)) (piece next : List ℕ) → Appends a b piece → AppendsFront b c next
    → AppendsFront a c (piece ++ next)
AppendsFront-next a b c piece next taken front = (
  length piece + front.0,
  subst (Appends a c) (sym (take-append-add piece next front.0)) (Appends-trans a b c _ _ taken front.1),
)

-- a front of a piece is one of the piece and what is behind it
pub AppendsFront-more : (a b : Option (List ℕ)) (piece next : List ℕ) → AppendsFront a b piece
    → AppendsFront a b (piece ++ next)
AppendsFront-more a b piece next front =
    let count = min front.0 (length piece) in
    let same = take-append-le count piece next (omega arith) ∙ take_min front.0 piece in
    (count, subst (Appends a b) (sym same) front.1)

pub OnErr-always : {T E P : Type 0} (r : Result T E) → P → OnErr r P
OnErr-always (Ok x) p = tt
OnErr-always (Err e) p = p

pub OnErr-then : {T E P Q : Type 0} (r : Result T E) → OnErr r P → (P → Q) → OnErr r Q
OnErr-then (Ok x) p step = tt
OnErr-then (Err e) p step = step p

-- what a slice begins with after its part from `a` on was written
pub take-put_mid_part : (a k n : ℕ) (xs ys : List ℕ) → a ≤ length xs → n ≤ length ys
    → take (a + n) (put_mid a k xs ys) ≡ take a xs ++ take n ys
take-put_mid_part a k n xs ys within fits =
    let after = post_of a k xs in
    let front = take-put_mid_below a k xs ys a (le_refl a) within in
    let part = ap (take n) (drop_at (take a xs) (ys ++ after) a (length-take-le a xs within))
    ∙ take-append-le n ys after fits in
    take-add a n (put_mid a k xs ys) ∙ ap (λ l. l ++ take n (drop a (put_mid a k xs ys))) front
    ∙ ap (λ l. take a xs ++ l) part

-- what a vector begins with after it was filled up
pub take-filled_up : (begin end : ℕ) (old now zeros : List ℕ) → begin ≡ length old → begin ≤ end
    → now ≡ take end old ++ zeros → take begin now ≡ old
take-filled_up begin end old now zeros at order is =
    let whole : take end old ≡ old = take_all end old (subst (λ n. n ≤ end) at order) in
    ap (take begin) (is ∙ ap (λ l. l ++ zeros) whole) ∙ take_at old zeros begin (sym at)

-- what a vector begins with after its part behind `old` was written
pub take-written : (begin n size : ℕ) (old front ys after rest : List ℕ) → front ≡ old → begin ≡ length old
    → n ≤ length ys → begin + n ≤ size
    → take (begin + n) (take size ((front ++ (ys ++ after)) ++ rest)) ≡ old ++ take n ys
take-written begin n size old front ys after rest same at fits within =
    let back = ys ++ (after ++ rest) in
    let whole : (front ++ (ys ++ after)) ++ rest ≡ old ++ back =
    append_assoc front (ys ++ after) rest ∙ ap (λ l. front ++ l) (append_assoc ys after rest)
    ∙ ap (λ l. l ++ back) same in
    take-take (begin + n) size _ within ∙ ap (take (begin + n)) whole ∙ take-add begin n (old ++ back)
    ∙ ap (λ l. l ++ take n (drop begin (old ++ back))) (ap (λ k. take k (old ++ back)) at ∙ take-append_seam old back)
    ∙ ap (λ l. old ++ l) (ap (take n) (drop_at old back begin (sym at)) ∙ take-append-le n ys (after ++ rest) fits)
