-- What a write to a part of a slice leaves, as a splice; and what one field after another leaves, as one splice.
use Rattle.std.proofs.Common.{ℕ, suc, ◌+◌, ◌-◌, ◌<◌, ◌≤◌, ◌≡◌, List, [], ◌∷◌, ◌++◌, length, take, drop, set, refl, sym}
use Rattle.std.proofs.Common.{ap, ◌∙◌, arith, append_assoc, length-append}
use Rattle.std.proofs.lemmas.List.{append-nil, drop-drop, drop_all, set_split, take_rest}
use Rattle.std.proofs.Math.Nat.{mod-eq_of_lt}
use borrow.Rule.Slice.PartMut.{put_mid}
use Rattle.elf_records.specs.Fields.{bytes_of, spelled, splice}
use Rattle.elf_records.specs.Laws.{length-bytes_of, splice_more}

-- after a write to the start of `&mut bytes[at..]`
pub put_mid-rest : (at n : ℕ) (new bytes now : List ℕ) → length new ≡ n → at + n ≤ length bytes
    → now ≡ new ++ drop n (take (length bytes - at) (drop at bytes))
    → put_mid at (length bytes - at) bytes now ≡ splice at new bytes
unfolding splice
put_mid-rest at n new bytes now size inside wrote =
    let rest = take_rest bytes at in
    let behind : drop n (drop at bytes) ≡ drop (at + n) bytes = drop-drop n at bytes in
    let full : length bytes ≤ at + (length bytes - at) = omega arith in
    let none : drop (length bytes - at) (drop at bytes) ≡ [] = drop-drop (length bytes - at) at bytes
    ∙ drop_all (at + (length bytes - at)) bytes full in
    rw (none, wrote, rest, behind, size) (ap (λ r. take at bytes ++ r)
    (append-nil (new ++ drop (at + n) bytes)))

-- after `bytes[at..at + new.len()].copy_from_slice(new)`
pub put_mid-part : (at : ℕ) (new bytes now : List ℕ) → now ≡ new
    → put_mid at (at + length new - at) bytes now ≡ splice at new bytes
unfolding splice
put_mid-part at new bytes now wrote =
    let size : at + length new - at ≡ length new = omega arith in
    let behind : drop (length new) (drop at bytes) ≡
    drop (at + length new) bytes = drop-drop (length new) at bytes in
    rw (size, wrote, behind) refl

-- after `bytes[at] = x`
pub set-splice : (at x : ℕ) (bytes : List ℕ) → x < 256 → at + 1 ≤ length bytes
    → set bytes at x ≡ splice at (bytes_of 1 x) bytes
unfolding splice bytes_of
set-splice at x bytes fits inside =
    let there : at < length bytes = omega arith in
    let next : at + 1 ≡ suc at = omega arith in
    rw (mod-eq_of_lt fits, next) (set_split bytes at x there)

-- the fields written one after another, from k bytes behind `at` on
abbrev pub written : ℕ → ℕ → List (ℕ × ℕ) → List ℕ → List ℕ
written at k [] bytes = bytes
written at k (f ∷ fs) bytes = written at (k + f.0) fs (splice (at + k) (bytes_of f.0 f.1) bytes)

-- fields written right behind what was written before are one writing
pub written_behind : (at k : ℕ) (done : List ℕ) (fs : List (ℕ × ℕ)) (bytes : List ℕ) → length done ≡ k
    → at ≤ length bytes → written at k fs (splice at done bytes) ≡ splice at (done ++ spelled fs) bytes
unfolding spelled
written_behind at k done [] bytes size inside = ap (λ new. splice at new bytes) (sym (append-nil done))
written_behind at k done (f ∷ fs) bytes size inside =
    let next : at + k ≡ at + length done = omega arith in
    let more = splice_more at (at + k) done (bytes_of f.0 f.1) bytes next inside in
    let field = length-bytes_of f.0 f.1 in
    let longer : length (done ++ bytes_of f.0 f.1) ≡ k + f.0 = length-append done (bytes_of f.0 f.1)
    ∙ ap (λ n. n + length (bytes_of f.0 f.1)) size ∙ ap (λ n. k + n) field in
    let rest = written_behind at (k + f.0) (done ++ bytes_of f.0 f.1) fs bytes longer inside in
    rw more (rest ∙ ap (λ new. splice at new bytes) (append_assoc done (bytes_of f.0 f.1) (spelled fs)))
