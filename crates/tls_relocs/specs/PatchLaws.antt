-- The laws of `Patches`: writers and readers agree, the length does not change, and a patch changes
-- nothing outside itself.
use Rattle.std.proofs.Common.{◌≡◌, ◌+◌, ◌-◌, ◌<◌, ◌≤◌, ◌⊎◌, inl, inr, ℕ, false, List, [], ◌∷◌, ◌++◌, length, refl, ap}
use Rattle.std.proofs.Common.{◌∙◌, arith}
use Rattle.std.specs.Prelude.{slice_get, if◌then◌else◌}
use Rattle.std.proofs.lemmas.Bool.{cases_lt, lt-ltb, le-ltb, le-leb, lt-leb}
use Rattle.elf_records.specs.Fields.{splice}
use Rattle.elf_records.specs.Laws.{length-splice}
use Rattle.tls_relocs.specs.Elements.{slice_get-splice_before, slice_get-splice_within, slice_get-splice_after}
use Rattle.tls_relocs.specs.Patches.{Patch, patched, covers, in_any, byte_of, FitIn}

-- patches do not change the number of bytes
pub patched_keeps : (ps : List Patch) (bs : List ℕ) → FitIn ps (length bs)
    → length (patched ps bs) ≡ length bs
patched_keeps [] bs fit = refl
patched_keeps (p ∷ ps) bs fit =
    let rest = patched_keeps ps bs fit.1 in
    let inside : p.at + length p.bytes ≤ length (patched ps bs) = omega arith in
    length-splice p.at p.bytes (patched ps bs) inside ∙ rest

-- patches that are written after others
pub patched-append : (ps qs : List Patch) (bs : List ℕ) → patched (ps ++ qs) bs ≡ patched ps (patched qs bs)
patched-append [] qs bs = refl
patched-append (p ∷ ps) qs bs = ap (splice p.at p.bytes) (patched-append ps qs bs)

pub FitIn-append : (ps qs : List Patch) (n : ℕ) → FitIn ps n → FitIn qs n → FitIn (ps ++ qs) n
FitIn-append [] qs n front back = back
FitIn-append (p ∷ ps) qs n front back = (front.0, FitIn-append ps qs n front.1 back)

-- one byte after one patch
slice_get-splice : (p : Patch) (k : ℕ) (old : List ℕ) → p.at + length p.bytes ≤ length old
    → slice_get (splice p.at p.bytes old) k ≡
    (if covers p k then slice_get p.bytes (k - p.at) else slice_get old k)
slice_get-splice p k old inside = by_place (cases_lt k p.at) (cases_lt k (p.at + length p.bytes))
  where
    by_place : (k < p.at) ⊎ (p.at ≤ k) → (k < p.at + length p.bytes) ⊎ (p.at + length p.bytes ≤ k)
        → slice_get (splice p.at p.bytes old) k ≡
        (if covers p k then slice_get p.bytes (k - p.at) else slice_get old k)
    by_place (inl before) _ =
        let no = lt-leb p.at k before in
        rw no (slice_get-splice_before p.at k p.bytes old inside before)
    by_place (inr above) (inl below) =
        let yes = le-leb p.at k above in
        let inner = lt-ltb k (p.at + length p.bytes) below in
        rw (yes, inner) (slice_get-splice_within p.at k p.bytes old inside above below)
    by_place (inr above) (inr after) =
        let yes = le-leb p.at k above in
        let outer = le-ltb k (p.at + length p.bytes) after in
        rw (yes, outer) (slice_get-splice_after p.at k p.bytes old inside after)

-- what the writer leaves at a place is what the reader finds there
pub patched_bytes : (ps : List Patch) (bs : List ℕ) (k : ℕ) → FitIn ps (length bs)
    → slice_get (patched ps bs) k ≡ byte_of ps bs k
patched_bytes [] bs k fit = refl
patched_bytes (p ∷ ps) bs k fit =
    let rest = patched_keeps ps bs fit.1 in
    let inside : p.at + length p.bytes ≤ length (patched ps bs) = omega arith in
    rw (← patched_bytes ps bs k fit.1) (slice_get-splice p k (patched ps bs) inside)

-- two lists of patches that agree at a place still agree after patches in front that do not write there
pub same_outside : (odd ps qs : List Patch) (bs : List ℕ) (k : ℕ) → in_any odd k ≡ false
    → byte_of qs bs k ≡ byte_of ps bs k → byte_of (odd ++ qs) bs k ≡ byte_of ps bs k
same_outside [] ps qs bs k outside same = same
same_outside (p ∷ odd) ps qs bs k outside same = grind (arith, same_outside odd ps qs bs k)
