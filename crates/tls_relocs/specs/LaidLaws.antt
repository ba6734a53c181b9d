-- The laws of `Laid`: the list and the reader agree at every place.
use Rattle.std.proofs.Common.{◌≡◌, ◌+◌, ◌-◌, ◌<◌, ◌≤◌, ◌⊎◌, inl, inr, ℕ, List, [], ◌∷◌, ◌++◌, length, refl, ap, ◌∙◌}
use Rattle.std.proofs.Common.{arith, append_assoc, length-append}
use Rattle.std.specs.Prelude.{slice_get}
use Rattle.std.proofs.lemmas.Bool.{cases_lt, lt-ltb, le-ltb}
use Rattle.std.proofs.lemmas.List.{append-nil, length-replicate}
use Rattle.tls_relocs.specs.Elements.{slice_get-append, slice_get-append_behind, slice_get-replicate}
use Rattle.tls_relocs.specs.Laid.{Placed, zeros, laid, unit_at, Rising, end_of}

-- one part, given the law for those after it
laid_by_place : (at : ℕ) (s : Placed) (more : List Placed) (p : ℕ) → at ≤ s.place → at ≤ p
    → (s.place + length s.bytes ≤ p
    → slice_get (laid (s.place + length s.bytes) more) (p - (s.place + length s.bytes)) ≡ unit_at more p)
    → (p < s.place) ⊎ (s.place ≤ p) → (p < s.place + length s.bytes) ⊎ (s.place + length s.bytes ≤ p)
    → slice_get (laid at (s ∷ more)) (p - at) ≡ unit_at (s ∷ more) p
laid_by_place at s more p rises from later (inl before) _ =
    let gap : length (zeros (s.place - at)) ≡ s.place - at = length-replicate (s.place - at) 0 in
    let inside : p - at < length (zeros (s.place - at)) = omega arith in
    let below : p - at < s.place - at = omega arith in
    rw (lt-ltb p s.place before)
    (slice_get-append (zeros (s.place - at)) (s.bytes ++ laid (s.place + length s.bytes) more) (p - at) inside
    ∙ slice_get-replicate (s.place - at) (p - at) 0 below)
laid_by_place at s more p rises from later (inr above) (inl below) =
    let gap : length (zeros (s.place - at)) ≡ s.place - at = length-replicate (s.place - at) 0 in
    let past : length (zeros (s.place - at)) ≤ p - at = omega arith in
    let same : p - at - length (zeros (s.place - at)) ≡ p - s.place = omega arith in
    let inside : p - s.place < length s.bytes = omega arith in
    rw (le-ltb p s.place above, lt-ltb p (s.place + length s.bytes) below)
    (slice_get-append_behind (zeros (s.place - at)) (s.bytes ++ laid (s.place + length s.bytes) more) (p - at) past
    ∙ ap (slice_get (s.bytes ++ laid (s.place + length s.bytes) more)) same
    ∙ slice_get-append s.bytes (laid (s.place + length s.bytes) more) (p - s.place) inside)
laid_by_place at s more p rises from later (inr above) (inr after) =
    let gap : length (zeros (s.place - at)) ≡ s.place - at = length-replicate (s.place - at) 0 in
    let past : length (zeros (s.place - at)) ≤ p - at = omega arith in
    let same : p - at - length (zeros (s.place - at)) ≡ p - s.place = omega arith in
    let behind : length s.bytes ≤ p - s.place = omega arith in
    let rest : p - s.place - length s.bytes ≡ p - (s.place + length s.bytes) = omega arith in
    rw (le-ltb p s.place above, le-ltb p (s.place + length s.bytes) after)
    (slice_get-append_behind (zeros (s.place - at)) (s.bytes ++ laid (s.place + length s.bytes) more) (p - at) past
    ∙ ap (slice_get (s.bytes ++ laid (s.place + length s.bytes) more)) same
    ∙ slice_get-append_behind s.bytes (laid (s.place + length s.bytes) more) (p - s.place) behind
    ∙ ap (slice_get (laid (s.place + length s.bytes) more)) rest
    ∙ later after)

-- the byte at place p, which is p - at bytes past the start of the list
pub laid_bytes : (at : ℕ) (ss : List Placed) (p : ℕ) → Rising at ss → at ≤ p
    → slice_get (laid at ss) (p - at) ≡ unit_at ss p
laid_bytes at [] p rising from = refl
laid_bytes at (s ∷ more) p rising from =
    laid_by_place at s more p rising.0 from
    (laid_bytes (s.place + length s.bytes) more p rising.1)
    (cases_lt p s.place) (cases_lt p (s.place + length s.bytes))

-- the list ends where the last part does
pub length-laid : (at : ℕ) (ss : List Placed) → Rising at ss → at + length (laid at ss) ≡ end_of at ss
length-laid at [] rising = omega arith
length-laid at (s ∷ more) rising =
    let gap : length (zeros (s.place - at)) ≡ s.place - at = length-replicate (s.place - at) 0 in
    let outer = length-append (zeros (s.place - at)) (s.bytes ++ laid (s.place + length s.bytes) more) in
    let inner = length-append s.bytes (laid (s.place + length s.bytes) more) in
    let rest = length-laid (s.place + length s.bytes) more rising.1 in
    let rises : at ≤ s.place = rising.0 in
    let whole : at + length (laid at (s ∷ more))
    ≡ s.place + length s.bytes + length (laid (s.place + length s.bytes) more) = omega arith in
    whole ∙ rest

-- one more part after the others, as a writer appends it
pub laid-push : (at : ℕ) (ss : List Placed) (s : Placed)
    → laid at (ss ++ s ∷ []) ≡ laid at ss ++ (zeros (s.place - end_of at ss) ++ s.bytes)
laid-push at [] s = ap (λ bs. zeros (s.place - at) ++ bs) (append-nil s.bytes)
laid-push at (x ∷ more) s =
    let rest = laid-push (x.place + length x.bytes) more s in
    rw rest (simp append_assoc)

pub Rising-push : (at : ℕ) (ss : List Placed) (s : Placed) → Rising at ss → end_of at ss ≤ s.place
    → Rising at (ss ++ s ∷ [])
Rising-push at [] s rising behind = (behind, tt)
Rising-push at (x ∷ more) s rising behind =
    (rising.0, Rising-push (x.place + length x.bytes) more s rising.1 behind)
