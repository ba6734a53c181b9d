-- What spells an instruction spells it with other numbers in its fields.
use Rattle.std.proofs.Common.{◌≡◌, ℕ, ◌+◌, ◌-◌, ◌<◌, ◌≤◌, ◌⊎◌, inl, inr, true, List, ◌++◌, length, take, drop, Option}
use Rattle.std.proofs.Common.{Some, None, refl, sym, ap, subst, ◌∙◌, append_assoc, arith}
use Rattle.std.specs.Prelude.{IfSome}
use Rattle.std.specs.List.{slice_get}
use Rattle.std.proofs.lemmas.List.{length-drop, take-append-drop, length-take-le, take-append-le}
use Rattle.amd64_subset.specs.declared.instr.Decoded.{Decoded}
use Rattle.amd64_subset.specs.Beginning.{begins_of}
use Rattle.amd64_subset.specs.Decoding.{decoded}
use Rattle.amd64_subset.specs.Spelling.{Spells, HasField, IsPlaced, field_of, with_displacement, with_immediate}
use Rattle.amd64_subset.proofs.Beginning.{spelling_begins}
use Rattle.amd64_subset.proofs.FieldLaws.{front_lem, displacement_around, immediate_around}
use Rattle.amd64_subset.proofs.Places.{decoded_length, decoded_placed}
use Rattle.amd64_subset.proofs.Whole.{decoded_found}
use Rattle.job_meaning.proofs.Lists.{spliced, spliced-is, parts-are, spliced-length, spliced-keeps, spliced-takes}
use Rattle.job_meaning.proofs.Lists.{same-take, take-cut}

-- ** what spells

pub placed_of : (bytes : List ℕ) (d : Decoded) → decoded bytes ≡ Some d → IsPlaced d
placed_of bytes d e = decoded_placed bytes (Some d) (sym e)

pub length_of : (bytes : List ℕ) (d : Decoded) → decoded bytes ≡ Some d → d.len ≤ length bytes
length_of bytes d e = decoded_length bytes (Some d) (sym e)

-- the bytes before an instruction's last begin one
pub front-begins : (bytes : List ℕ) (d : Decoded) (k : ℕ) → decoded bytes ≡ Some d → k < d.len
    → begins_of (take k bytes) ≡ true
front-begins bytes d k e low =
    let within : d.len ≤ length bytes = length_of bytes d e in
    let more = drop k (take d.len bytes) in
    let size : length more ≡ length (take d.len bytes) - k = length-drop k (take d.len bytes) in
    let all : length (take d.len bytes) ≡ d.len = length-take-le d.len bytes within in
    let spells : Spells (take k bytes ++ more) d =
    rw (take-cut k d.len bytes (omega arith)) (decoded_found bytes d e).spells in
    spelling_begins (take k bytes) more d (omega arith) spells

-- what is spelled is spelled with more bytes behind
pub spelled-more : (bytes tail : List ℕ) (d : Decoded) → decoded bytes ≡ Some d → decoded (bytes ++ tail) ≡ Some d
spelled-more bytes tail d e =
    let one_list = append_assoc (take d.len bytes) (drop d.len bytes) tail in
    let split : take d.len bytes ++ (drop d.len bytes ++ tail) ≡ bytes ++ tail = sym one_list
    ∙ ap (λ (l : List ℕ). l ++ tail) (take-append-drop d.len bytes) in
    rw (← split) (front_lem bytes (drop d.len bytes ++ tail) d e)

-- what is spelled without the bytes behind
pub spelled-less : (bytes tail : List ℕ) (d : Decoded) → decoded (bytes ++ tail) ≡ Some d → d.len ≤ length bytes
    → decoded bytes ≡ Some d
spelled-less bytes tail d e within =
    let front : decoded (take d.len (bytes ++ tail) ++ drop d.len bytes) ≡ Some d =
    front_lem (bytes ++ tail) (drop d.len bytes) d e in
    let same : take d.len (bytes ++ tail) ≡ take d.len bytes = take-append-le d.len bytes tail within in
    let whole : take d.len bytes ++ drop d.len bytes ≡ bytes = take-append-drop d.len bytes in
    rw (← whole, ← same) front

-- ** fields with other numbers

-- the number of a field that is taken from other bytes
abbrev pub picked : Option ℕ → List ℕ → ℕ → ℕ
picked None ys number = number
picked (Some k) ys number = field_of (take 4 (drop k ys))

abbrev pub splice : Option ℕ → List ℕ → List ℕ → List ℕ
splice None xs ys = xs
splice (Some k) xs ys = spliced k 4 xs ys

abbrev pub with_numbers : ℕ → ℕ → Decoded → Decoded
with_numbers number other d = record d { instr = record d.instr { displacement = number; immediate = other } }

pub length-four : (k : ℕ) (xs : List ℕ) → k + 4 ≤ length xs → length (take 4 (drop k xs)) ≡ 4
length-four k xs h = length-take-le 4 (drop k xs) (omega (arith, h, length-drop k xs))

length-before : (k : ℕ) (xs : List ℕ) → k + 4 ≤ length xs → length (take k xs) ≡ k
length-before k xs h = length-take-le k xs (omega arith)

splice-length : (o : Option ℕ) (xs ys : List ℕ) → length (splice o xs ys) ≡ length xs
splice-length None xs ys = refl
splice-length (Some k) xs ys = spliced-length k 4 xs ys

splice-keeps : (o : Option ℕ) (xs ys : List ℕ) (i : ℕ) → slice_get xs i ≡ slice_get ys i
    → slice_get (splice o xs ys) i ≡ slice_get ys i
splice-keeps None xs ys i e = e
splice-keeps (Some k) xs ys i e = spliced-keeps k 4 xs ys i e

pub displaced : (k : ℕ) (xs ys : List ℕ) (d : Decoded) → decoded xs ≡ Some d → d.disp ≡ Some k → k + 4 ≤ length xs
    → k + 4 ≤ length ys
    → (d.instr.displacement ≡ field_of (take 4 (drop k xs)))
    × (decoded (spliced k 4 xs ys) ≡ Some (with_displacement (field_of (take 4 (drop k ys))) d))
displaced k xs ys d e at h g =
    let parts : decoded (take k xs ++ (take 4 (drop k xs) ++ drop 4 (drop k xs))) ≡ Some d = rw (parts-are k 4 xs) e in
    let here : d.disp ≡ Some (length (take k xs)) = rw (length-before k xs h) at in
    let around = displacement_around (take k xs) (take 4 (drop k xs)) (drop 4 (drop k xs)) d
    (length-four k xs h) parts here in
    (around.0, rw (spliced-is k 4 xs ys h g) (around.1 (take 4 (drop k ys)) (length-four k ys g)))

pub immediately : (k : ℕ) (xs ys : List ℕ) (d : Decoded) → decoded xs ≡ Some d → d.imm ≡ Some k → k + 4 ≤ length xs
    → k + 4 ≤ length ys
    → (d.instr.immediate ≡ field_of (take 4 (drop k xs)))
    × (decoded (spliced k 4 xs ys) ≡ Some (with_immediate (field_of (take 4 (drop k ys))) d))
immediately k xs ys d e at h g =
    let parts : decoded (take k xs ++ (take 4 (drop k xs) ++ drop 4 (drop k xs))) ≡ Some d = rw (parts-are k 4 xs) e in
    let here : d.imm ≡ Some (length (take k xs)) = rw (length-before k xs h) at in
    let around = immediate_around (take k xs) (take 4 (drop k xs)) (drop 4 (drop k xs)) d
    (length-four k xs h) parts here in
    (around.0, rw (spliced-is k 4 xs ys h g) (around.1 (take 4 (drop k ys)) (length-four k ys g)))

-- where a field may be that is exchanged
abbrev pub IsIn : Option ℕ → Option ℕ → Type 0
IsIn None at = Unit {0}
IsIn (Some k) at = at ≡ Some k

field_within : (len : ℕ) (o : Option ℕ) (k : ℕ) → IfSome o (HasField len) → o ≡ Some k → (0 < k) × (k + 4 ≤ len)
field_within len None k h e = absurd cc
field_within len (Some j) k h e = let same : j ≡ k = cc in subst (λ (n : ℕ). (0 < n) × (n + 4 ≤ len)) same h

pub field_place : (len : ℕ) (o : Option ℕ) (k : ℕ) → IfSome o (HasField len) → o ≡ Some k → (0 < k) × (k + 4 ≤ len)
field_place = field_within

splice-displaced : (o : Option ℕ) (xs ys : List ℕ) (d : Decoded) → decoded xs ≡ Some d → IsIn o d.disp
    → d.len ≤ length ys
    → decoded (splice o xs ys) ≡ Some (with_displacement (picked o ys d.instr.displacement) d)
splice-displaced None xs ys d e at h = e
splice-displaced (Some k) xs ys d e at h =
    let place = field_within d.len d.disp k (placed_of xs d e).disp at in
    let within : d.len ≤ length xs = length_of xs d e in
    (displaced k xs ys d e at (omega (arith, place.1, within)) (omega (arith, place.1, h))).1

splice-immediately : (o : Option ℕ) (xs ys : List ℕ) (d : Decoded) → decoded xs ≡ Some d → IsIn o d.imm
    → d.len ≤ length ys
    → decoded (splice o xs ys) ≡ Some (with_immediate (picked o ys d.instr.immediate) d)
splice-immediately None xs ys d e at h = e
splice-immediately (Some k) xs ys d e at h =
    let place = field_within d.len d.imm k (placed_of xs d e).imm at in
    let within : d.len ≤ length xs = length_of xs d e in
    (immediately k xs ys d e at (omega (arith, place.1, within)) (omega (arith, place.1, h))).1

splice-takes : (o at : Option ℕ) (len k : ℕ) (xs ys : List ℕ) (i : ℕ) → o ≡ Some k → k ≤ i → i < k + 4
    → k + 4 ≤ length xs → k + 4 ≤ length ys
    → slice_get (splice o xs ys) i ≡ slice_get ys i
splice-takes None at len k xs ys i e low high h g = absurd cc
splice-takes (Some j) at len k xs ys i e low high h g = let same : j ≡ k = cc in
    spliced-takes j 4 xs ys i (omega arith) (omega arith) (omega arith) (omega arith)

in_is : (o at : Option ℕ) (k : ℕ) → IsIn o at → o ≡ Some k → at ≡ Some k
in_is None at k h e = absurd cc
in_is (Some j) at k h e = cc

-- byte i is the same in both lists, or lies in one of the two fields that are exchanged
abbrev pub InField : Option ℕ → ℕ → Type 0
InField o i = (k : ℕ) × ((o ≡ Some k) × (k ≤ i) × (i < k + 4))

abbrev pub Agrees : Option ℕ → Option ℕ → List ℕ → List ℕ → ℕ → Type 0
Agrees o p xs ys i = (slice_get xs i ≡ slice_get ys i) ⊎ (InField o i ⊎ InField p i)

-- the law of exchanged fields
pub exchanged : (o p : Option ℕ) (xs ys : List ℕ) (d : Decoded) → decoded xs ≡ Some d → IsIn o d.disp → IsIn p d.imm
    → d.len ≤ length ys
    → ((i : ℕ) → i < d.len → Agrees o p xs ys i)
    → decoded ys ≡ Some (with_numbers (picked o ys d.instr.displacement) (picked p ys d.instr.immediate) d)
exchanged o p xs ys d e at at' h same =
    let within : d.len ≤ length xs = length_of xs d e in
    let first : decoded (splice o xs ys) ≡ Some (with_displacement (picked o ys d.instr.displacement) d) =
    splice-displaced o xs ys d e at h in
    let second : decoded (splice p (splice o xs ys) ys)
    ≡ Some (with_numbers (picked o ys d.instr.displacement) (picked p ys d.instr.immediate) d) =
    splice-immediately p (splice o xs ys) ys (with_displacement (picked o ys d.instr.displacement) d) first at' h in
    let long : length (splice p (splice o xs ys) ys) ≡ length xs = splice-length p (splice o xs ys) ys
    ∙ splice-length o xs ys in
    let fronts : take d.len (splice p (splice o xs ys) ys) ≡ take d.len ys =
    same-take d.len (splice p (splice o xs ys) ys) ys (omega arith) h (λ i low. agree i low (same i low)) in
    let front : decoded (take d.len (splice p (splice o xs ys) ys) ++ drop d.len ys)
    ≡ Some (with_numbers (picked o ys d.instr.displacement) (picked p ys d.instr.immediate) d) =
    front_lem (splice p (splice o xs ys) ys) (drop d.len ys) _ second in
    let whole : take d.len ys ++ drop d.len ys ≡ ys = take-append-drop d.len ys in
    subst (λ (l : List ℕ). decoded l
    ≡ Some (with_numbers (picked o ys d.instr.displacement) (picked p ys d.instr.immediate) d))
    (ap (λ (l : List ℕ). l ++ drop d.len ys) fronts ∙ whole) front
  where
    placed : IsPlaced d
    placed = placed_of xs d e

    agree : (i : ℕ) → i < d.len → Agrees o p xs ys i → slice_get (splice p (splice o xs ys) ys) i ≡ slice_get ys i
    agree i low (inl here) = splice-keeps p (splice o xs ys) ys i (splice-keeps o xs ys i here)
    agree i low (inr (inl (k, (is, from, to)))) =
        let place = field_within d.len d.disp k placed.disp (in_is o d.disp k at is) in
        let within : d.len ≤ length xs = length_of xs d e in
        splice-keeps p (splice o xs ys) ys i
        (splice-takes o d.disp d.len k xs ys i is from to (omega (arith, place.1)) (omega (arith, place.1)))
    agree i low (inr (inr (k, (is, from, to)))) =
        let place = field_within d.len d.imm k placed.imm (in_is p d.imm k at' is) in
        let within : d.len ≤ length xs = length_of xs d e in
        let long : length (splice o xs ys) ≡ length xs = splice-length o xs ys in
        splice-takes p d.imm d.len k (splice o xs ys) ys i is from to (omega (arith, place.1)) (omega (arith, place.1))
