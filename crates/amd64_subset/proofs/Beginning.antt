-- Bytes begin a spelling exactly where some are missing and there is room for them.
use Rattle.std.proofs.Common.{◌≡◌, ℕ, ◌+◌, ◌-◌, ◌<◌, ◌≤◌, ◌↔◌, Bool, true, false, cond, ltb, List, [], ◌∷◌, ◌++◌}
use Rattle.std.proofs.Common.{length, take, drop, Option, Some, None, Ok, Err, refl, sym, ap, subst, ◌∙◌}
use Rattle.std.proofs.Common.{append-nil, arith, inl, inr}
use Rattle.std.proofs.lemmas.Bool.{lt-ltb, le-leb, leb-true, cases_lt}
use Rattle.std.proofs.lemmas.List.{length-append, take-append-le, take-append-drop}
use Rattle.std.proofs.Math.Seq.{take-append-add}
use Rattle.amd64_subset.specs.declared.fault.Fault.TheVariants.{Short, Wrong}
use Rattle.amd64_subset.specs.declared.instr.Decoded.{Decoded}
use Rattle.amd64_subset.specs.declared.meaning.Body.{Body}
use Rattle.amd64_subset.specs.Reading.{Read}
use Rattle.amd64_subset.specs.Decoding.{placed, instruction_at, decoded}
use Rattle.amd64_subset.specs.Spelling.{HasParts, Spells}
use Rattle.amd64_subset.specs.Beginning.{has_room, begins_of}
use Rattle.amd64_subset.specs.BeginningLaws.{BeginsSpelling}
use Rattle.amd64_subset.proofs.Whole.{instruction_takes, instruction_again, decoded_found, decoded_again}
use Rattle.amd64_subset.proofs.MissingStart.{instruction_cuts, instruction_completes}

-- what spells with more bytes behind it has room for them
pub spelling_begins : (bytes more : List ℕ) (d : Decoded) → 0 < length more → Spells (bytes ++ more) d
    → begins_of bytes ≡ true
unfolding begins_of
spelling_begins bytes more d some h =
    let read : instruction_at (bytes ++ more) ≡ Ok (h.body, []) = ap instruction_at (sym (append-nil (bytes ++ more)))
    ∙ instruction_again (bytes ++ more) h.body [] h.parts in
    let lacks = instruction_cuts bytes more h.body [] read some in
    let short : length bytes < 15 = omega (arith, h.short, length-append bytes more) in
    rw (lt-ltb (length bytes) 15 short, lacks.is)
    (le-leb _ _ (omega (arith, h.short, length-append bytes more, lacks.bound)))

room_left : (bytes : List ℕ) (r : Read Body) → instruction_at bytes ≡ r → has_room (length bytes) r ≡ true
    → (n : ℕ) × (instruction_at bytes ≡ Err (Short n)) × (length bytes + n ≤ 15)
room_left bytes (Err (Short n)) is e = (n, is, leb-true _ _ e)
room_left bytes (Err Wrong) is e = absurd cc
room_left bytes (Ok read) is e = absurd cc

short_room : (b : Bool) (x : Bool) → cond b x false ≡ true → x ≡ true
short_room true x e = e
short_room false x e = absurd cc

some_missing : (bytes tail : List ℕ) (x : Body) (n : ℕ) → instruction_at bytes ≡ Err (Short n)
    → instruction_at (bytes ++ tail) ≡ Ok (x, []) → 0 < length tail
some_missing bytes [] x n short whole =
    absurd (let e : instruction_at bytes ≡ Ok (x, []) = ap instruction_at (sym (append-nil bytes)) ∙ whole in cc)
some_missing bytes (b ∷ tail) x n short whole = omega arith

pub begins_spelling : (bytes : List ℕ) → begins_of bytes ≡ true → BeginsSpelling bytes
unfolding begins_of
begins_spelling bytes e =
    let room = room_left bytes (instruction_at bytes) refl (short_room (ltb (length bytes) 15) _ e) in
    let fills = instruction_completes bytes room.0 room.1 in
    let whole = bytes ++ fills.tail in
    let taken = instruction_takes whole fills.value [] fills.read in
    let same : taken.0 ≡ whole = sym (append-nil taken.0) ∙ sym taken.1 in
    record {
      more = fills.tail;
      decoded = placed (length whole) fills.value;
      some = some_missing bytes fills.tail fills.value room.0 room.1 fills.read;
      are_bytes = fills.are_bytes;
      spells = record {
        body = fills.value;
        short = omega (arith, length-append bytes fills.tail, fills.tail-length, room.2);
        parts = subst (λ (x : List ℕ). HasParts x fills.value) same taken.2;
        decoded-is = refl;
      };
    }

pub begins_exactly : (bytes : List ℕ) → (begins_of bytes ≡ true) ↔ BeginsSpelling bytes
begins_exactly bytes = (begins_spelling bytes, λ h. spelling_begins bytes h.more h.decoded h.some h.spells)

-- what neither is nor begins a spelling is none, whatever follows
pub none_lem : (bytes tail : List ℕ) → decoded bytes ≡ None → begins_of bytes ≡ false → decoded (bytes ++ tail) ≡ None
none_lem bytes tail none no_more = go (decoded (bytes ++ tail)) refl
  where
    go : (o : Option Decoded) → decoded (bytes ++ tail) ≡ o → decoded (bytes ++ tail) ≡ None
    go None e = e
    go (Some d) e = absurd (
        let found = decoded_found (bytes ++ tail) d e in
        elim (cases_lt (length bytes) d.len) [
          | inl longer ↦
              let k : ℕ = d.len - length bytes in
              let n : d.len ≡ length bytes + k = omega arith in
              let front : take d.len (bytes ++ tail) ≡ bytes ++ take k tail = ap (λ (m : ℕ). take m (bytes ++ tail)) n
              ∙ take-append-add bytes tail k in
              let spells : Spells (bytes ++ take k tail) d = subst (λ (x : List ℕ). Spells x d) front found.spells in
              let some : 0 < length (take k tail) =
              omega (arith, ap length front, length-append bytes (take k tail), found.len-length) in
              let begins = spelling_begins bytes (take k tail) d some spells in
              cc
          | inr within ↦
              let front : take d.len (bytes ++ tail) ≡ take d.len bytes = take-append-le d.len bytes tail within in
              let spells : Spells (take d.len bytes) d = subst (λ (x : List ℕ). Spells x d) front found.spells in
              let read : decoded bytes ≡ Some d = ap decoded (sym (take-append-drop d.len bytes))
              ∙ decoded_again (take d.len bytes) d (drop d.len bytes) spells in
              cc
        ])
