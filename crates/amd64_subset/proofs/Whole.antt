-- A whole instruction: what is read is spelled so, and what is spelled so is read.
use Rattle.std.proofs.Common.{◌≡◌, ℕ, ◌+◌, ◌-◌, ◌≤◌, Bool, true, false, List, ◌++◌, length, take, drop, Option, Some}
use Rattle.std.proofs.Common.{Ok, Err, refl, sym, ap, subst, ◌∙◌, append_assoc, arith}
use Rattle.std.specs.Prelude.{not, ◌&&◌, ◌||◌}
use Rattle.std.specs.Option.{option_to_list}
use Rattle.std.proofs.Math.Seq.{take-append-add}
use Rattle.std.proofs.lemmas.List.{take_at, take-append-drop, length-append, length-take}
use Rattle.amd64_subset.specs.declared.instr.Decoded.{Decoded}
use Rattle.amd64_subset.specs.declared.prefix.Rex.{Rex}
use Rattle.amd64_subset.specs.declared.prefix.Prefixes.{Prefixes}
use Rattle.amd64_subset.specs.declared.row.Row.{Row}
use Rattle.amd64_subset.specs.declared.row.Row.TheVariants as row
use Rattle.amd64_subset.specs.declared.row.Group.TheVariants as group
use Rattle.amd64_subset.specs.declared.meaning.Body.{Body}
use Rattle.amd64_subset.specs.Prefix.{bits_of, takes_only_nops, prefixes_at}
use Rattle.amd64_subset.specs.Row.{takes, accesses}
use Rattle.amd64_subset.specs.Reading.{Read}
use Rattle.amd64_subset.specs.Decoding.{row_at, instruction_at, placed, finished, decoded}
use Rattle.amd64_subset.specs.Spelling.{prefixes_of, named, HasBody, HasParts, Spells}
use Rattle.amd64_subset.proofs.Steps.{bind_ok}
use Rattle.amd64_subset.proofs.Parts.{body_takes, body_again, row_takes, row_again, IsOpcode, is_opcode}
use Rattle.amd64_subset.proofs.Marks.{Begins, begins, Possible, prefixes_takes, prefixes_again}

regroup : (m x o f rest bytes a b : List ℕ) → bytes ≡ m ++ (x ++ a) → a ≡ o ++ b → b ≡ f ++ rest
    → bytes ≡ (m ++ (x ++ (o ++ f))) ++ rest
regroup m x o f rest bytes a b whole next last = rw (whole, next, last) (simp append_assoc)

pub instruction_takes : (bytes : List ℕ) (body : Body) (rest : List ℕ) → instruction_at bytes ≡ Ok (body, rest)
    → (front : List ℕ) × (bytes ≡ front ++ rest) × HasParts front body
unfolding instruction_at
instruction_takes bytes body rest e =
    let one = bind_ok (prefixes_at bytes) _ (body, rest) e in
    let two = bind_ok (row_at one.0.0 one.0.1) _ (body, rest) one.2 in
    let p = prefixes_takes bytes one.0.0 one.0.1 one.1 in
    let r = row_takes one.0.0 one.0.1 two.0.0 two.0.1 two.1 in
    let b = body_takes one.0.0 two.0.0 two.0.1 body rest two.2 in
    let front = p.marks ++ (option_to_list p.rex ++ (r.opcode ++ b.0)) in (
      front,
      regroup p.marks (option_to_list p.rex) r.opcode b.0 rest bytes one.0.1 two.0.1 p.whole r.whole b.1,
      record {
        marks = p.marks;
        rex = p.rex;
        opcode = r.opcode;
        row = two.0.0;
        rest = b.0;
        whole = refl;
        are_marks = p.are_marks;
        is_rex = p.is_rex;
        row-is = subst (λ (q : Prefixes). named (bits_of q) r.opcode ≡ Some two.0.0) p.is r.row-is;
        takes = subst (λ (q : Prefixes). takes two.0.0 q ≡ true) p.is r.takes;
        has_body = subst (λ (q : Prefixes). HasBody q two.0.0 b.0 body) p.is b.2;
      },
    )

clear : (a b : Bool) → (a && (not b || false)) ≡ true → b ≡ false
clear true true e = absurd cc
clear true false e = refl
clear false b e = absurd cc

-- what a row takes leaves something possible
pub possible : (r : Row) (t o c : Bool) (x : Option Rex)
    → takes r (record { thread_pointer = t; operand_size = o; code_segment = c; rex = x }) ≡ true
    → Possible (record { thread_pointer = t; operand_size = o; code_segment = c; rex = x })
unfolding takes
possible r false o c x e = refl
possible row.EndBranch true o c x e = absurd cc
possible row.Nop true o c x e = absurd cc
possible (row.Alone op) true o c x e = absurd cc
possible (row.Number action size) true o c x e = absurd cc
possible (row.Register action) true o c x e =
    clear (accesses (row.Register action))
    (takes_only_nops (record { thread_pointer = true; operand_size = o; code_segment = c; rex = x })) e
possible (row.Group group.Nop size) true o c x e = absurd cc
possible (row.Group group size) true o c x e =
    clear true (takes_only_nops (record { thread_pointer = true; operand_size = o; code_segment = c; rex = x })) e

opcode_begins : (opcode rest : List ℕ) → IsOpcode opcode → Begins (opcode ++ rest)
opcode_begins opcode rest is = rw (is.whole) (begins is.first (is.more ++ rest) is.no_mark is.no_rex)

pub instruction_again : (front : List ℕ) (body : Body) (rest : List ℕ) → HasParts front body
    → instruction_at (front ++ rest) ≡ Ok (body, rest)
unfolding instruction_at
instruction_again front body rest h =
    let p = prefixes_of h.marks h.rex in
    let regrouped : front ++ rest ≡ h.marks ++ (option_to_list h.rex ++ (h.opcode ++ (h.rest ++ rest))) =
    ap (λ (t : List ℕ). t ++ rest) h.whole ∙ simp append_assoc in
    let begin : Begins (h.opcode ++ (h.rest ++ rest)) =
    opcode_begins h.opcode (h.rest ++ rest) (is_opcode (bits_of p) h.opcode h.row h.row-is) in
    let fits : Possible p = possible h.row p.thread_pointer p.operand_size p.code_segment p.rex h.takes in
    rw (
      regrouped,
      prefixes_again h.marks h.rex (h.opcode ++ (h.rest ++ rest)) h.are_marks h.is_rex begin fits,
      row_again p h.opcode h.row
          (h.rest ++ rest) h.row-is h.takes,
      body_again p h.row h.rest body rest h.has_body,
    ) refl

-- ---- decode

front_of : (bytes front rest : List ℕ) → take 15 bytes ≡ front ++ rest → take (length front) bytes ≡ front
front_of bytes front rest e =
    let whole : bytes ≡ front ++ (rest ++ drop 15 bytes) = sym (take-append-drop 15 bytes)
    ∙ ap (λ (t : List ℕ). t ++ drop 15 bytes) e ∙ append_assoc front rest (drop 15 bytes) in
    ap (λ (t : List ℕ). take (length front) t) whole ∙ take_at front (rest ++ drop 15 bytes) (length front) refl

-- what was read is spelled by the bytes that it takes
pub record Found (bytes : List ℕ) (d : Decoded) : Type 0 where
  pub spells : Spells (take d.len bytes) d
  pub len-length : length (take d.len bytes) ≡ d.len

found_front : (bytes : List ℕ) (d : Decoded) (body : Body) (front rest : List ℕ) → take 15 bytes ≡ front ++ rest
    → HasParts front body
    → placed (length (take 15 bytes) - length rest) body ≡ d → Found bytes d
found_front bytes d body front rest whole parts is =
    let size : length (take 15 bytes) - length rest ≡ length front =
    rw (whole) (omega (arith, length-append front rest)) in
    let d-is : d ≡ placed (length front) body = sym is ∙ ap (λ (n : ℕ). placed n body) size in
    let same : take (length front) bytes ≡ front = front_of bytes front rest whole in
    let short : length front ≤ 15 = omega (arith, length-take 15 bytes, ap length whole, length-append front rest) in
    rw (d-is) (record {
      spells = rw (same) (record { body = body; short = short; parts = parts; decoded-is = refl });
      len-length = ap length same;
    })

pub decoded_found : (bytes : List ℕ) (d : Decoded) → decoded bytes ≡ Some d → Found bytes d
unfolding decoded
decoded_found bytes d e = read_found bytes d (instruction_at (take 15 bytes)) refl e
  where
    read_found : (bytes : List ℕ) (d : Decoded) (r : Read Body) → instruction_at (take 15 bytes) ≡ r
        → finished (length (take 15 bytes)) r ≡ Some d → Found bytes d
    read_found bytes d (Err fault) read e = absurd cc
    read_found bytes d (Ok (body, rest)) read e =
        let p = instruction_takes (take 15 bytes) body rest read in
        let is : placed (length (take 15 bytes) - length rest) body ≡ d = cc in
        found_front bytes d body p.0 rest p.1 p.2 is

-- what spells is read, whatever follows
pub decoded_again : (front : List ℕ) (d : Decoded) (tail : List ℕ) → Spells front d → decoded (front ++ tail) ≡ Some d
unfolding decoded
decoded_again front d tail h =
    let k : ℕ = 15 - length front in
    let n : 15 ≡ length front + k = omega (arith, h.short) in
    let whole : take 15 (front ++ tail) ≡ front ++ take k tail = ap (λ (m : ℕ). take m (front ++ tail)) n
    ∙ take-append-add front tail k in
    let len : length (front ++ take k tail) - length (take k tail) ≡ length front =
    omega (arith, length-append front (take k tail)) in
    rw (whole, instruction_again front h.body (take k tail) h.parts, len, h.decoded-is) refl
