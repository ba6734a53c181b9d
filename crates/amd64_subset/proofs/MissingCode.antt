-- How many bytes are missing: opcodes.
use Rattle.std.proofs.Common.{◌≡◌, ℕ, ◌+◌, ◌/◌, ◌%◌, ◌≤◌, Bool, true, false, cond, eqb, List, [], ◌∷◌, ◌++◌, length}
use Rattle.std.proofs.Common.{Option, Some, None, Ok, Err, refl, sym, ap, subst, ◌∙◌, arith, inl, inr}
use Rattle.std.specs.Prelude.{not, ◌&&◌, ◌||◌, is_none, is_some}
use Rattle.std.specs.List.{list_all}
use Rattle.std.specs.Option.{option_map}
use Rattle.std.proofs.lemmas.Bool.{eqb-true, and_parts, and_from}
use Rattle.std.proofs.lemmas.List.{length-append}
use Rattle.amd64_subset.specs.declared.fault.Fault.TheVariants.{Short, Wrong}
use Rattle.amd64_subset.specs.declared.prefix.Rex.{Rex}
use Rattle.amd64_subset.specs.declared.prefix.Prefixes.{Prefixes}
use Rattle.amd64_subset.specs.declared.instr.Operation.{Operation}
use Rattle.amd64_subset.specs.declared.instr.Operation.TheVariants as operation
use Rattle.amd64_subset.specs.Meaning.{alone_body}
use Rattle.amd64_words.specs.declared.size.Size.{Size}
use Rattle.amd64_words.specs.declared.size.Size.TheVariants as size
use Rattle.amd64_subset.specs.declared.row.Row.{Row}
use Rattle.amd64_subset.specs.declared.row.Row.TheVariants as row
use Rattle.amd64_subset.specs.declared.row.Group.{Group}
use Rattle.amd64_subset.specs.declared.row.Group.TheVariants as group
use Rattle.amd64_subset.specs.declared.row.Action.{Action}
use Rattle.amd64_subset.specs.declared.row.Action.TheVariants as action
use Rattle.amd64_subset.specs.declared.meaning.Body.{Body}
use Rattle.amd64_subset.specs.Prefix.{bits_of, takes_only_nops, least_opcode, least_escaped}
use Rattle.amd64_subset.specs.Row.{condition_of, row_of, fixed_row_of, escaped_row_of, takes, accesses}
use Rattle.amd64_subset.specs.Selectors.{selectors_at}
use Rattle.amd64_subset.specs.Reading.{Read, ◌>>=◌}
use Rattle.amd64_subset.specs.Decoding.{accepted_at, escaped_at, end_branch_at, row_at, operated_at, body_at}
use Rattle.amd64_subset.specs.Spelling.{named}
use Rattle.amd64_subset.proofs.Steps.{bind_ok, bind_short, kept_if, kept_if_short, ok_is}
use Rattle.amd64_subset.proofs.Parts.{accepted_takes, row_again}
use Rattle.amd64_subset.proofs.Marks.{Possible}
use Rattle.amd64_subset.proofs.Missing.{is_byte, Fills, Cuts, Completes, short_is, least_of, body_least, body_cuts}
use Rattle.amd64_subset.proofs.Missing.{body_completes}

-- an opcode and what stands behind it
abbrev pub coded : Prefixes → List ℕ → Read Body
coded prefixes bytes = row_at prefixes bytes >>= (λ r. body_at prefixes r.0 r.1)

-- ---- a row that was named

abbrev after : Prefixes → Option Row → List ℕ → Read Body
after prefixes o bytes = accepted_at prefixes o bytes >>= (λ r. body_at prefixes r.0 r.1)

after-taken : (prefixes : Prefixes) (o : Option Row) (r : Row) (bytes : List ℕ) → o ≡ Some r → takes r prefixes ≡ true
    → after prefixes o bytes ≡ body_at prefixes r bytes
after-taken prefixes o r bytes same fits = rw (same, fits) refl

after_ok : (prefixes : Prefixes) (o : Option Row) (bytes : List ℕ) (y : Body × List ℕ) → after prefixes o bytes ≡ Ok y
    → (r : Row) × (o ≡ Some r) × (takes r prefixes ≡ true)
after_ok prefixes o bytes y e =
    let read = bind_ok (accepted_at prefixes o bytes) _ y e in
    let t = accepted_takes prefixes o bytes read.0.0 read.0.1 read.1 in
    (read.0.0, t.0, t.1)

accepted_short : (prefixes : Prefixes) (o : Option Row) (bytes : List ℕ) (n : ℕ)
    → accepted_at prefixes o bytes ≡ Err (Short n) → ⊥
accepted_short prefixes None bytes n e = cc
accepted_short prefixes (Some r) bytes n e = let k = kept_if_short (takes r prefixes) _ n e in let no_short = k.1 in cc

after_short : (prefixes : Prefixes) (o : Option Row) (bytes : List ℕ) (n : ℕ) → after prefixes o bytes ≡ Err (Short n)
    → (r : Row) × (o ≡ Some r) × (takes r prefixes ≡ true)
after_short prefixes o bytes n e =
    elim (bind_short (accepted_at prefixes o bytes) _ n e) [
      | inl h ↦ absurd (accepted_short prefixes o bytes n h)
      | inr h ↦ let t = accepted_takes prefixes o bytes h.0.0 h.0.1 h.1 in (h.0.0, t.0, t.1)
    ]

after_cuts : (prefixes : Prefixes) (o : Option Row) (bytes : List ℕ) → Cuts (after prefixes o) bytes
after_cuts prefixes o bytes tail x rest e inside =
    let r = after_ok prefixes o (bytes ++ tail) (x, rest) e in
    let h = body_cuts prefixes r.0 bytes tail x rest
    (sym (after-taken prefixes o r.0 (bytes ++ tail) r.1 r.2) ∙ e) inside in
    record { missing = h.missing; is = after-taken prefixes o r.0 bytes r.1 r.2 ∙ h.is; bound = h.bound }

after_completes : (prefixes : Prefixes) (o : Option Row) (bytes : List ℕ) → Completes (after prefixes o) bytes
after_completes prefixes o bytes n e =
    let r = after_short prefixes o bytes n e in
    let h = body_completes prefixes r.0 bytes n (sym (after-taken prefixes o r.0 bytes r.1 r.2) ∙ e) in
    record {
      tail = h.tail;
      value = h.value;
      tail-length = h.tail-length;
      are_bytes = h.are_bytes;
      read = after-taken prefixes o r.0 (bytes ++ h.tail) r.1 r.2 ∙ h.read;
    }

-- ---- which rows a table has

-- a test whose first outcome is not this one failed
past : {A : Type 0} (b : Bool) (x y z : A) → cond b x y ≡ z → (x ≡ z → ⊥) → y ≡ z
past true x y z e no_first = absurd (no_first e)
past false x y z e no_first = e

wide_other : (wide : Bool) (s : Size)
    → cond wide (Some (row.Register action.ExtendLong)) None ≡ Some (row.Group group.Nop s) → ⊥
wide_other true s e = cc
wide_other false s e = cc

mapped_other : {C : Type 0} (f : C → Row) (o : Option C) (r : Row) → ((c : C) → f c ≡ r → ⊥) → option_map f o ≡ Some r
    → ⊥
mapped_other f None r other e = cc
mapped_other f (Some c) r other e = other c cc

-- the one-byte opcodes have no nop with ModRM
fixed_unpadded : (wide : Bool) (opcode : ℕ) (s : Size) → fixed_row_of wide opcode ≡ Some (row.Group group.Nop s) → ⊥
unfolding fixed_row_of
fixed_unpadded wide opcode s e =
    let e1 = past (eqb opcode 0x88) _ _ _ e (λ h. cc) in
    let e2 = past (eqb opcode 0x89) _ _ _ e1 (λ h. cc) in
    let e3 = past (eqb opcode 0x8b) _ _ _ e2 (λ h. cc) in
    let e4 = past (eqb opcode 0xc7) _ _ _ e3 (λ h. cc) in
    let e5 = past (eqb opcode 0x63) _ _ _ e4 (wide_other wide s) in
    let e6 = past (eqb opcode 0x8d) _ _ _ e5 (λ h. cc) in
    let e7 = past (eqb opcode 0x01) _ _ _ e6 (λ h. cc) in
    let e8 = past (eqb opcode 0x03) _ _ _ e7 (λ h. cc) in
    let e9 = past (eqb opcode 0x09) _ _ _ e8 (λ h. cc) in
    let e10 = past (eqb opcode 0x0b) _ _ _ e9 (λ h. cc) in
    let e11 = past (eqb opcode 0x21) _ _ _ e10 (λ h. cc) in
    let e12 = past (eqb opcode 0x23) _ _ _ e11 (λ h. cc) in
    let e13 = past (eqb opcode 0x29) _ _ _ e12 (λ h. cc) in
    let e14 = past (eqb opcode 0x2b) _ _ _ e13 (λ h. cc) in
    let e15 = past (eqb opcode 0x31) _ _ _ e14 (λ h. cc) in
    let e16 = past (eqb opcode 0x33) _ _ _ e15 (λ h. cc) in
    let e17 = past (eqb opcode 0x39) _ _ _ e16 (λ h. cc) in
    let e18 = past (eqb opcode 0x3b) _ _ _ e17 (λ h. cc) in
    let e19 = past (eqb opcode 0x81) _ _ _ e18 (λ h. cc) in
    let e20 = past (eqb opcode 0x83) _ _ _ e19 (λ h. cc) in
    let e21 = past (eqb opcode 0x05) _ _ _ e20 (λ h. cc) in
    let e22 = past (eqb opcode 0x0d) _ _ _ e21 (λ h. cc) in
    let e23 = past (eqb opcode 0x25) _ _ _ e22 (λ h. cc) in
    let e24 = past (eqb opcode 0x2d) _ _ _ e23 (λ h. cc) in
    let e25 = past (eqb opcode 0x35) _ _ _ e24 (λ h. cc) in
    let e26 = past (eqb opcode 0x3d) _ _ _ e25 (λ h. cc) in
    let e27 = past (eqb opcode 0x85) _ _ _ e26 (λ h. cc) in
    let e28 = past (eqb opcode 0xc1) _ _ _ e27 (λ h. cc) in
    let e29 = past (eqb opcode 0xd1) _ _ _ e28 (λ h. cc) in
    let e30 = past (eqb opcode 0xc9) _ _ _ e29 (λ h. cc) in
    let e31 = past (eqb opcode 0xe8) _ _ _ e30 (λ h. cc) in
    let e32 = past (eqb opcode 0xff) _ _ _ e31 (λ h. cc) in
    let e33 = past (eqb opcode 0xe9) _ _ _ e32 (λ h. cc) in
    let e34 = past (eqb opcode 0xeb) _ _ _ e33 (λ h. cc) in
    let e35 = past (eqb opcode 0xc3) _ _ _ e34 (λ h. cc) in
    let e36 = past (eqb opcode 0x90) _ _ _ e35 (λ h. cc) in
    (let last = e36 in cc)

row_unpadded : (rex : Rex) (opcode : ℕ) (s : Size) → row_of rex opcode ≡ Some (row.Group group.Nop s) → ⊥
unfolding row_of
row_unpadded rex opcode s e =
    let e1 = past (eqb (opcode / 16) 0x4) _ _ _ e (λ h. cc) in
    let e2 = past (eqb (opcode / 8) 0xa) _ _ _ e1 (λ h. cc) in
    let e3 = past (eqb (opcode / 8) 0xb) _ _ _ e2 (λ h. cc) in
    let e4 = past (eqb (opcode / 8) 0x17) _ _ _ e3 (λ h. cc) in
    let e5 = past (eqb (opcode / 16) 0x7) _ _ _ e4
    (mapped_other _ (condition_of (opcode % 16)) (row.Group group.Nop s) (λ c h. cc)) in
    fixed_unpadded rex.wide opcode s e5

-- the opcodes behind 0f have neither nop in one byte nor endbr64
escaped_no_nop : (opcode : ℕ) → escaped_row_of opcode ≡ Some row.Nop → ⊥
unfolding escaped_row_of
escaped_no_nop opcode e =
    let e1 = past (eqb (opcode / 16) 0x8) _ _ _ e (mapped_other _ (condition_of (opcode % 16)) row.Nop (λ c h. cc)) in
    let e2 = past (eqb opcode 0xb6) _ _ _ e1 (λ h. cc) in
    let e3 = past (eqb opcode 0xaf) _ _ _ e2 (λ h. cc) in
    let e4 = past (eqb opcode 0x1f) _ _ _ e3 (λ h. cc) in
    let e5 = past (eqb opcode 0x0b) _ _ _ e4 (λ h. cc) in
    (let last = e5 in cc)

escaped_no_branch : (opcode : ℕ) → escaped_row_of opcode ≡ Some row.EndBranch → ⊥
unfolding escaped_row_of
escaped_no_branch opcode e =
    let e1 = past (eqb (opcode / 16) 0x8) _ _ _ e
    (mapped_other _ (condition_of (opcode % 16)) row.EndBranch (λ c h. cc)) in
    let e2 = past (eqb opcode 0xb6) _ _ _ e1 (λ h. cc) in
    let e3 = past (eqb opcode 0xaf) _ _ _ e2 (λ h. cc) in
    let e4 = past (eqb opcode 0x1f) _ _ _ e3 (λ h. cc) in
    let e5 = past (eqb opcode 0x0b) _ _ _ e4 (λ h. cc) in
    (let last = e5 in cc)

-- ---- how many bytes a row that may follow the prefixes has at least

-- where an opcode has to come, and where REX may no longer come
abbrev pub least_code : Prefixes → ℕ
least_code p = cond (takes_only_nops p && is_some p.rex) 3 (cond p.thread_pointer 2 1)

alone_bound : (t n x : Bool) → ((not t || false) && (not n || false)) ≡ true
    → (cond (n && x) 3 (cond t 2 1) ≤ 1) × (cond (n || t) 2 1 ≤ 1)
alone_bound true n x e = absurd cc
alone_bound false true x e = absurd cc
alone_bound false false x e = (omega arith, omega arith)

operand_bound : (a t n x : Bool) → ((not t || a) && (not n || false)) ≡ true → cond (n && x) 3 (cond t 2 1) ≤ 2
operand_bound true true true x e = absurd cc
operand_bound true true false x e = omega arith
operand_bound true false true x e = absurd cc
operand_bound true false false x e = omega arith
operand_bound false true n x e = absurd cc
operand_bound false false true x e = absurd cc
operand_bound false false false x e = omega arith

nop_bound : (t n : Bool) (x : Option Rex) → (not t && is_none x) ≡ true → cond (n && is_some x) 3 (cond t 2 1) ≤ 1
nop_bound true n x e = absurd cc
nop_bound false n (Some x) e = absurd cc
nop_bound false true None e = omega arith
nop_bound false false None e = omega arith

branch_bound : (t o c n : Bool) (x : Option Rex) → (((not t && not o) && not c) && is_none x) ≡ true
    → cond (n && is_some x) 3 (cond t 2 1) ≤ 1
branch_bound true o c n x e = absurd cc
branch_bound false true c n x e = absurd cc
branch_bound false false true n x e = absurd cc
branch_bound false false false n (Some r) e = absurd cc
branch_bound false false false true None e = omega arith
branch_bound false false false false None e = omega arith

two_at_most : (b : Bool) → cond b 2 1 ≤ 2
two_at_most true = omega arith
two_at_most false = omega arith

one_bound : (r : Row) (opcode : ℕ) (p : Prefixes) → row_of (bits_of p) opcode ≡ Some r → takes r p ≡ true
    → least_code p ≤ 1 + least_of r
unfolding takes
one_bound (row.Alone op) opcode p e fits = (alone_bound p.thread_pointer (takes_only_nops p) (is_some p.rex) fits).0
one_bound row.Nop opcode p e fits = nop_bound p.thread_pointer (takes_only_nops p) p.rex fits
one_bound row.EndBranch opcode p e fits =
    branch_bound p.thread_pointer p.operand_size p.code_segment (takes_only_nops p) p.rex fits
one_bound (row.Number a s) opcode p e fits =
    omega (arith, (alone_bound p.thread_pointer (takes_only_nops p) (is_some p.rex) fits).0)
one_bound (row.Register a) opcode p e fits =
    omega (arith, operand_bound (accesses (row.Register a)) p.thread_pointer (takes_only_nops p) (is_some p.rex) fits)
one_bound (row.Group group.Nop s) opcode p e fits = absurd (row_unpadded (bits_of p) opcode s e)
one_bound (row.Group g s) opcode p e fits =
    omega (arith, operand_bound true p.thread_pointer (takes_only_nops p) (is_some p.rex) fits)

escaped_bound : (r : Row) (opcode : ℕ) (p : Prefixes) → escaped_row_of opcode ≡ Some r → takes r p ≡ true
    → least_escaped p ≤ 1 + least_of r
unfolding takes
escaped_bound (row.Alone op) opcode p e fits = (alone_bound p.thread_pointer (takes_only_nops p) (is_some p.rex) fits).1
escaped_bound row.Nop opcode p e fits = absurd (escaped_no_nop opcode e)
escaped_bound row.EndBranch opcode p e fits = absurd (escaped_no_branch opcode e)
escaped_bound (row.Number a s) opcode p e fits =
    omega (arith, (alone_bound p.thread_pointer (takes_only_nops p) (is_some p.rex) fits).1)
escaped_bound (row.Register a) opcode p e fits = two_at_most (takes_only_nops p || p.thread_pointer)
escaped_bound (row.Group g s) opcode p e fits = omega (arith, two_at_most (takes_only_nops p || p.thread_pointer))

three_at_most : (b t : Bool) → cond b 3 (cond t 2 1) ≤ 3
three_at_most true t = omega arith
three_at_most false true = omega arith
three_at_most false false = omega arith

code_escaped : (t n x : Bool) → cond (n && x) 3 (cond t 2 1) ≤ 1 + cond (n || t) 2 1
code_escaped true true true = omega arith
code_escaped true true false = omega arith
code_escaped true false x = omega arith
code_escaped false true true = omega arith
code_escaped false true false = omega arith
code_escaped false false x = omega arith

-- ---- what follows an opcode's byte 0f

abbrev escaped : Prefixes → List ℕ → Read Body
escaped prefixes bytes = escaped_at prefixes bytes >>= (λ r. body_at prefixes r.0 r.1)

escaped-after : (prefixes : Prefixes) (opcode : ℕ) (bytes : List ℕ)
    → escaped prefixes (opcode ∷ bytes) ≡ after prefixes (escaped_row_of opcode) bytes
unfolding escaped_at
escaped-after prefixes opcode bytes = refl

escaped-end : (prefixes : Prefixes) → escaped prefixes [] ≡ Err (Short (least_escaped prefixes))
unfolding escaped_at
escaped-end prefixes = refl

after_least : (prefixes : Prefixes) (o : Option Row) (bytes : List ℕ) (x : Body) (rest : List ℕ)
    → after prefixes o bytes ≡ Ok (x, rest)
    → (r : Row) × (o ≡ Some r) × (takes r prefixes ≡ true) × (least_of r + length rest ≤ length bytes)
after_least prefixes o bytes x rest e =
    let r = after_ok prefixes o bytes (x, rest) e in
    (r.0, r.1, r.2, body_least prefixes r.0 bytes x rest (sym (after-taken prefixes o r.0 bytes r.1 r.2) ∙ e))

escaped_least : (prefixes : Prefixes) (bytes : List ℕ) (x : Body) (rest : List ℕ)
    → escaped prefixes bytes ≡ Ok (x, rest) → least_escaped prefixes + length rest ≤ length bytes
escaped_least prefixes [] x rest e = absurd (let f = sym (escaped-end prefixes) ∙ e in cc)
escaped_least prefixes (opcode ∷ bytes) x rest e =
    let r = after_least prefixes (escaped_row_of opcode) bytes x rest (sym (escaped-after prefixes opcode bytes) ∙ e) in
    omega (arith, escaped_bound r.0 opcode prefixes r.1 r.2, r.3)

escaped_cuts : (prefixes : Prefixes) (bytes : List ℕ) → Cuts (escaped prefixes) bytes
escaped_cuts prefixes [] tail x rest e inside =
    record { missing = least_escaped prefixes; is = escaped-end prefixes; bound = escaped_least prefixes tail x rest e }
escaped_cuts prefixes (opcode ∷ bytes) tail x rest e inside =
    let h = after_cuts prefixes (escaped_row_of opcode) bytes tail x rest
    (sym (escaped-after prefixes opcode (bytes ++ tail)) ∙ e) inside in
    record { missing = h.missing; is = escaped-after prefixes opcode bytes ∙ h.is; bound = h.bound }

-- ---- endbr64

abbrev branched : Prefixes → List ℕ → Read Body
branched prefixes bytes = end_branch_at prefixes bytes >>= (λ r. body_at prefixes r.0 r.1)

three_bytes : (prefixes : Prefixes) (bytes : List ℕ) (r : Row) (rest : List ℕ)
    → end_branch_at prefixes bytes ≡ Ok (r, rest)
    → (takes row.EndBranch prefixes ≡ true) × (row.EndBranch ≡ r) × (bytes ≡ 0x0f ∷ 0x1e ∷ 0xfa ∷ rest)
unfolding end_branch_at
three_bytes prefixes [] r rest e = absurd (let k = kept_if (takes row.EndBranch prefixes) Wrong _ (r, rest) e in cc)
three_bytes prefixes (a ∷ []) r rest e =
    let k = kept_if (takes row.EndBranch prefixes) Wrong _ (r, rest) e in
    absurd (let l = kept_if (eqb a 0x0f) Wrong _ (r, rest) k.1 in cc)
three_bytes prefixes (a ∷ b ∷ []) r rest e =
    let k = kept_if (takes row.EndBranch prefixes) Wrong _ (r, rest) e in
    let l = kept_if (eqb a 0x0f) Wrong _ (r, rest) k.1 in
    absurd (let m = kept_if (eqb b 0x1e) Wrong _ (r, rest) l.1 in cc)
three_bytes prefixes (a ∷ b ∷ c ∷ bytes) r rest e =
    let k = kept_if (takes row.EndBranch prefixes) Wrong _ (r, rest) e in
    let l = kept_if (eqb a 0x0f) Wrong _ (r, rest) k.1 in
    let m = kept_if (eqb b 0x1e) Wrong _ (r, rest) l.1 in
    let n = kept_if (eqb c 0xfa) Wrong _ (r, rest) m.1 in
    let is = ok_is (row.EndBranch, bytes) (r, rest) n.1 in (
      k.0,
      ap (λ (p : Row × List ℕ). p.0) is,
      rw (eqb-true a 0x0f l.0, eqb-true b 0x1e m.0, eqb-true c 0xfa n.0, ap (λ (p : Row × List ℕ). p.1) is) refl,
    )

branch_rest : (prefixes : Prefixes) (r : Row) (bytes : List ℕ) (x : Body) (rest : List ℕ) → row.EndBranch ≡ r
    → body_at prefixes r bytes ≡ Ok (x, rest) → bytes ≡ rest
unfolding body_at
branch_rest prefixes r bytes x rest same e =
    let f : body_at prefixes row.EndBranch bytes ≡ Ok (x, rest) =
    subst (λ (y : Row). body_at prefixes y bytes ≡ Ok (x, rest)) (sym same) e in
    ap (λ (p : Body × List ℕ). p.1) (ok_is _ (x, rest) f)

branch_body : (prefixes : Prefixes) (r : Row) (bytes : List ℕ) (n : ℕ) → row.EndBranch ≡ r
    → body_at prefixes r bytes ≡ Err (Short n) → ⊥
unfolding body_at
branch_body prefixes r bytes n same e =
    let f : body_at prefixes row.EndBranch bytes ≡ Err (Short n) =
    subst (λ (y : Row). body_at prefixes y bytes ≡ Err (Short n)) (sym same) e in
    cc

-- what endbr64 is behind its first byte
branch_takes : (prefixes : Prefixes) (bytes : List ℕ) (x : Body) (rest : List ℕ)
    → branched prefixes bytes ≡ Ok (x, rest)
    → (takes row.EndBranch prefixes ≡ true) × (bytes ≡ 0x0f ∷ 0x1e ∷ 0xfa ∷ rest)
branch_takes prefixes bytes x rest e =
    let read = bind_ok (end_branch_at prefixes bytes) _ (x, rest) e in
    let t = three_bytes prefixes bytes read.0.0 read.0.1 read.1 in
    (t.0, t.2 ∙ ap (λ (y : List ℕ). 0x0f ∷ 0x1e ∷ 0xfa ∷ y) (branch_rest prefixes read.0.0 read.0.1 x rest t.1 read.2))

branched-end : (prefixes : Prefixes) → takes row.EndBranch prefixes ≡ true
    → (branched prefixes [] ≡ Err (Short 3)) × (branched prefixes (0x0f ∷ []) ≡ Err (Short 2))
    × (branched prefixes (0x0f ∷ 0x1e ∷ []) ≡ Err (Short 1))
    × ((x : Body) × (branched prefixes (0x0f ∷ 0x1e ∷ 0xfa ∷ []) ≡ Ok (x, [])))
unfolding end_branch_at body_at
branched-end prefixes fits =
    (rw (fits) refl, rw (fits) refl, rw (fits) refl, (alone_body (operation.Nop None), rw (fits) refl))

branched_cuts : (prefixes : Prefixes) (bytes : List ℕ) → Cuts (branched prefixes) bytes
branched_cuts prefixes [] tail x rest e inside =
    let t = branch_takes prefixes tail x rest e in
    record { missing = 3; is = (branched-end prefixes t.0).0; bound = omega (arith, ap length t.1) }
branched_cuts prefixes (a ∷ []) tail x rest e inside =
    let t = branch_takes prefixes (a ∷ tail) x rest e in
    let first : a ≡ 0x0f = let same = t.1 in cc in
    record {
      missing = 2;
      is = ap (λ (y : ℕ). branched prefixes (y ∷ [])) first ∙ (branched-end prefixes t.0).1;
      bound = omega (arith, ap length t.1);
    }
branched_cuts prefixes (a ∷ b ∷ []) tail x rest e inside =
    let t = branch_takes prefixes (a ∷ b ∷ tail) x rest e in
    let first : a ≡ 0x0f = let same = t.1 in cc in
    let second : b ≡ 0x1e = let same = t.1 in cc in
    record {
      missing = 1;
      is = ap (λ (y : ℕ). branched prefixes (y ∷ b ∷ [])) first
          ∙ ap (λ (y : ℕ). branched prefixes (0x0f ∷ y ∷ [])) second
          ∙ (branched-end prefixes t.0).2;
      bound = omega (arith, ap length t.1);
    }
branched_cuts prefixes (a ∷ b ∷ c ∷ bytes) tail x rest e inside =
    let t = branch_takes prefixes (a ∷ b ∷ c ∷ (bytes ++ tail)) x rest e in
    absurd (omega (arith, ap length t.1, length-append bytes tail))

filled_branch : (prefixes : Prefixes) (bytes tail : List ℕ) (n : ℕ) → takes row.EndBranch prefixes ≡ true
    → length tail ≡ n → list_all is_byte tail ≡ true
    → bytes ++ tail ≡ 0x0f ∷ 0x1e ∷ 0xfa ∷ [] → Fills (branched prefixes) bytes n
filled_branch prefixes bytes tail n fits len are whole = record {
  tail = tail;
  value = (branched-end prefixes fits).3.0;
  tail-length = len;
  are_bytes = are;
  read = ap (λ (y : List ℕ). branched prefixes y) whole ∙ (branched-end prefixes fits).3.1;
}

branch_completes : (prefixes : Prefixes) (bytes : List ℕ) (n : ℕ) → end_branch_at prefixes bytes ≡ Err (Short n)
    → Fills (branched prefixes) bytes n
unfolding end_branch_at
branch_completes prefixes [] n e =
    let k = kept_if_short (takes row.EndBranch prefixes) _ n e in
    filled_branch prefixes [] (0x0f ∷ 0x1e ∷ 0xfa ∷ []) n k.0 (short_is k.1) refl refl
branch_completes prefixes (a ∷ []) n e =
    let k = kept_if_short (takes row.EndBranch prefixes) _ n e in
    let l = kept_if_short (eqb a 0x0f) _ n k.1 in
    filled_branch prefixes (a ∷ []) (0x1e ∷ 0xfa ∷ []) n k.0 (short_is l.1) refl (rw (eqb-true a 0x0f l.0) refl)
branch_completes prefixes (a ∷ b ∷ []) n e =
    let k = kept_if_short (takes row.EndBranch prefixes) _ n e in
    let l = kept_if_short (eqb a 0x0f) _ n k.1 in
    let m = kept_if_short (eqb b 0x1e) _ n l.1 in
    filled_branch prefixes (a ∷ b ∷ []) (0xfa ∷ []) n k.0 (short_is m.1) refl
    (rw (eqb-true a 0x0f l.0, eqb-true b 0x1e m.0) refl)
branch_completes prefixes (a ∷ b ∷ c ∷ bytes) n e =
    let k = kept_if_short (takes row.EndBranch prefixes) _ n e in
    let l = kept_if_short (eqb a 0x0f) _ n k.1 in
    let m = kept_if_short (eqb b 0x1e) _ n l.1 in
    absurd (let o = kept_if_short (eqb c 0xfa) _ n m.1 in let no_short = o.1 in cc)

branched_completes : (prefixes : Prefixes) (bytes : List ℕ) → Completes (branched prefixes) bytes
branched_completes prefixes bytes n e =
    elim (bind_short (end_branch_at prefixes bytes) _ n e) [
      | inl h ↦ branch_completes prefixes bytes n h
      | inr h ↦ let t = three_bytes prefixes bytes h.0.0 h.0.1 h.1 in
          absurd (branch_body prefixes h.0.0 h.0.1 n t.1 h.2)
    ]

-- ---- an opcode

coded-end : (prefixes : Prefixes) → coded prefixes [] ≡ Err (Short (least_opcode prefixes))
unfolding row_at
coded-end prefixes = refl

-- which of the three ways an opcode goes
coded-ways : (prefixes : Prefixes) (a : ℕ) (bytes : List ℕ)
    → coded prefixes (a ∷ bytes) ≡ cond (eqb a 0x0f) (escaped prefixes bytes)
    (cond (eqb a 0xf3) (branched prefixes bytes) (after prefixes (row_of (bits_of prefixes) a) bytes))
unfolding row_at
coded-ways prefixes a bytes =
    ways (eqb a 0x0f) (eqb a 0xf3) (escaped_at prefixes bytes) (end_branch_at prefixes bytes)
    (accepted_at prefixes (row_of (bits_of prefixes) a) bytes)
  where
    ways : (b c : Bool) (x y z : Read Row)
        → (cond b x (cond c y z) >>= (λ r. body_at prefixes r.0 r.1)) ≡ cond b (x >>= (λ r. body_at prefixes r.0 r.1))
        (cond c (y >>= (λ r. body_at prefixes r.0 r.1)) (z >>= (λ r. body_at prefixes r.0 r.1)))
    ways true c x y z = refl
    ways false true x y z = refl
    ways false false x y z = refl

ways_least : (b c : Bool) (prefixes : Prefixes) (a : ℕ) (bytes : List ℕ) (x : Body) (rest : List ℕ)
    → cond b (escaped prefixes bytes)
    (cond c (branched prefixes bytes) (after prefixes (row_of (bits_of prefixes) a) bytes)) ≡ Ok (x, rest)
    → least_code prefixes + length rest ≤ 1 + length bytes
ways_least true c prefixes a bytes x rest e =
    omega (
      arith,
      escaped_least prefixes bytes x rest e,
      code_escaped prefixes.thread_pointer (takes_only_nops prefixes) (is_some prefixes.rex),
    )
ways_least false true prefixes a bytes x rest e = omega (
  arith,
  ap length (branch_takes prefixes bytes x rest e).1,
  three_at_most
      (takes_only_nops prefixes && is_some prefixes.rex) prefixes.thread_pointer,
)
ways_least false false prefixes a bytes x rest e =
    let r = after_least prefixes (row_of (bits_of prefixes) a) bytes x rest e in
    omega (arith, one_bound r.0 a prefixes r.1 r.2, r.3)

pub coded_least : (prefixes : Prefixes) (bytes : List ℕ) (x : Body) (rest : List ℕ)
    → coded prefixes bytes ≡ Ok (x, rest) → least_code prefixes + length rest ≤ length bytes
coded_least prefixes [] x rest e = absurd (let f = sym (coded-end prefixes) ∙ e in cc)
coded_least prefixes (a ∷ bytes) x rest e =
    omega (arith, ways_least (eqb a 0x0f) (eqb a 0xf3) prefixes a bytes x rest (sym (coded-ways prefixes a bytes) ∙ e))

ways_cuts : (b c : Bool) (prefixes : Prefixes) (a : ℕ) (bytes : List ℕ)
    → Cuts (λ y. cond b (escaped prefixes y)
    (cond c (branched prefixes y) (after prefixes (row_of (bits_of prefixes) a) y))) bytes
ways_cuts true c prefixes a bytes = escaped_cuts prefixes bytes
ways_cuts false true prefixes a bytes = branched_cuts prefixes bytes
ways_cuts false false prefixes a bytes = after_cuts prefixes (row_of (bits_of prefixes) a) bytes

-- a REX prefix stands here
abbrev pub HasRex : Prefixes → Type 0
HasRex prefixes = is_some prefixes.rex ≡ true

least_same : (prefixes : Prefixes) → HasRex prefixes → least_opcode prefixes ≡ least_code prefixes
least_same prefixes has = rw (has) (same (takes_only_nops prefixes) prefixes.thread_pointer)
  where
    same : (n t : Bool) → ◌≡◌ {A = ℕ} (cond n 3 (cond t 2 1)) (cond (n && true) 3 (cond t 2 1))
    same true t = refl
    same false t = refl

pub coded_cuts_end : (prefixes : Prefixes) → HasRex prefixes → Cuts (coded prefixes) []
coded_cuts_end prefixes has tail x rest e inside = record {
  missing = least_opcode prefixes;
  is = coded-end prefixes;
  bound =
      omega (arith, coded_least prefixes tail x rest e, least_same prefixes has);
}

pub coded_cuts : (prefixes : Prefixes) (a : ℕ) (bytes : List ℕ) → Cuts (coded prefixes) (a ∷ bytes)
coded_cuts prefixes a bytes tail x rest e inside =
    let h = ways_cuts (eqb a 0x0f) (eqb a 0xf3) prefixes a bytes tail x rest
    (sym (coded-ways prefixes a (bytes ++ tail)) ∙ e) inside in
    record { missing = h.missing; is = coded-ways prefixes a bytes ∙ h.is; bound = h.bound }

-- ---- what completes an opcode

-- enough bytes behind a row
pub record Enough (prefixes : Prefixes) (r : Row) : Type 0 where
  pub tail : List ℕ
  pub value : Body
  pub tail-length : length tail ≡ least_of r
  pub are_bytes : list_all is_byte tail ≡ true
  pub read : body_at prefixes r tail ≡ Ok (value, [])

alone_enough : (prefixes : Prefixes) (op : Operation) → Enough prefixes (row.Alone op)
unfolding body_at
alone_enough prefixes op =
    record { tail = []; value = alone_body op; tail-length = refl; are_bytes = refl; read = refl }

pub nop_enough : (prefixes : Prefixes) → Enough prefixes row.Nop
unfolding body_at
nop_enough prefixes = record
    { tail = []; value = alone_body (operation.Nop None); tail-length = refl; are_bytes = refl; read = refl }

operand_enough : (prefixes : Prefixes) (r : Row) → body_at prefixes r [] ≡ Err (Short (least_of r)) → Enough prefixes r
operand_enough prefixes r e =
    let h = body_completes prefixes r [] (least_of r) e in
    record { tail = h.tail; value = h.value; tail-length = h.tail-length; are_bytes = h.are_bytes; read = h.read }

pub register_enough : (prefixes : Prefixes) (a : Action) → Enough prefixes (row.Register a)
unfolding body_at operated_at selectors_at
register_enough prefixes a = operand_enough prefixes (row.Register a) refl

group_enough : (prefixes : Prefixes) (g : Group) (s : Size) → Enough prefixes (row.Group g s)
unfolding body_at operated_at selectors_at
group_enough prefixes g s = operand_enough prefixes (row.Group g s) refl

pub all_append : (a b : List ℕ) → list_all is_byte a ≡ true → list_all is_byte b ≡ true
    → list_all is_byte (a ++ b) ≡ true
all_append [] b p q = q
all_append (x ∷ a) b p q = let h = and_parts (is_byte x) (list_all is_byte a) p in
    and_from (is_byte x) (list_all is_byte (a ++ b)) h.0 (all_append a b h.1 q)

-- an opcode of these bytes completes
with_opcode : (prefixes : Prefixes) (r : Row) (opcode : List ℕ) (n : ℕ) → named (bits_of prefixes) opcode ≡ Some r
    → takes r prefixes ≡ true
    → list_all is_byte opcode ≡ true → length opcode + least_of r ≡ n → Enough prefixes r → Fills (coded prefixes) [] n
with_opcode prefixes r opcode n is fits are len h = record {
  tail = opcode ++ h.tail;
  value = h.value;
  tail-length = omega (arith, length-append opcode h.tail, h.tail-length);
  are_bytes = all_append opcode h.tail are h.are_bytes;
  read = rw (row_again prefixes opcode r h.tail is fits) (h.read);
}

nop_fits : (p : Prefixes) (s : Size) → p.thread_pointer ≡ false → takes (row.Group group.Nop s) p ≡ true
unfolding takes
nop_fits p s e = bools p.thread_pointer (takes_only_nops p) e
  where
    bools : (t n : Bool) → t ≡ false → ((not t || false) && (not n || true)) ≡ true
    bools false true e = refl
    bools false false e = refl
    bools true n e = absurd cc

pub register_fits : (p : Prefixes) (a : Action) → accesses (row.Register a) ≡ true → takes_only_nops p ≡ false
    → takes (row.Register a) p ≡ true
unfolding takes
register_fits p a access e = bools p.thread_pointer (accesses (row.Register a)) (takes_only_nops p) access e
  where
    bools : (t a n : Bool) → a ≡ true → n ≡ false → ((not t || a) && (not n || false)) ≡ true
    bools true true false p q = refl
    bools true true true p q = absurd cc
    bools true false n p q = absurd cc
    bools false true false p q = refl
    bools false true true p q = absurd cc
    bools false false n p q = absurd cc

alone_fits : (p : Prefixes) (op : Operation) → p.thread_pointer ≡ false → takes_only_nops p ≡ false
    → takes (row.Alone op) p ≡ true
unfolding takes
alone_fits p op e f = bools p.thread_pointer (takes_only_nops p) e f
  where
    bools : (t n : Bool) → t ≡ false → n ≡ false → ((not t || false) && (not n || false)) ≡ true
    bools false false p q = refl
    bools false true p q = absurd cc
    bools true n p q = absurd cc

-- 0f 1f 00, 8b 00 or c3
pub code_end_completes : (p : Prefixes) → Possible p → Fills (coded p) [] (least_opcode p)
unfolding named row_of fixed_row_of escaped_row_of
code_end_completes p possible = go (takes_only_nops p) p.thread_pointer refl refl possible
  where
    go : (n t : Bool) → takes_only_nops p ≡ n → p.thread_pointer ≡ t → (p.thread_pointer && takes_only_nops p) ≡ false
        → Fills (coded p) [] (cond (takes_only_nops p) 3 (cond p.thread_pointer 2 1))
    go true true e f both = absurd (let g = rw (e, f) at both in cc)
    go true false e f both =
        with_opcode p (row.Group group.Nop size.Zero) (0x0f ∷ 0x1f ∷ []) _ refl (nop_fits p size.Zero f) refl
        (rw (e) refl) (group_enough p group.Nop size.Zero)
    go false true e f both =
        with_opcode p (row.Register action.Load) (0x8b ∷ []) _ refl (register_fits p action.Load refl e) refl
        (rw (e, f) refl) (register_enough p action.Load)
    go false false e f both =
        with_opcode p (row.Alone operation.Return) (0xc3 ∷ []) _ refl (alone_fits p operation.Return f e) refl
        (rw (e, f) refl) (alone_enough p operation.Return)

with_escaped : (p : Prefixes) (r : Row) (opcode n : ℕ) → escaped_row_of opcode ≡ Some r → takes r p ≡ true
    → is_byte opcode ≡ true → 1 + least_of r ≡ n → Enough p r → Fills (escaped p) [] n
with_escaped p r opcode n is fits are len h = record {
  tail = opcode ∷ h.tail;
  value = h.value;
  tail-length = omega (arith, h.tail-length);
  are_bytes = and_from (is_byte opcode) (list_all is_byte h.tail) are h.are_bytes;
  read = escaped-after p opcode h.tail ∙ after-taken p (escaped_row_of opcode) r h.tail is fits ∙ h.read;
}

-- 1f 00, b6 00 or 0b
escaped_end_completes : (p : Prefixes) → Possible p → Fills (escaped p) [] (least_escaped p)
unfolding escaped_row_of
escaped_end_completes p possible = go (takes_only_nops p) p.thread_pointer refl refl possible
  where
    go : (n t : Bool) → takes_only_nops p ≡ n → p.thread_pointer ≡ t → (p.thread_pointer && takes_only_nops p) ≡ false
        → Fills (escaped p) [] (cond (takes_only_nops p || p.thread_pointer) 2 1)
    go true true e f both = absurd (let g = rw (e, f) at both in cc)
    go true false e f both =
        with_escaped p (row.Group group.Nop size.Zero) 0x1f _ refl (nop_fits p size.Zero f) refl (rw (e) refl)
        (group_enough p group.Nop size.Zero)
    go false true e f both =
        with_escaped p (row.Register action.ExtendByte) 0xb6 _ refl (register_fits p action.ExtendByte refl e) refl
        (rw (e, f) refl) (register_enough p action.ExtendByte)
    go false false e f both =
        with_escaped p (row.Alone operation.Undefined) 0x0b _ refl (alone_fits p operation.Undefined f e) refl
        (rw (e, f) refl) (alone_enough p operation.Undefined)

escaped_completes : (p : Prefixes) (bytes : List ℕ) → Possible p → Completes (escaped p) bytes
escaped_completes p [] possible n e =
    let missing : least_escaped p ≡ n = short_is (sym (escaped-end p) ∙ e) in
    subst (λ (m : ℕ). Fills (escaped p) [] m) missing (escaped_end_completes p possible)
escaped_completes p (opcode ∷ bytes) possible n e =
    let h = after_completes p (escaped_row_of opcode) bytes n (sym (escaped-after p opcode bytes) ∙ e) in
    record {
      tail = h.tail;
      value = h.value;
      tail-length = h.tail-length;
      are_bytes = h.are_bytes;
      read = escaped-after p opcode (bytes ++ h.tail) ∙ h.read;
    }

ways_completes : (b c : Bool) (p : Prefixes) (a : ℕ) (bytes : List ℕ) → Possible p
    → Completes (λ y. cond b (escaped p y) (cond c (branched p y) (after p (row_of (bits_of p) a) y))) bytes
ways_completes true c p a bytes possible = escaped_completes p bytes possible
ways_completes false true p a bytes possible = branched_completes p bytes
ways_completes false false p a bytes possible = after_completes p (row_of (bits_of p) a) bytes

pub coded_completes : (p : Prefixes) (bytes : List ℕ) → Possible p → Completes (coded p) bytes
coded_completes p [] possible n e =
    let missing : least_opcode p ≡ n = short_is (sym (coded-end p) ∙ e) in
    subst (λ (m : ℕ). Fills (coded p) [] m) missing (code_end_completes p possible)
coded_completes p (a ∷ bytes) possible n e =
    let h = ways_completes (eqb a 0x0f) (eqb a 0xf3) p a bytes possible n (sym (coded-ways p a bytes) ∙ e) in
    record {
      tail = h.tail;
      value = h.value;
      tail-length = h.tail-length;
      are_bytes = h.are_bytes;
      read = coded-ways p a (bytes ++ h.tail) ∙ h.read;
    }
