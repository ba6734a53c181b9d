-- The opcode and what stands behind it: what is read stands there, and what stands there is read.
use Rattle.std.proofs.Common.{◌≡◌, ℕ, ◌/◌, true, false, eqb, List, [], ◌∷◌, ◌++◌, length, Option, Some, None, Ok, refl}
use Rattle.std.proofs.Common.{sym, ap, subst, ◌∙◌, arith, inl, inr}
use Rattle.std.specs.Prelude.{◌&&◌}
use Rattle.std.proofs.lemmas.Bool.{eqb-true, ne_eqb, and_parts, or_from}
use Rattle.amd64_subset.specs.declared.fault.Fault.TheVariants.{Wrong}
use Rattle.amd64_subset.specs.declared.instr.Operation.TheVariants as operation
use Rattle.amd64_subset.specs.declared.prefix.Rex.{Rex}
use Rattle.amd64_subset.specs.declared.prefix.Prefixes.{Prefixes}
use Rattle.amd64_words.specs.declared.size.Size.TheVariants as size
use Rattle.amd64_subset.specs.declared.numbers.Numbers.{Numbers}
use Rattle.amd64_subset.specs.declared.row.Row.{Row}
use Rattle.amd64_subset.specs.declared.row.Row.TheVariants as row
use Rattle.amd64_subset.specs.declared.meaning.Body.{Body}
use Rattle.amd64_subset.specs.Number.{signed_of}
use Rattle.amd64_subset.specs.Prefix.{bits_of}
use Rattle.amd64_subset.specs.Row.{row_of, fixed_row_of, escaped_row_of, takes}
use Rattle.amd64_subset.specs.Meaning.{width_of, alone_body, numbered_body}
use Rattle.amd64_subset.specs.Reading.{Read, numbers_at}
use Rattle.amd64_subset.specs.Decoding.{accepted_at, escaped_at, end_branch_at, row_at, body_at}
use Rattle.amd64_subset.specs.Spelling.{named, is_mark, HasBody}
use Rattle.amd64_subset.proofs.Steps.{bind_ok, kept_if, chosen, ok_is}
use Rattle.amd64_subset.proofs.Fields.{numbers_takes, numbers_again, operated_takes, operated_again}

-- ---- what stands behind the opcode

empty : (bytes : List ℕ) → length bytes ≡ 0 → bytes ≡ []
empty [] e = refl
empty (b ∷ bytes) e = absurd (omega arith)

alone_takes : (body : Body) (bytes : List ℕ) (x : Body) (rest : List ℕ)
    → ◌≡◌ {A = Read Body} (Ok (x, bytes)) (Ok (body, rest))
    → (front : List ℕ) × (bytes ≡ front ++ rest) × ((front ≡ []) × (body ≡ x))
alone_takes body bytes x rest e =
    let is = ok_is (x, bytes) (body, rest) e in
    ([], ap (λ (p : Body × List ℕ). p.1) is, (refl, ap (λ (p : Body × List ℕ). p.0) (sym is)))

pub body_takes : (prefixes : Prefixes) (r : Row) (bytes : List ℕ) (body : Body) (rest : List ℕ)
    → body_at prefixes r bytes ≡ Ok (body, rest)
    → (front : List ℕ) × (bytes ≡ front ++ rest) × HasBody prefixes r front body
unfolding body_at
body_takes prefixes (row.Alone operation) bytes body rest e = alone_takes body bytes (alone_body operation) rest e
body_takes prefixes row.Nop bytes body rest e = alone_takes body bytes (alone_body (operation.Nop None)) rest e
body_takes prefixes row.EndBranch bytes body rest e = alone_takes body bytes (alone_body (operation.Nop None)) rest e
body_takes prefixes (row.Number action wide) bytes body rest e =
    let read = bind_ok (numbers_at size.Zero wide bytes) _ (body, rest) e in
    let numbers = numbers_takes size.Zero wide bytes read.0.0 read.0.1 read.1 in
    let is = ok_is _ (body, rest) read.2 in
    let none : numbers.first ≡ [] = empty numbers.first numbers.first-length in
    let same : read.0.1 ≡ rest = ap (λ (p : Body × List ℕ). p.1) is in
    let number : read.0.0.immediate ≡ signed_of wide numbers.second = ap (λ (n : Numbers). n.immediate) numbers.is in (
      numbers.second,
      numbers.whole ∙ ap (λ (t : List ℕ). t ++ (numbers.second ++ read.0.1)) none
          ∙ ap (λ (t : List ℕ). numbers.second ++ t) same,
      (
        numbers.second-length,
        ap (λ (p : Body × List ℕ). p.0) (sym is)
            ∙ ap (λ (n : ℕ). numbered_body action (width_of prefixes) wide n) number,
      ),
    )
body_takes prefixes (row.Register action) bytes body rest e =
    operated_takes prefixes (row.Register action) size.Zero bytes body rest e
body_takes prefixes (row.Group group wide) bytes body rest e =
    operated_takes prefixes (row.Group group wide) wide bytes body rest e

alone_again : (front : List ℕ) (body x : Body) (rest : List ℕ) → front ≡ [] → body ≡ x
    → ◌≡◌ {A = Read Body} (Ok (x, front ++ rest)) (Ok (body, rest))
alone_again front body x rest e same = rw (e, same) refl

pub body_again : (prefixes : Prefixes) (r : Row) (front : List ℕ) (body : Body) (rest : List ℕ)
    → HasBody prefixes r front body → body_at prefixes r (front ++ rest) ≡ Ok (body, rest)
unfolding body_at
body_again prefixes (row.Alone operation) front body rest h = alone_again front body (alone_body operation) rest h.0 h.1
body_again prefixes row.Nop front body rest h = alone_again front body (alone_body (operation.Nop None)) rest h.0 h.1
body_again prefixes row.EndBranch front body rest h =
    alone_again front body (alone_body (operation.Nop None)) rest h.0 h.1
body_again prefixes (row.Number action wide) front body rest h =
    rw (numbers_again size.Zero wide [] front rest refl h.0, h.1) refl
body_again prefixes (row.Register action) front body rest h =
    operated_again prefixes (row.Register action) size.Zero front body rest h
body_again prefixes (row.Group group wide) front body rest h =
    operated_again prefixes (row.Group group wide) wide front body rest h

-- ---- the opcode

pub accepted_takes : (prefixes : Prefixes) (o : Option Row) (bytes : List ℕ) (r : Row) (rest : List ℕ)
    → accepted_at prefixes o bytes ≡ Ok (r, rest)
    → (o ≡ Some r) × (takes r prefixes ≡ true) × (bytes ≡ rest)
accepted_takes prefixes None bytes r rest e = absurd cc
accepted_takes prefixes (Some x) bytes r rest e =
    let fits = kept_if (takes x prefixes) Wrong _ (r, rest) e in
    let is = ok_is (x, bytes) (r, rest) fits.1 in
    let same : x ≡ r = ap (λ (p : Row × List ℕ). p.0) is in (
      ap (λ (y : Row). Some y) same,
      subst (λ (y : Row). takes y prefixes ≡ true) same fits.0,
      ap (λ (p : Row × List ℕ). p.1) is,
    )

-- an opcode was read
pub record HasRow (prefixes : Prefixes) (bytes : List ℕ) (r : Row) (rest : List ℕ) : Type 0 where
  pub opcode : List ℕ
  pub whole : bytes ≡ opcode ++ rest
  pub row-is : named (bits_of prefixes) opcode ≡ Some r
  pub takes : takes r prefixes ≡ true

escaped_takes : (prefixes : Prefixes) (bytes : List ℕ) (r : Row) (rest : List ℕ)
    → escaped_at prefixes bytes ≡ Ok (r, rest) → HasRow prefixes (0x0f ∷ bytes) r rest
unfolding escaped_at named
escaped_takes prefixes [] r rest e = absurd cc
escaped_takes prefixes (opcode ∷ bytes) r rest e =
    let x = accepted_takes prefixes (escaped_row_of opcode) bytes r rest e in
    record {
      opcode = 0x0f ∷ opcode ∷ [];
      whole = ap (λ (t : List ℕ). 0x0f ∷ opcode ∷ t) x.2;
      row-is = x.0;
      takes = x.1;
    }

end_branch_takes : (prefixes : Prefixes) (bytes : List ℕ) (r : Row) (rest : List ℕ)
    → end_branch_at prefixes bytes ≡ Ok (r, rest) → HasRow prefixes (0xf3 ∷ bytes) r rest
unfolding end_branch_at named
end_branch_takes prefixes [] r rest e =
    absurd (let k = kept_if (takes row.EndBranch prefixes) Wrong _ (r, rest) e in cc)
end_branch_takes prefixes (a ∷ []) r rest e =
    let k = kept_if (takes row.EndBranch prefixes) Wrong _ (r, rest) e in
    absurd (let l = kept_if (eqb a 0x0f) Wrong _ (r, rest) k.1 in cc)
end_branch_takes prefixes (a ∷ b ∷ []) r rest e =
    let k = kept_if (takes row.EndBranch prefixes) Wrong _ (r, rest) e in
    let l = kept_if (eqb a 0x0f) Wrong _ (r, rest) k.1 in
    absurd (let m = kept_if (eqb b 0x1e) Wrong _ (r, rest) l.1 in cc)
end_branch_takes prefixes (a ∷ b ∷ c ∷ bytes) r rest e =
    let k = kept_if (takes row.EndBranch prefixes) Wrong _ (r, rest) e in
    let l = kept_if (eqb a 0x0f) Wrong _ (r, rest) k.1 in
    let m = kept_if (eqb b 0x1e) Wrong _ (r, rest) l.1 in
    let n = kept_if (eqb c 0xfa) Wrong _ (r, rest) m.1 in
    let is = ok_is (row.EndBranch, bytes) (r, rest) n.1 in
    let same : row.EndBranch ≡ r = ap (λ (p : Row × List ℕ). p.0) is in
    record {
      opcode = 0xf3 ∷ 0x0f ∷ 0x1e ∷ 0xfa ∷ [];
      whole = rw (
        eqb-true a 0x0f l.0,
        eqb-true b 0x1e m.0,
        eqb-true c 0xfa n.0,
        ap (λ (p : Row × List ℕ). p.1) is,
      ) refl;
      row-is = ap (λ (y : Row). Some y) same;
      takes = subst (λ (y : Row). takes y prefixes ≡ true) same k.0;
    }

one_takes : (prefixes : Prefixes) (a : ℕ) (bytes : List ℕ) (r : Row) (rest : List ℕ)
    → accepted_at prefixes (row_of (bits_of prefixes) a) bytes ≡ Ok (r, rest) → HasRow prefixes (a ∷ bytes) r rest
unfolding named
one_takes prefixes a bytes r rest e =
    let x = accepted_takes prefixes (row_of (bits_of prefixes) a) bytes r rest e in
    record { opcode = a ∷ []; whole = ap (λ (t : List ℕ). a ∷ t) x.2; row-is = x.0; takes = x.1 }

pub row_takes : (prefixes : Prefixes) (bytes : List ℕ) (r : Row) (rest : List ℕ) → row_at prefixes bytes ≡ Ok (r, rest)
    → HasRow prefixes bytes r rest
unfolding row_at
row_takes prefixes [] r rest e = absurd cc
row_takes prefixes (a ∷ bytes) r rest e =
    elim (chosen (eqb a 0x0f) _ _ _ e) [
      | inl h ↦ subst (λ (x : ℕ). HasRow prefixes (x ∷ bytes) r rest) (sym (eqb-true a 0x0f h.0))
          (escaped_takes prefixes bytes r rest h.1)
      | inr h ↦ elim (chosen (eqb a 0xf3) _ _ _ h.1) [
        | inl k ↦ subst (λ (x : ℕ). HasRow prefixes (x ∷ bytes) r rest) (sym (eqb-true a 0xf3 k.0))
            (end_branch_takes prefixes bytes r rest k.1)
        | inr k ↦ one_takes prefixes a bytes r rest k.1
      ]
    ]

-- ---- the first byte of an opcode

-- a byte that names a row is no byte that names none
pub differs : (rex : Rex) (a k : ℕ) (r : Row) → row_of rex k ≡ None → row_of rex a ≡ Some r → eqb a k ≡ false
differs rex a k r none some =
    ne_eqb a k (λ same. absurd
    (let e : row_of rex k ≡ Some r = subst (λ (x : ℕ). row_of rex x ≡ Some r) same some in cc))

none_at : (rex : Rex) → (row_of rex 0x0f ≡ None) × (row_of rex 0xf3 ≡ None) × (row_of rex 0x64 ≡ None)
    × (row_of rex 0x66 ≡ None) × (row_of rex 0x2e ≡ None)
unfolding row_of fixed_row_of
none_at rex = (refl, refl, refl, refl, refl)

not_rex : (rex : Rex) (a : ℕ) (r : Row) → row_of rex a ≡ Some r → eqb (a / 16) 4 ≡ false
unfolding row_of
not_rex rex a r e =
    elim (chosen (eqb (a / 16) 4) _ _ _ e) [
      | inl h ↦ absurd (let n = h.1 in cc)
      | inr h ↦ h.0
    ]

pub record IsOpcode (opcode : List ℕ) : Type 0 where
  pub first : ℕ
  pub more : List ℕ
  pub whole : opcode ≡ first ∷ more
  pub no_mark : is_mark first ≡ false
  pub no_rex : eqb (first / 16) 4 ≡ false

-- the bytes of endbr64
end_branch_bytes : (a b c d : ℕ) → ((((eqb a 0xf3) && (eqb b 0x0f)) && (eqb c 0x1e)) && (eqb d 0xfa)) ≡ true
    → (a ≡ 0xf3) × (b ≡ 0x0f) × (c ≡ 0x1e) × (d ≡ 0xfa)
end_branch_bytes a b c d e =
    let p = and_parts _ _ e in
    let q = and_parts _ _ p.0 in
    let r = and_parts _ _ q.0 in
    (eqb-true a 0xf3 r.0, eqb-true b 0x0f r.1, eqb-true c 0x1e q.1, eqb-true d 0xfa p.1)

pub is_opcode : (rex : Rex) (opcode : List ℕ) (r : Row) → named rex opcode ≡ Some r → IsOpcode opcode
unfolding named
is_opcode rex [] r e = absurd cc
is_opcode rex (a ∷ []) r e = record {
  first = a;
  more = [];
  whole = refl;
  no_mark = or_from _ _ (or_from _ _ (differs rex a 0x64 r (none_at rex).2 e) (differs rex a 0x66 r (none_at rex).3 e))
      (differs rex a 0x2e r (none_at rex).4 e);
  no_rex = not_rex rex a r e;
}
is_opcode rex (a ∷ b ∷ []) r e =
    elim (chosen (eqb a 0x0f) _ _ _ e) [
      | inl h ↦ rw (eqb-true a 0x0f h.0)
          (record { first = 0x0f; more = b ∷ []; whole = refl; no_mark = refl; no_rex = refl })
      | inr h ↦ absurd (let n = h.1 in cc)
    ]
is_opcode rex (a ∷ b ∷ c ∷ []) r e = absurd cc
is_opcode rex (a ∷ b ∷ c ∷ d ∷ []) r e =
    elim (chosen ((((eqb a 0xf3) && (eqb b 0x0f)) && (eqb c 0x1e)) && (eqb d 0xfa)) _ _ _ e) [
      | inl h ↦ rw ((end_branch_bytes a b c d h.0).0)
          (record { first = 0xf3; more = b ∷ c ∷ d ∷ []; whole = refl; no_mark = refl; no_rex = refl })
      | inr h ↦ absurd (let n = h.1 in cc)
    ]
is_opcode rex (a ∷ b ∷ c ∷ d ∷ x ∷ more) r e = absurd cc

pub row_again : (prefixes : Prefixes) (opcode : List ℕ) (r : Row) (rest : List ℕ)
    → named (bits_of prefixes) opcode ≡ Some r → takes r prefixes ≡ true
    → row_at prefixes (opcode ++ rest) ≡ Ok (r, rest)
unfolding named row_at escaped_at end_branch_at
row_again prefixes [] r rest e fits = absurd cc
row_again prefixes (a ∷ []) r rest e fits = rw (
  differs (bits_of prefixes) a 0x0f r (none_at (bits_of prefixes)).0 e,
  differs (bits_of prefixes) a 0xf3 r
      (none_at (bits_of prefixes)).1 e,
  e,
  fits,
) refl
row_again prefixes (a ∷ b ∷ []) r rest e fits =
    elim (chosen (eqb a 0x0f) _ _ _ e) [
      | inl h ↦ rw (h.0, h.1, fits) refl
      | inr h ↦ absurd (let n = h.1 in cc)
    ]
row_again prefixes (a ∷ b ∷ c ∷ []) r rest e fits = absurd cc
row_again prefixes (a ∷ b ∷ c ∷ d ∷ []) r rest e fits =
    elim (chosen ((((eqb a 0xf3) && (eqb b 0x0f)) && (eqb c 0x1e)) && (eqb d 0xfa)) _ _ _ e) [
      | inl h ↦
          let is = end_branch_bytes a b c d h.0 in
          let same : row.EndBranch ≡ r = cc in
          let fits' : takes row.EndBranch prefixes ≡ true =
          subst (λ (y : Row). takes y prefixes ≡ true) (sym same) fits in
          rw (is.0, is.1, is.2, is.3, fits', same) refl
      | inr h ↦ absurd (let n = h.1 in cc)
    ]
row_again prefixes (a ∷ b ∷ c ∷ d ∷ x ∷ more) r rest e fits = absurd cc
