-- What the machine reads where the meaning reads an instruction with fields in it: the same, with its own numbers in
-- them.
use Rattle.std.proofs.Common.{◌≡◌, ℕ, zero, suc, ◌+◌, ◌-◌, ◌<◌, ◌≤◌, ◌⊎◌, inl, inr, Bool, true, false, ◌&&◌, List, ◌++◌}
use Rattle.std.proofs.Common.{length, take, drop, Option, Some, None, refl, sym, ap, subst, ◌∙◌, append_assoc, arith}
use Rattle.std.specs.Prelude.{if◌then◌else◌, nat_le, replicate, ℤ, IfSome}
use Rattle.std.specs.List.{slice_get}
use Rattle.std.specs.Option.{option_or}
use Rattle.std.proofs.lemmas.Bool.{and_parts, or_cases, leb-true, cases_lt}
use Rattle.std.proofs.lemmas.List.{length-append, take-append-drop}
use Rattle.std.proofs.Math.Seq.{take-length}
use Rattle.amd64_subset.specs.declared.instr.Decoded.{Decoded}
use Rattle.amd64_subset.specs.Beginning.{begins_of}
use Rattle.amd64_subset.specs.Decoding.{decoded}
use Rattle.amd64_subset.specs.Spelling.{IsPlaced}
use Rattle.amd64_subset.proofs.Beginning.{none_lem}
use Rattle.guest_arithmetic.specs.declared.cause.Cause.{Cause}
use Rattle.guest_arithmetic.specs.declared.cause.Cause.TheVariants as cause
use Rattle.guest_arithmetic.specs.Values.{Operations}
use Rattle.guest_operands.specs.declared.state.State.{State}
use Rattle.guest_machine.specs.Use.{plus}
use Rattle.job_meaning.specs.Reading.{completed, is_at, place_at}
use Rattle.job_meaning.proofs.Lists.{same-take, get-tails, get-front, first_false}
use Rattle.job_meaning.proofs.Reading.{placed_of, length_of, field_place, front-begins, spelled-more, spelled-less}
use Rattle.job_meaning.proofs.Reading.{picked, with_numbers, Agrees, exchanged}
use Rattle.whole_meaning.specs.declared.marks.Mark.{Mark}
use Rattle.whole_meaning.specs.declared.marks.Mark.TheVariants.{Usual, Offset, Address, Inside}
use Rattle.whole_meaning.specs.Fields.{adds_to_base, has_address, is_minus, memory_in, read_in, reads_next}
use Rattle.whole_meaning.specs.Fields.{starts_offset, takes_address, takes_offset}
use Rattle.whole_meaning.specs.Reading.{first_hindrance, hindered, hindrance_of}
use Rattle.marked_code.proofs.Fields.{AreFields, Covered, InFields, IsSmall, field_in, field_in-at, field_in-is}
use Rattle.marked_code.proofs.Fields.{place-behind, starts_field}

abbrev zeros : List ℕ
zeros = replicate 15 0

taken-if : (b : Bool) → ◌≡◌ {A = Option Cause} (if b then None else Some cause.Field) None → b ≡ true
taken-if true e = refl
taken-if false e = absurd cc

or-none : (a b : Option Cause) → option_or a b ≡ None → (a ≡ None) × (b ≡ None)
or-none None b e = (refl, e)
or-none (Some why) b e = absurd cc

if-begins : (b : Bool) (o : Option Cause) → ◌≡◌ {A = Option Cause} (if b then o else None) None → b ≡ true → o ≡ None
if-begins true o e f = e
if-begins false o e f = absurd cc

module _ {W F B : Type 0} (ops : Operations W F B) (mark : ℕ → Mark) (state : State W F) where
  -- ** what stands in the way

  pub each-none : (bytes : List ℕ) (k more i j : ℕ) → first_hindrance ops mark state bytes k more ≡ None → i ≡ k + j
      → j ≤ more → hindered ops mark state bytes i ≡ None
  each-none bytes k zero i zero e is low = let same : k ≡ i = omega arith in
      subst (λ (n : ℕ). hindered ops mark state bytes n ≡ None) same e
  each-none bytes k zero i (suc j) e is low = absurd (omega arith)
  each-none bytes k (suc more) i zero e is low =
      let same : k ≡ i = omega arith in
      subst (λ (n : ℕ). hindered ops mark state bytes n ≡ None) same
      (or-none (hindered ops mark state bytes k) (first_hindrance ops mark state bytes (k + 1) more) e).0
  each-none bytes k (suc more) i (suc j) e is low =
      each-none bytes (k + 1) more i j
      (or-none (hindered ops mark state bytes k) (first_hindrance ops mark state bytes (k + 1) more) e).1 (omega arith)
      (omega arith)

  covered_offset : (fields : AreFields mark state.place) (d : Decoded) → IsPlaced d → (k number byte : ℕ) → k < 15
      → byte < 4 → byte ≤ k
      → mark (place_at state.place k) ≡ Offset number byte → takes_offset ops mark state (k - byte) d ≡ true
      → InFields mark state.place d k
  covered_offset fields d placed k number byte within small low is takes =
      let first : mark (place_at state.place (k - byte)) ≡ Offset number 0 =
      fields.offset k number byte within is low in
      (elim (or_cases (is_at d.disp (k - byte) && has_address ops mark state d (memory_in d.instr.operation))
      (is_at d.imm (k - byte) && adds_to_base ops mark state d (k - byte) d.instr.operation) takes)
      as (λ c. InFields mark state.place d k) [
        | inl disp ↦ inl (
          k - byte,
          (
            field_in-at mark state.place starts_field d.disp d.len (k - byte) placed.disp
                (and_parts (is_at d.disp (k - byte))
                (has_address ops mark state d (memory_in d.instr.operation)) disp).0
                (rw first refl),
            omega arith,
            omega arith,
          ),
        )
        | inr imm ↦ inr (
          k - byte,
          (
            field_in-at mark state.place starts_offset d.imm d.len (k - byte) placed.imm
                (and_parts (is_at d.imm (k - byte)) (adds_to_base ops mark state d (k - byte) d.instr.operation) imm).0
                (rw first refl),
            omega arith,
            omega arith,
          ),
        )
      ])

  covered_address : (fields : AreFields mark state.place) (d : Decoded) → IsPlaced d → (k number byte : ℕ) (addend : ℤ)
      → k < 15 → byte < 4 → byte ≤ k
      → mark (place_at state.place k) ≡ Address number addend byte
      → takes_address ops mark state addend (k - byte) d ≡ true → InFields mark state.place d k
  covered_address fields d placed k number byte addend within small low is takes =
      let first : mark (place_at state.place (k - byte)) ≡ Address number addend 0 =
      fields.address k number byte addend within is low in
      let p = and_parts (is_at d.disp (k - byte) && reads_next (read_in d.instr.operation))
      (is_minus addend (d.len - (k - byte))) takes in
      let q = and_parts (is_at d.disp (k - byte)) (reads_next (read_in d.instr.operation)) p.0 in
      inl (
        k - byte,
        (
          field_in-at mark state.place starts_field d.disp d.len (k - byte) placed.disp q.0 (rw first refl),
          omega arith,
          omega arith,
        ),
      )

  unhindered : (fields : AreFields mark state.place) (it : Option Decoded) → IfSome it IsPlaced → (k : ℕ) (μ : Mark)
      → k < 15 → mark (place_at state.place k) ≡ μ → IsSmall μ
      → hindrance_of ops mark state it k μ ≡ None → (μ ≡ Usual) ⊎ Covered mark state.place it k
  unhindered fields it placed k Usual within is small e = inl refl
  unhindered fields it placed k Inside within is small e = absurd cc
  unhindered fields None placed k (Offset number byte) within is small e = absurd cc
  unhindered fields None placed k (Address number addend byte) within is small e = absurd cc
  unhindered fields (Some d) placed k (Offset number byte) within is small e =
      let p = and_parts (nat_le byte k) (takes_offset ops mark state (k - byte) d) (taken-if _ e) in
      inr (record {
        instruction = d;
        is = refl;
        covers-it =
            covered_offset fields d placed k number byte within small (leb-true byte k p.0) is p.1;
      })
  unhindered fields (Some d) placed k (Address number addend byte) within is small e =
      let p = and_parts (nat_le byte k) (takes_address ops mark state addend (k - byte) d) (taken-if _ e) in
      inr (record {
        instruction = d;
        is = refl;
        covers-it =
            covered_address fields d placed k number byte addend within small (leb-true byte k p.0) is p.1;
      })

  -- ** two lists of code

  module _ (fields : AreFields mark state.place) (bytes bytes' : List ℕ) (few : length bytes ≤ 15)
      (usual : (k : ℕ) → k < length bytes → mark (place_at state.place k) ≡ Usual
      → slice_get bytes k ≡ slice_get bytes' k)
      (equal : length bytes ≡ length bytes')
      (free : (k : ℕ) → k ≤ length bytes → hindered ops mark state bytes k ≡ None) where
    placed-if : (o : Option Decoded) → completed bytes ≡ o → IfSome o IsPlaced
    unfolding completed
    placed-if None e = tt
    placed-if (Some d) e = placed_of (bytes ++ zeros) d e

    at_begun : (k : ℕ) → k < length bytes → begins_of (take k bytes) ≡ true
        → (mark (place_at state.place k) ≡ Usual) ⊎ Covered mark state.place (completed bytes) k
    at_begun k low begun =
        unhindered fields (completed bytes) (placed-if (completed bytes) refl) k (mark (place_at state.place k))
        (omega arith) refl (fields.small k (omega arith))
        (if-begins (begins_of (take k bytes))
        (hindrance_of ops mark state (completed bytes) k (mark (place_at state.place k))) (free k (omega arith)) begun)

    in_fields : (o : Option Decoded) (d : Decoded) (k : ℕ) → o ≡ Some d → Covered mark state.place o k
        → InFields mark state.place d k
    in_fields o d k e h =
        let same : h.instruction ≡ d = both_are o h.instruction d h.is e in
        subst (λ (x : Decoded). InFields mark state.place x k) same h.covers-it
      where
        both_are : (o : Option Decoded) (a b : Decoded) → o ≡ Some a → o ≡ Some b → a ≡ b
        both_are o a b e f = cc

    abbrev refilled : List ℕ → Decoded → Decoded
    refilled ys d = with_numbers (picked (field_in mark state.place starts_field d.disp) ys d.instr.displacement)
        (picked (field_in mark state.place starts_offset d.imm) ys d.instr.immediate) d

    abbrev Agree : Decoded → List ℕ → List ℕ → ℕ → Type 0
    Agree d xs ys i = Agrees (field_in mark state.place starts_field d.disp)
        (field_in mark state.place starts_offset d.imm) xs ys i

    -- what the meaning reads the machine reads, with its own numbers in the fields
    pub reads : (d : Decoded) → decoded bytes ≡ Some d → decoded bytes' ≡ Some (refilled bytes' d)
    unfolding completed
    reads d e =
        let within : d.len ≤ length bytes = length_of bytes d e in
        let more : completed bytes ≡ Some d = spelled-more bytes zeros d e in
        exchanged (field_in mark state.place starts_field d.disp)
        (field_in mark state.place starts_offset d.imm) bytes bytes' d e
        (field_in-is mark state.place starts_field d.disp) (field_in-is mark state.place starts_offset d.imm)
        (omega arith)
        (λ i low. agrees i (omega arith) d more (at_begun i (omega arith) (front-begins bytes d i e low)))
      where
        agrees : (i : ℕ) → i < length bytes → (d : Decoded) → completed bytes ≡ Some d
            → (mark (place_at state.place i) ≡ Usual) ⊎ Covered mark state.place (completed bytes) i
            → Agree d bytes bytes' i
        agrees i low d more (inl same) = inl (usual i low same)
        agrees i low d more (inr covered) = inr (in_fields (completed bytes) d i more covered)

    not_covered : (k : ℕ) → completed bytes ≡ None
        → (mark (place_at state.place k) ≡ Usual) ⊎ Covered mark state.place (completed bytes) k
        → mark (place_at state.place k) ≡ Usual
    not_covered k none (inl same) = same
    not_covered k none (inr covered) = let is : completed bytes ≡ Some covered.instruction = covered.is in absurd cc

    -- ruled out by usual bytes
    ruled_out : (k : ℕ) → k ≤ length bytes → decoded bytes ≡ None → begins_of (take k bytes) ≡ false
        → ((j : ℕ) → j < k → begins_of (take j bytes) ≡ true) → decoded bytes' ≡ None
    unfolding completed
    ruled_out k low none fails before =
        let front : decoded (take k bytes) ≡ None = no_front (decoded (take k bytes)) refl in
        let cut : take k bytes ++ (drop k bytes ++ zeros) ≡ bytes ++ zeros =
        sym (append_assoc (take k bytes) (drop k bytes) zeros)
        ∙ ap (λ (l : List ℕ). l ++ zeros) (take-append-drop k bytes) in
        let never : completed bytes ≡ None =
        subst (λ (l : List ℕ). decoded l ≡ None) cut (none_lem (take k bytes) (drop k bytes ++ zeros) front fails) in
        let same : take k bytes ≡ take k bytes' = same-take k bytes bytes' low (omega arith)
        (λ i i-low. usual i (omega arith) (not_covered i never (at_begun i (omega arith) (before i i-low)))) in
        let other : decoded (take k bytes ++ drop k bytes') ≡ None =
        none_lem (take k bytes) (drop k bytes') front fails in
        subst (λ (l : List ℕ). decoded l ≡ None)
        (ap (λ (l : List ℕ). l ++ drop k bytes') same ∙ take-append-drop k bytes') other
      where
        no_front : (o : Option Decoded) → decoded (take k bytes) ≡ o → decoded (take k bytes) ≡ None
        no_front None e = e
        no_front (Some d) e =
            let whole : decoded (take k bytes ++ drop k bytes) ≡ Some d =
            spelled-more (take k bytes) (drop k bytes) d e in
            let again : decoded bytes ≡ Some d =
            subst (λ (l : List ℕ). decoded l ≡ Some d) (take-append-drop k bytes) whole in
            absurd (cc)

    -- the code ends before an instruction does
    cut_short : decoded bytes ≡ None → ((k : ℕ) → k ≤ length bytes → begins_of (take k bytes) ≡ true)
        → (o : Option Decoded) → completed bytes ≡ o → decoded bytes' ≡ None
    unfolding completed
    cut_short none all None never =
        let same : take (length bytes) bytes ≡ take (length bytes) bytes' =
        same-take (length bytes) bytes bytes' (omega arith) (omega arith)
        (λ i low. usual i low (not_covered i never (at_begun i (omega arith) (all i (omega arith))))) in
        let lists : bytes ≡ bytes' = sym (take-length bytes) ∙ same
        ∙ (ap (λ (n : ℕ). take n bytes') equal ∙ take-length bytes') in
        rw (← lists) none
    cut_short none all (Some d) more =
        let long : length bytes < d.len = too_long d more (cases_lt (length bytes) d.len) in
        let within : d.len ≤ length (bytes ++ zeros) = length_of (bytes ++ zeros) d more in
        let sizes : length (bytes ++ zeros) ≡ length (bytes' ++ zeros) =
        length-append bytes zeros ∙ (ap (λ (n : ℕ). n + length zeros) equal ∙ sym (length-append bytes' zeros)) in
        let read = exchanged (field_in mark state.place starts_field d.disp)
        (field_in mark state.place starts_offset d.imm) (bytes ++ zeros) (bytes' ++ zeros) d more
        (field_in-is mark state.place starts_field d.disp) (field_in-is mark state.place starts_offset d.imm)
        (omega arith)
        (λ i low. agrees i d more (cases_lt i (length bytes))) in
        not_read _ read long (decoded bytes') refl
      where
        too_long : (d : Decoded) → decoded (bytes ++ zeros) ≡ Some d → (length bytes < d.len) ⊎ (d.len ≤ length bytes)
            → length bytes < d.len
        too_long d more (inl long) = long
        too_long d more (inr short) = let again : decoded bytes ≡ Some d = spelled-less bytes zeros d more short in
            absurd cc

        chosen : (i : ℕ) → i < length bytes → (d : Decoded) → completed bytes ≡ Some d
            → (mark (place_at state.place i) ≡ Usual) ⊎ Covered mark state.place (completed bytes) i
            → Agree d (bytes ++ zeros) (bytes' ++ zeros) i
        chosen i low d more (inl same) =
            inl (get-front bytes zeros i low ∙ (usual i low same ∙ sym (get-front bytes' zeros i (omega arith))))
        chosen i low d more (inr covered) = inr (in_fields (completed bytes) d i more covered)

        agrees : (i : ℕ) (d : Decoded) → completed bytes ≡ Some d → (i < length bytes) ⊎ (length bytes ≤ i)
            → Agree d (bytes ++ zeros) (bytes' ++ zeros) i
        agrees i d more (inl low) = chosen i low d more (at_begun i (omega arith) (all i (omega arith)))
        agrees i d more (inr high) = inl (get-tails bytes bytes' zeros i equal high)

        not_read : (d : Decoded) → decoded (bytes' ++ zeros) ≡ Some d → length bytes < d.len → (o : Option Decoded)
            → decoded bytes' ≡ o → decoded bytes' ≡ None
        not_read d read long None e = e
        not_read d read long (Some x) e =
            let again : decoded (bytes' ++ zeros) ≡ Some x = spelled-more bytes' zeros x e in
            let same : d ≡ x = cc in
            let size : d.len ≡ x.len = ap (λ (y : Decoded). y.len) same in
            let within : x.len ≤ length bytes' = length_of bytes' x e in
            absurd (omega arith)

    -- what the meaning does not read the machine does not
    pub reads_none : decoded bytes ≡ None → decoded bytes' ≡ None
    reads_none none =
        (elim (first_false (λ k. begins_of (take k bytes)) (suc (length bytes))) as (λ r. decoded bytes' ≡ None) [
          | inl h ↦ ruled_out h.at (omega (arith, h.below)) none h.fails h.before
          | inr all ↦ cut_short none (λ k low. all k (omega arith)) (completed bytes) refl
        ])

    -- ** where an address field begins in an instruction that was read

    pub reads_address : (d : Decoded) (k number : ℕ) (addend : ℤ) → decoded bytes ≡ Some d → d.disp ≡ Some k
        → mark (plus state.place k) ≡ Address number addend 0
        → (reads_next (read_in d.instr.operation) ≡ true) × (is_minus addend (d.len - k) ≡ true)
    unfolding completed
    reads_address d k number addend e at is =
        let field = field_place d.len d.disp k (placed_of bytes d e).disp at in
        let within : d.len ≤ length bytes = length_of bytes d e in
        let more : completed bytes ≡ Some d = spelled-more bytes zeros d e in
        let low : k < d.len = omega (arith, field.0, field.1) in
        let begun : begins_of (take k bytes) ≡ true = front-begins bytes d k e low in
        let unmet : hindrance_of ops mark state (completed bytes) k (mark (place_at state.place k)) ≡ None =
        if-begins (begins_of (take k bytes))
        (hindrance_of ops mark state (completed bytes) k (mark (place_at state.place k)))
        (free k (omega arith)) begun in
        let here : mark (place_at state.place k) ≡ Address number addend 0 =
        ap mark (place-behind k state.place field.0) ∙ is in
        met (completed bytes) more (mark (place_at state.place k)) here unmet
      where
        met : (o : Option Decoded) → o ≡ Some d → (μ : Mark) → μ ≡ Address number addend 0
            → hindrance_of ops mark state o k μ ≡ None
            → (reads_next (read_in d.instr.operation) ≡ true) × (is_minus addend (d.len - k) ≡ true)
        met None f μ g h = absurd cc
        met (Some x) f Usual g h = absurd cc
        met (Some x) f (Offset n b) g h = absurd cc
        met (Some x) f Inside g h = absurd cc
        met (Some x) f (Address n a b) g h =
            let same : x ≡ d = cc in
            let addends : a ≡ addend = cc in
            let first : b ≡ 0 = cc in
            let p = and_parts (nat_le b k) (takes_address ops mark state a (k - b) x) (taken-if _ h) in
            let places : k - b ≡ k = omega arith in
            let takes : takes_address ops mark state addend k d ≡ true =
            subst (λ (y : Decoded). takes_address ops mark state addend k y ≡ true) same
            (subst (λ (z : ℤ). takes_address ops mark state z k x ≡ true) addends
            (subst (λ (j : ℕ). takes_address ops mark state a j x ≡ true) places p.1)) in
            let q = and_parts (is_at d.disp k && reads_next (read_in d.instr.operation))
            (is_minus addend (d.len - k)) takes in
            ((and_parts (is_at d.disp k) (reads_next (read_in d.instr.operation)) q.0).1, q.1)
