-- What hinders an instruction from being read, byte by byte.
use Rattle.std.proofs.Common.{◌≡◌, ℕ, zero, suc, ◌+◌, ◌-◌, ◌<◌, ◌≤◌, Bool, true, false, List, ◌++◌, length, take, drop}
use Rattle.std.proofs.Common.{Option, Some, None, refl, sym, ap, subst, ◌∙◌, append_assoc, arith}
use Rattle.std.specs.Prelude.{◌&&◌, if◌then◌else◌, nat_le, replicate}
use Rattle.std.specs.Option.{option_or}
use Rattle.std.proofs.lemmas.Bool.{and_parts}
use Rattle.std.proofs.lemmas.List.{length-append}
use Rattle.amd64_subset.specs.declared.instr.Decoded.{Decoded}
use Rattle.amd64_subset.specs.Beginning.{begins_of}
use Rattle.amd64_subset.specs.Decoding.{decoded}
use Rattle.amd64_subset.specs.Spelling.{Spells}
use Rattle.amd64_subset.proofs.Beginning.{begins_spelling, spelling_begins}
use Rattle.guest_arithmetic.specs.declared.cause.Cause.{Cause}
use Rattle.guest_arithmetic.specs.declared.cause.Cause.TheVariants as cause
use Rattle.guest_arithmetic.specs.Values.{Operations}
use Rattle.guest_operands.specs.declared.state.State.{State}
use Rattle.guest_operands.specs.Use.{plus}
use Rattle.job_meaning.specs.Reading.{completed, is_at, place_at}
use Rattle.job_meaning.proofs.Fetch.{place-is}
use Rattle.job_meaning.proofs.Lists.{take-cut}
use Rattle.job_meaning.proofs.Reading.{field_place, front-begins, length_of, placed_of, spelled-more}
use Rattle.whole_meaning.specs.declared.marks.Mark.{Mark}
use Rattle.whole_meaning.specs.declared.marks.Mark.TheVariants.{Usual, Offset, Address, Inside}
use Rattle.whole_meaning.specs.Fields.{address_at, field_address, is_minus, read_in, reads_next, takes_address}
use Rattle.whole_meaning.specs.Reading.{first_hindrance, hindered, hindrance, hindrance_of}

false-unless : (b : Bool) → (b ≡ true → ⊥) → b ≡ false
false-unless true h = absurd (h refl)
false-unless false h = refl

-- where a front begins no instruction, no longer one does
pub stays-none : (bytes : List ℕ) (k j : ℕ) → k ≤ j → begins_of (take k bytes) ≡ false
    → begins_of (take j bytes) ≡ false
stays-none bytes k j low none = false-unless (begins_of (take j bytes)) (λ e.
    let h = begins_spelling (take j bytes) e in
    let cut : take k bytes ++ drop k (take j bytes) ≡ take j bytes = take-cut k j bytes low in
    let more = drop k (take j bytes) ++ h.more in
    let some : 0 < length more = let some = h.some in omega (arith, length-append (drop k (take j bytes)) h.more) in
    let whole : take k bytes ++ more ≡ take j bytes ++ h.more =
    sym (append_assoc (take k bytes) (drop k (take j bytes)) h.more) ∙ ap (λ (l : List ℕ). l ++ h.more) cut in
    let begins : begins_of (take k bytes) ≡ true =
    spelling_begins (take k bytes) more h.decoded some (subst (λ (l : List ℕ). Spells l h.decoded) (sym whole) h.spells)
    in
    cc)

-- a place behind an instruction's first byte
pub place-behind : (k here : ℕ) → 0 < k → place_at here k ≡ plus here k
place-behind zero here some = absurd (omega arith)
place-behind (suc k) here some = place-is k here

taken-if : (b : Bool) → ◌≡◌ {A = Option Cause} (if b then None else Some cause.Field) None → b ≡ true
taken-if true e = refl
taken-if false e = absurd cc

or-none : (a b : Option Cause) → option_or a b ≡ None → (a ≡ None) × (b ≡ None)
or-none None b e = (refl, e)
or-none (Some why) b e = absurd cc

or-nones : (a b : Option Cause) → a ≡ None → b ≡ None → option_or a b ≡ None
or-nones a b e f = rw (e, f) refl

if-begins : (b : Bool) (o : Option Cause) → ◌≡◌ {A = Option Cause} (if b then o else None) None → b ≡ true → o ≡ None
if-begins true o e f = e
if-begins false o e f = absurd cc

module _ {W F B : Type 0} (ops : Operations W F B) (mark : ℕ → Mark) (state : State W F) where
  each-none : (bytes : List ℕ) (k more i j : ℕ) → first_hindrance ops mark state bytes k more ≡ None → i ≡ k + j
      → j ≤ more
      → hindered ops mark state bytes i ≡ None
  each-none bytes k zero i zero e is low = let same : k ≡ i = omega arith in
      subst (λ (n : ℕ). hindered ops mark state bytes n ≡ None) same e
  each-none bytes k zero i (suc j) e is low = absurd (omega arith)
  each-none bytes k (suc more) i zero e is low =
      let same : k ≡ i = omega arith in
      subst (λ (n : ℕ). hindered ops mark state bytes n ≡ None) same
      (or-none (hindered ops mark state bytes k) (first_hindrance ops mark state bytes (k + 1) more) e).0
  each-none bytes k (suc more) i (suc j) e is low =
      each-none bytes (k + 1) more i j
      (or-none (hindered ops mark state bytes k) (first_hindrance ops mark state bytes (k + 1) more) e).1 (omega arith)
      (omega arith)

  none-each : (bytes : List ℕ) (more k : ℕ) → ((j : ℕ) → j ≤ k + more → hindered ops mark state bytes j ≡ None)
      → first_hindrance ops mark state bytes k more ≡ None
  none-each bytes zero k each = each k (omega arith)
  none-each bytes (suc more) k each =
      or-nones (hindered ops mark state bytes k) (first_hindrance ops mark state bytes (k + 1) more)
      (each k (omega arith))
      (none-each bytes more (k + 1) (λ j low. each j (omega arith)))

  -- nothing hinders an instruction if no byte does
  pub unhindered : (bytes : List ℕ) → ((j : ℕ) → j ≤ length bytes → hindered ops mark state bytes j ≡ None)
      → hindrance ops mark state bytes ≡ None
  unfolding hindrance
  unhindered bytes each = none-each bytes (length bytes) 0 (λ j low. each j (omega arith))

  -- a usual byte hinders nothing
  pub usual-free : (bytes : List ℕ) (j : ℕ) → mark (place_at state.place j) ≡ Usual
      → hindered ops mark state bytes j ≡ None
  usual-free bytes j usual = rw usual (either (begins_of (take j bytes)) (completed bytes))
    where
      either : (b : Bool) (o : Option Decoded) → (if b then hindrance_of ops mark state o j Usual else None) ≡ None
      either true None = refl
      either true (Some d) = refl
      either false o = refl

  -- nor does one which is not read
  pub unread-free : (bytes : List ℕ) (j : ℕ) → begins_of (take j bytes) ≡ false → hindered ops mark state bytes j ≡ None
  unread-free bytes j none = rw none refl

  -- an address field that hinders nothing is an operand that is read
  pub reads-address : (bytes : List ℕ) (d : Decoded) (number : ℕ) → hindrance ops mark state bytes ≡ None
      → decoded bytes ≡ Some d
      → address_at mark state.place d.disp ≡ Some number → reads_next (read_in d.instr.operation) ≡ true
  unfolding hindrance completed
  reads-address bytes d number free e is = at d.disp refl is
    where
      met : (o : Option Decoded) (k : ℕ) (μ : Mark) → o ≡ Some d → field_address μ ≡ Some number
          → hindrance_of ops mark state o k μ ≡ None
          → reads_next (read_in d.instr.operation) ≡ true
      met None k μ f g h = absurd cc
      met (Some x) k Usual f g h = absurd cc
      met (Some x) k (Offset n b) f g h = absurd cc
      met (Some x) k Inside f g h = absurd cc
      met (Some x) k (Address n addend b) f g h =
          let same : x ≡ d = cc in
          let p = and_parts (nat_le b k) (takes_address ops mark state addend (k - b) x) (taken-if _ h) in
          let q = and_parts (is_at x.disp (k - b) && reads_next (read_in x.instr.operation))
          (is_minus addend (x.len - (k - b))) p.1 in
          subst (λ (y : Decoded). reads_next (read_in y.instr.operation) ≡ true) same
          (and_parts (is_at x.disp (k - b)) (reads_next (read_in x.instr.operation)) q.0).1

      at : (o : Option ℕ) → d.disp ≡ o → address_at mark state.place o ≡ Some number
          → reads_next (read_in d.instr.operation) ≡ true
      at None at-is g = absurd cc
      at (Some k) at-is g =
          let field = field_place d.len d.disp k (placed_of bytes d e).disp at-is in
          let within : d.len ≤ length bytes = length_of bytes d e in
          let more : completed bytes ≡ Some d = spelled-more bytes (replicate 15 0) d e in
          let low : k < d.len = omega (arith, field.0, field.1) in
          let begun : begins_of (take k bytes) ≡ true = front-begins bytes d k e low in
          let unmet : hindrance_of ops mark state (completed bytes) k (mark (place_at state.place k)) ≡ None =
          if-begins (begins_of (take k bytes)) (hindrance_of ops mark state (completed bytes) k
          (mark (place_at state.place k)))
          (each-none bytes 0 (length bytes) k k free (omega arith) (omega arith)) begun in
          met (completed bytes) k (mark (place_at state.place k)) more
          (ap (λ p. field_address (mark p)) (place-behind k state.place field.0) ∙ g) unmet
