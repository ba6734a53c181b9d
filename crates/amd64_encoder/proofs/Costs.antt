-- What a form costs, beside any spelling of the same operand.
use Rattle.std.proofs.Common.{◌≡◌, ℕ, ◌+◌, ◌/◌, ◌%◌, ◌^◌, ◌<◌, ◌≤◌, Bool, true, false, cond, eqb, ltb, leb, List}
use Rattle.std.proofs.Common.{length, Option, Some, None, refl, sym, ap, subst, ◌∙◌, arith}
use Rattle.std.specs.Prelude.{◌&&◌, ◌||◌, unwrap_or, is_some, slice_index}
use Rattle.std.specs.Option.{option_to_list}
use Rattle.std.proofs.lemmas.Bool.{eqb-true, ltb-false, and_parts}
use Rattle.amd64_words.specs.declared.register.Register.{Register}
use Rattle.amd64_words.specs.declared.register.Register.TheVariants.{Rax}
use Rattle.amd64_subset.specs.declared.operand.Base.TheVariants as base
use Rattle.amd64_subset.specs.declared.operand.Index.{Index}
use Rattle.amd64_subset.specs.declared.operand.Memory.{Memory}
use Rattle.amd64_subset.specs.declared.operand.Operand.{Operand}
use Rattle.amd64_subset.specs.declared.operand.Operand.TheVariants as operand
use Rattle.amd64_subset.specs.declared.prefix.Prefixes.{Prefixes}
use Rattle.amd64_words.specs.declared.size.Size.{Size}
use Rattle.amd64_subset.specs.declared.selectors.Selectors.{Selectors}
use Rattle.amd64_encoder.specs.declared.form.Fields.TheVariants as fields
use Rattle.amd64_encoder.specs.declared.form.Form.{Form}
use Rattle.amd64_subset.specs.Number.{count_of, signed_of, signed_byte_of, signed_long_of}
use Rattle.amd64_subset.specs.Register.{extended}
use Rattle.amd64_subset.specs.Prefix.{bits_of, no_bits}
use Rattle.amd64_subset.specs.Selectors.{has_sib, displacement_size, index_of, memory_in, operand_in, scale_of}
use Rattle.amd64_encoder.specs.Form.{fits_byte, fits_long, low_bits}
use Rattle.amd64_encoder.specs.Writing.{packed, is_high, sib_of, mode_of, needs_sib, address_of, selectors_of}
use Rattle.amd64_encoder.specs.Writing.{selectors_in, selector_bytes, base_is_high, index_is_high, high_base}
use Rattle.amd64_encoder.specs.Writing.{high_index}
use Rattle.amd64_encoder.specs.Writing.{has_segment, when, rex_byte, rex_bits, rex_in, mark_in, form_bytes}
use Rattle.amd64_encoder.proofs.Digits.{high_digit, low_digit, extended-number, is_needed}
use Rattle.amd64_encoder.proofs.Operated.{selected, size_few}
use Rattle.amd64_encoder.proofs.Splices.{length-selectors, length-form}

-- ---- how many bytes of displacement a form has

pub record Few (d low n : ℕ) : Type 0 where
  pub none : d ≡ 0 → eqb low 5 ≡ false → n ≡ 0
  pub byte : fits_byte d ≡ true → n ≤ 1
  pub long : n ≤ 4

few_of : (modrm : ℕ) (sib : Option ℕ) (d low : ℕ) → modrm / 64 ≡ mode_of d low → unwrap_or sib modrm % 8 ≡ low
    → Few d low (count_of (displacement_size (record { modrm = modrm; sib = sib })))
unfolding displacement_size
few_of modrm sib d low mode same = go (eqb d 0) (eqb low 5) (fits_byte d) refl refl refl
  where
    go : (z f b : Bool) → eqb d 0 ≡ z → eqb low 5 ≡ f → fits_byte d ≡ b
        → Few d low (count_of (displacement_size (record { modrm = modrm; sib = sib })))
    go true false b ez ef eb = let m : modrm / 64 ≡ 0 = mode ∙ rw (ez, ef) refl in
        rw (m, same, ef) (record { none = λ h k. refl; byte = λ h. omega arith; long = omega arith })
    go true true true ez ef eb = let m : modrm / 64 ≡ 1 = mode ∙ rw (ez, ef, eb) refl in
        rw (m) (record { none = λ h k. absurd cc; byte = λ h. omega arith; long = omega arith })
    go true true false ez ef eb = let m : modrm / 64 ≡ 2 = mode ∙ rw (ez, ef, eb) refl in
        rw (m) (record { none = λ h k. absurd cc; byte = λ h. absurd cc; long = omega arith })
    go false f true ez ef eb = let m : modrm / 64 ≡ 1 = mode ∙ rw (ez, eb) refl in
        rw (m) (record {
          none = λ h k. absurd (let t = ap (λ n. eqb n 0) h in cc);
          byte = λ h. omega arith;
          long = omega arith;
        })
    go false f false ez ef eb = let m : modrm / 64 ≡ 2 = mode ∙ rw (ez, eb) refl in
        rw (m) (record {
          none = λ h k. absurd (let t = ap (λ n. eqb n 0) h in cc);
          byte = λ h. absurd cc;
          long = omega arith;
        })

-- SIB and the displacement beside a base
pub record BaseCosts (g : ℕ) (r : Register) (index : Option Index) (d : ℕ) : Type 0 where
  pub few : Few d (low_bits r) (count_of (displacement_size (address_of g (base.Register r) index d)))
  pub sib : length (option_to_list (address_of g (base.Register r) index d).sib) ≤ cond
      (needs_sib index (low_bits r)) 1 0

sib_low : (index : Option Index) (low : ℕ) → low < 8 → sib_of index low % 8 ≡ low
sib_low None low l = low_digit 0 4 low (omega arith) l
sib_low (Some index) low l = low_digit _ (low_bits index.register) low (omega arith) l

base_costs : (g : ℕ) (r : Register) (index : Option Index) (d : ℕ) → g < 8 → BaseCosts g r index d
base_costs g r index d g-low = go (needs_sib index (low_bits r)) refl
  where
    go : (b : Bool) → needs_sib index (low_bits r) ≡ b → BaseCosts g r index d
    go true e = record {
      few = rw (e) (few_of (packed (mode_of d (low_bits r)) g 4) (Some (sib_of index (low_bits r))) d (low_bits r)
          (high_digit (mode_of d (low_bits r)) g 4 g-low (omega arith)) (sib_low index (low_bits r) (omega arith)));
      sib = rw (e) (omega arith);
    }
    go false e = record {
      few = rw (e) (few_of (packed (mode_of d (low_bits r)) g (low_bits r)) None d (low_bits r)
          (high_digit (mode_of d (low_bits r)) g (low_bits r) g-low (omega arith))
          (low_digit (mode_of d (low_bits r)) g (low_bits r) g-low (omega arith)));
      sib = rw (e) (omega arith);
    }

-- ---- any displacement

right_of : (a b : Bool) → b ≡ true → (a || b) ≡ true
right_of true b h = refl
right_of false b h = h

pub signed_byte_fits : (x : ℕ) → signed_byte_of x < 2 ^ 64 → fits_byte (signed_byte_of x) ≡ true
signed_byte_fits x lt = go (ltb x 0x80) refl
  where
    go : (b : Bool) → ltb x 0x80 ≡ b → fits_byte (signed_byte_of x) ≡ true
    go true e = rw (e, e) refl
    go false e = let h = ltb-false x 0x80 e in
        let t : leb 0xffff_ffff_ffff_ff80 (x + 0xffff_ffff_ffff_ff00) ≡ true = grind arith in rw (e) (right_of _ _ t)

pub signed_long_fits : (x : ℕ) → fits_long (signed_long_of x) ≡ true
signed_long_fits x = go (ltb x 0x8000_0000) refl
  where
    go : (b : Bool) → ltb x 0x8000_0000 ≡ b → fits_long (signed_long_of x) ≡ true
    go true e = rw (e, e) refl
    go false e = let h = ltb-false x 0x8000_0000 e in
        let t : leb 0xffff_ffff_8000_0000 (x + 0xffff_ffff_0000_0000) ≡ true = grind arith in rw (e) (right_of _ _ t)

few_enough : (s : Selectors) (bytes : List ℕ) (d n : ℕ) → eqb (s.modrm / 64) 3 ≡ false
    → signed_of (displacement_size s) bytes ≡ d → d < 2 ^ 64
    → Few d (unwrap_or s.sib s.modrm % 8) n → n ≤ count_of (displacement_size s)
unfolding displacement_size signed_of
few_enough s bytes d n three is lt few =
    go (eqb (s.modrm / 64) 1) (eqb (s.modrm / 64) 2) (eqb (unwrap_or s.sib s.modrm % 8) 5) refl refl refl
  where
    go : (a b c : Bool) → eqb (s.modrm / 64) 1 ≡ a → eqb (s.modrm / 64) 2 ≡ b → eqb (unwrap_or s.sib s.modrm % 8) 5 ≡ c
        → n ≤ count_of (displacement_size s)
    go true b c ea eb ec =
        let same : signed_byte_of (slice_index bytes 0) ≡ d = rw (ea) at is in
        let lt' : signed_byte_of (slice_index bytes 0) < 2 ^ 64 = rw (same) lt in
        let f : fits_byte d ≡ true =
        subst (λ (x : ℕ). fits_byte x ≡ true) same (signed_byte_fits (slice_index bytes 0) lt') in
        rw (ea) (few.byte f)
    go false true c ea eb ec = rw (ea, eb) few.long
    go false false true ea eb ec = rw (ea, eb, three, ec) few.long
    go false false false ea eb ec =
        let same : 0 ≡ d = rw (ea, eb, three, ec) at is in
        rw (ea, eb, three, ec) (let z = few.none (sym same) ec in omega arith)

-- ---- an operand's cost

-- beside a REX or none, so many prefixes before it, and so many bytes of SIB and displacement
pub record Fits (rex : Option ℕ) (marks tail : ℕ) (o : Operand) (d : ℕ) : Type 0 where
  pub segment : has_segment o ≡ true → 1 ≤ marks
  pub base : rex ≡ None → high_base o ≡ false
  pub index : rex ≡ None → high_index o ≡ false
  pub tail-most : (g : ℕ) → g < 8
      → length (option_to_list (selectors_of g o d).sib) + count_of (displacement_size (selectors_of g o d)) ≤ tail

register_tail : (g : ℕ) (r : Register) (d : ℕ) → g < 8
    → length (option_to_list (selectors_of g (operand.Register r) d).sib)
    + count_of (displacement_size (selectors_of g (operand.Register r) d)) ≤ 0
unfolding selectors_of displacement_size
register_tail g r d h = let m : packed 3 g (low_bits r) / 64 ≡ 3 = high_digit 3 g (low_bits r) h (omega arith) in
    rw (m) (omega arith)

pub register_fits : (rex : Option ℕ) (marks tail : ℕ) (r : Register) (d : ℕ) → (rex ≡ None → is_high r ≡ false)
    → Fits rex marks tail (operand.Register r) d
register_fits rex marks tail r d low = record {
  segment = λ h. absurd cc;
  base = low;
  index = λ h. refl;
  tail-most = λ g h. omega (arith, register_tail g r d h);
}

pub low_extended : (low : ℕ) → low < 8 → is_high (extended low false) ≡ false
low_extended low h = let n = extended-number low false h in grind arith

low_again : (low : ℕ) (b : Bool) → low < 8 → low_bits (extended low b) ≡ low
low_again low true h = let n = extended-number low true h in omega arith
low_again low false h = let n = extended-number low false h in omega arith

-- the address of a spelling
pub record AddressFits (s : Selectors) (m : Memory) (d : ℕ) : Type 0 where
  pub tail : (g : ℕ) → g < 8 → length (option_to_list (address_of g m.base m.index d).sib) + count_of
      (displacement_size (address_of g m.base m.index d)) ≤ length (option_to_list s.sib)
      + count_of (displacement_size s)

-- a base of a spelling costs no more in a form
base_fits : (s : Selectors) (bytes : List ℕ) (t : Bool) (r : Register) (index : Option Index) (d : ℕ)
    → eqb (s.modrm / 64) 3 ≡ false
    → signed_of (displacement_size s) bytes ≡ d → d < 2 ^ 64 → low_bits r ≡ unwrap_or s.sib s.modrm % 8
    → cond (needs_sib index (low_bits r)) 1 0 ≤ length (option_to_list s.sib)
    → AddressFits s (record { from_thread_pointer = t; base = base.Register r; index = index }) d
base_fits s bytes t r index d three is lt low sib = record {
  tail = λ g h.
      let c = base_costs g r index d h in
      let f : Few d (unwrap_or s.sib s.modrm % 8)
      (count_of (displacement_size (address_of g (base.Register r) index d))) =
      subst (λ (x : ℕ). Few d x (count_of (displacement_size (address_of g (base.Register r) index d)))) low c.few in
      let n = few_enough s bytes d
      (count_of (displacement_size (address_of g (base.Register r) index d))) three is lt f in
      let m = c.sib in
      omega arith;
}

fixed_fits : (s : Selectors) (m : Memory) (d k : ℕ) → count_of (displacement_size s) ≡ 4
    → length (option_to_list s.sib) ≡ k
    → ((g : ℕ) → length (option_to_list (address_of g m.base m.index d).sib) ≡ k) → AddressFits s m d
fixed_fits s m d k four sib mine = record {
  tail = λ g h. let a = mine g in let b = size_few (address_of g m.base m.index d) in omega arith;
}

address_fits : (p : Prefixes) (modrm : ℕ) (sib : Option ℕ) (bytes : List ℕ) (d : ℕ) → eqb (modrm / 64) 3 ≡ false
    → is_some sib ≡ has_sib modrm
    → signed_of (displacement_size (record { modrm = modrm; sib = sib })) bytes ≡ d → d < 2 ^ 64
    → AddressFits (record { modrm = modrm; sib = sib }) (memory_in p (record { modrm = modrm; sib = sib })) d
unfolding memory_in displacement_size
address_fits p modrm None bytes d three sib is lt = go (eqb (modrm / 64) 0 && eqb (modrm % 8) 5) refl
  where
    four : eqb (modrm % 8) 4 ≡ false
    four = let h = sib in way (eqb (modrm % 8) 4) refl
      where
        way : (b : Bool) → eqb (modrm % 8) 4 ≡ b → eqb (modrm % 8) 4 ≡ false
        way false e = e
        way true e = absurd (let t : has_sib modrm ≡ true = rw (three, e) refl in cc)

    go : (b : Bool) → (eqb (modrm / 64) 0 && eqb (modrm % 8) 5) ≡ b
        → AddressFits (record { modrm = modrm; sib = None }) (memory_in p (record { modrm = modrm; sib = None })) d
    go true e =
        let parts = and_parts (eqb (modrm / 64) 0) (eqb (modrm % 8) 5) e in
        let zero-is = eqb-true (modrm / 64) 0 parts.0 in
        rw (e) (fixed_fits (record { modrm = modrm; sib = None }) (record {
          from_thread_pointer = p.thread_pointer;
          base = base.NextInstruction;
          index =
              None;
        }) d 0 (rw (zero-is, parts.1) refl) refl (λ g. refl))
    go false e =
        let low = low_again (modrm % 8) (bits_of p).base (omega arith) in
        rw (e) (base_fits (record { modrm = modrm; sib = None }) bytes p.thread_pointer
        (extended (modrm % 8) (bits_of p).base) None d three is lt low (rw (low, four) (omega arith)))
address_fits p modrm (Some sib) bytes d three has is lt = go (eqb (modrm / 64) 0 && eqb (sib % 8) 5) refl
  where
    at_most : (b : Bool) → cond b 1 0 ≤ 1
    at_most true = omega arith
    at_most false = omega arith

    go : (b : Bool) → (eqb (modrm / 64) 0 && eqb (sib % 8) 5) ≡ b
        → AddressFits (record { modrm = modrm; sib = Some sib })
        (memory_in p (record { modrm = modrm; sib = Some sib })) d
    go true e =
        let parts = and_parts (eqb (modrm / 64) 0) (eqb (sib % 8) 5) e in
        let zero-is = eqb-true (modrm / 64) 0 parts.0 in
        rw (e) (fixed_fits (record { modrm = modrm; sib = Some sib }) (record {
          from_thread_pointer = p.thread_pointer;
          base = base.Absolute;
          index =
              index_of sib (bits_of p).index;
        }) d 1 (rw (zero-is, parts.1) refl) refl (λ g. refl))
    go false e =
        let low = low_again (sib % 8) (bits_of p).base (omega arith) in
        rw (e) (base_fits (record { modrm = modrm; sib = Some sib }) bytes p.thread_pointer
        (extended (sib % 8) (bits_of p).base)
        (index_of sib (bits_of p).index) d three is lt low
        (at_most (needs_sib (index_of sib (bits_of p).index) (low_bits (extended (sib % 8) (bits_of p).base)))))

pub fs_is : (p : Prefixes) (s : Selectors) → eqb (s.modrm / 64) 3 ≡ false
    → (memory_in p s).from_thread_pointer ≡ p.thread_pointer
unfolding memory_in
fs_is p s three = go s.sib
  where
    go : (sib : Option ℕ) → (memory_in p (record { modrm = s.modrm; sib = sib })).from_thread_pointer ≡ p.thread_pointer
    go None = refl
    go (Some x) = refl

memory_low : (p : Prefixes) (modrm : ℕ) (sib : Option ℕ) → bits_of p ≡ no_bits
    → (base_is_high (memory_in p (record { modrm = modrm; sib = sib })).base ≡ false)
    × (index_is_high (memory_in p (record { modrm = modrm; sib = sib })).index ≡ false)
unfolding memory_in
memory_low p modrm None none = (rw (none) (go (eqb (modrm / 64) 0 && eqb (modrm % 8) 5)), refl)
  where
    go : (b : Bool) → base_is_high (cond b base.NextInstruction (base.Register (extended (modrm % 8) false))) ≡ false
    go true = refl
    go false = low_extended (modrm % 8) (omega arith)
memory_low p modrm (Some sib) none =
    (rw (none) (go (eqb (modrm / 64) 0 && eqb (sib % 8) 5)), rw (none) (at (eqb ((sib / 8) % 8) 4 && true)))
  where
    go : (b : Bool) → base_is_high (cond b base.Absolute (base.Register (extended (sib % 8) false))) ≡ false
    go true = refl
    go false = low_extended (sib % 8) (omega arith)

    at : (b : Bool) → index_is_high
        (cond b None (Some (record { register = extended ((sib / 8) % 8) false; scale = scale_of (sib / 64) }))) ≡ false
    at true = refl
    at false = low_extended ((sib / 8) % 8) (omega arith)

-- the operand of a spelling costs no more in a form
pub operand_fits : (p : Prefixes) (s : Selectors) (rex : Option ℕ) (marks : ℕ) (bytes : List ℕ) (d : ℕ)
    → (p.thread_pointer ≡ true → 1 ≤ marks)
    → (rex ≡ None → bits_of p ≡ no_bits) → is_some s.sib ≡ has_sib s.modrm
    → signed_of (displacement_size s) bytes ≡ d → d < 2 ^ 64
    → Fits rex marks (length (option_to_list s.sib) + count_of (displacement_size s)) (operand_in p s) d
unfolding selectors_of
operand_fits p s rex marks bytes d fs none sib is lt = go (eqb (s.modrm / 64) 3) refl
  where
    go : (b : Bool) → eqb (s.modrm / 64) 3 ≡ b
        → Fits rex marks (length (option_to_list s.sib) + count_of (displacement_size s)) (operand_in p s) d
    go true e = rw (e) (register_fits rex marks _ (extended (s.modrm % 8) (bits_of p).base) d
        (λ n. let z = none n in rw (z) (low_extended (s.modrm % 8) (omega arith))))
    go false e = rw (e) (record {
      segment = λ h. fs (sym (fs_is p s e) ∙ h);
      base = λ n. (memory_low p s.modrm s.sib (none n)).0;
      index = λ n. (memory_low p s.modrm s.sib (none n)).1;
      tail-most = (address_fits p s.modrm s.sib bytes d e sib is lt).tail;
    })

-- ---- a form's cost

when_most : (b : Bool) (x : ℕ) (o : Option ℕ) → (o ≡ None → b ≡ false)
    → length (option_to_list (when b x)) ≤ length (option_to_list o)
when_most true x None h = absurd (let t = h refl in cc)
when_most true x (Some y) h = omega arith
when_most false x o h = omega arith

mark_most : (b : Bool) (marks : ℕ) → (b ≡ true → 1 ≤ marks) → length (option_to_list (when b 0x64)) ≤ marks
mark_most true marks h = let t = h refl in omega arith
mark_most false marks h = omega arith

rex_most : (form : Form) (rex : Option ℕ)
    → (rex ≡ None → is_needed form.low_byte (rex_bits form).wide (rex_bits form).register (rex_bits form).index
    (rex_bits form).base ≡ false) → length (option_to_list (rex_in form)) ≤ length (option_to_list rex)
unfolding rex_in
rex_most form rex h = when_most
    (is_needed form.low_byte (rex_bits form).wide (rex_bits form).register (rex_bits form).index (rex_bits form).base)
    (rex_byte (rex_bits form)) rex h

segment_most : (f : ℕ) (o : Operand) (marks : ℕ) → (has_segment o ≡ true → 1 ≤ marks)
    → length (option_to_list (mark_in (fields.Selected f o))) ≤ marks
unfolding mark_in
segment_most f o marks h = mark_most (has_segment o) marks h

no_mark : (r : Register)
    → (length (option_to_list (mark_in fields.Bare)) ≡ 0) × (length (option_to_list (mark_in (fields.Low r))) ≡ 0)
unfolding mark_in
no_mark r = (refl, refl)

tail_most : (f : ℕ) (o : Operand) (d : ℕ)
    → length (selector_bytes (selectors_in (fields.Selected f o) d) d) ≡ 1 + length
    (option_to_list (selectors_of (f % 8) o d).sib) + count_of (displacement_size (selectors_of (f % 8) o d))
unfolding selectors_in
tail_most f o d = length-selectors (Some (selectors_of (f % 8) o d)) (selectors_of (f % 8) o d) d refl

no_tail : (r : Register) (d : ℕ)
    → (length (selector_bytes (selectors_in fields.Bare d) d) ≡ 0)
    × (length (selector_bytes (selectors_in (fields.Low r) d) d) ≡ 0)
unfolding selectors_in
no_tail r d = (refl, refl)

pub selected_most : (escaped : Bool) (opcode : ℕ) (w low : Bool) (f : ℕ) (o : Operand) (size : Size) (number d : ℕ)
    (rex : Option ℕ) (marks tail : ℕ) → Fits rex marks tail o d
    → (rex ≡ None → low ≡ false) → (rex ≡ None → w ≡ false) → (rex ≡ None → leb 8 f ≡ false)
    → length (form_bytes (selected escaped opcode w low f o size number) d) ≤ marks
    + (length (option_to_list rex) + ((length (option_to_list (when escaped 0x0f)) + 1) + ((1 + tail) + count_of size)))
selected_most escaped opcode w low f o size number d rex marks tail fits l wide high =
    let form = selected escaped opcode w low f o size number in
    let all = length-form form d in
    let m = segment_most f o marks fits.segment in
    let x = rex_most form rex (λ n. rw (l n, wide n, high n, fits.index n, fits.base n) refl) in
    let s = tail_most f o d in
    let t = fits.tail-most (f % 8) (omega arith) in
    omega arith

pub bare_most : (escaped : Bool) (opcode : ℕ) (w : Bool) (size : Size) (number d : ℕ) (rex : Option ℕ)
    → (rex ≡ None → w ≡ false)
    → length (form_bytes (record {
      escaped = escaped;
      opcode = opcode;
      wide = w;
      low_byte = false;
      fields = fields.Bare;
      size = size;
      number = number;
    }) d) ≤
    length (option_to_list rex) + ((length (option_to_list (when escaped 0x0f)) + 1) + count_of size)
bare_most escaped opcode w size number d rex wide =
    let form : Form = record {
      escaped = escaped;
      opcode = opcode;
      wide = w;
      low_byte = false;
      fields = fields.Bare;
      size = size;
      number = number;
    } in
    let all = length-form form d in
    let x = rex_most form rex (λ n. rw (wide n) refl) in
    let m = (no_mark Rax).0 in
    let t = (no_tail Rax d).0 in
    omega arith

pub low_most : (opcode : ℕ) (r : Register) (w : Bool) (size : Size) (number d : ℕ) (rex : Option ℕ)
    → (rex ≡ None → w ≡ false) → (rex ≡ None → is_high r ≡ false)
    → length (form_bytes (record {
      escaped = false;
      opcode = opcode;
      wide = w;
      low_byte = false;
      fields = fields.Low r;
      size = size;
      number = number;
    }) d) ≤
    length (option_to_list rex) + (1 + count_of size)
low_most opcode r w size number d rex wide high =
    let form : Form = record {
      escaped = false;
      opcode = opcode;
      wide = w;
      low_byte = false;
      fields = fields.Low r;
      size = size;
      number = number;
    } in
    let all = length-form form d in
    let x = rex_most form rex (λ n. rw (wide n, high n) refl) in
    let m = (no_mark r).1 in
    let t = (no_tail r d).1 in
    omega arith
