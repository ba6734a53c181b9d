-- ModRM and SIB as they are written: they select the operand again, and the displacement as short as it fits.
use Rattle.std.proofs.Common.{◌≡◌, ℕ, ◌/◌, ◌%◌, ◌<◌, Bool, true, false, eqb, List, ◌++◌, Option, Some, None, refl}
use Rattle.std.proofs.Common.{arith}
use Rattle.std.specs.Prelude.{◌&&◌, unwrap_or, is_some, slice_index, IfSome}
use Rattle.std.specs.Option.{option_to_list}
use Rattle.std.proofs.lemmas.Bool.{eqb-true, ne_eqb}
use Rattle.amd64_words.specs.declared.register.Register.{Register}
use Rattle.amd64_subset.specs.declared.operand.Base.{Base}
use Rattle.amd64_subset.specs.declared.operand.Base.TheVariants as base
use Rattle.amd64_subset.specs.declared.operand.Index.{Index}
use Rattle.amd64_subset.specs.declared.operand.Operand.{Operand}
use Rattle.amd64_subset.specs.declared.operand.Operand.TheVariants as operand
use Rattle.amd64_subset.specs.declared.prefix.Prefixes.{Prefixes}
use Rattle.amd64_words.specs.declared.size.Size.{Size}
use Rattle.amd64_words.specs.declared.size.Size.TheVariants as size
use Rattle.amd64_subset.specs.declared.selectors.Selectors.{Selectors}
use Rattle.amd64_subset.specs.Number.{signed_of}
use Rattle.amd64_subset.specs.Prefix.{bits_of}
use Rattle.amd64_subset.specs.Selectors.{has_sib, displacement_size, index_of, memory_in, operand_in}
use Rattle.amd64_encoder.specs.Form.{fits_byte, low_bits}
use Rattle.amd64_encoder.specs.Writing.{packed, is_high, scale_number, sib_of, mode_of, address_of, selectors_of}
use Rattle.amd64_encoder.specs.Writing.{high_base, high_index, base_is_high, index_is_high, has_segment, number_bytes}
use Rattle.amd64_encoder.specs.Canonical.{IsSignedLong, IsIndex, IsAddress, IsOperand, names_base}
use Rattle.amd64_encoder.proofs.Digits.{high_digit, middle_digit, low_digit, extended_again, index_stands, scale_again}
use Rattle.amd64_encoder.proofs.Digits.{none_again, byte_again, long_again, long-lt}

abbrev pub is_register : Operand → Bool
is_register (operand.Register r) = true
is_register (operand.InMemory m) = false

-- what a ModRM and a SIB byte select, at a displacement
pub record Selects (p : Prefixes) (s : Selectors) (field : ℕ) (o : Operand) (d : ℕ) : Type 0 where
  pub operand-is : operand_in p s ≡ o
  pub digit-is : (s.modrm / 8) % 8 ≡ field
  pub sib-is : is_some s.sib ≡ has_sib s.modrm
  pub number-is : signed_of (displacement_size s) (number_bytes (displacement_size s) d) ≡ d
  pub mode-is : eqb (s.modrm / 64) 3 ≡ is_register o
  pub index-read : high_index o ≡ true → has_sib s.modrm ≡ true
  pub base-read : high_base o ≡ true → (more : List ℕ)
      → names_base s.modrm (slice_index (option_to_list s.sib ++ more) 0) ≡ true

register_selects : (p : Prefixes) (modrm field : ℕ) (r : Register) (d : ℕ) → modrm / 64 ≡ 3 → (modrm / 8) % 8 ≡ field
    → modrm % 8 ≡ low_bits r → (bits_of p).base ≡ is_high r → d ≡ 0
    → Selects p (record { modrm = modrm; sib = None }) field (operand.Register r) d
unfolding displacement_size
register_selects p modrm field r d high middle low base none = record {
  operand-is = rw (high, low, base, extended_again r) refl;
  digit-is = middle;
  sib-is = rw (high) refl;
  number-is = rw (high) (none_again d none);
  mode-is = rw (high) refl;
  index-read = λ h. absurd cc;
  base-read = λ h more. rw (high) refl;
}

-- ---- memory without SIB

rip_selects : (p : Prefixes) (modrm field : ℕ) (t : Bool) (d : ℕ) → modrm / 64 ≡ 0 → (modrm / 8) % 8 ≡ field
    → modrm % 8 ≡ 5 → p.thread_pointer ≡ t → IsSignedLong d
    → Selects p (record { modrm = modrm; sib = None }) field
    (operand.InMemory (record { from_thread_pointer = t; base = base.NextInstruction; index = None })) d
unfolding displacement_size memory_in
rip_selects p modrm field t d high middle low fs long = record {
  operand-is = rw (high, low, fs) refl;
  digit-is = middle;
  sib-is = rw (high, low) refl;
  number-is = rw (high, low) (long_again d long);
  mode-is = rw (high) refl;
  index-read = λ h. absurd cc;
  base-read = λ h more. absurd cc;
}

-- a displacement beside a base with these low bits, and what its mode says
pub record HasMode (mode low d : ℕ) (size : Size) : Type 0 where
  pub few : mode < 3
  pub is_size : (modrm : ℕ) (sib : Option ℕ) → modrm / 64 ≡ mode → unwrap_or sib modrm % 8 ≡ low
      → displacement_size (record { modrm = modrm; sib = sib }) ≡ size
  pub number-is : signed_of size (number_bytes size d) ≡ d
  pub no_rip : (eqb mode 0 && eqb low 5) ≡ false

pub has_mode : (d low : ℕ) → IsSignedLong d → (size : Size) × HasMode (mode_of d low) low d size
unfolding displacement_size
has_mode d low long = go (eqb d 0) (eqb low 5) (fits_byte d) refl refl refl
  where
    go : (z f b : Bool) → eqb d 0 ≡ z → eqb low 5 ≡ f → fits_byte d ≡ b
        → (size : Size) × HasMode (mode_of d low) low d size
    go true false b ez ef eb = (
      size.Zero,
      rw (ez, ef)
          (record {
            few = omega arith;
            is_size = λ modrm sib m l. rw (m, l, ef) refl;
            number-is = none_again d (eqb-true d 0 ez);
            no_rip = ef;
          }),
    )
    go true true true ez ef eb = (
      size.One,
      rw (ez, ef, eb)
          (record {
            few = omega arith;
            is_size = λ modrm sib m l. rw (m) refl;
            number-is = byte_again d eb (long-lt d long);
            no_rip = refl;
          }),
    )
    go true true false ez ef eb = (
      size.Four,
      rw (ez, ef, eb)
          (record {
            few = omega arith;
            is_size = λ modrm sib m l. rw (m) refl;
            number-is = long_again d long;
            no_rip = refl;
          }),
    )
    go false f true ez ef eb = (
      size.One,
      rw (ez, eb) (record {
        few = omega arith;
        is_size = λ modrm sib m l. rw (m) refl;
        number-is = byte_again d eb (long-lt d long);
        no_rip = refl;
      }),
    )
    go false f false ez ef eb = (
      size.Four,
      rw (ez, eb)
          (record {
            few = omega arith;
            is_size = λ modrm sib m l. rw (m) refl;
            number-is = long_again d long;
            no_rip = refl;
          }),
    )

no_register : (mode : ℕ) → mode < 3 → eqb mode 3 ≡ false
no_register mode h = ne_eqb mode 3 (λ e. absurd (omega arith))

base_selects : (p : Prefixes) (modrm field mode : ℕ) (t : Bool) (r : Register) (d : ℕ) (size : Size)
    → HasMode mode (low_bits r) d size → modrm / 64 ≡ mode
    → (modrm / 8) % 8 ≡ field → modrm % 8 ≡ low_bits r
    → eqb (low_bits r) 4 ≡ false → p.thread_pointer ≡ t → (bits_of p).base ≡ is_high r
    → Selects p (record { modrm = modrm; sib = None }) field
    (operand.InMemory (record { from_thread_pointer = t; base = base.Register r; index = None })) d
unfolding memory_in
base_selects p modrm field mode t r d size has high middle low plain fs base =
    let n3 = no_register mode has.few in
    let s = has.is_size modrm None high low in record {
      operand-is = rw (high, n3, low, has.no_rip, base, fs, extended_again r) refl;
      digit-is = middle;
      sib-is = rw (high, n3, low, plain) refl;
      number-is = rw (s) has.number-is;
      mode-is = rw (high, n3) refl;
      index-read = λ h. absurd cc;
      base-read = λ h more. rw (high, n3, low, plain, has.no_rip) refl;
    }

-- ---- memory with SIB

-- an index is found again in SIB
index_again : (high : Bool) (index : Option Index) (low : ℕ) → low < 8 → IfSome index IsIndex
    → high ≡ index_is_high index → index_of (sib_of index low) high ≡ index
index_again high None low l is e =
    let m : (packed 0 4 low / 8) % 8 ≡ 4 = middle_digit 0 4 low (omega arith) l in
    rw (m, e) refl
index_again high (Some index) low l is e =
    let k : low_bits index.register < 8 = omega arith in
    let h : packed (scale_number index.scale) (low_bits index.register) low / 64 ≡ scale_number index.scale =
    high_digit (scale_number index.scale) (low_bits index.register) low k l in
    let m : (packed (scale_number index.scale) (low_bits index.register) low / 8) % 8 ≡ low_bits index.register =
    middle_digit (scale_number index.scale) (low_bits index.register) low k l in
    rw (h, m, e, index_stands index.register is, extended_again index.register, scale_again index.scale) refl

sib_low : (index : Option Index) (low : ℕ) → low < 8 → sib_of index low % 8 ≡ low
sib_low None low l = low_digit 0 4 low (omega arith) l
sib_low (Some index) low l = low_digit (scale_number index.scale) (low_bits index.register) low (omega arith) l

absolute_selects : (p : Prefixes) (modrm sib field : ℕ) (t : Bool) (index : Option Index) (d : ℕ) → modrm / 64 ≡ 0
    → (modrm / 8) % 8 ≡ field → modrm % 8 ≡ 4
    → sib % 8 ≡ 5 → index_of sib (bits_of p).index ≡ index → p.thread_pointer ≡ t → IsSignedLong d
    → Selects p (record { modrm = modrm; sib = Some sib }) field
    (operand.InMemory (record { from_thread_pointer = t; base = base.Absolute; index = index })) d
unfolding displacement_size memory_in
absolute_selects p modrm sib field t index d high middle low sib-is index-is fs long = record {
  operand-is = rw (high, sib-is, index-is, fs) refl;
  digit-is = middle;
  sib-is = rw (high, low) refl;
  number-is = rw (high, sib-is) (long_again d long);
  mode-is = rw (high) refl;
  index-read = λ h. rw (high, low) refl;
  base-read = λ h more. absurd cc;
}

sib_selects : (p : Prefixes) (modrm sib field mode : ℕ) (t : Bool) (r : Register) (index : Option Index) (d : ℕ)
    (size : Size)
    → HasMode mode (low_bits r) d size → modrm / 64 ≡ mode → (modrm / 8) % 8 ≡ field → modrm % 8 ≡ 4
    → sib % 8 ≡ low_bits r → index_of sib (bits_of p).index ≡ index → p.thread_pointer ≡ t
    → (bits_of p).base ≡ is_high r
    → Selects p (record { modrm = modrm; sib = Some sib }) field
    (operand.InMemory (record { from_thread_pointer = t; base = base.Register r; index = index })) d
unfolding memory_in
sib_selects p modrm sib field mode t r index d size has high middle low sib-is index-is fs base =
    let n3 = no_register mode has.few in
    let s = has.is_size modrm (Some sib) high sib-is in record {
      operand-is = rw (high, n3, sib-is, has.no_rip, base, fs, index-is, extended_again r) refl;
      digit-is = middle;
      sib-is = rw (high, n3, low) refl;
      number-is = rw (s) has.number-is;
      mode-is = rw (high, n3) refl;
      index-read = λ h. rw (high, n3, low) refl;
      base-read = λ h more. rw (high, n3, low, sib-is, has.no_rip) refl;
    }

-- ---- any operand

memory_selects : (p : Prefixes) (field : ℕ) (t : Bool) (b : Base) (index : Option Index) (d : ℕ) → field < 8
    → IsAddress b index → IsSignedLong d
    → p.thread_pointer ≡ t → (bits_of p).base ≡ base_is_high b → (bits_of p).index ≡ index_is_high index
    → Selects p (address_of field b index d) field
    (operand.InMemory (record { from_thread_pointer = t; base = b; index = index })) d
memory_selects p field t base.NextInstruction index d f is long fs eb ex =
    rw (is) (rip_selects p (packed 0 field 5) field t d (high_digit 0 field 5 f (omega arith))
    (middle_digit 0 field 5 f (omega arith)) (low_digit 0 field 5 f (omega arith)) fs long)
memory_selects p field t base.Absolute index d f is long fs eb ex =
    absolute_selects p (packed 0 field 4) (sib_of index 5) field t index d (high_digit 0 field 4 f (omega arith))
    (middle_digit 0 field 4 f (omega arith))
    (low_digit 0 field 4 f (omega arith)) (sib_low index 5 (omega arith))
    (index_again _ index 5 (omega arith) is ex) fs long
memory_selects p field t (base.Register r) index d f is long fs eb ex =
    let has = has_mode d (low_bits r) long in
    let l : low_bits r < 8 = omega arith in
    plain_or_sib index is ex (eqb (low_bits r) 4) refl has.0 has.1 l
  where
    with_sib : (index : Option Index) → IfSome index IsIndex → (bits_of p).index ≡ index_is_high index → (size : Size)
        → HasMode (mode_of d (low_bits r)) (low_bits r) d size → low_bits r < 8
        → Selects p (record {
          modrm = packed (mode_of d (low_bits r)) field 4;
          sib = Some (sib_of index (low_bits r));
        }) field
        (operand.InMemory (record { from_thread_pointer = t; base = base.Register r; index = index })) d
    with_sib index is ex size has l =
        sib_selects p (packed (mode_of d (low_bits r)) field 4) (sib_of index (low_bits r)) field
        (mode_of d (low_bits r)) t r index d size has
        (high_digit (mode_of d (low_bits r)) field 4 f (omega arith))
        (middle_digit (mode_of d (low_bits r)) field 4 f (omega arith))
        (low_digit (mode_of d (low_bits r)) field 4 f (omega arith))
        (sib_low index (low_bits r) l) (index_again _ index (low_bits r) l is ex) fs eb

    plain_or_sib : (index : Option Index) → IfSome index IsIndex → (bits_of p).index ≡ index_is_high index
        → (four : Bool) → eqb (low_bits r) 4 ≡ four
        → (size : Size) → HasMode (mode_of d (low_bits r)) (low_bits r) d size → low_bits r < 8
        → Selects p (address_of field (base.Register r) index d) field
        (operand.InMemory (record { from_thread_pointer = t; base = base.Register r; index = index })) d
    plain_or_sib (Some index) is ex four e size has l = with_sib (Some index) is ex size has l
    plain_or_sib None is ex true e size has l = rw (e) (with_sib None is ex size has l)
    plain_or_sib None is ex false e size has l =
        rw (e) (base_selects p (packed (mode_of d (low_bits r)) field (low_bits r)) field
        (mode_of d (low_bits r)) t r d size has
        (high_digit (mode_of d (low_bits r)) field (low_bits r) f l)
        (middle_digit (mode_of d (low_bits r)) field (low_bits r) f l)
        (low_digit (mode_of d (low_bits r)) field (low_bits r) f l) e fs eb)

pub selects : (p : Prefixes) (field : ℕ) (o : Operand) (d : ℕ) → field < 8 → IsOperand o d
    → p.thread_pointer ≡ has_segment o → (bits_of p).base ≡ high_base o → (bits_of p).index ≡ high_index o
    → Selects p (selectors_of field o d) field o d
unfolding selectors_of
selects p field (operand.Register r) d f is fs eb ex =
    register_selects p (packed 3 field (low_bits r)) field r d (high_digit 3 field (low_bits r) f (omega arith))
    (middle_digit 3 field (low_bits r) f (omega arith)) (low_digit 3 field (low_bits r) f (omega arith)) eb is
selects p field (operand.InMemory m) d f is fs eb ex =
    memory_selects p field m.from_thread_pointer m.base m.index d f is.0 is.1 fs eb ex
