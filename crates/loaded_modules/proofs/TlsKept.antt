-- What an image keeps of its TLS segment.
use Rattle.std.proofs.Common.{◌≡◌, ◌+◌, ◌^◌, ◌<◌, ◌≤◌, ℕ, Bool, true, false, List, Some, None, sym, subst, inl, inr}
use Rattle.std.proofs.Common.{refl, arith}
use Rattle.std.proofs.Common.{◌==◌, ◌&&◌, nat_lt, if◌then◌else◌}
use Rattle.std.specs.Option.{IfSome, option_map}
use Rattle.std.proofs.lemmas.Bool.{cases_lt}
use Rattle.std.proofs.lemmas.Bool.Decides.{nat_tests}
use Rattle.std.proofs.lemmas.Nat.{pow_pos}
use Rattle.std.proofs.Math.Nat.{pow-le-pow_right}
use Rattle.elf_records.specs.declared.program_header.Segment.{Segment}
use Rattle.elf_records.specs.declared.program_header.TheConstants.{PT_TLS}
use Rattle.image_rules.specs.declared.rule.Rule.TheVariants.{Segment as SegmentRule}
use Rattle.image_faults.specs.Faults.{Breaks, IsImage}
use Rattle.image_faults.specs.Parts.{count, segment, loads, has_tls}
use Rattle.image_faults.specs.Segments.{IsAlignment, IsRightTls}
use Rattle.image_file.specs.Spelled.{Spelled, spelled, tls_part}
use Rattle.loaded_modules.specs.Ends.{IsTls}

aligned : (n : ℕ) → IsAlignment n → (0 < n) × (n ≤ 2 ^ 12)
aligned n is = (
  let some = pow_pos is.0 in omega (arith, is.2),
  let most = pow-le-pow_right {n = 2} (omega arith) is.1 in
      omega (arith, is.2),
)

right : (b : List ℕ) (s : Segment) → IsRightTls b s → IsTls (tls_part s)
right b s is = let a = aligned s.align is.4 in
    record { within = is.1; small = is.3; aligned = a.0; page = omega (arith, a.1) }

-- a test of a place and a type
both_of : (n k t : ℕ) → (nat_lt n k && (t == PT_TLS)) ≡ true → (n < k) × (t ≡ PT_TLS)
both_of n k t h = grind (arith, nat_tests)

-- what is not doubted of two numbers holds
pub at_most : (m n : ℕ) → ((m ≤ n → ⊥) → ⊥) → m ≤ n
at_most m n h = elim (cases_lt n m) [
  | inl more ↦ absurd (h (λ within. omega (arith, more, within)))
  | inr within ↦ within
]

module _ (b : List ℕ) (image : IsImage b) (has : has_tls b ≡ true) where
  abbrev header : Segment
  header = segment b (loads b + 1)

  wrong : (IsTls (tls_part header) → ⊥) → ⊥
  unfolding Breaks
  wrong unsaid =
      let there = both_of (loads b + 1) (count b) header.kind has in
      image SegmentRule (loads b + 1)
      (inr (inr (
        omega arith,
        there.0,
        λ rest. elim rest [
          | inl own ↦ unsaid (right b header own.2)
          | inr relro ↦ absurd (omega (arith, there.1, relro.1))
        ],
      )))

  kept : IsTls (tls_part header)
  kept = record {
    within = at_most header.filesz header.memsz (λ no. wrong (λ is. no is.within));
    small = at_most header.memsz (2 ^ 20) (λ no. wrong (λ is. no is.small));
    aligned = at_most 1 header.align (λ no. wrong (λ is. no is.aligned));
    page = at_most header.align 4096 (λ no. wrong (λ is. no is.page));
  }

of_test : (t : Bool) (s : Segment) → (t ≡ true → IsTls (tls_part s))
    → IfSome (option_map tls_part (if t then Some s else None)) IsTls
of_test true s h = h refl
of_test false s h = tt

-- the law
pub tls_kept : (image : Spelled) → (b : List ℕ) × (IsImage b × (image ≡ spelled b)) → IfSome image.tls IsTls
tls_kept image (b, (is, spells)) =
    subst (λ (i : Spelled). IfSome i.tls IsTls) (sym spells) (of_test (has_tls b) (segment b (loads b + 1)) (kept b is))
