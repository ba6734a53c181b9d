use Rattle.std.proofs.Common.{◌≡◌, true, ap, inl, inr, arith}
use Rattle.image_faults.proofs.File.{first_extent, kept_extent}
use Rattle.image_faults.proofs.headers.headers_of.Goals as goal

pub fault_at-requires-clause-first : goal.fault_at-requires-clause-first
fault_at-requires-clause-first c =
    first_extent c.args.bytes.now c.in_ok-header.ensures.answers (c.passes_end.ensures.wrong c.if-passes_end.true)

pub returns-clause-answers : goal.returns-clause-answers
returns-clause-answers c =
    let not : c.passes_end.result ≡ true → ⊥ = λ t. cc in
    let inside = c.passes_end.ensures.inside not in
    kept_extent c.args.bytes.now c.in_ok-header.ensures.answers
    (λ past. elim past [
      | inl table ↦ omega (arith, table, inside, ap (λ h. h.e_phnum) c.in_ok-header.ensures.header)
      | inr part ↦ c.passes_end.ensures.segments not part.0 part.1
    ])
