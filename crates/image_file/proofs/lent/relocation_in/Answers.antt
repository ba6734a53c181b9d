use Rattle.std.proofs.Common.{◌∙◌, ℕ, Some, sym, ap, arith}
use Rattle.image_faults.specs.Array.{relocation_count}
use Rattle.image_faults.specs.Relocations.{rela}
use Rattle.image_file.specs.Spelled.{relocation_of}
use Rattle.image_file.specs.Tabled.{tabled_at, tabled_past}
use Rattle.image_file.proofs.lent.relocation_in.Goals as goal

pub returns-then-tables-number : goal.returns-then-tables-number
returns-then-tables-number c =
    let b = c.args.tables.now.bytes.now in
    sym (tabled_past (λ (k : ℕ). relocation_of (rela b k)) (relocation_count b) c.args.number
    (omega (arith, c.args.tables.now.are.relocation_count_is)))

pub returns : goal.returns
returns c =
    let b = c.args.tables.now.bytes.now in
    ap Some (c.relocation_of.ensures ∙ ap relocation_of c.relocation.ensures)
    ∙ sym (tabled_at (λ (k : ℕ). relocation_of (rela b k)) (relocation_count b) c.args.number
    (omega (arith, c.args.tables.now.are.relocation_count_is)))
