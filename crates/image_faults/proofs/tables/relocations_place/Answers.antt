use Rattle.std.proofs.Common.{inl, inr}
use Rattle.image_faults.proofs.TablesInside.{no_relocations, relocations_at}
use Rattle.image_faults.proofs.tables.relocations_place.Goals as goal

pub returns-then-has_relocations : goal.returns-then-has_relocations
returns-then-has_relocations c =
    let segments = c.args.segments.now in
    elim c.requires [
      | inl none ↦ absurd (none (c.has_relocations.ensures.0 c.if-has_relocations.true))
      | inr some ↦
          relocations_at segments.headers.bytes.now segments.last c.entry.result c.place.result segments.last_is segments.last_inside
          c.entry.ensures c.place.ensures some.1
    ]

pub returns-else-has_relocations : goal.returns-else-has_relocations
returns-else-has_relocations c =
    no_relocations c.args.segments.now.headers.bytes.now (λ tag. let wrong = c.has_relocations.ensures.1 tag in cc)
