use Rattle.std.proofs.Common.{◌≡◌, ◌<◌, length, arith, rules}
use Rattle.elf_object.specs.Lent.{relocations}
use Rattle.elf_object.specs.Object.{section_count}
use Rattle.elf_object.specs.Counts.{own_count}
use Rattle.elf_object.specs.Laws.{relocations_few}
use Rattle.elf_object.proofs.Sums.{sum_kept}
use Rattle.elf_object.proofs.count.own_count.Goals as goal

pub overflow_add-count : goal.overflow_add-count
overflow_add-count c =
    let b = c.args.tables.now.bytes.now in
    let section = c.loop-section.section in
    let count : c.len-count.result ≡ length (relocations b section) = search rules in
    omega (arith, c.loop-section.invariant.1, count, relocations_few b c.requires.object section, c.args.tables.now.few)

pub loop-section-preserved : goal.loop-section-preserved
loop-section-preserved c =
    let b = c.args.tables.now.bytes.now in
    let section = c.loop-section.section in
    let kept = c.loop-section.invariant in
    let more : section < section_count b = omega (arith, c.loop-section-test.true, c.args.tables.now.count_is) in
    let count : c.len-count.result ≡ length (relocations b section) = search rules in (
      sum_kept (λ t. length (relocations b t)) section (section_count b) c.loop-section.count c.len-count.result
          (own_count b) more count kept.0,
      omega (arith, kept.1, count, relocations_few b c.requires.object section),
    )
