-- What is left of the table's relocations, entry by entry.
use Rattle.std.proofs.Common.{◌∙◌, ◌+◌, ◌≤◌, ◌^◌, ◌++◌, ℕ, sym, ap, subst, arith, append_assoc}
use Rattle.got_pairs.specs.Needs.{total_size}
use Rattle.link_tables.specs.Dynamic.{got_relocations}
use Rattle.link_needs.specs.Needs.{entries, got_size, got_start}
use Rattle.link_tables.proofs.RelocationListLemmas.{left, steps, there_is, Steps}
use Rattle.link_tables.proofs.relocation_list.push_got.Goals as goal

pub loop-number-init : goal.loop-number-init
unfolding got_relocations
loop-number-init c =
    let l = c.args.tables.now in
    let start = c.table_start-place.ensures.start ∙ ap got_start c.tables.view_is in (
      ap (λ (place : ℕ). c.args.all.now.items ++ left l place 0) start,
      ap (λ (place : ℕ). place + total_size (entries l)) start,
    )

pub returns-in_default : goal.returns-in_default
returns-in_default c =
    let past = there_is c.tables.inside.plan c.loop-number.number (sym c.in_default.ensures) in
    absurd (omega (arith, past, c.loop-number-test.true))

pub push_entry-requires : goal.push_entry-requires
push_entry-requires c =
    let low = subst (λ l. got_start l + got_size l ≤ 2 ^ 26) c.tables.view_is c.table_start-place.ensures.low in
    omega (arith, low, c.loop-number.invariant.1)

pub overflow_add-place : goal.overflow_add-place
overflow_add-place c =
    let at = c.loop-number in
    let step = subst (λ l. Steps l at.place at.number c.in-Some.entry) c.tables.view_is
    (steps c.tables.inside.plan at.place at.number c.in-Some.entry (sym c.in-Some.ensures)) in
    let low = subst (λ l. got_start l + got_size l ≤ 2 ^ 26) c.tables.view_is c.table_start-place.ensures.low in
    omega (arith, low, step.size, c.loop-number.invariant.1)

pub loop-number-preserved : goal.loop-number-preserved
loop-number-preserved c =
    let at = c.loop-number in
    let step = subst (λ l. Steps l at.place at.number c.in-Some.entry) c.tables.view_is
    (steps c.tables.inside.plan at.place at.number c.in-Some.entry (sym c.in-Some.ensures)) in (
      rw (c.size_of-place.ensures, c.in_ok-push_entry.ensures, append_assoc, ← step.relocations) at.invariant.0,
      omega (arith, c.size_of-place.ensures, step.size, at.invariant.1),
    )
