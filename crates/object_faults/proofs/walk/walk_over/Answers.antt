use Rattle.std.proofs.Common.{◌≡◌, ℕ, IsTrue, below_more, arith, rules}
use Rattle.object_faults.specs.Parts.{section, entry_count}
use Rattle.object_faults.specs.Walks.{IsFaulty}
use Rattle.object_faults.proofs.Walks.{none_to_walk, rises_on, end_of_field, all_fine, has_risen, rises_to}
use Rattle.object_faults.proofs.walk.walk_over.Goals as goal

pub returns-in_default : goal.returns-in_default
returns-in_default c = none_to_walk c.args.tables.now.bytes.now c.args.section c.in_default.ensures

pub loop-entry-preserved : goal.loop-entry-preserved
loop-entry-preserved c =
    let b = c.args.tables.now.bytes.now in
    let s = c.args.section in
    let e = c.loop-entry.entry in
    let was = c.loop-entry.invariant in
    let field = c.in-Some-faultless_field.ensures in
    let P : ℕ → Type 0 = λ x. IsFaulty b s x → ⊥ in
    record {
      faultless = below_more P e was.faultless field.2;
      before = end_of_field b s e c.in-Some-faultless_field.field.end field.1;
      rises = rises_on b s e c.loop-entry.end c.loop-entry.rises c.in-Some-faultless_field.field.start field.0 was.before was.rises;
    }

pub returns-then-rises : goal.returns-then-rises
returns-then-rises c =
    let b = c.args.tables.now.bytes.now in
    let s = c.args.section in
    let all : c.loop-entry.entry ≡ entry_count (section b s) =
    omega (arith, c.loop-entry.auto.entry-end, c.loop-entry-test.false, c.in-Some.ensures.count_is) in
    let was = c.loop-entry.invariant in
    let rises : IsTrue c.loop-entry.rises = rw c.if-rises.true (search rules) in
    (all_fine b s c.loop-entry.entry all was.faultless, has_risen b s c.loop-entry.entry all (was.rises.0 rises))

pub returns-else-rises : goal.returns-else-rises
returns-else-rises c =
    let b = c.args.tables.now.bytes.now in
    let s = c.args.section in
    let all : c.loop-entry.entry ≡ entry_count (section b s) =
    omega (arith, c.loop-entry.auto.entry-end, c.loop-entry-test.false, c.in-Some.ensures.count_is) in
    let was = c.loop-entry.invariant in (
      all_fine b s c.loop-entry.entry all was.faultless,
      λ rise. let rises = was.rises.1 (rises_to b s c.loop-entry.entry all c.in-Some.ensures.of_kept rise) in cc,
    )
