use Rattle.std.proofs.Common.{◌≡◌, ◌∙◌, sym, ap, arith}
use Rattle.object_faults.specs.Parts.{header, relocates, relocation_table}
use Rattle.object_faults.specs.Firsts.{first_below}
use Rattle.object_faults.proofs.Order.{at_target}
use Rattle.object_faults.specs.Searches.{target_none}
use Rattle.object_faults.proofs.targets.first_mistargeted.Goals as goal

pub loop-section-init : goal.loop-section-init
loop-section-init c = record {
  found = λ t h. c.requires.empty t ∙ sym (target_none c.args.tables.now.bytes.now t);
  none = λ s h w. let within = at_target c.args.tables.now.bytes.now s 0 w in omega (arith, within.1.0);
}

pub returns-clause-first : goal.returns-clause-first
returns-clause-first c = λ s w.
    let within = at_target c.args.tables.now.bytes.now s 0 w in
    c.loop-section.invariant.none s (omega (arith, within.1.1, c.args.tables.now.count_is)) w

pub returns-clause-found : goal.returns-clause-found
unfolding relocation_table
returns-clause-found c =
    let all : c.loop-section.section ≡ (header c.args.tables.now.bytes.now).e_shnum =
    omega (arith, c.args.tables.now.count_is) in
    λ t h. c.loop-section.invariant.found t h ∙ ap (first_below (relocates c.args.tables.now.bytes.now t)) all
