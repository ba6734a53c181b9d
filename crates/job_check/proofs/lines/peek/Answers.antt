use Rattle.std.proofs.Common.{◌∙◌, sym, ap, subst}
use Rattle.module_table.specs.Past.{module_of}
use Rattle.thread_blocks.specs.Held.{block_bytes}
use Rattle.thread_blocks.specs.Instances.{block_start, loaded_instance}
use Rattle.thread_blocks.specs.Lines.{Line}
use Rattle.whole_meaning.specs.Loads.{loads_of}
use Rattle.thread_turns.specs.declared.parts.Started.TheVariants.{Says}
use Rattle.job_check.specs.Histories.{infos_of}
use Rattle.job_check.specs.Lines.{BeginsPeek, step_in}
use Rattle.job_check.proofs.LinesBegun.{keeps, peek_begins, peek_closed, peek_unknown}
use Rattle.job_check.proofs.lines.peek.Goals as goal

pub returns-in_default : goal.returns-in_default
returns-in_default c =
    let image = c.args.line.now.image in
    let p = c.args.table.now in
    peek_closed (record {
      number = c.args.number;
      told = c.args.line.now;
    }) c.args.symbol.now c.args.size p c.args.space.now c.requires
    (ap (λ ls. loaded_instance (infos_of ls) image (module_of p image)) (sym c.images.ensures)
    ∙ sym c.in_default.ensures)

pub returns-in_default-variable : goal.returns-in_default-variable
returns-in_default-variable c =
    let image = c.args.line.now.image in
    let p = c.args.table.now in
    let k = c.args.space.now in
    let x = c.in-Some.instance in
    let line : Line = record { number = c.args.number; told = c.args.line.now } in
    let is = ap (λ ls. loaded_instance (infos_of ls) image (module_of p image)) (sym c.images.ensures)
    ∙ sym c.in-Some.ensures in
    let new = c.reach.new.self in
    let keeps = keeps line c.args.symbol.now c.args.size p k c.requires x is new c.in_ok-reach.ensures.reached in
    peek_unknown line c.args.symbol.now c.args.size p k c.requires x is new c.in_ok-reach.ensures.reached
    (ap (λ ls. (loads_of ls).variable image c.args.symbol.now) (sym (c.images-2.ensures ∙ keeps.images))
    ∙ sym c.in_default-variable.ensures)

pub returns : goal.returns
returns c =
    let image = c.args.line.now.image in
    let p = c.args.table.now in
    let k = c.args.space.now in
    let x = c.in-Some.instance in
    let line : Line = record { number = c.args.number; told = c.args.line.now } in
    let is = ap (λ ls. loaded_instance (infos_of ls) image (module_of p image)) (sym c.images.ensures)
    ∙ sym c.in-Some.ensures in
    let new = c.reach.new.self in
    let keeps = keeps line c.args.symbol.now c.args.size p k c.requires x is new c.in_ok-reach.ensures.reached in
    let offset = c.in-Some-variable.offset in
    let same = c.in_ok-step_in.ensures
    ∙ ap (λ t. step_in t c.args.number (block_start t x) c.args.size offset
    (block_bytes x.number new.own)) keeps.thread in
    subst (λ found. BeginsPeek line c.args.symbol.now c.args.size p k (Says found) p new) (sym same)
    (peek_begins line c.args.symbol.now c.args.size p k c.requires x is new c.in_ok-reach.ensures.reached offset
    (ap (λ ls. (loads_of ls).variable image c.args.symbol.now) (sym (c.images-2.ensures ∙ keeps.images))
    ∙ sym c.in-Some-variable.ensures))
