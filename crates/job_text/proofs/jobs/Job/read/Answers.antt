use Rattle.std.proofs.Common.{◌==◌, ℕ, Result, length, rules, arith, ap, ◌∙◌, subst}
use Rattle.std.proofs.lemmas.Iterator.Consumers.{YieldsList-from_enumerate, YieldsList-turn, YieldsList-end}
use Rattle.std.proofs.lemmas.Iterator.Splits.{YieldsList-from_slice_split}
use Rattle.std.proofs.lemmas.List.{length_push}
use Rattle.std.proofs.lemmas.List.FromFn.{length-enumerate_from}
use borrow.Author.Tests.{tests}
use Rattle.job_text.specs.LineEffects.{with_text}
use Rattle.job_text.specs.Jobs.{JobParts, job_from, job_of}
use Rattle.job_text.specs.JobLaws.{IsAnswer}
use Rattle.job_text.specs.declared.fault.JobFault.{JobFault}
use Rattle.job_text.specs.Words.{lines_of}
use Rattle.job_text.proofs.JobLemmas.{turn_line, job_more, job_refused, job_end}
use Rattle.job_text.proofs.jobs.Job.read.Goals as goal

pub loop-index-init : goal.loop-index-init
unfolding job_of
loop-index-init c = ap (λ d. job_from d 1 (lines_of c.args.bytes.now)) c.in_ok-draft.ensures

pub returns-in-Err : goal.returns-in-Err
returns-in-Err c =
    let turn = YieldsList-turn
    (YieldsList-from_enumerate
    (YieldsList-from_slice_split _ (λ (b : ℕ). b == 10) c.args.bytes.now (cc) (cc) (cc)
    (λ x b q k. search (rules, tests))) (cc))
    c.loop-index.yielded _ c.loop-index.yielded_by _ _ _ c.in-Some.is c.next.ensures.steps in
    let line = turn_line (lines_of c.args.bytes.now)
    (length c.loop-index.yielded) c.in-Some.index c.in-Some.line.now turn in
    rw c.at.ensures
    (job_refused c.loop-index.draft (with_text c.in-Some.line.now c.loop-index.draft) c.read_line.new.draft
    (length c.loop-index.yielded) c.in-Some.index (lines_of c.args.bytes.now)
    c.in-Some.line.now c.in-Err.flaw (job_of c.args.bytes.now) line c.loop-index.invariant c.in-Err.ensures)

pub loop-index-preserved : goal.loop-index-preserved
loop-index-preserved c =
    let turn = YieldsList-turn
    (YieldsList-from_enumerate
    (YieldsList-from_slice_split _ (λ (b : ℕ). b == 10) c.args.bytes.now (cc) (cc) (cc)
    (λ x b q k. search (rules, tests))) (cc))
    c.loop-index.yielded _ c.loop-index.yielded_by _ _ _ c.in-Some.is c.next.ensures.steps in
    let line = turn_line (lines_of c.args.bytes.now)
    (length c.loop-index.yielded) c.in-Some.index c.in-Some.line.now turn in
    let taken = c.in_default.ensures in
    rw (length_push c.loop-index.yielded (c.in-Some.index, c.in-Some.line))
    (job_more c.loop-index.draft c.read_line.new.draft (length c.loop-index.yielded) c.in-Some.index
    (lines_of c.args.bytes.now) c.in-Some.line.now (job_of c.args.bytes.now) line
    c.loop-index.invariant taken.0 taken.1)

pub returns : goal.returns
returns c =
    let ends = YieldsList-end
    (YieldsList-from_enumerate
    (YieldsList-from_slice_split _ (λ (b : ℕ). b == 10) c.args.bytes.now (cc) (cc) (cc)
    (λ x b q k. search (rules, tests))) (cc))
    c.loop-index.yielded _ c.loop-index.yielded_by _ _ c.in-None.is c.next.ensures.steps in
    let past = ends.1 ∙ length-enumerate_from 0 (lines_of c.args.bytes.now) in
    subst (λ (right : Result JobParts JobFault). IsAnswer right c.finish.result)
    (job_end c.loop-index.draft _ (length c.loop-index.yielded) (lines_of c.args.bytes.now) (job_of c.args.bytes.now)
    (omega (arith, past)) c.loop-index.invariant)
    c.finish.ensures
