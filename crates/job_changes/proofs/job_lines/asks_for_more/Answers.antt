-- A word that is called more is beyond, and one that is not is within.
use Rattle.std.proofs.Common.{◌≡◌, Some, rules}
use Rattle.job_changes.specs.Fuel.{fuel_in, words_of}
use Rattle.job_changes.proofs.Limits.{more_is_beyond, within_or_more}
use Rattle.job_changes.proofs.job_lines.asks_for_more.Goals as goal

pub returns-in-Some-clause-within : goal.returns-in-Some-clause-within
returns-in-Some-clause-within c =
    let e : fuel_in (words_of c.args.line.now) ≡ Some c.in-Some.word.now = search rules in
    within_or_more c.is_more.result c.args.most c.args.line.now c.in-Some.word.now e c.is_more.ensures.within

pub returns-in-Some-clause-beyond : goal.returns-in-Some-clause-beyond
returns-in-Some-clause-beyond c =
    let e : fuel_in (words_of c.args.line.now) ≡ Some c.in-Some.word.now = search rules in
    more_is_beyond c.is_more.result c.args.most c.args.line.now c.in-Some.word.now e c.is_more.ensures.beyond
