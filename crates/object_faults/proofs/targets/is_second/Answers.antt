use Rattle.std.proofs.Common.{slice_index}
use Rattle.object_faults.specs.Parts.{section}
use Rattle.object_faults.specs.Faults.{IsSecond}
use Rattle.object_faults.specs.Searches.{second_found, second_is, test_nonzero}
use Rattle.object_faults.proofs.targets.is_second.Goals as goal

pub returns : goal.returns
returns c =
    let b = c.args.tables.now.bytes.now in
    let s = c.args.section in
    let x = slice_index c.args.found.now (section b s).info in
    let same = c.requires.found (section b s).info c.requires.target.1 in
    rw c.section.ensures
    (test_nonzero x (IsSecond b s) (λ some. second_found b s x same some c.requires.section.1)
    (λ second. second_is b s x same second))
