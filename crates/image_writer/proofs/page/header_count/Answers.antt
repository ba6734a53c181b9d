use Rattle.std.proofs.Common.{arith}
use Rattle.image_writer.specs.Outlined.{outlined}
use Rattle.image_writer.proofs.Headings.{one_if-is, program_headers-count}
use Rattle.image_writer.proofs.page.header_count.Goals as goal

pub returns-clause-count : goal.returns-clause-count
returns-clause-count c =
    let o = c.args.outline.now in
    let tls = one_if-is o.tls c.is_some.result c.from.result c.is_some.ensures c.from.ensures in
    let got = one_if-is o.got c.is_some-2.result c.from-2.result c.is_some-2.ensures c.from-2.ensures in
    let all = program_headers-count (outlined o) in
    omega (arith, tls, got, all)
