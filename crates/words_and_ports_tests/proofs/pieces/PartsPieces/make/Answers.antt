use Rattle.std.proofs.Common.{◌∙◌, ap, arith, length, sym}
use Rattle.std.proofs.lemmas.List.{length-replicate}
use Rattle.words_and_ports_tests.proofs.Singles.{run_of_singles}
use Rattle.words_and_ports_tests.proofs.pieces.PartsPieces.make.Goals as goal

pub copy_from_slice-requires : goal.copy_from_slice-requires
copy_from_slice-requires c =
    let run = run_of_singles c.args.from c.args.to c.args.self.now.bytes.now in
    omega (arith, ap length c.requires.zero ∙ length-replicate _ 0 ∙ ap length run)

pub returns : goal.returns
returns c = c.copy_from_slice.ensures.after ∙ sym (run_of_singles c.args.from c.args.to c.args.self.now.bytes.now)
