use Rattle.image_writer.proofs.Filing.{length-written, loadable_of, again_of}
use Rattle.image_writer.proofs.written.written_again.Goals as goal

pub returns-clause-loadable : goal.returns-clause-loadable
returns-clause-loadable c =
    let found = c.image_is_spelled.ensures in
    loadable_of c.args.image.now found.0 found.1.0 found.1.1

pub returns-clause-size : goal.returns-clause-size
returns-clause-size c =
    let found = c.image_is_spelled.ensures in
    length-written c.args.image.now (loadable_of c.args.image.now found.0 found.1.0 found.1.1)

pub returns-clause-again : goal.returns-clause-again
returns-clause-again c =
    let found = c.image_is_spelled.ensures in
    again_of c.args.image.now found.0 found.1.0 found.1.1 c.requires
