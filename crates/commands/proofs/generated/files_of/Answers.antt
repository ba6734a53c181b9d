use Rattle.std.proofs.Common.{arith}
use Rattle.commands.proofs.MadeFiles.{all_alike, next_alike}
use Rattle.commands.proofs.generated.files_of.Goals as goal

pub loop-object-preserved : goal.loop-object-preserved
loop-object-preserved c =
    next_alike c.loop-object.files c.add.new.self c.args.objects.now c.loop-object.object-index c.object-item.result
    c.name.result.now c.bytes.result.now c.loop-object.invariant c.in_ok-add.ensures.added c.name.ensures c.bytes.ensures
    (omega arith) c.object-item.is

pub returns : goal.returns
returns c = all_alike c.loop-object.files c.args.objects.now c.loop-object.object-index c.loop-object.invariant
    (omega arith)
