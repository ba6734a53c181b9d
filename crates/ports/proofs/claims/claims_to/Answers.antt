use Rattle.std.proofs.Common.{[], rules}
use Rattle.ports.specs.Claims.{IsFor}
use Rattle.ports.proofs.Claimed.{one_more}
use Rattle.ports.proofs.claims.claims_to.Goals as goal

pub loop-name-preserved : goal.loop-name-preserved
loop-name-preserved g c =
    one_more IsFor c.args.names.now c.loop-name.claims.items c.push.new.self.items c.loop-name.name-index
    (record { ref_ptr = (0, 0); now = [] }) c.new.result (search rules) (c.new.ensures.name, c.new.ensures.came)
    c.in_ok-push.ensures.items c.loop-name.invariant
