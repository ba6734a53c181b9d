-- The next image stands at the next number.
use Rattle.std.proofs.Common.{◌≡◌, ◌+◌, ◌∙◌, arith}
use Rattle.module_table.proofs.StartLemmas.{first_modules_more}
use Rattle.module_table.proofs.start.first_modules.Goals as goal

pub loop-info-preserved : goal.loop-info-preserved
loop-info-preserved c =
    let number : c.len-image.result ≡ c.loop-info.info-index + 1 = c.len-image.ensures ∙ c.loop-info.invariant.1 in (
      rw (c.in_ok-push.ensures.items, c.at_start.ensures, number)
          (first_modules_more c.args.infos.now c.loop-info.info-index _ c.loop-info.modules.items
          (omega arith) c.loop-info.invariant.0),
      omega (arith, c.in_ok-push.ensures.len),
    )
