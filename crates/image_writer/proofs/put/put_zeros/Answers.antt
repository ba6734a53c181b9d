use Rattle.std.proofs.Common.{replicate, ap, ◌∙◌}
use Rattle.std.proofs.lemmas.List.{length-replicate}
use Rattle.image_writer.proofs.Puts.{put_mid-part, length-part}
use Rattle.image_writer.proofs.put.put_zeros.Goals as goal

pub returns : goal.returns
returns c =
    let at = c.args.at in
    let n = c.args.count in
    put_mid-part at n (replicate n 0) c.args.out.now c.fill.new.self (length-replicate n 0)
    (c.fill.ensures.after (λ y e. e) ∙ ap (λ k. replicate k 0) (length-part at n c.args.out.now c.requires))
