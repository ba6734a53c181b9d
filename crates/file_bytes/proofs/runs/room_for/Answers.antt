use Rattle.std.proofs.Common.{◌≡◌, ◌∙◌, ap, arith, le_refl, length, take, take_all}
use Rattle.std.proofs.lemmas.Result.{IfOk-weaker}
use Rattle.file_bytes.specs.Pieces.{joined}
use Rattle.file_bytes.proofs.PieceLemmas.{all_fit}
use Rattle.file_bytes.proofs.runs.room_for.Goals as goal

pub returns : goal.returns
returns g c =
    let pieces = (g.P.Pieces.view c.args.pieces.now).pieces in
    let all : c.start-all.result ≡ length (joined pieces) =
    c.start-all.ensures ∙ ap (λ n. length (joined (take n pieces))) c.count.ensures
    ∙ ap (λ ps. length (joined ps)) (take_all (length pieces) pieces (le_refl _)) in
    IfOk-weaker c.vec.result _ _ (λ buffer size k d inside.
    omega (
      arith,
      c.largest.ensures k d inside,
      all_fit pieces k d inside,
      all,
      c.max.ensures,
      c.min.ensures,
      size,
      buffer.ok,
    )) c.vec.ensures.len
