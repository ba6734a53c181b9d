use Rattle.std.proofs.Common.{◌∙◌, ap, refl}
use Rattle.file_bytes.specs.Pieces.{PiecesView}
use Rattle.link_core.proofs.PartPieces.{as_many}
use Rattle.link_core.proofs.image_pieces.ImagePiecesPieces.count.Goals as goal

pub returns : goal.returns
returns g c =
    let parts = c.self.inside.parts in
    c.len.ensures
    ∙ parts.ok.0
    ∙ as_many c.self.inside.plan.now parts.items parts.items c.args.self.now.pieces refl
    (ap (λ (v : PiecesView). v.pieces) c.self.view_is)
