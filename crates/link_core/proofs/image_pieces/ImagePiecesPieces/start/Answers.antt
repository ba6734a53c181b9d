use Rattle.std.proofs.Common.{List, ap, length, take, arith}
use Rattle.placed_sections.specs.declared.part.PlacedPart.{PlacedPart}
use Rattle.file_bytes.specs.Pieces.{PiecesView, joined}
use Rattle.link_core.specs.Laying.{laid_parts}
use Rattle.link_core.proofs.PartPieces.{as_many, front_size}
use Rattle.link_core.proofs.image_pieces.ImagePiecesPieces.start.Goals as goal

pub start_of-requires-clause-inside : goal.start_of-requires-clause-inside
start_of-requires-clause-inside g c =
    let count = as_many c.self.inside.plan.now c.as_slice.result.now c.self.inside.parts.items c.args.self.now.pieces
    c.as_slice.ensures.value (ap (λ (v : PiecesView). v.pieces) c.self.view_is) in
    omega (arith, count, c.requires)

pub returns : goal.returns
returns g c =
    let image = c.self.inside in
    let l = image.plan.now in
    let start = c.start_of.ensures.start in
    let same = ap (λ (parts : List PlacedPart). length
    (laid_parts l 4096 (take c.args.number parts))) c.as_slice.ensures.value in
    let viewed = ap (λ (v : PiecesView). length (joined (take c.args.number v.pieces))) c.self.view_is in
    omega (arith, start, same, viewed, front_size l c.args.number image.parts.items)
