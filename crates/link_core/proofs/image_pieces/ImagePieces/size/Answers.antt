use Rattle.std.proofs.Common.{◌+◌, ◌∙◌, List, ap, length, take}
use Rattle.placed_sections.specs.declared.part.PlacedPart.{PlacedPart}
use Rattle.file_bytes.specs.Pieces.{PiecesView, whole}
use Rattle.link_core.specs.Laying.{laid_parts}
use Rattle.link_core.proofs.PartPieces.{whole_size}
use Rattle.link_core.proofs.image_pieces.ImagePieces.size.Goals as goal

pub returns : goal.returns
returns g c =
    let image = c.self.inside in
    let l = image.plan.now in
    let start = c.start_of.ensures.start
    ∙ ap (λ (parts : List PlacedPart). 4096 + length (laid_parts l 4096 (take (length parts) parts)))
    c.as_slice-parts.ensures.value in
    ap (λ n. c.start_of.result + n) (c.len.ensures ∙ image.back.ok.0)
    ∙ whole_size l image.parts.items image.front.items image.back.items c.start_of.result c.self.invariant.1 start
    ∙ ap (λ (v : PiecesView). length (whole v)) c.self.view_is
