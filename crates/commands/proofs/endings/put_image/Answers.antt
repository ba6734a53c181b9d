use Rattle.std.proofs.Common.{◌∙◌, ap}
use Rattle.file_bytes.specs.Pieces.{whole}
use Rattle.commands.specs.Links.{linked_text}
use Rattle.commands.proofs.ImageEndings.{is_put}
use Rattle.commands.proofs.endings.put_image.Goals as goal

pub pieces-requires : goal.pieces-requires
pieces-requires g c = c.requires.linked.links

pub returns-clause-says : goal.returns-clause-says
returns-clause-says g c =
    is_put (g.S.Store.files c.args.store.now)
    (g.S.Store.files c.put_pieces.new.self) c.args.put.image.now c.args.put.out.now c.args.link.now
    (whole c.in_ok-pieces.pieces)
    c.in_ok-line.line.items c.in_ok-pieces.ensures.whole c.in_ok-put_pieces.ensures.ok
    (c.in_ok-line.ensures ∙ ap (linked_text c.args.put.image.now) c.size.ensures)
    (c.linked_images_hold_the_table.ensures c.args.link.now c.requires.linked) c.in_ok-pieces.ensures.again.1
