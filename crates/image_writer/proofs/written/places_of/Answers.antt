use Rattle.std.proofs.Common.{sym, ap, ◌∙◌}
use Rattle.std.proofs.lemmas.Option.{slice_get_within}
use Rattle.image_file.specs.Spelled.{lent_part, part_seen}
use Rattle.image_writer.proofs.Laying.{placed}
use Rattle.image_writer.proofs.written.places_of.Goals as goal

pub loop-number-preserved : goal.loop-number-preserved
loop-number-preserved c =
    let parts = c.args.image.now.parts in
    let i = c.loop-number.number in
    let p = lent_part c.in-Some.part in
    let is = sym c.part.ensures ∙ ap part_seen c.in-Some.is in
    placed parts i p c.loop-number.places.items c.push.new.self.items c.place_of.result is
    (slice_get_within parts i p is)
    c.loop-number.invariant c.place_of.ensures (c.in_ok-push-in-Some.ensures {u = tt}).items
