use Rattle.std.proofs.Common.{ap, sym, ◌∙◌, arith}
use Rattle.std.specs.Option.{option_copied}
use Rattle.image_writer.proofs.Places.{places_end-last}
use Rattle.image_writer.proofs.layout.places_end.Goals as goal

pub overflow_add-result : goal.overflow_add-result
overflow_add-result c =
    let is = sym c.last.ensures.value ∙ ap option_copied c.in-Some.is in
    let end = places_end-last c.args.draft.now.kind c.args.draft.now.parts.now c.in-Some.part.now is in
    omega (arith, end, c.requires)

pub returns-in-Some : goal.returns-in-Some
returns-in-Some c =
    let is = sym c.last.ensures.value ∙ ap option_copied c.in-Some.is in
    sym (places_end-last c.args.draft.now.kind c.args.draft.now.parts.now c.in-Some.part.now is)
