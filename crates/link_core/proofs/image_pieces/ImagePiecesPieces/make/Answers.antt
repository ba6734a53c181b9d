use Rattle.std.proofs.Common.{◌∙◌, ◌≤◌, List, ℕ, ap, length, rules, subst, sym, arith}
use Rattle.file_bytes.specs.Pieces.{PiecesView}
use Rattle.tls_relocs.specs.Laid.{zeros}
use Rattle.link_core.specs.Laying.{Rise, pieces_of}
use Rattle.link_core.proofs.PartPieces.{as_many, run_of}
use Rattle.link_core.proofs.image_pieces.ImagePiecesPieces.make.Goals as goal

pub start_of-start-requires-clause-inside : goal.start_of-start-requires-clause-inside
start_of-start-requires-clause-inside g c =
    let parts = c.as_slice-parts.result.now in
    let count = as_many c.self.inside.plan.now parts c.self.inside.parts.items c.args.self.now.pieces
    c.as_slice-parts.ensures.value (ap (λ (v : PiecesView). v.pieces) c.self.view_is) in
    omega (arith, count, c.requires.order)

pub offset_bounds-parts-from : goal.offset_bounds-parts-from
offset_bounds-parts-from g c =
    let parts = c.as_slice-parts.result.now in
    let count = as_many c.self.inside.plan.now parts c.self.inside.parts.items c.args.self.now.pieces
    c.as_slice-parts.ensures.value (ap (λ (v : PiecesView). v.pieces) c.self.view_is) in
    omega (arith, count, c.requires.order, c.as_slice-parts.type_inv)

pub slice_bounds-fill-end : goal.slice_bounds-fill-end
slice_bounds-fill-end g c =
    let parts = c.as_slice-parts.result.now in
    let count = as_many c.self.inside.plan.now parts c.self.inside.parts.items c.args.self.now.pieces
    c.as_slice-parts.ensures.value (ap (λ (v : PiecesView). v.pieces) c.self.view_is) in
    let order = c.requires.order.0 in
    let inside : c.args.to ≤ length parts = omega (arith, count, c.requires.order) in
    search (rules, inside, order)

pub fill-requires-clause-rise : goal.fill-requires-clause-rise
fill-requires-clause-rise g c =
    let parts = c.as_slice-parts.result.now in
    let l = c.self.inside.plan.now in
    let rise = subst (Rise l 4096) (sym c.as_slice-parts.ensures.value) c.self.invariant.0.rise in
    (run_of l c.start_of-start.result c.args.from c.args.to parts c.args.self.now.pieces rise c.start_of-start.ensures.start
    (ap (pieces_of l 4096) c.as_slice-parts.ensures.value ∙ ap (λ (v : PiecesView). v.pieces) c.self.view_is)).rise

pub fill-requires-clause-zero : goal.fill-requires-clause-zero
fill-requires-clause-zero g c =
    let parts = c.as_slice-parts.result.now in
    let l = c.self.inside.plan.now in
    let rise = subst (Rise l 4096) (sym c.as_slice-parts.ensures.value) c.self.invariant.0.rise in
    let run = run_of l c.start_of-start.result c.args.from c.args.to parts c.args.self.now.pieces rise
    c.start_of-start.ensures.start
    (ap (pieces_of l 4096) c.as_slice-parts.ensures.value ∙ ap (λ (v : PiecesView). v.pieces) c.self.view_is) in
    c.requires.zero ∙ ap (λ (xs : List ℕ). zeros (length xs)) (sym run.made)

pub returns : goal.returns
returns g c =
    let parts = c.as_slice-parts.result.now in
    let l = c.self.inside.plan.now in
    let rise = subst (Rise l 4096) (sym c.as_slice-parts.ensures.value) c.self.invariant.0.rise in
    let run = run_of l c.start_of-start.result c.args.from c.args.to parts c.args.self.now.pieces rise
    c.start_of-start.ensures.start
    (ap (pieces_of l 4096) c.as_slice-parts.ensures.value ∙ ap (λ (v : PiecesView). v.pieces) c.self.view_is) in
    c.fill.ensures ∙ run.made
