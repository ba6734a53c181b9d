use Rattle.std.proofs.Common.{◌≡◌, ◌∙◌, ◌-◌, ap, arith, length, map, Some}
use Rattle.std.specs.List.{slice_get}
use Rattle.std.proofs.lemmas.List.{length-map}
use Rattle.image_file.specs.Spelled.{Spelled}
use Rattle.loaded_modules.specs.Holding.{images_of}
use Rattle.loaded_modules.specs.Loader.{export_of, name_of}
use Rattle.loaded_modules.proofs.Kept.{at_is, row_is, row_within, symbol_is}
use Rattle.loaded_modules.proofs.modules.Modules.import.Goals as goal

pub index_of-requires : goal.index_of-requires
index_of-requires c = (at_is c.args.self.now c.args.number c.args.image.now c.requires.there).0

pub index-requires : goal.index-requires
index-requires c =
    let m = images_of c.self.inside in
    let there = (at_is c.args.self.now c.args.number c.args.image.now c.requires.there).1 in
    let here : slice_get m.images (c.args.number - 1) ≡ Some c.args.image.now =
    ap (λ m. slice_get m.images (c.args.number - 1)) c.self.view_is ∙ there in
    let within = row_within (λ row. row.items)
    (λ (image : Spelled). map
    (λ name. export_of m name) image.names) c.self.inside.imports.items m.images c.self.invariant.imported
    (c.args.number - 1) c.args.image.now here in
    omega (arith, c.index_of.ensures, within)

pub bounds-row-symbol : goal.bounds-row-symbol
bounds-row-symbol c =
    let m = images_of c.self.inside in
    let there = (at_is c.args.self.now c.args.number c.args.image.now c.requires.there).1 in
    let here : slice_get m.images (c.args.number - 1) ≡ Some c.args.image.now =
    ap (λ m. slice_get m.images (c.args.number - 1)) c.self.view_is ∙ there in
    let row = row_is (λ row. row.items)
    (λ (image : Spelled). map
    (λ name. export_of m name) image.names) c.self.inside.imports.items m.images c.self.invariant.imported
    (c.args.number - 1) c.args.image.now here c.index.result.now
    (rw c.index_of.ensures at c.index.ensures) in
    let long = length-map c.args.image.now.names (λ name. export_of m name) in
    let same : length c.as_slice-row.result.now ≡ length (map (λ name. export_of m name) c.args.image.now.names) =
    ap length (c.as_slice-row.ensures.value ∙ row) in
    omega (arith, long, same, c.requires.symbol)

pub returns : goal.returns
returns c =
    let m = images_of c.self.inside in
    let there = (at_is c.args.self.now c.args.number c.args.image.now c.requires.there).1 in
    let here : slice_get m.images (c.args.number - 1) ≡ Some c.args.image.now =
    ap (λ m. slice_get m.images (c.args.number - 1)) c.self.view_is ∙ there in
    let row = row_is (λ row. row.items)
    (λ (image : Spelled). map
    (λ name. export_of m name) image.names) c.self.inside.imports.items m.images c.self.invariant.imported
    (c.args.number - 1) c.args.image.now here c.index.result.now
    (rw c.index_of.ensures at c.index.ensures) in
    symbol_is m c.args.image.now c.as_slice-row.result.now c.args.symbol
    (c.as_slice-row.ensures.value ∙ row) c.requires.symbol
    ∙ ap (λ m. export_of m (name_of c.args.image.now c.args.symbol)) c.self.view_is
